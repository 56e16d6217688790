-- The shapes that were told of names agree with the matrices that they mean, as a name is bound or deleted.
use Rattle.std.proofs.Common.{◌≡◌, ℕ, ◌≤◌, Bool, true, false, not, cond, List, [], ◌∷◌, ◌++◌, Option, None, Some, refl, sym, ap, ap₂, ◌∙◌, subst, subst₂, inl, inr, append-nil, arith}
use Rattle.std.specs.Prelude.{◌||◌, is_none}
use Rattle.std.specs.List.{list_any, list_all}
use Rattle.std.specs.Str.{bytes_eq}
use Rattle.std.proofs.lemmas.Bool.{cases_Bool, false≢true, true≢false}
use Rattle.dense_def.specs.Matrix.{Matrix}
use Rattle.mm_text.specs.declared.market.Form.{Form}
use Rattle.mm_text.specs.declared.market.Market.{Market}
use Rattle.mm_text.specs.Faults.{or_else}
use Rattle.cht_script.specs.declared.checked.Shape.{Shape}
use Rattle.cht_script.specs.declared.script.Names.{Names}
use Rattle.cht_script.specs.declared.script.Statement as statement
use Rattle.cht_script.specs.declared.script.Statement.TheVariants as statements
use Rattle.cht_script.specs.declared.script.Verb.{Verb}
use Rattle.cht_script.specs.declared.script.Verb.TheVariants as verb
use Rattle.cht_script.specs.Newest.{newest}
use Rattle.cht_script.specs.Statements.{Act, names_after, shape_bound}
use Rattle.cht_script.specs.Verdict.{NamedShape, with_shape, has_name, is_known, shape_found, shape_in, is_among}
use Rattle.cht_script.specs.Meaning.{Known, Deed, Acts as Does, is_named, matrix_found, form_found, matrix_named, form_named, named_matrix, matrix_given, form_given, without_name, known_by}
use Rattle.cht_script.specs.Reading.{deed_of, names_of, name_bytes, IsFormed, IsGoodMarket, matrix_of_market}
use Rattle.cht_script.specs.Checking.{said_by, shape_listed, known_behind, deleted_behind, IsSound}
use Rattle.cht_script.proofs.Newest.{any_newest, newest-push}
use Rattle.cht_session.specs.Forms.{shape_of}
use Rattle.cht_session.specs.Running.{shape_named, Agree}
use Rattle.cht_session.proofs.FormVerbs.{given_shape}
use Rattle.cht_session.proofs.Tests.{both}
use Rattle.cht_session.proofs.Bindings.{bytes_same}
use Rattle.cht_session.proofs.Effects.{one_name, two_names, three_names}

-- ---- Tests

pub neither : (a b : Bool) → a || b ≡ false → (a ≡ false) × (b ≡ false)
neither true b e = absurd (true≢false e)
neither false b e = (refl, e)

-- ---- A name that is left out

gone_case : (d f : Bool) (x : Known) (n : Option Known) → d ≡ f → cond d None n ≡ cond d None (or_else n (cond f (Some x) None))
gone_case true f x n e = refl
gone_case false f x None e = rw (← e) refl
gone_case false f x (Some y) e = refl

kept_case : (d f : Bool) (x : Known) (n : Option Known) → (d ≡ true → f ≡ false)
    → or_else (cond d None n) (cond f (Some x) None) ≡ cond d None (or_else n (cond f (Some x) None))
kept_case true f x n h = ap (λ b. cond b (Some x) None) (h refl)
kept_case false f x n h = refl

none_case : (b : Bool) → None ≡ cond b None (let none : Option Known = None in none)
none_case true = refl
none_case false = refl

pub newest_without : (known : List Known) (name other : List ℕ)
    → newest (is_named other) (without_name known name) ≡ cond (bytes_eq name other) None (newest (is_named other) known)
newest_without [] name other = none_case (bytes_eq name other)
newest_without (x ∷ xs) name other =
    let rest = newest_without xs name other in
    let step : Bool → Option Known = λ b. newest (is_named other) (cond (not b) (x ∷ without_name xs name) (without_name xs name)) in
    elim (cases_Bool (bytes_eq x.name name)) [
      | inl gone ↦
          ap step gone ∙ rest
          ∙ gone_case (bytes_eq name other) (bytes_eq x.name other) x (newest (is_named other) xs)
          (ap (λ n. bytes_eq n other) (sym (bytes_same x.name name gone)))
      | inr kept ↦
          ap step kept
          ∙ ap (λ o. or_else o (cond (bytes_eq x.name other) (Some x) None)) rest
          ∙ kept_case (bytes_eq name other) (bytes_eq x.name other) x (newest (is_named other) xs)
          (λ e. ap (bytes_eq x.name) (sym (bytes_same name other e)) ∙ kept)
    ]

-- ---- The shapes that were told

-- the shape and form of what was found
abbrev known_shape : Option Known → Shape
known_shape o = shape_of (form_found o) (matrix_found o)

-- of one more name
pub agree_bound : (known : List Known) (shapes : List NamedShape) (deleted : List (List ℕ)) (c : List ℕ) (form : Form) (m : Matrix) (s : Shape)
    → Agree known shapes deleted → shape_of form m ≡ s
    → Agree (known ++ named_matrix form m c ∷ []) (shapes ++ with_shape s c ∷ []) (deleted ++ [])
agree_bound known shapes deleted c form m s agree has = λ name bound left.
    let one : Known = named_matrix form m c in
    let told : NamedShape = with_shape s c in
    let in_known = newest-push (is_named name) known one in
    let in_shapes = newest-push (has_name name) shapes told in
    elim (cases_Bool (bytes_eq c name)) [
      | inl here ↦
          let k = ap known_shape (in_known ∙ ap (λ b. cond b (Some one) (newest (is_named name) known)) here) in
          let t = ap shape_found (in_shapes ∙ ap (λ b. cond b (Some told) (newest (has_name name) shapes)) here) in
          k ∙ has ∙ sym t
      | inr other ↦
          let from_known = in_known ∙ ap (λ b. cond b (Some one) (newest (is_named name) known)) other in
          let from_shapes = in_shapes ∙ ap (λ b. cond b (Some told) (newest (has_name name) shapes)) other in
          let was : is_known shapes name ≡ true =
          any_newest (has_name name) shapes ∙ ap (λ o. not (is_none o)) (sym from_shapes) ∙ sym (any_newest (has_name name) (shapes ++ told ∷ [])) ∙ bound in
          ap known_shape from_known ∙ agree name was (subst (λ ds. is_among ds name ≡ false) (append-nil deleted) left) ∙ sym (ap shape_found from_shapes)
    ]

-- of the same names
pub agree_same : (known : List Known) (shapes : List NamedShape) (deleted : List (List ℕ)) → Agree known shapes deleted
    → Agree (known ++ []) (shapes ++ []) (deleted ++ [])
agree_same known shapes deleted agree =
    subst (λ ks. Agree ks (shapes ++ []) (deleted ++ [])) (sym (append-nil known))
    (subst₂ (λ ss ds. Agree known ss ds) (sym (append-nil shapes)) (sym (append-nil deleted)) agree)

any_push : {A : Type 0} (f : A → Bool) (xs : List A) (y : A) → list_any f (xs ++ y ∷ []) ≡ false → (list_any f xs ≡ false) × (f y ≡ false)
any_push f [] y e = (refl, (neither (f y) false e).0)
any_push f (x ∷ xs) y e =
    let here = neither (f x) (list_any f (xs ++ y ∷ [])) e in
    let more = any_push f xs y here.1 in
    (ap₂ (λ a b. a || b) here.0 more.0, more.1)

-- of the names but one
pub agree_deleted : (known : List Known) (shapes : List NamedShape) (deleted : List (List ℕ)) (a : List ℕ) → Agree known shapes deleted
    → Agree (without_name known a ++ []) (shapes ++ []) (deleted ++ a ∷ [])
agree_deleted known shapes deleted a agree =
    subst₂ (λ ks ss. Agree ks ss (deleted ++ a ∷ [])) (sym (append-nil (without_name known a))) (sym (append-nil shapes)) (λ name bound left.
    let apart = any_push (λ other. bytes_eq other name) deleted a left in
    let same = newest_without known a name ∙ ap (λ b. cond b None (newest (is_named name) known)) apart.1 in
    ap known_shape same ∙ agree name bound apart.0)

pub agree_nothing : Agree [] [] []
agree_nothing = λ name bound left. absurd (false≢true bound)

-- ---- The inputs of a statement

-- its only one
pub one_input : (known : List Known) (shapes : List NamedShape) (deleted : List (List ℕ)) (a : List ℕ) → Agree known shapes deleted
    → list_all (is_known shapes) (a ∷ []) ≡ true → list_any (is_among deleted) (a ∷ []) ≡ false
    → shape_named known a ≡ shape_in shapes a
one_input known shapes deleted a agree bound left = agree a (both (is_known shapes a) true bound).0 (neither (is_among deleted a) false left).0

-- the first and the second of two
pub two_inputs : (known : List Known) (shapes : List NamedShape) (deleted : List (List ℕ)) (a b : List ℕ) → Agree known shapes deleted
    → list_all (is_known shapes) (a ∷ b ∷ []) ≡ true → list_any (is_among deleted) (a ∷ b ∷ []) ≡ false
    → (shape_named known a ≡ shape_in shapes a) × (shape_named known b ≡ shape_in shapes b)
two_inputs known shapes deleted a b agree bound left =
    let k = both (is_known shapes a) (list_all (is_known shapes) (b ∷ [])) bound in
    let l = neither (is_among deleted a) (list_any (is_among deleted) (b ∷ [])) left in
    (agree a k.0 l.0, one_input known shapes deleted b agree k.1 l.1)

-- ---- The shapes that were told, behind a statement

-- a name with the matrix and the shape that a statement gives it
abbrev AgreeBehind : List Known → List NamedShape → List (List ℕ) → Deed → Type 0
AgreeBehind known shapes deleted deed = Agree (known_by known deed) (known_behind shapes deed) (deleted_behind deleted deed)

module _ (known : List Known) (shapes : List NamedShape) (deleted : List (List ℕ)) (agree : Agree known shapes deleted) (line : ℕ) where
  copy_behind : (c a : List ℕ) → IsSound shapes deleted (Act verb.Copy (c ∷ a ∷ [])) → AgreeBehind known shapes deleted (Does line verb.Copy (c ∷ a ∷ []))
  copy_behind c a sound =
      agree_bound known shapes deleted c (form_named known a) (matrix_named known a) (shape_in shapes a) agree
      (one_input known shapes deleted a agree sound.bound sound.left)

  -- the shape of what a verb gives
  given_by : (verb : Verb) (a b : List ℕ) (s t : Shape) → shape_named known a ≡ s → shape_named known b ≡ t
      → shape_of (form_given verb (form_named known a)) (matrix_given verb (matrix_named known a) (matrix_named known b)) ≡ shape_bound verb s t
  given_by verb a b s t x y =
      given_shape verb (form_named known a) (form_named known b) (matrix_named known a) (matrix_named known b) ∙ ap₂ (shape_bound verb) x y

  -- of two names
  pair_behind : (verb : Verb) (c a b : List ℕ) → list_all (is_known shapes) (a ∷ b ∷ []) ≡ true → list_any (is_among deleted) (a ∷ b ∷ []) ≡ false
      → Agree (known ++ named_matrix (form_given verb (form_named known a)) (matrix_given verb (matrix_named known a) (matrix_named known b)) c ∷ [])
      (shapes ++ with_shape (shape_bound verb (shape_in shapes a) (shape_in shapes b)) c ∷ []) (deleted ++ [])
  pair_behind verb c a b bound left =
      let given = two_inputs known shapes deleted a b agree bound left in
      agree_bound known shapes deleted c (form_given verb (form_named known a)) (matrix_given verb (matrix_named known a) (matrix_named known b))
      (shape_bound verb (shape_in shapes a) (shape_in shapes b)) agree (given_by verb a b (shape_in shapes a) (shape_in shapes b) given.0 given.1)

  -- of one
  single_behind : (verb : Verb) (c a : List ℕ) → list_all (is_known shapes) (a ∷ []) ≡ true → list_any (is_among deleted) (a ∷ []) ≡ false
      → Agree (known ++ named_matrix (form_given verb (form_named known a)) (matrix_given verb (matrix_named known a) (matrix_named known a)) c ∷ [])
      (shapes ++ with_shape (shape_bound verb (shape_in shapes a) (shape_in shapes a)) c ∷ []) (deleted ++ [])
  single_behind verb c a bound left =
      let given = one_input known shapes deleted a agree bound left in
      agree_bound known shapes deleted c (form_given verb (form_named known a)) (matrix_given verb (matrix_named known a) (matrix_named known a))
      (shape_bound verb (shape_in shapes a) (shape_in shapes a)) agree (given_by verb a a (shape_in shapes a) (shape_in shapes a) given given)

  -- a statement with a verb whose names are a list
  abbrev Behind : Verb → List (List ℕ) → Type 0
  Behind verb ns = IsSound shapes deleted (Act verb ns) → AgreeBehind known shapes deleted (Does line verb ns)

  act_behind : (verb : Verb) (names : Names) → names.count ≡ names_after verb → Behind verb (names_of names)
  act_behind verb.Copy names count = subst (Behind verb.Copy) (sym (two_names names count)) (copy_behind (name_bytes names.first) (name_bytes names.second))
  act_behind verb.Add names count =
      subst (Behind verb.Add) (sym (three_names names count))
      (λ sound. pair_behind verb.Add (name_bytes names.first) (name_bytes names.second) (name_bytes names.third) sound.bound sound.left)
  act_behind verb.Mul names count =
      subst (Behind verb.Mul) (sym (three_names names count))
      (λ sound. pair_behind verb.Mul (name_bytes names.first) (name_bytes names.second) (name_bytes names.third) sound.bound sound.left)
  act_behind verb.TMul names count =
      subst (Behind verb.TMul) (sym (three_names names count))
      (λ sound. pair_behind verb.TMul (name_bytes names.first) (name_bytes names.second) (name_bytes names.third) sound.bound sound.left)
  act_behind verb.MulT names count =
      subst (Behind verb.MulT) (sym (three_names names count))
      (λ sound. pair_behind verb.MulT (name_bytes names.first) (name_bytes names.second) (name_bytes names.third) sound.bound sound.left)
  act_behind verb.Square names count =
      subst (Behind verb.Square) (sym (two_names names count))
      (λ sound. single_behind verb.Square (name_bytes names.first) (name_bytes names.second) sound.bound sound.left)
  act_behind verb.Full names count =
      subst (Behind verb.Full) (sym (two_names names count))
      (λ sound. single_behind verb.Full (name_bytes names.first) (name_bytes names.second) sound.bound sound.left)
  act_behind verb.Trace names count = subst (Behind verb.Trace) (sym (one_name names count)) (λ sound. agree_same known shapes deleted agree)
  act_behind verb.Count names count = subst (Behind verb.Count) (sym (one_name names count)) (λ sound. agree_same known shapes deleted agree)
  act_behind verb.Print names count = subst (Behind verb.Print) (sym (one_name names count)) (λ sound. agree_same known shapes deleted agree)
  act_behind verb.Delete names count =
      subst (Behind verb.Delete) (sym (one_name names count)) (λ sound. agree_deleted known shapes deleted (name_bytes names.first) agree)

pub agree_next : (grid : ℕ) (known : List Known) (shapes : List NamedShape) (deleted : List (List ℕ)) (one : statement.Statement)
    → IsFormed grid one → IsSound shapes deleted (said_by (deed_of one)) → Agree known shapes deleted
    → AgreeBehind known shapes deleted (deed_of one)
agree_next grid known shapes deleted (statements.Market line to market) formed sound agree =
    agree_bound known shapes deleted (name_bytes to) market.form (matrix_of_market market) (shape_listed (deed_of (statements.Market line to market))) agree refl
agree_next grid known shapes deleted (statements.Act line verb names) formed sound agree =
    act_behind known shapes deleted agree line verb names formed.0 sound

pub wider_market : (grid side : ℕ) → grid ≤ side → (market : Market) → IsGoodMarket grid market → IsGoodMarket side market
wider_market grid side le market good = record {
  rows = (good.rows.0, omega (arith, good.rows.1, le));
  columns = (good.columns.0, omega (arith, good.columns.1, le));
  square = good.square;
  entries = good.entries;
}
