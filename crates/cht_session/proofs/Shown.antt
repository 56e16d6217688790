-- What is held, against the names that are bound, as one is bound or ended.
use Rattle.std.proofs.Common.{◌≡◌, ℕ, Bool, true, false, cond, List, [], ◌∷◌, ◌++◌, Option, Some, None, refl, sym, ap, ap₂, ◌∙◌, subst, subst₂}
use Rattle.std.specs.Prelude.{IfSome, option_map, slice_get, slice_set}
use Rattle.std.specs.FinMap as map
use Rattle.std.specs.Str.{bytes_eq}
use Rattle.dense_def.specs.Matrix.{Matrix}
use Rattle.cht_ids.specs.declared.refs.Id.{Id}
use Rattle.cht_ids.specs.declared.refs.Ref.{Ref}
use Rattle.cht_ids.specs.declared.refs.Ref.TheVariants.{Null}
use Rattle.cht_engine.specs.Seen.{Seen, MayMention, tree_named}
use Rattle.quad_matrix.specs.declared.chunk.MatChunk.{MatChunk}
use Rattle.quad_matrix.specs.declared.kind.MatKind.{MatKind}
use Rattle.mm_text.specs.declared.market.Form.{Form}
use Rattle.cht_script.specs.declared.checked.Shape.{Shape}
use Rattle.cht_script.specs.Newest.{newest}
use Rattle.cht_script.specs.Meaning.{matrix_named, form_named, matrix_found, form_found, named_matrix}
use Rattle.cht_script.proofs.Newest.{newest-push}
use Rattle.cht_session.specs.declared.held.Binding.{Binding}
use Rattle.cht_session.specs.declared.held.Held.{Held}
use Rattle.cht_session.specs.Bindings.{found_in, shape_found, shape_at, IsSameHeld, Puts, IsAdded}
use Rattle.cht_session.specs.Program.{Bound, known_in, is_bound_as, left_without, references, identifiers, reference_named, reference_found, with_reference}
use Rattle.cht_session.specs.Forms.{tree_in, IsSoundIn, shape_of}
use Rattle.cht_session.specs.Held.{Finds, IsNameOf, without, AreKept, AreAll, IsSoundBound, IsShown, IsLeft}
use Rattle.cht_session.specs.Given.{IsGiven, IsUndone}
use Rattle.cht_session.specs.Running.{shape_named, IsGoing}
use Rattle.cht_session.proofs.Asked.{named_mentioned, named_seen}
use Rattle.cht_session.proofs.Bindings.{known_newest, newest_left, finds_case, finds_none, finds_some, finds_nothing}
use Rattle.cht_session.proofs.Order.{identifiers_append, references_append, strike_ref, ordered_added, ordered_ended}
use Rattle.cht_session.proofs.Kept.{kept_more, kept_found, kept_less, kept_all, struck_env, struck_order}

-- ---- What stays

-- what is held stays the same
pub shown_same : (seen : Seen MatChunk MatKind) (held later : Held) (env : List Bound) → IsShown seen held env → IsSameHeld held later → IsShown seen later env
shown_same seen held later env is same = record {
  leaf_low = rw same.leaf is.leaf_low;
  leaf_high = rw same.leaf is.leaf_high;
  low = rw same.height is.low;
  names = λ name. subst (λ o. Finds o (newest (is_bound_as name) env)) (sym (same.found name)) (is.names name);
  ordered = record {
    stands = λ name one e. ap (λ refs. slice_get refs one.number) same.order ∙ is.ordered.stands name one (sym (same.found name) ∙ e);
    apart = λ a b one other e f. is.ordered.apart a b one other (sym (same.found a) ∙ e) (sym (same.found b) ∙ f);
  };
  order = ap identifiers same.order ∙ is.order;
  sound = λ name. subst₂ (λ l k. IfSome (newest (is_bound_as name) env) (IsSoundBound l k)) (sym same.leaf) (sym same.height) (is.sound name);
  kept = subst₂ (λ l k. AreKept l k seen.names env) (sym same.leaf) (sym same.height) is.kept;
  idle = is.idle;
}

pub shown_left : (seen : Seen MatChunk MatKind) (held : Held) (env : List Bound) → IsShown seen held env → IsLeft seen held
shown_left seen held env is = record {
  all = subst (AreAll seen.names) (sym is.order) (kept_all held.leaf held.height seen.names env is.kept);
  idle = is.idle;
}

-- what is held as before, where the identifiers are so too
pub going_undone : (seen now : Seen MatChunk MatKind) (held later : Held) (env : List Bound) → IsShown seen held env → IsSameHeld held later → IsUndone seen now
    → IsGoing seen held now later
going_undone seen now held later env is same undone = record {
  caller = undone.caller;
  leaf = same.leaf;
  height = same.height;
  left = record {
    all = subst₂ AreAll (sym undone.names) (ap identifiers (sym same.order)) (shown_left seen held env is).all;
    idle = undone.asks;
  };
}

-- the caller's identifiers stay the same
pub shown_seen : (seen now : Seen MatChunk MatKind) (held : Held) (env : List Bound) → IsShown seen held env → now.names ≡ seen.names → now.asks ≡ map.empty
    → IsShown now held env
shown_seen seen now held env is names idle = record {
  leaf_low = is.leaf_low;
  leaf_high = is.leaf_high;
  low = is.low;
  names = is.names;
  ordered = is.ordered;
  order = is.order;
  sound = is.sound;
  kept = subst (λ n. AreKept held.leaf held.height n env) (sym names) is.kept;
  idle = idle;
}

-- ---- What is found

-- what is known of a name that is found
pub record IsFoundIn (seen : Seen MatChunk MatKind) (held : Held) (env : List Bound) (name : List ℕ) (one : Binding) : Type 0 where
  pub bound : Bound
  pub newest_is : newest (is_bound_as name) env ≡ Some bound
  pub at : one.at ≡ bound.at
  pub sound : IsSoundIn (form_named (known_in env) name) held.leaf held.height (matrix_named (known_in env) name)
  pub shape : one.shape ≡ shape_named (known_in env) name
  pub reference : reference_named env name ≡ one.at
  pub mentioned : MayMention seen one.at
  pub tree : tree_named seen one.at ≡ tree_in (form_named (known_in env) name) held.leaf held.height (matrix_named (known_in env) name)
  pub shape_seen : shape_at held name ≡ shape_named (known_in env) name

pub is_found : (seen : Seen MatChunk MatKind) (held : Held) (env : List Bound) (name : List ℕ) (one : Binding) → IsShown seen held env → found_in held name ≡ Some one
    → IsFoundIn seen held env name one
is_found seen held env name one is found =
    let some = finds_some (found_in held name) (newest (is_bound_as name) env) one found (is.names name) in
    let bound = some.0 in
    let b = held.leaf in
    let h = held.height in
    let tree = tree_in bound.known.form b h bound.known.matrix in
    let sound = subst (λ o. IfSome o (IsSoundBound b h)) some.1 (is.sound name) in
    let named = subst (λ r. IsNameOf seen.names tree r) (sym some.2.at) (kept_found b h seen.names env name bound is.kept some.1) in
    let known = known_newest name env ∙ ap (option_map (λ (one : Bound). one.known)) some.1 in
    let m : matrix_named (known_in env) name ≡ bound.known.matrix = ap matrix_found known in
    let f : form_named (known_in env) name ≡ bound.known.form = ap form_found known in
    let shape = some.2.shape ∙ ap₂ shape_of (sym f) (sym m) in
    record {
      bound = bound;
      newest_is = some.1;
      at = some.2.at;
      sound = subst₂ (λ form m. IsSoundIn form b h m) (sym f) (sym m) sound;
      shape = shape;
      reference = ap reference_found some.1 ∙ sym some.2.at;
      mentioned = named_mentioned seen tree one.at named;
      tree = named_seen seen tree one.at named ∙ ap₂ (λ form m. tree_in form b h m) (sym f) (sym m);
      shape_seen = ap shape_found found ∙ shape;
    }

-- ---- One more name

sound_case : (b h : ℕ) (t : Bool) (one : Bound) (o : Option Bound) → IsSoundBound b h one → IfSome o (IsSoundBound b h) → IfSome (cond t (Some one) o) (IsSoundBound b h)
sound_case b h true one o is others = is
sound_case b h false one o is others = others

-- a name that was not bound is bound to a reference that came
pub shown_added : (seen now : Seen MatChunk MatKind) (held later : Held) (env : List Bound) (name : List ℕ) (shape : Shape) (at : Ref) (form : Form) (m : Matrix)
    → IsShown seen held env
    → found_in held name ≡ None
    → IsGiven seen.names (tree_in form held.leaf held.height m) at now.names
    → now.asks ≡ map.empty
    → IsSoundIn form held.leaf held.height m
    → shape ≡ shape_of form m
    → later.leaf ≡ held.leaf
    → later.height ≡ held.height
    → later.order.items ≡ held.order.items ++ at ∷ []
    → IsAdded held name shape at later
    → IsShown now later (env ++ with_reference at (named_matrix form m name) ∷ [])
shown_added seen now held later env name shape at form m is none given idle sound shaped leaf levels order added =
    let b = held.leaf in
    let h = held.height in
    let one : Bound = with_reference at (named_matrix form m name) in
    let fresh = finds_nothing (found_in held name) (newest (is_bound_as name) env) none (is.names name) in
    record {
      leaf_low = rw leaf is.leaf_low;
      leaf_high = rw leaf is.leaf_high;
      low = rw levels is.low;
      names = λ other.
          subst₂ Finds (sym (added other)) (sym (newest-push (is_bound_as other) env one))
          (finds_case (bytes_eq name other) _ one (found_in held other) (newest (is_bound_as other) env) (record { shape = shaped; at = refl }) (is.names other));
      ordered = ordered_added held later name shape at is.ordered added order;
      order =
          ap identifiers order ∙ identifiers_append held.order.items (at ∷ []) ∙ ap (λ (ids : List Id). ids ++ identifiers (at ∷ [])) is.order
          ∙ sym (identifiers_append (references env) (at ∷ [])) ∙ ap identifiers (sym (references_append env (one ∷ [])));
      sound = λ other.
          subst₂ (λ l k. IfSome (newest (is_bound_as other) (env ++ one ∷ [])) (IsSoundBound l k)) (sym leaf) (sym levels)
          (subst (λ o. IfSome o (IsSoundBound b h)) (sym (newest-push (is_bound_as other) env one))
          (sound_case b h (bytes_eq name other) one (newest (is_bound_as other) env) sound (is.sound other)));
      kept = subst₂ (λ l k. AreKept l k now.names (env ++ one ∷ [])) (sym leaf) (sym levels) (kept_more b h seen.names now.names env one is.kept given fresh);
      idle = idle;
    }

-- the same where memory ran out before the name was bound
pub left_added : (seen now : Seen MatChunk MatKind) (held later : Held) (env : List Bound) (name : List ℕ) (at : Ref) (form : Form) (m : Matrix)
    → IsShown seen held env
    → found_in held name ≡ None
    → IsGiven seen.names (tree_in form held.leaf held.height m) at now.names
    → now.asks ≡ map.empty
    → later.order.items ≡ held.order.items ++ at ∷ []
    → IsLeft now later
left_added seen now held later env name at form m is none given idle order =
    let b = held.leaf in
    let h = held.height in
    let one : Bound = with_reference at (named_matrix form m name) in
    let fresh = finds_nothing (found_in held name) (newest (is_bound_as name) env) none (is.names name) in
    let ids = ap identifiers order ∙ identifiers_append held.order.items (at ∷ []) ∙ ap (λ (ids : List Id). ids ++ identifiers (at ∷ [])) is.order
    ∙ sym (identifiers_append (references env) (at ∷ [])) ∙ ap identifiers (sym (references_append env (one ∷ []))) in
    record {
      all = subst (AreAll now.names) (sym ids) (kept_all b h now.names (env ++ one ∷ []) (kept_more b h seen.names now.names env one is.kept given fresh));
      idle = idle;
    }

-- ---- One name less

sound_none : (b h : ℕ) (t : Bool) (o : Option Bound) → IfSome o (IsSoundBound b h) → IfSome (cond t None o) (IsSoundBound b h)
sound_none b h true o is = tt
sound_none b h false o is = is

pub shown_ended : (seen now : Seen MatChunk MatKind) (held later : Held) (env : List Bound) (name : List ℕ) (one : Binding)
    → IsShown seen held env
    → found_in held name ≡ Some one
    → now.names ≡ without seen.names one.at
    → now.asks ≡ map.empty
    → later.leaf ≡ held.leaf
    → later.height ≡ held.height
    → later.order.items ≡ slice_set held.order.items one.number Null
    → Puts held name None later
    → IsShown now later (left_without name env)
shown_ended seen now held later env name one is found gone idle leaf levels order puts =
    let b = held.leaf in
    let h = held.height in
    let at = is_found seen held env name one is found in
    let all = (shown_left seen held env is).all in
    record {
      leaf_low = rw leaf is.leaf_low;
      leaf_high = rw leaf is.leaf_high;
      low = rw levels is.low;
      names = λ other.
          subst₂ Finds (sym (puts other)) (sym (newest_left env name other))
          (finds_none (bytes_eq name other) (found_in held other) (newest (is_bound_as other) env) (is.names other));
      ordered = ordered_ended held later name one is.ordered found puts order;
      order =
          ap identifiers order ∙ struck_order seen.names held.order.items one.number one.at all (is.ordered.stands name one found)
          ∙ ap₂ strike_ref at.at is.order
          ∙ sym (struck_env b h seen.names env name at.bound is.kept at.newest_is);
      sound = λ other.
          subst₂ (λ l k. IfSome (newest (is_bound_as other) (left_without name env)) (IsSoundBound l k)) (sym leaf) (sym levels)
          (subst (λ o. IfSome o (IsSoundBound b h)) (sym (newest_left env name other))
          (sound_none b h (bytes_eq name other) (newest (is_bound_as other) env) (is.sound other)));
      kept =
          subst₂ (λ l k. AreKept l k now.names (left_without name env)) (sym leaf) (sym levels)
          (subst (λ n. AreKept b h n (left_without name env)) (ap (without seen.names) (sym at.at) ∙ sym gone)
          (kept_less b h seen.names env name at.bound is.kept at.newest_is));
      idle = idle;
    }
