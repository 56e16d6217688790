-- What the calls of a statement do is what the statement does.
use Rattle.std.proofs.Common.{◌≡◌, ℕ, ◌+◌, ◌≤◌, Bool, true, false, not, cond, List, [], ◌∷◌, ◌++◌, take, Option, Some, None, refl, sym, ap, ap₂, ◌∙◌, subst, subst₂, append-nil, arith}
use Rattle.std.specs.Prelude.{Ok}
use Rattle.std.proofs.lemmas.Bool.{eq-eqb}
use Rattle.std.specs.FinMap as map
use Rattle.std.specs.Str.{bytes_eq}
use Rattle.dense_def.specs.Matrix.{Matrix, height, peak_of, IsMatrix, completed}
use Rattle.cht_ids.specs.declared.refs.Ref.{Ref}
use Rattle.cht_ids.specs.declared.refs.Ref.TheVariants.{Null, Id as HeldId}
use Rattle.cht_history.specs.declared.event.Event.{Event}
use Rattle.cht_history.specs.declared.event.Event.TheVariants.{Ask, Collect, Copy as CopyEvent}
use Rattle.cht_engine.specs.Seen.{Seen, MayMention, tree_named}
use Rattle.cht_engine.specs.Calls.{trees_named, IsCopied, deleted, IsOutput}
use Rattle.chunk_codec.specs.Spots.{side_of}
use Rattle.quad_matrix.specs.declared.chunk.MatChunk.{MatChunk}
use Rattle.quad_matrix.specs.declared.chunk.Entries.{Entries}
use Rattle.quad_matrix.specs.declared.kind.MatKind.{MatKind}
use Rattle.quad_matrix.specs.Goals.{kind_of, goal_of, IsDefined}
use Rattle.quad_matrix.specs.Works.{work_of}
use Rattle.mm_text.specs.declared.market.Form.{Form}
use Rattle.mm_text.specs.declared.market.Form.TheVariants.{Symmetric}
use Rattle.cht_script.specs.declared.script.Names.{Names}
use Rattle.cht_script.specs.declared.script.Verb.TheVariants as verb
use Rattle.cht_script.specs.declared.checked.Shape.{Shape}
use Rattle.cht_script.specs.Statements.{names_after, shapes_fit, forms_fit}
use Rattle.cht_script.specs.Meaning.{Known, Deed, Lists, Acts as Does, named_matrix, matrix_named, form_named, is_bounded, matrix_given, form_given, is_refused}
use Rattle.cht_script.specs.Newest.{newest}
use Rattle.cht_script.specs.Reading.{name_bytes, names_of}
use Rattle.cht_session.specs.declared.held.Binding.{Binding}
use Rattle.cht_session.specs.declared.held.Held.{Held}
use Rattle.cht_session.specs.declared.operation.Operation.{Operation}
use Rattle.cht_session.specs.declared.operation.Operation.TheVariants.{Add, Mul, TMul, MulT, Square, Full}
use Rattle.cht_session.specs.Forms.{tree_in, IsSoundIn, shape_of, what_asked, inputs_asked, asks_matrix, what_listed, list_work, work_listed, IsListIn}
use Rattle.cht_session.specs.Operations.{verb_of, is_single}
use Rattle.cht_session.specs.Numbers.{root_peak}
use Rattle.cht_session.specs.Bindings.{found_in, shape_at, IsSameHeld, IsAdded, EndsAs, IsEnded}
use Rattle.cht_session.specs.Program.{Bound, known_in, is_bound_as, left_without, reference_found, reference_named, with_reference, env_after, deletes, IsNullIf, is_zero, AreOfDeed, AreOfAsk, AreOfCopy, AreOfList}
use Rattle.cht_session.specs.Works.{work_by}
use Rattle.cht_session.specs.Held.{without, IsShown}
use Rattle.cht_session.specs.Given.{IsGiven, fits_at, kind_for, inputs_for, IsReadyPair, Combines, AssignsAny}
use Rattle.cht_session.specs.Running.{inputs_fit, last_input, IsEffect, IsGoing}
use Rattle.cht_session.proofs.Asked.{deleted_is}
use Rattle.cht_session.proofs.Assigned.{output_null}
use Rattle.cht_session.proofs.Bindings.{bytes_same, left_all, finds_nothing}
use Rattle.cht_session.proofs.FormTrees.{tree_peak, tree_null, empty_sound}
use Rattle.cht_session.proofs.FormLists.{listed_sound, listed_some, listed_work}
use Rattle.cht_session.proofs.FormVerbs.{asked_fits, asked_sound}
use Rattle.cht_session.proofs.Tests.{both, operation_tested}
use Rattle.cht_session.proofs.Shown.{shown_same, shown_seen, shown_left, is_found, shown_added, left_added, shown_ended}

-- ---- The names of a statement

pub one_name : (names : Names) → names.count ≡ 1 → names_of names ≡ name_bytes names.first ∷ []
one_name names e = ap (λ n. take n (name_bytes names.first ∷ name_bytes names.second ∷ name_bytes names.third ∷ [])) e

pub two_names : (names : Names) → names.count ≡ 2 → names_of names ≡ name_bytes names.first ∷ name_bytes names.second ∷ []
two_names names e = ap (λ n. take n (name_bytes names.first ∷ name_bytes names.second ∷ name_bytes names.third ∷ [])) e

pub three_names : (names : Names) → names.count ≡ 3
    → names_of names ≡ name_bytes names.first ∷ name_bytes names.second ∷ name_bytes names.third ∷ []
three_names names e = ap (λ n. take n (name_bytes names.first ∷ name_bytes names.second ∷ name_bytes names.third ∷ [])) e

pub plus_none : (n : ℕ) → n + 0 ≡ n
plus_none n = omega arith

-- ---- Effects

-- an effect goes over to what is held the same
pub effect_same : (env : List Bound) (deed : Deed) (seen now : Seen MatChunk MatKind) (held room later : Held) → IsSameHeld held room → IsEffect env deed seen room now later
    → IsEffect env deed seen held now later
effect_same env deed seen now held room later same is = record {
  at = is.at;
  events = is.events;
  program = subst (λ h. AreOfDeed seen.caller h env deed is.at is.events) same.height is.program;
  told = is.told;
  account = is.account ∙ ap₂ (λ b h. seen.account + work_by b h (known_in env) deed) same.leaf same.height;
  caller = is.caller;
  leaf = is.leaf ∙ same.leaf;
  height = is.height ∙ same.height;
  shown = is.shown;
}

pub effect_going : (env : List Bound) (deed : Deed) (seen now : Seen MatChunk MatKind) (held later : Held) → IsEffect env deed seen held now later → IsGoing seen held now later
effect_going env deed seen now held later is = record {
  caller = is.caller;
  leaf = is.leaf;
  height = is.height;
  left = shown_left now later (env_after env deed is.at) is.shown;
}

-- what the binding of a name left
pub record IsBoundIn (room later : Held) (name : List ℕ) (shape : Shape) (at : Ref) : Type 0 where
  pub leaf : later.leaf ≡ room.leaf
  pub height : later.height ≡ room.height
  pub order : later.order.items ≡ room.order.items ++ at ∷ []
  pub added : IsAdded room name shape at later

-- what calls gave for a matrix in a form that is to be bound
pub record IsMade (b h : ℕ) (env : List Bound) (deed : Deed) (seen now : Seen MatChunk MatKind) (form : Form) (m : Matrix) (at : Ref) : Type 0 where
  pub names : IsGiven seen.names (tree_in form b h m) at now.names
  pub asks : now.asks ≡ seen.asks
  pub caller : now.caller ≡ seen.caller
  pub sound : IsSoundIn form b h m
  pub events : List (Event MatKind)
  pub program : AreOfDeed seen.caller h env deed at events
  pub told : now.events ≡ seen.events ++ events
  pub account : now.account ≡ seen.account + work_by b h (known_in env) deed

module _ (env : List Bound) (deed : Deed) (seen now : Seen MatChunk MatKind) (room later : Held) (name : List ℕ) (form : Form) (m : Matrix) (at : Ref) where
  pub made_effect : (shape : Shape) → IsShown seen room env → found_in room name ≡ None → IsMade room.leaf room.height env deed seen now form m at
      → shape ≡ shape_of form m → IsBoundIn room later name shape at
      → env_after env deed at ≡ env ++ with_reference at (named_matrix form m name) ∷ []
      → IsEffect env deed seen room now later
  made_effect shape is none made shaped bound after = record {
    at = at;
    events = made.events;
    program = made.program;
    told = made.told;
    account = made.account;
    caller = made.caller;
    leaf = bound.leaf;
    height = bound.height;
    shown =
        subst (IsShown now later) (sym after)
        (shown_added seen now room later env name shape at form m is none made.names (made.asks ∙ is.idle) made.sound shaped bound.leaf bound.height bound.order bound.added);
  }

  -- memory ran out before the name was bound
  pub made_left : IsShown seen room env → found_in room name ≡ None → IsMade room.leaf room.height env deed seen now form m at
      → later.leaf ≡ room.leaf → later.height ≡ room.height → later.order.items ≡ room.order.items ++ at ∷ [] → IsGoing seen room now later
  made_left is none made leaf levels order = record {
    caller = made.caller;
    leaf = leaf;
    height = levels;
    left = left_added seen now room later env name at form m is none made.names (made.asks ∙ is.idle) order;
  }

pub going_same : (seen now : Seen MatChunk MatKind) (held room later : Held) → IsSameHeld held room → IsGoing seen room now later → IsGoing seen held now later
going_same seen now held room later same is = record {
  caller = is.caller;
  leaf = is.leaf ∙ same.leaf;
  height = is.height ∙ same.height;
  left = is.left;
}

-- ---- A copy

pub copy_made : (env : List Bound) (line : ℕ) (c a : List ℕ) (seen now : Seen MatChunk MatKind) (held : Held) (one : Binding) (at : Ref)
    → IsShown seen held env → found_in held a ≡ Some one → IsCopied seen now one.at (Ok at)
    → IsMade held.leaf held.height env (Does line verb.Copy (c ∷ a ∷ [])) seen now (form_named (known_in env) a) (matrix_named (known_in env) a) at
copy_made env line c a seen now held one at is found copied =
    let f = is_found seen held env a one is found in
    case one.at at f.tree f.reference copied f.sound
  where
    case : (r at : Ref) → tree_named seen r ≡ tree_in (form_named (known_in env) a) held.leaf held.height (matrix_named (known_in env) a) → reference_named env a ≡ r → IsCopied seen now r (Ok at)
        → IsSoundIn (form_named (known_in env) a) held.leaf held.height (matrix_named (known_in env) a)
        → IsMade held.leaf held.height env (Does line verb.Copy (c ∷ a ∷ [])) seen now (form_named (known_in env) a) (matrix_named (known_in env) a) at
    case Null Null tree reference copied sound = record {
      names = (sym tree, ap (λ (s : Seen MatChunk MatKind). s.names) copied);
      asks = ap (λ (s : Seen MatChunk MatKind). s.asks) copied;
      caller = ap (λ (s : Seen MatChunk MatKind). s.caller) copied;
      sound = sound;
      events = [];
      program = subst (λ r. AreOfCopy seen.caller r Null []) (sym reference) (refl, refl);
      told = ap (λ (s : Seen MatChunk MatKind). s.events) copied ∙ sym (append-nil seen.events);
      account = ap (λ (s : Seen MatChunk MatKind). s.account) copied ∙ sym (plus_none seen.account);
    }
    case Null (HeldId to) tree reference copied sound = absurd copied
    case (HeldId from) Null tree reference copied sound = absurd copied
    case (HeldId from) (HeldId to) tree reference copied sound = record {
      names = (copied.0, ap (λ (s : Seen MatChunk MatKind). s.names) copied.1 ∙ ap (λ t. map.insert seen.names to.number (record { owner = to.owner; tree = t })) tree);
      asks = ap (λ (s : Seen MatChunk MatKind). s.asks) copied.1;
      caller = ap (λ (s : Seen MatChunk MatKind). s.caller) copied.1;
      sound = sound;
      events = CopyEvent seen.caller from to ∷ [];
      program = subst (λ r. AreOfCopy seen.caller r (HeldId to) (CopyEvent seen.caller from to ∷ [])) (sym reference) (to, refl, refl);
      told = ap (λ (s : Seen MatChunk MatKind). s.events) copied.1;
      account = ap (λ (s : Seen MatChunk MatKind). s.account) copied.1 ∙ sym (plus_none seen.account);
    }

-- ---- An operation

-- the names of its statement: the one that it binds, and its inputs
abbrev pub operation_names : Operation → List ℕ → List ℕ → List ℕ → List (List ℕ)
operation_names operation c a b = c ∷ inputs_asked (verb_of operation) a b

-- its statement
abbrev pub operation_deed : Operation → ℕ → List ℕ → List ℕ → List ℕ → Deed
operation_deed operation line c a b = Does line (verb_of operation) (operation_names operation c a b)

pub operation_named : (operation : Operation) (names : Names) → names.count ≡ names_after (verb_of operation)
    → names_of names ≡ operation_names operation (name_bytes names.first) (name_bytes names.second) (name_bytes (last_input operation names))
operation_named Add names count = three_names names count
operation_named Mul names count = three_names names count
operation_named TMul names count = three_names names count
operation_named MulT names count = three_names names count
operation_named Square names count = two_names names count
operation_named Full names count = two_names names count

-- the inputs where there are two
pub pair_inputs : {X : Type 0} → (operation : Operation) (x y : X) → is_single operation ≡ false → inputs_asked (verb_of operation) x y ≡ x ∷ y ∷ []
pair_inputs Add x y e = refl
pair_inputs Mul x y e = refl
pair_inputs TMul x y e = refl
pair_inputs MulT x y e = refl
pair_inputs Square x y e = absurd cc
pair_inputs Full x y e = absurd cc

pub operation_asks : (operation : Operation) → asks_matrix (verb_of operation) ≡ true
operation_asks Add = refl
operation_asks Mul = refl
operation_asks TMul = refl
operation_asks MulT = refl
operation_asks Square = refl
operation_asks Full = refl

of_operation : (operation : Operation) (caller h : ℕ) (env : List Bound) (line : ℕ) (c a b : List ℕ) (r : Ref) (events : List (Event MatKind))
    → AreOfAsk caller (kind_of (what_asked (verb_of operation) (form_named (known_in env) a) (form_named (known_in env) b)) h)
    (inputs_asked (verb_of operation) (reference_named env a) (reference_named env b))
    (is_zero (matrix_given (verb_of operation) (matrix_named (known_in env) a) (matrix_named (known_in env) b))) r events
    → AreOfDeed caller h env (operation_deed operation line c a b) r events
of_operation Add caller h env line c a b r events is = is
of_operation Mul caller h env line c a b r events is = is
of_operation TMul caller h env line c a b r events is = is
of_operation MulT caller h env line c a b r events is = is
of_operation Square caller h env line c a b r events is = is
of_operation Full caller h env line c a b r events is = is

work_of_operation : (operation : Operation) (l h : ℕ) (known : List Known) (line : ℕ) (c a b : List ℕ)
    → work_by l h known (operation_deed operation line c a b)
    ≡ work_of (kind_of (what_asked (verb_of operation) (form_named known a) (form_named known b)) h)
    (inputs_asked (verb_of operation) (tree_in (form_named known a) l h (matrix_named known a)) (tree_in (form_named known b) l h (matrix_named known b)))
work_of_operation Add l h known line c a b = refl
work_of_operation Mul l h known line c a b = refl
work_of_operation TMul l h known line c a b = refl
work_of_operation MulT l h known line c a b = refl
work_of_operation Square l h known line c a b = refl
work_of_operation Full l h known line c a b = refl

pub refused_operation : (operation : Operation) (known : List Known) (line : ℕ) (c a b : List ℕ)
    → is_refused known (operation_deed operation line c a b) ≡ not (is_bounded (verb_of operation) (matrix_named known a) (matrix_named known b))
refused_operation Add known line c a b = refl
refused_operation Mul known line c a b = refl
refused_operation TMul known line c a b = refl
refused_operation MulT known line c a b = refl
refused_operation Square known line c a b = refl
refused_operation Full known line c a b = refl

-- the form of the result
abbrev pub form_made : Operation → List Known → List ℕ → Form
form_made operation known a = form_given (verb_of operation) (form_named known a)

-- the result
abbrev pub matrix_made : Operation → List Known → List ℕ → List ℕ → Matrix
matrix_made operation known a b = matrix_given (verb_of operation) (matrix_named known a) (matrix_named known b)

pub after_operation : (operation : Operation) (env : List Bound) (line : ℕ) (c a b : List ℕ) (at : Ref)
    → env_after env (operation_deed operation line c a b) at
    ≡ env ++ with_reference at (named_matrix (form_made operation (known_in env) a) (matrix_made operation (known_in env) a b) c) ∷ []
after_operation Add env line c a b at = refl
after_operation Mul env line c a b at = refl
after_operation TMul env line c a b at = refl
after_operation MulT env line c a b at = refl
after_operation Square env line c a b at = refl
after_operation Full env line c a b at = refl

-- the trees of its inputs
inputs_named : (operation : Operation) (seen : Seen MatChunk MatKind) (p q : Ref) → trees_named seen (inputs_asked (verb_of operation) p q)
    ≡ inputs_asked (verb_of operation) (tree_named seen p) (tree_named seen q)
inputs_named Add seen p q = refl
inputs_named Mul seen p q = refl
inputs_named TMul seen p q = refl
inputs_named MulT seen p q = refl
inputs_named Square seen p q = refl
inputs_named Full seen p q = refl

module _ (operation : Operation) (env : List Bound) (seen : Seen MatChunk MatKind) (held : Held) (a b : List ℕ) (one other : Binding) (is : IsShown seen held env)
    (p : found_in held a ≡ Some one) (q : found_in held b ≡ Some other) where
  abbrev m : Matrix
  m = matrix_named (known_in env) a

  abbrev n : Matrix
  n = matrix_named (known_in env) b

  abbrev f : Form
  f = form_named (known_in env) a

  abbrev g : Form
  g = form_named (known_in env) b

  -- the test by what is held is that of the meaning
  pub pair_tested : fits_at seen operation one other ≡ is_bounded (verb_of operation) m n
  pair_tested =
      let x = is_found seen held env a one is p in
      let y = is_found seen held env b other is q in
      operation_tested operation m n one.shape.rows one.shape.columns (root_peak (tree_named seen one.at)) (root_peak (tree_named seen other.at))
      (ap (λ (shape : Shape). shape.rows) x.shape) (ap (λ (shape : Shape). shape.columns) x.shape)
      (ap root_peak x.tree ∙ tree_peak held.leaf held.height f m x.sound) (ap root_peak y.tree ∙ tree_peak held.leaf held.height g n y.sound)

  -- the shapes and forms fit
  fit : inputs_fit (verb_of operation) (shape_at held a) (shape_at held b) ≡ true
      → (shapes_fit (verb_of operation) (shape_of f m) (shape_of g n) ≡ true) × (forms_fit (verb_of operation) (shape_of f m) (shape_of g n) ≡ true)
  fit shapes =
      let x = is_found seen held env a one is p in
      let y = is_found seen held env b other is q in
      both (shapes_fit (verb_of operation) (shape_of f m) (shape_of g n)) (forms_fit (verb_of operation) (shape_of f m) (shape_of g n))
      (sym (ap₂ (inputs_fit (verb_of operation)) x.shape_seen y.shape_seen) ∙ shapes)

  -- the task that is asked, by the forms of what the names mean
  kind : kind_for held.height operation one other ≡ kind_of (what_asked (verb_of operation) f g) held.height
  kind =
      let x = is_found seen held env a one is p in
      let y = is_found seen held env b other is q in
      ap₂ (λ (s t : Shape). kind_of (what_asked (verb_of operation) s.form t.form) held.height) x.shape y.shape

  trees : trees_named seen (inputs_for operation one other)
      ≡ inputs_asked (verb_of operation) (tree_in f held.leaf held.height m) (tree_in g held.leaf held.height n)
  trees =
      let x = is_found seen held env a one is p in
      let y = is_found seen held env b other is q in
      inputs_named operation seen one.at other.at ∙ ap₂ (inputs_asked (verb_of operation)) x.tree y.tree

  -- where it is met the goal is defined
  pub pair_ready : inputs_fit (verb_of operation) (shape_at held a) (shape_at held b) ≡ true → IsReadyPair seen held.height operation one other
  pair_ready shapes = λ fits.
      let x = is_found seen held env a one is p in
      let y = is_found seen held env b other is q in
      let both = fit shapes in
      subst₂ IsDefined (sym kind) (sym trees) (record {
        low = is.low;
        leaf = held.leaf;
        leaf_high = is.leaf_high;
        fits =
            asked_fits held.leaf held.height (verb_of operation) f g m n x.sound y.sound (operation_asks operation) both.0 both.1
            (sym pair_tested ∙ fits);
      })

  -- and the result is made
  pub pair_made : (line : ℕ) (c : List ℕ) (now : Seen MatChunk MatKind) (at : Ref) → inputs_fit (verb_of operation) (shape_at held a) (shape_at held b) ≡ true
      → Combines seen now held.height operation one other (Ok (Some at))
      → IsMade held.leaf held.height env (operation_deed operation line c a b) seen now (form_made operation (known_in env) a) (matrix_made operation (known_in env) a b) at
  pair_made line c now at shapes (fits, got) =
      let x = is_found seen held env a one is p in
      let y = is_found seen held env b other is q in
      let both = fit shapes in
      let l = held.leaf in
      let h = held.height in
      let asked = kind_for h operation one other in
      let verb = verb_of operation in
      let form = form_made operation (known_in env) a in
      let made = matrix_made operation (known_in env) a b in
      let result = asked_sound l h verb f g m n x.sound y.sound (operation_asks operation) both.0 both.1 (sym pair_tested ∙ fits) in
      let goal = ap₂ goal_of kind trees ∙ result.1 in
      let inputs = inputs_for operation one other in
      let events = Ask seen.caller got.task asked inputs ∷ Collect seen.caller got.task at ∷ [] in
      record {
        names = subst (λ tree. IsGiven seen.names tree at now.names) goal got.names;
        asks = got.asks;
        caller = got.caller;
        sound = result.0;
        events = events;
        program =
            of_operation operation seen.caller h env line c a b at events
            (subst₂ (λ k rs. AreOfAsk seen.caller k rs (is_zero made) at events) kind (ap₂ (inputs_asked verb) (sym x.reference) (sym y.reference))
            (subst (λ t. IsNullIf t at) (tree_null l h form made result.0) (output_null seen (tree_in form l h made) at (subst (λ tree. IsOutput seen tree at) goal got.output)), got.task, refl));
        told = got.told;
        account =
            got.account ∙ ap₂ (λ k ts. seen.account + work_of k ts) kind trees
            ∙ ap (λ k. seen.account + k) (sym (work_of_operation operation l h (known_in env) line c a b));
      }

-- ---- A list

pub market_made : (env : List Bound) (line : ℕ) (c : List ℕ) (form : Form) (m : Matrix) (seen now : Seen MatChunk MatKind) (held : Held) (entries : Option Entries) (at : Ref)
    → IsMatrix m → height m ≤ side_of held.leaf held.height → m.columns ≤ side_of held.leaf held.height → (form ≡ Symmetric → height m ≡ m.columns)
    → IsListIn form held.leaf held.height m entries → AssignsAny seen now form entries (Ok at)
    → IsMade held.leaf held.height env (Lists line c form m) seen now form m at
market_made env line c form m seen now held None at whole rows columns formed listed (null, same) =
    let l = held.leaf in
    let h = held.height in
    let empty = empty_sound l h form m whole rows columns formed listed in
    let zero = eq-eqb (peak_of m) 0 listed in
    record {
      names = subst (λ r. IsGiven seen.names (tree_in form l h m) r now.names) (sym null) (empty.1, ap (λ (s : Seen MatChunk MatKind). s.names) same);
      asks = ap (λ (s : Seen MatChunk MatKind). s.asks) same;
      caller = ap (λ (s : Seen MatChunk MatKind). s.caller) same;
      sound = empty.0;
      events = [];
      program = subst (λ t. AreOfList seen.caller (kind_of (what_listed form) h) t at []) (sym zero) (null, refl);
      told = ap (λ (s : Seen MatChunk MatKind). s.events) same ∙ sym (append-nil seen.events);
      account =
          ap (λ (s : Seen MatChunk MatKind). s.account) same
          ∙ sym (none seen.account (work_listed form l h m) (ap (λ t. cond t 0 (list_work form l h (completed (side_of l h) m))) zero));
    }
  where
    none : (n k : ℕ) → k ≡ 0 → n + k ≡ n
    none n k e = omega arith
market_made env line c form m seen now held (Some entries) at whole rows columns formed listed got =
    let l = held.leaf in
    let h = held.height in
    let made = listed_sound l h form m entries whole rows columns formed listed in
    let some = listed_some l h form m entries whole rows columns listed in
    record {
      names = subst (λ tree. IsGiven seen.names tree at now.names) made.1 got.names;
      asks = got.asks;
      caller = got.caller;
      sound = made.0;
      events = got.events;
      program =
          subst₂ (λ k t. AreOfList seen.caller (kind_of (what_listed form) k) t at got.events) listed.0.height (sym some) got.of_list;
      told = got.told;
      account = got.account ∙ ap (λ k. seen.account + k) (listed_work l h form m entries some listed);
    }

-- ---- A delete

pub delete_effect : (env : List Bound) (line : ℕ) (name : List ℕ) (seen now : Seen MatChunk MatKind) (held later : Held) (r : Ref)
    → IsShown seen held env → later.leaf ≡ held.leaf → later.height ≡ held.height → IsEnded held name r later → now ≡ deleted seen r
    → IsEffect env (Does line verb.Delete (name ∷ [])) seen held now later
delete_effect env line name seen now held later r is leaf levels ended same = case (found_in held name) refl ended
  where
    hidden : (other : List ℕ) (t : Bool) → bytes_eq name other ≡ t → found_in held name ≡ None → cond t None (found_in held other) ≡ found_in held other
    hidden other true e at = sym (ap (found_in held) (sym (bytes_same name other e)) ∙ at)
    hidden other false e at = refl

    told : (q : Ref) → r ≡ q → now.events ≡ seen.events ++ deletes seen.caller (q ∷ [])
    told q e = ap (λ (s : Seen MatChunk MatKind). s.events) same ∙ (deleted_is seen r).told ∙ ap (λ q. seen.events ++ deletes seen.caller (q ∷ [])) e

    case : (o : Option Binding) → found_in held name ≡ o → EndsAs o held name r later → IsEffect env (Does line verb.Delete (name ∷ [])) seen held now later
    case None at (null, order, puts) =
        let fresh = finds_nothing (found_in held name) (newest (is_bound_as name) env) at (is.names name) in
        let still : now.names ≡ seen.names = ap (λ (s : Seen MatChunk MatKind). s.names) same ∙ (deleted_is seen r).names ∙ ap (without seen.names) null in
        record {
          at = Null;
          events = deletes seen.caller (reference_named env name ∷ []);
          program = refl;
          told = told (reference_named env name) (null ∙ sym (ap reference_found fresh));
          account = ap (λ (s : Seen MatChunk MatKind). s.account) same ∙ (deleted_is seen r).account ∙ sym (plus_none seen.account);
          caller = ap (λ (s : Seen MatChunk MatKind). s.caller) same ∙ (deleted_is seen r).caller;
          leaf = leaf;
          height = levels;
          shown =
              subst (IsShown now later) (sym (append-nil (left_without name env) ∙ left_all name env fresh))
              (shown_seen seen now later env
              (shown_same seen held later env is (record { leaf = leaf; height = levels; found = λ other. puts other ∙ hidden other (bytes_eq name other) refl at; order = order }))
              still (ap (λ (s : Seen MatChunk MatKind). s.asks) same ∙ (deleted_is seen r).asks ∙ is.idle));
        }
    case (Some one) at (given, order, puts) =
        let f = is_found seen held env name one is at in
        record {
          at = Null;
          events = deletes seen.caller (reference_named env name ∷ []);
          program = refl;
          told = told (reference_named env name) (given ∙ sym f.reference);
          account = ap (λ (s : Seen MatChunk MatKind). s.account) same ∙ (deleted_is seen r).account ∙ sym (plus_none seen.account);
          caller = ap (λ (s : Seen MatChunk MatKind). s.caller) same ∙ (deleted_is seen r).caller;
          leaf = leaf;
          height = levels;
          shown =
              subst (IsShown now later) (sym (append-nil (left_without name env)))
              (shown_ended seen now held later env name one is at
              (ap (λ (s : Seen MatChunk MatKind). s.names) same ∙ (deleted_is seen r).names ∙ ap (without seen.names) given)
              (ap (λ (s : Seen MatChunk MatKind). s.asks) same ∙ (deleted_is seen r).asks ∙ is.idle)
              leaf levels order puts);
        }

-- the reference that is deleted may be mentioned
pub delete_ready : (env : List Bound) (name : List ℕ) (seen : Seen MatChunk MatKind) (held later : Held) (r : Ref) → IsShown seen held env → IsEnded held name r later → MayMention seen r
delete_ready env name seen held later r is ended = case (found_in held name) refl ended
  where
    case : (o : Option Binding) → found_in held name ≡ o → EndsAs o held name r later → MayMention seen r
    case None at (null, order, puts) = subst (MayMention seen) (sym null) tt
    case (Some one) at (given, order, puts) = subst (MayMention seen) (sym given) (is_found seen held env name one is at).mentioned
