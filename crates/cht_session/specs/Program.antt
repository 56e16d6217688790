-- The program of a script: which events its statements are for the caller of an engine. Nothing here speaks of trees, tasks or numbers of an
-- engine: only of the matrices that names mean, and of the references that earlier events gave them.
use Rattle.std.specs.Prelude.{◌≡◌, ℕ, Bool, true, false, ◌==◌, not, if◌then◌else◌, List, [], ◌∷◌, ◌++◌, map, filter, Option, None, Some, unsigned_abs}
use Rattle.dense_def.specs.Matrix.{Matrix, peak_of, trace_of}
use Rattle.cht_ids.specs.declared.refs.Id.{Id}
use Rattle.cht_ids.specs.declared.refs.Ref.{Ref}
use Rattle.cht_ids.specs.declared.refs.Ref.TheVariants.{Null, Id as Held}
use Rattle.cht_history.specs.declared.event.Event.{Event}
use Rattle.cht_history.specs.declared.event.Event.TheVariants.{Register, Copy as CopyEvent, Delete as DeleteEvent, Ask, Collect}
use Rattle.quad_matrix.specs.declared.kind.MatKind.{MatKind}
use Rattle.quad_matrix.specs.Goals.{kind_of}
use Rattle.mm_text.specs.declared.market.Form.{Form}
use Rattle.mm_text.specs.declared.market.Form.TheVariants.{General}
use Rattle.cht_script.specs.declared.script.Verb.{Verb}
use Rattle.cht_script.specs.declared.script.Verb.TheVariants.{Copy, Add, Mul, TMul, MulT, Square, Full, Trace, Count, Print, Delete}
use Rattle.cht_script.specs.Newest.{newest}
use Rattle.cht_script.specs.Statements.{Act, input_names}
use Rattle.cht_script.specs.Meaning.{Known, is_named, Deed, Lists, Acts, first_matrix, second_matrix, first_form, matrix_given, is_refused, bound_by, known_by}
use Rattle.cht_session.specs.Forms.{what_asked, what_listed}

-- ---- Names with their references

-- a name with its matrix, and the reference that it was given
pub record Bound : Type 0 where
  pub known : Known
  pub at : Ref

-- the names with their matrices alone
abbrev pub known_in : List Bound → List Known
known_in env = map (λ (one : Bound). one.known) env

-- the references of all names, in the order in which they were bound
abbrev pub references : List Bound → List Ref
references env = map (λ (one : Bound). one.at) env

-- whether a name is this one
abbrev pub is_bound_as : List ℕ → Bound → Bool
is_bound_as name one = is_named name one.known

-- the reference of what was found; null where nothing was
abbrev pub reference_found : Option Bound → Ref
reference_found None = Null
reference_found (Some one) = one.at

-- the reference of a name, by its newest binding
abbrev pub reference_named : List Bound → List ℕ → Ref
reference_named env name = reference_found (newest (is_bound_as name) env)

-- the reference of the first of these names; null where there is none
abbrev pub first_reference : List Bound → List (List ℕ) → Ref
first_reference env [] = Null
first_reference env (name ∷ names) = reference_named env name

-- the reference of the second of these names; null where there is none
abbrev pub second_reference : List Bound → List (List ℕ) → Ref
second_reference env [] = Null
second_reference env (name ∷ names) = first_reference env names

-- the form of the second of these names; the general one where there is none
abbrev pub second_form : List Known → List (List ℕ) → Form
second_form known [] = General
second_form known (name ∷ names) = first_form known names

-- ---- Names after a statement

-- a name that was bound, with the reference that it is given
abbrev pub with_reference : Ref → Known → Bound
with_reference r one = record { known = one; at = r }

-- the names but this one
abbrev pub left_without : List ℕ → List Bound → List Bound
left_without name env = filter (λ one. not (is_bound_as name one)) env

-- the names but the first of these
abbrev pub left_without_first : List (List ℕ) → List Bound → List Bound
left_without_first [] env = env
left_without_first (name ∷ names) env = left_without name env

-- the names that a verb leaves bound
abbrev pub left_after_verb : Verb → List (List ℕ) → List Bound → List Bound
left_after_verb Copy names env = env
left_after_verb Add names env = env
left_after_verb Mul names env = env
left_after_verb TMul names env = env
left_after_verb MulT names env = env
left_after_verb Square names env = env
left_after_verb Full names env = env
left_after_verb Trace names env = env
left_after_verb Count names env = env
left_after_verb Print names env = env
left_after_verb Delete names env = left_without_first names env

-- the names that a statement leaves bound
abbrev pub left_after : Deed → List Bound → List Bound
left_after (Lists n name form m) env = env
left_after (Acts n verb names) env = left_after_verb verb names env

-- the names that are bound after a statement, where its events gave this reference
abbrev pub env_after : List Bound → Deed → Ref → List Bound
env_after env deed r = left_after deed env ++ map (with_reference r) (bound_by (known_in env) deed)

-- ---- Events

-- the identifiers among some references: all but null
abbrev pub identifiers : List Ref → List Id
identifiers [] = []
identifiers (Null ∷ refs) = identifiers refs
identifiers (Held id ∷ refs) = id ∷ identifiers refs

-- the deletes of some references, in their order; none of null
abbrev pub deletes : ℕ → List Ref → List (Event MatKind)
deletes caller refs = map (DeleteEvent caller) (identifiers refs)

-- a reference is null exactly where what it names is zero
abbrev pub IsNullIf : Bool → Ref → Type 0
IsNullIf true Null = Unit {0}
IsNullIf true (Held id) = ⊥
IsNullIf false Null = ⊥
IsNullIf false (Held id) = Unit {0}

-- whether a matrix is zero
abbrev pub is_zero : Matrix → Bool
is_zero m = peak_of m == 0

-- a task of a kind was asked on these references, and its output collected, which is zero or not
abbrev pub AreOfAsk : ℕ → MatKind → List Ref → Bool → Ref → List (Event MatKind) → Type 0
AreOfAsk caller kind inputs zero r events =
    IsNullIf zero r × (task : ℕ) × (events ≡ Ask caller task kind inputs ∷ Collect caller task r ∷ [])

-- A matrix with a number other than 0 was registered as the list of its entries, which has no children, a task of a kind was asked on that
-- list and its output collected, and the list's identifier deleted. For a matrix without one there is no event.
abbrev pub AreOfList : ℕ → MatKind → Bool → Ref → List (Event MatKind) → Type 0
AreOfList caller kind true r events = (r ≡ Null) × (events ≡ [])
AreOfList caller kind false r events =
    IsNullIf false r
    × (list : Id) × (task : ℕ)
    × (events
    ≡ Register caller list [] ∷ Ask caller task kind (Held list ∷ []) ∷ Collect caller task r
    ∷ DeleteEvent caller list ∷ [])

-- by the form in which it is listed, the tree of such a height
abbrev pub AreOfMarket : ℕ → ℕ → Form → Matrix → Ref → List (Event MatKind) → Type 0
AreOfMarket caller height form m r events = AreOfList caller (kind_of (what_listed form) height) (is_zero m) r events

-- a reference was copied; null without an event
abbrev pub AreOfCopy : ℕ → Ref → Ref → List (Event MatKind) → Type 0
AreOfCopy caller Null r events = (r ≡ Null) × (events ≡ [])
AreOfCopy caller (Held from) r events = (to : Id) × (r ≡ Held to) × (events ≡ CopyEvent caller from to ∷ [])

-- a task of a kind was asked on a reference, and its output collected and deleted
abbrev pub AreOfTrace : ℕ → MatKind → Ref → Bool → Ref → List (Event MatKind) → Type 0
AreOfTrace caller kind input zero r events =
    IsNullIf zero r × (task : ℕ)
    × (events ≡ (Ask caller task kind (input ∷ []) ∷ Collect caller task r ∷ []) ++ deletes caller (r ∷ []))

-- The events of a verb on inputs with these references, forms and matrices, and the reference that they gave. The second input is not looked
-- at where there is one.
abbrev pub AreOfVerb : ℕ → ℕ → Verb → Ref → Ref → Form → Form → Matrix → Matrix → Ref → List (Event MatKind) → Type 0
AreOfVerb caller height Copy p q f g a b r events = AreOfCopy caller p r events
AreOfVerb caller height Add p q f g a b r events = AreOfAsk caller (kind_of (what_asked Add f g) height) (p ∷ q ∷ []) (is_zero (matrix_given Add a b)) r events
AreOfVerb caller height Mul p q f g a b r events = AreOfAsk caller (kind_of (what_asked Mul f g) height) (p ∷ q ∷ []) (is_zero (matrix_given Mul a b)) r events
AreOfVerb caller height TMul p q f g a b r events = AreOfAsk caller (kind_of (what_asked TMul f g) height) (p ∷ q ∷ []) (is_zero (matrix_given TMul a b)) r events
AreOfVerb caller height MulT p q f g a b r events = AreOfAsk caller (kind_of (what_asked MulT f g) height) (p ∷ q ∷ []) (is_zero (matrix_given MulT a b)) r events
AreOfVerb caller height Square p q f g a b r events = AreOfAsk caller (kind_of (what_asked Square f g) height) (p ∷ []) (is_zero (matrix_given Square a b)) r events
AreOfVerb caller height Full p q f g a b r events = AreOfAsk caller (kind_of (what_asked Full f g) height) (p ∷ []) (is_zero (matrix_given Full a b)) r events
AreOfVerb caller height Trace p q f g a b r events = AreOfTrace caller (kind_of (what_asked Trace f g) height) p (unsigned_abs (trace_of a) == 0) r events
AreOfVerb caller height Count p q f g a b r events = events ≡ []
AreOfVerb caller height Print p q f g a b r events = events ≡ []
AreOfVerb caller height Delete p q f g a b r events = events ≡ deletes caller (p ∷ [])

-- the events of a statement where these names are bound, and the reference that they gave
abbrev pub AreOfDeed : ℕ → ℕ → List Bound → Deed → Ref → List (Event MatKind) → Type 0
AreOfDeed caller height env (Lists n name form m) r events = AreOfMarket caller height form m r events
AreOfDeed caller height env (Acts n verb names) r events =
    AreOfVerb caller height verb
    (first_reference env (input_names (Act verb names))) (second_reference env (input_names (Act verb names)))
    (first_form (known_in env) (input_names (Act verb names))) (second_form (known_in env) (input_names (Act verb names)))
    (first_matrix (known_in env) (input_names (Act verb names))) (second_matrix (known_in env) (input_names (Act verb names)))
    r events

-- ---- The program

-- The events of statements where these names are bound, one after another, and at their end the deletes of the names that are left, in the
-- order in which they were bound. Trees have so many levels above their leaves.
abbrev pub IsProgram : ℕ → ℕ → List Bound → List Deed → List (Event MatKind) → Type 0
IsProgram caller height env [] events = events ≡ deletes caller (references env)
IsProgram caller height env (deed ∷ deeds) events =
    (r : Ref) × (first : List (Event MatKind)) × (later : List (Event MatKind))
    × (events ≡ first ++ later)
    × AreOfDeed caller height env deed r first
    × IsProgram caller height (env_after env deed r) deeds later

-- the statements before the first that is refused
abbrev pub done_of : List Known → List Deed → List Deed
done_of known [] = []
done_of known (deed ∷ deeds) = if is_refused known deed then [] else deed ∷ done_of (known_by known deed) deeds
