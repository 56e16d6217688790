-- What calls of an engine leave that give its caller one more reference.
use Rattle.std.specs.Prelude.{◌≡◌, ℕ, ◌+◌, ◌≤◌, Bool, true, false, List, [], ◌∷◌, ◌++◌, Option, None, Some, Result, Ok, Err, ℤ}
use Rattle.std.specs.FinMap as map
use Rattle.cht_ids.specs.declared.memory.Memory.{Memory}
use Rattle.cht_ids.specs.declared.refs.Ref.{Ref}
use Rattle.cht_ids.specs.declared.refs.Ref.TheVariants.{Null, Id as Held}
use Rattle.task_types.specs.Tree.{Tree, Nothing}
use Rattle.cht_history.specs.declared.event.Event.{Event}
use Rattle.cht_history.specs.declared.event.Event.TheVariants.{Ask, Collect}
use Rattle.cht_engine.specs.Seen.{Seen, tree_named}
use Rattle.cht_engine.specs.Calls.{trees_named, IsOutput}
use Rattle.quad_matrix.specs.declared.chunk.MatChunk.{MatChunk}
use Rattle.quad_matrix.specs.declared.chunk.MatChunk.TheVariants as chunk
use Rattle.quad_matrix.specs.declared.chunk.Entries.{Entries}
use Rattle.quad_matrix.specs.declared.kind.MatKind.{MatKind}
use Rattle.mm_text.specs.declared.market.Form.{Form}
use Rattle.cht_script.specs.Statements.{is_symmetric}
use Rattle.quad_matrix.specs.Spots.{AreSoundEntries}
use Rattle.quad_matrix.specs.Blocks.{alone, number_of}
use Rattle.quad_matrix.specs.Goals.{kind_of, goal_of, IsDefined}
use Rattle.quad_matrix.specs.Works.{work_of}
use Rattle.cht_session.specs.declared.held.Binding.{Binding}
use Rattle.cht_session.specs.declared.operation.Operation.{Operation}
use Rattle.cht_session.specs.Forms.{inputs_asked, trace_asked, what_asked, what_listed}
use Rattle.cht_session.specs.Operations.{verb_of, fits_by}
use Rattle.cht_session.specs.Numbers.{root_peak}
use Rattle.cht_session.specs.Program.{AreOfList, deletes}
use Rattle.cht_session.specs.Held.{Names}

-- the identifiers have one more reference to a tree: a new one, or null where the tree is nothing
abbrev pub IsGiven : Names → Tree MatChunk → Ref → Names → Type 0
IsGiven names tree Null later = (tree ≡ Nothing) × (later ≡ names)
IsGiven names tree (Held id) later =
    (map.get names id.number ≡ None) × (later ≡ map.insert names id.number (record { owner = id.owner; tree = tree }))

-- a kind was asked of some references, and its output collected
pub record IsAnswered (before after : Seen MatChunk MatKind) (kind : MatKind) (inputs : List Ref) (r : Ref) : Type 0 where
  pub caller : after.caller ≡ before.caller
  pub asks : after.asks ≡ before.asks
  pub names : IsGiven before.names (goal_of kind (trees_named before inputs)) r after.names
  pub account : after.account ≡ before.account + work_of kind (trees_named before inputs)
  pub output : IsOutput before (goal_of kind (trees_named before inputs)) r
  pub task : ℕ
  pub told : after.events ≡ before.events ++ Ask before.caller task kind inputs ∷ Collect before.caller task r ∷ []

-- what want of memory leaves: the identifiers are as before, and nothing is asked
pub record IsUndone (before after : Seen MatChunk MatKind) : Type 0 where
  pub caller : after.caller ≡ before.caller
  pub asks : after.asks ≡ map.empty
  pub names : after.names ≡ before.names

-- whether an operation on two matrices fits, by what the roots of their trees tell
abbrev pub fits_at : Seen MatChunk MatKind → Operation → Binding → Binding → Bool
fits_at seen operation a b =
    fits_by operation a.shape.rows a.shape.columns (root_peak (tree_named seen a.at)) (root_peak (tree_named seen b.at))

-- the task that does it, by the forms of both, at a height
abbrev pub kind_for : ℕ → Operation → Binding → Binding → MatKind
kind_for height operation a b = kind_of (what_asked (verb_of operation) a.shape.form b.shape.form) height

-- its inputs
abbrev pub inputs_for : Operation → Binding → Binding → List Ref
inputs_for operation a b = inputs_asked (verb_of operation) a.at b.at

-- where it fits, its goal is defined
abbrev pub IsReadyPair : Seen MatChunk MatKind → ℕ → Operation → Binding → Binding → Type 0
IsReadyPair seen height operation a b =
    fits_at seen operation a b ≡ true → IsDefined (kind_for height operation a b) (trees_named seen (inputs_for operation a b))

-- the answer for a task that is asked of some references
abbrev pub Answers : Seen MatChunk MatKind → Seen MatChunk MatKind → MatKind → List Ref → Result Ref Memory → Type 0
Answers before after kind inputs (Ok r) = IsAnswered before after kind inputs r
Answers before after kind inputs (Err memory) = IsUndone before after

-- the answer for an operation
abbrev pub Combines : Seen MatChunk MatKind → Seen MatChunk MatKind → ℕ → Operation → Binding → Binding → Result (Option Ref) Memory → Type 0
Combines before after height operation a b (Ok None) = (fits_at before operation a b ≡ false) × (after ≡ before)
Combines before after height operation a b (Ok (Some r)) =
    (fits_at before operation a b ≡ true) × IsAnswered before after (kind_for height operation a b) (inputs_for operation a b) r
Combines before after height operation a b (Err memory) = IsUndone before after

-- the task that makes the tree of a list of entries in a form
abbrev pub kind_listed : Form → Entries → MatKind
kind_listed form entries = kind_of (what_listed form) entries.height

-- a list of entries in a form was registered, its tree asked and collected, and the list deleted
pub record IsAssigned (before after : Seen MatChunk MatKind) (form : Form) (entries : Entries) (r : Ref) : Type 0 where
  pub caller : after.caller ≡ before.caller
  pub asks : after.asks ≡ before.asks
  pub names : IsGiven before.names (goal_of (kind_listed form entries) (alone (chunk.Entries entries) ∷ [])) r after.names
  pub account : after.account ≡ before.account + work_of (kind_listed form entries) (alone (chunk.Entries entries) ∷ [])
  pub events : List (Event MatKind)
  pub of_list : AreOfList before.caller (kind_listed form entries) false r events
  pub told : after.events ≡ before.events ++ events

-- the answer for a list of entries
abbrev pub Assigns : Seen MatChunk MatKind → Seen MatChunk MatKind → Form → Entries → Result Ref Memory → Type 0
Assigns before after form entries (Ok r) = IsAssigned before after form entries r
Assigns before after form entries (Err memory) = IsUndone before after

-- a task of a kind was asked of a reference, and its output, a number, collected, read and deleted
pub record IsTraced (before after : Seen MatChunk MatKind) (kind : MatKind) (at : Ref) (number : ℤ) : Type 0 where
  pub caller : after.caller ≡ before.caller
  pub asks : after.asks ≡ before.asks
  pub names : after.names ≡ before.names
  pub number_is : number ≡ number_of (goal_of kind (tree_named before at ∷ []))
  pub account : after.account ≡ before.account + work_of kind (tree_named before at ∷ [])
  pub r : Ref
  pub null : IsOutput before (goal_of kind (tree_named before at ∷ [])) r
  pub task : ℕ
  pub told : after.events ≡ before.events ++ ((Ask before.caller task kind (at ∷ []) ∷ Collect before.caller task r ∷ []) ++ deletes before.caller (r ∷ []))

-- the task that sums the diagonal of a matrix in a form, at a height
abbrev pub kind_traced : Form → ℕ → MatKind
kind_traced form height = kind_of (trace_asked form) height

-- the answer for a trace
abbrev pub Traces : Seen MatChunk MatKind → Seen MatChunk MatKind → MatKind → Ref → Result ℤ Memory → Type 0
Traces before after kind at (Ok number) = IsTraced before after kind at number
Traces before after kind at (Err memory) = IsUndone before after

-- what is known of a list of entries in a form that is to be assigned, if there is one
abbrev pub IsAssignable : Form → Option Entries → Type 0
IsAssignable form None = Unit {0}
IsAssignable form (Some entries) =
    AreSoundEntries entries.leaf entries.height (is_symmetric form) entries × (entries.leaf ≤ 64) × (entries.height ≤ 16)

-- the answer for a list of entries, if there is one; null where there is none, and then nothing is asked
abbrev pub AssignsAny : Seen MatChunk MatKind → Seen MatChunk MatKind → Form → Option Entries → Result Ref Memory → Type 0
AssignsAny before after form None (Ok r) = (r ≡ Null) × (after ≡ before)
AssignsAny before after form None (Err memory) = ⊥
AssignsAny before after form (Some entries) answer = Assigns before after form entries answer
