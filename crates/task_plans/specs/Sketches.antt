-- How an outcome is put together by a plan, for contents C, operations O and kinds K.
use Rattle.std.specs.Prelude.{ℕ, ◌-◌, Bool, if◌then◌else◌, Option, None, Some, List, [], ◌∷◌, ◌++◌, length}
use Rattle.std.specs.Option.{is_some}
use Rattle.task_types.specs.declared.outcome.Place.TheVariants.{Null, Child, Task}
use Rattle.task_types.specs.declared.outcome.NewChunk.{NewChunk}
use Rattle.task_types.specs.declared.outcome.Outcome.{Outcome}
use Rattle.task_types.specs.Presence.{Presence, has_child, presence_at}
use Rattle.task_types.specs.Places.{filled}
use Rattle.task_plans.specs.declared.plan.Part.{Part}
use Rattle.task_plans.specs.declared.plan.Part.TheVariants.{Portion, Itself, Alone, Either, Pair}
use Rattle.task_plans.specs.declared.plan.Ending.{Ending}
use Rattle.task_plans.specs.declared.plan.Ending.TheVariants.{Joined, Single}
use Rattle.task_plans.specs.declared.portions.Portions.{Portions}
use Rattle.task_plans.specs.declared.sketch.Sketch.{Sketch}
use Rattle.task_plans.specs.Portions.{portion_in, without}
use Rattle.task_plans.specs.Plans.{Plan, Draft, task_of, with_portion, with_itself, with_alone, with_either, with_pair, is_ready, term_task, are_null}
use Rattle.task_plans.specs.Outcomes.{given, bare_chunk}

-- the draft of a sketch: its new chunks by their number
abbrev pub draft_of : {C K : Type 0} → Sketch C K → Draft K
draft_of sketch = record { chunks = length sketch.chunks; tasks = sketch.tasks; places = sketch.places }

-- a sketch with the tasks and the places of a draft
abbrev pub redrawn : {C K : Type 0} → Sketch C K → Draft K → Sketch C K
redrawn sketch draft = record sketch { tasks = draft.tasks; places = draft.places }

-- whether a portion with an entry is left
abbrev pub is_left : {C K : Type 0} → Sketch C K → ℕ → Bool
is_left sketch q = is_some (portion_in sketch.portions q)

-- a content as a chunk without children, if there is one
abbrev pub bare_chunks : {C : Type 0} → Option C → List (NewChunk C)
bare_chunks None = []
bare_chunks (Some content) = bare_chunk content ∷ []

-- a portion, which is taken out of the sketch
abbrev pub with_taken : {C K : Type 0} → Sketch C K → K → ℕ → Sketch C K
with_taken sketch kind q =
    record (redrawn sketch (with_portion (draft_of sketch) kind (is_left sketch q))) {
      portions = without sketch.portions q;
      chunks = sketch.chunks ++ bare_chunks (portion_in sketch.portions q);
    }

-- a sketch with one more part, where this is known of the inputs
abbrev pub sketched : {C O K : Type 0} → (O → K) → List Presence → Sketch C K → Part O → Sketch C K
sketched kinds known sketch (Portion what q symmetric) = with_taken sketch (kinds what) q
sketched kinds known sketch (Itself i q) =
    redrawn sketch (with_itself (draft_of sketch) (Child i q) (has_child (presence_at known i) q))
sketched kinds known sketch (Alone term) =
    redrawn sketch (with_alone (draft_of sketch) (term_task kinds term) (is_ready known term))
sketched kinds known sketch (Either what q) =
    redrawn sketch
    (with_either (draft_of sketch) (kinds what) q (has_child (presence_at known 0) q) (has_child (presence_at known 1) q))
sketched kinds known sketch (Pair one other sum) =
    redrawn sketch
    (with_pair (draft_of sketch) (term_task kinds one) (term_task kinds other) (kinds sum) (is_ready known one) (is_ready known other))

-- with some parts, one after another
abbrev pub all_sketched : {C O K : Type 0} → (O → K) → List Presence → Sketch C K → List (Part O) → Sketch C K
all_sketched kinds known sketch [] = sketch
all_sketched kinds known sketch (part ∷ parts) = all_sketched kinds known (sketched kinds known sketch part) parts

-- the outcome once the ending has come to the parts of a sketch
abbrev pub outcome_of : {C O K : Type 0} → (O → K) → Ending O → Sketch C K → Outcome C K
outcome_of kinds (Joined what) sketch =
    if are_null sketch.places then given Null
    else
    record {
      chunks = sketch.chunks;
      tasks = sketch.tasks ++ task_of (kinds what) (filled sketch.places) ∷ [];
      result = Task (length sketch.tasks);
    }
outcome_of kinds Single sketch =
    record { chunks = sketch.chunks; tasks = sketch.tasks; result = (filled sketch.places).first }

-- a sketch without parts, with these portions
abbrev pub blank : {C K : Type 0} → Portions C → Sketch C K
blank portions = record { portions = portions; chunks = []; tasks = []; places = [] }

-- What a kind of a height of at least 1 answers by its plan, where its inputs are there; `kind_at` gives the kind of each
-- operation at each height.
abbrev pub planned_outcome : {C O K : Type 0} → (ℕ → O → K) → ℕ → Plan O → Portions C → List Presence → Outcome C K
planned_outcome kind_at height plan portions known =
    outcome_of (kind_at height) plan.ending (all_sketched (kind_at (height - 1)) known (blank portions) plan.parts)
