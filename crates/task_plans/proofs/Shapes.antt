-- The shape of an outcome that is put together by a plan is the one that the plan has.
use Rattle.std.proofs.Common.{◌≡◌, ℕ, ◌-◌, Bool, true, false, Option, None, Some, List, [], ◌∷◌, ◌++◌, length, map, replicate, refl, sym, ap, ◌∙◌, subst, ⊎_elim, append-nil, length-append}
use Rattle.std.specs.List.{AllByRecursion}
use Rattle.std.specs.Option.{is_some}
use Rattle.std.proofs.lemmas.Bool.{cond-true, cond-false}
use Rattle.task_types.specs.declared.outcome.Place.{Place}
use Rattle.task_types.specs.declared.outcome.Place.TheVariants.{Null, Child, Task}
use Rattle.task_types.specs.declared.outcome.Places.{Places}
use Rattle.task_types.specs.declared.outcome.NewTask.{NewTask}
use Rattle.task_types.specs.declared.outcome.NewChunk.{NewChunk}
use Rattle.task_types.specs.declared.outcome.Outcome.{Outcome}
use Rattle.task_types.specs.Presence.{Presence, has_child, presence_at}
use Rattle.task_types.specs.Places.{filled, Shape, shape_from, shape_of}
use Rattle.task_plans.specs.declared.plan.Part.{Part}
use Rattle.task_plans.specs.declared.plan.Part.TheVariants.{Portion, Itself, Alone, Either, Pair}
use Rattle.task_plans.specs.declared.plan.Ending.{Ending}
use Rattle.task_plans.specs.declared.plan.Ending.TheVariants.{Joined, Single}
use Rattle.task_plans.specs.declared.portions.Portions.{Portions}
use Rattle.task_plans.specs.declared.sketch.Sketch.{Sketch}
use Rattle.task_plans.specs.Portions.{portion_in}
use Rattle.task_plans.specs.Plans.{Plan, Draft, task_of, term_task, is_ready, with_portion, with_itself, with_alone, with_either, with_pair, with_part, with_parts, are_null, shape_with, given_shape, ended, planned_shape}
use Rattle.task_plans.specs.Outcomes.{given, bare_chunk}
use Rattle.task_plans.specs.Sketches.{draft_of, bare_chunks, sketched, all_sketched, outcome_of, blank, planned_outcome}
use Rattle.task_plans.specs.Steps.{IsChosen, AreChosen}
use Rattle.task_plans.proofs.Lists.{true_or_false, all-both}
use Rattle.task_plans.proofs.Steps.{left_is}

-- ---- The draft of a sketch

portion_chunks : {C K : Type 0} (chunks : List (NewChunk C)) (tasks : List (NewTask K)) (places : List Place) (kind : K) (content : Option C)
    → record (with_portion (record { chunks = length chunks; tasks = tasks; places = places }) kind (is_some content)) { chunks = length (chunks ++ bare_chunks content) } ≡ with_portion (record { chunks = length chunks; tasks = tasks; places = places }) kind (is_some content)
portion_chunks {C} {K} chunks tasks places kind None =
    let draft : Draft K = record { chunks = length chunks; tasks = tasks; places = places } in
    ap (λ (all : List (NewChunk C)). record (with_portion draft kind false) { chunks = length all }) (append-nil chunks)
portion_chunks {C} {K} chunks tasks places kind (Some content) =
    let draft : Draft K = record { chunks = length chunks; tasks = tasks; places = places } in
    ap (λ n. record (with_portion draft kind true) { chunks = n }) (length-append chunks (bare_chunk content ∷ []))

itself_chunks : {K : Type 0} (draft : Draft K) (place : Place) (a : Bool)
    → record (with_itself draft place a) { chunks = draft.chunks } ≡ with_itself draft place a
itself_chunks draft place false = refl
itself_chunks draft place true = refl

alone_chunks : {K : Type 0} (draft : Draft K) (task : NewTask K) (a : Bool)
    → record (with_alone draft task a) { chunks = draft.chunks } ≡ with_alone draft task a
alone_chunks draft task false = refl
alone_chunks draft task true = refl

either_chunks : {K : Type 0} (draft : Draft K) (kind : K) (q : ℕ) (a b : Bool)
    → record (with_either draft kind q a b) { chunks = draft.chunks } ≡ with_either draft kind q a b
either_chunks draft kind q false false = refl
either_chunks draft kind q true false = refl
either_chunks draft kind q false true = refl
either_chunks draft kind q true true = refl

pair_chunks : {K : Type 0} (draft : Draft K) (one other : NewTask K) (sum : K) (a b : Bool)
    → record (with_pair draft one other sum a b) { chunks = draft.chunks } ≡ with_pair draft one other sum a b
pair_chunks draft one other sum false false = refl
pair_chunks draft one other sum true false = refl
pair_chunks draft one other sum false true = refl
pair_chunks draft one other sum true true = refl

part_drafted : {C O K : Type 0} (kinds : O → K) (known : List Presence) (chosen : Presence) (sketch : Sketch C K) (part : Part O)
    → IsChosen chosen sketch.portions part
    → draft_of (sketched kinds known sketch part) ≡ with_part kinds known chosen (draft_of sketch) part
part_drafted kinds known chosen sketch (Portion what q symmetric) agree =
    portion_chunks sketch.chunks sketch.tasks sketch.places (kinds what) (portion_in sketch.portions q)
    ∙ ap (λ a. with_portion (draft_of sketch) (kinds what) a) (sym agree)
part_drafted kinds known chosen sketch (Itself i q) agree = itself_chunks (draft_of sketch) (Child i q) (has_child (presence_at known i) q)
part_drafted kinds known chosen sketch (Alone term) agree = alone_chunks (draft_of sketch) (term_task kinds term) (is_ready known term)
part_drafted kinds known chosen sketch (Either what q) agree =
    either_chunks (draft_of sketch) (kinds what) q (has_child (presence_at known 0) q) (has_child (presence_at known 1) q)
part_drafted kinds known chosen sketch (Pair one other sum) agree =
    pair_chunks (draft_of sketch) (term_task kinds one) (term_task kinds other) (kinds sum) (is_ready known one) (is_ready known other)

-- the parts make the draft of the plan
parts_drafted : {C O K : Type 0} (kinds : O → K) (known : List Presence) (chosen : Presence) (sketch : Sketch C K) (parts : List (Part O))
    → AreChosen chosen sketch.portions parts
    → draft_of (all_sketched kinds known sketch parts) ≡ with_parts kinds known chosen (draft_of sketch) parts
parts_drafted kinds known chosen sketch [] agree = refl
parts_drafted {C} {O} {K} kinds known chosen sketch (part ∷ parts) agree =
    parts_drafted kinds known chosen (sketched kinds known sketch part) parts (subst (λ (portions : Portions C). AreChosen chosen portions parts) (sym (left_is kinds known sketch part)) agree.1)
    ∙ ap (λ (draft : Draft K). with_parts kinds known chosen draft parts) (part_drafted kinds known chosen sketch part agree.0)

-- ---- The chunks of a sketch

-- a new chunk has no children
abbrev IsBare : {C : Type 0} → NewChunk C → Type 0
IsBare chunk = chunk.children ≡ filled []

-- so the children of bare chunks are known from their number
bare_children : {C : Type 0} (chunks : List (NewChunk C)) → AllByRecursion IsBare chunks
    → map (λ (chunk : NewChunk C). chunk.children) chunks ≡ replicate (length chunks) (filled [])
bare_children [] all = refl
bare_children (chunk ∷ chunks) all = cc (all.0, bare_children chunks all.1)

bare_more : {C : Type 0} (chunks : List (NewChunk C)) (content : Option C) → AllByRecursion IsBare chunks
    → AllByRecursion IsBare (chunks ++ bare_chunks content)
bare_more chunks None all = all-both IsBare chunks [] all tt
bare_more chunks (Some content) all = all-both IsBare chunks (bare_chunk content ∷ []) all (refl, tt)

bare_step : {C O K : Type 0} (kinds : O → K) (known : List Presence) (sketch : Sketch C K) (part : Part O) → AllByRecursion IsBare sketch.chunks
    → AllByRecursion IsBare (sketched kinds known sketch part).chunks
bare_step kinds known sketch (Portion what q symmetric) all = bare_more sketch.chunks (portion_in sketch.portions q) all
bare_step kinds known sketch (Itself i q) all = all
bare_step kinds known sketch (Alone term) all = all
bare_step kinds known sketch (Either what q) all = all
bare_step kinds known sketch (Pair one other sum) all = all

-- parts make bare chunks
all_bare : {C O K : Type 0} (kinds : O → K) (known : List Presence) (sketch : Sketch C K) (parts : List (Part O)) → AllByRecursion IsBare sketch.chunks
    → AllByRecursion IsBare (all_sketched kinds known sketch parts).chunks
all_bare kinds known sketch [] all = all
all_bare kinds known sketch (part ∷ parts) all =
    all_bare kinds known (sketched kinds known sketch part) parts (bare_step kinds known sketch part all)

-- ---- The shape

-- the shape of an outcome after its ending
shape_ended : {C O K : Type 0} (kinds : O → K) (ending : Ending O) (sketch : Sketch C K) → AllByRecursion IsBare sketch.chunks
    → shape_of (outcome_of kinds ending sketch) ≡ ended kinds ending (draft_of sketch)
shape_ended kinds Single sketch all =
    ap (λ (children : List Places). shape_from children sketch.tasks (filled sketch.places).first) (bare_children sketch.chunks all)
shape_ended {C} {O} {K} kinds (Joined what) sketch all =
    let tasks : List (NewTask K) = sketch.tasks ++ task_of (kinds what) (filled sketch.places) ∷ [] in
    let output : Place = Task (length sketch.tasks) in
    let whole : Outcome C K = record { chunks = sketch.chunks; tasks = tasks; result = output } in
    let nothing : Outcome C K = given Null in
    let null = are_null sketch.places in
    let shape : Shape K = shape_with (length sketch.chunks) tasks output in
    let none : Shape K = given_shape Null in
    ⊎_elim
    (λ e. ap shape_of (cond-true null nothing whole e) ∙ sym (cond-true null none shape e))
    (λ e. ap shape_of (cond-false null nothing whole e) ∙ ap (λ (children : List Places). shape_from children tasks output) (bare_children sketch.chunks all) ∙ sym (cond-false null none shape e))
    (true_or_false null)

-- is the plan's
pub shape_planned : {C O K : Type 0} (kind_at : ℕ → O → K) (height : ℕ) (plan : Plan O) (portions : Portions C) (known : List Presence) (chosen : Presence)
    → AreChosen chosen portions plan.parts
    → shape_of (planned_outcome kind_at height plan portions known) ≡ planned_shape kind_at height plan known chosen
shape_planned {C} {O} {K} kind_at height plan portions known chosen agree =
    let start : Sketch C K = blank portions in
    shape_ended (kind_at height) plan.ending (all_sketched (kind_at (height - 1)) known start plan.parts) (all_bare (kind_at (height - 1)) known start plan.parts tt)
    ∙ ap (ended (kind_at height) plan.ending) (parts_drafted (kind_at (height - 1)) known chosen start plan.parts agree)
