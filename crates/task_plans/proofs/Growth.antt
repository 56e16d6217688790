-- How a sketch grows: part by part, and by at most one chunk and three tasks for each.
use Rattle.std.proofs.Common.{◌≡◌, ℕ, zero, suc, ◌+◌, ◌*◌, ◌<◌, ◌≤◌, Bool, true, false, Option, None, Some, List, [], ◌∷◌, ◌++◌, length, take, get_or, refl, sym, ap, ◌∙◌, subst, arith, add-one, length-append, length-take}
use Rattle.task_types.specs.declared.outcome.Place.{Place}
use Rattle.task_types.specs.declared.outcome.Place.TheVariants.{Child}
use Rattle.task_types.specs.declared.outcome.NewTask.{NewTask}
use Rattle.task_types.specs.declared.outcome.NewChunk.{NewChunk}
use Rattle.task_types.specs.Presence.{Presence, has_child, presence_at}
use Rattle.task_plans.specs.declared.plan.Part.{Part}
use Rattle.task_plans.specs.declared.plan.Part.TheVariants.{Portion, Itself, Alone, Either, Pair}
use Rattle.task_plans.specs.declared.portions.Portions.{Portions}
use Rattle.task_plans.specs.declared.sketch.Sketch.{Sketch}
use Rattle.task_plans.specs.Portions.{portion_in, without, AreSound}
use Rattle.task_plans.specs.Plans.{Draft, with_portion, with_itself, with_alone, with_either, with_pair, is_ready, term_task}
use Rattle.task_plans.specs.Sketches.{draft_of, is_left, bare_chunks, sketched, all_sketched, blank}

-- ---- One more part

-- one more part behind the first ones
sketched_next : {C O K : Type 0} (kinds : O → K) (known : List Presence) (sketch : Sketch C K) (parts : List (Part O)) (i : ℕ) (part : Part O) → i < length parts
    → all_sketched kinds known sketch (take (suc i) parts) ≡ sketched kinds known (all_sketched kinds known sketch (take i parts)) (get_or parts i part)
sketched_next kinds known sketch [] i part h = absurd (omega arith)
sketched_next kinds known sketch (first ∷ parts) zero part h = refl
sketched_next kinds known sketch (first ∷ parts) (suc i) part h =
    sketched_next kinds known (sketched kinds known sketch first) parts i part (omega arith)

pub sketched_more : {C O K : Type 0} (kinds : O → K) (known : List Presence) (sketch drawn : Sketch C K) (parts : List (Part O)) (i : ℕ) (part : Part O)
    → i < length parts → part ≡ get_or parts i part → drawn ≡ all_sketched kinds known sketch (take i parts)
    → sketched kinds known drawn part ≡ all_sketched kinds known sketch (take (i + 1) parts)
sketched_more {C} {O} {K} kinds known sketch drawn parts i part h at e =
    ap (λ (sketch : Sketch C K). sketched kinds known sketch part) e
    ∙ ap (λ (part : Part O). sketched kinds known (all_sketched kinds known sketch (take i parts)) part) at
    ∙ sym (sketched_next kinds known sketch parts i part h)
    ∙ ap (λ n. all_sketched kinds known sketch (take n parts)) (sym (add-one i))

-- ---- The tasks, the places and the chunks of one more part

portion_tasks : {K : Type 0} (draft : Draft K) (kind : K) (a : Bool) → length (with_portion draft kind a).tasks ≤ length draft.tasks + 3
portion_tasks {K} draft kind false = omega arith
portion_tasks {K} draft kind true = omega (arith, length-append {A = NewTask K})

itself_tasks : {K : Type 0} (draft : Draft K) (place : Place) (a : Bool) → length (with_itself draft place a).tasks ≤ length draft.tasks + 3
itself_tasks {K} draft place false = omega arith
itself_tasks {K} draft place true = omega arith

alone_tasks : {K : Type 0} (draft : Draft K) (task : NewTask K) (a : Bool) → length (with_alone draft task a).tasks ≤ length draft.tasks + 3
alone_tasks {K} draft task false = omega arith
alone_tasks {K} draft task true = omega (arith, length-append {A = NewTask K})

either_tasks : {K : Type 0} (draft : Draft K) (kind : K) (q : ℕ) (a b : Bool) → length (with_either draft kind q a b).tasks ≤ length draft.tasks + 3
either_tasks {K} draft kind q false false = omega arith
either_tasks {K} draft kind q true false = omega arith
either_tasks {K} draft kind q false true = omega arith
either_tasks {K} draft kind q true true = omega (arith, length-append {A = NewTask K})

pair_tasks : {K : Type 0} (draft : Draft K) (one other : NewTask K) (sum : K) (a b : Bool) → length (with_pair draft one other sum a b).tasks ≤ length draft.tasks + 3
pair_tasks {K} draft one other sum false false = omega arith
pair_tasks {K} draft one other sum true false = omega (arith, length-append {A = NewTask K})
pair_tasks {K} draft one other sum false true = omega (arith, length-append {A = NewTask K})
pair_tasks {K} draft one other sum true true = omega (arith, length-append {A = NewTask K})

few_more_tasks : {C O K : Type 0} (kinds : O → K) (known : List Presence) (sketch : Sketch C K) (part : Part O)
    → length (sketched kinds known sketch part).tasks ≤ length sketch.tasks + 3
few_more_tasks kinds known sketch (Portion what q symmetric) = portion_tasks (draft_of sketch) (kinds what) (is_left sketch q)
few_more_tasks kinds known sketch (Itself i q) = itself_tasks (draft_of sketch) (Child i q) (has_child (presence_at known i) q)
few_more_tasks kinds known sketch (Alone term) = alone_tasks (draft_of sketch) (term_task kinds term) (is_ready known term)
few_more_tasks kinds known sketch (Either what q) =
    either_tasks (draft_of sketch) (kinds what) q (has_child (presence_at known 0) q) (has_child (presence_at known 1) q)
few_more_tasks kinds known sketch (Pair one other sum) =
    pair_tasks (draft_of sketch) (term_task kinds one) (term_task kinds other) (kinds sum) (is_ready known one) (is_ready known other)

portion_places : {K : Type 0} (draft : Draft K) (kind : K) (a : Bool) → length (with_portion draft kind a).places ≡ length draft.places + 1
portion_places draft kind false = omega (arith, length-append {A = Place})
portion_places draft kind true = omega (arith, length-append {A = Place})

itself_places : {K : Type 0} (draft : Draft K) (place : Place) (a : Bool) → length (with_itself draft place a).places ≡ length draft.places + 1
itself_places draft place false = omega (arith, length-append {A = Place})
itself_places draft place true = omega (arith, length-append {A = Place})

alone_places : {K : Type 0} (draft : Draft K) (task : NewTask K) (a : Bool) → length (with_alone draft task a).places ≡ length draft.places + 1
alone_places draft task false = omega (arith, length-append {A = Place})
alone_places draft task true = omega (arith, length-append {A = Place})

either_places : {K : Type 0} (draft : Draft K) (kind : K) (q : ℕ) (a b : Bool) → length (with_either draft kind q a b).places ≡ length draft.places + 1
either_places draft kind q false false = omega (arith, length-append {A = Place})
either_places draft kind q true false = omega (arith, length-append {A = Place})
either_places draft kind q false true = omega (arith, length-append {A = Place})
either_places draft kind q true true = omega (arith, length-append {A = Place})

pair_places : {K : Type 0} (draft : Draft K) (one other : NewTask K) (sum : K) (a b : Bool) → length (with_pair draft one other sum a b).places ≡ length draft.places + 1
pair_places draft one other sum false false = omega (arith, length-append {A = Place})
pair_places draft one other sum true false = omega (arith, length-append {A = Place})
pair_places draft one other sum false true = omega (arith, length-append {A = Place})
pair_places draft one other sum true true = omega (arith, length-append {A = Place})

one_more_place : {C O K : Type 0} (kinds : O → K) (known : List Presence) (sketch : Sketch C K) (part : Part O)
    → length (sketched kinds known sketch part).places ≡ length sketch.places + 1
one_more_place kinds known sketch (Portion what q symmetric) = portion_places (draft_of sketch) (kinds what) (is_left sketch q)
one_more_place kinds known sketch (Itself i q) = itself_places (draft_of sketch) (Child i q) (has_child (presence_at known i) q)
one_more_place kinds known sketch (Alone term) = alone_places (draft_of sketch) (term_task kinds term) (is_ready known term)
one_more_place kinds known sketch (Either what q) =
    either_places (draft_of sketch) (kinds what) q (has_child (presence_at known 0) q) (has_child (presence_at known 1) q)
one_more_place kinds known sketch (Pair one other sum) =
    pair_places (draft_of sketch) (term_task kinds one) (term_task kinds other) (kinds sum) (is_ready known one) (is_ready known other)

portion_chunks : {C : Type 0} (chunks : List (NewChunk C)) (content : Option C) → length (chunks ++ bare_chunks content) ≤ length chunks + 1
portion_chunks {C} chunks None = omega (arith, length-append {A = NewChunk C})
portion_chunks {C} chunks (Some content) = omega (arith, length-append {A = NewChunk C})

few_more_chunks : {C O K : Type 0} (kinds : O → K) (known : List Presence) (sketch : Sketch C K) (part : Part O)
    → length (sketched kinds known sketch part).chunks ≤ length sketch.chunks + 1
few_more_chunks kinds known sketch (Portion what q symmetric) = portion_chunks sketch.chunks (portion_in sketch.portions q)
few_more_chunks kinds known sketch (Itself i q) = omega arith
few_more_chunks kinds known sketch (Alone term) = omega arith
few_more_chunks kinds known sketch (Either what q) = omega arith
few_more_chunks kinds known sketch (Pair one other sum) = omega arith

-- ---- Those of some parts

few_tasks : {C O K : Type 0} (kinds : O → K) (known : List Presence) (sketch : Sketch C K) (parts : List (Part O))
    → length (all_sketched kinds known sketch parts).tasks ≤ length sketch.tasks + 3 * length parts
few_tasks kinds known sketch [] = omega arith
few_tasks kinds known sketch (part ∷ parts) =
    omega (arith, few_tasks kinds known (sketched kinds known sketch part) parts, few_more_tasks kinds known sketch part)

few_chunks : {C O K : Type 0} (kinds : O → K) (known : List Presence) (sketch : Sketch C K) (parts : List (Part O))
    → length (all_sketched kinds known sketch parts).chunks ≤ length sketch.chunks + length parts
few_chunks kinds known sketch [] = omega arith
few_chunks kinds known sketch (part ∷ parts) =
    omega (arith, few_chunks kinds known (sketched kinds known sketch part) parts, few_more_chunks kinds known sketch part)

places_count : {C O K : Type 0} (kinds : O → K) (known : List Presence) (sketch : Sketch C K) (parts : List (Part O))
    → length (all_sketched kinds known sketch parts).places ≡ length sketch.places + length parts
places_count kinds known sketch [] = omega arith
places_count kinds known sketch (part ∷ parts) =
    omega (arith, places_count kinds known (sketched kinds known sketch part) parts, one_more_place kinds known sketch part)

-- there is room for one more part
pub room_for_tasks : {C O K : Type 0} (kinds : O → K) (known : List Presence) (sketch drawn : Sketch C K) (parts : List (Part O)) (i : ℕ) → length parts ≤ 4
    → i < length parts → sketch.tasks ≡ [] → drawn ≡ all_sketched kinds known sketch (take i parts) → length drawn.tasks ≤ 12
room_for_tasks {C} {O} {K} kinds known sketch drawn parts i few h e drew =
    let tasks : length drawn.tasks ≡ length (all_sketched kinds known sketch (take i parts)).tasks = ap (λ (sketch : Sketch C K). length sketch.tasks) drew in
    let none : length sketch.tasks ≡ 0 = ap length e in
    omega (arith, few_tasks kinds known sketch (take i parts), length-take i parts)

pub room_for_chunks : {C O K : Type 0} (kinds : O → K) (known : List Presence) (sketch drawn : Sketch C K) (parts : List (Part O)) (i : ℕ) → length parts ≤ 4
    → i < length parts → sketch.chunks ≡ [] → drawn ≡ all_sketched kinds known sketch (take i parts) → length drawn.chunks ≤ 12
room_for_chunks {C} {O} {K} kinds known sketch drawn parts i few h e drew =
    let chunks : length drawn.chunks ≡ length (all_sketched kinds known sketch (take i parts)).chunks = ap (λ (sketch : Sketch C K). length sketch.chunks) drew in
    let none : length sketch.chunks ≡ 0 = ap length e in
    omega (arith, few_chunks kinds known sketch (take i parts), length-take i parts)

-- and after at most four parts for one more task; there are at most four places and four chunks then
pub planned_tasks : {C O K : Type 0} (kinds : O → K) (known : List Presence) (portions : Portions C) (parts : List (Part O)) → length parts ≤ 4
    → length (all_sketched kinds known (blank portions) parts).tasks ≤ 15
planned_tasks kinds known portions parts few = omega (arith, few_tasks kinds known (blank portions) parts)

pub planned_places : {C O K : Type 0} (kinds : O → K) (known : List Presence) (portions : Portions C) (parts : List (Part O)) → length parts ≤ 4
    → length (all_sketched kinds known (blank portions) parts).places ≤ 4
planned_places kinds known portions parts few = omega (arith, places_count kinds known (blank portions) parts)

pub planned_chunks : {C O K : Type 0} (kinds : O → K) (known : List Presence) (portions : Portions C) (parts : List (Part O)) → length parts ≤ 4
    → length (all_sketched kinds known (blank portions) parts).chunks ≤ 8
planned_chunks kinds known portions parts few = omega (arith, few_chunks kinds known (blank portions) parts)

pub drawn_tasks : {C O K : Type 0} (kinds : O → K) (known : List Presence) (portions : Portions C) (parts : List (Part O)) (sketch drawn : Sketch C K)
    → length parts ≤ 4 → drawn ≡ all_sketched kinds known sketch parts → sketch ≡ blank portions → length drawn.tasks ≤ 15
drawn_tasks {C} {O} {K} kinds known portions parts sketch drawn few e f =
    subst (λ (drawn : Sketch C K). length drawn.tasks ≤ 15) (sym (e ∙ ap (λ (sketch : Sketch C K). all_sketched kinds known sketch parts) f)) (planned_tasks kinds known portions parts few)

pub drawn_places : {C O K : Type 0} (kinds : O → K) (known : List Presence) (portions : Portions C) (parts : List (Part O)) (sketch drawn : Sketch C K)
    → length parts ≤ 4 → drawn ≡ all_sketched kinds known sketch parts → sketch ≡ blank portions → length drawn.places ≤ 4
drawn_places {C} {O} {K} kinds known portions parts sketch drawn few e f =
    subst (λ (drawn : Sketch C K). length drawn.places ≤ 4) (sym (e ∙ ap (λ (sketch : Sketch C K). all_sketched kinds known sketch parts) f)) (planned_places kinds known portions parts few)

-- ---- What is left stays sound

sound_without : {C : Type 0} (sound : C → Type 0) (portions : Portions C) (q : ℕ) → AreSound sound portions → AreSound sound (without portions q)
sound_without sound portions zero are = record { first = tt; second = are.second; third = are.third; fourth = are.fourth }
sound_without sound portions (suc zero) are = record { first = are.first; second = tt; third = are.third; fourth = are.fourth }
sound_without sound portions (suc (suc zero)) are = record { first = are.first; second = are.second; third = tt; fourth = are.fourth }
sound_without sound portions (suc (suc (suc zero))) are = record { first = are.first; second = are.second; third = are.third; fourth = tt }
sound_without sound portions (suc (suc (suc (suc q)))) are = are

sound_left : {C O K : Type 0} (sound : C → Type 0) (kinds : O → K) (known : List Presence) (sketch : Sketch C K) (part : Part O)
    → AreSound sound sketch.portions → AreSound sound (sketched kinds known sketch part).portions
sound_left sound kinds known sketch (Portion what q symmetric) are = sound_without sound sketch.portions q are
sound_left sound kinds known sketch (Itself i q) are = are
sound_left sound kinds known sketch (Alone term) are = are
sound_left sound kinds known sketch (Either what q) are = are
sound_left sound kinds known sketch (Pair one other sum) are = are

all_sound_left : {C O K : Type 0} (sound : C → Type 0) (kinds : O → K) (known : List Presence) (sketch : Sketch C K) (parts : List (Part O))
    → AreSound sound sketch.portions → AreSound sound (all_sketched kinds known sketch parts).portions
all_sound_left sound kinds known sketch [] are = are
all_sound_left sound kinds known sketch (part ∷ parts) are =
    all_sound_left sound kinds known (sketched kinds known sketch part) parts (sound_left sound kinds known sketch part are)

pub sound_after : {C O K : Type 0} (sound : C → Type 0) (kinds : O → K) (known : List Presence) (sketch drawn : Sketch C K) (parts : List (Part O))
    → AreSound sound sketch.portions → drawn ≡ all_sketched kinds known sketch parts → AreSound sound drawn.portions
sound_after {C} {O} {K} sound kinds known sketch drawn parts are e =
    subst (λ (drawn : Sketch C K). AreSound sound drawn.portions) (sym e) (all_sound_left sound kinds known sketch parts are)
