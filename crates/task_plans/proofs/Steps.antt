-- Each part of a plan that gives its tree adds a place that reads as this tree.
use Rattle.std.proofs.Common.{◌≡◌, ℕ, zero, suc, ◌+◌, ◌≤◌, Bool, true, false, ◌&&◌, Option, None, Some, List, [], ◌∷◌, ◌++◌, length, map, refl, sym, ap, ◌∙◌, subst, arith, append_assoc, append-nil, length-append, length-take, add-zero}
use Rattle.std.specs.List.{list_all}
use Rattle.std.specs.Option.{is_some}
use Rattle.std.proofs.lemmas.Bool.{false≢true}
use Rattle.std.proofs.lemmas.List.{length-map}
use Rattle.task_types.specs.declared.outcome.Place.{Place}
use Rattle.task_types.specs.declared.outcome.Place.TheVariants.{Null, Child, Chunk, Task}
use Rattle.task_types.specs.declared.outcome.Places.{Places}
use Rattle.task_types.specs.declared.outcome.NewTask.{NewTask}
use Rattle.task_types.specs.declared.outcome.NewChunk.{NewChunk}
use Rattle.task_types.specs.Tree.{Tree, Nothing, Root, tree_at, child, is_there}
use Rattle.task_types.specs.Presence.{Presence, presence_of, presence_at, has_child}
use Rattle.task_types.specs.Places.{places_of, filled}
use Rattle.task_types.specs.Formed.{may_stand}
use Rattle.task_types.specs.Reading.{reading}
use Rattle.task_types.specs.Meanings.{Meanings}
use Rattle.task_types.proofs.FormedTest.{both_left, both_right}
use Rattle.task_plans.specs.declared.plan.Part.{Part}
use Rattle.task_plans.specs.declared.plan.Part.TheVariants.{Portion, Itself, Alone, Either, Pair}
use Rattle.task_plans.specs.declared.portions.Portions.{Portions}
use Rattle.task_plans.specs.declared.sketch.Sketch.{Sketch}
use Rattle.task_plans.specs.Portions.{portion_in}
use Rattle.task_plans.specs.Plans.{Draft, task_of, with_portion, with_itself, with_alone, with_either, with_pair, is_ready}
use Rattle.task_plans.specs.Outcomes.{bare_chunk}
use Rattle.task_plans.specs.Sketches.{draft_of, bare_chunks, sketched, all_sketched}
use Rattle.task_plans.specs.Stage.{IsStage}
use Rattle.task_plans.specs.Steps.{alone_tree, MayAsk, PortionGives, AloneGives, EitherGives, PairGives, PartGives, PartsGive, left_by}
use Rattle.task_plans.proofs.Lists.{both_pass}
use Rattle.task_plans.proofs.Simple.{presence_at-trees}
use Rattle.task_plans.proofs.Stage as stage

-- whether a child is there, of a tree of which this is known
child_there : {C : Type 0} (tree : Tree C) (q : ℕ) → has_child (presence_of tree) q ≡ is_there (child tree q)
child_there Nothing q = refl
child_there (Root content a b c d) zero = refl
child_there (Root content a b c d) (suc zero) = refl
child_there (Root content a b c d) (suc (suc zero)) = refl
child_there (Root content a b c d) (suc (suc (suc zero))) = refl
child_there (Root content a b c d) (suc (suc (suc (suc q)))) = refl

module _ {C K : Type 0} (arity : C → ℕ) (lib : Meanings C K) (rank : ℕ) (inputs : List (Tree C)) where
  -- as many places as trees
  places_count : (chunks : List (NewChunk C)) (tasks : List (NewTask K)) (places : List Place) (trees : List (Tree C))
      → IsStage arity lib rank inputs chunks tasks places trees → length places ≡ length trees
  places_count chunks tasks places trees before = sym (length-map places _) ∙ ap length (before.read [] [])

  -- one more place that reads as a tree
  one_given : (chunks : List (NewChunk C)) (tasks : List (NewTask K)) (places : List Place) (trees : List (Tree C)) (place : Place) (tree : Tree C)
      → may_stand (map presence_of inputs) 0 0 place ≡ true → reading inputs [] [] place ≡ tree
      → IsStage arity lib rank inputs chunks tasks places trees
      → IsStage arity lib rank inputs chunks tasks (places ++ place ∷ []) (trees ++ tree ∷ [])
  one_given chunks tasks places trees place tree stands reads before =
      subst (λ (tree : Tree C). IsStage arity lib rank inputs chunks tasks (places ++ place ∷ []) (trees ++ tree ∷ [])) reads
      (stage.given arity lib rank inputs chunks tasks places trees place stands before)

  -- more places
  all_given : (chunks : List (NewChunk C)) (tasks : List (NewTask K)) (places : List Place) (trees : List (Tree C)) (more : List Place)
      → list_all (may_stand (map presence_of inputs) 0 0) more ≡ true
      → IsStage arity lib rank inputs chunks tasks places trees
      → IsStage arity lib rank inputs chunks tasks (places ++ more) (trees ++ map (reading inputs [] []) more)
  all_given chunks tasks places trees [] stand before =
      subst (λ (places : List Place). IsStage arity lib rank inputs chunks tasks places (trees ++ [])) (sym (append-nil places))
      (subst (λ (trees : List (Tree C)). IsStage arity lib rank inputs chunks tasks places trees) (sym (append-nil trees)) before)
  all_given chunks tasks places trees (place ∷ more) stand before =
      let known : List Presence = map presence_of inputs in
      let tree : Tree C = reading inputs [] [] place in
      let first = stage.given arity lib rank inputs chunks tasks places trees place (both_left (may_stand known 0 0 place) (list_all (may_stand known 0 0) more) stand) before in
      let rest = all_given chunks tasks (places ++ place ∷ []) (trees ++ tree ∷ []) more (both_right (may_stand known 0 0 place) (list_all (may_stand known 0 0) more) stand) first in
      subst (λ (places : List Place). IsStage arity lib rank inputs chunks tasks places (trees ++ tree ∷ map (reading inputs [] []) more)) (append_assoc places (place ∷ []) more)
      (subst (λ (trees : List (Tree C)). IsStage arity lib rank inputs chunks tasks ((places ++ place ∷ []) ++ more) trees) (append_assoc trees (tree ∷ []) (map (reading inputs [] []) more)) rest)

  -- a task on inputs and their children
  task_asked : (chunks : List (NewChunk C)) (tasks : List (NewTask K)) (places : List Place) (trees : List (Tree C)) (kind : K) (taken : List Place)
      → list_all (may_stand (map presence_of inputs) 0 0) taken ≡ true → length taken ≤ 4 → MayAsk lib rank kind (map (reading inputs [] []) taken)
      → IsStage arity lib rank inputs chunks tasks places trees
      → IsStage arity lib rank inputs chunks (tasks ++ record { kind = kind; inputs = filled taken } ∷ []) (places ++ Task (length tasks) ∷ []) (trees ++ lib.goal kind (map (reading inputs [] []) taken) ∷ [])
  task_asked chunks tasks places trees kind taken stand few may before =
      stage.asked arity lib rank inputs chunks tasks places taken trees (map (reading inputs [] []) taken) kind (places_count chunks tasks places trees before) few may.defined may.lower (all_given chunks tasks places trees taken stand before)

  -- the same stage by other names
  same_stage : (chunks : List (NewChunk C)) (tasks others : List (NewTask K)) (places named : List Place) (trees wanted : List (Tree C))
      → tasks ≡ others → places ≡ named → trees ≡ wanted → IsStage arity lib rank inputs chunks tasks places trees
      → IsStage arity lib rank inputs chunks others named wanted
  same_stage chunks tasks others places named trees wanted e f g before =
      subst (λ (tasks : List (NewTask K)). IsStage arity lib rank inputs chunks tasks named wanted) e
      (subst (λ (places : List Place). IsStage arity lib rank inputs chunks tasks places wanted) f
      (subst (λ (trees : List (Tree C)). IsStage arity lib rank inputs chunks tasks places trees) g before))

  -- a task with these places
  plain_asked : (chunks : List (NewChunk C)) (tasks : List (NewTask K)) (places : List Place) (trees : List (Tree C)) (kind : K) (taken : Places)
      → taken ≡ filled (places_of taken) → list_all (may_stand (map presence_of inputs) 0 0) (places_of taken) ≡ true
      → MayAsk lib rank kind (map (reading inputs [] []) (places_of taken))
      → IsStage arity lib rank inputs chunks tasks places trees
      → IsStage arity lib rank inputs chunks (tasks ++ record { kind = kind; inputs = taken } ∷ []) (places ++ Task (length tasks) ∷ []) (trees ++ lib.goal kind (map (reading inputs [] []) (places_of taken)) ∷ [])
  plain_asked chunks tasks places trees kind taken plain stand may before =
      let four : List Place = taken.first ∷ taken.second ∷ taken.third ∷ taken.fourth ∷ [] in
      let few : length (places_of taken) ≤ 4 = omega (arith, length-take taken.count four) in
      subst (λ (inputs' : Places). IsStage arity lib rank inputs chunks (tasks ++ record { kind = kind; inputs = inputs' } ∷ []) (places ++ Task (length tasks) ∷ []) (trees ++ lib.goal kind (map (reading inputs [] []) (places_of taken)) ∷ [])) (sym plain)
      (task_asked chunks tasks places trees kind (places_of taken) stand few may before)

  -- a task whose output is wanted
  wanted_task : (chunks : List (NewChunk C)) (tasks : List (NewTask K)) (places : List Place) (trees : List (Tree C)) (kind : K) (taken : Places) (wanted : Tree C)
      → taken ≡ filled (places_of taken) → list_all (may_stand (map presence_of inputs) 0 0) (places_of taken) ≡ true
      → MayAsk lib rank kind (map (reading inputs [] []) (places_of taken)) → lib.goal kind (map (reading inputs [] []) (places_of taken)) ≡ wanted
      → IsStage arity lib rank inputs chunks tasks places trees
      → IsStage arity lib rank inputs chunks (tasks ++ record { kind = kind; inputs = taken } ∷ []) (places ++ Task (length tasks + 0) ∷ []) (trees ++ wanted ∷ [])
  wanted_task chunks tasks places trees kind taken wanted plain stand may goal before =
      let asked : List (NewTask K) = tasks ++ record { kind = kind; inputs = taken } ∷ [] in
      same_stage chunks asked asked (places ++ Task (length tasks) ∷ []) (places ++ Task (length tasks + 0) ∷ []) (trees ++ lib.goal kind (map (reading inputs [] []) (places_of taken)) ∷ []) (trees ++ wanted ∷ [])
      refl (ap (λ n. places ++ Task n ∷ []) (sym (add-zero (length tasks)))) (ap (λ (tree : Tree C). trees ++ tree ∷ []) goal)
      (plain_asked chunks tasks places trees kind taken plain stand may before)

  -- ---- One part

  itself_step : (chunks : List (NewChunk C)) (draft : Draft K) (trees : List (Tree C)) (place : Place) (wanted : Tree C) (a : Bool)
      → may_stand (map presence_of inputs) 0 0 place ≡ a → (a ≡ false → Nothing ≡ wanted) → (a ≡ true → reading inputs [] [] place ≡ wanted)
      → IsStage arity lib rank inputs chunks draft.tasks draft.places trees
      → IsStage arity lib rank inputs chunks (with_itself draft place a).tasks (with_itself draft place a).places (trees ++ wanted ∷ [])
  itself_step chunks draft trees place wanted false e none some before =
      one_given chunks draft.tasks draft.places trees Null wanted refl (none refl) before
  itself_step chunks draft trees place wanted true e none some before =
      one_given chunks draft.tasks draft.places trees place wanted e (some refl) before

  alone_step : (chunks : List (NewChunk C)) (draft : Draft K) (trees : List (Tree C)) (kind : K) (taken : Places) (wanted : Tree C) (a : Bool)
      → taken ≡ filled (places_of taken) → list_all (may_stand (map presence_of inputs) 0 0) (places_of taken) ≡ a
      → AloneGives lib rank kind (map (reading inputs [] []) (places_of taken)) wanted a
      → IsStage arity lib rank inputs chunks draft.tasks draft.places trees
      → IsStage arity lib rank inputs chunks (with_alone draft (task_of kind taken) a).tasks (with_alone draft (task_of kind taken) a).places (trees ++ wanted ∷ [])
  alone_step chunks draft trees kind taken wanted false p e gives before =
      one_given chunks draft.tasks draft.places trees Null wanted refl gives before
  alone_step chunks draft trees kind taken wanted true p e gives before =
      wanted_task chunks draft.tasks draft.places trees kind taken wanted p e gives.may gives.same before

  either_step : (chunks : List (NewChunk C)) (draft : Draft K) (trees : List (Tree C)) (kind : K) (q : ℕ) (wanted : Tree C) (a b : Bool)
      → has_child (presence_at (map presence_of inputs) 0) q ≡ a → has_child (presence_at (map presence_of inputs) 1) q ≡ b
      → EitherGives lib rank kind (child (tree_at inputs 0) q) (child (tree_at inputs 1) q) wanted a b
      → IsStage arity lib rank inputs chunks draft.tasks draft.places trees
      → IsStage arity lib rank inputs chunks (with_either draft kind q a b).tasks (with_either draft kind q a b).places (trees ++ wanted ∷ [])
  either_step chunks draft trees kind q wanted false false e f gives before =
      one_given chunks draft.tasks draft.places trees Null wanted refl gives before
  either_step chunks draft trees kind q wanted true false e f gives before =
      one_given chunks draft.tasks draft.places trees (Child 0 q) wanted e gives before
  either_step chunks draft trees kind q wanted false true e f gives before =
      one_given chunks draft.tasks draft.places trees (Child 1 q) wanted f gives before
  either_step chunks draft trees kind q wanted true true e f gives before =
      wanted_task chunks draft.tasks draft.places trees kind (filled (Child 0 q ∷ Child 1 q ∷ [])) wanted refl (both_pass (has_child (presence_at (map presence_of inputs) 0) q) (has_child (presence_at (map presence_of inputs) 1) q && true) e (both_pass (has_child (presence_at (map presence_of inputs) 1) q) true f refl)) gives.may gives.same before

  pair_step : (chunks : List (NewChunk C)) (draft : Draft K) (trees : List (Tree C)) (one other sum : K) (first second : Places) (wanted : Tree C) (a b : Bool)
      → first ≡ filled (places_of first) → second ≡ filled (places_of second)
      → list_all (may_stand (map presence_of inputs) 0 0) (places_of first) ≡ a → list_all (may_stand (map presence_of inputs) 0 0) (places_of second) ≡ b
      → PairGives lib rank one (map (reading inputs [] []) (places_of first)) other (map (reading inputs [] []) (places_of second)) sum wanted a b
      → IsStage arity lib rank inputs chunks draft.tasks draft.places trees
      → IsStage arity lib rank inputs chunks (with_pair draft (task_of one first) (task_of other second) sum a b).tasks (with_pair draft (task_of one first) (task_of other second) sum a b).places (trees ++ wanted ∷ [])
  pair_step chunks draft trees one other sum first second wanted false false p q e f gives before =
      one_given chunks draft.tasks draft.places trees Null wanted refl gives before
  pair_step chunks draft trees one other sum first second wanted true false p q e f gives before =
      wanted_task chunks draft.tasks draft.places trees one first wanted p e gives.may gives.same before
  pair_step chunks draft trees one other sum first second wanted false true p q e f gives before =
      wanted_task chunks draft.tasks draft.places trees other second wanted q f gives.may gives.same before
  pair_step chunks draft trees one other sum first second wanted true true p q e f gives before =
      let n = length draft.tasks in
      let asked : List Place → List (Tree C) = λ places. map (reading inputs [] []) places in
      let first_task : NewTask K = task_of one first in
      let second_task : NewTask K = task_of other second in
      let both : NewTask K = task_of sum (filled (Task n ∷ Task (n + 1) ∷ [])) in
      let g1 : Tree C = lib.goal one (asked (places_of first)) in
      let g2 : Tree C = lib.goal other (asked (places_of second)) in
      let goal : Tree C = lib.goal sum (g1 ∷ g2 ∷ []) in
      let with_one : List (NewTask K) = draft.tasks ++ first_task ∷ [] in
      let with_two : List (NewTask K) = with_one ++ second_task ∷ [] in
      let m : length with_one ≡ n + 1 = length-append draft.tasks (first_task ∷ []) in
      let k : length with_two ≡ n + 2 = omega (arith, length-append with_one (second_task ∷ []), m) in
      let s1 = plain_asked chunks draft.tasks draft.places trees one first p e gives.0 before in
      let s2 = plain_asked chunks with_one (draft.places ++ Task n ∷ []) (trees ++ g1 ∷ []) other second q f gives.1 s1 in
      let places : (draft.places ++ Task n ∷ []) ++ Task (length with_one) ∷ [] ≡ draft.places ++ (Task n ∷ Task (n + 1) ∷ []) = append_assoc draft.places (Task n ∷ []) (Task (length with_one) ∷ []) ∙ ap (λ i. draft.places ++ (Task n ∷ Task i ∷ [])) m in
      let s3 = same_stage chunks with_two with_two ((draft.places ++ Task n ∷ []) ++ Task (length with_one) ∷ []) (draft.places ++ (Task n ∷ Task (n + 1) ∷ [])) ((trees ++ g1 ∷ []) ++ g2 ∷ []) (trees ++ (g1 ∷ g2 ∷ [])) refl places (append_assoc trees (g1 ∷ []) (g2 ∷ [])) s2 in
      let s4 = stage.asked arity lib rank inputs chunks with_two draft.places (Task n ∷ Task (n + 1) ∷ []) trees (g1 ∷ g2 ∷ []) sum (places_count chunks draft.tasks draft.places trees before) (omega arith) gives.2.may.defined gives.2.may.lower s3 in
      same_stage chunks (with_two ++ both ∷ []) (draft.tasks ++ (first_task ∷ second_task ∷ both ∷ [])) (draft.places ++ Task (length with_two) ∷ []) (draft.places ++ Task (n + 2) ∷ []) (trees ++ goal ∷ []) (trees ++ wanted ∷ [])
      (append_assoc with_one (second_task ∷ []) (both ∷ []) ∙ append_assoc draft.tasks (first_task ∷ []) (second_task ∷ both ∷ []))
      (ap (λ i. draft.places ++ Task i ∷ []) k)
      (ap (λ (tree : Tree C). trees ++ tree ∷ []) gives.2.same) s4

  portion_step : (chunks : List (NewChunk C)) (draft : Draft K) (trees : List (Tree C)) (kind : K) (content : Option C) (wanted : Tree C)
      → draft.chunks ≡ length chunks → PortionGives arity lib rank kind content wanted
      → IsStage arity lib rank inputs chunks draft.tasks draft.places trees
      → IsStage arity lib rank inputs (chunks ++ bare_chunks content) (with_portion draft kind (is_some content)).tasks (with_portion draft kind (is_some content)).places (trees ++ wanted ∷ [])
  portion_step chunks draft trees kind None wanted count gives before =
      subst (λ (chunks : List (NewChunk C)). IsStage arity lib rank inputs chunks draft.tasks (draft.places ++ Null ∷ []) (trees ++ wanted ∷ [])) (sym (append-nil chunks))
      (one_given chunks draft.tasks draft.places trees Null wanted refl gives before)
  portion_step chunks draft trees kind (Some content) wanted count gives before =
      let chunk : NewChunk C = bare_chunk content in
      let n = length draft.tasks in
      let tree : Tree C = alone_tree content in
      let goal : Tree C = lib.goal kind (tree ∷ []) in
      let asked = λ (i : ℕ). draft.tasks ++ task_of kind (filled (Chunk i ∷ [])) ∷ [] in
      let s1 = same_stage chunks draft.tasks draft.tasks draft.places (draft.places ++ []) trees (trees ++ []) refl (sym (append-nil draft.places)) (sym (append-nil trees)) before in
      let s2 = stage.made arity lib rank inputs chunks draft.tasks draft.places [] trees [] content (places_count chunks draft.tasks draft.places trees before) (omega arith) (sym gives.0) refl s1 in
      let s3 = stage.asked arity lib rank inputs (chunks ++ chunk ∷ []) draft.tasks draft.places (Chunk (length chunks) ∷ []) trees (tree ∷ []) kind (places_count chunks draft.tasks draft.places trees before) (omega arith) gives.1.may.defined gives.1.may.lower s2 in
      same_stage (chunks ++ chunk ∷ []) (asked (length chunks)) (asked draft.chunks) (draft.places ++ Task n ∷ []) (draft.places ++ Task (n + 0) ∷ []) (trees ++ goal ∷ []) (trees ++ wanted ∷ [])
      (ap asked (sym count)) (ap (λ i. draft.places ++ Task i ∷ []) (sym (add-zero n))) (ap (λ (tree : Tree C). trees ++ tree ∷ []) gives.1.same) s3

-- ---- Parts

-- a child that is not there is nothing
child_missing : {C : Type 0} (tree : Tree C) → is_there tree ≡ false → Nothing ≡ tree
child_missing Nothing e = refl
child_missing (Root content a b c d) e = absurd (false≢true (sym e))

-- the child of an input that is known to be there
child_known : {C : Type 0} (inputs : List (Tree C)) (i q : ℕ) → has_child (presence_at (map presence_of inputs) i) q ≡ is_there (child (tree_at inputs i) q)
child_known inputs i q = ap (λ (presence : Presence). has_child presence q) (presence_at-trees inputs i) ∙ child_there (tree_at inputs i) q

part_step : {C O K : Type 0} (arity : C → ℕ) (lib : Meanings C K) (rank : ℕ) (inputs : List (Tree C)) (kinds : O → K) (sketch : Sketch C K) (trees : List (Tree C)) (part : Part O) (wanted : Tree C)
    → PartGives arity lib rank kinds inputs sketch.portions part wanted
    → IsStage arity lib rank inputs sketch.chunks sketch.tasks sketch.places trees
    → IsStage arity lib rank inputs (sketched kinds (map presence_of inputs) sketch part).chunks (sketched kinds (map presence_of inputs) sketch part).tasks (sketched kinds (map presence_of inputs) sketch part).places (trees ++ wanted ∷ [])
part_step arity lib rank inputs kinds sketch trees (Portion what q symmetric) wanted gives before =
    portion_step arity lib rank inputs sketch.chunks (draft_of sketch) trees (kinds what) (portion_in sketch.portions q) wanted refl gives before
part_step arity lib rank inputs kinds sketch trees (Itself i q) wanted gives before =
    let there : has_child (presence_at (map presence_of inputs) i) q ≡ is_there (child (tree_at inputs i) q) = child_known inputs i q in
    itself_step arity lib rank inputs sketch.chunks (draft_of sketch) trees (Child i q) wanted (has_child (presence_at (map presence_of inputs) i) q) refl
    (λ e. child_missing (child (tree_at inputs i) q) (sym there ∙ e) ∙ gives) (λ e. gives) before
part_step arity lib rank inputs kinds sketch trees (Alone term) wanted gives before =
    alone_step arity lib rank inputs sketch.chunks (draft_of sketch) trees (kinds term.what) term.inputs wanted (is_ready (map presence_of inputs) term) gives.0 refl gives.1 before
part_step arity lib rank inputs kinds sketch trees (Either what q) wanted gives before =
    let known : List Presence = map presence_of inputs in
    let there : Bool → Bool → Type 0 = λ a b. EitherGives lib rank (kinds what) (child (tree_at inputs 0) q) (child (tree_at inputs 1) q) wanted a b in
    either_step arity lib rank inputs sketch.chunks (draft_of sketch) trees (kinds what) q wanted (has_child (presence_at known 0) q) (has_child (presence_at known 1) q) refl refl
    (subst (λ a. there a (has_child (presence_at known 1) q)) (sym (child_known inputs 0 q)) (subst (there (is_there (child (tree_at inputs 0) q))) (sym (child_known inputs 1 q)) gives)) before
part_step arity lib rank inputs kinds sketch trees (Pair one other sum) wanted gives before =
    pair_step arity lib rank inputs sketch.chunks (draft_of sketch) trees (kinds one.what) (kinds other.what) (kinds sum) one.inputs other.inputs wanted (is_ready (map presence_of inputs) one) (is_ready (map presence_of inputs) other) gives.0 gives.1 refl refl gives.2 before

-- what a part leaves of the portions
pub left_is : {C O K : Type 0} (kinds : O → K) (known : List Presence) (sketch : Sketch C K) (part : Part O)
    → (sketched kinds known sketch part).portions ≡ left_by sketch.portions part
left_is kinds known sketch (Portion what q symmetric) = refl
left_is kinds known sketch (Itself i q) = refl
left_is kinds known sketch (Alone term) = refl
left_is kinds known sketch (Either what q) = refl
left_is kinds known sketch (Pair one other sum) = refl

-- parts that give trees add places that read as these
pub parts_step : {C O K : Type 0} (arity : C → ℕ) (lib : Meanings C K) (rank : ℕ) (inputs : List (Tree C)) (kinds : O → K) (sketch : Sketch C K) (trees : List (Tree C)) (parts : List (Part O)) (wanted : List (Tree C))
    → PartsGive arity lib rank kinds inputs sketch.portions parts wanted
    → IsStage arity lib rank inputs sketch.chunks sketch.tasks sketch.places trees
    → IsStage arity lib rank inputs (all_sketched kinds (map presence_of inputs) sketch parts).chunks (all_sketched kinds (map presence_of inputs) sketch parts).tasks (all_sketched kinds (map presence_of inputs) sketch parts).places (trees ++ wanted)
parts_step arity lib rank inputs kinds sketch trees [] [] gives before =
    same_stage arity lib rank inputs sketch.chunks sketch.tasks sketch.tasks sketch.places sketch.places trees (trees ++ []) refl refl (sym (append-nil trees)) before
parts_step arity lib rank inputs kinds sketch trees [] (tree ∷ wanted) gives before = absurd gives
parts_step arity lib rank inputs kinds sketch trees (part ∷ parts) [] gives before = absurd gives
parts_step {C} {O} {K} arity lib rank inputs kinds sketch trees (part ∷ parts) (tree ∷ wanted) gives before =
    let next : Sketch C K = sketched kinds (map presence_of inputs) sketch part in
    let end : Sketch C K = all_sketched kinds (map presence_of inputs) next parts in
    let rest : PartsGive arity lib rank kinds inputs next.portions parts wanted = subst (λ (portions : Portions C). PartsGive arity lib rank kinds inputs portions parts wanted) (sym (left_is kinds (map presence_of inputs) sketch part)) gives.1 in
    same_stage arity lib rank inputs end.chunks end.tasks end.tasks end.places end.places ((trees ++ tree ∷ []) ++ wanted) (trees ++ tree ∷ wanted) refl refl (append_assoc trees (tree ∷ []) wanted)
    (parts_step arity lib rank inputs kinds next (trees ++ tree ∷ []) parts wanted rest (part_step arity lib rank inputs kinds sketch trees part tree gives.0 before))
