-- What a replay refuses.
use Rattle.std.proofs.Common.{◌≡◌, ℕ, zero, suc, ◌+◌, Bool, true, false, cond, ◌&&◌, not, nat_eq, nat_le, ◌==◌, List, [], ◌∷◌, slice_get, length, Option, Some, None, refl, ap, ◌∙◌}
use Rattle.std.specs.List.{list_all, list_any}
use Rattle.std.specs.FinMap as map
use Rattle.cht_ids.specs.declared.refs.Id.{Id}
use Rattle.cht_ids.specs.declared.refs.Ref.{Ref}
use Rattle.cht_ids.specs.declared.refs.Ref.TheVariants.{Id as Held}
use Rattle.name_states.specs.declared.holder.Holder.{Holder}
use Rattle.name_states.specs.declared.holder.Holder.TheVariants.{Caller as ByCaller, Task as ByTask, Body as ByBody}
use Rattle.name_states.specs.States.{IdRecord, record_of}
use Rattle.name_states.proofs.Basics.{test_same, test_apart}
use Rattle.task_states.specs.declared.states.TaskStatus.{TaskStatus}
use Rattle.task_states.specs.declared.states.TaskStatus.TheVariants.{Unknown, Waiting, Ready, Running}
use Rattle.task_states.specs.States.{Unfinished, status, is_stopped}
use Rattle.cht_history.specs.declared.event.Event.{Event}
use Rattle.cht_history.specs.declared.event.Event.TheVariants.{Register, Copy, Delete, Ask as AskEvent, Collect, Abandon, Stop, Start, GiveBack, Finish}
use Rattle.name_machine.specs.States.{is_of}
use Rattle.name_machine.specs.Control.{tidied, is_uncollected}
use Rattle.name_machine.specs.Replay.{Plans, Replayed, is_id, is_caller, is_callers, is_mine, may_mention, is_ready, runs_nothing, is_runner, is_finish, is_allowed, effect, happens}
use Rattle.name_machine.proofs.Values.{any_from}
use Rattle.name_machine.specs.Laws.{RefusesStrange, DeadIsStrange, OthersAreStrange, UncollectedIsStrange, RefusesOutOfTurn, RefusesNotReady, RefusesSecondStart, RefusesUnplanned}

-- a test that fails makes a longer one fail
left_fails : (a b : Bool) → a ≡ false → (a && b) ≡ false
left_fails a b is = ap (λ t. t && b) is

right_fails : (a b : Bool) → b ≡ false → (a && b) ≡ false
right_fails true b is = is
right_fails false b is = refl

one_fails : {X : Type 0} (test : X → Bool) (items : List X) (i : ℕ) (x : X) → slice_get items i ≡ Some x → test x ≡ false → list_all test items ≡ false
one_fails test [] i x at is = absurd (cc)
one_fails test (y ∷ items) zero x at is = let same : y ≡ x = cc in left_fails (test y) (list_all test items) (ap test same ∙ is)
one_fails test (y ∷ items) (suc i) x at is = right_fails (test y) (list_all test items) (one_fails test items i x at is)

both_hold : (a b : Bool) → a ≡ true → b ≡ true → (a && b) ≡ true
both_hold true b p q = q
both_hold false b p q = absurd (let clash : false ≡ true = p in cc)

-- an output that awaits its caller is in no map
strange_if : {K : Type 0} (control : Replayed K) (caller : ℕ) (id : Id) → list_any (is_uncollected caller id.number) (map.values control.asks) ≡ true
    → (o : Option IdRecord) → is_callers control caller id o ≡ false
strange_if control caller id any None = refl
strange_if control caller id any (Some entry) = right_fails (is_caller caller entry.holder) _ (ap not any)

is_refused : {K : Type 0} (plans : Plans K) (control : Replayed K) (event : Event K) → is_allowed plans control event ≡ false → happens plans control event ≡ None
is_refused plans control event is = ap (λ b. cond b (Some (tidied (effect control event))) None) is

pub dead_is_strange : {K : Type 0} → DeadIsStrange K
dead_is_strange control caller id is = ap (is_callers control caller id) is

other_caller : (holder : Holder) (caller : ℕ) → (holder ≡ ByCaller caller → ⊥) → is_caller caller holder ≡ false
other_caller (ByCaller other) caller apart = test_apart other caller (λ same. apart (ap ByCaller same))
other_caller (ByTask task) caller apart = refl
other_caller (ByBody body) caller apart = refl

pub others_are_strange : {K : Type 0} → OthersAreStrange K
others_are_strange control caller id entry is apart =
    ap (is_callers control caller id) is ∙ left_fails (is_caller caller entry.holder) _ (other_caller entry.holder caller apart)

pub uncollected_is_strange : {K : Type 0} → UncollectedIsStrange K
uncollected_is_strange control caller task id ask there own same delivered =
    let own_test : is_of caller ask ≡ true = ap (λ c. nat_eq c caller) own ∙ test_same caller in
    let same_test : nat_eq ask.number id.number ≡ true = ap (λ n. nat_eq n id.number) same ∙ test_same id.number in
    let passes : is_uncollected caller id.number ask ≡ true = both_hold (is_of caller ask && nat_eq ask.number id.number) _ (both_hold (is_of caller ask) _ own_test same_test) delivered in
    let any = any_from (is_uncollected caller id.number) control.asks task ask there passes in
    strange_if control caller id any (record_of control.names id)

module _ {K : Type 0} (plans : Plans K) where
  pub refuses_strange : RefusesStrange plans
  refuses_strange control (Register by id children) caller m mentions is =
      let one : may_mention control by (Held m) ≡ false = ap (λ c. is_mine control c m) mentions.0 ∙ is in
      is_refused plans control (Register by id children) (left_fails _ (is_id 0 (control.drawn + 2) id) (right_fails (nat_le (length children) 4) _ (one_fails (may_mention control by) children mentions.1 (Held m) mentions.2 one)))
  refuses_strange control (Copy by from to) caller m mentions is =
      is_refused plans control (Copy by from to) (left_fails (is_mine control by from) (is_id from.owner (control.drawn + 1) to) (ap (λ c. is_mine control c from) mentions.0 ∙ ap (is_mine control caller) mentions.1 ∙ is))
  refuses_strange control (Delete by id) caller m mentions is =
      is_refused plans control (Delete by id) (ap (λ c. is_mine control c id) mentions.0 ∙ ap (is_mine control caller) mentions.1 ∙ is)
  refuses_strange control (AskEvent by number kind inputs) caller m mentions is =
      let one : may_mention control by (Held m) ≡ false = ap (λ c. is_mine control c m) mentions.0 ∙ is in
      is_refused plans control (AskEvent by number kind inputs) (left_fails _ (number == control.drawn + 1) (right_fails (not (is_stopped control.graph by)) _ (one_fails (may_mention control by) inputs mentions.1 (Held m) mentions.2 one)))
  refuses_strange control (Collect by number got) caller m mentions is = absurd mentions
  refuses_strange control (Abandon by) caller m mentions is = absurd mentions
  refuses_strange control (Stop by) caller m mentions is = absurd mentions
  refuses_strange control (Start worker number) caller m mentions is = absurd mentions
  refuses_strange control (GiveBack worker number) caller m mentions is = absurd mentions
  refuses_strange control (Finish worker number chunks tasks result) caller m mentions is = absurd mentions

  out_of_turn : (owner number wanted : ℕ) (id : Id) → (id.number ≡ wanted → ⊥) → is_id owner wanted id ≡ false
  out_of_turn owner number wanted id apart = right_fails (id.owner == owner) _ (test_apart id.number wanted apart)

  pub refuses_out_of_turn : RefusesOutOfTurn plans
  refuses_out_of_turn control (Register by id children) apart =
      is_refused plans control (Register by id children) (right_fails (nat_le (length children) 4 && list_all (may_mention control by) children) _ (out_of_turn 0 0 (control.drawn + 2) id apart))
  refuses_out_of_turn control (Copy by from to) apart =
      is_refused plans control (Copy by from to) (right_fails (is_mine control by from) _ (out_of_turn from.owner 0 (control.drawn + 1) to apart))
  refuses_out_of_turn control (Delete by id) apart = absurd (apart tt)
  refuses_out_of_turn control (AskEvent by number kind inputs) apart =
      is_refused plans control (AskEvent by number kind inputs) (right_fails (not (is_stopped control.graph by) && list_all (may_mention control by) inputs) _ (test_apart number (control.drawn + 1) apart))
  refuses_out_of_turn control (Collect by number got) apart = absurd (apart tt)
  refuses_out_of_turn control (Abandon by) apart = absurd (apart tt)
  refuses_out_of_turn control (Stop by) apart = absurd (apart tt)
  refuses_out_of_turn control (Start worker number) apart = absurd (apart tt)
  refuses_out_of_turn control (GiveBack worker number) apart = absurd (apart tt)
  refuses_out_of_turn control (Finish worker number chunks tasks result) apart = absurd (apart tt)

  not_ready : (s : TaskStatus) → (s ≡ Ready → ⊥) → is_ready s ≡ false
  not_ready Unknown apart = refl
  not_ready Waiting apart = refl
  not_ready Ready apart = absurd (apart refl)
  not_ready Running apart = refl

  pub refuses_not_ready : RefusesNotReady plans
  refuses_not_ready control worker task apart = is_refused plans control (Start worker task) (left_fails (is_ready (status control.graph task)) (runs_nothing control worker) (not_ready (status control.graph task) apart))

  run_by : (runner : Option ℕ) (worker : ℕ) → runner ≡ Some worker → is_runner worker runner ≡ true
  run_by runner worker is = ap (is_runner worker) is ∙ test_same worker

  pub refuses_second_start : RefusesSecondStart plans
  refuses_second_start control worker task other unfinished there is =
      is_refused plans control (Start worker task) (right_fails (is_ready (status control.graph task)) _
      (ap not (any_from (λ (t : Unfinished Ref K). is_runner worker t.runner) control.graph.tasks other unfinished there (run_by unfinished.runner worker is))))

  pub refuses_unplanned : RefusesUnplanned plans
  refuses_unplanned control worker task unfinished chunks tasks result there is =
      is_refused plans control (Finish worker task chunks tasks result) (ap (is_finish plans control worker chunks tasks result) there ∙ right_fails (is_runner worker unfinished.runner) _ is)
