-- A new core, and one whose caller holds nothing any more.
use Rattle.std.proofs.Common.{◌≡◌, ℕ, ◌+◌, nat_cmp, List, [], filter, count_by, Some, Result, Ok, Err, IfOk, sym, ap, ◌∙◌, arith}
use Rattle.std.specs.FinMap as map
use Rattle.cht_ids.specs.declared.memory.Memory.{Memory}
use Rattle.task_types.specs.Meanings.{Meanings}
use Rattle.name_states.specs.WithoutContents.{without_content, each_value}
use Rattle.name_states.proofs.Values.{get_each_value}
use Rattle.task_states.proofs.Options.{map_behind}
use Rattle.cht_history.specs.declared.event.Event.{Event}
use Rattle.name_machine.specs.States.{Machine, opening}
use Rattle.name_machine.specs.Control.{Control}
use Rattle.name_machine.specs.Facts.{HoldsTogether}
use Rattle.name_machine.specs.Forgetting.{forgotten}
use Rattle.name_machine.specs.Parts.{is_callers_own, finishes_of, named_for, goal_for, names_of, asks_of, work_for, works_of, work_left, caller_part}
use Rattle.name_machine.specs.Goals.{goal_of}
use Rattle.name_machine.specs.Replay.{Plans, replay}
use Rattle.name_machine.specs.Standing.{HasNothing, HoldsNothing}
use Rattle.name_machine.proofs.Empty.{none_in, no_len, empty_both_ways}
use Rattle.name_machine.proofs.Totals.{total_none}
use Rattle.core_state.specs.Contents.{Contents}
use Rattle.cht_core.specs.Events.{state, Stands}
use Rattle.cht_engine.specs.Seen.{unseen, seen_by}
use Rattle.cht_engine.specs.Closing.{is_finish, AreClosed}
use Rattle.cht_plain.specs.Alone.{seen_of, left, IsAtRest}
use Rattle.cht_plain.proofs.Chosen.{chosen-empty}
use Rattle.cht_plain.proofs.Absent.{none_held, none_asked, none_unfinished, none_stopped, none_left}

-- without contents nothing is nothing
forgotten_nothing : {C K : Type 0} (arity : C → ℕ) (control : Control C (Unit {0}) K) → HasNothing control → HasNothing (forgotten arity control)
forgotten_nothing {C} {K} arity control has = (
  has.0,
  no_len (each_value (without_content arity) control.names.bodies) (λ k b is.
      let behind = map_behind (without_content arity) (map.get control.names.bodies k) b (sym (get_each_value (without_content arity) control.names.bodies k) ∙ is) in
      none_in control.names.bodies has.1 k behind.0 behind.1),
  has.2,
  has.3,
  has.4,
)

module _ {C K : Type 0} (lib : Meanings C K) where
  nothing_left : work_left lib opening 0 ≡ 0
  nothing_left = total_none (works_of lib opening 0) (λ q. ap (λ m. map.get m q) (chosen-empty (work_for lib (goal_of lib opening) 0)) ∙ map.get-empty nat_cmp q)

  seen_at_opening : (machine : Machine C K) (events : List (Event K)) → machine ≡ opening → events ≡ [] → seen_by 0 (caller_part lib machine events 0) ≡ unseen 0
  seen_at_opening machine events is none =
      ap (λ m. seen_by 0 (caller_part lib m events 0)) is
      ∙ ap (λ es. seen_by 0 (caller_part lib opening es 0)) none
      ∙ (λ i. record { caller = 0; names = chosen-empty (named_for 0) i; asks = chosen-empty (goal_for 0) i; account = account i; events = [] })
    where
      account : 0 + work_left lib opening 0 ≡ 0
      account = let e = nothing_left in omega arith

  new_so : (core : Contents C K) → state lib core ≡ opening → core.events ≡ [] → core.callers ≡ 1 → core.workers ≡ 1 → IsAtRest lib core
  new_so core is none callers workers = record {
    alone = record {
      callers = callers;
      workers = workers;
      others = λ caller apart.
          (ap (λ (m : Machine C K). names_of m.holdings caller) is ∙ chosen-empty (named_for caller), ap (λ (m : Machine C K). asks_of m.asks caller) is ∙ chosen-empty (goal_for caller));
      counted = ap (count_by is_finish) none ∙ sym (ap (finishes_of 0) none);
    };
    asks = ap (λ (m : Machine C K). asks_of m.asks 0) is ∙ chosen-empty (goal_for 0);
  }

  pub new_rests : (result : Result (Contents C K) Memory) → IfOk result (λ core. state lib core ≡ opening) → IfOk result (λ core. core.events ≡ [])
      → IfOk result (λ core. core.callers ≡ 1) → IfOk result (λ core. core.workers ≡ 1) → IfOk result (IsAtRest lib)
  new_rests (Ok core) is none callers workers = new_so core is none callers workers
  new_rests (Err e) is none callers workers = tt

  pub new_seen : (result : Result (Contents C K) Memory) → IfOk result (λ core. state lib core ≡ opening) → IfOk result (λ core. core.events ≡ [])
      → IfOk result (λ core. seen_of lib core ≡ unseen 0)
  new_seen (Ok core) is none = seen_at_opening (state lib core) core.events is none
  new_seen (Err e) is none = tt

  holds_nothing : (core : Contents C K) → IsAtRest lib core → HoldsTogether lib (state lib core) → (seen_of lib core).names ≡ map.empty → HoldsNothing (state lib core)
  holds_nothing core rest facts empty = (
    no_len (state lib core).holdings (none_held lib core rest.alone empty),
    no_len (state lib core).asks (none_asked lib core rest),
    no_len (state lib core).graph.tasks (none_unfinished lib core rest facts),
    none_stopped lib core rest facts,
  )

  pub closed : (arity : C → ℕ) (plans : Plans K) (core : Contents C K) (events : List (Event K)) → IsAtRest lib core → Stands lib arity plans core
      → (seen_of lib core).names ≡ map.empty → events ≡ core.events → replay plans events ≡ Some (forgotten arity core.control) → AreClosed plans (seen_of lib core) events
  closed arity plans core events rest stands empty is replayed =
      let has : HasNothing core.control = (empty_both_ways lib arity core.control stands.comes.ordered).1 (holds_nothing core rest stands.facts empty) in
      let nothing = none_left lib core rest stands.facts in
      let counted : count_by is_finish core.events ≡ finishes_of 0 core.events = rest.alone.counted in
      let sums : count_by is_finish core.events ≡ finishes_of 0 core.events + left lib core = omega arith in
      record {
        empty = (forgotten arity core.control, replayed, forgotten_nothing arity core.control has);
        own = ap (filter (is_callers_own 0)) is;
        finished = ap (count_by is_finish) is ∙ sums;
      }
