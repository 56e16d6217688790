-- A control state and the events that led to it.
use Rattle.std.proofs.Common.{◌≡◌, ℕ, nat_cmp, List, [], ◌∷◌, ◌++◌, Option, None, Some, refl, sym, ap, subst, ◌∙◌}
use Rattle.std.specs.Option.{option_map, option_and_then}
use Rattle.std.specs.FinMap as map
use Rattle.task_types.specs.Meanings.{Meanings}
use Rattle.name_states.specs.WithoutContents.{without_content, each_value}
use Rattle.name_states.specs.States.{BodyRecord}
use Rattle.name_states.proofs.Basics.{none_not_some, same_some}
use Rattle.name_states.proofs.Values.{get_each_value}
use Rattle.task_states.specs.States.{no_tasks}
use Rattle.task_states.proofs.Maps.{same_maps}
use Rattle.cht_history.specs.declared.event.Event.{Event}
use Rattle.name_machine.specs.States.{Machine}
use Rattle.name_machine.specs.Machine.{IsStep, LeadsTo}
use Rattle.name_machine.specs.Control.{no_control}
use Rattle.name_machine.specs.Replay.{Plans, Replayed, happens, replay_from}
use Rattle.name_machine.specs.Forgetting.{forgotten}
use Rattle.name_machine.specs.Standing.{machine_of}
use Rattle.name_machine.specs.Laws.{OpeningComesOfNone, EventsLeadOn}
use Rattle.name_machine.proofs.Runs.{facts_hold}
use Rattle.name_machine.proofs.Forgets.{forgetting_replays}
use Rattle.name_machine.proofs.Stand.{opening_stands}
use Rattle.name_machine.proofs.StandsStep.{stands_step}
use Rattle.name_machine.proofs.KeepsOrder.{opening_is_orderly, keeps_order}

module _ {K : Type 0} (plans : Plans K) where
  after_first : (one other : Replayed K → Option (Replayed K)) (mid last : Replayed K) → ((c : Replayed K) → one c ≡ Some mid → other c ≡ Some last)
      → (o : Option (Replayed K)) → option_and_then one o ≡ Some mid → option_and_then other o ≡ Some last
  after_first one other mid last on None is = absurd (none_not_some refl is)
  after_first one other mid last on (Some c) is = on c is

  -- one more event at the end of a replay
  replay_more : (control mid last : Replayed K) (events : List (Event K)) (event : Event K) → replay_from plans control events ≡ Some mid → happens plans mid event ≡ Some last
      → replay_from plans control (events ++ event ∷ []) ≡ Some last
  replay_more control mid last [] event is next =
      ap (λ c. option_and_then (λ (n : Replayed K). Some n) (happens plans c event)) (same_some control mid is) ∙ ap (option_and_then (λ (n : Replayed K). Some n)) next
  replay_more control mid last (first ∷ events) event is next =
      after_first (λ n. replay_from plans n events) (λ n. replay_from plans n (events ++ event ∷ [])) mid last (λ c some. replay_more c mid last events event some next) (happens plans control first) is

module _ {C K : Type 0} (lib : Meanings C K) (arity : C → ℕ) where
  -- one more step at the end of a run
  leads_more : (before mid after : Machine C K) (events : List (Event K)) (event : Event K) → LeadsTo lib arity before events mid → IsStep lib arity mid event after
      → LeadsTo lib arity before (events ++ event ∷ []) after
  leads_more before mid after [] event run step = (after, subst (λ m. IsStep lib arity m event after) run step, refl)
  leads_more before mid after (first ∷ events) event run step = (run.0, run.1, leads_more run.0 mid after events event run.2 step)

  no_contents : forgotten arity (no_control {B = C} {G = Unit {0}} {K = K}) ≡ no_control
  no_contents =
      let bodies : each_value (without_content arity) (map.empty {X = BodyRecord C} {R = nat_cmp}) ≡ map.empty =
      same_maps _ _ (λ q.
      get_each_value (without_content arity) map.empty q ∙ ap (option_map (without_content arity)) (map.get-empty nat_cmp q) ∙ sym (map.get-empty nat_cmp q)) in
      λ i. record { drawn = 0; names = record { ids = map.empty; bodies = bodies i }; asks = map.empty; graph = no_tasks }

  module _ (plans : Plans K) where
    pub opening_comes_of_none : OpeningComesOfNone lib arity plans
    opening_comes_of_none = record {
      ordered = opening_is_orderly K arity;
      run = opening_stands lib;
      replayed = ap Some (sym no_contents);
    }

    pub events_lead_on : EventsLeadOn lib arity plans
    events_lead_on events control contents event comes wanted as_many allowed =
        let facts = facts_hold lib arity events (machine_of lib control) comes.run in
        record {
          ordered = keeps_order lib arity plans control contents event comes.ordered facts wanted allowed;
          run = leads_more _ (machine_of lib control) _ events event comes.run (stands_step lib arity plans control contents event comes.ordered facts wanted allowed);
          replayed = replay_more plans no_control (forgotten arity control) _ events event comes.replayed (forgetting_replays arity plans control contents event as_many allowed);
        }
