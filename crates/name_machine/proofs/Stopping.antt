-- A stopped caller's asks are older than its stop.
use Rattle.std.proofs.Common.{◌≡◌, ℕ, ◌⊎◌, inl, inr, Bool, true, false, not, ◌&&◌, ◌||◌, nat_eq, nat_cmp, List, [], ◌∷◌, ◌++◌, refl, sym, ap, subst, ◌∙◌}
use Rattle.std.specs.List.{list_any}
use Rattle.std.specs.Cmp.{nat_cmp_total, unsigned_tied}
use Rattle.std.specs.FinMap as map
use Rattle.std.specs.FinSet as numbers
use Rattle.task_types.specs.Tree.{Tree, Nothing, Root}
use Rattle.task_types.specs.Meanings.{Meanings}
use Rattle.task_states.specs.States.{is_stopped}
use Rattle.task_types.proofs.FormedTest.{both_right}
use Rattle.name_states.proofs.Basics.{same_or_not, same_from_test, test_same, test_apart, one_of}
use Rattle.cht_history.specs.declared.event.Event.{Event}
use Rattle.cht_history.specs.declared.event.Event.TheVariants.{Register, Copy, Delete, Ask as AskEvent, Collect, Abandon, Stop, Start, GiveBack, Finish}
use Rattle.name_machine.specs.States.{Machine, opening}
use Rattle.name_machine.specs.Steps.{handed}
use Rattle.name_machine.specs.Machine.{owner_of, IsStep, LeadsTo}
use Rattle.name_machine.specs.Laws.{asks_or_abandons, abandons, HasStopLast, StopsAreLast, StopsEnd}
use Rattle.name_machine.proofs.Small.{kept_at_opening}
use Rattle.name_machine.proofs.Finishing.{stopped_final}
use Rattle.name_machine.proofs.Finished.{finished_graph}
use Rattle.name_machine.proofs.Runs.{Kept, step_keeps}

module _ {C K : Type 0} (lib : Meanings C K) (arity : C → ℕ) where
  handed_stopped : (machine : Machine C K) (number caller owner : ℕ) (tree : Tree C) (c : ℕ) → is_stopped (handed machine number caller owner tree).graph c ≡ is_stopped machine.graph c
  handed_stopped machine number caller owner Nothing c = refl
  handed_stopped machine number caller owner (Root content x y z w) c = refl

  -- whether a caller is stopped after an event
  abbrev stopped_then : ℕ → Event K → Bool → Bool
  stopped_then c (Register by id children) was = was
  stopped_then c (Copy by from to) was = was
  stopped_then c (Delete by id) was = was
  stopped_then c (AskEvent by task kind inputs) was = was
  stopped_then c (Collect by task got) was = was
  stopped_then c (Abandon by) was = not (nat_eq c by) && was
  stopped_then c (Stop by) was = nat_eq c by || was
  stopped_then c (Start worker task) was = was
  stopped_then c (GiveBack worker task) was = was
  stopped_then c (Finish worker task chunks tasks result) was = was

  step_stopped : (before after : Machine C K) (event : Event K) (c : ℕ) → Kept lib before → IsStep lib arity before event after
      → is_stopped after.graph c ≡ stopped_then c event (is_stopped before.graph c)
  step_stopped before after (Register by id children) c keeps step = ap (λ (m : Machine C K). is_stopped m.graph c) step.after_is
  step_stopped before after (Copy by from to) c keeps step = ap (λ (m : Machine C K). is_stopped m.graph c) step.after_is
  step_stopped before after (Delete by id) c keeps step = ap (λ (m : Machine C K). is_stopped m.graph c) step.after_is
  step_stopped before after (AskEvent by task kind inputs) c keeps step = ap (λ (m : Machine C K). is_stopped m.graph c) step.after_is
  step_stopped before after (Collect by task got) c keeps step =
      ap (λ (m : Machine C K). is_stopped m.graph c) step.after_is
      ∙ handed_stopped (record before { asks = map.remove before.asks task }) step.ask.number step.ask.caller (owner_of got) step.output c
  step_stopped before after (Abandon by) c keeps step =
      ap (λ (m : Machine C K). is_stopped m.graph c) step.after_is
      ∙ numbers.contains-remove nat_cmp_total before.graph.stopped by c
      ∙ ap (λ b. not b && is_stopped before.graph c) (unsigned_tied c by)
  step_stopped before after (Stop by) c keeps step =
      ap (λ (m : Machine C K). is_stopped m.graph c) step.after_is
      ∙ numbers.contains-insert nat_cmp_total before.graph.stopped by c
      ∙ ap (λ b. b || is_stopped before.graph c) (unsigned_tied c by)
  step_stopped before after (Start worker task) c keeps step = ap (λ (m : Machine C K). is_stopped m.graph c) step.after_is
  step_stopped before after (GiveBack worker task) c keeps step = ap (λ (m : Machine C K). is_stopped m.graph c) step.after_is
  step_stopped before after (Finish worker task chunks tasks result) c keeps step =
      ap (λ (m : Machine C K). is_stopped m.graph c) step.after_is
      ∙ ap (λ g. is_stopped g c) (finished_graph lib arity before keeps task step.unfinished step.there worker step.runs step.outcome step.sound)
      ∙ stopped_final lib arity before.drawn before.graph before.asks keeps task step.unfinished step.there worker step.runs step.outcome step.sound c

  other_test : (a b : ℕ) → (a ≡ b → ⊥) → nat_eq b a ≡ false
  other_test a b apart = test_apart b a (λ same. apart (sym same))

  -- a caller that is stopped after an event was stopped by it, or it was before, and the event is no ask and no abandon of it
  stopped_from : (before after : Machine C K) (event : Event K) (c : ℕ) → Kept lib before → IsStep lib arity before event after → is_stopped after.graph c ≡ true
      → (event ≡ Stop c) ⊎ ((is_stopped before.graph c ≡ true) × (asks_or_abandons c event ≡ false))
  stopped_from before after (Register by id children) c keeps step is = inr (sym (step_stopped before after (Register by id children) c keeps step) ∙ is, refl)
  stopped_from before after (Copy by from to) c keeps step is = inr (sym (step_stopped before after (Copy by from to) c keeps step) ∙ is, refl)
  stopped_from before after (Delete by id) c keeps step is = inr (sym (step_stopped before after (Delete by id) c keeps step) ∙ is, refl)
  stopped_from before after (AskEvent by task kind inputs) c keeps step is =
      let was = sym (step_stopped before after (AskEvent by task kind inputs) c keeps step) ∙ is in
      inr (was, test_apart by c (λ same. let clash : false ≡ true = sym step.goes_on ∙ ap (is_stopped before.graph) same ∙ was in cc))
  stopped_from before after (Collect by task got) c keeps step is = inr (sym (step_stopped before after (Collect by task got) c keeps step) ∙ is, refl)
  stopped_from before after (Abandon by) c keeps step is =
      let was = sym (step_stopped before after (Abandon by) c keeps step) ∙ is in
      elim (same_or_not c by) [
        | inl same ↦ absurd (let clash : false ≡ true = sym (ap (λ b. not b && is_stopped before.graph c) (ap (λ k. nat_eq k by) same ∙ test_same by)) ∙ was in cc)
        | inr apart ↦ inr (both_right (not (nat_eq c by)) (is_stopped before.graph c) was, other_test c by apart)
      ]
  stopped_from before after (Stop by) c keeps step is =
      let was = sym (step_stopped before after (Stop by) c keeps step) ∙ is in
      elim (one_of (nat_eq c by) (is_stopped before.graph c) was) [
        | inl here ↦ inl (ap Stop (sym (same_from_test c by here)))
        | inr before_too ↦ inr (before_too, refl)
      ]
  stopped_from before after (Start worker task) c keeps step is = inr (sym (step_stopped before after (Start worker task) c keeps step) ∙ is, refl)
  stopped_from before after (GiveBack worker task) c keeps step is = inr (sym (step_stopped before after (GiveBack worker task) c keeps step) ∙ is, refl)
  stopped_from before after (Finish worker task chunks tasks result) c keeps step is = inr (sym (step_stopped before after (Finish worker task chunks tasks result) c keeps step) ∙ is, refl)

  neither : (a b : Bool) → a ≡ false → b ≡ false → (a || b) ≡ false
  neither true b p q = p
  neither false b p q = q

  stop_last : (before after : Machine C K) (events : List (Event K)) (c : ℕ) → Kept lib before → LeadsTo lib arity before events after → is_stopped after.graph c ≡ true
      → HasStopLast c events ⊎ ((is_stopped before.graph c ≡ true) × (list_any (asks_or_abandons c) events ≡ false))
  stop_last before after [] c keeps run is = inr (ap (λ (m : Machine C K). is_stopped m.graph c) (sym run) ∙ is, refl)
  stop_last before after (event ∷ events) c keeps run is =
      elim (stop_last run.0 after events c (step_keeps lib arity before run.0 event keeps run.1) run.2 is) [
        | inl later ↦ inl (record { front = event ∷ later.front; back = later.back; split = ap (λ rest. event ∷ rest) later.split; none_since = later.none_since })
        | inr stopped ↦ elim (stopped_from before run.0 event c keeps run.1 stopped.0) [
          | inl here ↦ inl (record { front = []; back = events; split = ap (λ e. e ∷ events) here; none_since = stopped.1 })
          | inr before_too ↦ inr (before_too.0, neither (asks_or_abandons c event) (list_any (asks_or_abandons c) events) before_too.1 stopped.1)
        ]
      ]

  pub stops_are_last : StopsAreLast lib arity
  stops_are_last events after c run is =
      elim (stop_last opening after events c (kept_at_opening lib) run is) [
        | inl last ↦ last
        | inr never ↦ absurd (let clash : false ≡ true = sym (numbers.contains-empty nat_cmp c) ∙ never.0 in cc)
      ]

  or_left : (a b : Bool) → a ≡ true → (a || b) ≡ true
  or_left true b is = refl
  or_left false b is = absurd (let clash : false ≡ true = is in cc)

  or_right : (a b : Bool) → b ≡ true → (a || b) ≡ true
  or_right true b is = refl
  or_right false b is = is

  -- a stopped caller stays so, where it does not abandon
  goes_on_stopped : (before after : Machine C K) (event : Event K) (c : ℕ) → Kept lib before → IsStep lib arity before event after → is_stopped before.graph c ≡ true
      → (is_stopped after.graph c ≡ true) ⊎ (abandons c event ≡ true)
  goes_on_stopped before after (Register by id children) c keeps step is = inl (step_stopped before after (Register by id children) c keeps step ∙ is)
  goes_on_stopped before after (Copy by from to) c keeps step is = inl (step_stopped before after (Copy by from to) c keeps step ∙ is)
  goes_on_stopped before after (Delete by id) c keeps step is = inl (step_stopped before after (Delete by id) c keeps step ∙ is)
  goes_on_stopped before after (AskEvent by task kind inputs) c keeps step is = inl (step_stopped before after (AskEvent by task kind inputs) c keeps step ∙ is)
  goes_on_stopped before after (Collect by task got) c keeps step is = inl (step_stopped before after (Collect by task got) c keeps step ∙ is)
  goes_on_stopped before after (Abandon by) c keeps step is =
      elim (same_or_not c by) [
        | inl same ↦ inr (ap (λ k. nat_eq k c) (sym same) ∙ test_same c)
        | inr apart ↦
            inl (step_stopped before after (Abandon by) c keeps step ∙ ap (λ b. not b && is_stopped before.graph c) (test_apart c by apart) ∙ is)
      ]
  goes_on_stopped before after (Stop by) c keeps step is = inl (step_stopped before after (Stop by) c keeps step ∙ or_right (nat_eq c by) (is_stopped before.graph c) is)
  goes_on_stopped before after (Start worker task) c keeps step is = inl (step_stopped before after (Start worker task) c keeps step ∙ is)
  goes_on_stopped before after (GiveBack worker task) c keeps step is = inl (step_stopped before after (GiveBack worker task) c keeps step ∙ is)
  goes_on_stopped before after (Finish worker task chunks tasks result) c keeps step is = inl (step_stopped before after (Finish worker task chunks tasks result) c keeps step ∙ is)

  abandoned_since : (before after : Machine C K) (events : List (Event K)) (c : ℕ) → Kept lib before → LeadsTo lib arity before events after → is_stopped before.graph c ≡ true → is_stopped after.graph c ≡ false
      → list_any (abandons c) events ≡ true
  abandoned_since before after [] c keeps run is ends = absurd (let clash : false ≡ true = sym ends ∙ ap (λ (m : Machine C K). is_stopped m.graph c) run ∙ is in cc)
  abandoned_since before after (event ∷ events) c keeps run is ends =
      elim (goes_on_stopped before run.0 event c keeps run.1 is) [
        | inl still ↦ or_right (abandons c event) (list_any (abandons c) events) (abandoned_since run.0 after events c (step_keeps lib arity before run.0 event keeps run.1) run.2 still ends)
        | inr gives_up ↦ or_left (abandons c event) (list_any (abandons c) events) gives_up
      ]

  stops_end_from : (before after : Machine C K) (front back : List (Event K)) (c : ℕ) → Kept lib before → LeadsTo lib arity before (front ++ Stop c ∷ back) after → is_stopped after.graph c ≡ false
      → list_any (abandons c) back ≡ true
  stops_end_from before after [] back c keeps run ends =
      let stops : is_stopped run.0.graph c ≡ true = step_stopped before run.0 (Stop c) c keeps run.1 ∙ or_left (nat_eq c c) (is_stopped before.graph c) (test_same c) in
      abandoned_since run.0 after back c (step_keeps lib arity before run.0 (Stop c) keeps run.1) run.2 stops ends
  stops_end_from before after (event ∷ front) back c keeps run ends =
      stops_end_from run.0 after front back c (step_keeps lib arity before run.0 event keeps run.1) run.2 ends

  pub stops_end : StopsEnd lib arity
  stops_end events front back after c run ends split =
      stops_end_from opening after front back c (kept_at_opening lib) (subst (λ all. LeadsTo lib arity opening all after) split run) ends
