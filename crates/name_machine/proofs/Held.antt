-- The numbers of identifiers that callers hold were drawn, and are no numbers of outputs.
use Rattle.std.proofs.Common.{◌≡◌, ℕ, ◌+◌, ◌≤◌, inl, inr, true, false, cond, ◌&&◌, nat_eq, nat_cmp, List, [], ◌∷◌, Option, None, Some, refl, sym, ap, subst, ◌∙◌, arith}
use Rattle.std.specs.FinMap as map
use Rattle.task_types.specs.Tree.{Tree, Nothing, Root}
use Rattle.task_types.specs.Meanings.{Meanings}
use Rattle.name_states.specs.Steps.{present}
use Rattle.name_states.proofs.Basics.{none_not_some, same_some, same_from_test, inserted_from, removed_from}
use Rattle.task_types.proofs.FormedTest.{both_left}
use Rattle.cht_history.specs.declared.event.Event.{Event}
use Rattle.cht_history.specs.declared.event.Event.TheVariants.{Register, Copy, Delete, Ask as AskEvent, Collect, Abandon, Stop, Start, GiveBack, Finish}
use Rattle.name_machine.specs.States.{Machine, Ask, Holding, opening, mine}
use Rattle.name_machine.specs.Steps.{handed}
use Rattle.name_machine.specs.Machine.{owner_of, IsStep, LeadsTo}
use Rattle.name_machine.proofs.Small.{left_ask}
use Rattle.name_machine.proofs.Answered.{asks_from, answer_number}
use Rattle.name_machine.proofs.Finishing.{stand}
use Rattle.name_machine.proofs.Finished.{finished_asks, finished_drawn, finished_holdings}
use Rattle.name_machine.proofs.Runs.{Kept, step_keeps}

module _ {C : Type 0} where
  pub record HeldApart (drawn : ℕ) (holdings : map.FinMap nat_cmp (Holding C)) (asks : map.FinMap nat_cmp (Ask (Tree C) (Tree C))) : Type 0 where
    pub keys : (k : ℕ) (h : Holding C) → map.get holdings k ≡ Some h → k ≤ drawn
    pub apart : (k key : ℕ) (h : Holding C) (a : Ask (Tree C) (Tree C)) → map.get holdings k ≡ Some h → map.get asks key ≡ Some a → a.number ≡ k → ⊥

  -- one more identifier with a number that no ask has
  held_more : (drawn more n : ℕ) (holdings : map.FinMap nat_cmp (Holding C)) (asks : map.FinMap nat_cmp (Ask (Tree C) (Tree C))) (h : Holding C) → HeldApart drawn holdings asks
      → drawn ≤ more → n ≤ more → ((key : ℕ) (a : Ask (Tree C) (Tree C)) → map.get asks key ≡ Some a → a.number ≡ n → ⊥) → HeldApart more (map.insert holdings n h) asks
  held_more drawn more n holdings asks h held up low new = record {
    keys = λ k g is. elim (inserted_from holdings n k h g is) [
      | inl here ↦ (let e = here.0 in omega arith)
      | inr old ↦ (let b = held.keys k g old.1 in omega arith)
    ];
    apart = λ k key g a is at same. elim (inserted_from holdings n k h g is) [
      | inl here ↦ new key a at (same ∙ here.0)
      | inr old ↦ held.apart k key g a old.1 at same
    ];
  }

  -- what a caller holds is its own
  pub mine_from : (caller owner : ℕ) (o : Option (Holding C)) (h : Holding C) → mine caller owner o ≡ Some h → (o ≡ Some h) × (h.caller ≡ caller)
  mine_from caller owner None h is = absurd (none_not_some refl is)
  mine_from caller owner (Some g) h is =
      elim (nat_eq g.caller caller && nat_eq g.owner owner) as (λ b. (nat_eq g.caller caller && nat_eq g.owner owner) ≡ b → cond b (Some g) None ≡ Some h → (Some g ≡ Some h) × (h.caller ≡ caller)) [
        | true ↦ λ e found. (found, ap (λ v. v.caller) (sym (same_some g h found)) ∙ same_from_test g.caller caller (both_left (nat_eq g.caller caller) (nat_eq g.owner owner) e))
        | false ↦ λ e found. absurd (none_not_some refl found)
      ] refl is

module _ {C K : Type 0} (lib : Meanings C K) where
  abbrev pub Held : Machine C K → Type 0
  Held machine = HeldApart machine.drawn machine.holdings machine.asks

  handed_held : (machine : Machine C K) (number caller owner : ℕ) (tree : Tree C) → Held machine → number ≤ machine.drawn
      → ((key : ℕ) (a : Ask (Tree C) (Tree C)) → map.get machine.asks key ≡ Some a → a.number ≡ number → ⊥) → Held (handed machine number caller owner tree)
  handed_held machine number caller owner Nothing held low new = held
  handed_held machine number caller owner (Root content a b c d) held low new =
      held_more machine.drawn machine.drawn number machine.holdings machine.asks _ held (omega arith) low new

  pub held_step : (arity : C → ℕ) (before after : Machine C K) (event : Event K) → Kept lib before → Held before → IsStep lib arity before event after → Held after
  held_step arity before after (Register caller id children) keeps held step =
      subst Held (sym step.after_is)
      (held_more before.drawn (before.drawn + 2 + present children) (before.drawn + 2) before.holdings before.asks _ held (omega arith) (omega arith)
      (λ key a is same. let h = (keeps.ask_drawn key a is).1 in omega arith))
  held_step arity before after (Copy caller from to) keeps held step =
      subst Held (sym step.after_is)
      (held_more before.drawn (before.drawn + 1) (before.drawn + 1) before.holdings before.asks _ held (omega arith) (omega arith)
      (λ key a is same. let h = (keeps.ask_drawn key a is).1 in omega arith))
  held_step arity before after (Delete caller id) keeps held step =
      subst Held (sym step.after_is)
      (record {
        keys = λ k h is. held.keys k h (removed_from before.holdings id.number k h is).1;
        apart = λ k key h a is at same. held.apart k key h a (removed_from before.holdings id.number k h is).1 at same;
      })
  held_step arity before after (AskEvent caller task kind inputs) keeps held step =
      subst Held (sym step.after_is)
      (record {
        keys = λ k h is. let low = held.keys k h is in omega arith;
        apart = λ k key h a is at same. elim (inserted_from before.asks (before.drawn + 1) key _ a at) [
          | inl here ↦ (let low = held.keys k h is in let e = ap (λ v. v.number) here.1 in omega arith)
          | inr old ↦ held.apart k key h a is old.1 same
        ];
      })
  held_step arity before after (Collect caller task got) keeps held step =
      subst Held (sym step.after_is)
      (handed_held (record before { asks = map.remove before.asks task }) step.ask.number step.ask.caller (owner_of got) step.output
      (record { keys = held.keys; apart = λ k key h a is at same. held.apart k key h a is (removed_from before.asks task key a at).1 same })
      (keeps.ask_drawn task step.ask step.there).1
      (λ key a at same. let was = removed_from before.asks task key a at in was.0 (keeps.ask_one key task a step.ask was.1 step.there same)))
  held_step arity before after (Abandon caller) keeps held step =
      subst Held (sym step.after_is)
      (record { keys = held.keys; apart = λ k key h a is at same. held.apart k key h a is (left_ask lib before.drawn before.graph before.asks keeps caller key a at).0 same })
  held_step arity before after (Stop caller) keeps held step = subst Held (sym step.after_is) (record { keys = held.keys; apart = held.apart })
  held_step arity before after (Start worker task) keeps held step = subst Held (sym step.after_is) (record { keys = held.keys; apart = held.apart })
  held_step arity before after (GiveBack worker task) keeps held step = subst Held (sym step.after_is) (record { keys = held.keys; apart = held.apart })
  held_step arity before after (Finish worker task chunks tasks result) keeps held step =
      let ran = step.unfinished in
      let drawn_is = finished_drawn lib arity before keeps task ran step.there worker step.runs step.outcome step.sound in
      let asks_is = finished_asks lib arity before keeps task ran step.there worker step.runs step.outcome step.sound in
      let holdings_is = finished_holdings lib arity before keeps task ran step.there worker step.runs step.outcome step.sound in
      let one = stand lib arity before.drawn before.graph before.asks keeps task ran step.there worker step.runs step.outcome step.sound in
      subst Held (sym step.after_is)
      (record {
        keys = λ k h is. let low = held.keys k h (ap (λ m. map.get m k) (sym holdings_is) ∙ is) in omega arith;
        apart = λ k key h a is at same.
            let was = asks_from one ran.asked before.asks key a (ap (λ m. map.get m key) (sym asks_is) ∙ at) in
            held.apart k key h was.0 (ap (λ m. map.get m k) (sym holdings_is) ∙ is) was.1 (sym (answer_number one ran.asked was.0) ∙ ap (λ v. v.number) (sym was.2) ∙ same);
      })

  pub held_run : (arity : C → ℕ) (before after : Machine C K) (events : List (Event K)) → Kept lib before → Held before → LeadsTo lib arity before events after → Held after
  held_run arity before after [] keeps held run = subst Held (sym run) held
  held_run arity before after (event ∷ events) keeps held run =
      held_run arity run.0 after events (step_keeps lib arity before run.0 event keeps run.1) (held_step arity before run.0 event keeps held run.1) run.2

  pub held_opening : Held opening
  held_opening = record {
    keys = λ k h is. absurd (none_not_some (map.get-empty nat_cmp k) is);
    apart = λ k key h a is at same. none_not_some (map.get-empty nat_cmp k) is;
  }
