-- What holds of a control state while a task is finished: all that a state in order has, but that the finished task may hold more than
-- its inputs.
use Rattle.std.proofs.Common.{◌≡◌, ℕ, ◌<◌, ◌≤◌, ◌⊎◌, inl, inr, None, Some, arith}
use Rattle.std.specs.FinMap as map
use Rattle.cht_ids.specs.declared.refs.Id.{Id}
use Rattle.cht_ids.specs.declared.refs.Ref.{Ref}
use Rattle.cht_ids.specs.declared.refs.Ref.TheVariants.{Id as Held}
use Rattle.name_states.specs.declared.holder.Holder.{Holder}
use Rattle.name_states.specs.declared.holder.Holder.TheVariants.{Caller, Task}
use Rattle.name_states.specs.States.{NameState, IdRecord, id_at}
use Rattle.name_states.specs.Rules.{IsSound, AreReached, AreWithin}
use Rattle.name_states.proofs.Basics.{none_not_some, none_or_some}
use Rattle.name_states.proofs.Within.{AreMore}
use Rattle.task_states.specs.States.{Known, Unfinished, task_at, input_at}
use Rattle.name_machine.specs.States.{Ask}
use Rattle.name_machine.specs.Control.{Control}
use Rattle.name_machine.specs.Standing.{HasNumber, IsRefOf, IsInputOf, AreSetAside, IsOrderly}
use Rattle.name_machine.proofs.Orderly.{ref_kept}

-- what a holder has in fewer names it has in more
pub ref_more : {C : Type 0} (names more : NameState C) (holder : Holder) (r : Ref) → AreMore names more → IsRefOf names holder r → IsRefOf more holder r
ref_more names more holder r are_more is = ref_kept names more holder r (λ id entry same at held. are_more.ids id.number entry at) is

module _ {C K : Type 0} where
  pub record Middle (arity : C → ℕ) (gone : ℕ) (control : Control C (Unit {0}) K) : Type 0 where
    pub sound : IsSound arity control.names
    pub reached : AreReached control.names
    pub within : AreWithin control.names control.drawn
    pub inputs : (task place : ℕ) (r : Ref) → input_at control.graph task place ≡ Some (Known r) → IsRefOf control.names (Task task) r
    pub apart : (task place other : ℕ) (one two : Id) → input_at control.graph task place ≡ Some (Known (Held one))
        → input_at control.graph task other ≡ Some (Known (Held two)) → one.number ≡ two.number → place ≡ other
    pub nothing_else : (number task : ℕ) (entry : IdRecord) → (task ≡ gone → ⊥) → id_at control.names number ≡ Some entry → entry.holder ≡ Task task
        → IsInputOf control.graph task (record { owner = entry.owner; number = number })
    pub outputs : (task : ℕ) (ask : Ask (Unit {0}) Ref) (r : Ref) → map.get control.asks task ≡ Some ask → ask.delivered ≡ Some r
        → IsRefOf control.names (Caller ask.caller) r × HasNumber ask.number r
    pub aside : AreSetAside control
    pub numbered : (q : ℕ) (t : Unfinished Ref K) → task_at control.graph q ≡ Some t → q ≤ control.drawn
    pub gone_low : gone ≤ control.drawn

  pub middle_of : (arity : C → ℕ) (gone : ℕ) (control : Control C (Unit {0}) K) → IsOrderly arity control
      → ((q : ℕ) (t : Unfinished Ref K) → task_at control.graph q ≡ Some t → q ≤ control.drawn) → gone ≤ control.drawn → Middle arity gone control
  middle_of arity gone control orderly numbered low = record {
    sound = orderly.sound;
    reached = orderly.reached;
    within = orderly.within;
    inputs = orderly.held.inputs;
    apart = orderly.held.apart;
    nothing_else = λ number task entry other is held. orderly.held.nothing_else number task entry is held;
    outputs = orderly.held.outputs;
    aside = orderly.aside;
    numbered = numbered;
    gone_low = low;
  }

  -- The names grow: each new identifier has a number that is drawn now, and no other task than the finished one holds it.
  pub middle_more : (arity : C → ℕ) (gone : ℕ) (control : Control C (Unit {0}) K) → Middle arity gone control → (more : NameState C) (drawn : ℕ) → control.drawn ≤ drawn
      → AreMore control.names more → IsSound arity more → AreReached more → AreWithin more drawn
      → ((q : ℕ) (entry : IdRecord) → id_at more q ≡ Some entry
      → (id_at control.names q ≡ Some entry) ⊎ ((control.drawn < q) × ((t : ℕ) → entry.holder ≡ Task t → t ≡ gone)))
      → Middle arity gone (record control { drawn = drawn; names = more })
  middle_more arity gone control middle more drawn up are_more sound reached within from =
      let free : (q : ℕ) → q ≤ control.drawn → id_at control.names q ≡ None → id_at more q ≡ None = λ q low none.
      elim (none_or_some (id_at more q)) [
        | inl still ↦ still
        | inr some ↦ elim (from q some.0 some.1) [
          | inl was ↦ absurd (none_not_some none was)
          | inr new ↦ absurd (let high = new.0 in omega arith)
        ]
      ] in
      record {
        sound = sound;
        reached = reached;
        within = within;
        inputs = λ task place r is. ref_more control.names more (Task task) r are_more (middle.inputs task place r is);
        apart = middle.apart;
        nothing_else = λ number task entry other is held. elim (from number entry is) [
          | inl was ↦ middle.nothing_else number task entry other was held
          | inr new ↦ absurd (other (new.1 task held))
        ];
        outputs = λ task ask r is done.
            let own = middle.outputs task ask r is done in
            (ref_more control.names more (Caller ask.caller) r are_more own.0, own.1);
        aside = record {
          inputs = λ number awaits. let own = middle.aside.inputs number awaits in let low = own.0 in (omega arith, free number low own.1);
          outputs = λ task ask is none. free ask.number (middle.aside.drawn task ask is) (middle.aside.outputs task ask is none);
          drawn = λ task ask is. let low = middle.aside.drawn task ask is in omega arith;
          one_place = middle.aside.one_place;
          unasked = middle.aside.unasked;
        };
        numbered = λ q t is. let low = middle.numbered q t is in omega arith;
        gone_low = let low = middle.gone_low in omega arith;
      }
