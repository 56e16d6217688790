-- A control state stays in order where its tasks keep their inputs, where names grow, and where names, tasks and asks go.
use Rattle.std.proofs.Common.{◌≡◌, ℕ, ◌<◌, ◌≤◌, ◌⊎◌, inl, inr, nat_cmp, slice_get, Option, None, Some, is_some, refl, sym, ap, ◌∙◌, arith}
use Rattle.std.specs.Option.{option_map}
use Rattle.std.specs.FinMap as map
use Rattle.cht_ids.specs.declared.refs.Id.{Id}
use Rattle.cht_ids.specs.declared.refs.Ref.{Ref}
use Rattle.cht_ids.specs.declared.refs.Ref.TheVariants.{Id as Held}
use Rattle.name_states.specs.declared.holder.Holder.TheVariants.{Caller, Task}
use Rattle.name_states.specs.States.{NameState, IdRecord, id_at, body_at}
use Rattle.name_states.specs.Rules.{IsSound, AreReached, AreWithin}
use Rattle.name_states.proofs.Basics.{none_not_some, same_or_not, some_value}
use Rattle.name_states.proofs.Within.{AreMore}
use Rattle.name_states.proofs.SweptOnce.{nothing_goes}
use Rattle.task_states.specs.States.{Input, Known, Awaits, Unfinished, Graph, task_at, input_at}
use Rattle.task_states.specs.Steps.{with_task}
use Rattle.name_machine.specs.States.{Ask}
use Rattle.name_machine.specs.Control.{Control, tidied}
use Rattle.name_machine.specs.Standing.{IsOrderly}
use Rattle.name_machine.proofs.Tasks.{changed_here, changed_other}
use Rattle.name_machine.proofs.Orderly.{ref_kept}

-- nothing, where no value is there
pub none_if : {X : Type 0} (o : Option X) → ((x : X) → o ≡ Some x → ⊥) → o ≡ None
none_if None never = refl
none_if (Some x) never = absurd (never x refl)

module _ {X K : Type 0} where
  -- the input at a place of a task, if there is one
  abbrev pub input_in : Option (Unfinished X K) → ℕ → Option (Input X)
  input_in o p = elim o as (λ x. Option (Input X)) [ None ↦ None | Some task ↦ slice_get task.inputs p ]

  mapped_inputs : (f : Unfinished X K → Unfinished X K) → ((t : Unfinished X K) → (f t).inputs ≡ t.inputs) → (o : Option (Unfinished X K)) (p : ℕ) → input_in (option_map f o) p ≡ input_in o p
  mapped_inputs f same None p = refl
  mapped_inputs f same (Some t) p = ap (λ inputs. slice_get inputs p) (same t)

  -- a change of a task that leaves its inputs
  pub inputs_unchanged : (graph : Graph X K) (n : ℕ) (f : Unfinished X K → Unfinished X K) → ((t : Unfinished X K) → (f t).inputs ≡ t.inputs)
      → (q p : ℕ) → input_at (with_task graph n f) q p ≡ input_at graph q p
  inputs_unchanged graph n f same q p =
      elim (same_or_not q n) [
        | inl here ↦
            ap (λ k. input_in (task_at (with_task graph n f) k) p) here
            ∙ ap (λ o. input_in o p) (changed_here graph n f)
            ∙ mapped_inputs f same (task_at graph n) p
            ∙ ap (λ k. input_in (task_at graph k) p) (sym here)
        | inr apart ↦ ap (λ o. input_in o p) (changed_other graph n q f apart)
      ]

  -- a task with an input is there
  pub input_from : (graph : Graph X K) (q p : ℕ) (input : Input X) → input_at graph q p ≡ Some input → (t : Unfinished X K) × (task_at graph q ≡ Some t) × (slice_get t.inputs p ≡ Some input)
  input_from graph q p input is = go (task_at graph q) refl is
    where
      go : (o : Option (Unfinished X K)) → task_at graph q ≡ o → input_in o p ≡ Some input → (t : Unfinished X K) × (task_at graph q ≡ Some t) × (slice_get t.inputs p ≡ Some input)
      go None at found = absurd (none_not_some refl found)
      go (Some t) at found = (t, at, found)

module _ {C K : Type 0} (arity : C → ℕ) (control : Control C (Unit {0}) K) (orderly : IsOrderly arity control) where
  -- tasks with the inputs that there were
  pub order_same : (after : Graph Ref K) → ((q p : ℕ) → input_at after q p ≡ input_at control.graph q p) → IsOrderly arity (record control { graph = after })
  order_same after same = record {
    sound = orderly.sound;
    reached = orderly.reached;
    within = orderly.within;
    held = record {
      inputs = λ task place r is. orderly.held.inputs task place r (sym (same task place) ∙ is);
      apart = λ task place other one two is at. orderly.held.apart task place other one two (sym (same task place) ∙ is) (sym (same task other) ∙ at);
      nothing_else = λ number task entry is held. let at = orderly.held.nothing_else number task entry is held in (at.0, same task at.0 ∙ at.1);
      outputs = orderly.held.outputs;
    };
    aside = record {
      inputs = λ number awaits. orderly.aside.inputs number (awaits.0, awaits.1, awaits.2, sym (same awaits.0 awaits.1) ∙ awaits.3);
      outputs = orderly.aside.outputs;
      drawn = orderly.aside.drawn;
      one_place = λ task place awaited other place_of_other by_other number is at.
          orderly.aside.one_place task place awaited other place_of_other by_other number (sym (same task place) ∙ is) (sym (same other place_of_other) ∙ at);
      unasked = λ key ask is awaits. orderly.aside.unasked key ask is (awaits.0, awaits.1, awaits.2, sym (same awaits.0 awaits.1) ∙ awaits.3);
    };
  }

  -- more names, of which no task holds the new ones, under new numbers
  pub order_grown : (drawn : ℕ) (more : NameState C) → control.drawn ≤ drawn → IsSound arity more → AreReached more → AreWithin more drawn → AreMore control.names more
      → ((q : ℕ) (e : IdRecord) → id_at more q ≡ Some e → (id_at control.names q ≡ Some e) ⊎ ((control.drawn < q) × ((task : ℕ) → e.holder ≡ Task task → ⊥)))
      → IsOrderly arity (record control { drawn = drawn; names = more })
  order_grown drawn more up sound reached within is_more from =
      let still_none : (q : ℕ) → q ≤ control.drawn → id_at control.names q ≡ None → id_at more q ≡ None = λ q low none.
      none_if (id_at more q) (λ e is. elim (from q e is) [
        | inl old ↦ none_not_some none old
        | inr new ↦ (let high = new.0 in omega arith)
      ]) in
      record {
        sound = sound;
        reached = reached;
        within = within;
        held = record {
          inputs = λ task place r is. ref_kept control.names more (Task task) r (λ id e same at held. is_more.ids id.number e at) (orderly.held.inputs task place r is);
          apart = orderly.held.apart;
          nothing_else = λ number task entry is held. elim (from number entry is) [
            | inl old ↦ orderly.held.nothing_else number task entry old held
            | inr new ↦ absurd (new.1 task held)
          ];
          outputs = λ task ask r is done.
              let was = orderly.held.outputs task ask r is done in
              (ref_kept control.names more (Caller ask.caller) r (λ id e same at held. is_more.ids id.number e at) was.0, was.1);
        };
        aside = record {
          inputs = λ number awaits. let was = orderly.aside.inputs number awaits in let low = was.0 in (omega arith, still_none number low was.1);
          outputs = λ task ask is none. still_none ask.number (orderly.aside.drawn task ask is) (orderly.aside.outputs task ask is none);
          drawn = λ task ask is. let low = orderly.aside.drawn task ask is in omega arith;
          one_place = orderly.aside.one_place;
          unasked = orderly.aside.unasked;
        };
      }

  -- fewer names, tasks and asks, where each input and each output that is left is held still, and each task that holds something
  pub order_left : (less : NameState C) (asks : map.FinMap nat_cmp (Ask (Unit {0}) Ref)) (graph : Graph Ref K) → IsSound arity less → AreReached less → AreMore less control.names
      → ((q p : ℕ) (input : Input Ref) → input_at graph q p ≡ Some input → input_at control.graph q p ≡ Some input)
      → ((k : ℕ) (a : Ask (Unit {0}) Ref) → map.get asks k ≡ Some a → map.get control.asks k ≡ Some a)
      → ((q p : ℕ) (id : Id) (e : IdRecord) → input_at graph q p ≡ Some (Known (Held id)) → id_at control.names id.number ≡ Some e → e.holder ≡ Task q → id_at less id.number ≡ Some e)
      → ((k : ℕ) (a : Ask (Unit {0}) Ref) (id : Id) (e : IdRecord) → map.get asks k ≡ Some a → a.delivered ≡ Some (Held id) → id_at control.names id.number ≡ Some e → e.holder ≡ Caller a.caller → id_at less id.number ≡ Some e)
      → ((number task p : ℕ) (e : IdRecord) (input : Input Ref) → id_at less number ≡ Some e → e.holder ≡ Task task → input_at control.graph task p ≡ Some input → input_at graph task p ≡ Some input)
      → IsOrderly arity (record control { names = less; asks = asks; graph = graph })
  order_left less asks graph sound reached more inputs_from asks_from inputs_kept outputs_kept tasks_kept =
      let still_none : (q : ℕ) → id_at control.names q ≡ None → id_at less q ≡ None = λ q none. none_if (id_at less q) (λ e is. none_not_some none (more.ids q e is)) in
      record {
        sound = sound;
        reached = reached;
        within = record {
          ids = λ q some. let e = some_value (id_at less q) some in orderly.within.ids q (ap is_some (more.ids q e.0 e.1));
          bodies = λ q some. let b = some_value (body_at less q) some in orderly.within.bodies q (ap is_some (more.bodies q b.0 b.1));
        };
        held = record {
          inputs = λ task place r is.
              ref_kept control.names less (Task task) r (λ id e same at held. inputs_kept task place id e (is ∙ ap (λ s. Some (Known s)) same) at held) (orderly.held.inputs task place r (inputs_from task place (Known r) is));
          apart = λ task place other one two is at. orderly.held.apart task place other one two (inputs_from task place (Known (Held one)) is) (inputs_from task other (Known (Held two)) at);
          nothing_else = λ number task entry is held.
              let at = orderly.held.nothing_else number task entry (more.ids number entry is) held in
              (at.0, tasks_kept number task at.0 entry (Known (Held (record { owner = entry.owner; number = number }))) is held at.1);
          outputs = λ task ask r is done.
              let was = orderly.held.outputs task ask r (asks_from task ask is) done in (
                ref_kept control.names less (Caller ask.caller) r (λ id e same at held. outputs_kept task ask id e is (done ∙ ap Some same) at held) was.0,
                was.1,
              );
        };
        aside = record {
          inputs = λ number awaits.
              let was = orderly.aside.inputs number (awaits.0, awaits.1, awaits.2, inputs_from awaits.0 awaits.1 (Awaits awaits.2 number) awaits.3) in (was.0, still_none number was.1);
          outputs = λ task ask is none. still_none ask.number (orderly.aside.outputs task ask (asks_from task ask is) none);
          drawn = λ task ask is. orderly.aside.drawn task ask (asks_from task ask is);
          one_place = λ task place awaited other place_of_other by_other number is at.
              orderly.aside.one_place task place awaited other place_of_other by_other number (inputs_from task place (Awaits awaited number) is) (inputs_from other place_of_other (Awaits by_other number) at);
          unasked = λ key ask is awaits.
              orderly.aside.unasked key ask (asks_from key ask is) (awaits.0, awaits.1, awaits.2, inputs_from awaits.0 awaits.1 (Awaits awaits.2 ask.number) awaits.3);
        };
      }

-- where all is sound and reached, nothing goes
pub tidied_still : {C K : Type 0} (arity : C → ℕ) (control : Control C (Unit {0}) K) → IsSound arity control.names → AreReached control.names → tidied control ≡ control
tidied_still arity control sound reached = ap (λ (n : NameState _). record control { names = n }) (nothing_goes arity control.names sound reached)
