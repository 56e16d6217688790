-- The way from a task to an ask of its caller, in another state.
use Rattle.std.proofs.Common.{◌≡◌, ℕ, nat_cmp, slice_get, Option, None, Some, sym, ap, ◌∙◌}
use Rattle.std.specs.FinMap as map
use Rattle.task_states.specs.States.{Input, Unfinished, Graph, task_at, input_at}
use Rattle.name_machine.specs.States.{Ask}
use Rattle.name_machine.specs.Facts.{EndsAtAsk, Asked, Awaited}

module _ {X K : Type 0} where
  -- the inputs of a task that is there
  pub inputs_at : (graph : Graph X K) (q p : ℕ) (t : Unfinished X K) → task_at graph q ≡ Some t → input_at graph q p ≡ slice_get t.inputs p
  inputs_at graph q p t is = ap (λ (o : Option (Unfinished X K)). elim o as (λ x. Option (Input X)) [ None ↦ None | Some task ↦ slice_get task.inputs p ]) is

  -- a task is there in another state, with the same caller and inputs, and what was asked of it
  abbrev pub IsStill : Graph X K → ℕ → Unfinished X K → Type 0
  IsStill graph q t =
      (u : Unfinished X K) × (task_at graph q ≡ Some u) × (u.caller ≡ t.caller) × (u.asked ≡ t.asked) × (u.inputs ≡ t.inputs)

module _ {G X Y K : Type 0} where
  -- where a way begins there is a task of the caller
  pub ends_there : (graph : Graph X K) (asks : map.FinMap nat_cmp (Ask G Y)) (c q : ℕ) → EndsAtAsk graph asks c q
      → (t : Unfinished X K) × (task_at graph q ≡ Some t) × (t.caller ≡ c)
  ends_there graph asks c q (Asked task number key t ask at own asked found theirs same none) = (t, at, own)
  ends_there graph asks c q (Awaited task by t at own awaits rest) = (t, at, own)

  -- a way of a caller stands where its tasks and what it awaits stand
  pub ends_more : (graph after : Graph X K) (asks later : map.FinMap nat_cmp (Ask G Y)) (c : ℕ)
      → ((q : ℕ) (t : Unfinished X K) → task_at graph q ≡ Some t → t.caller ≡ c → IsStill after q t)
      → ((k : ℕ) (a : Ask G Y) → map.get asks k ≡ Some a → a.caller ≡ c → a.delivered ≡ None → map.get later k ≡ Some a)
      → (q : ℕ) → EndsAtAsk graph asks c q → EndsAtAsk after later c q
  ends_more graph after asks later c still kept q (Asked task number key t ask at own asked found theirs same none) =
      let u = still q t at own in
      Asked q number key u.0 ask u.1 (u.2 ∙ own) (u.3 ∙ asked) (kept key ask found theirs none) theirs same none
  ends_more graph after asks later c still kept q (Awaited task by t at own awaits rest) =
      let u = still q t at own in
      let b = ends_there graph asks c by rest in
      let v = still by b.0 b.1 b.2 in
      Awaited q by u.0 u.1 (u.2 ∙ own)
      (awaits.0, awaits.1, inputs_at after by awaits.0 v.0 v.1 ∙ ap (λ inputs. slice_get inputs awaits.0) v.4 ∙ sym (inputs_at graph by awaits.0 b.0 b.1) ∙ awaits.2)
      (ends_more graph after asks later c still kept by rest)
