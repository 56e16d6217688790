-- What stands in the place of a finished task: a value, or another task.
use Rattle.std.proofs.Common.{◌≡◌, ℕ, zero, suc, ◌⊎◌, inl, inr, Bool, true, cond, nat_eq, List, [], ◌∷◌, map as each, slice_get, Option, None, Some, refl, sym, ap, ◌∙◌}
use Rattle.std.specs.Option.{option_map}
use Rattle.task_types.specs.Tree.{Tree}
use Rattle.task_states.specs.Maps.{each_changed}
use Rattle.task_states.specs.States.{Input, Known, Awaits, Unfinished, Graph, task_at, asked_of}
use Rattle.task_states.specs.Steps.{settled, redirected, without_asked, all_delivered, inputs_redirected, asked_moved, forwarded, removed}
use Rattle.task_states.proofs.Maps.{get-each_changed}
use Rattle.name_states.proofs.Basics.{none_not_some, same_some, same_or_not, test_same, test_apart, removed_here, removed_other}
use Rattle.name_machine.specs.Goals.{read_input}
use Rattle.name_machine.proofs.Tasks.{changed_here, changed_other}

pub data Stand (X : Type 0) : Type 0 where
  ByValue : X → Stand X
  ByTask : ℕ → Stand X

module _ {X : Type 0} where
  -- an input once a task is finished
  abbrev pub replaced : ℕ → Stand X → Input X → Input X
  replaced task (ByValue x) = settled task (λ number. x)
  replaced task (ByTask to) = redirected task to

  -- what is asked of a task, once one is finished of which this was asked
  abbrev pub asked_then : Stand X → Option ℕ → ℕ → Option ℕ → Option ℕ
  asked_then (ByValue x) asked q own = own
  asked_then (ByTask to) None q own = own
  asked_then (ByTask to) (Some number) q own = cond (nat_eq q to) (Some number) own

  abbrev awaiting : ℕ → ℕ → Input X
  awaiting task n = Awaits task n

  -- what is known stays so
  pub known_stays : (task : ℕ) (stand : Stand X) (x : X) → replaced task stand (Known x) ≡ Known x
  known_stays task (ByValue y) x = refl
  known_stays task (ByTask to) x = refl

  -- what awaits another task goes on
  pub other_stays : (task : ℕ) (stand : Stand X) (a n : ℕ) → (a ≡ task → ⊥) → replaced task stand (Awaits a n) ≡ Awaits a n
  other_stays task (ByValue y) a n apart = ap (λ b. cond b (Known y) (Awaits a n)) (test_apart a task apart)
  other_stays task (ByTask to) a n apart = ap (λ b. Awaits (cond b to a) n) (test_apart a task apart)

  -- what awaited the task gets the value or awaits the other one
  pub value_stands : (task n : ℕ) (x : X) → replaced task (ByValue x) (Awaits task n) ≡ Known x
  value_stands task n x = ap (λ b. cond b (Known x) (Awaits task n)) (test_same task)

  pub task_stands : (task n to : ℕ) → replaced task (ByTask to) (Awaits task n) ≡ awaiting to n
  task_stands task n to = ap (λ b. Awaits (cond b to task) n) (test_same task)

  -- an input that awaits afterwards awaited the same task, or the one in whose place it stands
  abbrev Then : ℕ → Stand X → Input X → ℕ → ℕ → Type 0
  Then task stand input a n = ((input ≡ Awaits a n) × (a ≡ task → ⊥)) ⊎ ((input ≡ Awaits task n) × (stand ≡ ByTask a))

  here_then : (task b m a n : ℕ) (s : Stand X) → b ≡ task → replaced task s (Awaits b m) ≡ Awaits a n → Then task s (Awaits b m) a n
  here_then task b m a n (ByValue x) same at =
      absurd (let clash : Known x ≡ Awaits a n = sym (value_stands task m x) ∙ ap (λ k. replaced task (ByValue x) (Awaits k m)) (sym same) ∙ at in cc)
  here_then task b m a n (ByTask to) same at =
      let equal : awaiting to m ≡ Awaits a n = sym (task_stands task m to) ∙ ap (λ k. replaced task (ByTask to) (Awaits k m)) (sym same) ∙ at in
      let first : to ≡ a = cc in
      let second : m ≡ n = cc in
      inr ((λ i. Awaits (same i) (second i)), ap ByTask first)

  pub awaits_then : (task : ℕ) (stand : Stand X) (input : Input X) (a n : ℕ) → replaced task stand input ≡ Awaits a n → Then task stand input a n
  awaits_then task stand (Known x) a n is = absurd (let clash : Known x ≡ Awaits a n = sym (known_stays task stand x) ∙ is in cc)
  awaits_then task stand (Awaits b m) a n is =
      elim (same_or_not b task) [
        | inl same ↦ here_then task b m a n stand same is
        | inr apart ↦
            let equal : awaiting b m ≡ Awaits a n = sym (other_stays task stand b m apart) ∙ is in
            let number : b ≡ a = cc in
            inl (equal, λ e. apart (number ∙ e))
      ]

  -- the inputs of a list, and what they were
  pub input_then : (task : ℕ) (stand : Stand X) (inputs : List (Input X)) (p a n : ℕ) → slice_get (each (replaced task stand) inputs) p ≡ Some (Awaits a n)
      → ((slice_get inputs p ≡ Some (Awaits a n)) × (a ≡ task → ⊥)) ⊎ ((slice_get inputs p ≡ Some (Awaits task n)) × (stand ≡ ByTask a))
  input_then task stand [] p a n is = absurd (none_not_some refl is)
  input_then task stand (input ∷ inputs) zero a n is =
      elim (awaits_then task stand input a n (same_some _ _ is)) [ inl stays ↦ inl (ap Some stays.0, stays.1) | inr moved ↦ inr (ap Some moved.0, moved.1) ]
  input_then task stand (input ∷ inputs) (suc p) a n is = input_then task stand inputs p a n is

  pub input_stays : (task : ℕ) (stand : Stand X) (inputs : List (Input X)) (p a n : ℕ) → slice_get inputs p ≡ Some (Awaits a n) → (a ≡ task → ⊥)
      → slice_get (each (replaced task stand) inputs) p ≡ Some (Awaits a n)
  input_stays task stand [] p a n is apart = absurd (none_not_some refl is)
  input_stays task stand (input ∷ inputs) zero a n is apart = ap Some (ap (replaced task stand) (same_some _ _ is) ∙ other_stays task stand a n apart)
  input_stays task stand (input ∷ inputs) (suc p) a n is apart = input_stays task stand inputs p a n is apart

  pub input_moves : (task to : ℕ) (inputs : List (Input X)) (p n : ℕ) → slice_get inputs p ≡ Some (Awaits task n)
      → slice_get (each (replaced task (ByTask to)) inputs) p ≡ Some (Awaits to n)
  input_moves task to [] p n is = absurd (none_not_some refl is)
  input_moves task to (input ∷ inputs) zero n is = ap Some (ap (replaced task (ByTask to)) (same_some _ _ is) ∙ task_stands task n to)
  input_moves task to (input ∷ inputs) (suc p) n is = input_moves task to inputs p n is

  -- inputs of which none awaits the task stay
  pub inputs_stay : (task : ℕ) (stand : Stand X) (inputs : List (Input X)) → ((p a n : ℕ) → slice_get inputs p ≡ Some (Awaits a n) → a ≡ task → ⊥)
      → each (replaced task stand) inputs ≡ inputs
  inputs_stay task stand [] apart = refl
  inputs_stay task stand (Known x ∷ inputs) apart =
      let first = known_stays task stand x in let rest = inputs_stay task stand inputs (λ p a n is. apart (suc p) a n is) in (λ i. first i ∷ rest i)
  inputs_stay task stand (Awaits a n ∷ inputs) apart =
      let first = other_stays task stand a n (apart 0 a n refl) in let rest = inputs_stay task stand inputs (λ p b m is. apart (suc p) b m is) in (λ i. first i ∷ rest i)

-- what stands in a task's place reads as a tree
abbrev pub Stands : {C : Type 0} → (ℕ → Tree C) → Tree C → Stand (Tree C) → Type 0
Stands goals tree (ByValue x) = x ≡ tree
Stands goals tree (ByTask to) = goals to ≡ tree

module _ {C : Type 0} (task : ℕ) (before goals : ℕ → Tree C) where
  stand_read : (stand : Stand (Tree C)) (n : ℕ) → Stands goals (before task) stand → read_input goals (replaced task stand (Awaits task n)) ≡ before task
  stand_read (ByValue x) n stands = ap (read_input goals) (value_stands task n x) ∙ stands
  stand_read (ByTask to) n stands = ap (read_input goals) (task_stands task n to) ∙ stands

  one_read : (stand : Stand (Tree C)) (a n : ℕ) → Stands goals (before task) stand → ((a ≡ task → ⊥) → goals a ≡ before a)
      → read_input goals (replaced task stand (Awaits a n)) ≡ before a
  one_read stand a n stands same =
      elim (same_or_not a task) [
        | inl here ↦ ap (λ k. read_input goals (replaced task stand (Awaits k n))) here ∙ stand_read stand n stands ∙ ap before (sym here)
        | inr apart ↦ ap (read_input goals) (other_stays task stand a n apart) ∙ same apart
      ]

  -- inputs read as before, where what stands in the task's place has its goal and all others keep theirs
  pub replaced_read : (stand : Stand (Tree C)) (inputs : List (Input (Tree C))) → Stands goals (before task) stand
      → ((p a n : ℕ) → slice_get inputs p ≡ Some (Awaits a n) → (a ≡ task → ⊥) → goals a ≡ before a)
      → each (read_input goals) (each (replaced task stand) inputs) ≡ each (read_input before) inputs
  replaced_read stand [] stands same = refl
  replaced_read stand (Known x ∷ inputs) stands same =
      let first = ap (read_input goals) (known_stays task stand x) in let rest = replaced_read stand inputs stands (λ p a n is. same (suc p) a n is) in (λ i. first i ∷ rest i)
  replaced_read stand (Awaits a n ∷ inputs) stands same =
      let first = one_read stand a n stands (same 0 a n refl) in let rest = replaced_read stand inputs stands (λ p b m is. same (suc p) b m is) in (λ i. first i ∷ rest i)

module _ {X K : Type 0} where
  -- a task once another is finished
  abbrev pub become : ℕ → Stand X → Option ℕ → ℕ → Unfinished X K → Unfinished X K
  become task stand asked q t = record t { inputs = each (replaced task stand) t.inputs; asked = asked_then stand asked q t.asked }

  -- the unfinished tasks once one is finished
  abbrev pub stood : Graph X K → ℕ → Stand X → Graph X K
  stood graph task (ByValue x) = removed (all_delivered graph task (λ number. x)) task
  stood graph task (ByTask to) = removed (forwarded graph task to) task

  pub stood_gone : (graph : Graph X K) (task : ℕ) (stand : Stand X) → task_at (stood graph task stand) task ≡ None
  stood_gone graph task (ByValue x) = removed_here _ task task refl
  stood_gone graph task (ByTask to) = removed_here _ task task refl

  abbrev deliver : ℕ → X → Unfinished X K → Unfinished X K
  deliver task x t = record t { inputs = each (settled task (λ number. x)) t.inputs }

  abbrev redirect : ℕ → ℕ → Unfinished X K → Unfinished X K
  redirect task to t = record t { inputs = each (redirected task to) t.inputs }

  abbrev ask_under : ℕ → Unfinished X K → Unfinished X K
  ask_under number t = record t { asked = Some number }

  abbrev ask_no_more : Unfinished X K → Unfinished X K
  ask_no_more t = record t { asked = None }

  abbrev redirect_if : ℕ → ℕ → ℕ → Bool → Unfinished X K → Unfinished X K
  redirect_if task to number b t = record t { inputs = each (redirected task to) t.inputs; asked = cond b (Some number) t.asked }

  joined : (task to number : ℕ) (o : Option (Unfinished X K)) → option_map (ask_under number) (option_map (redirect task to) o) ≡ option_map (redirect_if task to number true) o
  joined task to number None = refl
  joined task to number (Some t) = refl

  moved_at : (graph : Graph X K) (task to q : ℕ) (asked : Option ℕ) → (q ≡ task → ⊥)
      → task_at (asked_moved (inputs_redirected graph task to) task to asked) q ≡ option_map (become task (ByTask to) asked q) (task_at graph q)
  moved_at graph task to q None apart = get-each_changed (redirect task to) graph.tasks q
  moved_at graph task to q (Some number) apart =
      let first : Graph X K = inputs_redirected graph task to in
      let second : Graph X K = without_asked first task in
      elim (same_or_not q to) [
        | inl same ↦
            ap (task_at (asked_moved first task to (Some number))) same
            ∙ changed_here second to (ask_under number)
            ∙ ap (option_map (ask_under number)) (changed_other first task to ask_no_more (λ e. apart (same ∙ e)) ∙ get-each_changed (redirect task to) graph.tasks to)
            ∙ joined task to number (task_at graph to)
            ∙ ap (λ b. option_map (redirect_if task to number b) (task_at graph to)) (sym (ap (λ k. nat_eq k to) same ∙ test_same to))
            ∙ ap (λ k. option_map (redirect_if task to number (nat_eq q to)) (task_at graph k)) (sym same)
        | inr other ↦
            changed_other second to q (ask_under number) other
            ∙ changed_other first task q ask_no_more apart
            ∙ get-each_changed (redirect task to) graph.tasks q
            ∙ ap (λ b. option_map (redirect_if task to number b) (task_at graph q)) (sym (test_apart q to other))
      ]

  -- what stands under another number
  pub stood_at : (graph : Graph X K) (task q : ℕ) (stand : Stand X) → (q ≡ task → ⊥)
      → task_at (stood graph task stand) q ≡ option_map (become task stand (asked_of graph task) q) (task_at graph q)
  stood_at graph task q (ByValue x) apart =
      removed_other (all_delivered graph task (λ number. x)).tasks task q apart
      ∙ changed_other (record graph { tasks = each_changed (deliver task x) graph.tasks }) task q ask_no_more apart
      ∙ get-each_changed (deliver task x) graph.tasks q
  stood_at graph task q (ByTask to) apart =
      removed_other (forwarded graph task to).tasks task q apart ∙ moved_at graph task to q (asked_of graph task) apart
