-- What delivering to one awaiter of a task makes of its awaiters, and of delivering to all. For every crate that cites
-- `specs/Awaiters.antt`.
use Rattle.std.proofs.Common.{◌≡◌, ◌↔◌, ℕ, zero, suc, cond, Option, Some, None, refl, sym, ap, subst, ◌∙◌, inl, inr, List, [], ◌∷◌}
use Rattle.std.specs.Prelude.{map as each, set, slice_get}
use Rattle.std.specs.Option.{option_map}
use Rattle.task_states.specs.declared.states.Awaiter.{Awaiter}
use Rattle.task_states.specs.declared.states.Awaiter.TheVariants.{Input as AtInput, Asked}
use Rattle.task_states.specs.Maps.{each_changed}
use Rattle.task_states.specs.States.{Input, Known, Awaits, Unfinished, Graph, task_at, input_at}
use Rattle.task_states.specs.Steps.{settled, with_task, without_asked, delivered, all_delivered}
use Rattle.task_states.specs.Awaiters.{number_of, IsAsked, IsAwaiter, IsNotAwaited}
use Rattle.task_states.proofs.Maps.{same_or_not, test_same, test_apart, same_maps, get-each_changed}
use Rattle.task_states.proofs.Options.{not_none, same_some, none_or_some}
use Rattle.task_states.proofs.Changes.{changed_here, changed_other, changed_from}

-- an awaiter that is an input, and one that asked
same_input : (of place number q p n : ℕ) → AtInput of place number ≡ AtInput q p n → (of ≡ q) × (place ≡ p)
same_input of place number q p n is = (cc, cc)

input_asked : (of place number c n : ℕ) → AtInput of place number ≡ Asked c n → ⊥
input_asked of place number c n is = cc

-- ---- Inputs

module _ {X : Type 0} where
  abbrev awaited_in : Option (Input X) → ℕ × ℕ
  awaited_in None = (0, 0)
  awaited_in (Some (Known x)) = (0, 0)
  awaited_in (Some (Awaits task number)) = (task, number)

  -- what an awaiting input awaits
  pub same_awaited : (t n s m : ℕ) → ◌≡◌ {A = Option (Input X)} (Some (Awaits t n)) (Some (Awaits s m)) → (t ≡ s) × (n ≡ m)
  same_awaited t n s m is = (ap (λ o. (awaited_in o).0) is, ap (λ o. (awaited_in o).1) is)

  pub known_apart : (x : X) (s m : ℕ) → ◌≡◌ {A = Option (Input X)} (Some (Known x)) (Some (Awaits s m)) → ⊥
  known_apart x s m is = let clash : ◌≡◌ {A = Option (Input X)} (Some (Known x)) (Some (Awaits s m)) = is in cc

  -- an input that awaits a task, and gets its value first
  each_set : (task number : ℕ) (value : ℕ → X) (inputs : List (Input X)) (place : ℕ) → slice_get inputs place ≡ Some (Awaits task number)
      → each (settled task value) (set inputs place (Known (value number))) ≡ each (settled task value) inputs
  each_set task number value [] place is = absurd (not_none None (Awaits task number) refl is)
  each_set task number value (input ∷ inputs) zero is =
      ap (λ first. first ∷ each (settled task value) inputs)
      (sym (ap (λ b. cond b (Known (value number)) (Awaits task number)) (test_same task)) ∙ ap (settled task value) (sym (same_some input (Awaits task number) is)))
  each_set task number value (input ∷ inputs) (suc place) is = ap (λ rest. settled task value input ∷ rest) (each_set task number value inputs place is)

  settled_same : (task : ℕ) (value : ℕ → X) (input : Input X) → ((number : ℕ) → input ≡ Awaits task number → ⊥) → settled task value input ≡ input
  settled_same task value (Known x) none = refl
  settled_same task value (Awaits t n) none =
      elim (same_or_not t task) [
        | inl same ↦ absurd (none n (ap (λ s. Awaits s n) same))
        | inr apart ↦ ap (λ b. cond b (Known (value n)) (Awaits t n)) (test_apart t task apart)
      ]

  -- inputs none of which awaits a task
  each_same : (task : ℕ) (value : ℕ → X) (inputs : List (Input X)) → ((place number : ℕ) → slice_get inputs place ≡ Some (Awaits task number) → ⊥)
      → each (settled task value) inputs ≡ inputs
  each_same task value [] none = refl
  each_same task value (input ∷ inputs) none =
      ap (λ first. first ∷ each (settled task value) inputs) (settled_same task value input (λ number is. none 0 number (ap Some is)))
      ∙ ap (λ rest. input ∷ rest) (each_same task value inputs (λ place number is. none (suc place) number is))

  -- the place that was set, and every other
  pub set_here : (inputs : List (Input X)) (place : ℕ) (old new : Input X) → slice_get inputs place ≡ Some old → slice_get (set inputs place new) place ≡ Some new
  set_here [] place old new is = absurd (not_none None old refl is)
  set_here (input ∷ inputs) zero old new is = refl
  set_here (input ∷ inputs) (suc place) old new is = set_here inputs place old new is

  pub set_other : (inputs : List (Input X)) (place other : ℕ) (new : Input X) → (other ≡ place → ⊥) → slice_get (set inputs place new) other ≡ slice_get inputs other
  set_other [] place other new apart = refl
  set_other (input ∷ inputs) zero zero new apart = absurd (apart refl)
  set_other (input ∷ inputs) zero (suc other) new apart = refl
  set_other (input ∷ inputs) (suc place) zero new apart = refl
  set_other (input ∷ inputs) (suc place) (suc other) new apart = set_other inputs place other new (λ same. apart (ap suc same))

-- ---- Delivering to all

module _ {X K : Type 0} where
  abbrev inputs_settled : ℕ → (ℕ → X) → Unfinished X K → Unfinished X K
  inputs_settled task value unfinished = record unfinished { inputs = each (settled task value) unfinished.inputs }

  abbrev not_asked : Unfinished X K → Unfinished X K
  not_asked unfinished = record unfinished { asked = None }

  abbrev each_settled : Graph X K → ℕ → (ℕ → X) → Graph X K
  each_settled graph task value = record graph { tasks = each_changed (inputs_settled task value) graph.tasks }

  -- the input of a task that is there
  pub input_there : (graph : Graph X K) (q p : ℕ) (u : Unfinished X K) → task_at graph q ≡ Some u → input_at graph q p ≡ slice_get u.inputs p
  input_there graph q p u is = ap (λ (o : Option (Unfinished X K)). elim o as (λ _. Option (Input X)) [ None ↦ None | Some task ↦ slice_get task.inputs p ]) is

  no_input : (graph : Graph X K) (q p : ℕ) → task_at graph q ≡ None → input_at graph q p ≡ None
  no_input graph q p is = ap (λ (o : Option (Unfinished X K)). elim o as (λ _. Option (Input X)) [ None ↦ None | Some task ↦ slice_get task.inputs p ]) is

  -- the task behind an input
  pub task_behind : (graph : Graph X K) (q p : ℕ) (input : Input X) → input_at graph q p ≡ Some input → (u : Unfinished X K) × (task_at graph q ≡ Some u) × (slice_get u.inputs p ≡ Some input)
  task_behind graph q p input is =
      elim (none_or_some (task_at graph q)) [
        | inl none ↦ absurd (not_none (input_at graph q p) input (no_input graph q p none) is)
        | inr some ↦ (some.0, some.1, sym (input_there graph q p some.0 some.1) ∙ is)
      ]

  -- one input first
  one_input : (graph : Graph X K) (task of place number : ℕ) (value : ℕ → X) → input_at graph of place ≡ Some (Awaits task number)
      → each_changed (inputs_settled task value) (delivered graph task (AtInput of place number) (value number)).tasks ≡ each_changed (inputs_settled task value) graph.tasks
  one_input graph task of place number value is =
      let u = task_behind graph of place (Awaits task number) is in
      let change : Unfinished X K → Unfinished X K = λ unfinished. record unfinished { inputs = set unfinished.inputs place (Known (value number)) } in
      let new : Graph X K = with_task graph of change in
      same_maps (each_changed (inputs_settled task value) new.tasks) (each_changed (inputs_settled task value) graph.tasks) (λ q.
      get-each_changed (inputs_settled task value) new.tasks q
      ∙ elim (same_or_not q of) [
        | inl same ↦
            let there : task_at graph q ≡ Some u.0 = ap (task_at graph) same ∙ u.1 in
            ap (option_map (inputs_settled task value)) (changed_here graph of q change same ∙ ap (option_map change) there)
            ∙ ap (λ inputs. Some (record u.0 { inputs = inputs })) (each_set task number value u.0.inputs place u.2)
            ∙ sym (ap (option_map (inputs_settled task value)) there)
        | inr apart ↦ ap (option_map (inputs_settled task value)) (changed_other graph of q change apart)
      ]
      ∙ sym (get-each_changed (inputs_settled task value) graph.tasks q))

  asked_twice : (task : ℕ) (value : ℕ → X) (o : Option (Unfinished X K)) → option_map not_asked (option_map (inputs_settled task value) (option_map not_asked o)) ≡ option_map not_asked (option_map (inputs_settled task value) o)
  asked_twice task value None = refl
  asked_twice task value (Some u) = refl

  -- what is there once all is delivered
  all_here : (graph : Graph X K) (task q : ℕ) (value : ℕ → X) → q ≡ task → task_at (all_delivered graph task value) q ≡ option_map not_asked (option_map (inputs_settled task value) (task_at graph q))
  all_here graph task q value same =
      changed_here (each_settled graph task value) task q not_asked same ∙ ap (option_map not_asked) (get-each_changed (inputs_settled task value) graph.tasks q)

  all_other : (graph : Graph X K) (task q : ℕ) (value : ℕ → X) → (q ≡ task → ⊥) → task_at (all_delivered graph task value) q ≡ option_map (inputs_settled task value) (task_at graph q)
  all_other graph task q value apart =
      changed_other (each_settled graph task value) task q not_asked apart ∙ get-each_changed (inputs_settled task value) graph.tasks q

  -- one awaiter first
  pub delivers_one_by_one : (graph : Graph X K) (task : ℕ) (awaiter : Awaiter) (value : ℕ → X) → IsAwaiter graph task awaiter
      → all_delivered (delivered graph task awaiter (value (number_of awaiter))) task value ≡ all_delivered graph task value
  delivers_one_by_one graph task (AtInput of place number) value awaits =
      ap (λ tasks. without_asked (record graph { tasks = tasks }) task) (one_input graph task of place number value awaits)
  delivers_one_by_one graph task (Asked caller number) value awaits =
      let new : Graph X K = without_asked graph task in
      ap (λ tasks. record graph { tasks = tasks }) (same_maps (all_delivered new task value).tasks (all_delivered graph task value).tasks (λ q.
      elim (same_or_not q task) [
        | inl same ↦
            all_here new task q value same
            ∙ ap (λ o. option_map not_asked (option_map (inputs_settled task value) o)) (changed_here graph task q not_asked same)
            ∙ asked_twice task value (task_at graph q)
            ∙ sym (all_here graph task q value same)
        | inr apart ↦
            all_other new task q value apart
            ∙ ap (option_map (inputs_settled task value)) (changed_other graph task q not_asked apart)
            ∙ sym (all_other graph task q value apart)
      ]))

  unasked_is : (graph : Graph X K) (task : ℕ) (u : Unfinished X K) → IsNotAwaited graph task → task_at graph task ≡ Some u → u.asked ≡ None
  unasked_is graph task u none is =
      elim (none_or_some u.asked) [
        | inl unasked ↦ unasked
        | inr asked ↦ absurd (none (Asked u.caller asked.0) (record { unfinished = u; there = is; caller_is = refl; number_is = asked.1 }))
      ]

  -- nobody awaits
  pub delivers_to_none : (graph : Graph X K) (task : ℕ) (value : ℕ → X) → IsNotAwaited graph task → all_delivered graph task value ≡ graph
  delivers_to_none graph task value none =
      ap (λ tasks. record graph { tasks = tasks }) (same_maps (all_delivered graph task value).tasks graph.tasks (λ q.
      let inputs : (u : Unfinished X K) → task_at graph q ≡ Some u → inputs_settled task value u ≡ u =
      λ u is. ap (λ inputs. record u { inputs = inputs }) (each_same task value u.inputs (λ place number at. none (AtInput q place number) (input_there graph q place u is ∙ at))) in
      elim (none_or_some (task_at graph q)) [
        | inl gone ↦ elim (same_or_not q task) [
          | inl same ↦ all_here graph task q value same ∙ ap (λ o. option_map not_asked (option_map (inputs_settled task value) o)) gone ∙ sym gone
          | inr apart ↦ all_other graph task q value apart ∙ ap (option_map (inputs_settled task value)) gone ∙ sym gone
        ]
        | inr u ↦ elim (same_or_not q task) [
          | inl same ↦
              all_here graph task q value same
              ∙ ap (λ o. option_map not_asked (option_map (inputs_settled task value) o)) u.1
              ∙ ap (λ v. Some (not_asked v)) (inputs u.0 u.1)
              ∙ ap (λ asked. Some (record u.0 { asked = asked })) (sym (unasked_is graph task u.0 none (ap (task_at graph) (sym same) ∙ u.1)))
              ∙ sym u.1
          | inr apart ↦ all_other graph task q value apart ∙ ap (option_map (inputs_settled task value)) u.1 ∙ ap Some (inputs u.0 u.1) ∙ sym u.1
        ]
      ]))

  -- ---- Who awaits then

  -- a change that leaves who asked for a task
  asked_kept : (graph : Graph X K) (t task c n : ℕ) (change : Unfinished X K → Unfinished X K) → ((u : Unfinished X K) → ((change u).caller ≡ u.caller) × ((change u).asked ≡ u.asked))
      → IsAsked (with_task graph t change) task c n → IsAsked graph task c n
  asked_kept graph t task c n change keeps asked =
      let was = changed_from graph t task change asked.unfinished asked.there in
      elim (was.2) [
        | inl here ↦ record {
          unfinished = was.0;
          there = was.1;
          caller_is = sym (keeps was.0).0 ∙ ap (λ (u : Unfinished X K). u.caller) here.1 ∙ asked.caller_is;
          number_is = sym (keeps was.0).1 ∙ ap (λ (u : Unfinished X K). u.asked) here.1 ∙ asked.number_is;
        }
        | inr other ↦ record {
          unfinished = was.0;
          there = was.1;
          caller_is = ap (λ (u : Unfinished X K). u.caller) other.1 ∙ asked.caller_is;
          number_is = ap (λ (u : Unfinished X K). u.asked) other.1 ∙ asked.number_is;
        }
      ]

  asked_stays : (graph : Graph X K) (t task c n : ℕ) (change : Unfinished X K → Unfinished X K) → ((u : Unfinished X K) → ((change u).caller ≡ u.caller) × ((change u).asked ≡ u.asked))
      → IsAsked graph task c n → IsAsked (with_task graph t change) task c n
  asked_stays graph t task c n change keeps asked =
      elim (same_or_not task t) [
        | inl same ↦ record {
          unfinished = change asked.unfinished;
          there = changed_here graph t task change same ∙ ap (option_map change) asked.there;
          caller_is = (keeps asked.unfinished).0 ∙ asked.caller_is;
          number_is = (keeps asked.unfinished).1 ∙ asked.number_is;
        }
        | inr apart ↦ record {
          unfinished = asked.unfinished;
          there = changed_other graph t task change apart ∙ asked.there;
          caller_is = asked.caller_is;
          number_is = asked.number_is;
        }
      ]

  -- the input that was set, and every other
  input_set : (graph : Graph X K) (of place : ℕ) (old new : Input X) → input_at graph of place ≡ Some old
      → input_at (with_task graph of (λ u. record u { inputs = set u.inputs place new })) of place ≡ Some new
  input_set graph of place old new is =
      let change : Unfinished X K → Unfinished X K = λ u. record u { inputs = set u.inputs place new } in
      let u = task_behind graph of place old is in
      input_there (with_task graph of change) of place (change u.0) (changed_here graph of of change refl ∙ ap (option_map change) u.1) ∙ set_here u.0.inputs place old new u.2

  input_kept : (graph : Graph X K) (of place q p : ℕ) (new : Input X) → (q ≡ of → p ≡ place → ⊥)
      → input_at (with_task graph of (λ u. record u { inputs = set u.inputs place new })) q p ≡ input_at graph q p
  input_kept graph of place q p new apart =
      let change : Unfinished X K → Unfinished X K = λ u. record u { inputs = set u.inputs place new } in
      elim (none_or_some (task_at graph q)) [
        | inl gone ↦
            let none : task_at (with_task graph of change) q ≡ None = elim (same_or_not q of) [
              | inl same ↦ changed_here graph of q change same ∙ ap (option_map change) gone
              | inr other ↦ changed_other graph of q change other ∙ gone
            ] in
            no_input (with_task graph of change) q p none ∙ sym (no_input graph q p gone)
        | inr u ↦ elim (same_or_not q of) [
          | inl same ↦
              input_there (with_task graph of change) q p (change u.0) (changed_here graph of q change same ∙ ap (option_map change) u.1)
              ∙ set_other u.0.inputs place p new (apart same)
              ∙ sym (input_there graph q p u.0 u.1)
          | inr other ↦ input_there (with_task graph of change) q p u.0 (changed_other graph of q change other ∙ u.1) ∙ sym (input_there graph q p u.0 u.1)
        ]
      ]

  -- inputs stay where what was asked changes
  inputs_kept : (graph : Graph X K) (task q p : ℕ) → input_at (without_asked graph task) q p ≡ input_at graph q p
  inputs_kept graph task q p =
      elim (none_or_some (task_at graph q)) [
        | inl gone ↦
            let none : task_at (without_asked graph task) q ≡ None = elim (same_or_not q task) [
              | inl same ↦ changed_here graph task q not_asked same ∙ ap (option_map not_asked) gone
              | inr other ↦ changed_other graph task q not_asked other ∙ gone
            ] in
            no_input (without_asked graph task) q p none ∙ sym (no_input graph q p gone)
        | inr u ↦ elim (same_or_not q task) [
          | inl same ↦ input_there (without_asked graph task) q p (not_asked u.0) (changed_here graph task q not_asked same ∙ ap (option_map not_asked) u.1) ∙ sym (input_there graph q p u.0 u.1)
          | inr other ↦ input_there (without_asked graph task) q p u.0 (changed_other graph task q not_asked other ∙ u.1) ∙ sym (input_there graph q p u.0 u.1)
        ]
      ]

  -- an awaiter of a task has one caller and one number, if it asked
  pub asked_once : (graph : Graph X K) (task c n d m : ℕ) → IsAsked graph task c n → IsAsked graph task d m → Asked c n ≡ Asked d m
  asked_once graph task c n d m one two =
      let same = same_some one.unfinished two.unfinished (sym one.there ∙ two.there) in
      let caller : c ≡ d = sym one.caller_is ∙ ap (λ (u : Unfinished X K). u.caller) same ∙ two.caller_is in
      let number : n ≡ m = same_some n m (sym one.number_is ∙ ap (λ (u : Unfinished X K). u.asked) same ∙ two.number_is) in
      λ i. Asked (caller i) (number i)

  not_asked_then : (graph : Graph X K) (task c n : ℕ) → IsAsked (without_asked graph task) task c n → ⊥
  not_asked_then graph task c n asked =
      let was = changed_from graph task task not_asked asked.unfinished asked.there in
      elim (was.2) [
        | inl here ↦ not_none None n refl (ap (λ (u : Unfinished X K). u.asked) here.1 ∙ asked.number_is)
        | inr other ↦ other.0 refl
      ]

  asked_other : (graph : Graph X K) (task of c n : ℕ) → (of ≡ task → ⊥) → IsAsked (without_asked graph task) of c n → IsAsked graph of c n
  asked_other graph task of c n apart asked = record {
    unfinished = asked.unfinished;
    there = sym (changed_other graph task of not_asked apart) ∙ asked.there;
    caller_is = asked.caller_is;
    number_is = asked.number_is;
  }

  asked_left : (graph : Graph X K) (task of c n : ℕ) → (of ≡ task → ⊥) → IsAsked graph of c n → IsAsked (without_asked graph task) of c n
  asked_left graph task of c n apart asked = record {
    unfinished = asked.unfinished;
    there = changed_other graph task of not_asked apart ∙ asked.there;
    caller_is = asked.caller_is;
    number_is = asked.number_is;
  }

  -- who awaits a task after a delivery
  pub delivers_to_one : (graph : Graph X K) (task : ℕ) (awaiter : Awaiter) (value : X) → IsAwaiter graph task awaiter → (of : ℕ) (other : Awaiter)
      → IsAwaiter (delivered graph task awaiter value) of other ↔ (IsAwaiter graph of other × (of ≡ task → other ≡ awaiter → ⊥))
  delivers_to_one graph task (AtInput a place number) value awaits of (AtInput q p n) =
      let change : Unfinished X K → Unfinished X K = λ u. record u { inputs = set u.inputs place (Known value) } in
      let new : Graph X K = with_task graph a change in
      let here : input_at new a place ≡ Some (Known value) = input_set graph a place (Awaits task number) (Known value) awaits in
      let moved : q ≡ a → p ≡ place → input_at new q p ≡ Some (Known value) = λ one two. ap (λ x. input_at new x p) one ∙ ap (input_at new a) two ∙ here in (
        λ then.
            let apart : q ≡ a → p ≡ place → ⊥ = λ one two. known_apart value of n (sym (moved one two) ∙ then) in
            (sym (input_kept graph a place q p (Known value) apart) ∙ then, λ _ same. let both = same_input q p n a place number same in apart both.0 both.1),
        λ before.
            let apart : q ≡ a → p ≡ place → ⊥ = λ one two.
            let same = same_awaited of n task number (sym before.0 ∙ ap (λ x. input_at graph x p) one ∙ ap (input_at graph a) two ∙ awaits) in
            before.1 same.0 (λ i. AtInput (one i) (two i) (same.1 i)) in
            input_kept graph a place q p (Known value) apart ∙ before.0,
      )
  delivers_to_one graph task (AtInput a place number) value awaits of (Asked c n) = (
    λ then. (asked_kept graph a of c n (λ u. record u { inputs = set u.inputs place (Known value) }) (λ u. (refl, refl)) then, λ _ same. input_asked a place number c n (sym same)),
    λ before. asked_stays graph a of c n (λ u. record u { inputs = set u.inputs place (Known value) }) (λ u. (refl, refl)) before.0,
  )
  delivers_to_one graph task (Asked d m) value awaits of (AtInput q p n) = (
    λ then. (sym (inputs_kept graph task q p) ∙ then, λ _ same. input_asked q p n d m same),
    λ before. inputs_kept graph task q p ∙ before.0,
  )
  delivers_to_one graph task (Asked d m) value awaits of (Asked c n) =
      elim (same_or_not of task) [
        | inl same ↦ (
          λ then. absurd (not_asked_then graph task c n (subst (λ t. IsAsked (without_asked graph task) t c n) same then)),
          λ before. absurd (before.1 same (asked_once graph task c n d m (subst (λ t. IsAsked graph t c n) same before.0) awaits)),
        )
        | inr apart ↦ (λ then. (asked_other graph task of c n apart then, λ same _. apart same), λ before. asked_left graph task of c n apart before.0)
      ]
