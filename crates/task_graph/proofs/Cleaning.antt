-- The numbers among which every task that can be run stands.
use Rattle.std.proofs.Common.{◌≡◌, ℕ, ◌≤◌, true, false, ◌||◌, Some, None, nat_eq, refl, sym, ap, subst, ◌∙◌, ◌⊎◌, inl, inr, arith}
use Rattle.task_states.specs.States.{Graph}
use Rattle.task_states.specs.Awaiters.{IsRunnable}
use Rattle.task_states.proofs.Maps.{same_or_not, test_same, test_apart}
use Rattle.task_links.specs.declared.queue.Queue.{Queue}
use Rattle.task_links.specs.Inside.{IsSameSize}
use Rattle.task_links.specs.Queue.{is_queued, IsQueueLeast}
use Rattle.task_graph.specs.declared.held.Held.{Held}
use Rattle.task_graph.specs.declared.parts.Parts.{Parts}
use Rattle.task_graph.specs.Graphs.{graph_of, IsWhole, IsHeld}

pub same_least : (queue : Queue) (a b : ℕ) → IsQueueLeast queue (Some a) → IsQueueLeast queue (Some b) → a ≡ b
same_least queue a b one two =
    let low : a ≤ b = one.1 b two.0 in
    let high : b ≤ a = two.1 a one.0 in
    omega arith

pub no_least : (queue : Queue) (a : ℕ) → IsQueueLeast queue None → IsQueueLeast queue (Some a) → ⊥
no_least queue a none some = let clash : false ≡ true = sym (none a) ∙ some.0 in cc

module _ {X K : Type 0} (graph : Graph X K) (old new : Queue) where
  -- one that can't be run is taken out
  pub still_queued : (least : ℕ) → (IsRunnable graph least → ⊥) → ((q : ℕ) → is_queued q old ≡ (nat_eq q least || is_queued q new)) → ((task : ℕ) → IsRunnable graph task → is_queued task old ≡ true)
      → (task : ℕ) → IsRunnable graph task → is_queued task new ≡ true
  still_queued least never rest queued task runs =
      elim (same_or_not task least) [
        | inl same ↦ absurd (never (subst (IsRunnable graph) same runs))
        | inr apart ↦ sym (rest task ∙ ap (λ b. b || is_queued task new) (test_apart task least apart)) ∙ queued task runs
      ]

  -- one more number
  pub more_queued : (number : ℕ) → ((q : ℕ) → is_queued q new ≡ (nat_eq q number || is_queued q old)) → ((task : ℕ) → IsRunnable graph task → (task ≡ number) ⊎ (is_queued task old ≡ true))
      → (task : ℕ) → IsRunnable graph task → is_queued task new ≡ true
  more_queued number put queued task runs =
      elim (queued task runs) [
        | inl same ↦ put task ∙ ap (λ b. b || is_queued task old) (ap (λ t. nat_eq t number) same ∙ test_same number)
        | inr before ↦ put task ∙ ap (λ b. nat_eq task number || b) before ∙ elim (nat_eq task number) as (λ b. (b || true) ≡ true) [ true ↦ refl | false ↦ refl ]
      ]

module _ {X K : Type 0} (graph : Graph X K) (old new : Queue) where
  -- the least of one more number is that number, or the least of those before
  pub least_more : (number : ℕ) → ((q : ℕ) → is_queued q new ≡ (nat_eq q number || is_queued q old)) → IsRunnable graph number → ((task : ℕ) → IsQueueLeast old (Some task) → IsRunnable graph task)
      → (task : ℕ) → IsQueueLeast new (Some task) → IsRunnable graph task
  least_more number put runs least task is =
      elim (same_or_not task number) [
        | inl same ↦ subst (IsRunnable graph) (sym same) runs
        | inr apart ↦ least task (
          sym (ap (λ b. b || is_queued task old) (test_apart task number apart)) ∙ sym (put task) ∙ is.0,
          λ other before. is.1 other (put other ∙ ap (λ b. nat_eq other number || b) before ∙ elim (nat_eq other number) as (λ b. (b || true) ≡ true) [ true ↦ refl | false ↦ refl ]),
        )
      ]

-- one that may be missing and can't be run
pub queued_but : {X K : Type 0} (graph : Graph X K) (queue : Queue) (but : ℕ) → (IsRunnable graph but → ⊥) → ((task : ℕ) → IsRunnable graph task → (task ≡ but) ⊎ (is_queued task queue ≡ true))
    → (task : ℕ) → IsRunnable graph task → is_queued task queue ≡ true
queued_but graph queue but never queued task runs =
    elim (queued task runs) [ inl same ↦ absurd (never (subst (IsRunnable graph) same runs)) | inr is ↦ is ]

-- after a step that leaves which tasks can be run
pub held_after : {K : Type 0} (old : Held K) (parts : Parts K) → IsHeld old → IsWhole parts → IsSameSize old.parts.entries parts.entries → ((q : ℕ) → IsRunnable (graph_of parts) q → IsRunnable (graph_of old.parts) q)
    → ((q : ℕ) → IsRunnable (graph_of old.parts) q → IsRunnable (graph_of parts) q) → IsHeld (record { parts = parts; ready = old.ready; spare = old.spare })
held_after old parts held whole size back stays =
    let entries = held.room.entries in
    let numbers = held.room.numbers in
    let few = held.room.few in
    let len = size.len in
    let room = size.room in
    record {
      whole = whole;
      queue = held.queue;
      queued = λ q runs. held.queued q (back q runs);
      least = λ q is. stays q (held.least q is);
      room = record { entries = omega arith; numbers = omega arith; few = omega arith };
    }
