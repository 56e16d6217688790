-- Numbers by rising number.
use Rattle.std.specs.Prelude.{◌≡◌, ℕ, ◌≤◌, Bool, true, false, nat_eq, Option, None, Some}
use Rattle.std.specs.List.{list_any}
use Rattle.std.specs.Ordering.{nat_cmp}
use Rattle.std.specs.BinaryHeap.{heap_items, heap_len, heap_capacity, IsHeap}
use Rattle.std.specs.declared.cmp.Reverse.{Reverse}
use Rattle.std.specs.declared.cmp.Ordering.{Ordering}
use Rattle.task_links.specs.declared.queue.Queue.{Queue}

-- numbers the other way round
abbrev pub by_falling : Reverse ℕ → Reverse ℕ → Ordering
by_falling a b = nat_cmp b.0 a.0

-- whether a number is among them
abbrev pub is_queued : ℕ → Queue → Bool
is_queued number queue = list_any (λ (item : Reverse ℕ). nat_eq number item.0) (heap_items queue.heap)

-- they stand in the order that the least is found at once
abbrev pub IsQueue : Queue → Type 0
IsQueue queue = IsHeap by_falling (heap_items queue.heap)

-- how many, repeats counted, and for how many there is room
abbrev pub queue_len : Queue → ℕ
queue_len queue = heap_len queue.heap

abbrev pub queue_capacity : Queue → ℕ
queue_capacity queue = heap_capacity queue.heap

-- the least number, or nothing where there is none
abbrev pub IsQueueLeast : Queue → Option ℕ → Type 0
IsQueueLeast queue None = (number : ℕ) → is_queued number queue ≡ false
IsQueueLeast queue (Some least) = (is_queued least queue ≡ true) × ((number : ℕ) → is_queued number queue ≡ true → least ≤ number)
