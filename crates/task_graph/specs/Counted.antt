-- How many await a task, as far as the list of its awaiting inputs was walked.
use Rattle.std.specs.Prelude.{◌≡◌, ℕ, ◌+◌, length, Option}
use Rattle.cht_ids.specs.declared.refs.Ref.{Ref}
use Rattle.task_states.specs.declared.states.Awaiter.TheVariants.{Input as AtInput, Asked}
use Rattle.task_states.specs.States.{Graph}
use Rattle.task_states.specs.Awaiters.{IsAwaiter}
use Rattle.task_states.specs.Listing.{awaiters}
use Rattle.task_links.specs.declared.entries.Spot.{Spot}
use Rattle.task_graph.specs.declared.parts.Parts.{Parts}
use Rattle.task_links.specs.Inside.{entries_at}
use Rattle.task_links.specs.Weave.{Above, Leads, row_of, link_at}
use Rattle.task_graph.specs.Graphs.{graph_of}

-- So many inputs were passed, up to a bound, and this one comes next. Who is not counted yet awaits the task in another graph, in
-- which what was passed was delivered: the inputs above the bound, and the caller that asked.
pub record IsCounted {K : Type 0} (parts : Parts K) (task : ℕ) (next : Option Spot) (count : ℕ) : Type 0 where
  pub left : Graph Ref K
  pub bound : Option ℕ
  pub leads : Leads (row_of (link_at (entries_at parts.entries))) task bound next
  pub sum : count + length (awaiters left task) ≡ length (awaiters (graph_of parts) task)
  pub inputs_from : (of place number : ℕ) → IsAwaiter left task (AtInput of place number) → IsAwaiter (graph_of parts) task (AtInput of place number) × Above bound number
  pub inputs_to : (of place number : ℕ) → IsAwaiter (graph_of parts) task (AtInput of place number) → Above bound number → IsAwaiter left task (AtInput of place number)
  pub asked_from : (caller number : ℕ) → IsAwaiter left task (Asked caller number) → IsAwaiter (graph_of parts) task (Asked caller number)
  pub asked_to : (caller number : ℕ) → IsAwaiter (graph_of parts) task (Asked caller number) → IsAwaiter left task (Asked caller number)
