-- A task that is not there: nobody awaits it, so a task that somebody awaits is there.
use Rattle.std.proofs.Common.{◌≡◌, ℕ, Option, Some, None, IsSome, refl, sym, ap, ◌∙◌}
use Rattle.std.specs.Option.{option_map}
use Rattle.cht_ids.specs.declared.refs.Ref.{Ref}
use Rattle.task_states.specs.declared.states.Awaiter.TheVariants.{Input as AtInput, Asked}
use Rattle.task_states.specs.States.{task_at, Unfinished}
use Rattle.task_states.specs.Awaiters.{IsNotAwaited}
use Rattle.task_states.proofs.Options.{not_none}
use Rattle.task_graph.specs.declared.parts.Parts.{Parts}
use Rattle.task_links.specs.Inside.{entries_at}
use Rattle.task_links.specs.Weave.{head_at, head_of}
use Rattle.task_graph.specs.Graphs.{graph_of, IsWhole}
use Rattle.task_links.proofs.Walking.{some_is}
use Rattle.task_graph.proofs.Awaiting.{link_behind}
use Rattle.task_graph.proofs.Runs.{task_none}
use Rattle.task_graph.proofs.Additions.{none_entry}

module _ {K : Type 0} (parts : Parts K) (t : ℕ) (whole : IsWhole parts) where
  -- nobody awaits a task that is not there
  pub strange : entries_at parts.entries t ≡ None → IsNotAwaited (graph_of parts) t
  strange gone (AtInput s j number) awaits =
      let l = link_behind parts s j t number awaits in
      let h = whole.woven.home (record { task = s; place = j }) l.0 l.1 in
      not_none (head_at (entries_at parts.entries) t) h.1 (ap (option_map head_of) gone) (ap (head_at (entries_at parts.entries)) (sym l.2) ∙ h.3)
  strange gone (Asked c number) asked =
      not_none (task_at (graph_of parts) t) asked.unfinished (task_none parts t gone) asked.there

  -- so a task that somebody awaits is there
  there_from : (o : Option (Unfinished Ref K)) → task_at (graph_of parts) t ≡ o → (IsNotAwaited (graph_of parts) t → ⊥) → IsSome o
  there_from None gone awaited = absurd (awaited (strange (none_entry parts t gone)))
  there_from (Some u) is awaited = some_is (Some u) u refl

  pub awaited_there : (IsNotAwaited (graph_of parts) t → ⊥) → IsSome (task_at (graph_of parts) t)
  awaited_there awaited = there_from (task_at (graph_of parts) t) refl awaited
