use Rattle.std.proofs.Common.{◌≡◌, ℕ, true, false, None, Some, refl, sym, subst}
use Rattle.task_states.specs.Awaiters.{IsLeastOf, IsRunnable, IsWanted}
use Rattle.core_state.specs.Contents.{Contents}
use Rattle.cht_core.specs.Events.{state}
use Rattle.cht_core.proofs.ToDo.{wanted_to, wanted_from, least_to}
use Rattle.cht_core.proofs.cores.Core.idle.Goals as goal

pub returns-in-Some : goal.returns-in-Some
returns-in-Some g c =
    subst (λ (core : Contents g.row.L-Chunk.Denot g.row.L-Kind.Denot). IsLeastOf (IsRunnable (state g.L.Library.meanings core).graph) (Some c.in-Some.task)) c.self.view_is
    (least_to g.L.Library.meanings g.L.Chunk.Payload.arity c.self.inside.kept.control (Some c.in-Some.task) c.in-Some.ensures)

pub returns-in-None : goal.returns-in-None
returns-in-None g c = (
  subst (λ (core : Contents g.row.L-Chunk.Denot g.row.L-Kind.Denot). (task : ℕ) × IsWanted (state g.L.Library.meanings core).graph task) c.self.view_is
      ((c.if-any.ensures.0 refl).0, wanted_to g.L.Library.meanings g.L.Chunk.Payload.arity c.self.inside.kept.control (c.if-any.ensures.0 refl).0 (c.if-any.ensures.0 refl).1),
  subst (λ (core : Contents g.row.L-Chunk.Denot g.row.L-Kind.Denot). IsLeastOf (IsRunnable (state g.L.Library.meanings core).graph) None) c.self.view_is
      (least_to g.L.Library.meanings g.L.Chunk.Payload.arity c.self.inside.kept.control None c.in-None.ensures),
)

pub returns-else-any : goal.returns-else-any
returns-else-any g c =
    λ task wanted.
    let clash : false ≡ true = c.if-any.ensures.1
    (task, wanted_from g.L.Library.meanings g.L.Chunk.Payload.arity c.self.inside.kept.control task (subst (λ (core : Contents g.row.L-Chunk.Denot g.row.L-Kind.Denot). IsWanted (state g.L.Library.meanings core).graph task) (sym c.self.view_is) wanted)) in
    cc
