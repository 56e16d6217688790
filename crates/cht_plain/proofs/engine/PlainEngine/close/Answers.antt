use Rattle.std.proofs.Common.{subst}
use Rattle.core_state.specs.Contents.{Contents}
use Rattle.cht_core.specs.Events.{plans_of}
use Rattle.cht_engine.specs.Closing.{AreClosed}
use Rattle.cht_plain.specs.Alone.{seen_of}
use Rattle.cht_plain.proofs.engine.PlainEngine.close.Goals as goal

pub returns : goal.returns
returns g c =
    subst (λ (core : Contents g.row.L-Chunk.Denot g.row.L-Kind.Denot). AreClosed (plans_of g.L.Library.meanings g.L.Kind.Kinds.name_of g.L.Kind.Kinds.height_of)
    (seen_of g.L.Library.meanings core) c.close.result) c.self.view_is c.close.ensures
