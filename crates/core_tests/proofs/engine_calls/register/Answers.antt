use Rattle.cht_plain.specs.Alone.{seen_of}
use Rattle.quad_matrix.specs.Matrices.{matrices}
use Rattle.core_tests.proofs.HeldAfter.{list_registered}
use Rattle.core_tests.proofs.engine_calls.register.Goals as goal

pub returns : goal.returns
returns c =
    list_registered (seen_of matrices c.args.engine.now) (seen_of matrices c.register.new.self) c.in_ok-entries.entries c.in_ok-id.id c.requires c.in_ok-entries.ensures c.in_ok-id.ensures
