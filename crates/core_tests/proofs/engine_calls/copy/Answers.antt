use Rattle.cht_plain.specs.Alone.{seen_of}
use Rattle.quad_matrix.specs.Matrices.{matrices}
use Rattle.core_tests.proofs.HeldAfter.{may_mention, copied_beside, copied_same}
use Rattle.core_tests.proofs.engine_calls.copy.Goals as goal

pub copy-requires-after_bounds : goal.copy-requires-after_bounds
copy-requires-after_bounds c κs = may_mention (seen_of matrices c.args.engine.now) c.args.r c.requires

pub returns-clause-two : goal.returns-clause-two
returns-clause-two c = copied_beside (seen_of matrices c.args.engine.now) (seen_of matrices c.copy.new.self) c.args.r c.in_ok-copy.copy c.requires c.in_ok-copy.ensures

pub returns-clause-same : goal.returns-clause-same
returns-clause-same c = copied_same (seen_of matrices c.args.engine.now) (seen_of matrices c.copy.new.self) c.args.r c.in_ok-copy.copy c.in_ok-copy.ensures
