use Rattle.cht_plain.specs.Alone.{seen_of}
use Rattle.quad_matrix.specs.Matrices.{matrices}
use Rattle.core_tests.proofs.HeldAfter.{may_mention, first_left, nothing_left}
use Rattle.core_tests.proofs.engine_calls.delete_both.Goals as goal

pub delete-requires-2-after_bounds : goal.delete-requires-2-after_bounds
delete-requires-2-after_bounds c κs =
    may_mention (seen_of matrices c.delete.new.self) c.args.first
    (first_left (seen_of matrices c.args.engine.now) (seen_of matrices c.delete.new.self) c.args.first c.args.second c.requires c.delete.ensures)

pub returns : goal.returns
returns c =
    nothing_left (seen_of matrices c.delete.new.self) (seen_of matrices c.delete-2.new.self) c.args.first
    (first_left (seen_of matrices c.args.engine.now) (seen_of matrices c.delete.new.self) c.args.first c.args.second c.requires c.delete.ensures) c.delete-2.ensures
