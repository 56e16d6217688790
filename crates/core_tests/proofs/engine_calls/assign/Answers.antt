use Rattle.cht_ids.specs.declared.refs.Ref.TheVariants.{Id as Held}
use Rattle.cht_plain.specs.Alone.{seen_of}
use Rattle.quad_matrix.specs.Matrices.{matrices}
use Rattle.core_tests.proofs.HeldAfter.{may_mention, list_still, matrix_assigned}
use Rattle.core_tests.proofs.engine_calls.assign.Goals as goal

pub ask-requires-clause-held : goal.ask-requires-clause-held
ask-requires-clause-held c κs = (may_mention (seen_of matrices c.args.engine.now) (Held c.args.id) c.requires.one, tt)

pub delete-requires-after_bounds : goal.delete-requires-after_bounds
delete-requires-after_bounds c κs =
    list_still (seen_of matrices c.args.engine.now) (seen_of matrices c.ask.new.self) c.args.id c.in_ok-a.a c.requires c.in_ok-a.ensures

pub returns : goal.returns
returns c =
    matrix_assigned (seen_of matrices c.args.engine.now) (seen_of matrices c.ask.new.self) (seen_of matrices c.delete.new.self) c.args.id c.in_ok-a.a c.requires c.in_ok-a.ensures c.delete.ensures
