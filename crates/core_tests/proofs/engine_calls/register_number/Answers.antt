use Rattle.quad_matrix.specs.declared.chunk.MatChunk.TheVariants.{Num}
use Rattle.std.specs.Prelude.{pos}
use Rattle.cht_plain.specs.Alone.{seen_of}
use Rattle.quad_matrix.specs.Matrices.{matrices}
use Rattle.core_tests.proofs.HeldAfter.{content_registered}
use Rattle.core_tests.proofs.engine_calls.register_number.Goals as goal

pub returns : goal.returns
returns c = content_registered (seen_of matrices c.args.engine.now) (seen_of matrices c.register.new.self) (Num (pos 5)) c.in_ok-id.id c.requires c.in_ok-id.ensures
