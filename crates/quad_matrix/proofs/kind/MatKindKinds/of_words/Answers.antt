use Rattle.std.proofs.Common.{refl, sym}
use Rattle.quad_matrix.proofs.Names.{found_by_name}
use Rattle.quad_matrix.proofs.kind.MatKindKinds.of_words.Goals as goal

pub returns-clause-known : goal.returns-clause-known
returns-clause-known c = (found_by_name c.args.name.now c.in_ok-what.what (sym c.in_ok-what.ensures), refl)
