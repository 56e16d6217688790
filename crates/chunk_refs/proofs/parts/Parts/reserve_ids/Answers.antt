use Rattle.std.proofs.Common.{refl}
use Rattle.chunk_refs.proofs.Reserving.{reordered}
use Rattle.chunk_refs.proofs.parts.Parts.reserve_ids.Goals as goal

pub returns-in_err-reserve-clause-chain : goal.returns-in_err-reserve-clause-chain
returns-in_err-reserve-clause-chain g c =
    (reordered c.args.self.now (record c.args.self.now { ids = c.reserve.new.self }) c.requires c.reserve.ensures.entries c.reserve.ensures.unique refl refl).1

pub returns-clause-names : goal.returns-clause-names
returns-clause-names g c =
    (reordered c.args.self.now (record c.args.self.now { ids = c.reserve.new.self }) c.requires c.reserve.ensures.entries c.reserve.ensures.unique refl refl).0

pub returns-clause-chain : goal.returns-clause-chain
returns-clause-chain g c =
    (reordered c.args.self.now (record c.args.self.now { ids = c.reserve.new.self }) c.requires c.reserve.ensures.entries c.reserve.ensures.unique refl refl).1
