use Rattle.std.proofs.Common.{refl}
use Rattle.chunk_refs.proofs.Reserving.{first-names, first-chain}
use Rattle.chunk_refs.proofs.parts.Parts.new.Goals as goal

pub returns-clause-names : goal.returns-clause-names
returns-clause-names g c = first-names (record { ids = c.new.result; stores = c.in_ok-stores.stores; bodies = 0 }) c.new.ensures.empty c.in_ok-stores.ensures.empty

pub returns-clause-chain : goal.returns-clause-chain
returns-clause-chain g c = first-chain (record { ids = c.new.result; stores = c.in_ok-stores.stores; bodies = 0 }) c.new.ensures.empty c.in_ok-stores.ensures.empty refl c.new.ensures.unique
