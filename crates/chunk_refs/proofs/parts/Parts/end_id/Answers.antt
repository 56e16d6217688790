use Rattle.std.proofs.Common.{refl, ap}
use Rattle.chunk_refs.specs.declared.parts.Parts.{Parts}
use Rattle.chunk_refs.proofs.Ending.{counts-name, id-ended, absent-names, linked-entries}
use Rattle.chunk_refs.proofs.parts.Parts.end_id.Goals as goal

pub release-requires-clause-counted : goal.release-requires-clause-counted
release-requires-clause-counted g c = λ κs lives chunk at.
    counts-name c.args.self.now c.args.first c.args.number c.in-Some.name c.requires c.in-Some.ensures.value chunk at

pub returns-in-Some-clause-names : goal.returns-in-Some-clause-names
returns-in-Some-clause-names g c =
    let e = c.in-Some.ensures in
    (id-ended c.args.self.now c.release.new.self c.args.first c.release.result c.args.number c.in-Some.name c.remove.new.self.entries c.requires e.value
    (record { lookups = e.updates.0; taken = e.entries; unique = e.unique })
    (ap (λ (p : Parts g.row.C.Denot). p.ids.entries) c.release.ensures.rest)
    (ap (λ (p : Parts g.row.C.Denot). p.bodies) c.release.ensures.rest)
    c.release.ensures.released).0

pub returns-in-Some-clause-chain : goal.returns-in-Some-clause-chain
returns-in-Some-clause-chain g c =
    let e = c.in-Some.ensures in
    (id-ended c.args.self.now c.release.new.self c.args.first c.release.result c.args.number c.in-Some.name c.remove.new.self.entries c.requires e.value
    (record { lookups = e.updates.0; taken = e.entries; unique = e.unique })
    (ap (λ (p : Parts g.row.C.Denot). p.ids.entries) c.release.ensures.rest)
    (ap (λ (p : Parts g.row.C.Denot). p.bodies) c.release.ensures.rest)
    c.release.ensures.released).1

pub returns-in-None-clause-names : goal.returns-in-None-clause-names
returns-in-None-clause-names g c =
    absent-names c.args.self.now (record c.args.self.now { ids = c.remove.new.self }) c.args.number c.in-None.ensures.updates.0 refl

pub returns-in-None-clause-chain : goal.returns-in-None-clause-chain
returns-in-None-clause-chain g c =
    (c.requires.0, linked-entries c.args.self.now (record c.args.self.now { ids = c.remove.new.self }) c.args.first c.requires.0 c.requires.1 c.in-None.ensures.unchanged refl refl)
