use Rattle.std.proofs.Common.{◌≡◌, None, subst}
use Rattle.std.proofs.Common.{rules}
use Rattle.chunk_refs.specs.Inside.{names_of, HasChain}
use Rattle.chunk_refs.proofs.Ending.{all-named-once}
use Rattle.name_states.proofs.Reaching.{all-reached}
use Rattle.chunk_refs.proofs.Sweeping.{partial-step, partial-end}
use Rattle.chunk_refs.proofs.parts.Parts.sweep.Goals as goal

pub loop-first-preserved : goal.loop-first-preserved
loop-first-preserved g c = record {
  chain = c.take_out-first.ensures.chain;
  partial = partial-step g.C.Payload.arity (names_of c.args.self.now) (names_of c.loop-first.self) (names_of c.take_out-first.new.self) c.loop-first.invariant.partial c.take_out-first.ensures.taken;
  room = search rules;
}

pub returns-clause-names : goal.returns-clause-names
returns-clause-names g c =
    let i = c.loop-first.invariant in
    let none : c.loop-first.first ≡ None = search rules in
    partial-end g.C.Payload.arity (names_of c.args.self.now) (names_of c.loop-first.self) c.requires.sound i.partial
    (all-reached g.C.Payload.arity (names_of c.loop-first.self) i.partial.sound (all-named-once c.loop-first.self (subst (HasChain c.loop-first.self) none i.chain)))
