use Rattle.std.proofs.Common.{sym, subst}
use Rattle.name_states.specs.Rules.{IsSound}
use Rattle.chunk_refs.specs.Inside.{names_of}
use Rattle.chunk_refs.proofs.Calls.{sound-gone}
use Rattle.chunk_refs.proofs.parts.Parts.delete.Goals as goal

pub sweep-requires-clause-sound : goal.sweep-requires-clause-sound
sweep-requires-clause-sound g c = λ κs lives.
    subst (λ names. IsSound g.C.Payload.arity names) (sym c.end_id-first.ensures.names) (sound-gone g.C.Payload.arity (names_of c.args.self.now) c.args.id c.requires.sound c.requires.live c.requires.outside)
