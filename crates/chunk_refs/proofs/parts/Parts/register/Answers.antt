use Rattle.std.proofs.Common.{sym, ap, ◌∙◌, ◌≡◌, arith, subst}
use Rattle.name_states.specs.Steps.{numbered}
use Rattle.name_states.specs.Rules.{AreWithin}
use Rattle.chunk_refs.specs.Inside.{names_of, room_of, all_four, refs_of}
use Rattle.chunk_refs.proofs.Padded.{present-padded}
use Rattle.chunk_refs.proofs.Registering.{own-padded, live-both, register-names, left-more}
use Rattle.name_states.proofs.Within.{within-both}
use Rattle.chunk_refs.proofs.parts.Parts.register.Goals as goal

pub put-requires-clause-padded : goal.put-requires-clause-padded
put-requires-clause-padded g c = λ κs lives. own-padded _ c.args.children.now c.numbered-own.result c.requires.padded c.numbered-own.ensures.count c.numbered-own.ensures.refs

pub link_all-requires-clause-within : goal.link_all-requires-clause-within
link_all-requires-clause-within g c = λ κs lives.
    subst (λ n. AreWithin n c.next-name.result) (sym c.put.ensures.names)
    (within-both (names_of c.args.self.now) c.args.counter.now c.next-number.result c.next-name.result c.args.holder c.args.worker c.args.body (refs_of c.numbered-own.result) c.requires.within (omega arith) (omega arith))

pub link_all-requires-clause-live : goal.link_all-requires-clause-live
link_all-requires-clause-live g c = λ κs lives.
    live-both (names_of c.args.self.now) (names_of c.put.new.self) c.args.counter.now c.next-number.result c.next-name.result c.args.holder c.args.worker c.args.body (refs_of c.numbered-own.result) (all_four c.args.children.now) c.requires.within (omega arith) c.put.ensures.names c.requires.live

pub returns-clause-drawn : goal.returns-clause-drawn
returns-clause-drawn g c = omega (arith, c.numbered-own.ensures.drawn, c.next-name.ensures.drawn, c.next-number.ensures.drawn, present-padded c.args.children.now.count (all_four c.args.children.now) c.requires.padded)

pub returns-clause-names : goal.returns-clause-names
returns-clause-names g c =
    let name : c.next-name.new.self ≡ c.next-name.result = omega arith in
    register-names (names_of c.args.self.now) (names_of c.put.new.self) (names_of c.link_all.new.self) c.args.counter.now c.next-number.result c.next-name.result c.args.holder c.args.worker c.args.body c.args.children.now c.numbered-own.result
    (omega arith) (omega arith) c.requires.padded c.numbered-own.ensures.count
    (c.numbered-own.ensures.refs ∙ ap (λ n. numbered n (all_four c.args.children.now)) name)
    c.put.ensures.names c.link_all.ensures.names

pub returns-clause-room : goal.returns-clause-room
returns-clause-room g c = left-more (room_of c.args.self.now) (room_of c.put.new.self) (room_of c.link_all.new.self) c.args.worker 1 c.args.children.now c.requires.padded c.put.ensures.room c.link_all.ensures.bodies c.link_all.ensures.room
