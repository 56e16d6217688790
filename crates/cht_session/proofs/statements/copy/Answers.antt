use Rattle.std.proofs.Common.{◌≡◌, None, Some, refl, sym, subst}
use Rattle.cht_session.specs.Bindings.{found_in, IsAdded}
use Rattle.cht_session.proofs.Effects.{effect_going}
use Rattle.cht_session.proofs.Doing.{undone, still, not_copied, copy_done, copy_left, copy_ready}
use Rattle.cht_session.proofs.statements.copy.Goals as goal

pub returns-in_err-make_room-clause-going : goal.returns-in_err-make_room-clause-going
returns-in_err-make_room-clause-going g c = still (g.E.Engine.seen c.args.engine.now) c.args.held.now c.make_room.new.self c.requires.well c.make_room.ensures.same

pub returns-in_default-clause-going : goal.returns-in_default-clause-going
returns-in_default-clause-going g c = still (g.E.Engine.seen c.args.engine.now) c.args.held.now c.make_room.new.self c.requires.well c.make_room.ensures.same

pub copy-requires : goal.copy-requires
copy-requires g c =
    copy_ready c.args.names.now (g.E.Engine.seen c.args.engine.now) c.args.held.now c.make_room.new.self c.in-Some.from c.requires.well c.make_room.ensures.same _ (sym c.in-Some.ensures)

pub returns-in_err-at-clause-going : goal.returns-in_err-at-clause-going
returns-in_err-at-clause-going g c =
    let seen = g.E.Engine.seen c.args.engine.now in
    let now = g.E.Engine.seen c.copy.new.self in
    undone seen now c.args.held.now c.make_room.new.self c.requires.well c.make_room.ensures.same
    (not_copied seen now c.in-Some.from.at c.in_err-at.field-0.0 c.requires.well.1.idle c.in_err-at.ensures)

pub returns-in_err-bind-clause-going : goal.returns-in_err-bind-clause-going
returns-in_err-bind-clause-going g c =
    let room = c.make_room.new.self in
    let none = subst (λ n. found_in room n ≡ None) c.as_bytes.ensures c.in_ok-make_room.ensures.fresh in
    let found = subst (λ n. found_in room n ≡ Some c.in-Some.from) c.as_bytes-2.ensures (sym c.in-Some.ensures) in
    copy_left c.args.names.now (g.E.Engine.seen c.args.engine.now) (g.E.Engine.seen c.copy.new.self) c.args.held.now room c.bind.new.self c.in-Some.from c.in_ok-at.at
    c.requires.count c.make_room.ensures.same none found c.in_ok-at.ensures c.requires.well c.bind.ensures.leaf c.bind.ensures.height c.bind.ensures.order

pub returns-clause-acts : goal.returns-clause-acts
returns-clause-acts g c = λ line env shown.
    let room = c.make_room.new.self in
    let from = c.in-Some.from in
    let none = subst (λ n. found_in room n ≡ None) c.as_bytes.ensures c.in_ok-make_room.ensures.fresh in
    let found = subst (λ n. found_in room n ≡ Some from) c.as_bytes-2.ensures (sym c.in-Some.ensures) in
    let added = subst (λ n. IsAdded room n from.shape c.in_ok-at.at c.bind.new.self) c.as_bytes-3.ensures c.in_ok-bind.ensures.bound in (
      refl,
      copy_done c.args.names.now (g.E.Engine.seen c.args.engine.now) (g.E.Engine.seen c.copy.new.self) c.args.held.now room c.bind.new.self from c.in_ok-at.at
          c.requires.count c.make_room.ensures.same none found c.in_ok-at.ensures
          (record { leaf = c.bind.ensures.leaf; height = c.bind.ensures.height; order = c.bind.ensures.order; added = added }) line env shown,
    )

pub returns-clause-going : goal.returns-clause-going
returns-clause-going g c =
    let acts = returns-clause-acts g c 0 c.requires.well.0 c.requires.well.1 in
    effect_going c.requires.well.0 _ (g.E.Engine.seen c.args.engine.now) (g.E.Engine.seen c.copy.new.self) c.args.held.now c.bind.new.self acts.1
