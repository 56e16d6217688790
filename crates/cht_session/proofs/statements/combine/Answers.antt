use Rattle.std.proofs.Common.{◌≡◌, ◌∙◌, None, Some, Ok, sym, subst, ap}
use Rattle.cht_script.specs.Reading.{name_bytes}
use Rattle.cht_session.specs.Bindings.{found_in, IsAdded}
use Rattle.cht_session.specs.Given.{Combines, IsReadyPair}
use Rattle.cht_session.proofs.Asked.{nothing_done}
use Rattle.cht_session.proofs.Effects.{effect_going}
use Rattle.cht_session.proofs.Doing.{undone, still, copy_ready, combine_ready, combine_done, combine_left, combine_refused}
use Rattle.cht_session.proofs.statements.combine.Goals as goal

pub returns-in_err-make_room-clause-going : goal.returns-in_err-make_room-clause-going
returns-in_err-make_room-clause-going g c = still (g.E.Engine.seen c.args.engine.now) c.args.held.now c.make_room.new.self c.requires.well c.make_room.ensures.same

pub returns-in_default-clause-going : goal.returns-in_default-clause-going
returns-in_default-clause-going g c = still (g.E.Engine.seen c.args.engine.now) c.args.held.now c.make_room.new.self c.requires.well c.make_room.ensures.same

pub returns-in_default-find-clause-going : goal.returns-in_default-find-clause-going
returns-in_default-find-clause-going g c = still (g.E.Engine.seen c.args.engine.now) c.args.held.now c.make_room.new.self c.requires.well c.make_room.ensures.same

pub combined-requires-clause-first : goal.combined-requires-clause-first
combined-requires-clause-first g c =
    copy_ready c.args.names.now (g.E.Engine.seen c.args.engine.now) c.args.held.now c.make_room.new.self c.in-Some.a c.requires.well c.make_room.ensures.same _ (sym c.in-Some.ensures)

pub combined-requires-clause-second : goal.combined-requires-clause-second
combined-requires-clause-second g c =
    copy_ready c.args.names.now (g.E.Engine.seen c.args.engine.now) c.args.held.now c.make_room.new.self c.in-Some-find.b c.requires.well c.make_room.ensures.same _ (sym c.in-Some-find.ensures)

pub combined-requires-clause-defined : goal.combined-requires-clause-defined
combined-requires-clause-defined g c =
    let room = c.make_room.new.self in
    let seen = g.E.Engine.seen c.args.engine.now in
    let p = subst (λ n. found_in room n ≡ Some c.in-Some.a) c.as_bytes-2.ensures (sym c.in-Some.ensures) in
    let q = subst (λ n. found_in room n ≡ Some c.in-Some-find.b) (c.as_bytes-3.ensures ∙ ap name_bytes c.last_input.ensures) (sym c.in-Some-find.ensures) in
    subst (λ h. IsReadyPair seen h c.args.operation c.in-Some.a c.in-Some-find.b) (sym c.height.ensures)
    (combine_ready c.args.operation c.args.names.now seen c.args.held.now room c.in-Some.a c.in-Some-find.b c.make_room.ensures.same c.requires.shapes p q c.requires.well)

pub returns-in_err-at-clause-going : goal.returns-in_err-at-clause-going
returns-in_err-at-clause-going g c =
    undone (g.E.Engine.seen c.args.engine.now) (g.E.Engine.seen c.combined.new.engine) c.args.held.now c.make_room.new.self c.requires.well c.make_room.ensures.same c.in_err-at.ensures

pub returns-in_default-2-clause-acts : goal.returns-in_default-2-clause-acts
returns-in_default-2-clause-acts g c = λ line env shown.
    let room = c.make_room.new.self in
    let seen = g.E.Engine.seen c.args.engine.now in
    let now = g.E.Engine.seen c.combined.new.engine in
    let a = c.in-Some.a in
    let b = c.in-Some-find.b in
    let p = subst (λ n. found_in room n ≡ Some a) c.as_bytes-2.ensures (sym c.in-Some.ensures) in
    let q = subst (λ n. found_in room n ≡ Some b) (c.as_bytes-3.ensures ∙ ap name_bytes c.last_input.ensures) (sym c.in-Some-find.ensures) in
    let got = subst (λ o. Combines seen now c.height.result c.args.operation a b (Ok o)) c.in_default-2.is c.in_ok-at.ensures in
    let at_height = subst (λ h. Combines seen now h c.args.operation a b (Ok None)) c.height.ensures got in
    combine_refused c.args.operation c.args.names.now seen now c.args.held.now room a b c.requires.count c.make_room.ensures.same p q at_height line env shown

pub returns-in_default-2-clause-going : goal.returns-in_default-2-clause-going
returns-in_default-2-clause-going g c =
    let seen = g.E.Engine.seen c.args.engine.now in
    let now = g.E.Engine.seen c.combined.new.engine in
    let got = subst (λ o. Combines seen now c.height.result c.args.operation c.in-Some.a c.in-Some-find.b (Ok o)) c.in_default-2.is c.in_ok-at.ensures in
    undone seen now c.args.held.now c.make_room.new.self c.requires.well c.make_room.ensures.same (nothing_done seen now c.requires.well.1.idle got.1)

pub returns-in_err-bind-clause-going : goal.returns-in_err-bind-clause-going
returns-in_err-bind-clause-going g c =
    let room = c.make_room.new.self in
    let seen = g.E.Engine.seen c.args.engine.now in
    let now = g.E.Engine.seen c.combined.new.engine in
    let a = c.in-Some.a in
    let b = c.in-Some-find.b in
    let at = c.in-Some-2.at in
    let none = subst (λ n. found_in room n ≡ None) c.as_bytes.ensures c.in_ok-make_room.ensures.fresh in
    let p = subst (λ n. found_in room n ≡ Some a) c.as_bytes-2.ensures (sym c.in-Some.ensures) in
    let q = subst (λ n. found_in room n ≡ Some b) (c.as_bytes-3.ensures ∙ ap name_bytes c.last_input.ensures) (sym c.in-Some-find.ensures) in
    let got = subst (λ o. Combines seen now c.height.result c.args.operation a b (Ok o)) c.in-Some-2.is c.in_ok-at.ensures in
    let at_height = subst (λ h. Combines seen now h c.args.operation a b (Ok (Some at))) c.height.ensures got in
    combine_left c.args.operation c.args.names.now seen now c.args.held.now room c.bind.new.self a b c.make_room.ensures.same c.requires.shapes p q at none at_height
    c.requires.well c.bind.ensures.leaf c.bind.ensures.height c.bind.ensures.order

pub returns-clause-acts : goal.returns-clause-acts
returns-clause-acts g c = λ line env shown.
    let room = c.make_room.new.self in
    let seen = g.E.Engine.seen c.args.engine.now in
    let now = g.E.Engine.seen c.combined.new.engine in
    let a = c.in-Some.a in
    let b = c.in-Some-find.b in
    let at = c.in-Some-2.at in
    let none = subst (λ n. found_in room n ≡ None) c.as_bytes.ensures c.in_ok-make_room.ensures.fresh in
    let p = subst (λ n. found_in room n ≡ Some a) c.as_bytes-2.ensures (sym c.in-Some.ensures) in
    let q = subst (λ n. found_in room n ≡ Some b) (c.as_bytes-3.ensures ∙ ap name_bytes c.last_input.ensures) (sym c.in-Some-find.ensures) in
    let got = subst (λ o. Combines seen now c.height.result c.args.operation a b (Ok o)) c.in-Some-2.is c.in_ok-at.ensures in
    let at_height = subst (λ h. Combines seen now h c.args.operation a b (Ok (Some at))) c.height.ensures got in
    let added = subst (λ n. IsAdded room n c.shape.result at c.bind.new.self) c.as_bytes-4.ensures c.in_ok-bind.ensures.bound in
    combine_done c.args.operation c.args.names.now seen now c.args.held.now room c.bind.new.self a b c.requires.count c.make_room.ensures.same c.requires.shapes p q at none at_height
    c.shape.result c.shape.ensures
    (record { leaf = c.bind.ensures.leaf; height = c.bind.ensures.height; order = c.bind.ensures.order; added = added }) line env shown

pub returns-clause-going : goal.returns-clause-going
returns-clause-going g c =
    let acts = returns-clause-acts g c 0 c.requires.well.0 c.requires.well.1 in
    effect_going c.requires.well.0 _ (g.E.Engine.seen c.args.engine.now) (g.E.Engine.seen c.combined.new.engine) c.args.held.now c.bind.new.self acts.1
