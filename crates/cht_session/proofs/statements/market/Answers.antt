use Rattle.std.proofs.Common.{◌≡◌, None, refl, subst, subst₂}
use Rattle.cht_script.specs.Reading.{name_bytes, matrix_of_market}
use Rattle.cht_session.specs.Forms.{IsListIn}
use Rattle.cht_session.specs.Bindings.{found_in, IsAdded}
use Rattle.cht_session.proofs.Effects.{effect_going}
use Rattle.cht_session.proofs.Doing.{undone, still, not_assigned, market_done, market_left}
use Rattle.cht_session.proofs.statements.market.Goals as goal

pub returns-in_err-make_room-clause-going : goal.returns-in_err-make_room-clause-going
returns-in_err-make_room-clause-going g c = still (g.E.Engine.seen c.args.engine.now) c.args.held.now c.make_room.new.self c.requires.well c.make_room.ensures.same

pub returns-in_err-entries-clause-going : goal.returns-in_err-entries-clause-going
returns-in_err-entries-clause-going g c = still (g.E.Engine.seen c.args.engine.now) c.args.held.now c.make_room.new.self c.requires.well c.make_room.ensures.same

pub returns-in_err-at-clause-going : goal.returns-in_err-at-clause-going
returns-in_err-at-clause-going g c =
    let seen = g.E.Engine.seen c.args.engine.now in
    let now = g.E.Engine.seen c.assigned_any.new.engine in
    undone seen now c.args.held.now c.make_room.new.self c.requires.well c.make_room.ensures.same
    (not_assigned seen now c.args.market.now.form c.in_ok-entries.entries c.in_err-at.field-0.0 c.in_err-at.ensures)

pub returns-in_err-bind-clause-going : goal.returns-in_err-bind-clause-going
returns-in_err-bind-clause-going g c =
    let room = c.make_room.new.self in
    let name = name_bytes c.args.to.now in
    let none = subst (λ n. found_in room n ≡ None) c.as_bytes.ensures c.in_ok-make_room.ensures.fresh in
    let listed = subst₂ (λ b h. IsListIn c.args.market.now.form b h (matrix_of_market c.args.market.now) c.in_ok-entries.entries) c.leaf.ensures c.height.ensures c.in_ok-entries.ensures in
    market_left (g.E.Engine.seen c.args.engine.now) (g.E.Engine.seen c.assigned_any.new.engine) c.args.held.now room c.bind.new.self name c.args.market.now c.in_ok-entries.entries c.in_ok-at.at
    c.make_room.ensures.same c.requires.good none listed c.in_ok-at.ensures c.requires.well c.bind.ensures.leaf c.bind.ensures.height c.bind.ensures.order

pub returns-clause-acts : goal.returns-clause-acts
returns-clause-acts g c = λ line env shown.
    let room = c.make_room.new.self in
    let name = name_bytes c.args.to.now in
    let market = c.args.market.now in
    let none = subst (λ n. found_in room n ≡ None) c.as_bytes.ensures c.in_ok-make_room.ensures.fresh in
    let listed = subst₂ (λ b h. IsListIn market.form b h (matrix_of_market market) c.in_ok-entries.entries) c.leaf.ensures c.height.ensures c.in_ok-entries.ensures in
    let added = subst₂ (λ n shape. IsAdded room n shape c.in_ok-at.at c.bind.new.self) c.as_bytes-2.ensures c.shape_of.ensures c.in_ok-bind.ensures.bound in (
      refl,
      market_done (g.E.Engine.seen c.args.engine.now) (g.E.Engine.seen c.assigned_any.new.engine) c.args.held.now room c.bind.new.self name market c.in_ok-entries.entries c.in_ok-at.at
          c.make_room.ensures.same c.requires.good none listed c.in_ok-at.ensures
          (record { leaf = c.bind.ensures.leaf; height = c.bind.ensures.height; order = c.bind.ensures.order; added = added }) line env shown,
    )

pub returns-clause-going : goal.returns-clause-going
returns-clause-going g c =
    let acts = returns-clause-acts g c 0 c.requires.well.0 c.requires.well.1 in
    effect_going c.requires.well.0 _ (g.E.Engine.seen c.args.engine.now) (g.E.Engine.seen c.assigned_any.new.engine) c.args.held.now c.bind.new.self acts.1
