use Rattle.std.proofs.Common.{refl, subst}
use Rattle.cht_session.specs.Bindings.{IsEnded}
use Rattle.cht_session.proofs.Effects.{delete_ready, effect_going}
use Rattle.cht_session.proofs.Doing.{delete_done}
use Rattle.cht_session.proofs.statements.delete.Goals as goal

pub delete-requires : goal.delete-requires
delete-requires g c =
    delete_ready c.requires.well.0 _ (g.E.Engine.seen c.args.engine.now) c.args.held.now c.end-at.new.self c.end-at.result c.requires.well.1 c.end-at.ensures.ended

pub returns-clause-acts : goal.returns-clause-acts
returns-clause-acts g c = λ line env shown.
    let ended = subst (λ n. IsEnded c.args.held.now n c.end-at.result c.end-at.new.self) c.as_bytes.ensures c.end-at.ensures.ended in (
      refl,
      delete_done c.args.names.now (g.E.Engine.seen c.args.engine.now) (g.E.Engine.seen c.delete.new.self) c.args.held.now c.end-at.new.self c.end-at.result
          c.requires.count c.end-at.ensures.leaf c.end-at.ensures.height ended c.delete.ensures line env shown,
    )

pub returns-clause-going : goal.returns-clause-going
returns-clause-going g c =
    let acts = returns-clause-acts g c 0 c.requires.well.0 c.requires.well.1 in
    effect_going c.requires.well.0 _ (g.E.Engine.seen c.args.engine.now) (g.E.Engine.seen c.delete.new.self) c.args.held.now c.end-at.new.self acts.1
