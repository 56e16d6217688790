use Rattle.std.proofs.Common.{◌≡◌, refl, sym, ◌∙◌, arith}
use Rattle.task_states.specs.States.{running}
use Rattle.cht_core.proofs.Abandons.{running_now, abandon_answer, abandon_none}
use Rattle.cht_core.proofs.Calls.{abandon_made}
use Rattle.cht_core.proofs.Together.{hangs_together}
use Rattle.cht_core.proofs.cores.Core.abandon.Goals as goal

pub returns-then-running-gt0 : goal.returns-then-running-gt0
returns-then-running-gt0 g c = (
  c.running-running.ensures
      ∙ running_now g.L.Library.meanings g.L.Chunk.Payload.arity g.L.Kind.Kinds.name_of g.L.Kind.Kinds.height_of g.met.L.Library.adds_up
      c.self.inside.kept c.args.self.now c.self.inside.kept c.self.view_is c.self.invariant c.args.c,
  c.if-running-gt0.true,
  refl,
)

pub abandon-requires-clause-together : goal.abandon-requires-clause-together
abandon-requires-clause-together g c κs within = hangs_together g.L.Library.meanings c.self.inside.kept.control c.self.invariant.facts

pub invariant_of-self : goal.invariant_of-self
invariant_of-self g c =
    let idle : running c.self.inside.kept.control.graph c.args.c ≡ 0 = sym c.running-running.ensures ∙ omega arith in
    (abandon_made g.L.Library.meanings g.L.Chunk.Payload.arity g.L.Kind.Kinds.name_of g.L.Kind.Kinds.height_of g.met.L.Library.adds_up
    c.self.inside.kept c.args.self.now c.abandon.new.self c.self.view_is c.self.invariant c.args.c (sym c.if-has_ask.ensures) idle c.abandon.ensures).stands

pub returns-then-has_ask : goal.returns-then-has_ask
returns-then-has_ask g c =
    let idle : running c.self.inside.kept.control.graph c.args.c ≡ 0 = sym c.running-running.ensures ∙ omega arith in
    abandon_answer g.L.Library.meanings g.L.Chunk.Payload.arity g.L.Kind.Kinds.name_of g.L.Kind.Kinds.height_of g.met.L.Library.adds_up
    c.self.inside.kept c.args.self.now c.abandon.new.self c.self.view_is c.self.invariant c.args.c (sym c.if-has_ask.ensures) idle c.abandon.ensures

pub returns-else-has_ask : goal.returns-else-has_ask
returns-else-has_ask g c =
    let idle : running c.self.inside.kept.control.graph c.args.c ≡ 0 = sym c.running-running.ensures ∙ omega arith in
    abandon_none g.L.Library.meanings g.L.Chunk.Payload.arity g.L.Kind.Kinds.name_of g.L.Kind.Kinds.height_of g.met.L.Library.adds_up
    c.self.inside.kept c.args.self.now c.self.inside.kept c.self.view_is c.self.invariant c.args.c (sym c.if-has_ask.ensures) idle
