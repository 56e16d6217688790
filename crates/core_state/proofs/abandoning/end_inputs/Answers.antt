use Rattle.std.proofs.Common.{sym, ◌∙◌}
use Rattle.core_state.proofs.TasksEnded.{input_outside, inputs_step, inputs_end}
use Rattle.core_state.proofs.abandoning.end_inputs.Goals as goal

pub end_input-requires-after_bounds : goal.end_input-requires-after_bounds
end_input-requires-after_bounds g c κs within =
    input_outside c.args.graph.now.graph c.args.names.now.names c.loop-input.names.names c.args.task c.loop-input.place c.loop-input.invariant.left c.in-Some.input (sym c.in-Some.ensures.input)

pub loop-input-preserved : goal.loop-input-preserved
loop-input-preserved g c = record {
  left =
      inputs_step c.args.graph.now.graph c.args.names.now.names c.loop-input.names.names c.args.task c.loop-input.place c.loop-input.invariant.left g.C.Payload.arity c.rules.ensures.sound
      c.in-Some.input c.end_input.new.names.names (sym c.in-Some.ensures.input) c.in-Some.ensures.few c.end_input.ensures.names;
  stores = c.end_input.ensures.stores ∙ c.loop-input.invariant.stores;
}

pub returns-clause-names : goal.returns-clause-names
returns-clause-names g c =
    inputs_end c.args.graph.now.graph c.args.names.now.names c.loop-input.names.names c.args.task c.loop-input.place c.loop-input.invariant.left g.C.Payload.arity c.rules-2.ensures.sound
    c.rules-2.ensures.reached c.requires.there c.in_default.ensures.input
