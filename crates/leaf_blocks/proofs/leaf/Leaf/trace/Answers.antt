use Rattle.std.proofs.Common.{rules, FitsSigned, ◌∙◌}
use Rattle.std.specs.Int.{w128}
use Rattle.std.proofs.lemmas.Int.{to_z-of_z}
use Rattle.leaf_blocks.proofs.Squares.{seen, trace_fits, trace_is}
use Rattle.leaf_blocks.proofs.leaf.Leaf.trace.Goals as goal

pub trace_of-requires-clause-fits : goal.trace_of-requires-clause-fits
trace_of-requires-clause-fits c =
    trace_fits c.args.self.now c.self.inside.side c.deref.result.now (seen _ _ _ _ c.deref.ensures.value c.self.view_is) c.requires

pub returns : goal.returns
returns c =
    let fits : FitsSigned w128 c.trace_of.result = search rules in
    to_z-of_z w128 _ fits ∙ c.trace_of.ensures
    ∙ trace_is c.args.self.now c.self.inside.side c.deref.result.now (seen _ _ _ _ c.deref.ensures.value c.self.view_is)
