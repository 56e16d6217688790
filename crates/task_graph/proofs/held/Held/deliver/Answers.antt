use Rattle.std.proofs.Common.{inl, inr}
use Rattle.task_graph.proofs.held.Held.deliver.Goals as goal

pub enqueue_if-requires-clause-queued : goal.enqueue_if-requires-clause-queued
enqueue_if-requires-clause-queued g c =
    λ q runs. elim (c.deliver-of.ensures.runs q runs) [ inl of ↦ inl of | inr before ↦ inr (c.requires.held.queued q before) ]

pub enqueue_if-requires-clause-least : goal.enqueue_if-requires-clause-least
enqueue_if-requires-clause-least g c = λ q is. c.deliver-of.ensures.stays q (c.requires.held.least q is)
