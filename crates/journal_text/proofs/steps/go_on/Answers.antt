use Rattle.std.proofs.Common.{arith}
use Rattle.cht_ids.specs.Lines.{pieces_of}
use Rattle.journal_text.proofs.Advance.{chunk_none, task_none, step_chunk, step_task}
use Rattle.journal_text.proofs.steps.go_on.Goals as goal

pub returns-in-None : goal.returns-in-None
returns-in-None g c = chunk_none g.K.Kinds.name_of g.K.Kinds.height_of c.args.journal.now.events c.args.part (pieces_of c.args.line.now) c.if-part-gt0.true (λ chunk within e. absurd (cc (c.in-None.ensures.every chunk within e)))

pub returns-in_ok-part-in-Some : goal.returns-in_ok-part-in-Some
returns-in_ok-part-in-Some g c =
    step_chunk g.K.Kinds.name_of g.K.Kinds.height_of c.args.journal.now.events c.args.part (pieces_of c.args.line.now) c.in-Some.places c.in_ok-part-in-Some.part c.settle.result c.settle.new.journal.events c.in_ok-part-in-Some.ensures c.settle.ensures c.requires.part c.if-part-gt0.true c.in-Some.ensures.read.0 c.in-Some.ensures.every

pub returns-in-None-read_task : goal.returns-in-None-read_task
returns-in-None-read_task g c = task_none g.K.Kinds.name_of g.K.Kinds.height_of c.args.journal.now.events c.args.part (pieces_of c.args.line.now) (omega arith) (omega arith) (λ task within e. absurd (cc (c.in-None-read_task.ensures.every task within e)))

pub returns-in_ok-part-in-Some-read_task : goal.returns-in_ok-part-in-Some-read_task
returns-in_ok-part-in-Some-read_task g c =
    step_task g.K.Kinds.name_of g.K.Kinds.height_of c.args.journal.now.events c.args.part (pieces_of c.args.line.now) c.in-Some-read_task.task c.in_ok-part-in-Some-read_task.part c.settle-in-Some-read_task.result c.settle-in-Some-read_task.new.journal.events c.in_ok-part-in-Some-read_task.ensures c.settle-in-Some-read_task.ensures (omega arith) (omega arith) c.in-Some-read_task.ensures.read.0 c.in-Some-read_task.ensures.every
