use Rattle.std.proofs.Common.{◌≡◌, sym, ◌∙◌}
use Rattle.task_states.specs.declared.states.TaskStatus.TheVariants.{Waiting, Ready, Running}
use Rattle.task_links.specs.Kept.{opened}
use Rattle.task_graph.proofs.Runs.{runnable_there, not_runnable, runnable_ready, runnable_going, caller_low, no_iff, not_iff}
use Rattle.task_graph.proofs.parts.Parts.is_runnable.Goals as goal

pub get-row-requires : goal.get-row-requires
get-row-requires g c = caller_low c.args.self.now c.requires c.args.task (opened c.in-Some.kept.now) (sym c.in-Some.ensures)

pub returns-in-None : goal.returns-in-None
returns-in-None g c = no_iff (not_runnable c.args.self.now c.args.task (sym c.in-None.ensures))

pub returns-in-Waiting : goal.returns-in-Waiting
returns-in-Waiting g c = no_iff (λ runs. let clash : Waiting ≡ Ready = c.in-Waiting.ensures ∙ runnable_ready c.args.self.now c.args.task (opened c.in-Some.kept.now) (sym c.in-Some.ensures) runs in cc)

pub returns-in-Running : goal.returns-in-Running
returns-in-Running g c = no_iff (λ runs. let clash : Running ≡ Ready = c.in-Running.ensures ∙ runnable_ready c.args.self.now c.args.task (opened c.in-Some.kept.now) (sym c.in-Some.ensures) runs in cc)

pub returns-in-Ready : goal.returns-in-Ready
returns-in-Ready g c =
    not_iff c.get-row.result.stopped (runnable_there c.args.self.now c.args.task (opened c.in-Some.kept.now) c.get-row.result (sym c.in-Some.ensures) c.get-row.ensures (sym c.in-Ready.ensures))
    (runnable_going c.args.self.now c.args.task (opened c.in-Some.kept.now) c.get-row.result (sym c.in-Some.ensures) c.get-row.ensures)
