-- The lemmas of this crate that the crates above cite.

-- the law of the engine, and outcomes without new tasks
pub use Rattle.task_plans.proofs.SoundPlans.{plan_is_sound}
pub use Rattle.task_plans.proofs.Simple.{presence_at-trees, input_given, given_sound, chunk_sound, node_sound}
pub use Rattle.task_plans.proofs.Stage.{begun}
-- works of drafts
pub use Rattle.task_plans.proofs.DraftWorks.{one_of_cond, one_of_one, one_of_same, one_of_choices, call_work, calls_of, total, draft_work, one_task_more, either_work, ended_work, either_null, IsPlainTask, alone_work, alone_null, pair_list, pair_work, pair_null}
-- tests
pub use Rattle.task_plans.proofs.Lists.{true_or_false, both_pass}
-- choices of portions
pub use Rattle.task_plans.proofs.Choices.{choice_among}
