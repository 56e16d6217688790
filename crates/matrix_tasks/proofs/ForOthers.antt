-- The lemmas of this crate that the crates above cite.

-- outcomes of a leaf and of a number
pub use Rattle.matrix_tasks.proofs.Simple.{leaf_sound, number_sound}
pub use Rattle.matrix_tasks.proofs.LowBlocks.{shown_leaf}
pub use Rattle.matrix_tasks.proofs.Contents.{zero_told, sound_leaf, trace_small, tree_small, tree_some}
-- the shapes of a kind, and the peak that a tree shows
pub use Rattle.matrix_tasks.proofs.Joins.{shapes_open, shown_peak}
-- what tasks one level below give, joins of their trees, and answers by plans
pub use Rattle.matrix_tasks.proofs.ByPlan.{may_ask, task_gives, join_gives, parts_below, add_gives}
pub use Rattle.matrix_tasks.proofs.AssignByPlan.{has_first}
pub use Rattle.matrix_tasks.proofs.ProductsByPlan.{and-true, child_gives, child_ready, ready_is, term_absent}
pub use Rattle.matrix_tasks.proofs.Executed.{answer_is, no_entries}
