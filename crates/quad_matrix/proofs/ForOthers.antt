-- The lemmas of this crate that the crates above cite.

-- the sides of blocks
pub use Rattle.quad_matrix.proofs.Sides.{side_low, side_twice, suc-sub_one}
-- canonical trees: what they stand for, their roots, their children, and that they are the only ones
pub use Rattle.quad_matrix.proofs.Canonical.{canonical_zero, canonical_leaf, canonical_node, block_of_canonical, canonical_of_block, nothing_is_canonical, is_there_canonical, is_there_some, peak-zeros}
pub use Rattle.quad_matrix.proofs.Roots.{root_some, root_of_leaf, root_of_node, peak_of_root, tree_peak, peak_of_tree}
pub use Rattle.quad_matrix.proofs.Quadrants.{child_canonical, quadrants_canonical, block_of_quadrants, peak_small, any_there, join_peak, join_of, join_nothing, join_some, join_there, join_canonical, peak_of_join, block_of_join}
pub use Rattle.quad_matrix.proofs.Numbers.{number_some, number_of_tree, nothing_is_number, root_of_number}
pub use Rattle.quad_matrix.proofs.OnlyTrees.{canonical_stands, canonical_is_only, number_is_only}
-- canonical symmetric trees: the same
pub use Rattle.quad_matrix.proofs.Symmetric.{symmetric_by_entries, zeros_symmetric, quadrants_symmetric, symmetric_zero, symmetric_leaf, symmetric_node, block_of_symmetric, symmetric_of_block, nothing_is_symmetric, symmetric_is_only, is_there_symmetric, is_there_symmetric_some, symmetric_root_some, root_of_symmetric_leaf, root_of_symmetric_node, peak_of_symmetric_root, peak_of_symmetric_tree, AreSymmetricChildren, symmetric_children, block_of_symmetric_children}
pub use Rattle.quad_matrix.proofs.SymmetricJoins.{symmetric_join_of, symmetric_join_peak, symmetric_join_nothing, peak_of_symmetric_join, symmetric_join_canonical, symmetric_join_some, symmetric_join_there, symmetric_join_goal, symmetric_join_fits, fits_symmetric_join, symmetric_join_goal_nothing}
pub use Rattle.quad_matrix.proofs.SymmetricSums.{symmetric_add_canonical, block_of_symmetric_add, symmetric_add_with_nothing, symmetric_add_nothing_with, symmetric_add_nothing, full_canonical, full_of_nothing}
-- goals: canonical, the same at each side of the leaves, and by children
pub use Rattle.quad_matrix.proofs.Lists.{spots_whole, spots_tall, sound_some, block_of_list, list_symmetric, assign_canonical, goal_is_canonical}
pub use Rattle.quad_matrix.proofs.AnySide.{goal_any, assign_nothing, symmetric_assign_nothing, join_goal_nothing}
pub use Rattle.quad_matrix.proofs.Sums.{IsBlock-plus, add_canonical, fits_join, join_goal, join_fits, child_sum, add_on_children, add_is_join, add_with_nothing, add_nothing_with, add_nothing}
pub use Rattle.quad_matrix.proofs.Numbers.{trace_first, trace_last, trace_fits, trace_on_children, trace_of_nothing, addnum_with_nothing, addnum_nothing_with, addnum_is_number}
-- products with symmetric blocks: their goals
pub use Rattle.quad_matrix.proofs.SymmetricProducts.{square_canonical, rank_canonical, transposed_rank_canonical, symmetric_first_canonical, symmetric_second_canonical, square_of_nothing, rank_of_nothing, transposed_rank_of_nothing, symmetric_first_nothing, symmetric_second_nothing}
-- symmetric goals by children
pub use Rattle.quad_matrix.proofs.SymmetricChildren.{symmetric_add_on_first, symmetric_add_on_second, symmetric_add_on_third, symmetric_sums_fit_join, symmetric_add_is_join, full_parts_fit_join, full_is_join, symmetric_trace_first, symmetric_trace_last, symmetric_trace_fits, symmetric_trace_on_children}
-- the three products, over how their factors stand, and transposes
pub use Rattle.quad_matrix.proofs.Products.{IsBlock-product, product_goal, product_goal_is, ProductFitsAt, fits_product, product_fits_at, product_canonical, block_of_product, product_nothing_with, product_with_nothing, term_tree, quadrant_tree, first_term_fits, second_term_fits, quadrant_fits, product_is_join, product_fits_by_peaks, product_goal_stands}
pub use Rattle.quad_matrix.proofs.Transposes.{transpose_canonical, block_of_transpose, transpose_of_nothing, child_turned, transpose_is_join}
pub use Rattle.quad_matrix.proofs.ProductWorks.{child_known}
-- portions of lists of entries
pub use Rattle.quad_matrix.proofs.SoundPortions.{portions_are_sound}
pub use Rattle.quad_matrix.proofs.PartBlocks.{half_is}
pub use Rattle.quad_matrix.proofs.ListParts.{has_spot, portion_of, list_tree, part_in, part_tree, part_fits, part_goal, empty_part, parts_fit_join, some_part, assign_on_parts, sound_at_leaf, leaf_is, portion_sound}
-- portions of lists of symmetric blocks
pub use Rattle.quad_matrix.proofs.SymmetricParts.{quadrants_fit_symmetric_join, symmetric_on_quadrants, mirrored_portion_of, mirrored_part_tree, upper_part_tree, mirrored_parts_fit_join, symmetric_assign_on_parts, mirrored_part_fits, upper_part_fits}
-- the laws of the library
pub use Rattle.quad_matrix.proofs.WorkLaws.{few_matrices, matrix_works_add_up}
