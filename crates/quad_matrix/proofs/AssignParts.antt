-- The tasks of an assignment whose entries lie in some quadrants.
use Rattle.std.proofs.Common.{◌≡◌, ℕ, ◌+◌, Bool, true, false, cond, ◌||◌, List, [], ◌∷◌, ◌++◌, length, refl}
use Rattle.task_types.specs.Tree.{Tree, Nothing, tree_at}
use Rattle.task_types.specs.Places.{Shape}
use Rattle.task_types.specs.Reading.{Call, reading, goals_of}
use Rattle.task_types.specs.Shown.{bit}
use Rattle.quad_matrix.specs.declared.chunk.MatChunk.{MatChunk}
use Rattle.quad_matrix.specs.declared.kind.What.{What}
use Rattle.quad_matrix.specs.declared.kind.What.TheVariants.{Assign, Join, SAssign, SJoin}
use Rattle.quad_matrix.specs.declared.kind.MatKind.{MatKind}
use Rattle.quad_matrix.specs.Goals.{kind_of, kind_at, goal_of}
use Rattle.task_plans.specs.declared.plan.Ending.TheVariants.{Joined}
use Rattle.task_plans.specs.Plans.{no_draft, with_portion, ended}
use Rattle.quad_matrix.specs.Works.{asked}
use Rattle.quad_matrix.proofs.DraftWorks.{calls_of}

-- the shape where entries lie in some quadrants
abbrev pub assign_shape : ℕ → ℕ → Bool → Bool → Bool → Bool → Shape MatKind
assign_shape low height a b c d =
    ended (kind_at height) (Joined Join)
    (with_portion (with_portion (with_portion (with_portion no_draft (kind_of Assign low) a) (kind_of Assign low) b) (kind_of Assign low) c) (kind_of Assign low) d)

-- the tree of a part: the goal of an assignment of its entries, or nothing
abbrev pub part_tree : What → ℕ → Bool → Tree MatChunk → Tree MatChunk
part_tree what low a tree = cond a (goal_of (kind_of what low) (tree ∷ [])) Nothing

-- the call of a part
abbrev pub part_call : What → ℕ → Tree MatChunk → Call MatChunk MatKind
part_call what low tree = record { kind = kind_of what low; inputs = tree ∷ [] }

-- the trees of the four parts
abbrev pub part_trees : List (Tree MatChunk) → ℕ → Bool → Bool → Bool → Bool → List (Tree MatChunk)
part_trees chunks low a b c d =
    part_tree Assign low a (tree_at chunks 0) ∷ part_tree Assign low b (tree_at chunks (bit a))
    ∷ part_tree Assign low c (tree_at chunks (bit a + bit b)) ∷ part_tree Assign low d (tree_at chunks (bit a + bit b + bit c))
    ∷ []

-- the call that joins them
abbrev pub join_call : List (Tree MatChunk) → ℕ → ℕ → Bool → Bool → Bool → Bool → Call MatChunk MatKind
join_call chunks low height a b c d = record { kind = kind_of Join height; inputs = part_trees chunks low a b c d }

-- the tree that the result of a shape names
abbrev pub result_in : List (Tree MatChunk) → List (Tree MatChunk) → Shape MatKind → Tree MatChunk
result_in trees chunks shape = reading trees chunks (goals_of goal_of (calls_of trees chunks shape.tasks)) shape.result

-- the calls, the result and the number of chunks of such a shape
pub record AreParts (trees chunks : List (Tree MatChunk)) (low height : ℕ) (a b c d : Bool) : Type 0 where
  pub calls : calls_of trees chunks (assign_shape low height a b c d).tasks
      ≡ asked a (part_call Assign low (tree_at chunks 0)) ++ asked b (part_call Assign low (tree_at chunks (bit a)))
      ++ asked c (part_call Assign low (tree_at chunks (bit a + bit b))) ++ asked d (part_call Assign low (tree_at chunks (bit a + bit b + bit c)))
      ++ asked (a || b || c || d) (join_call chunks low height a b c d)
  pub result : result_in trees chunks (assign_shape low height a b c d)
      ≡ cond (a || b || c || d) (goal_of (kind_of Join height) (part_trees chunks low a b c d)) Nothing
  pub count : length (assign_shape low height a b c d).chunks ≡ bit a + bit b + bit c + bit d

-- whichever quadrants they are
pub assign_parts : (trees chunks : List (Tree MatChunk)) (low height : ℕ) (a b c d : Bool) → AreParts trees chunks low height a b c d
assign_parts trees chunks low height false false false false = record { calls = refl; result = refl; count = refl }
assign_parts trees chunks low height false false false true = record { calls = refl; result = refl; count = refl }
assign_parts trees chunks low height false false true false = record { calls = refl; result = refl; count = refl }
assign_parts trees chunks low height false false true true = record { calls = refl; result = refl; count = refl }
assign_parts trees chunks low height false true false false = record { calls = refl; result = refl; count = refl }
assign_parts trees chunks low height false true false true = record { calls = refl; result = refl; count = refl }
assign_parts trees chunks low height false true true false = record { calls = refl; result = refl; count = refl }
assign_parts trees chunks low height false true true true = record { calls = refl; result = refl; count = refl }
assign_parts trees chunks low height true false false false = record { calls = refl; result = refl; count = refl }
assign_parts trees chunks low height true false false true = record { calls = refl; result = refl; count = refl }
assign_parts trees chunks low height true false true false = record { calls = refl; result = refl; count = refl }
assign_parts trees chunks low height true false true true = record { calls = refl; result = refl; count = refl }
assign_parts trees chunks low height true true false false = record { calls = refl; result = refl; count = refl }
assign_parts trees chunks low height true true false true = record { calls = refl; result = refl; count = refl }
assign_parts trees chunks low height true true true false = record { calls = refl; result = refl; count = refl }
assign_parts trees chunks low height true true true true = record { calls = refl; result = refl; count = refl }

-- ---- Symmetric blocks

-- the shape where entries of a symmetric block lie in some quadrants
abbrev pub symmetric_assign_shape : ℕ → ℕ → Bool → Bool → Bool → Shape MatKind
symmetric_assign_shape low height a b c =
    ended (kind_at height) (Joined SJoin)
    (with_portion (with_portion (with_portion no_draft (kind_of SAssign low) a) (kind_of Assign low) b) (kind_of SAssign low) c)

-- the trees of the three parts
abbrev pub symmetric_part_trees : List (Tree MatChunk) → ℕ → Bool → Bool → Bool → List (Tree MatChunk)
symmetric_part_trees chunks low a b c =
    part_tree SAssign low a (tree_at chunks 0) ∷ part_tree Assign low b (tree_at chunks (bit a))
    ∷ part_tree SAssign low c (tree_at chunks (bit a + bit b))
    ∷ []

-- the call that joins them
abbrev pub symmetric_join_call : List (Tree MatChunk) → ℕ → ℕ → Bool → Bool → Bool → Call MatChunk MatKind
symmetric_join_call chunks low height a b c =
    record { kind = kind_of SJoin height; inputs = symmetric_part_trees chunks low a b c }

-- the calls, the result and the number of chunks of such a shape
pub record AreSymmetricParts (trees chunks : List (Tree MatChunk)) (low height : ℕ) (a b c : Bool) : Type 0 where
  pub calls : calls_of trees chunks (symmetric_assign_shape low height a b c).tasks
      ≡ asked a (part_call SAssign low (tree_at chunks 0)) ++ asked b (part_call Assign low (tree_at chunks (bit a)))
      ++ asked c (part_call SAssign low (tree_at chunks (bit a + bit b)))
      ++ asked (a || b || c) (symmetric_join_call chunks low height a b c)
  pub result : result_in trees chunks (symmetric_assign_shape low height a b c)
      ≡ cond (a || b || c) (goal_of (kind_of SJoin height) (symmetric_part_trees chunks low a b c)) Nothing
  pub count : length (symmetric_assign_shape low height a b c).chunks ≡ bit a + bit b + bit c

-- whichever quadrants they are
pub symmetric_assign_parts : (trees chunks : List (Tree MatChunk)) (low height : ℕ) (a b c : Bool) → AreSymmetricParts trees chunks low height a b c
symmetric_assign_parts trees chunks low height false false false = record { calls = refl; result = refl; count = refl }
symmetric_assign_parts trees chunks low height false false true = record { calls = refl; result = refl; count = refl }
symmetric_assign_parts trees chunks low height false true false = record { calls = refl; result = refl; count = refl }
symmetric_assign_parts trees chunks low height false true true = record { calls = refl; result = refl; count = refl }
symmetric_assign_parts trees chunks low height true false false = record { calls = refl; result = refl; count = refl }
symmetric_assign_parts trees chunks low height true false true = record { calls = refl; result = refl; count = refl }
symmetric_assign_parts trees chunks low height true true false = record { calls = refl; result = refl; count = refl }
symmetric_assign_parts trees chunks low height true true true = record { calls = refl; result = refl; count = refl }
