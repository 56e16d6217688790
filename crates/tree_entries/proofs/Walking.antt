-- The pieces of a node's children, gathered one after the other.
use Rattle.std.proofs.Common.{◌≡◌, ℕ, ◌+◌, Bool, true, false, List, [], ◌∷◌, ◌++◌, ap, ◌∙◌, subst}
use Rattle.cht_ids.specs.declared.refs.Id.{Id}
use Rattle.cht_ids.specs.declared.refs.Ref.TheVariants.{Id as Held}
use Rattle.cht_engine.specs.Seen.{Seen, tree_named}
use Rattle.task_types.specs.Tree.{Tree, child}
use Rattle.quad_matrix.specs.declared.chunk.MatChunk.{MatChunk}
use Rattle.quad_matrix.specs.declared.kind.MatKind.{MatKind}
use Rattle.tree_entries.specs.declared.piece.Piece.{Piece}
use Rattle.tree_entries.specs.declared.place.Place.{Place}
use Rattle.tree_entries.specs.BlockTrees.{tree_reached}
use Rattle.tree_entries.specs.Strips.{IsGathered, part, upper_child, lower_child, quadrants_part, symmetric_part}
use Rattle.tree_entries.proofs.Gathered.{gathered_then}
use Rattle.tree_entries.proofs.Levels.{below_more}

-- ---- After calls that leave all as it was

-- the caller still sees the same after two such calls, and after three
pub same_twice : (first second third : Seen MatChunk MatKind) → second ≡ first → third ≡ second → third ≡ first
same_twice first second third e f = f ∙ e

pub same_thrice : (first second third fourth : Seen MatChunk MatKind) → second ≡ first → third ≡ second → fourth ≡ third → fourth ≡ first
same_thrice first second third fourth e f h = h ∙ f ∙ e

-- and so does the path
pub path_twice : (first second third : List ℕ) → second ≡ first → third ≡ second → third ≡ first
path_twice first second third e f = f ∙ e

pub path_thrice : (first second third fourth : List ℕ) → second ≡ first → third ≡ second → fourth ≡ third → fourth ≡ first
path_thrice first second third fourth e f h = h ∙ f ∙ e

-- and the count of strips
pub many_twice : (first second third : ℕ) → second ≡ first → third ≡ second → third ≡ first
many_twice first second third e f = f ∙ e

pub many_thrice : (first second third fourth : ℕ) → second ≡ first → third ≡ second → fourth ≡ third → fourth ≡ first
many_thrice first second third fourth e f h = h ∙ f ∙ e

-- the pieces of a child, by a path that is longer by its number
pub at_child : (seen : Seen MatChunk MatKind) (id : Id) (path longer : List ℕ) (to : Place) (j : ℕ) (before after : List (List Piece)) → longer ≡ path ++ j ∷ []
    → IsGathered before after (part to.turned to.above to.left (tree_reached seen id longer))
    → IsGathered before after (part to.turned to.above to.left (child (tree_reached seen id path) j))
at_child seen id path longer to j before after more are =
    let P : Tree MatChunk → Type 0 = λ t. IsGathered before after (part to.turned to.above to.left t) in
    subst P (ap (tree_reached seen id) more ∙ below_more (tree_named seen (Held id)) path j) are

-- the pieces of a child that was read afterwards
pub moved : (before now : Seen MatChunk MatKind) (id : Id) (path again : List ℕ) (to : Place) (j : ℕ) (old new : List (List Piece)) → now ≡ before → again ≡ path
    → IsGathered old new (part to.turned to.above to.left (child (tree_reached now id again) j))
    → IsGathered old new (part to.turned to.above to.left (child (tree_reached before id path) j))
moved before now id path again to j old new same way are =
    let P : Seen MatChunk MatKind → Type 0 = λ s. IsGathered old new (part to.turned to.above to.left (child (tree_reached s id path) j)) in
    let Q : List ℕ → Type 0 = λ p. IsGathered old new (part to.turned to.above to.left (child (tree_reached now id p) j)) in
    subst P same (subst Q way are)

-- ---- All children

-- the four children of a node
pub four_gathered : (turned : Bool) (above left half size upper lower : ℕ) (tree : Tree MatChunk) (a b c d e : List (List Piece)) → half ≡ size
    → upper ≡ upper_child turned → lower ≡ lower_child turned
    → IsGathered a b (part turned above left (child tree 0))
    → IsGathered b c (part turned above (left + half) (child tree upper))
    → IsGathered c d (part turned (above + half) left (child tree lower))
    → IsGathered d e (part turned (above + half) (left + half) (child tree 3))
    → IsGathered a e (quadrants_part turned size above left tree)
four_gathered turned above left half size upper lower tree a b c d e is up low first second third fourth =
    let P : ℕ → Type 0 = λ n. IsGathered a e (quadrants_part turned n above left tree) in
    let Q : ℕ → Type 0 = λ j. IsGathered b c (part turned above (left + half) (child tree j)) in
    let R : ℕ → Type 0 = λ j. IsGathered c d (part turned (above + half) left (child tree j)) in
    subst P is
    (gathered_then a d e _ _ (gathered_then a c d _ _ (gathered_then a b c _ _ first (subst Q up second)) (subst R low third)) fourth)

-- the three of a symmetric node
pub three_gathered : (above left half size : ℕ) (tree : Tree MatChunk) (a b c d : List (List Piece)) → half ≡ size
    → IsGathered a b (part false above left (child tree 0))
    → IsGathered b c (part true (above + half) left (child tree 1))
    → IsGathered c d (part false (above + half) (left + half) (child tree 2))
    → IsGathered a d (symmetric_part size above left tree)
three_gathered above left half size tree a b c d is first second third =
    let P : ℕ → Type 0 = λ n. IsGathered a d (symmetric_part n above left tree) in
    subst P is (gathered_then a c d _ _ (gathered_then a b c _ _ first second) third)
