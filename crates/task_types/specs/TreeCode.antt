-- Trees as lists, by which a proof tells them apart.
use Rattle.std.specs.Prelude.{◌≡◌, Option, None, Some, List, [], ◌∷◌, refl}
use Rattle.std.specs.Coded.{Coded, code_by, coded_list, coded_option}
use Rattle.std.proofs.Common.{ap, ◌∙◌}
use Rattle.task_types.specs.Tree.{Tree, Nothing, Root, tree_at}

-- a tree in front of a list: its content, then its children in order; for nothing, no content
abbrev pub spelled : {C : Type 0} → Tree C → List (Option C) → List (Option C)
spelled Nothing rest = None ∷ rest
spelled (Root content a b c d) rest = Some content ∷ spelled a (spelled b (spelled c (spelled d rest)))

-- a content over the first four trees of a list
abbrev pub gathered : {C : Type 0} → C → List (Tree C) → List (Tree C)
gathered content (a ∷ b ∷ c ∷ d ∷ trees) = Root content a b c d ∷ trees
gathered content _ = []

-- the trees that a list spells
abbrev pub trees_of : {C : Type 0} → List (Option C) → List (Tree C)
trees_of [] = []
trees_of (None ∷ rest) = Nothing ∷ trees_of rest
trees_of (Some content ∷ rest) = gathered content (trees_of rest)

-- what is spelled is read back
pub trees_of-spelled : {C : Type 0} (tree : Tree C) (rest : List (Option C))
    → trees_of (spelled tree rest) ≡ tree ∷ trees_of rest
trees_of-spelled Nothing rest = refl
trees_of-spelled (Root content a b c d) rest =
    ap (gathered content) (trees_of-spelled a (spelled b (spelled c (spelled d rest)))
    ∙ ap (λ trees. a ∷ trees) (trees_of-spelled b (spelled c (spelled d rest))
    ∙ ap (λ trees. b ∷ trees) (trees_of-spelled c (spelled d rest) ∙ ap (λ trees. c ∷ trees) (trees_of-spelled d rest))))

-- a code of trees, from one of contents
abbrev pub tree_code : {C : Type 0} → Coded C → Coded (Tree C)
tree_code {C} content =
    code_by (List (Option C)) (coded_list (coded_option content)) (λ tree. spelled tree []) (λ spelling. tree_at (trees_of spelling) 0) (λ tree. ap (λ trees. tree_at trees 0) (trees_of-spelled tree []))
