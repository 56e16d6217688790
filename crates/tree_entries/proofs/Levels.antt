-- How many levels the nodes of a tree tell, and where its parts stand.
use Rattle.std.proofs.Common.{◌≡◌, ℕ, zero, suc, ◌+◌, ◌-◌, ◌^◌, ◌<◌, ◌≤◌, List, [], ◌∷◌, ◌++◌, length, Option, Some, refl, sym, ap, ◌∙◌, subst, arith, pow-suc}
use Rattle.std.proofs.Math.Pow.{pow_mono}
use Rattle.std.proofs.lemmas.List.{length-append}
use Rattle.cht_ids.specs.declared.refs.Id.{Id}
use Rattle.cht_ids.specs.declared.refs.Ref.TheVariants.{Id as Held}
use Rattle.cht_engine.specs.Seen.{Seen, Holds, tree_named}
use Rattle.quad_matrix.specs.declared.kind.MatKind.{MatKind}
use Rattle.task_types.specs.Tree.{Tree, Nothing, Root, child}
use Rattle.name_machine.specs.Paths.{root_content, tree_below, content_at}
use Rattle.mm_text.specs.declared.market.Form.{Form}
use Rattle.mm_text.specs.declared.market.Form.TheVariants.{General, Symmetric}
use Rattle.quad_matrix.specs.declared.chunk.MatChunk.{MatChunk}
use Rattle.quad_matrix.specs.declared.chunk.MatChunk.TheVariants as chunk
use Rattle.quad_matrix.specs.Blocks.{IsCanonical, IsCanonicalSymmetric}
use Rattle.quad_matrix.proofs.ForOthers.{suc-sub_one, root_of_leaf, root_of_node, child_canonical, root_of_symmetric_leaf, root_of_symmetric_node, symmetric_children}
use Rattle.tree_entries.specs.declared.place.Place.{Place}
use Rattle.tree_entries.specs.BlockTrees.{IsBlockTree, IsCanonicalIn, tree_reached}
use Rattle.tree_entries.specs.Strips.{HasLevels, levels_in, levels_of, AreLevels, IsPlaced, IsPlacedNode}

-- ---- Paths

-- one child number more
pub below_more : {C : Type 0} (tree : Tree C) (path : List ℕ) (j : ℕ) → tree_below tree (path ++ j ∷ []) ≡ child (tree_below tree path) j
below_more tree [] j = refl
below_more tree (i ∷ path) j = below_more (child tree i) path j

-- what was found at a path
pub content_found : {C : Type 0} (tree : Tree C) (found content : Option C) (path given : List ℕ) → found ≡ content_at tree given → given ≡ path → found ≡ content
    → content ≡ root_content (tree_below tree path)
content_found tree found content path given at same is = sym is ∙ at ∙ ap (content_at tree) same

-- ---- Levels of canonical trees

-- a canonical tree tells its levels
pub canonical_levels : (b h : ℕ) (tree : Tree MatChunk) → IsCanonical b h tree → HasLevels h tree
canonical_levels b h Nothing is = tt
canonical_levels b zero (Root c x y z w) is =
    subst (λ k. HasLevels zero (Root k x y z w)) (sym (root_of_leaf b c x y z w is).0) refl
canonical_levels b (suc h) (Root c x y z w) is =
    let child_is = child_canonical b h (Root c x y z w) is in
    subst (λ k. HasLevels (suc h) (Root k x y z w)) (sym (root_of_node b h c x y z w is))
    (h, refl, refl, canonical_levels b h x (child_is 0), canonical_levels b h y (child_is 1), canonical_levels b h z (child_is 2), canonical_levels b h w (child_is 3))

-- and so does a canonical symmetric tree
pub symmetric_levels : (b h : ℕ) (tree : Tree MatChunk) → IsCanonicalSymmetric b h tree → HasLevels h tree
symmetric_levels b h Nothing is = tt
symmetric_levels b zero (Root c x y z w) is =
    subst (λ k. HasLevels zero (Root k x y z w)) (sym (root_of_symmetric_leaf b c x y z w is).0) refl
symmetric_levels b (suc h) (Root c x y z w) is =
    let all = symmetric_children b h (Root c x y z w) is in
    subst (λ k. HasLevels (suc h) (Root k x y z w)) (sym (root_of_symmetric_node b h c x y z w is))
    (h, refl, refl, symmetric_levels b h x all.first, canonical_levels b h y all.second, symmetric_levels b h z all.third, subst (HasLevels h) (sym all.none) tt)

pub levels_in_form : (form : Form) (b h : ℕ) (tree : Tree MatChunk) → IsCanonicalIn form b h tree → HasLevels h tree
levels_in_form General b h tree is = canonical_levels b h tree is
levels_in_form Symmetric b h tree is = symmetric_levels b h tree is

-- the root of a tree tells its levels
pub levels_told : (h : ℕ) (tree : Tree MatChunk) (c : MatChunk) → HasLevels h tree → Some c ≡ root_content tree → levels_of tree ≡ h
levels_told h Nothing c is e = absurd cc
levels_told h (Root (chunk.Leaf m) x y z w) c is e = sym is
levels_told h (Root (chunk.Node k peak) x y z w) c is e = is.2
levels_told h (Root (chunk.SymLeaf m) x y z w) c is e = sym is
levels_told h (Root (chunk.SymNode k peak) x y z w) c is e = is.2
levels_told h (Root (chunk.Entries entries) x y z w) c is e = sym is
levels_told h (Root (chunk.Num n) x y z w) c is e = sym is

-- a tree of at most 16 levels
pub are_levels : (h : ℕ) (tree : Tree MatChunk) → h ≤ 16 → HasLevels h tree → AreLevels tree
are_levels h Nothing le is = record { low = omega arith; told = tt }
are_levels h (Root c x y z w) le is =
    let e : levels_in c ≡ h = levels_told h (Root c x y z w) c is refl in
    record { low = omega (arith, e, le); told = subst (λ k. HasLevels k (Root c x y z w)) (sym e) is }

pub block_levels : (form : Form) (tree : Tree MatChunk) → IsBlockTree form tree → AreLevels tree
block_levels form tree is = are_levels is.height tree is.low (levels_in_form form is.leaf is.height tree is.canonical)

-- ---- Placed trees

-- what is known of a tree whose root has four children
record IsNodeTree (h k : ℕ) (tree : Tree MatChunk) : Type 0 where
  same : h ≡ k
  high : 1 ≤ h
  levels : (j : ℕ) → HasLevels (h - 1) (child tree j)

-- the levels of each child
each_child : (c : MatChunk) (x y z w : Tree MatChunk) (l : ℕ) → HasLevels l x → HasLevels l y → HasLevels l z → HasLevels l w → (j : ℕ)
    → HasLevels l (child (Root c x y z w) j)
each_child c x y z w l a b d e zero = a
each_child c x y z w l a b d e (suc zero) = b
each_child c x y z w l a b d e (suc (suc zero)) = d
each_child c x y z w l a b d e (suc (suc (suc zero))) = e
each_child c x y z w l a b d e (suc (suc (suc (suc j)))) = tt

node_tree : (h k n peak : ℕ) (c : MatChunk) (x y z w : Tree MatChunk) (l : ℕ) → h ≡ suc l → n ≡ h → k ≡ n
    → HasLevels l x → HasLevels l y → HasLevels l z → HasLevels l w → IsNodeTree h k (Root c x y z w)
node_tree h k n peak c x y z w l e f same a b d last =
    let low : h - 1 ≡ l = omega (arith, e) in
    record {
      same = sym f ∙ sym same;
      high = omega (arith, e);
      levels = λ j. subst (λ i. HasLevels i (child (Root c x y z w) j)) (sym low) (each_child c x y z w l a b d last j);
    }

node_tree_of : (h k peak : ℕ) (tree : Tree MatChunk) → HasLevels h tree → Some (chunk.Node k peak) ≡ root_content tree → IsNodeTree h k tree
node_tree_of h k peak Nothing is e = absurd cc
node_tree_of h k peak (Root (chunk.Leaf m) x y z w) is e = absurd cc
node_tree_of h k peak (Root (chunk.Node n p) x y z w) is e =
    let same : k ≡ n = cc in
    node_tree h k n p (chunk.Node n p) x y z w is.0 is.1 is.2 same is.3 is.4 is.5 is.6
node_tree_of h k peak (Root (chunk.SymLeaf m) x y z w) is e = absurd cc
node_tree_of h k peak (Root (chunk.SymNode n p) x y z w) is e = absurd cc
node_tree_of h k peak (Root (chunk.Entries entries) x y z w) is e = absurd cc
node_tree_of h k peak (Root (chunk.Num n) x y z w) is e = absurd cc

symmetric_tree_of : (h k peak : ℕ) (tree : Tree MatChunk) → HasLevels h tree → Some (chunk.SymNode k peak) ≡ root_content tree → IsNodeTree h k tree
symmetric_tree_of h k peak Nothing is e = absurd cc
symmetric_tree_of h k peak (Root (chunk.Leaf m) x y z w) is e = absurd cc
symmetric_tree_of h k peak (Root (chunk.Node n p) x y z w) is e = absurd cc
symmetric_tree_of h k peak (Root (chunk.SymLeaf m) x y z w) is e = absurd cc
symmetric_tree_of h k peak (Root (chunk.SymNode n p) x y z w) is e =
    let same : k ≡ n = cc in
    node_tree h k n p (chunk.SymNode n p) x y z w is.0 is.1 is.2 same is.3 is.4 is.5 is.6
symmetric_tree_of h k peak (Root (chunk.Entries entries) x y z w) is e = absurd cc
symmetric_tree_of h k peak (Root (chunk.Num n) x y z w) is e = absurd cc

placed_as : (strips depth h k : ℕ) (at : Place) (tree : Tree MatChunk) → IsNodeTree h k tree → depth + h ≤ 16 → at.above + 2 ^ h ≤ strips → at.left + 2 ^ h ≤ 2 ^ 16
    → strips ≤ 2 ^ 16 → IsPlacedNode strips depth k at tree
placed_as strips depth h k at tree node deep above left few =
    let P : ℕ → Type 0 = λ n. IsPlacedNode strips depth n at tree in
    subst P node.same (record { high = node.high; levels = node.levels; deep = deep; above = above; left = left; few = few })

-- a placed tree that is a node
pub placed_node : (strips depth : ℕ) (at : Place) (tree : Tree MatChunk) (k peak : ℕ) → IsPlaced strips depth at tree → Some (chunk.Node k peak) ≡ root_content tree
    → IsPlacedNode strips depth k at tree
placed_node strips depth at tree k peak is e =
    placed_as strips depth is.height k at tree (node_tree_of is.height k peak tree is.levels e) is.deep is.above is.left is.few

-- or a symmetric node
pub placed_symmetric : (strips depth : ℕ) (at : Place) (tree : Tree MatChunk) (k peak : ℕ) → IsPlaced strips depth at tree → Some (chunk.SymNode k peak) ≡ root_content tree
    → IsPlacedNode strips depth k at tree
placed_symmetric strips depth at tree k peak is e =
    placed_as strips depth is.height k at tree (symmetric_tree_of is.height k peak tree is.levels e) is.deep is.above is.left is.few

-- its strip is there
pub placed_strip : (strips depth : ℕ) (at : Place) (tree : Tree MatChunk) → IsPlaced strips depth at tree → at.above < strips
placed_strip strips depth at tree is = omega (arith, is.above, pow_positive is.height)
  where
    pow_positive : (h : ℕ) → 1 ≤ 2 ^ h
    pow_positive zero = omega arith
    pow_positive (suc h) = rw pow-suc (omega (arith, pow_positive h))

-- a child of a node, where it begins no more than half a block away
pub placed_child : (strips depth k half : ℕ) (at to : Place) (tree : Tree MatChunk) (j : ℕ) → IsPlacedNode strips depth k at tree → half ≡ 2 ^ (k - 1)
    → to.above ≤ at.above + half → to.left ≤ at.left + half → IsPlaced strips (depth + 1) to (child tree j)
placed_child strips depth zero half at to tree j node is down right = absurd (omega (arith, node.high))
placed_child strips depth (suc h) half at to tree j node is down right =
    let half_is : half ≡ 2 ^ h = is ∙ ap (λ k. 2 ^ k) (suc-sub_one h) in
    let twice : 2 ^ suc h ≡ 2 ^ h + 2 ^ h = rw pow-suc (omega arith) in
    record {
      height = h;
      levels = subst (λ i. HasLevels i (child tree j)) (suc-sub_one h) (node.levels j);
      deep = omega (arith, node.deep);
      above = omega (arith, node.above, half_is, twice, down);
      left = omega (arith, node.left, half_is, twice, right);
      few = node.few;
    }

-- ---- After calls that leave all as it was

-- what a child needs, where the caller sees the same and the path is the same
pub record IsReady (seen : Seen MatChunk MatKind) (id : Id) (path : List ℕ) (strips : ℕ) (to : Place) (j : ℕ) : Type 0 where
  pub held : Holds seen id
  pub shallow : length path + 1 ≤ 16
  pub placed : IsPlaced strips (length path + 1) to (child (tree_reached seen id path) j)

pub ready : (before now : Seen MatChunk MatKind) (id : Id) (path again : List ℕ) (strips count k half : ℕ) (at to : Place) (j : ℕ) → now ≡ before → again ≡ path
    → count ≡ strips → Holds before id → IsPlacedNode strips (length path) k at (tree_reached before id path) → half ≡ 2 ^ (k - 1)
    → to.above ≤ at.above + half → to.left ≤ at.left + half → IsReady now id again count to j
ready before now id path again strips count k half at to j same way many held node is down right =
    let P : Seen MatChunk MatKind → Type 0 = λ s. IsReady s id again count to j in
    let Q : List ℕ → Type 0 = λ p. IsReady before id p count to j in
    let R : ℕ → Type 0 = λ n. IsReady before id path n to j in
    subst P (sym same)
    (subst Q (sym way)
    (subst R (sym many)
    (record {
      held = held;
      shallow = omega (arith, node.deep, node.high);
      placed = placed_child strips (length path) k half at to (tree_reached before id path) j node is down right;
    })))

-- a path that is longer by a child number
pub placed_below : (seen : Seen MatChunk MatKind) (id : Id) (path longer : List ℕ) (strips : ℕ) (to : Place) (j : ℕ) → longer ≡ path ++ j ∷ []
    → IsPlaced strips (length path + 1) to (child (tree_reached seen id path) j) → IsPlaced strips (length longer) to (tree_reached seen id longer)
placed_below seen id path longer strips to j more placed =
    let P : List ℕ → Type 0 = λ p. IsPlaced strips (length p) to (tree_reached seen id p) in
    let Q : ℕ → Type 0 = λ n. IsPlaced strips n to (tree_reached seen id (path ++ j ∷ [])) in
    let R : Tree MatChunk → Type 0 = λ t. IsPlaced strips (length path + 1) to t in
    subst P (sym more) (subst Q (sym (length-append path (j ∷ []))) (subst R (sym (below_more (tree_named seen (Held id)) path j)) placed))

-- a whole tree is placed where it begins
pub placed_whole : (strips : ℕ) (at : Place) (tree : Tree MatChunk) → at.above ≡ 0 → at.left ≡ 0 → strips ≡ 2 ^ levels_of tree → AreLevels tree → IsPlaced strips 0 at tree
placed_whole strips at tree top left many is =
    let most = pow_mono is.low in
    record {
      height = levels_of tree;
      levels = is.told;
      deep = omega (arith, is.low);
      above = omega (arith, top, many);
      left = omega (arith, most, left);
      few = omega (arith, many, most);
    }
