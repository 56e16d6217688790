-- The terms of products on quadrants: tasks one level below that stand for products of blocks, and their sums.
use Rattle.std.proofs.Common.{◌≡◌, ℕ, suc, ◌*◌, ◌<◌, ◌≤◌, Bool, false, List, [], ◌∷◌, refl, sym, ap, ap₂, ◌∙◌, subst, subst₂}
use Rattle.dense_def.specs.Matrix.{Matrix, plus, transposed, joined, IsSymmetric, SumFits}
use Rattle.dense_def.proofs.Blocks.{joined_same}
use Rattle.dense_def.proofs.Operations.{IsSymmetric-plus}
use Rattle.leaf_blocks.specs.Block.{IsBlock}
use Rattle.chunk_codec.specs.Spots.{side_of}
use Rattle.task_types.specs.Tree.{Tree, Nothing}
use Rattle.task_plans.specs.declared.plan.Ending.TheVariants.{Joined}
use Rattle.task_plans.specs.Steps.{PairGives, EndingGives}
use Rattle.quad_matrix.specs.declared.chunk.MatChunk.{MatChunk}
use Rattle.quad_matrix.specs.declared.kind.What.{What}
use Rattle.quad_matrix.specs.declared.kind.What.TheVariants.{Add, Join, SAdd, SJoin}
use Rattle.quad_matrix.specs.Blocks.{block_of, canonical, canonical_symmetric, IsCanonical, IsCanonicalSymmetric}
use Rattle.quad_matrix.specs.Goals.{kind_of, kind_at, goal_at, FitsAt}
use Rattle.quad_matrix.specs.Matrices.{matrices}
use Rattle.quad_matrix.proofs.ForOthers.{IsBlock-plus, block_of_canonical, canonical_of_block, block_of_symmetric, symmetric_of_block, goal_any, join_goal, fits_join, symmetric_join_goal, fits_symmetric_join}
use Rattle.matrix_tasks.proofs.ForOthers.{join_gives}
use Rattle.symm_tasks.proofs.ByPlan.{symmetric_join_gives, add_is_sum, symmetric_add_is_sum, pair_gives}

-- ---- Terms

-- a task may be asked, and its goal is the canonical tree of a block
pub record IsGeneral (b h : ℕ) (what : What) (trees : List (Tree MatChunk)) (m : Matrix) : Type 0 where
  pub fits : FitsAt b what h trees
  pub canonical : IsCanonical b h (goal_at b what h trees)
  pub stands : block_of b h (goal_at b what h trees) ≡ m

-- or the canonical symmetric tree of a symmetric one
pub record IsMirrored (b h : ℕ) (what : What) (trees : List (Tree MatChunk)) (m : Matrix) : Type 0 where
  pub fits : FitsAt b what h trees
  pub canonical : IsCanonicalSymmetric b h (goal_at b what h trees)
  pub stands : block_of b h (goal_at b what h trees) ≡ m

pub general_term : (b h : ℕ) (what : What) (trees : List (Tree MatChunk)) (m : Matrix) → FitsAt b what h trees → goal_at b what h trees ≡ canonical b h m → IsBlock (side_of b h) m
    → IsGeneral b h what trees m
general_term b h what trees m fits goal sized =
    record {
      fits = fits;
      canonical = subst (IsCanonical b h) (sym goal) (canonical_of_block b h m sized);
      stands = ap (block_of b h) goal ∙ block_of_canonical b h m sized.whole sized.tall sized.wide;
    }

pub mirrored_term : (b h : ℕ) (what : What) (trees : List (Tree MatChunk)) (m : Matrix) → FitsAt b what h trees → goal_at b what h trees ≡ canonical_symmetric b h m → IsBlock (side_of b h) m → IsSymmetric m
    → IsMirrored b h what trees m
mirrored_term b h what trees m fits goal sized even =
    record {
      fits = fits;
      canonical = subst (IsCanonicalSymmetric b h) (sym goal) (symmetric_of_block b h m sized even);
      stands = ap (block_of b h) goal ∙ block_of_symmetric b h m sized even;
    }

-- ---- Sums of two terms

module _ (b h : ℕ) (one other : What) (first second : List (Tree MatChunk)) (m n : Matrix) (together : SumFits m n) where
  abbrev s : Tree MatChunk
  s = goal_at b one h first

  abbrev t : Tree MatChunk
  t = goal_at b other h second

  -- of general ones
  pub general_sum : IsGeneral b h one first m → IsGeneral b h other second n → IsGeneral b h Add (s ∷ t ∷ []) (plus m n)
  general_sum p q =
      let fits : FitsAt b Add h (s ∷ t ∷ []) = (p.canonical, q.canonical, subst₂ SumFits (sym p.stands) (sym q.stands) together) in
      let sized = IsBlock-plus (side_of b h) (block_of b h s) (block_of b h t) p.canonical.sized q.canonical.sized fits.2 in
      general_term b h Add (s ∷ t ∷ []) (plus m n) fits (ap₂ (λ (m n : Matrix). canonical b h (plus m n)) p.stands q.stands)
      (subst (IsBlock (side_of b h)) (ap₂ plus p.stands q.stands) sized)

  -- of symmetric ones
  pub mirrored_sum : IsMirrored b h one first m → IsMirrored b h other second n → IsMirrored b h SAdd (s ∷ t ∷ []) (plus m n)
  mirrored_sum p q =
      let fits : FitsAt b SAdd h (s ∷ t ∷ []) = (p.canonical, q.canonical, subst₂ SumFits (sym p.stands) (sym q.stands) together) in
      let sized = IsBlock-plus (side_of b h) (block_of b h s) (block_of b h t) p.canonical.sized q.canonical.sized fits.2 in
      let even = IsSymmetric-plus (block_of b h s) (block_of b h t) p.canonical.symmetric q.canonical.symmetric (p.canonical.sized.tall ∙ sym q.canonical.sized.tall) in
      mirrored_term b h SAdd (s ∷ t ∷ []) (plus m n) fits (ap₂ (λ (m n : Matrix). canonical_symmetric b h (plus m n)) p.stands q.stands)
      (subst (IsBlock (side_of b h)) (ap₂ plus p.stands q.stands) sized) (subst IsSymmetric (ap₂ plus p.stands q.stands) even)

  module _ (rank : ℕ) (side : b ≤ 64) (low : h ≤ 16) (lower : matrices.rank (kind_of one h) < rank) (lower' : matrices.rank (kind_of other h) < rank) (sum_lower : matrices.rank (kind_of Add h) < rank) (a c : Bool) (none : a ≡ false → s ≡ Nothing) (none' : c ≡ false → t ≡ Nothing) where
    -- the pair of tasks gives the sum
    pub general_gives : IsGeneral b h one first m → IsGeneral b h other second n
        → PairGives matrices rank (kind_of one h) first (kind_of other h) second (kind_of Add h) (goal_at b Add h (s ∷ t ∷ [])) a c
    general_gives p q =
        pair_gives b h h rank one other Add first second (goal_at b Add h (s ∷ t ∷ [])) side low low lower lower' sum_lower (add_is_sum b h) p.fits q.fits (general_sum p q).fits refl a c none none'

    pub mirrored_gives : IsMirrored b h one first m → IsMirrored b h other second n
        → PairGives matrices rank (kind_of one h) first (kind_of other h) second (kind_of SAdd h) (goal_at b SAdd h (s ∷ t ∷ [])) a c
    mirrored_gives p q =
        pair_gives b h h rank one other SAdd first second (goal_at b SAdd h (s ∷ t ∷ [])) side low low lower lower' sum_lower (symmetric_add_is_sum b h) p.fits q.fits (mirrored_sum p q).fits refl a c none none'

-- ---- Joins of quadrants

-- the symmetric join of three quadrants is the goal of a symmetric block that is joined of what they stand for
pub mirrored_ending : (b h : ℕ) (what : What) (trees : List (Tree MatChunk)) (k0 k1 k2 : What) (l0 l1 l2 : List (Tree MatChunk)) (m0 m1 m2 whole : Matrix)
    → b ≤ 64 → suc h ≤ 16 → 4 * suc h < matrices.rank (kind_of what (suc h)) → FitsAt b what (suc h) trees → goal_at b what (suc h) trees ≡ canonical_symmetric b (suc h) whole
    → whole ≡ joined m0 m1 (transposed m1) m2 → IsMirrored b h k0 l0 m0 → IsGeneral b h k1 l1 m1 → IsMirrored b h k2 l2 m2
    → EndingGives matrices (kind_of what (suc h)) (kind_at (suc h)) trees (Joined SJoin) (goal_at b k0 h l0 ∷ goal_at b k1 h l1 ∷ goal_at b k2 h l2 ∷ [])
mirrored_ending b h what trees k0 k1 k2 l0 l1 l2 m0 m1 m2 whole side low lower fits goal is q0 q1 q2 =
    let t0 : Tree MatChunk = goal_at b k0 h l0 in
    let t1 : Tree MatChunk = goal_at b k1 h l1 in
    let t2 : Tree MatChunk = goal_at b k2 h l2 in
    let blocks = joined_same (block_of b h t0) (block_of b h t1) (transposed (block_of b h t1)) (block_of b h t2) m0 m1 (transposed m1) m2 q0.stands q1.stands (ap transposed q1.stands) q2.stands in
    symmetric_join_gives b h (kind_of what (suc h)) trees t0 t1 t2 side low lower (fits_symmetric_join b h t0 t1 t2 q0.canonical q1.canonical q2.canonical)
    (symmetric_join_goal b h t0 t1 t2 ∙ ap (canonical_symmetric b (suc h)) (blocks ∙ sym is) ∙ sym goal ∙ sym (goal_any b what (suc h) trees fits))

-- the join of four is that of a general block
pub general_ending : (b h : ℕ) (what : What) (trees : List (Tree MatChunk)) (l0 l1 l2 l3 : List (Tree MatChunk)) (m0 m1 m2 m3 whole : Matrix)
    → b ≤ 64 → suc h ≤ 16 → 4 * suc h < matrices.rank (kind_of what (suc h)) → FitsAt b what (suc h) trees → goal_at b what (suc h) trees ≡ canonical b (suc h) whole
    → whole ≡ joined m0 m1 m2 m3 → IsGeneral b h Add l0 m0 → IsGeneral b h Add l1 m1 → IsGeneral b h Add l2 m2 → IsGeneral b h Add l3 m3
    → EndingGives matrices (kind_of what (suc h)) (kind_at (suc h)) trees (Joined Join) (goal_at b Add h l0 ∷ goal_at b Add h l1 ∷ goal_at b Add h l2 ∷ goal_at b Add h l3 ∷ [])
general_ending b h what trees l0 l1 l2 l3 m0 m1 m2 m3 whole side low lower fits goal is q0 q1 q2 q3 =
    let t0 : Tree MatChunk = goal_at b Add h l0 in
    let t1 : Tree MatChunk = goal_at b Add h l1 in
    let t2 : Tree MatChunk = goal_at b Add h l2 in
    let t3 : Tree MatChunk = goal_at b Add h l3 in
    let blocks = joined_same (block_of b h t0) (block_of b h t1) (block_of b h t2) (block_of b h t3) m0 m1 m2 m3 q0.stands q1.stands q2.stands q3.stands in
    join_gives b h (kind_of what (suc h)) trees t0 t1 t2 t3 side low lower (fits_join b h t0 t1 t2 t3 q0.canonical q1.canonical q2.canonical q3.canonical)
    (join_goal b h t0 t1 t2 t3 ∙ ap (canonical b (suc h)) (blocks ∙ sym is) ∙ sym goal ∙ sym (goal_any b what (suc h) trees fits))
