-- The canonical trees of numbers, and traces.
use Rattle.std.proofs.Common.{◌≡◌, ℕ, suc, ◌+◌, ◌^◌, ◌≤◌, [], ◌∷◌, ℤ, pos, ◌+ℤ◌, unsigned_abs, ◌==◌, refl, sym, ap, ap₂, ◌∙◌, subst, arith, ⊎_elim, eq-eqb, ne_eqb}
use Rattle.std.proofs.lemmas.Bool.{cases_eq, cond-true, cond-false}
use Rattle.std.proofs.lemmas.Int.{ints}
use Rattle.std.proofs.Math.IntN.{+ℤ_idl, +ℤ_idr}
use Rattle.dense_def.specs.Matrix.{Matrix, height, entry, trace_of, TraceFits}
use Rattle.dense_def.proofs.Sums.{magnitudes_bound, unsigned_abs-add}
use Rattle.dense_def.proofs.Quadrants.{trace-joined}
use Rattle.dense_def.proofs.Zeros.{trace-zeros}
use Rattle.dense_def.proofs.Fits.{trace_fits_on_quadrants}
use Rattle.task_types.specs.Tree.{Tree, Nothing, Root, child}
use Rattle.quad_matrix.specs.declared.chunk.MatChunk.{MatChunk}
use Rattle.quad_matrix.specs.declared.chunk.MatChunk.TheVariants.{Num}
use Rattle.quad_matrix.specs.declared.kind.What.TheVariants.{Trace, AddNum}
use Rattle.chunk_codec.specs.Spots.{side_of}
use Rattle.quad_matrix.specs.Blocks.{block_of, number_of, alone, number_tree, IsNumber}
use Rattle.quad_matrix.specs.Goals.{goal_at, FitsAt}
use Rattle.quad_matrix.proofs.Quadrants.{child_canonical, block_of_quadrants, squares_fit}

-- a number of absolute value 0 is 0
pub zero_from_abs : (n : ℤ) → unsigned_abs n ≡ 0 → n ≡ pos 0
zero_from_abs n h = omega (arith, ints)

-- the tree of a number other than 0
pub number_some : (n : ℤ) → (unsigned_abs n ≡ 0 → ⊥) → number_tree n ≡ alone (Num n)
number_some n some = cond-false (unsigned_abs n == 0) Nothing (alone (Num n)) (ne_eqb (unsigned_abs n) 0 some)

-- the tree of 0
pub number_zero : (n : ℤ) → unsigned_abs n ≡ 0 → number_tree n ≡ Nothing
number_zero n flat = cond-true (unsigned_abs n == 0) Nothing (alone (Num n)) (eq-eqb (unsigned_abs n) 0 flat)

-- the tree of a number stands for it
pub number_of_tree : (n : ℤ) → number_of (number_tree n) ≡ n
number_of_tree n =
    ⊎_elim
    (λ (flat : unsigned_abs n ≡ 0). ap number_of (number_zero n flat) ∙ sym (zero_from_abs n flat))
    (λ (some : unsigned_abs n ≡ 0 → ⊥). ap number_of (number_some n some))
    (cases_eq (unsigned_abs n) 0)

-- the tree of a small number is one of a number
pub number_is_number : (n : ℤ) → unsigned_abs n ≤ 2 ^ 126 → IsNumber (number_tree n)
number_is_number n small =
    let same = number_of_tree n in
    record { small = rw same small; same = ap number_tree (sym same) }

-- nothing is the tree of 0
pub nothing_is_number : IsNumber Nothing
nothing_is_number = number_is_number (pos 0) (omega arith)

-- a tree of a number that is there has it as its content
pub root_of_number : (c : MatChunk) (x y z w : Tree MatChunk) → IsNumber (Root c x y z w) → (c ≡ Num (number_of (Root c x y z w))) × (x ≡ Nothing) × (y ≡ Nothing) × (z ≡ Nothing) × (w ≡ Nothing)
root_of_number c x y z w is =
    let n = number_of (Root c x y z w) in
    ⊎_elim
    (λ (flat : unsigned_abs n ≡ 0). let none : Root c x y z w ≡ Nothing = is.same ∙ number_zero n flat in cc)
    (λ (some : unsigned_abs n ≡ 0 → ⊥).
    let same : Root c x y z w ≡ alone (Num n) = is.same ∙ number_some n some in
    (cc, cc, cc, cc, cc))
    (cases_eq (unsigned_abs n) 0)

-- ---- Goals that are numbers

-- the tree of a trace whose terms fit
pub trace_is_number : (m : Matrix) → TraceFits m → IsNumber (number_tree (trace_of m))
trace_is_number m fits =
    number_is_number (trace_of m) (omega (arith, fits, magnitudes_bound (height m) (λ i. entry m i i)))

-- the goal of a sum of numbers
pub addnum_is_number : (b h : ℕ) (x y : Tree MatChunk) → FitsAt b AddNum h (x ∷ y ∷ []) → IsNumber (goal_at b AddNum h (x ∷ y ∷ []))
addnum_is_number b h x y fits =
    number_is_number (number_of x +ℤ number_of y) (omega (arith, fits.3, unsigned_abs-add (number_of x) (number_of y)))

-- a number and nothing add up to the number
pub addnum_with_nothing : (b h : ℕ) (x : Tree MatChunk) → IsNumber x → goal_at b AddNum h (x ∷ Nothing ∷ []) ≡ x
addnum_with_nothing b h x is = ap number_tree (+ℤ_idr (number_of x)) ∙ sym is.same

-- and so do nothing and a number
pub addnum_nothing_with : (b h : ℕ) (y : Tree MatChunk) → IsNumber y → goal_at b AddNum h (Nothing ∷ y ∷ []) ≡ y
addnum_nothing_with b h y is = ap number_tree (+ℤ_idl (number_of y)) ∙ sym is.same

-- the trace of nothing is nothing
pub trace_of_nothing : (b h : ℕ) → goal_at b Trace h (Nothing ∷ []) ≡ Nothing
trace_of_nothing b h = ap number_tree (trace-zeros (side_of b h) (side_of b h))

-- ---- Traces on quadrants

module _ (b h : ℕ) (x : Tree MatChunk) (fits : FitsAt b Trace (suc h) (x ∷ [])) where
  parts : TraceFits (block_of b h (child x 0)) × TraceFits (block_of b h (child x 3)) × (unsigned_abs (trace_of (block_of b h (child x 0))) + unsigned_abs (trace_of (block_of b h (child x 3))) ≤ 2 ^ 126)
  parts =
      let x0 = child_canonical b h x fits.0 0 in
      let x1 = child_canonical b h x fits.0 1 in
      let x2 = child_canonical b h x fits.0 2 in
      let x3 = child_canonical b h x fits.0 3 in
      trace_fits_on_quadrants _ _ _ _ (x0.sized.tall ∙ sym x0.sized.wide) (x3.sized.tall ∙ sym x3.sized.wide)
      (squares_fit (side_of b h) _ _ _ _ x0.sized x1.sized x2.sized x3.sized)
      (subst TraceFits (block_of_quadrants b h x fits.0) fits.1)

  -- the trace of the upper left quadrant fits
  pub trace_first : FitsAt b Trace h (child x 0 ∷ [])
  trace_first = (child_canonical b h x fits.0 0, parts.0)

  -- and that of the lower right one
  pub trace_last : FitsAt b Trace h (child x 3 ∷ [])
  trace_last = (child_canonical b h x fits.0 3, parts.1)

  -- and so does their sum
  pub trace_fits : FitsAt b AddNum 0 (goal_at b Trace h (child x 0 ∷ []) ∷ goal_at b Trace h (child x 3 ∷ []) ∷ [])
  trace_fits = (
    refl,
    trace_is_number (block_of b h (child x 0)) trace_first.1,
    trace_is_number (block_of b h (child x 3)) trace_last.1,
    rw (number_of_tree (trace_of (block_of b h (child x 0))), number_of_tree (trace_of (block_of b h (child x 3)))) parts.2,
  )

  -- which is the whole trace
  pub trace_on_children : goal_at b Trace (suc h) (x ∷ []) ≡ goal_at b AddNum 0 (goal_at b Trace h (child x 0 ∷ []) ∷ goal_at b Trace h (child x 3 ∷ []) ∷ [])
  trace_on_children =
      let x0 = child_canonical b h x fits.0 0 in
      let x1 = child_canonical b h x fits.0 1 in
      let x2 = child_canonical b h x fits.0 2 in
      let x3 = child_canonical b h x fits.0 3 in
      ap number_tree
      (ap trace_of (block_of_quadrants b h x fits.0)
      ∙ trace-joined _ _ _ _ (x0.sized.tall ∙ sym x0.sized.wide) (x3.sized.tall ∙ sym x3.sized.wide)
      (squares_fit (side_of b h) _ _ _ _ x0.sized x1.sized x2.sized x3.sized)
      ∙ sym (ap₂ ◌+ℤ◌ (number_of_tree (trace_of (block_of b h (child x 0)))) (number_of_tree (trace_of (block_of b h (child x 3))))))
