-- The three products of two blocks: of both as they are, with the first one transposed, and with the second one transposed. They have one
-- plan, over how the children of each factor stand.
use Rattle.std.specs.Prelude.{◌≡◌, ℕ, Bool, true, false, [], ◌∷◌}
use Rattle.dense_def.specs.Matrix.{Matrix, height, times, tmul_of, mult_of, ProductFits, TmulFits, MultFits}
use Rattle.task_types.specs.declared.outcome.Place.TheVariants.{Child}
use Rattle.task_plans.specs.declared.plan.Part.{Part}
use Rattle.task_plans.specs.declared.plan.Part.TheVariants.{Pair}
use Rattle.task_plans.specs.declared.plan.Term.{Term}
use Rattle.task_plans.specs.declared.plan.Ending.TheVariants.{Joined}
use Rattle.task_plans.specs.Plans.{Plan, term_on}
use Rattle.quad_matrix.specs.declared.kind.What.{What}
use Rattle.quad_matrix.specs.declared.kind.What.TheVariants.{Add, Mul, TMul, MulT, Join}

-- which factor of a product is transposed
pub data Turned : Type 0 where
  Neither : Turned
  First : Turned
  Second : Turned

-- what computes the product
abbrev pub product_what : Turned → What
product_what Neither = Mul
product_what First = TMul
product_what Second = MulT

-- the product of two matrices
abbrev pub product_of : Turned → Matrix → Matrix → Matrix
product_of Neither a b = times a b
product_of First a b = tmul_of a b
product_of Second a b = mult_of a b

-- at each place of it the terms fit
abbrev pub FactorsFit : Turned → Matrix → Matrix → Type 0
FactorsFit Neither a b = ProductFits a b
FactorsFit First a b = TmulFits a b
FactorsFit Second a b = MultFits a b

-- ---- Children

-- the number of the child in the upper or lower half, to the left or to the right
abbrev pub child_in : Bool → Bool → ℕ
child_in false false = 0
child_in false true = 1
child_in true false = 2
child_in true true = 3

-- The child of the first factor that stands in a term of a quadrant: `lower` tells whether the quadrant lies in the lower half, and
-- `far` whether the term is the second one, that of the far half of the inner range.
abbrev pub first_child : Turned → Bool → Bool → ℕ
first_child Neither lower far = child_in lower far
first_child First lower far = child_in far lower
first_child Second lower far = child_in lower far

-- the child of the second factor; `right` tells whether the quadrant lies to the right
abbrev pub second_child : Turned → Bool → Bool → ℕ
second_child Neither right far = child_in far right
second_child First right far = child_in far right
second_child Second right far = child_in right far

-- ---- The plan

-- a term of a quadrant: the product of two children
abbrev pub product_term : Turned → Bool → Bool → Bool → Term What
product_term turned lower right far =
    term_on (product_what turned) (Child 0 (first_child turned lower far) ∷ Child 1 (second_child turned right far) ∷ [])

-- a quadrant: the sum of its two terms
abbrev pub product_part : Turned → Bool → Bool → Part What
product_part turned lower right = Pair (product_term turned lower right false) (product_term turned lower right true) Add

-- the plan of a product: its four quadrants, and their join
abbrev pub product_plan : Turned → Plan What
product_plan turned =
    record {
      parts =
          product_part turned false false ∷ product_part turned false true
          ∷ product_part turned true false ∷ product_part turned true true
          ∷ [];
      ending = Joined Join;
    }

-- ---- Sizes

-- the inner size of a product, by its first factor: its columns, or its rows where it is transposed
abbrev pub inner_size : Turned → Matrix → ℕ
inner_size Neither a = a.columns
inner_size First a = height a
inner_size Second a = a.columns

-- it is that of the second factor too
abbrev pub InnerSizesAgree : Turned → Matrix → Matrix → Type 0
InnerSizesAgree Neither a b = a.columns ≡ height b
InnerSizesAgree First a b = height a ≡ height b
InnerSizesAgree Second a b = a.columns ≡ b.columns
