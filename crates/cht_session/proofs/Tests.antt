-- The tests by which statements are refused.
use Rattle.std.proofs.Common.{◌≡◌, ℕ, ◌+◌, ◌*◌, ◌^◌, ◌≤◌, Bool, true, false, not, cond, ℤ, refl, sym, ap, ap₂, ◌∙◌, arith, inl, inr}
use Rattle.std.specs.Prelude.{IsTrue, nat_le, ◌↔◌, ◌&&◌, ◌==◌, unsigned_abs}
use Rattle.std.proofs.lemmas.Bool.{cases_lt, le-leb, lt-leb, false≢true}
use Rattle.dense_def.specs.Matrix.{Matrix, height, peak_of}
use Rattle.task_types.specs.Tree.{Nothing, is_there}
use Rattle.quad_matrix.specs.declared.chunk.MatChunk.TheVariants as chunk
use Rattle.quad_matrix.specs.Blocks.{number_tree, alone}
use Rattle.cht_script.specs.Meaning.{limit, is_bounded}
use Rattle.cht_session.specs.declared.operation.Operation.{Operation}
use Rattle.cht_session.specs.declared.operation.Operation.TheVariants.{Add, Mul, TMul, MulT, Square, Full}
use Rattle.cht_session.specs.Operations.{verb_of, fits_by}

-- a test that says whether a number is at most another is the comparison of both
test_is : (test : Bool) (m n : ℕ) → IsTrue test ↔ (m ≤ n) → test ≡ nat_le m n
test_is true m n says = sym (le-leb m n (says.0 refl))
test_is false m n says = elim (cases_lt n m) [ inl lt ↦ sym (lt-leb m n lt) | inr le ↦ absurd (false≢true (says.1 le)) ]

pub both : (a b : Bool) → a && b ≡ true → (a ≡ true) × (b ≡ true)
both true b e = (refl, e)
both false b e = absurd (false≢true e)

-- the test of an operation, by what is told of its inputs
pub operation_tested : (operation : Operation) (m n : Matrix) (rows columns p q : ℕ) → rows ≡ height m → columns ≡ m.columns → p ≡ peak_of m → q ≡ peak_of n
    → fits_by operation rows columns p q ≡ is_bounded (verb_of operation) m n
operation_tested Add m n rows columns p q r c e f = ap₂ (λ p q. nat_le (p + q) limit) e f
operation_tested Mul m n rows columns p q r c e f = ap (λ k. nat_le (k * p * q) limit) c ∙ ap₂ (λ p q. nat_le (m.columns * p * q) limit) e f
operation_tested TMul m n rows columns p q r c e f = ap (λ k. nat_le (k * p * q) limit) r ∙ ap₂ (λ p q. nat_le (height m * p * q) limit) e f
operation_tested MulT m n rows columns p q r c e f = ap (λ k. nat_le (k * p * q) limit) c ∙ ap₂ (λ p q. nat_le (m.columns * p * q) limit) e f
operation_tested Square m n rows columns p q r c e f = ap₂ (λ k p. nat_le (k * p * p) limit) r e
operation_tested Full m n rows columns p q r c e f = refl

-- that of a trace
pub trace_tested : (m : Matrix) (rows p : ℕ) (test : Bool) → rows ≡ height m → p ≡ peak_of m → IsTrue test ↔ (rows * p * 1 ≤ 2 ^ 126)
    → test ≡ nat_le (height m * peak_of m) limit
trace_tested m rows p test r e says =
    test_is test (rows * p * 1) (2 ^ 126) says
    ∙ ap (λ n. nat_le n (2 ^ 126)) (let one : rows * p * 1 ≡ rows * p = omega arith in one)
    ∙ ap₂ (λ n p. nat_le (n * p) (2 ^ 126)) r e

-- the tree of a number is nothing exactly where it is 0
pub number_null : (n : ℤ) → not (is_there (number_tree n)) ≡ (unsigned_abs n == 0)
number_null n = case (unsigned_abs n == 0) n
  where
    case : (t : Bool) (n : ℤ) → not (is_there (cond t Nothing (alone (chunk.Num n)))) ≡ t
    case true n = refl
    case false n = refl
