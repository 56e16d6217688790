-- The two factors of a product.
use Rattle.std.proofs.Common.{◌≡◌, ℕ, ◌≤◌, false, List, [], ◌∷◌, refl, sym, subst, inl}
use Rattle.std.proofs.lemmas.Bool.{false≢true, le-leb}
use Rattle.task_types.specs.Tree.{Tree}
use Rattle.task_types.specs.Presence.{Presence, Absent, Present, all_present}
use Rattle.task_types.specs.Places.{IsOneOf}
use Rattle.task_plans.specs.Plans.{given_shape}
use Rattle.task_types.specs.declared.outcome.Place.TheVariants.{Null}
use Rattle.quad_matrix.specs.declared.chunk.MatChunk.{MatChunk}
use Rattle.quad_matrix.specs.Goals.{kind_of, FitsAt}
use Rattle.quad_matrix.specs.Plans.{shapes_of}
use Rattle.quad_matrix.specs.Products.{Turned, Neither, First, Second, product_what}
use Rattle.matrix_tasks.proofs.Joins.{shapes_open}

-- what holds of two trees holds of the trees of a product
pub of_two : (b h : ℕ) (turned : Turned) (P : List (Tree MatChunk) → Type 0) → ((x y : Tree MatChunk) → P (x ∷ y ∷ [])) → (trees : List (Tree MatChunk)) → FitsAt b (product_what turned) h trees → P trees
of_two b h Neither P two [] fits = absurd fits
of_two b h Neither P two (x ∷ []) fits = absurd fits
of_two b h Neither P two (x ∷ y ∷ []) fits = two x y
of_two b h Neither P two (x ∷ y ∷ z ∷ trees) fits = absurd fits
of_two b h First P two [] fits = absurd fits
of_two b h First P two (x ∷ []) fits = absurd fits
of_two b h First P two (x ∷ y ∷ []) fits = two x y
of_two b h First P two (x ∷ y ∷ z ∷ trees) fits = absurd fits
of_two b h Second P two [] fits = absurd fits
of_two b h Second P two (x ∷ []) fits = absurd fits
of_two b h Second P two (x ∷ y ∷ []) fits = two x y
of_two b h Second P two (x ∷ y ∷ z ∷ trees) fits = absurd fits

-- a product with a null factor may be null
pub null_open : (turned : Turned) (h : ℕ) (p q : Presence) → h ≤ 16 → all_present (p ∷ q ∷ []) ≡ false → IsOneOf (given_shape Null) (shapes_of (kind_of (product_what turned) h) (p ∷ q ∷ []))
null_open turned h (Present a b c d) (Present e f g i) low null = absurd (false≢true (sym null))
null_open Neither h Absent q low null = subst (IsOneOf (given_shape Null)) (sym (shapes_open (product_what Neither) h (Absent ∷ q ∷ []) refl (le-leb h 16 low))) (inl refl)
null_open Neither h (Present a b c d) Absent low null = subst (IsOneOf (given_shape Null)) (sym (shapes_open (product_what Neither) h (Present a b c d ∷ Absent ∷ []) refl (le-leb h 16 low))) (inl refl)
null_open First h Absent q low null = subst (IsOneOf (given_shape Null)) (sym (shapes_open (product_what First) h (Absent ∷ q ∷ []) refl (le-leb h 16 low))) (inl refl)
null_open First h (Present a b c d) Absent low null = subst (IsOneOf (given_shape Null)) (sym (shapes_open (product_what First) h (Present a b c d ∷ Absent ∷ []) refl (le-leb h 16 low))) (inl refl)
null_open Second h Absent q low null = subst (IsOneOf (given_shape Null)) (sym (shapes_open (product_what Second) h (Absent ∷ q ∷ []) refl (le-leb h 16 low))) (inl refl)
null_open Second h (Present a b c d) Absent low null = subst (IsOneOf (given_shape Null)) (sym (shapes_open (product_what Second) h (Present a b c d ∷ Absent ∷ []) refl (le-leb h 16 low))) (inl refl)
