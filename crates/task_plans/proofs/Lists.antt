-- Lists: tests of each item, facts by number, and items one after another.
use Rattle.std.proofs.Common.{◌≡◌, ◌⊎◌, inl, inr, ℕ, zero, suc, ◌+◌, ◌<◌, Bool, true, false, ◌&&◌, Some, List, [], ◌∷◌, ◌++◌, length, slice_get, drop, refl, sym, ◌∙◌, subst, arith}
use Rattle.std.specs.List.{list_all, AllByRecursion}
use Rattle.std.proofs.lemmas.List.Folds.{list_all-append}
use Rattle.std.proofs.lemmas.List.{drop-append-le}
use Rattle.task_types.specs.Tree.{Tree, tree_at}
use Rattle.task_types.proofs.FormedTest.{both_left, both_right}

-- a test passes or fails
pub true_or_false : (b : Bool) → (b ≡ true) ⊎ (b ≡ false)
true_or_false true = inl refl
true_or_false false = inr refl

-- two tests that pass
pub both_pass : (a b : Bool) → a ≡ true → b ≡ true → (a && b) ≡ true
both_pass true b e f = f
both_pass false b e f = e

-- a weaker test passes where a stronger one does
pub list_all-weaker : {X : Type 0} (p q : X → Bool) (xs : List X) → ((x : X) → p x ≡ true → q x ≡ true)
    → list_all p xs ≡ true → list_all q xs ≡ true
list_all-weaker p q [] weaker e = refl
list_all-weaker p q (x ∷ xs) weaker e =
    both_pass (q x) (list_all q xs) (weaker x (both_left (p x) (list_all p xs) e)) (list_all-weaker p q xs weaker (both_right (p x) (list_all p xs) e))

-- a test of two lists, one after the other
pub list_all-both : {X : Type 0} (p : X → Bool) (xs ys : List X) → list_all p xs ≡ true → list_all p ys ≡ true
    → list_all p (xs ++ ys) ≡ true
list_all-both p xs ys e f = list_all-append p xs ys ∙ both_pass (list_all p xs) (list_all p ys) e f

pub list_all-first : {X : Type 0} (p : X → Bool) (xs ys : List X) → list_all p (xs ++ ys) ≡ true
    → list_all p xs ≡ true
list_all-first p xs ys e = both_left (list_all p xs) (list_all p ys) (sym (list_all-append p xs ys) ∙ e)

pub list_all-second : {X : Type 0} (p : X → Bool) (xs ys : List X) → list_all p (xs ++ ys) ≡ true
    → list_all p ys ≡ true
list_all-second p xs ys e = both_right (list_all p xs) (list_all p ys) (sym (list_all-append p xs ys) ∙ e)

-- what holds of each item of two lists
pub all-both : {X : Type 0} (P : X → Type 0) (xs ys : List X) → AllByRecursion P xs → AllByRecursion P ys
    → AllByRecursion P (xs ++ ys)
all-both P [] ys h k = k
all-both P (x ∷ xs) ys h k = (h.0, all-both P xs ys h.1 k)

-- what holds of each item with its number, and of one more item
pub facts_one_more : {X : Type 0} (P : ℕ → X → Type 0) (xs : List X) (y : X)
    → ((i : ℕ) (x : X) → slice_get xs i ≡ Some x → P i x) → P (length xs) y → (i : ℕ) (x : X)
    → slice_get (xs ++ y ∷ []) i ≡ Some x → P i x
facts_one_more P [] y each last zero x at = let same : y ≡ x = cc in subst (P 0) same last
facts_one_more P [] y each last (suc i) x at = cc
facts_one_more P (z ∷ xs) y each last zero x at = each 0 x at
facts_one_more P (z ∷ xs) y each last (suc i) x at =
    facts_one_more (λ k. P (suc k)) xs y (λ k x at. each (suc k) x at) last i x at

-- what is behind a place of a list, and of the list with one more item
pub drop-one_more : {X : Type 0} (xs : List X) (y : X) (i : ℕ) → i < length xs
    → drop (i + 1) (xs ++ y ∷ []) ≡ drop (i + 1) xs ++ y ∷ []
drop-one_more xs y i h = drop-append-le (i + 1) xs (y ∷ []) (omega arith)

-- lists whose fronts have one length
pub same_fronts : {X : Type 0} (xs us ys vs : List X) → length xs ≡ length us → xs ++ ys ≡ us ++ vs → xs ≡ us
same_fronts [] [] ys vs l e = refl
same_fronts [] (u ∷ us) ys vs l e = absurd (omega arith)
same_fronts (x ∷ xs) [] ys vs l e = absurd (omega arith)
same_fronts (x ∷ xs) (u ∷ us) ys vs l e =
    let first : x ≡ u = cc in
    let rest : xs ++ ys ≡ us ++ vs = cc in
    cc (first, same_fronts xs us ys vs (omega arith) rest)

pub same_backs : {X : Type 0} (xs us ys vs : List X) → length xs ≡ length us → xs ++ ys ≡ us ++ vs → ys ≡ vs
same_backs [] [] ys vs l e = e
same_backs [] (u ∷ us) ys vs l e = absurd (omega arith)
same_backs (x ∷ xs) [] ys vs l e = absurd (omega arith)
same_backs (x ∷ xs) (u ∷ us) ys vs l e = let rest : xs ++ ys ≡ us ++ vs = cc in same_backs xs us ys vs (omega arith) rest

-- the tree right after a list
pub tree_at-after : {C : Type 0} (trees : List (Tree C)) (tree : Tree C) (more : List (Tree C)) (n : ℕ)
    → n ≡ length trees → tree_at (trees ++ tree ∷ more) n ≡ tree
tree_at-after [] tree more zero e = refl
tree_at-after [] tree more (suc n) e = absurd (omega arith)
tree_at-after (first ∷ trees) tree more zero e = absurd (omega arith)
tree_at-after (first ∷ trees) tree more (suc n) e = tree_at-after trees tree more n (omega arith)

-- a tree of a list, with more behind the list
pub tree_at-before : {C : Type 0} (trees more : List (Tree C)) (n : ℕ) → n < length trees
    → tree_at (trees ++ more) n ≡ tree_at trees n
tree_at-before [] more n h = absurd (omega arith)
tree_at-before (first ∷ trees) more zero h = refl
tree_at-before (first ∷ trees) more (suc n) h = tree_at-before trees more n (omega arith)
