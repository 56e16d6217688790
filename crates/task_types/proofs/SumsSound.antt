-- The answers of the small library of sums are sound.
use Rattle.std.proofs.Common.{◌≡◌, ℕ, zero, suc, ◌+◌, ◌-◌, ◌<◌, ◌^◌, Bool, true, false, List, [], ◌∷◌, map, refl, sym, ap, ◌∙◌, subst, inl, inr, arith}
use Rattle.std.specs.Prelude.{◌==◌, if◌then◌else◌, IsTrue}
use Rattle.std.proofs.lemmas.Bool.{eqb-true}
use Rattle.task_types.specs.declared.outcome.Place.TheVariants.{Null, Chunk, Task}
use Rattle.task_types.specs.declared.inputs.Inputs.{Inputs}
use Rattle.task_types.specs.declared.sums.Term.{Term}
use Rattle.task_types.specs.declared.sums.Term.TheVariants.{Number, Sum}
use Rattle.task_types.specs.declared.sums.Aim.{Aim}
use Rattle.task_types.specs.declared.sums.Aim.TheVariants.{Total, Plus}
use Rattle.task_types.specs.declared.sums.SumKind.{SumKind}
use Rattle.task_types.specs.Tree.{Tree, Nothing, Root, is_there}
use Rattle.task_types.specs.Presence.{Present, presence_of, has_child, all_present}
use Rattle.task_types.specs.Shown.{view_of, Shows, presences_in}
use Rattle.task_types.specs.Places.{Shape, IsOneOf}
use Rattle.task_types.specs.Sound.{IsSound}
use Rattle.task_types.specs.Sums.{arity_of, kind_of, total, number_tree, IsNumber, HasHeight, sum_goal, sum_shapes, sum_meanings, given, number_chunk, number_outcome, halves_outcome, total_answer, number_in, sum_defined, total_task, plus_task, null_shape, number_shape}
use Rattle.task_types.proofs.FormedTest.{KeepsRules-from_test}
use Rattle.task_types.proofs.Shown.{mask_presence-mask, presences_in-shown, first-shown_one, first-shown_two, second-shown_two}

-- a number's tree has that total
pub total-number_tree : (n : ℕ) → total (number_tree n) ≡ n
total-number_tree n = at_test n (n == 0) refl
  where
    at_test : (n : ℕ) (b : Bool) → (n == 0) ≡ b
        → total (if b then Nothing else Root (Number n) Nothing Nothing Nothing Nothing) ≡ n
    at_test n true e = sym (eqb-true n 0 e)
    at_test n false e = refl

number_at : (kind : SumKind) (trees : List (Tree Term)) (n : ℕ) (b : Bool)
    → ((shape : Shape SumKind) → IsOneOf shape (null_shape ∷ number_shape ∷ []) → IsOneOf shape (sum_shapes kind.aim kind.height (map presence_of trees)))
    → sum_goal kind.aim trees ≡ (if b then Nothing else Root (Number n) Nothing Nothing Nothing Nothing)
    → IsSound arity_of sum_meanings kind trees (if b then given Null else number_chunk n)
number_at kind trees n true p e = record {
  formed = KeepsRules-from_test arity_of (map presence_of trees) [] [] Null refl;
  planned = p null_shape (inl refl);
  defined = tt;
  lower = tt;
  goal = sym e;
}
number_at kind trees n false p e = record {
  formed = KeepsRules-from_test arity_of (map presence_of trees) (number_chunk n).chunks [] (Chunk 0) refl;
  planned = p number_shape (inr (inl refl));
  defined = tt;
  lower = tt;
  goal = sym e;
}

-- a number, as a chunk or null, is sound where the goal is its tree and the plan has both shapes
pub number_sound : (kind : SumKind) (trees : List (Tree Term)) (n : ℕ)
    → ((shape : Shape SumKind) → IsOneOf shape (null_shape ∷ number_shape ∷ []) → IsOneOf shape (sum_shapes kind.aim kind.height (map presence_of trees)))
    → sum_goal kind.aim trees ≡ number_tree n
    → IsSound arity_of sum_meanings kind trees (number_outcome n)
number_sound kind trees n p e = number_at kind trees n (n == 0) p e

-- the totals of two children, and their sum, are sound
halves_sound : (height : ℕ) (a b c d : Tree Term) → HasHeight height a → HasHeight height b
    → total a + total b < 2 ^ 64
    → IsSound arity_of sum_meanings (kind_of Total (suc height)) (Root Sum a b c d ∷ []) (halves_outcome height (is_there a) (is_there b))
halves_sound height Nothing Nothing c d h k few = record {
  formed = KeepsRules-from_test arity_of (Present false false (is_there c) (is_there d) ∷ []) [] [] Null refl;
  planned = inl refl;
  defined = tt;
  lower = tt;
  goal = refl;
}
halves_sound height (Root e f g i j) Nothing c d h k few = let a : Tree Term = Root e f g i j in record {
  formed = KeepsRules-from_test arity_of (Present true false (is_there c) (is_there d) ∷ []) [] (total_task height 0 ∷ []) (Task 0) refl;
  planned = inl refl;
  defined = ((h, omega arith), tt);
  lower = (omega arith, tt);
  goal = ap number_tree (omega arith);
}
halves_sound height Nothing (Root e f g i j) c d h k few = let b : Tree Term = Root e f g i j in record {
  formed = KeepsRules-from_test arity_of (Present false true (is_there c) (is_there d) ∷ []) [] (total_task height 1 ∷ []) (Task 0) refl;
  planned = inl refl;
  defined = ((k, omega arith), tt);
  lower = (omega arith, tt);
  goal = ap number_tree (omega arith);
}
halves_sound height (Root e f g i j) (Root l m n o q) c d h k few =
    let a : Tree Term = Root e f g i j in
    let b : Tree Term = Root l m n o q in
    let ta = total-number_tree (total a) in
    let tb = total-number_tree (total b) in
    record {
      formed = KeepsRules-from_test arity_of (Present true true (is_there c) (is_there d) ∷ []) [] (total_task height 0 ∷ total_task height 1 ∷ plus_task ∷ []) (Task 2) refl;
      planned = inl refl;
      defined = ((h, omega arith), ((k, omega arith), ((refl, ap number_tree (sym ta), ap number_tree (sym tb), omega arith), tt)));
      lower = (omega arith, (omega arith, (omega arith, tt)));
      goal = ap number_tree (omega arith);
    }

-- a total of an input that is there is sound
pub total_sound : (height : ℕ) (tree : Tree Term) → HasHeight height tree → total tree < 2 ^ 64 → is_there tree ≡ true
    → IsSound arity_of sum_meanings (kind_of Total height) (tree ∷ []) (total_answer height (view_of tree))
total_sound height Nothing h few there = cc
total_sound zero (Root (Number n) a b c d) h few there =
    number_sound (kind_of Total 0) (Root (Number n) a b c d ∷ []) n (λ shape p. p) refl
total_sound zero (Root Sum a b c d) h few there = absurd h
total_sound (suc height) (Root (Number n) a b c d) h few there = absurd h
total_sound (suc height) (Root Sum a b c d) h few there =
    subst (λ p. IsSound arity_of sum_meanings (kind_of Total (suc height)) (Root Sum a b c d ∷ []) (halves_outcome (suc height - 1) (has_child p 0) (has_child p 1))) (sym (mask_presence-mask (is_there a) (is_there b) (is_there c) (is_there d)))
    (subst (λ n. IsSound arity_of sum_meanings (kind_of Total (suc height)) (Root Sum a b c d ∷ []) (halves_outcome n (is_there a) (is_there b))) (omega arith) (halves_sound height a b c d h.0 h.1 few))

-- where no input is null, the one input is there
one_there : (tree : Tree Term) → all_present (presence_of tree ∷ []) ≡ true → is_there tree ≡ true
one_there Nothing e = e
one_there (Root content a b c d) e = refl

-- what a total answers is sound, where its input is there
pub total_executes : (aim : Aim) (height : ℕ) (inputs : Inputs Term) → aim ≡ Total
    → IsTrue (all_present (presences_in inputs)) → (trees : List (Tree Term)) → Shows inputs trees
    → sum_defined aim height trees
    → IsSound arity_of sum_meanings (kind_of aim height) trees (total_answer height inputs.first)
total_executes Plus height inputs e p trees s d = cc
total_executes Total height inputs e p [] s d = absurd d
total_executes Total height inputs e p (tree ∷ []) s d =
    let there = one_there tree (subst (λ known. all_present known ≡ true) (presences_in-shown inputs (tree ∷ []) s) p) in
    subst (λ shown. IsSound arity_of sum_meanings (kind_of Total height) (tree ∷ []) (total_answer height shown)) (sym (first-shown_one inputs tree s)) (total_sound height tree d.0 d.1 there)
total_executes Total height inputs e p (one ∷ other ∷ trees) s d = absurd d

not_sum : (a b c d : Tree Term) (n : ℕ) (test : Bool)
    → Root Sum a b c d ≡ (if test then Nothing else Root (Number n) Nothing Nothing Nothing Nothing) → ⊥
not_sum a b c d n true e = cc
not_sum a b c d n false e = cc

-- the tree of a number shows it
shown_number : (tree : Tree Term) → IsNumber tree → number_in (view_of tree) ≡ total tree
shown_number Nothing e = refl
shown_number (Root (Number n) a b c d) e = refl
shown_number (Root Sum a b c d) e = absurd (not_sum a b c d (total a + total b) ((total a + total b) == 0) e)

-- where no input is null, a plus may have both shapes of a number
plus_shapes : (one other : Tree Term) (height : ℕ) → height ≡ 0
    → all_present (presence_of one ∷ presence_of other ∷ []) ≡ true
    → (shape : Shape SumKind) → IsOneOf shape (null_shape ∷ number_shape ∷ [])
    → IsOneOf shape (sum_shapes Plus height (presence_of one ∷ presence_of other ∷ []))
plus_shapes Nothing other height z e shape p = cc
plus_shapes (Root content a b c d) Nothing height z e shape p = cc
plus_shapes (Root content a b c d) (Root term f g h i) zero z e shape p = p
plus_shapes (Root content a b c d) (Root term f g h i) (suc height) z e shape p = absurd (omega arith)

-- what a plus answers is sound, where its inputs are there
pub plus_executes : (aim : Aim) (height : ℕ) (inputs : Inputs Term) → aim ≡ Plus
    → IsTrue (all_present (presences_in inputs)) → (trees : List (Tree Term)) → Shows inputs trees
    → sum_defined aim height trees
    → IsSound arity_of sum_meanings (kind_of aim height) trees (number_outcome (number_in inputs.first + number_in inputs.second))
plus_executes Total height inputs e p trees s d = cc
plus_executes Plus height inputs e p [] s d = absurd d
plus_executes Plus height inputs e p (one ∷ []) s d = absurd d
plus_executes Plus height inputs e p (one ∷ other ∷ []) s d =
    let first = ap number_in (first-shown_two inputs one other s) ∙ shown_number one d.1 in
    let second = ap number_in (second-shown_two inputs one other s) ∙ shown_number other d.2 in
    let present = subst (λ known. all_present known ≡ true) (presences_in-shown inputs (one ∷ other ∷ []) s) p in
    number_sound (kind_of Plus height) (one ∷ other ∷ []) (number_in inputs.first + number_in inputs.second) (plus_shapes one other height d.0 present) (ap number_tree (omega arith))
plus_executes Plus height inputs e p (one ∷ other ∷ third ∷ trees) s d = absurd d
