-- The laws that the small library of sums keeps.
use Rattle.std.specs.Prelude.{◌≡◌, ℕ, zero, suc, ◌+◌, ◌≤◌, Bool, false, ◌==◌, List, [], ◌∷◌, length, map, sum_by, refl}
use Rattle.std.proofs.lemmas.Bool.{false≢true}
use Rattle.std.proofs.Common.{sym, ap, ◌∙◌, lit≤, inl, inr}
use Rattle.task_types.specs.declared.sums.Term.{Term}
use Rattle.task_types.specs.declared.sums.Term.TheVariants.{Number, Sum}
use Rattle.task_types.specs.declared.sums.Aim.{Aim}
use Rattle.task_types.specs.declared.sums.Aim.TheVariants.{Total, Plus}
use Rattle.task_types.specs.declared.sums.SumKind.{SumKind}
use Rattle.task_types.specs.Names.{IsName}
use Rattle.task_types.specs.declared.outcome.Place.TheVariants.{Input}
use Rattle.task_types.specs.Tree.{Tree, Nothing, Root, is_there}
use Rattle.task_types.specs.Presence.{presence_of}
use Rattle.task_types.specs.Places.{Shape, shape_of, IsOneOf}
use Rattle.task_types.specs.Reading.{Call, call_of, in_order, new_trees}
use Rattle.task_types.specs.Sound.{HasFewInputs, AddsUp}
use Rattle.task_types.specs.Sums.{arity_of, aim_name, kind_of, sum_defined, sum_goal, sum_work, sum_shapes, sum_meanings, total_work, given, halves_outcome, null_shape, number_shape}

-- no term has more than two children
pub few_children_of : (term : Term) → arity_of term ≤ 4
few_children_of (Number n) = lit≤ tt
few_children_of Sum = lit≤ tt

-- the names are names
pub names_named : (aim : Aim) → IsName (aim_name aim)
names_named Total = (lit≤ tt, lit≤ tt, refl)
names_named Plus = (lit≤ tt, lit≤ tt, refl)

-- whether a text begins with the byte 116, `t`
abbrev begins_with_t : List ℕ → Bool
begins_with_t [] = false
begins_with_t (byte ∷ bytes) = byte == 116

-- what has one name is one
names_differ : (one other : Aim) → aim_name one ≡ aim_name other → one ≡ other
names_differ Total Total e = refl
names_differ Plus Plus e = refl
names_differ Total Plus e = absurd (false≢true (sym (ap begins_with_t e)))
names_differ Plus Total e = absurd (false≢true (ap begins_with_t e))

-- kinds of one name and one height are one
pub kinds_differ : (one other : SumKind) → aim_name one.aim ≡ aim_name other.aim → one.height ≡ other.height
    → one ≡ other
kinds_differ one other e h =
    ap (λ aim. kind_of aim one.height) (names_differ one.aim other.aim e) ∙ ap (kind_of other.aim) h

-- goals are defined for at most two inputs
few_trees : (aim : Aim) (height : ℕ) (trees : List (Tree Term)) → sum_defined aim height trees → length trees ≤ 4
few_trees Total height (tree ∷ []) d = lit≤ tt
few_trees Plus height (one ∷ other ∷ []) d = lit≤ tt
few_trees Total height [] d = absurd d
few_trees Total height (one ∷ other ∷ trees) d = absurd d
few_trees Plus height [] d = absurd d
few_trees Plus height (one ∷ []) d = absurd d
few_trees Plus height (one ∷ other ∷ third ∷ trees) d = absurd d

-- so each kind has few inputs
pub few_terms : HasFewInputs sum_meanings
few_terms = λ kind trees d. few_trees kind.aim kind.height trees d

-- the works of the new tasks of a shape, on the trees of inputs and of new chunks
abbrev works_of : List (Tree Term) → List (Tree Term) → Shape SumKind → ℕ
works_of trees chunks shape =
    1 + sum_by (λ (call : Call Term SumKind). sum_work call.kind.aim call.kind.height call.inputs) (in_order (call_of (λ kind inputs. sum_goal kind.aim inputs) trees chunks) [] shape.tasks)

-- a work that adds up for a shape adds up for one that equals it
works_of_shape : (trees chunks : List (Tree Term)) (work : ℕ) (shape other : Shape SumKind)
    → work ≡ works_of trees chunks other → shape ≡ other → work ≡ works_of trees chunks shape
works_of_shape trees chunks work shape other w e = w ∙ ap (works_of trees chunks) (sym e)

-- the work of a total adds up
halves_works : (content : Term) (a b c d : Tree Term) (height : ℕ) (chunks : List (Tree Term))
    → total_work (suc height) (Root content a b c d) ≡ works_of (Root content a b c d ∷ []) chunks (shape_of (halves_outcome height (is_there a) (is_there b)))
halves_works content Nothing Nothing c d height chunks = refl
halves_works content (Root e f g h i) Nothing c d height chunks = refl
halves_works content Nothing (Root e f g h i) c d height chunks = refl
halves_works content (Root e f g h i) (Root j k l m n) c d height chunks = refl

-- a plus has no new tasks
plus_works : (one other : Tree Term) (chunks : List (Tree Term)) (shape : Shape SumKind)
    → IsOneOf shape (sum_shapes Plus 0 (presence_of one ∷ presence_of other ∷ []))
    → 1 ≡ works_of (one ∷ other ∷ []) chunks shape
plus_works Nothing Nothing chunks shape (inl e) =
    works_of_shape (Nothing ∷ Nothing ∷ []) chunks 1 shape null_shape refl e
plus_works Nothing Nothing chunks shape (inr e) = absurd e
plus_works Nothing (Root content f g h i) chunks shape (inl e) =
    works_of_shape (Nothing ∷ Root content f g h i ∷ []) chunks 1 shape (shape_of (given (Input 1))) refl e
plus_works Nothing (Root content f g h i) chunks shape (inr e) = absurd e
plus_works (Root content f g h i) Nothing chunks shape (inl e) =
    works_of_shape (Root content f g h i ∷ Nothing ∷ []) chunks 1 shape (shape_of (given (Input 0))) refl e
plus_works (Root content f g h i) Nothing chunks shape (inr e) = absurd e
plus_works (Root content f g h i) (Root term j k l m) chunks shape (inl e) =
    works_of_shape (Root content f g h i ∷ Root term j k l m ∷ []) chunks 1 shape null_shape refl e
plus_works (Root content f g h i) (Root term j k l m) chunks shape (inr (inl e)) =
    works_of_shape (Root content f g h i ∷ Root term j k l m ∷ []) chunks 1 shape number_shape refl e
plus_works (Root content f g h i) (Root term j k l m) chunks shape (inr (inr e)) = absurd e

-- a kind's work is one more than those of the new tasks, for each shape of the plan
works_at : (aim : Aim) (height : ℕ) (trees chunks : List (Tree Term)) (shape : Shape SumKind)
    → sum_defined aim height trees → IsOneOf shape (sum_shapes aim height (map presence_of trees))
    → sum_work aim height trees ≡ works_of trees chunks shape
works_at Total height (Nothing ∷ []) chunks shape d (inl e) =
    works_of_shape (Nothing ∷ []) chunks 1 shape null_shape refl e
works_at Total height (Nothing ∷ []) chunks shape d (inr e) = absurd e
works_at Total zero (Root content f g h i ∷ []) chunks shape d (inl e) =
    works_of_shape (Root content f g h i ∷ []) chunks 1 shape null_shape refl e
works_at Total zero (Root content f g h i ∷ []) chunks shape d (inr (inl e)) =
    works_of_shape (Root content f g h i ∷ []) chunks 1 shape number_shape refl e
works_at Total zero (Root content f g h i ∷ []) chunks shape d (inr (inr e)) = absurd e
works_at Total (suc height) (Root content f g h i ∷ []) chunks shape d (inl e) =
    works_of_shape (Root content f g h i ∷ []) chunks (total_work (suc height) (Root content f g h i)) shape (shape_of (halves_outcome height (is_there f) (is_there g))) (halves_works content f g h i height chunks) e
works_at Total (suc height) (Root content f g h i ∷ []) chunks shape d (inr e) = absurd e
works_at Total height [] chunks shape d e = absurd d
works_at Total height (one ∷ other ∷ trees) chunks shape d e = absurd d
works_at Plus zero (one ∷ other ∷ []) chunks shape d e = plus_works one other chunks shape e
works_at Plus (suc height) (one ∷ other ∷ []) chunks shape d e = absurd e
works_at Plus height [] chunks shape d e = absurd d
works_at Plus height (one ∷ []) chunks shape d e = absurd d
works_at Plus height (one ∷ other ∷ third ∷ trees) chunks shape d e = absurd d

-- a kind's work is one more than those of the new tasks
pub works_add_up : AddsUp arity_of sum_meanings
works_add_up =
    λ kind trees outcome d s. works_at kind.aim kind.height trees (new_trees trees outcome) (shape_of outcome) d s.planned
