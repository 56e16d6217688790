-- What the parts of a plan and its ending must give: each part a place that reads as a wanted tree, and the ending the goal.
use Rattle.std.specs.Prelude.{◌≡◌, ℕ, ◌-◌, ◌<◌, ◌≤◌, Bool, true, false, Option, None, Some, List, [], ◌∷◌, length, map}
use Rattle.std.specs.List.{AllByRecursion}
use Rattle.std.specs.Option.{is_some}
use Rattle.task_types.specs.Tree.{Tree, Nothing, Root, tree_at, child, is_there}
use Rattle.task_types.specs.Presence.{Presence, presence_of, has_child}
use Rattle.task_types.specs.Places.{places_of, filled, IsOneOf}
use Rattle.task_types.specs.Reading.{reading}
use Rattle.task_types.specs.Meanings.{Meanings}
use Rattle.task_plans.specs.declared.plan.Term.{Term}
use Rattle.task_plans.specs.declared.plan.Part.{Part}
use Rattle.task_plans.specs.declared.plan.Part.TheVariants.{Portion, Itself, Alone, Either, Pair}
use Rattle.task_plans.specs.declared.plan.Ending.{Ending}
use Rattle.task_plans.specs.declared.plan.Ending.TheVariants.{Joined, Single}
use Rattle.task_plans.specs.declared.portions.Portions.{Portions}
use Rattle.task_plans.specs.Portions.{portion_in, without}
use Rattle.task_plans.specs.Plans.{Plan, is_ready, planned_shape}

-- a content over no children, as a tree
abbrev pub alone_tree : {C : Type 0} → C → Tree C
alone_tree content = Root content Nothing Nothing Nothing Nothing

-- a kind may be asked on these trees: its goal is defined, and its rank is lower
pub record MayAsk {C K : Type 0} (lib : Meanings C K) (rank : ℕ) (kind : K) (trees : List (Tree C)) : Type 0 where
  pub defined : lib.defined kind trees
  pub lower : lib.rank kind < rank

-- a task on these trees gives the wanted tree
pub record TaskGives {C K : Type 0} (lib : Meanings C K) (rank : ℕ) (kind : K) (trees : List (Tree C)) (wanted : Tree C) : Type 0 where
  pub may : MayAsk lib rank kind trees
  pub same : lib.goal kind trees ≡ wanted

-- a portion: its content has no children, and its task gives the tree; or it has no entry and nothing is wanted
abbrev pub PortionGives : {C K : Type 0} → (C → ℕ) → Meanings C K → ℕ → K → Option C → Tree C → Type 0
PortionGives arity lib rank kind None wanted = Nothing ≡ wanted
PortionGives arity lib rank kind (Some content) wanted =
    (arity content ≡ 0) × TaskGives lib rank kind (alone_tree content ∷ []) wanted

-- one task, where it is ready
abbrev pub AloneGives : {C K : Type 0} → Meanings C K → ℕ → K → List (Tree C) → Tree C → Bool → Type 0
AloneGives lib rank kind trees wanted false = Nothing ≡ wanted
AloneGives lib rank kind trees wanted true = TaskGives lib rank kind trees wanted

-- one of two children, or a task on both, where this tells which is there
abbrev pub EitherGives : {C K : Type 0} → Meanings C K → ℕ → K → Tree C → Tree C → Tree C → Bool → Bool → Type 0
EitherGives lib rank kind one other wanted false false = Nothing ≡ wanted
EitherGives lib rank kind one other wanted true false = one ≡ wanted
EitherGives lib rank kind one other wanted false true = other ≡ wanted
EitherGives lib rank kind one other wanted true true = TaskGives lib rank kind (one ∷ other ∷ []) wanted

-- one of two tasks, or the sum of both, where this tells which is ready
abbrev pub PairGives : {C K : Type 0} → Meanings C K → ℕ → K → List (Tree C) → K → List (Tree C) → K → Tree C → Bool → Bool → Type 0
PairGives lib rank one first other second sum wanted false false = Nothing ≡ wanted
PairGives lib rank one first other second sum wanted true false = TaskGives lib rank one first wanted
PairGives lib rank one first other second sum wanted false true = TaskGives lib rank other second wanted
PairGives lib rank one first other second sum wanted true true =
    MayAsk lib rank one first × MayAsk lib rank other second
    × TaskGives lib rank sum (lib.goal one first ∷ lib.goal other second ∷ []) wanted

-- the trees of the places of a term
abbrev pub term_trees : {C O : Type 0} → List (Tree C) → Term O → List (Tree C)
term_trees inputs term = map (reading inputs [] []) (places_of term.inputs)

-- nothing stands behind the places of a term
abbrev pub IsPlainTerm : {O : Type 0} → Term O → Type 0
IsPlainTerm term = term.inputs ≡ filled (places_of term.inputs)

-- a part gives the wanted tree
abbrev pub PartGives : {C O K : Type 0} → (C → ℕ) → Meanings C K → ℕ → (O → K) → List (Tree C) → Portions C → Part O → Tree C → Type 0
PartGives arity lib rank kinds inputs portions (Portion what q symmetric) wanted =
    PortionGives arity lib rank (kinds what) (portion_in portions q) wanted
PartGives arity lib rank kinds inputs portions (Itself i q) wanted = child (tree_at inputs i) q ≡ wanted
PartGives arity lib rank kinds inputs portions (Alone term) wanted =
    IsPlainTerm term × AloneGives lib rank (kinds term.what) (term_trees inputs term) wanted (is_ready (map presence_of inputs) term)
PartGives arity lib rank kinds inputs portions (Either what q) wanted =
    EitherGives lib rank (kinds what) (child (tree_at inputs 0) q) (child (tree_at inputs 1) q) wanted
    (is_there (child (tree_at inputs 0) q)) (is_there (child (tree_at inputs 1) q))
PartGives arity lib rank kinds inputs portions (Pair one other sum) wanted =
    IsPlainTerm one × IsPlainTerm other
    × PairGives lib rank (kinds one.what) (term_trees inputs one) (kinds other.what) (term_trees inputs other) (kinds sum) wanted
    (is_ready (map presence_of inputs) one) (is_ready (map presence_of inputs) other)

-- the portions that a part leaves
abbrev pub left_by : {C O : Type 0} → Portions C → Part O → Portions C
left_by portions (Portion what q symmetric) = without portions q
left_by portions (Itself i q) = portions
left_by portions (Alone term) = portions
left_by portions (Either what q) = portions
left_by portions (Pair one other sum) = portions

-- some parts give these trees, one each
abbrev pub PartsGive : {C O K : Type 0} → (C → ℕ) → Meanings C K → ℕ → (O → K) → List (Tree C) → Portions C → List (Part O) → List (Tree C) → Type 0
PartsGive arity lib rank kinds inputs portions [] [] = Unit {0}
PartsGive arity lib rank kinds inputs portions (part ∷ parts) (wanted ∷ trees) =
    PartGives arity lib rank kinds inputs portions part wanted
    × PartsGive arity lib rank kinds inputs (left_by portions part) parts trees
PartsGive arity lib rank kinds inputs portions parts trees = ⊥

-- The ending gives the goal of a kind on these inputs: a task on the trees of the parts does, and where all of them are nothing
-- the goal is nothing; or the one tree is the goal.
abbrev pub EndingGives : {C O K : Type 0} → Meanings C K → K → (O → K) → List (Tree C) → Ending O → List (Tree C) → Type 0
EndingGives {C} lib kind kinds inputs (Joined what) trees =
    TaskGives lib (lib.rank kind) (kinds what) trees (lib.goal kind inputs)
    × (AllByRecursion (λ (tree : Tree C). tree ≡ Nothing) trees → Nothing ≡ lib.goal kind inputs)
EndingGives lib kind kinds inputs Single trees = trees ≡ lib.goal kind inputs ∷ []

-- a part that takes a portion is chosen where the portion has an entry
abbrev pub IsChosen : {C O : Type 0} → Presence → Portions C → Part O → Type 0
IsChosen chosen portions (Portion what q symmetric) = has_child chosen q ≡ is_some (portion_in portions q)
IsChosen chosen portions (Itself i q) = Unit {0}
IsChosen chosen portions (Alone term) = Unit {0}
IsChosen chosen portions (Either what q) = Unit {0}
IsChosen chosen portions (Pair one other sum) = Unit {0}

-- so are some parts, one after another
abbrev pub AreChosen : {C O : Type 0} → Presence → Portions C → List (Part O) → Type 0
AreChosen chosen portions [] = Unit {0}
AreChosen chosen portions (part ∷ parts) = IsChosen chosen portions part × AreChosen chosen (left_by portions part) parts

-- What a library must show of a plan, for a kind of a height of at least 1 on these inputs, which are there, and these portions:
-- the parts give trees of which the ending makes the goal, and the shape is one of the kind's plan.
pub record PlanGives {C O K : Type 0} (arity : C → ℕ) (lib : Meanings C K) (kind_at : ℕ → O → K) (height : ℕ) (kind : K) (plan : Plan O)
    (portions : Portions C) (inputs : List (Tree C)) : Type 0 where
  pub few : length plan.parts ≤ 4
  pub trees : List (Tree C)
  pub parts : PartsGive arity lib (lib.rank kind) (kind_at (height - 1)) inputs portions plan.parts trees
  pub ending : EndingGives lib kind (kind_at height) inputs plan.ending trees
  pub chosen : Presence
  pub agree : AreChosen chosen portions plan.parts
  pub planned : IsOneOf (planned_shape kind_at height plan (map presence_of inputs) chosen) (lib.plan kind (map presence_of inputs))
