-- What the parts of the check of names answer.
use Rattle.std.specs.Prelude.{◌≡◌, ℕ, Bool, true, false, ◌||◌, not, is_none, List, [], ◌∷◌, ◌++◌, map, Option, None, Some, option_map, Result, Ok, Err}
use Rattle.std.specs.BTreeMap as tree
use Rattle.std.specs.Cmp.Lexicographic.{slice_cmp}
use Rattle.std.specs.Ordering.{nat_cmp}
use Rattle.std.specs.Borrow.{Bor}
use Rattle.mm_text.specs.Faults.{first_code}
use Rattle.cht_script.specs.declared.checked.ScriptRefused.{ScriptRefused}
use Rattle.cht_script.specs.declared.checked.ScriptRefused.TheVariants as refusals
use Rattle.cht_script.specs.declared.checked.Shape.{Shape}
use Rattle.cht_script.specs.declared.checked.Shapes.{Shapes}
use Rattle.cht_script.specs.declared.checked.Step.{Step}
use Rattle.cht_script.specs.declared.names.Kept.{Kept}
use Rattle.cht_script.specs.declared.names.KnownNames.{KnownNames}
use Rattle.cht_script.specs.declared.script.Begun.{Begun}
use Rattle.cht_script.specs.declared.script.Statement as statement
use Rattle.cht_script.specs.declared.script.Statement.TheVariants as statements
use Rattle.cht_script.specs.declared.script.Verb.{Verb}
use Rattle.cht_script.specs.declared.script.Verb.TheVariants.{Copy, Add, Mul, TMul, MulT, Square, Full, Trace, Count, Print, Delete}
use Rattle.cht_script.specs.Newest.{newest}
use Rattle.cht_script.specs.Statements.{Said, new_names, names_after, general, shapes_fit, forms_fit}
use Rattle.cht_script.specs.Verdict.{NamedShape, with_shape, has_name, is_known, bound_said, is_among, name_rules}
use Rattle.cht_script.specs.Meaning.{Deed}
use Rattle.cht_script.specs.Reading.{shapes_of, deed_of, RepeatFirstShape}
use Rattle.cht_script.specs.Parsing.{begun_told}
use Rattle.cht_script.specs.Checking.{said_by, shape_listed, known_behind, deleted_behind, name_fault, names_fault, deeds_begun, shapes_said}

-- ---- Names as they are kept

-- what is kept of a name
abbrev pub look : List ℕ → KnownNames → Option Kept
look name names = tree.get_by (λ (key : Bor (List ℕ)). slice_cmp nat_cmp name key.now) names.kept

-- what is to be kept of a name that is bound so, where these were deleted
abbrev pub kept_as : List (List ℕ) → List ℕ → NamedShape → Kept
kept_as deleted name one = record { shape = one.shape; is_deleted = is_among deleted name }

-- what is to be kept of a name, where these were bound and these deleted
abbrev pub kept_of : List NamedShape → List (List ℕ) → List ℕ → Option Kept
kept_of known deleted name = option_map (kept_as deleted name) (newest (has_name name) known)

-- the names that were bound are kept so, and those that were deleted are among them
pub record Keeps (known : List NamedShape) (deleted : List (List ℕ)) (names : KnownNames) : Type 0 where
  pub kept : (name : List ℕ) → look name names ≡ kept_of known deleted name
  pub bound : (name : List ℕ) → is_among deleted name ≡ true → is_known known name ≡ true

-- ---- One statement

-- the shape of what is kept, and that of no matrix where nothing is
abbrev pub shape_kept : Option Kept → Shape
shape_kept None = general 0 0
shape_kept (Some kept) = kept.shape

-- whether what is kept was deleted
abbrev pub was_deleted : Option Kept → Bool
was_deleted None = false
was_deleted (Some kept) = kept.is_deleted

-- the rules on names, from what is kept of the inputs and from whether the new name was bound
abbrev pub input_rules : Verb → Option Kept → Option Kept → Bool → List (ℕ × Bool)
input_rules verb a b taken =
    (14, is_none a || is_none b)
    ∷ (15, was_deleted a || was_deleted b)
    ∷ (16, taken)
    ∷ (17, not (shapes_fit verb (shape_kept a) (shape_kept b)))
    ∷ (18, not (forms_fit verb (shape_kept a) (shape_kept b)))
    ∷ []

-- the inputs break no rule and have these shapes, or the first rule that they break has this code
abbrev pub JudgesInputs : Verb → Option Kept → Option Kept → Bool → Result (Shape × Shape) ℕ → Type 0
JudgesInputs verb a b taken (Ok shapes) = (first_code (input_rules verb a b taken) ≡ None) × (shapes.0 ≡ shape_kept a) × (shapes.1 ≡ shape_kept b)
JudgesInputs verb a b taken (Err code) = first_code (input_rules verb a b taken) ≡ Some code

-- what a statement says breaks no rule on names, and these are the shapes of its names
pub record IsShapedAs (known : List NamedShape) (deleted : List (List ℕ)) (listed : Shape) (said : Said) (shapes : Shapes) : Type 0 where
  pub clean : first_code (name_rules known deleted said) ≡ None
  pub listed_as : shapes_of shapes ≡ shapes_said listed known said
  pub repeated : RepeatFirstShape shapes
  pub binds : bound_said listed known said ≡ map (with_shape shapes.first) (new_names said)

-- so it is, or the first rule that it breaks has this code
abbrev pub JudgesSaid : List NamedShape → List (List ℕ) → Shape → Said → Result Shapes ℕ → Type 0
JudgesSaid known deleted listed said (Ok shapes) = IsShapedAs known deleted listed said shapes
JudgesSaid known deleted listed said (Err code) = first_code (name_rules known deleted said) ≡ Some code

-- the same for a statement, behind any names that are kept so
abbrev pub Judges : KnownNames → Deed → Result Shapes ℕ → Type 0
Judges names deed answer =
    (known : List NamedShape) (deleted : List (List ℕ)) → Keeps known deleted names → JudgesSaid known deleted (shape_listed deed) (said_by deed) answer

-- the names are kept as they are behind a statement with these shapes
abbrev pub Notes : KnownNames → KnownNames → Deed → Shapes → Type 0
Notes old new deed shapes =
    (known : List NamedShape) (deleted : List (List ℕ)) → Keeps known deleted old → IsShapedAs known deleted (shape_listed deed) (said_by deed) shapes
    → Keeps (known_behind known deed) (deleted_behind deleted deed) new

-- whether a statement with a verb deletes its name
abbrev pub deletes : Verb → Bool
deletes Copy = false
deletes Add = false
deletes Mul = false
deletes TMul = false
deletes MulT = false
deletes Square = false
deletes Full = false
deletes Trace = false
deletes Count = false
deletes Print = false
deletes Delete = true

-- a statement with a verb has as many names as belong to it
abbrev pub HasItsNames : statement.Statement → Type 0
HasItsNames (statements.Market line to market) = Unit {0}
HasItsNames (statements.Act line verb names) = names.count ≡ names_after verb

-- what judging a statement and keeping its names gives, where these were bound and these deleted
abbrev pub Goes : List NamedShape → List (List ℕ) → Deed → KnownNames → Result Shapes ScriptRefused → Type 0
Goes known deleted deed new (Ok shapes) =
    IsShapedAs known deleted (shape_listed deed) (said_by deed) shapes × Keeps (known_behind known deed) (deleted_behind deleted deed) new
Goes known deleted deed new (Err (refusals.Fault fault)) = name_fault known deleted deed ≡ Some fault
Goes known deleted deed new (Err refusals.Memory) = Unit {0}

-- ---- All statements

-- each statement has its names
abbrev pub HaveTheirNames : List statement.Statement → Type 0
HaveTheirNames [] = Unit {0}
HaveTheirNames (one ∷ others) = HasItsNames one × HaveTheirNames others

-- these statements break no rule on names, and these are the shapes of their names
abbrev pub AreShapedAs : List NamedShape → List (List ℕ) → List statement.Statement → List Shapes → Type 0
AreShapedAs known deleted [] [] = Unit {0}
AreShapedAs known deleted [] (shapes ∷ more) = ⊥
AreShapedAs known deleted (one ∷ others) [] = ⊥
AreShapedAs known deleted (one ∷ others) (shapes ∷ more) =
    IsShapedAs known deleted (shape_listed (deed_of one)) (said_by (deed_of one)) shapes
    × AreShapedAs (known_behind known (deed_of one)) (deleted_behind deleted (deed_of one)) others more

-- Of these statements those before the ones that are left break no rule on names; the names that they bind and delete are kept,
-- and these are their shapes.
pub record AreJudgedTo (all : List statement.Statement) (shapes : List Shapes) (names : KnownNames) (left : List statement.Statement) : Type 0 where
  pub known : List NamedShape
  pub deleted : List (List ℕ)
  pub keeps : Keeps known deleted names
  pub shaped : (more : List Shapes) → AreShapedAs known deleted left more → AreShapedAs [] [] all (shapes ++ more)
  pub same : (last : List Deed) → names_fault [] [] (map deed_of all ++ last) ≡ names_fault known deleted (map deed_of left ++ last)
  pub counted : HaveTheirNames left

-- the statements that are judged: these, and the line `market NAME` behind them
abbrev pub with_begun : List statement.Statement → Option Begun → List Deed
with_begun said begun = map deed_of said ++ deeds_begun (option_map begun_told begun)

-- the shapes of the names of all statements, or the first fault of their names
abbrev pub JudgesAll : List statement.Statement → Option Begun → Result (List Shapes) ScriptRefused → Type 0
JudgesAll said begun (Ok shapes) = (names_fault [] [] (with_begun said begun) ≡ None) × AreShapedAs [] [] said shapes
JudgesAll said begun (Err (refusals.Fault fault)) = names_fault [] [] (with_begun said begun) ≡ Some fault
JudgesAll said begun (Err refusals.Memory) = Unit {0}

-- a statement with its shapes
abbrev pub step_of : statement.Statement → Shapes → Step
step_of one shapes = record { statement = one; shapes = shapes }

-- statements, each with its shapes, as far as both are there
abbrev pub steps_of : List statement.Statement → List Shapes → List Step
steps_of said [] = []
steps_of [] (shapes ∷ more) = []
steps_of (one ∷ others) (shapes ∷ more) = step_of one shapes ∷ steps_of others more
