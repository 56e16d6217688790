-- What is known of the statements of a script: the first fault of their names, and what holds where there is none.
use Rattle.std.specs.Prelude.{◌≡◌, ℕ, ◌^◌, ◌≤◌, Bool, true, false, ◌&&◌, List, [], ◌∷◌, ◌++◌, length, map, Option, None, Some, option_map, Result, Ok, Err}
use Rattle.std.specs.List.{list_all, list_any}
use Rattle.dense_def.specs.Matrix.{height, zeros}
use Rattle.mm_text.specs.declared.market.Form.TheVariants.{General}
use Rattle.mm_text.specs.Faults.{first_code, or_else}
use Rattle.cht_script.specs.declared.checked.Checked.{Checked}
use Rattle.cht_script.specs.declared.checked.ScriptRefused.{ScriptRefused}
use Rattle.cht_script.specs.declared.checked.ScriptRefused.TheVariants as refusals
use Rattle.cht_script.specs.declared.checked.Shape.{Shape}
use Rattle.cht_script.specs.declared.checked.Step.{Step}
use Rattle.cht_script.specs.declared.script.Fault.{Fault}
use Rattle.cht_script.specs.declared.script.Script.{Script}
use Rattle.cht_script.specs.Statements.{Said, Market, Act, new_names, input_names, general, shapes_fit, forms_fit}
use Rattle.cht_script.specs.Items.{fault_at, Heading, heading_of}
use Rattle.cht_script.specs.Verdict.{NamedShape, is_known, shape_in, first_shape, second_shape, shape_said, bound_said, deleted_said, is_among, name_rules, verdict}
use Rattle.cht_script.specs.Meaning.{Deed, Lists, Acts, deeds_of, line_of}
use Rattle.cht_script.specs.Limits.{AreLimits}
use Rattle.cht_script.specs.Reading.{shapes_of, deed_of, IsFormed, RepeatFirstShape, IsLeastHeight}
use Rattle.cht_script.specs.Parsing.{begun_told, IsParsed}

-- ---- What a statement does to names

-- what a statement says
abbrev pub said_by : Deed → Said
said_by (Lists n name form m) = Market (name ∷ [])
said_by (Acts n verb names) = Act verb names

-- the shape of the matrix that it lists, and that of no matrix where it lists none
abbrev pub shape_listed : Deed → Shape
shape_listed (Lists n name form m) = record { rows = height m; columns = m.columns; form = form }
shape_listed (Acts n verb names) = general 0 0

-- the names that it binds, with their shapes
abbrev pub bound_by_deed : List NamedShape → Deed → List NamedShape
bound_by_deed known deed = bound_said (shape_listed deed) known (said_by deed)

-- the names that are bound after it
abbrev pub known_behind : List NamedShape → Deed → List NamedShape
known_behind known deed = known ++ bound_by_deed known deed

-- the names that are deleted after it
abbrev pub deleted_behind : List (List ℕ) → Deed → List (List ℕ)
deleted_behind deleted deed = deleted ++ deleted_said (said_by deed)

-- ---- The rules on names

-- the fault of a statement by the rules on names, where these were bound and these deleted before it
abbrev pub name_fault : List NamedShape → List (List ℕ) → Deed → Option Fault
name_fault known deleted deed = option_map (fault_at (line_of deed)) (first_code (name_rules known deleted (said_by deed)))

-- the fault of the first of these statements that has one
abbrev pub names_fault : List NamedShape → List (List ℕ) → List Deed → Option Fault
names_fault known deleted [] = None
names_fault known deleted (deed ∷ deeds) =
    or_else (name_fault known deleted deed) (names_fault (known_behind known deed) (deleted_behind deleted deed) deeds)

-- ---- The fault of a script

-- a line `market NAME`, with its number and the name, whose block is not there: a statement that lists a matrix without rows and
-- columns
abbrev pub deeds_begun : Option (ℕ × List ℕ) → List Deed
deeds_begun None = []
deeds_begun (Some begun) = Lists begun.0 begun.1 General (zeros 0 0) ∷ []

-- the statements whose names are judged: those that were read, and the line `market NAME` behind them in whose block the reading
-- stopped
abbrev pub deeds_judged : Script → List Deed
deeds_judged script = map deed_of script.statements ++ deeds_begun (option_map begun_told script.begun)

-- the fault of the first statement whose names break a rule, and else the one at which the reading stopped
abbrev pub fault_of : Script → Option Fault
fault_of script = or_else (names_fault [] [] (deeds_judged script)) script.stop

-- the answer for a script, by what was read alone
abbrev pub IsFaultOf : Script → Result Checked ScriptRefused → Type 0
IsFaultOf script (Ok checked) = fault_of script ≡ None
IsFaultOf script (Err (refusals.Fault fault)) = fault_of script ≡ Some fault
IsFaultOf script (Err refusals.Memory) = Unit {0}

-- ---- Statements without a fault

-- whether the shapes and forms of its inputs fit what a statement says
abbrev pub inputs_fit : List NamedShape → Said → Bool
inputs_fit known (Market names) = true
inputs_fit known (Act verb names) =
    shapes_fit verb (first_shape known (input_names (Act verb names))) (second_shape known (input_names (Act verb names)))
    && forms_fit verb (first_shape known (input_names (Act verb names))) (second_shape known (input_names (Act verb names)))

-- where these names were bound and these deleted before it, what a statement says has inputs that are bound and not deleted, and
-- a new name that was never bound, and the shapes and forms of its inputs fit
pub record IsSound (known : List NamedShape) (deleted : List (List ℕ)) (said : Said) : Type 0 where
  pub bound : list_all (is_known known) (input_names said) ≡ true
  pub left : list_any (is_among deleted) (input_names said) ≡ false
  pub fresh : list_any (is_known known) (new_names said) ≡ false
  pub fit : inputs_fit known said ≡ true

-- the shapes of all names of what a statement says, in their order: the one that it binds, and those that were bound before it
abbrev pub shapes_said : Shape → List NamedShape → Said → List Shape
shapes_said listed known said = map (λ name. shape_said listed known said) (new_names said) ++ map (shape_in known) (input_names said)

-- what is known of a step, where these names were bound and these deleted before it
pub record IsStep (grid : ℕ) (known : List NamedShape) (deleted : List (List ℕ)) (step : Step) : Type 0 where
  pub formed : IsFormed grid step.statement
  pub sound : IsSound known deleted (said_by (deed_of step.statement))
  pub shapes : shapes_of step.shapes ≡ shapes_said (shape_listed (deed_of step.statement)) known (said_by (deed_of step.statement))
  pub repeated : RepeatFirstShape step.shapes

-- what is known of steps, where these names were bound and these deleted before them
abbrev pub AreSteps : ℕ → List NamedShape → List (List ℕ) → List Step → Type 0
AreSteps grid known deleted [] = Unit {0}
AreSteps grid known deleted (step ∷ others) =
    IsStep grid known deleted step
    × AreSteps grid (known_behind known (deed_of step.statement)) (deleted_behind deleted (deed_of step.statement)) others

-- the statement of a step
abbrev pub deed_in : Step → Deed
deed_in step = deed_of step.statement

-- The text has no fault, and these are its statements, with the shapes of their names.
pub record IsChecked (text : List ℕ) (checked : Checked) : Type 0 where
  pub clean : verdict text ≡ None
  pub heading : Heading
  pub found : heading_of text ≡ Ok heading
  pub grid : checked.grid ≡ heading.grid
  pub leaf : checked.leaf ≡ heading.leaf
  pub within : AreLimits (checked.grid, checked.leaf)
  pub levels : IsLeastHeight checked.grid checked.leaf checked.height
  pub deeds : map deed_in checked.steps ≡ deeds_of text
  pub steps : AreSteps checked.grid [] [] checked.steps
  pub few : length checked.steps ≤ 2 ^ 26

-- the answer for a text: its verdict, or its statements where it has no fault
abbrev pub IsJudged : List ℕ → Result Checked ScriptRefused → Type 0
IsJudged text (Ok checked) = IsChecked text checked
IsJudged text (Err (refusals.Fault fault)) = verdict text ≡ Some fault
IsJudged text (Err refusals.Memory) = Unit {0}

-- the answer for the text of which the script was read, whichever that is
abbrev pub IsJudgedAsRead : Script → Result Checked ScriptRefused → Type 0
IsJudgedAsRead script answer = (text : List ℕ) → IsParsed text script → IsJudged text answer
