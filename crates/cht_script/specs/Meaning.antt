-- What a script means: a fold over its statements, in dense integer matrices.
use Rattle.std.specs.Prelude.{ℕ, ◌+◌, ◌*◌, ◌^◌, Bool, true, false, not, nat_le, if◌then◌else◌, List, [], ◌∷◌, ◌++◌, length, map, Option, None, Some, Ok, Err, pos}
use Rattle.std.specs.List.{flat_map, filter}
use Rattle.std.specs.Str.{bytes_eq}
use Rattle.cht_ids.specs.Numeral.{number_text}
use Rattle.dense_def.specs.Matrix.{Matrix, height, zeros, plus, times, tmul_of, mult_of, trace_of, peak_of}
use Rattle.mm_text.specs.declared.market.Form.{Form}
use Rattle.mm_text.specs.declared.market.Form.TheVariants.{General}
use Rattle.mm_text.specs.Lines.{words_of}
use Rattle.mm_text.specs.Cells.{cells_listed}
use Rattle.mm_text.specs.Block as listing
use Rattle.mm_text.specs.Written.{matrix_text}
use Rattle.cht_script.specs.declared.script.Verb.{Verb}
use Rattle.cht_script.specs.declared.script.Verb.TheVariants.{Copy, Add, Mul, TMul, MulT, Square, Full, Trace, Count, Print, Delete}
use Rattle.cht_script.specs.Newest.{newest}
use Rattle.cht_script.specs.Statements.{Said, Market, Act, said_in, new_names, input_names}
use Rattle.cht_script.specs.Items.{Item, Line, Block, items_of}

-- ---- Statements

-- A statement, with its line: it lists a matrix in a form and binds a name to it, or a verb acts on names.
pub data Deed : Type 0 where
  Lists : ℕ → List ℕ → Form → Matrix → Deed
  Acts : ℕ → Verb → List (List ℕ) → Deed

-- the statement of what line n says; one that says `market` lists a matrix without rows and columns, where it is no block
abbrev pub deeds_said : ℕ → Option Said → List Deed
deeds_said n None = []
deeds_said n (Some (Market names)) = map (λ name. Lists n name General (zeros 0 0)) names
deeds_said n (Some (Act verb names)) = Acts n verb names ∷ []

-- the statement of an item
abbrev pub deeds_in : Item → List Deed
deeds_in (Line n line) = deeds_said n (said_in (words_of line))
deeds_in (Block n name (Ok block)) = Lists n name block.form (listing.matrix_of block) ∷ []
deeds_in (Block n name (Err fault)) = []

-- the statements of a text
abbrev pub deeds_of : List ℕ → List Deed
deeds_of text = flat_map deeds_in (items_of text)

-- the line of a statement
abbrev pub line_of : Deed → ℕ
line_of (Lists n name form m) = n
line_of (Acts n verb names) = n

-- ---- The environment

-- a name with its form and its matrix
pub record Known : Type 0 where
  pub name : List ℕ
  pub form : Form
  pub matrix : Matrix

-- whether a name is this one
abbrev pub is_named : List ℕ → Known → Bool
is_named name one = bytes_eq one.name name

-- the matrix of what was found; one without rows and columns where nothing was
abbrev pub matrix_found : Option Known → Matrix
matrix_found None = zeros 0 0
matrix_found (Some one) = one.matrix

-- the form of what was found
abbrev pub form_found : Option Known → Form
form_found None = General
form_found (Some one) = one.form

-- the matrix of a name, by its newest binding
abbrev pub matrix_named : List Known → List ℕ → Matrix
matrix_named known name = matrix_found (newest (is_named name) known)

-- the form of a name, by its newest binding
abbrev pub form_named : List Known → List ℕ → Form
form_named known name = form_found (newest (is_named name) known)

-- the matrix of the first of these names; one without rows and columns where there is none
abbrev pub first_matrix : List Known → List (List ℕ) → Matrix
first_matrix known [] = zeros 0 0
first_matrix known (name ∷ names) = matrix_named known name

-- the matrix of the second of these names; one without rows and columns where there is none
abbrev pub second_matrix : List Known → List (List ℕ) → Matrix
second_matrix known [] = zeros 0 0
second_matrix known (name ∷ names) = first_matrix known names

-- the form of the first of these names
abbrev pub first_form : List Known → List (List ℕ) → Form
first_form known [] = General
first_form known (name ∷ names) = form_named known name

-- ---- Refusals

-- the greatest absolute value that is computed with
abbrev pub limit : ℕ
limit = 2 ^ 126

-- Whether the numbers of a verb's result, and all their partial sums, are bounded by the limit through the peaks of its inputs: the
-- peaks of a sum together; the number of terms of a product times both peaks; the number of rows of a trace times its peak. The
-- second matrix is not looked at where there is one input.
abbrev pub is_bounded : Verb → Matrix → Matrix → Bool
is_bounded Copy a b = true
is_bounded Add a b = nat_le (peak_of a + peak_of b) limit
is_bounded Mul a b = nat_le (a.columns * peak_of a * peak_of b) limit
is_bounded TMul a b = nat_le (height a * peak_of a * peak_of b) limit
is_bounded MulT a b = nat_le (a.columns * peak_of a * peak_of b) limit
is_bounded Square a b = nat_le (height a * peak_of a * peak_of a) limit
is_bounded Full a b = true
is_bounded Trace a b = nat_le (height a * peak_of a) limit
is_bounded Count a b = true
is_bounded Print a b = true
is_bounded Delete a b = true

-- whether a statement is refused, since its result might be too great
abbrev pub is_refused : List Known → Deed → Bool
is_refused known (Lists n name form m) = false
is_refused known (Acts n verb names) =
    not (is_bounded verb (first_matrix known (input_names (Act verb names))) (second_matrix known (input_names (Act verb names))))

-- ---- What statements do

-- the matrix that a verb gives, where it binds a name; that of its input where it binds none
abbrev pub matrix_given : Verb → Matrix → Matrix → Matrix
matrix_given Copy a b = a
matrix_given Add a b = plus a b
matrix_given Mul a b = times a b
matrix_given TMul a b = tmul_of a b
matrix_given MulT a b = mult_of a b
matrix_given Square a b = times a a
matrix_given Full a b = a
matrix_given Trace a b = a
matrix_given Count a b = a
matrix_given Print a b = a
matrix_given Delete a b = a

-- the form in which it is listed, for the form of the first input
abbrev pub form_given : Verb → Form → Form
form_given Copy form = form
form_given Add form = form
form_given Mul form = General
form_given TMul form = General
form_given MulT form = General
form_given Square form = form
form_given Full form = General
form_given Trace form = form
form_given Count form = form
form_given Print form = form
form_given Delete form = form

-- a name with this form and this matrix
abbrev pub named_matrix : Form → Matrix → List ℕ → Known
named_matrix form m name = record { name = name; form = form; matrix = m }

-- what a verb with these names binds to its new name, if it has one
abbrev pub bound_by_verb : List Known → Verb → List (List ℕ) → List (List ℕ) → List Known
bound_by_verb known verb new inputs =
    map
    (named_matrix (form_given verb (first_form known inputs)) (matrix_given verb (first_matrix known inputs) (second_matrix known inputs)))
    new

-- the name that a statement binds, with its form and its matrix
abbrev pub bound_by : List Known → Deed → List Known
bound_by known (Lists n name form m) = named_matrix form m name ∷ []
bound_by known (Acts n verb names) = bound_by_verb known verb (new_names (Act verb names)) (input_names (Act verb names))

-- the names but this one
abbrev pub without_name : List Known → List ℕ → List Known
without_name known name = filter (λ one. not (is_named name one)) known

-- the names but the first of these
abbrev pub without_first : List Known → List (List ℕ) → List Known
without_first known [] = known
without_first known (name ∷ names) = without_name known name

-- the names that a verb leaves bound
abbrev pub left_by_verb : List Known → Verb → List (List ℕ) → List Known
left_by_verb known Copy names = known
left_by_verb known Add names = known
left_by_verb known Mul names = known
left_by_verb known TMul names = known
left_by_verb known MulT names = known
left_by_verb known Square names = known
left_by_verb known Full names = known
left_by_verb known Trace names = known
left_by_verb known Count names = known
left_by_verb known Print names = known
left_by_verb known Delete names = without_first known names

-- the names that a statement leaves bound
abbrev pub left_by : List Known → Deed → List Known
left_by known (Lists n name form m) = known
left_by known (Acts n verb names) = left_by_verb known verb names

-- the names that are bound after a statement
abbrev pub known_by : List Known → Deed → List Known
known_by known deed = left_by known deed ++ bound_by known deed

-- what a verb writes of a matrix in a form: a trace, or the number of the cells by which the form lists it, each with a line feed
-- (10); or the text of the matrix
abbrev pub text_of_verb : Verb → Form → Matrix → List ℕ
text_of_verb Copy form m = []
text_of_verb Add form m = []
text_of_verb Mul form m = []
text_of_verb TMul form m = []
text_of_verb MulT form m = []
text_of_verb Square form m = []
text_of_verb Full form m = []
text_of_verb Trace form m = number_text (trace_of m) ++ 10 ∷ []
text_of_verb Count form m = number_text (pos (length (cells_listed form m))) ++ 10 ∷ []
text_of_verb Print form m = matrix_text form m
text_of_verb Delete form m = []

-- what a statement writes
abbrev pub text_by : List Known → Deed → List ℕ
text_by known (Lists n name form m) = []
text_by known (Acts n verb names) =
    text_of_verb verb (first_form known (input_names (Act verb names))) (first_matrix known (input_names (Act verb names)))

-- ---- The run

-- what a run writes, and the line of the statement that is refused, if one is
pub record Told : Type 0 where
  pub text : List ℕ
  pub refused : Option ℕ

-- this text, and then what else is told
abbrev pub after_text : List ℕ → Told → Told
after_text text told = record told { text = text ++ told.text }

-- What statements tell, where these names are bound: each writes its text, up to the first that is refused.
abbrev pub told_by : List Known → List Deed → Told
told_by known [] = record { text = []; refused = None }
told_by known (deed ∷ deeds) =
    if is_refused known deed then record { text = []; refused = Some (line_of deed) }
    else after_text (text_by known deed) (told_by (known_by known deed) deeds)

-- what a text means as a script
abbrev pub told_of : List ℕ → Told
told_of text = told_by [] (deeds_of text)
