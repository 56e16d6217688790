-- The statements: their words, how many names they have, and which shapes and forms they take and give.
use Rattle.std.specs.Prelude.{ℕ, Bool, true, false, ◌&&◌, ◌==◌, not, if◌then◌else◌, List, [], ◌∷◌, length, drop, take, codes, Option, None, Some, option_and_then}
use Rattle.std.specs.Str.{bytes_eq}
use Rattle.mm_text.specs.declared.market.Form.{Form}
use Rattle.mm_text.specs.declared.market.Form.TheVariants.{General, Symmetric}
use Rattle.cht_script.specs.declared.checked.Shape.{Shape}
use Rattle.cht_script.specs.declared.script.Verb.{Verb}
use Rattle.cht_script.specs.declared.script.Verb.TheVariants.{Copy, Add, Mul, TMul, MulT, Square, Full, Trace, Count, Print, Delete}

-- ---- Words

-- a word and what it names
abbrev pub verbs : List (List ℕ × Verb)
verbs =
    (codes "copy", Copy) ∷ (codes "add", Add) ∷ (codes "mul", Mul) ∷ (codes "tmul", TMul) ∷ (codes "mult", MulT)
    ∷ (codes "square", Square) ∷ (codes "full", Full) ∷ (codes "trace", Trace) ∷ (codes "count", Count)
    ∷ (codes "print", Print) ∷ (codes "delete", Delete)
    ∷ []

-- what a word names in such a list
abbrev pub named_in : List (List ℕ × Verb) → List ℕ → Option Verb
named_in [] word = None
named_in (one ∷ others) word = if bytes_eq word one.0 then Some one.1 else named_in others word

-- the verb that a word names
abbrev pub verb_named : List ℕ → Option Verb
verb_named word = named_in verbs word

-- how many names follow the word
abbrev pub names_after : Verb → ℕ
names_after Copy = 2
names_after Add = 3
names_after Mul = 3
names_after TMul = 3
names_after MulT = 3
names_after Square = 2
names_after Full = 2
names_after Trace = 1
names_after Count = 1
names_after Print = 1
names_after Delete = 1

-- whether the first of the names is bound by the statement; all others are its inputs
abbrev pub binds : Verb → Bool
binds Copy = true
binds Add = true
binds Mul = true
binds TMul = true
binds MulT = true
binds Square = true
binds Full = true
binds Trace = false
binds Count = false
binds Print = false
binds Delete = false

-- What the words of a line say: `market` or a verb, and as many names as belong to it, however they are spelled.
pub data Said : Type 0 where
  Market : List (List ℕ) → Said
  Act : Verb → List (List ℕ) → Said

-- a verb with its names, if they are as many as belong to it
abbrev pub act_with : List (List ℕ) → Verb → Option Said
act_with names verb = if length names == names_after verb then Some (Act verb names) else None

-- what words say
abbrev pub said_in : List (List ℕ) → Option Said
said_in [] = None
said_in (first ∷ names) =
    if bytes_eq first (codes "market") then (if length names == 1 then Some (Market names) else None)
    else option_and_then (act_with names) (verb_named first)

-- the names that are said
abbrev pub names_said : Said → List (List ℕ)
names_said (Market names) = names
names_said (Act verb names) = names

-- the name that is bound, if one is, as a list
abbrev pub new_names : Said → List (List ℕ)
new_names (Market names) = names
new_names (Act verb names) = if binds verb then take 1 names else []

-- the names that are used
abbrev pub input_names : Said → List (List ℕ)
input_names (Market names) = []
input_names (Act verb names) = if binds verb then drop 1 names else names

-- ---- Shapes and forms

-- whether a form is the general one
abbrev pub is_general : Form → Bool
is_general General = true
is_general Symmetric = false

-- whether it is the symmetric one
abbrev pub is_symmetric : Form → Bool
is_symmetric General = false
is_symmetric Symmetric = true

-- whether two forms are one
abbrev pub are_same_form : Form → Form → Bool
are_same_form General form = is_general form
are_same_form Symmetric form = is_symmetric form

-- whether as many rows as columns are there
abbrev pub is_square : Shape → Bool
is_square a = a.rows == a.columns

-- whether the shapes of the inputs fit a verb; the second is not looked at where there is one input
abbrev pub shapes_fit : Verb → Shape → Shape → Bool
shapes_fit Copy a b = true
shapes_fit Add a b = a.rows == b.rows && a.columns == b.columns
shapes_fit Mul a b = a.columns == b.rows
shapes_fit TMul a b = a.rows == b.rows
shapes_fit MulT a b = a.columns == b.columns
shapes_fit Square a b = is_square a
shapes_fit Full a b = is_square a
shapes_fit Trace a b = is_square a
shapes_fit Count a b = true
shapes_fit Print a b = true
shapes_fit Delete a b = true

-- whether the forms of the inputs fit a verb
abbrev pub forms_fit : Verb → Shape → Shape → Bool
forms_fit Copy a b = true
forms_fit Add a b = are_same_form a.form b.form
forms_fit Mul a b = not (is_symmetric a.form && is_symmetric b.form)
forms_fit TMul a b = is_general a.form && is_general b.form
forms_fit MulT a b = is_general a.form && is_general b.form
forms_fit Square a b = is_symmetric a.form
forms_fit Full a b = is_symmetric a.form
forms_fit Trace a b = true
forms_fit Count a b = true
forms_fit Print a b = true
forms_fit Delete a b = true

-- a general matrix of that many rows and columns
abbrev pub general : ℕ → ℕ → Shape
general rows columns = record { rows = rows; columns = columns; form = General }

-- the shape and form of what a verb binds; that of its input where it binds nothing
abbrev pub shape_bound : Verb → Shape → Shape → Shape
shape_bound Copy a b = a
shape_bound Add a b = a
shape_bound Mul a b = general a.rows b.columns
shape_bound TMul a b = general a.columns b.columns
shape_bound MulT a b = general a.rows b.rows
shape_bound Square a b = a
shape_bound Full a b = general a.rows a.columns
shape_bound Trace a b = a
shape_bound Count a b = a
shape_bound Print a b = a
shape_bound Delete a b = a
