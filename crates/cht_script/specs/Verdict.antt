-- What is wrong with a text, if anything: the first line, in order, at which a rule is broken, with the least code. Each line is
-- judged from the items before it and from itself: by rules on lines, and by rules on names that know no lines.
use Rattle.std.specs.Prelude.{ℕ, ◌^◌, Bool, true, not, nat_le, if◌then◌else◌, List, [], ◌∷◌, ◌++◌, length, map, Option, None, Some, Result, Ok, Err, option_map}
use Rattle.std.specs.List.{list_all, list_any, flat_map}
use Rattle.std.specs.Str.{bytes_eq}
use Rattle.mm_text.specs.declared.market.MarketFault.{MarketFault}
use Rattle.mm_text.specs.Lines.{words_of, is_text}
use Rattle.mm_text.specs.Faults.{first_code, or_else, first_fault}
use Rattle.mm_text.specs.Block as listing
use Rattle.cht_script.specs.declared.checked.Shape.{Shape}
use Rattle.cht_script.specs.declared.script.Fault.{Fault}
use Rattle.cht_script.specs.declared.script.Verb.{Verb}
use Rattle.cht_script.specs.declared.script.Verb.TheVariants.{Copy, Add, Mul, TMul, MulT, Square, Full, Trace, Count, Print, Delete}
use Rattle.cht_script.specs.Newest.{newest}
use Rattle.cht_script.specs.Words.{is_name}
use Rattle.cht_script.specs.Statements.{Said, Market, Act, said_in, names_said, new_names, input_names, general, shapes_fit, forms_fit, shape_bound}
use Rattle.cht_script.specs.Items.{fault_at, fault_behind, Heading, heading_of, Item, Line, Block, items_behind}

-- ---- Names with shapes

-- a name with the shape of its matrix
pub record NamedShape : Type 0 where
  pub name : List ℕ
  pub shape : Shape

-- a name with this shape
abbrev pub with_shape : Shape → List ℕ → NamedShape
with_shape shape name = record { name = name; shape = shape }

-- whether a shape is that of this name
abbrev pub has_name : List ℕ → NamedShape → Bool
has_name name one = bytes_eq one.name name

-- whether a name is bound, by what was bound so far
abbrev pub is_known : List NamedShape → List ℕ → Bool
is_known known name = list_any (has_name name) known

-- the shape of a name that was found, and that of no matrix where it was not
abbrev pub shape_found : Option NamedShape → Shape
shape_found None = general 0 0
shape_found (Some one) = one.shape

-- the shape of a name, by its newest binding
abbrev pub shape_in : List NamedShape → List ℕ → Shape
shape_in known name = shape_found (newest (has_name name) known)

-- the shape of the first of these names; that of no matrix where there is none
abbrev pub first_shape : List NamedShape → List (List ℕ) → Shape
first_shape known [] = general 0 0
first_shape known (name ∷ names) = shape_in known name

-- the shape of the second of these names; that of no matrix where there is none
abbrev pub second_shape : List NamedShape → List (List ℕ) → Shape
second_shape known [] = general 0 0
second_shape known (name ∷ names) = first_shape known names

-- ---- What a statement does to names

-- the shape of what is bound by what a statement says, where a matrix that it lists has the first of these shapes
abbrev pub shape_said : Shape → List NamedShape → Said → Shape
shape_said listed known (Market names) = listed
shape_said listed known (Act verb names) =
    shape_bound verb (first_shape known (input_names (Act verb names))) (second_shape known (input_names (Act verb names)))

-- the names that it binds
abbrev pub bound_said : Shape → List NamedShape → Said → List NamedShape
bound_said listed known said = map (with_shape (shape_said listed known said)) (new_names said)

-- the names that a verb deletes
abbrev pub deleted_by_verb : Verb → List (List ℕ) → List (List ℕ)
deleted_by_verb Copy names = []
deleted_by_verb Add names = []
deleted_by_verb Mul names = []
deleted_by_verb TMul names = []
deleted_by_verb MulT names = []
deleted_by_verb Square names = []
deleted_by_verb Full names = []
deleted_by_verb Trace names = []
deleted_by_verb Count names = []
deleted_by_verb Print names = []
deleted_by_verb Delete names = names

-- the names that are deleted by what a statement says
abbrev pub deleted_said : Said → List (List ℕ)
deleted_said (Market names) = []
deleted_said (Act verb names) = deleted_by_verb verb names

-- ---- The rules on names

-- whether a name is among these
abbrev pub is_among : List (List ℕ) → List ℕ → Bool
is_among names name = list_any (λ other. bytes_eq other name) names

-- The rules on the names of a statement, from what it says and from the names that were bound and deleted before it: 14 an input
-- that was not bound, 15 one that was deleted, 16 a new name that was bound, 17 shapes that do not fit, 18 forms that do not
-- fit. They do not speak of lines.
abbrev pub name_rules : List NamedShape → List (List ℕ) → Said → List (ℕ × Bool)
name_rules known deleted (Market names) = (16, list_any (is_known known) names) ∷ []
name_rules known deleted (Act verb names) =
    (14, list_any (λ name. not (is_known known name)) (input_names (Act verb names)))
    ∷ (15, list_any (is_among deleted) (input_names (Act verb names)))
    ∷ (16, list_any (is_known known) (new_names (Act verb names)))
    ∷ (17, not (shapes_fit verb (first_shape known (input_names (Act verb names))) (second_shape known (input_names (Act verb names)))))
    ∷ (18, not (forms_fit verb (first_shape known (input_names (Act verb names))) (second_shape known (input_names (Act verb names)))))
    ∷ []

-- ---- What earlier items bound and deleted

-- the names that a line binds; one that says `market` lists no matrix, where it is no block
abbrev pub bound_by_line : List NamedShape → Option Said → List NamedShape
bound_by_line known None = []
bound_by_line known (Some said) = bound_said (general 0 0) known said

-- the shape of a block
abbrev pub shape_of_block : listing.Block → Shape
shape_of_block block = record { rows = block.sizes.rows; columns = block.sizes.columns; form = block.form }

-- the names that an item binds
abbrev pub bound_by : List NamedShape → Item → List NamedShape
bound_by known (Line n line) = bound_by_line known (said_in (words_of line))
bound_by known (Block n name (Ok block)) = bound_said (shape_of_block block) known (Market (name ∷ []))
bound_by known (Block n name (Err fault)) = []

-- the names that are bound after these items
abbrev pub known_after : List NamedShape → List Item → List NamedShape
known_after known [] = known
known_after known (item ∷ items) = known_after (known ++ bound_by known item) items

-- the names that a line deletes
abbrev pub deleted_by_line : Option Said → List (List ℕ)
deleted_by_line None = []
deleted_by_line (Some said) = deleted_said said

-- the names that an item deletes
abbrev pub deleted_by : Item → List (List ℕ)
deleted_by (Line n line) = deleted_by_line (said_in (words_of line))
deleted_by (Block n name found) = []

-- the names that these items delete
abbrev pub deleted_after : List Item → List (List ℕ)
deleted_after items = flat_map deleted_by items

-- ---- The rules on lines, and both together

-- the rule on the words of a line that says this: 6 a word that is no name
abbrev pub word_rules : Said → List (ℕ × Bool)
word_rules said = (6, not (list_all is_name (names_said said))) ∷ []

-- the rules on names for what a line says behind these items
abbrev pub name_rules_behind : List Item → Said → List (ℕ × Bool)
name_rules_behind before said = name_rules (known_after [] before) (deleted_after before) said

-- the rules for a line that says this; 4 where it says nothing
abbrev pub rules_if_said : List Item → Option Said → List (ℕ × Bool)
rules_if_said before None = (4, true) ∷ []
rules_if_said before (Some said) = word_rules said ++ name_rules_behind before said

-- the code of a line that is not skipped: 2 other bytes than text, then the rules for what it says
abbrev pub line_code : List Item → List ℕ → Option ℕ
line_code before line = first_code ((2, not (is_text line)) ∷ rules_if_said before (said_in (words_of line)))

-- the fault of what a block's lines give, behind line n
abbrev pub block_fault : ℕ → Result listing.Block MarketFault → Option Fault
block_fault n (Ok block) = None
block_fault n (Err fault) = Some (fault_behind n fault)

-- The fault of an item, from the items before it. At one line the least code comes first, so that the rules on the line come
-- before those on names; the rules on the name of a line `market NAME` come before those on the lines of its block.
abbrev pub item_fault : List Item → Item → Option Fault
item_fault before (Line n line) = option_map (fault_at n) (line_code before line)
item_fault before (Block n name found) =
    or_else (option_map (fault_at n) (first_code (name_rules_behind before (Market (name ∷ []))))) (block_fault n found)

-- ---- The verdict

-- the most bytes that a script may have
abbrev pub most_bytes : ℕ
most_bytes = 2 ^ 26

-- the fault of a text with this heading
abbrev pub fault_with : Result Heading Fault → Option Fault
fault_with (Err fault) = Some fault
fault_with (Ok heading) = first_fault item_fault [] (items_behind (Ok heading))

-- The fault of a text, if it has one: line 0 and code 1 where it is too long; else that of the first line that has one.
abbrev pub verdict : List ℕ → Option Fault
verdict text = if nat_le (length text) most_bytes then fault_with (heading_of text) else Some (fault_at 0 1)
