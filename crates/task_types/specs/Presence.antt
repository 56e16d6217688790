-- What is known of a task's inputs without their contents.
use Rattle.std.specs.Prelude.{ℕ, zero, suc, Bool, true, false, List, [], ◌∷◌}
use Rattle.std.specs.List.{list_all}
use Rattle.task_types.specs.Tree.{Tree, Nothing, Root, is_there}

-- An input is absent, or it is present and each of its four children is there or not.
pub data Presence : Type 0 where
  Absent : Presence
  Present : Bool → Bool → Bool → Bool → Presence

-- what is known of a tree
abbrev pub presence_of : {C : Type 0} → Tree C → Presence
presence_of Nothing = Absent
presence_of (Root content a b c d) = Present (is_there a) (is_there b) (is_there c) (is_there d)

-- whether an input is there
abbrev pub is_present : Presence → Bool
is_present Absent = false
is_present (Present a b c d) = true

-- whether an input has a child with this number, counted from 0
abbrev pub has_child : Presence → ℕ → Bool
has_child Absent j = false
has_child (Present a b c d) zero = a
has_child (Present a b c d) (suc zero) = b
has_child (Present a b c d) (suc (suc zero)) = c
has_child (Present a b c d) (suc (suc (suc zero))) = d
has_child (Present a b c d) (suc (suc (suc (suc j)))) = false

-- what is known of the input with this number, counted from 0; it is absent past the last one
abbrev pub presence_at : List Presence → ℕ → Presence
presence_at [] i = Absent
presence_at (input ∷ inputs) zero = input
presence_at (input ∷ inputs) (suc i) = presence_at inputs i

-- whether no input is null
abbrev pub all_present : List Presence → Bool
all_present inputs = list_all is_present inputs
