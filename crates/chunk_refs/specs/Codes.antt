-- The names and the room as lists, by which a proof tells them apart.
use Rattle.std.specs.Prelude.{ℕ, List, refl}
use Rattle.std.specs.Coded.{Coded, code_by, coded×, coded_ℕ, coded_list}
use Rattle.name_states.specs.States.{NameState}
use Rattle.name_states.specs.Codes.{name_state_code}
use Rattle.chunk_refs.specs.Room.{Room, Contents}

-- room is stored as its fields
abbrev pub room_code : Coded Room
room_code = code_by (List ℕ × ℕ) (coded× (coded_list coded_ℕ) coded_ℕ) (λ r. (r.bodies, r.ids)) (λ p. record { bodies = p.0; ids = p.1 }) (λ _. refl)

-- the names and the room as a pair
abbrev pub contents_code : {C : Type 0} → Coded C → Coded (Contents C)
contents_code {C} content =
    code_by (NameState C × Room) (coded× (name_state_code content) room_code) (λ c. (c.names, c.room)) (λ p. record { names = p.0; room = p.1 }) (λ _. refl)
