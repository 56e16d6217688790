-- What the other parts see of the asks, and the room for more of them.
use Rattle.std.specs.Prelude.{◌≡◌, ℕ, List, slice_get, refl, None, Some}
use Rattle.std.specs.Coded.{Coded, code_by, coded×, coded_ℕ, coded_list}
use Rattle.std.specs.Ordering.{nat_cmp}
use Rattle.std.specs.FinMap as map
use Rattle.cht_ids.specs.declared.refs.Ref.{Ref}
use Rattle.name_machine.specs.States.{Ask}
use Rattle.core_state.specs.Codes.{ask_code}

-- the asks by the number of the task that was asked; how many more there is room for, and how many more of each caller
pub record AskTable : Type 0 where
  pub asks : map.FinMap nat_cmp (Ask (Unit {0}) Ref)
  pub spare : ℕ
  pub rooms : List ℕ

-- a number in a list, 0 past its end
abbrev pub room_at : List ℕ → ℕ → ℕ
room_at rooms caller = elim (slice_get rooms caller) [ None ↦ 0 | Some room ↦ room ]

-- a table is stored as its fields
abbrev pub ask_table_code : Coded AskTable
ask_table_code =
    code_by (map.FinMap nat_cmp (Ask (Unit {0}) Ref) × (ℕ × List ℕ)) (coded× (map.code coded_ℕ ask_code) (coded× coded_ℕ (coded_list coded_ℕ)))
    (λ t. (t.asks, (t.spare, t.rooms))) (λ p. record { asks = p.0; spare = p.1.0; rooms = p.1.1 }) (λ _. refl)

-- a task is one that a caller asked
pub record IsAskOf (asks : map.FinMap nat_cmp (Ask (Unit {0}) Ref)) (caller task : ℕ) : Type 0 where
  pub ask : Ask (Unit {0}) Ref
  pub there : map.get asks task ≡ Some ask
  pub own : ask.caller ≡ caller
