-- What is asked of the inputs as they are kept, and of those that contracts see.
use Rattle.std.proofs.Common.{◌≡◌, ◌||◌, ℕ, zero, suc, take, List, [], ◌∷◌, refl, ap}
use Rattle.std.specs.Prelude.{map as each}
use Rattle.std.specs.List.{list_any}
use Rattle.task_states.specs.States.{is_awaiting}
use Rattle.task_links.specs.declared.kept.KeptPlace.{KeptPlace}
use Rattle.task_links.specs.Kept.{opened_place}
use Rattle.task_links.specs.Inside.{shown_place}

pub any_kept : (n : ℕ) (places : List KeptPlace) → list_any (λ place. is_awaiting (shown_place (opened_place place))) (take n places) ≡ list_any is_awaiting (each shown_place (take n (each opened_place places)))
any_kept zero places = refl
any_kept (suc n) [] = refl
any_kept (suc n) (place ∷ places) = ap (λ b. is_awaiting (shown_place (opened_place place)) || b) (any_kept n places)
