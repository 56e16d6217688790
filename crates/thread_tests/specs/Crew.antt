-- Workers with the ends of one group of deques.
use Rattle.std.specs.Prelude.{List, [], ◌∷◌, ◌++◌}
use Rattle.steal_deque.specs.declared.own.Own.{Own}
use Rattle.steal_deque.specs.declared.thief.Thief.{Thief}
use Rattle.steal_deque.specs.Groups.{AreAll}

-- what a function gives of each item, the last one first
abbrev pub last_first : {W X : Type 0} → (W → X) → List W → List X
last_first f [] = []
last_first f (w ∷ ws) = last_first f ws ++ f w ∷ []

-- these workers have all the ends of one group, the last worker's first
abbrev pub AreCrew : {W : Type 0} → (W → Own) → (W → Thief) → List W → Type 0
AreCrew own_of thief_of workers = AreAll (last_first own_of workers) (last_first thief_of workers)
