-- The deques of a group: what a thief reaches, and what the owners know at the end.
use Rattle.std.specs.Prelude.{◌≡◌, ℕ, ◌+◌, false, replicate, List, [], ◌∷◌, map, length, slice_get, slice_index_or, Some}
use Rattle.std.specs.List.{flat_map}
use Rattle.steal_deque.specs.declared.rule.View.{View}
use Rattle.steal_deque.specs.declared.own.Own.{Own}
use Rattle.steal_deque.specs.declared.victim.Victim.{Victim}
use Rattle.steal_deque.specs.declared.thief.Thief.{Thief}
use Rattle.steal_deque.specs.History.{spent, joined_with, newcomer, Settles}
use Rattle.steal_deque.specs.Ends.{own_view, own_deque, victim_view, victim_deque, Deque, exposed_by, taken_by}

-- what a thief knows of each deque, by worker
abbrev pub views_of : Thief → List View
views_of thief = map victim_view thief.victims.items

-- the deques that a thief reaches, by worker
abbrev pub deques_of : Thief → List Deque
deques_of thief = map victim_deque thief.victims.items

abbrev pub ports : List View → List ℕ
ports views = map (λ view. view.port) views

-- how many deques a thief reaches
abbrev pub reach_of : Thief → ℕ
reach_of thief = length thief.victims.items

-- what a thief knows of the deque of one worker
abbrev pub view_at : Thief → ℕ → View
view_at thief worker = slice_index_or (views_of thief) worker spent

-- what a thief took from the deque of one worker, in order
abbrev pub stolen_from : Thief → ℕ → List ℕ
stolen_from thief worker = (view_at thief worker).taken

-- what a thief took from all deques
abbrev pub stolen_by : Thief → List ℕ
stolen_by thief = flat_map (λ view. view.taken) (views_of thief)

-- all numbers that these owners exposed
abbrev pub all_exposed : List Own → List ℕ
all_exposed owns = flat_map exposed_by owns

-- all numbers that these owners took back
abbrev pub all_taken : List Own → List ℕ
all_taken owns = flat_map taken_by owns

-- all numbers that these thieves stole
abbrev pub all_stolen : List Thief → List ℕ
all_stolen thieves = flat_map stolen_by thieves

-- it is the same thief, with the same deques
abbrev pub SameThief : Thief → Thief → Type 0
SameThief old new = (new.number ≡ old.number) × (deques_of new ≡ deques_of old) × (ports (views_of new) ≡ ports (views_of old))

-- the ends of a thief are those of the owners' deques, in their order
abbrev pub Reaches : List Own → List Victim → Type 0
Reaches owns victims = (k : ℕ) (deque : Deque) → slice_get (map victim_deque victims) k ≡ Some deque → slice_get (map own_deque owns) k ≡ Some deque

-- all passes of one thief have its number
abbrev pub ArePorts : ℕ → List ℕ → Type 0
ArePorts port [] = Unit {0}
ArePorts port (p ∷ ps) = (p ≡ port) × ArePorts port ps

-- these are the thieves from a number on
abbrev pub AreThieves : ℕ → List Own → List Thief → Type 0
AreThieves number owns [] = Unit {0}
AreThieves number owns (thief ∷ thieves) = (thief.number ≡ number) × (deques_of thief ≡ map own_deque owns) × ArePorts (number + 1) (ports (views_of thief)) × AreThieves (number + 1) owns thieves

-- each owner had so many thieves, of which none is back
abbrev pub AreOwners : ℕ → List Own → Type 0
AreOwners thieves [] = Unit {0}
AreOwners thieves (own ∷ owns) = ((own_view own).made ≡ thieves) × ((own_view own).joined ≡ []) × AreOwners thieves owns

-- these are all the ends that one group of deques has
pub record AreAll (owns : List Own) (thieves : List Thief) : Type 0 where
  pub many : length thieves ≡ length owns
  pub owners : AreOwners (length owns) owns
  pub others : AreThieves 0 owns thieves

-- what the owners know once a thief is back
abbrev pub returned_all : List View → List View → List View
returned_all [] others = []
returned_all (view ∷ views) [] = view ∷ views
returned_all (view ∷ views) (other ∷ others) = joined_with view other ∷ returned_all views others

-- what the owners know once these thieves are back, the last of them first
abbrev pub returned_by : List View → List (List View) → List View
returned_by views [] = views
returned_by views (thief ∷ thieves) = returned_all (returned_by views thieves) thief

-- how many numbers these lists have
abbrev pub total : List (List ℕ) → ℕ
total [] = 0
total (left ∷ lefts) = length left + total lefts

-- each owner knows that this list is left in its deque
abbrev pub AllSettle : List View → List (List ℕ) → Type 0
AllSettle [] [] = Unit {0}
AllSettle [] (left ∷ lefts) = ⊥
AllSettle (view ∷ views) [] = ⊥
AllSettle (view ∷ views) (left ∷ lefts) = Settles view left × AllSettle views lefts

-- the view of an owner with so many thieves, who did nothing yet
abbrev pub owner_with : ℕ → View
owner_with thieves = record { port = 0; made = thieves; exposed = []; pending = []; taken = []; joined = []; over = false }

-- no number was exposed or taken yet
abbrev pub AreNew : List Own → List Thief → Type 0
AreNew owns thieves = (map own_view owns ≡ replicate (length owns) (owner_with (length owns)))
    × ((t : ℕ) (thief : Thief) → slice_get thieves t ≡ Some thief → views_of thief ≡ replicate (length owns) (newcomer (owner_with t)))
