-- One deque as plain data: the list of all steals in their order, which only this rule knows, ties what is left to what each pass took.
use Rattle.std.specs.Prelude.{◌≡◌, ℕ, ◌+◌, ◌<◌, ◌≤◌, ◌==◌, if◌then◌else◌, true, false, List, [], ◌∷◌, ◌++◌, map, length, IsPermutation}
use mathlib.Core.Option.{some}
use lib.ListN.{get_elem?}
use Rattle.steal_deque.specs.declared.rule.View.{View}

-- a steal: the pass of the thief and the number that it took
abbrev pub Stolen : Type 0
Stolen = ℕ × ℕ

-- the numbers of steals, in order
abbrev pub numbers_of : List Stolen → List ℕ
numbers_of steals = map (λ steal. steal.1) steals

-- the numbers that one pass took, in order
abbrev pub by : ℕ → List Stolen → List ℕ
by port [] = []
by port (steal ∷ steals) = if steal.0 == port then steal.1 ∷ by port steals else by port steals

-- steals of one pass
abbrev pub steals_of : ℕ → List ℕ → List Stolen
steals_of port numbers = map (λ number. (port, number)) numbers

abbrev pub owner_view : View
owner_view = record { port = 0; made = 0; exposed = []; pending = []; taken = []; joined = []; over = false }

abbrev pub spent : View
spent = record { port = 0; made = 0; exposed = []; pending = []; taken = []; joined = []; over = true }

-- the owner's view with numbers exposed
abbrev pub exposing : View → List ℕ → View
exposing v numbers = record { port = v.port; made = v.made; exposed = v.exposed ++ numbers; pending = v.pending ++ numbers; taken = v.taken; joined = v.joined; over = v.over }

-- the owner's view where it took numbers back, and these are left to it
abbrev pub taking : View → List ℕ → List ℕ → View
taking v rest numbers = record { port = v.port; made = v.made; exposed = v.exposed; pending = rest; taken = v.taken ++ numbers; joined = v.joined; over = v.over }

-- a thief's view after a steal
abbrev pub stealing : View → List ℕ → View
stealing v numbers = record { port = v.port; made = v.made; exposed = v.exposed; pending = v.pending; taken = v.taken ++ numbers; joined = v.joined; over = v.over }

abbrev pub one_more : View → View
one_more v = record { port = v.port; made = v.made + 1; exposed = v.exposed; pending = v.pending; taken = v.taken; joined = v.joined; over = v.over }

-- the view of a new thief's pass
abbrev pub newcomer : View → View
newcomer v = record { port = v.made + 1; made = 0; exposed = []; pending = []; taken = []; joined = []; over = false }

abbrev pub joined_with : View → View → View
joined_with v w = record { port = v.port; made = v.made; exposed = v.exposed; pending = v.pending; taken = v.taken; joined = v.joined ++ (w.port, w.taken) ∷ []; over = v.over }

-- each of these passes took these numbers, in this order
abbrev pub Took : List Stolen → List (ℕ × List ℕ) → Type 0
Took steals [] = Unit {0}
Took steals (pass ∷ passes) = (by pass.0 steals ≡ pass.1) × Took steals passes

-- these passes are over
abbrev pub AreOver : List View → List (ℕ × List ℕ) → Type 0
AreOver views [] = Unit {0}
AreOver views (pass ∷ passes) = ((v : View) → get_elem? views pass.0 ≡ some v → v.over ≡ true) × AreOver views passes

-- what the owner knows: what it exposed is what it took and what is pending, which is what was stolen, oldest first, and what is left
pub record IsOwner (steals : List Stolen) (items : List ℕ) (views : List View) (v : View) : Type 0 where
  pub port : v.port ≡ 0
  pub over : v.over ≡ false
  pub made : v.made + 1 ≡ length views
  pub pending : v.pending ≡ numbers_of steals ++ items
  pub exposed : IsPermutation (v.taken ++ v.pending) v.exposed
  pub took : Took steals v.joined
  pub gone : AreOver views v.joined

-- what the steals so far have to do with what is left and with what the passes know
pub record IsHistory (steals : List Stolen) (items : List ℕ) (views : List View) : Type 0 where
  pub owner : (v : View) → get_elem? views 0 ≡ some v → IsOwner steals items views v
  pub named : (port : ℕ) (v : View) → get_elem? views port ≡ some v → v.over ≡ false → v.port ≡ port
  pub took : (port : ℕ) (v : View) → get_elem? views port ≡ some v → v.over ≡ false → 0 < port → by port steals ≡ v.taken
  pub others : (port : ℕ) → length views ≤ port → by port steals ≡ []
  pub never : by 0 steals ≡ []

-- there is one order of the steals
abbrev pub Kept : List ℕ → List View → Type 0
Kept items views = (steals : List Stolen) × IsHistory steals items views

-- the owner took the newest of what is pending
abbrev pub Takes : View → List ℕ → View → Type 0
Takes v numbers w = (rest : List ℕ) × (v.pending ≡ rest ++ numbers) × (w ≡ taking v rest numbers)

-- at one moment, at which the pass knew this, nothing was left
abbrev pub WasEmpty : View → Type 0
WasEmpty v = (port : ℕ) × (views : List View) × Kept [] views × (get_elem? views port ≡ some v)

-- at one moment, at which the pass knew this, at most one number was left
abbrev pub HeldFew : View → Type 0
HeldFew v = (port : ℕ) × (items : List ℕ) × (views : List View) × (length items ≤ 1) × Kept items views × (get_elem? views port ≡ some v)

-- what the owner knows of what is left, at the end
abbrev pub Settles : View → List ℕ → Type 0
Settles v left = (steals : List Stolen) × (v.pending ≡ numbers_of steals ++ left) × IsPermutation (v.taken ++ v.pending) v.exposed × Took steals v.joined × ((port : ℕ) → v.made < port → by port steals ≡ []) × (by 0 steals ≡ [])
