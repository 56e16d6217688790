-- Which rule is broken first.
use Rattle.std.specs.Prelude.{ℕ, suc, Bool, List, [], ◌∷◌, ◌++◌, if◌then◌else◌, Option, None, Some}

-- the code of the first rule that is broken; a rule is its code and whether it is broken
abbrev pub first_code : List (ℕ × Bool) → Option ℕ
first_code [] = None
first_code (rule ∷ rules) = if rule.1 then Some rule.0 else first_code rules

-- the first of two faults, the second where the first is none
abbrev pub or_else : {F : Type 0} → Option F → Option F → Option F
or_else None other = other
or_else (Some fault) other = Some fault

-- The fault of the first of these things that has one. Each is judged from those before it and from itself.
abbrev pub first_fault : {X F : Type 0} → (List X → X → Option F) → List X → List X → Option F
first_fault judge before [] = None
first_fault judge before (x ∷ xs) = or_else (judge before x) (first_fault judge (before ++ x ∷ []) xs)

-- things with their numbers in order, from n on
abbrev pub numbered : {A : Type 0} → ℕ → List A → List (ℕ × A)
numbered n [] = []
numbered n (x ∷ xs) = (n, x) ∷ numbered (suc n) xs
