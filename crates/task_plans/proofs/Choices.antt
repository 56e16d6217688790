-- The choices of portions that a plan allows.
use Rattle.std.proofs.Common.{◌≡◌, ◌⊎◌, Bool, true, false, ◌||◌, ◌&&◌, not, cond, List, [], ◌∷◌, map, inl, inr, refl, sym, ap, ◌∙◌, subst}
use Rattle.std.specs.List.{filter}
use Rattle.task_types.specs.Presence.{Presence, Absent, Present}
use Rattle.task_types.specs.Places.{Shape, IsOneOf}
use Rattle.task_plans.specs.declared.plan.Part.{Part}
use Rattle.task_plans.specs.Plans.{choices, is_taken, may_choose, is_choice, choices_of}
use Rattle.task_plans.proofs.Lists.{both_pass}

-- a choice is one of these
abbrev IsIn : Presence → List Presence → Type 0
IsIn choice [] = ⊥
IsIn choice (first ∷ rest) = (choice ≡ first) ⊎ IsIn choice rest

-- each choice with at least one portion is among them
in_choices : (a b c d : Bool) → (a || b || c || d) ≡ true → IsIn (Present a b c d) choices
in_choices false false false false some = cc
in_choices true false false false some = inl refl
in_choices false true false false some = inr (inl refl)
in_choices true true false false some = inr (inr (inl refl))
in_choices false false true false some = inr (inr (inr (inl refl)))
in_choices true false true false some = inr (inr (inr (inr (inl refl))))
in_choices false true true false some = inr (inr (inr (inr (inr (inl refl)))))
in_choices true true true false some = inr (inr (inr (inr (inr (inr (inl refl))))))
in_choices false false false true some = inr (inr (inr (inr (inr (inr (inr (inl refl)))))))
in_choices true false false true some = inr (inr (inr (inr (inr (inr (inr (inr (inl refl))))))))
in_choices false true false true some = inr (inr (inr (inr (inr (inr (inr (inr (inr (inl refl)))))))))
in_choices true true false true some = inr (inr (inr (inr (inr (inr (inr (inr (inr (inr (inl refl))))))))))
in_choices false false true true some = inr (inr (inr (inr (inr (inr (inr (inr (inr (inr (inr (inl refl)))))))))))
in_choices true false true true some = inr (inr (inr (inr (inr (inr (inr (inr (inr (inr (inr (inr (inl refl))))))))))))
in_choices false true true true some = inr (inr (inr (inr (inr (inr (inr (inr (inr (inr (inr (inr (inr (inl refl)))))))))))))
in_choices true true true true some = inr (inr (inr (inr (inr (inr (inr (inr (inr (inr (inr (inr (inr (inr (inl refl))))))))))))))

-- what is among choices is among them behind one that may stand first
behind : (b : Bool) (choice first : Presence) (rest : List Presence) → IsIn choice rest → IsIn choice (cond b (first ∷ rest) rest)
behind true choice first rest is = inr is
behind false choice first rest is = is

-- a choice that passes a test stays
kept : (test : Presence → Bool) (choice : Presence) (all : List Presence) → IsIn choice all → test choice ≡ true
    → IsIn choice (filter test all)
kept test choice [] is passes = is
kept test choice (first ∷ rest) (inl e) passes =
    subst (λ (b : Bool). IsIn choice (cond b (first ∷ filter test rest) (filter test rest))) (sym (ap test (sym e) ∙ passes)) (inl e)
kept test choice (first ∷ rest) (inr is) passes = behind (test first) choice first (filter test rest) (kept test choice rest is passes)

-- and gives one of the shapes
shape_among : {K : Type 0} (shape : Presence → Shape K) (choice : Presence) (all : List Presence) → IsIn choice all
    → IsOneOf (shape choice) (map shape all)
shape_among shape choice [] is = is
shape_among shape choice (first ∷ rest) (inl e) = inl (ap shape e)
shape_among shape choice (first ∷ rest) (inr is) = inr (shape_among shape choice rest is)

-- a portion may be chosen where some part takes it
may : (a taken : Bool) → (a ≡ true → taken ≡ true) → (not a || taken) ≡ true
may false taken takes = refl
may true taken takes = takes refl

-- where some part takes a portion, a choice with at least one portion and with none that no part takes gives a shape of the plan
pub choice_among : {O K : Type 0} (shape : Presence → Shape K) (parts : List (Part O)) (a b c d : Bool) → (a || b || c || d) ≡ true
    → (a ≡ true → is_taken parts 0 ≡ true) → (b ≡ true → is_taken parts 1 ≡ true) → (c ≡ true → is_taken parts 2 ≡ true) → (d ≡ true → is_taken parts 3 ≡ true)
    → (is_taken parts 0 || is_taken parts 1 || is_taken parts 2 || is_taken parts 3) ≡ true
    → IsOneOf (shape (Present a b c d)) (map shape (choices_of parts))
choice_among shape parts a b c d some first second third fourth takes =
    let choice : Presence = Present a b c d in
    let passes : is_choice parts choice ≡ true =
    both_pass ((may_choose parts choice 0 && may_choose parts choice 1) && may_choose parts choice 2) (may_choose parts choice 3)
    (both_pass (may_choose parts choice 0 && may_choose parts choice 1) (may_choose parts choice 2)
    (both_pass (may_choose parts choice 0) (may_choose parts choice 1) (may a (is_taken parts 0) first) (may b (is_taken parts 1) second))
    (may c (is_taken parts 2) third))
    (may d (is_taken parts 3) fourth) in
    let all : choices_of parts ≡ filter (is_choice parts) choices = ap (λ b. cond b (filter (is_choice parts) choices) (Absent ∷ [])) takes in
    subst (λ (choices : List Presence). IsOneOf (shape choice) (map shape choices)) (sym all)
    (shape_among shape choice (filter (is_choice parts) choices) (kept (is_choice parts) choice choices (in_choices a b c d some) passes))
