-- For other crates: whatever the ends of a group did in between, they are still all the ends of that group.
use Rattle.std.proofs.Common.{◌≡◌, ℕ, suc, ◌+◌, List, [], ◌∷◌, ◌++◌, map, length, drop, get_or, sym, refl, ap, ◌∙◌, subst, arith}
use Rattle.steal_deque.specs.declared.own.Own.{Own}
use Rattle.steal_deque.specs.declared.thief.Thief.{Thief}
use Rattle.steal_deque.specs.Ends.{own_view, own_deque, SameOwn, Deque}
use Rattle.steal_deque.specs.Groups.{ports, views_of, deques_of, SameThief, AreThieves, AreOwners, ArePorts, AreAll, reach_of}
use Rattle.steal_deque.specs.Ends.{victim_deque}

-- what no call of an owner's end changes
abbrev pub own_mark : Own → Deque × (ℕ × List (ℕ × List ℕ))
own_mark own = (own_deque own, ((own_view own).made, (own_view own).joined))

-- what no steal changes
abbrev pub thief_mark : Thief → ℕ × (List Deque × List ℕ)
thief_mark thief = (thief.number, (deques_of thief, ports (views_of thief)))

pub own_stays : (old new : Own) → SameOwn old new → own_mark new ≡ own_mark old
own_stays old new same = λ i. (same.0 i, (same.1 i, same.2 i))

pub thief_stays : (old new : Thief) → SameThief old new → thief_mark new ≡ thief_mark old
thief_stays old new same = λ i. (same.0 i, (same.1 i, same.2 i))

no_first : {Y : Type 0} (y : Y) (ys : List Y) → y ∷ ys ≡ [] → ⊥
no_first y ys e = let h : suc (length ys) ≡ 0 = ap length e in omega (arith, h)

module _ {X Y : Type 0} where
  length_map : (f : X → Y) (xs : List X) → length (map f xs) ≡ length xs
  length_map f [] = refl
  length_map f (x ∷ xs) = ap suc (length_map f xs)

  length_marked : (f : X → Y) (old new : List X) → map f new ≡ map f old → length new ≡ length old
  length_marked f old new e = sym (length_map f new) ∙ ap length e ∙ length_map f old

marked_deques : (owns : List Own) → map (λ (mark : Deque × (ℕ × List (ℕ × List ℕ))). mark.0) (map own_mark owns) ≡ map own_deque owns
marked_deques [] = refl
marked_deques (own ∷ owns) = ap (λ l. own_deque own ∷ l) (marked_deques owns)

owners_stay : (n : ℕ) (old new : List Own) → map own_mark new ≡ map own_mark old → AreOwners n old → AreOwners n new
owners_stay n old [] e are = tt
owners_stay n [] (y ∷ ys) e are = absurd (no_first (own_mark y) (map own_mark ys) e)
owners_stay n (x ∷ xs) (y ∷ ys) e are = let first : own_mark y ≡ own_mark x = ap (λ l. get_or l 0 (own_mark x)) e in (
  ap (λ (mark : Deque × (ℕ × List (ℕ × List ℕ))). mark.1.0) first ∙ are.0,
  ap (λ (mark : Deque × (ℕ × List (ℕ × List ℕ))). mark.1.1) first ∙ are.1,
  owners_stay n xs ys (ap (drop 1) e) are.2,
)

thieves_stay : (n : ℕ) (owns later : List Own) (old new : List Thief) → map own_deque later ≡ map own_deque owns → map thief_mark new ≡ map thief_mark old → AreThieves n owns old → AreThieves n later new
thieves_stay n owns later old [] deques e are = tt
thieves_stay n owns later [] (y ∷ ys) deques e are = absurd (no_first (thief_mark y) (map thief_mark ys) e)
thieves_stay n owns later (x ∷ xs) (y ∷ ys) deques e are = let first : thief_mark y ≡ thief_mark x = ap (λ l. get_or l 0 (thief_mark x)) e in (
  ap (λ (mark : ℕ × (List Deque × List ℕ)). mark.0) first ∙ are.0,
  ap (λ (mark : ℕ × (List Deque × List ℕ)). mark.1.0) first ∙ are.1 ∙ sym deques,
  subst (λ l. ArePorts (n + 1) l) (sym (ap (λ (mark : ℕ × (List Deque × List ℕ)). mark.1.1) first)) are.2,
  thieves_stay (n + 1) owns later xs ys deques (ap (drop 1) e) are.3,
)

-- ends of which each has its mark are still all the ends of one call of `deques`
pub all_stay : (owns later : List Own) (thieves others : List Thief) → map own_mark later ≡ map own_mark owns → map thief_mark others ≡ map thief_mark thieves → AreAll owns thieves → AreAll later others
all_stay owns later thieves others ownlike thieflike are =
    let many : length later ≡ length owns = length_marked own_mark owns later ownlike in
    let deques : map own_deque later ≡ map own_deque owns = sym (marked_deques later) ∙ ap (λ l. map (λ (mark : Deque × (ℕ × List (ℕ × List ℕ))). mark.0) l) ownlike ∙ marked_deques owns in record {
      many = length_marked thief_mark thieves others thieflike ∙ are.many ∙ sym many;
      owners = subst (λ n. AreOwners n later) (sym many) (owners_stay (length owns) owns later ownlike are.owners);
      others = thieves_stay 0 owns later thieves others deques thieflike are.others;
    }

-- each thief of a group reaches all its deques
pub thieves_reach : (n : ℕ) (owns : List Own) (front : List Thief) (thief : Thief) (back : List Thief) → AreThieves n owns (front ++ thief ∷ back) → reach_of thief ≡ length owns
thieves_reach n owns [] thief back are = sym (length_map victim_deque thief.victims.items) ∙ ap length are.1 ∙ length_map own_deque owns
thieves_reach n owns (t ∷ ts) thief back are = thieves_reach (n + 1) owns ts thief back are.3
