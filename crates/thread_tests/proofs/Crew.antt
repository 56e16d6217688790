-- Ends of a group of deques go to workers, and back.
use Rattle.std.proofs.Common.{◌≡◌, ℕ, suc, ◌+◌, ◌<◌, List, [], ◌∷◌, ◌++◌, map, length, get_or, sym, refl, ap, ◌∙◌, subst, append_assoc, append-nil, length-append, arith}
use Rattle.steal_deque.specs.declared.own.Own.{Own}
use Rattle.steal_deque.specs.declared.thief.Thief.{Thief}
use Rattle.steal_deque.specs.Ends.{SameOwn}
use Rattle.steal_deque.specs.Groups.{AreAll, AreThieves, SameThief, reach_of}
use Rattle.steal_deque.proofs.Stays.{own_mark, thief_mark, own_stays, thief_stays, all_stay, thieves_reach}
use Rattle.thread_tests.specs.Crew.{last_first, AreCrew}

add_one : (n : ℕ) → n + 1 ≡ suc n
add_one n = omega arith

empty : {X : Type 0} (xs : List X) → length xs ≡ 0 → xs ≡ []
empty [] e = refl
empty (x ∷ xs) e = absurd (omega (arith, e))

module _ {W X : Type 0} where
  last_more : (f : W → X) (ws : List W) (w : W) → last_first f (ws ++ w ∷ []) ≡ f w ∷ last_first f ws
  last_more f [] w = refl
  last_more f (v ∷ ws) w = ap (λ l. l ++ f v ∷ []) (last_more f ws w)

  -- one item goes from one list to the other
  moved : (f : W → X) (front : List X) (ws : List W) (w : W) (x : X) → f w ≡ x → front ++ last_first f (ws ++ w ∷ []) ≡ (front ++ x ∷ []) ++ last_first f ws
  moved f front ws w x e = ap (λ l. front ++ l) (last_more f ws w ∙ ap (λ y. y ∷ last_first f ws) e) ∙ sym (append_assoc front (x ∷ []) (last_first f ws))

  length_last : (f : W → X) (ws : List W) → length (last_first f ws) ≡ length ws
  length_last f [] = refl
  length_last f (w ∷ ws) = length-append (last_first f ws) (f w ∷ []) ∙ ap (λ n. n + 1) (length_last f ws) ∙ add_one (length ws)

  pub last_same : (f : W → X) (xs ys : List W) → length ys ≡ length xs → ((i : ℕ) (d : W) → i < length xs → f (get_or ys i d) ≡ f (get_or xs i d)) → last_first f ys ≡ last_first f xs
  last_same f [] [] same each = refl
  last_same f [] (y ∷ ys) same each = absurd (omega (arith, same))
  last_same f (x ∷ xs) [] same each = absurd (omega (arith, same))
  last_same f (x ∷ xs) (y ∷ ys) same each = ap (λ z. last_first f ys ++ z ∷ []) (each 0 x (omega arith)) ∙ ap (λ l. l ++ f x ∷ []) (last_same f xs ys (omega (arith, same)) (λ i d h. each (suc i) d (omega (arith, h))))

map_more : {X Y : Type 0} (g : X → Y) (xs : List X) (x : X) → map g (xs ++ x ∷ []) ≡ map g xs ++ g x ∷ []
map_more g [] x = refl
map_more g (y ∷ ys) x = ap (λ l. g y ∷ l) (map_more g ys x)

map_last : {W X Y : Type 0} (g : X → Y) (f : W → X) (ws : List W) → map g (last_first f ws) ≡ last_first (λ w. g (f w)) ws
map_last g f [] = refl
map_last g f (w ∷ ws) = map_more g (last_first f ws) (f w) ∙ ap (λ l. l ++ g (f w) ∷ []) (map_last g f ws)

-- the same ends, for other names of the lists
pub shown : (all owns : List Own) (both thieves : List Thief) → all ≡ owns → both ≡ thieves → AreAll owns thieves → AreAll all both
shown all owns both thieves e f are = subst (λ o. AreAll o both) (sym e) (subst (λ t. AreAll owns t) (sym f) are)

module _ {W : Type 0} where
  -- of all ends these are not with the workers
  pub record IsForming (own_of : W → Own) (thief_of : W → Thief) (all : List Own) (both : List Thief) (owns : List Own) (thieves : List Thief) (workers : List W) : Type 0 where
    pub owned : owns ++ last_first own_of workers ≡ all
    pub thieving : thieves ++ last_first thief_of workers ≡ both

  pub forms : (own_of : W → Own) (thief_of : W → Thief) (owns : List Own) (thieves : List Thief) (workers : List W) → workers ≡ [] → IsForming own_of thief_of owns thieves owns thieves workers
  forms own_of thief_of owns thieves workers e = subst (λ ws. IsForming own_of thief_of owns thieves owns thieves ws) (sym e) (record { owned = append-nil owns; thieving = append-nil thieves })

  pub forms_one : (own_of : W → Own) (thief_of : W → Thief) (all : List Own) (both : List Thief) (owns less : List Own) (thieves fewer : List Thief) (workers : List W) (w : W) → IsForming own_of thief_of all both owns thieves workers
      → owns ≡ less ++ own_of w ∷ [] → thieves ≡ fewer ++ thief_of w ∷ [] → IsForming own_of thief_of all both less fewer (workers ++ w ∷ [])
  forms_one own_of thief_of all both owns less thieves fewer workers w is e f = record {
    owned = moved own_of less workers w (own_of w) refl ∙ ap (λ l. l ++ last_first own_of workers) (sym e) ∙ is.owned;
    thieving = moved thief_of fewer workers w (thief_of w) refl ∙ ap (λ l. l ++ last_first thief_of workers) (sym f) ∙ is.thieving;
  }

  pub none_short : (own_of : W → Own) (thief_of : W → Thief) (all : List Own) (both : List Thief) (owns less : List Own) (thieves : List Thief) (workers : List W) (own : Own) → IsForming own_of thief_of all both owns thieves workers → AreAll all both
      → owns ≡ less ++ own ∷ [] → thieves ≡ [] → ⊥
  none_short own_of thief_of all both owns less thieves workers own is are e f =
      let a : length all ≡ length owns + length workers = ap length (sym is.owned) ∙ length-append owns (last_first own_of workers) ∙ ap (λ n. length owns + n) (length_last own_of workers) in
      let b : length both ≡ length thieves + length workers = ap length (sym is.thieving) ∙ length-append thieves (last_first thief_of workers) ∙ ap (λ n. length thieves + n) (length_last thief_of workers) in
      let c : length owns ≡ length less + 1 = ap length e ∙ length-append less (own ∷ []) in
      let d : length thieves ≡ 0 = ap length f in
      let many = are.many in omega (arith, a, b, c, d, many)

  pub reaches : (own_of : W → Own) (thief_of : W → Thief) (all : List Own) (both : List Thief) (owns : List Own) (thieves fewer : List Thief) (workers : List W) (thief : Thief) → IsForming own_of thief_of all both owns thieves workers → AreAll all both
      → thieves ≡ fewer ++ thief ∷ [] → reach_of thief ≡ length all
  reaches own_of thief_of all both owns thieves fewer workers thief is are f =
      let whole : both ≡ fewer ++ thief ∷ last_first thief_of workers = sym is.thieving ∙ ap (λ l. l ++ last_first thief_of workers) f ∙ append_assoc fewer (thief ∷ []) (last_first thief_of workers) in
      thieves_reach 0 all fewer thief (last_first thief_of workers) (subst (λ l. AreThieves 0 all l) whole are.others)

  pub formed : (own_of : W → Own) (thief_of : W → Thief) (all : List Own) (both : List Thief) (owns : List Own) (thieves : List Thief) (workers : List W) → IsForming own_of thief_of all both owns thieves workers → AreAll all both → owns ≡ [] → AreCrew own_of thief_of workers
  formed own_of thief_of all both owns thieves workers is are e =
      let a : length all ≡ length owns + length workers = ap length (sym is.owned) ∙ length-append owns (last_first own_of workers) ∙ ap (λ n. length owns + n) (length_last own_of workers) in
      let b : length both ≡ length thieves + length workers = ap length (sym is.thieving) ∙ length-append thieves (last_first thief_of workers) ∙ ap (λ n. length thieves + n) (length_last thief_of workers) in
      let d : length owns ≡ 0 = ap length e in
      let many = are.many in
      let none : thieves ≡ [] = empty thieves (omega (arith, a, b, d, many)) in
      shown (last_first own_of workers) all (last_first thief_of workers) both (ap (λ l. l ++ last_first own_of workers) (sym e) ∙ is.owned) (ap (λ l. l ++ last_first thief_of workers) (sym none) ∙ is.thieving) are

  -- the ends go back
  pub parts : (own_of : W → Own) (thief_of : W → Thief) (workers : List W) (owns : List Own) (thieves : List Thief) → owns ≡ [] → thieves ≡ [] → IsForming own_of thief_of (last_first own_of workers) (last_first thief_of workers) owns thieves workers
  parts own_of thief_of workers owns thieves e f = record { owned = ap (λ l. l ++ last_first own_of workers) e; thieving = ap (λ l. l ++ last_first thief_of workers) f }

  pub parts_one : (own_of : W → Own) (thief_of : W → Thief) (all : List Own) (both : List Thief) (owns more : List Own) (thieves others : List Thief) (workers less : List W) (w : W) → IsForming own_of thief_of all both owns thieves workers
      → workers ≡ less ++ w ∷ [] → more ≡ owns ++ own_of w ∷ [] → others ≡ thieves ++ thief_of w ∷ [] → IsForming own_of thief_of all both more others less
  parts_one own_of thief_of all both owns more thieves others workers less w is e f g = record {
    owned = ap (λ l. l ++ last_first own_of less) f ∙ sym (moved own_of owns less w (own_of w) refl) ∙ ap (λ ws. owns ++ last_first own_of ws) (sym e) ∙ is.owned;
    thieving = ap (λ l. l ++ last_first thief_of less) g ∙ sym (moved thief_of thieves less w (thief_of w) refl) ∙ ap (λ ws. thieves ++ last_first thief_of ws) (sym e) ∙ is.thieving;
  }

  pub parted : (own_of : W → Own) (thief_of : W → Thief) (all : List Own) (both : List Thief) (owns : List Own) (thieves : List Thief) (workers : List W) → IsForming own_of thief_of all both owns thieves workers → workers ≡ [] → AreAll all both → AreAll owns thieves
  parted own_of thief_of all both owns thieves workers is e are = shown owns all thieves both
      (sym (append-nil owns) ∙ ap (λ ws. owns ++ last_first own_of ws) (sym e) ∙ is.owned)
      (sym (append-nil thieves) ∙ ap (λ ws. thieves ++ last_first thief_of ws) (sym e) ∙ is.thieving) are

  -- workers that kept the ends of their deques are still a crew
  pub crew_stays : (own_of : W → Own) (thief_of : W → Thief) (old new : List W) → length new ≡ length old
      → ((i : ℕ) (d : W) → i < length old → SameOwn (own_of (get_or old i d)) (own_of (get_or new i d)) × SameThief (thief_of (get_or old i d)) (thief_of (get_or new i d)))
      → AreCrew own_of thief_of old → AreCrew own_of thief_of new
  crew_stays own_of thief_of old new same each are = all_stay (last_first own_of old) (last_first own_of new) (last_first thief_of old) (last_first thief_of new)
      (map_last own_mark own_of new ∙ last_same (λ w. own_mark (own_of w)) old new same (λ i d h. own_stays (own_of (get_or old i d)) (own_of (get_or new i d)) (each i d h).0) ∙ sym (map_last own_mark own_of old))
      (map_last thief_mark thief_of new ∙ last_same (λ w. thief_mark (thief_of w)) old new same (λ i d h. thief_stays (thief_of (get_or old i d)) (thief_of (get_or new i d)) (each i d h).1) ∙ sym (map_last thief_mark thief_of old))
      are
