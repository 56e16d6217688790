-- The numbers of all Ready tasks are written anew.
use Rattle.std.proofs.Common.{◌≡◌, ℕ, zero, suc, ◌+◌, ◌<◌, ◌≤◌, true, Some, None, nat_eq, refl, sym, ap, subst, ◌∙◌, ◌⊎◌, inl, inr, arith, List, [], ◌∷◌, ◌++◌, length}
use Rattle.std.specs.Prelude.{slice_get}
use Rattle.std.specs.List.{IsDistinct}
use Rattle.std.specs.Map.{lookup, keys_of}
use Rattle.std.specs.Cmp.{nat_eq_equiv}
use Rattle.std.proofs.lemmas.List.{append-nil}
use Rattle.std.proofs.lemmas.Bool.Decides.{nat_tests}
use Rattle.std.proofs.lemmas.Map.Entries.{place_from_lookup, lookup_from_place}
use Rattle.task_states.specs.declared.states.TaskStatus.TheVariants.{Ready}
use Rattle.task_states.specs.States.{status_of}
use Rattle.task_states.proofs.Options.{not_none, same_some}
use Rattle.task_links.specs.declared.kept.Kept.{Kept}
use Rattle.task_links.specs.Kept.{opened}
use Rattle.task_links.specs.declared.queue.Queue.{Queue}
use Rattle.task_links.specs.Inside.{shown_entry}
use Rattle.task_links.specs.Queue.{is_queued, queue_len}
use Rattle.task_graph.specs.Graphs.{IsRefilled}

get_past : {X : Type 0} (front : List X) (x : X) (rest : List X) → slice_get (front ++ x ∷ rest) (length front) ≡ Some x
get_past [] x rest = refl
get_past (y ∷ front) x rest = get_past front x rest

length_more : {X : Type 0} (front : List X) (x : X) (rest : List X) → length front < length (front ++ x ∷ rest)
length_more [] x rest = omega arith
length_more (y ∷ front) x rest = let more = length_more front x rest in omega arith

length_one : {X : Type 0} (front : List X) (x : X) → length (front ++ x ∷ []) ≡ length front + 1
length_one [] x = refl
length_one (y ∷ front) x = let one = length_one front x in omega arith

regroup : {X : Type 0} (front : List X) (x : X) (rest : List X) → (front ++ x ∷ []) ++ rest ≡ front ++ x ∷ rest
regroup [] x rest = refl
regroup (y ∷ front) x rest = ap (λ ys. y ∷ ys) (regroup front x rest)

-- which items one more has
get_one : {X : Type 0} (front : List X) (x : X) (i : ℕ) (y : X) → slice_get (front ++ x ∷ []) i ≡ Some y → (slice_get front i ≡ Some y) ⊎ (x ≡ y)
get_one [] x zero y is = inr (same_some x y is)
get_one [] x (suc i) y is = absurd (not_none None y refl is)
get_one (z ∷ front) x zero y is = inl is
get_one (z ∷ front) x (suc i) y is = get_one front x i y is

module _ {K : Type 0} (entries : List (ℕ × Kept K)) where
  pub refill_start : (rest : List (ℕ × Kept K)) (ready : Queue) → rest ≡ entries → queue_len ready ≡ 0 → IsRefilled entries rest ready
  refill_start rest ready is len = record {
    front = [];
    whole = is;
    count = omega arith;
    queued = λ i q entry at. absurd (not_none None (q, entry) refl at);
  }

  pub refill_room : (q : ℕ) (e : Kept K) (all rest : List (ℕ × Kept K)) (ready : Queue) → all ≡ (q, e) ∷ rest → IsRefilled entries all ready → queue_len ready < length entries
  refill_room q e all rest ready is r =
      let more = length_more r.front (q, e) rest in
      let low = r.count in
      subst (λ xs. queue_len ready < length xs) (ap (λ xs. r.front ++ xs) (sym is) ∙ r.whole) (omega arith)

  pub refill_at : (q : ℕ) (e : Kept K) (all rest : List (ℕ × Kept K)) (ready : Queue) → all ≡ (q, e) ∷ rest → IsRefilled entries all ready → IsDistinct nat_eq (keys_of entries) → lookup (nat_eq q) entries ≡ Some e
  refill_at q e all rest ready is r distinct =
      lookup_from_place nat_eq_equiv entries (length r.front) q e distinct
      (ap (λ xs. slice_get xs (length r.front)) (sym (ap (λ xs. r.front ++ xs) (sym is) ∙ r.whole)) ∙ get_past r.front (q, e) rest)

  pub refill_step : (q : ℕ) (e : Kept K) (all rest : List (ℕ × Kept K)) (old new : Queue) → all ≡ (q, e) ∷ rest → IsRefilled entries all old
      → (status_of (shown_entry (opened e)) ≡ Ready → is_queued q new ≡ true) → ((k : ℕ) → is_queued k old ≡ true → is_queued k new ≡ true) → queue_len new ≤ queue_len old + 1 → IsRefilled entries rest new
  refill_step q e all rest old new is r here kept len = record {
    front = r.front ++ (q, e) ∷ [];
    whole = regroup r.front (q, e) rest ∙ ap (λ xs. r.front ++ xs) (sym is) ∙ r.whole;
    count = let low = r.count in let one = length_one r.front (q, e) in omega arith;
    queued = λ i k entry at ready. elim (get_one r.front (q, e) i (k, entry) at) [
      | inl before ↦ kept k (r.queued i k entry before ready)
      | inr same ↦
          let key : q ≡ k = ap (λ (p : ℕ × Kept K). p.0) same in
          let value : e ≡ entry = ap (λ (p : ℕ × Kept K). p.1) same in
          subst (λ n. is_queued n new ≡ true) key (here (ap (λ x. status_of (shown_entry (opened x))) value ∙ ready))
    ];
  }

  pub refill_end : (rest : List (ℕ × Kept K)) (ready : Queue) → rest ≡ [] → IsRefilled entries rest ready → (q : ℕ) (e : Kept K) → lookup (nat_eq q) entries ≡ Some e → status_of (shown_entry (opened e)) ≡ Ready → is_queued q ready ≡ true
  refill_end rest ready is r q e at status =
      let p = place_from_lookup (nat_eq q) entries e at in
      let whole : r.front ≡ entries = sym (append-nil r.front) ∙ ap (λ xs. r.front ++ xs) (sym is) ∙ r.whole in
      let key : p.1 ≡ q = (let test = p.3 in grind (arith, nat_tests)) in
      subst (λ n. is_queued n ready ≡ true) key (r.queued p.0 p.1 e (ap (λ xs. slice_get xs p.0) whole ∙ p.2) status)
