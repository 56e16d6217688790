-- The tasks that contracts see, behind the fields.
use Rattle.std.proofs.Common.{◌≡◌, ℕ, suc, zero, ◌+◌, ◌<◌, Bool, true, false, cond, ◌||◌, List, [], ◌∷◌, length, Option, Some, None, is_some, nat_eq, refl, ap, ◌∙◌, arith}
use Rattle.std.specs.Prelude.{map as each, slice_get}
use Rattle.std.specs.Option.{option_map}
use Rattle.std.specs.List.{IsDistinct}
use Rattle.std.specs.Map.{lookup, keys_of}
use Rattle.std.specs.Ordering.{nat_cmp}
use Rattle.std.specs.Cmp.{nat_cmp_total, nat_eq_equiv, unsigned_tied}
use Rattle.std.specs.FinMap as map
use Rattle.std.specs.FinSet as numbers
use Rattle.std.proofs.lemmas.Bool.Decides.{nat_tests}
use Rattle.std.proofs.lemmas.Map.{lookup-none}
use Rattle.std.proofs.lemmas.Map.Keys.{IsDistinct-tail}
use Rattle.std.proofs.lemmas.Map.Entries.{none_past_head}
use Rattle.task_states.specs.States.{Unfinished}
use Rattle.cht_ids.specs.declared.refs.Ref.{Ref}
use Rattle.task_states.proofs.Maps.{test_same, test_apart}
use Rattle.task_links.specs.declared.callers.Caller.{Caller}
use Rattle.task_links.specs.declared.kept.Kept.{Kept}
use Rattle.task_links.specs.Kept.{opened}
use Rattle.task_links.specs.Inside.{shown_entry}
use Rattle.task_graph.specs.Graphs.{tasks_of, stopped_from}

map_cond : {A B : Type 0} (f : A → B) (b : Bool) (x y : Option A) → cond b (option_map f x) (option_map f y) ≡ option_map f (cond b x y)
map_cond f true x y = refl
map_cond f false x y = refl

module _ {K : Type 0} where
  find-shown : (es : List (ℕ × Kept K)) (q : ℕ) → map.find nat_cmp q (each (λ e. (e.0, shown_entry (opened e.1))) es) ≡ option_map shown_entry (option_map opened (lookup (nat_eq q) es))
  find-shown [] q = refl
  find-shown (e ∷ es) q =
      ap (λ b. cond b (Some (shown_entry (opened e.1))) (map.find nat_cmp q (each (λ x. (x.0, shown_entry (opened x.1))) es))) (unsigned_tied q e.0)
      ∙ ap (cond (nat_eq q e.0) (Some (shown_entry (opened e.1)))) (find-shown es q)
      ∙ map_cond shown_entry (nat_eq q e.0) (Some (opened e.1)) (option_map opened (lookup (nat_eq q) es))
      ∙ ap (option_map shown_entry) (map_cond opened (nat_eq q e.0) (Some e.1) (lookup (nat_eq q) es))

  -- the task with a number
  pub get-tasks_of : (es : List (ℕ × Kept K)) (q : ℕ) → map.get (tasks_of es) q ≡ option_map shown_entry (option_map opened (lookup (nat_eq q) es))
  unfolding tasks_of
  get-tasks_of es q = map.get-from_entries nat_cmp_total (each (λ e. (e.0, shown_entry (opened e.1))) es) q ∙ find-shown es q

  len-shown : (es : List (ℕ × Kept K)) → IsDistinct nat_eq (keys_of es) → map.len (map.from_entries {R = nat_cmp} (each (λ e. (e.0, shown_entry (opened e.1))) es)) ≡ length es
  len-shown [] distinct = map.len-empty nat_cmp (Unfinished Ref K)
  len-shown (e ∷ es) distinct =
      let rest : map.FinMap nat_cmp (Unfinished Ref K) = map.from_entries (each (λ x. (x.0, shown_entry (opened x.1))) es) in
      let absent : map.get rest e.0 ≡ None =
      map.get-from_entries nat_cmp_total (each (λ x. (x.0, shown_entry (opened x.1))) es) e.0
      ∙ find-shown es e.0
      ∙ ap (λ o. option_map shown_entry (option_map opened o)) (lookup-none (nat_eq e.0) es (none_past_head nat_eq_equiv e.0 e es distinct (grind (arith, nat_tests)))) in
      let one_more : map.len (map.insert rest e.0 (shown_entry (opened e.1))) ≡ map.len rest + 1 =
      map.len-insert nat_cmp_total rest e.0 (shown_entry (opened e.1))
      ∙ ap (λ o. cond (is_some o) (map.len rest) (map.len rest + 1)) absent in
      omega (arith, one_more, len-shown es (IsDistinct-tail nat_eq e.0 (keys_of es) distinct))

  -- as many as the entries
  pub len-tasks_of : (es : List (ℕ × Kept K)) → IsDistinct nat_eq (keys_of es) → map.len (tasks_of es) ≡ length es
  unfolding tasks_of
  len-tasks_of es distinct = len-shown es distinct

-- whether a row is that of a stopped caller
abbrev pub flag : Option Caller → Bool
flag None = false
flag (Some row) = row.stopped

abbrev pub has : numbers.FinSet nat_cmp → ℕ → Bool
has s q = numbers.contains s q

pub has_inserted : (s : numbers.FinSet nat_cmp) (k q : ℕ) → has (numbers.insert s k) q ≡ (nat_eq q k || has s q)
has_inserted s k q = numbers.contains-insert nat_cmp_total s k q ∙ ap (λ b. b || has s q) (unsigned_tied q k)

none_below : (first : ℕ) (rows : List Caller) (q : ℕ) → q < first → has (stopped_from first rows) q ≡ false
unfolding stopped_from
none_below first [] q low = numbers.contains-empty nat_cmp q
none_below first (row ∷ rows) q low =
    elim row.stopped as (λ b. has (cond b (numbers.insert (stopped_from (suc first) rows) first) (stopped_from (suc first) rows)) q ≡ false) [
      | true ↦ has_inserted (stopped_from (suc first) rows) first q ∙ ap (λ b. b || has (stopped_from (suc first) rows) q) (test_apart q first (λ same. omega arith)) ∙ none_below (suc first) rows q (omega arith)
      | false ↦ none_below (suc first) rows q (omega arith)
    ]

has-from : (first : ℕ) (rows : List Caller) (i q : ℕ) → q ≡ first + i → has (stopped_from first rows) q ≡ flag (slice_get rows i)
unfolding stopped_from
has-from first [] i q at = numbers.contains-empty nat_cmp q
has-from first (row ∷ rows) zero q at =
    let same : q ≡ first = omega arith in
    elim row.stopped as (λ b. has (cond b (numbers.insert (stopped_from (suc first) rows) first) (stopped_from (suc first) rows)) q ≡ b) [
      | true ↦ has_inserted (stopped_from (suc first) rows) first q ∙ ap (λ b. b || has (stopped_from (suc first) rows) q) (ap (λ k. nat_eq k first) same ∙ test_same first)
      | false ↦ none_below (suc first) rows q (omega arith)
    ]
has-from first (row ∷ rows) (suc i) q at =
    let rest = has-from (suc first) rows i q (omega arith) in
    elim row.stopped as (λ b. has (cond b (numbers.insert (stopped_from (suc first) rows) first) (stopped_from (suc first) rows)) q ≡ flag (slice_get rows i)) [
      | true ↦ has_inserted (stopped_from (suc first) rows) first q ∙ ap (λ b. b || has (stopped_from (suc first) rows) q) (test_apart q first (λ same. omega arith)) ∙ rest
      | false ↦ rest
    ]

-- which callers are stopped
pub has-stopped : (rows : List Caller) (q : ℕ) → has (stopped_from 0 rows) q ≡ flag (slice_get rows q)
has-stopped rows q = has-from 0 rows q q (omega arith)
