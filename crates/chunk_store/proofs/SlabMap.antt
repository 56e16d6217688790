-- A slab as the map of its entries: what it answers at each key, how many keys it has, and what a change does.
use Rattle.std.proofs.Common.{◌≡◌, ℕ, zero, suc, ◌+◌, ◌<◌, ◌==◌, true, false, cond, List, [], ◌∷◌, get_or, Option, Some, None, is_some, IsSome, count_by, refl, sym, ap, subst, ◌∙◌, zero-add, arith, rules}
use Rattle.std.specs.Ordering.{nat_cmp, eq_by_cmp}
use Rattle.std.specs.Cmp.{nat_cmp_total, unsigned_tied, unsigned_ties}
use Rattle.std.specs.FinMap as map
use Rattle.std.proofs.lemmas.Bool.Decides.{nat_tests}
use Rattle.std.proofs.lemmas.List.Sums.{sum_by-cons, sum_by-set}
use Rattle.slab.specs.Slab.{Slab, get, entries, entries_from, slab_len, Updates, ContainsKey, with_value as written}
use Rattle.slab.proofs.SlabLemmas.{ContainsKey-within, Updates-with_value}
use Rattle.chunk_store.specs.Contents.{Contents, value_at, contents_of, with_value}

module _ {B : Type 0} where
  -- no entry stands under a key below the first slot's
  find_below : (key first : ℕ) (slots : List (Option B)) → key < first → map.find nat_cmp key (entries_from first slots) ≡ None
  find_below key first [] below = refl
  find_below key first (None ∷ rest) below = find_below key (first + 1) rest (omega arith)
  find_below key first (Some value ∷ rest) below =
      let differs : eq_by_cmp nat_cmp key first ≡ false = unsigned_tied key first ∙ grind (arith, nat_tests) in
      rw (differs, find_below key (first + 1) rest (omega arith))

  -- the entries have at each key what the slot there has
  find-entries_from : (first key : ℕ) (slots : List (Option B)) → map.find nat_cmp (first + key) (entries_from first slots) ≡ get_or slots key None
  find-entries_from first key [] = refl
  find-entries_from first zero (None ∷ rest) = find_below (first + 0) (first + 1) rest (omega arith)
  find-entries_from first (suc key) (None ∷ rest) =
      let shift : first + suc key ≡ first + 1 + key = omega arith in
      rw shift (find-entries_from (first + 1) key rest)
  find-entries_from first zero (Some value ∷ rest) =
      let same : eq_by_cmp nat_cmp (first + 0) first ≡ true = unsigned_tied (first + 0) first ∙ grind (arith, nat_tests) in
      rw same
  find-entries_from first (suc key) (Some value ∷ rest) =
      let differs : eq_by_cmp nat_cmp (first + suc key) first ≡ false = unsigned_tied (first + suc key) first ∙ grind (arith, nat_tests) in
      let shift : first + suc key ≡ first + 1 + key = omega arith in
      ap (λ b. cond b (Some value) (map.find nat_cmp (first + suc key) (entries_from (first + 1) rest))) differs
      ∙ ap (λ k. map.find nat_cmp k (entries_from (first + 1) rest)) shift
      ∙ find-entries_from (first + 1) key rest

  len-entries_from : (first : ℕ) (slots : List (Option B)) → map.len (map.from_entries {R = nat_cmp} (entries_from first slots)) ≡ count_by is_some slots
  len-entries_from first [] = map.len-empty nat_cmp B
  len-entries_from first (None ∷ rest) = omega (arith, len-entries_from (first + 1) rest, sum_by-cons (λ o. cond (is_some o) 1 0) None rest)
  len-entries_from first (Some value ∷ rest) =
      let later = map.from_entries {R = nat_cmp} (entries_from (first + 1) rest) in
      let absent : map.get later first ≡ None = map.get-from_entries nat_cmp_total (entries_from (first + 1) rest) first ∙ find_below first (first + 1) rest (omega arith) in
      let one_more : map.len (map.insert later first value) ≡ map.len later + 1 = map.len-insert nat_cmp_total later first value ∙ ap (λ o. cond (is_some o) (map.len later) (map.len later + 1)) absent in
      omega (arith, one_more, len-entries_from (first + 1) rest, sum_by-cons (λ o. cond (is_some o) 1 0) (Some value) rest)

  -- the map of a slab's entries
  abbrev pub held : Slab B → map.FinMap nat_cmp B
  held slab = map.from_entries (entries slab)

  -- it answers what the slab answers
  pub get-held : (slab : Slab B) (key : ℕ) → map.get (held slab) key ≡ get slab key
  get-held slab key =
      map.get-from_entries nat_cmp_total (entries slab) key
      ∙ ap (λ k. map.find nat_cmp k (entries slab)) (sym (zero-add key))
      ∙ find-entries_from 0 key slab.slots

  -- it has as many keys
  pub len-held : (slab : Slab B) → map.len (held slab) ≡ slab_len slab
  len-held slab = len-entries_from 0 slab.slots

  -- a slab that has one slot changed answers so at each key
  pub get-updated : (old new : Slab B) (key : ℕ) (slot : Option B) → Updates old new key slot → (other : ℕ) → get new other ≡ cond (other == key) slot (get old other)
  get-updated old new key slot updates other = grind (arith, nat_tests, updates.changed, updates.others other)

  -- a slab that has one slot changed has so as a map
  pub get-held-updated : (old new : Slab B) (key : ℕ) (slot : Option B) → Updates old new key slot → (other : ℕ) → map.get (held new) other ≡ cond (other == key) slot (map.get (held old) other)
  get-held-updated old new key slot updates other =
      get-held new other
      ∙ get-updated old new key slot updates other
      ∙ ap (λ o. cond (other == key) slot o) (sym (get-held old other))

  -- a new value under one key is an insert into the map
  pub held-updated : (old new : Slab B) (key : ℕ) (value : B) → Updates old new key (Some value) → held new ≡ map.insert (held old) key value
  held-updated old new key value updates =
      map.same_map nat_cmp_total map.nat_cmp-IsAntisymmetric _ _ (λ other.
      get-held-updated old new key (Some value) updates other
      ∙ ap (λ b. cond b (Some value) (map.get (held old) other)) (unsigned_ties other key)
      ∙ sym (map.get-insert nat_cmp_total (held old) key value other))

  -- a slot that was emptied is a removal from the map
  pub held-emptied : (old new : Slab B) (key : ℕ) → Updates old new key None → held new ≡ map.remove (held old) key
  held-emptied old new key updates =
      map.same_map nat_cmp_total map.nat_cmp-IsAntisymmetric _ _ (λ other.
      get-held-updated old new key None updates other
      ∙ ap (λ b. cond b None (map.get (held old) other)) (unsigned_ties other key)
      ∙ sym (map.get-remove nat_cmp_total (held old) key other))

  one_if_some : (slot : Option B) → IsSome slot → ◌≡◌ {A = ℕ} (cond (is_some slot) 1 0) 1
  one_if_some None present = absurd (cc)
  one_if_some (Some value) present = refl

  -- a value written over another leaves as many
  slab_len-with_value : (slab : Slab B) (key : ℕ) (value : B) → ContainsKey slab key → slab_len (written slab key value) ≡ slab_len slab
  slab_len-with_value slab key value present =
      let within = ContainsKey-within slab key present in
      let full : cond (is_some (get slab key)) 1 0 ≡ 1 = one_if_some (get slab key) present in
      omega (arith, full, sum_by-set (λ o. cond (is_some o) 1 0) slab.slots key (Some value) None within)

  -- a key that holds something has a slot with a value
  pub present-contents : (slab : Slab B) (contents : Contents B) (key : ℕ) → contents_of slab ≡ contents → IsSome (value_at contents key) → ContainsKey slab key
  present-contents slab contents key same present = subst IsSome (ap (λ c. value_at c key) (sym same) ∙ get-held slab key) present

  -- and the other way round
  pub contents-present : (slab : Slab B) (contents : Contents B) (key : ℕ) → contents_of slab ≡ contents → ContainsKey slab key → IsSome (value_at contents key)
  contents-present slab contents key same present = subst IsSome (sym (get-held slab key) ∙ ap (λ c. value_at c key) same) present

  none_if_not_some : (slot : Option B) → (IsSome slot → ⊥) → slot ≡ None
  none_if_not_some None empty = refl
  none_if_not_some (Some value) empty = absurd (empty (search rules))

  -- a key without a value holds nothing
  pub contents-absent : (slab : Slab B) (contents : Contents B) (key : ℕ) → contents_of slab ≡ contents → (ContainsKey slab key → ⊥) → value_at contents key ≡ None
  contents-absent slab contents key same empty =
      ap (λ c. value_at c key) (sym same) ∙ get-held slab key ∙ none_if_not_some (get slab key) empty

  -- a value written over another is that write in the contents
  pub contents-written : (slab : Slab B) (key : ℕ) (value : B) → ContainsKey slab key → contents_of (written slab key value) ≡ with_value (contents_of slab) key value
  contents-written slab key value present =
      let same = held-updated slab (written slab key value) key value (Updates-with_value slab key value present) in
      rw (same, slab_len-with_value slab key value present)
