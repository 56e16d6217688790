-- Finite maps of lists, and what a replay asks of them, read off the lists. What is read off lists computes.
use Rattle.std.proofs.Common.{◌≡◌, ℕ, zero, suc, Bool, true, false, cond, not, nat_eq, nat_cmp, max, List, [], ◌∷◌, length, map as each, Option, None, Some, refl, sym, ap, ◌∙◌}
use Rattle.std.specs.Option.{option_map}
use Rattle.std.specs.List.{list_any, fold}
use Rattle.std.specs.Cmp.{nat_cmp_total}
use Rattle.std.specs.FinMap as map
use Rattle.std.specs.FinMap.{find, put}
use Rattle.task_states.specs.Maps.{each_changed, put_at}
use Rattle.task_states.proofs.Maps.{same_maps, get-each_changed}
use Rattle.name_states.specs.declared.holder.Holder.{Holder}
use Rattle.name_states.specs.States.{NameState, IdRecord, BodyRecord, id_at}
use Rattle.name_states.specs.Reached.{keeps_up, leads_up, is_reached_within, is_reached, is_kept, swept}
use Rattle.name_states.specs.Steps.{with_copy, copied}
use Rattle.name_states.proofs.Basics.{same_from_test, get_retained, get_removed}
use Rattle.name_machine.proofs.Values.{find_first}

same_cond : {X : Type 0} (b : Bool) (x : X) → x ≡ cond b x x
same_cond true x = refl
same_cond false x = refl

front : {X : Type 0} (b p : Bool) → (b ≡ true → p ≡ true) → (x : X) (o : Option X) → cond b (Some x) (cond p o None) ≡ cond p (cond b (Some x) o) None
front true p h x o = sym (ap (λ c. cond c (Some x) None) (h refl))
front false p h x o = refl

back : {X : Type 0} (b p : Bool) → (b ≡ true → p ≡ false) → (x : X) (o : Option X) → cond p o None ≡ cond p (cond b (Some x) o) None
back true true h x o = absurd (let clash : true ≡ false = h refl in cc)
back true false h x o = refl
back false p h x o = refl

module _ {X : Type 0} where
  -- the map of a list
  abbrev pub made : List (ℕ × X) → map.FinMap nat_cmp X
  made es = map.from_entries es

  -- the entries of that map, in its order
  abbrev pub in_order : List (ℕ × X) → List (ℕ × X)
  in_order [] = []
  in_order (e ∷ es) = put nat_cmp e.0 e.1 (in_order es)

  no_entries : (es : List (ℕ × X)) → length es ≡ 0 → es ≡ []
  no_entries [] is = refl
  no_entries (e ∷ es) is = absurd (cc)

  pub made_entries : (es : List (ℕ × X)) → map.entries (made es) ≡ in_order es
  made_entries [] = no_entries (map.entries (map.empty {X = X} {R = nat_cmp})) (sym (map.len-entries map.empty) ∙ map.len-empty nat_cmp X)
  made_entries (e ∷ es) = map.entries-insert nat_cmp_total (made es) e.0 e.1 ∙ ap (put nat_cmp e.0 e.1) (made_entries es)

  pub made_get : (es : List (ℕ × X)) (q : ℕ) → map.get (made es) q ≡ find nat_cmp q es
  made_get es q = map.get-from_entries nat_cmp_total es q

  -- the entries whose keys pass a test
  abbrev pub only : (ℕ → Bool) → List (ℕ × X) → List (ℕ × X)
  only p [] = []
  only p (e ∷ es) = cond (p e.0) (e ∷ only p es) (only p es)

  find_only : (p : ℕ → Bool) (es : List (ℕ × X)) (q : ℕ) → find nat_cmp q (only p es) ≡ cond (p q) (find nat_cmp q es) None
  find_only p [] q = same_cond (p q) None
  find_only p (e ∷ es) q =
      let rest = find_only p es q in
      let whole = ap (λ o. cond (p q) o None) (sym (find_first q e.0 e.1 es)) in
      elim (p e.0) as (λ b. p e.0 ≡ b → find nat_cmp q (cond b (e ∷ only p es) (only p es)) ≡ cond (p q) (find nat_cmp q (e ∷ es)) None) [
        | true ↦ λ at.
            find_first q e.0 e.1 (only p es)
            ∙ ap (cond (nat_eq q e.0) (Some e.1)) rest
            ∙ front (nat_eq q e.0) (p q) (λ same. ap p (same_from_test q e.0 same) ∙ at) e.1 (find nat_cmp q es)
            ∙ whole
        | false ↦ λ at. rest ∙ back (nat_eq q e.0) (p q) (λ same. ap p (same_from_test q e.0 same) ∙ at) e.1 (find nat_cmp q es) ∙ whole
      ] refl

  pub made_only : (p : ℕ → Bool) (es : List (ℕ × X)) → map.retain_keys (made es) p ≡ made (only p es)
  made_only p es =
      same_maps _ _ (λ q. get_retained (made es) p q ∙ ap (λ o. cond (p q) o None) (made_get es q) ∙ sym (find_only p es q) ∙ sym (made_get (only p es) q))

  turned : (b : Bool) (o : Option X) → cond b None o ≡ cond (not b) o None
  turned true o = refl
  turned false o = refl

  -- all but a key
  abbrev pub but : ℕ → List (ℕ × X) → List (ℕ × X)
  but key es = only (λ n. not (nat_eq n key)) es

  pub made_but : (key : ℕ) (es : List (ℕ × X)) → map.remove (made es) key ≡ made (but key es)
  made_but key es =
      same_maps _ _ (λ q.
      get_removed (made es) key q
      ∙ ap (λ o. cond (nat_eq q key) None o) (made_get es q)
      ∙ turned (nat_eq q key) (find nat_cmp q es)
      ∙ sym (find_only (λ n. not (nat_eq n key)) es q)
      ∙ sym (made_get (but key es) q))

  -- each value changed
  abbrev pub each_entry : (X → X) → List (ℕ × X) → List (ℕ × X)
  each_entry f [] = []
  each_entry f (e ∷ es) = (e.0, f e.1) ∷ each_entry f es

  map_cond : (f : X → X) (b : Bool) (x : X) (o : Option X) → option_map f (cond b (Some x) o) ≡ cond b (Some (f x)) (option_map f o)
  map_cond f true x o = refl
  map_cond f false x o = refl

  find_each : (f : X → X) (es : List (ℕ × X)) (q : ℕ) → find nat_cmp q (each_entry f es) ≡ option_map f (find nat_cmp q es)
  find_each f [] q = refl
  find_each f (e ∷ es) q =
      find_first q e.0 (f e.1) (each_entry f es)
      ∙ ap (cond (nat_eq q e.0) (Some (f e.1))) (find_each f es q)
      ∙ sym (map_cond f (nat_eq q e.0) e.1 (find nat_cmp q es))
      ∙ ap (option_map f) (sym (find_first q e.0 e.1 es))

  pub made_each : (f : X → X) (es : List (ℕ × X)) → each_changed f (made es) ≡ made (each_entry f es)
  made_each f es = same_maps _ _ (λ q. get-each_changed f (made es) q ∙ ap (option_map f) (made_get es q) ∙ sym (find_each f es q) ∙ sym (made_get (each_entry f es) q))

  -- a value put under a key, if there is one
  abbrev pub onto_list : List (ℕ × X) → ℕ → Option X → List (ℕ × X)
  onto_list es key None = es
  onto_list es key (Some x) = (key, x) ∷ es

  pub made_put : (es : List (ℕ × X)) (key : ℕ) (o : Option X) → put_at (made es) key o ≡ made (onto_list es key o)
  made_put es key None = refl
  made_put es key (Some x) = refl

-- ---- Names

abbrev pub nm : List (ℕ × IdRecord) → List (ℕ × BodyRecord ℕ) → NameState ℕ
nm ids bodies = record { ids = made ids; bodies = made bodies }

-- one more identifier of what another one names
abbrev pub with_copy_listed : List (ℕ × IdRecord) → ℕ → Holder → Option IdRecord → List (ℕ × IdRecord)
with_copy_listed ids number holder None = ids
with_copy_listed ids number holder (Some entry) = (number, record entry { holder = holder }) ∷ ids

abbrev pub copied_listed : List (ℕ × IdRecord) → ℕ → ℕ → Holder → List (ℕ × IdRecord)
copied_listed ids from number holder = with_copy_listed ids number holder (find nat_cmp from ids)

with_copy_same : (ids : List (ℕ × IdRecord)) (bodies : List (ℕ × BodyRecord ℕ)) (number : ℕ) (holder : Holder) (o : Option IdRecord)
    → with_copy (nm ids bodies) number holder o ≡ nm (with_copy_listed ids number holder o) bodies
with_copy_same ids bodies number holder None = refl
with_copy_same ids bodies number holder (Some entry) = refl

pub copied_same : (ids : List (ℕ × IdRecord)) (bodies : List (ℕ × BodyRecord ℕ)) (from number : ℕ) (holder : Holder)
    → copied (nm ids bodies) from number holder ≡ nm (copied_listed ids from number holder) bodies
copied_same ids bodies from number holder = ap (with_copy (nm ids bodies) number holder) (made_get ids from) ∙ with_copy_same ids bodies number holder (find nat_cmp from ids)

-- which bodies are reached
abbrev pub reach : ℕ → List (ℕ × IdRecord) → ℕ → Bool
reach zero ids body = false
reach (suc depth) ids body = list_any (λ number. leads_up (reach depth ids) body (find nat_cmp number ids)) (each (λ e. e.0) (in_order ids))

within_same : (depth : ℕ) (ids : List (ℕ × IdRecord)) (bodies : List (ℕ × BodyRecord ℕ)) (body : ℕ) → is_reached_within depth (nm ids bodies) body ≡ reach depth ids body
within_same zero ids bodies body = refl
within_same (suc depth) ids bodies body =
    λ i. list_any (λ number. leads_up (λ n. within_same depth ids bodies n i) body (made_get ids number i)) (each (λ e. e.0) (made_entries ids i))

abbrev pub deep : List (ℕ × BodyRecord ℕ) → ℕ
deep bodies = suc (fold max 0 (each (λ e. e.0) (in_order bodies)))

reached_same : (ids : List (ℕ × IdRecord)) (bodies : List (ℕ × BodyRecord ℕ)) (body : ℕ) → is_reached (nm ids bodies) body ≡ reach (deep bodies) ids body
reached_same ids bodies body =
    ap (λ es. is_reached_within (suc (fold max 0 (each (λ e. e.0) es))) (nm ids bodies) body) (made_entries bodies) ∙ within_same (deep bodies) ids bodies body

abbrev pub is_up : (ℕ → Bool) → Option IdRecord → Bool
is_up passes None = false
is_up passes (Some entry) = keeps_up passes entry.holder

up_same : (ids : List (ℕ × IdRecord)) (bodies : List (ℕ × BodyRecord ℕ)) (o : Option IdRecord) → is_kept (nm ids bodies) o ≡ is_up (reach (deep bodies) ids) o
up_same ids bodies None = refl
up_same ids bodies (Some entry) = ap (λ (passes : ℕ → Bool). keeps_up passes entry.holder) (λ i. λ n. reached_same ids bodies n i)

-- what a sweep leaves
abbrev pub left_ids : List (ℕ × IdRecord) → List (ℕ × BodyRecord ℕ) → List (ℕ × IdRecord)
left_ids ids bodies = only (λ n. is_up (reach (deep bodies) ids) (find nat_cmp n ids)) ids

abbrev pub left_bodies : List (ℕ × IdRecord) → List (ℕ × BodyRecord ℕ) → List (ℕ × BodyRecord ℕ)
left_bodies ids bodies = only (reach (deep bodies) ids) bodies

pub swept_same : (ids : List (ℕ × IdRecord)) (bodies : List (ℕ × BodyRecord ℕ)) → swept (nm ids bodies) ≡ nm (left_ids ids bodies) (left_bodies ids bodies)
swept_same ids bodies =
    let up : (n : ℕ) → is_kept (nm ids bodies) (id_at (nm ids bodies) n) ≡ is_up (reach (deep bodies) ids) (find nat_cmp n ids) = λ n.
    ap (is_kept (nm ids bodies)) (made_get ids n) ∙ up_same ids bodies (find nat_cmp n ids) in
    let ids_are = ap (map.retain_keys (made ids)) (λ i. λ n. up n i) ∙ made_only (λ n. is_up (reach (deep bodies) ids) (find nat_cmp n ids)) ids in
    let bodies_are = ap (map.retain_keys (made bodies)) (λ i. λ n. reached_same ids bodies n i) ∙ made_only (reach (deep bodies) ids) bodies in
    λ i. record { ids = ids_are i; bodies = bodies_are i }
