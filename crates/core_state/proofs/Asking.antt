-- The asks as they are kept, and as contracts see them.
use Rattle.std.proofs.Common.{◌≡◌, ℕ, ◌+◌, Bool, true, false, ◌&&◌, cond, List, [], ◌∷◌, length, Option, Some, None, is_some, nat_eq, refl, sym, ap, ◌∙◌, arith}
use Rattle.std.specs.Prelude.{map as each, IfSome, IfNone}
use Rattle.std.specs.Option.{option_map}
use Rattle.std.specs.List.{list_any, IsDistinct}
use Rattle.std.specs.Map.{lookup, keys_of}
use Rattle.std.specs.Ordering.{nat_cmp}
use Rattle.std.specs.Cmp.{nat_cmp_total, nat_eq_equiv, unsigned_tied}
use Rattle.std.specs.FinMap as map
use Rattle.std.proofs.lemmas.Bool.Decides.{nat_tests}
use Rattle.std.proofs.lemmas.Map.{lookup-none}
use Rattle.std.proofs.lemmas.Map.Keys.{IsDistinct-tail}
use Rattle.std.proofs.lemmas.Map.Entries.{none_past_head}
use Rattle.cht_ids.specs.declared.refs.Ref.{Ref}
use Rattle.name_states.proofs.Basics.{none_not_some, same_some, same_from_test, test_same}
use Rattle.name_machine.specs.States.{Ask, has_ask, is_of}
use Rattle.name_machine.specs.Control.{is_uncollected}
use Rattle.name_machine.proofs.Values.{any_from, any_to}
use Rattle.core_state.specs.declared.asked.Kept.{Kept}
use Rattle.core_state.specs.AskTable.{IsAskOf}
use Rattle.core_state.specs.Lists.{is_listed}
use Rattle.core_state.specs.Asked.{shown_ask, asks_of, kept_at, AreListed}

map_cond : {A B : Type 0} (f : A → B) (b : Bool) (x y : Option A) → cond b (option_map f x) (option_map f y) ≡ option_map f (cond b x y)
map_cond f true x y = refl
map_cond f false x y = refl

find_shown : (es : List (ℕ × Kept)) (q : ℕ) → map.find nat_cmp q (each (λ e. (e.0, shown_ask e.1)) es) ≡ option_map shown_ask (kept_at es q)
find_shown [] q = refl
find_shown (e ∷ es) q =
    ap (λ b. cond b (Some (shown_ask e.1)) (map.find nat_cmp q (each (λ x. (x.0, shown_ask x.1)) es))) (unsigned_tied q e.0)
    ∙ ap (cond (nat_eq q e.0) (Some (shown_ask e.1))) (find_shown es q)
    ∙ map_cond shown_ask (nat_eq q e.0) (Some e.1) (lookup (nat_eq q) es)

-- the ask of a task
pub get-asks_of : (es : List (ℕ × Kept)) (q : ℕ) → map.get (asks_of es) q ≡ option_map shown_ask (kept_at es q)
unfolding asks_of
get-asks_of es q = map.get-from_entries nat_cmp_total (each (λ e. (e.0, shown_ask e.1)) es) q ∙ find_shown es q

behind : (found : Option Kept) (ask : Ask (Unit {0}) Ref) → option_map shown_ask found ≡ Some ask → (kept : Kept) × (found ≡ Some kept) × (shown_ask kept ≡ ask)
behind None ask is = absurd (none_not_some refl is)
behind (Some kept) ask is = (kept, refl, same_some (shown_ask kept) ask is)

-- how an ask is kept
pub kept_behind : (es : List (ℕ × Kept)) (q : ℕ) (ask : Ask (Unit {0}) Ref) → map.get (asks_of es) q ≡ Some ask
    → (kept : Kept) × (kept_at es q ≡ Some kept) × (shown_ask kept ≡ ask)
kept_behind es q ask is = behind (kept_at es q) ask (sym (get-asks_of es q) ∙ is)

pub shown_at : (es : List (ℕ × Kept)) (q : ℕ) (kept : Kept) → kept_at es q ≡ Some kept → map.get (asks_of es) q ≡ Some (shown_ask kept)
shown_at es q kept is = get-asks_of es q ∙ ap (option_map shown_ask) is

len_shown : (es : List (ℕ × Kept)) → IsDistinct nat_eq (keys_of es) → map.len (map.from_entries {R = nat_cmp} (each (λ e. (e.0, shown_ask e.1)) es)) ≡ length es
len_shown [] distinct = map.len-empty nat_cmp (Ask (Unit {0}) Ref)
len_shown (e ∷ es) distinct =
    let rest : map.FinMap nat_cmp (Ask (Unit {0}) Ref) = map.from_entries (each (λ x. (x.0, shown_ask x.1)) es) in
    let absent : map.get rest e.0 ≡ None =
    map.get-from_entries nat_cmp_total (each (λ x. (x.0, shown_ask x.1)) es) e.0
    ∙ find_shown es e.0
    ∙ ap (option_map shown_ask) (lookup-none (nat_eq e.0) es (none_past_head nat_eq_equiv e.0 e es distinct (grind (arith, nat_tests)))) in
    let one_more : map.len (map.insert rest e.0 (shown_ask e.1)) ≡ map.len rest + 1 =
    map.len-insert nat_cmp_total rest e.0 (shown_ask e.1)
    ∙ ap (λ o. cond (is_some o) (map.len rest) (map.len rest + 1)) absent in
    omega (arith, one_more, len_shown es (IsDistinct-tail nat_eq e.0 (keys_of es) distinct))

-- as many as the entries
pub len-asks_of : (es : List (ℕ × Kept)) → IsDistinct nat_eq (keys_of es) → map.len (asks_of es) ≡ length es
unfolding asks_of
len-asks_of es distinct = len_shown es distinct

-- what was delivered
pub delivered_is : (es : List (ℕ × Kept)) (q : ℕ) (kept : Kept) → Some kept ≡ kept_at es q
    → (ask : Ask (Unit {0}) Ref) → map.get (asks_of es) q ≡ Some ask → kept.delivered ≡ ask.delivered
delivered_is es q kept is ask found =
    let same : shown_ask kept ≡ ask = same_some (shown_ask kept) ask (sym (shown_at es q kept (sym is)) ∙ found) in
    ap (λ (a : Ask (Unit {0}) Ref). a.delivered) same

pub not_asked : (es : List (ℕ × Kept)) (q : ℕ) → None ≡ kept_at es q → (ask : Ask (Unit {0}) Ref) → map.get (asks_of es) q ≡ Some ask → ⊥
not_asked es q is ask found = none_not_some (get-asks_of es q ∙ ap (option_map shown_ask) (sym is)) found

both : (a b : Bool) → (a && b) ≡ true → (a ≡ true) × (b ≡ true)
both true b is = (refl, is)
both false b is = absurd (let clash : false ≡ true = is in cc)

all_three : (a b c : Bool) → (a && b && c) ≡ true → (a ≡ true) × (b ≡ true) × (c ≡ true)
all_three a b c is = let outer = both (a && b) c is in let inner = both a b outer.0 in (inner.0, inner.1, outer.1)

three : (a b c : Bool) → a ≡ true → b ≡ true → c ≡ true → (a && b && c) ≡ true
three a b c p q r = ap (λ x. x && b && c) p ∙ ap (λ y. y && c) q ∙ r

module _ (es : List (ℕ × Kept)) (outputs : List (ℕ × ℕ)) (lists : List (List ℕ)) (rightly : AreListed es outputs lists) where
  -- a task in a caller's list is one that the caller asked
  pub asked_by : (caller task : ℕ) → is_listed lists caller task ≡ true → IsAskOf (asks_of es) caller task
  asked_by caller task is =
      let kept = rightly.own caller task is in
      record { ask = shown_ask kept.0; there = shown_at es task kept.0 kept.1; own = kept.2 }

  asks_some : (caller task : ℕ) → is_listed lists caller task ≡ true → has_ask (asks_of es) caller ≡ true
  asks_some caller task is =
      let kept = rightly.own caller task is in
      any_from (is_of caller) (asks_of es) task (shown_ask kept.0) (shown_at es task kept.0 kept.1) (ap (λ n. nat_eq n caller) kept.2 ∙ test_same caller)

  asks_none : (caller : ℕ) → ((task : ℕ) → is_listed lists caller task ≡ false) → has_ask (asks_of es) caller ≡ false
  asks_none caller none =
      elim (has_ask (asks_of es) caller) as (λ b. has_ask (asks_of es) caller ≡ b → b ≡ false) [
        | true ↦ λ has.
            let one = any_to (is_of caller) (asks_of es) has in
            let kept = kept_behind es one.0 one.1 one.2 in
            let own : kept.0.caller ≡ caller = ap (λ (a : Ask (Unit {0}) Ref). a.caller) kept.2 ∙ same_from_test one.1.caller caller one.3 in
            let clash : false ≡ true = sym (none one.0) ∙ ap (λ c. is_listed lists c one.0) (sym own) ∙ rightly.listed one.0 kept.0 kept.1 in
            absurd (cc)
        | false ↦ λ is. refl
      ] refl

  -- a task that was found in a caller's list, if one was found
  pub any_asked : (caller : ℕ) (found : Option ℕ) → IfSome found (λ task. is_listed lists caller task ≡ true) → IfSome found (IsAskOf (asks_of es) caller)
  any_asked caller None is = tt
  any_asked caller (Some task) is = asked_by caller task is

  -- and none was found exactly where the caller has no ask
  pub any_is : (caller : ℕ) (found : Option ℕ) → IfSome found (λ task. is_listed lists caller task ≡ true) → IfNone found ((task : ℕ) → is_listed lists caller task ≡ false)
      → is_some found ≡ has_ask (asks_of es) caller
  any_is caller None some none = sym (asks_none caller none)
  any_is caller (Some task) some none = sym (asks_some caller task some)

  -- no ask has a number that leads nowhere
  pub no_output : (caller number : ℕ) → lookup (nat_eq number) outputs ≡ None → list_any (is_uncollected caller number) (map.values (asks_of es)) ≡ false
  no_output caller number none =
      elim (list_any (is_uncollected caller number) (map.values (asks_of es))) as (λ b. list_any (is_uncollected caller number) (map.values (asks_of es)) ≡ b → b ≡ false) [
        | true ↦ λ any.
            let one = any_to (is_uncollected caller number) (asks_of es) any in
            let kept = kept_behind es one.0 one.1 one.2 in
            let tests = all_three _ _ _ one.3 in
            let same : kept.0.number ≡ number = ap (λ (a : Ask (Unit {0}) Ref). a.number) kept.2 ∙ same_from_test one.1.number number tests.1 in
            absurd (none_not_some none (ap (λ n. lookup (nat_eq n) outputs) (sym same) ∙ rightly.output one.0 kept.0 kept.1))
        | false ↦ λ is. refl
      ] refl

  -- and where it leads to an ask that ask decides
  pub output_is : (caller number task : ℕ) (kept : Kept) → lookup (nat_eq number) outputs ≡ Some task → kept_at es task ≡ Some kept
      → list_any (is_uncollected caller number) (map.values (asks_of es)) ≡ (nat_eq kept.caller caller && is_some kept.delivered)
  output_is caller number task kept leads is =
      let there = rightly.asked number task leads in
      let same_kept : there.0 ≡ kept = same_some there.0 kept (sym there.1 ∙ is) in
      let number_is : kept.number ≡ number = ap (λ (k : Kept). k.number) (sym same_kept) ∙ there.2 in
      elim (nat_eq kept.caller caller && is_some kept.delivered) as
      (λ b. (nat_eq kept.caller caller && is_some kept.delivered) ≡ b → list_any (is_uncollected caller number) (map.values (asks_of es)) ≡ b) [
        | true ↦ λ passes.
            let tests = both _ _ passes in
            any_from (is_uncollected caller number) (asks_of es) task (shown_ask kept) (shown_at es task kept is)
            (three _ _ _ tests.0 (ap (λ n. nat_eq n number) number_is ∙ test_same number) tests.1)
        | false ↦ λ fails.
            elim (list_any (is_uncollected caller number) (map.values (asks_of es))) as (λ b. list_any (is_uncollected caller number) (map.values (asks_of es)) ≡ b → b ≡ false) [
              | true ↦ λ any.
                  let one = any_to (is_uncollected caller number) (asks_of es) any in
                  let other = kept_behind es one.0 one.1 one.2 in
                  let tests = all_three _ _ _ one.3 in
                  let same : other.0.number ≡ number = ap (λ (a : Ask (Unit {0}) Ref). a.number) other.2 ∙ same_from_test one.1.number number tests.1 in
                  let at : task ≡ one.0 = same_some task one.0 (sym leads ∙ ap (λ n. lookup (nat_eq n) outputs) (sym same) ∙ rightly.output one.0 other.0 other.1) in
                  let here : kept ≡ other.0 = same_some kept other.0 (sym is ∙ ap (kept_at es) at ∙ other.1) in
                  let ask_is : shown_ask kept ≡ one.1 = ap shown_ask here ∙ other.2 in
                  let first : nat_eq kept.caller caller ≡ true = ap (λ (a : Ask (Unit {0}) Ref). nat_eq a.caller caller) ask_is ∙ tests.0 in
                  let second : is_some kept.delivered ≡ true = ap (λ (a : Ask (Unit {0}) Ref). is_some a.delivered) ask_is ∙ tests.2 in
                  let clash : true ≡ false = sym (ap (λ b. b && is_some kept.delivered) first ∙ second) ∙ fails in
                  clash
              | false ↦ λ none. refl
            ] refl
      ] refl
