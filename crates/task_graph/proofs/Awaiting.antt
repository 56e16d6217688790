-- Who awaits a task, behind the fields.
use Rattle.std.proofs.Common.{◌≡◌, ℕ, ◌<◌, ◌≤◌, true, false, Option, Some, None, is_some, refl, sym, ap, subst, ◌∙◌, arith, List, [], ◌∷◌, suc, zero}
use Rattle.std.specs.Prelude.{slice_get, map as each, if◌then◌else◌}
use Rattle.std.specs.List.{list_any}
use Rattle.std.specs.Option.{option_map}
use Rattle.cht_ids.specs.declared.refs.Ref.{Ref}
use Rattle.task_states.specs.declared.states.Awaiter.{Awaiter}
use Rattle.task_states.specs.declared.states.Awaiter.TheVariants.{Input as AtInput, Asked}
use Rattle.task_states.specs.declared.states.TaskStatus.TheVariants.{Waiting, Ready, Running}
use Rattle.task_states.specs.States.{Input, Known as KnownInput, Awaits as AwaitsTask, Unfinished, is_awaiting, input_at, status, AwaitsNothing}
use Rattle.task_states.specs.Awaiters.{IsAsked, IsAwaiter, IsNotAwaited, IsLeastAwaiter}
use Rattle.task_states.proofs.Options.{not_none, same_some}
use Rattle.task_links.specs.declared.entries.Entry.{Entry}
use Rattle.task_links.specs.declared.entries.Link.{Link}
use Rattle.task_links.specs.declared.entries.Place.{Place}
use Rattle.task_links.specs.declared.entries.Place.TheVariants.{Known, Awaits}
use Rattle.task_links.specs.declared.entries.Spot.{Spot}
use Rattle.task_graph.specs.declared.parts.Parts.{Parts}
use Rattle.task_links.specs.Inside.{shown_entry, shown_place, entries_at, place_in, place_at, inputs_of}
use Rattle.task_links.specs.Weave.{Leads, row_of, head_at, head_of, link_at, link_of}
use Rattle.task_graph.specs.Graphs.{graph_of, IsWhole, IsLoose}
use Rattle.task_links.proofs.Chains.{row_with, same_key}
use Rattle.task_links.proofs.Weaving.{row_is, link_is}
use Rattle.task_links.proofs.Writing.{awaits_behind}
use Rattle.task_graph.proofs.Marking.{input_is}
use Rattle.task_graph.proofs.Runs.{task_is, task_there, status_there}

abbrev task_in : Input Ref → ℕ
task_in (KnownInput r) = 0
task_in (AwaitsTask task number) = task

abbrev number_in : Input Ref → ℕ
number_in (KnownInput r) = 0
number_in (AwaitsTask task number) = number

shown_back : (p : Place) (task number : ℕ) → shown_place p ≡ AwaitsTask task number → (link : Link) × (p ≡ Awaits link) × (link.task ≡ task) × (link.number ≡ number)
shown_back (Known r) task number is = absurd (cc)
shown_back (Awaits link) task number is = (link, refl, ap task_in is, ap number_in is)

get_back : (places : List Place) (j : ℕ) (task number : ℕ) → slice_get (each shown_place places) j ≡ Some (AwaitsTask task number) → (link : Link) × (slice_get places j ≡ Some (Awaits link)) × (link.task ≡ task) × (link.number ≡ number)
get_back [] j task number is = absurd (not_none None (AwaitsTask task number) refl is)
get_back (p ∷ places) zero task number is = let b = shown_back p task number (same_some (shown_place p) (AwaitsTask task number) is) in (b.0, ap Some b.1, b.2, b.3)
get_back (p ∷ places) (suc j) task number is = get_back places j task number is

input_back : {K : Type 0} (o : Option (Entry K)) (j task number : ℕ) → ◌≡◌ {A = Option (Input Ref)} (elim (option_map shown_entry o) as (λ _. Option (Input Ref)) [ None ↦ None | Some unfinished ↦ slice_get unfinished.inputs j ]) (Some (AwaitsTask task number))
    → (link : Link) × (place_in o j ≡ Some (Awaits link)) × (link.task ≡ task) × (link.number ≡ number)
input_back None j task number is = absurd (not_none None (AwaitsTask task number) refl is)
input_back (Some e) j task number is = get_back (inputs_of e) j task number is

-- the link behind an awaiting input
pub link_behind : {K : Type 0} (parts : Parts K) (s j task number : ℕ) → input_at (graph_of parts) s j ≡ Some (AwaitsTask task number)
    → (link : Link) × (link_at (entries_at parts.entries) (record { task = s; place = j }) ≡ Some link) × (link.task ≡ task) × (link.number ≡ number)
link_behind parts s j task number is =
    let b = input_back (entries_at parts.entries s) j task number (sym (ap (λ o. elim o as (λ _. Option (Input Ref)) [ None ↦ None | Some unfinished ↦ slice_get unfinished.inputs j ]) (task_is parts s)) ∙ is) in
    (b.0, ap link_of b.1, b.2, b.3)

none_waits : (places : List Place) → ((j : ℕ) (l : Link) → slice_get places j ≡ Some (Awaits l) → ⊥) → list_any is_awaiting (each shown_place places) ≡ false
none_waits [] never = refl
none_waits (Known r ∷ places) never = none_waits places (λ j. never (suc j))
none_waits (Awaits l ∷ places) never = absurd (never 0 l refl)

module _ {K : Type 0} (parts : Parts K) (t : ℕ) (e : Entry K) (whole : IsWhole parts) (is : entries_at parts.entries t ≡ Some e) where
  head_is : head_at (entries_at parts.entries) t ≡ Some (head_of e)
  head_is = ap (option_map head_of) is

  -- the first input, if one awaits
  pub no_input : e.first ≡ None → (s j number : ℕ) → IsAwaiter (graph_of parts) t (AtInput s j number) → ⊥
  no_input none s j number awaits =
      let l = link_behind parts s j t number awaits in
      let leads : Leads (row_of (link_at (entries_at parts.entries))) t None None = subst (Leads (row_of (link_at (entries_at parts.entries))) t None) none (whole.woven.firsts t (head_of e) head_is) in
      leads (record { task = s; place = j }) l.0.number (row_is (link_at (entries_at parts.entries)) (record { task = s; place = j }) l.0 l.1 ∙ ap (λ k. row_with k l.0.number) l.2) tt

  first_leads : (spot : Spot) → e.first ≡ Some spot → Leads (row_of (link_at (entries_at parts.entries))) t None (Some spot)
  first_leads spot first = subst (Leads (row_of (link_at (entries_at parts.entries))) t None) first (whole.woven.firsts t (head_of e) head_is)

  pub first_link : (spot : Spot) → e.first ≡ Some spot → (link : Link) × (link_at (entries_at parts.entries) spot ≡ Some link) × (link.task ≡ t)
  first_link spot first = let leads = first_leads spot first in let l = link_is (link_at (entries_at parts.entries)) spot t leads.0 leads.1 in (l.0, l.1, l.2)

  pub input_awaits : (spot : Spot) (link : Link) → e.first ≡ Some spot → link_at (entries_at parts.entries) spot ≡ Some link → IsAwaiter (graph_of parts) t (AtInput spot.task spot.place link.number)
  input_awaits spot link first there =
      let f = first_link spot first in
      let one = same_some f.0 link (sym f.1 ∙ there) in
      input_is parts spot link (awaits_behind (place_at (entries_at parts.entries) spot) link there) ∙ ap (λ k. Some (AwaitsTask k link.number)) (ap (λ (l : Link). l.task) (sym one) ∙ f.2)

  pub input_least : (spot : Spot) (link : Link) → e.first ≡ Some spot → link_at (entries_at parts.entries) spot ≡ Some link → (s j number : ℕ) → IsAwaiter (graph_of parts) t (AtInput s j number) → link.number ≤ number
  input_least spot link first there s j number awaits =
      let l = link_behind parts s j t number awaits in
      let leads = first_leads spot first in
      let key = (same_key (sym leads.1 ∙ row_is (link_at (entries_at parts.entries)) spot link there)).1 in
      let least = leads.3 (record { task = s; place = j }) l.0.number (row_is (link_at (entries_at parts.entries)) (record { task = s; place = j }) l.0 l.1 ∙ ap (λ k. row_with k l.0.number) l.2) tt in
      let same = l.3 in
      omega arith

  -- the asked output
  pub asked_is : (number : ℕ) → e.asked ≡ Some number → IsAsked (graph_of parts) t e.caller number
  asked_is number asked = record { unfinished = shown_entry e; there = task_there parts t e is; caller_is = refl; number_is = asked }

  pub asked_same : (c number : ℕ) → IsAsked (graph_of parts) t c number → e.asked ≡ Some number
  asked_same c number asked = ap (λ (u : Unfinished Ref K). u.asked) (same_some (shown_entry e) asked.unfinished (sym (task_there parts t e is) ∙ asked.there)) ∙ asked.number_is

  pub nobody : e.first ≡ None → e.asked ≡ None → IsNotAwaited (graph_of parts) t
  nobody first asked (AtInput s j number) awaits = no_input first s j number awaits
  nobody first asked (Asked c number) awaits = not_none e.asked number asked (asked_same c number awaits)

  pub only_asked : (number : ℕ) → e.first ≡ None → e.asked ≡ Some number → IsLeastAwaiter (graph_of parts) t (Asked e.caller number)
  only_asked number first asked = record {
    awaits = asked_is number asked;
    least = elim [
      | AtInput s j other ↦ λ awaits. absurd (no_input first s j other awaits)
      | Asked c other ↦ λ awaits. let one = same_some number other (sym asked ∙ asked_same c other awaits) in omega arith
    ];
  }

  pub asked_first : (number : ℕ) (spot : Spot) (link : Link) → e.first ≡ Some spot → link_at (entries_at parts.entries) spot ≡ Some link → e.asked ≡ Some number → number < link.number → IsLeastAwaiter (graph_of parts) t (Asked e.caller number)
  asked_first number spot link first there asked less = record {
    awaits = asked_is number asked;
    least = elim [
      | AtInput s j other ↦ λ awaits. let low = input_least spot link first there s j other awaits in omega arith
      | Asked c other ↦ λ awaits. let one = same_some number other (sym asked ∙ asked_same c other awaits) in omega arith
    ];
  }

  pub input_first : (spot : Spot) (link : Link) → e.first ≡ Some spot → link_at (entries_at parts.entries) spot ≡ Some link → ((number : ℕ) → e.asked ≡ Some number → link.number ≤ number) → IsLeastAwaiter (graph_of parts) t (AtInput spot.task spot.place link.number)
  input_first spot link first there low = record {
    awaits = input_awaits spot link first there;
    least = elim [
      | AtInput s j other ↦ λ awaits. input_least spot link first there s j other awaits
      | Asked c other ↦ λ awaits. low other (asked_same c other awaits)
    ];
  }

  -- a task that awaits nothing and that nobody awaits
  pub loose_of : AwaitsNothing (graph_of parts) t → IsNotAwaited (graph_of parts) t → IsLoose parts t e
  loose_of waits awaited = record {
    there = is;
    waits = λ p l there same. waits p.place l.task l.number (ap (λ k. input_at (graph_of parts) k p.place) (sym same) ∙ input_is parts p l (awaits_behind (place_at (entries_at parts.entries) p) l there));
    awaited = λ p l there same. awaited (AtInput p.task p.place l.number) (input_is parts p l (awaits_behind (place_at (entries_at parts.entries) p) l there) ∙ ap (λ k. Some (AwaitsTask k l.number)) same);
  }

  pub status_running : AwaitsNothing (graph_of parts) t → is_some e.runner ≡ true → status (graph_of parts) t ≡ Running
  status_running waits runs =
      status_there parts t e is
      ∙ ap (λ b. if b then Waiting else (if is_some e.runner then Running else Ready)) (none_waits (inputs_of e) (λ j l at. waits j l.task l.number (input_is parts (record { task = t; place = j }) l (ap (λ o. place_in o j) is ∙ at))))
      ∙ ap (λ b. if b then Running else Ready) runs

pub none_from : {X : Type 0} (o : Option X) → is_some o ≡ false → o ≡ None
none_from None is = refl
none_from (Some x) is = absurd (cc)

-- no two awaiters of a task have the least number
pub one_least : {K : Type 0} (parts : Parts K) (t : ℕ) (e : Entry K) → IsWhole parts → entries_at parts.entries t ≡ Some e → (a b : Awaiter) → IsLeastAwaiter (graph_of parts) t a → IsLeastAwaiter (graph_of parts) t b → a ≡ b
one_least parts t e whole is (AtInput s j m) (AtInput q k n) one two =
    let l = link_behind parts s j t m one.awaits in
    let o = link_behind parts q k t n two.awaits in
    let low = one.least (AtInput q k n) two.awaits in
    let high = two.least (AtInput s j m) one.awaits in
    let number : m ≡ n = omega arith in
    let spot = whole.woven.apart (record { task = s; place = j }) (record { task = q; place = k }) l.0 o.0 l.1 o.1 (l.3 ∙ number ∙ sym o.3) in
    λ i. AtInput (spot i).task (spot i).place (number i)
one_least parts t e whole is (AtInput s j m) (Asked c n) one two =
    let l = link_behind parts s j t m one.awaits in
    let low = one.least (Asked c n) two.awaits in
    let high = two.least (AtInput s j m) one.awaits in
    let number : m ≡ n = omega arith in
    absurd (whole.woven.asked_apart (record { task = s; place = j }) l.0 t (head_of e) n l.1 (ap (option_map head_of) is) (asked_same parts t e whole is c n two.awaits) (l.3 ∙ number))
one_least parts t e whole is (Asked c n) (AtInput s j m) one two =
    let l = link_behind parts s j t m two.awaits in
    let low = two.least (Asked c n) one.awaits in
    let high = one.least (AtInput s j m) two.awaits in
    let number : m ≡ n = omega arith in
    absurd (whole.woven.asked_apart (record { task = s; place = j }) l.0 t (head_of e) n l.1 (ap (option_map head_of) is) (asked_same parts t e whole is c n one.awaits) (l.3 ∙ number))
one_least {K} parts t e whole is (Asked c m) (Asked d n) one two =
    let number = same_some m n (sym (asked_same parts t e whole is c m one.awaits) ∙ asked_same parts t e whole is d n two.awaits) in
    let task = same_some one.awaits.unfinished two.awaits.unfinished (sym one.awaits.there ∙ two.awaits.there) in
    let caller = sym one.awaits.caller_is ∙ ap (λ (u : Unfinished Ref K). u.caller) task ∙ two.awaits.caller_is in
    λ i. Asked (caller i) (number i)
