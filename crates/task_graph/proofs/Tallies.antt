-- The awaiters of a task, counted along its list.
use Rattle.std.proofs.Common.{◌≡◌, ◌↔◌, ℕ, suc, ◌+◌, ◌<◌, ◌≤◌, ◌∷◌, length, Option, Some, None, refl, sym, ap, subst, ◌∙◌, arith}
use Rattle.std.specs.Option.{option_map}
use Rattle.std.proofs.lemmas.List.Sorted.{length_permutation}
use Rattle.cht_ids.specs.declared.refs.Ref.{Ref}
use Rattle.cht_ids.specs.declared.refs.Ref.TheVariants.{Null}
use Rattle.task_states.specs.declared.states.Awaiter.{Awaiter}
use Rattle.task_states.specs.declared.states.Awaiter.TheVariants.{Input as AtInput, Asked}
use Rattle.task_states.specs.States.{Awaits as AwaitsTask, Graph}
use Rattle.task_states.specs.Steps.{delivered}
use Rattle.task_states.specs.Awaiters.{number_of, IsAwaiter, IsNotAwaited}
use Rattle.task_states.specs.Listing.{awaiters}
use Rattle.task_states.proofs.Options.{not_none, same_some}
use Rattle.task_states.proofs.Deliveries.{asked_once, delivers_to_one}
use Rattle.task_states.proofs.Listings.{lists_none, takes_one_out}
use Rattle.task_links.specs.declared.entries.Entry.{Entry}
use Rattle.task_links.specs.declared.entries.Link.{Link}
use Rattle.task_links.specs.declared.entries.Spot.{Spot}
use Rattle.task_graph.specs.declared.parts.Parts.{Parts}
use Rattle.task_links.specs.Inside.{entries_at, place_at}
use Rattle.task_links.specs.Weave.{Above, Leads, row_of, head_of, link_at}
use Rattle.task_graph.specs.Graphs.{graph_of, IsWhole}
use Rattle.task_graph.specs.Counted.{IsCounted}
use Rattle.task_graph.proofs.Awaiting.{link_behind, asked_is, asked_same}
use Rattle.task_links.proofs.Chains.{row_with, same_key}
use Rattle.task_graph.proofs.Marking.{input_is}
use Rattle.task_links.proofs.Weaving.{row_is, link_is}
use Rattle.task_links.proofs.Writing.{awaits_behind}

above_more : (bound : Option ℕ) (a b : ℕ) → Above bound a → a < b → Above bound b
above_more None a b above less = tt
above_more (Some low) a b above less = omega arith

not_asked : (of place number caller asked : ℕ) → Asked caller asked ≡ AtInput of place number → ⊥
not_asked of place number caller asked same = let clash : Asked caller asked ≡ AtInput of place number = same in cc

module _ {K : Type 0} (parts : Parts K) (task : ℕ) (whole : IsWhole parts) where
  abbrev links : Spot → Option Link
  links = link_at (entries_at parts.entries)

  abbrev graph : Graph Ref K
  graph = graph_of parts

  -- nothing is counted yet
  pub count_start : (e : Entry K) → entries_at parts.entries task ≡ Some e → IsCounted parts task e.first 0
  count_start e is = record {
    left = graph;
    bound = None;
    leads = whole.woven.firsts task (head_of e) (ap (option_map head_of) is);
    sum = omega arith;
    inputs_from = λ of p n awaits. (awaits, tt);
    inputs_to = λ of p n awaits above. awaits;
    asked_from = λ c n awaits. awaits;
    asked_to = λ c n awaits. awaits;
  }

  -- what comes next has a link
  pub next_link : (spot : Spot) (count : ℕ) (counted : IsCounted parts task (Some spot) count) → (link : Link) × (links spot ≡ Some link) × (link.task ≡ task) × Above counted.bound link.number
  next_link spot count counted =
      let leads = counted.leads in
      let l = link_is links spot task leads.0 leads.1 in
      (l.0, l.1, l.2, subst (Above counted.bound) (sym l.3) leads.2)

  -- one more is counted
  pub count_step : (spot : Spot) (link : Link) (count : ℕ) → links spot ≡ Some link → IsCounted parts task (Some spot) count → IsCounted parts task link.next (count + 1)
  count_step spot link count there counted =
      let l = next_link spot count counted in
      let one : l.0 ≡ link = same_some l.0 link (sym l.1 ∙ there) in
      let at : link.task ≡ task = ap (λ (k : Link). k.task) (sym one) ∙ l.2 in
      let above : Above counted.bound link.number = subst (λ (k : Link). Above counted.bound k.number) one l.3 in
      let me : Awaiter = AtInput spot.task spot.place link.number in
      let awaits : IsAwaiter graph task me =
      input_is parts spot link (awaits_behind (place_at (entries_at parts.entries) spot) link there) ∙ ap (λ k. Some (AwaitsTask k link.number)) at in
      let here : IsAwaiter counted.left task me = counted.inputs_to spot.task spot.place link.number awaits above in
      let next : Graph Ref K = delivered counted.left task me Null in
      let shorter : suc (length (awaiters next task)) ≡ length (awaiters counted.left task) =
      length_permutation (awaiters counted.left task) (me ∷ awaiters next task) (takes_one_out counted.left task me Null here) in
      let gone : (other : Awaiter) → IsAwaiter next task other ↔ (IsAwaiter counted.left task other × (task ≡ task → other ≡ me → ⊥)) = λ other. delivers_to_one counted.left task me Null here task other in
      let sum = counted.sum in
      record {
        left = next;
        bound = Some link.number;
        leads = subst (λ t. Leads (row_of links) t (Some link.number) link.next) at (whole.woven.nexts spot link there);
        sum = omega arith;
        inputs_from = λ of p n still.
            let was = (gone (AtInput of p n)).0 still in
            let old = counted.inputs_from of p n was.0 in
            let other : Spot = record { task = of; place = p } in
            let b = link_behind parts of p task n old.0 in
            let leads = counted.leads in
            let least = leads.3 other b.0.number (row_is links other b.0 b.1 ∙ ap (λ t. row_with t b.0.number) b.2) (subst (Above counted.bound) (sym b.3) old.1) in
            let key = (same_key (sym leads.1 ∙ row_is links spot link there)).1 in
            let number = b.3 in
            let differ : link.number ≡ n → ⊥ = λ same.
            let spots : spot ≡ other = whole.woven.apart spot other link b.0 there b.1 (same ∙ sym b.3) in
            was.1 refl (λ i. AtInput ((sym spots i).task) ((sym spots i).place) (sym same i)) in
            (old.0, omega arith);
        inputs_to = λ of p n before higher.
            (gone (AtInput of p n)).1 (
              counted.inputs_to of p n before (above_more counted.bound link.number n above higher),
              λ task_is same. (let number : n ≡ link.number = ap number_of same in omega arith),
            );
        asked_from = λ c n still. counted.asked_from c n ((gone (Asked c n)).0 still).0;
        asked_to = λ c n before. (gone (Asked c n)).1 (counted.asked_to c n before, λ task_is same. not_asked spot.task spot.place link.number c n same);
      }

  -- what comes next is counted too
  pub count_more : (spot : Spot) (count : ℕ) → IsCounted parts task (Some spot) count → count + 1 ≤ length (awaiters graph task)
  count_more spot count counted =
      let l = next_link spot count counted in
      let sum = (count_step spot l.0 count l.1 counted).sum in
      omega arith

  no_input : (count : ℕ) (counted : IsCounted parts task None count) (of p n : ℕ) → IsAwaiter counted.left task (AtInput of p n) → ⊥
  no_input count counted of p n awaits =
      let old = counted.inputs_from of p n awaits in
      let other : Spot = record { task = of; place = p } in
      let b = link_behind parts of p task n old.0 in
      counted.leads other b.0.number (row_is links other b.0 b.1 ∙ ap (λ t. row_with t b.0.number) b.2) (subst (Above counted.bound) (sym b.3) old.1)

  module _ (e : Entry K) (is : entries_at parts.entries task ≡ Some e) (count : ℕ) (counted : IsCounted parts task None count) where
    -- at the end, where no caller asked
    pub count_unasked : e.asked ≡ None → count ≡ length (awaiters graph task)
    count_unasked unasked =
        let nobody : IsNotAwaited counted.left task = elim [
          | AtInput of p n ↦ λ awaits. no_input count counted of p n awaits
          | Asked c n ↦ λ awaits. not_none e.asked n unasked (asked_same parts task e whole is c n (counted.asked_from c n awaits))
        ] in
        let none : length (awaiters counted.left task) ≡ 0 = ap length (lists_none counted.left task nobody) in
        let sum = counted.sum in
        omega arith

    -- and where one did
    pub count_asked : (number : ℕ) → e.asked ≡ Some number → count + 1 ≡ length (awaiters graph task)
    count_asked number asked =
        let me : Awaiter = Asked e.caller number in
        let before : IsAwaiter graph task me = asked_is parts task e whole is number asked in
        let here : IsAwaiter counted.left task me = counted.asked_to e.caller number before in
        let next : Graph Ref K = delivered counted.left task me Null in
        let shorter : suc (length (awaiters next task)) ≡ length (awaiters counted.left task) =
        length_permutation (awaiters counted.left task) (me ∷ awaiters next task) (takes_one_out counted.left task me Null here) in
        let gone : (other : Awaiter) → IsAwaiter next task other ↔ (IsAwaiter counted.left task other × (task ≡ task → other ≡ me → ⊥)) = λ other. delivers_to_one counted.left task me Null here task other in
        let nobody : IsNotAwaited next task = elim [
          | AtInput of p n ↦ λ awaits. no_input count counted of p n ((gone (AtInput of p n)).0 awaits).0
          | Asked c n ↦ λ awaits. (let was = (gone (Asked c n)).0 awaits in was.1 refl (asked_once graph task c n e.caller number (counted.asked_from c n was.0) before))
        ] in
        let none : length (awaiters next task) ≡ 0 = ap length (lists_none next task nobody) in
        let sum = counted.sum in
        omega arith
