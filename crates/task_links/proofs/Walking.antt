-- The place of a number in a list.
use Rattle.std.proofs.Common.{◌≡◌, ℕ, ◌<◌, ◌≤◌, ◌^◌, ◌-◌, Option, Some, None, IsSome, refl, sym, ap, subst, ◌∙◌, arith}
use Rattle.task_states.proofs.Options.{same_some}
use Rattle.task_links.specs.declared.entries.Link.{Link}
use Rattle.task_links.specs.declared.entries.Spot.{Spot}
use Rattle.task_links.specs.Weave.{Leads, Head, row_of, IsWoven, IsGap, IsUnused, IsBelow, rest_in, rest_from, IsEnd}
use Rattle.task_links.proofs.Chains.{same_key, row_with}
use Rattle.task_links.proofs.Weaving.{row_is, link_is}

pub some_is : {X : Type 0} (o : Option X) (x : X) → o ≡ Some x → IsSome o
some_is o x is = subst IsSome (sym is) refl

module _ (heads : ℕ → Option Head) (links : Spot → Option Link) (task number : ℕ) (woven : IsWoven heads links) where
  -- what follows has a link of the list, the least above what is before it
  pub next_there : (before : Option Spot) (spot : Spot) → IsBelow heads links task number before (Some spot) → (link : Link) × (links spot ≡ Some link) × (link.task ≡ task)
  next_there None spot below =
      let leads = subst (Leads (row_of links) task None) (sym below.2) (woven.firsts task below.0 below.1) in
      let l = link_is links spot task leads.0 leads.1 in
      (l.0, l.1, l.2)
  next_there (Some p) spot below =
      let leads = subst (Leads (row_of links) below.0.task (Some below.0.number)) (sym below.4) (woven.nexts p below.0 below.1) in
      let l = link_is links spot below.0.task leads.0 leads.1 in
      (l.0, l.1, l.2 ∙ below.2)

  -- where nothing follows, the number stands at the end
  pub gap_at_end : (before : Option Spot) → IsBelow heads links task number before None → IsGap heads links task number before None
  gap_at_end None below =
      let leads = subst (Leads (row_of links) task None) (sym below.2) (woven.firsts task below.0 below.1) in
      (below.0, below.1, below.2, λ s l is at. absurd (leads s l.number (row_is links s l is ∙ ap (λ t. row_with t l.number) at) tt))
  gap_at_end (Some p) below =
      let leads = subst (Leads (row_of links) below.0.task (Some below.0.number)) (sym below.4) (woven.nexts p below.0 below.1) in
      (below.0, below.1, below.2, below.3, below.4, λ s l is at more. absurd (leads s l.number (row_is links s l is ∙ ap (λ t. row_with t l.number) (at ∙ sym below.2)) more))

  -- before the first greater number
  pub gap_at : (before : Option Spot) (spot : Spot) (link : Link) → links spot ≡ Some link → number < link.number → IsBelow heads links task number before (Some spot) → IsGap heads links task number before (Some spot)
  gap_at None spot link there more below =
      let leads = subst (Leads (row_of links) task None) (sym below.2) (woven.firsts task below.0 below.1) in
      let key = (same_key (sym leads.1 ∙ row_is links spot link there)).1 in (
        below.0,
        below.1,
        below.2,
        λ s l is at. let least = leads.3 s l.number (row_is links s l is ∙ ap (λ t. row_with t l.number) at) tt in omega arith,
      )
  gap_at (Some p) spot link there more below =
      let leads = subst (Leads (row_of links) below.0.task (Some below.0.number)) (sym below.4) (woven.nexts p below.0 below.1) in
      let key = (same_key (sym leads.1 ∙ row_is links spot link there)).1 in (
        below.0,
        below.1,
        below.2,
        below.3,
        below.4,
        λ s l is at above. let least = leads.3 s l.number (row_is links s l is ∙ ap (λ t. row_with t l.number) (at ∙ sym below.2)) above in omega arith,
      )

  -- one step on
  pub step_on : (before : Option Spot) (spot : Spot) (link : Link) → links spot ≡ Some link → link.number ≤ number → IsUnused links number → IsBelow heads links task number before (Some spot) → IsBelow heads links task number (Some spot) link.next
  step_on before spot link there low unused below =
      let n = next_there before spot below in
      let one = same_some n.0 link (sym n.1 ∙ there) in
      let apart : link.number ≡ number → ⊥ = unused spot link there in
      (link, there, ap (λ (l : Link). l.task) (sym one) ∙ n.2, omega arith, refl)

  less : (task low : ℕ) (o : Option Spot) → Leads (row_of links) task (Some low) o → low < 2 ^ 128 → rest_from links o < 2 ^ 128 - low
  less task low None leads small = omega arith
  less task low (Some s) leads small =
      let l = link_is links s task leads.0 leads.1 in
      let top = woven.small s l.0 l.1 in
      let key = l.3 in
      let more = leads.2 in
      subst (λ o. rest_in o < 2 ^ 128 - low) (sym l.1) (omega arith)

  -- and nearer to the greatest number
  pub nearer : (spot : Spot) (link : Link) → links spot ≡ Some link → rest_from links link.next < rest_in (links spot)
  nearer spot link there = subst (λ o. rest_from links link.next < rest_in o) (sym there) (less link.task link.number link.next (woven.nexts spot link there) (woven.small spot link there))

  -- the last has a link, and where a number is greater it stands behind
  pub last_there : (first : Option Spot) (spot : Spot) → IsEnd links task first (Some spot) → IsSome (links spot)
  last_there first spot end = some_is (links spot) end.0 end.1

  pub gap_behind : (first : Option Spot) (spot : Spot) (link : Link) → links spot ≡ Some link → link.number < number → IsEnd links task first (Some spot) → IsGap heads links task number (Some spot) None
  gap_behind first spot link there less end =
      let one = same_some end.0 link (sym end.1 ∙ there) in
      gap_at_end (Some spot) (link, there, ap (λ (l : Link). l.task) (sym one) ∙ end.2, less, sym (ap (λ (l : Link). l.next) (sym one) ∙ end.3))
