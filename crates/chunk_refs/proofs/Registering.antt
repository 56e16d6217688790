-- A body is registered: from the steps to what the call makes of the names.
use Rattle.std.proofs.Common.{◌≡◌, ℕ, ◌+◌, ◌≤◌, List, take, drop, length, sym, ap, subst, ◌∙◌, arith}
use Rattle.cht_ids.specs.declared.refs.Ref.{Ref}
use Rattle.name_states.specs.declared.holder.Holder.{Holder}
use Rattle.name_states.specs.declared.holder.Holder.TheVariants.{Body}
use Rattle.chunk_refs.specs.declared.children.Children.{Children}
use Rattle.name_states.specs.States.{NameState, AreLive}
use Rattle.chunk_refs.specs.Room.{Room, IsLeft, spare_at}
use Rattle.name_states.specs.Steps.{linked, registered, numbered, present}
use Rattle.name_states.specs.Rules.{AreWithin}
use Rattle.chunk_refs.specs.Inside.{AreNull, all_four, refs_of}
use Rattle.name_states.proofs.Within.{with_both, kept-both, all-live-kept}
use Rattle.chunk_refs.proofs.Padded.{linked-padded, numbered-padded, numbered-take, present-padded}

-- the identifiers of children are null where the children are
pub own-padded : (drawn : ℕ) (children own : Children) → AreNull (drop children.count (all_four children)) → own.count ≡ children.count → all_four own ≡ numbered drawn (all_four children)
    → AreNull (drop own.count (all_four own))
own-padded drawn children own padded count refs =
    subst (λ n. AreNull (drop n (all_four own))) (sym count) (subst (λ rs. AreNull (drop children.count rs)) (sym refs) (numbered-padded drawn children.count (all_four children) padded))

pub own-refs : (drawn : ℕ) (children own : Children) → own.count ≡ children.count → all_four own ≡ numbered drawn (all_four children) → refs_of own ≡ numbered drawn (refs_of children)
own-refs drawn children own count refs =
    ap (λ n. take n (all_four own)) count ∙ ap (take children.count) refs ∙ numbered-take drawn children.count (all_four children)

-- the room after a body with one identifier, and then some more identifiers
pub left-more : (before middle after : Room) (worker used : ℕ) (children : Children) → AreNull (drop children.count (all_four children)) → IsLeft before middle worker 1
    → after.bodies ≡ middle.bodies → middle.ids ≤ after.ids + present (all_four children)
    → IsLeft before after worker (1 + present (refs_of children))
left-more before middle after worker used children padded left bodies ids = record {
  workers = ap length bodies ∙ left.workers;
  own = omega (arith, left.own, ap (λ b. spare_at b worker) bodies);
  others = λ other apart. omega (arith, left.others other apart, ap (λ b. spare_at b other) bodies);
  ids = omega (arith, left.ids, ids, present-padded children.count (all_four children) padded);
}

module _ {C : Type 0} where
  -- the children stay live
  pub live-both : (names middle : NameState C) (drawn number name : ℕ) (holder : Holder) (worker : ℕ) (content : C) (refs children : List Ref) → AreWithin names drawn → name ≡ drawn + 2
      → middle ≡ with_both names number name holder worker content refs
      → AreLive names children → AreLive middle children
  live-both names middle drawn number name holder worker content refs children within m is live =
      subst (λ n. AreLive n children) (sym is) (all-live-kept names (with_both names number name holder worker content refs) children (kept-both names drawn number name holder worker content refs within m) live)

  pub register-names : (names middle after : NameState C) (drawn number name : ℕ) (holder : Holder) (worker : ℕ) (content : C) (children own : Children)
      → number ≡ drawn + 1 → name ≡ drawn + 2
      → AreNull (drop children.count (all_four children)) → own.count ≡ children.count → all_four own ≡ numbered name (all_four children)
      → middle ≡ with_both names number name holder worker content (refs_of own)
      → after ≡ linked middle name (Body number) (all_four children)
      → after ≡ registered names drawn holder worker content (refs_of children)
  register-names names middle after drawn number name holder worker content children own n m padded count refs is_middle is_after =
      is_after
      ∙ ap (λ x. linked x name (Body number) (all_four children)) (is_middle ∙ ap (with_both names number name holder worker content) (own-refs name children own count refs))
      ∙ linked-padded (with_both names number name holder worker content (numbered name (refs_of children))) name (Body number) children.count (all_four children) padded
      ∙ ap (λ x. linked (with_both names x name holder worker content (numbered name (refs_of children))) name (Body x) (refs_of children)) n
      ∙ ap (λ x. linked (with_both names (drawn + 1) x holder worker content (numbered x (refs_of children))) x (Body (drawn + 1)) (refs_of children)) m
