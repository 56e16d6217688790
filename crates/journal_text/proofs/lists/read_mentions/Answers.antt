use Rattle.std.proofs.Common.{◌≡◌, ◌<◌, List, length, sym, ap, subst, Some, arith}
use Rattle.cht_ids.specs.Refs.{ref_text}
use Rattle.cht_ids.specs.declared.refs.Ref.{Ref}
use Rattle.journal_text.specs.Bounds.{IsMention}
use Rattle.journal_text.specs.Heads.{words_left}
use Rattle.journal_text.proofs.Listing.{IsListed, listed_more, listed_wrong, listed_many, listed_only, left_some, left_none}
use Rattle.journal_text.proofs.lists.read_mentions.Goals as goal

pub returns-then-len-eq4-clause-every : goal.returns-then-len-eq4-clause-every
returns-then-len-eq4-clause-every c = λ xs within shown.
    let some = left_some c.loop-left.left.more c.loop-left.left.rest.now c.loop-left-test.true in
    let full : length c.loop-left.mentions ≡ 4 = omega arith in
    absurd (listed_many ref_text IsMention _ c.loop-left.mentions (words_left c.loop-left.left.more c.loop-left.left.rest.now) c.loop-left.invariant full some.0 some.1 some.2 xs within.0 within.1 shown)

pub returns-in_err-r-clause-every : goal.returns-in_err-r-clause-every
returns-in_err-r-clause-every c = λ xs within shown.
    let some = left_some c.loop-left.left.more c.loop-left.left.rest.now c.loop-left-test.true in
    absurd (listed_wrong ref_text IsMention _ c.loop-left.mentions (words_left c.loop-left.left.more c.loop-left.left.rest.now) c.loop-left.invariant c.in_err-r.ensures.every some.0 some.1 some.2 xs within.1 shown)

pub loop-left-preserved : goal.loop-left-preserved
loop-left-preserved c =
    let P : List Ref → Type 0 = λ got. IsListed ref_text IsMention (words_left c.args.words.more c.args.words.rest.now) got (words_left c.in_ok-r.behind.more c.in_ok-r.behind.rest.now) in
    let room : length c.loop-left.mentions < 4 = omega (arith, c.loop-left.invariant.few) in
    subst P (sym c.push.ensures)
    (listed_more ref_text IsMention _ c.loop-left.mentions (words_left c.loop-left.left.more c.loop-left.left.rest.now) c.in_ok-r.r _ c.loop-left.invariant c.in_ok-r.ensures.read.0 c.in_ok-r.ensures.read.1 c.in_ok-r.ensures.every room)

pub returns-clause-every : goal.returns-clause-every
returns-clause-every c = λ xs within shown.
    ap Some (listed_only ref_text IsMention _ c.loop-left.mentions (words_left c.loop-left.left.more c.loop-left.left.rest.now) c.loop-left.invariant (left_none c.loop-left.left.more c.loop-left.left.rest.now c.loop-left-test.false) xs within.1 shown)
