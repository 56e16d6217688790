use Rattle.std.proofs.Common.{◌≡◌, ◌<◌, List, length, sym, ap, subst, Some, arith}
use Rattle.journal_text.specs.Text.{place_text}
use Rattle.task_types.specs.declared.outcome.Place.{Place}
use Rattle.journal_text.specs.Bounds.{IsPlace}
use Rattle.journal_text.specs.Heads.{words_left}
use Rattle.journal_text.proofs.Listing.{IsListed, listed_more, listed_wrong, listed_many, listed_only, left_some, left_none}
use Rattle.journal_text.proofs.lists.list_places.Goals as goal

pub returns-then-len-eq4-clause-every : goal.returns-then-len-eq4-clause-every
returns-then-len-eq4-clause-every c = λ xs few within shown.
    let some = left_some c.loop-left.left.more c.loop-left.left.rest.now c.loop-left-test.true in
    let full : length c.loop-left.list ≡ 4 = omega arith in
    absurd (listed_many place_text IsPlace _ c.loop-left.list (words_left c.loop-left.left.more c.loop-left.left.rest.now) c.loop-left.invariant full some.0 some.1 some.2 xs few within shown)

pub returns-in_err-place-clause-every : goal.returns-in_err-place-clause-every
returns-in_err-place-clause-every c = λ xs few within shown.
    let some = left_some c.loop-left.left.more c.loop-left.left.rest.now c.loop-left-test.true in
    absurd (listed_wrong place_text IsPlace _ c.loop-left.list (words_left c.loop-left.left.more c.loop-left.left.rest.now) c.loop-left.invariant c.in_err-place.ensures.every some.0 some.1 some.2 xs within shown)

pub loop-left-preserved : goal.loop-left-preserved
loop-left-preserved c =
    let P : List Place → Type 0 = λ got. IsListed place_text IsPlace (words_left c.args.words.more c.args.words.rest.now) got (words_left c.in_ok-place.behind.more c.in_ok-place.behind.rest.now) in
    let room : length c.loop-left.list < 4 = omega (arith, c.loop-left.invariant.few) in
    subst P (sym c.push.ensures)
    (listed_more place_text IsPlace _ c.loop-left.list (words_left c.loop-left.left.more c.loop-left.left.rest.now) c.in_ok-place.place _ c.loop-left.invariant c.in_ok-place.ensures.read.0 c.in_ok-place.ensures.read.1 c.in_ok-place.ensures.every room)

pub returns-clause-every : goal.returns-clause-every
returns-clause-every c = λ xs few within shown.
    ap Some (listed_only place_text IsPlace _ c.loop-left.list (words_left c.loop-left.left.more c.loop-left.left.rest.now) c.loop-left.invariant (left_none c.loop-left.left.more c.loop-left.left.rest.now c.loop-left-test.false) xs within shown)
