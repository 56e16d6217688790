use Rattle.std.proofs.Common.{length}
use Rattle.journal_text.specs.Text.{place_text}
use Rattle.journal_text.specs.Bounds.{IsPlace}
use Rattle.journal_text.specs.Heads.{words_left}
use Rattle.journal_text.proofs.Listing.{IsListed}
use Rattle.journal_text.proofs.lists.list_places.Given as goal

abbrev pub invariant-loop-left : goal.invariant-loop-left
invariant-loop-left l = IsListed place_text IsPlace (words_left l.fn.words.more l.fn.words.rest.now) l.list (words_left l.left.more l.left.rest.now)

abbrev pub decreases-loop-left : goal.decreases-loop-left
decreases-loop-left l = length (words_left l.left.more l.left.rest.now)
