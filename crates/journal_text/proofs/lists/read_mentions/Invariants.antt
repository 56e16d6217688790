use Rattle.std.proofs.Common.{length}
use Rattle.cht_ids.specs.Refs.{ref_text}
use Rattle.journal_text.specs.Bounds.{IsMention}
use Rattle.journal_text.specs.Heads.{words_left}
use Rattle.journal_text.proofs.Listing.{IsListed}
use Rattle.journal_text.proofs.lists.read_mentions.Given as goal

abbrev pub invariant-loop-left : goal.invariant-loop-left
invariant-loop-left l = IsListed ref_text IsMention (words_left l.fn.words.more l.fn.words.rest.now) l.mentions (words_left l.left.more l.left.rest.now)

abbrev pub decreases-loop-left : goal.decreases-loop-left
decreases-loop-left l = length (words_left l.left.more l.left.rest.now)
