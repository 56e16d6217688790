use Rattle.journal_text.proofs.Finishes.{read_filled}
use Rattle.journal_text.proofs.lists.read_places.Goals as goal

pub returns-clause-read : goal.returns-clause-read
returns-clause-read c =
    read_filled c.in_ok-list.list c.as_slice.result.now _ c.of.result c.of.ensures c.as_slice.ensures c.in_ok-list.ensures.read.0 c.in_ok-list.ensures.read.1 c.in_ok-list.ensures.read.2
