use Rattle.mm_text.proofs.Cutting.{first_word}
use Rattle.mm_text.proofs.lines.cut_word.Goals as goal

pub returns : goal.returns
returns c =
    rw (c.split_at.ensures.front, c.split_at.ensures.back, c.unwrap_or.ensures)
    (first_word c.args.line.now c.first_blank.result c.requires c.first_blank.ensures)
