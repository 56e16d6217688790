use Rattle.cht_ids.proofs.Numbers.{one_text}
use Rattle.cht_ids.proofs.laws.numbers_have_one_text.Goals as goal

pub returns : goal.returns
returns c = one_text
