use Rattle.cht_ids.proofs.Numbers.{spelled, canonical}
use Rattle.cht_ids.proofs.laws.texts_spell_numbers.Goals as goal

pub returns : goal.returns
returns c = λ z low. (spelled z low, canonical z low)
