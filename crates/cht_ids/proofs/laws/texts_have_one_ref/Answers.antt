use Rattle.cht_ids.proofs.RefTexts.{ref_text-injective}
use Rattle.cht_ids.proofs.laws.texts_have_one_ref.Goals as goal

pub returns : goal.returns
returns c = ref_text-injective
