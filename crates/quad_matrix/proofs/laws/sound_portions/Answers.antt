use Rattle.quad_matrix.proofs.SoundPortions.{portions_are_sound}
use Rattle.quad_matrix.proofs.laws.sound_portions.Goals as goal

pub returns : goal.returns
returns c = portions_are_sound
