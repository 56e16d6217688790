use Rattle.std.proofs.Common.{arith}
use Rattle.chunk_codec.proofs.Reading.{no_tag}
use Rattle.chunk_codec.proofs.unpacking.unpack_tagged.Goals as goal

pub returns-in_default : goal.returns-in_default
returns-in_default c =
    no_tag c.args.tag c.args.fields.now (λ h. omega (arith, h)) (λ h. omega (arith, h)) (λ h. omega (arith, h)) (λ h. omega (arith, h)) (λ h. omega (arith, h)) (λ h. omega (arith, h))
