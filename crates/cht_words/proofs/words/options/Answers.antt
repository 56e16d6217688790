use Rattle.std.proofs.Common.{◌≡◌, map, length, sym, arith}
use Rattle.std.proofs.lemmas.List.{length-map}
use Rattle.std.specs.String.{string_bytes}
use Rattle.cht_words.proofs.Lengths.{other_lengths}
use Rattle.cht_words.proofs.words.options.Goals as goal

pub returns-in_default : goal.returns-in_default
returns-in_default c =
    let long : length (map string_bytes c.args.words.now) ≡ length c.args.words.now = length-map c.args.words.now string_bytes in
    sym (other_lengths (map string_bytes c.args.words.now) (λ h. omega (arith, h, long)) (λ h. omega (arith, h, long)) (λ h. omega (arith, h, long)))

pub returns-in_default-2 : goal.returns-in_default-2
returns-in_default-2 c =
    let long : length (map string_bytes c.args.words.now) ≡ length c.args.words.now = length-map c.args.words.now string_bytes in
    sym (other_lengths (map string_bytes c.args.words.now) (λ h. omega (arith, h, long)) (λ h. omega (arith, h, long)) (λ h. omega (arith, h, long)))
