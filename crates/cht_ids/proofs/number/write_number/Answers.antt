use Rattle.std.proofs.Common.{◌≡◌, arith}
use Rattle.std.proofs.lemmas.Int.{to_z-of_z}
use Rattle.cht_ids.specs.Numeral.{number_text}
use Rattle.cht_ids.proofs.Numbers.{spelled, canonical, unsigned_abs-lt}
use Rattle.cht_ids.proofs.number.write_number.Goals as goal

pub returns-clause-spells : goal.returns-clause-spells
returns-clause-spells c =
    let text : c.of.result ≡ number_text c.args.value = grind (arith, to_z-of_z) in
    rw text (spelled c.args.value (unsigned_abs-lt c.args.value c.ranges.value))

pub returns-clause-canonical : goal.returns-clause-canonical
returns-clause-canonical c =
    let text : c.of.result ≡ number_text c.args.value = grind (arith, to_z-of_z) in
    rw text (canonical c.args.value (unsigned_abs-lt c.args.value c.ranges.value))
