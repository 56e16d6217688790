use Rattle.std.proofs.Common.{◌∙◌, sym, refl}
use Rattle.cht_script.specs.Reading.{name_bytes}
use Rattle.cht_script.proofs.NameRules.{found_any}
use Rattle.cht_script.proofs.Noted.{market_taken, market_shaped}
use Rattle.cht_script.proofs.judge.judge.Goals as goal

pub returns-then-is_some : goal.returns-then-is_some
returns-then-is_some c = λ known deleted keeps.
    let any = found_any known deleted c.args.known.now c.find.result c.is_some.result c.as_bytes.result.now (name_bytes c.in-Market.to) keeps c.is_some.ensures c.find.ensures c.as_bytes.ensures in
    rw c.in-Market.is (market_taken known deleted (name_bytes c.in-Market.to) (sym any ∙ c.if-is_some.true))

pub returns-else-is_some : goal.returns-else-is_some
returns-else-is_some c = λ known deleted keeps.
    let any = found_any known deleted c.args.known.now c.find.result c.is_some.result c.as_bytes.result.now (name_bytes c.in-Market.to) keeps c.is_some.ensures c.find.ensures c.as_bytes.ensures in
    rw c.in-Market.is (market_shaped known deleted c.in-Market.line c.in-Market.to c.in-Market.market _ (sym any ∙ c.if-is_some.false) refl)
