use Rattle.std.proofs.Common.{◌≡◌, true, get_or, take, Some, ap, ◌∙◌, sym, arith}
use Rattle.std.specs.List.{list_all}
use Rattle.std.proofs.lemmas.List.{take_all}
use Rattle.std.proofs.lemmas.List.Folds.{list_all_more}
use Rattle.cht_ids.specs.Numeral.{is_digit, digits_value}
use Rattle.cht_ids.proofs.Digits.{digits_value-more, unsigned_below-past, unsigned_below-all}
use Rattle.cht_ids.proofs.number.read_wide.Goals as goal

pub returns-in_err-value : goal.returns-in_err-value
returns-in_err-value c =
    let i = c.loop-digit.digit-index in
    let ds = c.args.digits.now in
    c.from_residual.ensures ∙ sym (unsigned_below-past _ ds i (omega arith) (omega (arith, c.in_err-value.ensures)))

pub loop-digit-preserved : goal.loop-digit-preserved
loop-digit-preserved c =
    let i = c.loop-digit.digit-index in
    let ds = c.args.digits.now in
    let more = digits_value-more ds i (omega arith) in
    let all = list_all_more is_digit ds i 0 (omega arith) in
    let digit : is_digit (get_or ds i 0) ≡ true = cc in
    record {
      digits = rw all (rw c.loop-digit.invariant.digits digit);
      so_far = omega (arith, c.in_ok-value.ensures);
      low = omega (arith, c.in_ok-value.ensures);
    }

pub returns : goal.returns
returns c =
    let ds = c.args.digits.now in
    let front : take c.loop-digit.digit-index ds ≡ ds = take_all c.loop-digit.digit-index ds (omega arith) in
    let digits : list_all is_digit ds ≡ true = rw front at c.loop-digit.invariant.digits in
    let value : c.loop-digit.value ≡ digits_value ds = rw front at c.loop-digit.invariant.so_far in
    ap Some value ∙ sym (unsigned_below-all _ ds c.requires digits (omega arith))
