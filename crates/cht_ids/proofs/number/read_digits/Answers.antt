use Rattle.std.proofs.Common.{◌≡◌, true, get_or, sym, arith}
use Rattle.std.proofs.lemmas.List.Folds.{list_all_more}
use Rattle.std.proofs.lemmas.Bool.Decides.{nat_tests}
use Rattle.cht_ids.specs.Numeral.{is_digit}
use Rattle.cht_ids.proofs.Digits.{digits_value-more, unsigned_below-no_digit, unsigned_below-past}
use Rattle.cht_ids.proofs.number.read_digits.Goals as goal
use Rattle.cht_ids.proofs.number.read_digits.Goals.{then-not-is_ascii_digit-via-then-not-is_ascii_digit, then-not-is_ascii_digit-via-else-not-is_ascii_digit+then-value-ge-ROOM}

pub returns-then-not-is_ascii_digit : goal.returns-then-not-is_ascii_digit
returns-then-not-is_ascii_digit c = elim c.then-not-is_ascii_digit.branch [
  | then-not-is_ascii_digit-via-then-not-is_ascii_digit w ↦ sym (unsigned_below-no_digit _ c.args.digits.now c.loop-digit.digit-index (omega arith) cc)
  | then-not-is_ascii_digit-via-else-not-is_ascii_digit+then-value-ge-ROOM w ↦ sym (unsigned_below-past _ c.args.digits.now c.loop-digit.digit-index (omega arith) (omega arith))
]

pub loop-digit-preserved : goal.loop-digit-preserved
loop-digit-preserved c =
    let i = c.loop-digit.digit-index in
    let ds = c.args.digits.now in
    let more = digits_value-more ds i (omega arith) in
    let all = list_all_more is_digit ds i 0 (omega arith) in
    let digit : is_digit (get_or ds i 0) ≡ true = cc in
    record {
      digits = rw all (rw c.loop-digit.invariant.digits digit);
      so_far = omega arith;
      low = grind (arith, nat_tests);
    }
