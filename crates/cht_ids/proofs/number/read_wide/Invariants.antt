use Rattle.std.proofs.Common.{◌≡◌, ◌^◌, ◌<◌, true, take}
use Rattle.std.specs.List.{list_all}
use Rattle.cht_ids.specs.Numeral.{is_digit, digits_value}
use Rattle.cht_ids.proofs.number.read_wide.Given as goal

abbrev pub invariant-loop-digit : goal.invariant-loop-digit
invariant-loop-digit l = record {
  digits : list_all is_digit (take l.digit-index l.digits) ≡ true;
  so_far : l.value ≡ digits_value (take l.digit-index l.digits);
  low : l.value < 2 ^ 128;
}
