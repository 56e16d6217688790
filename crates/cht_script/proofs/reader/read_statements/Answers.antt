use Rattle.std.proofs.Common.{◌≡◌, ◌∙◌, rules, refl, None, false, arith}
use Rattle.std.specs.Prelude.{is_none}
use Rattle.cht_script.proofs.Whole.{start_read, start_place, none_passed, some_passed, all_read}
use Rattle.cht_script.proofs.reader.read_statements.Goals as goal

pub loop-line-init : goal.loop-line-init
loop-line-init c = record {
  read = start_read c.args.heading _ refl refl refl c.new.ensures;
  place = start_place _ c.requires c.new.ensures;
  grid = refl;
}

pub returns-then-is_some : goal.returns-then-is_some
returns-then-is_some c =
    let some : is_none c.in_ok-stop.stop ≡ false = search rules in
    record {
      read = some_passed c.pass.new.self _ c.args.heading.grid c.in_ok-stop.stop some (c.in_ok-stop.ensures.grid ∙ c.loop-line.invariant.grid)
          (c.in_ok-stop.ensures.passed _ c.loop-line.invariant.read);
      few = c.in_ok-stop.ensures.few;
    }

pub loop-line-preserved : goal.loop-line-preserved
loop-line-preserved c =
    let none : c.in_ok-stop.stop ≡ None = search rules in
    record {
      read = none_passed c.pass.new.self _ c.in_ok-stop.stop none (c.in_ok-stop.ensures.passed _ c.loop-line.invariant.read);
      place = c.in_ok-stop.ensures.place none;
      grid = c.in_ok-stop.ensures.grid ∙ c.loop-line.invariant.grid;
    }

pub returns : goal.returns
returns c = record {
  read = all_read c.args.heading c.loop-line.reader c.loop-line.invariant.grid c.in_default.ensures.none c.loop-line.invariant.read;
  few = omega (arith, c.loop-line.invariant.place.few, c.loop-line.invariant.place.lines);
}
