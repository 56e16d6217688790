use Rattle.std.proofs.Common.{◌≡◌, ◌+◌, ◌-◌, ◌≤◌, ◌&&◌, length, drop, get_or, ap, sym, ◌∙◌, arith, pos}
use Rattle.std.proofs.lemmas.List.{length-drop}
use Rattle.chunk_codec.specs.declared.plain.Spot.{Spot}
use Rattle.chunk_codec.specs.Spots.{stands_before, spots_rise}
use Rattle.chunk_codec.proofs.Order.{rise_step, short_rises}
use Rattle.chunk_codec.proofs.fields.rise.Goals as goal

pub loop-i-preserved : goal.loop-i-preserved
loop-i-preserved c =
    let none : Spot = record { row = 0; column = 0; value = pos 0 } in
    let list = c.args.list.now in
    let i = c.loop-i.i in
    let step : spots_rise (drop (i - 1) list) ≡ (stands_before (get_or list (i - 1) none) (get_or list i none) && spots_rise (drop i list)) =
    rise_step list i none c.loop-i.auto.i c.loop-i-test.true in
    let back : i + 1 - 1 ≡ i = omega arith in
    c.loop-i.invariant ∙ step ∙ ap (λ b. b && spots_rise (drop i list)) (sym c.if-not-stands_before.ensures)
    ∙ ap (λ j. spots_rise (drop j list)) (sym back)

pub returns : goal.returns
returns c =
    let list = c.args.list.now in
    let i = c.loop-i.i in
    let few : length (drop (i - 1) list) ≤ 1 = omega (arith, length-drop (i - 1) list) in
    sym (c.loop-i.invariant ∙ short_rises (drop (i - 1) list) few)
