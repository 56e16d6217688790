use Rattle.std.proofs.Common.{◌≡◌, ℕ, suc, ◌+◌, ◌%◌, List, pos, ◌-ℤ◌, sym, ap, ap₂, ◌∙◌, arith, add-one}
use Rattle.cht_load.specs.Draws.{state_after, draw}
use Rattle.cht_load.specs.Script.{entry_line, column_of, value_of}
use Rattle.cht_load.proofs.States.{texts_start, texts_step, draw_first, draw_more, drawn_is, value_is, column_is}
use Rattle.cht_load.proofs.script.push_row.Goals as goal

pub loop-number-init : goal.loop-number-init
loop-number-init c = record {
  text = texts_start _ _;
  drawn = draw_first _ _ c.draw-start.ensures.moved;
}

pub loop-number-preserved : goal.loop-number-preserved
loop-number-preserved c =
    let size = c.args.size in
    let fill = c.args.fill in
    let state = c.args.draws.now.state in
    let k = c.loop-number.number in
    let first : c.draw-start.result ≡ draw state 1 =
    drawn_is state 1 c.draw-start.new.self.state c.draw-start.result (draw_first state c.draw-start.new.self.state c.draw-start.ensures.moved) c.draw-start.ensures.value in
    let column = column_is size fill state k c.draw-start.result c.from.result c.from-in-loop-number.result first c.from.ensures c.from-in-loop-number.ensures in
    let after : c.draw.new.self.state ≡ state_after state (suc (suc k)) =
    draw_more state (suc k) c.loop-number.draws.state c.draw.new.self.state c.loop-number.invariant.drawn c.draw.ensures.moved in
    let two : k + 2 ≡ suc (suc k) = omega arith in
    let drawn : c.draw.result ≡ draw state (k + 2) =
    drawn_is state (k + 2) c.draw.new.self.state c.draw.result (after ∙ ap (state_after state) (sym two)) c.draw.ensures.value in
    let value = value_is c.draw.result ∙ ap (λ (d : ℕ). pos (d % 199) -ℤ pos 99) drawn in
    let entry : ℕ → List ℕ = λ j. entry_line c.args.row (column_of size fill state j) (value_of state j) in
    rw add-one
    (record {
      text = texts_step entry k c.args.text.now.items c.loop-number.text.items c.push_entry.new.text.items _ c.loop-number.invariant.text c.in_ok-push_entry.ensures (ap₂ (entry_line c.args.row) column value);
      drawn = after;
    })
