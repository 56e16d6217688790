use Rattle.std.proofs.Common.{◌≡◌, ℕ, ◌+◌, ◌*◌, List, ◌∷◌, [], ◌++◌, sym, ap, ◌∙◌, arith, add-one, append_assoc}
use Rattle.cht_load.specs.Draws.{state_after}
use Rattle.cht_load.specs.Script.{texts, row_text, head_text}
use Rattle.cht_load.proofs.States.{texts_start, texts_step, state_none, row_more}
use Rattle.cht_load.proofs.script.push_matrix.Goals as goal

pub loop-row-init : goal.loop-row-init
loop-row-init c =
    let none : 0 * (c.args.fill + 1) ≡ 0 = omega arith in
    record {
      text = texts_start _ _;
      drawn = sym (ap (state_after c.args.draws.now.state) none ∙ state_none c.args.draws.now.state);
    }

pub loop-row-preserved : goal.loop-row-preserved
loop-row-preserved c =
    let size = c.args.size in
    let fill = c.args.fill in
    let state = c.args.draws.now.state in
    let r = c.loop-row.row in
    let q = c.in_ok-push_row.ensures in
    let row : ℕ → List ℕ = λ j. row_text size fill (j + 1) (state_after state (j * (fill + 1))) in
    rw (add-one r)
    (record {
      text = texts_step row r c.push_head.new.text.items c.loop-row.text.items c.push_row.new.text.items _ c.loop-row.invariant.text q.text (ap (row_text size fill (r + 1)) c.loop-row.invariant.drawn);
      drawn = row_more state r fill c.loop-row.draws.state c.push_row.new.draws.state c.loop-row.invariant.drawn q.draws;
    })

pub returns-clause-text : goal.returns-clause-text
returns-clause-text c =
    let size = c.args.size in
    let fill = c.args.fill in
    let state = c.args.draws.now.state in
    let row : ℕ → List ℕ = λ j. row_text size fill (j + 1) (state_after state (j * (fill + 1))) in
    let all : c.loop-row.row ≡ size = omega arith in
    c.loop-row.invariant.text ∙ ap (λ n. c.push_head.new.text.items ++ texts row n) all
    ∙ ap (λ h. h ++ texts row size) c.in_ok-push_head.ensures
    ∙ append_assoc c.args.text.now.items (head_text (c.args.name ∷ []) size fill) (texts row size)
