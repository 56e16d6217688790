use Rattle.std.proofs.Common.{◌≡◌, ◌+◌, ◌-◌, ◌*◌, ◌/◌, ◌%◌, ◌<◌, ◌≤◌, List, Option, Some, None, length, slice_get, vec_items, vec_len, arith, sym, ap, ◌∙◌, lit<}
use Rattle.std.specs.List.{flat_map}
use Rattle.std.proofs.lemmas.Nat.{div-add-mod'}
use Rattle.cht_history.specs.Pieces.{events_of}
use Rattle.cht_history.proofs.PieceLists.{in_piece, get_rest, pieces_length, none_past}
use Rattle.cht_history.proofs.pieces.Pieces.get.Goals as goal

pub returns-in-Some : goal.returns-in-Some
returns-in-Some g c =
    let here : slice_get c.args.self.now.full.items (c.args.i / 1024) ≡ Some c.in-Some.events.now =
    ap (λ list. slice_get list (c.args.i / 1024)) (sym c.deref.ensures.value) ∙ sym c.in-Some.ensures in
    let place : c.args.i % 1024 < 1024 = omega arith in
    c.item_at-in-Some.ensures
    ∙ ap (λ list. slice_get list (c.args.i % 1024)) c.deref-in-Some.ensures.value
    ∙ sym (in_piece (λ piece. vec_items piece) 1024 c.args.self.now.full.items c.args.self.now.current.items (c.args.i / 1024) (c.args.i % 1024) c.in-Some.events.now c.requires.full place here)
    ∙ ap (slice_get (events_of c.args.self.now)) (div-add-mod' c.args.i 1024)

pub returns-in-None : goal.returns-in-None
returns-in-None g c =
    let past : length c.args.self.now.full.items ≤ c.args.i / 1024 =
    none_past c.args.self.now.full.items (c.args.i / 1024) (ap (λ list. slice_get list (c.args.i / 1024)) (sym c.deref.ensures.value) ∙ sym c.in-None.ensures) in
    let full : length (flat_map (λ piece. vec_items piece) c.args.self.now.full.items) ≡ c.len.result * 1024 =
    pieces_length (λ piece. vec_items piece) 1024 c.args.self.now.full.items c.requires.full ∙ ap (λ n. n * 1024) (sym c.args.self.now.full.ok.0 ∙ sym c.len.ensures) in
    let above : c.len.result * 1024 ≤ c.args.i = omega (arith, past, c.len.ensures, c.args.self.now.full.ok.0, div-add-mod' c.args.i 1024) in
    c.item_at-in-None.ensures
    ∙ ap (λ list. slice_get list (c.args.i - c.len.result * 1024)) c.deref-in-None.ensures.value
    ∙ sym (get_rest (flat_map (λ piece. vec_items piece) c.args.self.now.full.items) c.args.self.now.current.items (c.len.result * 1024) c.args.i full above)
