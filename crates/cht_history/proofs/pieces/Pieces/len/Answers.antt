use Rattle.std.proofs.Common.{◌≡◌, ◌+◌, ◌*◌, length, vec_items, arith, length-append}
use Rattle.std.specs.List.{flat_map}
use Rattle.cht_history.proofs.PieceLists.{pieces_length}
use Rattle.cht_history.proofs.pieces.Pieces.len.Goals as goal

pub returns : goal.returns
returns g c =
    let full : length (flat_map (λ piece. vec_items piece) c.args.self.now.full.items) ≡ length c.args.self.now.full.items * 1024 =
    pieces_length (λ piece. vec_items piece) 1024 c.args.self.now.full.items c.requires.full in
    rw (length-append (flat_map (λ piece. vec_items piece) c.args.self.now.full.items) c.args.self.now.current.items)
    (omega (arith, full, c.len.ensures, c.len-2.ensures, c.args.self.now.full.ok.0, c.args.self.now.current.ok.0))
