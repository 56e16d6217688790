use Rattle.std.proofs.Common.{[], ◌∷◌, arith, length-append}
use Rattle.std.proofs.lemmas.List.Elements.{All-nil, All-cons, All-append}
use Rattle.chunk_codec.specs.Bytes.{spot_bytes}
use Rattle.chunk_codec.specs.Parts.{HasWidths}
use Rattle.chunk_codec.proofs.Reading.{pieces_more}
use Rattle.chunk_codec.proofs.fields.read_spots.Goals as goal

pub loop-preserved : goal.loop-preserved
loop-preserved c =
    let spot = c.read_spot.result in
    rw c.in_ok-push.ensures.items
    (record {
      read = pieces_more spot_bytes c.loop.list.items spot c.args.bytes.now c.loop.rest.now _ _ c.loop.invariant.read c.split_at.ensures.by_index.0 c.read_spot.ensures.read;
      left = omega (arith, c.split_at.ensures.back_len);
      count = simp length-append (omega arith);
      widths = All-append HasWidths c.loop.list.items (spot ∷ []) c.loop.invariant.widths (All-cons HasWidths spot [] c.read_spot.ensures.widths (All-nil HasWidths));
    })
