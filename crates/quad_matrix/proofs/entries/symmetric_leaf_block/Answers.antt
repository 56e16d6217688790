use Rattle.std.proofs.Common.{rules, ◌≡◌, ◌<◌, length, FitsSigned, get_or, pos, refl, subst, ap, ◌∙◌, arith}
use Rattle.std.specs.Vec.{vec_len}
use Rattle.std.specs.Int.{w64, w128}
use Rattle.std.specs.List.{All}
use Rattle.std.proofs.lemmas.Int.{to_z-of_z}
use Rattle.chunk_codec.specs.declared.plain.Spot.{Spot}
use Rattle.chunk_codec.specs.Spots.{IsSpot}
use Rattle.quad_matrix.specs.Spots.{mirrored_block}
use Rattle.quad_matrix.proofs.Sides.{side_low}
use Rattle.quad_matrix.proofs.TriangleWritten.{UpperWritten-more, upper_within, upper_written_small, upper_written_is}
use Rattle.quad_matrix.proofs.entries.symmetric_leaf_block.Goals as goal

pub loop-spot-preserved : goal.loop-spot-preserved
loop-spot-preserved c =
    let d : Spot = record { row = 0; column = 0; value = pos 0 } in
    let fits : FitsSigned w64 (get_or c.as_slice-spot-items.result.now c.loop-spot.spot-index d).value = search rules in
    let wide : FitsSigned w128 c.from.result = search rules in
    let each = subst (λ side. All (IsSpot side) c.args.entries.now.list) (side_low c.args.entries.now.leaf) c.requires.listed.spots in
    UpperWritten-more c.loop-spot.numbers.items c.args.entries.now.leaf c.as_slice-spot-items.result.now c.loop-spot.spot-index d c.triangle_index.result _ c.loop-spot.invariant c.loop-spot-test.true
    (rw c.as_slice-spot-items.ensures each) (rw c.as_slice-spot-items.ensures (c.requires.listed.upper refl)) (rw c.as_slice-spot-items.ensures c.requires.listed.rising) c.triangle_index.ensures
    (to_z-of_z w128 _ wide ∙ c.from.ensures ∙ to_z-of_z w64 _ fits)

pub index_mut-requires : goal.index_mut-requires
index_mut-requires c =
    let d : Spot = record { row = 0; column = 0; value = pos 0 } in
    let each = subst (λ side. All (IsSpot side) c.args.entries.now.list) (side_low c.args.entries.now.leaf) c.requires.listed.spots in
    let inside : c.triangle_index.result < length c.loop-spot.numbers.items =
    upper_within c.loop-spot.numbers.items c.args.entries.now.leaf c.as_slice-spot-items.result.now c.loop-spot.spot-index d c.triangle_index.result c.loop-spot.invariant c.loop-spot-test.true
    (rw c.as_slice-spot-items.ensures each) (rw c.as_slice-spot-items.ensures (c.requires.listed.upper refl)) c.triangle_index.ensures in
    let long : vec_len c.loop-spot.numbers ≡ length c.loop-spot.numbers.items = search rules in
    omega (arith, inside, long)

pub new-requires-clause-small : goal.new-requires-clause-small
new-requires-clause-small c =
    let each = subst (λ side. All (IsSpot side) c.args.entries.now.list) (side_low c.args.entries.now.leaf) c.requires.listed.spots in
    rw c.from_vec.ensures (upper_written_small c.loop-spot.numbers.items c.args.entries.now.leaf c.loop-spot.spot-index c.as_slice-spot-items.result.now c.loop-spot.invariant c.loop-spot-test.false (rw c.as_slice-spot-items.ensures each))

pub returns : goal.returns
returns c =
    c.new.ensures
    ∙ rw c.from_vec.ensures (upper_written_is c.loop-spot.numbers.items c.args.entries.now.leaf c.loop-spot.spot-index c.as_slice-spot-items.result.now c.loop-spot.invariant c.loop-spot-test.false)
    ∙ ap (mirrored_block c.args.entries.now.leaf) c.as_slice-spot-items.ensures
