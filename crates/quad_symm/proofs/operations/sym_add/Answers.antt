use Rattle.std.proofs.Common.{◌≡◌, length, refl, sym, ◌∙◌}
use Rattle.dense_def.specs.Matrix.{height}
use Rattle.leaf_blocks.specs.Symmetric.{triangular, FillsTriangle}
use Rattle.leaf_blocks.proofs.Triangles.{Mirrors}
use Rattle.quad_symm.proofs.Blocks.{mirrors_at, triangle_at, made_symmetric, upper_sum_fits, upper_sum_is, upper_sum_fills}
use Rattle.quad_symm.proofs.operations.sym_add.Goals as goal

pub sum_of-requires-clause-fits : goal.sum_of-requires-clause-fits
sum_of-requires-clause-fits c =
    let tall = c.side-side.ensures.square.tall in
    let first = mirrors_at c.args.a.now c.side-side.result _ _ tall c.deref.ensures.value c.entries-first.ensures.value in
    let second = mirrors_at c.args.b.now c.side-side.result _ _ (sym c.requires.sides ∙ tall) c.deref-2.ensures.value c.entries.ensures.value in
    let long = (triangle_at _ _ _ _ tall c.deref.ensures.value c.entries-first.ensures.fills).full in
    λ i h. upper_sum_fits _ _ _ _ _ first second c.requires.fits i (rw (← long) h)

-- the blocks as the loop saw them, and the numbers that it made
module _ (c : goal.After-from_vec) where
  tall : height c.args.a.now ≡ c.side-side.result
  tall = c.side-side.ensures.square.tall

  first : Mirrors c.deref.result.now c.side-side.result c.args.a.now
  first = mirrors_at _ _ _ _ tall c.deref.ensures.value c.entries-first.ensures.value

  second : Mirrors c.deref-2.result.now c.side-side.result c.args.b.now
  second = mirrors_at _ _ _ _ (sym c.requires.sides ∙ tall) c.deref-2.ensures.value c.entries.ensures.value

  long : length c.deref.result.now ≡ triangular c.side-side.result
  long = (triangle_at _ _ _ _ tall c.deref.ensures.value c.entries-first.ensures.fills).full

  fills : FillsTriangle c.side-side.result c.from_vec.result
  fills = upper_sum_fills _ _ _ _ _ first second c.from_vec.result long (c.from_vec.ensures ∙ c.in_ok-sums.ensures) c.requires.fits

pub new-requires-clause-full : goal.new-requires-clause-full
new-requires-clause-full c = (fills c).full

pub new-requires-clause-small : goal.new-requires-clause-small
new-requires-clause-small c = (fills c).small

pub returns-clause-whole : goal.returns-clause-whole
returns-clause-whole c =
    c.new.ensures ∙ upper_sum_is _ _ _ _ _ (first c.before) (second c.before) c.from_vec.result (long c.before) (c.from_vec.ensures ∙ c.in_ok-sums.ensures)

pub returns-clause-side : goal.returns-clause-side
returns-clause-side c = made_symmetric _ _ _ _ _ (tall c.before) refl c.new.ensures (fills c.before)
