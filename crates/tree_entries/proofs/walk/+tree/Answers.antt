use Rattle.std.proofs.Common.{rules, ◌≡◌, ◌+◌, ◌-◌, ◌^◌, true, false, ◌∙◌, ap, sym, refl, arith, length, Some, None}
use Rattle.std.proofs.lemmas.Result.{on_ok_weaker}
use Rattle.cht_ids.specs.declared.refs.Ref.TheVariants.{Id as Held}
use Rattle.cht_engine.specs.Seen.{tree_named}
use Rattle.quad_matrix.specs.declared.chunk.MatChunk.{MatChunk}
use Rattle.quad_matrix.specs.declared.chunk.MatChunk.TheVariants as chunk
use Rattle.tree_entries.specs.declared.piece.Piece.{Piece}
use Rattle.tree_entries.specs.BlockTrees.{tree_reached}
use Rattle.tree_entries.specs.Strips.{only_in, part, quadrants_part, symmetric_part}
use Rattle.tree_entries.proofs.Gathered.{gathered_none, gathered_as}
use Rattle.tree_entries.proofs.Levels.{content_found, placed_strip, placed_node, placed_symmetric, placed_below, ready}
use Rattle.tree_entries.proofs.Parts.{part_of_nothing, part_of_leaf, part_of_symmetric_leaf, part_of_node, part_of_symmetric_node, part_of_other}
use Rattle.tree_entries.proofs.Walking.{same_twice, same_thrice, path_twice, path_thrice, many_twice, many_thrice, at_child, moved, three_gathered, four_gathered}
use Rattle.tree_entries.proofs.walk.+tree.Goals as goal

pub gather-returns-in_default-clause-gathered : goal.gather-returns-in_default-clause-gathered
gather-returns-in_default-clause-gathered g t c =
    gathered_none c.args.strips.now.items (part c.args.at.turned c.args.at.above c.args.at.left (tree_reached (g.E.Engine.seen c.args.engine.now) c.args.id c.args.path.now.items))
    (part_of_nothing c.args.at.turned c.args.at.above c.args.at.left (tree_reached (g.E.Engine.seen c.args.engine.now) c.args.id c.args.path.now.items)
    (content_found (tree_named (g.E.Engine.seen c.args.engine.now) (Held c.args.id)) c.in_ok-content.field-0 None c.args.path.now.items c.as_slice.result.now c.in_ok-content.ensures.found c.as_slice.ensures.value c.in_default.is))

pub gather-put_leaf-requires : goal.gather-put_leaf-requires
gather-put_leaf-requires g t c = placed_strip (length c.args.strips.now.items) (length c.args.path.now.items) c.args.at (tree_reached (g.E.Engine.seen c.args.engine.now) c.args.id c.args.path.now.items) c.requires.placed

pub gather-returns-in-Leaf-clause-gathered : goal.gather-returns-in-Leaf-clause-gathered
gather-returns-in-Leaf-clause-gathered g t c =
    let e = content_found (tree_named (g.E.Engine.seen c.args.engine.now) (Held c.args.id)) c.in_ok-content.field-0 (Some (chunk.Leaf c.in-Leaf.field-0)) c.args.path.now.items c.as_slice.result.now c.in_ok-content.ensures.found c.as_slice.ensures.value
    (c.in-Some.is ∙ ap (λ x. Some x) (sym c.get.ensures ∙ c.in-Leaf.is)) in
    let same : c.in-Some.content ≡ chunk.Leaf c.in-Leaf.field-0 = sym c.get.ensures ∙ c.in-Leaf.is in
    let piece : MatChunk → Piece = λ content. record { content = content; left = c.args.at.left; turned = c.args.at.turned } in
    on_ok_weaker c.put_leaf.result
    (gathered_as c.args.strips.now.items c.put_leaf.new.strips.items (only_in c.args.at.above (piece c.in-Some.content)) (part c.args.at.turned c.args.at.above c.args.at.left (tree_reached (g.E.Engine.seen c.args.engine.now) c.args.id c.args.path.now.items))
    (λ s. ap (λ content. only_in c.args.at.above (piece content) s) same
    ∙ sym (part_of_leaf c.args.at.turned c.args.at.above c.args.at.left c.in-Leaf.field-0 (tree_reached (g.E.Engine.seen c.args.engine.now) c.args.id c.args.path.now.items) e s)))
    c.put_leaf.ensures

pub gather-put_leaf-requires-in-SymLeaf : goal.gather-put_leaf-requires-in-SymLeaf
gather-put_leaf-requires-in-SymLeaf g t c = placed_strip (length c.args.strips.now.items) (length c.args.path.now.items) c.args.at (tree_reached (g.E.Engine.seen c.args.engine.now) c.args.id c.args.path.now.items) c.requires.placed

pub gather-returns-in-SymLeaf-clause-gathered : goal.gather-returns-in-SymLeaf-clause-gathered
gather-returns-in-SymLeaf-clause-gathered g t c =
    let e = content_found (tree_named (g.E.Engine.seen c.args.engine.now) (Held c.args.id)) c.in_ok-content.field-0 (Some (chunk.SymLeaf c.in-SymLeaf.field-0)) c.args.path.now.items c.as_slice.result.now c.in_ok-content.ensures.found c.as_slice.ensures.value
    (c.in-Some.is ∙ ap (λ x. Some x) (sym c.get.ensures ∙ c.in-SymLeaf.is)) in
    let same : c.in-Some.content ≡ chunk.SymLeaf c.in-SymLeaf.field-0 = sym c.get.ensures ∙ c.in-SymLeaf.is in
    let piece : MatChunk → Piece = λ content. record { content = content; left = c.args.at.left; turned = c.args.at.turned } in
    on_ok_weaker c.put_leaf-in-SymLeaf.result
    (gathered_as c.args.strips.now.items c.put_leaf-in-SymLeaf.new.strips.items (only_in c.args.at.above (piece c.in-Some.content)) (part c.args.at.turned c.args.at.above c.args.at.left (tree_reached (g.E.Engine.seen c.args.engine.now) c.args.id c.args.path.now.items))
    (λ s. ap (λ content. only_in c.args.at.above (piece content) s) same
    ∙ sym (part_of_symmetric_leaf c.args.at.turned c.args.at.above c.args.at.left c.in-SymLeaf.field-0 (tree_reached (g.E.Engine.seen c.args.engine.now) c.args.id c.args.path.now.items) e s)))
    c.put_leaf-in-SymLeaf.ensures

pub gather-gather_node-requires : goal.gather-gather_node-requires
gather-gather_node-requires g t c κs within =
    let e = content_found (tree_named (g.E.Engine.seen c.args.engine.now) (Held c.args.id)) c.in_ok-content.field-0 (Some (chunk.Node c.in-Node.height c.in-Node.peak)) c.args.path.now.items c.as_slice.result.now c.in_ok-content.ensures.found c.as_slice.ensures.value
    (c.in-Some.is ∙ ap (λ x. Some x) (sym c.get.ensures ∙ c.in-Node.is)) in
    let same = c.in_ok-content.ensures.unchanged in
    let node = placed_node (length c.args.strips.now.items) (length c.args.path.now.items) c.args.at (tree_reached (g.E.Engine.seen c.args.engine.now) c.args.id c.args.path.now.items) c.in-Node.height c.in-Node.peak c.requires.placed e in
    (search rules, (within.0, (within.1, (rw same c.requires.held, rw same node))))

pub gather-returns-in-Node-clause-gathered : goal.gather-returns-in-Node-clause-gathered
gather-returns-in-Node-clause-gathered g t c =
    let e = content_found (tree_named (g.E.Engine.seen c.args.engine.now) (Held c.args.id)) c.in_ok-content.field-0 (Some (chunk.Node c.in-Node.height c.in-Node.peak)) c.args.path.now.items c.as_slice.result.now c.in_ok-content.ensures.found c.as_slice.ensures.value
    (c.in-Some.is ∙ ap (λ x. Some x) (sym c.get.ensures ∙ c.in-Node.is)) in
    let same = c.in_ok-content.ensures.unchanged in
    let gathered = rw same at c.gather_node.ensures.gathered in
    on_ok_weaker c.gather_node.result
    (gathered_as c.args.strips.now.items c.gather_node.new.strips.items (quadrants_part c.args.at.turned (2 ^ (c.in-Node.height - 1)) c.args.at.above c.args.at.left (tree_reached (g.E.Engine.seen c.args.engine.now) c.args.id c.args.path.now.items)) (part c.args.at.turned c.args.at.above c.args.at.left (tree_reached (g.E.Engine.seen c.args.engine.now) c.args.id c.args.path.now.items))
    (λ s. sym (part_of_node c.args.at.turned c.args.at.above c.args.at.left c.in-Node.height c.in-Node.peak (tree_reached (g.E.Engine.seen c.args.engine.now) c.args.id c.args.path.now.items) e s)))
    gathered

pub gather-gather_symmetric-requires : goal.gather-gather_symmetric-requires
gather-gather_symmetric-requires g t c κs within =
    let e = content_found (tree_named (g.E.Engine.seen c.args.engine.now) (Held c.args.id)) c.in_ok-content.field-0 (Some (chunk.SymNode c.in-SymNode.height c.in-SymNode.peak)) c.args.path.now.items c.as_slice.result.now c.in_ok-content.ensures.found c.as_slice.ensures.value
    (c.in-Some.is ∙ ap (λ x. Some x) (sym c.get.ensures ∙ c.in-SymNode.is)) in
    let same = c.in_ok-content.ensures.unchanged in
    let node = placed_symmetric (length c.args.strips.now.items) (length c.args.path.now.items) c.args.at (tree_reached (g.E.Engine.seen c.args.engine.now) c.args.id c.args.path.now.items) c.in-SymNode.height c.in-SymNode.peak c.requires.placed e in
    (search rules, (within.0, (within.1, (rw same c.requires.held, rw same node))))

pub gather-returns-in-SymNode-clause-gathered : goal.gather-returns-in-SymNode-clause-gathered
gather-returns-in-SymNode-clause-gathered g t c =
    let e = content_found (tree_named (g.E.Engine.seen c.args.engine.now) (Held c.args.id)) c.in_ok-content.field-0 (Some (chunk.SymNode c.in-SymNode.height c.in-SymNode.peak)) c.args.path.now.items c.as_slice.result.now c.in_ok-content.ensures.found c.as_slice.ensures.value
    (c.in-Some.is ∙ ap (λ x. Some x) (sym c.get.ensures ∙ c.in-SymNode.is)) in
    let same = c.in_ok-content.ensures.unchanged in
    let gathered = rw same at c.gather_symmetric.ensures.gathered in
    on_ok_weaker c.gather_symmetric.result
    (gathered_as c.args.strips.now.items c.gather_symmetric.new.strips.items (symmetric_part (2 ^ (c.in-SymNode.height - 1)) c.args.at.above c.args.at.left (tree_reached (g.E.Engine.seen c.args.engine.now) c.args.id c.args.path.now.items)) (part c.args.at.turned c.args.at.above c.args.at.left (tree_reached (g.E.Engine.seen c.args.engine.now) c.args.id c.args.path.now.items))
    (λ s. sym (part_of_symmetric_node c.args.at.turned c.args.at.above c.args.at.left c.in-SymNode.height c.in-SymNode.peak (tree_reached (g.E.Engine.seen c.args.engine.now) c.args.id c.args.path.now.items) e s)))
    gathered

pub gather-returns-in-Entries-clause-gathered : goal.gather-returns-in-Entries-clause-gathered
gather-returns-in-Entries-clause-gathered g t c =
    let e = content_found (tree_named (g.E.Engine.seen c.args.engine.now) (Held c.args.id)) c.in_ok-content.field-0 (Some (chunk.Entries c.in-Entries.field-0)) c.args.path.now.items c.as_slice.result.now c.in_ok-content.ensures.found c.as_slice.ensures.value
    (c.in-Some.is ∙ ap (λ x. Some x) (sym c.get.ensures ∙ c.in-Entries.is)) in
    gathered_none c.args.strips.now.items (part c.args.at.turned c.args.at.above c.args.at.left (tree_reached (g.E.Engine.seen c.args.engine.now) c.args.id c.args.path.now.items))
    (part_of_other c.args.at.turned c.args.at.above c.args.at.left (tree_reached (g.E.Engine.seen c.args.engine.now) c.args.id c.args.path.now.items) (chunk.Entries c.in-Entries.field-0) e refl)

pub gather-returns-in-Num-clause-gathered : goal.gather-returns-in-Num-clause-gathered
gather-returns-in-Num-clause-gathered g t c =
    let e = content_found (tree_named (g.E.Engine.seen c.args.engine.now) (Held c.args.id)) c.in_ok-content.field-0 (Some (chunk.Num c.in-Num.field-0)) c.args.path.now.items c.as_slice.result.now c.in_ok-content.ensures.found c.as_slice.ensures.value
    (c.in-Some.is ∙ ap (λ x. Some x) (sym c.get.ensures ∙ c.in-Num.is)) in
    gathered_none c.args.strips.now.items (part c.args.at.turned c.args.at.above c.args.at.left (tree_reached (g.E.Engine.seen c.args.engine.now) c.args.id c.args.path.now.items))
    (part_of_other c.args.at.turned c.args.at.above c.args.at.left (tree_reached (g.E.Engine.seen c.args.engine.now) c.args.id c.args.path.now.items) (chunk.Num c.in-Num.field-0) e refl)

pub gather_child-gather-requires : goal.gather_child-gather-requires
gather_child-gather-requires g t c κs within =
    let placed = placed_below (g.E.Engine.seen c.args.engine.now) c.args.id c.args.path.now.items c.push.new.self.items (length c.args.strips.now.items) c.args.at c.args.j c.in_ok-push.ensures.items c.requires.placed in
    (search rules, (within.0, (within.1, (c.requires.held, placed))))

pub gather_child-returns-clause-gathered : goal.gather_child-returns-clause-gathered
gather_child-returns-clause-gathered g t c =
    at_child (g.E.Engine.seen c.args.engine.now) c.args.id c.args.path.now.items c.push.new.self.items c.args.at c.args.j c.args.strips.now.items c.gather.new.strips.items c.in_ok-push.ensures.items c.in_ok-gather.ensures.gathered

pub gather_node-gather_child-requires : goal.gather_node-gather_child-requires
gather_node-gather_child-requires g t c κs within =
    let is = ready (g.E.Engine.seen c.args.engine.now) (g.E.Engine.seen c.args.engine.now) c.args.id c.args.path.now.items c.args.path.now.items (length c.args.strips.now.items) (length c.args.strips.now.items) c.args.height c.leaves_across-half.result c.args.at c.args.at 0
    refl refl refl c.requires.held c.requires.placed c.leaves_across-half.ensures (omega arith) (omega arith) in
    (search rules, (within.0, (within.1, (is.held, (is.shallow, is.placed)))))

pub gather_node-gather_child-requires-2 : goal.gather_node-gather_child-requires-2
gather_node-gather_child-requires-2 g t c κs within =
    let is = ready (g.E.Engine.seen c.args.engine.now) (g.E.Engine.seen c.gather_child.new.engine) c.args.id c.args.path.now.items c.gather_child.new.path.items (length c.args.strips.now.items) (length c.gather_child.new.strips.items) c.args.height c.leaves_across-half.result c.args.at (record { above = c.args.at.above; left = c.args.at.left + c.leaves_across-half.result; turned = c.args.at.turned }) c.upper_child-upper.result
    c.in_ok-gather_child.ensures.unchanged c.in_ok-gather_child.ensures.path c.in_ok-gather_child.ensures.gathered.long c.requires.held c.requires.placed c.leaves_across-half.ensures (omega arith) (omega arith) in
    (search rules, (within.0, (within.1, (is.held, (is.shallow, is.placed)))))

pub gather_node-gather_child-requires-3 : goal.gather_node-gather_child-requires-3
gather_node-gather_child-requires-3 g t c κs within =
    let is = ready (g.E.Engine.seen c.args.engine.now) (g.E.Engine.seen c.gather_child-2.new.engine) c.args.id c.args.path.now.items c.gather_child-2.new.path.items (length c.args.strips.now.items) (length c.gather_child-2.new.strips.items) c.args.height c.leaves_across-half.result c.args.at (record { above = c.args.at.above + c.leaves_across-half.result; left = c.args.at.left; turned = c.args.at.turned }) c.lower_child-lower.result
    (same_twice (g.E.Engine.seen c.args.engine.now) (g.E.Engine.seen c.gather_child.new.engine) (g.E.Engine.seen c.gather_child-2.new.engine) c.in_ok-gather_child.ensures.unchanged c.in_ok-gather_child-2.ensures.unchanged) (path_twice c.args.path.now.items c.gather_child.new.path.items c.gather_child-2.new.path.items c.in_ok-gather_child.ensures.path c.in_ok-gather_child-2.ensures.path) (many_twice (length c.args.strips.now.items) (length c.gather_child.new.strips.items) (length c.gather_child-2.new.strips.items) c.in_ok-gather_child.ensures.gathered.long c.in_ok-gather_child-2.ensures.gathered.long) c.requires.held c.requires.placed c.leaves_across-half.ensures (omega arith) (omega arith) in
    (search rules, (within.0, (within.1, (is.held, (is.shallow, is.placed)))))

pub gather_node-gather_child-requires-4 : goal.gather_node-gather_child-requires-4
gather_node-gather_child-requires-4 g t c κs within =
    let is = ready (g.E.Engine.seen c.args.engine.now) (g.E.Engine.seen c.gather_child-3.new.engine) c.args.id c.args.path.now.items c.gather_child-3.new.path.items (length c.args.strips.now.items) (length c.gather_child-3.new.strips.items) c.args.height c.leaves_across-half.result c.args.at (record { above = c.args.at.above + c.leaves_across-half.result; left = c.args.at.left + c.leaves_across-half.result; turned = c.args.at.turned }) 3
    (same_thrice (g.E.Engine.seen c.args.engine.now) (g.E.Engine.seen c.gather_child.new.engine) (g.E.Engine.seen c.gather_child-2.new.engine) (g.E.Engine.seen c.gather_child-3.new.engine) c.in_ok-gather_child.ensures.unchanged c.in_ok-gather_child-2.ensures.unchanged c.in_ok-gather_child-3.ensures.unchanged) (path_thrice c.args.path.now.items c.gather_child.new.path.items c.gather_child-2.new.path.items c.gather_child-3.new.path.items c.in_ok-gather_child.ensures.path c.in_ok-gather_child-2.ensures.path c.in_ok-gather_child-3.ensures.path) (many_thrice (length c.args.strips.now.items) (length c.gather_child.new.strips.items) (length c.gather_child-2.new.strips.items) (length c.gather_child-3.new.strips.items) c.in_ok-gather_child.ensures.gathered.long c.in_ok-gather_child-2.ensures.gathered.long c.in_ok-gather_child-3.ensures.gathered.long) c.requires.held c.requires.placed c.leaves_across-half.ensures (omega arith) (omega arith) in
    (search rules, (within.0, (within.1, (is.held, (is.shallow, is.placed)))))

pub gather_node-returns-clause-gathered : goal.gather_node-returns-clause-gathered
gather_node-returns-clause-gathered g t c =
    let first = moved (g.E.Engine.seen c.args.engine.now) (g.E.Engine.seen c.args.engine.now) c.args.id c.args.path.now.items c.args.path.now.items c.args.at 0 c.args.strips.now.items c.gather_child.new.strips.items refl refl c.in_ok-gather_child.ensures.gathered in
    let second = moved (g.E.Engine.seen c.args.engine.now) (g.E.Engine.seen c.gather_child.new.engine) c.args.id c.args.path.now.items c.gather_child.new.path.items (record { above = c.args.at.above; left = c.args.at.left + c.leaves_across-half.result; turned = c.args.at.turned }) c.upper_child-upper.result c.gather_child.new.strips.items c.gather_child-2.new.strips.items c.in_ok-gather_child.ensures.unchanged c.in_ok-gather_child.ensures.path c.in_ok-gather_child-2.ensures.gathered in
    let third = moved (g.E.Engine.seen c.args.engine.now) (g.E.Engine.seen c.gather_child-2.new.engine) c.args.id c.args.path.now.items c.gather_child-2.new.path.items (record { above = c.args.at.above + c.leaves_across-half.result; left = c.args.at.left; turned = c.args.at.turned }) c.lower_child-lower.result c.gather_child-2.new.strips.items c.gather_child-3.new.strips.items (same_twice (g.E.Engine.seen c.args.engine.now) (g.E.Engine.seen c.gather_child.new.engine) (g.E.Engine.seen c.gather_child-2.new.engine) c.in_ok-gather_child.ensures.unchanged c.in_ok-gather_child-2.ensures.unchanged) (path_twice c.args.path.now.items c.gather_child.new.path.items c.gather_child-2.new.path.items c.in_ok-gather_child.ensures.path c.in_ok-gather_child-2.ensures.path) c.in_ok-gather_child-3.ensures.gathered in
    let fourth = moved (g.E.Engine.seen c.args.engine.now) (g.E.Engine.seen c.gather_child-3.new.engine) c.args.id c.args.path.now.items c.gather_child-3.new.path.items (record { above = c.args.at.above + c.leaves_across-half.result; left = c.args.at.left + c.leaves_across-half.result; turned = c.args.at.turned }) 3 c.gather_child-3.new.strips.items c.gather_child-4.new.strips.items (same_thrice (g.E.Engine.seen c.args.engine.now) (g.E.Engine.seen c.gather_child.new.engine) (g.E.Engine.seen c.gather_child-2.new.engine) (g.E.Engine.seen c.gather_child-3.new.engine) c.in_ok-gather_child.ensures.unchanged c.in_ok-gather_child-2.ensures.unchanged c.in_ok-gather_child-3.ensures.unchanged) (path_thrice c.args.path.now.items c.gather_child.new.path.items c.gather_child-2.new.path.items c.gather_child-3.new.path.items c.in_ok-gather_child.ensures.path c.in_ok-gather_child-2.ensures.path c.in_ok-gather_child-3.ensures.path) c.in_ok-gather_child-4.ensures.gathered in
    four_gathered c.args.at.turned c.args.at.above c.args.at.left c.leaves_across-half.result (2 ^ (c.args.height - 1)) c.upper_child-upper.result c.lower_child-lower.result (tree_reached (g.E.Engine.seen c.args.engine.now) c.args.id c.args.path.now.items) c.args.strips.now.items c.gather_child.new.strips.items c.gather_child-2.new.strips.items c.gather_child-3.new.strips.items c.gather_child-4.new.strips.items
    c.leaves_across-half.ensures c.upper_child-upper.ensures.value c.lower_child-lower.ensures.value first second third fourth

pub gather_symmetric-gather_child-requires : goal.gather_symmetric-gather_child-requires
gather_symmetric-gather_child-requires g t c κs within =
    let is = ready (g.E.Engine.seen c.args.engine.now) (g.E.Engine.seen c.args.engine.now) c.args.id c.args.path.now.items c.args.path.now.items (length c.args.strips.now.items) (length c.args.strips.now.items) c.args.height c.leaves_across-half.result c.args.at (record { above = c.args.at.above; left = c.args.at.left; turned = false }) 0
    refl refl refl c.requires.held c.requires.placed c.leaves_across-half.ensures (omega arith) (omega arith) in
    (search rules, (within.0, (within.1, (is.held, (is.shallow, is.placed)))))

pub gather_symmetric-gather_child-requires-2 : goal.gather_symmetric-gather_child-requires-2
gather_symmetric-gather_child-requires-2 g t c κs within =
    let is = ready (g.E.Engine.seen c.args.engine.now) (g.E.Engine.seen c.gather_child.new.engine) c.args.id c.args.path.now.items c.gather_child.new.path.items (length c.args.strips.now.items) (length c.gather_child.new.strips.items) c.args.height c.leaves_across-half.result c.args.at (record { above = c.args.at.above + c.leaves_across-half.result; left = c.args.at.left; turned = true }) 1
    c.in_ok-gather_child.ensures.unchanged c.in_ok-gather_child.ensures.path c.in_ok-gather_child.ensures.gathered.long c.requires.held c.requires.placed c.leaves_across-half.ensures (omega arith) (omega arith) in
    (search rules, (within.0, (within.1, (is.held, (is.shallow, is.placed)))))

pub gather_symmetric-gather_child-requires-3 : goal.gather_symmetric-gather_child-requires-3
gather_symmetric-gather_child-requires-3 g t c κs within =
    let is = ready (g.E.Engine.seen c.args.engine.now) (g.E.Engine.seen c.gather_child-2.new.engine) c.args.id c.args.path.now.items c.gather_child-2.new.path.items (length c.args.strips.now.items) (length c.gather_child-2.new.strips.items) c.args.height c.leaves_across-half.result c.args.at (record { above = c.args.at.above + c.leaves_across-half.result; left = c.args.at.left + c.leaves_across-half.result; turned = false }) 2
    (same_twice (g.E.Engine.seen c.args.engine.now) (g.E.Engine.seen c.gather_child.new.engine) (g.E.Engine.seen c.gather_child-2.new.engine) c.in_ok-gather_child.ensures.unchanged c.in_ok-gather_child-2.ensures.unchanged) (path_twice c.args.path.now.items c.gather_child.new.path.items c.gather_child-2.new.path.items c.in_ok-gather_child.ensures.path c.in_ok-gather_child-2.ensures.path) (many_twice (length c.args.strips.now.items) (length c.gather_child.new.strips.items) (length c.gather_child-2.new.strips.items) c.in_ok-gather_child.ensures.gathered.long c.in_ok-gather_child-2.ensures.gathered.long) c.requires.held c.requires.placed c.leaves_across-half.ensures (omega arith) (omega arith) in
    (search rules, (within.0, (within.1, (is.held, (is.shallow, is.placed)))))

pub gather_symmetric-returns-clause-gathered : goal.gather_symmetric-returns-clause-gathered
gather_symmetric-returns-clause-gathered g t c =
    let first = moved (g.E.Engine.seen c.args.engine.now) (g.E.Engine.seen c.args.engine.now) c.args.id c.args.path.now.items c.args.path.now.items (record { above = c.args.at.above; left = c.args.at.left; turned = false }) 0 c.args.strips.now.items c.gather_child.new.strips.items refl refl c.in_ok-gather_child.ensures.gathered in
    let second = moved (g.E.Engine.seen c.args.engine.now) (g.E.Engine.seen c.gather_child.new.engine) c.args.id c.args.path.now.items c.gather_child.new.path.items (record { above = c.args.at.above + c.leaves_across-half.result; left = c.args.at.left; turned = true }) 1 c.gather_child.new.strips.items c.gather_child-2.new.strips.items c.in_ok-gather_child.ensures.unchanged c.in_ok-gather_child.ensures.path c.in_ok-gather_child-2.ensures.gathered in
    let third = moved (g.E.Engine.seen c.args.engine.now) (g.E.Engine.seen c.gather_child-2.new.engine) c.args.id c.args.path.now.items c.gather_child-2.new.path.items (record { above = c.args.at.above + c.leaves_across-half.result; left = c.args.at.left + c.leaves_across-half.result; turned = false }) 2 c.gather_child-2.new.strips.items c.gather_child-3.new.strips.items (same_twice (g.E.Engine.seen c.args.engine.now) (g.E.Engine.seen c.gather_child.new.engine) (g.E.Engine.seen c.gather_child-2.new.engine) c.in_ok-gather_child.ensures.unchanged c.in_ok-gather_child-2.ensures.unchanged) (path_twice c.args.path.now.items c.gather_child.new.path.items c.gather_child-2.new.path.items c.in_ok-gather_child.ensures.path c.in_ok-gather_child-2.ensures.path) c.in_ok-gather_child-3.ensures.gathered in
    three_gathered c.args.at.above c.args.at.left c.leaves_across-half.result (2 ^ (c.args.height - 1)) (tree_reached (g.E.Engine.seen c.args.engine.now) c.args.id c.args.path.now.items) c.args.strips.now.items c.gather_child.new.strips.items c.gather_child-2.new.strips.items c.gather_child-3.new.strips.items c.leaves_across-half.ensures first second third
