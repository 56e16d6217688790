use Rattle.std.proofs.Common.{[], ◌∷◌, sym, subst}
use Rattle.cht_ids.specs.declared.refs.Ref.TheVariants.{Id as Held}
use Rattle.quad_matrix.specs.Blocks.{alone}
use Rattle.quad_matrix.specs.Goals.{kind_of, IsDefined}
use Rattle.quad_matrix.specs.Matrices.{matrices}
use Rattle.quad_matrix.specs.declared.chunk.MatChunk.TheVariants.{Entries}
use Rattle.cht_engine.specs.Calls.{trees_named, IsAsked}
use Rattle.cht_session.proofs.Asked.{named_mentioned}
use Rattle.cht_session.proofs.Assigned.{registered_listed, listed_named, listed_defined, list_mentioned, assigned_done}
use Rattle.cht_session.proofs.trees.assigned.Goals as goal

pub ask-tree-requires-clause-held : goal.ask-tree-requires-clause-held
ask-tree-requires-clause-held g c =
    let before = g.E.Engine.seen c.args.engine.now in
    let after = g.E.Engine.seen c.register.new.self in
    let list = registered_listed before after c.args.entries c.in_ok-register.field-0 c.in_ok-register.ensures in
    (named_mentioned after (alone (Entries c.args.entries)) (Held c.in_ok-register.field-0) (listed_named before after c.args.entries c.in_ok-register.field-0 list), tt)

pub ask-tree-requires-clause-defined : goal.ask-tree-requires-clause-defined
ask-tree-requires-clause-defined g c =
    let before = g.E.Engine.seen c.args.engine.now in
    let after = g.E.Engine.seen c.register.new.self in
    let id = c.in_ok-register.field-0 in
    let list = registered_listed before after c.args.entries id c.in_ok-register.ensures in
    subst (λ what. IsDefined (kind_of what c.args.entries.height) (trees_named after (Held id ∷ []))) (sym c.listing.ensures)
    (listed_defined before after c.args.form c.args.entries id list c.requires.sound c.requires.leaf c.requires.low)

pub delete-requires : goal.delete-requires
delete-requires g c =
    let before = g.E.Engine.seen c.args.engine.now in
    let after = g.E.Engine.seen c.register.new.self in
    let id = c.in_ok-register.field-0 in
    let list = registered_listed before after c.args.entries id c.in_ok-register.ensures in
    list_mentioned after (g.E.Engine.seen c.ask-tree.new.self) (kind_of c.listing.result c.args.entries.height) (Held id ∷ []) (alone (Entries c.args.entries)) (Held id) c.ask-tree.result
    c.ask-tree.ensures (listed_named before after c.args.entries id list)

pub returns : goal.returns
returns g c =
    let before = g.E.Engine.seen c.args.engine.now in
    let after = g.E.Engine.seen c.register.new.self in
    let asked = g.E.Engine.seen c.ask-tree.new.self in
    let id = c.in_ok-register.field-0 in
    let list = registered_listed before after c.args.entries id c.in_ok-register.ensures in
    let answered = subst (λ what. IsAsked matrices after asked (kind_of what c.args.entries.height) (Held id ∷ []) c.ask-tree.result) c.listing.ensures c.ask-tree.ensures in
    assigned_done before after asked (g.E.Engine.seen c.delete.new.self) c.args.form c.args.entries id c.ask-tree.result c.requires.idle
    c.requires.sound list answered c.delete.ensures
