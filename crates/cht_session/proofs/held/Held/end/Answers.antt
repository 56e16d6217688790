use Rattle.std.proofs.Common.{rules, ◌≤◌, length, None, refl, sym}
use Rattle.std.proofs.lemmas.List.{set_past}
use Rattle.std.proofs.lemmas.Map.Text.{btree_map_updates_str}
use Rattle.cht_ids.specs.declared.refs.Ref.TheVariants.{Null}
use Rattle.cht_session.proofs.Bindings.{ended_none, ended_some}
use Rattle.cht_session.proofs.held.Held.end.Goals as goal

pub returns-in_default-clause-ended : goal.returns-in_default-clause-ended
returns-in_default-clause-ended c =
    ended_none c.args.self.now _ c.args.name.now (sym c.in_default.ensures.value) refl
    (λ other. btree_map_updates_str c.args.name.now c.args.self.now.named c.remove.new.self None c.remove.ensures.updates other)

pub returns-in-Some-get_mut-clause-ended : goal.returns-in-Some-get_mut-clause-ended
returns-in-Some-get_mut-clause-ended c =
    ended_some c.args.self.now _ c.args.name.now c.in-Some.one (sym c.in-Some.ensures.value) refl
    (λ other. btree_map_updates_str c.args.name.now c.args.self.now.named c.remove.new.self None c.remove.ensures.updates other)

pub returns-in_default-get_mut-clause-ended : goal.returns-in_default-get_mut-clause-ended
returns-in_default-get_mut-clause-ended c =
    let past : length c.args.self.now.order.items ≤ c.in-Some.one.number = search rules in
    ended_some c.args.self.now _ c.args.name.now c.in-Some.one (sym c.in-Some.ensures.value)
    (sym (set_past c.args.self.now.order.items c.in-Some.one.number Null past))
    (λ other. btree_map_updates_str c.args.name.now c.args.self.now.named c.remove.new.self None c.remove.ensures.updates other)
