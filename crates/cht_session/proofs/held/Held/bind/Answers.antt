use Rattle.std.proofs.Common.{rules, ◌≡◌, ◌∙◌, length, Some, ap, cond}
use Rattle.std.specs.Str.{bytes_eq}
use Rattle.std.proofs.lemmas.Map.Text.{btree_map_updates_str}
use Rattle.cht_session.specs.Bindings.{found_in}
use Rattle.cht_session.proofs.held.Held.bind.Goals as goal

pub returns-clause-bound : goal.returns-clause-bound
returns-clause-bound c =
    let last : c.len-number.result ≡ length c.args.self.now.order.items = search rules in
    λ other.
    btree_map_updates_str c.args.name.now c.args.self.now.named c.insert.new.self (Some _) c.in_ok-insert.ensures.updates other
    ∙ ap (λ n. cond (bytes_eq c.args.name.now other) (Some (record { shape = c.args.shape; at = c.args.at; number = n })) (found_in c.args.self.now other)) last
