use Rattle.std.proofs.Common.{◌≡◌, None, sym, subst}
use Rattle.name_states.specs.Trees.{tree_of}
use Rattle.name_machine.specs.Paths.{content_at}
use Rattle.cht_core.proofs.Found.{nothing_there}
use Rattle.cht_core.proofs.cores.Core.+look_from.Goals as goal

pub returns-in-Null : goal.returns-in-Null
returns-in-Null g t c = subst (λ r. None ≡ content_at (tree_of c.args.self.now.control.names r) c.args.path.now) (sym c.in-Null.is) (sym (nothing_there c.args.path.now))
