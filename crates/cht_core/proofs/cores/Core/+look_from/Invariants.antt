use Rattle.std.proofs.Common.{length}
use Rattle.cht_core.proofs.cores.Core.+look_from.Given as goal

abbrev pub decreases-look_from : goal.decreases-look_from
decreases-look_from g l = length l.path.now
