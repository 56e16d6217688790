use Rattle.std.proofs.Common.{◌≡◌, ℕ, length, drop}
use Rattle.name_states.specs.Rules.{AreWithin}
use Rattle.core_steps.specs.Ending.{AreDeletable, deleted_refs}
use Rattle.core_steps.proofs.ending.delete_refs.Given as goal

abbrev pub invariant-loop-r : goal.invariant-loop-r
invariant-loop-r g l = record {
  same : l.refs ≡ l.fn.refs;
  deletable : AreDeletable l.names.names (drop l.r-index l.refs);
  left : deleted_refs l.names.names (drop l.r-index l.refs) ≡ deleted_refs l.fn.names.names l.fn.refs;
  stores : length l.names.room.bodies ≡ length l.fn.names.room.bodies;
  bound : (bound : ℕ) → AreWithin l.fn.names.names bound → AreWithin l.names.names bound;
}
