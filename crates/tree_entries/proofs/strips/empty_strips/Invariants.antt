use Rattle.std.proofs.Common.{◌≡◌, ℕ, [], length}
use Rattle.tree_entries.specs.Strips.{strip_at}
use Rattle.tree_entries.proofs.strips.empty_strips.Given as goal

abbrev pub invariant-loop : goal.invariant-loop
invariant-loop l = record {
  long : length l.strips.items ≡ l.counter;
  empty : (s : ℕ) → strip_at l.strips.items s ≡ [];
}
