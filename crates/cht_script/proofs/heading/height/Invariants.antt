use Rattle.std.proofs.Common.{◌≡◌, ℕ, ◌+◌, ◌*◌, ◌-◌, ◌^◌, ◌<◌, ◌≤◌}
use Rattle.cht_script.proofs.heading.height.Given as goal

abbrev pub invariant-loop-side : goal.invariant-loop-side
invariant-loop-side l = record {
  doubled : l.side ≡ l.leaf * 2 ^ l.height;
  room : l.height + 1 ≤ l.side;
  least : (k : ℕ) → k < l.height → l.leaf * 2 ^ k < l.grid;
}

abbrev pub decreases-loop-side : goal.decreases-loop-side
decreases-loop-side l = l.grid - l.side
