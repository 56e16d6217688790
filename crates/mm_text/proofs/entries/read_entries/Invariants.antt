use Rattle.std.proofs.Common.{◌≡◌, ◌-◌}
use Rattle.mm_text.specs.Steps.{Passes, sizes_told, gathered_at, last_line}
use Rattle.mm_text.proofs.Gathering.{behind_found}
use Rattle.mm_text.proofs.entries.read_entries.Given as goal

abbrev pub invariant-loop : goal.invariant-loop
invariant-loop l = record {
  passes : Passes l.from.passed l.from.rest.now l.at.passed l.at.rest.now;
  so_far : gathered_at l.form (sizes_told l.sizes) l.sizes.entries l.from.passed l.from.rest.now
      ≡ behind_found l.listed.items (gathered_at l.form (sizes_told l.sizes) (l.sizes.entries - l.counter) l.at.passed l.at.rest.now);
  last : l.at.passed ≡ last_line l.from.passed l.listed.items;
}
