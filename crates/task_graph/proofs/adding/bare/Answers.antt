use Rattle.std.proofs.Common.{ap, subst, sym, ◌∙◌, refl, length, take}
use Rattle.std.specs.Prelude.{map as each, slice_get}
use Rattle.task_links.specs.declared.entries.Entry.{Entry}
use Rattle.task_links.specs.Inside.{shown_entry, shown_place}
use Rattle.task_links.specs.Weave.{link_of}
use Rattle.task_graph.specs.Graphs.{IsBare}
use Rattle.task_graph.proofs.Additions.{no_link, shown_bare}
use Rattle.task_graph.proofs.adding.bare.Goals as goal

pub returns-clause-bare : goal.returns-clause-bare
returns-clause-bare g c = subst IsBare (sym c.alone.ensures) (record {
  idle = refl;
  asked = refl;
  first = refl;
  last = refl;
  short = c.requires;
  known = λ place. ap (λ xs. link_of (slice_get xs place)) c.known_places.ensures ∙ no_link c.args.inputs.now place;
})

pub returns-clause-caller : goal.returns-clause-caller
returns-clause-caller g c = ap (λ (e : Entry _). e.caller) c.alone.ensures

pub returns-clause-kind : goal.returns-clause-kind
returns-clause-kind g c = ap (λ (e : Entry _). e.kind) c.alone.ensures

pub returns-clause-inputs : goal.returns-clause-inputs
returns-clause-inputs g c = ap (λ (e : Entry _). (shown_entry e).inputs) c.alone.ensures ∙ ap (each shown_place) c.known_places.ensures ∙ shown_bare c.args.inputs.now
