use Rattle.std.proofs.Common.{ℕ, ap, sym, ◌∙◌, refl, inl, inr}
use Rattle.std.specs.Option.{option_map}
use Rattle.task_states.proofs.Options.{same_some}
use Rattle.task_states.specs.States.{Known, Awaits}
use Rattle.cht_ids.specs.declared.refs.Ref.TheVariants.{Null}
use Rattle.task_links.specs.declared.entries.Link.{Link}
use Rattle.task_graph.specs.Graphs.{graph_of}
use Rattle.task_graph.proofs.Moves.{written_twice}
use Rattle.task_graph.proofs.parts.Parts.move_first.Goals as goal

pub join-requires-clause-there : goal.join-requires-clause-there
join-requires-clause-there g c = c.settle-settled.ensures.there

pub join-requires-clause-home : goal.join-requires-clause-home
join-requires-clause-home g c =
    let home = c.requires.whole.woven.home c.args.spot c.settle-settled.result.0 c.settle-settled.ensures.link in
    let other = c.requires.movable.other in
    let own_new = c.settle-settled.ensures.untied.heads_to c.args.spot.task home.0 home.2 in
    let other_new = c.settle-settled.ensures.untied.heads_to c.args.to other.0 other.1 in
    (own_new.0, other_new.0, own_new.1, other_new.1, other_new.2 ∙ c.requires.movable.there home.0 other.0 home.2 other.1 ∙ sym own_new.2, own_new.3 ∙ home.5)

pub join-requires-clause-unasked : goal.join-requires-clause-unasked
join-requires-clause-unasked g c = λ task head asked is at same.
    let h = c.settle-settled.ensures.untied.heads_from task head is in
    c.requires.whole.woven.asked_apart c.args.spot c.settle-settled.result.0 task h.0 asked c.settle-settled.ensures.link h.1 (sym h.4 ∙ at) (sym same)

pub returns-clause-moved : goal.returns-clause-moved
returns-clause-moved g c =
    let tied = c.join.ensures.tied in
    let writes = written_twice (graph_of c.args.self.now) (graph_of c.settle-settled.new.self) (graph_of c.join.new.self) c.args.spot.task c.args.spot.place (Known Null) (Awaits c.args.to c.settle-settled.result.0.number) c.settle-settled.ensures.graph c.join.ensures.graph in
    record {
      link = c.settle-settled.result.0;
      was = c.settle-settled.ensures.link;
      here = (record { task = c.args.to; number = c.settle-settled.result.0.number; next = tied.1 }, tied.2.here, refl);
      rest = λ other apart. tied.2.rows other apart ∙ ap (option_map {U = ℕ × ℕ} (λ (l : Link). (l.task, l.number))) (c.settle-settled.ensures.untied.rest other apart);
      stopped = writes.0;
      tasks = writes.1;
      own = writes.2;
    }

pub returns-clause-next : goal.returns-clause-next
returns-clause-next g c = λ link head is apart at.
    let one = same_some c.settle-settled.result.0 link (sym c.settle-settled.ensures.link ∙ is) in
    let task = ap (λ (l : Link). l.task) one in
    let tied = c.join.ensures.tied in
    let joined = tied.2.heads_from link.task head at in
    let untied = c.settle-settled.ensures.untied.heads_from link.task joined.0 joined.1 in
    elim untied.5 [
      | inl gone ↦ elim joined.2.first [
        | inl new ↦ absurd (apart new.0)
        | inr stays ↦ sym (stays.1 ∙ gone.2)
      ]
      | inr other ↦ absurd (other.0 (sym task))
    ]
