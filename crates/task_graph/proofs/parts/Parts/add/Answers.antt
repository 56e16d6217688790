use Rattle.std.proofs.Common.{◌≡◌, ◌≤◌, ◌+◌, Some, ap, sym, subst, ◌∙◌, arith, length, inl, inr, get_or}
use Rattle.std.specs.HashMap.{hash_map_len}
use Rattle.cht_ids.specs.declared.refs.Ref.TheVariants.{Null}
use Rattle.task_states.specs.declared.states.Slot.TheVariants.{Known}
use Rattle.task_graph.specs.declared.parts.Parts.{Parts}
use Rattle.task_states.specs.Steps.{added}
use Rattle.task_links.specs.Inside.{room_of, shown_entry}
use Rattle.task_links.specs.Kept.{opened}
use Rattle.task_graph.specs.Adding.{IsAdding, mixed}
use Rattle.task_graph.specs.Graphs.{graph_of}
use Rattle.task_graph.proofs.Additions.{adding_none, adding_known, adding_more, spot_there, spot_free, spot_home, spot_unused, spot_unasked, of_at, free_at, earlier_at, mixed_all, get_at, slot_cases, none_entry}
use Rattle.task_graph.proofs.parts.Parts.add.Goals as goal
use Rattle.task_graph.proofs.parts.Parts.add.Goals.{in-Awaits, in_default}

pub place_idle-requires-clause-new : goal.place_idle-requires-clause-new
place_idle-requires-clause-new g c = none_entry c.args.self.now c.args.task c.requires.new

pub loop-place-init : goal.loop-place-init
loop-place-init g c = (
  adding_none c.args.self.now c.place_idle.new.self c.args.task c.args.caller c.args.kind c.args.inputs.now c.place_idle.ensures.whole
      (c.place_idle.ensures.graph
      ∙ ap (λ caller. added (graph_of c.args.self.now) c.args.task caller c.bare.result.kind (shown_entry (opened c.bare.result)).inputs) c.bare.ensures.caller
      ∙ ap (λ kind. added (graph_of c.args.self.now) c.args.task c.args.caller kind (shown_entry (opened c.bare.result)).inputs) c.bare.ensures.kind
      ∙ ap (λ inputs. added (graph_of c.args.self.now) c.args.task c.args.caller c.args.kind inputs) c.bare.ensures.inputs)
      c.place_idle.ensures.links,
  c.place_idle.ensures.len,
  c.place_idle.ensures.room,
)

pub join-requires-clause-there : goal.join-requires-clause-there
join-requires-clause-there g c = spot_there c.args.self.now c.loop-place.self c.args.task c.args.caller c.args.kind c.args.inputs.now c.loop-place.place (none_entry c.args.self.now c.args.task c.requires.new) c.loop-place.invariant.0 c.in-Awaits.awaited c.in-Awaits.number (get_at c.args.inputs.now c.loop-place.place _ c.loop-place-test.true ∙ ap Some c.in-Awaits.is)

pub join-requires-clause-free : goal.join-requires-clause-free
join-requires-clause-free g c = spot_free c.args.self.now c.loop-place.self c.args.task c.args.caller c.args.kind c.args.inputs.now c.loop-place.place (none_entry c.args.self.now c.args.task c.requires.new) c.loop-place.invariant.0 c.in-Awaits.awaited c.in-Awaits.number (get_at c.args.inputs.now c.loop-place.place _ c.loop-place-test.true ∙ ap Some c.in-Awaits.is)

pub join-requires-clause-home : goal.join-requires-clause-home
join-requires-clause-home g c =
    spot_home c.args.self.now c.loop-place.self c.args.task c.args.caller c.args.kind c.args.inputs.now c.loop-place.place (none_entry c.args.self.now c.args.task c.requires.new) c.loop-place.invariant.0 c.in-Awaits.awaited c.in-Awaits.number (get_at c.args.inputs.now c.loop-place.place _ c.loop-place-test.true ∙ ap Some c.in-Awaits.is)
    (of_at (graph_of c.args.self.now) c.args.caller c.args.inputs.now c.loop-place.place c.in-Awaits.awaited c.in-Awaits.number c.requires.callers (get_at c.args.inputs.now c.loop-place.place _ c.loop-place-test.true ∙ ap Some c.in-Awaits.is))

pub join-requires-clause-unused : goal.join-requires-clause-unused
join-requires-clause-unused g c =
    spot_unused c.args.self.now c.loop-place.self c.args.task c.args.caller c.args.kind c.args.inputs.now c.loop-place.place (none_entry c.args.self.now c.args.task c.requires.new) c.loop-place.invariant.0 c.in-Awaits.awaited c.in-Awaits.number (get_at c.args.inputs.now c.loop-place.place _ c.loop-place-test.true ∙ ap Some c.in-Awaits.is)
    (free_at (graph_of c.args.self.now) c.args.inputs.now c.loop-place.place c.in-Awaits.awaited c.in-Awaits.number c.requires.numbers (get_at c.args.inputs.now c.loop-place.place _ c.loop-place-test.true ∙ ap Some c.in-Awaits.is))
    (λ k t low was. earlier_at (graph_of c.args.self.now) c.args.inputs.now c.loop-place.place k c.in-Awaits.awaited t c.in-Awaits.number c.requires.numbers (get_at c.args.inputs.now c.loop-place.place _ c.loop-place-test.true ∙ ap Some c.in-Awaits.is) low was)

pub join-requires-clause-unasked : goal.join-requires-clause-unasked
join-requires-clause-unasked g c =
    spot_unasked c.args.self.now c.loop-place.self c.args.task c.args.caller c.args.kind c.args.inputs.now c.loop-place.place (none_entry c.args.self.now c.args.task c.requires.new) c.loop-place.invariant.0 c.in-Awaits.awaited c.in-Awaits.number (get_at c.args.inputs.now c.loop-place.place _ c.loop-place-test.true ∙ ap Some c.in-Awaits.is)
    (free_at (graph_of c.args.self.now) c.args.inputs.now c.loop-place.place c.in-Awaits.awaited c.in-Awaits.number c.requires.numbers (get_at c.args.inputs.now c.loop-place.place _ c.loop-place-test.true ∙ ap Some c.in-Awaits.is))

pub loop-place-preserved : goal.loop-place-preserved
loop-place-preserved g c =
    elim c.match-slot.branch [
      | in-Awaits w ↦
          let at = get_at c.args.inputs.now c.loop-place.place _ c.loop-place-test.true ∙ ap Some w.in-Awaits.is in
          let size = w.join.ensures.size in
          subst (λ (self : Parts g.row.K.Denot). IsAdding c.args.self.now self c.args.task c.args.caller c.args.kind c.args.inputs.now (c.loop-place.place + 1) × (hash_map_len self.entries.tasks ≡ hash_map_len c.args.self.now.entries.tasks + 1) × (room_of c.args.self.now.entries ≤ room_of self.entries + 1)) (sym w.self-is) (
            adding_more c.args.self.now c.loop-place.self c.args.task c.args.caller c.args.kind c.args.inputs.now c.loop-place.place (none_entry c.args.self.now c.args.task c.requires.new) c.loop-place.invariant.0 w.in-Awaits.awaited w.in-Awaits.number at w.join.new.self w.join.ensures.whole w.join.ensures.tied w.join.ensures.graph,
            size.len ∙ c.loop-place.invariant.1,
            subst (λ r. room_of c.args.self.now.entries ≤ r + 1) (sym size.room) c.loop-place.invariant.2,
          )
      | in_default w ↦
          subst (λ (self : Parts g.row.K.Denot). IsAdding c.args.self.now self c.args.task c.args.caller c.args.kind c.args.inputs.now (c.loop-place.place + 1) × (hash_map_len self.entries.tasks ≡ hash_map_len c.args.self.now.entries.tasks + 1) × (room_of c.args.self.now.entries ≤ room_of self.entries + 1)) (sym w.self-is) (
            elim (slot_cases (get_or c.args.inputs.now c.loop-place.place (Known Null))) [
              | inl known ↦ adding_known c.args.self.now c.loop-place.self c.args.task c.args.caller c.args.kind c.args.inputs.now c.loop-place.place (none_entry c.args.self.now c.args.task c.requires.new) c.loop-place.invariant.0 known.0 (get_at c.args.inputs.now c.loop-place.place (Known Null) c.loop-place-test.true ∙ ap Some known.1)
              | inr awaits ↦ absurd (w.in_default.not-Awaits awaits.0 awaits.1 awaits.2)
            ],
            c.loop-place.invariant.1,
            c.loop-place.invariant.2,
          )
    ]

pub returns-clause-graph : goal.returns-clause-graph
returns-clause-graph g c =
    let same : c.loop-place.place ≡ length c.args.inputs.now = omega (arith, c.loop-place-test.false, c.loop-place.auto.place-end) in
    c.loop-place.invariant.0.graph
    ∙ ap (λ n. added (graph_of c.args.self.now) c.args.task c.args.caller c.args.kind (mixed n c.args.inputs.now)) same
    ∙ ap (λ xs. added (graph_of c.args.self.now) c.args.task c.args.caller c.args.kind xs) (mixed_all c.args.inputs.now)
