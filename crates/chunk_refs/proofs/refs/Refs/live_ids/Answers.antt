use Rattle.std.proofs.Common.{sym, ap, ◌∙◌}
use Rattle.chunk_refs.specs.Room.{Contents}
use Rattle.name_states.specs.States.{live_ids}
use Rattle.chunk_refs.proofs.Ids.{len-ids_of}
use Rattle.chunk_refs.proofs.refs.Refs.live_ids.Goals as goal

pub returns : goal.returns
returns g c = c.len.ensures.len ∙ sym (len-ids_of c.self.inside.parts.ids.entries c.len.ensures.unique) ∙ ap (λ (v : Contents g.row.C.Denot). live_ids v.names) c.self.view_is
