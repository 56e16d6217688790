use Rattle.std.proofs.Common.{◌∷◌}
use Rattle.std.specs.Prelude.{map}
use Rattle.cht_ids.specs.Refs.{id_text, ref_text}
use Rattle.journal_text.proofs.tails.read_register.Goals as goal

pub returns-clause-every : goal.returns-clause-every
returns-clause-every c = λ caller id children w-caller w-id w-children e.
    let same-caller = c.in_ok-caller.ensures.every caller (id_text id ∷ map ref_text children) w-caller e in
    let same-id = c.in_ok-id.ensures.every id (map ref_text children) w-id (cc c.in_ok-caller.ensures.read.0) in
    let same-children = c.in_ok-children.ensures.every children w-children (cc (c.in_ok-caller.ensures.read.0, c.in_ok-id.ensures.read.0)) in
    cc
