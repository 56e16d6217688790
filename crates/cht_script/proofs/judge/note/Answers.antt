use Rattle.std.proofs.Common.{◌≡◌, ◌∙◌, sym, true, false}
use Rattle.cht_script.specs.Statements.{binds, general}
use Rattle.cht_script.specs.Reading.{name_bytes, names_of}
use Rattle.cht_script.specs.Judging.{deletes}
use Rattle.cht_script.proofs.Judged.{on_ok}
use Rattle.cht_script.proofs.Noted.{kept_named, market_noted, new_noted, delete_noted, nothing_noted}
use Rattle.cht_script.proofs.judge.note.Goals as goal

pub returns-in-Market : goal.returns-in-Market
returns-in-Market c =
    rw c.in-Market.is
    (on_ok c.keep.result c.keep.ensures (λ kept known deleted keeps shaped.
    market_noted known deleted c.args.known.now c.keep.new.self c.in-Market.line c.in-Market.to c.in-Market.market c.args.shapes
    (kept_named c.args.known.now c.keep.new.self c.as_bytes.result.now (name_bytes c.in-Market.to) c.args.shapes.first false c.as_bytes.ensures kept) keeps shaped))

pub returns-then-binds : goal.returns-then-binds
returns-then-binds c =
    let count = rw c.in-Act.is at c.requires in
    let new : binds c.in-Act.verb ≡ true = sym c.binds.ensures ∙ c.if-binds.true in
    rw c.in-Act.is
    (on_ok c.keep-then-binds.result c.keep-then-binds.ensures (λ kept known deleted keeps shaped.
    new_noted known deleted c.args.known.now c.keep-then-binds.new.self c.in-Act.line c.in-Act.verb c.in-Act.names _ c.args.shapes
    (kept_named c.args.known.now c.keep-then-binds.new.self c.as_bytes-then-binds.result.now (name_bytes c.in-Act.names.first) c.args.shapes.first false c.as_bytes-then-binds.ensures kept)
    keeps new count shaped))

pub returns-then-deletes : goal.returns-then-deletes
returns-then-deletes c =
    let count = rw c.in-Act.is at c.requires in
    let old : binds c.in-Act.verb ≡ false = sym c.binds.ensures ∙ c.if-binds.false in
    let goes : deletes c.in-Act.verb ≡ true = sym c.deletes.ensures ∙ c.if-deletes.true in
    rw c.in-Act.is
    (on_ok c.keep-then-deletes.result c.keep-then-deletes.ensures (λ kept known deleted keeps shaped.
    delete_noted known deleted c.args.known.now c.keep-then-deletes.new.self c.in-Act.line c.in-Act.verb c.in-Act.names _ c.args.shapes
    (kept_named c.args.known.now c.keep-then-deletes.new.self c.as_bytes-then-deletes.result.now (name_bytes c.in-Act.names.first) c.args.shapes.first true c.as_bytes-then-deletes.ensures kept)
    keeps old goes count shaped))

pub returns-else-deletes : goal.returns-else-deletes
returns-else-deletes c =
    let old : binds c.in-Act.verb ≡ false = sym c.binds.ensures ∙ c.if-binds.false in
    let stays : deletes c.in-Act.verb ≡ false = sym c.deletes.ensures ∙ c.if-deletes.false in
    rw c.in-Act.is (λ known deleted keeps shaped. nothing_noted known deleted c.args.known.now c.in-Act.verb (names_of c.in-Act.names) (general 0 0) keeps old stays)
