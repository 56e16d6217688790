use Rattle.std.proofs.Common.{List, ℕ, ◌++◌, subst}
use Rattle.std.proofs.lemmas.Result.{on_ok_weaker, on_err_weaker}
use Rattle.cht_io.specs.Bytes.{AddsFront}
use Rattle.journal_text.specs.Text.{line_of}
use Rattle.journal_text.specs.Openings.{opening_words, closing}
use Rattle.journal_text.specs.Sending.{IsSent}
use Rattle.journal_text.proofs.Parts.{two_parts}
use Rattle.journal_text.proofs.Sending.{sent_held, sent_then, sent_failed}
use Rattle.journal_text.proofs.writing.write_event.Goals as goal

pub returns-clause-whole : goal.returns-clause-whole
returns-clause-whole g c =
    let opening : List ℕ = line_of (opening_words g.K.Kinds.name_of g.K.Kinds.height_of c.args.event.now) in
    let rest : List ℕ = closing g.K.Kinds.name_of g.K.Kinds.height_of c.args.event.now in
    let P : List ℕ → Type 0 = λ text. IsSent (g.S.Sink.took c.args.sink.now) c.args.held.now text (g.S.Sink.took c.write_closing.new.sink) c.write_closing.new.held in
    let room = c.in_ok-make_room.ensures.whole in
    on_ok_weaker c.write_closing.result
    (λ sent. subst P (two_parts g.K.Kinds.name_of g.K.Kinds.height_of c.args.event.now)
    (sent_then _ _ _ _ opening rest _ _ (sent_held _ _ _ opening _ _ room.0 room.1 room.2 c.push_opening.ensures) sent))
    c.write_closing.ensures.whole

pub returns-clause-front : goal.returns-clause-front
returns-clause-front g c =
    let opening : List ℕ = line_of (opening_words g.K.Kinds.name_of g.K.Kinds.height_of c.args.event.now) in
    let rest : List ℕ = closing g.K.Kinds.name_of g.K.Kinds.height_of c.args.event.now in
    let P : List ℕ → Type 0 = λ text. AddsFront (g.S.Sink.took c.args.sink.now) (c.args.held.now ++ text) (g.S.Sink.took c.write_closing.new.sink) in
    let room = c.in_ok-make_room.ensures.whole in
    on_err_weaker c.write_closing.result
    (λ fault. subst P (two_parts g.K.Kinds.name_of g.K.Kinds.height_of c.args.event.now)
    (sent_failed _ _ _ _ opening rest _ (sent_held _ _ _ opening _ _ room.0 room.1 room.2 c.push_opening.ensures) fault))
    c.write_closing.ensures.front
