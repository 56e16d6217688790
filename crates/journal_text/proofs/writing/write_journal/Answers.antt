use Rattle.std.proofs.Common.{ℕ, List, [], ◌++◌, length, sym, ap, ◌∙◌, subst}
use Rattle.std.specs.List.{flat_map}
use Rattle.std.proofs.lemmas.Result.{err_from_is_err_and, on_ok_weaker, on_err_weaker}
use Rattle.cht_io.specs.Bytes.{Adds, AddsFront}
use Rattle.journal_text.specs.Text.{ended_line, first_words, last_words}
use Rattle.journal_text.specs.Openings.{event_text}
use Rattle.journal_text.specs.Sending.{IsSent}
use Rattle.journal_text.proofs.Parts.{three_parts}
use Rattle.journal_text.proofs.Sending.{sent_start, sent_then, sent_failed, sent_whole, failed_more, failed_last}
use Rattle.journal_text.proofs.writing.write_journal.Goals as goal

pub returns-in_err-write_events-clause-front : goal.returns-in_err-write_events-clause-front
returns-in_err-write_events-clause-front g c =
    let first : List ℕ = ended_line first_words in
    let events : List ℕ = flat_map (event_text g.K.Kinds.name_of g.K.Kinds.height_of) c.args.journal.now.events in
    let last : List ℕ = ended_line (last_words (length c.args.journal.now.events)) in
    let start : IsSent (g.S.Sink.took c.args.sink.now) [] first (g.S.Sink.took c.args.sink.now) c.push.new.self =
    sent_start (g.S.Sink.took c.args.sink.now) c.push.new.self first (c.push.ensures ∙ ap (λ held. held ++ first) c.new-held.ensures) in
    let whole = sym (three_parts g.K.Kinds.name_of g.K.Kinds.height_of c.args.journal.now.events) in
    let P : List ℕ → Type 0 = λ text. AddsFront (g.S.Sink.took c.args.sink.now) text (g.S.Sink.took c.write_events.new.sink) in
    let p = err_from_is_err_and c.from_residual.result c.from_residual.ensures.1 in
    rw p.1 (subst P whole (failed_more _ _ [] (first ++ events) last (sent_failed _ _ _ [] first events _ start c.in_err-write_events.ensures.front)))

pub returns-in_err-write_end-clause-front : goal.returns-in_err-write_end-clause-front
returns-in_err-write_end-clause-front g c =
    let first : List ℕ = ended_line first_words in
    let events : List ℕ = flat_map (event_text g.K.Kinds.name_of g.K.Kinds.height_of) c.args.journal.now.events in
    let last : List ℕ = ended_line (last_words (length c.args.journal.now.events)) in
    let start : IsSent (g.S.Sink.took c.args.sink.now) [] first (g.S.Sink.took c.args.sink.now) c.push.new.self =
    sent_start (g.S.Sink.took c.args.sink.now) c.push.new.self first (c.push.ensures ∙ ap (λ held. held ++ first) c.new-held.ensures) in
    let whole = sym (three_parts g.K.Kinds.name_of g.K.Kinds.height_of c.args.journal.now.events) in
    let P : List ℕ → Type 0 = λ text. AddsFront (g.S.Sink.took c.args.sink.now) text (g.S.Sink.took c.write_end.new.sink) in
    let p = err_from_is_err_and c.from_residual-in_err-write_end.result c.from_residual-in_err-write_end.ensures.1 in
    rw p.1 (subst P whole (sent_failed _ _ _ [] (first ++ events) last _ (sent_then _ _ _ [] first events _ _ start c.in_ok-write_events.ensures.whole)
    (let Q : ℕ → Type 0 = λ n. AddsFront (g.S.Sink.took c.write_events.new.sink) (c.write_events.new.held ++ ended_line (last_words n)) (g.S.Sink.took c.write_end.new.sink) in
    subst Q c.len.ensures c.in_err-write_end.ensures.front)))

pub returns-clause-whole : goal.returns-clause-whole
returns-clause-whole g c =
    let first : List ℕ = ended_line first_words in
    let events : List ℕ = flat_map (event_text g.K.Kinds.name_of g.K.Kinds.height_of) c.args.journal.now.events in
    let last : List ℕ = ended_line (last_words (length c.args.journal.now.events)) in
    let start : IsSent (g.S.Sink.took c.args.sink.now) [] first (g.S.Sink.took c.args.sink.now) c.push.new.self =
    sent_start (g.S.Sink.took c.args.sink.now) c.push.new.self first (c.push.ensures ∙ ap (λ held. held ++ first) c.new-held.ensures) in
    let whole = sym (three_parts g.K.Kinds.name_of g.K.Kinds.height_of c.args.journal.now.events) in
    let P : List ℕ → Type 0 = λ text. Adds (g.S.Sink.took c.args.sink.now) text (g.S.Sink.took c.flush.new.sink) in
    on_ok_weaker c.flush.result
    (λ taken. subst P whole (sent_whole _ _ _ ((first ++ events) ++ last) _ (sent_then _ _ _ [] (first ++ events) last _ _ (sent_then _ _ _ [] first events _ _ start c.in_ok-write_events.ensures.whole)
    (let Q : ℕ → Type 0 = λ n. IsSent (g.S.Sink.took c.write_events.new.sink) c.write_events.new.held (ended_line (last_words n)) (g.S.Sink.took c.write_end.new.sink) c.write_end.new.held in
    subst Q c.len.ensures c.in_ok-write_end.ensures.whole)) taken))
    c.flush.ensures.whole

pub returns-clause-front : goal.returns-clause-front
returns-clause-front g c =
    let first : List ℕ = ended_line first_words in
    let events : List ℕ = flat_map (event_text g.K.Kinds.name_of g.K.Kinds.height_of) c.args.journal.now.events in
    let last : List ℕ = ended_line (last_words (length c.args.journal.now.events)) in
    let start : IsSent (g.S.Sink.took c.args.sink.now) [] first (g.S.Sink.took c.args.sink.now) c.push.new.self =
    sent_start (g.S.Sink.took c.args.sink.now) c.push.new.self first (c.push.ensures ∙ ap (λ held. held ++ first) c.new-held.ensures) in
    let whole = sym (three_parts g.K.Kinds.name_of g.K.Kinds.height_of c.args.journal.now.events) in
    let P : List ℕ → Type 0 = λ text. AddsFront (g.S.Sink.took c.args.sink.now) text (g.S.Sink.took c.flush.new.sink) in
    on_err_weaker c.flush.result
    (λ fault. subst P whole (failed_last _ _ _ ((first ++ events) ++ last) _ (sent_then _ _ _ [] (first ++ events) last _ _ (sent_then _ _ _ [] first events _ _ start c.in_ok-write_events.ensures.whole)
    (let Q : ℕ → Type 0 = λ n. IsSent (g.S.Sink.took c.write_events.new.sink) c.write_events.new.held (ended_line (last_words n)) (g.S.Sink.took c.write_end.new.sink) c.write_end.new.held in
    subst Q c.len.ensures c.in_ok-write_end.ensures.whole)) fault))
    c.flush.ensures.front
