use Rattle.std.proofs.Common.{List, ℕ, [], ◌∷◌, ◌++◌}
use Rattle.std.specs.List.{flat_map}
use Rattle.std.proofs.lemmas.Result.{err_from_is_err_and, on_ok_weaker, on_err_weaker}
use Rattle.journal_text.specs.Openings.{chunk_line, task_line}
use Rattle.journal_text.proofs.Sending.{sent_then, sent_failed, failed_more}
use Rattle.journal_text.proofs.writing.write_plan.Goals as goal

pub returns-in_err-end_line-clause-front : goal.returns-in_err-end_line-clause-front
returns-in_err-end_line-clause-front g c =
    let chunks : List ℕ = flat_map chunk_line c.args.chunks.now in
    let tasks : List ℕ = flat_map (task_line g.K.Kinds.name_of g.K.Kinds.height_of) c.args.tasks.now in
    let p = err_from_is_err_and c.from_residual.result c.from_residual.ensures.1 in
    rw p.1 (failed_more _ _ _ (10 ∷ [] ++ chunks) tasks (failed_more _ _ _ (10 ∷ []) chunks c.in_err-end_line.ensures.front))

pub returns-in_err-write_chunks-clause-front : goal.returns-in_err-write_chunks-clause-front
returns-in_err-write_chunks-clause-front g c =
    let chunks : List ℕ = flat_map chunk_line c.args.chunks.now in
    let tasks : List ℕ = flat_map (task_line g.K.Kinds.name_of g.K.Kinds.height_of) c.args.tasks.now in
    let p = err_from_is_err_and c.from_residual-in_err-write_chunks.result c.from_residual-in_err-write_chunks.ensures.1 in
    rw p.1 (failed_more _ _ _ (10 ∷ [] ++ chunks) tasks (sent_failed _ _ _ _ (10 ∷ []) chunks _ c.in_ok-end_line.ensures.whole c.in_err-write_chunks.ensures.front))

pub returns-clause-whole : goal.returns-clause-whole
returns-clause-whole g c =
    let chunks : List ℕ = flat_map chunk_line c.args.chunks.now in
    let tasks : List ℕ = flat_map (task_line g.K.Kinds.name_of g.K.Kinds.height_of) c.args.tasks.now in
    on_ok_weaker c.write_tasks.result
    (sent_then _ _ _ _ (10 ∷ [] ++ chunks) tasks _ _ (sent_then _ _ _ _ (10 ∷ []) chunks _ _ c.in_ok-end_line.ensures.whole c.in_ok-write_chunks.ensures.whole))
    c.write_tasks.ensures.whole

pub returns-clause-front : goal.returns-clause-front
returns-clause-front g c =
    let chunks : List ℕ = flat_map chunk_line c.args.chunks.now in
    let tasks : List ℕ = flat_map (task_line g.K.Kinds.name_of g.K.Kinds.height_of) c.args.tasks.now in
    on_err_weaker c.write_tasks.result
    (sent_failed _ _ _ _ (10 ∷ [] ++ chunks) tasks _ (sent_then _ _ _ _ (10 ∷ []) chunks _ _ c.in_ok-end_line.ensures.whole c.in_ok-write_chunks.ensures.whole))
    c.write_tasks.ensures.front
