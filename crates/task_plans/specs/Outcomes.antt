-- Outcomes without new tasks.
use Rattle.std.specs.Prelude.{List, [], ◌∷◌}
use Rattle.task_types.specs.declared.outcome.Place.{Place}
use Rattle.task_types.specs.declared.outcome.Place.TheVariants.{Chunk}
use Rattle.task_types.specs.declared.outcome.NewChunk.{NewChunk}
use Rattle.task_types.specs.declared.outcome.Outcome.{Outcome}
use Rattle.task_types.specs.Places.{filled}

-- an outcome without new chunks and tasks
abbrev pub given : {C K : Type 0} → Place → Outcome C K
given output = record { chunks = []; tasks = []; result = output }

-- a content as a chunk without children
abbrev pub bare_chunk : {C : Type 0} → C → NewChunk C
bare_chunk content = record { body = content; children = filled [] }

-- a content over these places as the one new chunk, which is the result
abbrev pub one_chunk : {C K : Type 0} → C → List Place → Outcome C K
one_chunk content places =
    record { chunks = record { body = content; children = filled places } ∷ []; tasks = []; result = Chunk 0 }
