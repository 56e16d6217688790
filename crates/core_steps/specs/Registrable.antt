-- What it takes to register the new chunks of a task.
use Rattle.std.specs.Prelude.{◌≡◌, ℕ, ◌≤◌, List, [], ◌∷◌, map as each}
use Rattle.cht_ids.specs.declared.refs.Ref.{Ref}
use Rattle.task_types.specs.declared.outcome.Places.{Places}
use Rattle.task_types.specs.declared.outcome.NewChunk.{NewChunk}
use Rattle.task_types.specs.Places.{places_of}
use Rattle.name_states.specs.States.{NameState}
use Rattle.name_states.specs.Steps.{present}
use Rattle.name_machine.specs.Control.{Grown, ref_named, chunk_more, chunks_more}
use Rattle.name_machine.specs.NewTasks.{taken}

module _ {C : Type 0} where
  -- names, how many numbers were drawn, and the new chunks so far
  abbrev pub grown_so_far : NameState C → ℕ → List Ref → Grown C
  grown_so_far names drawn chunks = record { names = names; drawn = drawn; chunks = chunks }

  -- the contents of new chunks
  abbrev pub contents : List (NewChunk C) → List C
  contents chunks = each (λ (chunk : NewChunk C). chunk.body) chunks

  -- the places of their children
  abbrev pub children_places : List (NewChunk C) → List Places
  children_places chunks = each (λ (chunk : NewChunk C). chunk.children) chunks

  -- a chunk has as many places as its content wants, at most four, and each place that is not null names something
  pub record IsRegistrable (arity : C → ℕ) (inputs : List Ref) (chunk : NewChunk C) (grown : Grown C) : Type 0 where
    pub few : chunk.children.count ≤ 4
    pub all_children : chunk.children.count ≡ arity chunk.body
    pub there : present (each (ref_named grown.names inputs grown.chunks) (places_of chunk.children)) ≡ taken (places_of chunk.children)

  -- so is each of these chunks, once those before it are there
  abbrev pub AreRegistrable : (C → ℕ) → ℕ → ℕ → List Ref → List (NewChunk C) → Grown C → Type 0
  AreRegistrable arity worker task inputs [] grown = Unit {0}
  AreRegistrable arity worker task inputs (chunk ∷ chunks) grown =
      IsRegistrable arity inputs chunk grown
      × AreRegistrable arity worker task inputs chunks (chunk_more worker task inputs chunk.body (places_of chunk.children) grown)

  -- what the chunks of a list make of the names
  abbrev pub all_grown : ℕ → ℕ → List Ref → List (NewChunk C) → Grown C → Grown C
  all_grown worker task inputs chunks grown = chunks_more worker task inputs (contents chunks) (children_places chunks) grown
