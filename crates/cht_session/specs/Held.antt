-- What is held of names, and what the caller of an engine sees, against the names that a script has bound.
use Rattle.std.specs.Prelude.{◌≡◌, ℕ, ◌≤◌, List, [], ◌∷◌, Option, None, Some, IsSome, IfSome}
use Rattle.std.specs.Ordering.{nat_cmp}
use Rattle.std.specs.FinMap as map
use Rattle.cht_ids.specs.declared.refs.Id.{Id}
use Rattle.cht_ids.specs.declared.refs.Ref.{Ref}
use Rattle.cht_ids.specs.declared.refs.Ref.TheVariants.{Null, Id as HeldId}
use Rattle.chunk_codec.specs.Spots.{side_of}
use Rattle.task_types.specs.Tree.{Tree, Nothing}
use Rattle.name_machine.specs.Parts.{Named}
use Rattle.cht_engine.specs.Seen.{Seen, of_owner}
use Rattle.quad_matrix.specs.declared.chunk.MatChunk.{MatChunk}
use Rattle.quad_matrix.specs.declared.kind.MatKind.{MatKind}
use Rattle.cht_script.specs.Newest.{newest}
use Rattle.cht_session.specs.declared.held.Binding.{Binding}
use Rattle.cht_session.specs.declared.held.Held.{Held}
use Rattle.cht_session.specs.Forms.{tree_in, IsSoundIn, shape_of}
use Rattle.cht_session.specs.Bindings.{found_in, IsOrdered}
use Rattle.cht_session.specs.Program.{Bound, is_bound_as, references, identifiers}

-- ---- Names

-- the side of the squares to which all matrices are completed by zeros
abbrev pub side_in : Held → ℕ
side_in held = side_of held.leaf held.height

-- what is held of a name is its shape, its form and its reference
pub record IsOf (one : Binding) (bound : Bound) : Type 0 where
  pub shape : one.shape ≡ shape_of bound.known.form bound.known.matrix
  pub at : one.at ≡ bound.at

-- of a name that is bound, and nothing of any other
abbrev pub Finds : Option Binding → Option Bound → Type 0
Finds None None = Unit {0}
Finds None (Some bound) = ⊥
Finds (Some one) None = ⊥
Finds (Some one) (Some bound) = IsOf one bound

-- ---- The identifiers of the caller

-- what a caller's identifiers are by their numbers
abbrev pub Names : Type 0
Names = map.FinMap nat_cmp (Named MatChunk)

-- a reference names a tree
abbrev pub IsNameOf : Names → Tree MatChunk → Ref → Type 0
IsNameOf names tree Null = tree ≡ Nothing
IsNameOf names tree (HeldId id) = map.get names id.number ≡ Some (record { owner = id.owner; tree = tree })

-- the identifiers but one
abbrev pub without : Names → Ref → Names
without names Null = names
without names (HeldId id) = map.remove names id.number

-- the references of names, each of which names the tree of its matrix, are all different, no name is bound twice, and no other identifier is
-- held
abbrev pub AreKept : ℕ → ℕ → Names → List Bound → Type 0
AreKept b h names [] = names ≡ map.empty
AreKept b h names (one ∷ env) =
    IsNameOf names (tree_in one.known.form b h one.known.matrix) one.at
    × (newest (is_bound_as one.known.name) env ≡ None)
    × AreKept b h (without names one.at) env

-- these identifiers are all that are held, and each once
abbrev pub AreAll : Names → List Id → Type 0
AreAll names [] = names ≡ map.empty
AreAll names (id ∷ ids) = IsSome (of_owner id.owner (map.get names id.number)) × AreAll (map.remove names id.number) ids

-- ---- Both together

-- the matrix of a name is no larger than the blocks, and has a tree in its form
abbrev pub IsSoundBound : ℕ → ℕ → Bound → Type 0
IsSoundBound b h one = IsSoundIn one.known.form b h one.known.matrix

-- what is held, and what the caller sees, is what these names mean and the references that they were given
pub record IsShown (seen : Seen MatChunk MatKind) (held : Held) (env : List Bound) : Type 0 where
  pub leaf_low : 1 ≤ held.leaf
  pub leaf_high : held.leaf ≤ 64
  pub low : held.height ≤ 16
  pub names : (name : List ℕ) → Finds (found_in held name) (newest (is_bound_as name) env)
  pub ordered : IsOrdered held
  pub order : identifiers held.order.items ≡ identifiers (references env)
  pub sound : (name : List ℕ) → IfSome (newest (is_bound_as name) env) (IsSoundBound held.leaf held.height)
  pub kept : AreKept held.leaf held.height seen.names env
  pub idle : seen.asks ≡ map.empty

-- this is so for some names
abbrev pub IsWell : Seen MatChunk MatKind → Held → Type 0
IsWell seen held = (env : List Bound) × IsShown seen held env

-- the references in the order are all that the caller holds, and no task is asked
pub record IsLeft (seen : Seen MatChunk MatKind) (held : Held) : Type 0 where
  pub all : AreAll seen.names (identifiers held.order.items)
  pub idle : seen.asks ≡ map.empty
