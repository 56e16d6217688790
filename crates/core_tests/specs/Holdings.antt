-- What the caller of an engine of matrices holds between the calls of the tests.
use Rattle.std.specs.Prelude.{◌≡◌, ◌^◌, ◌≤◌, false, Option, None, Some}
use Rattle.std.specs.Ordering.{nat_cmp}
use Rattle.std.specs.FinMap as map
use Rattle.cht_ids.specs.declared.refs.Id.{Id}
use Rattle.cht_ids.specs.declared.refs.Ref.{Ref}
use Rattle.cht_ids.specs.declared.refs.Ref.TheVariants.{Null, Id as Held}
use Rattle.task_types.specs.Tree.{Tree}
use Rattle.name_machine.specs.Parts.{Named}
use Rattle.cht_engine.specs.Seen.{Seen, MayMention, tree_named}
use Rattle.cht_engine.specs.Calls.{deleted}
use Rattle.quad_matrix.specs.declared.chunk.MatChunk.{MatChunk}
use Rattle.quad_matrix.specs.declared.kind.MatKind.{MatKind}
use Rattle.quad_matrix.specs.Chunks.{peak_in}
use Rattle.quad_matrix.specs.Blocks.{IsCanonical}
use Rattle.quad_matrix.specs.Goals.{IsList}

-- the names of a caller that holds one reference, of a tree; none where it is null
abbrev pub one_name : Ref → Tree MatChunk → map.FinMap nat_cmp (Named MatChunk)
one_name Null tree = map.empty
one_name (Held id) tree = map.insert map.empty id.number (record { owner = id.owner; tree = tree })

-- the caller holds nothing
abbrev pub HoldsNothing : Seen MatChunk MatKind → Type 0
HoldsNothing seen = seen.names ≡ map.empty

-- the caller holds this reference and no other
abbrev pub HoldsOne : Seen MatChunk MatKind → Ref → Type 0
HoldsOne seen r = seen.names ≡ one_name r (tree_named seen r)

-- the caller holds two references and no other: once the second is deleted, it holds the first
pub record HoldsTwo (seen : Seen MatChunk MatKind) (first second : Ref) : Type 0 where
  pub mention : MayMention seen second
  pub one : HoldsOne (deleted seen second) first

-- the caller holds one identifier, of a sound list of entries, for leaves of side 2 and one level above them
pub record HoldsList (seen : Seen MatChunk MatKind) (id : Id) : Type 0 where
  pub one : HoldsOne seen (Held id)
  pub list : IsList 2 1 false (tree_named seen (Held id))

-- the caller holds one reference, of a canonical tree of that side and height
pub record HoldsMatrix (seen : Seen MatChunk MatKind) (r : Ref) : Type 0 where
  pub one : HoldsOne seen r
  pub matrix : IsCanonical 2 1 (tree_named seen r)

-- no number of a content is greater than 2 ^ 62 in absolute value
abbrev pub HasSmallPeak : Option MatChunk → Type 0
HasSmallPeak None = Unit {0}
HasSmallPeak (Some content) = peak_in content ≤ 2 ^ 62
