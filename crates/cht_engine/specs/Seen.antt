-- What a caller sees of an engine.
use Rattle.std.specs.Prelude.{◌≡◌, ℕ, ◌==◌, if◌then◌else◌, List, [], ◌∷◌, ◌++◌, Option, None, Some, IsSome}
use Rattle.std.specs.Ordering.{nat_cmp}
use Rattle.std.specs.FinMap as map
use Rattle.cht_ids.specs.declared.refs.Id.{Id}
use Rattle.cht_ids.specs.declared.refs.Ref.{Ref}
use Rattle.cht_ids.specs.declared.refs.Ref.TheVariants.{Null, Id as Held}
use Rattle.task_types.specs.Tree.{Tree, Nothing}
use Rattle.cht_history.specs.declared.event.Event.{Event}
use Rattle.name_machine.specs.Parts.{Named, CallerPart}

-- What the caller of an engine sees of it: its number, which its events tell; its identifiers by number, each with the owner and the
-- tree that it names; the goals of what it asked and has not collected, by the numbers of the tasks; its account, which is how many of
-- its tasks were finished, and the works of those that are not yet; and its events, but for stops.
pub record Seen (C K : Type 0) : Type 0 where
  pub caller : ℕ
  pub names : map.FinMap nat_cmp (Named C)
  pub asks : map.FinMap nat_cmp (Tree C)
  pub account : ℕ
  pub events : List (Event K)

-- what a caller sees of a new engine: nothing was named, asked or done
abbrev pub unseen : {C K : Type 0} → ℕ → Seen C K
unseen caller = record { caller = caller; names = map.empty; asks = map.empty; account = 0; events = [] }

-- what the caller with a number sees, where this is its part of a state and its history
abbrev pub seen_by : {C K : Type 0} → ℕ → CallerPart C K → Seen C K
seen_by caller part =
    record { caller = caller; names = part.names; asks = part.asks; account = part.account; events = part.events }

module _ {C : Type 0} where
  -- what stands under a number, where it has this owner
  abbrev pub of_owner : ℕ → Option (Named C) → Option (Named C)
  of_owner owner None = None
  of_owner owner (Some named) = if named.owner == owner then Some named else None

  -- the tree of what stands under a number
  abbrev pub tree_of_named : Option (Named C) → Tree C
  tree_of_named None = Nothing
  tree_of_named (Some named) = named.tree

module _ {C K : Type 0} where
  -- the caller holds an identifier
  abbrev pub Holds : Seen C K → Id → Type 0
  Holds seen id = IsSome (of_owner id.owner (map.get seen.names id.number))

  -- a reference is null, or the caller holds it
  abbrev pub MayMention : Seen C K → Ref → Type 0
  MayMention seen Null = Unit {0}
  MayMention seen (Held id) = Holds seen id

  -- references each of which is so
  abbrev pub MayMentionAll : Seen C K → List Ref → Type 0
  MayMentionAll seen [] = Unit {0}
  MayMentionAll seen (r ∷ refs) = MayMention seen r × MayMentionAll seen refs

  -- the tree that a reference names
  abbrev pub tree_named : Seen C K → Ref → Tree C
  tree_named seen Null = Nothing
  tree_named seen (Held id) = tree_of_named (map.get seen.names id.number)

  -- the caller holds nothing under the number of an identifier
  abbrev pub IsNew : Seen C K → Id → Type 0
  IsNew seen id = map.get seen.names id.number ≡ None

  -- one more identifier of a tree
  abbrev pub with_name : Seen C K → Id → Tree C → Seen C K
  with_name seen id tree = record seen { names = map.insert seen.names id.number (record { owner = id.owner; tree = tree }) }

  -- an identifier goes
  abbrev pub without_name : Seen C K → Id → Seen C K
  without_name seen id = record seen { names = map.remove seen.names id.number }

  -- one more event
  abbrev pub with_event : Seen C K → Event K → Seen C K
  with_event seen event = record seen { events = seen.events ++ event ∷ [] }
