-- What each call of an engine makes of what its caller sees.
use Rattle.std.specs.Prelude.{◌≡◌, ◌⊎◌, ℕ, ◌+◌, List, [], ◌∷◌, ◌++◌, map as each, Result, Ok, Err}
use Rattle.std.specs.FinMap as map
use Rattle.cht_ids.specs.declared.memory.Memory.{Memory}
use Rattle.cht_ids.specs.declared.refs.Id.{Id}
use Rattle.cht_ids.specs.declared.refs.Ref.{Ref}
use Rattle.cht_ids.specs.declared.refs.Ref.TheVariants.{Null, Id as Held}
use Rattle.task_types.specs.Tree.{Tree, Nothing, Root, rooted}
use Rattle.task_types.specs.Meanings.{Meanings}
use Rattle.cht_history.specs.declared.event.Event.TheVariants.{Register, Copy, Delete, Ask, Collect, Abandon}
use Rattle.cht_engine.specs.Seen.{Seen, IsNew, tree_named, with_name, without_name, with_event}

module _ {C K : Type 0} where
  -- the trees that references name
  abbrev pub trees_named : Seen C K → List Ref → List (Tree C)
  trees_named seen refs = each (tree_named seen) refs

  -- A register of a content over what these references name: one new identifier of the content over their trees, and its event. After
  -- want of memory all is as before.
  abbrev pub IsRegistered : Seen C K → Seen C K → C → List Ref → Result Id Memory → Type 0
  IsRegistered before after content children (Ok id) =
      IsNew before id
      × (after ≡ with_event (with_name before id (rooted content (trees_named before children))) (Register before.caller id children))
  IsRegistered before after content children (Err memory) = after ≡ before

  -- A copy: null of null, without an event; and else one new identifier of the same tree, and its event. After want of memory, which
  -- the copy of null never meets, all is as before.
  abbrev pub IsCopied : Seen C K → Seen C K → Ref → Result Ref Memory → Type 0
  IsCopied before after Null (Ok Null) = after ≡ before
  IsCopied before after Null (Ok (Held to)) = ⊥
  IsCopied before after Null (Err memory) = ⊥
  IsCopied before after (Held from) (Ok Null) = ⊥
  IsCopied before after (Held from) (Ok (Held to)) =
      IsNew before to × (after ≡ with_event (with_name before to (tree_named before (Held from))) (Copy before.caller from to))
  IsCopied before after (Held from) (Err memory) = after ≡ before

  -- after a delete: nothing of null, without an event; and else the one identifier goes, and its event
  abbrev pub deleted : Seen C K → Ref → Seen C K
  deleted before Null = before
  deleted before (Held id) = with_event (without_name before id) (Delete before.caller id)

  -- an output comes to the caller: null exactly where it is nothing, and else a new identifier that names it
  abbrev pub IsOutput : Seen C K → Tree C → Ref → Type 0
  IsOutput before Nothing Null = Unit {0}
  IsOutput before Nothing (Held id) = ⊥
  IsOutput before (Root content a b c d) Null = ⊥
  IsOutput before (Root content a b c d) (Held id) = IsNew before id

  -- with an output, where it is not nothing
  abbrev pub with_output : Seen C K → Ref → Tree C → Seen C K
  with_output before Null output = before
  with_output before (Held id) output = with_name before id output

  -- what an ask leaves that met want of memory: the identifiers are as before, and the caller awaits nothing and so has no unfinished
  -- task; its events may have grown by the ask and an abandon. Of the account nothing is said.
  pub record IsGivenUp (before after : Seen C K) (kind : K) (inputs : List Ref) : Type 0 where
    pub caller : after.caller ≡ before.caller
    pub names : after.names ≡ before.names
    pub asks : after.asks ≡ map.empty
    pub events : (after.events ≡ before.events)
        ⊎ ((task : ℕ) × (after.events ≡ before.events ++ Ask before.caller task kind inputs ∷ Abandon before.caller ∷ []))

  -- after an ask that was answered: its output is there, the work is on the account, and an ask of some task and the collect of that
  -- task are among the events
  abbrev pub answered : Meanings C K → Seen C K → K → List Ref → ℕ → Ref → Seen C K
  answered lib before kind inputs task r =
      record (with_output before r (lib.goal kind (trees_named before inputs))) {
        account = before.account + lib.work kind (trees_named before inputs);
        events = before.events ++ Ask before.caller task kind inputs ∷ Collect before.caller task r ∷ [];
      }

  -- an ask of a kind on what these references name: the goal comes to the caller, or memory was wanting
  abbrev pub IsAsked : Meanings C K → Seen C K → Seen C K → K → List Ref → Result Ref Memory → Type 0
  IsAsked lib before after kind inputs (Ok r) =
      IsOutput before (lib.goal kind (trees_named before inputs)) r × (task : ℕ) × (after ≡ answered lib before kind inputs task r)
  IsAsked lib before after kind inputs (Err memory) = IsGivenUp before after kind inputs
