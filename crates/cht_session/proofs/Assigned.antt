-- The tree of a list of entries, which an engine is asked for.
use Rattle.std.proofs.Common.{◌≡◌, ℕ, ◌+◌, ◌≤◌, true, false, not, List, [], ◌∷◌, ◌++◌, None, refl, sym, ap, ◌∙◌, subst, append_assoc}
use Rattle.std.specs.Prelude.{Result, Ok, Err}
use Rattle.std.specs.FinMap as map
use Rattle.name_states.proofs.Basics.{inserted_here}
use Rattle.cht_ids.specs.declared.memory.Memory.{Memory}
use Rattle.cht_ids.specs.declared.refs.Id.{Id}
use Rattle.cht_ids.specs.declared.refs.Ref.{Ref}
use Rattle.cht_ids.specs.declared.refs.Ref.TheVariants.{Null, Id as Held}
use Rattle.task_types.specs.Tree.{Tree, Nothing, Root, is_there}
use Rattle.cht_history.specs.declared.event.Event.{Event}
use Rattle.cht_history.specs.declared.event.Event.TheVariants.{Register, Delete, Ask, Collect}
use Rattle.cht_engine.specs.Seen.{Seen, MayMention, tree_of_named}
use Rattle.cht_engine.specs.Calls.{trees_named, IsRegistered, deleted, IsOutput, IsAsked}
use Rattle.quad_matrix.specs.declared.chunk.MatChunk.{MatChunk}
use Rattle.quad_matrix.specs.declared.chunk.MatChunk.TheVariants as chunk
use Rattle.quad_matrix.specs.declared.chunk.Entries.{Entries}
use Rattle.quad_matrix.specs.declared.kind.MatKind.{MatKind}
use Rattle.quad_matrix.specs.declared.kind.What.TheVariants.{Assign, SAssign}
use Rattle.mm_text.specs.declared.market.Form.{Form}
use Rattle.mm_text.specs.declared.market.Form.TheVariants.{General, Symmetric}
use Rattle.cht_script.specs.Statements.{is_symmetric}
use Rattle.chunk_codec.specs.Spots.{side_of}
use Rattle.quad_matrix.specs.Spots.{AreSoundEntries, block_listed}
use Rattle.quad_matrix.specs.Blocks.{alone}
use Rattle.quad_matrix.specs.Goals.{goal_of, FitsAt, IsDefined}
use Rattle.quad_matrix.specs.Matrices.{matrices}
use Rattle.quad_matrix.specs.Works.{work_of}
use Rattle.quad_matrix.proofs.ForOthers.{sound_some, is_there_some, is_there_symmetric_some, goal_any}
use Rattle.cht_session.specs.Forms.{what_listed}
use Rattle.cht_session.specs.Program.{IsNullIf}
use Rattle.cht_session.specs.Held.{Names, IsNameOf}
use Rattle.cht_session.specs.Given.{IsGiven, IsUndone, kind_listed, IsAssigned, Assigns}
use Rattle.cht_session.proofs.Identifiers.{named_given, removed_again, around}
use Rattle.cht_session.proofs.Asked.{asked_answered, deleted_is, named_mentioned}

-- the tree of a list
abbrev list_of : Entries → Tree MatChunk
list_of entries = alone (chunk.Entries entries)

-- a list was registered
pub record IsListed (before after : Seen MatChunk MatKind) (entries : Entries) (id : Id) : Type 0 where
  pub fresh : map.get before.names id.number ≡ None
  pub names : after.names ≡ map.insert before.names id.number (record { owner = id.owner; tree = list_of entries })
  pub caller : after.caller ≡ before.caller
  pub asks : after.asks ≡ before.asks
  pub account : after.account ≡ before.account
  pub told : after.events ≡ before.events ++ Register before.caller id [] ∷ []

pub registered_listed : (before after : Seen MatChunk MatKind) (entries : Entries) (id : Id)
    → IsRegistered before after (chunk.Entries entries) [] (Ok id) → IsListed before after entries id
registered_listed before after entries id (fresh, is) =
    subst (λ (after : Seen MatChunk MatKind). IsListed before after entries id) (sym is)
    (record { fresh = fresh; names = refl; caller = refl; asks = refl; account = refl; told = refl })

pub listed_named : (before after : Seen MatChunk MatKind) (entries : Entries) (id : Id) → IsListed before after entries id
    → IsNameOf after.names (list_of entries) (Held id)
listed_named before after entries id is =
    ap (λ n. map.get n id.number) is.names ∙ inserted_here before.names id.number id.number _ _ refl refl

listed_seen : (before after : Seen MatChunk MatKind) (entries : Entries) (id : Id) → IsListed before after entries id
    → trees_named after (Held id ∷ []) ≡ list_of entries ∷ []
listed_seen before after entries id is = ap (λ o. tree_of_named o ∷ []) (listed_named before after entries id is)

fits : (form : Form) (entries : Entries) → AreSoundEntries entries.leaf entries.height (is_symmetric form) entries
    → FitsAt entries.leaf (what_listed form) entries.height (list_of entries ∷ [])
fits General entries sound = (sound, refl, refl, refl, refl)
fits Symmetric entries sound = (sound, refl, refl, refl, refl)

-- its tree is defined
pub listed_defined : (before after : Seen MatChunk MatKind) (form : Form) (entries : Entries) (id : Id) → IsListed before after entries id
    → AreSoundEntries entries.leaf entries.height (is_symmetric form) entries → entries.leaf ≤ 64 → entries.height ≤ 16
    → IsDefined (kind_listed form entries) (trees_named after (Held id ∷ []))
listed_defined before after form entries id is sound leaf low =
    subst (IsDefined (kind_listed form entries)) (sym (listed_seen before after entries id is)) (record {
      low = low;
      leaf = entries.leaf;
      leaf_high = leaf;
      fits = fits form entries sound;
    })

-- whatever came of it, the list may be deleted
pub list_mentioned : (before after : Seen MatChunk MatKind) (kind : MatKind) (inputs : List Ref) (tree : Tree MatChunk) (s : Ref) (answer : Result Ref Memory)
    → IsAsked matrices before after kind inputs answer → IsNameOf before.names tree s → MayMention after s
list_mentioned before after kind inputs tree s (Ok r) is named =
    let got = asked_answered before after kind inputs r is in
    named_mentioned after tree s (named_given before.names after.names (goal_of kind (trees_named before inputs)) tree r s named got.names)
list_mentioned before after kind inputs tree s (Err memory) is named =
    named_mentioned after tree s (subst (λ n. IsNameOf n tree s) (sym is.names) named)

-- an output is null exactly where its tree is nothing
pub output_null : (before : Seen MatChunk MatKind) (tree : Tree MatChunk) (r : Ref) → IsOutput before tree r → IsNullIf (not (is_there tree)) r
output_null before Nothing Null is = tt
output_null before Nothing (Held id) is = is
output_null before (Root c x y z w) Null is = is
output_null before (Root c x y z w) (Held id) is = tt

-- the tree of a sound list is there
goal_there : (form : Form) (entries : Entries) → AreSoundEntries entries.leaf entries.height (is_symmetric form) entries → is_there (goal_of (kind_listed form entries) (list_of entries ∷ [])) ≡ true
goal_there General entries sound =
    let b = entries.leaf in
    let h = entries.height in
    ap is_there (goal_any b Assign h (list_of entries ∷ []) (fits General entries sound))
    ∙ is_there_some b h (block_listed entries.symmetric (side_of b h) entries.list) (sound_some b h false entries sound)
goal_there Symmetric entries sound =
    let b = entries.leaf in
    let h = entries.height in
    ap is_there (goal_any b SAssign h (list_of entries ∷ []) (fits Symmetric entries sound))
    ∙ is_there_symmetric_some b h (block_listed entries.symmetric (side_of b h) entries.list) (sound_some b h true entries sound)

-- a tree that came while a list was registered came without it
given_around : (names later : Names) (id : Id) (tree list : Tree MatChunk) (r : Ref) → map.get names id.number ≡ None
    → IsGiven (map.insert names id.number (record { owner = id.owner; tree = list })) tree r later → IsGiven names tree r (map.remove later id.number)
given_around names later id tree list Null fresh given = (given.0, ap (λ n. map.remove n id.number) given.1 ∙ removed_again names id.number _ fresh)
given_around names later id tree list (Held k) fresh given =
    let both = around names id.number k.number (record { owner = id.owner; tree = list }) (record { owner = k.owner; tree = tree }) fresh given.0 in
    (both.0, ap (λ n. map.remove n id.number) given.1 ∙ both.1)

pub assigned_done : (before listed asked after : Seen MatChunk MatKind) (form : Form) (entries : Entries) (id : Id) (answer : Result Ref Memory)
    → before.asks ≡ map.empty → AreSoundEntries entries.leaf entries.height (is_symmetric form) entries
    → IsListed before listed entries id → IsAsked matrices listed asked (kind_listed form entries) (Held id ∷ []) answer → after ≡ deleted asked (Held id)
    → Assigns before after form entries answer
assigned_done before listed asked after form entries id (Ok r) idle sound list is end =
    let got = asked_answered listed asked (kind_listed form entries) (Held id ∷ []) r is in
    let goal = goal_of (kind_listed form entries) (list_of entries ∷ []) in
    let gone = deleted_is asked (Held id) in
    let seen = listed_seen before listed entries id list in
    let given = subst (λ n. IsGiven n goal r asked.names) list.names (subst (λ trees. IsGiven listed.names (goal_of (kind_listed form entries) trees) r asked.names) seen got.names) in
    let output = subst (λ trees. IsOutput listed (goal_of (kind_listed form entries) trees) r) seen got.output in
    let caller = got.caller ∙ list.caller in
    subst (λ (after : Seen MatChunk MatKind). IsAssigned before after form entries r) (sym end) (record {
      caller = gone.caller ∙ caller;
      asks = gone.asks ∙ got.asks ∙ list.asks;
      names = given_around before.names asked.names id goal (list_of entries) r list.fresh given;
      account = gone.account ∙ got.account ∙ ap (λ n. n + work_of (kind_listed form entries) (trees_named listed (Held id ∷ []))) list.account ∙ ap (λ trees. before.account + work_of (kind_listed form entries) trees) seen;
      events = Register before.caller id [] ∷ Ask before.caller got.task (kind_listed form entries) (Held id ∷ []) ∷ Collect before.caller got.task r ∷ Delete before.caller id ∷ [];
      of_list = (subst (λ t. IsNullIf (not t) r) (goal_there form entries sound) (output_null listed goal r output), id, got.task, refl);
      told =
          gone.told
          ∙ ap (λ (es : List (Event MatKind)). es ++ Delete asked.caller id ∷ []) (got.told ∙ ap (λ (es : List (Event MatKind)). es ++ Ask listed.caller got.task (kind_listed form entries) (Held id ∷ []) ∷ Collect listed.caller got.task r ∷ []) list.told)
          ∙ ap (λ (c : ℕ). ((before.events ++ Register before.caller id [] ∷ []) ++ Ask listed.caller got.task (kind_listed form entries) (Held id ∷ []) ∷ Collect listed.caller got.task r ∷ []) ++ Delete c id ∷ []) caller
          ∙ ap (λ (c : ℕ). ((before.events ++ Register before.caller id [] ∷ []) ++ Ask c got.task (kind_listed form entries) (Held id ∷ []) ∷ Collect c got.task r ∷ []) ++ Delete before.caller id ∷ []) list.caller
          ∙ joined before.events (Register before.caller id []) (Ask before.caller got.task (kind_listed form entries) (Held id ∷ [])) (Collect before.caller got.task r) (Delete before.caller id);
    })
  where
    joined : (es : List (Event MatKind)) (a b c d : Event MatKind) → ((es ++ a ∷ []) ++ b ∷ c ∷ []) ++ d ∷ [] ≡ es ++ a ∷ b ∷ c ∷ d ∷ []
    joined es a b c d = append_assoc (es ++ a ∷ []) (b ∷ c ∷ []) (d ∷ []) ∙ append_assoc es (a ∷ []) (b ∷ c ∷ d ∷ [])
assigned_done before listed asked after form entries id (Err memory) idle sound list is end =
    let gone = deleted_is asked (Held id) in
    subst (λ (after : Seen MatChunk MatKind). IsUndone before after) (sym end) (record {
      caller = gone.caller ∙ is.caller ∙ list.caller;
      asks = gone.asks ∙ is.asks;
      names = gone.names ∙ ap (λ n. map.remove n id.number) (is.names ∙ list.names) ∙ removed_again before.names id.number _ list.fresh;
    })
