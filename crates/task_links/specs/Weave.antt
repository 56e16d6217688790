-- How the inputs that await a task are linked.
use Rattle.std.specs.Prelude.{◌≡◌, ℕ, ◌<◌, ◌≤◌, ◌^◌, ◌-◌, Bool, false, cond, nat_eq, ◌⊎◌, Option, None, Some}
use Rattle.std.specs.Option.{option_map}
use Rattle.task_states.specs.declared.states.Awaiter.{Awaiter}
use Rattle.task_states.specs.declared.states.Awaiter.TheVariants.{Input as AtInput, Asked}
use Rattle.task_links.specs.declared.entries.Spot.{Spot}
use Rattle.task_links.specs.declared.entries.Link.{Link}
use Rattle.task_links.specs.declared.entries.Entry.{Entry}
use Rattle.task_links.specs.declared.entries.Place.{Place}
use Rattle.task_links.specs.declared.entries.Place.TheVariants.{Known, Awaits}
use Rattle.task_links.specs.Inside.{place_at, is_spot, shown_at}

-- above a number, if one is given
abbrev pub Above : Option ℕ → ℕ → Type 0
Above None key = Unit {0}
Above (Some bound) key = bound < key

-- Rows by some index, each of a group and with a key. The one with the least key in a group above a bound, or nothing where
-- no row of the group has a key above it.
abbrev pub Leads : {I : Type 0} → (I → Option (ℕ × ℕ)) → ℕ → Option ℕ → Option I → Type 0
Leads {I} row group bound None = (i : I) (key : ℕ) → row i ≡ Some (group, key) → Above bound key → ⊥
Leads {I} row group bound (Some least) =
    (key : ℕ) × (row least ≡ Some (group, key)) × Above bound key × ((i : I) (other : ℕ) → row i ≡ Some (group, other) → Above bound other → key ≤ other)

-- what heads the list of those that await a task, and what else of the task the list speaks of
pub record Head : Type 0 where
  pub caller : ℕ
  pub runner : Option ℕ
  pub asked : Option ℕ
  pub first : Option Spot
  pub last : Option Spot

-- the link of an awaiting input
abbrev pub link_of : Option Place → Option Link
link_of None = None
link_of (Some (Known r)) = None
link_of (Some (Awaits link)) = Some link

-- an awaiting input as a row: its group is the awaited task, its key its number
abbrev pub row_of : (Spot → Option Link) → Spot → Option (ℕ × ℕ)
row_of links spot = option_map (λ link. (link.task, link.number)) (links spot)

-- a link with another next one, where it is that of an input
abbrev pub with_next : Spot → Spot → Option Spot → Link → Link
with_next at spot next link = record link { next = cond (is_spot at spot) next link.next }

-- whether an input is this one, if one is given
abbrev pub is_at : Spot → Option Spot → Bool
is_at spot None = false
is_at spot (Some other) = is_spot spot other

-- a link with another next one, where it is that of an input, if one is given
abbrev pub with_next_at : Spot → Option Spot → Option Spot → Link → Link
with_next_at at spot next link = record link { next = cond (is_at at spot) next link.next }

-- an input in place of another where nothing is given
abbrev pub instead : Option Spot → Spot → Option Spot → Option Spot
instead None spot other = Some spot
instead (Some there) spot other = other

-- the last of a list, once its first has gone and this one follows: none where none follows
abbrev pub last_behind : Option Spot → Option Spot → Option Spot
last_behind None last = None
last_behind (Some next) last = last

-- a head with another first and last, where it is that of a task
abbrev pub with_ends : ℕ → ℕ → Option Spot → Option Spot → Head → Head
with_ends at task first last head = record head { first = cond (nat_eq at task) first head.first; last = cond (nat_eq at task) last head.last }

-- a head whose list an input joined between two others, where it is that of a task
abbrev pub with_joined : ℕ → ℕ → Option Spot → Spot → Option Spot → Head → Head
with_joined at task before spot next head = record head { first = cond (nat_eq at task) (instead before spot head.first) head.first; last = cond (nat_eq at task) (instead next spot head.last) head.last }

-- a head whose list lost its first, by what follows, where it is that of a task
abbrev pub with_passed : ℕ → ℕ → Option Spot → Head → Head
with_passed at task next head = record head { first = cond (nat_eq at task) next head.first; last = cond (nat_eq at task) (last_behind next head.last) head.last }

-- the last of a list: an input that awaits the task and has no next one, or nothing where the list is empty
abbrev pub IsEnd : (Spot → Option Link) → ℕ → Option Spot → Option Spot → Type 0
IsEnd links task first None = first ≡ None
IsEnd links task first (Some last) = (link : Link) × (links last ≡ Some link) × (link.task ≡ task) × (link.next ≡ None)

-- The lists hang together: each begins with the least number, goes on with the next, and ends with the last. An input
-- awaits a task of the same caller. No two awaiters have a number, and no worker runs a task with an awaiting input.
pub record IsWoven (heads : ℕ → Option Head) (links : Spot → Option Link) : Type 0 where
  pub firsts : (task : ℕ) (head : Head) → heads task ≡ Some head → Leads (row_of links) task None head.first
  pub nexts : (spot : Spot) (link : Link) → links spot ≡ Some link → Leads (row_of links) link.task (Some link.number) link.next
  pub lasts : (task : ℕ) (head : Head) → heads task ≡ Some head → IsEnd links task head.first head.last
  pub home : (spot : Spot) (link : Link) → links spot ≡ Some link
      → (own : Head) × (awaited : Head) × (heads spot.task ≡ Some own) × (heads link.task ≡ Some awaited) × (awaited.caller ≡ own.caller) × (own.runner ≡ None)
  pub apart : (spot other : Spot) (link that : Link) → links spot ≡ Some link → links other ≡ Some that → link.number ≡ that.number → spot ≡ other
  pub asked_apart : (spot : Spot) (link : Link) (task : ℕ) (head : Head) (number : ℕ)
      → links spot ≡ Some link → heads task ≡ Some head → head.asked ≡ Some number → link.number ≡ number → ⊥
  pub small : (spot : Spot) (link : Link) → links spot ≡ Some link → link.number < 2 ^ 128

module _ {K : Type 0} where
  -- what heads the list of an entry
  abbrev pub head_of : Entry K → Head
  head_of entry = record { caller = entry.caller; runner = entry.runner; asked = entry.asked; first = entry.first; last = entry.last }

  -- the head of each task's list
  abbrev pub head_at : (ℕ → Option (Entry K)) → ℕ → Option Head
  head_at entries task = option_map head_of (entries task)

  -- an entry whose list an input joined between two others, where it is that of a task
  abbrev pub with_joined_at : ℕ → ℕ → Option Spot → Spot → Option Spot → Entry K → Entry K
  with_joined_at at task before spot next entry = record entry { first = cond (nat_eq at task) (instead before spot entry.first) entry.first; last = cond (nat_eq at task) (instead next spot entry.last) entry.last }

  -- an entry whose list lost its first, by what follows, where it is that of a task
  abbrev pub with_passed_at : ℕ → ℕ → Option Spot → Entry K → Entry K
  with_passed_at at task next entry = record entry { first = cond (nat_eq at task) next entry.first; last = cond (nat_eq at task) (last_behind next entry.last) entry.last }

  -- the link of each awaiting input
  abbrev pub link_at : (ℕ → Option (Entry K)) → Spot → Option Link
  link_at entries spot = link_of (place_at entries spot)

-- what follows an awaiting input of the list with this number and next one, or heads the list: where a new number would stand
abbrev pub IsGap : (ℕ → Option Head) → (Spot → Option Link) → ℕ → ℕ → Option Spot → Option Spot → Type 0
IsGap heads links task number None next =
    (head : Head) × (heads task ≡ Some head) × (next ≡ head.first) × ((spot : Spot) (link : Link) → links spot ≡ Some link → link.task ≡ task → number < link.number)
IsGap heads links task number (Some before) next =
    (link : Link) × (links before ≡ Some link) × (link.task ≡ task) × (link.number < number) × (next ≡ link.next)
    × ((spot : Spot) (other : Link) → links spot ≡ Some other → other.task ≡ task → link.number < other.number → number < other.number)

-- no awaiting input has a number
abbrev pub IsUnused : (Spot → Option Link) → ℕ → Type 0
IsUnused links number = (spot : Spot) (link : Link) → links spot ≡ Some link → link.number ≡ number → ⊥

-- what follows an input of the list with a lower number, or heads the list
abbrev pub IsBelow : (ℕ → Option Head) → (Spot → Option Link) → ℕ → ℕ → Option Spot → Option Spot → Type 0
IsBelow heads links task number None next = (head : Head) × (heads task ≡ Some head) × (next ≡ head.first)
IsBelow heads links task number (Some before) next = (link : Link) × (links before ≡ Some link) × (link.task ≡ task) × (link.number < number) × (next ≡ link.next)

-- no asked output has a number
abbrev pub IsUnasked : (ℕ → Option Head) → ℕ → Type 0
IsUnasked heads number = (task : ℕ) (head : Head) (asked : ℕ) → heads task ≡ Some head → head.asked ≡ Some asked → asked ≡ number → ⊥

-- a task that no worker runs, and one of the same caller
abbrev pub IsAtHome : (ℕ → Option Head) → ℕ → ℕ → Type 0
IsAtHome heads task awaited = (own : Head) × (other : Head) × (heads task ≡ Some own) × (heads awaited ≡ Some other) × (other.caller ≡ own.caller) × (own.runner ≡ None)

-- the first of the list of the task that it awaits
abbrev pub IsFirst : (ℕ → Option Head) → (Spot → Option Link) → Spot → Type 0
IsFirst heads links spot = (link : Link) × (head : Head) × (links spot ≡ Some link) × (heads link.task ≡ Some head) × (head.first ≡ Some spot)

-- how far the number of an input is from the greatest of 128 bits
abbrev pub rest_in : Option Link → ℕ
rest_in None = 0
rest_in (Some link) = 2 ^ 128 - link.number

abbrev pub rest_from : (Spot → Option Link) → Option Spot → ℕ
rest_from links None = 0
rest_from links (Some spot) = rest_in (links spot)

-- another head of a list that one more input joined: it is first where nothing stands before it, and last where nothing follows
pub record IsJoined (old new : Head) (is_list : Type 0) (before next : Option Spot) (spot : Spot) : Type 0 where
  pub caller : new.caller ≡ old.caller
  pub runner : new.runner ≡ old.runner
  pub asked : new.asked ≡ old.asked
  pub first : (is_list × (before ≡ None) × (new.first ≡ Some spot)) ⊎ ((is_list → before ≡ None → ⊥) × (new.first ≡ old.first))
  pub last : (is_list × (next ≡ None) × (new.last ≡ Some spot)) ⊎ ((is_list → next ≡ None → ⊥) × (new.last ≡ old.last))

-- another link of an input that stood in its list before: what joined is next where it stands behind this input
pub record IsRelinked (old new : Link) (spot : Spot) (before : Option Spot) (joined : Spot) : Type 0 where
  pub task : new.task ≡ old.task
  pub number : new.number ≡ old.number
  pub next : ((before ≡ Some spot) × (new.next ≡ Some joined)) ⊎ ((before ≡ Some spot → ⊥) × (new.next ≡ old.next))

-- An input that did not await joined the list of a task, under a number, between two others.
pub record IsTied (heads new_heads : ℕ → Option Head) (links new_links : Spot → Option Link) (spot : Spot) (task number : ℕ) (before next : Option Spot) : Type 0 where
  pub here : new_links spot ≡ Some (record { task = task; number = number; next = next })
  pub rows : (other : Spot) → (other ≡ spot → ⊥) → row_of new_links other ≡ row_of links other
  pub nexts : (other : Spot) (link : Link) → (other ≡ spot → ⊥) → new_links other ≡ Some link → (old : Link) × (links other ≡ Some old) × IsRelinked old link other before spot
  pub heads_from : (q : ℕ) (head : Head) → new_heads q ≡ Some head → (old : Head) × (heads q ≡ Some old) × IsJoined old head (q ≡ task) before next spot
  pub heads_to : (q : ℕ) (head : Head) → heads q ≡ Some head → (new : Head) × (new_heads q ≡ Some new) × IsJoined head new (q ≡ task) before next spot

-- The first of a task's list awaits no more.
pub record IsUntied (heads new_heads : ℕ → Option Head) (links new_links : Spot → Option Link) (spot : Spot) (gone : Link) : Type 0 where
  pub there : links spot ≡ Some gone
  pub here : new_links spot ≡ None
  pub rest : (other : Spot) → (other ≡ spot → ⊥) → new_links other ≡ links other
  pub heads_from : (q : ℕ) (head : Head) → new_heads q ≡ Some head → (old : Head) × (heads q ≡ Some old) × (head.caller ≡ old.caller) × (head.runner ≡ old.runner) × (head.asked ≡ old.asked)
      × (((q ≡ gone.task) × (old.first ≡ Some spot) × (head.first ≡ gone.next) × (head.last ≡ last_behind gone.next old.last))
      ⊎ ((q ≡ gone.task → ⊥) × (head.first ≡ old.first) × (head.last ≡ old.last)))
  pub heads_to : (q : ℕ) (head : Head) → heads q ≡ Some head → (new : Head) × (new_heads q ≡ Some new) × (new.caller ≡ head.caller) × (new.runner ≡ head.runner)

-- Links that are left, and heads whose lists are as before, or empty and of tasks that nobody awaited.
pub record IsLeft (heads new_heads : ℕ → Option Head) (links new_links : Spot → Option Link) : Type 0 where
  pub was : (spot : Spot) (link : Link) → new_links spot ≡ Some link → links spot ≡ Some link
  pub stays : (spot : Spot) (link : Link) (head : Head) → links spot ≡ Some link → new_heads link.task ≡ Some head → new_links spot ≡ Some link
  pub home : (spot : Spot) (link : Link) → new_links spot ≡ Some link
      → (own : Head) × (awaited : Head) × (new_heads spot.task ≡ Some own) × (new_heads link.task ≡ Some awaited) × (awaited.caller ≡ own.caller) × (own.runner ≡ None)
  pub lists : (q : ℕ) (head : Head) → new_heads q ≡ Some head → ((old : Head) × (heads q ≡ Some old) × (head.first ≡ old.first) × (head.last ≡ old.last))
      ⊎ ((head.first ≡ None) × (head.last ≡ None) × ((spot : Spot) (link : Link) → links spot ≡ Some link → link.task ≡ q → ⊥))
  pub asked_apart : (spot : Spot) (link : Link) (task : ℕ) (head : Head) (number : ℕ)
      → new_links spot ≡ Some link → new_heads task ≡ Some head → head.asked ≡ Some number → link.number ≡ number → ⊥

-- how many inputs an entry has
abbrev pub count_of : {K : Type 0} → Entry K → ℕ
count_of entry = entry.count

-- entries that differ in no more than how the tasks of a caller are linked
pub record IsBeside {K : Type 0} (old new : ℕ → Option (Entry K)) : Type 0 where
  pub heads : (q : ℕ) → head_at new q ≡ head_at old q
  pub links : (spot : Spot) → link_at new spot ≡ link_at old spot
  pub places : (spot : Spot) → place_at new spot ≡ place_at old spot
  pub shown : (q : ℕ) → shown_at new q ≡ shown_at old q
  pub counts : (q : ℕ) → option_map count_of (new q) ≡ option_map count_of (old q)

-- entries by number
abbrev pub Middle : Type 0 → Type 0
Middle K = ℕ → Option (Entry K)

-- an entry more, whose neighbours may be others
abbrev pub IsInserted : {K : Type 0} → Middle K → Middle K → ℕ → Entry K → Type 0
IsInserted old new task entry =
    (before : Option ℕ) × (after : Option ℕ) × ((q : ℕ) → new q ≡ cond (nat_eq q task) (Some (record entry { before = before; after = after })) (old q))

-- an entry less
abbrev pub IsWithout : {K : Type 0} → Middle K → Middle K → ℕ → Type 0
IsWithout old new task = (q : ℕ) → new q ≡ cond (nat_eq q task) None (old q)

-- an awaiter that is an input is the first of the list of the task that it awaits
abbrev pub IsFirstIfInput : (ℕ → Option Head) → (Spot → Option Link) → Option Awaiter → Type 0
IsFirstIfInput heads links None = Unit {0}
IsFirstIfInput heads links (Some (AtInput task place number)) = IsFirst heads links (record { task = task; place = place })
IsFirstIfInput heads links (Some (Asked caller number)) = Unit {0}

-- how far the first input that awaits a task is from the greatest number of 128 bits
abbrev pub rest_after : {K : Type 0} → (Spot → Option Link) → Option (Entry K) → ℕ
rest_after links None = 0
rest_after links (Some entry) = rest_from links entry.first

abbrev pub rest_first : {K : Type 0} → (ℕ → Option (Entry K)) → ℕ → ℕ
rest_first entries task = rest_after (link_at entries) (entries task)
