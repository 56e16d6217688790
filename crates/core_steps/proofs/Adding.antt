-- A new task behind others: what the tasks want of it, and all new tasks in order.
use Rattle.std.proofs.Common.{◌≡◌, ℕ, zero, suc, ◌+◌, ◌*◌, ◌<◌, ◌≤◌, inl, inr, true, nat_lt, List, [], ◌∷◌, ◌++◌, take, drop, get_or, slice_get, length, Option, None, Some, refl, sym, ap, subst, ◌∙◌, append_assoc, length-append, add-zero, arith}
use Rattle.std.specs.List.{list_all}
use Rattle.std.specs.Option.{option_map}
use Rattle.std.proofs.lemmas.Bool.{ltb-true}
use Rattle.std.proofs.lemmas.List.{append-nil}
use Rattle.std.proofs.lemmas.Option.{slice_get-get_or}
use Rattle.std.proofs.Math.Seq.{drop-cons}
use Rattle.cht_ids.specs.declared.refs.Ref.{Ref}
use Rattle.task_types.specs.declared.outcome.Place.{Place}
use Rattle.task_types.specs.declared.outcome.Place.TheVariants.{Null, Input as AtInput, Child, Chunk, Task}
use Rattle.task_types.specs.declared.outcome.Places.{Places}
use Rattle.task_types.specs.declared.outcome.NewTask.{NewTask}
use Rattle.task_types.specs.Presence.{Presence}
use Rattle.task_types.specs.Places.{places_of}
use Rattle.task_types.specs.Formed.{may_stand}
use Rattle.task_types.proofs.FormedTest.{both_left, both_right}
use Rattle.name_states.specs.States.{NameState, AreLive}
use Rattle.name_states.specs.Rules.{AreWithin}
use Rattle.name_states.proofs.Basics.{none_not_some, same_some, same_or_not, inserted_here, inserted_other, inserted_from}
use Rattle.task_states.specs.declared.states.Slot.{Slot}
use Rattle.task_states.specs.declared.states.Awaiter.{Awaiter}
use Rattle.task_states.specs.declared.states.Awaiter.TheVariants.{Input as ByInput, Asked}
use Rattle.task_states.specs.States.{Input, Known, Awaits, Unfinished, Graph, task_at, caller_of}
use Rattle.task_states.specs.Awaiters.{IsFree, IsAwaiter, number_of}
use Rattle.task_states.specs.Steps.{added}
use Rattle.task_graph.specs.Contents.{IsNumberOfNone, AreOf, AreFree, inputs_given}
use Rattle.name_machine.specs.Control.{with_number, ref_named, input_copies, task_copies}
use Rattle.name_machine.specs.NewTasks.{taken, drawn_by_tasks, task_numbers, number_at, new_inputs, with_tasks}
use Rattle.name_machine.proofs.FinishTasks.{added_from}
use Rattle.core_steps.specs.NewTasks.{slots_for, AreKept, IsGraphWithin, AreTasksOf}
use Rattle.core_steps.proofs.Holding.{kept_none, kept_twice, reads_kept, all_places}

-- ---- Lists

-- what is left at a place
pub next_item : {X : Type 0} (xs : List X) (i : ℕ) (x : X) → i < length xs → x ≡ get_or xs i x → drop i xs ≡ x ∷ drop (i + 1) xs
next_item xs i x low is =
    let up : suc i ≡ i + 1 = omega arith in
    drop-cons xs i x low ∙ (λ k. sym is k ∷ drop (up k) xs)

-- what stands there
pub item_at : {X : Type 0} (xs : List X) (i : ℕ) (x : X) → i < length xs → x ≡ get_or xs i x → slice_get xs i ≡ Some x
item_at xs i x low is = slice_get-get_or xs i x low ∙ ap Some (sym is)

-- ---- The inputs of one new task

-- the value of an input with its number
abbrev pub numbered_as : (Place → Ref) → Place → ℕ → Ref
numbered_as read place number = with_number (read place) number

-- inputs as they are given are the inputs of a new task
pub slots_given : (read : Place → Ref) (numbers : List ℕ) (drawn : ℕ) (places : List Place) → inputs_given (slots_for read numbers drawn places) ≡ new_inputs (numbered_as read) numbers drawn places
slots_given read numbers drawn [] = refl
slots_given read numbers drawn (Null ∷ places) =
    let same : drawn + 0 ≡ drawn = omega arith in
    ap (λ more. Known (with_number (read Null) 0) ∷ more) (slots_given read numbers (drawn + 0) places ∙ ap (λ d. new_inputs (numbered_as read) numbers d places) same)
slots_given read numbers drawn (AtInput i ∷ places) = ap (λ more. Known (with_number (read (AtInput i)) (drawn + 1)) ∷ more) (slots_given read numbers (drawn + 1) places)
slots_given read numbers drawn (Child i j ∷ places) = ap (λ more. Known (with_number (read (Child i j)) (drawn + 1)) ∷ more) (slots_given read numbers (drawn + 1) places)
slots_given read numbers drawn (Chunk i ∷ places) = ap (λ more. Known (with_number (read (Chunk i)) (drawn + 1)) ∷ more) (slots_given read numbers (drawn + 1) places)
slots_given read numbers drawn (Task i ∷ places) = ap (λ more. Awaits (number_at numbers i) (drawn + 1) ∷ more) (slots_given read numbers (drawn + 1) places)

-- the inputs that are given
pub given_are : (read : Place → Ref) (numbers sliced : List ℕ) (drawn : ℕ) (places : Places) (held given : List Slot) → places.count ≤ 4 → given ≡ take places.count held
    → take (length (places_of places)) held ≡ slots_for read sliced drawn (places_of places) → sliced ≡ numbers → given ≡ slots_for read numbers drawn (places_of places)
given_are read numbers sliced drawn places held given few given_is held_is same =
    given_is ∙ ap (λ k. take k held) (sym (all_places places few)) ∙ held_is ∙ ap (λ list. slots_for read list drawn (places_of places)) same

-- an awaiting input has a number that was drawn for it
new_number : (value : Place → ℕ → Ref) (numbers : List ℕ) (drawn p a m : ℕ) (places : List Place) → slice_get (new_inputs value numbers drawn places) p ≡ Some (Awaits a m) → m ≤ drawn + taken places
new_number value numbers drawn p a m [] is = absurd (none_not_some refl is)
new_number value numbers drawn zero a m (Null ∷ places) is = absurd (let clash : Known (value Null 0) ≡ Awaits a m = same_some _ _ is in cc)
new_number value numbers drawn zero a m (AtInput i ∷ places) is = absurd (let clash : Known (value (AtInput i) (drawn + 1)) ≡ Awaits a m = same_some _ _ is in cc)
new_number value numbers drawn zero a m (Child i k ∷ places) is = absurd (let clash : Known (value (Child i k) (drawn + 1)) ≡ Awaits a m = same_some _ _ is in cc)
new_number value numbers drawn zero a m (Chunk i ∷ places) is = absurd (let clash : Known (value (Chunk i) (drawn + 1)) ≡ Awaits a m = same_some _ _ is in cc)
new_number value numbers drawn zero a m (Task j ∷ places) is =
    let both : Awaits (number_at numbers j) (drawn + 1) ≡ Awaits a m = same_some _ _ is in
    let same : drawn + 1 ≡ m = cc in
    omega arith
new_number value numbers drawn (suc p) a m (Null ∷ places) is = let h = new_number value numbers drawn p a m places is in omega arith
new_number value numbers drawn (suc p) a m (AtInput i ∷ places) is = let h = new_number value numbers (drawn + 1) p a m places is in omega arith
new_number value numbers drawn (suc p) a m (Child i k ∷ places) is = let h = new_number value numbers (drawn + 1) p a m places is in omega arith
new_number value numbers drawn (suc p) a m (Chunk i ∷ places) is = let h = new_number value numbers (drawn + 1) p a m places is in omega arith
new_number value numbers drawn (suc p) a m (Task j ∷ places) is = let h = new_number value numbers (drawn + 1) p a m places is in omega arith

-- ---- Numbers of earlier tasks

number_front : (front more : List ℕ) (i : ℕ) → i < length front → number_at (front ++ more) i ≡ number_at front i
number_front [] more i low = absurd (omega arith)
number_front (n ∷ front) more zero low = refl
number_front (n ∷ front) more (suc i) low = number_front front more i (omega arith)

number_last : (front : List ℕ) (number i : ℕ) → i ≡ length front → number_at (front ++ number ∷ []) i ≡ number
number_last [] number zero same = refl
number_last [] number (suc i) same = absurd (omega arith)
number_last (n ∷ front) number zero same = absurd (omega arith)
number_last (n ∷ front) number (suc i) same = number_last front number i (omega arith)

module _ (known : List Presence) (chunks : ℕ) where
  -- inputs that await earlier tasks alone don't hang on the later ones
  inputs_front : (value : Place → ℕ → Ref) (front more : List ℕ) (drawn : ℕ) (places : List Place) → list_all (may_stand known chunks (length front)) places ≡ true
      → new_inputs value (front ++ more) drawn places ≡ new_inputs value front drawn places
  inputs_front value front more drawn [] e = refl
  inputs_front value front more drawn (Null ∷ places) e = ap (λ rest. Known (value Null 0) ∷ rest) (inputs_front value front more drawn places (both_right (may_stand known chunks (length front) Null) _ e))
  inputs_front value front more drawn (AtInput i ∷ places) e =
      ap (λ rest. Known (value (AtInput i) (drawn + 1)) ∷ rest) (inputs_front value front more (drawn + 1) places (both_right (may_stand known chunks (length front) (AtInput i)) _ e))
  inputs_front value front more drawn (Child i j ∷ places) e =
      ap (λ rest. Known (value (Child i j) (drawn + 1)) ∷ rest) (inputs_front value front more (drawn + 1) places (both_right (may_stand known chunks (length front) (Child i j)) _ e))
  inputs_front value front more drawn (Chunk i ∷ places) e =
      ap (λ rest. Known (value (Chunk i) (drawn + 1)) ∷ rest) (inputs_front value front more (drawn + 1) places (both_right (may_stand known chunks (length front) (Chunk i)) _ e))
  inputs_front value front more drawn (Task i ∷ places) e =
      let rest = list_all (may_stand known chunks (length front)) places in
      let first = number_front front more i (ltb-true i (length front) (both_left (nat_lt i (length front)) rest e)) in
      let tail = inputs_front value front more (drawn + 1) places (both_right (nat_lt i (length front)) rest e) in
      λ k. Awaits (first k) (drawn + 1) ∷ tail k

-- the numbers of awaiting inputs are above what was drawn
none_before : (read : Place → Ref) (numbers : List ℕ) (number drawn : ℕ) (places : List Place) → number ≤ drawn → IsNumberOfNone number (slots_for read numbers drawn places)
none_before read numbers number drawn [] low = tt
none_before read numbers number drawn (Null ∷ places) low = none_before read numbers number (drawn + 0) places (omega arith)
none_before read numbers number drawn (AtInput i ∷ places) low = none_before read numbers number (drawn + 1) places (omega arith)
none_before read numbers number drawn (Child i j ∷ places) low = none_before read numbers number (drawn + 1) places (omega arith)
none_before read numbers number drawn (Chunk i ∷ places) low = none_before read numbers number (drawn + 1) places (omega arith)
none_before read numbers number drawn (Task i ∷ places) low = (λ same. omega arith, none_before read numbers number (drawn + 1) places (omega arith))

module _ {K : Type 0} where
  -- ---- What the tasks want of one more

  -- a task with the next number is new
  pub is_new : (graph : Graph Ref K) (bound number : ℕ) → IsGraphWithin graph bound → bound < number → task_at graph number ≡ None
  is_new graph bound number within high = go (task_at graph number) refl
    where
      go : (o : Option (Unfinished Ref K)) → task_at graph number ≡ o → o ≡ None
      go None is = refl
      go (Some t) is = absurd (let low = within.tasks number t is in omega arith)

  -- it awaits tasks of its caller
  pub are_of : (graph : Graph Ref K) (caller : ℕ) (read : Place → Ref) (numbers : List ℕ) (known : List Presence) (chunks drawn : ℕ) (places : List Place) → AreTasksOf graph caller numbers
      → list_all (may_stand known chunks (length numbers)) places ≡ true → AreOf graph caller (slots_for read numbers drawn places)
  are_of graph caller read numbers known chunks drawn [] own e = tt
  are_of graph caller read numbers known chunks drawn (Null ∷ places) own e = are_of graph caller read numbers known chunks (drawn + 0) places own (both_right (may_stand known chunks (length numbers) Null) _ e)
  are_of graph caller read numbers known chunks drawn (AtInput i ∷ places) own e =
      are_of graph caller read numbers known chunks (drawn + 1) places own (both_right (may_stand known chunks (length numbers) (AtInput i)) _ e)
  are_of graph caller read numbers known chunks drawn (Child i j ∷ places) own e =
      are_of graph caller read numbers known chunks (drawn + 1) places own (both_right (may_stand known chunks (length numbers) (Child i j)) _ e)
  are_of graph caller read numbers known chunks drawn (Chunk i ∷ places) own e =
      are_of graph caller read numbers known chunks (drawn + 1) places own (both_right (may_stand known chunks (length numbers) (Chunk i)) _ e)
  are_of graph caller read numbers known chunks drawn (Task i ∷ places) own e =
      let rest = list_all (may_stand known chunks (length numbers)) places in (
        own i (ltb-true i (length numbers) (both_left (nat_lt i (length numbers)) rest e)),
        are_of graph caller read numbers known chunks (drawn + 1) places own (both_right (nat_lt i (length numbers)) rest e),
      )

  free_next : (graph : Graph Ref K) (bound number : ℕ) → IsGraphWithin graph bound → bound < number → IsFree graph number
  free_next graph bound number within high task awaiter is same = let low = within.awaiters task awaiter is in omega arith

  -- the numbers that it awaits under are free
  pub are_free : (graph : Graph Ref K) (bound : ℕ) (read : Place → Ref) (numbers : List ℕ) (drawn : ℕ) (places : List Place) → IsGraphWithin graph bound → bound ≤ drawn → AreFree graph (slots_for read numbers drawn places)
  are_free graph bound read numbers drawn [] within low = tt
  are_free graph bound read numbers drawn (Null ∷ places) within low = are_free graph bound read numbers (drawn + 0) places within (omega arith)
  are_free graph bound read numbers drawn (AtInput i ∷ places) within low = are_free graph bound read numbers (drawn + 1) places within (omega arith)
  are_free graph bound read numbers drawn (Child i j ∷ places) within low = are_free graph bound read numbers (drawn + 1) places within (omega arith)
  are_free graph bound read numbers drawn (Chunk i ∷ places) within low = are_free graph bound read numbers (drawn + 1) places within (omega arith)
  are_free graph bound read numbers drawn (Task i ∷ places) within low = (
    free_next graph bound (drawn + 1) within (omega arith),
    none_before read numbers (drawn + 1) (drawn + 1) places (omega arith),
    are_free graph bound read numbers (drawn + 1) places within (omega arith),
  )

  -- a new task, of which the number and the numbers behind it are known in another form
  pub added_is : (graph graph2 : Graph Ref K) (d0 number drawn caller : ℕ) (kind : K) (read : Place → Ref) (numbers : List ℕ) (places : List Place) (given : List Slot)
      → graph2 ≡ added graph number caller kind (inputs_given given) → number ≡ d0 + 1 → drawn ≡ d0 + 1 → given ≡ slots_for read numbers drawn places
      → graph2 ≡ added graph (d0 + 1) caller kind (new_inputs (numbered_as read) numbers (d0 + 1) places)
  added_is graph graph2 d0 number drawn caller kind read numbers places given graph_is number_is drawn_is given_is =
      let ins : inputs_given given ≡ new_inputs (numbered_as read) numbers (d0 + 1) places =
      ap inputs_given given_is ∙ slots_given read numbers drawn places ∙ ap (λ d. new_inputs (numbered_as read) numbers d places) drawn_is in
      graph_is ∙ (λ i. added graph (number_is i) caller kind (ins i))

  -- ---- The tasks with one more

  module _ (graph : Graph Ref K) (bound n caller : ℕ) (kind : K) (value : Place → ℕ → Ref) (numbers : List ℕ) (drawn : ℕ) (places : List Place) (within : IsGraphWithin graph bound) (high : bound < n) (up : n ≤ drawn) where
    abbrev ins : List (Input Ref)
    ins = new_inputs value numbers drawn places

    abbrev new_one : Unfinished Ref K
    new_one = record { caller = caller; kind = kind; inputs = ins; runner = None; asked = None }

    within_added : IsGraphWithin (added graph n caller kind ins) (drawn + taken places)
    within_added = record {
      tasks = λ q t is. elim (inserted_from graph.tasks n q new_one t is) [
        | inl here ↦ (let same = here.0 in omega arith)
        | inr old ↦ (let low = within.tasks q t old.1 in omega arith)
      ];
      awaiters = awaits;
    }
      where
        awaits : (task : ℕ) (awaiter : Awaiter) → IsAwaiter (added graph n caller kind ins) task awaiter → number_of awaiter ≤ drawn + taken places
        awaits task (ByInput of place number) is = elim (added_from graph n caller kind ins of place (Awaits task number) is) [
          | inl here ↦ new_number value numbers drawn place task number places here.1
          | inr old ↦ (let low = within.awaiters task (ByInput of place number) old.1 in omega arith)
        ]
        awaits task (Asked by number) is = elim (inserted_from graph.tasks n task new_one is.unfinished is.there) [
          | inl here ↦ absurd (none_not_some refl (ap (λ (t : Unfinished Ref K). t.asked) (sym here.1) ∙ is.number_is))
          | inr old ↦
              let low = within.awaiters task (Asked by number) (record { unfinished = is.unfinished; there = old.1; caller_is = is.caller_is; number_is = is.number_is }) in
              omega arith
        ]

    old_caller : (q : ℕ) → caller_of graph q ≡ Some caller → caller_of (added graph n caller kind ins) q ≡ Some caller
    old_caller q is = go (task_at graph q) refl is
      where
        go : (o : Option (Unfinished Ref K)) → task_at graph q ≡ o → option_map (λ (t : Unfinished Ref K). t.caller) o ≡ Some caller → caller_of (added graph n caller kind ins) q ≡ Some caller
        go None at own = absurd (none_not_some refl own)
        go (Some t) at own =
            let low = within.tasks q t at in
            ap (option_map (λ (t : Unfinished Ref K). t.caller)) (inserted_other graph.tasks n q new_one (λ same. omega arith) ∙ at) ∙ own

    own_more : (earlier : List ℕ) → AreTasksOf graph caller earlier → AreTasksOf (added graph n caller kind ins) caller (earlier ++ n ∷ [])
    own_more earlier own i low = elim (same_or_not i (length earlier)) [
      | inl last ↦
          ap (caller_of (added graph n caller kind ins)) (number_last earlier n i last)
          ∙ ap (option_map (λ (t : Unfinished Ref K). t.caller)) (inserted_here graph.tasks n n new_one new_one refl refl)
      | inr apart ↦
          let before : i < length earlier = omega (arith, length-append earlier (n ∷ [])) in
          ap (caller_of (added graph n caller kind ins)) (number_front earlier (n ∷ []) i before) ∙ old_caller (number_at earlier i) (own i before)
    ]

-- ---- All new tasks

-- what is left of room after so many tasks
pub record IsRoomLeft (passed drawn drawn_now ids ids_now stores stores_now spare spare_now capacity capacity_now : ℕ) : Type 0 where
  pub few : drawn_now ≤ drawn + 5 * passed
  pub room : ids ≤ ids_now + 4 * passed
  pub workers : stores_now ≡ stores
  pub tasks : spare ≡ spare_now + passed
  pub places : capacity_now ≡ capacity

module _ {C K : Type 0} (inputs made : List Ref) (caller : ℕ) (tasks : List (NewTask K)) (n0 : NameState C) (d0 : ℕ) (g0 : Graph Ref K) where
  abbrev read : Place → Ref
  read = ref_named n0 inputs made

  -- the first so many new tasks are there
  pub record IsAdded (passed : ℕ) (names : NameState C) (drawn : ℕ) (graph : Graph Ref K) (numbers : List ℕ) : Type 0 where
    pub names_are : task_copies read d0 tasks n0 ≡ task_copies read drawn (drop passed tasks) names
    pub graph_is : with_tasks (numbered_as read) (task_numbers d0 tasks) caller d0 tasks g0 ≡ with_tasks (numbered_as read) (task_numbers d0 tasks) caller drawn (drop passed tasks) graph
    pub numbers_are : task_numbers d0 tasks ≡ numbers ++ task_numbers drawn (drop passed tasks)
    pub draws : d0 + drawn_by_tasks tasks ≡ drawn + drawn_by_tasks (drop passed tasks)
    pub long : length numbers ≡ passed
    pub kept : AreKept n0 names
    pub within : AreWithin names drawn
    pub unfinished : IsGraphWithin graph drawn
    pub own : AreTasksOf graph caller numbers

  pub added_none : AreWithin n0 d0 → IsGraphWithin g0 d0 → IsAdded 0 n0 d0 g0 []
  added_none within unfinished = record {
    names_are = refl;
    graph_is = refl;
    numbers_are = refl;
    draws = refl;
    long = refl;
    kept = kept_none n0;
    within = within;
    unfinished = unfinished;
    own = λ i low. absurd (omega arith);
  }

  -- one more
  pub added_more : (passed : ℕ) (names names2 : NameState C) (drawn drawn2 : ℕ) (graph graph2 : Graph Ref K) (numbers numbers2 : List ℕ) (task : NewTask K) (known : List Presence) (chunks : ℕ)
      → drop passed tasks ≡ task ∷ drop (passed + 1) tasks → list_all (may_stand known chunks (length numbers)) (places_of task.inputs) ≡ true → AreLive n0 inputs → IsAdded passed names drawn graph numbers
      → names2 ≡ input_copies (ref_named names inputs made) (drawn + 1) (drawn + 1) (places_of task.inputs) names → drawn2 ≡ drawn + 1 + taken (places_of task.inputs)
      → graph2 ≡ added graph (drawn + 1) caller task.kind (new_inputs (numbered_as (ref_named names inputs made)) numbers (drawn + 1) (places_of task.inputs))
      → numbers2 ≡ numbers ++ (drawn + 1) ∷ [] → AreKept names names2 → AreWithin names2 drawn2
      → IsAdded (passed + 1) names2 drawn2 graph2 numbers2
  added_more passed names names2 drawn drawn2 graph graph2 numbers numbers2 task known chunks here may live so_far names_is drawn_is graph_is numbers_is kept within =
      let places : List Place = places_of task.inputs in
      let rest : List (NewTask K) = drop (passed + 1) tasks in
      let reads : ref_named names inputs made ≡ read = reads_kept n0 names inputs made so_far.kept live in
      let all : List ℕ = task_numbers d0 tasks in
      let numbers_are : all ≡ numbers ++ (drawn + 1) ∷ task_numbers (drawn + 1 + taken places) rest = so_far.numbers_are ∙ ap (λ ts. numbers ++ task_numbers drawn ts) here in
      let ins : new_inputs (numbered_as (ref_named names inputs made)) numbers (drawn + 1) places ≡ new_inputs (numbered_as read) all (drawn + 1) places =
      (λ i. new_inputs (numbered_as (reads i)) numbers (drawn + 1) places)
      ∙ sym (ap (λ list. new_inputs (numbered_as read) list (drawn + 1) places) numbers_are ∙ inputs_front known chunks (numbered_as read) numbers ((drawn + 1) ∷ task_numbers (drawn + 1 + taken places) rest) (drawn + 1) places may) in
      let graph_now : graph2 ≡ added graph (drawn + 1) caller task.kind (new_inputs (numbered_as read) all (drawn + 1) places) = graph_is ∙ ap (added graph (drawn + 1) caller task.kind) ins in
      let names_now : names2 ≡ input_copies read (drawn + 1) (drawn + 1) places names = names_is ∙ (λ i. input_copies (reads i) (drawn + 1) (drawn + 1) places names) in
      record {
        names_are = so_far.names_are ∙ ap (λ ts. task_copies read drawn ts names) here ∙ sym (λ i. task_copies read (drawn_is i) rest (names_now i));
        graph_is = so_far.graph_is ∙ ap (λ ts. with_tasks (numbered_as read) all caller drawn ts graph) here ∙ sym (λ i. with_tasks (numbered_as read) all caller (drawn_is i) rest (graph_now i));
        numbers_are =
            numbers_are
            ∙ sym (append_assoc numbers ((drawn + 1) ∷ []) (task_numbers (drawn + 1 + taken places) rest))
            ∙ sym (λ i. numbers_is i ++ task_numbers (drawn_is i) rest);
        draws = so_far.draws ∙ ap (λ ts. drawn + drawn_by_tasks ts) here ∙ (omega arith);
        long = ap length numbers_is ∙ length-append numbers ((drawn + 1) ∷ []) ∙ ap (λ k. k + 1) so_far.long;
        kept = kept_twice n0 names names2 so_far.kept kept;
        within = within;
        unfinished =
            subst (λ g. IsGraphWithin g drawn2) (sym graph_is)
            (subst (λ d. IsGraphWithin (added graph (drawn + 1) caller task.kind (new_inputs (numbered_as (ref_named names inputs made)) numbers (drawn + 1) places)) d) (sym drawn_is)
            (within_added graph drawn (drawn + 1) caller task.kind (numbered_as (ref_named names inputs made)) numbers (drawn + 1) places so_far.unfinished (omega arith) (omega arith)));
        own =
            subst (λ list. AreTasksOf graph2 caller list) (sym numbers_is)
            (subst (λ g. AreTasksOf g caller (numbers ++ (drawn + 1) ∷ [])) (sym graph_is)
            (own_more graph drawn (drawn + 1) caller task.kind (numbered_as (ref_named names inputs made)) numbers (drawn + 1) places so_far.unfinished (omega arith) (omega arith) numbers so_far.own));
      }

  -- all of them
  pub record AreAdded (names : NameState C) (drawn : ℕ) (graph : Graph Ref K) (numbers : List ℕ) : Type 0 where
    pub names_are : names ≡ task_copies read d0 tasks n0
    pub draws : drawn ≡ d0 + drawn_by_tasks tasks
    pub graph_is : graph ≡ with_tasks (numbered_as read) (task_numbers d0 tasks) caller d0 tasks g0
    pub numbers_are : numbers ≡ task_numbers d0 tasks

  pub added_all : (passed : ℕ) (names : NameState C) (drawn : ℕ) (graph : Graph Ref K) (numbers : List ℕ) → drop passed tasks ≡ [] → IsAdded passed names drawn graph numbers → AreAdded names drawn graph numbers
  added_all passed names drawn graph numbers none so_far = record {
    names_are = sym (so_far.names_are ∙ ap (λ ts. task_copies read drawn ts names) none);
    draws = sym (so_far.draws ∙ ap (λ ts. drawn + drawn_by_tasks ts) none ∙ add-zero drawn);
    graph_is = sym (so_far.graph_is ∙ ap (λ ts. with_tasks (numbered_as read) (task_numbers d0 tasks) caller drawn ts graph) none);
    numbers_are = sym (so_far.numbers_are ∙ ap (λ ts. numbers ++ task_numbers drawn ts) none ∙ append-nil numbers);
  }
