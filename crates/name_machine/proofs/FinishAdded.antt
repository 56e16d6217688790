-- New tasks keep the order, and show as the machine's new tasks.
use Rattle.std.proofs.Common.{◌≡◌, ℕ, suc, ◌+◌, ◌<◌, ◌≤◌, ◌⊎◌, inl, inr, List, [], ◌∷◌, map as each, slice_get, Option, None, Some, refl, sym, ap, subst, ◌∙◌, arith}
use Rattle.std.specs.Option.{option_map}
use Rattle.cht_ids.specs.declared.refs.Ref.{Ref}
use Rattle.cht_ids.specs.declared.refs.Ref.TheVariants.{Id as Held}
use Rattle.task_types.specs.declared.outcome.Place.{Place}
use Rattle.task_types.specs.declared.outcome.NewTask.{NewTask}
use Rattle.task_types.specs.Tree.{Tree}
use Rattle.task_types.specs.Places.{places_of}
use Rattle.name_states.specs.declared.holder.Holder.TheVariants.{Caller as ByCaller, Task as ByTask}
use Rattle.name_states.specs.States.{NameState, IdRecord, id_at}
use Rattle.name_states.specs.Trees.{tree_of}
use Rattle.name_states.proofs.Basics.{same_or_not, inserted_here, inserted_other, inserted_from}
use Rattle.name_states.proofs.Within.{AreMore, within-more}
use Rattle.name_states.proofs.Trees.{tree-kept}
use Rattle.task_states.specs.States.{Input, Known, Awaits, Unfinished, Graph, task_at, input_at}
use Rattle.task_states.specs.Steps.{added}
use Rattle.task_states.proofs.Maps.{same_maps}
use Rattle.name_machine.specs.Control.{Control, input_copies, task_copies}
use Rattle.name_machine.specs.NewTasks.{taken, drawn_by_tasks, new_inputs, with_tasks}
use Rattle.name_machine.specs.Standing.{IsRefOf, input_shown, task_shown, graph_shown}
use Rattle.name_machine.proofs.Ordered.{input_from}
use Rattle.name_machine.proofs.Ends.{inputs_at}
use Rattle.name_machine.proofs.Stand.{shown_at}
use Rattle.name_machine.proofs.Orderly.{ref_is_live}
use Rattle.name_machine.proofs.FinishNames.{more_by, sound_by, reached_by, within_by}
use Rattle.name_machine.proofs.FinishMiddle.{Middle, ref_more}
use Rattle.name_machine.proofs.FinishTasks.{free_by, added_here, added_other, added_from, read, value_ref, value_tree, IsGood, AreGood, good_kept, IsNewInput, Walk, walk, holder_is}

-- ---- Shown graphs

inputs_alike : {C : Type 0} (one two : NameState C) (inputs : List (Input Ref)) → ((p : ℕ) (r : Ref) → slice_get inputs p ≡ Some (Known r) → tree_of two r ≡ tree_of one r)
    → each (input_shown two) inputs ≡ each (input_shown one) inputs
inputs_alike one two [] same = refl
inputs_alike one two (Known r ∷ inputs) same =
    let head = same 0 r refl in
    let tail = inputs_alike one two inputs (λ p x is. same (suc p) x is) in
    λ i. Known (head i) ∷ tail i
inputs_alike one two (Awaits task number ∷ inputs) same = ap (λ rest. Awaits task number ∷ rest) (inputs_alike one two inputs (λ p x is. same (suc p) x is))

module _ {C K : Type 0} where
  task_alike : (one two : NameState C) (graph : Graph Ref K) (q : ℕ) (o : Option (Unfinished Ref K)) → task_at graph q ≡ o
      → ((p : ℕ) (t : Unfinished Ref K) (r : Ref) → task_at graph q ≡ Some t → slice_get t.inputs p ≡ Some (Known r) → tree_of two r ≡ tree_of one r)
      → option_map (task_shown two) o ≡ option_map (task_shown one) o
  task_alike one two graph q None is same = refl
  task_alike one two graph q (Some t) is same =
      let inputs = inputs_alike one two t.inputs (λ p r at. same p t r is at) in
      λ i. Some (record { caller = t.caller; kind = t.kind; inputs = inputs i; runner = t.runner; asked = t.asked })

  -- tasks show the same where their known inputs lead to the same trees
  pub graph_alike : (one two : NameState C) (graph : Graph Ref K)
      → ((q p : ℕ) (t : Unfinished Ref K) (r : Ref) → task_at graph q ≡ Some t → slice_get t.inputs p ≡ Some (Known r) → tree_of two r ≡ tree_of one r)
      → graph_shown two graph ≡ graph_shown one graph
  graph_alike one two graph same =
      let tasks_are : (graph_shown two graph).tasks ≡ (graph_shown one graph).tasks =
      same_maps _ _ (λ q. shown_at two graph q ∙ task_alike one two graph q (task_at graph q) refl (λ p t r is at. same q p t r is at) ∙ sym (shown_at one graph q)) in
      λ i. record { tasks = tasks_are i; stopped = graph.stopped }

  -- one more task shows as one more
  pub added_shown : (names : NameState C) (graph : Graph Ref K) (number caller : ℕ) (kind : K) (ins : List (Input Ref))
      → graph_shown names (added graph number caller kind ins) ≡ added (graph_shown names graph) number caller kind (each (input_shown names) ins)
  added_shown names graph number caller kind ins =
      let one : Unfinished Ref K = record { caller = caller; kind = kind; inputs = ins; runner = None; asked = None } in
      let tasks_are : (graph_shown names (added graph number caller kind ins)).tasks ≡ (added (graph_shown names graph) number caller kind (each (input_shown names) ins)).tasks =
      same_maps _ _ (λ q. elim (same_or_not q number) [
        | inl same ↦
            shown_at names (added graph number caller kind ins) q
            ∙ ap (option_map (task_shown names)) (inserted_here graph.tasks number q one one same refl)
            ∙ sym (inserted_here (graph_shown names graph).tasks number q (task_shown names one) (task_shown names one) same refl)
        | inr apart ↦
            shown_at names (added graph number caller kind ins) q
            ∙ ap (option_map (task_shown names)) (inserted_other graph.tasks number q one apart)
            ∙ sym (shown_at names graph q)
            ∙ sym (inserted_other (graph_shown names graph).tasks number q (task_shown names one) apart)
      ]) in
      λ i. record { tasks = tasks_are i; stopped = graph.stopped }

module _ {C K : Type 0} (arity : C → ℕ) (gone : ℕ) (base : NameState C) (inputs chunks : List Ref) (trees made : List (Tree C)) (numbers : List ℕ) (caller : ℕ) where
  module _ (control : Control C (Unit {0}) K) (middle : Middle arity gone control) (task : NewTask K) (good : AreGood arity base inputs chunks trees made numbers control.names (places_of task.inputs)) where
    abbrev places : List Place
    places = places_of task.inputs

    abbrev n : ℕ
    n = control.drawn + 1

    abbrev end : ℕ
    end = control.drawn + 1 + taken places

    abbrev ins : List (Input Ref)
    ins = new_inputs (value_ref arity base inputs chunks trees made numbers) numbers n places

    abbrev ins_shown : List (Input (Tree C))
    ins_shown = new_inputs (value_tree arity base inputs chunks trees made numbers) numbers n places

    abbrev after : NameState C
    after = input_copies (read arity base inputs chunks trees made numbers) n n places control.names

    -- the state with one more task
    abbrev pub with_one : Control C (Unit {0}) K
    with_one = record { drawn = end; names = after; asks = control.asks; graph = added control.graph n caller task.kind ins }

    walked : Walk arity base inputs chunks trees made numbers n control.names after ins n end ins_shown
    walked =
        walk arity base inputs chunks trees made numbers n control.names n end places refl
        (middle.sound, within-more control.names control.drawn n middle.within (omega arith), good)

    abbrev New : ℕ → IdRecord → Type 0
    New = IsNewInput arity base inputs chunks trees made numbers n ins n end

    pub one_more : AreMore control.names after
    one_more = more_by control.names after New walked.grow

    free : (m : ℕ) → m ≤ control.drawn → id_at control.names m ≡ None → id_at after m ≡ None
    free m low none = free_by control.names after New walked.grow m (λ entry new. let h = new.0 in omega arith) none

    old_input : (q p : ℕ) (x : Input Ref) → input_at control.graph q p ≡ Some x → input_at with_one.graph q p ≡ Some x
    old_input q p x is =
        let t = input_from control.graph q p x is in
        let low = middle.numbered q t.0 t.1 in
        added_other control.graph n caller task.kind ins q p (λ same. omega arith) ∙ is

    from_input : (q p : ℕ) (x : Input Ref) → input_at with_one.graph q p ≡ Some x → ((q ≡ n) × (slice_get ins p ≡ Some x)) ⊎ ((q ≡ n → ⊥) × (input_at control.graph q p ≡ Some x))
    from_input q p x is = added_from control.graph n caller task.kind ins q p x is

    -- a number that an old input awaits under
    old_awaits : (q p a m : ℕ) → input_at control.graph q p ≡ Some (Awaits a m) → (m ≤ control.drawn) × (id_at control.names m ≡ None)
    old_awaits q p a m is = middle.aside.inputs m (q, p, a, is)

    new_awaits : (p a m : ℕ) → slice_get ins p ≡ Some (Awaits a m) → (n < m) × (m ≤ end)
    new_awaits p a m is = walked.range p m (Awaits a m) is refl

    pub one_middle : Middle arity gone with_one
    one_middle = record {
      sound = sound_by arity control.names after New middle.sound walked.grow;
      reached = reached_by control.names after New middle.reached walked.grow;
      within = within_by control.names after New control.drawn end middle.within (omega arith) (λ q entry new. new.1) walked.grow;
      inputs = λ q p r is. elim (from_input q p (Known r) is) [
        | inl here ↦ subst (λ k. IsRefOf after (ByTask k) r) (sym here.0) (walked.known p r here.1)
        | inr old ↦ ref_more control.names after (ByTask q) r one_more (middle.inputs q p r old.1)
      ];
      apart = λ q p other one two is at same. elim (from_input q p (Known (Held one)) is) [
        | inl here ↦ elim (from_input q other (Known (Held two)) at) [
          | inl there ↦ walked.apart p other one.number (Known (Held one)) (Known (Held two)) here.1 there.1 refl (ap Some (sym same))
          | inr old ↦ absurd (old.0 here.0)
        ]
        | inr old ↦ elim (from_input q other (Known (Held two)) at) [
          | inl there ↦ absurd (old.0 there.0)
          | inr rest ↦ middle.apart q p other one two old.1 rest.1 same
        ]
      ];
      nothing_else = λ number q entry other is held. elim (walked.grow.from number entry is) [
        | inl was ↦
            let place = middle.nothing_else number q entry other was held in
            (place.0, old_input q place.0 (Known (Held (record { owner = entry.owner; number = number }))) place.1)
        | inr new ↦
            let q_is : q ≡ n = holder_is q n (sym held ∙ new.0.2) in
            let place = new.0.3 in
            (place, ap (λ k. input_at with_one.graph k place) q_is ∙ added_here control.graph n caller task.kind ins place ∙ new.0.4)
      ];
      outputs = λ key ask r is done.
          let own = middle.outputs key ask r is done in
          (ref_more control.names after (ByCaller ask.caller) r one_more own.0, own.1);
      aside = record {
        inputs = λ m awaits. elim (from_input awaits.0 awaits.1 (Awaits awaits.2 m) awaits.3) [
          | inl here ↦ ((new_awaits awaits.1 awaits.2 m here.1).1, walked.awaits awaits.1 awaits.2 m here.1)
          | inr old ↦
              let own = old_awaits awaits.0 awaits.1 awaits.2 m old.1 in
              let low = own.0 in
              (omega arith, free m low own.1)
        ];
        outputs = λ key ask is none. free ask.number (middle.aside.drawn key ask is) (middle.aside.outputs key ask is none);
        drawn = λ key ask is. let low = middle.aside.drawn key ask is in omega arith;
        one_place = λ q p a other place b m is at. elim (from_input q p (Awaits a m) is) [
          | inl here ↦ elim (from_input other place (Awaits b m) at) [
            | inl there ↦ (here.0 ∙ sym there.0, walked.apart p place m (Awaits a m) (Awaits b m) here.1 there.1 refl refl)
            | inr old ↦ absurd (let high = (new_awaits p a m here.1).0 in let low = (old_awaits other place b m old.1).0 in omega arith)
          ]
          | inr old ↦ elim (from_input other place (Awaits b m) at) [
            | inl there ↦ absurd (let high = (new_awaits place b m there.1).0 in let low = (old_awaits q p a m old.1).0 in omega arith)
            | inr rest ↦ middle.aside.one_place q p a other place b m old.1 rest.1
          ]
        ];
        unasked = λ key ask is awaits. elim (from_input awaits.0 awaits.1 (Awaits awaits.2 ask.number) awaits.3) [
          | inl here ↦ (let high = (new_awaits awaits.1 awaits.2 ask.number here.1).0 in let low = middle.aside.drawn key ask is in omega arith)
          | inr old ↦ middle.aside.unasked key ask is (awaits.0, awaits.1, awaits.2, old.1)
        ];
      };
      numbered = λ q t is. elim (inserted_from control.graph.tasks n q (record { caller = caller; kind = task.kind; inputs = ins; runner = None; asked = None }) t is) [
        | inl here ↦ (let same = here.0 in omega arith)
        | inr old ↦ (let low = middle.numbered q t old.1 in omega arith)
      ];
      gone_low = let low = middle.gone_low in omega arith;
    }

    pub one_from : (q : ℕ) (entry : IdRecord) (by : ℕ) → id_at after q ≡ Some entry → entry.holder ≡ ByCaller by → id_at control.names q ≡ Some entry
    one_from q entry by is held = elim (walked.grow.from q entry is) [
      | inl was ↦ was
      | inr new ↦ absurd (let clash : ByCaller by ≡ ByTask n = sym held ∙ new.0.2 in cc)
    ]

    -- the finished task holds what it held
    pub one_own : (q : ℕ) (entry : IdRecord) → id_at after q ≡ Some entry → entry.holder ≡ ByTask gone → id_at control.names q ≡ Some entry
    one_own q entry is held = elim (walked.grow.from q entry is) [
      | inl was ↦ was
      | inr new ↦ absurd (let same : gone ≡ n = holder_is gone n (sym held ∙ new.0.2) in let low = middle.gone_low in omega arith)
    ]

    -- what a known input of an old task leads to stays
    pub one_tree : (q p : ℕ) (t : Unfinished Ref K) (r : Ref) → task_at control.graph q ≡ Some t → slice_get t.inputs p ≡ Some (Known r) → tree_of after r ≡ tree_of control.names r
    one_tree q p t r is at =
        tree-kept arity control.names after middle.sound one_more r
        (ref_is_live control.names (ByTask q) r (middle.inputs q p r (inputs_at control.graph q p t is ∙ at)))

    pub one_graph : graph_shown after with_one.graph ≡ added (graph_shown control.names control.graph) n caller task.kind ins_shown
    one_graph =
        added_shown after control.graph n caller task.kind ins
        ∙ (let before = graph_alike control.names after control.graph one_tree in
        let its = walked.reads in
        λ i. added (before i) n caller task.kind (its i))

  -- what all places of new tasks name is live and leads to the trees of the places
  abbrev pub AllGood : NameState C → List (NewTask K) → Type 0
  AllGood names tasks =
      (i p : ℕ) (task : NewTask K) (place : Place) → slice_get tasks i ≡ Some task → slice_get (places_of task.inputs) p ≡ Some place
      → IsGood arity base inputs chunks trees made numbers names place

  -- what new tasks give
  pub record TaskStage (control after : Control C (Unit {0}) K) (tasks : List (NewTask K)) : Type 0 where
    pub middle : Middle arity gone after
    pub keeps : AreMore control.names after.names
    pub from : (q : ℕ) (entry : IdRecord) (by : ℕ) → id_at after.names q ≡ Some entry → entry.holder ≡ ByCaller by → id_at control.names q ≡ Some entry
    pub own : (q : ℕ) (entry : IdRecord) → id_at after.names q ≡ Some entry → entry.holder ≡ ByTask gone → id_at control.names q ≡ Some entry
    pub shown : graph_shown after.names after.graph
        ≡ with_tasks (value_tree arity base inputs chunks trees made numbers) numbers caller control.drawn tasks (graph_shown control.names control.graph)

  abbrev pub with_all : Control C (Unit {0}) K → ℕ → List (NewTask K) → Control C (Unit {0}) K
  with_all control drawn tasks =
      record {
        drawn = drawn;
        names = task_copies (read arity base inputs chunks trees made numbers) control.drawn tasks control.names;
        asks = control.asks;
        graph = with_tasks (value_ref arity base inputs chunks trees made numbers) numbers caller control.drawn tasks control.graph;
      }

  -- all new tasks
  pub all_tasks : (tasks : List (NewTask K)) (control : Control C (Unit {0}) K) (drawn : ℕ) → Middle arity gone control → AllGood control.names tasks → drawn ≡ control.drawn + drawn_by_tasks tasks
      → TaskStage control (with_all control drawn tasks) tasks
  all_tasks [] control drawn middle good same =
      let drawn_is : control.drawn ≡ drawn = omega arith in
      record {
        middle = subst (λ d. Middle arity gone (record control { drawn = d })) drawn_is middle;
        keeps = record { ids = λ q e is. is; bodies = λ q b is. is };
        from = λ q entry by is held. is;
        own = λ q entry is held. is;
        shown = refl;
      }
  all_tasks (task ∷ tasks) control drawn middle good same =
      let first : AreGood arity base inputs chunks trees made numbers control.names (places_of task.inputs) = λ p place at. good 0 p task place refl at in
      let next : Control C (Unit {0}) K = with_one control middle task first in
      let more = one_more control middle task first in
      let rest = all_tasks tasks next drawn (one_middle control middle task first)
      (λ i p other place is at. good_kept arity base inputs chunks trees made numbers control.names next.names middle.sound more place (good (suc i) p other place is at)) (omega arith) in
      record {
        middle = rest.middle;
        keeps = record {
          ids = λ q e is. rest.keeps.ids q e (more.ids q e is);
          bodies = λ q b is. rest.keeps.bodies q b (more.bodies q b is);
        };
        from = λ q entry by is held. one_from control middle task first q entry by (rest.from q entry by is held) held;
        own = λ q entry is held. one_own control middle task first q entry (rest.own q entry is held) held;
        shown =
            rest.shown
            ∙ ap (with_tasks (value_tree arity base inputs chunks trees made numbers) numbers caller (control.drawn + 1 + taken (places_of task.inputs)) tasks) (one_graph control middle task first);
      }
