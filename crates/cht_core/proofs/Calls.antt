-- What each call of a core gives: an event of the machine, after which the core stands as before.
use Rattle.std.proofs.Common.{◌≡◌, ℕ, ◌+◌, ◌≤◌, ◌↔◌, Bool, IsTrue, true, false, not, ◌&&◌, nat_eq, nat_le, List, [], ◌∷◌, map as each, length, Some, Result, Ok, Err, IfOk, OnOk, OnErr, refl, sym, ap, subst, ◌∙◌}
use Rattle.std.proofs.lemmas.Bool.{le-leb}
use Rattle.std.specs.List.{list_all}
use Rattle.std.specs.Option.{is_some}
use Rattle.std.specs.FinMap as map
use Rattle.cht_ids.specs.declared.refs.Id.{Id}
use Rattle.cht_ids.specs.declared.refs.Ref.{Ref}
use Rattle.task_types.specs.declared.outcome.Outcome.{Outcome}
use Rattle.task_types.specs.Tree.{Tree}
use Rattle.task_types.specs.Meanings.{Meanings}
use Rattle.task_types.specs.Sound as outcomes
use Rattle.task_types.specs.Deciding.{same_kind, DecidesOneOf}
use Rattle.name_states.proofs.Basics.{test_same}
use Rattle.task_states.specs.declared.states.TaskStatus.TheVariants.{Ready}
use Rattle.task_states.specs.States.{Unfinished, task_at, status, is_stopped, running}
use Rattle.cht_history.specs.declared.event.Event.{Event}
use Rattle.cht_history.specs.declared.event.Event.TheVariants.{Register, Copy, Delete, Ask as AskEvent, Collect, Abandon, Stop, Start, GiveBack}
use Rattle.name_machine.specs.States.{opening, has_ask, Holds, MayMentionAll, tree_named, IsIdle}
use Rattle.name_machine.specs.Steps.{registered, input_trees}
use Rattle.name_machine.specs.Control.{Control, no_control}
use Rattle.name_machine.specs.Laws.{ComesOf}
use Rattle.name_machine.specs.Forgetting.{forgotten}
use Rattle.name_machine.specs.Replay.{is_id, is_mine, may_mention, is_ready, is_delivered, is_allowed}
use Rattle.name_machine.specs.Standing.{machine_of}
use Rattle.core_steps.specs.Conditions.{RunsTask, bodies_of, finish_of}
use Rattle.core_state.specs.Contents.{Contents, after_event}
use Rattle.cht_core.specs.Events.{plans_of, state, Stands, Happens, IsDone}
use Rattle.name_machine.proofs.Runs.{facts_hold}
use Rattle.name_machine.proofs.ComesOn.{opening_comes_of_none}
use Rattle.name_machine.proofs.Stand.{opening_stands}
use Rattle.name_machine.proofs.Grow.{register_is}
use Rattle.name_machine.proofs.Grow as grow
use Rattle.cht_core.proofs.Happened.{happened}
use Rattle.cht_core.proofs.Mine.{both_of, holds_mine, mention_all}
use Rattle.cht_core.proofs.FinishAllowed.{FinishIsFit, idle_runs_nothing, finish_allowed}
use Rattle.task_types.specs.Sound.{AddsUp}

-- what holds of two parts of an answer that is well
ok_and : {A E : Type 0} (P Q R : A → Type 0) (result : Result A E) → ((x : A) → P x → Q x → R x) → IfOk result P → IfOk result Q → IfOk result R
ok_and P Q R (Ok x) both p q = both x p q
ok_and P Q R (Err e) both p q = tt

pub ok_to : {A E : Type 0} (P R : A → Type 0) (result : Result A E) → ((x : A) → P x → R x) → IfOk result P → IfOk result R
ok_to P R (Ok x) to p = to x p
ok_to P R (Err e) to p = tt

same_id : (owner number : ℕ) (id : Id) → id ≡ record { owner = owner; number = number } → is_id owner number id ≡ true
same_id owner number id is = ap (is_id owner number) is ∙ both_of (nat_eq owner owner) (nat_eq number number) (test_same owner) (test_same number)

module _ {C K : Type 0} (lib : Meanings C K) (arity : C → ℕ) (name : K → List ℕ) (height : K → ℕ) (adds_up : AddsUp arity lib) where
  abbrev pub IsCore : Contents C K → Type 0
  IsCore core = Stands lib arity (plans_of lib name height) core

  abbrev pub IsSo : Contents C K → Contents C K → List C → Event K → Type 0
  IsSo before after contents event = IsDone lib arity (plans_of lib name height) before after contents event

  -- an event of a call that is not refused, and a core that stands
  pub record Called {A E : Type 0} (result : Result A E) (event : A → Event K) (now after : Contents C K) : Type 0 where
    pub stands : IsCore after
    pub happens : IfOk result (λ x. Happens lib arity now after (event x))

  -- the same where nothing is refused
  pub record Made (now after : Contents C K) (event : Event K) : Type 0 where
    pub stands : IsCore after
    pub happens : Happens lib arity now after event

  pub made : (before now after : Contents C K) (contents : List C) (event : Event K) → before ≡ now → IsCore before → IsSo before after contents event → Made now after event
  made before now after contents event view stands done =
      let both = happened lib arity (plans_of lib name height) adds_up before after contents event stands done in
      record { stands = both.1; happens = subst (λ core. Happens lib arity core after event) view both.0 }

  answered : {A E : Type 0} (result : Result A E) (event : A → Event K) (contents : List C) (before now after : Contents C K) → before ≡ now → IsCore before
      → IfOk result (λ x. IsSo before after contents (event x)) → OnErr result (after ≡ before) → Called result event now after
  answered (Ok x) event contents before now after view stands done unchanged =
      let m = made before now after contents (event x) view stands done in
      record { stands = m.stands; happens = m.happens }
  answered (Err e) event contents before now after view stands done unchanged =
      record { stands = subst IsCore (sym unchanged) stands; happens = tt }

  -- a core without events
  pub new_stands : (core : Contents C K) → core.control ≡ no_control → core.events ≡ [] → IsCore core
  new_stands core control_is events_is =
      let comes : ComesOf lib arity (plans_of lib name height) core.events core.control =
      subst (λ (control : Control C (Unit {0}) K). ComesOf lib arity (plans_of lib name height) core.events control) (sym control_is)
      (subst (λ events. ComesOf lib arity (plans_of lib name height) events no_control) (sym events_is) (opening_comes_of_none lib arity (plans_of lib name height))) in
      record { comes = comes; facts = facts_hold lib arity core.events (state lib core) comes.run }

  pub new_state : (core : Contents C K) → core.control ≡ no_control → state lib core ≡ opening
  new_state core control_is = ap (machine_of lib) control_is ∙ opening_stands lib

  module _ (before now after : Contents C K) (view : before ≡ now) (stands : IsCore before) where
    abbrev forgot : Control ℕ (Unit {0}) K
    forgot = forgotten arity before.control

    pub now_stands : IsCore now
    now_stands = subst IsCore view stands

    -- ---- Names

    pub mentioned : (c : ℕ) (refs : List Ref) → MayMentionAll (state lib now) c refs → list_all (may_mention forgot c) refs ≡ true
    mentioned c refs may = mention_all lib arity before.control c refs (subst (λ core. MayMentionAll (state lib core) c refs) (sym view) may)

    pub mine_of : (c : ℕ) (id : Id) → Holds (state lib now) c id → is_mine forgot c id ≡ true
    mine_of c id holds = holds_mine lib arity before.control c id (subst (λ core. Holds (state lib core) c id) (sym view) holds)

    pub register_called : {E : Type 0} (result : Result Id E) (c : ℕ) (content : C) (children : List Ref) → MayMentionAll (state lib now) c children
        → length children ≡ arity content → length children ≤ 4
        → IfOk result (λ id. id ≡ record { owner = 0; number = before.control.drawn + 2 })
        → IfOk result (λ id. after ≡ after_event before (content ∷ []) (Register c id children)) → OnErr result (after ≡ before)
        → Called result (λ id. Register c id children) now after
    register_called result c content children may many few id event unchanged =
        answered result (λ id. Register c id children) (content ∷ []) before now after view stands
        (ok_and (λ id. id ≡ record { owner = 0; number = before.control.drawn + 2 }) (λ id. after ≡ after_event before (content ∷ []) (Register c id children)) (λ id. IsSo before after (content ∷ []) (Register c id children)) result
        (λ new id_is after_is. record {
          after_is = after_is;
          allowed = both_of (nat_le (length children) 4 && list_all (may_mention forgot c) children) (is_id 0 (before.control.drawn + 2) new)
              (both_of (nat_le (length children) 4) (list_all (may_mention forgot c) children) (le-leb (length children) 4 few) (mentioned c children may))
              (same_id 0 (before.control.drawn + 2) new id_is);
          wanted = (content, refl, many);
          many = ap (λ n. n ∷ []) (sym many);
        }) id event) unchanged

    pub register_state : {E : Type 0} (result : Result Id E) (c : ℕ) (content : C) (children : List Ref) → MayMentionAll (state lib now) c children
        → length children ≡ arity content → length children ≤ 4
        → IfOk result (λ id. id ≡ record { owner = 0; number = before.control.drawn + 2 })
        → IfOk result (λ id. after ≡ after_event before (content ∷ []) (Register c id children))
        → OnOk result (state lib after ≡ registered (state lib now) c 0 content children)
    register_state (Ok id) c content children may many few id_is after_is =
        let allowed : is_allowed (plans_of lib name height) forgot (Register c id children) ≡ true =
        both_of (nat_le (length children) 4 && list_all (may_mention forgot c) children) (is_id 0 (before.control.drawn + 2) id)
        (both_of (nat_le (length children) 4) (list_all (may_mention forgot c) children) (le-leb (length children) 4 few) (mentioned c children may))
        (same_id 0 (before.control.drawn + 2) id id_is) in
        ap (state lib) after_is
        ∙ register_is lib arity before.control stands.comes.ordered (plans_of lib name height) c id children content many stands.facts allowed
        ∙ ap (λ owner. registered (state lib before) c owner content children) (ap (λ (i : Id). i.owner) id_is)
        ∙ ap (λ core. registered (state lib core) c 0 content children) view
    register_state (Err e) c content children may many few id_is after_is = tt

    pub holds_both : (result : Bool) (c : ℕ) (id : Id) → result ≡ is_mine forgot c id → IsTrue result ↔ Holds (state lib now) c id
    holds_both result c id is = (
      (λ yes.
          (let mine_it = grow.mine_of lib arity before.control stands.comes.ordered c id (sym is ∙ yes) in
          subst (λ core. Holds (state lib core) c id) view (ap is_some (grow.mine_held lib arity before.control stands.comes.ordered c id mine_it)))),
      λ held. is ∙ mine_of c id held,
    )

    pub copy_called : {E : Type 0} (result : Result Id E) (c : ℕ) (from : Id) → Holds (state lib now) c from
        → IfOk result (λ id. id ≡ record { owner = from.owner; number = before.control.drawn + 1 })
        → IfOk result (λ id. after ≡ after_event before [] (Copy c from id)) → OnErr result (after ≡ before)
        → Called result (λ id. Copy c from id) now after
    copy_called result c from holds id event unchanged =
        answered result (λ id. Copy c from id) [] before now after view stands
        (ok_and (λ id. id ≡ record { owner = from.owner; number = before.control.drawn + 1 }) (λ id. after ≡ after_event before [] (Copy c from id)) (λ id. IsSo before after [] (Copy c from id)) result
        (λ new id_is after_is. record {
          after_is = after_is;
          allowed = both_of (is_mine forgot c from) (is_id from.owner (before.control.drawn + 1) new) (mine_of c from holds) (same_id from.owner (before.control.drawn + 1) new id_is);
          wanted = tt;
          many = refl;
        }) id event) unchanged

    pub delete_made : (c : ℕ) (id : Id) → Holds (state lib now) c id → after ≡ after_event before [] (Delete c id) → Made now after (Delete c id)
    delete_made c id holds after_is =
        made before now after [] (Delete c id) view stands (record { after_is = after_is; allowed = mine_of c id holds; wanted = tt; many = refl })

    -- ---- Asks

    pub ask_called : {E : Type 0} (result : Result ℕ E) (c : ℕ) (kind : K) (inputs : List Ref) → is_stopped (state lib now).graph c ≡ false → MayMentionAll (state lib now) c inputs
        → lib.defined kind (each (tree_named (state lib now)) inputs)
        → IfOk result (λ task. task ≡ before.control.drawn + 1)
        → IfOk result (λ task. after ≡ after_event before [] (AskEvent c task kind inputs)) → OnErr result (after ≡ before)
        → Called result (λ task. AskEvent c task kind inputs) now after
    ask_called result c kind inputs goes_on may defined number event unchanged =
        answered result (λ task. AskEvent c task kind inputs) [] before now after view stands
        (ok_and (λ task. task ≡ before.control.drawn + 1) (λ task. after ≡ after_event before [] (AskEvent c task kind inputs)) (λ task. IsSo before after [] (AskEvent c task kind inputs)) result
        (λ task task_is after_is. record {
          after_is = after_is;
          allowed = both_of (not (is_stopped before.control.graph c) && list_all (may_mention forgot c) inputs) (nat_eq task (before.control.drawn + 1))
              (both_of (not (is_stopped before.control.graph c)) (list_all (may_mention forgot c) inputs)
              (ap not (ap (λ (core : Contents C K). is_stopped (state lib core).graph c) view ∙ goes_on)) (mentioned c inputs may))
              (ap (λ n. nat_eq n (before.control.drawn + 1)) task_is ∙ test_same (before.control.drawn + 1));
          wanted = subst (λ (core : Contents C K). lib.defined kind (each (tree_named (state lib core)) inputs)) (sym view) defined;
          many = refl;
        }) number event) unchanged

    pub collect_made : (c task : ℕ) (got : Ref) → is_stopped before.control.graph c ≡ false → is_delivered c got (map.get before.control.asks task) ≡ true
        → after ≡ after_event before [] (Collect c task got) → Made now after (Collect c task got)
    collect_made c task got goes_on delivered after_is =
        made before now after [] (Collect c task got) view stands
        (record { after_is = after_is; allowed = both_of (not (is_stopped before.control.graph c)) (is_delivered c got (map.get before.control.asks task)) (ap not goes_on) delivered; wanted = tt; many = refl })

    pub stop_made : (c : ℕ) → has_ask before.control.asks c ≡ true → is_stopped before.control.graph c ≡ false → after ≡ after_event before [] (Stop c) → Made now after (Stop c)
    stop_made c asked goes_on after_is =
        made before now after [] (Stop c) view stands
        (record { after_is = after_is; allowed = both_of (has_ask before.control.asks c) (not (is_stopped before.control.graph c)) asked (ap not goes_on); wanted = tt; many = refl })

    pub abandon_made : (c : ℕ) → has_ask before.control.asks c ≡ true → running before.control.graph c ≡ 0 → after ≡ after_event before [] (Abandon c) → Made now after (Abandon c)
    abandon_made c asked none after_is =
        made before now after [] (Abandon c) view stands
        (record { after_is = after_is; allowed = both_of (has_ask before.control.asks c) (nat_eq (running before.control.graph c) 0) asked (ap (λ n. nat_eq n 0) none); wanted = tt; many = refl })

    -- ---- Executions

    pub idle_now : (w : ℕ) → IsIdle (state lib now) w → IsIdle (state lib before) w
    idle_now w idle = subst (λ core. IsIdle (state lib core) w) (sym view) idle

    pub start_called : {E : Type 0} (result : Result (Unit {0}) E) (w task : ℕ) → IsIdle (state lib now) w → status before.control.graph task ≡ Ready
        → OnOk result (after ≡ after_event before [] (Start w task)) → OnErr result (after ≡ before) → Called result (λ x. Start w task) now after
    start_called (Ok x) w task idle ready event unchanged =
        let m = made before now after [] (Start w task) view stands
        (record { after_is = event; allowed = both_of (is_ready (status before.control.graph task)) _ (ap is_ready ready) (idle_runs_nothing lib arity before.control w (idle_now w idle)); wanted = tt; many = refl }) in
        record { stands = m.stands; happens = m.happens }
    start_called (Err e) w task idle ready event unchanged = record { stands = subst IsCore (sym unchanged) stands; happens = tt }

    pub give_back_made : (w task : ℕ) → RunsTask before.control w task → after ≡ after_event before [] (GiveBack w task) → Made now after (GiveBack w task)
    give_back_made w task runs after_is =
        made before now after [] (GiveBack w task) view stands (record { after_is = after_is; allowed = runs; wanted = tt; many = refl })

    pub finish_fits : (decided : DecidesOneOf (same_kind name height)) → (w task : ℕ) (outcome : Outcome C K) (t : Unfinished (Tree C) K) → task_at (state lib now).graph task ≡ Some t
        → t.runner ≡ Some w → outcomes.IsSound arity lib t.kind (input_trees t) outcome → FinishIsFit lib arity before.control name height decided stands.comes.ordered w task outcome
    finish_fits decided w task outcome t there runs sound =
        finish_allowed lib arity before.control name height decided stands.comes.ordered w task outcome t (ap (λ (core : Contents C K). task_at (state lib core).graph task) view ∙ there) runs sound

    pub finish_called : {A E : Type 0} (result : Result A E) → DecidesOneOf (same_kind name height) → (w task : ℕ) (outcome : Outcome C K) (t : Unfinished (Tree C) K)
        → task_at (state lib now).graph task ≡ Some t → t.runner ≡ Some w → outcomes.IsSound arity lib t.kind (input_trees t) outcome
        → OnOk result (after ≡ after_event before (bodies_of outcome) (finish_of w task outcome)) → OnErr result (after ≡ before)
        → Called result (λ x. finish_of w task outcome) now after
    finish_called (Ok x) decided w task outcome t there runs sound event unchanged =
        let fit = finish_fits decided w task outcome t there runs sound in
        let m = made before now after (bodies_of outcome) (finish_of w task outcome) view stands
        (record {
          after_is = event;
          allowed = fit.allowed;
          wanted = (t, outcome, ap (λ (core : Contents C K). task_at (state lib core).graph task) view ∙ there, refl, refl, refl, refl, sound);
          many = fit.many;
        }) in
        record { stands = m.stands; happens = m.happens }
    finish_called (Err e) decided w task outcome t there runs sound event unchanged = record { stands = subst IsCore (sym unchanged) stands; happens = tt }
