-- The new tasks of a task that is finished: each holds copies of what its places name.
use Rattle.std.proofs.Common.{◌≡◌, ℕ, zero, suc, ◌+◌, ◌<◌, ◌≤◌, ◌⊎◌, inl, inr, List, [], ◌∷◌, map as each, slice_get, Option, None, Some, refl, sym, ap, subst, ◌∙◌, arith}
use Rattle.cht_ids.specs.declared.refs.Ref.{Ref}
use Rattle.cht_ids.specs.declared.refs.Ref.TheVariants.{Null as NullRef, Id as Held}
use Rattle.task_types.specs.declared.outcome.Place.{Place}
use Rattle.task_types.specs.declared.outcome.Place.TheVariants.{Null, Input as AtInput, Child, Chunk, Task}
use Rattle.task_types.specs.Tree.{Tree, Nothing}
use Rattle.task_types.specs.Reading.{reading}
use Rattle.name_states.specs.declared.holder.Holder.TheVariants.{Task as ByTask}
use Rattle.name_states.specs.States.{NameState, IdRecord, id_at, IsLiveRef}
use Rattle.name_states.specs.Rules.{IsSound, AreWithin}
use Rattle.name_states.specs.Trees.{tree_of}
use Rattle.name_states.proofs.Basics.{none_not_some, none_or_some, same_some, same_or_not, inserted_here, inserted_other}
use Rattle.name_states.proofs.Within.{AreMore, unnamed-next, within-more, live-kept}
use Rattle.name_states.proofs.Trees.{tree-kept}
use Rattle.task_states.specs.States.{Input, Known, Awaits, Unfinished, Graph, input_at}
use Rattle.task_states.specs.Steps.{added}
use Rattle.name_machine.specs.Control.{with_number, ref_named, copy_of, input_copies}
use Rattle.name_machine.specs.NewTasks.{taken, number_at, new_inputs}
use Rattle.name_machine.specs.Standing.{IsRefOf, input_shown}
use Rattle.name_machine.proofs.Orderly.{ref_is_live}
use Rattle.name_machine.proofs.FinishNames.{GrowBy, more_by, sound_by, within_by, grow_none, grow_twice, IsCopy, grow_copy, one_copy_there}
use Rattle.name_machine.proofs.FinishMiddle.{ref_more}

-- the number of a reference, and of an input
abbrev pub number_of : Ref → Option ℕ
number_of NullRef = None
number_of (Held id) = Some id.number

abbrev pub number_in : Input Ref → Option ℕ
number_in (Known r) = number_of r
number_in (Awaits task number) = Some number

number_with : (r : Ref) (n m : ℕ) → number_of (with_number r n) ≡ Some m → n ≡ m
number_with NullRef n m is = absurd (none_not_some refl is)
number_with (Held id) n m is = same_some n m is

pub known_is : {X : Type 0} (a b : X) → Known a ≡ Known b → a ≡ b
known_is a b same = cc

pub holder_is : (a b : ℕ) → ByTask a ≡ ByTask b → a ≡ b
holder_is a b same = cc

module _ {C : Type 0} where
  -- a number that is free and not drawn now stays free
  pub free_by : (before after : NameState C) (P : ℕ → IdRecord → Type 0) → GrowBy before after P → (m : ℕ) → ((entry : IdRecord) → P m entry → ⊥) → id_at before m ≡ None → id_at after m ≡ None
  free_by before after P grow m never none =
      elim (none_or_some (id_at after m)) [
        | inl still ↦ still
        | inr some ↦ elim (grow.from m some.0 some.1) [
          | inl was ↦ absurd (none_not_some none was)
          | inr new ↦ absurd (never some.0 new.0)
        ]
      ]

  grow_weaker : (before after : NameState C) (P Q : ℕ → IdRecord → Type 0) → GrowBy before after P → ((q : ℕ) (entry : IdRecord) → P q entry → Q q entry) → GrowBy before after Q
  grow_weaker before after P Q grow all = grow_twice before after after P Q Q grow (grow_none after Q) all (λ q entry is. is)

module _ {X K : Type 0} where
  abbrev input_in : ℕ → Option (Unfinished X K) → Option (Input X)
  input_in p o = elim o as (λ x. Option (Input X)) [ None ↦ None | Some task ↦ slice_get task.inputs p ]

  module _ (graph : Graph X K) (n caller : ℕ) (kind : K) (ins : List (Input X)) where
    abbrev new_one : Unfinished X K
    new_one = record { caller = caller; kind = kind; inputs = ins; runner = None; asked = None }

    pub added_here : (p : ℕ) → input_at (added graph n caller kind ins) n p ≡ slice_get ins p
    added_here p = ap (input_in p) (inserted_here graph.tasks n n new_one new_one refl refl)

    pub added_other : (q p : ℕ) → (q ≡ n → ⊥) → input_at (added graph n caller kind ins) q p ≡ input_at graph q p
    added_other q p apart = ap (input_in p) (inserted_other graph.tasks n q new_one apart)

    pub added_from : (q p : ℕ) (x : Input X) → input_at (added graph n caller kind ins) q p ≡ Some x
        → ((q ≡ n) × (slice_get ins p ≡ Some x)) ⊎ ((q ≡ n → ⊥) × (input_at graph q p ≡ Some x))
    added_from q p x is =
        elim (same_or_not q n) [
          | inl same ↦ inl (same, sym (added_here p) ∙ ap (λ k. input_at (added graph n caller kind ins) k p) (sym same) ∙ is)
          | inr apart ↦ inr (apart, sym (added_other q p apart) ∙ is)
        ]

-- ---- The inputs of one new task

module _ {C : Type 0} (arity : C → ℕ) (base : NameState C) (inputs chunks : List Ref) (trees made : List (Tree C)) (numbers : List ℕ) where
  abbrev pub read : Place → Ref
  read place = ref_named base inputs chunks place

  abbrev pub value_ref : Place → ℕ → Ref
  value_ref place number = with_number (ref_named base inputs chunks place) number

  abbrev pub value_tree : Place → ℕ → Tree C
  value_tree place number = reading trees made [] place

  -- what a place names is live, and leads to the tree that the place reads as
  abbrev pub IsGood : NameState C → Place → Type 0
  IsGood names place = IsLiveRef names (ref_named base inputs chunks place) × (tree_of names (ref_named base inputs chunks place) ≡ reading trees made [] place)

  abbrev pub AreGood : NameState C → List Place → Type 0
  AreGood names places = (p : ℕ) (place : Place) → slice_get places p ≡ Some place → IsGood names place

  pub good_kept : (names more : NameState C) → IsSound arity names → AreMore names more → (place : Place) → IsGood names place → IsGood more place
  good_kept names more sound are_more place good = (
    live-kept names more (ref_named base inputs chunks place) are_more.ids good.0,
    tree-kept arity names more sound are_more (ref_named base inputs chunks place) good.0 ∙ good.1,
  )

  module _ (n : ℕ) where
    -- a new identifier is an input of the task
    abbrev pub IsNewInput : List (Input Ref) → ℕ → ℕ → ℕ → IdRecord → Type 0
    IsNewInput ins start end q entry =
        (start < q) × (q ≤ end) × (entry.holder ≡ ByTask n) × (p : ℕ) × (slice_get ins p ≡ Some (Known (Held (record { owner = entry.owner; number = q }))))

    pub record Walk (before after : NameState C) (ins : List (Input Ref)) (start end : ℕ) (shown : List (Input (Tree C))) : Type 0 where
      pub grow : GrowBy before after (IsNewInput ins start end)
      pub known : (p : ℕ) (r : Ref) → slice_get ins p ≡ Some (Known r) → IsRefOf after (ByTask n) r
      pub awaits : (p a m : ℕ) → slice_get ins p ≡ Some (Awaits a m) → id_at after m ≡ None
      pub range : (p m : ℕ) (i : Input Ref) → slice_get ins p ≡ Some i → number_in i ≡ Some m → (start < m) × (m ≤ end)
      pub apart : (p other m : ℕ) (i j : Input Ref) → slice_get ins p ≡ Some i → slice_get ins other ≡ Some j → number_in i ≡ Some m → number_in j ≡ Some m → p ≡ other
      pub reads : each (input_shown after) ins ≡ shown
      pub up : start ≤ end

    walk_end : (names : NameState C) (start end : ℕ) → end ≡ start + 0 → Walk names names [] start end []
    walk_end names start end same = record {
      grow = grow_none names (IsNewInput [] start end);
      known = λ p r is. absurd (none_not_some refl is);
      awaits = λ p a m is. absurd (none_not_some refl is);
      range = λ p m i is. absurd (none_not_some refl is);
      apart = λ p other m i j is. absurd (none_not_some refl is);
      reads = refl;
      up = omega arith;
    }

    walk_null : (before after : NameState C) (ins : List (Input Ref)) (start end : ℕ) (shown : List (Input (Tree C))) → Walk before after ins start end shown
        → Walk before after (Known NullRef ∷ ins) start end (Known Nothing ∷ shown)
    walk_null before after ins start end shown rest = record {
      grow = grow_weaker before after (IsNewInput ins start end) (IsNewInput (Known NullRef ∷ ins) start end) rest.grow (λ q entry is. (is.0, is.1, is.2, suc is.3, is.4));
      known = known_null;
      awaits = awaits_null;
      range = range_null;
      apart = apart_null;
      reads = ap (λ more. Known Nothing ∷ more) rest.reads;
      up = rest.up;
    }
      where
        known_null : (p : ℕ) (r : Ref) → slice_get (Known NullRef ∷ ins) p ≡ Some (Known r) → IsRefOf after (ByTask n) r
        known_null zero r is = subst (IsRefOf after (ByTask n)) (known_is NullRef r (same_some (Known NullRef) (Known r) is)) tt
        known_null (suc p) r is = rest.known p r is

        awaits_null : (p a m : ℕ) → slice_get (Known NullRef ∷ ins) p ≡ Some (Awaits a m) → id_at after m ≡ None
        awaits_null zero a m is = absurd (let clash : Known NullRef ≡ Awaits a m = same_some _ _ is in cc)
        awaits_null (suc p) a m is = rest.awaits p a m is

        range_null : (p m : ℕ) (i : Input Ref) → slice_get (Known NullRef ∷ ins) p ≡ Some i → number_in i ≡ Some m → (start < m) × (m ≤ end)
        range_null zero m i is number = absurd (none_not_some refl (ap number_in (same_some (Known NullRef) i is) ∙ number))
        range_null (suc p) m i is number = rest.range p m i is number

        apart_null : (p other m : ℕ) (i j : Input Ref) → slice_get (Known NullRef ∷ ins) p ≡ Some i → slice_get (Known NullRef ∷ ins) other ≡ Some j → number_in i ≡ Some m → number_in j ≡ Some m → p ≡ other
        apart_null zero other m i j is at one two = absurd (none_not_some refl (ap number_in (same_some (Known NullRef) i is) ∙ one))
        apart_null (suc p) zero m i j is at one two = absurd (none_not_some refl (ap number_in (same_some (Known NullRef) j at) ∙ two))
        apart_null (suc p) (suc other) m i j is at one two = ap suc (rest.apart p other m i j is at one two)

    walk_awaits : (before after : NameState C) (ins : List (Input Ref)) (start end : ℕ) (shown : List (Input (Tree C))) (task : ℕ) → id_at before (start + 1) ≡ None → Walk before after ins (start + 1) end shown
        → Walk before after (Awaits task (start + 1) ∷ ins) start end (Awaits task (start + 1) ∷ shown)
    walk_awaits before after ins start end shown task free rest = record {
      grow = grow_weaker before after (IsNewInput ins (start + 1) end) (IsNewInput (Awaits task (start + 1) ∷ ins) start end) rest.grow (λ q entry is. (let h = is.0 in omega arith, is.1, is.2, suc is.3, is.4));
      known = known_later;
      awaits = awaits_later;
      range = range_later;
      apart = apart_later;
      reads = ap (λ more. Awaits task (start + 1) ∷ more) rest.reads;
      up = let h = rest.up in omega arith;
    }
      where
        first : Input Ref
        first = Awaits task (start + 1)

        number_is : (m : ℕ) (i : Input Ref) → Some (Awaits task (start + 1)) ≡ Some i → number_in i ≡ Some m → start + 1 ≡ m
        number_is m i is number = same_some (start + 1) m (ap number_in (same_some (Awaits task (start + 1)) i is) ∙ number)

        known_later : (p : ℕ) (r : Ref) → slice_get (Awaits task (start + 1) ∷ ins) p ≡ Some (Known r) → IsRefOf after (ByTask n) r
        known_later zero r is = absurd (let clash : Awaits task (start + 1) ≡ Known r = same_some _ _ is in cc)
        known_later (suc p) r is = rest.known p r is

        awaits_later : (p a m : ℕ) → slice_get (Awaits task (start + 1) ∷ ins) p ≡ Some (Awaits a m) → id_at after m ≡ None
        awaits_later zero a m is =
            let same : start + 1 ≡ m = number_is m (Awaits a m) is refl in
            ap (id_at after) (sym same) ∙ free_by before after (IsNewInput ins (start + 1) end) rest.grow (start + 1) (λ entry new. let h = new.0 in omega arith) free
        awaits_later (suc p) a m is = rest.awaits p a m is

        range_later : (p m : ℕ) (i : Input Ref) → slice_get (Awaits task (start + 1) ∷ ins) p ≡ Some i → number_in i ≡ Some m → (start < m) × (m ≤ end)
        range_later zero m i is number = let same = number_is m i is number in let h = rest.up in (omega arith, omega arith)
        range_later (suc p) m i is number = let h = rest.range p m i is number in let low = h.0 in (omega arith, h.1)

        apart_later : (p other m : ℕ) (i j : Input Ref) → slice_get (Awaits task (start + 1) ∷ ins) p ≡ Some i → slice_get (Awaits task (start + 1) ∷ ins) other ≡ Some j → number_in i ≡ Some m → number_in j ≡ Some m → p ≡ other
        apart_later zero zero m i j is at one two = refl
        apart_later zero (suc other) m i j is at one two = absurd (let same = number_is m i is one in let h = (rest.range other m j at two).0 in omega arith)
        apart_later (suc p) zero m i j is at one two = absurd (let same = number_is m j at two in let h = (rest.range p m i is one).0 in omega arith)
        apart_later (suc p) (suc other) m i j is at one two = ap suc (rest.apart p other m i j is at one two)

    walk_known : (before after : NameState C) (ins : List (Input Ref)) (start end : ℕ) (shown : List (Input (Tree C))) (r : Ref) (tree : Tree C) → IsSound arity before → IsLiveRef before r → tree_of before r ≡ tree
        → id_at before (start + 1) ≡ None → Walk (copy_of before r (start + 1) (ByTask n)) after ins (start + 1) end shown
        → Walk before after (Known (with_number r (start + 1)) ∷ ins) start end (Known tree ∷ shown)
    walk_known before after ins start end shown r tree sound live reads free rest = record {
      grow =
          grow_twice before mid after (IsCopy r (start + 1) (ByTask n)) (IsNewInput ins (start + 1) end) (IsNewInput (Known own ∷ ins) start end) one rest.grow
          (λ q entry is.
          let at = is.0 in
          let h = rest.up in
          (omega arith, omega arith, is.1, 0, ap (λ x. Some (Known x)) is.2 ∙ ap (λ k. Some (Known (Held (record { owner = entry.owner; number = k })))) (sym at)))
          (λ q entry is. (let h = is.0 in omega arith, is.1, is.2, suc is.3, is.4));
      known = known_all;
      awaits = awaits_all;
      range = range_all;
      apart = apart_all;
      reads =
          (let head : tree_of after own ≡ tree = tree-kept arity mid after mid_sound are_more own (ref_is_live mid (ByTask n) own there.0) ∙ there.1 ∙ reads in
          let tail = rest.reads in
          λ i. Known (head i) ∷ tail i);
      up = let h = rest.up in omega arith;
    }
      where
        mid : NameState C
        mid = copy_of before r (start + 1) (ByTask n)

        own : Ref
        own = with_number r (start + 1)

        one : GrowBy before mid (IsCopy r (start + 1) (ByTask n))
        one = grow_copy before r (start + 1) (ByTask n) live free tt

        there : IsRefOf mid (ByTask n) own × (tree_of mid own ≡ tree_of before r)
        there = one_copy_there arity before r (start + 1) (ByTask n) sound live free tt

        mid_sound : IsSound arity mid
        mid_sound = sound_by arity before mid (IsCopy r (start + 1) (ByTask n)) sound one

        are_more : AreMore mid after
        are_more = more_by mid after (IsNewInput ins (start + 1) end) rest.grow

        number_is : (m : ℕ) (i : Input Ref) → Some (Known own) ≡ Some i → number_in i ≡ Some m → start + 1 ≡ m
        number_is m i is number = number_with r (start + 1) m (ap number_in (same_some (Known own) i is) ∙ number)

        known_all : (p : ℕ) (x : Ref) → slice_get (Known own ∷ ins) p ≡ Some (Known x) → IsRefOf after (ByTask n) x
        known_all zero x is = subst (IsRefOf after (ByTask n)) (known_is own x (same_some (Known own) (Known x) is)) (ref_more mid after (ByTask n) own are_more there.0)
        known_all (suc p) x is = rest.known p x is

        awaits_all : (p a m : ℕ) → slice_get (Known own ∷ ins) p ≡ Some (Awaits a m) → id_at after m ≡ None
        awaits_all zero a m is = absurd (let clash : Known own ≡ Awaits a m = same_some _ _ is in cc)
        awaits_all (suc p) a m is = rest.awaits p a m is

        range_all : (p m : ℕ) (i : Input Ref) → slice_get (Known own ∷ ins) p ≡ Some i → number_in i ≡ Some m → (start < m) × (m ≤ end)
        range_all zero m i is number = let same = number_is m i is number in let h = rest.up in (omega arith, omega arith)
        range_all (suc p) m i is number = let h = rest.range p m i is number in let low = h.0 in (omega arith, h.1)

        apart_all : (p other m : ℕ) (i j : Input Ref) → slice_get (Known own ∷ ins) p ≡ Some i → slice_get (Known own ∷ ins) other ≡ Some j → number_in i ≡ Some m → number_in j ≡ Some m → p ≡ other
        apart_all zero zero m i j is at one two = refl
        apart_all zero (suc other) m i j is at one two = absurd (let same = number_is m i is one in let h = (rest.range other m j at two).0 in omega arith)
        apart_all (suc p) zero m i j is at one two = absurd (let same = number_is m j at two in let h = (rest.range p m i is one).0 in omega arith)
        apart_all (suc p) (suc other) m i j is at one two = ap suc (rest.apart p other m i j is at one two)

    -- what a copy leaves for the places that follow
    abbrev IsReady : NameState C → ℕ → List Place → Type 0
    IsReady names start places = IsSound arity names × AreWithin names start × AreGood names places

    ready_next : (names : NameState C) (start : ℕ) (place : Place) (places : List Place) → IsReady names start (place ∷ places)
        → IsReady (copy_of names (ref_named base inputs chunks place) (start + 1) (ByTask n)) (start + 1) places × (id_at names (start + 1) ≡ None)
    ready_next names start place places ready =
        let r : Ref = ref_named base inputs chunks place in
        let free : id_at names (start + 1) ≡ None = unnamed-next names start (start + 1) ready.1 (omega arith) in
        let next : NameState C = copy_of names r (start + 1) (ByTask n) in
        let one = grow_copy names r (start + 1) (ByTask n) (ready.2 0 place refl).0 free tt in
        let are_more = more_by names next (IsCopy r (start + 1) (ByTask n)) one in (
          (
            sound_by arity names next (IsCopy r (start + 1) (ByTask n)) ready.0 one,
            within_by names next (IsCopy r (start + 1) (ByTask n)) start (start + 1) ready.1 (omega arith) (λ q entry is. let at = is.0 in omega arith) one,
            λ p other at. good_kept names next ready.0 are_more other (ready.2 (suc p) other at),
          ),
          free,
        )

    -- the copies that a new task holds of its inputs
    pub walk : (names : NameState C) (start end : ℕ) (places : List Place) → end ≡ start + taken places → IsSound arity names × AreWithin names start × AreGood names places
        → Walk names (input_copies read n start places names) (new_inputs value_ref numbers start places) start end (new_inputs value_tree numbers start places)
    walk names start end [] same ready = walk_end names start end same
    walk names start end (Null ∷ places) same ready =
        walk_null names (input_copies read n start places names) (new_inputs value_ref numbers start places) start end (new_inputs value_tree numbers start places)
        (walk names start end places (omega arith) (ready.0, ready.1, λ p other at. ready.2 (suc p) other at))
    walk names start end (AtInput i ∷ places) same ready =
        let r : Ref = ref_named base inputs chunks (AtInput i) in
        let next = ready_next names start (AtInput i) places ready in
        let good = ready.2 0 (AtInput i) refl in
        let mid : NameState C = copy_of names r (start + 1) (ByTask n) in
        walk_known names (input_copies read n (start + 1) places mid) (new_inputs value_ref numbers (start + 1) places) start end (new_inputs value_tree numbers (start + 1) places) r (reading trees made [] (AtInput i))
        ready.0 good.0 good.1 next.1 (walk mid (start + 1) end places (omega arith) next.0)
    walk names start end (Child i j ∷ places) same ready =
        let r : Ref = ref_named base inputs chunks (Child i j) in
        let next = ready_next names start (Child i j) places ready in
        let good = ready.2 0 (Child i j) refl in
        let mid : NameState C = copy_of names r (start + 1) (ByTask n) in
        walk_known names (input_copies read n (start + 1) places mid) (new_inputs value_ref numbers (start + 1) places) start end (new_inputs value_tree numbers (start + 1) places) r (reading trees made [] (Child i j))
        ready.0 good.0 good.1 next.1 (walk mid (start + 1) end places (omega arith) next.0)
    walk names start end (Chunk i ∷ places) same ready =
        let r : Ref = ref_named base inputs chunks (Chunk i) in
        let next = ready_next names start (Chunk i) places ready in
        let good = ready.2 0 (Chunk i) refl in
        let mid : NameState C = copy_of names r (start + 1) (ByTask n) in
        walk_known names (input_copies read n (start + 1) places mid) (new_inputs value_ref numbers (start + 1) places) start end (new_inputs value_tree numbers (start + 1) places) r (reading trees made [] (Chunk i))
        ready.0 good.0 good.1 next.1 (walk mid (start + 1) end places (omega arith) next.0)
    walk names start end (Task i ∷ places) same ready =
        let free : id_at names (start + 1) ≡ None = unnamed-next names start (start + 1) ready.1 (omega arith) in
        walk_awaits names (input_copies read n (start + 1) places names) (new_inputs value_ref numbers (start + 1) places) start end (new_inputs value_tree numbers (start + 1) places) (number_at numbers i) free
        (walk names (start + 1) end places (omega arith) (ready.0, within-more names start (start + 1) ready.1 (omega arith), λ p other at. ready.2 (suc p) other at))
