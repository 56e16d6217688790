-- Names that grow by copies: what they keep, and copies of one reference under free numbers.
use Rattle.std.proofs.Common.{◌≡◌, ℕ, ◌≤◌, ◌⊎◌, inl, inr, List, [], ◌∷◌, ◌++◌, None, Some, is_some, IsSome, refl, sym, ap, subst, ◌∙◌, arith}
use Rattle.std.specs.Option.{option_map}
use Rattle.std.specs.FinMap as map
use Rattle.cht_ids.specs.declared.refs.Id.{Id}
use Rattle.cht_ids.specs.declared.refs.Ref.{Ref}
use Rattle.cht_ids.specs.declared.refs.Ref.TheVariants.{Null, Id as Held}
use Rattle.name_states.specs.declared.holder.Holder.{Holder}
use Rattle.name_states.specs.declared.holder.Holder.TheVariants.{Body}
use Rattle.name_states.specs.States.{NameState, IdRecord, id_at, body_at, record_of, IsLiveRef}
use Rattle.name_states.specs.Steps.{IsOutside, without_id}
use Rattle.name_states.specs.Steps as names
use Rattle.name_states.specs.Rules.{IsSound, AreReached, AreWithin}
use Rattle.name_states.specs.Trees.{tree_named, body_tree, tree_of}
use Rattle.name_states.proofs.Basics.{none_not_some, some_value, same_some, same_or_not, inserted_here, inserted_other}
use Rattle.name_states.proofs.Within.{AreMore, number-naming, naming-number}
use Rattle.name_states.proofs.Copies.{copied-here, copied-from, bodies-with_copy}
use Rattle.name_states.proofs.Reaching.{reached-more}
use Rattle.name_states.proofs.Trees.{body-tree-kept}
use Rattle.name_machine.specs.Control.{with_number, copy_of, copies_of}
use Rattle.name_machine.specs.Standing.{IsRefOf}

-- something is one of a list
abbrev pub IsIn : {X : Type 0} → X → List X → Type 0
IsIn x [] = ⊥
IsIn x (y ∷ ys) = (x ≡ y) ⊎ IsIn x ys

pub in_left : {X : Type 0} (x : X) (xs ys : List X) → IsIn x xs → IsIn x (xs ++ ys)
in_left x [] ys is = absurd is
in_left x (y ∷ xs) ys (inl here) = inl here
in_left x (y ∷ xs) ys (inr there) = inr (in_left x xs ys there)

pub in_right : {X : Type 0} (x : X) (xs ys : List X) → IsIn x ys → IsIn x (xs ++ ys)
in_right x [] ys is = is
in_right x (y ∷ xs) ys is = inr (in_right x xs ys is)

pub in_either : {X : Type 0} (x : X) (xs ys : List X) → IsIn x (xs ++ ys) → IsIn x xs ⊎ IsIn x ys
in_either x [] ys is = inr is
in_either x (y ∷ xs) ys (inl here) = inl (inl here)
in_either x (y ∷ xs) ys (inr there) = elim (in_either x xs ys there) [ inl left ↦ inl (inr left) | inr right ↦ inr right ]

holder_outside : (holder : Holder) (body : ℕ) → IsOutside holder → holder ≡ Body body → ⊥
holder_outside holder body outside held = subst IsOutside held outside

-- a copy under a number of what a reference names
abbrev pub IsCopy : Ref → ℕ → Holder → ℕ → IdRecord → Type 0
IsCopy r number holder q entry = (q ≡ number) × (entry.holder ≡ holder) × (with_number r number ≡ Held (record { owner = entry.owner; number = number }))

-- a copy of one of a list
abbrev pub IsCopyIn : Ref → List (ℕ × Holder) → ℕ → IdRecord → Type 0
IsCopyIn r list q entry = IsIn (q, entry.holder) list × (with_number r q ≡ Held (record { owner = entry.owner; number = q }))

module _ {C : Type 0} where
  -- Names grow by identifiers of which each passes a test, is held by a caller or a task, and names a body that an old one names.
  pub record GrowBy (before after : NameState C) (P : ℕ → IdRecord → Type 0) : Type 0 where
    pub keeps : (q : ℕ) (entry : IdRecord) → id_at before q ≡ Some entry → id_at after q ≡ Some entry
    pub bodies : after.bodies ≡ before.bodies
    pub from : (q : ℕ) (entry : IdRecord) → id_at after q ≡ Some entry
        → (id_at before q ≡ Some entry)
        ⊎ (P q entry × IsOutside entry.holder × (n : ℕ) × (source : IdRecord) × (id_at before n ≡ Some source) × (entry.owner ≡ source.owner) × (entry.body ≡ source.body))

  pub more_by : (before after : NameState C) (P : ℕ → IdRecord → Type 0) → GrowBy before after P → AreMore before after
  more_by before after P grow = record { ids = grow.keeps; bodies = λ q body is. ap (λ bodies. map.get bodies q) grow.bodies ∙ is }

  pub sound_by : (arity : C → ℕ) (before after : NameState C) (P : ℕ → IdRecord → Type 0) → IsSound arity before → GrowBy before after P → IsSound arity after
  sound_by arity before after P sound grow =
      let there : (q : ℕ) → body_at after q ≡ body_at before q = λ q. ap (λ bodies. map.get bodies q) grow.bodies in
      record {
        named = λ q entry is. elim (grow.from q entry is) [
          | inl was ↦ let leads = sound.named q entry was in (leads.0, there entry.body ∙ leads.1, leads.2)
          | inr new ↦
              let leads = sound.named new.2 new.3 new.4 in
              (leads.0, there entry.body ∙ ap (body_at before) new.6 ∙ leads.1, leads.2 ∙ sym new.5)
        ];
        children = λ q body j id is at.
            let by = sound.children q body j id (sym (there q) ∙ is) at in
            (by.0, grow.keeps id.number by.0 by.1, by.2, by.3, by.4);
        held = λ q entry holder is held. elim (grow.from q entry is) [
          | inl was ↦ let child = sound.held q entry holder was held in (child.0, child.1, there holder ∙ child.2, child.3)
          | inr new ↦ absurd (holder_outside entry.holder holder new.1 held)
        ];
        all_children = λ q body is. sound.all_children q body (sym (there q) ∙ is);
      }

  pub reached_by : (before after : NameState C) (P : ℕ → IdRecord → Type 0) → AreReached before → GrowBy before after P → AreReached after
  reached_by before after P reached grow q some =
      reached-more before after q grow.keeps (reached q (subst (λ bodies. IsSome (map.get bodies q)) grow.bodies some))

  pub within_by : (before after : NameState C) (P : ℕ → IdRecord → Type 0) (drawn more : ℕ) → AreWithin before drawn → drawn ≤ more
      → ((q : ℕ) (entry : IdRecord) → P q entry → q ≤ more) → GrowBy before after P → AreWithin after more
  within_by before after P drawn more within up low grow = record {
    ids = λ q some.
        let found = some_value (id_at after q) some in
        elim (grow.from q found.0 found.1) [
          | inl was ↦ let h = within.ids q (ap is_some was) in omega arith
          | inr new ↦ low q found.0 new.0
        ];
    bodies = λ q some. let h = within.bodies q (subst (λ bodies. IsSome (map.get bodies q)) grow.bodies some) in omega arith;
  }

  pub grow_none : (names : NameState C) (P : ℕ → IdRecord → Type 0) → GrowBy names names P
  grow_none names P = record { keeps = λ q entry is. is; bodies = refl; from = λ q entry is. inl is }

  -- names that grow twice
  pub grow_twice : (before between after : NameState C) (P Q R : ℕ → IdRecord → Type 0) → GrowBy before between P → GrowBy between after Q
      → ((q : ℕ) (entry : IdRecord) → P q entry → R q entry) → ((q : ℕ) (entry : IdRecord) → Q q entry → R q entry) → GrowBy before after R
  grow_twice before between after P Q R one two first second = record {
    keeps = λ q entry is. two.keeps q entry (one.keeps q entry is);
    bodies = two.bodies ∙ one.bodies;
    from = λ q entry is. elim (two.from q entry is) [
      | inl was ↦ elim (one.from q entry was) [
        | inl old ↦ inl old
        | inr new ↦ inr (first q entry new.0, new.1, new.2, new.3, new.4, new.5, new.6)
      ]
      | inr new ↦ elim (one.from new.2 new.3 new.4) [
        | inl old ↦ inr (second q entry new.0, new.1, new.2, new.3, old, new.5, new.6)
        | inr other ↦ inr (second q entry new.0, new.1, other.2, other.3, other.4, new.5 ∙ other.5, new.6 ∙ other.6)
      ]
    ];
  }

  -- ---- One copy

  pub grow_copy : (names : NameState C) (r : Ref) (number : ℕ) (holder : Holder) → IsLiveRef names r → id_at names number ≡ None → IsOutside holder
      → GrowBy names (copy_of names r number holder) (IsCopy r number holder)
  grow_copy state Null number holder live free outside = grow_none state (IsCopy Null number holder)
  grow_copy state (Held id) number holder live free outside =
      let found = some_value (record_of state id) live in
      let at = naming-number state id found.0 found.1 in
      record {
        keeps = λ q entry is.
            ap (λ o. id_at (names.with_copy state number holder o) q) at.0
            ∙ inserted_other state.ids number q (record found.0 { holder = holder }) (λ same. none_not_some free (ap (id_at state) (sym same) ∙ is))
            ∙ is;
        bodies = bodies-with_copy state number holder (id_at state id.number);
        from = λ q entry is. elim (copied-from state number holder (id_at state id.number) q entry is) [
          | inl was ↦ inl was
          | inr new ↦
              let source : new.0 ≡ found.0 = same_some new.0 found.0 (sym new.1 ∙ at.0) in
              let owner : entry.owner ≡ id.owner = ap (λ (n : IdRecord). n.owner) new.2 ∙ ap (λ (n : IdRecord). n.owner) source ∙ at.1 in
              inr (
                (new.3, ap (λ (n : IdRecord). n.holder) new.2, ap (λ o. Held (record { owner = o; number = number })) (sym owner)),
                subst IsOutside (sym (ap (λ (n : IdRecord). n.holder) new.2)) outside,
                id.number,
                new.0,
                new.1,
                ap (λ (n : IdRecord). n.owner) new.2,
                ap (λ (n : IdRecord). n.body) new.2,
              )
        ];
      }

  -- a reference under another number names what it named, and is held by its holder
  abbrev pub IsCopyThere : NameState C → NameState C → Ref → ℕ → Holder → Type 0
  IsCopyThere before after r number holder = IsRefOf after holder (with_number r number) × (tree_of after (with_number r number) ≡ tree_of before r)

  -- a copy that is there under its number
  pub copy_there : (arity : C → ℕ) (before after : NameState C) (id : Id) (source : IdRecord) (number : ℕ) (holder : Holder) → IsSound arity before → AreMore before after
      → id_at before id.number ≡ Some source → source.owner ≡ id.owner → id_at after number ≡ Some (record source { holder = holder })
      → IsCopyThere before after (Held id) number holder
  copy_there arity before after id source number holder sound more at owner is =
      let new : record_of after (record { owner = id.owner; number = number }) ≡ Some (record source { holder = holder }) =
      number-naming after (record { owner = id.owner; number = number }) (record source { holder = holder }) is owner in
      let old : record_of before id ≡ Some source = number-naming before id source at owner in (
        ap (option_map (λ (n : IdRecord). n.holder)) new,
        ap (tree_named (body_tree after)) new
            ∙ body-tree-kept arity before after sound more source.body (ap is_some (sound.named id.number source at).1)
            ∙ sym (ap (tree_named (body_tree before)) old),
      )

  pub one_copy_there : (arity : C → ℕ) (names : NameState C) (r : Ref) (number : ℕ) (holder : Holder) → IsSound arity names → IsLiveRef names r → id_at names number ≡ None → IsOutside holder
      → IsCopyThere names (copy_of names r number holder) r number holder
  one_copy_there arity state Null number holder sound live free outside = (tt, refl)
  one_copy_there arity state (Held id) number holder sound live free outside =
      let found = some_value (record_of state id) live in
      let at = naming-number state id found.0 found.1 in
      copy_there arity state (names.copied state id.number number holder) id found.0 number holder sound
      (more_by state (names.copied state id.number number holder) (IsCopy (Held id) number holder) (grow_copy state (Held id) number holder live free outside))
      at.0 at.1 (copied-here state id.number number holder found.0 at.0)

  -- ---- Copies of one reference, in any order

  pub null_copies : (state : NameState C) (list : List (ℕ × Holder)) → copies_of state Null list ≡ state
  null_copies state [] = refl
  null_copies state (one ∷ more) = null_copies state more

  module _ (id : Id) (source : IdRecord) where
    source_stays : (state : NameState C) (number : ℕ) (holder : Holder) → id_at state id.number ≡ Some source → (number ≡ id.number → ⊥)
        → id_at (names.copied state id.number number holder) id.number ≡ Some source
    source_stays state number holder at apart =
        ap (λ o. id_at (names.with_copy state number holder o) id.number) at
        ∙ inserted_other state.ids number id.number (record source { holder = holder }) (λ same. apart (sym same))
        ∙ at

    -- what no copy is put under stays
    pub copies_other : (state : NameState C) (list : List (ℕ × Holder)) (q : ℕ) → id_at state id.number ≡ Some source → ((n : ℕ) (h : Holder) → IsIn (n, h) list → n ≡ id.number → ⊥)
        → ((h : Holder) → IsIn (q, h) list → ⊥) → id_at (copies_of state (Held id) list) q ≡ id_at state q
    copies_other state [] q at apart none = refl
    copies_other state (one ∷ more) q at apart none =
        let next : NameState C = names.copied state id.number one.0 one.1 in
        let other : q ≡ one.0 → ⊥ = λ same. none one.1 (inl (λ i. (same i, one.1))) in
        copies_other next more q (source_stays state one.0 one.1 at (apart one.0 one.1 (inl refl))) (λ n h is. apart n h (inr is)) (λ h is. none h (inr is))
        ∙ ap (λ o. id_at (names.with_copy state one.0 one.1 o) q) at
        ∙ inserted_other state.ids one.0 q (record source { holder = one.1 }) other

    -- a copy stays where each further one under its number has the same holder
    copies_stay : (state : NameState C) (list : List (ℕ × Holder)) (q : ℕ) (holder : Holder) → id_at state id.number ≡ Some source → ((n : ℕ) (h : Holder) → IsIn (n, h) list → n ≡ id.number → ⊥)
        → ((h : Holder) → IsIn (q, h) list → h ≡ holder) → id_at state q ≡ Some (record source { holder = holder })
        → id_at (copies_of state (Held id) list) q ≡ Some (record source { holder = holder })
    copies_stay state [] q holder at apart same is = is
    copies_stay state (one ∷ more) q holder at apart same is =
        let next : NameState C = names.copied state id.number one.0 one.1 in
        let opened : (x : ℕ) → id_at next x ≡ map.get (map.insert state.ids one.0 (record source { holder = one.1 })) x = λ x. ap (λ o. id_at (names.with_copy state one.0 one.1 o) x) at in
        copies_stay next more q holder (source_stays state one.0 one.1 at (apart one.0 one.1 (inl refl))) (λ n h among. apart n h (inr among)) (λ h among. same h (inr among))
        (opened q ∙ elim (same_or_not q one.0) [
          | inl here ↦
              inserted_here state.ids one.0 q (record source { holder = one.1 }) (record source { holder = holder }) here
              (ap (λ h. let e : IdRecord = record source { holder = h } in e) (sym (same one.1 (inl (λ i. (here i, one.1))))))
          | inr other ↦ inserted_other state.ids one.0 q (record source { holder = one.1 }) other ∙ is
        ])

    -- each copy is there
    pub copies_here : (state : NameState C) (list : List (ℕ × Holder)) (q : ℕ) (holder : Holder) → id_at state id.number ≡ Some source → ((n : ℕ) (h : Holder) → IsIn (n, h) list → n ≡ id.number → ⊥)
        → ((h : Holder) → IsIn (q, h) list → h ≡ holder) → IsIn (q, holder) list
        → id_at (copies_of state (Held id) list) q ≡ Some (record source { holder = holder })
    copies_here state [] q holder at apart same is = absurd is
    copies_here state (one ∷ more) q holder at apart same (inl here) =
        let next : NameState C = names.copied state id.number one.0 one.1 in
        let entry : ℕ × Holder = (q, holder) in
        let pair : entry ≡ one = here in
        copies_stay next more q holder (source_stays state one.0 one.1 at (apart one.0 one.1 (inl refl))) (λ n h among. apart n h (inr among)) (λ h among. same h (inr among))
        (ap (id_at next) (ap (λ (p : ℕ × Holder). p.0) pair)
        ∙ copied-here state id.number one.0 one.1 source at
        ∙ ap (λ (p : ℕ × Holder). let e : IdRecord = record source { holder = p.1 } in Some e) (sym pair))
    copies_here state (one ∷ more) q holder at apart same (inr there) =
        copies_here (names.copied state id.number one.0 one.1) more q holder (source_stays state one.0 one.1 at (apart one.0 one.1 (inl refl))) (λ n h among. apart n h (inr among)) (λ h among. same h (inr among)) there

    -- where an identifier comes from
    pub copies_from : (state : NameState C) (list : List (ℕ × Holder)) (q : ℕ) (entry : IdRecord) → id_at state id.number ≡ Some source → ((n : ℕ) (h : Holder) → IsIn (n, h) list → n ≡ id.number → ⊥)
        → id_at (copies_of state (Held id) list) q ≡ Some entry
        → (id_at state q ≡ Some entry) ⊎ ((h : Holder) × IsIn (q, h) list × (entry ≡ record source { holder = h }))
    copies_from state [] q entry at apart is = inl is
    copies_from state (one ∷ more) q entry at apart is =
        elim (copies_from (names.copied state id.number one.0 one.1) more q entry (source_stays state one.0 one.1 at (apart one.0 one.1 (inl refl))) (λ n h among. apart n h (inr among)) is) [
          | inl was ↦ elim (copied-from state one.0 one.1 (id_at state id.number) q entry was) [
            | inl old ↦ inl old
            | inr new ↦
                let same : new.0 ≡ source = same_some new.0 source (sym new.1 ∙ at) in
                inr (one.1, inl (λ i. (new.3 i, one.1)), new.2 ∙ ap (λ (s : IdRecord). let e : IdRecord = record s { holder = one.1 } in e) same)
          ]
          | inr new ↦ inr (new.0, inr new.1, new.2)
        ]

  pub copies_bodies : (state : NameState C) (r : Ref) (list : List (ℕ × Holder)) → (copies_of state r list).bodies ≡ state.bodies
  copies_bodies state r [] = refl
  copies_bodies state Null (one ∷ more) = copies_bodies state Null more
  copies_bodies state (Held id) (one ∷ more) =
      copies_bodies (names.copied state id.number one.0 one.1) (Held id) more ∙ bodies-with_copy state one.0 one.1 (id_at state id.number)

  -- Copies of one reference, under numbers that were free: the names grow by them. The order is of no account.
  pub grow_copies : (state : NameState C) (r : Ref) (list : List (ℕ × Holder)) → IsLiveRef state r
      → ((n : ℕ) (h : Holder) → IsIn (n, h) list → (id_at state n ≡ None) × IsOutside h)
      → GrowBy state (copies_of state r list) (IsCopyIn r list)
  grow_copies state Null list live free = subst (λ n. GrowBy state n (IsCopyIn Null list)) (sym (null_copies state list)) (grow_none state (IsCopyIn Null list))
  grow_copies state (Held id) list live free =
      let found = some_value (record_of state id) live in
      let at = naming-number state id found.0 found.1 in
      let apart : (n : ℕ) (h : Holder) → IsIn (n, h) list → n ≡ id.number → ⊥ = λ n h among same. none_not_some ((free n h among).0) (ap (id_at state) same ∙ at.0) in
      record {
        keeps = λ q entry is. copies_other id found.0 state list q at.0 apart (λ h among. none_not_some ((free q h among).0) is) ∙ is;
        bodies = copies_bodies state (Held id) list;
        from = λ q entry is. elim (copies_from id found.0 state list q entry at.0 apart is) [
          | inl was ↦ inl was
          | inr new ↦
              let holder : entry.holder ≡ new.0 = ap (λ (e : IdRecord). e.holder) new.2 in
              let owner : entry.owner ≡ id.owner = ap (λ (e : IdRecord). e.owner) new.2 ∙ at.1 in
              inr (
                (subst (λ h. IsIn (q, h) list) (sym holder) new.1, ap (λ o. Held (record { owner = o; number = q })) (sym owner)),
                subst IsOutside (sym holder) ((free q new.0 new.1).1),
                id.number,
                found.0,
                at.0,
                ap (λ (e : IdRecord). e.owner) new.2,
                ap (λ (e : IdRecord). e.body) new.2,
              )
        ];
      }

  -- and each is there, where no number has two holders
  pub copies_there : (arity : C → ℕ) (state : NameState C) (r : Ref) (list : List (ℕ × Holder)) → IsSound arity state → IsLiveRef state r
      → ((n : ℕ) (h : Holder) → IsIn (n, h) list → (id_at state n ≡ None) × IsOutside h)
      → (q : ℕ) (holder : Holder) → ((h : Holder) → IsIn (q, h) list → h ≡ holder) → IsIn (q, holder) list
      → IsCopyThere state (copies_of state r list) r q holder
  copies_there arity state Null list sound live free q holder one among = (tt, refl)
  copies_there arity state (Held id) list sound live free q holder one among =
      let found = some_value (record_of state id) live in
      let at = naming-number state id found.0 found.1 in
      let apart : (n : ℕ) (h : Holder) → IsIn (n, h) list → n ≡ id.number → ⊥ = λ n h is same. none_not_some ((free n h is).0) (ap (id_at state) same ∙ at.0) in
      copy_there arity state (copies_of state (Held id) list) id found.0 q holder sound
      (more_by state (copies_of state (Held id) list) (IsCopyIn (Held id) list) (grow_copies state (Held id) list live free))
      at.0 at.1 (copies_here id found.0 state list q holder at.0 apart one among)
