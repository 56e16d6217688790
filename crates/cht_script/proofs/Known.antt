-- What is kept of a name, and what was bound and deleted.
use Rattle.std.proofs.Common.{◌≡◌, ℕ, Bool, true, false, not, cond, List, [], ◌∷◌, ◌++◌, Option, None, Some, refl, sym, ap, ◌∙◌, inl, inr}
use Rattle.std.specs.Prelude.{◌||◌, is_none, option_map}
use Rattle.std.specs.Str.{bytes_eq}
use Rattle.std.proofs.lemmas.Bool.{cases_Bool, cond-true, cond-false, true≢false}
use Rattle.std.proofs.lemmas.Slice.Eq.{bytes_eq-Decides}
use Rattle.cht_script.specs.declared.checked.Shape.{Shape}
use Rattle.cht_script.specs.declared.names.KnownNames.{KnownNames}
use Rattle.cht_script.specs.Newest.{newest}
use Rattle.cht_script.specs.Verdict.{NamedShape, with_shape, has_name, is_known, shape_found, shape_in, is_among}
use Rattle.cht_script.proofs.Newest.{any_newest, newest-push}
use Rattle.cht_script.specs.Judging.{look, kept_as, kept_of, Keeps, shape_kept, was_deleted}

pub or_none : (b : Bool) → (b || false) ≡ b
or_none true = refl
or_none false = refl

-- ---- What is kept

is_none-map : {A B : Type 0} (f : A → B) (o : Option A) → is_none (option_map f o) ≡ is_none o
is_none-map f None = refl
is_none-map f (Some x) = refl

not_not : (b : Bool) → not (not b) ≡ b
not_not true = refl
not_not false = refl

pub none_kept : (known : List NamedShape) (deleted : List (List ℕ)) (name : List ℕ) → is_none (kept_of known deleted name) ≡ not (is_known known name)
none_kept known deleted name =
    is_none-map (kept_as deleted name) (newest (has_name name) known)
    ∙ (sym (not_not (is_none (newest (has_name name) known))) ∙ ap not (sym (any_newest (has_name name) known)))

shape_case : (deleted : List (List ℕ)) (name : List ℕ) (o : Option NamedShape) → shape_kept (option_map (kept_as deleted name) o) ≡ shape_found o
shape_case deleted name None = refl
shape_case deleted name (Some one) = refl

pub kept_shape : (known : List NamedShape) (deleted : List (List ℕ)) (name : List ℕ) → shape_kept (kept_of known deleted name) ≡ shape_in known name
kept_shape known deleted name = shape_case deleted name (newest (has_name name) known)

-- names that were deleted were bound
abbrev pub AreBound : List NamedShape → List (List ℕ) → Type 0
AreBound known deleted = (name : List ℕ) → is_among deleted name ≡ true → is_known known name ≡ true

deleted_case : (deleted : List (List ℕ)) (name : List ℕ) (o : Option NamedShape) → (is_among deleted name ≡ true → not (is_none o) ≡ true)
    → was_deleted (option_map (kept_as deleted name) o) ≡ is_among deleted name
deleted_case deleted name None bound =
    elim (cases_Bool (is_among deleted name)) [
      | inl really ↦ absurd (true≢false (sym (bound really)))
      | inr never ↦ sym never
    ]
deleted_case deleted name (Some one) bound = refl

pub kept_deleted : (known : List NamedShape) (deleted : List (List ℕ)) (name : List ℕ) → AreBound known deleted → was_deleted (kept_of known deleted name) ≡ is_among deleted name
kept_deleted known deleted name bound =
    deleted_case deleted name (newest (has_name name) known) (λ really. sym (any_newest (has_name name) known) ∙ bound name really)

-- ---- The start

pub none_kept_yet : (names : KnownNames) → ((name : List ℕ) → look name names ≡ None) → Keeps [] [] names
none_kept_yet names none = record { kept = none; bound = λ name never. absurd (true≢false (sym never)) }

-- ---- A name that is bound

known-push : (known : List NamedShape) (one : NamedShape) (name : List ℕ) → is_known known name ≡ true → is_known (known ++ one ∷ []) name ≡ true
known-push [] one name h = absurd (true≢false (sym h))
known-push (x ∷ known) one name h =
    elim (cases_Bool (has_name name x)) [
      | inl really ↦ rw really refl
      | inr never ↦ rw never (known-push known one name (rw never at h))
    ]

not_among : (known : List NamedShape) (deleted : List (List ℕ)) (name : List ℕ) → AreBound known deleted → is_known known name ≡ false → is_among deleted name ≡ false
not_among known deleted name bound fresh =
    elim (cases_Bool (is_among deleted name)) [
      | inl really ↦ absurd (true≢false (sym (bound name really) ∙ fresh))
      | inr never ↦ never
    ]

same_bytes : (a b : List ℕ) → bytes_eq a b ≡ true → a ≡ b
same_bytes a b h = (bytes_eq-Decides a b).0 h

pub keeps_bound : (known : List NamedShape) (deleted : List (List ℕ)) (old new : KnownNames) (name : List ℕ) (shape : Shape) → Keeps known deleted old → is_known known name ≡ false
    → ((other : List ℕ) → look other new ≡ cond (bytes_eq name other) (Some (record { shape = shape; is_deleted = false })) (look other old))
    → Keeps (known ++ with_shape shape name ∷ []) deleted new
keeps_bound known deleted old new name shape keeps fresh kept =
    let one = with_shape shape name in
    record {
      kept = λ other.
          elim (cases_Bool (bytes_eq name other)) [
            | inl same ↦
                let apart : is_among deleted other ≡ false =
                ap (is_among deleted) (sym (same_bytes name other same)) ∙ not_among known deleted name keeps.bound fresh in
                kept other ∙ (cond-true _ _ _ same
                ∙ (ap (λ b. Some (record { shape = shape; is_deleted = b })) (sym apart)
                ∙ ap (option_map (kept_as deleted other)) (sym (newest-push (has_name other) known one ∙ cond-true _ _ _ same))))
            | inr apart ↦
                kept other ∙ (cond-false _ _ _ apart ∙ (keeps.kept other
                ∙ ap (option_map (kept_as deleted other)) (sym (newest-push (has_name other) known one ∙ cond-false _ _ _ apart))))
          ];
      bound = λ other really. known-push known one other (keeps.bound other really);
    }

-- ---- A name that is deleted

among-push : (deleted : List (List ℕ)) (name other : List ℕ) → is_among (deleted ++ name ∷ []) other ≡ (is_among deleted other || bytes_eq name other)
among-push [] name other = or_none (bytes_eq name other)
among-push (x ∷ deleted) name other =
    elim (cases_Bool (bytes_eq x other)) [
      | inl really ↦ rw really refl
      | inr never ↦ rw never (among-push deleted name other)
    ]

or_true : (b : Bool) → (b || true) ≡ true
or_true true = refl
or_true false = refl

or_either : (a b : Bool) → (a || b) ≡ true → b ≡ false → a ≡ true
or_either true b h never = refl
or_either false b h never = absurd (true≢false (sym h ∙ never))

found_as : (deleted : List (List ℕ)) (name : List ℕ) (shape : Shape) (b : Bool) (o : Option NamedShape) → not (is_none o) ≡ true → shape ≡ shape_found o → is_among deleted name ≡ b
    → Some (record { shape = shape; is_deleted = b }) ≡ option_map (kept_as deleted name) o
found_as deleted name shape b None some is among = absurd (true≢false (sym some))
found_as deleted name shape b (Some one) some is among = λ i. Some (record { shape = is i; is_deleted = sym among i })

pub keeps_deleted : (known : List NamedShape) (deleted : List (List ℕ)) (old new : KnownNames) (name : List ℕ) (shape : Shape) → Keeps known deleted old → is_known known name ≡ true
    → shape ≡ shape_in known name
    → ((other : List ℕ) → look other new ≡ cond (bytes_eq name other) (Some (record { shape = shape; is_deleted = true })) (look other old))
    → Keeps known (deleted ++ name ∷ []) new
keeps_deleted known deleted old new name shape keeps there is kept = record {
  kept = λ other.
      elim (cases_Bool (bytes_eq name other)) [
        | inl same ↦
            let to = same_bytes name other same in
            kept other ∙ (cond-true _ _ _ same
            ∙ found_as (deleted ++ name ∷ []) other shape true (newest (has_name other) known)
            (sym (any_newest (has_name other) known) ∙ (ap (is_known known) (sym to) ∙ there))
            (is ∙ ap (shape_in known) to)
            (among-push deleted name other ∙ (ap (λ b. is_among deleted other || b) same ∙ or_true (is_among deleted other))))
        | inr apart ↦
            let still : is_among (deleted ++ name ∷ []) other ≡ is_among deleted other =
            among-push deleted name other ∙ (ap (λ b. is_among deleted other || b) apart ∙ or_none (is_among deleted other)) in
            kept other ∙ (cond-false _ _ _ apart ∙ (keeps.kept other
            ∙ ap (λ b. option_map (λ (one : NamedShape). record { shape = one.shape; is_deleted = b }) (newest (has_name other) known)) (sym still)))
      ];
  bound = λ other really.
      elim (cases_Bool (bytes_eq name other)) [
        | inl same ↦ ap (is_known known) (sym (same_bytes name other same)) ∙ there
        | inr apart ↦ keeps.bound other (or_either (is_among deleted other) (bytes_eq name other) (sym (among-push deleted name other) ∙ really) apart)
      ];
}
