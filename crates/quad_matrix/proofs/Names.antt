-- What the search for a name finds.
use Rattle.std.proofs.Common.{◌≡◌, option_map, refl, Bool, true, false, Option, None, Some, List, [], ◌∷◌, sym, ◌∙◌, ⊎_elim, ℕ}
use Rattle.std.proofs.lemmas.Bool.{cases_Bool, cond-true, cond-false}
use Rattle.std.proofs.lemmas.Slice.Eq.{bytes_eq-Decides}
use Rattle.std.specs.Str.{bytes_eq}
use Rattle.std.specs.List.{find}
use Rattle.quad_matrix.specs.declared.kind.What.{What}
use Rattle.quad_matrix.specs.Names.{what_name, all_whats, what_of}

-- what is found passes the test
found_passes : {X : Type 0} (test : X → Bool) (xs : List X) (found : X) → find test xs ≡ Some found → test found ≡ true
found_passes test [] found e = absurd cc
found_passes test (x ∷ xs) found e =
    ⊎_elim
    (λ (passes : test x ≡ true).
    let is : Some x ≡ Some found = sym (cond-true (test x) (Some x) (find test xs) passes) ∙ e in
    let one : x ≡ found = cc in
    cc)
    (λ (other : test x ≡ false). found_passes test xs found (sym (cond-false (test x) (Some x) (find test xs) other) ∙ e))
    (cases_Bool (test x))

-- what is found has the name
pub found_by_name : (name : List ℕ) (what : What) → what_of name ≡ Some what → what_name what ≡ name
found_by_name name what e =
    (bytes_eq-Decides (what_name what) name).0 (found_passes (λ w. bytes_eq (what_name w) name) all_whats what e)

-- an option is what its item gives
pub option_map-same : {X : Type 0} (o : Option X) → option_map (λ x. x) o ≡ o
option_map-same None = refl
option_map-same (Some x) = refl
