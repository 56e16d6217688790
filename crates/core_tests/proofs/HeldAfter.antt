-- What the caller holds after each call of the tests.
use Rattle.std.proofs.Common.{◌≡◌, ℕ, ◌*◌, ◌^◌, ◌≤◌, if◌then◌else◌, false, List, [], ◌∷◌, None, Some, IsSome, Ok, refl, sym, ap, ◌∙◌, subst, arith, inl, inr, eq-eqb}
use Rattle.std.specs.Ordering.{nat_cmp}
use Rattle.std.specs.FinMap as map
use Rattle.cht_ids.specs.declared.refs.Id.{Id}
use Rattle.cht_ids.specs.declared.refs.Ref.{Ref}
use Rattle.cht_ids.specs.declared.refs.Ref.TheVariants.{Null, Id as Held}
use Rattle.dense_def.specs.Matrix.{Matrix, height, peak_of, TraceFits}
use Rattle.dense_def.proofs.Peaks.{trace_fits}
use Rattle.task_types.specs.Tree.{Tree, Nothing, Root, rooted}
use Rattle.task_states.proofs.Maps.{same_maps}
use Rattle.name_states.proofs.Basics.{same_or_not, none_not_some, inserted_here, inserted_other, removed_here, removed_other}
use Rattle.name_machine.specs.Parts.{Named}
use Rattle.name_machine.specs.Paths.{root_content}
use Rattle.cht_engine.specs.Seen.{Seen, of_owner, tree_of_named, MayMention, tree_named, IsNew, with_name}
use Rattle.cht_engine.specs.Calls.{trees_named, IsRegistered, IsCopied, deleted, IsOutput, with_output, IsAsked}
use Rattle.quad_matrix.specs.declared.chunk.Entries.{Entries}
use Rattle.quad_matrix.specs.declared.chunk.MatChunk.{MatChunk}
use Rattle.quad_matrix.specs.declared.chunk.MatChunk.TheVariants as chunk
use Rattle.quad_matrix.specs.declared.kind.MatKind.{MatKind}
use Rattle.quad_matrix.specs.declared.kind.What.TheVariants.{Assign, Trace}
use Rattle.quad_matrix.specs.Spots.{AreSoundEntries}
use Rattle.quad_matrix.specs.Blocks.{block_of, IsCanonical}
use Rattle.quad_matrix.specs.Goals.{kind_of, goal_of, IsList, IsDefined}
use Rattle.quad_matrix.specs.Matrices.{matrices}
use Rattle.quad_matrix.proofs.ForOthers.{assign_canonical, goal_any, tree_peak, peak_of_tree}
use Rattle.core_tests.specs.Holdings.{one_name, HoldsNothing, HoldsOne, HoldsTwo, HoldsList, HoldsMatrix, HasSmallPeak}

-- ---- Names

module _ {X : Type 0} where
  -- a new name that goes leaves what was there
  gone : (m : map.FinMap nat_cmp X) (k : ℕ) (x : X) → map.get m k ≡ None → map.remove (map.insert m k x) k ≡ m
  gone m k x new =
      same_maps (map.remove (map.insert m k x) k) m (λ q. elim (same_or_not q k) [
        | inl same ↦ removed_here (map.insert m k x) k q same ∙ sym (ap (map.get m) same ∙ new)
        | inr apart ↦ removed_other (map.insert m k x) k q apart ∙ inserted_other m k q x apart
      ])

  -- the first of two names goes
  first_gone : (i k : ℕ) (x y : X) → (k ≡ i → ⊥) → map.remove (map.insert (map.insert {R = nat_cmp} map.empty i x) k y) i ≡ map.insert map.empty k y
  first_gone i k x y apart =
      let one : map.FinMap nat_cmp X = map.insert map.empty i x in
      same_maps (map.remove (map.insert one k y) i) (map.insert map.empty k y) (λ q. elim (same_or_not q i) [
        | inl here ↦
            removed_here (map.insert one k y) i q here
            ∙ sym (inserted_other map.empty k q y (λ at. apart (sym at ∙ here)) ∙ map.get-empty nat_cmp q)
        | inr other ↦ removed_other (map.insert one k y) i q other ∙ elim (same_or_not q k) [
          | inl at ↦ inserted_here one k q y y at refl ∙ sym (inserted_here map.empty k q y y at refl)
          | inr far ↦
              inserted_other one k q y far ∙ inserted_other map.empty i q x other ∙ sym (inserted_other map.empty k q y far)
        ]
      ])

-- what stands under a number is its owner's
owned : (owner : ℕ) (tree : Tree MatChunk) → IsSome (of_owner owner (Some (record { owner = owner; tree = tree })))
owned owner tree =
    subst (λ b. IsSome {T = Named MatChunk} (if b then Some (record { owner = owner; tree = tree }) else None)) (sym (eq-eqb owner owner refl)) refl

mentioned : (seen : Seen MatChunk MatKind) (id : Id) (tree : Tree MatChunk) → map.get seen.names id.number ≡ Some (record { owner = id.owner; tree = tree })
    → MayMention seen (Held id)
mentioned seen id tree at = subst (λ o. IsSome (of_owner id.owner o)) (sym at) (owned id.owner tree)

-- ---- What is held

-- where a tree has one name, the name is of that tree
named_one : (seen : Seen MatChunk MatKind) (r : Ref) (tree : Tree MatChunk) → seen.names ≡ one_name r tree → (r ≡ Null → tree ≡ Nothing) → tree_named seen r ≡ tree
named_one seen Null tree is null = sym (null refl)
named_one seen (Held id) tree is null =
    ap (λ m. tree_of_named (map.get m id.number)) is ∙ ap tree_of_named (inserted_here map.empty id.number id.number _ _ refl refl)

held_one : (seen : Seen MatChunk MatKind) (r : Ref) (tree : Tree MatChunk) → seen.names ≡ one_name r tree → (r ≡ Null → tree ≡ Nothing) → HoldsOne seen r
held_one seen r tree is null = is ∙ ap (one_name r) (sym (named_one seen r tree is null))

-- what is held hangs on the names alone
held_still : (seen other : Seen MatChunk MatKind) (r : Ref) → seen.names ≡ other.names → HoldsOne other r → HoldsOne seen r
held_still seen other Null same holds = same ∙ holds
held_still seen other (Held id) same holds =
    same ∙ holds ∙ ap (λ m. map.insert map.empty id.number (record { owner = id.owner; tree = tree_of_named (map.get m id.number) })) (sym same)

-- what is held may be mentioned
pub may_mention : (seen : Seen MatChunk MatKind) (r : Ref) → HoldsOne seen r → MayMention seen r
may_mention seen Null holds = tt
may_mention seen (Held id) holds =
    mentioned seen id (tree_named seen (Held id)) (ap (λ m. map.get m id.number) holds ∙ inserted_here map.empty id.number id.number _ _ refl refl)

-- once it is deleted, nothing is held
pub nothing_left : (before after : Seen MatChunk MatKind) (r : Ref) → HoldsOne before r → after ≡ deleted before r → HoldsNothing after
nothing_left before after Null holds is = ap (λ seen. seen.names) is ∙ holds
nothing_left before after (Held id) holds is =
    ap (λ seen. seen.names) is ∙ ap (λ m. map.remove m id.number) holds ∙ gone map.empty id.number _ (map.get-empty nat_cmp id.number)

-- a new name beside it
beside : (before after : Seen MatChunk MatKind) (first : Ref) (id : Id) (tree : Tree MatChunk) → IsNew before id → after.names ≡ (with_name before id tree).names
    → HoldsOne before first → HoldsTwo after first (Held id)
beside before after first id tree new names holds = record {
  mention = mentioned after id tree (ap (λ m. map.get m id.number) names ∙ inserted_here before.names id.number id.number _ _ refl refl);
  one = held_still (deleted after (Held id)) before first (ap (λ m. map.remove m id.number) names ∙ gone before.names id.number _ new) holds;
}

-- the same where null came
beside_null : (before after : Seen MatChunk MatKind) (first : Ref) → after.names ≡ before.names → HoldsOne before first → HoldsTwo after first Null
beside_null before after first names holds = record { mention = tt; one = held_still after before first names holds }

-- ---- Outputs

module _ (before : Seen MatChunk MatKind) where
  null_output : (output : Tree MatChunk) (r : Ref) → IsOutput before output r → r ≡ Null → output ≡ Nothing
  null_output Nothing r is null = refl
  null_output (Root content a b c d) Null is null = absurd is
  null_output (Root content a b c d) (Held id) is null = absurd (cc)

  -- an output is held beside what was held
  output_beside : (after : Seen MatChunk MatKind) (output : Tree MatChunk) (r first : Ref) → IsOutput before output r → after.names ≡ (with_output before r output).names
      → HoldsOne before first → HoldsTwo after first r
  output_beside after output Null first is names holds = beside_null before after first names holds
  output_beside after Nothing (Held id) first is names holds = absurd is
  output_beside after (Root content a b c d) (Held id) first is names holds = beside before after first id (Root content a b c d) is names holds

  -- beside it what was held may be mentioned
  beside_output : (after : Seen MatChunk MatKind) (output : Tree MatChunk) (r : Ref) (id : Id) → HoldsOne before (Held id) → IsOutput before output r
      → after.names ≡ (with_output before r output).names → MayMention after (Held id)
  beside_output after output Null id holds is names =
      may_mention after (Held id) (held_still after before (Held id) names holds)
  beside_output after Nothing (Held new) id holds is names = absurd is
  beside_output after (Root content a b c d) (Held new) id holds is names =
      let there : map.get before.names id.number ≡ Some (record { owner = id.owner; tree = tree_named before (Held id) }) =
      ap (λ m. map.get m id.number) holds ∙ inserted_here map.empty id.number id.number _ _ refl refl in
      let apart : id.number ≡ new.number → ⊥ = λ same. none_not_some (ap (map.get before.names) same ∙ is) there in
      mentioned after id (tree_named before (Held id)) (ap (λ m. map.get m id.number) names ∙ inserted_other before.names new.number id.number _ apart ∙ there)

  -- once that is deleted, the output alone is held
  output_left : (after : Seen MatChunk MatKind) (output : Tree MatChunk) (r : Ref) (id : Id) → HoldsOne before (Held id) → IsOutput before output r
      → after.names ≡ (with_output before r output).names → (deleted after (Held id)).names ≡ one_name r output
  output_left after output Null id holds is names =
      ap (λ m. map.remove m id.number) (names ∙ holds) ∙ gone map.empty id.number _ (map.get-empty nat_cmp id.number)
  output_left after Nothing (Held new) id holds is names = absurd is
  output_left after (Root content a b c d) (Held new) id holds is names =
      let there : map.get before.names id.number ≡ Some (record { owner = id.owner; tree = tree_named before (Held id) }) =
      ap (λ m. map.get m id.number) holds ∙ inserted_here map.empty id.number id.number _ _ refl refl in
      let apart : new.number ≡ id.number → ⊥ = λ same. none_not_some (ap (map.get before.names) (sym same) ∙ is) there in
      ap (λ m. map.remove m id.number) (names ∙ ap (λ m. map.insert m new.number (record { owner = new.owner; tree = Root content a b c d })) holds)
      ∙ first_gone id.number new.number _ _ apart

-- ---- The calls

module _ (before after : Seen MatChunk MatKind) where
  -- a list was registered
  pub list_registered : (entries : Entries) (id : Id) → HoldsNothing before → AreSoundEntries 2 1 false entries → IsRegistered before after (chunk.Entries entries) [] (Ok id)
      → HoldsList after id
  list_registered entries id none sound is =
      let tree : Tree MatChunk = rooted (chunk.Entries entries) [] in
      let names : after.names ≡ one_name (Held id) tree =
      ap (λ seen. seen.names) is.1 ∙ ap (λ m. map.insert m id.number (record { owner = id.owner; tree = tree })) none in
      record {
        one = held_one after (Held id) tree names (λ null. absurd (cc));
        list = subst (IsList 2 1 false) (sym (named_one after (Held id) tree names (λ null. absurd (cc)))) (sound, refl, refl, refl, refl);
      }

  -- a content without children was registered
  pub content_registered : (content : MatChunk) (id : Id) → HoldsNothing before → IsRegistered before after content [] (Ok id) → HoldsOne after (Held id)
  content_registered content id none is =
      let tree : Tree MatChunk = rooted content [] in
      held_one after (Held id) tree (ap (λ seen. seen.names) is.1 ∙ ap (λ m. map.insert m id.number (record { owner = id.owner; tree = tree })) none) (λ null. absurd (cc))

  -- a copy is held beside what was copied
  pub copied_beside : (r to : Ref) → HoldsOne before r → IsCopied before after r (Ok to) → HoldsTwo after r to
  copied_beside Null Null holds is = beside_null before after Null (ap (λ seen. seen.names) is) holds
  copied_beside Null (Held to) holds is = absurd is
  copied_beside (Held id) Null holds is = absurd is
  copied_beside (Held id) (Held to) holds is =
      beside before after (Held id) to (tree_named before (Held id)) is.0 (ap (λ seen. seen.names) is.1) holds

  -- and names the same
  pub copied_same : (r to : Ref) → IsCopied before after r (Ok to) → tree_named after to ≡ tree_named before r
  copied_same Null Null is = refl
  copied_same Null (Held to) is = absurd is
  copied_same (Held id) Null is = absurd is
  copied_same (Held id) (Held to) is =
      ap (λ seen. tree_of_named (map.get seen.names to.number)) is.1 ∙ ap tree_of_named (inserted_here before.names to.number to.number _ _ refl refl)

  -- the block of a list may be asked for
  pub assign_defined : (id : Id) → HoldsList before id → IsDefined (kind_of Assign 1) (trees_named before (Held id ∷ []))
  assign_defined id holds = record { low = omega arith; leaf = 2; leaf_high = omega arith; fits = holds.list }

  module _ (kind : MatKind) (inputs : List Ref) (r : Ref) (is : IsAsked matrices before after kind inputs (Ok r)) where
    names_asked : after.names ≡ (with_output before r (goal_of kind (trees_named before inputs))).names
    names_asked = ap (λ seen. seen.names) is.2

    -- after an ask its output is held beside what was held
    pub asked_beside : (first : Ref) → HoldsOne before first → HoldsTwo after first r
    asked_beside first holds = output_beside before after (goal_of kind (trees_named before inputs)) r first is.0 names_asked holds

  -- after an ask the list is held still
  pub list_still : (id : Id) (r : Ref) → HoldsList before id → IsAsked matrices before after (kind_of Assign 1) (Held id ∷ []) (Ok r) → MayMention after (Held id)
  list_still id r holds is =
      beside_output before after (goal_of (kind_of Assign 1) (trees_named before (Held id ∷ []))) r id holds.one is.0 (names_asked (kind_of Assign 1) (Held id ∷ []) r is)

  -- once it is deleted, its matrix alone is held
  pub matrix_assigned : (last : Seen MatChunk MatKind) (id : Id) (r : Ref) → HoldsList before id → IsAsked matrices before after (kind_of Assign 1) (Held id ∷ []) (Ok r)
      → last ≡ deleted after (Held id) → HoldsMatrix last r
  matrix_assigned last id r holds is left =
      let list : Tree MatChunk = tree_named before (Held id) in
      let goal : Tree MatChunk = goal_of (kind_of Assign 1) (list ∷ []) in
      let names : last.names ≡ one_name r goal =
      ap (λ seen. seen.names) left ∙ output_left before after goal r id holds.one is.0 (names_asked (kind_of Assign 1) (Held id ∷ []) r is) in
      let matrix : IsCanonical 2 1 goal =
      subst (IsCanonical 2 1) (sym (goal_any 2 Assign 1 (list ∷ []) holds.list)) (assign_canonical 2 1 list holds.list) in
      record {
        one = held_one last r goal names (null_output before goal r is.0);
        matrix = subst (IsCanonical 2 1) (sym (named_one last r goal names (null_output before goal r is.0))) matrix;
      }

-- four times a small number is small
few_times : (n p : ℕ) → n ≡ 4 → p ≤ 2 ^ 62 → n * p ≤ 2 ^ 126
few_times n p four small = subst (λ n. n * p ≤ 2 ^ 126) (sym four) (omega (arith, small))

small_peak : (tree : Tree MatChunk) → HasSmallPeak (root_content tree) → tree_peak tree ≤ 2 ^ 62
small_peak Nothing small = omega arith
small_peak (Root content a b c d) small = small

-- the trace of a matrix whose peak is small may be asked for
pub trace_defined : (seen : Seen MatChunk MatKind) (r : Ref) → HoldsMatrix seen r → HasSmallPeak (root_content (tree_named seen r))
    → IsDefined (kind_of Trace 1) (trees_named seen (r ∷ []))
trace_defined seen r holds small =
    let tree : Tree MatChunk = tree_named seen r in
    let block : Matrix = block_of 2 1 tree in
    let peak : peak_of block ≤ 2 ^ 62 = subst (λ p. p ≤ 2 ^ 62) (peak_of_tree 2 1 tree holds.matrix) (small_peak tree small) in
    let fits : TraceFits block = trace_fits block (holds.matrix.sized.tall ∙ sym holds.matrix.sized.wide) (few_times (height block) (peak_of block) holds.matrix.sized.tall peak) in
    record { low = omega arith; leaf = 2; leaf_high = omega arith; fits = (holds.matrix, fits) }

-- once the second of two is deleted, the first alone is held
pub first_left : (before after : Seen MatChunk MatKind) (first second : Ref) → HoldsTwo before first second → after ≡ deleted before second → HoldsOne after first
first_left before after first second holds is = subst (λ seen. HoldsOne seen first) (sym is) holds.one
