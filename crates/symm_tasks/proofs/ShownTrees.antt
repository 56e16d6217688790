-- The trees of kinds with one input and with two, where the inputs are there.
use Rattle.std.proofs.Common.{◌≡◌, ℕ, true, List, [], ◌∷◌, map, sym, ap, ◌∙◌, arith}
use Rattle.std.proofs.lemmas.Bool.{false≢true}
use Rattle.task_types.specs.declared.inputs.Inputs.{Inputs}
use Rattle.task_types.specs.Tree.{Tree, Nothing, Root}
use Rattle.task_types.specs.Presence.{presence_of, all_present}
use Rattle.task_types.specs.Shown.{Shows, presences_in}
use Rattle.task_types.proofs.Shown.{presences_in-shown}
use Rattle.quad_matrix.specs.declared.chunk.MatChunk.{MatChunk}
use Rattle.quad_matrix.specs.declared.kind.What.{What}
use Rattle.quad_matrix.specs.declared.kind.What.TheVariants.{Assign, Add, Mul, TMul, MulT, Transpose, Join, Trace, AddNum, SAssign, SAdd, Square, RankMul, TRank, SMul, MulS, Full, SJoin, STrace}
use Rattle.quad_matrix.specs.Goals.{FitsAt}
use Rattle.quad_matrix.specs.Plans.{inputs_of}

-- what holds of one tree holds of the trees that fit a kind with one input
pub of_one : (what : What) (b h : ℕ) (P : List (Tree MatChunk) → Type 0) → inputs_of what ≡ 1 → ((x : Tree MatChunk) → P (x ∷ [])) → (trees : List (Tree MatChunk)) → FitsAt b what h trees → P trees
of_one Assign b h P e one [] fits = absurd fits
of_one Assign b h P e one (x ∷ []) fits = one x
of_one Assign b h P e one (x ∷ y ∷ trees) fits = absurd fits
of_one Add b h P e one trees fits = let other : ◌≡◌ {A = ℕ} 2 1 = e in absurd (omega arith)
of_one Mul b h P e one trees fits = let other : ◌≡◌ {A = ℕ} 2 1 = e in absurd (omega arith)
of_one TMul b h P e one trees fits = let other : ◌≡◌ {A = ℕ} 2 1 = e in absurd (omega arith)
of_one MulT b h P e one trees fits = let other : ◌≡◌ {A = ℕ} 2 1 = e in absurd (omega arith)
of_one Transpose b h P e one [] fits = absurd fits
of_one Transpose b h P e one (x ∷ []) fits = one x
of_one Transpose b h P e one (x ∷ y ∷ trees) fits = absurd fits
of_one Join b h P e one trees fits = let other : ◌≡◌ {A = ℕ} 4 1 = e in absurd (omega arith)
of_one Trace b h P e one [] fits = absurd fits
of_one Trace b h P e one (x ∷ []) fits = one x
of_one Trace b h P e one (x ∷ y ∷ trees) fits = absurd fits
of_one AddNum b h P e one trees fits = let other : ◌≡◌ {A = ℕ} 2 1 = e in absurd (omega arith)
of_one SAssign b h P e one [] fits = absurd fits
of_one SAssign b h P e one (x ∷ []) fits = one x
of_one SAssign b h P e one (x ∷ y ∷ trees) fits = absurd fits
of_one SAdd b h P e one trees fits = let other : ◌≡◌ {A = ℕ} 2 1 = e in absurd (omega arith)
of_one Square b h P e one [] fits = absurd fits
of_one Square b h P e one (x ∷ []) fits = one x
of_one Square b h P e one (x ∷ y ∷ trees) fits = absurd fits
of_one RankMul b h P e one [] fits = absurd fits
of_one RankMul b h P e one (x ∷ []) fits = one x
of_one RankMul b h P e one (x ∷ y ∷ trees) fits = absurd fits
of_one TRank b h P e one [] fits = absurd fits
of_one TRank b h P e one (x ∷ []) fits = one x
of_one TRank b h P e one (x ∷ y ∷ trees) fits = absurd fits
of_one SMul b h P e one trees fits = let other : ◌≡◌ {A = ℕ} 2 1 = e in absurd (omega arith)
of_one MulS b h P e one trees fits = let other : ◌≡◌ {A = ℕ} 2 1 = e in absurd (omega arith)
of_one Full b h P e one [] fits = absurd fits
of_one Full b h P e one (x ∷ []) fits = one x
of_one Full b h P e one (x ∷ y ∷ trees) fits = absurd fits
of_one SJoin b h P e one trees fits = let other : ◌≡◌ {A = ℕ} 3 1 = e in absurd (omega arith)
of_one STrace b h P e one [] fits = absurd fits
of_one STrace b h P e one (x ∷ []) fits = one x
of_one STrace b h P e one (x ∷ y ∷ trees) fits = absurd fits

-- and of two trees of those that fit a kind with two inputs
pub of_two : (what : What) (b h : ℕ) (P : List (Tree MatChunk) → Type 0) → inputs_of what ≡ 2 → ((x y : Tree MatChunk) → P (x ∷ y ∷ [])) → (trees : List (Tree MatChunk)) → FitsAt b what h trees → P trees
of_two Assign b h P e two trees fits = let other : ◌≡◌ {A = ℕ} 1 2 = e in absurd (omega arith)
of_two Add b h P e two [] fits = absurd fits
of_two Add b h P e two (x ∷ []) fits = absurd fits
of_two Add b h P e two (x ∷ y ∷ []) fits = two x y
of_two Add b h P e two (x ∷ y ∷ z ∷ trees) fits = absurd fits
of_two Mul b h P e two [] fits = absurd fits
of_two Mul b h P e two (x ∷ []) fits = absurd fits
of_two Mul b h P e two (x ∷ y ∷ []) fits = two x y
of_two Mul b h P e two (x ∷ y ∷ z ∷ trees) fits = absurd fits
of_two TMul b h P e two [] fits = absurd fits
of_two TMul b h P e two (x ∷ []) fits = absurd fits
of_two TMul b h P e two (x ∷ y ∷ []) fits = two x y
of_two TMul b h P e two (x ∷ y ∷ z ∷ trees) fits = absurd fits
of_two MulT b h P e two [] fits = absurd fits
of_two MulT b h P e two (x ∷ []) fits = absurd fits
of_two MulT b h P e two (x ∷ y ∷ []) fits = two x y
of_two MulT b h P e two (x ∷ y ∷ z ∷ trees) fits = absurd fits
of_two Transpose b h P e two trees fits = let other : ◌≡◌ {A = ℕ} 1 2 = e in absurd (omega arith)
of_two Join b h P e two trees fits = let other : ◌≡◌ {A = ℕ} 4 2 = e in absurd (omega arith)
of_two Trace b h P e two trees fits = let other : ◌≡◌ {A = ℕ} 1 2 = e in absurd (omega arith)
of_two AddNum b h P e two [] fits = absurd fits
of_two AddNum b h P e two (x ∷ []) fits = absurd fits
of_two AddNum b h P e two (x ∷ y ∷ []) fits = two x y
of_two AddNum b h P e two (x ∷ y ∷ z ∷ trees) fits = absurd fits
of_two SAssign b h P e two trees fits = let other : ◌≡◌ {A = ℕ} 1 2 = e in absurd (omega arith)
of_two SAdd b h P e two [] fits = absurd fits
of_two SAdd b h P e two (x ∷ []) fits = absurd fits
of_two SAdd b h P e two (x ∷ y ∷ []) fits = two x y
of_two SAdd b h P e two (x ∷ y ∷ z ∷ trees) fits = absurd fits
of_two Square b h P e two trees fits = let other : ◌≡◌ {A = ℕ} 1 2 = e in absurd (omega arith)
of_two RankMul b h P e two trees fits = let other : ◌≡◌ {A = ℕ} 1 2 = e in absurd (omega arith)
of_two TRank b h P e two trees fits = let other : ◌≡◌ {A = ℕ} 1 2 = e in absurd (omega arith)
of_two SMul b h P e two [] fits = absurd fits
of_two SMul b h P e two (x ∷ []) fits = absurd fits
of_two SMul b h P e two (x ∷ y ∷ []) fits = two x y
of_two SMul b h P e two (x ∷ y ∷ z ∷ trees) fits = absurd fits
of_two MulS b h P e two [] fits = absurd fits
of_two MulS b h P e two (x ∷ []) fits = absurd fits
of_two MulS b h P e two (x ∷ y ∷ []) fits = two x y
of_two MulS b h P e two (x ∷ y ∷ z ∷ trees) fits = absurd fits
of_two Full b h P e two trees fits = let other : ◌≡◌ {A = ℕ} 1 2 = e in absurd (omega arith)
of_two SJoin b h P e two trees fits = let other : ◌≡◌ {A = ℕ} 3 2 = e in absurd (omega arith)
of_two STrace b h P e two trees fits = let other : ◌≡◌ {A = ℕ} 1 2 = e in absurd (omega arith)

module _ (what : What) (b h : ℕ) (inputs : Inputs MatChunk) (there : all_present (presences_in inputs) ≡ true) (P : List (Tree MatChunk) → Type 0) where
  -- what holds of a tree that is there
  abbrev pub HoldsOfOne : Type 0
  HoldsOfOne =
      (c : MatChunk) (x0 x1 x2 x3 : Tree MatChunk) → FitsAt b what h (Root c x0 x1 x2 x3 ∷ []) → Shows inputs (Root c x0 x1 x2 x3 ∷ []) → P (Root c x0 x1 x2 x3 ∷ [])

  rooted : HoldsOfOne → (x : Tree MatChunk) → all_present (map presence_of (x ∷ [])) ≡ true → FitsAt b what h (x ∷ []) → Shows inputs (x ∷ []) → P (x ∷ [])
  rooted holds Nothing e fits shows = absurd (false≢true e)
  rooted holds (Root c x0 x1 x2 x3) e fits shows = holds c x0 x1 x2 x3 fits shows

  -- holds of the trees of a kind with one input
  pub one_there : inputs_of what ≡ 1 → HoldsOfOne → (trees : List (Tree MatChunk)) → FitsAt b what h trees → Shows inputs trees → P trees
  one_there one holds trees fits shows =
      of_one what b h (λ (trees : List (Tree MatChunk)). FitsAt b what h trees → Shows inputs trees → P trees) one
      (λ x fits shows. rooted holds x (ap all_present (sym (presences_in-shown inputs (x ∷ []) shows)) ∙ there) fits shows)
      trees fits fits shows

  -- what holds of two trees that are there
  abbrev pub HoldsOfTwo : Type 0
  HoldsOfTwo =
      (c : MatChunk) (x0 x1 x2 x3 : Tree MatChunk) (d : MatChunk) (y0 y1 y2 y3 : Tree MatChunk)
      → FitsAt b what h (Root c x0 x1 x2 x3 ∷ Root d y0 y1 y2 y3 ∷ []) → Shows inputs (Root c x0 x1 x2 x3 ∷ Root d y0 y1 y2 y3 ∷ [])
      → P (Root c x0 x1 x2 x3 ∷ Root d y0 y1 y2 y3 ∷ [])

  both_rooted : HoldsOfTwo → (x y : Tree MatChunk) → all_present (map presence_of (x ∷ y ∷ [])) ≡ true → FitsAt b what h (x ∷ y ∷ []) → Shows inputs (x ∷ y ∷ []) → P (x ∷ y ∷ [])
  both_rooted holds Nothing y e fits shows = absurd (false≢true e)
  both_rooted holds (Root c x0 x1 x2 x3) Nothing e fits shows = absurd (false≢true e)
  both_rooted holds (Root c x0 x1 x2 x3) (Root d y0 y1 y2 y3) e fits shows = holds c x0 x1 x2 x3 d y0 y1 y2 y3 fits shows

  -- holds of the trees of a kind with two inputs
  pub two_there : inputs_of what ≡ 2 → HoldsOfTwo → (trees : List (Tree MatChunk)) → FitsAt b what h trees → Shows inputs trees → P trees
  two_there two holds trees fits shows =
      of_two what b h (λ (trees : List (Tree MatChunk)). FitsAt b what h trees → Shows inputs trees → P trees) two
      (λ x y fits shows. both_rooted holds x y (ap all_present (sym (presences_in-shown inputs (x ∷ y ∷ []) shows)) ∙ there) fits shows)
      trees fits fits shows
