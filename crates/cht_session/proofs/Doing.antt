-- The statements that bind or end a name.
use Rattle.std.proofs.Common.{◌≡◌, ℕ, ◌+◌, true, false, not, List, [], ◌∷◌, ◌++◌, Option, Some, None, refl, sym, ap, ap₂, ◌∙◌, subst, ℤ}
use Rattle.std.specs.Prelude.{Ok, Err}
use Rattle.std.specs.FinMap as map
use Rattle.dense_def.specs.Matrix.{height}
use Rattle.dense_def.proofs.Entries.{height-made, IsMatrix-made}
use Rattle.cht_ids.specs.declared.memory.Memory.{Memory}
use Rattle.cht_ids.specs.declared.refs.Ref.{Ref}
use Rattle.cht_ids.specs.declared.refs.Ref.TheVariants.{Null, Id as HeldId}
use Rattle.cht_engine.specs.Seen.{Seen, MayMention}
use Rattle.cht_engine.specs.Calls.{IsCopied, deleted}
use Rattle.chunk_codec.specs.Spots.{side_of}
use Rattle.quad_matrix.specs.declared.chunk.MatChunk.{MatChunk}
use Rattle.quad_matrix.specs.declared.chunk.Entries.{Entries}
use Rattle.quad_matrix.specs.declared.kind.MatKind.{MatKind}
use Rattle.mm_text.specs.declared.market.Form.{Form}
use Rattle.mm_text.specs.declared.market.Market.{Market}
use Rattle.mm_text.specs.Block.{number_listed}
use Rattle.cht_script.specs.declared.script.Names.{Names}
use Rattle.cht_script.specs.declared.script.Verb.TheVariants as verb
use Rattle.cht_script.specs.declared.checked.Shape.{Shape}
use Rattle.cht_script.specs.Statements.{names_after, shape_bound}
use Rattle.cht_script.specs.Meaning.{Lists, Acts as Does, matrix_named, form_named, is_refused}
use Rattle.cht_script.specs.Reading.{name_bytes, names_of, matrix_of_market, shape_of_market, IsGoodMarket}
use Rattle.cht_session.specs.declared.held.Binding.{Binding}
use Rattle.cht_session.specs.declared.held.Held.{Held}
use Rattle.cht_session.specs.declared.operation.Operation.{Operation}
use Rattle.cht_session.specs.Forms.{IsListIn}
use Rattle.cht_session.specs.Operations.{verb_of}
use Rattle.cht_session.specs.Listed.{most_listed}
use Rattle.cht_session.specs.Bindings.{found_in, shape_found, shape_at, IsSameHeld, IsEnded}
use Rattle.cht_session.specs.Program.{Bound, known_in}
use Rattle.cht_session.specs.Held.{side_in, IsShown, IsWell}
use Rattle.cht_session.specs.Given.{IsUndone, Combines, IsReadyPair, AssignsAny, IsTraced}
use Rattle.cht_session.specs.Running.{inputs_fit, last_input, IsFitting, IsEffect, IsGoing}
use Rattle.cht_session.proofs.Asked.{nothing_done}
use Rattle.cht_session.proofs.ListedEntries.{listed_side}
use Rattle.cht_session.proofs.FormVerbs.{given_shape}
use Rattle.cht_session.proofs.Shown.{shown_same, going_undone, is_found}
use Rattle.cht_session.proofs.Effects.{one_name, two_names, IsBoundIn, IsMade, effect_same, going_same, made_effect, made_left, copy_made, operation_deed, operation_named, refused_operation, form_made, matrix_made, after_operation, pair_tested, pair_ready, pair_made, market_made, delete_effect}

-- ---- Where nothing was done

pub undone : (seen now : Seen MatChunk MatKind) (held later : Held) → IsWell seen held → IsSameHeld held later → IsUndone seen now → IsGoing seen held now later
undone seen now held later well same is = going_undone seen now held later well.0 well.1 same is

pub still : (seen : Seen MatChunk MatKind) (held later : Held) → IsWell seen held → IsSameHeld held later → IsGoing seen held seen later
still seen held later well same = undone seen seen held later well same (nothing_done seen seen well.1.idle refl)

pub not_copied : (seen now : Seen MatChunk MatKind) (r : Ref) (memory : Memory) → seen.asks ≡ map.empty → IsCopied seen now r (Err memory) → IsUndone seen now
not_copied seen now Null memory idle is = absurd is
not_copied seen now (HeldId id) memory idle is = nothing_done seen now idle is

-- ---- A copy

module _ (names : Names) (seen now : Seen MatChunk MatKind) (held room later : Held) (one : Binding) (at : Ref)
    (count : names.count ≡ 2) (same : IsSameHeld held room) (none : found_in room (name_bytes names.first) ≡ None)
    (found : found_in room (name_bytes names.second) ≡ Some one) (copied : IsCopied seen now one.at (Ok at)) where
  pub copy_done : IsBoundIn room later (name_bytes names.first) one.shape at → (line : ℕ) (env : List Bound) → IsShown seen held env
      → IsEffect env (Does line verb.Copy (names_of names)) seen held now later
  copy_done bound line env shown =
      let c = name_bytes names.first in
      let a = name_bytes names.second in
      let is = shown_same seen held room env shown same in
      let made = copy_made env line c a seen now room one at is found copied in
      let f = is_found seen room env a one is found in
      subst (λ ns. IsEffect env (Does line verb.Copy ns) seen held now later) (sym (two_names names count))
      (effect_same env (Does line verb.Copy (c ∷ a ∷ [])) seen now held room later same
      (made_effect env (Does line verb.Copy (c ∷ a ∷ [])) seen now room later c (form_named (known_in env) a) (matrix_named (known_in env) a) at one.shape is none made f.shape bound refl))

  pub copy_left : IsWell seen held → later.leaf ≡ room.leaf → later.height ≡ room.height → later.order.items ≡ room.order.items ++ at ∷ [] → IsGoing seen held now later
  copy_left well leaf levels order =
      let env = well.0 in
      let c = name_bytes names.first in
      let a = name_bytes names.second in
      let is = shown_same seen held room env well.1 same in
      going_same seen now held room later same
      (made_left env (Does 0 verb.Copy (c ∷ a ∷ [])) seen now room later c (form_named (known_in env) a) (matrix_named (known_in env) a) at is none (copy_made env 0 c a seen now room one at is found copied) leaf levels order)

pub copy_ready : (names : Names) (seen : Seen MatChunk MatKind) (held room : Held) (one : Binding) → IsWell seen held → IsSameHeld held room → (a : List ℕ)
    → found_in room a ≡ Some one → MayMention seen one.at
copy_ready names seen held room one well same a found = (is_found seen room well.0 a one (shown_same seen held room well.0 well.1 same) found).mentioned

-- ---- An operation

module _ (operation : Operation) (names : Names) (seen : Seen MatChunk MatKind) (held room : Held) (one other : Binding)
    (same : IsSameHeld held room) (shapes : IsFitting held operation names)
    (p : found_in room (name_bytes names.second) ≡ Some one) (q : found_in room (name_bytes (last_input operation names)) ≡ Some other) where
  abbrev pub a_of : List ℕ
  a_of = name_bytes names.second

  abbrev pub b_of : List ℕ
  b_of = name_bytes (last_input operation names)

  fit : inputs_fit (verb_of operation) (shape_at room a_of) (shape_at room b_of) ≡ true
  fit = ap₂ (λ x y. inputs_fit (verb_of operation) (shape_found x) (shape_found y)) (same.found a_of) (same.found b_of) ∙ shapes

  -- the goal is defined where the test is met
  pub combine_ready : IsWell seen held → IsReadyPair seen room.height operation one other
  combine_ready well = pair_ready operation well.0 seen room a_of b_of one other (shown_same seen held room well.0 well.1 same) p q fit

module _ (operation : Operation) (names : Names) (seen now : Seen MatChunk MatKind) (held room later : Held) (one other : Binding)
    (same : IsSameHeld held room) (shapes : IsFitting held operation names)
    (p : found_in room (name_bytes names.second) ≡ Some one) (q : found_in room (name_bytes (last_input operation names)) ≡ Some other)
    (at : Ref) (none : found_in room (name_bytes names.first) ≡ None) (got : Combines seen now room.height operation one other (Ok (Some at))) where
  abbrev c : List ℕ
  c = name_bytes names.first

  abbrev a : List ℕ
  a = name_bytes names.second

  abbrev b : List ℕ
  b = name_bytes (last_input operation names)

  combine_made : (line : ℕ) (env : List Bound) → IsShown seen room env
      → IsMade room.leaf room.height env (operation_deed operation line c a b) seen now (form_made operation (known_in env) a) (matrix_made operation (known_in env) a b) at
  combine_made line env is = pair_made operation env seen room a b one other is p q line c now at (fit operation names seen held room one other same shapes p q) got

  pub combine_left : IsWell seen held → later.leaf ≡ room.leaf → later.height ≡ room.height → later.order.items ≡ room.order.items ++ at ∷ [] → IsGoing seen held now later
  combine_left well leaf levels order =
      let env = well.0 in
      let is = shown_same seen held room env well.1 same in
      going_same seen now held room later same
      (made_left env (operation_deed operation 0 c a b) seen now room later c (form_made operation (known_in env) a) (matrix_made operation (known_in env) a b) at is none
      (combine_made 0 env is) leaf levels order)

module _ (operation : Operation) (names : Names) (seen now : Seen MatChunk MatKind) (held room later : Held) (one other : Binding)
    (count : names.count ≡ names_after (verb_of operation)) (same : IsSameHeld held room) (shapes : IsFitting held operation names)
    (p : found_in room (name_bytes names.second) ≡ Some one) (q : found_in room (name_bytes (last_input operation names)) ≡ Some other)
    (at : Ref) (none : found_in room (name_bytes names.first) ≡ None) (got : Combines seen now room.height operation one other (Ok (Some at))) where
  pub combine_done : (shape : Shape) → shape ≡ shape_bound (verb_of operation) one.shape other.shape
      → IsBoundIn room later (name_bytes names.first) shape at → (line : ℕ) (env : List Bound) → IsShown seen held env
      → (is_refused (known_in env) (Does line (verb_of operation) (names_of names)) ≡ false) × IsEffect env (Does line (verb_of operation) (names_of names)) seen held now later
  combine_done shape shaped bound line env shown =
      let c = name_bytes names.first in
      let a = name_bytes names.second in
      let b = name_bytes (last_input operation names) in
      let is = shown_same seen held room env shown same in
      let x = is_found seen room env a one is p in
      let y = is_found seen room env b other is q in
      let m = matrix_named (known_in env) a in
      let n = matrix_named (known_in env) b in
      let f = form_named (known_in env) a in
      let g = form_named (known_in env) b in
      let deed = operation_deed operation line c a b in
      subst (λ ns. (is_refused (known_in env) (Does line (verb_of operation) ns) ≡ false) × IsEffect env (Does line (verb_of operation) ns) seen held now later) (sym (operation_named operation names count)) (
        refused_operation operation (known_in env) line c a b ∙ ap not (sym (pair_tested operation env seen room a b one other is p q) ∙ got.0),
        effect_same env deed seen now held room later same
            (made_effect env deed seen now room later c (form_made operation (known_in env) a) (matrix_made operation (known_in env) a b) at shape is none
            (combine_made operation names seen now held room later one other same shapes p q at none got line env is)
            (shaped ∙ ap₂ (shape_bound (verb_of operation)) x.shape y.shape ∙ sym (given_shape (verb_of operation) f g m n))
            bound (after_operation operation env line c a b at)),
      )

pub combine_refused : (operation : Operation) (names : Names) (seen now : Seen MatChunk MatKind) (held room : Held) (one other : Binding)
    → names.count ≡ names_after (verb_of operation) → IsSameHeld held room
    → found_in room (name_bytes names.second) ≡ Some one → found_in room (name_bytes (last_input operation names)) ≡ Some other
    → Combines seen now room.height operation one other (Ok None) → (line : ℕ) (env : List Bound) → IsShown seen held env
    → (is_refused (known_in env) (Does line (verb_of operation) (names_of names)) ≡ true) × (now ≡ seen) × IsShown now room env
combine_refused operation names seen now held room one other count same p q got line env shown =
    let is = shown_same seen held room env shown same in
    let c = name_bytes names.first in
    let a = name_bytes names.second in
    let b = name_bytes (last_input operation names) in (
      ap (λ ns. is_refused (known_in env) (Does line (verb_of operation) ns)) (operation_named operation names count)
          ∙ refused_operation operation (known_in env) line c a b ∙ ap not (sym (pair_tested operation env seen room a b one other is p q) ∙ got.0),
      got.1,
      subst (λ (s : Seen MatChunk MatKind). IsShown s room env) (sym got.1) is,
    )

-- ---- A list

module _ (seen now : Seen MatChunk MatKind) (held room later : Held) (name : List ℕ) (market : Market) (entries : Option Entries) (at : Ref)
    (same : IsSameHeld held room) (good : IsGoodMarket (most_listed (side_in held)) market)
    (none : found_in room name ≡ None) (listed : IsListIn market.form room.leaf room.height (matrix_of_market market) entries)
    (got : AssignsAny seen now market.form entries (Ok at)) where
  abbrev values : ℕ → ℕ → ℤ
  values i j = number_listed market.form market.entries (i + 1) (j + 1)

  tall : height (matrix_of_market market) ≡ market.rows
  tall = height-made market.rows market.columns values

  listed_made : (line : ℕ) (env : List Bound) → IsMade room.leaf room.height env (Lists line name market.form (matrix_of_market market)) seen now market.form (matrix_of_market market) at
  listed_made line env =
      let m = matrix_of_market market in
      let side : side_of room.leaf room.height ≡ side_in held = ap₂ side_of same.leaf same.height in
      market_made env line name market.form m seen now room entries at (IsMatrix-made market.rows market.columns values)
      (rw (tall, side) (listed_side (side_in held) market.rows good.rows.1))
      (rw side (listed_side (side_in held) market.columns good.columns.1))
      (λ symmetric. tall ∙ good.square symmetric) listed got

  pub market_done : IsBoundIn room later name (shape_of_market market) at → (line : ℕ) (env : List Bound) → IsShown seen held env
      → IsEffect env (Lists line name market.form (matrix_of_market market)) seen held now later
  market_done bound line env shown =
      let is = shown_same seen held room env shown same in
      let deed = Lists line name market.form (matrix_of_market market) in
      effect_same env deed seen now held room later same
      (made_effect env deed seen now room later name market.form (matrix_of_market market) at (shape_of_market market) is none (listed_made line env)
      (ap (λ rows. record { rows = rows; columns = market.columns; form = market.form }) (sym tall)) bound refl)

  pub market_left : IsWell seen held → later.leaf ≡ room.leaf → later.height ≡ room.height → later.order.items ≡ room.order.items ++ at ∷ [] → IsGoing seen held now later
  market_left well leaf levels order =
      let env = well.0 in
      going_same seen now held room later same
      (made_left env (Lists 0 name market.form (matrix_of_market market)) seen now room later name market.form (matrix_of_market market) at (shown_same seen held room env well.1 same) none (listed_made 0 env) leaf levels order)

-- ---- A delete

pub delete_done : (names : Names) (seen now : Seen MatChunk MatKind) (held later : Held) (r : Ref) → names.count ≡ 1 → later.leaf ≡ held.leaf → later.height ≡ held.height
    → IsEnded held (name_bytes names.first) r later → now ≡ deleted seen r → (line : ℕ) (env : List Bound) → IsShown seen held env
    → IsEffect env (Does line verb.Delete (names_of names)) seen held now later
delete_done names seen now held later r count leaf levels ended same line env shown =
    subst (λ ns. IsEffect env (Does line verb.Delete ns) seen held now later) (sym (one_name names count))
    (delete_effect env line (name_bytes names.first) seen now held later r shown leaf levels ended same)

pub not_assigned : (seen now : Seen MatChunk MatKind) (form : Form) (entries : Option Entries) (memory : Memory) → AssignsAny seen now form entries (Err memory)
    → IsUndone seen now
not_assigned seen now form None memory is = absurd is
not_assigned seen now form (Some entries) memory is = is

-- ---- Where what is held stays

pub held_same : (held : Held) → IsSameHeld held held
held_same held = record { leaf = refl; height = refl; found = λ name. refl; order = refl }

pub stays : (seen now : Seen MatChunk MatKind) (held : Held) → IsWell seen held → IsUndone seen now → IsGoing seen held now held
stays seen now held well is = undone seen now held held well (held_same held) is

-- nothing happened
pub stays_still : (seen now : Seen MatChunk MatKind) (held : Held) → IsWell seen held → now ≡ seen → IsGoing seen held now held
stays_still seen now held well same = stays seen now held well (nothing_done seen now well.1.idle same)

pub traced_undone : (seen now : Seen MatChunk MatKind) (kind : MatKind) (at : Ref) (number : ℤ) → seen.asks ≡ map.empty → IsTraced seen now kind at number → IsUndone seen now
traced_undone seen now kind at number idle is = record { caller = is.caller; asks = is.asks ∙ idle; names = is.names }
