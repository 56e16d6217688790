-- The statements of a script, one after another.
use Rattle.std.proofs.Common.{◌≡◌, ℕ, ◌+◌, ◌<◌, ◌≤◌, true, false, cond, List, [], ◌∷◌, ◌++◌, length, drop, Option, None, Some, refl, sym, ap, ap₂, ◌∙◌, subst, subst₂, arith, append_assoc, append-nil, inl, inr}
use Rattle.std.specs.Prelude.{map as each, slice_index_or, Ok, Err, option_map}
use Rattle.std.specs.FinMap as map
use Rattle.std.proofs.lemmas.List.{drop_more}
use Rattle.cht_io.specs.Bytes.{Adds, AddsFront}
use Rattle.cht_io.proofs.Adds.{Adds_nil, Adds_then, AddsFront_then, AddsFront_more, AddsFront_whole}
use Rattle.cht_ids.specs.declared.refs.Id.{Id}
use Rattle.cht_ids.specs.declared.refs.Ref.{Ref}
use Rattle.cht_history.specs.declared.event.Event.{Event}
use Rattle.cht_history.specs.declared.event.Event.TheVariants.{Delete as DeleteEvent}
use Rattle.cht_engine.specs.Seen.{Seen}
use Rattle.chunk_codec.specs.Spots.{side_of}
use Rattle.quad_matrix.specs.declared.chunk.MatChunk.{MatChunk}
use Rattle.quad_matrix.specs.declared.kind.MatKind.{MatKind}
use Rattle.cht_script.specs.declared.checked.Step.{Step}
use Rattle.cht_script.specs.declared.script.Names.{Names}
use Rattle.cht_script.specs.declared.script.Statement as statement
use Rattle.cht_script.specs.declared.script.Statement.TheVariants as statements
use Rattle.cht_script.specs.declared.script.Verb.{Verb}
use Rattle.cht_script.specs.declared.script.Verb.TheVariants as verb
use Rattle.cht_script.specs.Newest.{newest}
use Rattle.cht_script.specs.Statements.{Act, names_after, general, shapes_fit, is_square}
use Rattle.std.specs.List.{list_all, list_any}
use Rattle.cht_script.specs.Verdict.{NamedShape, is_known, shape_in, is_among}
use Rattle.cht_script.specs.Meaning.{Known, Deed, Lists, Acts as Does, is_named, matrix_found, form_found, is_refused, left_by, bound_by, known_by, text_by, Told, after_text, told_by, line_of}
use Rattle.cht_script.specs.Reading.{deed_of, names_of, name_bytes, IsFormed}
use Rattle.cht_script.specs.Checking.{said_by, known_behind, deleted_behind, IsSound, AreSteps, deed_in}
use Rattle.cht_session.specs.declared.ended.Ended.{Ended}
use Rattle.cht_session.specs.declared.ended.Ended.TheVariants as ends
use Rattle.cht_session.specs.declared.stop.Stop.{Stop}
use Rattle.cht_session.specs.declared.stop.Stop.TheVariants as stops
use Rattle.cht_session.specs.declared.held.Binding.{Binding}
use Rattle.cht_session.specs.declared.held.Held.{Held}
use Rattle.cht_session.specs.Forms.{shape_of}
use Rattle.cht_session.specs.Listed.{most_listed}
use Rattle.cht_session.specs.Bindings.{found_in, shape_found, shape_at}
use Rattle.cht_session.specs.Program.{Bound, known_in, is_bound_as, references, identifiers, with_reference, left_after, env_after, deletes, AreOfDeed, IsProgram, done_of}
use Rattle.cht_session.specs.Works.{work_by, works_by}
use Rattle.cht_session.specs.Held.{side_in, Finds, IsShown, IsWell, IsLeft}
use Rattle.cht_session.specs.Running.{shape_named, Agree, inputs_fit, AreFitting, IsReadyAct, IsReady, ActsOn, too_great, Stops, Ran, IsRunTo, HasRunTo}
use Rattle.cht_session.proofs.Bindings.{known_newest, known_append, known_left, finds_nothing}
use Rattle.cht_session.proofs.Shown.{is_found, shown_left}
use Rattle.cht_session.proofs.Tests.{both}
use Rattle.cht_session.proofs.Agreeing.{agree_next, agree_nothing, one_input, two_inputs, wider_market}
use Rattle.cht_session.proofs.Effects.{one_name, two_names, three_names}
use Rattle.name_states.proofs.Basics.{none_not_some}

-- ---- Shapes

-- the shape and form that are held of a name are those of the matrix that it means
pub shape_held : (seen : Seen MatChunk MatKind) (held : Held) (env : List Bound) (name : List ℕ) → IsShown seen held env
    → shape_at held name ≡ shape_named (known_in env) name
shape_held seen held env name is = case (found_in held name) refl
  where
    case : (o : Option Binding) → found_in held name ≡ o → shape_at held name ≡ shape_named (known_in env) name
    case None at =
        let none = finds_nothing (found_in held name) (newest (is_bound_as name) env) at (is.names name) in
        let known : newest (is_named name) (known_in env) ≡ None = known_newest name env ∙ ap (option_map (λ (one : Bound). one.known)) none in
        ap shape_found at ∙ ap (λ o. shape_of (form_found o) (matrix_found o)) (sym known)
    case (Some one) at = (is_found seen held env name one is at).shape_seen

module _ (seen : Seen MatChunk MatKind) (held : Held) (env : List Bound) (shapes : List NamedShape) (deleted : List (List ℕ)) (shows : IsShown seen held env)
    (agree : Agree (known_in env) shapes deleted) where
  abbrev known : List Known
  known = known_in env

  -- the shapes and forms of two names that are bound
  pair_ready : (verb : Verb) (a b : List ℕ) → list_all (is_known shapes) (a ∷ b ∷ []) ≡ true → list_any (is_among deleted) (a ∷ b ∷ []) ≡ false
      → inputs_fit verb (shape_in shapes a) (shape_in shapes b) ≡ true → AreFitting held verb a b
  pair_ready verb a b bound left fits =
      let given = two_inputs known shapes deleted a b agree bound left in
      ap₂ (inputs_fit verb) (shape_held seen held env a shows ∙ given.0) (shape_held seen held env b shows ∙ given.1) ∙ fits

  -- those of one
  single_ready : (verb : Verb) (a : List ℕ) → list_all (is_known shapes) (a ∷ []) ≡ true → list_any (is_among deleted) (a ∷ []) ≡ false
      → inputs_fit verb (shape_in shapes a) (shape_in shapes a) ≡ true → AreFitting held verb a a
  single_ready verb a bound left fits =
      let given = shape_held seen held env a shows ∙ one_input known shapes deleted a agree bound left in
      ap₂ (inputs_fit verb) given given ∙ fits

  trace_ready : (a : List ℕ) → IsSound shapes deleted (Act verb.Trace (a ∷ [])) → is_square (shape_at held a) ≡ true
  trace_ready a sound =
      ap is_square (shape_held seen held env a shows ∙ one_input known shapes deleted a agree sound.bound sound.left)
      ∙ (both (shapes_fit verb.Trace (shape_in shapes a) (general 0 0)) true sound.fit).0

  act_ready : (verb : Verb) (names : Names) → names.count ≡ names_after verb → IsSound shapes deleted (Act verb (names_of names)) → IsReadyAct held verb names
  act_ready verb.Copy names count sound = tt
  act_ready verb.Add names count sound =
      let is = subst (λ ns. IsSound shapes deleted (Act verb.Add ns)) (three_names names count) sound in
      pair_ready verb.Add (name_bytes names.second) (name_bytes names.third) is.bound is.left is.fit
  act_ready verb.Mul names count sound =
      let is = subst (λ ns. IsSound shapes deleted (Act verb.Mul ns)) (three_names names count) sound in
      pair_ready verb.Mul (name_bytes names.second) (name_bytes names.third) is.bound is.left is.fit
  act_ready verb.TMul names count sound =
      let is = subst (λ ns. IsSound shapes deleted (Act verb.TMul ns)) (three_names names count) sound in
      pair_ready verb.TMul (name_bytes names.second) (name_bytes names.third) is.bound is.left is.fit
  act_ready verb.MulT names count sound =
      let is = subst (λ ns. IsSound shapes deleted (Act verb.MulT ns)) (three_names names count) sound in
      pair_ready verb.MulT (name_bytes names.second) (name_bytes names.third) is.bound is.left is.fit
  act_ready verb.Square names count sound =
      let is = subst (λ ns. IsSound shapes deleted (Act verb.Square ns)) (two_names names count) sound in
      single_ready verb.Square (name_bytes names.second) is.bound is.left is.fit
  act_ready verb.Full names count sound =
      let is = subst (λ ns. IsSound shapes deleted (Act verb.Full ns)) (two_names names count) sound in
      single_ready verb.Full (name_bytes names.second) is.bound is.left is.fit
  act_ready verb.Trace names count sound =
      trace_ready (name_bytes names.first) (subst (λ ns. IsSound shapes deleted (Act verb.Trace ns)) (one_name names count) sound)
  act_ready verb.Count names count sound = tt
  act_ready verb.Print names count sound = tt
  act_ready verb.Delete names count sound = tt

statement_ready : (grid : ℕ) (seen : Seen MatChunk MatKind) (held : Held) (env : List Bound) (shapes : List NamedShape) (deleted : List (List ℕ)) (one : statement.Statement)
    → grid ≤ most_listed (side_in held) → IsFormed grid one → IsSound shapes deleted (said_by (deed_of one))
    → IsShown seen held env → Agree (known_in env) shapes deleted → IsReady held one
statement_ready grid seen held env shapes deleted (statements.Market line to market) wide formed sound shows agree =
    wider_market grid (most_listed (side_in held)) wide market formed
statement_ready grid seen held env shapes deleted (statements.Act line verb names) wide formed sound shows agree =
    (formed.0, act_ready seen held env shapes deleted shows agree verb names formed.0 sound)

-- ---- Names behind a statement

known_given : (r : Ref) (ks : List Known) → known_in (each (with_reference r) ks) ≡ ks
known_given r [] = refl
known_given r (k ∷ ks) = ap (λ (ks : List Known). k ∷ ks) (known_given r ks)

left_known : (deed : Deed) (env : List Bound) → known_in (left_after deed env) ≡ left_by (known_in env) deed
left_known (Lists n name form m) env = refl
left_known (Does n verb.Copy names) env = refl
left_known (Does n verb.Add names) env = refl
left_known (Does n verb.Mul names) env = refl
left_known (Does n verb.TMul names) env = refl
left_known (Does n verb.MulT names) env = refl
left_known (Does n verb.Square names) env = refl
left_known (Does n verb.Full names) env = refl
left_known (Does n verb.Trace names) env = refl
left_known (Does n verb.Count names) env = refl
left_known (Does n verb.Print names) env = refl
left_known (Does n verb.Delete []) env = refl
left_known (Does n verb.Delete (name ∷ names)) env = known_left name env

pub known_after : (env : List Bound) (deed : Deed) (r : Ref) → known_in (env_after env deed r) ≡ known_by (known_in env) deed
known_after env deed r =
    known_append (left_after deed env) (each (with_reference r) (bound_by (known_in env) deed))
    ∙ ap₂ (λ (xs ys : List Known). xs ++ ys) (left_known deed env) (known_given r (bound_by (known_in env) deed))

-- ---- A run

-- in the middle of a run: what was done, the shapes that were told of the names, and what is known of the statements that are left
pub record IsUnderway (grid b h : ℕ) (all rest : List Step) (before now : Seen MatChunk MatKind) (held : Held) (taken took : Option (List ℕ)) : Type 0 where
  pub env : List Bound
  pub shapes : List NamedShape
  pub deleted : List (List ℕ)
  pub text : List ℕ
  pub told : told_by [] (each deed_in all) ≡ after_text text (told_by (known_in env) (each deed_in rest))
  pub wrote : Adds taken text took
  pub shown : IsShown now held env
  pub leaf : held.leaf ≡ b
  pub height : held.height ≡ h
  pub agree : Agree (known_in env) shapes deleted
  pub steps : AreSteps grid shapes deleted rest
  pub caller : now.caller ≡ before.caller
  pub events : List (Event MatKind)
  pub came : now.events ≡ before.events ++ events
  pub program : (later : List (Event MatKind)) → IsProgram before.caller h env (done_of (known_in env) (each deed_in rest)) later
      → IsProgram before.caller h [] (done_of [] (each deed_in all)) (events ++ later)
  pub account : now.account + works_by b h (known_in env) (done_of (known_in env) (each deed_in rest))
      ≡ before.account + works_by b h [] (done_of [] (each deed_in all))

-- a statement of a list in front of those behind it
pub next_step : (all : List Step) (i : ℕ) (one : Step) → i < length all → one ≡ slice_index_or all i one
    → drop i all ≡ one ∷ drop (i + 1) all
next_step all i one lt is = drop_more all i one lt ∙ ap (λ s. s ∷ drop (i + 1) all) (sym is)

pub underway_begins : (grid b h : ℕ) (all : List Step) (before : Seen MatChunk MatKind) (held : Held) (taken : Option (List ℕ))
    → before.names ≡ map.empty → before.asks ≡ map.empty → ((name : List ℕ) → found_in held name ≡ None) → held.order.items ≡ []
    → held.leaf ≡ b → held.height ≡ h → 1 ≤ b → b ≤ 64 → h ≤ 16
    → AreSteps grid [] [] all → IsUnderway grid b h all all before before held taken taken
underway_begins grid b h all before held taken empty idle none order leaf levels low high few steps = record {
  env = [];
  shapes = [];
  deleted = [];
  text = [];
  told = refl;
  wrote = Adds_nil taken;
  shown = record {
    leaf_low = rw leaf low;
    leaf_high = rw leaf high;
    low = rw levels few;
    names = λ name. subst (λ o. Finds o None) (sym (none name)) tt;
    ordered = record {
      stands = λ name one e. absurd (none_not_some (none name) e);
      apart = λ a c one other e f same. absurd (none_not_some (none a) e);
    };
    order = ap identifiers order;
    sound = λ name. tt;
    kept = empty;
    idle = idle;
  };
  leaf = leaf;
  height = levels;
  agree = agree_nothing;
  steps = steps;
  caller = refl;
  events = [];
  came = sym (append-nil before.events);
  program = λ later p. p;
  account = refl;
}

told_more : (text more : List ℕ) (told : Told) → after_text text (after_text more told) ≡ after_text (text ++ more) told
told_more text more told = ap (λ t. record told { text = t }) (sym (append_assoc text more told.text))

told_next : (known : List Known) (deed : Deed) (deeds : List Deed) → is_refused known deed ≡ false
    → told_by known (deed ∷ deeds) ≡ after_text (text_by known deed) (told_by (known_by known deed) deeds)
told_next known deed deeds e =
    ap (λ b. cond b (record { text = []; refused = Some (line_of deed) }) (after_text (text_by known deed) (told_by (known_by known deed) deeds))) e

told_refused : (known : List Known) (deed : Deed) (deeds : List Deed) → is_refused known deed ≡ true
    → told_by known (deed ∷ deeds) ≡ record { text = []; refused = Some (line_of deed) }
told_refused known deed deeds e =
    ap (λ b. cond b (record { text = []; refused = Some (line_of deed) }) (after_text (text_by known deed) (told_by (known_by known deed) deeds))) e

done_next : (known : List Known) (deed : Deed) (deeds : List Deed) → is_refused known deed ≡ false → done_of known (deed ∷ deeds) ≡ deed ∷ done_of (known_by known deed) deeds
done_next known deed deeds e = ap (λ b. cond b [] (deed ∷ done_of (known_by known deed) deeds)) e

done_refused : (known : List Known) (deed : Deed) (deeds : List Deed) → is_refused known deed ≡ true → done_of known (deed ∷ deeds) ≡ []
done_refused known deed deeds e = ap (λ b. cond b [] (deed ∷ done_of (known_by known deed) deeds)) e

deletes_same : (caller : ℕ) (xs ys : List Ref) → identifiers xs ≡ identifiers ys → deletes caller xs ≡ deletes caller ys
deletes_same caller xs ys e = ap (λ (ids : List Id). each (DeleteEvent caller) ids) e

module _ (grid b h : ℕ) (all : List Step) (before : Seen MatChunk MatKind) (taken : Option (List ℕ)) where
  pub underway_ready : (step : Step) (others : List Step) (now : Seen MatChunk MatKind) (held : Held) (took : Option (List ℕ))
      → grid ≤ most_listed (side_of b h) → IsUnderway grid b h all (step ∷ others) before now held taken took → IsReady held step.statement
  underway_ready step others now held took wide is =
      statement_ready grid now held is.env is.shapes is.deleted step.statement
      (subst₂ (λ l k. grid ≤ most_listed (side_of l k)) (sym is.leaf) (sym is.height) wide)
      is.steps.0.formed is.steps.0.sound is.shown is.agree

  pub underway_well : (rest : List Step) (now : Seen MatChunk MatKind) (held : Held) (took : Option (List ℕ)) → IsUnderway grid b h all rest before now held taken took → IsWell now held
  underway_well rest now held took is = (is.env, is.shown)

  -- one more statement took effect
  pub underway_next : (step : Step) (others : List Step) (now after : Seen MatChunk MatKind) (held later : Held) (took take : Option (List ℕ)) (done : Unit {0})
      → IsUnderway grid b h all (step ∷ others) before now held taken took
      → ActsOn (deed_of step.statement) (Ok done) now held after later took take
      → IsUnderway grid b h all others before after later taken take
  underway_next step others now after held later took take done is acts =
      let deed = deed_in step in
      let rest = each deed_in others in
      let known = known_in is.env in
      let act = acts is.env is.shown in
      let effect = act.1 in
      let next = env_after is.env deed effect.at in
      let same = known_after is.env deed effect.at in
      let done_is : done_of known (deed ∷ rest) ≡ deed ∷ done_of (known_in next) rest = done_next known deed rest act.0 ∙ ap (λ ks. deed ∷ done_of ks rest) (sym same) in
      record {
        env = next;
        shapes = known_behind is.shapes deed;
        deleted = deleted_behind is.deleted deed;
        text = is.text ++ text_by known deed;
        told =
            is.told ∙ ap (after_text is.text) (told_next known deed rest act.0) ∙ told_more is.text (text_by known deed) (told_by (known_by known deed) rest)
            ∙ ap (λ ks. after_text (is.text ++ text_by known deed) (told_by ks rest)) (sym same);
        wrote = Adds_then taken took take is.text (text_by known deed) is.wrote act.2;
        shown = effect.shown;
        leaf = effect.leaf ∙ is.leaf;
        height = effect.height ∙ is.height;
        agree =
            subst (λ ks. Agree ks (known_behind is.shapes deed) (deleted_behind is.deleted deed)) (sym same)
            (agree_next grid known is.shapes is.deleted step.statement is.steps.0.formed is.steps.0.sound is.agree);
        steps = is.steps.1;
        caller = effect.caller ∙ is.caller;
        events = is.events ++ effect.events;
        came = effect.told ∙ ap (λ (es : List (Event MatKind)). es ++ effect.events) is.came ∙ append_assoc before.events is.events effect.events;
        program = λ more p.
            subst (IsProgram before.caller h [] (done_of [] (each deed_in all))) (sym (append_assoc is.events effect.events more))
            (is.program (effect.events ++ more)
            (subst (λ ds. IsProgram before.caller h is.env ds (effect.events ++ more)) (sym done_is)
            (effect.at, effect.events, more, refl, subst₂ (λ c k. AreOfDeed c k is.env deed effect.at effect.events) is.caller is.height effect.program, p)));
        account =
            let here = work_by b h known deed in
            let behind = works_by b h (known_in next) (done_of (known_in next) rest) in
            let whole : works_by b h known (done_of known (deed ∷ rest)) ≡ here + behind =
            ap (works_by b h known) done_is ∙ ap (λ ks. here + works_by b h ks (done_of (known_in next) rest)) (sym same) in
            let added : after.account ≡ now.account + here = effect.account ∙ ap₂ (λ l k. now.account + work_by l k known deed) is.leaf is.height in
            let total = is.account in
            omega (arith, whole, added, total);
      }

  -- the deletes at the end of what was done
  end_deletes : (now : Seen MatChunk MatKind) (held : Held) (env : List Bound) → IsShown now held env
      → IsProgram before.caller h env [] (deletes before.caller held.order.items)
  end_deletes now held env is = deletes_same before.caller held.order.items (references env) is.order

  run_to : (now : Seen MatChunk MatKind) (held later : Held) (rest : List Step) (took : Option (List ℕ)) (is : IsUnderway grid b h all rest before now held taken took)
      → IsShown now later is.env → done_of (known_in is.env) (each deed_in rest) ≡ []
      → IsRunTo b h (each deed_in all) before now later.order.items
  run_to now held later rest took is shown none = record {
    events = is.events;
    program =
        is.program (deletes before.caller later.order.items)
        (subst (λ ds. IsProgram before.caller h is.env ds (deletes before.caller later.order.items)) (sym none) (end_deletes now later is.env shown));
    told = is.came;
    account =
        let nothing : works_by b h (known_in is.env) (done_of (known_in is.env) (each deed_in rest)) ≡ 0 = ap (works_by b h (known_in is.env)) none in
        let total = is.account in
        omega (arith, nothing, total);
  }

  -- all statements took effect
  pub underway_ends : (now : Seen MatChunk MatKind) (held : Held) (took : Option (List ℕ)) → IsUnderway grid b h all [] before now held taken took
      → Ran ends.Done (told_by [] (each deed_in all)) taken took × HasRunTo ends.Done b h (each deed_in all) before now held.order.items × IsLeft now held
  underway_ends now held took is = (
    subst (λ t. Ran ends.Done t taken took) (sym is.told) (refl, subst (λ t. Adds taken t took) (sym (append-nil is.text)) is.wrote),
    run_to now held held [] took is is.shown refl,
    shown_left now held is.env is.shown,
  )

  -- it stopped at a statement
  pub underway_ran : (step : Step) (others : List Step) (now after : Seen MatChunk MatKind) (held later : Held) (took take : Option (List ℕ)) (stop : Stop) (ended : Ended)
      → IsUnderway grid b h all (step ∷ others) before now held taken took
      → ActsOn (deed_of step.statement) (Err stop) now held after later took take → Stops stop (line_of (deed_of step.statement)) ended
      → Ran ended (told_by [] (each deed_in all)) taken take
  underway_ran step others now after held later took take stops.Refused ended is acts stopped =
      let act = acts is.env is.shown in
      let told : told_by [] (each deed_in all) ≡ after_text is.text (record { text = []; refused = Some (line_of (deed_in step)) }) =
      is.told ∙ ap (after_text is.text) (told_refused (known_in is.env) (deed_in step) (each deed_in others) act.0) in
      let wrote : Adds taken (is.text ++ []) take =
      Adds_then taken took take is.text [] is.wrote (subst (λ t. Adds took [] t) (sym act.3) (Adds_nil took)) in
      subst (λ s. Ran s (told_by [] (each deed_in all)) taken take) (sym stopped)
      (subst (λ t. Ran (ends.Refused (too_great (line_of (deed_in step)))) t taken take) (sym told) (refl, refl, wrote))
  underway_ran step others now after held later took take stops.WriteFault ended is acts stopped =
      let act = acts is.env is.shown in
      let deed = deed_in step in
      let known = known_in is.env in
      let told : told_by [] (each deed_in all) ≡ after_text is.text (after_text (text_by known deed) (told_by (known_by known deed) (each deed_in others))) =
      is.told ∙ ap (after_text is.text) (told_next known deed (each deed_in others) act.0) in
      subst (λ s. Ran s (told_by [] (each deed_in all)) taken take) (sym stopped)
      (subst (λ t. Ran ends.WriteFault t taken take) (sym told)
      (AddsFront_then taken took take is.text _ is.wrote (AddsFront_more took take (text_by known deed) _ act.1)))
  underway_ran step others now after held later took take stops.Memory ended is acts stopped =
      let deed = deed_in step in
      let known = known_in is.env in
      subst (λ s. Ran s (told_by [] (each deed_in all)) taken take) (sym stopped)
      (elim (acts is.env is.shown) [
        | inl same ↦
            let front : AddsFront taken (is.text ++ (told_by known (each deed_in (step ∷ others))).text) took =
            AddsFront_more taken took is.text _ (AddsFront_whole taken took is.text is.wrote) in
            subst (λ t. Ran ends.Memory t taken take) (sym is.told)
            (subst (λ t. AddsFront taken (is.text ++ (told_by known (each deed_in (step ∷ others))).text) t) (sym same) front)
        | inr wrote ↦
            let told : told_by [] (each deed_in all) ≡ after_text is.text (after_text (text_by known deed) (told_by (known_by known deed) (each deed_in others))) =
            is.told ∙ ap (after_text is.text) (told_next known deed (each deed_in others) wrote.0) in
            subst (λ t. Ran ends.Memory t taken take) (sym told)
            (AddsFront_then taken took take is.text _ is.wrote (AddsFront_more took take (text_by known deed) _ wrote.1))
      ])

  pub underway_stops : (step : Step) (others : List Step) (now after : Seen MatChunk MatKind) (held later : Held) (took take : Option (List ℕ)) (stop : Stop) (ended : Ended)
      → IsUnderway grid b h all (step ∷ others) before now held taken took
      → ActsOn (deed_of step.statement) (Err stop) now held after later took take → Stops stop (line_of (deed_of step.statement)) ended
      → HasRunTo ended b h (each deed_in all) before after later.order.items
  underway_stops step others now after held later took take stops.Refused ended is acts stopped =
      let act = acts is.env is.shown in
      subst (λ s. HasRunTo s b h (each deed_in all) before after later.order.items) (sym stopped)
      (subst (λ (s : Seen MatChunk MatKind). IsRunTo b h (each deed_in all) before s later.order.items) (sym act.1)
      (run_to now held later (step ∷ others) took is (subst (λ (s : Seen MatChunk MatKind). IsShown s later is.env) act.1 act.2)
      (done_refused (known_in is.env) (deed_in step) (each deed_in others) act.0)))
  underway_stops step others now after held later took take stops.WriteFault ended is acts stopped =
      subst (λ s. HasRunTo s b h (each deed_in all) before after later.order.items) (sym stopped) tt
  underway_stops step others now after held later took take stops.Memory ended is acts stopped =
      subst (λ s. HasRunTo s b h (each deed_in all) before after later.order.items) (sym stopped) tt
