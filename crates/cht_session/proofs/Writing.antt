-- The statements that write a text.
use Rattle.std.proofs.Common.{◌≡◌, ℕ, ◌+◌, ◌*◌, ◌^◌, ◌≤◌, Bool, true, false, not, List, [], ◌∷◌, ◌++◌, length, Option, Some, pos, ℤ, refl, sym, ap, ap₂, ◌∙◌, subst, subst₂, append-nil, inl, inr}
use Rattle.std.specs.Prelude.{Result, Ok, Err, IsTrue, ◌↔◌, ◌==◌, nat_le, unsigned_abs}
use Rattle.std.proofs.lemmas.Bool.{eqb-true}
use Rattle.cht_io.specs.Bytes.{Adds, AddsFront}
use Rattle.cht_ids.specs.Numeral.{number_text}
use Rattle.dense_def.specs.Matrix.{Matrix, height, trace_of, peak_of}
use Rattle.cht_ids.specs.declared.refs.Ref.TheVariants.{Null}
use Rattle.cht_history.specs.declared.event.Event.TheVariants.{Ask, Collect}
use Rattle.cht_engine.specs.Seen.{Seen, MayMention, tree_named}
use Rattle.cht_engine.specs.Calls.{IsOutput}
use Rattle.chunk_codec.specs.Spots.{side_of}
use Rattle.quad_matrix.specs.declared.chunk.MatChunk.{MatChunk}
use Rattle.quad_matrix.specs.declared.kind.MatKind.{MatKind}
use Rattle.quad_matrix.specs.Blocks.{block_of, number_tree, number_of}
use Rattle.quad_matrix.specs.Goals.{goal_of, IsDefined}
use Rattle.quad_matrix.specs.Works.{work_of}
use Rattle.quad_matrix.proofs.ForOthers.{number_of_tree}
use Rattle.mm_text.specs.declared.market.Cell.{Cell}
use Rattle.mm_text.specs.declared.market.Form.{Form}
use Rattle.mm_text.specs.declared.market.Form.TheVariants.{General, Symmetric}
use Rattle.mm_text.specs.Cells.{is_low, cells_listed}
use Rattle.std.specs.List.{filter}
use Rattle.mm_text.specs.Written.{matrix_text, text_of_cells}
use Rattle.cht_script.specs.declared.script.Names.{Names}
use Rattle.cht_script.specs.declared.script.Verb.TheVariants as verb
use Rattle.cht_script.specs.declared.checked.Shape.{Shape}
use Rattle.cht_script.specs.Statements.{is_square}
use Rattle.cht_script.specs.Meaning.{limit, Deed, Acts as Does, matrix_named, form_named, is_refused, text_by}
use Rattle.cht_script.specs.Reading.{name_bytes, names_of}
use Rattle.cht_session.specs.declared.held.Binding.{Binding}
use Rattle.cht_session.specs.declared.held.Held.{Held}
use Rattle.cht_session.specs.declared.stop.Stop.{Stop}
use Rattle.cht_session.specs.declared.stop.Stop.TheVariants as stops
use Rattle.cht_session.specs.Numbers.{root_peak}
use Rattle.tree_entries.specs.declared.unprinted.Unprinted.{Unprinted}
use Rattle.tree_entries.specs.declared.unprinted.Unprinted.TheVariants as unprinted
use Rattle.tree_entries.specs.BlockTrees.{IsBlockTree, IsCountOf, IsPrinted, IsWrittenAs}
use Rattle.cht_session.specs.Bindings.{found_in, shape_at}
use Rattle.cht_session.specs.Program.{Bound, known_in, deletes, IsNullIf, AreOfTrace}
use Rattle.cht_session.specs.Held.{IsShown}
use Rattle.cht_session.specs.Forms.{tree_in, IsSoundIn}
use Rattle.cht_session.specs.Given.{kind_traced, IsTraced}
use Rattle.cht_session.specs.Running.{stopped_by, IsEffect, IsWritten, Acts}
use Rattle.cht_session.proofs.Assigned.{output_null}
use Rattle.cht_session.proofs.CompletedCells.{cells_completed}
use Rattle.cht_session.proofs.FormTrees.{tree_peak}
use Rattle.cht_session.proofs.FormVerbs.{trace_fitting, trace_goal}
use Rattle.cht_session.proofs.Tests.{trace_tested, number_null}
use Rattle.cht_session.proofs.Shown.{shown_seen, is_found}
use Rattle.cht_session.proofs.Effects.{one_name, plus_none}

-- a text was written of a statement that took effect
pub text_done : (env : List Bound) (deed : Deed) (seen now : Seen MatChunk MatKind) (held : Held) (text : List ℕ) (r : Result (Unit {0}) Stop) (before after : Option (List ℕ))
    → is_refused (known_in env) deed ≡ false → text_by (known_in env) deed ≡ text → IsEffect env deed seen held now held → IsWritten r true text before after
    → Acts env deed r seen held now held before after
text_done env deed seen now held text (Ok done) before after goes told effect is = (goes, effect, subst (λ t. Adds before t after) (sym told) is.1)
text_done env deed seen now held text (Err stops.Refused) before after goes told effect is = absurd (let clash : true ≡ false = is.0 in cc)
text_done env deed seen now held text (Err stops.WriteFault) before after goes told effect is = (goes, subst (λ t. AddsFront before t after) (sym told) is.1)
text_done env deed seen now held text (Err stops.Memory) before after goes told effect (inl same) = inl same
text_done env deed seen now held text (Err stops.Memory) before after goes told effect (inr front) = inr (goes, subst (λ t. AddsFront before t after) (sym told) front.1)

-- the cells by which a form lists a matrix are those of the matrix completed by zeros
cells_in : (form : Form) (b h : ℕ) (m : Matrix) → IsSoundIn form b h m → cells_listed form (block_of b h (tree_in form b h m)) ≡ cells_listed form m
cells_in General b h m is = ap (cells_listed General) is.tree.block ∙ cells_completed (side_of b h) m is.whole is.rows is.columns
cells_in Symmetric b h m is =
    ap (cells_listed Symmetric) is.tree.block ∙ ap (λ (cells : List Cell). filter is_low cells) (cells_completed (side_of b h) m is.whole is.rows is.columns)

-- the writing failed where the statement says so
pub stopped_fault : (answer : Result (Unit {0}) Unprinted) → stopped_by answer ≡ Err stops.WriteFault → answer ≡ Err unprinted.WriteFault
stopped_fault (Ok done) e = absurd cc
stopped_fault (Err unprinted.WriteFault) e = refl
stopped_fault (Err unprinted.Memory) e = absurd cc

-- ---- A count or a text

module _ (seen now : Seen MatChunk MatKind) (held : Held) (env : List Bound) (name : List ℕ) (one : Binding) (is : IsShown seen held env) (found : found_in held name ≡ Some one) where
  pub name_mentioned : MayMention seen one.at
  name_mentioned = (is_found seen held env name one is found).mentioned

  abbrev pub m : Matrix
  m = matrix_named (known_in env) name

  abbrev pub form : Form
  form = form_named (known_in env) name

  -- the form that is held
  pub name_form : one.shape.form ≡ form
  name_form = ap (λ (shape : Shape). shape.form) (is_found seen held env name one is found).shape

  pub name_block : IsBlockTree one.shape.form (tree_named seen one.at)
  name_block =
      let f = is_found seen held env name one is found in
      subst (λ form. IsBlockTree form (tree_named seen one.at)) (sym name_form)
      (subst (IsBlockTree form) (sym f.tree) (record {
        leaf = held.leaf;
        height = held.height;
        leaf_low = is.leaf_low;
        leaf_high = is.leaf_high;
        low = is.low;
        canonical = f.sound.tree.canonical;
      }))

  -- the number of its cells is that of the matrix
  name_count : (n : ℕ) → IsCountOf one.shape.form (tree_named seen one.at) n → n ≡ length (cells_listed form m)
  name_count n counted =
      let f = is_found seen held env name one is found in
      subst (λ t. IsCountOf form t n) f.tree (subst (λ form. IsCountOf form (tree_named seen one.at) n) name_form counted) held.leaf held.height f.sound.tree.canonical
      ∙ ap (λ (cells : List Cell). length cells) (cells_in form held.leaf held.height m f.sound)

  -- the text is that of the matrix
  name_printed : (answer : Result (Unit {0}) Unprinted) (before after : Option (List ℕ))
      → IsPrinted one.shape.form one.shape.rows one.shape.columns (tree_named seen one.at) answer before after → IsWrittenAs answer (matrix_text form m) before after
  name_printed answer before after printed =
      let f = is_found seen held env name one is found in
      let here : IsPrinted form (height m) m.columns (tree_in form held.leaf held.height m) answer before after =
      subst (λ t. IsPrinted form (height m) m.columns t answer before after) f.tree
      (subst (λ (shape : Shape). IsPrinted shape.form shape.rows shape.columns (tree_named seen one.at) answer before after) f.shape printed) in
      subst (λ (cells : List Cell). IsWrittenAs answer (text_of_cells form (height m) m.columns cells) before after)
      (cells_in form held.leaf held.height m f.sound)
      (here held.leaf held.height f.sound.tree.canonical)

  -- a statement without events
  silent : (line : ℕ) → now ≡ seen → IsEffect env (Does line verb.Count (name ∷ [])) seen held now held
  silent line same = subst (λ (now : Seen MatChunk MatKind). IsEffect env (Does line verb.Count (name ∷ [])) seen held now held) (sym same) (record {
    at = Null;
    events = [];
    program = refl;
    told = sym (append-nil seen.events);
    account = sym (plus_none seen.account);
    caller = refl;
    leaf = refl;
    height = refl;
    shown = subst (IsShown seen held) (sym (append-nil env)) is;
  })

  silent_too : (line : ℕ) → now ≡ seen → IsEffect env (Does line verb.Print (name ∷ [])) seen held now held
  silent_too line same = subst (λ (now : Seen MatChunk MatKind). IsEffect env (Does line verb.Print (name ∷ [])) seen held now held) (sym same) (record {
    at = Null;
    events = [];
    program = refl;
    told = sym (append-nil seen.events);
    account = sym (plus_none seen.account);
    caller = refl;
    leaf = refl;
    height = refl;
    shown = subst (IsShown seen held) (sym (append-nil env)) is;
  })

  pub count_done : (line n : ℕ) (r : Result (Unit {0}) Stop) (before after : Option (List ℕ)) → now ≡ seen → IsCountOf one.shape.form (tree_named seen one.at) n
      → IsWritten r true (number_text (pos n) ++ 10 ∷ []) before after → Acts env (Does line verb.Count (name ∷ [])) r seen held now held before after
  count_done line n r before after same counted written =
      text_done env (Does line verb.Count (name ∷ [])) seen now held (number_text (pos n) ++ 10 ∷ []) r before after refl
      (ap (λ n. number_text (pos n) ++ 10 ∷ []) (sym (name_count n counted)))
      (silent line same) written

  -- what a printed text says of the statement
  print_answer : (line : ℕ) (answer : Result (Unit {0}) Unprinted) (before after : Option (List ℕ)) → now ≡ seen → IsWrittenAs answer (matrix_text form m) before after
      → Acts env (Does line verb.Print (name ∷ [])) (stopped_by answer) seen held now held before after
  print_answer line (Ok done) before after same written = (refl, silent_too line same, written)
  print_answer line (Err unprinted.WriteFault) before after same written = (refl, written)
  print_answer line (Err unprinted.Memory) before after same written = inr (refl, written)

  pub print_done : (line : ℕ) (answer : Result (Unit {0}) Unprinted) (before after : Option (List ℕ)) → now ≡ seen
      → IsPrinted one.shape.form one.shape.rows one.shape.columns (tree_named seen one.at) answer before after
      → Acts env (Does line verb.Print (name ∷ [])) (stopped_by answer) seen held now held before after
  print_done line answer before after same printed = print_answer line answer before after same (name_printed answer before after printed)

  -- ---- A trace

  pub name_tested : (p : ℕ) (test : Bool) → p ≡ root_peak (tree_named seen one.at) → IsTrue test ↔ (one.shape.rows * p * 1 ≤ 2 ^ 126)
      → test ≡ nat_le (height m * peak_of m) limit
  name_tested p test e says =
      let f = is_found seen held env name one is found in
      trace_tested m one.shape.rows p test (ap (λ (shape : Shape). shape.rows) f.shape) (e ∙ ap root_peak f.tree ∙ tree_peak held.leaf held.height form m f.sound) says

  module _ (square : is_square (shape_at held name) ≡ true) (test : Bool) (tested : test ≡ nat_le (height m * peak_of m) limit) where
    as_many : height m ≡ m.columns
    as_many = eqb-true (height m) m.columns (sym (ap is_square (is_found seen held env name one is found).shape_seen) ∙ square)

    -- the task that is asked
    kind : kind_traced one.shape.form held.height ≡ kind_traced form held.height
    kind = ap (λ form. kind_traced form held.height) name_form

    pub trace_ready : test ≡ true → IsDefined (kind_traced one.shape.form held.height) (tree_named seen one.at ∷ [])
    trace_ready fits =
        let f = is_found seen held env name one is found in
        subst₂ (λ k t. IsDefined k (t ∷ [])) (sym kind) (sym f.tree) (record {
          low = is.low;
          leaf = held.leaf;
          leaf_high = is.leaf_high;
          fits = trace_fitting held.leaf held.height form m f.sound as_many (sym tested ∙ fits);
        })

    pub trace_refused : (line : ℕ) (before : Option (List ℕ)) → test ≡ false → now ≡ seen
        → Acts env (Does line verb.Trace (name ∷ [])) (Err stops.Refused) seen held now held before before
    trace_refused line before fails same =
        (ap not (sym tested ∙ fails), same, subst (λ (s : Seen MatChunk MatKind). IsShown s held env) (sym same) is, refl)

    pub trace_done : (line : ℕ) (number : ℤ) (r : Result (Unit {0}) Stop) (before after : Option (List ℕ)) → test ≡ true
        → IsTraced seen now (kind_traced one.shape.form held.height) one.at number
        → IsWritten r true (number_text number ++ 10 ∷ []) before after → Acts env (Does line verb.Trace (name ∷ [])) r seen held now held before after
    trace_done line number r before after fits got written =
        let f = is_found seen held env name one is found in
        let l = held.leaf in
        let h = held.height in
        let asked = kind_traced one.shape.form h in
        let goal : goal_of asked (tree_named seen one.at ∷ []) ≡ number_tree (trace_of m) =
        ap₂ (λ k t. goal_of k (t ∷ [])) kind f.tree ∙ trace_goal l h form m f.sound (trace_fitting l h form m f.sound as_many (sym tested ∙ fits)) in
        let number_is : number ≡ trace_of m = got.number_is ∙ ap number_of goal ∙ number_of_tree (trace_of m) in
        let null = subst (λ t. IsNullIf t got.r) (number_null (trace_of m)) (output_null seen (number_tree (trace_of m)) got.r (subst (λ t. IsOutput seen t got.r) goal got.null)) in
        let events = (Ask seen.caller got.task asked (one.at ∷ []) ∷ Collect seen.caller got.task got.r ∷ []) ++ deletes seen.caller (got.r ∷ []) in
        text_done env (Does line verb.Trace (name ∷ [])) seen now held (number_text number ++ 10 ∷ []) r before after
        (ap not (sym tested ∙ fits)) (ap (λ n. number_text n ++ 10 ∷ []) (sym number_is))
        (record {
          at = got.r;
          events = events;
          program =
              subst₂ (λ k p. AreOfTrace seen.caller k p (unsigned_abs (trace_of m) == 0) got.r events) kind (sym f.reference) (null, got.task, refl);
          told = got.told;
          account = got.account ∙ ap₂ (λ k t. seen.account + work_of k (t ∷ [])) kind f.tree;
          caller = got.caller;
          leaf = refl;
          height = refl;
          shown = subst (IsShown now held) (sym (append-nil env)) (shown_seen seen now held env is got.names (got.asks ∙ is.idle));
        })
        written

-- ---- Statements by their names

pub count_stated : (names : Names) (seen now : Seen MatChunk MatKind) (held : Held) (env : List Bound) (one : Binding) → names.count ≡ 1 → IsShown seen held env
    → found_in held (name_bytes names.first) ≡ Some one → (line n : ℕ) (r : Result (Unit {0}) Stop) (before after : Option (List ℕ)) → now ≡ seen
    → IsCountOf one.shape.form (tree_named seen one.at) n → IsWritten r true (number_text (pos n) ++ 10 ∷ []) before after
    → Acts env (Does line verb.Count (names_of names)) r seen held now held before after
count_stated names seen now held env one count is found line n r before after same counted written =
    subst (λ ns. Acts env (Does line verb.Count ns) r seen held now held before after) (sym (one_name names count))
    (count_done seen now held env (name_bytes names.first) one is found line n r before after same counted written)

pub print_stated : (names : Names) (seen now : Seen MatChunk MatKind) (held : Held) (env : List Bound) (one : Binding) → names.count ≡ 1 → IsShown seen held env
    → found_in held (name_bytes names.first) ≡ Some one → (line : ℕ) (answer : Result (Unit {0}) Unprinted) (before after : Option (List ℕ)) → now ≡ seen
    → IsPrinted one.shape.form one.shape.rows one.shape.columns (tree_named seen one.at) answer before after
    → Acts env (Does line verb.Print (names_of names)) (stopped_by answer) seen held now held before after
print_stated names seen now held env one count is found line answer before after same printed =
    subst (λ ns. Acts env (Does line verb.Print ns) (stopped_by answer) seen held now held before after) (sym (one_name names count))
    (print_done seen now held env (name_bytes names.first) one is found line answer before after same printed)

module _ (names : Names) (seen now : Seen MatChunk MatKind) (held : Held) (env : List Bound) (one : Binding) (count : names.count ≡ 1) (is : IsShown seen held env)
    (found : found_in held (name_bytes names.first) ≡ Some one) (square : is_square (shape_at held (name_bytes names.first)) ≡ true) (p : ℕ) (test : Bool)
    (peak : p ≡ root_peak (tree_named seen one.at)) (says : IsTrue test ↔ (one.shape.rows * p * 1 ≤ 2 ^ 126)) where
  pub trace_refusal : (line : ℕ) (before : Option (List ℕ)) → test ≡ false → now ≡ seen
      → Acts env (Does line verb.Trace (names_of names)) (Err stops.Refused) seen held now held before before
  trace_refusal line before fails same =
      let a = name_bytes names.first in
      subst (λ ns. Acts env (Does line verb.Trace ns) (Err stops.Refused) seen held now held before before) (sym (one_name names count))
      (trace_refused seen now held env a one is found square test (name_tested seen now held env a one is found p test peak says) line before fails same)

  pub trace_stated : (line : ℕ) (number : ℤ) (r : Result (Unit {0}) Stop) (before after : Option (List ℕ)) → test ≡ true
      → IsTraced seen now (kind_traced one.shape.form held.height) one.at number
      → IsWritten r true (number_text number ++ 10 ∷ []) before after → Acts env (Does line verb.Trace (names_of names)) r seen held now held before after
  trace_stated line number r before after fits got written =
      let a = name_bytes names.first in
      subst (λ ns. Acts env (Does line verb.Trace ns) r seen held now held before after) (sym (one_name names count))
      (trace_done seen now held env a one is found square test (name_tested seen now held env a one is found p test peak says) line number r before after fits got written)

  pub trace_defined : test ≡ true → IsDefined (kind_traced one.shape.form held.height) (tree_named seen one.at ∷ [])
  trace_defined fits =
      let a = name_bytes names.first in
      trace_ready seen now held env a one is found square test (name_tested seen now held env a one is found p test peak says) fits
