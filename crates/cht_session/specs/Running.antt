-- What the statements of a script do, one after another, to the sink, to what is held and to what the caller of the engine sees.
use Rattle.std.specs.Prelude.{◌≡◌, ◌⊎◌, ◌&&◌, ℕ, ◌+◌, Bool, true, false, List, [], ◌++◌, Option, None, Some, Result, Ok, Err}
use Rattle.std.specs.FinMap as maps
use Rattle.cht_io.specs.Bytes.{Adds, AddsFront}
use Rattle.cht_ids.specs.declared.refs.Ref.{Ref}
use Rattle.cht_history.specs.declared.event.Event.{Event}
use Rattle.cht_engine.specs.Seen.{Seen}
use Rattle.quad_matrix.specs.declared.chunk.MatChunk.{MatChunk}
use Rattle.quad_matrix.specs.declared.kind.MatKind.{MatKind}
use Rattle.cht_script.specs.declared.checked.Shape.{Shape}
use Rattle.cht_script.specs.declared.script.Fault.{Fault}
use Rattle.cht_script.specs.declared.script.Name.{Name}
use Rattle.cht_script.specs.declared.script.Names.{Names}
use Rattle.cht_script.specs.declared.script.Statement as statement
use Rattle.cht_script.specs.declared.script.Statement.TheVariants as statements
use Rattle.cht_script.specs.declared.script.Verb.{Verb}
use Rattle.cht_script.specs.declared.script.Verb.TheVariants.{Copy, Add, Mul, TMul, MulT, Square, Full, Trace, Count, Print, Delete}
use Rattle.cht_script.specs.Statements.{names_after, shapes_fit, forms_fit, is_square}
use Rattle.cht_script.specs.Verdict.{NamedShape, is_known, shape_in, is_among}
use Rattle.cht_script.specs.Meaning.{Known, matrix_named, form_named, Deed, is_refused, text_by, Told}
use Rattle.cht_script.specs.Reading.{name_bytes, IsGoodMarket}
use Rattle.cht_session.specs.declared.ended.Ended.{Ended}
use Rattle.cht_session.specs.declared.ended.Ended.TheVariants.{Done, Refused, WriteFault, Memory}
use Rattle.cht_session.specs.declared.stop.Stop as stop
use Rattle.cht_session.specs.declared.stop.Stop.TheVariants as stops
use Rattle.cht_session.specs.declared.held.Held.{Held}
use Rattle.cht_session.specs.declared.operation.Operation.{Operation}
use Rattle.cht_session.specs.declared.operation.Operation.TheVariants as operations
use Rattle.cht_session.specs.Operations.{verb_of, is_single}
use Rattle.tree_entries.specs.declared.unprinted.Unprinted.{Unprinted}
use Rattle.tree_entries.specs.declared.unprinted.Unprinted.TheVariants as unprinted
use Rattle.cht_session.specs.Forms.{shape_of}
use Rattle.cht_session.specs.Listed.{most_listed}
use Rattle.cht_session.specs.Program.{Bound, known_in, env_after, deletes, AreOfDeed, IsProgram, done_of}
use Rattle.cht_session.specs.Works.{work_by, works_by}
use Rattle.cht_session.specs.Bindings.{shape_at}
use Rattle.cht_session.specs.Held.{side_in, IsShown, IsLeft}

-- ---- Shapes

-- the shape and form of what a name means
abbrev pub shape_named : List Known → List ℕ → Shape
shape_named known name = shape_of (form_named known name) (matrix_named known name)

-- names that are bound have the shapes and forms that were told of them, where these were not deleted
abbrev pub Agree : List Known → List NamedShape → List (List ℕ) → Type 0
Agree known shapes deleted =
    (name : List ℕ) → is_known shapes name ≡ true → is_among deleted name ≡ false
    → shape_named known name ≡ shape_in shapes name

-- ---- One statement

-- whether the shapes and forms of its inputs fit a verb; the second is not looked at where there is one
abbrev pub inputs_fit : Verb → Shape → Shape → Bool
inputs_fit verb a b = shapes_fit verb a b && forms_fit verb a b

-- those of two names fit a verb
abbrev pub AreFitting : Held → Verb → List ℕ → List ℕ → Type 0
AreFitting held verb a b = inputs_fit verb (shape_at held a) (shape_at held b) ≡ true

-- the last of the names of a statement that are inputs of an operation, by whether it takes one matrix alone
abbrev pub last_by : Bool → Names → Name
last_by true names = names.second
last_by false names = names.third

abbrev pub last_input : Operation → Names → Name
last_input operation names = last_by (is_single operation) names

-- the inputs of an operation fit its verb
abbrev pub IsFitting : Held → Operation → Names → Type 0
IsFitting held operation names = AreFitting held (verb_of operation) (name_bytes names.second) (name_bytes (last_input operation names))

-- what is known of a statement with a verb that comes next
abbrev pub IsReadyAct : Held → Verb → Names → Type 0
IsReadyAct held Copy names = Unit {0}
IsReadyAct held Add names = IsFitting held operations.Add names
IsReadyAct held Mul names = IsFitting held operations.Mul names
IsReadyAct held TMul names = IsFitting held operations.TMul names
IsReadyAct held MulT names = IsFitting held operations.MulT names
IsReadyAct held Square names = IsFitting held operations.Square names
IsReadyAct held Full names = IsFitting held operations.Full names
IsReadyAct held Trace names = is_square (shape_at held (name_bytes names.first)) ≡ true
IsReadyAct held Count names = Unit {0}
IsReadyAct held Print names = Unit {0}
IsReadyAct held Delete names = Unit {0}

-- what is known of a statement that comes next
abbrev pub IsReady : Held → statement.Statement → Type 0
IsReady held (statements.Market line to market) = IsGoodMarket (most_listed (side_in held)) market
IsReady held (statements.Act line verb names) = (names.count ≡ names_after verb) × IsReadyAct held verb names

-- A statement took effect where these names were bound: its events came, its work is on the account, and what is held shows the names
-- after it.
pub record IsEffect (env : List Bound) (deed : Deed) (seen : Seen MatChunk MatKind) (held : Held) (now : Seen MatChunk MatKind) (later : Held) : Type 0 where
  pub at : Ref
  pub events : List (Event MatKind)
  pub program : AreOfDeed seen.caller held.height env deed at events
  pub told : now.events ≡ seen.events ++ events
  pub account : now.account ≡ seen.account + work_by held.leaf held.height (known_in env) deed
  pub caller : now.caller ≡ seen.caller
  pub leaf : later.leaf ≡ held.leaf
  pub height : later.height ≡ held.height
  pub shown : IsShown now later (env_after env deed at)

-- What one statement did: it took effect, or it was refused and changed nothing, or the run stopped in its text or before it. A statement of
-- whose text a front was written was not refused.
abbrev pub Acts : List Bound → Deed → Result (Unit {0}) stop.Stop → Seen MatChunk MatKind → Held → Seen MatChunk MatKind → Held
    → Option (List ℕ) → Option (List ℕ) → Type 0
Acts env deed (Ok done) seen held now later before after =
    (is_refused (known_in env) deed ≡ false) × IsEffect env deed seen held now later × Adds before (text_by (known_in env) deed) after
Acts env deed (Err stops.Refused) seen held now later before after =
    (is_refused (known_in env) deed ≡ true) × (now ≡ seen) × IsShown now later env × (after ≡ before)
Acts env deed (Err stops.WriteFault) seen held now later before after =
    (is_refused (known_in env) deed ≡ false) × AddsFront before (text_by (known_in env) deed) after
Acts env deed (Err stops.Memory) seen held now later before after =
    (after ≡ before) ⊎ ((is_refused (known_in env) deed ≡ false) × AddsFront before (text_by (known_in env) deed) after)

-- what a statement did, whichever names are shown before it
abbrev pub ActsOn : Deed → Result (Unit {0}) stop.Stop → Seen MatChunk MatKind → Held → Seen MatChunk MatKind → Held
    → Option (List ℕ) → Option (List ℕ) → Type 0
ActsOn deed answer seen held now later before after =
    (env : List Bound) → IsShown seen held env → Acts env deed answer seen held now later before after

-- a statement without a text took effect, whichever names are shown before it
abbrev pub Deletes : Deed → Seen MatChunk MatKind → Held → Seen MatChunk MatKind → Held → Type 0
Deletes deed seen held now later =
    (env : List Bound) → IsShown seen held env → (is_refused (known_in env) deed ≡ false) × IsEffect env deed seen held now later

-- What a statement without a text did: it took effect, or it was refused and changed nothing, or memory ran out.
abbrev pub BindsIn : List Bound → Deed → Result (Unit {0}) stop.Stop → Seen MatChunk MatKind → Held → Seen MatChunk MatKind → Held → Type 0
BindsIn env deed (Ok done) seen held now later = (is_refused (known_in env) deed ≡ false) × IsEffect env deed seen held now later
BindsIn env deed (Err stops.Refused) seen held now later = (is_refused (known_in env) deed ≡ true) × (now ≡ seen) × IsShown now later env
BindsIn env deed (Err stops.WriteFault) seen held now later = ⊥
BindsIn env deed (Err stops.Memory) seen held now later = Unit {0}

-- the same, whichever names are shown before it
abbrev pub Binds : Deed → Result (Unit {0}) stop.Stop → Seen MatChunk MatKind → Held → Seen MatChunk MatKind → Held → Type 0
Binds deed answer seen held now later = (env : List Bound) → IsShown seen held env → BindsIn env deed answer seen held now later

-- what is kept whatever a statement answers
pub record IsGoing (seen : Seen MatChunk MatKind) (held : Held) (now : Seen MatChunk MatKind) (later : Held) : Type 0 where
  pub caller : now.caller ≡ seen.caller
  pub leaf : later.leaf ≡ held.leaf
  pub height : later.height ≡ held.height
  pub left : IsLeft now later

-- a text was written, or the test of what it tells failed, or the writing stopped
abbrev pub IsWritten : Result (Unit {0}) stop.Stop → Bool → List ℕ → Option (List ℕ) → Option (List ℕ) → Type 0
IsWritten (Ok done) fits text before after = (fits ≡ true) × Adds before text after
IsWritten (Err stops.Refused) fits text before after = (fits ≡ false) × (after ≡ before)
IsWritten (Err stops.WriteFault) fits text before after = (fits ≡ true) × AddsFront before text after
IsWritten (Err stops.Memory) fits text before after = (after ≡ before) ⊎ ((fits ≡ true) × AddsFront before text after)

-- how a statement ends whose text was written to its end or not
abbrev pub stopped_by : Result (Unit {0}) Unprinted → Result (Unit {0}) stop.Stop
stopped_by (Ok done) = Ok done
stopped_by (Err unprinted.WriteFault) = Err stops.WriteFault
stopped_by (Err unprinted.Memory) = Err stops.Memory

-- a refusal for too great a result, at a line
abbrev pub too_great : ℕ → Fault
too_great n = record { line = n; code = 19 }

-- how a run ends whose statement on a line stopped
abbrev pub Stops : stop.Stop → ℕ → Ended → Type 0
Stops stops.Refused line ended = ended ≡ Refused (too_great line)
Stops stops.WriteFault line ended = ended ≡ WriteFault
Stops stops.Memory line ended = ended ≡ Memory

-- ---- All statements

-- what the end of a run says of what the statements tell, and of what the sink had taken before and after
abbrev pub Ran : Ended → Told → Option (List ℕ) → Option (List ℕ) → Type 0
Ran Done told before after = (told.refused ≡ None) × Adds before told.text after
Ran (Refused fault) told before after = (fault.code ≡ 19) × (told.refused ≡ Some fault.line) × Adds before told.text after
Ran WriteFault told before after = AddsFront before told.text after
Ran Memory told before after = AddsFront before told.text after

-- The caller's events are those before with the program of the statements before the first refusal behind them, and the account has risen by
-- their work.
pub record IsRun (b h : ℕ) (deeds : List Deed) (before after : Seen MatChunk MatKind) : Type 0 where
  pub events : List (Event MatKind)
  pub program : IsProgram before.caller h [] (done_of [] deeds) events
  pub told : after.events ≡ before.events ++ events
  pub account : after.account ≡ before.account + works_by b h [] (done_of [] deeds)

-- this holds of a run that was done or refused; of any other nothing is said
abbrev pub HasRun : Ended → ℕ → ℕ → List Deed → Seen MatChunk MatKind → Seen MatChunk MatKind → Type 0
HasRun Done b h deeds before after = IsRun b h deeds before after
HasRun (Refused fault) b h deeds before after = IsRun b h deeds before after
HasRun WriteFault b h deeds before after = Unit {0}
HasRun Memory b h deeds before after = Unit {0}

-- the same before the final deletes, of references in this order
pub record IsRunTo (b h : ℕ) (deeds : List Deed) (before now : Seen MatChunk MatKind) (order : List Ref) : Type 0 where
  pub events : List (Event MatKind)
  pub program : IsProgram before.caller h [] (done_of [] deeds) (events ++ deletes before.caller order)
  pub told : now.events ≡ before.events ++ events
  pub account : now.account ≡ before.account + works_by b h [] (done_of [] deeds)

abbrev pub HasRunTo : Ended → ℕ → ℕ → List Deed → Seen MatChunk MatKind → Seen MatChunk MatKind → List Ref → Type 0
HasRunTo Done b h deeds before now order = IsRunTo b h deeds before now order
HasRunTo (Refused fault) b h deeds before now order = IsRunTo b h deeds before now order
HasRunTo WriteFault b h deeds before now order = Unit {0}
HasRunTo Memory b h deeds before now order = Unit {0}

-- after the final deletes: no identifier is held, and the deletes are told
pub record IsEmptied (before after : Seen MatChunk MatKind) (order : List Ref) : Type 0 where
  pub caller : after.caller ≡ before.caller
  pub names : after.names ≡ maps.empty
  pub asks : after.asks ≡ before.asks
  pub account : after.account ≡ before.account
  pub events : after.events ≡ before.events ++ deletes before.caller order
