-- What one statement did, and the deletes at the end of a run.
use Rattle.std.proofs.Common.{◌≡◌, ℕ, List, [], ◌∷◌, ◌++◌, Option, refl, sym, ap, ◌∙◌, subst, append_assoc, append-nil, inl}
use Rattle.std.specs.Prelude.{Result, Ok, Err}
use Rattle.std.specs.FinMap as map
use Rattle.std.specs.Ordering.{nat_cmp}
use Rattle.name_machine.specs.Parts.{Named}
use Rattle.cht_io.specs.Bytes.{Adds}
use Rattle.cht_io.proofs.Adds.{Adds_nil}
use Rattle.cht_ids.specs.declared.refs.Ref.{Ref}
use Rattle.cht_ids.specs.declared.refs.Ref.TheVariants.{Null, Id as HeldId}
use Rattle.cht_history.specs.declared.event.Event.{Event}
use Rattle.cht_engine.specs.Seen.{Seen, MayMention}
use Rattle.cht_engine.specs.Calls.{deleted}
use Rattle.quad_matrix.specs.declared.chunk.MatChunk.{MatChunk}
use Rattle.quad_matrix.specs.declared.kind.MatKind.{MatKind}
use Rattle.cht_script.specs.Meaning.{Known, Deed, Acts as Does, text_by}
use Rattle.cht_session.specs.declared.stop.Stop.{Stop}
use Rattle.cht_session.specs.declared.stop.Stop.TheVariants as stops
use Rattle.cht_session.specs.declared.held.Held.{Held}
use Rattle.cht_session.specs.declared.operation.Operation.{Operation}
use Rattle.cht_session.specs.declared.operation.Operation.TheVariants.{Add, Mul, TMul, MulT, Square, Full}
use Rattle.cht_session.specs.Operations.{verb_of}
use Rattle.cht_session.specs.Program.{known_in, identifiers, deletes}
use Rattle.cht_session.specs.Held.{without, AreAll, IsWell}
use Rattle.cht_session.specs.Running.{Binds, BindsIn, ActsOn, IsEmptied}
use Rattle.cht_session.proofs.Asked.{deleted_is}

-- ---- A statement without a text

pub binds_acts : (deed : Deed) (r : Result (Unit {0}) Stop) (seen now : Seen MatChunk MatKind) (held later : Held) (took : Option (List ℕ))
    → ((known : List Known) → text_by known deed ≡ []) → Binds deed r seen held now later → ActsOn deed r seen held now later took took
binds_acts deed (Ok done) seen now held later took none is = λ env shown.
    let act = is env shown in (act.0, act.1, subst (λ t. Adds took t took) (sym (none (known_in env))) (Adds_nil took))
binds_acts deed (Err stops.Refused) seen now held later took none is = λ env shown.
    let act = is env shown in (act.0, act.1, act.2, refl)
binds_acts deed (Err stops.WriteFault) seen now held later took none is = λ env shown. absurd (is env shown)
binds_acts deed (Err stops.Memory) seen now held later took none is = λ env shown. inl refl

pub no_text : (operation : Operation) (line : ℕ) (names : List (List ℕ)) (known : List Known) → text_by known (Does line (verb_of operation) names) ≡ []
no_text Add line names known = refl
no_text Mul line names known = refl
no_text TMul line names known = refl
no_text MulT line names known = refl
no_text Square line names known = refl
no_text Full line names known = refl

-- ---- The deletes at the end

-- some references of an order are deleted, and the others are all that the caller holds
pub record IsEmptying (before now : Seen MatChunk MatKind) (order rest : List Ref) : Type 0 where
  pub caller : now.caller ≡ before.caller
  pub asks : now.asks ≡ before.asks
  pub account : now.account ≡ before.account
  pub all : AreAll now.names (identifiers rest)
  pub events : now.events ++ deletes before.caller rest ≡ before.events ++ deletes before.caller order

pub emptying_begins : (before : Seen MatChunk MatKind) (order : List Ref) → AreAll before.names (identifiers order) → IsEmptying before before order order
emptying_begins before order all = record { caller = refl; asks = refl; account = refl; all = all; events = refl }

pub emptying_ready : (before now : Seen MatChunk MatKind) (order rest : List Ref) (r : Ref) → IsEmptying before now order (r ∷ rest) → MayMention now r
emptying_ready before now order rest Null is = tt
emptying_ready before now order rest (HeldId id) is = is.all.0

one_less : (names : map.FinMap nat_cmp (Named MatChunk)) (r : Ref) (rest : List Ref) → AreAll names (identifiers (r ∷ rest)) → AreAll (without names r) (identifiers rest)
one_less names Null rest all = all
one_less names (HeldId id) rest all = all.1

one_more : (caller : ℕ) (r : Ref) (rest : List Ref) → deletes caller (r ∷ []) ++ deletes caller rest ≡ deletes caller (r ∷ rest)
one_more caller Null rest = refl
one_more caller (HeldId id) rest = refl

pub emptying_next : (before now after : Seen MatChunk MatKind) (order rest : List Ref) (r : Ref) → IsEmptying before now order (r ∷ rest) → after ≡ deleted now r
    → IsEmptying before after order rest
emptying_next before now after order rest r is end =
    let gone = deleted_is now r in
    subst (λ (after : Seen MatChunk MatKind). IsEmptying before after order rest) (sym end) (record {
      caller = gone.caller ∙ is.caller;
      asks = gone.asks ∙ is.asks;
      account = gone.account ∙ is.account;
      all = subst (λ n. AreAll n (identifiers rest)) (sym gone.names) (one_less now.names r rest is.all);
      events =
          ap (λ (es : List (Event MatKind)). es ++ deletes before.caller rest) (gone.told ∙ ap (λ c. now.events ++ deletes c (r ∷ [])) is.caller)
          ∙ append_assoc now.events (deletes before.caller (r ∷ [])) (deletes before.caller rest)
          ∙ ap (λ (es : List (Event MatKind)). now.events ++ es) (one_more before.caller r rest)
          ∙ is.events;
    })

pub emptying_ends : (before now : Seen MatChunk MatKind) (order : List Ref) → IsEmptying before now order [] → IsEmptied before now order
emptying_ends before now order is =
    record { caller = is.caller; names = is.all; asks = is.asks; account = is.account; events = sym (append-nil now.events) ∙ is.events }

-- a statement without a text never fails in writing
pub no_fault : {P : Type 0} (deed : Deed) (r : Result (Unit {0}) Stop) (seen now : Seen MatChunk MatKind) (held later : Held) → IsWell seen held
    → Binds deed r seen held now later → r ≡ Err stops.WriteFault → P
no_fault {P} deed r seen now held later well is e = absurd (subst (λ r. BindsIn well.0 deed r seen held now later) e (is well.0 well.1))
