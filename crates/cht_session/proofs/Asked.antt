-- What the calls of an engine leave of what its caller sees.
use Rattle.std.proofs.Common.{◌≡◌, ℕ, List, [], ◌∷◌, ◌++◌, refl, sym, ap, ◌∙◌, subst, append-nil, append_assoc}
use Rattle.std.specs.Prelude.{Result, Ok, Err, IfOk, ℤ}
use Rattle.std.specs.FinMap as map
use Rattle.cht_ids.specs.declared.memory.Memory.{Memory}
use Rattle.cht_ids.specs.declared.refs.Ref.{Ref}
use Rattle.cht_ids.specs.declared.refs.Ref.TheVariants.{Null, Id as Held}
use Rattle.task_types.specs.Tree.{Tree, Nothing, Root}
use Rattle.cht_history.specs.declared.event.Event.{Event}
use Rattle.cht_history.specs.declared.event.Event.TheVariants.{Ask, Collect}
use Rattle.cht_engine.specs.Seen.{Seen, MayMention, tree_named, tree_of_named}
use Rattle.cht_engine.specs.Calls.{trees_named, deleted, IsOutput, with_output, IsAsked, IsGivenUp}
use Rattle.quad_matrix.specs.declared.chunk.MatChunk.{MatChunk}
use Rattle.quad_matrix.specs.declared.kind.MatKind.{MatKind}
use Rattle.quad_matrix.specs.Blocks.{number_of}
use Rattle.quad_matrix.specs.Goals.{goal_of}
use Rattle.quad_matrix.specs.Matrices.{matrices}
use Rattle.cht_session.specs.Program.{deletes}
use Rattle.cht_session.specs.Held.{IsNameOf, without}
use Rattle.cht_session.specs.Given.{IsGiven, IsAnswered, IsUndone, Answers, IsTraced, Traces}
use Rattle.cht_session.proofs.Identifiers.{given_here, named_is_held}

-- ---- Outputs

pub record IsOutputGiven (before : Seen MatChunk MatKind) (tree : Tree MatChunk) (r : Ref) : Type 0 where
  pub names : IsGiven before.names tree r (with_output before r tree).names
  pub caller : (with_output before r tree).caller ≡ before.caller
  pub asks : (with_output before r tree).asks ≡ before.asks

pub output_given : (before : Seen MatChunk MatKind) (tree : Tree MatChunk) (r : Ref) → IsOutput before tree r → IsOutputGiven before tree r
output_given before Nothing Null is = record { names = (refl, refl); caller = refl; asks = refl }
output_given before Nothing (Held id) is = absurd is
output_given before (Root c x y z w) Null is = absurd is
output_given before (Root c x y z w) (Held id) is = record { names = (is, refl); caller = refl; asks = refl }

pub asked_answered : (before after : Seen MatChunk MatKind) (kind : MatKind) (inputs : List Ref) (r : Ref)
    → IsAsked matrices before after kind inputs (Ok r) → IsAnswered before after kind inputs r
asked_answered before after kind inputs r (output, task, is) =
    let given = output_given before (goal_of kind (trees_named before inputs)) r output in
    subst (λ (after : Seen MatChunk MatKind). IsAnswered before after kind inputs r) (sym is) (record {
      caller = given.caller;
      asks = given.asks;
      names = given.names;
      account = refl;
      output = output;
      task = task;
      told = refl;
    })

pub asked_undone : (before after : Seen MatChunk MatKind) (kind : MatKind) (inputs : List Ref) → IsGivenUp before after kind inputs → IsUndone before after
asked_undone before after kind inputs is = record { caller = is.caller; asks = is.asks; names = is.names }

-- the answer for a task that was asked
pub asked_answers : (before after : Seen MatChunk MatKind) (kind : MatKind) (inputs : List Ref) (answer : Result Ref Memory)
    → IsAsked matrices before after kind inputs answer → Answers before after kind inputs answer
asked_answers before after kind inputs (Ok r) is = asked_answered before after kind inputs r is
asked_answers before after kind inputs (Err memory) is = asked_undone before after kind inputs is

-- nothing was done
pub nothing_done : (before after : Seen MatChunk MatKind) → before.asks ≡ map.empty → after ≡ before → IsUndone before after
nothing_done before after idle same =
    subst (λ (after : Seen MatChunk MatKind). IsUndone before after) (sym same) (record { caller = refl; asks = idle; names = refl })

-- ---- Deletes

pub record IsDeleted (before after : Seen MatChunk MatKind) (r : Ref) : Type 0 where
  pub caller : after.caller ≡ before.caller
  pub asks : after.asks ≡ before.asks
  pub names : after.names ≡ without before.names r
  pub account : after.account ≡ before.account
  pub told : after.events ≡ before.events ++ deletes before.caller (r ∷ [])

pub deleted_is : (before : Seen MatChunk MatKind) (r : Ref) → IsDeleted before (deleted before r) r
deleted_is before Null = record { caller = refl; asks = refl; names = refl; account = refl; told = sym (append-nil before.events) }
deleted_is before (Held id) = record { caller = refl; asks = refl; names = refl; account = refl; told = refl }

-- ---- What is held

-- a reference that names a tree may be mentioned, and is seen to name it
pub named_mentioned : (seen : Seen MatChunk MatKind) (tree : Tree MatChunk) (r : Ref) → IsNameOf seen.names tree r → MayMention seen r
named_mentioned seen tree Null is = tt
named_mentioned seen tree (Held id) is = named_is_held seen.names tree id is

pub named_seen : (seen : Seen MatChunk MatKind) (tree : Tree MatChunk) (r : Ref) → IsNameOf seen.names tree r → tree_named seen r ≡ tree
named_seen seen tree Null is = sym is
named_seen seen tree (Held id) is = ap tree_of_named is

-- a reference that was given
pub given_mentioned : (before after : Seen MatChunk MatKind) (tree : Tree MatChunk) (r : Ref) → IsGiven before.names tree r after.names → MayMention after r
given_mentioned before after tree r is = named_mentioned after tree r (given_here before.names after.names tree r is).0

pub given_seen : (before after : Seen MatChunk MatKind) (tree : Tree MatChunk) (r : Ref) → IsGiven before.names tree r after.names → tree_named after r ≡ tree
given_seen before after tree r is = named_seen after tree r (given_here before.names after.names tree r is).0

-- ---- A trace

pub traced_done : (before asked after : Seen MatChunk MatKind) (kind : MatKind) (at r : Ref) (number : Result ℤ Memory)
    → before.asks ≡ map.empty
    → IsAnswered before asked kind (at ∷ []) r
    → IfOk number (λ n. n ≡ number_of (tree_named asked r))
    → after ≡ deleted asked r
    → Traces before after kind at number
traced_done before asked after kind at r (Ok number) idle is read end =
    let goal = goal_of kind (tree_named before at ∷ []) in
    let gone = deleted_is asked r in
    let events = Ask before.caller is.task kind (at ∷ []) ∷ Collect before.caller is.task r ∷ [] in
    subst (λ (after : Seen MatChunk MatKind). IsTraced before after kind at number) (sym end) (record {
      caller = gone.caller ∙ is.caller;
      asks = gone.asks ∙ is.asks;
      names = gone.names ∙ (given_here before.names asked.names goal r is.names).1;
      number_is = read ∙ ap number_of (given_seen before asked goal r is.names);
      account = gone.account ∙ is.account;
      r = r;
      null = is.output;
      task = is.task;
      told =
          gone.told
          ∙ ap (λ (c : ℕ). asked.events ++ deletes c (r ∷ [])) is.caller
          ∙ ap (λ (es : List (Event MatKind)). es ++ deletes before.caller (r ∷ [])) is.told
          ∙ append_assoc before.events events (deletes before.caller (r ∷ []));
    })
traced_done before asked after kind at r (Err memory) idle is read end =
    let goal = goal_of kind (tree_named before at ∷ []) in
    let gone = deleted_is asked r in
    subst (λ (after : Seen MatChunk MatKind). IsUndone before after) (sym end) (record {
      caller = gone.caller ∙ is.caller;
      asks = gone.asks ∙ is.asks ∙ idle;
      names = gone.names ∙ (given_here before.names asked.names goal r is.names).1;
    })
