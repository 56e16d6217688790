-- A task has another worker, or another asked output, and its caller as many Running tasks as that makes.
use Rattle.std.proofs.Common.{◌≡◌, ℕ, Option, Some, ap, sym, subst, ◌∙◌, length}
use Rattle.std.specs.Option.{option_map}
use Rattle.task_states.specs.Steps.{with_task}
use Rattle.task_links.specs.declared.callers.Caller.{Caller}
use Rattle.task_links.specs.declared.entries.Entry.{Entry}
use Rattle.task_links.specs.Callers.{caller_at, with_running_at}
use Rattle.task_links.specs.Inside.{caller_in, entries_at, put_in, with_runner_at, with_asked_at, shown_entry}
use Rattle.task_links.specs.Weave.{IsUnused, link_at}
use Rattle.task_graph.specs.declared.parts.Parts.{Parts}
use Rattle.task_graph.specs.Graphs.{graph_of, IsWhole, IsRevised}
use Rattle.task_graph.proofs.Marking.{ask_revised, as_changed}
use Rattle.task_graph.proofs.Revising.{revised-graph, revised-whole, runner_put, asked_put, same_rows}
use Rattle.task_graph.proofs.Runs.{row_there, task_there}
use Rattle.task_states.proofs.Options.{same_some}

-- the caller of an entry, as it was answered
pub caller_is : {K : Type 0} (o : Option (Entry K)) (e : Entry K) (caller : ℕ) → o ≡ Some e → option_map caller_in o ≡ Some caller → e.caller ≡ caller
caller_is o e caller is answered = same_some e.caller caller (sym (ap (option_map caller_in) is) ∙ answered)

module _ {K : Type 0} (old new : Parts K) (t : ℕ) (e : Entry K) (runner : Option ℕ) (caller count : ℕ) (whole : IsWhole old) (is : entries_at old.entries t ≡ Some e)
    (own : e.caller ≡ caller) (revised : IsRevised old t e runner e.asked count)
    (writes : (q : ℕ) → entries_at new.entries q ≡ option_map (with_runner_at q t runner) (entries_at old.entries q))
    (rows : (q : ℕ) → caller_at new.callers q ≡ option_map (with_running_at q caller count) (caller_at old.callers q)) (len : length new.callers.rows ≡ length old.callers.rows) where
  run-at : (q : ℕ) → entries_at new.entries q ≡ put_in t (record e { runner = runner }) (entries_at old.entries) q
  run-at = runner_put (entries_at old.entries) (entries_at new.entries) t runner e is writes

  own_rows : (q : ℕ) → caller_at new.callers q ≡ option_map (with_running_at q e.caller count) (caller_at old.callers q)
  own_rows = subst (λ n. (q : ℕ) → caller_at new.callers q ≡ option_map (with_running_at q n count) (caller_at old.callers q)) (sym own) rows

  pub run-whole : IsWhole new
  run-whole = revised-whole old new t e runner e.asked count whole is revised run-at own_rows len

  pub run-graph : graph_of new ≡ with_task (graph_of old) t (λ u. record u { runner = runner })
  run-graph = revised-graph old new t e runner e.asked count whole is revised run-at own_rows len ∙ as_changed (graph_of old) t (shown_entry e) (λ u. record u { runner = runner }) (task_there old t e is)

module _ {K : Type 0} (old new : Parts K) (t : ℕ) (e : Entry K) (asked : Option ℕ) (whole : IsWhole old) (is : entries_at old.entries t ≡ Some e)
    (free : (n : ℕ) → asked ≡ Some n → IsUnused (link_at (entries_at old.entries)) n) (callers : new.callers ≡ old.callers)
    (writes : (q : ℕ) → entries_at new.entries q ≡ option_map (with_asked_at q t asked) (entries_at old.entries q)) where
  row : (row : Caller) × (caller_at old.callers e.caller ≡ Some row)
  row = row_there old whole t e is

  revised : IsRevised old t e e.runner asked row.0.running
  revised = ask_revised old t e row.0 asked whole is row.1 free

  puts : (q : ℕ) → entries_at new.entries q ≡ put_in t (record e { asked = asked }) (entries_at old.entries) q
  puts = asked_put (entries_at old.entries) (entries_at new.entries) t asked e is writes

  rows : (q : ℕ) → caller_at new.callers q ≡ option_map (with_running_at q e.caller row.0.running) (caller_at old.callers q)
  rows q = ap (λ rows. caller_at rows q) callers ∙ same_rows (caller_at old.callers) e.caller row.0 row.1 q

  len : length new.callers.rows ≡ length old.callers.rows
  len = ap (λ callers. length callers.rows) callers

  pub asked-whole : IsWhole new
  asked-whole = revised-whole old new t e e.runner asked row.0.running whole is revised puts rows len

  pub asked-graph : graph_of new ≡ with_task (graph_of old) t (λ u. record u { asked = asked })
  asked-graph = revised-graph old new t e e.runner asked row.0.running whole is revised puts rows len ∙ as_changed (graph_of old) t (shown_entry e) (λ u. record u { asked = asked }) (task_there old t e is)
