-- A control state that keeps contents, and the same without them.
use Rattle.std.specs.Prelude.{◌≡◌, ℕ, true, List, map as each, Some}
use Rattle.name_states.specs.WithoutContents.{without_contents}
use Rattle.cht_history.specs.declared.event.Event.{Event}
use Rattle.name_machine.specs.Control.{Control, tidied, effect_with}
use Rattle.name_machine.specs.Replay.{Plans, Replayed, arities, is_allowed, happens}

-- the same control state with the number of children in place of each content
abbrev pub forgotten : {C K : Type 0} → (C → ℕ) → Control C (Unit {0}) K → Replayed K
forgotten arity control =
    record {
      drawn = control.drawn;
      names = without_contents arity control.names;
      asks = control.asks;
      graph = control.graph;
    }

-- An event that is allowed does with contents what a replay makes of it without them, where as many contents are registered as the
-- event tells, each with as many children.
abbrev pub ForgettingReplays : {C K : Type 0} → (C → ℕ) → Plans K → Type 0
ForgettingReplays {C} {K} arity plans =
    (control : Control C (Unit {0}) K) (contents : List C) (event : Event K) → each arity contents ≡ arities event
    → is_allowed plans (forgotten arity control) event ≡ true
    → happens plans (forgotten arity control) event ≡ Some (forgotten arity (tidied (effect_with control contents event)))
