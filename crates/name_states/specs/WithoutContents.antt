-- States of names without contents: of each content the number of its children is kept.
use Rattle.std.specs.Prelude.{ℕ, map as each}
use Rattle.std.specs.Ordering.{nat_cmp}
use Rattle.std.specs.FinMap as map
use Rattle.name_states.specs.States.{BodyRecord, NameState}

-- a body with the number of its children in place of its content
abbrev pub without_content : {C : Type 0} → (C → ℕ) → BodyRecord C → BodyRecord ℕ
without_content arity body =
    record { owner = body.owner; content = arity body.content; children = body.children }

-- a map with each value replaced, under the same keys
abbrev pub each_value : {X Y : Type 0} → (X → Y) → map.FinMap nat_cmp X → map.FinMap nat_cmp Y
each_value f m = map.from_sorted (each (λ e. (e.0, f e.1)) (map.entries m))

-- the same names with the number of children in place of each content
abbrev pub without_contents : {C : Type 0} → (C → ℕ) → NameState C → NameState ℕ
without_contents arity names =
    record { ids = names.ids; bodies = each_value (without_content arity) names.bodies }
