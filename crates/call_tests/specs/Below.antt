-- Numbers that were drawn.
use Rattle.std.specs.Prelude.{ℕ, ◌≤◌}
use Rattle.cht_ids.specs.declared.refs.Ref.{Ref}
use Rattle.task_states.specs.declared.states.Awaiter.{Awaiter}
use Rattle.task_states.specs.States.{Graph}
use Rattle.task_states.specs.Awaiters.{number_of, IsAwaiter}

-- no awaiter has a greater number than the last that was drawn
abbrev pub AreBelow : {K : Type 0} → Graph Ref K → ℕ → Type 0
AreBelow graph drawn = (task : ℕ) (awaiter : Awaiter) → IsAwaiter graph task awaiter → number_of awaiter ≤ drawn
