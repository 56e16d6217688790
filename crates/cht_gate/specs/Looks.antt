-- What a clause reads of a gate at which executions meet.
use Rattle.std.specs.Prelude.{ℕ}
use Rattle.cht_gate.specs.declared.meet.MeetGate.{MeetGate}

-- how often an execution that is held looks for another one
abbrev pub looks_of : MeetGate → ℕ
looks_of gate = gate.turns
