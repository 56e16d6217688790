-- The numbers of the ways in which a run ends, and how it ends as its statements do.
use Rattle.std.specs.Prelude.{ℕ}
use Rattle.cht_session.specs.declared.ended.Ended.{Ended}
use Rattle.cht_session.specs.declared.ended.Ended.TheVariants as ended
use Rattle.cht_run.specs.declared.status.Status.{Status}
use Rattle.cht_run.specs.declared.status.Status.TheVariants.{Done, Usage, Refused, ReadFault, WriteFault, Memory}

-- the number of each status
abbrev pub number_of_status : Status → ℕ
number_of_status Done = 0
number_of_status Usage = 1
number_of_status (Refused fault) = 2
number_of_status ReadFault = 3
number_of_status WriteFault = 4
number_of_status Memory = 5

-- the status of a run whose statements ended so
abbrev pub status_of : Ended → Status
status_of ended.Done = Done
status_of (ended.Refused fault) = Refused fault
status_of ended.WriteFault = WriteFault
status_of ended.Memory = Memory
