use Rattle.std.proofs.Common.{sym, subst}
use Rattle.core_tests.specs.Tried.{MayFinish}
use Rattle.core_tests.proofs.core_courses.run_course.Goals as goal

pub end-requires-clause-sound : goal.end-requires-clause-sound
end-requires-clause-sound c =
    subst (λ core. MayFinish core 2 c.in_ok-made.outcome) (sym c.in_ok-meanwhile.ensures) (c.delete_both.ensures.sound 2 c.in_ok-made.outcome c.in_ok-made.ensures.sound)
