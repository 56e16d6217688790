-- What a sound outcome is for those who see the inputs alone.
use Rattle.std.proofs.Common.{ℕ, List, sym, subst}
use Rattle.task_types.specs.declared.inputs.Inputs.{Inputs}
use Rattle.task_types.specs.declared.outcome.Outcome.{Outcome}
use Rattle.task_types.specs.Tree.{Tree}
use Rattle.task_types.specs.Shown.{Shows, presences_in}
use Rattle.task_types.specs.Formed.{IsFormed}
use Rattle.task_types.specs.Meanings.{Meanings}
use Rattle.task_types.specs.Sound.{IsSound}
use Rattle.task_types.proofs.Shown.{presences_in-shown}

-- a sound outcome is formed for the inputs that show the trees
pub IsFormed-from_sound : {C K : Type 0} (arity : C → ℕ) (lib : Meanings C K) (kind : K) (inputs : Inputs C) (trees : List (Tree C)) (outcome : Outcome C K) → Shows inputs trees → IsSound arity lib kind trees outcome → IsFormed arity (presences_in inputs) outcome
IsFormed-from_sound arity lib kind inputs trees outcome s sound =
    subst (λ known. IsFormed arity known outcome) (sym (presences_in-shown inputs trees s)) sound.formed
