-- New chunks that are registered one behind the other.
use Rattle.std.proofs.Common.{◌≡◌, ℕ, zero, suc, ◌+◌, ◌*◌, ◌≤◌, List, [], ◌∷◌, length, take, sym, subst, arith}
use Rattle.cht_ids.specs.declared.refs.Ref.{Ref}
use Rattle.task_types.specs.declared.outcome.NewChunk.{NewChunk}
use Rattle.name_states.specs.declared.holder.Holder.{Holder}
use Rattle.name_states.specs.States.{NameState, AreLive}
use Rattle.name_states.specs.Steps.{present, registered}
use Rattle.name_states.specs.Rules.{AreWithin}
use Rattle.name_states.proofs.Within.{all-live-kept, drawn_few}
use Rattle.name_states.proofs.Sound.{more-registered}
use Rattle.chunk_refs.specs.Room.{Contents, workers_of, spare_of}
use Rattle.core_steps.specs.Registrable.{grown_so_far, AreRegistrable, all_grown}

-- references draw at most as many numbers as there are
pub present_few : (refs : List Ref) → present refs ≤ length refs
present_few [] = omega arith
present_few (r ∷ refs) = let one = drawn_few r in let rest = present_few refs in omega arith

module _ {C : Type 0} where
  -- what stands in front of live references is live
  pub live_taken : (names : NameState C) (n : ℕ) (refs : List Ref) → AreLive names refs → AreLive names (take n refs)
  live_taken names zero refs live = tt
  live_taken names (suc n) [] live = tt
  live_taken names (suc n) (r ∷ refs) live = (live.0, live_taken names n refs live.1)

  -- live references stay so where a body is registered
  pub live_registered : (names after : NameState C) (drawn : ℕ) (holder : Holder) (worker : ℕ) (content : C) (children : List Ref) → AreWithin names drawn
      → after ≡ registered names drawn holder worker content children → (refs : List Ref) → AreLive names refs → AreLive after refs
  live_registered names after drawn holder worker content children within is refs live =
      subst (λ n. AreLive n refs) (sym is)
      (all-live-kept names (registered names drawn holder worker content children) refs (more-registered names drawn holder worker content children within).ids live)

  module _ (arity : C → ℕ) (worker task : ℕ) (inputs : List Ref) (before : Contents C) (drawn : ℕ) (all : List (NewChunk C)) where
    -- The chunks so far: those that are left, registered behind them, make what all of them make from the start.
    pub record AreGrowing (now : Contents C) (counter : ℕ) (made : List Ref) (left : List (NewChunk C)) : Type 0 where
      pub so_far : all_grown worker task inputs left (grown_so_far now.names counter made) ≡ all_grown worker task inputs all (grown_so_far before.names drawn [])
      pub formed : AreRegistrable arity worker task inputs left (grown_so_far now.names counter made)
      pub within : AreWithin now.names counter
      pub live_inputs : AreLive now.names inputs
      pub live_made : AreLive now.names made
      pub stores : workers_of now ≡ workers_of before
      pub bodies : spare_of before worker + length left ≤ spare_of now worker + length all
      pub ids : before.room.ids + 5 * length left ≤ now.room.ids + 5 * length all
      pub numbers : counter + 6 * length left ≤ drawn + 6 * length all
      pub count : length made + length left ≡ length all
