-- Entries whose tasks are linked in another way among those of a caller.
use Rattle.std.proofs.Common.{◌≡◌, ℕ, true, cond, Option, Some, None, IsSome, nat_eq, refl, ap, ◌∙◌}
use Rattle.std.specs.Option.{option_map}
use Rattle.task_states.proofs.Maps.{test_apart}
use Rattle.task_links.specs.declared.entries.Entry.{Entry}
use Rattle.task_links.specs.Inside.{Station, station_of, station_at}
use Rattle.task_links.specs.Weave.{IsBeside}

pub besides : {K : Type 0} (a b c : ℕ → Option (Entry K)) → IsBeside a b → IsBeside b c → IsBeside a c
besides a b c one two = record {
  heads = λ q. two.heads q ∙ one.heads q;
  links = λ p. two.links p ∙ one.links p;
  places = λ p. two.places p ∙ one.places p;
  shown = λ q. two.shown q ∙ one.shown q;
  counts = λ q. two.counts q ∙ one.counts q;
}

some_behind : {X Y : Type 0} (f : X → Y) (o : Option X) (y : Y) → option_map f o ≡ Some y → IsSome o
some_behind f None y is = let clash : None ≡ Some y = is in absurd (cc)
some_behind f (Some x) y is = refl

-- an entry behind a station
pub entry_behind : {K : Type 0} (entries : ℕ → Option (Entry K)) (q : ℕ) (s : Station) → station_at entries q ≡ Some s → IsSome (entries q)
entry_behind entries q s is = some_behind station_of (entries q) s is

pub station_there : {K : Type 0} (entries : ℕ → Option (Entry K)) (q : ℕ) (e : Entry K) → entries q ≡ Some e → station_at entries q ≡ Some (station_of e)
station_there entries q e is = ap (option_map station_of) is

-- another number is left as it was
pub other_put : {X : Type 0} (old new : ℕ → Option X) (n : ℕ) (o : Option X) → ((q : ℕ) → new q ≡ cond (nat_eq q n) o (old q)) → (q : ℕ) → (q ≡ n → ⊥) → new q ≡ old q
other_put old new n o puts q apart = puts q ∙ ap (λ b. cond b o (old q)) (test_apart q n apart)

pub here_put : {X : Type 0} (old new : ℕ → Option X) (n : ℕ) (o : Option X) → ((q : ℕ) → new q ≡ cond (nat_eq q n) o (old q)) → nat_eq n n ≡ true → new n ≡ o
here_put old new n o puts test = puts n ∙ ap (λ b. cond b o (old n)) test
