-- What a cache ends as, once a reference into it has ended.
use Rattle.std.specs.Prelude.{◌≡◌, ⊤}
use Rattle.std.specs.Borrow.{Fml, RattleType, MutBor, follows_so}
use mathlib.Core.Option.{none}
use Rattle.chunk_cache.specs.contracts.cache.Cache.{the_row}
use Rattle.chunk_cache.specs.Held.{Held}

module _ (C : RattleType) (cache : MutBor (Held C.Denot)) where
  -- it holds this
  abbrev pub ends_as : Held C.Denot → Fml
  ends_as held = follows_so (the_row C) (the_row C) cache.ghost_name none (λ _ _. ⊤) (λ last. last ≡ held)
