-- What a `Store` ends as, where a `&mut` to one of its values is returned.
use Rattle.std.specs.Prelude.{ℕ, Option}
use Rattle.std.specs.Borrow.{Lends, LendsIf, Fml, RattleType, MutBor}
use Rattle.chunk_store.specs.Contents.{Contents, with_value}
use Rattle.chunk_store.specs.contracts.Store.{the_row}

module _ (B : RattleType) (store : MutBor (Contents B.Denot)) (key : ℕ) where
  -- once the borrow r ends, the key holds the last value written through r, and nothing else changed
  abbrev pub lends_value : MutBor B.Denot → Fml
  lends_value r = Lends (the_row B) B store r (with_value store.now key)

  -- the same where r is a reference, and at `None` nothing changed
  abbrev pub lends_value_at : Option (MutBor B.Denot) → Fml
  lends_value_at r = LendsIf (the_row B) B store r (with_value store.now key) store.now
