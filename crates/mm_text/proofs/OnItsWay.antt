-- A text on its way to a sink: what is added to it, a fault, and its end.
use Rattle.std.proofs.Common.{◌≡◌, ℕ, List, [], ◌++◌, Option, refl, sym, ap, ◌∙◌, subst, append-nil}
use Rattle.cht_io.specs.Bytes.{Adds, AddsFront}
use Rattle.cht_io.proofs.Adds.{Adds_nil, Adds_then, AddsFront_then}
use Rattle.mm_text.specs.Written.{IsOnItsWay}
use Rattle.mm_text.proofs.Passing.{IsCut_held, IsCut_taken}

-- at the start all of it is held
pub way_begins : (now : Option (List ℕ)) (text : List ℕ) → IsOnItsWay now text text now
way_begins now text = ([], refl, Adds_nil now)

-- more was added
pub way_on : (before between after : Option (List ℕ)) (text held more left : List ℕ) → IsOnItsWay before text held between
    → IsOnItsWay between (held ++ more) left after → IsOnItsWay before (text ++ more) left after
way_on before between after text held more left so_far next =
    let cut = IsCut_taken before between after (text ++ more) (held ++ more) next.0 left
    (IsCut_held before between text held more (record { front = so_far.0; whole = so_far.1; taken = so_far.2 })) next.1 next.2 in
    (cut.front, cut.whole, cut.taken)

-- a fault leaves a front of the text
pub way_fails : (before between after : Option (List ℕ)) (text held : List ℕ) → IsOnItsWay before text held between → AddsFront between held after
    → AddsFront before text after
way_fails before between after text held so_far front =
    let P : List ℕ → Type 0 = λ all. AddsFront before all after in
    subst P so_far.1 (AddsFront_then before between after so_far.0 held so_far.2 front)

-- once what is held was taken, all of it was
pub way_ends : (before between after : Option (List ℕ)) (text held : List ℕ) → IsOnItsWay before text held between → Adds between held after
    → Adds before text after
way_ends before between after text held so_far taken =
    let P : List ℕ → Type 0 = λ all. Adds before all after in
    subst P so_far.1 (Adds_then before between after so_far.0 held so_far.2 taken)
