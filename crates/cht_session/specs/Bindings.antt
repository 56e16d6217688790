-- What a run holds of the names that are bound: for each its shape, its form and its reference, and all references in the order in which they
-- were bound.
use Rattle.std.specs.Prelude.{◌≡◌, ℕ, if◌then◌else◌, List, length, Option, None, Some, slice_get, slice_set}
use Rattle.std.specs.BTreeMap as tree
use Rattle.std.specs.Cmp.Lexicographic.{slice_cmp}
use Rattle.std.specs.Ordering.{nat_cmp}
use Rattle.std.specs.Borrow.{Bor}
use Rattle.std.specs.Str.{bytes_eq}
use Rattle.cht_ids.specs.declared.refs.Ref.{Ref}
use Rattle.cht_ids.specs.declared.refs.Ref.TheVariants.{Null}
use Rattle.cht_script.specs.declared.checked.Shape.{Shape}
use Rattle.cht_script.specs.Statements.{general}
use Rattle.cht_session.specs.declared.held.Binding.{Binding}
use Rattle.cht_session.specs.declared.held.Held.{Held}

-- ---- What is found

-- what is held of a name
abbrev pub look : List ℕ → tree.BTreeMap (Bor (List ℕ)) Binding → Option Binding
look name named = tree.get_by (λ (key : Bor (List ℕ)). slice_cmp nat_cmp name key.now) named

-- what is held of a name in a run
abbrev pub found_in : Held → List ℕ → Option Binding
found_in held name = look name held.named

-- the shape and form of what was found; a general one without rows and columns where nothing was
abbrev pub shape_found : Option Binding → Shape
shape_found None = general 0 0
shape_found (Some one) = one.shape

-- the shape and form of a name
abbrev pub shape_at : Held → List ℕ → Shape
shape_at held name = shape_found (found_in held name)

-- each name's reference stands at its number in the order of all, and no other name has that number
pub record IsOrdered (held : Held) : Type 0 where
  pub stands : (name : List ℕ) (one : Binding) → found_in held name ≡ Some one → slice_get held.order.items one.number ≡ Some one.at
  pub apart : (a b : List ℕ) (one other : Binding) → found_in held a ≡ Some one → found_in held b ≡ Some other → one.number ≡ other.number → a ≡ b

-- ---- Changes

-- all that is held stays as it was
pub record IsSameHeld (held later : Held) : Type 0 where
  pub leaf : later.leaf ≡ held.leaf
  pub height : later.height ≡ held.height
  pub found : (name : List ℕ) → found_in later name ≡ found_in held name
  pub order : later.order.items ≡ held.order.items

-- one name has this binding from now on, or none; all others have what they had
abbrev pub Puts : Held → List ℕ → Option Binding → Held → Type 0
Puts held name put later = (other : List ℕ) → found_in later other ≡ (if bytes_eq name other then put else found_in held other)

-- a name was bound to a reference, which came behind all others
abbrev pub IsAdded : Held → List ℕ → Shape → Ref → Held → Type 0
IsAdded held name shape at later =
    Puts held name (Some (record { shape = shape; at = at; number = length held.order.items })) later

-- a name was ended for which this was found: its reference, if there is one, is no longer in the order
abbrev pub EndsAs : Option Binding → Held → List ℕ → Ref → Held → Type 0
EndsAs None held name r later = (r ≡ Null) × (later.order.items ≡ held.order.items) × Puts held name None later
EndsAs (Some one) held name r later =
    (r ≡ one.at) × (later.order.items ≡ slice_set held.order.items one.number Null) × Puts held name None later

-- a name was ended
abbrev pub IsEnded : Held → List ℕ → Ref → Held → Type 0
IsEnded held name r later = EndsAs (found_in held name) held name r later
