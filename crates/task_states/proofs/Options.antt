-- Options and functions over them. For every crate that cites this one's definitions.
use Rattle.std.proofs.Common.{◌≡◌, Option, Some, None, refl, sym, ap, ◌∙◌, ◌⊎◌, inl, inr}
use Rattle.std.specs.Option.{option_map}

pub not_none : {X : Type 0} (o : Option X) (x : X) → o ≡ None → o ≡ Some x → ⊥
not_none {X} o x a b = let clash : None ≡ Some x = sym a ∙ b in cc

pub same_some : {X : Type 0} (x y : X) → Some x ≡ Some y → x ≡ y
same_some x y is = cc

pub none_or_some : {X : Type 0} (o : Option X) → (o ≡ None) ⊎ ((x : X) × (o ≡ Some x))
none_or_some None = inl refl
none_or_some (Some x) = inr (x, refl)

-- what a function was applied to
pub map_behind : {X Y : Type 0} (f : X → Y) (o : Option X) (y : Y) → option_map f o ≡ Some y → (x : X) × (o ≡ Some x) × (f x ≡ y)
map_behind f None y is = absurd (not_none None y refl is)
map_behind f (Some x) y is = (x, refl, same_some (f x) y is)

-- functions that make the same of each value
pub map_same : {X Y : Type 0} (f g : X → Y) → ((x : X) → f x ≡ g x) → (o : Option X) → option_map f o ≡ option_map g o
map_same f g same None = refl
map_same f g same (Some x) = ap Some (same x)

-- a function that leaves each value as it is
pub map_id : {X : Type 0} (f : X → X) → ((x : X) → f x ≡ x) → (o : Option X) → option_map f o ≡ o
map_id f same None = refl
map_id f same (Some x) = ap Some (same x)
