-- The words of the command line, without the program's own name: which command they are, or none.
use Rattle.std.specs.Prelude.{ℕ, ◌^◌, ◌-◌, ◌&&◌, nat_le, if◌then◌else◌, List, [], ◌∷◌, length, Option, None, Some, option_map, codes}
use Rattle.std.specs.Str.{bytes_eq}
use Rattle.cht_ids.specs.Numeral.{are_digits, digits_value}
use Rattle.cht_words.specs.declared.command.Command.{Command}
use Rattle.cht_words.specs.declared.command.Command.TheVariants.{Run, Plain, Load, Journal}

-- ---- Numbers

-- the number of a numeral of 1 to 20 digits, where it lies from low to high
abbrev pub numeral_in : ℕ → ℕ → List ℕ → Option ℕ
numeral_in low high word =
    if nat_le (length word) 20 && are_digits word && nat_le low (digits_value word) && nat_le (digits_value word) high
    then Some (digits_value word) else None

-- a number of workers
abbrev pub workers_in : List ℕ → Option ℕ
workers_in word = numeral_in 1 64 word

-- a number of bodies that a worker's cache may hold
abbrev pub cache_in : List ℕ → Option ℕ
cache_in word = numeral_in 0 65536 word

-- ---- Options

-- the two numbers, where both are there
abbrev pub both : Option ℕ → Option ℕ → Option (ℕ × ℕ)
both None other = None
both (Some one) None = None
both (Some one) (Some other) = Some (one, other)

-- the numbers of workers and of cached bodies: 4 and 256 where no option gives them
abbrev pub options_of : List (List ℕ) → Option (ℕ × ℕ)
options_of [] = Some (4, 256)
options_of (name ∷ value ∷ []) =
    if bytes_eq name (codes "--workers") then both (workers_in value) (Some 256)
    else if bytes_eq name (codes "--cache") then both (Some 4) (cache_in value) else None
options_of (name ∷ value ∷ other ∷ second ∷ []) =
    if bytes_eq name (codes "--workers") && bytes_eq other (codes "--cache") then both (workers_in value) (cache_in second)
    else if bytes_eq name (codes "--cache") && bytes_eq other (codes "--workers") then both (workers_in second) (cache_in value)
    else None
options_of words = None

-- the number of workers of `load`, which takes no other option
abbrev pub workers_of : List (List ℕ) → Option ℕ
workers_of [] = Some 4
workers_of (name ∷ value ∷ []) = if bytes_eq name (codes "--workers") then workers_in value else None
workers_of words = None

-- ---- Commands

-- `plain` has no further words
abbrev pub plain_of : List (List ℕ) → Option Command
plain_of [] = Some Plain
plain_of words = None

-- the numbers of a generated script and of workers, where all are there and the fill is at most the size
abbrev pub load_with : Option ℕ → Option ℕ → Option ℕ → Option ℕ → Option Command
load_with (Some number) (Some size) (Some fill) (Some workers) =
    if nat_le fill size then Some (Load number size fill workers) else None
load_with number size fill workers = None

-- `load` has three numbers before its option
abbrev pub load_of : List (List ℕ) → Option Command
load_of (number ∷ size ∷ fill ∷ words) =
    load_with (numeral_in 0 (2 ^ 64 - 1) number) (numeral_in 1 4096 size) (numeral_in 1 64 fill) (workers_of words)
load_of words = None

-- the command of some words: its name, and what stands behind
abbrev pub command_of : List (List ℕ) → Option Command
command_of [] = None
command_of (name ∷ words) =
    if bytes_eq name (codes "run") then option_map (λ (o : ℕ × ℕ). Run o.0 o.1) (options_of words)
    else if bytes_eq name (codes "plain") then plain_of words
    else if bytes_eq name (codes "load") then load_of words
    else if bytes_eq name (codes "journal") then option_map (λ (o : ℕ × ℕ). Journal o.0 o.1) (options_of words)
    else None
