-- The first line of an event, and the last line of a text, as a reader sees them before the lines behind.
use Rattle.std.specs.Prelude.{ℕ, Bool, ◌<◌, ◌^◌, if◌then◌else◌, List, [], ◌∷◌, map, codes, Option, None, Some}
use Rattle.std.specs.Str.{bytes_eq}
use Rattle.cht_ids.specs.Lines.{pieces_of}
use Rattle.cht_ids.specs.Refs.{id_text, ref_text}
use Rattle.journal_text.specs.declared.head.Verb.{Verb}
use Rattle.journal_text.specs.declared.head.Verb.TheVariants.{Register as RegisterVerb, Copy as CopyVerb, Delete as DeleteVerb, Ask as AskVerb, Collect as CollectVerb, Abandon as AbandonVerb, Stop as StopVerb, Start as StartVerb, GiveBack as GiveBackVerb, Finish as FinishVerb, End as EndVerb}
use Rattle.journal_text.specs.declared.head.Head.{Head}
use Rattle.journal_text.specs.declared.head.Head.TheVariants.{Register, Copy, Delete, Ask, Collect, Abandon, Stop, Start, GiveBack, Finish, End}
use Rattle.journal_text.specs.Text.{number, place_text}
use Rattle.journal_text.specs.Bounds.{IsActor, IsNumber, IsName, IsMention, AreMentions, IsPlace, IsLow}

-- the words that are left of a line
abbrev pub words_left : Bool → List ℕ → List (List ℕ)
words_left more rest = if more then pieces_of rest else []

-- the word of a verb
abbrev pub verb_text : Verb → List ℕ
verb_text RegisterVerb = codes "register"
verb_text CopyVerb = codes "copy"
verb_text DeleteVerb = codes "delete"
verb_text AskVerb = codes "ask"
verb_text CollectVerb = codes "collect"
verb_text AbandonVerb = codes "abandon"
verb_text StopVerb = codes "stop"
verb_text StartVerb = codes "start"
verb_text GiveBackVerb = codes "give_back"
verb_text FinishVerb = codes "finish"
verb_text EndVerb = codes "end"

-- the verb that a word is
abbrev pub verb_named : List ℕ → Option Verb
verb_named word =
    if bytes_eq word (codes "register") then Some RegisterVerb
    else if bytes_eq word (codes "copy") then Some CopyVerb
    else if bytes_eq word (codes "delete") then Some DeleteVerb
    else if bytes_eq word (codes "ask") then Some AskVerb
    else if bytes_eq word (codes "collect") then Some CollectVerb
    else if bytes_eq word (codes "abandon") then Some AbandonVerb
    else if bytes_eq word (codes "stop") then Some StopVerb
    else if bytes_eq word (codes "start") then Some StartVerb
    else if bytes_eq word (codes "give_back") then Some GiveBackVerb
    else if bytes_eq word (codes "finish") then Some FinishVerb
    else if bytes_eq word (codes "end") then Some EndVerb
    else None

module _ {K : Type 0} where
  -- what a line begins with
  abbrev pub verb_of : Head K → Verb
  verb_of (Register caller id children) = RegisterVerb
  verb_of (Copy caller from to) = CopyVerb
  verb_of (Delete caller id) = DeleteVerb
  verb_of (Ask caller task kind inputs) = AskVerb
  verb_of (Collect caller task got) = CollectVerb
  verb_of (Abandon caller) = AbandonVerb
  verb_of (Stop caller) = StopVerb
  verb_of (Start worker task) = StartVerb
  verb_of (GiveBack worker task) = GiveBackVerb
  verb_of (Finish worker task chunks tasks result) = FinishVerb
  verb_of (End count) = EndVerb

module _ {K : Type 0} (name_of : K → List ℕ) (height_of : K → ℕ) where
  -- the words behind it
  abbrev pub tail_words : Head K → List (List ℕ)
  tail_words (Register caller id children) = number caller ∷ id_text id ∷ map ref_text children
  tail_words (Copy caller from to) = number caller ∷ id_text from ∷ id_text to ∷ []
  tail_words (Delete caller id) = number caller ∷ id_text id ∷ []
  tail_words (Ask caller task kind inputs) = number caller ∷ number task ∷ name_of kind ∷ number (height_of kind) ∷ map ref_text inputs
  tail_words (Collect caller task got) = number caller ∷ number task ∷ ref_text got ∷ []
  tail_words (Abandon caller) = number caller ∷ []
  tail_words (Stop caller) = number caller ∷ []
  tail_words (Start worker task) = number worker ∷ number task ∷ []
  tail_words (GiveBack worker task) = number worker ∷ number task ∷ []
  tail_words (Finish worker task chunks tasks result) = number worker ∷ number task ∷ number chunks ∷ number tasks ∷ place_text result ∷ []
  tail_words (End count) = number count ∷ []

  -- all words of a line
  abbrev pub head_words : Head K → List (List ℕ)
  head_words head = verb_text (verb_of head) ∷ tail_words head

module _ {K : Type 0} (height_of : K → ℕ) where
  -- a line all of whose numbers are in their ranges
  abbrev pub IsHead : Head K → Type 0
  IsHead (Register caller id children) = IsActor caller × IsName id × AreMentions children
  IsHead (Copy caller from to) = IsActor caller × IsName from × IsName to
  IsHead (Delete caller id) = IsActor caller × IsName id
  IsHead (Ask caller task kind inputs) = IsActor caller × IsNumber task × IsLow height_of kind × AreMentions inputs
  IsHead (Collect caller task got) = IsActor caller × IsNumber task × IsMention got
  IsHead (Abandon caller) = IsActor caller
  IsHead (Stop caller) = IsActor caller
  IsHead (Start worker task) = IsActor worker × IsNumber task
  IsHead (GiveBack worker task) = IsActor worker × IsNumber task
  IsHead (Finish worker task chunks tasks result) = IsActor worker × IsNumber task × (chunks < 2 ^ 64) × (tasks < 2 ^ 64) × IsPlace result
  IsHead (End count) = count < 2 ^ 64
