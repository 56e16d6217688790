-- Events and the first lines that tell of them.
use Rattle.std.proofs.Common.{◌≡◌, ℕ, List, [], length, Option, None, Some, refl}
use Rattle.cht_history.specs.declared.event.Event.{Event}
use Rattle.cht_history.specs.declared.event.Event.TheVariants.{Register as RegisterEvent, Copy as CopyEvent, Delete as DeleteEvent, Ask as AskEvent, Collect as CollectEvent, Abandon as AbandonEvent, Stop as StopEvent, Start as StartEvent, GiveBack as GiveBackEvent, Finish as FinishEvent}
use Rattle.journal_text.specs.declared.head.Head.{Head}
use Rattle.journal_text.specs.declared.head.Head.TheVariants.{Register, Copy, Delete, Ask, Collect, Abandon, Stop, Start, GiveBack, Finish, End}
use Rattle.journal_text.specs.Text.{event_words, further_lines}
use Rattle.journal_text.specs.Bounds.{IsWithin}
use Rattle.journal_text.specs.Heads.{head_words, IsHead}
use Rattle.journal_text.specs.Told.{told}

module _ {K : Type 0} where
  -- the first line of an event
  abbrev pub head_of : Event K → Head K
  head_of (RegisterEvent caller id children) = Register caller id children
  head_of (CopyEvent caller from to) = Copy caller from to
  head_of (DeleteEvent caller id) = Delete caller id
  head_of (AskEvent caller task kind inputs) = Ask caller task kind inputs
  head_of (CollectEvent caller task got) = Collect caller task got
  head_of (AbandonEvent caller) = Abandon caller
  head_of (StopEvent caller) = Stop caller
  head_of (StartEvent worker task) = Start worker task
  head_of (GiveBackEvent worker task) = GiveBack worker task
  head_of (FinishEvent worker task chunks tasks result) = Finish worker task (length chunks) (length tasks) result

  -- the event that is told by its first line alone, where there is one
  abbrev pub event_at : Head K → Option (Event K)
  event_at (Register caller id children) = Some (RegisterEvent caller id children)
  event_at (Copy caller from to) = Some (CopyEvent caller from to)
  event_at (Delete caller id) = Some (DeleteEvent caller id)
  event_at (Ask caller task kind inputs) = Some (AskEvent caller task kind inputs)
  event_at (Collect caller task got) = Some (CollectEvent caller task got)
  event_at (Abandon caller) = Some (AbandonEvent caller)
  event_at (Stop caller) = Some (StopEvent caller)
  event_at (Start worker task) = Some (StartEvent worker task)
  event_at (GiveBack worker task) = Some (GiveBackEvent worker task)
  event_at (Finish worker task chunks tasks result) = None
  event_at (End count) = None

  -- no event's first line is the last line of a text
  pub not_end : (event : Event K) (count : ℕ) → head_of event ≡ End count → ⊥
  not_end (RegisterEvent caller id children) count e = cc
  not_end (CopyEvent caller from to) count e = cc
  not_end (DeleteEvent caller id) count e = cc
  not_end (AskEvent caller task kind inputs) count e = cc
  not_end (CollectEvent caller task got) count e = cc
  not_end (AbandonEvent caller) count e = cc
  not_end (StopEvent caller) count e = cc
  not_end (StartEvent worker task) count e = cc
  not_end (GiveBackEvent worker task) count e = cc
  not_end (FinishEvent worker task chunks tasks result) count e = cc

  -- an event that is told by its first line alone is the one that this line tells
  pub told_at : (event one : Event K) → event_at (head_of event) ≡ Some one → told event ≡ one
  told_at (RegisterEvent caller id children) one e = cc
  told_at (CopyEvent caller from to) one e = cc
  told_at (DeleteEvent caller id) one e = cc
  told_at (AskEvent caller task kind inputs) one e = cc
  told_at (CollectEvent caller task got) one e = cc
  told_at (AbandonEvent caller) one e = cc
  told_at (StopEvent caller) one e = cc
  told_at (StartEvent worker task) one e = cc
  told_at (GiveBackEvent worker task) one e = cc
  told_at (FinishEvent worker task chunks tasks result) one e = absurd cc

module _ {K : Type 0} (name_of : K → List ℕ) (height_of : K → ℕ) where
  -- the words of that line
  pub words_at : (event : Event K) → head_words name_of height_of (head_of event) ≡ event_words name_of height_of event
  words_at (RegisterEvent caller id children) = refl
  words_at (CopyEvent caller from to) = refl
  words_at (DeleteEvent caller id) = refl
  words_at (AskEvent caller task kind inputs) = refl
  words_at (CollectEvent caller task got) = refl
  words_at (AbandonEvent caller) = refl
  words_at (StopEvent caller) = refl
  words_at (StartEvent worker task) = refl
  words_at (GiveBackEvent worker task) = refl
  words_at (FinishEvent worker task chunks tasks result) = refl

  -- no lines follow it where it tells the event alone
  pub alone_at : (event one : Event K) → event_at (head_of event) ≡ Some one → further_lines name_of height_of event ≡ []
  alone_at (RegisterEvent caller id children) one e = refl
  alone_at (CopyEvent caller from to) one e = refl
  alone_at (DeleteEvent caller id) one e = refl
  alone_at (AskEvent caller task kind inputs) one e = refl
  alone_at (CollectEvent caller task got) one e = refl
  alone_at (AbandonEvent caller) one e = refl
  alone_at (StopEvent caller) one e = refl
  alone_at (StartEvent worker task) one e = refl
  alone_at (GiveBackEvent worker task) one e = refl
  alone_at (FinishEvent worker task chunks tasks result) one e = absurd cc

module _ {K : Type 0} (height_of : K → ℕ) where
  -- the numbers of an event's first line are in their ranges
  pub within_head : (event : Event K) → IsWithin height_of event → IsHead height_of (head_of event)
  within_head (RegisterEvent caller id children) within = within
  within_head (CopyEvent caller from to) within = within
  within_head (DeleteEvent caller id) within = within
  within_head (AskEvent caller task kind inputs) within = within
  within_head (CollectEvent caller task got) within = within
  within_head (AbandonEvent caller) within = within
  within_head (StopEvent caller) within = within
  within_head (StartEvent worker task) within = within
  within_head (GiveBackEvent worker task) within = within
  within_head (FinishEvent worker task chunks tasks result) within = (within.0, within.1, within.2, within.4, within.6)

  -- and those of an event, where that line tells it alone
  pub head_within : (event one : Event K) → event_at (head_of event) ≡ Some one → IsHead height_of (head_of event) → IsWithin height_of event
  head_within (RegisterEvent caller id children) one e within = within
  head_within (CopyEvent caller from to) one e within = within
  head_within (DeleteEvent caller id) one e within = within
  head_within (AskEvent caller task kind inputs) one e within = within
  head_within (CollectEvent caller task got) one e within = within
  head_within (AbandonEvent caller) one e within = within
  head_within (StopEvent caller) one e within = within
  head_within (StartEvent worker task) one e within = within
  head_within (GiveBackEvent worker task) one e within = within
  head_within (FinishEvent worker task chunks tasks result) one e within = absurd cc
