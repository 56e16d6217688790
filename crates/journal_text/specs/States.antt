-- How far a text was read: the events that are whole, and one whose lines are still to come.
use Rattle.std.specs.Prelude.{◌≡◌, ℕ, ◌+◌, ◌-◌, ◌<◌, ◌^◌, List, [], ◌∷◌, ◌++◌, length, map, codes, Option, None, Some, Result, Ok, Err}
use Rattle.std.specs.List.{flat_map, AllByRecursion}
use Rattle.task_types.specs.declared.outcome.Places.{Places}
use Rattle.task_types.specs.declared.outcome.NewTask.{NewTask}
use Rattle.cht_history.specs.declared.event.Event.{Event}
use Rattle.cht_history.specs.declared.event.Event.TheVariants.{Register as RegisterEvent, Copy as CopyEvent, Delete as DeleteEvent, Ask as AskEvent, Collect as CollectEvent, Abandon as AbandonEvent, Stop as StopEvent, Start as StartEvent, GiveBack as GiveBackEvent, Finish}
use Rattle.journal_text.specs.declared.open.Open.{Open}
use Rattle.journal_text.specs.declared.open.Begun.{Begun}
use Rattle.journal_text.specs.declared.open.Begun.TheVariants.{Whole, Part, Last}
use Rattle.journal_text.specs.declared.open.Halt.{Halt}
use Rattle.journal_text.specs.declared.open.Halt.TheVariants.{Wrong, Ended, NoMemory}
use Rattle.journal_text.specs.declared.head.Head.{Head}
use Rattle.journal_text.specs.declared.head.Head.TheVariants.{Register, Copy, Delete, Ask, Collect, Abandon, Stop, Start, GiveBack, Finish as FinishHead, End}
use Rattle.journal_text.specs.Text.{number, place_text, chunk_words, task_words, event_lines, last_words}
use Rattle.journal_text.specs.Bounds.{IsActor, IsNumber, IsPlace, ArePlaces, IsTask, AreWithin}
use Rattle.journal_text.specs.Told.{told, told_places, told_task}

module _ {K : Type 0} where
  -- the event of a finish whose other lines are these
  abbrev pub closed : Open K → List Places → List (NewTask K) → Event K
  closed open_one chunks tasks = Finish open_one.worker open_one.task (open_one.chunks ++ chunks) (open_one.tasks ++ tasks) open_one.result

  -- that event, where there is one
  abbrev pub closing : Option (Open K) → List Places → List (NewTask K) → List (Event K)
  closing None chunks tasks = []
  closing (Some open_one) chunks tasks = closed open_one chunks tasks ∷ []

  -- with one more new chunk, or one more new task
  abbrev pub chunk_taken : Open K → Places → Open K
  chunk_taken it places = record it { chunks = it.chunks ++ places ∷ []; chunks_left = it.chunks_left - 1 }

  abbrev pub task_taken : Open K → NewTask K → Open K
  task_taken it task = record it { tasks = it.tasks ++ task ∷ []; tasks_left = it.tasks_left - 1 }

  -- how many lines of chunks and of tasks are still to come
  abbrev pub chunks_left : Option (Open K) → ℕ
  chunks_left None = 0
  chunks_left (Some open_one) = open_one.chunks_left

  abbrev pub tasks_left : Option (Open K) → ℕ
  tasks_left None = 0
  tasks_left (Some open_one) = open_one.tasks_left

module _ {K : Type 0} (name_of : K → List ℕ) (height_of : K → ℕ) where
  -- the lines that were read of an event
  abbrev pub open_lines : Option (Open K) → List (List (List ℕ))
  open_lines None = []
  open_lines (Some it) =
      (codes "finish" ∷ number it.worker ∷ number it.task ∷ number (length it.chunks + it.chunks_left) ∷ number (length it.tasks + it.tasks_left) ∷ place_text it.result ∷ [])
      ∷ map chunk_words it.chunks ++ map (task_words name_of height_of) it.tasks

  -- the lines that were read behind the first one
  abbrev pub lines_read : List (Event K) → Option (Open K) → List (List (List ℕ))
  lines_read events it = flat_map (event_lines name_of height_of) events ++ open_lines it

  -- Lines go on from there: those of the chunks and tasks that are to come, those of more events, and the last line. All events together,
  -- as the text tells them, are these.
  pub record GoesOn (events : List (Event K)) (it : Option (Open K)) (lines : List (List (List ℕ))) (all : List (Event K)) : Type 0 where
    pub chunks : List Places
    pub tasks : List (NewTask K)
    pub more : List (Event K)
    pub chunks_many : length chunks ≡ chunks_left it
    pub tasks_many : length tasks ≡ tasks_left it
    pub chunks_within : AllByRecursion ArePlaces chunks
    pub tasks_within : AllByRecursion (IsTask height_of) tasks
    pub within : AreWithin height_of more
    pub all_are : all ≡ (events ++ closing it (map told_places chunks) (map told_task tasks)) ++ map told more
    pub lines_are : lines ≡ map chunk_words chunks ++ (map (task_words name_of height_of) tasks ++ (flat_map (event_lines name_of height_of) more ++ last_words (length all) ∷ []))

module _ {K : Type 0} (height_of : K → ℕ) where
  -- an event whose lines were read so far: its numbers are in their ranges, and no task came before the last chunk
  pub record IsOpen (it : Open K) : Type 0 where
    pub worker : IsActor it.worker
    pub task : IsNumber it.task
    pub result : IsPlace it.result
    pub chunks : AllByRecursion ArePlaces it.chunks
    pub tasks : AllByRecursion (IsTask height_of) it.tasks
    pub chunks_few : length it.chunks + it.chunks_left < 2 ^ 64
    pub tasks_few : length it.tasks + it.tasks_left < 2 ^ 64
    pub order : 0 < it.chunks_left → it.tasks ≡ []

  abbrev pub MayBeOpen : Option (Open K) → Type 0
  MayBeOpen None = Unit {0}
  MayBeOpen (Some it) = IsOpen it × (0 < it.chunks_left + it.tasks_left)

module _ {K : Type 0} where
  -- what a first line begins: a whole event, a finish whose other lines are to come, or the end
  abbrev pub begun_of : Head K → Begun K
  begun_of (Register caller id children) = Whole (RegisterEvent caller id children)
  begun_of (Copy caller from to) = Whole (CopyEvent caller from to)
  begun_of (Delete caller id) = Whole (DeleteEvent caller id)
  begun_of (Ask caller task kind inputs) = Whole (AskEvent caller task kind inputs)
  begun_of (Collect caller task got) = Whole (CollectEvent caller task got)
  begun_of (Abandon caller) = Whole (AbandonEvent caller)
  begun_of (Stop caller) = Whole (StopEvent caller)
  begun_of (Start worker task) = Whole (StartEvent worker task)
  begun_of (GiveBack worker task) = Whole (GiveBackEvent worker task)
  begun_of (FinishHead worker task chunks tasks result) =
      Part record { worker = worker; task = task; result = result; chunks = []; tasks = []; chunks_left = chunks; tasks_left = tasks }
  begun_of (End count) = Last count

  -- an event was added, or there was no memory
  abbrev pub IsAdded : List (Event K) → Event K → Result (Option (Open K)) Halt → List (Event K) → Type 0
  IsAdded events event (Ok it) now = (it ≡ None) × (now ≡ events ++ event ∷ [])
  IsAdded events event (Err NoMemory) now = Unit {0}
  IsAdded events event (Err Wrong) now = ⊥
  IsAdded events event (Err Ended) now = ⊥

module _ {K : Type 0} (name_of : K → List ℕ) (height_of : K → ℕ) where
  -- From a state whose lines were read, another one with the same lines, from which lines go on as before: where no more are to come of
  -- an event, it is added.
  abbrev pub IsSettled : List (Event K) → Open K → Result (Option (Open K)) Halt → List (Event K) → Type 0
  IsSettled events it (Ok next) now =
      (lines_read name_of height_of now next ≡ lines_read name_of height_of events (Some it)) × AreWithin height_of now × MayBeOpen height_of next
      × ((rest : List (List (List ℕ))) (all : List (Event K)) → GoesOn name_of height_of events (Some it) rest all → GoesOn name_of height_of now next rest all)
  IsSettled events it (Err NoMemory) now = Unit {0}
  IsSettled events it (Err Wrong) now = ⊥
  IsSettled events it (Err Ended) now = ⊥

  -- One more line was read: the next state has it, and lines go on from it as from the one before with the line in front. Or no lines go
  -- on with it. Or it is the last line, and no lines follow it.
  abbrev pub IsStep : List (Event K) → Option (Open K) → List (List ℕ) → Result (Option (Open K)) Halt → List (Event K) → Type 0
  IsStep events it words (Ok next) now =
      (lines_read name_of height_of now next ≡ lines_read name_of height_of events it ++ words ∷ []) × AreWithin height_of now × MayBeOpen height_of next
      × ((rest : List (List (List ℕ))) (all : List (Event K)) → GoesOn name_of height_of events it (words ∷ rest) all → GoesOn name_of height_of now next rest all)
  IsStep events it words (Err Wrong) now = (rest : List (List (List ℕ))) (all : List (Event K)) → GoesOn name_of height_of events it (words ∷ rest) all → ⊥
  IsStep events it words (Err Ended) now =
      (it ≡ None) × (now ≡ events) × (words ≡ last_words (length events))
      × ((rest : List (List (List ℕ))) (all : List (Event K)) → GoesOn name_of height_of events it (words ∷ rest) all → (rest ≡ []) × (all ≡ events))
  IsStep events it words (Err NoMemory) now = Unit {0}
