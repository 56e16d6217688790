-- What one more line makes of a state.
use Rattle.std.proofs.Common.{◌≡◌, ℕ, ◌+◌, ◌-◌, ◌<◌, ◌^◌, List, [], ◌∷◌, ◌++◌, length, Option, None, Some, Result, Ok, Err, refl, sym, ap, ◌∙◌, subst, arith, length-append}
use Rattle.std.specs.Prelude.{map}
use Rattle.std.specs.List.{flat_map, AllByRecursion}
use Rattle.std.proofs.lemmas.List.{append_assoc, append-nil, map-append}
use Rattle.std.proofs.lemmas.List.Concat.{flat_map-append}
use Rattle.task_types.specs.declared.outcome.Place.{Place}
use Rattle.task_types.specs.declared.outcome.Places.{Places}
use Rattle.task_types.specs.declared.outcome.NewTask.{NewTask}
use Rattle.cht_history.specs.declared.event.Event.{Event}
use Rattle.cht_history.specs.declared.event.Event.TheVariants.{Finish as FinishEvent}
use Rattle.journal_text.specs.declared.head.Head.{Head}
use Rattle.journal_text.specs.declared.head.Head.TheVariants.{Register, Copy, Delete, Ask, Collect, Abandon, Stop, Start, GiveBack, Finish, End}
use Rattle.journal_text.specs.declared.open.Open.{Open}
use Rattle.journal_text.specs.declared.open.Begun.TheVariants.{Whole, Part, Last}
use Rattle.journal_text.specs.declared.open.Halt.{Halt}
use Rattle.journal_text.specs.declared.open.Halt.TheVariants.{Wrong, Ended, NoMemory}
use Rattle.journal_text.specs.Text.{chunk_words, task_words, event_words, event_lines, last_words}
use Rattle.journal_text.specs.Bounds.{ArePlaces, IsTask, IsWithin, AreWithin}
use Rattle.journal_text.specs.Heads.{head_words, IsHead}
use Rattle.journal_text.specs.Told.{told, told_places, told_task}
use Rattle.journal_text.specs.States.{closed, chunk_taken, task_taken, open_lines, lines_read, GoesOn, IsOpen, begun_of, IsAdded, IsSettled, IsStep}
use Rattle.journal_text.proofs.Heads.{head_of, event_at, words_at, alone_at, head_within}
use Rattle.journal_text.proofs.GoesOn.{nothing_in, from_events, event_on, last_on, finish_on, opened}

-- what holds of each item holds with one more
all_more : {X : Type 0} (P : X → Type 0) (xs : List X) (x : X) → AllByRecursion P xs → P x → AllByRecursion P (xs ++ x ∷ [])
all_more P [] x all one = (one, tt)
all_more P (z ∷ xs) x all one = (all.0, all_more P xs x all.1 one)

module _ {K : Type 0} where
  -- what a line begins, case by case
  pub whole_at : (head : Head K) (one : Event K) → begun_of head ≡ Whole one → (event_at head ≡ Some one) × (head ≡ head_of one)
  whole_at (Register caller id children) one e = (cc, cc)
  whole_at (Copy caller from to) one e = (cc, cc)
  whole_at (Delete caller id) one e = (cc, cc)
  whole_at (Ask caller task kind inputs) one e = (cc, cc)
  whole_at (Collect caller task got) one e = (cc, cc)
  whole_at (Abandon caller) one e = (cc, cc)
  whole_at (Stop caller) one e = (cc, cc)
  whole_at (Start worker task) one e = (cc, cc)
  whole_at (GiveBack worker task) one e = (cc, cc)
  whole_at (Finish worker task chunks tasks result) one e = absurd cc
  whole_at (End count) one e = absurd cc

  some_same : (head other : Head K) → Some head ≡ Some other → head ≡ other
  some_same head other e = cc

module _ {K : Type 0} (name_of : K → List ℕ) (height_of : K → ℕ) where
  -- the lines with one more event
  added_lines : (events : List (Event K)) (one : Event K)
      → lines_read name_of height_of (events ++ one ∷ []) None ≡ flat_map (event_lines name_of height_of) events ++ event_lines name_of height_of one
  added_lines events one =
      append-nil (flat_map (event_lines name_of height_of) (events ++ one ∷ []))
      ∙ flat_map-append (event_lines name_of height_of) events (one ∷ [])
      ∙ ap (λ xs. flat_map (event_lines name_of height_of) events ++ xs) (append-nil (event_lines name_of height_of one))

  added_within : (events : List (Event K)) (one : Event K) → AreWithin height_of events → IsWithin height_of one → AreWithin height_of (events ++ one ∷ [])
  added_within events one within this = all_more (IsWithin height_of) events one within this

  -- the event of a finish all of whose lines were read
  abbrev pub event_of : Open K → Event K
  event_of it = FinishEvent it.worker it.task it.chunks it.tasks it.result

  closed_all : (it : Open K) → closed it [] [] ≡ event_of it
  closed_all it = ap (λ cs. FinishEvent it.worker it.task cs (it.tasks ++ []) it.result) (append-nil it.chunks) ∙ ap (λ ts. FinishEvent it.worker it.task it.chunks ts it.result) (append-nil it.tasks)

  close_on : (events : List (Event K)) (it : Open K) → it.chunks_left ≡ 0 → it.tasks_left ≡ 0 → (rest : List (List (List ℕ))) (all : List (Event K))
      → GoesOn name_of height_of events (Some it) rest all → GoesOn name_of height_of (events ++ event_of it ∷ []) None rest all
  close_on events it none_c none_t rest all on = go on.chunks on.tasks (nothing_in on.chunks (on.chunks_many ∙ none_c)) (nothing_in on.tasks (on.tasks_many ∙ none_t)) on.all_are on.lines_are
    where
      go : (chunks : List Places) (tasks : List (NewTask K)) → chunks ≡ [] → tasks ≡ [] → all ≡ (events ++ closed it (map told_places chunks) (map told_task tasks) ∷ []) ++ map told on.more
          → rest ≡ map chunk_words chunks ++ (map (task_words name_of height_of) tasks ++ (flat_map (event_lines name_of height_of) on.more ++ last_words (length all) ∷ []))
          → GoesOn name_of height_of (events ++ event_of it ∷ []) None rest all
      go [] [] c t e f = from_events name_of height_of (events ++ event_of it ∷ []) rest all record {
        more = on.more;
        within = on.within;
        all_are = e ∙ ap (λ one. (events ++ one ∷ []) ++ map told on.more) (closed_all it);
        lines_are = f;
      }
      go (x ∷ chunks) tasks c t e f = absurd (cc c)
      go [] (x ∷ tasks) c t e f = absurd (cc t)

  close_lines : (events : List (Event K)) (it : Open K) → it.chunks_left ≡ 0 → it.tasks_left ≡ 0
      → lines_read name_of height_of (events ++ event_of it ∷ []) None ≡ lines_read name_of height_of events (Some it)
  close_lines events it none_c none_t =
      let same_c : length it.chunks ≡ length it.chunks + it.chunks_left = omega arith in
      let same_t : length it.tasks ≡ length it.tasks + it.tasks_left = omega arith in
      added_lines events (event_of it) ∙ cc

  close_within : (it : Open K) → IsOpen height_of it → it.chunks_left ≡ 0 → it.tasks_left ≡ 0 → IsWithin height_of (event_of it)
  close_within it is none_c none_t =
      (is.worker, is.task, omega (arith, is.chunks_few), is.chunks, omega (arith, is.tasks_few), is.tasks, is.result)

  pub settled : (events : List (Event K)) (it : Open K) (result : Result (Option (Open K)) Halt) (now : List (Event K)) → IsAdded events (event_of it) result now
      → AreWithin height_of events → IsOpen height_of it → it.chunks_left ≡ 0 → it.tasks_left ≡ 0 → IsSettled name_of height_of events it result now
  settled events it (Ok next) now added within is none_c none_t =
      let P : Option (Open K) → Type 0 = λ o. IsSettled name_of height_of events it (Ok o) now in
      let Q : List (Event K) → Type 0 = λ es. IsSettled name_of height_of events it (Ok None) es in
      subst P (sym added.0) (subst Q (sym added.1)
      (close_lines events it none_c none_t, added_within events (event_of it) within (close_within it is none_c none_t), tt, close_on events it none_c none_t))
  settled events it (Err Wrong) now added within is none_c none_t = added
  settled events it (Err Ended) now added within is none_c none_t = added
  settled events it (Err NoMemory) now added within is none_c none_t = tt

  -- a step that settles
  pub step_settled : (events : List (Event K)) (before : Option (Open K)) (words : List (List ℕ)) (it : Open K) (result : Result (Option (Open K)) Halt) (now : List (Event K))
      → IsSettled name_of height_of events it result now → lines_read name_of height_of events (Some it) ≡ lines_read name_of height_of events before ++ words ∷ []
      → ((rest : List (List (List ℕ))) (all : List (Event K)) → GoesOn name_of height_of events before (words ∷ rest) all → GoesOn name_of height_of events (Some it) rest all)
      → IsStep name_of height_of events before words result now
  step_settled events before words it (Ok next) now s lines on = (s.0 ∙ lines, s.1, s.2, λ rest all h. s.3 rest all (on rest all h))
  step_settled events before words it (Err Wrong) now s lines on = absurd s
  step_settled events before words it (Err Ended) now s lines on = absurd s
  step_settled events before words it (Err NoMemory) now s lines on = tt

  -- a step that adds an event
  pub step_whole : (events : List (Event K)) (words : List (List ℕ)) (head : Head K) (one : Event K) (result : Result (Option (Open K)) Halt) (now : List (Event K))
      → IsAdded events one result now → begun_of head ≡ Whole one → head_words name_of height_of head ≡ words → IsHead height_of head
      → ((other : Head K) → IsHead height_of other → head_words name_of height_of other ≡ words → Some head ≡ Some other)
      → length events < 2 ^ 64 → AreWithin height_of events → IsStep name_of height_of events None words result now
  step_whole events words head one (Ok next) now added whole shown is every few within =
      let at = whole_at head one whole in
      let here : event_at (head_of one) ≡ Some one = ap event_at (sym at.1) ∙ at.0 in
      let P : Option (Open K) → Type 0 = λ o. IsStep name_of height_of events None words (Ok o) now in
      let Q : List (Event K) → Type 0 = λ es. IsStep name_of height_of events None words (Ok None) es in
      let first : event_words name_of height_of one ≡ words = sym (words_at name_of height_of one) ∙ ap (head_words name_of height_of) (sym at.1) ∙ shown in
      let lines = added_lines events one
      ∙ ap (λ xs. flat_map (event_lines name_of height_of) events ++ event_words name_of height_of one ∷ xs) (alone_at name_of height_of one one here)
      ∙ ap (λ ws. flat_map (event_lines name_of height_of) events ++ ws ∷ []) first
      ∙ ap (λ xs. xs ++ words ∷ []) (sym (append-nil (flat_map (event_lines name_of height_of) events))) in
      let R : Head K → Type 0 = λ h. IsHead height_of h in
      subst P (sym added.0) (subst Q (sym added.1) (
        lines,
        added_within events one within (head_within height_of one one here (subst R at.1 is)),
        tt,
        event_on name_of height_of events words one head few at.0 (λ other w e. some_same head other (every other w e)),
      ))
  step_whole events words head one (Err Wrong) now added whole shown is every few within = absurd added
  step_whole events words head one (Err Ended) now added whole shown is every few within = absurd added
  step_whole events words head one (Err NoMemory) now added whole shown is every few within = tt

  -- a line that begins a finish
  pub part_at : (head : Head K) (it : Open K) → begun_of head ≡ Part it
      → (chunks : ℕ) × (tasks : ℕ) × (it ≡ opened it.worker it.task chunks tasks it.result) × (head ≡ Finish it.worker it.task chunks tasks it.result)
  part_at (Register caller id children) it e = absurd cc
  part_at (Copy caller from to) it e = absurd cc
  part_at (Delete caller id) it e = absurd cc
  part_at (Ask caller task kind inputs) it e = absurd cc
  part_at (Collect caller task got) it e = absurd cc
  part_at (Abandon caller) it e = absurd cc
  part_at (Stop caller) it e = absurd cc
  part_at (Start worker task) it e = absurd cc
  part_at (GiveBack worker task) it e = absurd cc
  part_at (Finish worker task chunks tasks result) it e =
      let same : ◌≡◌ {A = Open K} (opened worker task chunks tasks result) it = cc in
      let one : worker ≡ it.worker = ap (λ (o : Open K). o.worker) same in
      let two : task ≡ it.task = ap (λ (o : Open K). o.task) same in
      let three : result ≡ it.result = ap (λ (o : Open K). o.result) same in
      (chunks, tasks, sym same ∙ cc, cc)
  part_at (End count) it e = absurd cc

  opened_settles : (events : List (Event K)) (words : List (List ℕ)) (worker task chunks tasks : ℕ) (place : Place) (result : Result (Option (Open K)) Halt) (now : List (Event K))
      → IsSettled name_of height_of events (opened worker task chunks tasks place) result now
      → head_words name_of height_of (Finish worker task chunks tasks place) ≡ words
      → ((other : Head K) → IsHead height_of other → head_words name_of height_of other ≡ words → ◌≡◌ {A = Option (Head K)} (Some (Finish worker task chunks tasks place)) (Some other))
      → length events < 2 ^ 64 → IsStep name_of height_of events None words result now
  opened_settles events words worker task chunks tasks place result now s shown every few =
      let none_c : 0 + chunks ≡ chunks = omega arith in
      let none_t : 0 + tasks ≡ tasks = omega arith in
      let first : lines_read name_of height_of events (Some (opened worker task chunks tasks place)) ≡ flat_map (event_lines name_of height_of) events ++ head_words name_of height_of (Finish worker task chunks tasks place) ∷ [] = cc in
      let lines = first ∙ ap (λ ws. flat_map (event_lines name_of height_of) events ++ ws ∷ []) shown
      ∙ ap (λ xs. xs ++ words ∷ []) (sym (append-nil (flat_map (event_lines name_of height_of) events))) in
      step_settled events None words (opened worker task chunks tasks place) result now s lines
      (finish_on name_of height_of events words worker task chunks tasks place few (λ other w e. some_same (Finish worker task chunks tasks place) other (every other w e)))

  -- a step that begins a finish
  pub step_part : (events : List (Event K)) (words : List (List ℕ)) (head : Head K) (it : Open K) (result : Result (Option (Open K)) Halt) (now : List (Event K))
      → IsSettled name_of height_of events it result now → begun_of head ≡ Part it → head_words name_of height_of head ≡ words
      → ((other : Head K) → IsHead height_of other → head_words name_of height_of other ≡ words → Some head ≡ Some other)
      → length events < 2 ^ 64 → IsStep name_of height_of events None words result now
  step_part events words head it result now s part shown every few =
      let at = part_at head it part in
      let P : Open K → Type 0 = λ o. IsSettled name_of height_of events o result now in
      let Q : Head K → Type 0 = λ h. (other : Head K) → IsHead height_of other → head_words name_of height_of other ≡ words → Some h ≡ Some other in
      opened_settles events words it.worker it.task at.0 at.1 it.result result now (subst P at.2 s) (ap (head_words name_of height_of) (sym at.3) ∙ shown) (subst Q at.3 every) few

  pub part_open : (head : Head K) (it : Open K) → begun_of head ≡ Part it → IsHead height_of head → IsOpen height_of it
  part_open head it part is =
      let at = part_at head it part in
      let P : Head K → Type 0 = λ h. IsHead height_of h in
      let Q : Open K → Type 0 = λ o. IsOpen height_of o in
      let within = subst P at.3 is in
      let open_one : IsOpen height_of (opened it.worker it.task at.0 at.1 it.result) = record {
        worker = within.0;
        task = within.1;
        result = within.4;
        chunks = tt;
        tasks = tt;
        chunks_few = omega (arith, within.2);
        tasks_few = omega (arith, within.3);
        order = λ more. refl;
      } in
      subst Q (sym at.2) open_one

  -- a line that ends a text
  pub last_at : (head : Head K) (count : ℕ) → begun_of head ≡ Last count → head ≡ End count
  last_at (Register caller id children) count e = absurd cc
  last_at (Copy caller from to) count e = absurd cc
  last_at (Delete caller id) count e = absurd cc
  last_at (Ask caller task kind inputs) count e = absurd cc
  last_at (Collect caller task got) count e = absurd cc
  last_at (Abandon caller) count e = absurd cc
  last_at (Stop caller) count e = absurd cc
  last_at (Start worker task) count e = absurd cc
  last_at (GiveBack worker task) count e = absurd cc
  last_at (Finish worker task chunks tasks result) count e = absurd cc
  last_at (End other) count e = cc

  pub last_goes : (events : List (Event K)) (words : List (List ℕ)) (head : Head K) (count : ℕ) → begun_of head ≡ Last count
      → ((other : Head K) → IsHead height_of other → head_words name_of height_of other ≡ words → Some head ≡ Some other)
      → length events < 2 ^ 64 → (rest : List (List (List ℕ))) (all : List (Event K)) → GoesOn name_of height_of events None (words ∷ rest) all
      → (count ≡ length events) × (rest ≡ []) × (all ≡ events)
  last_goes events words head count last every few =
      let at = last_at head count last in
      let Q : Head K → Type 0 = λ h. (other : Head K) → IsHead height_of other → head_words name_of height_of other ≡ words → Some h ≡ Some other in
      let every_end = subst Q at every in
      last_on name_of height_of events words count few (λ other w e. some_same (End count) other (every_end other w e))

  pub step_ended : (events : List (Event K)) (words : List (List ℕ)) (head : Head K) (count : ℕ) → begun_of head ≡ Last count → head_words name_of height_of head ≡ words
      → ((other : Head K) → IsHead height_of other → head_words name_of height_of other ≡ words → Some head ≡ Some other)
      → length events < 2 ^ 64 → count ≡ length events → IsStep name_of height_of events None words (Err Ended) events
  step_ended events words head count last shown every few same =
      let at = last_at head count last in
      let here : words ≡ last_words (length events) = sym shown ∙ ap (head_words name_of height_of) at ∙ ap last_words same in
      (refl, refl, here, λ rest all on. (let told = last_goes events words head count last every few rest all on in (told.1, told.2)))

  pub step_miscounted : (events : List (Event K)) (words : List (List ℕ)) (head : Head K) (count : ℕ) → begun_of head ≡ Last count
      → ((other : Head K) → IsHead height_of other → head_words name_of height_of other ≡ words → Some head ≡ Some other)
      → length events < 2 ^ 64 → (count ≡ length events → ⊥) → IsStep name_of height_of events None words (Err Wrong) events
  step_miscounted events words head count last every few other = λ rest all on. other (last_goes events words head count last every few rest all on).0

  -- ---- Lines behind the first one of a finish

  chunk_lines : (events : List (Event K)) (it : Open K) (place : Places) → 0 < it.chunks_left → it.tasks ≡ []
      → lines_read name_of height_of events (Some (chunk_taken it place)) ≡ lines_read name_of height_of events (Some it) ++ chunk_words place ∷ []
  chunk_lines events it place more none =
      let count : length (it.chunks ++ place ∷ []) + (it.chunks_left - 1) ≡ length it.chunks + it.chunks_left = omega (arith, length-append it.chunks (place ∷ [])) in
      let chunks : map chunk_words (it.chunks ++ place ∷ []) ++ [] ≡ (map chunk_words it.chunks ++ []) ++ chunk_words place ∷ [] =
      append-nil (map chunk_words (it.chunks ++ place ∷ [])) ∙ map-append chunk_words it.chunks (place ∷ []) ∙ ap (λ xs. xs ++ chunk_words place ∷ []) (sym (append-nil (map chunk_words it.chunks))) in
      let P : List (NewTask K) → Type 0 = λ tasks. map chunk_words (it.chunks ++ place ∷ []) ++ map (task_words name_of height_of) tasks ≡ (map chunk_words it.chunks ++ map (task_words name_of height_of) tasks) ++ chunk_words place ∷ [] in
      let both = subst P (sym none) chunks in
      let whole : open_lines name_of height_of (Some (chunk_taken it place)) ≡ open_lines name_of height_of (Some it) ++ chunk_words place ∷ [] = cc in
      ap (λ xs. flat_map (event_lines name_of height_of) events ++ xs) whole
      ∙ sym (append_assoc (flat_map (event_lines name_of height_of) events) (open_lines name_of height_of (Some it)) (chunk_words place ∷ []))

  task_lines : (events : List (Event K)) (it : Open K) (task : NewTask K) → 0 < it.tasks_left
      → lines_read name_of height_of events (Some (task_taken it task)) ≡ lines_read name_of height_of events (Some it) ++ task_words name_of height_of task ∷ []
  task_lines events it task more =
      let count : length (it.tasks ++ task ∷ []) + (it.tasks_left - 1) ≡ length it.tasks + it.tasks_left = omega (arith, length-append it.tasks (task ∷ [])) in
      let both : map chunk_words it.chunks ++ map (task_words name_of height_of) (it.tasks ++ task ∷ []) ≡ (map chunk_words it.chunks ++ map (task_words name_of height_of) it.tasks) ++ task_words name_of height_of task ∷ [] =
      ap (λ xs. map chunk_words it.chunks ++ xs) (map-append (task_words name_of height_of) it.tasks (task ∷ []))
      ∙ sym (append_assoc (map chunk_words it.chunks) (map (task_words name_of height_of) it.tasks) (task_words name_of height_of task ∷ [])) in
      let whole : open_lines name_of height_of (Some (task_taken it task)) ≡ open_lines name_of height_of (Some it) ++ task_words name_of height_of task ∷ [] = cc in
      ap (λ xs. flat_map (event_lines name_of height_of) events ++ xs) whole
      ∙ sym (append_assoc (flat_map (event_lines name_of height_of) events) (open_lines name_of height_of (Some it)) (task_words name_of height_of task ∷ []))

  -- one more chunk, and one more task, keep what a finish is
  pub chunk_open : (it : Open K) (place : Places) → IsOpen height_of it → 0 < it.chunks_left → ArePlaces place → IsOpen height_of (chunk_taken it place)
  chunk_open it place is more places = record {
    worker = is.worker;
    task = is.task;
    result = is.result;
    chunks = all_more ArePlaces it.chunks place is.chunks places;
    tasks = is.tasks;
    chunks_few = omega (arith, is.chunks_few, length-append it.chunks (place ∷ []));
    tasks_few = is.tasks_few;
    order = λ left. is.order more;
  }

  pub task_open : (it : Open K) (task : NewTask K) → IsOpen height_of it → it.chunks_left ≡ 0 → 0 < it.tasks_left → IsTask height_of task → IsOpen height_of (task_taken it task)
  task_open it task is none more this = record {
    worker = is.worker;
    task = is.task;
    result = is.result;
    chunks = is.chunks;
    tasks = all_more (IsTask height_of) it.tasks task is.tasks this;
    chunks_few = is.chunks_few;
    tasks_few = omega (arith, is.tasks_few, length-append it.tasks (task ∷ []));
    order = λ left. absurd (omega (arith, left, none));
  }

  -- the line of a chunk, where one is to come
  chunk_first : (events : List (Event K)) (it : Open K) (words : List (List ℕ)) (rest : List (List (List ℕ))) (all : List (Event K)) → GoesOn name_of height_of events (Some it) (words ∷ rest) all
      → 0 < it.chunks_left → (chunk : Places) × ArePlaces chunk × (words ≡ chunk_words chunk)
      × ((place : Places) → place ≡ told_places chunk → GoesOn name_of height_of events (Some (chunk_taken it place)) rest all)
  chunk_first events it words rest all on more = go on.chunks on.chunks_many on.chunks_within on.all_are on.lines_are
    where
      behind : List (List (List ℕ))
      behind = map (task_words name_of height_of) on.tasks ++ (flat_map (event_lines name_of height_of) on.more ++ last_words (length all) ∷ [])

      go : (chunks : List Places) → length chunks ≡ it.chunks_left → AllByRecursion ArePlaces chunks
          → all ≡ (events ++ closed it (map told_places chunks) (map told_task on.tasks) ∷ []) ++ map told on.more
          → words ∷ rest ≡ map chunk_words chunks ++ (map (task_words name_of height_of) on.tasks ++ (flat_map (event_lines name_of height_of) on.more ++ last_words (length all) ∷ []))
          → (chunk : Places) × ArePlaces chunk × (words ≡ chunk_words chunk)
          × ((place : Places) → place ≡ told_places chunk → GoesOn name_of height_of events (Some (chunk_taken it place)) rest all)
      go [] many within e f = absurd (omega (arith, many, more))
      go (chunk ∷ chunks) many within e f = (
        chunk,
        within.0,
        cc,
        λ place same. record {
          chunks = chunks;
          tasks = on.tasks;
          more = on.more;
          chunks_many = omega (arith, many);
          tasks_many = on.tasks_many;
          chunks_within = within.1;
          tasks_within = on.tasks_within;
          within = on.within;
          all_are = e ∙ ap (λ cs. (events ++ FinishEvent it.worker it.task cs (it.tasks ++ map told_task on.tasks) it.result ∷ []) ++ map told on.more)
              (ap (λ one. it.chunks ++ one ∷ map told_places chunks) (sym same) ∙ sym (append_assoc it.chunks (place ∷ []) (map told_places chunks)));
          lines_are = cc;
        },
      )

  pub chunk_none : (events : List (Event K)) (it : Open K) (words : List (List ℕ)) → 0 < it.chunks_left → ((chunk : Places) → ArePlaces chunk → chunk_words chunk ≡ words → ⊥)
      → (rest : List (List (List ℕ))) (all : List (Event K)) → GoesOn name_of height_of events (Some it) (words ∷ rest) all → ⊥
  chunk_none events it words more none rest all on =
      let first = chunk_first events it words rest all on more in
      none first.0 first.1 (sym first.2)

  -- a step that takes one
  pub step_chunk : (events : List (Event K)) (it : Open K) (words : List (List ℕ)) (place : Places) (now_open : Open K) (result : Result (Option (Open K)) Halt) (now : List (Event K))
      → now_open ≡ chunk_taken it place → IsSettled name_of height_of events now_open result now → IsOpen height_of it → 0 < it.chunks_left → chunk_words place ≡ words
      → ((chunk : Places) → ArePlaces chunk → chunk_words chunk ≡ words → Some place ≡ Some (told_places chunk))
      → IsStep name_of height_of events (Some it) words result now
  step_chunk events it words place now_open result now same s is more shown every =
      let P : Open K → Type 0 = λ o. IsSettled name_of height_of events o result now in
      step_settled events (Some it) words (chunk_taken it place) result now (subst P same s)
      (chunk_lines events it place more (is.order more) ∙ ap (λ ws. lines_read name_of height_of events (Some it) ++ ws ∷ []) shown)
      (λ rest all on.
      let first = chunk_first events it words rest all on more in
      let one : Some place ≡ Some (told_places first.0) = every first.0 first.1 (sym first.2) in
      first.3 place cc)

  -- the line of a task, where no chunk and a task is to come
  task_first : (events : List (Event K)) (it : Open K) (words : List (List ℕ)) (rest : List (List (List ℕ))) (all : List (Event K)) → GoesOn name_of height_of events (Some it) (words ∷ rest) all
      → it.chunks_left ≡ 0 → 0 < it.tasks_left → (task : NewTask K) × IsTask height_of task × (words ≡ task_words name_of height_of task)
      × ((new : NewTask K) → new ≡ told_task task → GoesOn name_of height_of events (Some (task_taken it new)) rest all)
  task_first events it words rest all on none more = go on.chunks on.tasks (nothing_in on.chunks (on.chunks_many ∙ none)) on.tasks_many on.tasks_within on.all_are on.lines_are
    where
      go : (chunks : List Places) (tasks : List (NewTask K)) → chunks ≡ [] → length tasks ≡ it.tasks_left → AllByRecursion (IsTask height_of) tasks
          → all ≡ (events ++ closed it (map told_places chunks) (map told_task tasks) ∷ []) ++ map told on.more
          → words ∷ rest ≡ map chunk_words chunks ++ (map (task_words name_of height_of) tasks ++ (flat_map (event_lines name_of height_of) on.more ++ last_words (length all) ∷ []))
          → (task : NewTask K) × IsTask height_of task × (words ≡ task_words name_of height_of task)
          × ((new : NewTask K) → new ≡ told_task task → GoesOn name_of height_of events (Some (task_taken it new)) rest all)
      go (chunk ∷ chunks) tasks c many within e f = absurd (cc c)
      go [] [] c many within e f = absurd (omega (arith, many, more))
      go [] (task ∷ tasks) c many within e f = (
        task,
        within.0,
        cc,
        λ new same. record {
          chunks = [];
          tasks = tasks;
          more = on.more;
          chunks_many = sym none;
          tasks_many = omega (arith, many);
          chunks_within = tt;
          tasks_within = within.1;
          within = on.within;
          all_are = e ∙ ap (λ ts. (events ++ FinishEvent it.worker it.task (it.chunks ++ []) ts it.result ∷ []) ++ map told on.more)
              (ap (λ one. it.tasks ++ one ∷ map told_task tasks) (sym same) ∙ sym (append_assoc it.tasks (new ∷ []) (map told_task tasks)));
          lines_are = cc;
        },
      )

  pub task_none : (events : List (Event K)) (it : Open K) (words : List (List ℕ)) → it.chunks_left ≡ 0 → 0 < it.tasks_left
      → ((task : NewTask K) → IsTask height_of task → task_words name_of height_of task ≡ words → ⊥)
      → (rest : List (List (List ℕ))) (all : List (Event K)) → GoesOn name_of height_of events (Some it) (words ∷ rest) all → ⊥
  task_none events it words none more no_task rest all on =
      let first = task_first events it words rest all on none more in
      no_task first.0 first.1 (sym first.2)

  pub step_task : (events : List (Event K)) (it : Open K) (words : List (List ℕ)) (new : NewTask K) (now_open : Open K) (result : Result (Option (Open K)) Halt) (now : List (Event K))
      → now_open ≡ task_taken it new → IsSettled name_of height_of events now_open result now → it.chunks_left ≡ 0 → 0 < it.tasks_left → task_words name_of height_of new ≡ words
      → ((task : NewTask K) → IsTask height_of task → task_words name_of height_of task ≡ words → Some new ≡ Some (told_task task))
      → IsStep name_of height_of events (Some it) words result now
  step_task events it words new now_open result now same s none more shown every =
      let P : Open K → Type 0 = λ o. IsSettled name_of height_of events o result now in
      step_settled events (Some it) words (task_taken it new) result now (subst P same s)
      (task_lines events it new more ∙ ap (λ ws. lines_read name_of height_of events (Some it) ++ ws ∷ []) shown)
      (λ rest all on.
      let first = task_first events it words rest all on none more in
      let one : Some new ≡ Some (told_task first.0) = every first.0 first.1 (sym first.2) in
      first.3 new cc)
