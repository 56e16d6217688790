-- How the lines that go on from a state go on from the next one.
use Rattle.std.proofs.Common.{◌≡◌, ℕ, ◌<◌, ◌^◌, List, [], ◌∷◌, ◌++◌, length, None, Some, refl, sym, ap, ◌∙◌, arith}
use Rattle.std.specs.Prelude.{map}
use Rattle.std.specs.List.{flat_map}
use Rattle.std.proofs.lemmas.List.{append_assoc, append-nil}
use Rattle.task_types.specs.declared.outcome.Place.{Place}
use Rattle.task_types.specs.declared.outcome.Places.{Places}
use Rattle.task_types.specs.declared.outcome.NewTask.{NewTask}
use Rattle.cht_history.specs.declared.event.Event.{Event}
use Rattle.cht_history.specs.declared.event.Event.TheVariants.{Finish as FinishEvent}
use Rattle.journal_text.specs.declared.head.Head.{Head}
use Rattle.journal_text.specs.declared.head.Head.TheVariants.{Finish, End}
use Rattle.journal_text.specs.declared.open.Open.{Open}
use Rattle.journal_text.specs.Text.{chunk_words, task_words, event_words, further_lines, event_lines, last_words}
use Rattle.journal_text.specs.Bounds.{IsWithin, AreWithin}
use Rattle.journal_text.specs.Heads.{head_words, IsHead}
use Rattle.journal_text.specs.Told.{told}
use Rattle.journal_text.specs.States.{GoesOn}
use Rattle.journal_text.proofs.Heads.{head_of, event_at, not_end, told_at, words_at, alone_at, within_head}

pub nothing_in : {X : Type 0} (xs : List X) → length xs ≡ 0 → xs ≡ []
nothing_in [] e = refl
nothing_in (x ∷ xs) e = absurd (omega (arith, e))

module _ {K : Type 0} where
  -- a finish of which the first line was read
  abbrev pub opened : ℕ → ℕ → ℕ → ℕ → Place → Open K
  opened worker task chunks tasks result = record { worker = worker; task = task; result = result; chunks = []; tasks = []; chunks_left = chunks; tasks_left = tasks }

module _ {K : Type 0} (name_of : K → List ℕ) (height_of : K → ℕ) where
  -- lines of events that are to come, and the last line
  abbrev Behind : List (Event K) → List (Event K) → List (List (List ℕ))
  Behind more all = flat_map (event_lines name_of height_of) more ++ last_words (length all) ∷ []

  -- between two events: events that are to come
  pub record GoesOnEvents (events : List (Event K)) (lines : List (List (List ℕ))) (all : List (Event K)) : Type 0 where
    pub more : List (Event K)
    pub within : AreWithin height_of more
    pub all_are : all ≡ events ++ map told more
    pub lines_are : lines ≡ Behind more all

  no_plan : (events : List (Event K)) (lines : List (List (List ℕ))) (all : List (Event K)) (chunks : List Places) (tasks : List (NewTask K)) (more : List (Event K))
      → chunks ≡ [] → tasks ≡ [] → all ≡ (events ++ []) ++ map told more → lines ≡ map chunk_words chunks ++ (map (task_words name_of height_of) tasks ++ Behind more all)
      → AreWithin height_of more → GoesOnEvents events lines all
  no_plan events lines all chunks tasks more none_c none_t e f within = record {
    more = more;
    within = within;
    all_are = e ∙ ap (λ xs. xs ++ map told more) (append-nil events);
    lines_are = f ∙ ap (λ cs. map chunk_words cs ++ (map (task_words name_of height_of) tasks ++ Behind more all)) none_c ∙ ap (λ ts. map (task_words name_of height_of) ts ++ Behind more all) none_t;
  }

  pub to_events : (events : List (Event K)) (lines : List (List (List ℕ))) (all : List (Event K)) → GoesOn name_of height_of events None lines all → GoesOnEvents events lines all
  to_events events lines all on =
      no_plan events lines all on.chunks on.tasks on.more (nothing_in on.chunks on.chunks_many) (nothing_in on.tasks on.tasks_many) on.all_are on.lines_are on.within

  pub from_events : (events : List (Event K)) (lines : List (List (List ℕ))) (all : List (Event K)) → GoesOnEvents events lines all → GoesOn name_of height_of events None lines all
  from_events events lines all on = record {
    chunks = [];
    tasks = [];
    more = on.more;
    chunks_many = refl;
    tasks_many = refl;
    chunks_within = tt;
    tasks_within = tt;
    within = on.within;
    all_are = on.all_are ∙ ap (λ xs. xs ++ map told on.more) (sym (append-nil events));
    lines_are = on.lines_are;
  }

  -- the next line is the last one, or the first of an event
  pub data Next (events : List (Event K)) (words : List (List ℕ)) (rest : List (List (List ℕ))) (all : List (Event K)) : Type 0 where
    last : words ≡ last_words (length events) → rest ≡ [] → all ≡ events → Next events words rest all
    event : (event : Event K) (more : List (Event K)) → IsWithin height_of event → AreWithin height_of more → words ≡ head_words name_of height_of (head_of event)
        → rest ≡ further_lines name_of height_of event ++ Behind more all → all ≡ (events ++ told event ∷ []) ++ map told more → Next events words rest all

  next_of : (events : List (Event K)) (words : List (List ℕ)) (rest : List (List (List ℕ))) (all more : List (Event K)) → AreWithin height_of more → all ≡ events ++ map told more
      → words ∷ rest ≡ Behind more all → Next events words rest all
  next_of events words rest all [] within e f =
      let same : all ≡ events = e ∙ append-nil events in
      let here : words ≡ last_words (length all) = cc in
      last (here ∙ ap (λ xs. last_words (length xs)) same) (cc) same
  next_of events words rest all (one ∷ more) within e f =
      let here : words ≡ event_words name_of height_of one = cc in
      let there : rest ≡ (further_lines name_of height_of one ++ flat_map (event_lines name_of height_of) more) ++ last_words (length all) ∷ [] = cc in
      event one more within.0 within.1 (here ∙ sym (words_at name_of height_of one))
      (there ∙ append_assoc (further_lines name_of height_of one) (flat_map (event_lines name_of height_of) more) (last_words (length all) ∷ []))
      (e ∙ sym (append_assoc events (told one ∷ []) (map told more)))

  pub next : (events : List (Event K)) (words : List (List ℕ)) (rest : List (List (List ℕ))) (all : List (Event K)) → GoesOn name_of height_of events None (words ∷ rest) all
      → Next events words rest all
  next events words rest all on =
      let on_events = to_events events (words ∷ rest) all on in
      next_of events words rest all on_events.more on_events.within on_events.all_are on_events.lines_are

  -- no line that is neither goes on
  pub none_next : (events : List (Event K)) (words : List (List ℕ)) → length events < 2 ^ 64 → ((head : Head K) → IsHead height_of head → head_words name_of height_of head ≡ words → ⊥)
      → (rest : List (List (List ℕ))) (all : List (Event K)) → GoesOn name_of height_of events None (words ∷ rest) all → ⊥
  none_next events words few none rest all on = go (next events words rest all on)
    where
      go : Next events words rest all → ⊥
      go (last here there same) = none (End (length events)) few (sym here)
      go (event one more within others here there same) = none (head_of one) (within_head height_of one within) (sym here)

  -- an event that its first line tells alone
  pub event_on : (events : List (Event K)) (words : List (List ℕ)) (one : Event K) (head : Head K) → length events < 2 ^ 64 → event_at head ≡ Some one
      → ((other : Head K) → IsHead height_of other → head_words name_of height_of other ≡ words → head ≡ other)
      → (rest : List (List (List ℕ))) (all : List (Event K)) → GoesOn name_of height_of events None (words ∷ rest) all → GoesOn name_of height_of (events ++ one ∷ []) None rest all
  event_on events words one head few alone every rest all on = go (next events words rest all on)
    where
      go : Next events words rest all → GoesOn name_of height_of (events ++ one ∷ []) None rest all
      go (last here there same) =
          let same_head : head ≡ End (length events) = every (End (length events)) few (sym here) in
          absurd (cc (ap event_at same_head, alone))
      go (event other more within others here there same) =
          let same_head : head ≡ head_of other = every (head_of other) (within_head height_of other within) (sym here) in
          let at : event_at (head_of other) ≡ Some one = sym (ap event_at same_head) ∙ alone in
          from_events (events ++ one ∷ []) rest all record {
            more = more;
            within = others;
            all_are = same ∙ ap (λ e. (events ++ e ∷ []) ++ map told more) (told_at other one at);
            lines_are = there ∙ ap (λ xs. xs ++ Behind more all) (alone_at name_of height_of other one at);
          }

  -- the last line
  pub last_on : (events : List (Event K)) (words : List (List ℕ)) (count : ℕ) → length events < 2 ^ 64
      → ((other : Head K) → IsHead height_of other → head_words name_of height_of other ≡ words → ◌≡◌ {A = Head K} (End count) other)
      → (rest : List (List (List ℕ))) (all : List (Event K)) → GoesOn name_of height_of events None (words ∷ rest) all → (count ≡ length events) × (rest ≡ []) × (all ≡ events)
  last_on events words count few every rest all on = go (next events words rest all on)
    where
      go : Next events words rest all → (count ≡ length events) × (rest ≡ []) × (all ≡ events)
      go (last here there same) =
          let same_head : ◌≡◌ {A = Head K} (End count) (End (length events)) = every (End (length events)) few (sym here) in
          (cc, there, same)
      go (event other more within others here there same) =
          absurd (not_end other count (sym (every (head_of other) (within_head height_of other within) (sym here))))

  finish_of : (events : List (Event K)) (worker task chunks tasks : ℕ) (result : Place) (other : Event K) (more : List (Event K)) (rest : List (List (List ℕ))) (all : List (Event K))
      → Finish worker task chunks tasks result ≡ head_of other → IsWithin height_of other → AreWithin height_of more
      → rest ≡ further_lines name_of height_of other ++ Behind more all → all ≡ (events ++ told other ∷ []) ++ map told more
      → GoesOn name_of height_of events (Some (opened worker task chunks tasks result)) rest all
  finish_of events worker task chunks tasks result (FinishEvent other job parts steps place) more rest all e within others there same =
      let one : worker ≡ other = cc in
      let two : task ≡ job = cc in
      let three : chunks ≡ length parts = cc in
      let four : tasks ≡ length steps = cc in
      let five : result ≡ place = cc in
      record {
        chunks = parts;
        tasks = steps;
        more = more;
        chunks_many = sym three;
        tasks_many = sym four;
        chunks_within = within.3;
        tasks_within = within.5;
        within = others;
        all_are = same ∙ cc;
        lines_are = there ∙ append_assoc (map chunk_words parts) (map (task_words name_of height_of) steps) (Behind more all);
      }
  finish_of events worker task chunks tasks result other more rest all e within others there same = absurd (cc e)

  pub finish_on : (events : List (Event K)) (words : List (List ℕ)) (worker task chunks tasks : ℕ) (result : Place) → length events < 2 ^ 64
      → ((other : Head K) → IsHead height_of other → head_words name_of height_of other ≡ words → Finish worker task chunks tasks result ≡ other)
      → (rest : List (List (List ℕ))) (all : List (Event K)) → GoesOn name_of height_of events None (words ∷ rest) all
      → GoesOn name_of height_of events (Some (opened worker task chunks tasks result)) rest all
  finish_on events words worker task chunks tasks result few every rest all on = go (next events words rest all on)
    where
      go : Next events words rest all → GoesOn name_of height_of events (Some (opened worker task chunks tasks result)) rest all
      go (last here there same) =
          let same_head : ◌≡◌ {A = Head K} (Finish worker task chunks tasks result) (End (length events)) = every (End (length events)) few (sym here) in
          absurd (cc same_head)
      go (event other more within others here there same) =
          finish_of events worker task chunks tasks result other more rest all (every (head_of other) (within_head height_of other within) (sym here)) within others there same
