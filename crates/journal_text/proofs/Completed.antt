-- From each state that a reader comes to, a journal's text can go on.
use Rattle.std.proofs.Common.{◌≡◌, ◌⊎◌, inl, inr, ℕ, zero, suc, ◌+◌, List, [], ◌∷◌, ◌++◌, length, Option, None, Some, refl, sym, ap, ◌∙◌, arith, length-append}
use Rattle.std.specs.Prelude.{map}
use Rattle.std.specs.List.{flat_map, AllByRecursion}
use Rattle.std.proofs.lemmas.List.{append_assoc, append-nil, map-append}
use Rattle.std.proofs.lemmas.List.Concat.{flat_map-append}
use Rattle.task_types.specs.declared.outcome.Places.{Places}
use Rattle.task_types.specs.declared.outcome.NewTask.{NewTask}
use Rattle.task_types.specs.Places.{filled}
use Rattle.cht_history.specs.declared.event.Event.{Event}
use Rattle.journal_text.specs.declared.open.Open.{Open}
use Rattle.journal_text.specs.Text.{chunk_words, task_words, event_words, event_lines, first_words, last_words, journal_lines}
use Rattle.journal_text.specs.Bounds.{ArePlaces, IsTask, IsLow, IsWithin, AreWithin}
use Rattle.journal_text.specs.Answers.{CanBegin}
use Rattle.journal_text.specs.States.{closed, open_lines, lines_read, IsOpen, MayBeOpen}

-- one item again and again
repeated : {X : Type 0} → ℕ → X → List X
repeated zero x = []
repeated (suc n) x = x ∷ repeated n x

length_repeated : {X : Type 0} (n : ℕ) (x : X) → length (repeated n x) ≡ n
unfolding repeated
length_repeated zero x = refl
length_repeated (suc n) x = omega (arith, length_repeated n x)

all_repeated : {X : Type 0} (P : X → Type 0) (n : ℕ) (x : X) → P x → AllByRecursion P (repeated n x)
unfolding repeated
all_repeated P zero x one = tt
all_repeated P (suc n) x one = (one, all_repeated P n x one)

none_repeated : {X : Type 0} (n : ℕ) (x : X) → n ≡ 0 → repeated n x ≡ []
unfolding repeated
none_repeated zero x e = refl
none_repeated (suc n) x e = absurd (omega (arith, e))

all_join : {X : Type 0} (P : X → Type 0) (xs ys : List X) → AllByRecursion P xs → AllByRecursion P ys → AllByRecursion P (xs ++ ys)
all_join P [] ys one other = other
all_join P (x ∷ xs) ys one other = (one.0, all_join P xs ys one.1 other)

-- lines of which either the second or the third ones are none
rejoined : (a b c d e : List (List (List ℕ))) → (b ≡ []) ⊎ (c ≡ []) → (a ++ c) ++ (b ++ (d ++ e)) ≡ ((a ++ b) ++ (c ++ d)) ++ e
rejoined a b c d e (inl none) = rw none (simp (append_assoc, append-nil))
rejoined a b c d e (inr none) = rw none (simp (append_assoc, append-nil))

module _ {K : Type 0} (name_of : K → List ℕ) (height_of : K → ℕ) where
  between : (events : List (Event K)) → AreWithin height_of events → CanBegin name_of height_of (first_words ∷ lines_read name_of height_of events None)
  between events within = record {
    events = events;
    within = within;
    behind = last_words (length events) ∷ [];
    lines = ap (λ xs. first_words ∷ (xs ++ last_words (length events) ∷ [])) (append-nil (flat_map (event_lines name_of height_of) events));
  }

  amid_lines : (events : List (Event K)) (it : Open K) (chunks : List Places) (tasks : List (NewTask K)) → length chunks ≡ it.chunks_left → length tasks ≡ it.tasks_left → (chunks ≡ []) ⊎ (it.tasks ≡ [])
      → (first_words ∷ lines_read name_of height_of events (Some it)) ++ (map chunk_words chunks ++ (map (task_words name_of height_of) tasks ++ last_words (length (events ++ closed it chunks tasks ∷ [])) ∷ []))
      ≡ journal_lines name_of height_of (events ++ closed it chunks tasks ∷ [])
  amid_lines events it chunks tasks many_c many_t either =
      let last = last_words (length (events ++ closed it chunks tasks ∷ [])) in
      let flat = flat_map (event_lines name_of height_of) events in
      let count_c : length it.chunks + it.chunks_left ≡ length (it.chunks ++ chunks) = omega (arith, many_c, length-append it.chunks chunks) in
      let count_t : length it.tasks + it.tasks_left ≡ length (it.tasks ++ tasks) = omega (arith, many_t, length-append it.tasks tasks) in
      let first : open_lines name_of height_of (Some it) ≡ event_words name_of height_of (closed it chunks tasks) ∷ map chunk_words it.chunks ++ map (task_words name_of height_of) it.tasks = cc in
      let rest : (map chunk_words it.chunks ++ map (task_words name_of height_of) it.tasks) ++ (map chunk_words chunks ++ (map (task_words name_of height_of) tasks ++ last ∷ []))
      ≡ (map chunk_words (it.chunks ++ chunks) ++ map (task_words name_of height_of) (it.tasks ++ tasks)) ++ last ∷ [] =
      rejoined (map chunk_words it.chunks) (map chunk_words chunks) (map (task_words name_of height_of) it.tasks) (map (task_words name_of height_of) tasks) (last ∷ []) (map_either either)
      ∙ ap (λ xs. (xs ++ (map (task_words name_of height_of) it.tasks ++ map (task_words name_of height_of) tasks)) ++ last ∷ []) (sym (map-append chunk_words it.chunks chunks))
      ∙ ap (λ xs. (map chunk_words (it.chunks ++ chunks) ++ xs) ++ last ∷ []) (sym (map-append (task_words name_of height_of) it.tasks tasks)) in
      ap (λ xs. first_words ∷ ((flat ++ xs) ++ (map chunk_words chunks ++ (map (task_words name_of height_of) tasks ++ last ∷ [])))) first
      ∙ ap (λ xs. first_words ∷ xs) (append_assoc flat (event_words name_of height_of (closed it chunks tasks) ∷ map chunk_words it.chunks ++ map (task_words name_of height_of) it.tasks) (map chunk_words chunks ++ (map (task_words name_of height_of) tasks ++ last ∷ [])))
      ∙ ap (λ xs. first_words ∷ (flat ++ event_words name_of height_of (closed it chunks tasks) ∷ xs)) rest
      ∙ ap (λ xs. first_words ∷ xs) (sym (append_assoc flat (event_lines name_of height_of (closed it chunks tasks)) (last ∷ [])))
      ∙ ap (λ xs. first_words ∷ (xs ++ last ∷ [])) (ap (λ xs. flat ++ xs) (sym (append-nil (event_lines name_of height_of (closed it chunks tasks)))) ∙ sym (flat_map-append (event_lines name_of height_of) events (closed it chunks tasks ∷ [])))
    where
      map_either : (chunks ≡ []) ⊎ (it.tasks ≡ []) → (map chunk_words chunks ≡ []) ⊎ (map (task_words name_of height_of) it.tasks ≡ [])
      map_either (inl none) = inl (ap (map chunk_words) none)
      map_either (inr none) = inr (ap (map (task_words name_of height_of)) none)

  amid : (events : List (Event K)) (it : Open K) (kind : K) → IsLow height_of kind → AreWithin height_of events → IsOpen height_of it
      → CanBegin name_of height_of (first_words ∷ lines_read name_of height_of events (Some it))
  amid events it kind low within is =
      let empty : Places = filled [] in
      let task : NewTask K = record { kind = kind; inputs = filled [] } in
      let chunks : List Places = repeated it.chunks_left empty in
      let tasks : List (NewTask K) = repeated it.tasks_left task in
      let many_c = length_repeated it.chunks_left empty in
      let many_t = length_repeated it.tasks_left task in
      record {
        events = events ++ closed it chunks tasks ∷ [];
        within = all_join (IsWithin height_of) events (closed it chunks tasks ∷ []) within (
          (
            is.worker,
            is.task,
            omega (arith, many_c, is.chunks_few, length-append it.chunks chunks),
            all_join ArePlaces it.chunks chunks is.chunks (all_repeated ArePlaces it.chunks_left empty tt),
            omega (arith, many_t, is.tasks_few, length-append it.tasks tasks),
            all_join (IsTask height_of) it.tasks tasks is.tasks (all_repeated (IsTask height_of) it.tasks_left task (low, tt)),
            is.result,
          ),
          tt,
        );
        behind = map chunk_words chunks ++ (map (task_words name_of height_of) tasks ++ last_words (length (events ++ closed it chunks tasks ∷ [])) ∷ []);
        lines = amid_lines events it chunks tasks many_c many_t (either it.chunks_left refl);
      }
    where
      either : (n : ℕ) → it.chunks_left ≡ n → (repeated it.chunks_left (filled []) ≡ []) ⊎ (it.tasks ≡ [])
      either zero e = inl (none_repeated it.chunks_left (filled []) e)
      either (suc n) e = inr (is.order (omega (arith, e)))

  pub can_begin : (events : List (Event K)) (it : Option (Open K)) (kind : K) → IsLow height_of kind → AreWithin height_of events → MayBeOpen height_of it
      → CanBegin name_of height_of (first_words ∷ lines_read name_of height_of events it)
  can_begin events None kind low within is_open = between events within
  can_begin events (Some it) kind low within is_open = amid events it kind low within is_open.0
