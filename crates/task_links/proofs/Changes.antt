-- A task whose worker or whose asked output changes.
use Rattle.std.proofs.Common.{◌≡◌, ℕ, Option, Some, None, sym, ap, ◌∙◌, inl}
use Rattle.std.specs.Option.{option_map}
use Rattle.task_states.proofs.Options.{map_behind}
use Rattle.task_links.specs.declared.entries.Link.{Link}
use Rattle.task_links.specs.declared.entries.Spot.{Spot}
use Rattle.task_links.specs.Weave.{Head, IsWoven}
use Rattle.task_links.proofs.Weaving.{left-woven}

-- heads that keep their callers and their lists
pub reheaded-woven : (heads new : ℕ → Option Head) (links new_links : Spot → Option Link) (change : ℕ → Head → Head) → IsWoven heads links
    → ((p : Spot) → new_links p ≡ links p) → ((q : ℕ) → new q ≡ option_map (change q) (heads q))
    → ((q : ℕ) (h : Head) → ((change q h).caller ≡ h.caller) × ((change q h).first ≡ h.first) × ((change q h).last ≡ h.last))
    → ((p : Spot) (l : Link) (own : Head) → links p ≡ Some l → heads p.task ≡ Some own → own.runner ≡ None → (change p.task own).runner ≡ None)
    → ((p : Spot) (l : Link) (q : ℕ) (h : Head) (n : ℕ) → links p ≡ Some l → heads q ≡ Some h → (change q h).asked ≡ Some n → l.number ≡ n → ⊥)
    → IsWoven new new_links
reheaded-woven heads new links new_links change woven same made keeps idle apart =
    left-woven heads new links new_links woven (record {
      was = λ p l is. sym (same p) ∙ is;
      stays = λ p l h is _. same p ∙ is;
      home = λ p l is.
          let h = woven.home p l (sym (same p) ∙ is) in (
            change p.task h.0,
            change l.task h.1,
            made p.task ∙ ap (option_map (change p.task)) h.2,
            made l.task ∙ ap (option_map (change l.task)) h.3,
            (keeps l.task h.1).0 ∙ h.4 ∙ sym (keeps p.task h.0).0,
            idle p l h.0 (sym (same p) ∙ is) h.2 h.5,
          );
      lists = λ q h is. let b = map_behind (change q) (heads q) h (sym (made q) ∙ is) in
          inl (b.0, b.1, ap (λ (x : Head). x.first) (sym b.2) ∙ (keeps q b.0).1, ap (λ (x : Head). x.last) (sym b.2) ∙ (keeps q b.0).2);
      asked_apart = λ p l q h n is there asked same_number.
          let b = map_behind (change q) (heads q) h (sym (made q) ∙ there) in
          apart p l q b.0 n (sym (same p) ∙ is) b.1 (ap (λ (x : Head). x.asked) b.2 ∙ asked) same_number;
    })
