-- Where a script begins.
use Rattle.std.proofs.Common.{◌≡◌, ℕ, ◌+◌, ◌*◌, ◌^◌, ◌≤◌, true, false, List, ◌∷◌, length, None, Result, Ok, Err, refl, ap, ◌∙◌, add-one}
use Rattle.std.proofs.Math.Nat.{pow-suc, mul_assoc}
use Rattle.mm_text.specs.Lines.{lines_of, words_of, is_text}
use Rattle.cht_script.specs.declared.heading.Heading as front
use Rattle.cht_script.specs.Words.{grid_of, is_skipped}
use Rattle.cht_script.specs.Items.{fault_at, heading_in, heading_of}
use Rattle.cht_script.specs.declared.script.Fault.{Fault}
use Rattle.cht_script.specs.Steps.{Heads, HeadsAt}

pub no_text : (n : ℕ) (line : List ℕ) → is_skipped line ≡ false → is_text line ≡ false → (lines : List (List ℕ)) → heading_in n (line ∷ lines) ≡ Err (fault_at n 2)
no_text n line kept other lines = rw (kept, other) refl

pub no_grid : (n : ℕ) (line : List ℕ) → is_skipped line ≡ false → is_text line ≡ true → grid_of (words_of line) ≡ None
    → (lines : List (List ℕ)) → heading_in n (line ∷ lines) ≡ Err (fault_at n 3)
no_grid n line kept text none lines = rw (kept, text, none) refl

-- the first line that is not skipped decides
pub heading_decided : (text before line rest : List ℕ) (n : ℕ) (r : Result front.Heading Fault) → heading_of text ≡ heading_in n (lines_of before) → lines_of before ≡ line ∷ lines_of rest
    → n + length rest ≤ length text → HeadsAt n line rest r → Heads text r
heading_decided text before line rest n (Err fault) same cut room h = same ∙ (ap (heading_in n) cut ∙ h (lines_of rest))
heading_decided text before line rest n (Ok heading) same cut room h = record {
  found = same ∙ (ap (heading_in n) cut ∙ h.found);
  within = h.within;
  room = rw (h.number, h.behind) room;
}

-- one level more
pub doubled : (side leaf height : ℕ) → side ≡ leaf * 2 ^ height → side * 2 ≡ leaf * 2 ^ (height + 1)
doubled side leaf height e =
    rw (add-one, pow-suc) (ap (λ x. x * 2) e ∙ mul_assoc leaf (2 ^ height) 2)
