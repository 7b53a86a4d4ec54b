-- What is found in lines with which nothing is wrong follows one another.
use Rattle.std.proofs.Common.{◌≡◌, ℕ, ◌+◌, List, [], ◌∷◌, ◌++◌, Bool, true, false, Option, Some, None, refl, arith}
use Rattle.std.specs.Prelude.{filter_map}
use Rattle.std.specs.Option.{option_or, option_to_list}
use Rattle.std.specs.List.{cons_option, last_or}
use Rattle.normalizer_records.proofs.RisingLemmas.{joined, IsWithin}
use Rattle.normalizer_ucd.specs.declared.error.LineFault.{LineFault}
use Rattle.normalizer_ucd.specs.declared.error.UcdFile.{UcdFile}
use Rattle.normalizer_ucd.specs.Fields.{has_data}
use Rattle.normalizer_ucd.specs.FileFaults.{Findings, first_wrong, wrong_at}
use Rattle.normalizer_ucd.specs.FileLines.{data_lines_from, DataLine}
use Rattle.normalizer_ucd.specs.inner.Lines.{line_at, text_of}

-- a first line that is right, and those after it
pub first_right : (o p : Option LineFault) → option_or o p ≡ None → (o ≡ None) × (p ≡ None)
first_right None p h = (refl, h)
first_right (Some e) p h = absurd (cc)

listed : {X : Type 0} (o : Option X) (xs : List X) → cons_option o xs ≡ option_to_list o ++ xs
listed None xs = refl
listed (Some x) xs = refl

module _ {X : Type 0} (first end : X → ℕ) (name : UcdFile) (findings : DataLine → Findings)
    (next_after : Option (List ℕ) → ℕ) (found : DataLine → Option X)
    (here : (l : DataLine) → wrong_at name findings l ≡ None →
    IsWithin first end (next_after l.before) (next_after (Some l.text)) (option_to_list (found l))) where
  abbrev Within : Option DataLine → List DataLine → Type 0
  Within b ls = first_wrong name findings ls ≡ None →
      IsWithin first end (next_after (text_of b)) (next_after (text_of (last_or b ls))) (filter_map found ls)

  module _ (n : ℕ) (before : Option DataLine) (line : List ℕ) (parts : List (List ℕ)) where
    abbrev ls : Option DataLine → List DataLine
    ls b = data_lines_from (n + 1) (text_of b) parts

    step : ((b : Option DataLine) → Within b (ls b)) → (b : Bool) → has_data line ≡ b →
        Within before (data_lines_from n (text_of before) (line ∷ parts))
    step rest true is right =
        let l = line_at n before line in
        let both = first_right (wrong_at name findings l) (first_wrong name findings (ls (Some l))) (rw is at right) in
        rw (is, listed (found l) (filter_map found (ls (Some l))))
        (joined first end (next_after (text_of before)) (next_after (Some l.text)) _ (option_to_list (found l))
        (filter_map found (ls (Some l))) (here l both.0) (rest (Some l) both.1))
    step rest false is right = rw is (rest before (rw is at right))

  pub lines_within : (n : ℕ) (before : Option DataLine) (parts : List (List ℕ)) →
      Within before (data_lines_from n (text_of before) parts)
  lines_within n before [] right = omega arith
  lines_within n before (line ∷ parts) right =
      step n before line parts (λ b. lines_within (n + 1) b parts) (has_data line) refl right
