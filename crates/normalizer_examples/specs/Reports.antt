-- What a report of the first mismatch shows.
use Rattle.std.specs.Prelude.{◌≡◌, ◌≢◌, ℕ, List, ◌∷◌, ◌++◌, length, encode_utf8_all, ⊤}
use Rattle.icu_normalizer.specs.NormalForms.{nfc}
use Rattle.icu_normalizer.specs.Reading.{Reading}
use Rattle.icu_normalizer.specs.Offence.{Offence}
use Rattle.normalizer_examples.specs.declared.reports.Refusal.{Refusal}
use Rattle.normalizer_examples.specs.declared.reports.Refusal.TheVariants.{Differs, Memory}

-- after the same characters the text has the character found, and its form the one expected, which is another
pub record ShowsDifference (d : Reading) (x : List ℕ) (o : Offence) : Type 0 where
  pub front : List ℕ
  pub rest : List ℕ
  pub form_rest : List ℕ
  pub text : x ≡ front ++ o.found ∷ rest
  pub form : nfc d x ≡ front ++ o.wanted ∷ form_rest
  pub place : o.place ≡ length (encode_utf8_all front)
  pub differ : o.found ≢ o.wanted

-- a report says what differs, or that memory ran out
abbrev pub Reports : Reading → List ℕ → Refusal → Type 0
Reports d x (Differs o) = ShowsDifference d x o
Reports d x Memory = ⊤
