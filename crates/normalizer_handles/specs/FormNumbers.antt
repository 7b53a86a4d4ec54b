-- The numbers of the four forms in C.
use Rattle.std.specs.Prelude.{ℕ}
use Rattle.icu_normalizer.specs.declared.any_normalizer.NormalForm.{NormalForm}
use Rattle.icu_normalizer.specs.declared.any_normalizer.NormalForm.TheVariants.{Nfd, Nfc, Nfkd, Nfkc}

abbrev pub number_of : NormalForm → ℕ
number_of Nfd = 0
number_of Nfc = 1
number_of Nfkd = 2
number_of Nfkc = 3

-- no form has a greater number
abbrev pub last_form : ℕ
last_form = 3
