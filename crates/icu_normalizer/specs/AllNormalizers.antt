-- Normalizers to the four forms, over the same data.
use Rattle.std.specs.Prelude.{List, []}
use Rattle.normal_forms.specs.declared.Form.TheVariants.{Decomposing, Composing}
use Rattle.normalizer_tables.specs.Characters.{Characters}
use Rattle.normalizer_tables.specs.Pairs.{Pair}
use Rattle.icu_normalizer.specs.ComposingNormalizers.{composing_data_of, data_and_pairs_of, pairs_of}
use Rattle.normalizer_calls.specs.Forms.{MadeForm, form_by}
use Rattle.icu_normalizer.specs.declared.all_normalizers.AllNormalizers.{AllNormalizers}
use Rattle.icu_normalizer.specs.declared.any_normalizer.NormalForm.{NormalForm}
use Rattle.icu_normalizer.specs.declared.any_normalizer.NormalForm.TheVariants.{Nfd, Nfc, Nfkd, Nfkc}

-- the form that they make
abbrev pub made_to : AllNormalizers → NormalForm → MadeForm
made_to n Nfd = form_by (composing_data_of n.canonical) [] Decomposing
made_to n Nfc = form_by (composing_data_of n.canonical) (pairs_of n.canonical) Composing
made_to n Nfkd = form_by (composing_data_of n.compatibility) [] Decomposing
made_to n Nfkc = form_by (composing_data_of n.compatibility) (pairs_of n.compatibility) Composing

-- the data and the pairs of the canonical forms
abbrev pub canonical_data_of : AllNormalizers → Characters × List Pair
canonical_data_of n = data_and_pairs_of n.canonical
