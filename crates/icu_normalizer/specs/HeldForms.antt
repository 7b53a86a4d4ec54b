-- What a provider holds for the normal forms and for the mapper, and what is made of it.
use Rattle.std.specs.Prelude.{◌≡◌, ◌⊎◌, List, Option, Result, [], ◌∷◌}
use Rattle.normal_forms.specs.declared.Form.TheVariants.{Decomposing, Composing}
use Rattle.normalizer_tables.specs.Characters.{Characters}
use Rattle.normalizer_tables.specs.Data.{Decompositions, Lists}
use Rattle.normalizer_tables.specs.declared.provider.DataError.{DataError}
use Rattle.normalizer_tables.specs.declared.provider.DataMarkerInfo.{DataMarkerInfo}
use Rattle.normalizer_tables.specs.declared.provider.DataMarkerInfo.TheVariants as marker
use Rattle.normalizer_tables.specs.Pairs.{Pair}
use Rattle.icu_normalizer.specs.Acceptance.{nfd_data, nfkd_data, AcceptsHeld, RefusesHeld}
use Rattle.icu_normalizer.specs.Acceptance.{SuitsDecomposing, RefusesToDecompose}
use Rattle.icu_normalizer.specs.ComposingAcceptance.{SuitsComposing, RefusesToCompose, with_pairs}
use Rattle.normalizer_calls.specs.Forms.{MadeForm, form_by}
use Rattle.icu_normalizer.specs.Uts46.{MapperData}
use Rattle.icu_normalizer.specs.declared.any_normalizer.NormalForm.{NormalForm}
use Rattle.icu_normalizer.specs.declared.any_normalizer.NormalForm.TheVariants.{Nfd, Nfc, Nfkd, Nfkc}

-- what is held for the normal forms: the data of either kind, or the marker of the first load for which nothing is
-- held, and the pairs
pub record HeldForForms : Type 0 where
  pub canonical : Result Characters DataMarkerInfo
  pub compatibility : Result Characters DataMarkerInfo
  pub pairs : Option (List Pair)

-- what is held for the mapper
abbrev pub HeldForMapper : Type 0
HeldForMapper = Result MapperData DataMarkerInfo

-- what the loads for the four forms hold, by what each marker holds
abbrev pub held_for_forms : (nfd : Option Decompositions) (tables : Option Lists) (nfkd : Option Decompositions)
    (supplementary : Option Lists) (pairs : Option (List Pair)) → HeldForForms
held_for_forms nfd tables nfkd supplementary pairs = record {
  canonical = nfd_data nfd tables;
  compatibility = nfkd_data nfkd tables supplementary;
  pairs = pairs;
}

-- data are held and meet the conditions for decomposing text, and this is the form by them
abbrev pub DecomposesBy : Result Characters DataMarkerInfo → MadeForm → Type 0
DecomposesBy held m = (s : Characters) × AcceptsHeld SuitsDecomposing held s × (m ≡ form_by s [] Decomposing)

-- the same of data and pairs, for composing text
abbrev pub ComposesBy : Result (Characters × List Pair) DataMarkerInfo → MadeForm → Type 0
ComposesBy held m = (h : Characters × List Pair) × AcceptsHeld SuitsComposing held h × (m ≡ form_by h.0 h.1 Composing)

-- the data that the form needs are held and meet their conditions, and this is the form by them
abbrev pub IsMadeOf : NormalForm → HeldForForms → MadeForm → Type 0
IsMadeOf Nfd held m = DecomposesBy held.canonical m
IsMadeOf Nfc held m = ComposesBy (with_pairs held.canonical held.pairs) m
IsMadeOf Nfkd held m = DecomposesBy held.compatibility m
IsMadeOf Nfkc held m = ComposesBy (with_pairs held.compatibility held.pairs) m

-- data that the form needs are not held, or they break a condition, with this error
abbrev pub RefusesForm : NormalForm → HeldForForms → DataError → Type 0
RefusesForm Nfd held e = RefusesHeld (RefusesToDecompose marker.NormalizerNfdDataV1) held.canonical e
RefusesForm Nfc held e =
    RefusesHeld (RefusesToCompose marker.NormalizerNfdDataV1) (with_pairs held.canonical held.pairs) e
RefusesForm Nfkd held e = RefusesHeld (RefusesToDecompose marker.NormalizerNfkdDataV1) held.compatibility e
RefusesForm Nfkc held e =
    RefusesHeld (RefusesToCompose marker.NormalizerNfkdDataV1) (with_pairs held.compatibility held.pairs) e

-- the data that the form needs are held and meet their conditions
abbrev pub Serves : HeldForForms → NormalForm → Type 0
Serves held form = (m : MadeForm) × IsMadeOf form held m

-- the error is of the first of the forms that isn't served
abbrev pub RefusesFirst : HeldForForms → List NormalForm → DataError → Type 0
RefusesFirst held [] e = ⊥
RefusesFirst held (form ∷ forms) e = RefusesForm form held e ⊎ (Serves held form × RefusesFirst held forms e)

-- the same of the data that the mapper needs
abbrev pub RefusesMapper : HeldForMapper → DataError → Type 0
RefusesMapper held e = RefusesHeld (RefusesToCompose marker.NormalizerUts46DataV1) held e
