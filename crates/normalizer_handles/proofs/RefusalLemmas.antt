-- Which constructor refuses data: of a form, of the mapper or of steps.
use Rattle.std.proofs.Common.{◌≡◌, ◌≢◌, ◌⊎◌, ℕ, List, [], ◌∷◌, Ok, refl, inl, inr}
use Rattle.icu_normalizer.specs.Form.TheVariants.{Decomposing}
use Rattle.icu_normalizer.specs.Characters.{Characters}
use Rattle.icu_normalizer.specs.Held.{AcceptsHeld}
use Rattle.icu_normalizer.specs.Pairs.{Pair}
use Rattle.icu_normalizer.specs.ComposingAcceptance.{SuitsComposing, with_pairs}
use Rattle.icu_normalizer.specs.DataError.{DataError}
use Rattle.icu_normalizer.specs.DataError.TheVariants as data_error
use Rattle.icu_normalizer.specs.DataMarkerInfo.TheVariants as marker
use Rattle.icu_normalizer.specs.Forms.{form_by}
use Rattle.icu_normalizer.specs.HeldForms.{HeldForForms, RefusesFirst, RefusesForm, RefusesMapper, Serves}
use Rattle.icu_normalizer.specs.Kind.TheVariants.{Canonical, Compatibility, Mapper}
use Rattle.icu_normalizer.specs.Packed.{Packed}
use Rattle.icu_normalizer.specs.ReadBack.{characters_of}
use Rattle.icu_normalizer.specs.StepData.{RefusesSteps}
use Rattle.icu_normalizer.specs.declared.any_normalizer.NormalForm.{NormalForm}
use Rattle.icu_normalizer.specs.declared.any_normalizer.NormalForm.TheVariants.{Nfd, Nfc, Nfkd, Nfkc}
use Rattle.icu_normalizer.proofs.acceptance.AllForms.{composing-refuses, DecomposesBy-composing}
use Rattle.normalizer_prepared.specs.Prepared.{IsFileOf}
use Rattle.normalizer_handles.specs.Prepared.{forms, held_by, IsFaultOfFile, Refuses, SuitsMapper}
use Rattle.normalizer_handles.specs.Status.{fault_of_data}

module _ (p : Packed) (e : DataError) where
  abbrev Fails : Type 0 → Type 0
  Fails Is = (e ≡ data_error.Memory) ⊎ Is

  abbrev held : HeldForForms
  held = held_by p

  serves-nfd : (h : Characters × List Pair) → AcceptsHeld SuitsComposing (with_pairs held.canonical held.pairs) h
      → Serves held Nfd
  serves-nfd h accepts = (form_by h.0 [] Decomposing, DecomposesBy-composing held.canonical held.pairs h accepts)

  -- an error of NFKC, once NFD and NFC are made
  nfkc-refuses : Serves held Nfd → Serves held Nfc → RefusesForm Nfkc held e → RefusesFirst held forms e
  nfkc-refuses nfd nfc h =
      elim (composing-refuses marker.NormalizerNfkdDataV1 (characters_of p Compatibility) p.compositions e h) [
        | inl refuses ↦ inr (nfd, inr (nfc, inl refuses))
        | inr suits ↦
            let s = characters_of p Compatibility in
            let nfkd : Serves held Nfkd = (form_by s [] Decomposing, (s, (refl, suits), refl)) in
            inr (nfd, inr (nfc, inr (nfkd, inl h)))
      ]

  four : RefusesFirst held (Nfc ∷ Nfkc ∷ []) e → RefusesFirst held forms e
  four (inl h) =
      elim (composing-refuses marker.NormalizerNfdDataV1 (characters_of p Canonical) p.compositions e h) [
        | inl refuses ↦ inl refuses
        | inr suits ↦
            let s = characters_of p Canonical in
            let nfd : Serves held Nfd = (form_by s [] Decomposing, (s, (refl, suits), refl)) in
            inr (nfd, inl h)
      ]
  four (inr (nfc, inl h)) = nfkc-refuses (serves-nfd nfc.1.0 nfc.1.1) nfc h
  four (inr (nfc, inr h)) = absurd h.1

  -- NFD has the data of NFC, and NFKD those of NFKC
  pub forms-refuse : Fails (RefusesFirst held (Nfc ∷ Nfkc ∷ []) e) → Fails (Refuses p e)
  forms-refuse (inl h) = inl h
  forms-refuse (inr h) = inr (inl (four h))

  pub mapper-refuses : ((form : NormalForm) → Serves held form)
      → Fails ((p.mapper ≢ p.canonical) × RefusesMapper (Ok (characters_of p Mapper, p.compositions)) e)
      → Fails (Refuses p e)
  mapper-refuses serves (inl h) = inl h
  mapper-refuses serves (inr h) = inr (inr (serves, inl h))

  pub steps-refuse : ((form : NormalForm) → Serves held form) → SuitsMapper p
      → Fails (RefusesSteps marker.NormalizerNfdDataV1 (characters_of p Canonical, p.supplement) e) → Fails (Refuses p e)
  steps-refuse serves suits (inl h) = inl h
  steps-refuse serves suits (inr h) = inr (inr (serves, inr (suits, h)))

pub file-fault : (bytes : List ℕ) (p : Packed) (e : DataError) → IsFileOf bytes p
    → (e ≡ data_error.Memory) ⊎ Refuses p e
    → IsFaultOfFile bytes (fault_of_data e)
file-fault bytes p data_error.Memory file r = tt
file-fault bytes p (data_error.Invalid m c) file (inl h) = absurd cc
file-fault bytes p (data_error.Invalid m c) file (inr h) = (p, data_error.Invalid m c, file, h, refl)
file-fault bytes p (data_error.FutureExtension m) file (inl h) = absurd cc
file-fault bytes p (data_error.FutureExtension m) file (inr h) = (p, data_error.FutureExtension m, file, h, refl)
file-fault bytes p (data_error.Provider m) file (inl h) = absurd cc
file-fault bytes p (data_error.Provider m) file (inr h) = (p, data_error.Provider m, file, h, refl)
