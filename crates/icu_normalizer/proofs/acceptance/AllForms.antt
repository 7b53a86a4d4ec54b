-- What a composing normalizer's data are to the decomposing normalizer over them, and which of both refuses data.
use Rattle.std.proofs.Common.{◌≡◌, ◌⊎◌, ◌++◌, List, [], ◌∷◌, Option, Some, None, Result, Ok, Err, refl, inl, inr, ap, subst, sym, drop, get_or}
use Rattle.std.specs.Prelude.{All}
use Rattle.std.proofs.lemmas.List.Elements.{All-cons, All-from_recursion, All-head, All-nil, All-tail}
use Rattle.normal_forms.specs.declared.Form.TheVariants.{Composing, Decomposing}
use Rattle.normalizer_check.specs.RequiredConditions.{decomposing_conditions, pair_conditions}
use Rattle.normalizer_check.proofs.conditions.FailingLemmas.{IsFirstFailing-here, IsFirstFailing-next}
use Rattle.normalizer_check.proofs.conditions.EachCondition.{IsMet-alone}
use Rattle.normalizer_check.proofs.conditions.LoadedLemmas.{parts_met}
use Rattle.normalizer_tables.specs.Characters.{Characters}
use Rattle.normalizer_tables.specs.conditions.Conditions.{IsFirstFailing, IsMet, says}
use Rattle.normalizer_tables.specs.Held.{AcceptsHeld}
use Rattle.normalizer_tables.specs.conditions.Loaded.{characters_alone, characters_and_pairs}
use Rattle.normalizer_tables.specs.Pairs.{Pair}
use Rattle.normalizer_tables.specs.declared.provider.DataError.{DataError}
use Rattle.normalizer_tables.specs.declared.provider.DataError.TheVariants.{Memory}
use Rattle.normalizer_tables.specs.declared.provider.DataMarkerInfo.{DataMarkerInfo}
use Rattle.normalizer_tables.specs.declared.provider.DataMarkerInfo.TheVariants.{NormalizerNfdDataV1, NormalizerNfkdDataV1}
use Rattle.icu_normalizer.specs.Acceptance.{RefusesToDecompose, SuitsDecomposing}
use Rattle.icu_normalizer.specs.AllNormalizers.{made_to}
use Rattle.icu_normalizer.specs.ComposingAcceptance.{RefusesToCompose, SuitsComposing, with_pairs}
use Rattle.normalizer_calls.specs.Forms.{form_by}
use Rattle.icu_normalizer.specs.ComposingNormalizers.{data_and_pairs_of}
use Rattle.icu_normalizer.specs.HeldForms.{DecomposesBy, HeldForForms, IsMadeOf, RefusesFirst, RefusesForm, Serves}
use Rattle.icu_normalizer.specs.declared.all_normalizers.AllNormalizers.{AllNormalizers}
use Rattle.icu_normalizer.specs.declared.any_normalizer.NormalForm.{NormalForm}
use Rattle.icu_normalizer.specs.declared.any_normalizer.NormalForm.TheVariants.{Nfd, Nfc, Nfkd, Nfkc}

-- data that are accepted for composing text are accepted for decomposing it
pub DecomposesBy-composing : (held : Result Characters DataMarkerInfo) (pairs : Option (List Pair)) (h : Characters × List Pair)
    → AcceptsHeld SuitsComposing (with_pairs held pairs) h → DecomposesBy held (form_by h.0 [] Decomposing)
DecomposesBy-composing (Err missing) pairs h accepts = absurd accepts
DecomposesBy-composing (Ok s) None h accepts = absurd accepts
DecomposesBy-composing (Ok s) (Some pairs) h accepts = (h.0, (ap (λ k. k.0) accepts.0, (parts_met s pairs accepts.1).0), refl)

-- the first of two lists of conditions that fails is in the first list, or all of this list are met
first_failing-split : {C : Type 0} (P Q : C → Type 0) (xs ys : List C) (c : C) → All (λ x. Q x → P x) xs → ((x : C) → P x → Q x)
    → IsFirstFailing P (xs ++ ys) (Some c) → IsFirstFailing Q xs (Some c) ⊎ All Q xs
unfolding IsFirstFailing
first_failing-split P Q [] ys c same weaker f = inr (All-nil Q)
first_failing-split P Q (x ∷ xs) ys c same weaker ([], after, e, met, fails) =
    let first : x ≡ c = ap (λ l. get_or l 0 x) e in
    inl (subst (λ d. IsFirstFailing Q (x ∷ xs) (Some d)) first (IsFirstFailing-here Q x xs (λ q. fails (subst P first (All-head (λ x. Q x → P x) x xs same q)))))
first_failing-split P Q (x ∷ xs) ys c same weaker (b ∷ before, after, e, met, fails) =
    let holds : Q x = weaker x (subst P (sym (ap (λ l. get_or l 0 x) e)) (All-head P b before met)) in
    elim (first_failing-split P Q xs ys c (All-tail (λ x. Q x → P x) x xs same) weaker (before, after, ap (drop 1) e, All-tail P b before met, fails)) [
      | inl failing ↦ inl (IsFirstFailing-next Q x xs (Some c) holds failing)
      | inr all ↦ inr (All-cons Q x xs holds all)
    ]

-- the conditions for decomposing say nothing of pairs
same_met : (s : Characters) (pairs : List Pair) → All (λ c. IsMet (characters_alone s) c → IsMet (characters_and_pairs s pairs) c) decomposing_conditions
unfolding says
same_met s pairs = All-from_recursion (λ c. IsMet (characters_alone s) c → IsMet (characters_and_pairs s pairs) c) decomposing_conditions search

-- data with pairs that are refused for composing text are refused for decomposing it, with the same error, or suit that
pub composing-refuses : (kind : DataMarkerInfo) (s : Characters) (pairs : List Pair) (e : DataError) → RefusesToCompose kind (s, pairs) e
    → RefusesToDecompose kind s e ⊎ SuitsDecomposing s
composing-refuses kind s pairs e refuses =
    elim (first_failing-split (IsMet (characters_and_pairs s pairs)) (IsMet (characters_alone s)) decomposing_conditions (pair_conditions s.is_mapper) refuses.0
    (same_met s pairs) (IsMet-alone (characters_and_pairs s pairs)) refuses.1) [
      | inl failing ↦ inl (refuses.0, failing, refuses.2)
      | inr suits ↦ inr suits
    ]

-- two composing normalizers over what is held make all forms of it
pub all_made : (canonical compatibility : Result Characters DataMarkerInfo) (pairs : Option (List Pair)) (n : AllNormalizers)
    → AcceptsHeld SuitsComposing (with_pairs canonical pairs) (data_and_pairs_of n.canonical)
    → AcceptsHeld SuitsComposing (with_pairs compatibility pairs) (data_and_pairs_of n.compatibility)
    → (form : NormalForm) → IsMadeOf form (record { canonical = canonical; compatibility = compatibility; pairs = pairs }) (made_to n form)
all_made canonical compatibility pairs n first second Nfd = DecomposesBy-composing canonical pairs (data_and_pairs_of n.canonical) first
all_made canonical compatibility pairs n first second Nfc = (data_and_pairs_of n.canonical, first, refl)
all_made canonical compatibility pairs n first second Nfkd = DecomposesBy-composing compatibility pairs (data_and_pairs_of n.compatibility) second
all_made canonical compatibility pairs n first second Nfkc = (data_and_pairs_of n.compatibility, second, refl)

-- the second is refused after the first was made
pub second_refused : (canonical compatibility : Result Characters DataMarkerInfo) (pairs : Option (List Pair)) (h : Characters × List Pair) (e : DataError)
    → AcceptsHeld SuitsComposing (with_pairs canonical pairs) h
    → (e ≡ Memory) ⊎ RefusesForm Nfkc (record { canonical = canonical; compatibility = compatibility; pairs = pairs }) e
    → (e ≡ Memory) ⊎ RefusesFirst (record { canonical = canonical; compatibility = compatibility; pairs = pairs }) (Nfc ∷ Nfkc ∷ []) e
second_refused canonical compatibility pairs h e accepts (inl memory) = inl memory
second_refused canonical compatibility pairs h e accepts (inr refuses) = inr (inr ((form_by h.0 h.1 Composing, (h, accepts, refl)), inl refuses))

-- what is held if each load holds something
abbrev all_held : Characters → Characters → List Pair → HeldForForms
all_held s t pairs = record { canonical = Ok s; compatibility = Ok t; pairs = Some pairs }

decomposes : (s t : Characters) (pairs : List Pair) → Serves (all_held s t pairs) Nfc → Serves (all_held s t pairs) Nfd
decomposes s t pairs serves = (form_by serves.1.0.0 [] Decomposing, DecomposesBy-composing (Ok s) (Some pairs) serves.1.0 serves.1.1)
