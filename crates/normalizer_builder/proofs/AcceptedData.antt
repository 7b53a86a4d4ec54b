-- Built data meet all conditions of constructors.
use Rattle.std.proofs.Common.{false, true, not, ◌==◌, [], ◌∷◌, List, All, None, refl}
use Rattle.std.proofs.lemmas.List.Sums.{AllPass-from_list_all}
use Rattle.normalizer_tables.specs.declared.condition.Bounds.{Bounds}
use Rattle.normalizer_tables.specs.declared.condition.Condition.{Condition}
use Rattle.normalizer_tables.specs.declared.condition.Condition.TheVariants.{Surrogates, PastTheEnd, Words, Passthrough, Pairs, FdfaForms, Steps}
use Rattle.normalizer_tables.specs.declared.provider.DataError.{DataError}
use Rattle.normalizer_tables.specs.declared.provider.DataMarkerInfo.{DataMarkerInfo}
use Rattle.normalizer_check.specs.RequiredConditions.{AreAcceptedPairs, class_conditions, composing_conditions, decomposing_conditions, IsAccepted, step_conditions}
use Rattle.normalizer_tables.specs.conditions.Conditions.{every_condition, IsMet, number_of}
use Rattle.normalizer_tables.specs.conditions.Loaded.{Loaded, bounds_of_cap, characters_alone, characters_and_pairs, characters_loaded, classes_loaded, pairs_loaded}
use Rattle.normalizer_tables.specs.conditions.PairConditions.{AreSoundPairs}
use Rattle.normalizer_tables.specs.Characters.{Characters}
use Rattle.normalizer_tables.specs.Pairs.{Pair}
use Rattle.normalizer_check.specs.Refusals.{RefusesFirstFailing}
use Rattle.normalizer_tables.specs.conditions.NfdData.{nfd_bounds}
use Rattle.normalizer_tables.proofs.conditions.ListedConditions.{all_met, met}
use Rattle.normalizer_check.proofs.conditions.FailingLemmas.{IsFirstFailing-not_all}
use Rattle.normalizer_check.proofs.conditions.EachCondition.{IsMet-unpaired, IsMet-unsupplemented}
use Rattle.normalizer_check.proofs.conditions.LoadedLemmas.{All-front, parts_met}
use Rattle.normalizer_packing.specs.declared.Packed.{Packed}
use Rattle.normalizer_tables.specs.declared.entry.Kind.TheVariants.{Canonical, Compatibility, Mapper}
use Rattle.normalizer_packing.specs.ReadBack.{characters_of}
use Rattle.normalizer_builder.specs.Accepted.{steps_loaded}
use Rattle.normalizer_records.specs.RecordValue.{RecordValue}
use Rattle.normalizer_builder.specs.Demands.{IsFirstUnmet, loaded_of}
use Rattle.normalizer_builder.proofs.FirstUnmet.{fit_kind}

pub met_not_refused : (d : Loaded) (conditions : List Condition) (kind : DataMarkerInfo) (e : DataError) → All (IsMet d) conditions → ¬ RefusesFirstFailing kind d conditions e
met_not_refused d conditions kind e all refuses = IsFirstFailing-not_all (IsMet d) conditions refuses.0 refuses.1 all

module _ (s : Characters) (pairs : List Pair) (all : All (IsMet (characters_and_pairs s pairs)) (composing_conditions s.is_mapper)) where
  pub accepted_characters : IsAccepted s (bounds_of_cap s.decompositions.cap)
  accepted_characters = (parts_met s pairs all).0

  pub accepted_pairs : AreAcceptedPairs s (bounds_of_cap s.decompositions.cap) pairs
  accepted_pairs = (parts_met s pairs all).1

module _ (records : List RecordValue) (p : Packed) (fit : IsFirstUnmet records p None) where
  -- of the conditions of canonical data those on texts are first, and none of them speaks of the supplement
  pub nfc_met : All (IsMet (characters_and_pairs (characters_of p Canonical) p.compositions)) (composing_conditions false)
  nfc_met = λ k c h. IsMet-unsupplemented (loaded_of p Canonical) _ (All-front (IsMet (loaded_of p Canonical)) (composing_conditions false) (FdfaForms ∷ Steps ∷ []) (fit_kind records p fit Canonical) k c h)

  pub nfkc_met : All (IsMet (characters_and_pairs (characters_of p Compatibility) p.compositions)) (composing_conditions false)
  nfkc_met = fit_kind records p fit Compatibility

  pub mapper_met : All (IsMet (characters_and_pairs (characters_of p Mapper) p.compositions)) (composing_conditions true)
  mapper_met = fit_kind records p fit Mapper

  pub nfd_met : All (IsMet (characters_alone (characters_of p Canonical))) decomposing_conditions
  nfd_met = accepted_characters (characters_of p Canonical) p.compositions nfc_met

  pub nfkd_met : All (IsMet (characters_alone (characters_of p Compatibility))) decomposing_conditions
  nfkd_met = accepted_characters (characters_of p Compatibility) p.compositions nfkc_met

  -- what classes alone require follows from three of the conditions, and what pairs alone require from one
  pub classes_met : ((s : Characters) (b : Bounds) → IsMet (characters_loaded s b) Surrogates → IsMet (characters_loaded s b) PastTheEnd → IsMet (characters_loaded s b) Words →
      All (IsMet (classes_loaded s.decompositions)) class_conditions) → All (IsMet (classes_loaded p.canonical)) class_conditions
  classes_met follow =
      let holds = met (characters_alone (characters_of p Canonical)) decomposing_conditions in
      follow (characters_of p Canonical) (bounds_of_cap p.canonical.cap) (holds Surrogates nfd_met refl) (holds PastTheEnd nfd_met refl) (holds Words nfd_met refl)

  pub pairs_met : ((s : Characters) (b : Bounds) (pairs : List Pair) → IsMet (pairs_loaded s b pairs) Pairs → AreSoundPairs pairs) → AreSoundPairs p.compositions
  pairs_met follow = follow (characters_of p Canonical) (bounds_of_cap p.canonical.cap) p.compositions
      (met (characters_and_pairs (characters_of p Canonical) p.compositions) (composing_conditions false) Pairs nfc_met refl)

  -- the conditions of one step are among those of canonical data, and none of them looks at the bounds
  pub steps_met : All (IsMet (steps_loaded p)) step_conditions
  steps_met = λ k c h.
      let others = AllPass-from_list_all (λ e. not (number_of e == number_of Passthrough)) step_conditions refl in
      IsMet-unpaired (loaded_of p Canonical) nfd_bounds _ (λ same. absurd (cc (others k c h)))
      (all_met (loaded_of p Canonical) every_condition step_conditions (fit_kind records p fit Canonical) refl k c h)
