use Rattle.std.proofs.Common.{inl, refl}
use Rattle.normal_forms.specs.Hypotheses.{HasNonemptyLists, SuitsForm}
use Rattle.normalizer_tables.specs.declared.characters.IgnoredCharacters.TheVariants.{Dropped}
use Rattle.normalizer_tables.specs.conditions.Loaded.{bounds_of_cap}
use Rattle.normalizer_tables.specs.Pairs.{pair_of}
use Rattle.normalizer_tables.specs.declared.entry.Kind.TheVariants as kind
use Rattle.normalizer_packing.specs.ReadBack.{characters_of}
use Rattle.normalizer_records.specs.declared.records.Mappings.TheVariants.{Canonical, All}
use Rattle.normalizer_builder.specs.RecordedReading.{recorded_reading}
use Rattle.normalizer_builder.proofs.AcceptedData.{accepted_characters, accepted_pairs, nfc_met, nfkc_met}
use Rattle.normalizer_builder.proofs.RecordedLaws.{alike_canonical, alike_compatibility}
use Rattle.normalizer_builder.proofs.laws.what_is_built_suits_the_laws.Goals as goal

pub returns-clause-suits : goal.returns-clause-suits
returns-clause-suits c = λ records uts46 p builds m form. (
    let a = characters_of p kind.Canonical in
    let b = characters_of p kind.Compatibility in
    let texts = c.accepted_data_suit_texts.ensures.composing in
    let suits = c.alike_readings_make_the_same_forms.ensures.suits in
    elim m as (λ k. SuitsForm (recorded_reading records k) form) [
      | Canonical ↦ suits _ _ (alike_canonical records uts46 p builds.means) form
          (texts a (bounds_of_cap a.decompositions.cap) p.compositions refl (accepted_characters a p.compositions (nfc_met records p builds.fit)) (accepted_pairs a p.compositions (nfc_met records p builds.fit)) form).laws
      | All ↦ suits _ _ (alike_compatibility records uts46 p builds.means) form
          (texts b (bounds_of_cap b.decompositions.cap) p.compositions refl (accepted_characters b p.compositions (nfkc_met records p builds.fit)) (accepted_pairs b p.compositions (nfkc_met records p builds.fit)) form).laws
    ])

pub returns-clause-are_nonempty : goal.returns-clause-are_nonempty
returns-clause-are_nonempty c = λ records uts46 p builds m. (
    let are_nonempty = c.lists_are_nonempty.ensures in
    let alike = c.alike_readings_make_the_same_forms.ensures.are_nonempty in
    elim m as (λ k. HasNonemptyLists (recorded_reading records k)) [
      | Canonical ↦ alike _ _ (alike_canonical records uts46 p builds.means) (are_nonempty (characters_of p kind.Canonical) Dropped (pair_of p.compositions) (inl refl))
      | All ↦ alike _ _ (alike_compatibility records uts46 p builds.means) (are_nonempty (characters_of p kind.Compatibility) Dropped (pair_of p.compositions) (inl refl))
    ])
