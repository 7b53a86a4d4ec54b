-- Data that pack records that aren't refused mean what the records mean.
use Rattle.std.proofs.Common.{◌≡◌, ◌∙◌, inl, inr, ℕ, All, false, List, [], ◌∷◌, None, unwrap_or, ap, sym, refl, arith}
use lib.Utf8.{scalar}
use Rattle.std.proofs.lemmas.Bool.{cases_Bool, true≢false}
use Rattle.std.proofs.lemmas.Bool.Decides.{nat_tests}
use Rattle.normalizer_tables.specs.Characters.{class_of, list_of, list_read}
use Rattle.normalizer_tables.specs.Hangul.{is_hangul_syllable}
use Rattle.normalizer_tables.specs.Pairs.{pair_of}
use Rattle.normalizer_packing.specs.declared.Packed.{Packed}
use Rattle.normalizer_tables.specs.declared.entry.Kind.{Kind}
use Rattle.normalizer_tables.specs.declared.entry.Kind.TheVariants as kind
use Rattle.normalizer_packing.specs.ReadBack.{ReadsBack, characters_of, class_by, list_by}
use Rattle.normalizer_packing.proofs.reading_back.DataReadBack.{packs_reads_back}
use Rattle.normalizer_records.specs.RecordValue.{RecordValue, Uts46RecordValue}
use Rattle.normalizer_records.specs.Faults.{IsFirstRefusal}
use Rattle.normalizer_builder.specs.Building.{Builds, PacksRecords}
use Rattle.normalizer_builder.specs.Demands.{IsFirstUnmet}
use Rattle.normalizer_records.specs.Recorded.{IsOfCharacters}
use Rattle.normalizer_records.specs.Recorded.{entry_for}
use Rattle.normalizer_builder.proofs.EntriesOfRecords.{IsAlone, same_list, told}
use Rattle.normalizer_builder.proofs.FirstUnmet.{mappings_met}
use Rattle.normalizer_builder.proofs.NoRefusal.{recorded_list}
use Rattle.normalizer_builder.proofs.PackableEntries.{ArePackable-made}
use Rattle.normalizer_builder.proofs.ReadableEntries.{AreReadable-made, class_by-canonical, class_by-compatibility, class_by-mapper}
use Rattle.normalizer_builder.proofs.SameParts.{pair_of-permutation}

no_syllable-beyond : (n : ℕ) → scalar n ≡ false → is_hangul_syllable n ≡ false
unfolding is_hangul_syllable
no_syllable-beyond n e = grind (arith, nat_tests)

module _ (records : List RecordValue) (uts46 : List Uts46RecordValue) (none : IsFirstRefusal records uts46 None) (p : Packed) (packs : PacksRecords records uts46 p)
    (characters : All IsOfCharacters packs.entries) where
  reads : (k : Kind) → ReadsBack k packs.entries (characters_of p k)
  reads k =
      packs_reads_back k packs.entries packs.pairs p (ArePackable-made records uts46 none packs.entries packs.made characters)
      (AreReadable-made records uts46 none packs.entries packs.made characters k) packs.packs

  -- numbers that are no scalar values aren't recorded
  beyond : (n : ℕ) → scalar n ≡ false → IsAlone records uts46 packs.entries n
  unfolding entry_for
  beyond n e = elim (told records uts46 none packs.entries packs.made characters n) as (λ _. IsAlone records uts46 packs.entries n) [
    | inl alone ↦ alone
    | inr t ↦ absurd (true≢false (sym t.characters.character ∙ e))
  ]

  same_lists : (k : Kind) (ignored : List ℕ) (n : ℕ) → list_of (characters_of p k) ignored n ≡ unwrap_or (recorded_list records uts46 k n) ignored
  unfolding list_of list_read list_by
  same_lists k ignored n = rw (sym (same_list records uts46 none packs.entries packs.made characters k n)) (elim (cases_Bool (scalar n)) [
    | inl s ↦ ap (λ o. unwrap_or o (n ∷ [])) ((reads k).lists ignored n s)
    | inr e ↦ rw (e, no_syllable-beyond n e, (beyond n e).lists k) refl
  ])

  same_classes : (k : Kind) (n : ℕ) → class_of (characters_of p k) n ≡ class_by k packs.entries n
  unfolding class_of class_by
  same_classes k n = elim (cases_Bool (scalar n)) [
    | inl s ↦ (reads k).classes n s
    | inr e ↦ (let own = (beyond n e).class in grind arith)
  ]

  pub Builds-packed : IsFirstUnmet records p None → Builds records uts46 p
  Builds-packed fit = record {
    unrefused = none;
    packs = packs;
    means = record {
      canonical = same_lists kind.Canonical [];
      compatibility = same_lists kind.Compatibility [];
      mapper = same_lists kind.Mapper;
      canonical_classes = λ n. same_classes kind.Canonical n ∙ class_by-canonical records uts46 none packs.entries packs.made characters n;
      compatibility_classes = λ n. same_classes kind.Compatibility n ∙ class_by-compatibility records uts46 none packs.entries packs.made characters n;
      mapper_classes = λ n. same_classes kind.Mapper n ∙ class_by-mapper records uts46 none packs.entries packs.made characters n;
      pairs = λ first second.
          ap (λ l. pair_of l first second) packs.packs.compositions ∙ pair_of-permutation _ packs.pairs packs.same_pairs packs.rising_pairs first second;
      steps = mappings_met records p fit;
    };
    fit = fit;
  }
