-- Records of which no refusal holds give no list that is too long.
use Rattle.std.proofs.Common.{◌≡◌, ℕ, suc, ◌≤◌, List, [], ◌∷◌, ◌++◌, length, get_or, map, All, Option, Some, None, IfSome, IsSomeAnd, inl, inr, refl, ap, ◌∙◌, arith}
use Rattle.normalizer_tables.specs.Entries.{EntryValue}
use Rattle.std.proofs.lemmas.Bool.{cases_lt}
use Rattle.std.proofs.lemmas.Bool.Decides.{nat_tests}
use Rattle.normalizer_tables.specs.SpecialLists.{fdfa_list}
use Rattle.normalizer_records.specs.declared.records.BuildError.TheVariants as error
use Rattle.normalizer_records.specs.RecordValue.{RecordValue, Uts46RecordValue}
use Rattle.normalizer_records.specs.Faults.{HasFault, HasChainFault, HasLengthFault, HasLongList, HasLongOwnList, IsAsked, IsFirstRefusal, IsOnLongChain, IsTooLong, mapped_to}
use Rattle.normalizer_records.specs.Meaning.{mapper_list, status_of}
use Rattle.normalizer_records.specs.Recorded.{entry_for}
use Rattle.normalizer_records.specs.inner.CutLists.{IsCutEntry}
use Rattle.normalizer_records.proofs.checked_lists.ChecksOfCuts.{MayStandFor-short}
use Rattle.normalizer_records.proofs.record_faults.RefusalLemmas.{unrefused}

pub short : (list : List ℕ) → ¬ IsTooLong list → length list ≤ 18
unfolding fdfa_list
short list h = elim (cases_lt 18 (length list)) [
  | inl over ↦ absurd (h (grind (arith, nat_tests), λ e. omega (arith, ap length e)))
  | inr within ↦ within
]

short_if_some : (o : Option (List ℕ)) → ¬ IsSomeAnd o IsTooLong → IfSome o (λ x. length x ≤ 18)
short_if_some None h = tt
short_if_some (Some x) h = short x h

module _ (records : List RecordValue) (uts46 : List Uts46RecordValue) (none : IsFirstRefusal records uts46 None) where
  off_chain : (c : ℕ) → ¬ IsOnLongChain records c
  unfolding HasFault HasChainFault IsOnLongChain
  off_chain c h = unrefused records uts46 none error.Chain (h.0 ++ c ∷ h.1, h.2, h.3)

  pub asked : (c : ℕ) → IsAsked records uts46 c
  asked c = record { off_chain = off_chain c; mapped_off_chain = λ k d within. off_chain (get_or (mapped_to (status_of uts46 c)) k d) }

  -- so no list of an entry is cut
  pub whole : (e : EntryValue) → IsCutEntry records uts46 e → e ≡ entry_for records uts46 e.character
  unfolding entry_for HasFault HasLengthFault HasLongList HasLongOwnList
  whole e cut =
      let c = e.character in
      let class = cut.class in
      let canonical = cut.canonical.short (short _ (λ h. unrefused records uts46 none error.Length (c, asked c, inl (inl h)))) in
      let compatibility = cut.compatibility.short (short _ (λ h. unrefused records uts46 none error.Length (c, asked c, inl (inr h)))) in
      let mapper = MayStandFor-short records (mapper_list records uts46 c) e.mapper
      (short_if_some (mapper_list records uts46 c) (λ h. unrefused records uts46 none error.Length (c, asked c, inr h))) cut.mapper in
      let mapping = cut.mapping in
      λ i. record { character = c; class = class i; canonical = canonical i; compatibility = compatibility i; mapper = mapper i; mapping = mapping i }

  pub all_whole : (es : List EntryValue) → All (IsCutEntry records uts46) es → es ≡ map (entry_for records uts46) (map (λ e. e.character) es)
  all_whole [] h = refl
  all_whole (e ∷ es) h =
      ap (λ x. x ∷ es) (whole e (h 0 e (omega arith)))
      ∙ ap (λ xs. entry_for records uts46 e.character ∷ xs) (all_whole es (λ k d lt. h (suc k) d (omega arith)))
