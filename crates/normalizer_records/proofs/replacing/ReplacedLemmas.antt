-- The expansion is the result of replacing until nothing changes.
use Rattle.std.proofs.Common.{◌≡◌, ◌≢◌, ℕ, zero, suc, ◌↔◌, true, false, List, [], ◌∷◌, ◌++◌, refl, Option, is_some, sym, ap, subst, subst₂, ◌∙◌}
use Rattle.std.proofs.Common.{arith, inl, inr, ◌⊎◌, All, Contains, append_assoc, flat_map}
use Rattle.std.specs.Option.{option_map_or}
use Rattle.std.proofs.lemmas.Bool.{cases_Bool}
use Rattle.std.proofs.lemmas.List.{append-nil}
use Rattle.std.proofs.lemmas.List.Elements.{All-nil, All-cons, All-contains}
use Rattle.normal_forms.proofs.cuts.PlaceLemmas.{same_or_not}
use Rattle.normalizer_tables.specs.Hangul.{is_hangul_syllable, hangul_decomposition}
use Rattle.normalizer_records.specs.declared.records.Mappings.{Mappings}
use Rattle.normalizer_records.specs.RecordValue.{RecordValue, Uts46RecordValue}
use Rattle.normalizer_records.specs.Meaning.{expand_all, entry_of, mapping_of, mapping_among, replacement, expansion, ExpandsTo, done, stays, replaced, levels}
use Rattle.normalizer_records.specs.inner.Chains.{LeadsOn}
use Rattle.normalizer_records.specs.Faults.{IsRecorded, IsOnLongChain, has_fixed_fault}
use Rattle.normalizer_records.proofs.replacing.ExpansionLemmas.{expansion-alone, expansion-replaced}
use Rattle.normalizer_tables.proofs.syllables.SyllableJamo.{IsJamo, by_jamo}
use Rattle.normalizer_records.proofs.checked_lists.JamoOfSyllables.{replacement-syllable}
use Rattle.normalizer_records.proofs.checked_lists.UnrecordedLemmas.{jamo_stays}
use Rattle.normalizer_records.proofs.replacing.ChainLemmas.{chain_from_on}

jamo_of_syllable : (c x : ℕ) → is_hangul_syllable c ≡ true → Contains (hangul_decomposition c) x → IsJamo x
jamo_of_syllable c x h = All-contains IsJamo (hangul_decomposition c) x
    (by_jamo (All IsJamo) c h (λ l v a b. All-cons IsJamo l (v ∷ []) a (All-cons IsJamo v [] b (All-nil IsJamo)))
    (λ l v t a b d. All-cons IsJamo l (v ∷ t ∷ []) a (All-cons IsJamo v (t ∷ []) b (All-cons IsJamo t [] d (All-nil IsJamo)))))

-- what is taken of a mapping is the whole mapping, or nothing
whole_mapping : (o : Option RecordValue) (mappings : Mappings) → option_map_or (mapping_among mappings) o [] ≢ [] →
    (is_some o ≡ true) × (option_map_or (mapping_among mappings) o [] ≡ option_map_or (λ r. r.mapping) o [])
whole_mapping o mappings some = grind (arith, some)

-- one text comes of replacing
module _ (records : List RecordValue) (mappings : Mappings) where
  Begins : List ℕ → List ℕ → Type 0
  Begins [] y = y ≡ []
  Begins (c ∷ x) y =
      ((replacement records mappings c ≡ []) × ((z : List ℕ) × ExpandsTo records mappings x z × (y ≡ c ∷ z)))
      ⊎ ((replacement records mappings c ≢ []) × ExpandsTo records mappings (replacement records mappings c ++ x) y)

  begins : (x y : List ℕ) → ExpandsTo records mappings x y → Begins x y
  unfolding Begins
  begins _ _ done = refl
  begins _ _ (stays {x} {y} c none rest) = inl (none, (y, rest, refl))
  begins _ _ (replaced {x} {y} c some rest) = inr (some, rest)

  ends_once : (x y z : List ℕ) → ExpandsTo records mappings x y → ExpandsTo records mappings x z → y ≡ z
  unfolding Begins
  ends_once _ _ z done other = sym (begins [] z other)
  ends_once _ _ z (stays {x} {y} c none rest) other = elim (begins (c ∷ x) z other) as (λ _. c ∷ y ≡ z) [
    | inl (_, by) ↦ ap (λ l. c ∷ l) (ends_once x y by.0 rest by.1) ∙ sym by.2
    | inr (some, _) ↦ absurd (some none)
  ]
  ends_once _ _ z (replaced {x} {y} c some rest) other = elim (begins (c ∷ x) z other) as (λ _. y ≡ z) [
    | inl (none, _) ↦ absurd (some none)
    | inr (_, by) ↦ ends_once (replacement records mappings c ++ x) y z rest by
  ]

module _ (records : List RecordValue) (uts46 : List Uts46RecordValue) (fixed : has_fixed_fault records uts46 ≡ false) (mappings : Mappings) where
  -- fewer than n records lead on from c
  abbrev EndsWithin : ℕ → ℕ → Type 0
  EndsWithin zero c = ⊥
  EndsWithin (suc n) c = LeadsOn records n c → ⊥

  EndsWithin-member : (n c m : ℕ) → IsRecorded records c → Contains (mapping_of records c) m → EndsWithin (suc n) c → EndsWithin n m
  unfolding LeadsOn
  EndsWithin-member zero c m h there ends = ends h
  EndsWithin-member (suc n) c m h there ends = λ on. ends (m, there, on)

  EndsWithin-short : (c : ℕ) → (IsOnLongChain records c → ⊥) → EndsWithin 17 c
  unfolding IsOnLongChain
  EndsWithin-short c short = λ on. let chain = chain_from_on records 16 c on in let long = chain.2 in short ([], chain.0, chain.1, omega arith)

  replacement-other : (c : ℕ) → is_hangul_syllable c ≡ false → replacement records mappings c ≡ option_map_or (mapping_among mappings) (entry_of records c) []
  unfolding replacement
  replacement-other c other = rw other refl

  -- what isn't a syllable is replaced by what is recorded
  recorded_replacement : (c : ℕ) → is_hangul_syllable c ≡ false → replacement records mappings c ≢ [] → IsRecorded records c × (replacement records mappings c ≡ mapping_of records c)
  unfolding mapping_of
  recorded_replacement c other some =
      let is = replacement-other c other in
      let given = whole_mapping (entry_of records c) mappings (λ none. some (is ∙ none)) in
      (given.0, is ∙ given.1)

  stays_alone : (n c : ℕ) (x y : List ℕ) → replacement records mappings c ≡ [] → ExpandsTo records mappings x y → ExpandsTo records mappings (c ∷ x) (expansion records mappings n c ++ y)
  stays_alone n c x y none rest = subst (λ (z : List ℕ). ExpandsTo records mappings (c ∷ x) (z ++ y)) (sym (expansion-alone records mappings n c none)) (stays c none rest)

  members_replaced : (f : ℕ → List ℕ) (ms x y : List ℕ) → ((m : ℕ) → Contains ms m → (x' y' : List ℕ) → ExpandsTo records mappings x' y' → ExpandsTo records mappings (m ∷ x') (f m ++ y')) →
      ExpandsTo records mappings x y → ExpandsTo records mappings (ms ++ x) (flat_map f ms ++ y)
  members_replaced f [] x y each rest = rest
  members_replaced f (m ∷ ms) x y each rest =
      subst (ExpandsTo records mappings (m ∷ (ms ++ x))) (sym (append_assoc (f m) (flat_map f ms) y))
      (each m (0, omega arith, refl) (ms ++ x) (flat_map f ms ++ y) (members_replaced f ms x y (λ k there x' y' h. each k (let inside = there.1 in (suc there.0, omega arith, there.2)) x' y' h) rest))

  -- the expansion is a result of replacing
  comes_of_replacing : (n c : ℕ) → EndsWithin n c → (x y : List ℕ) → ExpandsTo records mappings x y → ExpandsTo records mappings (c ∷ x) (expansion records mappings n c ++ y)
  comes_of_replacing zero c ends x y rest = absurd ends
  comes_of_replacing (suc n) c ends x y rest = elim (same_or_not (replacement records mappings c) []) [
    | inl none ↦ stays_alone (suc n) c x y none rest
    | inr some ↦
        subst (λ (z : List ℕ). ExpandsTo records mappings (c ∷ x) (z ++ y)) (sym (expansion-replaced records mappings n c some))
        (replaced c some (members_replaced (expansion records mappings n) (replacement records mappings c) x y (λ m there x' y' h.
        elim (cases_Bool (is_hangul_syllable c)) [
          | inl syllable ↦
              let jamo = jamo_of_syllable c m syllable (subst (λ (z : List ℕ). Contains z m) (replacement-syllable records mappings c syllable) there) in
              stays_alone n m x' y' (jamo_stays records uts46 fixed mappings m jamo.0 jamo.1) h
          | inr other ↦
              let is = recorded_replacement c other some in
              comes_of_replacing n m (EndsWithin-member n c m is.0 (subst (λ (z : List ℕ). Contains z m) is.1 there) ends) x' y' h
        ]) rest))
  ]

  -- the law for a text, and for one character
  pub ExpandsTo-expand_all : (x y : List ℕ) → All (λ c. IsOnLongChain records c → ⊥) x → ExpandsTo records mappings x y ↔ (y ≡ expand_all records mappings x)
  unfolding expand_all
  ExpandsTo-expand_all x y short =
      let each = λ (m : ℕ) (there : Contains x m). comes_of_replacing 17 m (EndsWithin-short m (All-contains (λ c. IsOnLongChain records c → ⊥) x m short there)) in
      let is : ExpandsTo records mappings x (expand_all records mappings x) =
      subst₂ (ExpandsTo records mappings) (append-nil x) (append-nil (expand_all records mappings x)) (members_replaced (expansion records mappings 17) x [] [] each done) in (
        λ h. ends_once records mappings x y _ h is,
        λ e. subst (ExpandsTo records mappings x) (sym e) is,
      )

  pub ExpandsTo-expansion : (c : ℕ) (y : List ℕ) → (IsOnLongChain records c → ⊥) → ExpandsTo records mappings (c ∷ []) y ↔ (y ≡ expansion records mappings levels c)
  unfolding expand_all
  ExpandsTo-expansion c y short =
      let whole = append-nil (expansion records mappings 17 c) in
      let by = ExpandsTo-expand_all (c ∷ []) y (λ k d within. let first : k ≡ 0 = omega arith in rw first short) in
      (λ h. by.0 h ∙ whole, λ e. by.1 (e ∙ sym whole))
