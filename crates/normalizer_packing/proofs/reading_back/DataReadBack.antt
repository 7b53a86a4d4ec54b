-- Packed data read to what the entries say of every character.
use Rattle.std.proofs.Common.{◌≡◌, ◌≢◌, ℕ, ◌+◌, ◌*◌, ◌<◌, Bool, true, false, not, ◌&&◌, ◌||◌, ◌==◌, nat_le, nat_lt, All, List, [], ◌∷◌, length, Option, Some, None, unwrap_or, if◌then◌else◌}
use Rattle.std.proofs.Common.{eqb-true, ltb-true, refl, arith, ap, sym, subst, ◌∙◌, inl, inr}
use Rattle.std.specs.Char.{IsScalar}
use lib.Utf8.{scalar_cases}
use Rattle.std.proofs.lemmas.Bool.Decides.{nat_tests}
use Rattle.std.proofs.lemmas.List.Elements.{All-head}
use Rattle.normal_forms.specs.Boundary.{BeginsWithStarter}
use Rattle.normalizer_tables.specs.declared.word.WordReading.{WordReading}
use Rattle.normalizer_tables.specs.declared.word.WordReading.TheVariants as reading
use Rattle.normalizer_tables.specs.Characters.{Characters, class_of, has_class_form, list_read, named_list, reading_of_word, word_of}
use Rattle.normalizer_tables.specs.conditions.CharacterConditions.{is_surrogate}
use Rattle.normalizer_tables.specs.Hangul.{is_hangul_syllable}
use Rattle.normalizer_tables.specs.Pairs.{Pair}
use Rattle.normalizer_tables.specs.SpecialLists.{fdfa_list}
use Rattle.normalizer_tables.specs.Table.{code_points}
use Rattle.normalizer_tables.proofs.words.CharacterLemmas.{class_of-scalar, list_read-scalar}
use Rattle.normalizer_tables.proofs.words.CharacterLemmas.{as_text-scalars}
use Rattle.normalizer_packing.specs.declared.Packed.{Packed}
use Rattle.normalizer_tables.specs.declared.entry.Kind.{Kind}
use Rattle.normalizer_tables.specs.declared.entry.Kind.TheVariants.{Canonical, Compatibility, Mapper}
use Rattle.normalizer_packing.specs.declared.spelling.Spelling.{Spelling}
use Rattle.normalizer_packing.specs.declared.spelling.Spelling.TheVariants.{Final, Short, Listed}
use Rattle.normalizer_tables.specs.Entries.{EntryValue, class_in, entry_of, kept_list, list_in, reading_of_entries}
use Rattle.normalizer_packing.specs.Flags.{without_flags}
use Rattle.normalizer_packing.specs.Packing.{ArePackable, IsPackedWord, IsSpelled, Packs, PacksKind}
use Rattle.normalizer_packing.specs.ReadBack.{AreReadable, IsTrueReading, ReadsBack, characters_of, class_by, decompositions_of, has_class_word, list_by, tells_class}
use Rattle.normalizer_packing.specs.Spelling.{final_word, has_fixed_list, list_eq, spelling, spelling_by_list, spelling_of_list, spelling_or_ignored, spells_two}
use Rattle.normalizer_packing.specs.Stored.{HasLengthOfWord, canonical_lists, has_marks_after_first, is_among, item_of, listed_in, low_length, pointing_word, supplementary_lists, tables_of}
use Rattle.normalizer_packing.proofs.lists.ListPlaces.{among_all, canonical_kind, given_from, item_of-within, length_of_word}
use Rattle.normalizer_packing.proofs.reading_back.WordsReadBack.{fixed_named, hangul_text, low_length-small, mapper_ignores, no_fixed-alone, no_fixed-empty, no_fixed-hangul, Reads}
use Rattle.normalizer_packing.proofs.reading_back.WordsReadBack.{reads_class, reads_ignored, reads_itself, reads_listed, reads_low, reads_one, reads_two}
use Rattle.normalizer_packing.proofs.lists.TableLemmas.{eq_list, same_list}
use Rattle.normalizer_packing.proofs.words_of_lists.SpelledWords.{listed_among}

-- the word of its own that a number has, by what it is
abbrev own_word : Bool → Bool → Bool → Option ℕ
own_word syllable surrogate replacement = if syllable then Some 1 else if surrogate then Some 0xC000FFFD else if replacement then Some 0x40000000 else None

no_surrogate : (n : ℕ) → IsScalar n → is_surrogate n ≡ true → ⊥
unfolding is_surrogate
no_surrogate n is surrogate = absurd (grind (arith, nat_tests))

scalar_below : (n : ℕ) → IsScalar n → n < code_points
unfolding code_points
scalar_below n is = elim (scalar_cases n is) as (λ _. n < code_points) [ inl low ↦ omega arith | inr high ↦ omega (arith, high.1) ]

-- what packed data read to of one character
record IsReadBack (kind : Kind) (entries : List EntryValue) (s : Characters) (n : ℕ) : Type 0 where
  lists : (ignored : List ℕ) → list_read s ignored n ≡ Some (unwrap_or (list_by kind entries n) ignored)
  class : class_of s n ≡ class_by kind entries n
  form : has_class_form s n ≡ has_class_word kind entries n
  told : IsTrueReading kind entries n (reading_of_word s n)

module _ (entries : List EntryValue) (pairs : List Pair) (p : Packed) (packs : Packs entries pairs p) where
  of_kind : (kind : Kind) → PacksKind kind entries pairs (decompositions_of p kind)
  of_kind Canonical = packs.canonical
  of_kind Compatibility = packs.compatibility
  of_kind Mapper = packs.mapper

  -- the word of a number of the table
  packed_word : (kind : Kind) (n : ℕ) → n < code_points → IsPackedWord kind entries pairs n (word_of (characters_of p kind) n)
  unfolding word_of
  packed_word kind n within = (of_kind kind).words.words n within

  -- a list of canonical data is in the first tables, and words of other data point into all
  second_tables : (kind : Kind) (x : List ℕ) → is_among x (listed_in entries kind) ≡ true → is_among x (canonical_lists entries) ≡ false →
      (characters_of p kind).supplementary ≡ tables_of (supplementary_lists entries)
  second_tables Canonical x among other = let here = canonical_kind entries x among in absurd cc
  second_tables _ x among other = packs.supplementary_tables

module _ (kind : Kind) (entries : List EntryValue) (pairs : List Pair) (p : Packed) (packable : ArePackable entries) (readable : AreReadable kind entries) (packs : Packs entries pairs p) (n : ℕ)
    (is : IsScalar n) where
  abbrev s : Characters
  s = characters_of p kind

  abbrev w : ℕ
  w = word_of s n

  abbrev class : ℕ → ℕ
  class = class_in entries

  -- how the list, which is x, is spelled, and the word by that
  record Spells (x : List ℕ) (q : Spelling) : Type 0 where
    line : spelling class n (list_in kind entries n) ≡ q
    word : IsSpelled entries x q w

  -- by the reading of the word, and whether the list is the fixed one or the character alone
  read_back : (x : List ℕ) (f a : Bool) (r : WordReading) (k : ℕ) (b : Bool) → kept_list kind entries n ≡ x → has_fixed_list class n x ≡ f → list_eq x (n ∷ []) ≡ a → Reads n w s.is_mapper r k b →
      ((ignored : List ℕ) → named_list s ignored n r ≡ Some (unwrap_or (list_by kind entries n) ignored)) → (if f || a then class n else 0) ≡ k → (f || (a && nat_lt 0 (class n))) ≡ b →
      IsTrueReading kind entries n r → IsReadBack kind entries s n
  unfolding reading_of_word has_class_form class_by has_class_word tells_class
  read_back x f a r k b kept fixed alone reads named class_is form_is told = record {
    lists = λ ignored. list_read-scalar s ignored n r is reads.reading ∙ named ignored;
    class = class_of-scalar s n is ∙ reads.class ∙ rw (kept, fixed, alone) (sym class_is);
    form = reads.form ∙ rw (kept, fixed, alone) (sym form_is);
    told = subst (λ (q : WordReading). IsTrueReading kind entries n q) (sym reads.reading) told;
  }

  -- a Hangul syllable
  hangul_back : is_hangul_syllable n ≡ true → w ≡ 1 → IsReadBack kind entries s n
  unfolding list_by named_list IsTrueReading without_flags
  hangul_back syllable word =
      let x = kept_list kind entries n in
      let none : class n ≡ 0 = readable.hangul n syllable in
      read_back x false (list_eq x (n ∷ [])) reading.HangulSyllable 0 false refl (no_fixed-hangul class n x syllable) refl (rw syllable at (reads_low n w s.is_mapper (ap without_flags word)))
      (λ ignored. rw syllable (hangul_text n syllable))
      (grind arith) (grind arith) syllable

  module _ (other : is_hangul_syllable n ≡ false) where
    -- a character that the mapper ignores
    ignored_back : list_in kind entries n ≡ None → w ≡ 0xFFFFFFFF → IsReadBack kind entries s n
    unfolding list_in list_by kept_list named_list IsTrueReading
    ignored_back list word =
        let mapper : s.is_mapper ≡ true = mapper_ignores kind n (entry_of entries n) list in
        read_back [] false false reading.Ignored 0 false (rw list refl) (no_fixed-empty class n) refl
        (subst (λ (m : Bool). Reads n w m reading.Ignored 0 false) (sym mapper) (reads_ignored n w word)) (λ ignored. rw (other, list) refl) refl refl list

    module _ (x : List ℕ) (list : list_in kind entries n ≡ Some x) where
      kept : kept_list kind entries n ≡ x
      unfolding kept_list
      kept = rw list refl

      text : All IsScalar x
      text = subst (λ (y : List ℕ). All IsScalar y) kept (readable.text n is)

      -- a list that the reading names
      named_back : (f a : Bool) (r : WordReading) (k : ℕ) (b : Bool) → has_fixed_list class n x ≡ f → list_eq x (n ∷ []) ≡ a → Reads n w s.is_mapper r k b →
          ((ignored : List ℕ) → named_list s ignored n r ≡ Some x) → (if f || a then class n else 0) ≡ k → (f || (a && nat_lt 0 (class n))) ≡ b → IsTrueReading kind entries n r → IsReadBack kind entries s n
      unfolding list_by
      named_back f a r k b fixed alone reads named = read_back x f a r k b kept fixed alone reads (λ ignored. named ignored ∙ rw (other, list) refl)

      -- its fixed list
      fixed_back : has_fixed_list class n x ≡ true → without_flags w ≡ 0xD900 + class n → IsReadBack kind entries s n
      unfolding named_list IsTrueReading
      fixed_back fixed rest =
          named_back true (list_eq x (n ∷ [])) (reading.SpecialForm (class n)) (class n) true fixed refl (reads_class true n w (class n) s.is_mapper (readable.classes n) rest)
          (λ ignored. fixed_named class n x fixed) refl refl (rw kept fixed, refl)

      module _ (same : x ≡ n ∷ []) where
        free : has_fixed_list class n x ≡ false
        free = rw same (no_fixed-alone class n)

        -- the character alone, which is a starter
        starter_back : class n ≡ 0 → without_flags w ≡ 0 → IsReadBack kind entries s n
        unfolding named_list IsTrueReading
        starter_back none rest =
            named_back false true reading.Itself 0 false free (eq_list x (n ∷ []) same) (reads_itself n w s.is_mapper rest) (λ ignored. ap Some (sym same)) none (rw none refl) (kept ∙ same, none)

        -- or a mark
        mark_back : nat_lt 0 (class n) ≡ true → without_flags w ≡ 0xD800 + class n → IsReadBack kind entries s n
        unfolding named_list IsTrueReading
        mark_back mark rest =
            named_back false true (reading.ClassForm (class n)) (class n) true free (eq_list x (n ∷ []) same) (reads_class false n w (class n) s.is_mapper (readable.classes n) rest)
            (λ ignored. ap Some (sym same)) refl mark (kept ∙ same, refl, ltb-true _ _ mark)

      module _ (free : has_fixed_list class n x ≡ false) (differs : list_eq x (n ∷ []) ≡ false) where
        other_back : (r : WordReading) → Reads n w s.is_mapper r 0 false → ((ignored : List ℕ) → named_list s ignored n r ≡ Some x) → IsTrueReading kind entries n r → IsReadBack kind entries s n
        other_back r reads named = named_back false false r 0 false free differs reads named refl refl

        -- a list in the tables
        listed_back : Spells x Listed → IsReadBack kind entries s n
        unfolding named_list IsTrueReading pointing_word
        listed_back h =
            let among : is_among x (listed_in entries kind) ≡ true = subst (λ (y : List ℕ). is_among y (listed_in entries kind) ≡ true) kept (listed_among kind entries n h.line) in
            let long : HasLengthOfWord x = among_all HasLengthOfWord x (listed_in entries kind) (packable.lengths kind) among in
            let some : 0 < length x = length_of_word x long in
            let given = given_from entries s x kind packs.tables some (as_text-scalars x text) among (second_tables entries pairs p packs kind x among) in
            let marks : Bool = has_marks_after_first class x in
            other_back (reading.Listed (item_of entries x) (low_length x) marks)
            (reads_listed n w (item_of entries x) (low_length x) marks s.is_mapper (omega (arith, item_of-within entries x kind among some, packs.within)) (low_length-small x long) h.word)
            (λ ignored. given) (ap (has_marks_after_first class) (sym kept))

        -- U+FDFA, or such a list
        long_back : (b : Bool) → list_eq x fdfa_list ≡ b → Spells x (if b then Short 1 else Listed) → IsReadBack kind entries s n
        unfolding named_list IsTrueReading
        long_back true long h =
            let same : x ≡ fdfa_list = same_list x fdfa_list long in
            other_back reading.Fdfa (rw other at (reads_low n w s.is_mapper h.word)) (λ ignored. ap Some (sym same)) (kept ∙ same)
        long_back false _ h = listed_back h

    -- another character
    one_back : (a : ℕ) (list : list_in kind entries n ≡ Some (a ∷ [])) → has_fixed_list class n (a ∷ []) ≡ false → list_eq (a ∷ []) (n ∷ []) ≡ false →
        (b : Bool) → (nat_le a 0xFFFF && not (a == 1)) ≡ b → Spells (a ∷ []) (if b then Short a else Listed) → IsReadBack kind entries s n
    unfolding named_list IsTrueReading
    one_back a list free differs false _ h = listed_back (a ∷ []) list free differs h
    one_back a list free differs true both h =
        let scalars = text (a ∷ []) list in
        let some : a ≢ 0 = λ zero.
        (let none : n ≡ 0 = readable.zero n is (kept (a ∷ []) list ∙ ap (λ m. m ∷ []) zero) in let same = eq_list (a ∷ []) (n ∷ []) (ap (λ m. m ∷ []) (zero ∙ sym none)) in cc) in
        other_back (a ∷ []) list free differs (reading.OneCharacter a) (reads_one n w a s.is_mapper other some both (All-head IsScalar a [] scalars) h.word)
        (λ ignored. as_text-scalars (a ∷ []) scalars) (kept (a ∷ []) list)

    -- two characters
    two_back : (a b : ℕ) (list : list_in kind entries n ≡ Some (a ∷ b ∷ [])) → has_fixed_list class n (a ∷ b ∷ []) ≡ false → list_eq (a ∷ b ∷ []) (n ∷ []) ≡ false →
        (q : Bool) → spells_two class n a b ≡ q → Spells (a ∷ b ∷ []) (if q then Short (a + b * 0x8000) else Listed) → IsReadBack kind entries s n
    unfolding named_list IsTrueReading spells_two tells_class
    two_back a b list free differs false _ h = listed_back (a ∷ b ∷ []) list free differs h
    two_back a b list free differs true spells h =
        let kept_two = kept (a ∷ b ∷ []) list in
        let starter : BeginsWithStarter (reading_of_entries entries []) (a ∷ b ∷ []) =
        subst (λ (y : List ℕ). BeginsWithStarter (reading_of_entries entries []) y) kept_two (readable.first n is (rw (kept_two, free, differs) refl)) in
        other_back (a ∷ b ∷ []) list free differs (reading.TwoCharacters a b) (reads_two class n w a b s.is_mapper spells starter h.word)
        (λ ignored. as_text-scalars (a ∷ b ∷ []) (text (a ∷ b ∷ []) list)) (kept_two, grind (arith, nat_tests))

    members_back : (x : List ℕ) → list_in kind entries n ≡ Some x → has_fixed_list class n x ≡ false → list_eq x (n ∷ []) ≡ false → Spells x (spelling_of_list class n x) → IsReadBack kind entries s n
    unfolding spelling_of_list
    members_back [] list free differs h = long_back [] list free differs _ refl h
    members_back (a ∷ []) list free differs h = one_back a list free differs _ refl h
    members_back (a ∷ b ∷ []) list free differs h = two_back a b list free differs _ refl h
    members_back (a ∷ b ∷ c ∷ x) list free differs h = long_back (a ∷ b ∷ c ∷ x) list free differs _ refl h

    list_back : (x : List ℕ) → list_in kind entries n ≡ Some x → (f a z : Bool) → has_fixed_list class n x ≡ f → list_eq x (n ∷ []) ≡ a → (class n == 0) ≡ z →
        Spells x (if f then Short (0xD900 + class n) else if a then Short (if z then 0 else 0xD800 + class n) else spelling_of_list class n x) → IsReadBack kind entries s n
    list_back x list true a z fixed _ _ h = fixed_back x list fixed h.word
    list_back x list false true true _ alone none h = starter_back x list (same_list x (n ∷ []) alone) (eqb-true _ _ none) h.word
    list_back x list false true false _ alone some h = mark_back x list (same_list x (n ∷ []) alone) (grind (arith, nat_tests)) h.word
    list_back x list false false z free differs _ h = members_back x list free differs h

    else_back : (o : Option (List ℕ)) → list_in kind entries n ≡ o → Spells (kept_list kind entries n) (spelling_or_ignored class n o) → IsReadBack kind entries s n
    unfolding spelling_or_ignored spelling_by_list
    else_back None list h = ignored_back list h.word
    else_back (Some x) list h = list_back x list _ _ _ refl refl refl (subst (λ (y : List ℕ). Spells y (spelling_by_list class n x)) (kept x list) h)

  final_back : (h u f : Bool) → is_hangul_syllable n ≡ h → is_surrogate n ≡ u → (n == 0xFFFD) ≡ f →
      Spells (kept_list kind entries n) (elim (own_word h u f) as (λ _. Spelling) [ Some v ↦ Final v | None ↦ spelling_or_ignored class n (list_in kind entries n) ]) → IsReadBack kind entries s n
  unfolding without_flags
  final_back true u f syllable _ _ h = hangul_back syllable h.word
  final_back false true f _ surrogate _ h = absurd (no_surrogate n is surrogate)
  final_back false false true other _ same h =
      let here : n ≡ 0xFFFD = eqb-true n 0xFFFD same in
      starter_back other (n ∷ []) (rw here readable.replacement.0) refl (rw here readable.replacement.1) (ap without_flags h.word)
  final_back false false false other _ _ h = else_back other (list_in kind entries n) refl h

  -- the word of each character reads back
  character_back : IsReadBack kind entries s n
  unfolding spelling final_word
  character_back =
      final_back _ _ _ refl refl refl (record { line = refl; word = (packed_word entries pairs p packs kind n (scalar_below n is)).spelled })

-- packed data read back
pub packs_reads_back : (kind : Kind) (entries : List EntryValue) (pairs : List Pair) (p : Packed) → ArePackable entries → AreReadable kind entries → Packs entries pairs p →
    ReadsBack kind entries (characters_of p kind)
packs_reads_back kind entries pairs p packable readable packs = record {
  lists = λ ignored n is. (character_back kind entries pairs p packable readable packs n is).lists ignored;
  classes = λ n is. (character_back kind entries pairs p packable readable packs n is).class;
  class_forms = λ n is. (character_back kind entries pairs p packable readable packs n is).form;
  words = λ n is. (character_back kind entries pairs p packable readable packs n is).told;
}
