-- Data in which the characters of ranges are replaced pack all entries.
use Rattle.std.proofs.Common.{◌≡◌, ◌∙◌, inl, inr, ℕ, ◌<◌, true, false, not, List, [], ◌∷◌, filter, Option, Some, None, refl, sym, ap, subst, arith}
use Rattle.std.specs.Char.{IsScalar}
use Rattle.std.proofs.lemmas.Bool.{cases_Bool, true≢false}
use Rattle.std.proofs.lemmas.Bool.Decides.{nat_tests}
use Rattle.normal_forms.specs.Composition.{compose}
use Rattle.normalizer_tables.specs.conditions.Conditions.{cap_limit}
use Rattle.normalizer_tables.specs.Data.{Decompositions}
use Rattle.normalizer_tables.specs.Entries.{EntryValue, class_in, kept_list, list_in, reading_of_entries}
use Rattle.normalizer_tables.specs.Hangul.{is_hangul_syllable}
use Rattle.normalizer_tables.specs.conditions.CharacterConditions.{is_surrogate}
use Rattle.normalizer_tables.specs.Pairs.{Pair, pair_of}
use Rattle.normalizer_tables.specs.Table.{code_points, word_at}
use Rattle.normalizer_tables.specs.declared.entry.Kind.{Kind}
use Rattle.normalizer_tables.specs.declared.entry.Kind.TheVariants.{Canonical, Compatibility, Mapper}
use Rattle.normalizer_packing.specs.declared.Packed.{Packed}
use Rattle.normalizer_packing.specs.declared.spelling.Spelling.{Spelling}
use Rattle.normalizer_packing.specs.declared.spelling.Spelling.TheVariants.{Final}
use Rattle.normalizer_packing.specs.Caps.{IsBelowCap, IsBelowCapIf, ListHasBoundary}
use Rattle.normalizer_packing.specs.Disallowed.{AreBeside, PacksBeside, is_in}
use Rattle.normalizer_packing.specs.Packing.{IsPackedWord, Packs, PacksKind}
use Rattle.normalizer_packing.specs.Spelling.{final_word, spelling, spelling_or_ignored}
use Rattle.normalizer_packing.specs.Stored.{item_of, tables_of}
use Rattle.normalizer_packing.specs.inner.Beside.{IsReplacedWord, IsWordBeside, PacksKindBeside, PacksReplaced}
use Rattle.normalizer_packing.proofs.beside.BesideLemmas.{canonical-same, canonical_lists-same, classes, compatibility-same, item_of-same, list-apart, list-replaced, needed_items-same}
use Rattle.normalizer_packing.proofs.beside.BesideLemmas.{replacement_spelled, step_in-same, step_lists-same, supplementary_lists-same}
use Rattle.normalizer_packing.proofs.beside.BesideWords.{not_composed}
use Rattle.normalizer_packing.proofs.words_of_lists.SpelledWords.{final_packs, short_packs, word-same}

module _ (es fs : List EntryValue) (pairs : List Pair) (n : ℕ) (class : class_in fs ≡ class_in es) where
  boundary-same : (x : List ℕ) → ListHasBoundary es pairs x → ListHasBoundary fs pairs x
  boundary-same [] h = h
  boundary-same (s ∷ x) h = (ap (λ (c : ℕ → ℕ). c s) class ∙ h.0, h.1)

  below-if : (o : Option (List ℕ)) → IsBelowCapIf es pairs n o → IsBelowCapIf fs pairs n o
  below-if None h = h
  below-if (Some x) h = record {
    itself = λ low. (let both = h.itself low in (both.0, ap (λ (c : ℕ → ℕ). c n) class ∙ both.1));
    round_trip = subst (λ (c : ℕ → ℕ). compose (record { list = λ m. m ∷ []; class = c; pair = pair_of pairs }) x ≡ n ∷ []) (sym class) h.round_trip;
    beginning = boundary-same x h.beginning;
  }

  below-same : (kind : Kind) → list_in kind fs n ≡ list_in kind es n → IsBelowCap kind es pairs n → IsBelowCap kind fs pairs n
  unfolding IsBelowCap
  below-same kind list h = subst (IsBelowCapIf fs pairs n) (sym list) (below-if (list_in kind es n) h)

not_surrogate : (n : ℕ) → n < code_points → final_word n ≡ None → IsScalar n
unfolding final_word is_hangul_syllable is_surrogate code_points
not_surrogate n within none = grind (arith, nat_tests)

low_scalar : (n : ℕ) → n < cap_limit → IsScalar n
low_scalar n below = grind (arith, nat_tests)

of_final : (class : ℕ → ℕ) (n v : ℕ) (o : Option (List ℕ)) → final_word n ≡ Some v → spelling class n o ≡ Final v
unfolding spelling
of_final class n v o is = ap (λ w. elim w as (λ _. Spelling) [ Some u ↦ Final u | None ↦ spelling_or_ignored class n o ]) is

none_in : (n : ℕ) → is_in [] n ≡ false
unfolding is_in
none_in n = refl

module _ (ranges : List (ℕ × ℕ)) (entries all : List EntryValue) (pairs : List Pair) (beside : AreBeside ranges entries all) where
  class : class_in all ≡ class_in entries
  class = classes ranges entries all beside

  item : (x : List ℕ) → item_of all x ≡ item_of entries x
  item = item_of-same ranges entries all beside

  -- data of a kind in which the list of a disallowed character is itself
  same_kind : (kind : Kind) (d : Decompositions) → ((n : ℕ) → list_in kind all n ≡ list_in kind entries n) → PacksKindBeside [] kind entries pairs d → PacksKind kind all pairs d
  same_kind kind d list h = record {
    words = record {
      complete = h.words.complete;
      words = λ n within. word-same kind kind entries all pairs n (word_at d.table n) class (list n) item ((h.words.words n within).packed (none_in n));
      past = h.words.past;
    };
    cap = record {
      within = h.cap.within;
      before = λ n below. below-same entries all pairs n class kind (list n) (h.cap.before n below).1;
      at = λ below is. h.cap.at below (none_in d.cap, below-same all entries pairs d.cap (sym class) kind (sym (list d.cap)) is);
    };
  }

  replaced_word : (n w : ℕ) → n < code_points → is_in ranges n ≡ true → IsReplacedWord entries pairs n w → IsPackedWord Mapper all pairs n w
  unfolding kept_list
  replaced_word n w within is h = by (final_word n) refl
    where
      by : (o : Option ℕ) → final_word n ≡ o → IsPackedWord Mapper all pairs n w
      by (Some v) final = final_packs Mapper all pairs n w (of_final (class_in all) n v _ final ∙ ap Final (sym (h.final v final)))
      by None final =
          let list = list-replaced ranges entries all beside n (not_surrogate n within final) is in
          short_packs Mapper all pairs n 0xFFFD w (rw (list, replacement_spelled (class_in all) n, final) refl) (h.word final) (rw (class, list) (h.flags final))

  mapper_words : (n w : ℕ) → n < code_points → IsWordBeside ranges Mapper entries pairs n w → IsPackedWord Mapper all pairs n w
  mapper_words n w within h = elim (cases_Bool (is_in ranges n)) as (λ _. IsPackedWord Mapper all pairs n w) [
    | inl is ↦ replaced_word n w within is (h.replaced is)
    | inr apart ↦ word-same Mapper Mapper entries all pairs n w class (list-apart ranges entries all beside Mapper n apart) item (h.packed apart)
  ]

  passes_none : (n : ℕ) → n < cap_limit → is_in ranges n ≡ true → IsBelowCap Mapper all pairs n → ⊥
  unfolding IsBelowCap
  passes_none n below is h =
      let list = list-replaced ranges entries all beside n (low_scalar n below) is in
      not_composed (reading_of_entries all pairs) n (λ same. omega arith) (rw list at h).round_trip

  same_mapper : (d : Decompositions) → PacksKindBeside ranges Mapper entries pairs d → PacksKind Mapper all pairs d
  same_mapper d h = record {
    words = record {
      complete = h.words.complete;
      words = λ n within. mapper_words n (word_at d.table n) within (h.words.words n within);
      past = h.words.past;
    };
    cap = record {
      within = h.cap.within;
      before = λ n below. (let passed = h.cap.before n below in below-same entries all pairs n class Mapper (list-apart ranges entries all beside Mapper n passed.0) passed.1);
      at = λ below is. elim (cases_Bool (is_in ranges d.cap)) as (λ _. ⊥) [
        | inl inside ↦ passes_none d.cap below inside is
        | inr apart ↦ h.cap.at below (apart, below-same all entries pairs d.cap (sym class) Mapper (sym (list-apart ranges entries all beside Mapper d.cap apart)) is)
      ];
    };
  }

  same_packing : (p : Packed) → PacksReplaced ranges entries pairs p → Packs all pairs p
  same_packing p h = record {
    canonical = same_kind Canonical p.canonical (canonical-same ranges entries all beside) h.canonical;
    compatibility = same_kind Compatibility p.compatibility (compatibility-same ranges entries all beside) h.compatibility;
    mapper = same_mapper p.mapper h.mapper;
    tables = h.tables ∙ ap tables_of (sym (canonical_lists-same ranges entries all beside));
    supplementary_tables = h.supplementary_tables ∙ ap tables_of (sym (supplementary_lists-same ranges entries all beside));
    within = rw (needed_items-same ranges entries all beside) h.within;
    compositions = h.compositions;
    supplement = record {
      words = record {
        complete = h.supplement.words.complete;
        words = λ n within. h.supplement.words.words n within ∙ sym (rw (step_lists-same ranges entries all beside, step_in-same ranges entries all beside n) refl);
        past = h.supplement.words.past;
      };
      items = rw (step_lists-same ranges entries all beside) h.supplement.items;
    };
  }

-- data in which the characters of ranges are replaced
pub packs_beside : (ranges : List (ℕ × ℕ)) (entries : List EntryValue) (pairs : List Pair) (p : Packed) → PacksReplaced ranges entries pairs p → PacksBeside ranges entries pairs p
unfolding PacksBeside
packs_beside ranges entries pairs p h all beside = same_packing ranges entries all pairs beside p h

kept_all : (entries : List EntryValue) → entries ≡ filter (λ e. not (is_in [] e.character)) entries
unfolding is_in
kept_all [] = refl
kept_all (e ∷ entries) = ap (λ es. e ∷ es) (kept_all entries)

-- entries beside which there are no ranges are all
pub beside_none : (entries : List EntryValue) → AreBeside [] entries entries
beside_none entries = record {
  others = kept_all entries;
  disallowed = λ k d within is. absurd (true≢false (sym is ∙ none_in _));
  each = λ n scalar is. absurd (true≢false (sym is ∙ none_in n));
}

-- the entries that are packed
pub packs_all : (ranges : List (ℕ × ℕ)) (entries all : List EntryValue) (pairs : List Pair) (p : Packed) → PacksBeside ranges entries pairs p → AreBeside ranges entries all → Packs all pairs p
unfolding PacksBeside
packs_all ranges entries all pairs p h beside = h all beside
