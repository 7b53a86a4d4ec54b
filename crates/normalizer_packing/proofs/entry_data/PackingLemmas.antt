-- Data made of stores, and that packing is a function.
use Rattle.std.proofs.Common.{◌≡◌, ◌↔◌, ℕ, Bool, true, false, List, [], ◌∷◌, refl, sym, subst, ◌∙◌, arith, inl, inr}
use Rattle.std.proofs.lemmas.Bool.{cases_lt, cases_order}
use Rattle.normal_forms.specs.Composition.{compose}
use Rattle.normal_forms.specs.Reading.{Reading}
use Rattle.normalizer_tables.specs.Data.{Decompositions, Supplement}
use Rattle.normalizer_tables.specs.Pairs.{Pair}
use Rattle.normalizer_tables.specs.Table.{Table, code_points, word_at}
use Rattle.normalizer_tables.specs.Words.{is_backward_combining, is_class_form, is_non_round_trip}
use Rattle.normalizer_tables.proofs.code_points.Tables.{same_from_word_at, word_at-past}
use Rattle.normalizer_packing.specs.declared.Packed.{Packed}
use Rattle.normalizer_tables.specs.declared.entry.Kind.{Kind}
use Rattle.normalizer_tables.specs.declared.entry.Kind.TheVariants.{Canonical, Compatibility, Mapper}
use Rattle.normalizer_packing.specs.declared.spelling.Spelling.{Spelling}
use Rattle.normalizer_packing.specs.declared.spelling.Spelling.TheVariants.{Final, Short, Listed}
use Rattle.normalizer_packing.specs.Caps.{IsCap}
use Rattle.normalizer_tables.specs.Entries.{EntryValue, class_in, reading_of_entries, kept_list, list_in}
use Rattle.normalizer_packing.specs.Flags.{BeginsUnpaired, IsFlagged, without_flags}
use Rattle.normalizer_packing.specs.Packing.{HasFlags, IsPackedWord, IsSpelled, Packs, PacksKind}
use Rattle.normalizer_packing.specs.Spelling.{spelling}
use Rattle.normalizer_packing.specs.StepWords.{PacksSteps}
use Rattle.normalizer_packing.specs.TableWords.{HasWords}
use Rattle.normalizer_packing.proofs.words_of_lists.FlagLemmas.{same_by_parts}

-- what two flags of one meaning say is the same
same_flag : (P : Type 0) (a b : Bool) → (a ≡ false) ↔ P → (b ≡ false) ↔ P → a ≡ b
same_flag P true true h k = refl
same_flag P true false h k = h.1 (k.0 refl)
same_flag P false true h k = sym (k.1 (h.0 refl))
same_flag P false false h k = refl

same_flagged : (d : Reading) (pairs : List Pair) (n : ℕ) (x : List ℕ) (w v : ℕ) → without_flags w ≡ without_flags v → IsFlagged d pairs n x w → IsFlagged d pairs n x v → w ≡ v
same_flagged d pairs n x w v rest h k =
    same_by_parts w v h.within k.within rest
    (same_flag (compose d x ≡ n ∷ []) (is_non_round_trip w) (is_non_round_trip v) h.round_trip k.round_trip)
    (same_flag ((is_class_form (without_flags v) ≡ false) × BeginsUnpaired pairs x) (is_backward_combining w) (is_backward_combining v)
    (subst (λ (r : ℕ). (is_backward_combining w ≡ false) ↔ ((is_class_form r ≡ false) × BeginsUnpaired pairs x)) rest h.backward) k.backward)

module _ (entries : List EntryValue) (pairs : List Pair) where
  one_word : (kind : Kind) (n w v : ℕ) → IsPackedWord kind entries pairs n w → IsPackedWord kind entries pairs n v → w ≡ v
  one_word kind n w v h k = by (spelling (class_in entries) n (list_in kind entries n)) h.spelled k.spelled h.flags k.flags
    where
      by : (s : Spelling) → IsSpelled entries (kept_list kind entries n) s w → IsSpelled entries (kept_list kind entries n) s v → HasFlags kind entries pairs n s w →
          HasFlags kind entries pairs n s v → w ≡ v
      by (Final word) a b f g = a ∙ sym b
      by (Short word) a b f g = same_flagged (reading_of_entries entries pairs) pairs n (kept_list kind entries n) w v (a ∙ sym b) f g
      by Listed a b f g = same_flagged (reading_of_entries entries pairs) pairs n (kept_list kind entries n) w v (a ∙ sym b) f g

  -- tables that have the same words
  one_table : (is_word : ℕ → ℕ → Type 0) → ((n w v : ℕ) → is_word n w → is_word n v → w ≡ v) → (t u : Table) → HasWords is_word t → HasWords is_word u → t ≡ u
  one_table is_word one t u h k = same_from_word_at t u h.complete k.complete (λ n. elim (cases_lt n code_points) as (λ _. word_at t n ≡ word_at u n) [
    | inl within ↦ one n (word_at t n) (word_at u n) (h.words n within) (k.words n within)
    | inr past ↦ word_at-past t n h.complete past ∙ h.past ∙ sym (word_at-past u n k.complete past ∙ k.past)
  ])

  one_cap : (kind : Kind) (c d : ℕ) → IsCap kind entries pairs c → IsCap kind entries pairs d → c ≡ d
  one_cap kind c d h k = elim (cases_order c d) as (λ _. c ≡ d) [
    | inl same ↦ same
    | inr (inl below) ↦ absurd (h.at (omega (arith, k.within)) (k.before c below))
    | inr (inr above) ↦ absurd (k.at (omega (arith, h.within)) (h.before d above))
  ]

  one_kind : (kind : Kind) (d e : Decompositions) → PacksKind kind entries pairs d → PacksKind kind entries pairs e → d ≡ e
  one_kind kind d e h k = λ i. record {
    table = one_table (IsPackedWord kind entries pairs) (one_word kind) d.table e.table h.words k.words i;
    cap = one_cap kind d.cap e.cap h.cap k.cap i;
  }

  one_supplement : (s t : Supplement) → PacksSteps entries s → PacksSteps entries t → s ≡ t
  one_supplement s t h k = λ i. record {
    table = one_table _ (λ n w v a b. a ∙ sym b) s.table t.table h.words k.words i;
    scalars24 = (h.items ∙ sym k.items) i;
  }

  -- data that pack the same entries and pairs are equal
  pub one_packing : (p q : Packed) → Packs entries pairs p → Packs entries pairs q → p ≡ q
  one_packing p q h k = λ i. record {
    canonical = one_kind Canonical p.canonical q.canonical h.canonical k.canonical i;
    compatibility = one_kind Compatibility p.compatibility q.compatibility h.compatibility k.compatibility i;
    mapper = one_kind Mapper p.mapper q.mapper h.mapper k.mapper i;
    tables = (h.tables ∙ sym k.tables) i;
    supplementary_tables = (h.supplementary_tables ∙ sym k.supplementary_tables) i;
    compositions = (h.compositions ∙ sym k.compositions) i;
    supplement = one_supplement p.supplement q.supplement h.supplement k.supplement i;
  }
