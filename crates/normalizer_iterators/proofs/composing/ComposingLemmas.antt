-- Composition, from one step to the next.
use Rattle.std.proofs.Common.{◌≡◌, ℕ, All, Bool, List, ◌++◌, Option, Some, None, IfSome, refl, sym, ap, ◌∙◌, [], inl, inr}
use Rattle.std.specs.Prelude.{if◌then◌else◌}
use Rattle.std.proofs.lemmas.Bool.{cases_Bool}
use Rattle.normal_forms.specs.Decomposition.{expand}
use Rattle.normal_forms.specs.Order.{order, insert, is_reorderable}
use Rattle.normal_forms.specs.Composition.{is_blocked, joined, visit, compose_from, compose}
use Rattle.normal_forms.specs.CompositionByStarters.{compose_by_starters}
use Rattle.normal_forms.specs.Forms.{nfd, nfc}
use Rattle.normal_forms.specs.ShortRuns.{continues, leading_length, HasShortChunks, HasShortRuns}
use Rattle.normal_forms.specs.Hypotheses.{HasFaithfulResults, HasStarterResults}
use Rattle.normal_forms.proofs.composing.VisitLemmas.{compose_is_by_starters}
use Rattle.normalizer_tables.specs.declared.characters.IgnoredCharacters.{IgnoredCharacters}
use Rattle.normalizer_tables.specs.Characters.{Characters, list_of}
use Rattle.normalizer_tables.specs.Ignored.{ignored_list}
use Rattle.normalizer_tables.specs.conditions.PairConditions.{HasOrderedLists}
use Rattle.normalizer_tables.proofs.lists.SoundLists.{order-own}
use Rattle.normalizer_tables.proofs.composites.PairLemmas.{All-listed_result}
use Rattle.normalizer_tables.specs.HangulComposition.{compose_hangul}
use Rattle.normalizer_tables.specs.Pairs.{Pair, is_vowel_or_trailing_jamo, listed_result, pair_of}
use Rattle.normalizer_tables.specs.Readings.{reading_by}
use Rattle.normalizer_tables.specs.declared.characters.IgnoredCharacters.TheVariants.{Dropped}

-- ---- the reading that composes

pub nfd-reading_by : (s : Characters) (ignored : IgnoredCharacters) (pairs : List Pair) (x : List ℕ) → nfd (reading_by s ignored pairs) x ≡ nfd (reading_by s ignored []) x
unfolding nfd order insert is_reorderable expand
nfd-reading_by s ignored pairs x = refl

-- what is composed has been decomposed: it no longer matters how ignored characters read
compose-reading_by : (s : Characters) (ignored : IgnoredCharacters) (pairs : List Pair) (y : List ℕ) → compose (reading_by s ignored pairs) y ≡ compose (reading_by s Dropped pairs) y
unfolding compose compose_from visit joined is_blocked
compose-reading_by s ignored pairs y = refl

pub nfc-reading_by : (s : Characters) (ignored : IgnoredCharacters) (pairs : List Pair) → HasStarterResults (reading_by s Dropped pairs) → (x : List ℕ)
    → nfc (reading_by s ignored pairs) x ≡ compose_by_starters (reading_by s Dropped pairs) (nfd (reading_by s ignored []) x)
unfolding nfc
nfc-reading_by s ignored pairs starters x =
    ap (compose (reading_by s ignored pairs)) (nfd-reading_by s ignored pairs x)
    ∙ compose-reading_by s ignored pairs (nfd (reading_by s ignored []) x)
    ∙ compose_is_by_starters (reading_by s Dropped pairs) starters (nfd (reading_by s ignored []) x)

pub HasShortRuns-reading_by : (f : ℕ → Bool) (s : Characters) (ignored : IgnoredCharacters) (pairs : List Pair) (x : List ℕ) → HasShortRuns f (reading_by s ignored pairs) x
    → HasShortRuns f (reading_by s ignored []) x
unfolding leading_length HasShortChunks continues
HasShortRuns-reading_by f s ignored pairs x h = record { leading = h.leading; chunks = h.chunks }

-- ---- what a pair composes to

pub lists-compose : (s : Characters) (pairs : List Pair) (ignored : IgnoredCharacters) → HasFaithfulResults (reading_by s ignored []) → All (HasOrderedLists s (ignored_list ignored)) pairs
    → (a c : ℕ) (result : Option ℕ) → result ≡ pair_of pairs a c
    → IfSome result (λ r. list_of s (ignored_list ignored) r ≡ order (reading_by s Dropped []) (list_of s (ignored_list ignored) a ++ list_of s (ignored_list ignored) c))
unfolding pair_of HasOrderedLists
lists-compose s pairs ignored hangul keep a c None is = tt
lists-compose s pairs ignored hangul keep a c (Some r) is = elim (cases_Bool (is_vowel_or_trailing_jamo c)) [
  | inl jamo ↦
      let joins : Some r ≡ compose_hangul a c = is ∙ ap (λ b. if b then compose_hangul a c else listed_result pairs a c) jamo in
      hangul.results a c r (ap (λ b. if b then compose_hangul a c else listed_result [] a c) jamo ∙ sym joins)
      ∙ sym (order-own s (ignored_list ignored) (pair_of []) (list_of s (ignored_list ignored) a ++ list_of s (ignored_list ignored) c))
  | inr other ↦
      let joins : Some r ≡ listed_result pairs a c = is ∙ ap (λ b. if b then compose_hangul a c else listed_result pairs a c) other in
      All-listed_result (HasOrderedLists s (ignored_list ignored)) pairs a c r keep (sym joins)
]
