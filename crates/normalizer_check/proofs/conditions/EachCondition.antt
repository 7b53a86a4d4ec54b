-- What each condition says, one by one: before the walk over words and in it, and of less than all that was loaded. Each
-- goes through the conditions; a new one has its cases here.
use Rattle.std.proofs.Common.{◌≡◌, ◌≢◌, ◌+◌, ◌<◌, ℕ, List, ◌∷◌, All, subst, true, false, true≢false, [], Option, Some, None, IfSome, IsSomeAnd, not, nat_lt, ◌||◌, refl, sym, ap, ◌∙◌, arith}
use Rattle.std.specs.Char.{IsScalar}
use Rattle.std.proofs.lemmas.Option.{IfSome_then}
use Rattle.std.proofs.lemmas.Bool.Decides.{nat_tests}
use Rattle.normal_forms.specs.Boundary.{BeginsAtBoundary, BeginsWithStarter}
use Rattle.normal_forms.specs.Composition.{compose, compose_from, visit}
use Rattle.normal_forms.specs.Order.{order}
use Rattle.normal_forms.specs.Reading.{IsStarter}
use Rattle.normalizer_tables.specs.declared.condition.Bounds.{Bounds}
use Rattle.normalizer_tables.specs.declared.condition.Condition.{Condition}
use Rattle.normalizer_tables.specs.declared.condition.Condition.TheVariants.{ItemLimit, CapLimit, ReplacementCharacter, Surrogates, PastTheEnd, Hangul, Words, Members, Order, Passthrough, Pairs, RoundTrip, SafeBeginning, Results, FdfaForms, Steps, SurrogateClasses, WordClasses, PairOrder}
use Rattle.normalizer_tables.specs.Characters.{has_class_form, word_of, reading_of_word, list_of}
use Rattle.normalizer_tables.specs.conditions.CharacterConditions.{IsPlainStarter, IsSoundHangul, KeepsPromise, ReadsToItself}
use Rattle.normalizer_tables.specs.conditions.Conditions.{IsMet, says}
use Rattle.normalizer_tables.specs.conditions.Loaded.{characters_loaded, Loaded}
use Rattle.normalizer_tables.specs.conditions.PairConditions.{is_taken_as_boundary, is_taken_to_round_trip, KeepsBoundary, KeepsRoundTrip, RoundTrips}
use Rattle.normalizer_tables.specs.conditions.StepConditions.{AvoidsFdfa, HasSoundStep, IsInOrder, IsSoundStep}
use Rattle.normalizer_tables.specs.Data.{Supplement}
use Rattle.normalizer_tables.specs.Pairs.{Pair}
use Rattle.normalizer_tables.specs.Steps.{step_of}
use Rattle.normalizer_tables.specs.Words.{is_backward_combining, is_non_round_trip, is_plain}
use Rattle.normalizer_tables.specs.declared.step.Step.TheVariants.{Singleton}
use Rattle.normalizer_tables.specs.Readings.{reading_by}
use Rattle.normalizer_tables.specs.declared.characters.IgnoredCharacters.TheVariants.{Dropped}
use Rattle.normalizer_tables.proofs.conditions.ConditionLemmas.{class_of-plain, HasSoundStep-hangul, HasSoundStep-plain, IsOrderedList-plain, IsSoundClass-none, IsSoundWord-plain}
use Rattle.normalizer_tables.proofs.conditions.ConditionLemmas.{itself_reads_in_full, list_read-plain, plain-no_class_form, read-plain}
use Rattle.normalizer_check.specs.inner.Walk.{is_asked_of_words, IsDisallowed, IsSyllableAfter}
use Rattle.normalizer_check.proofs.composites.PairConditionLemmas.{KeepsRoundTrip-plain, safe_beginning}
use Rattle.normalizer_check.proofs.composites.PairLaws.{apart-syllable, jamo-starts, list_of-syllable, list_read-syllable, no_class_form-syllable, order-starters, reading-syllable}
use Rattle.normalizer_check.proofs.syllables.SyllableLemmas.{all-members, begins, compose-syllable, first-list}
use Rattle.normalizer_check.proofs.words.DisallowedWords.{disallowed-no_class_form, disallowed-non_round_trip, disallowed-not_backward, disallowed-unmarked, list_of-disallowed, list_read-disallowed, reading-disallowed, step_of-disallowed}
use Rattle.normalizer_check.proofs.words.FdfaWords.{syllable_avoids}

IfSome-all : {A : Type 0} (P : A → Type 0) → ((a : A) → P a) → (o : Option A) → IfSome o P
IfSome-all P f None = tt
IfSome-all P f (Some a) = f a

-- a condition that says something of no character is met by each
pub of_each-unasked : (d : Loaded) (c : Condition) → is_asked_of_words c ≡ false → (n : ℕ) → (says d c).of_each n
unfolding is_asked_of_words says
of_each-unasked d ItemLimit e n = tt
of_each-unasked d CapLimit e n = tt
of_each-unasked d ReplacementCharacter e n = tt
of_each-unasked d Surrogates e n = tt
of_each-unasked d PastTheEnd e n = tt
of_each-unasked d Hangul e n = tt
of_each-unasked d SurrogateClasses e n = tt
of_each-unasked d _ e n = absurd (true≢false e)

-- a character whose word is 0, flags aside, is as each condition says, but for the one on its beginning
pub of_each-plain : (d : Loaded) (c : Condition) → c ≢ SafeBeginning → (n : ℕ) → IsScalar n → is_plain (word_of d.characters n) ≡ true → (says d c).of_each n
unfolding says AvoidsFdfa reading_of_word ReadsToItself IsPlainStarter
of_each-plain d Words other n is plain = IsSoundWord-plain d.characters n is plain
of_each-plain d Members other n is plain = itself_reads_in_full d.characters n (list_read-plain d.characters n is plain)
of_each-plain d Order other n is plain = IsOrderedList-plain d.characters n is plain
of_each-plain d Passthrough other n is plain = λ below. (list_read-plain d.characters n is plain, class_of-plain d.characters n is plain)
of_each-plain d RoundTrip other n is plain = IfSome-all _ (λ pairs. KeepsRoundTrip-plain d.characters d.bounds pairs n is plain) d.pairs
of_each-plain d SafeBeginning other n is plain = absurd (other refl)
of_each-plain d FdfaForms other n is plain = λ fdfa. (let itself = read-plain n (word_of d.characters n) d.characters.is_mapper plain in cc)
of_each-plain d Steps other n is plain = IfSome-all _ (λ t. HasSoundStep-plain d.characters t n is plain) d.supplement
of_each-plain d WordClasses other n is plain = IsSoundClass-none n (word_of d.characters n) (plain-no_class_form (word_of d.characters n) plain)
of_each-plain d _ other n is plain = tt

-- if Hangul is sound, what a syllable meets is met by those after it with the same leading consonant
module _ (d : Loaded) (sound : (n : ℕ) → IsSoundHangul d.characters n) where
  pub of_each-syllable_behind : (c : Condition) (m n : ℕ) → IsSyllableAfter m n → (says d c).of_each m → (says d c).of_each n
  unfolding says IsPlainStarter KeepsPromise ReadsToItself AvoidsFdfa reading_of_word KeepsRoundTrip KeepsBoundary RoundTrips is_taken_as_boundary is_backward_combining
  of_each-syllable_behind Words m n alike met = record {
    reads = rw (list_read-syllable d.characters sound [] n alike.second);
    class = IsSoundClass-none n (word_of d.characters n) (no_class_form-syllable d.characters sound n alike.second);
    flagged = λ form. absurd (true≢false (sym form ∙ no_class_form-syllable d.characters sound n alike.second));
    marker = λ r e. (let one = (sound n).syllable alike.second in absurd (omega arith));
  }
  of_each-syllable_behind Members m n alike met = all-members d.characters sound (ReadsToItself d.characters) (λ j jamo. ((sound j).jamo jamo).0) n alike.second
  of_each-syllable_behind Order m n alike met =
      let starters = all-members d.characters sound (IsStarter (reading_by d.characters Dropped [])) (jamo-starts d.characters sound) n alike.second in record {
        ordered = order-starters (reading_by d.characters Dropped []) (list_of d.characters [] n) starters;
        first = λ r. begins (reading_by d.characters Dropped []) (list_of d.characters [] n) starters;
        promise = rw (reading-syllable d.characters sound n alike.second) tt;
      }
  of_each-syllable_behind Passthrough m n alike met = λ below.
      (let alone = sym (list_read-syllable d.characters sound [] m alike.first) ∙ (met (omega (arith, alike.behind))).0 in absurd (apart-syllable m m cc))
  of_each-syllable_behind RoundTrip m n alike met =
      IfSome-all _ (λ pairs taken. rw (list_of-syllable d.characters sound [] n alike.second) (compose-syllable d.characters sound pairs n alike.second)) d.pairs
  of_each-syllable_behind SafeBeginning m n alike met = IfSome_then d.pairs met (λ pairs holds taken.
      (safe_beginning d.characters pairs n _ (first-list d.characters sound n alike.second ∙ ap (λ k. Some (0x1100 + k)) (sym alike.leading))).1
      ((safe_beginning d.characters pairs m _ (first-list d.characters sound m alike.first)).0 (holds (rw ((sound m).syllable alike.first)))))
  of_each-syllable_behind FdfaForms m n alike met = syllable_avoids n (word_of d.characters n) d.characters.is_mapper alike.second
  of_each-syllable_behind Steps m n alike met = IfSome-all _ (λ t. HasSoundStep-hangul d.characters t n alike.second) d.supplement
  of_each-syllable_behind WordClasses m n alike met = IsSoundClass-none n (word_of d.characters n) (no_class_form-syllable d.characters sound n alike.second)
  of_each-syllable_behind _ m n alike met = tt

-- what a disallowed character meets is met by those after it: both map to U+FFFD, which is neither
module _ (d : Loaded) (m n : ℕ) (behind : m < n) (first : IsDisallowed d.characters m) (second : IsDisallowed d.characters n) where
  same_list : list_of d.characters [] m ≡ list_of d.characters [] n
  same_list = list_of-disallowed d.characters m first ∙ sym (list_of-disallowed d.characters n second)

  -- m doesn't read to itself, or compose to itself
  not_itself : ReadsToItself d.characters m → ⊥
  unfolding ReadsToItself
  not_itself itself = (let other = sym (list_read-disallowed d.characters m first) ∙ itself in first.other.1 cc)

  not_back : (pairs : List Pair) → RoundTrips d.characters pairs m → ⊥
  unfolding RoundTrips compose compose_from visit
  not_back pairs back =
      let whole : compose (reading_by d.characters Dropped pairs) (list_of d.characters [] m) ≡ m ∷ [] = back in
      let alone : compose (reading_by d.characters Dropped pairs) (0xFFFD ∷ []) ≡ m ∷ [] = rw (list_of-disallowed d.characters m first) at whole in
      first.other.1 cc

  -- if a composing loop relies on it that n composes to itself, it does so of m
  taken_before : is_taken_to_round_trip d.characters d.bounds n ≡ true → is_taken_to_round_trip d.characters d.bounds m ≡ true
  unfolding is_taken_to_round_trip
  taken_before h =
      let taken : (not (is_non_round_trip (word_of d.characters n)) || nat_lt n d.bounds.composition) ≡ true = h in
      let low : nat_lt n d.bounds.composition ≡ true = rw (disallowed-non_round_trip _ second.word) at taken in
      rw (disallowed-non_round_trip _ first.word) (grind (arith, nat_tests))

  stepped : (t : Supplement) → HasSoundStep d.characters t m → HasSoundStep d.characters t n
  unfolding HasSoundStep IsSoundStep IsInOrder
  stepped t holds other =
      let some : IsSomeAnd (step_of d.characters t m) (IsSoundStep d.characters m) = holds first.other.0 in
      let from : IsSoundStep d.characters m (Singleton 0xFFFD) = rw (step_of-disallowed d.characters m first t) at some in
      rw (step_of-disallowed d.characters n second t)
      (λ itself. (let alone = sym (list_of-disallowed d.characters n second) ∙ itself in second.other.1 cc), sym same_list ∙ from.1)

  pub of_each-disallowed_behind : (c : Condition) → (says d c).of_each m → (says d c).of_each n
  unfolding says IsPlainStarter KeepsPromise AvoidsFdfa KeepsRoundTrip KeepsBoundary is_taken_as_boundary reading_of_word has_class_form
  of_each-disallowed_behind Words met = record {
    reads = rw (list_read-disallowed d.characters n second) refl;
    class = IsSoundClass-none n (word_of d.characters n) (disallowed-no_class_form _ second.word);
    flagged = λ form. absurd (true≢false (sym form ∙ disallowed-no_class_form _ second.word));
    marker = λ r. disallowed-unmarked _ second.word;
  }
  of_each-disallowed_behind Members met = subst (All (ReadsToItself d.characters)) same_list met
  of_each-disallowed_behind Order met = record {
    ordered = subst (λ x. order (reading_by d.characters Dropped []) x ≡ x) same_list met.ordered;
    first = λ r. subst (BeginsWithStarter (reading_by d.characters Dropped [])) same_list (met.first (disallowed-no_class_form _ first.word));
    promise = rw (reading-disallowed d.characters n second) tt;
  }
  of_each-disallowed_behind Passthrough met = λ low. absurd (not_itself (met (omega (arith, behind, low))).0)
  of_each-disallowed_behind RoundTrip met = IfSome_then d.pairs met (λ pairs holds taken.
      absurd (not_back pairs (holds (taken_before taken))))
  of_each-disallowed_behind SafeBeginning met = IfSome_then d.pairs met (λ pairs holds taken.
      (let from = holds (rw (disallowed-not_backward _ first.word) refl) in
      record { begins = subst (λ x. x ≢ []) same_list from.begins; safely = subst (BeginsAtBoundary (reading_by d.characters Dropped pairs)) same_list from.safely }))
  of_each-disallowed_behind FdfaForms met = λ fdfa. (let one = reading-disallowed d.characters n second in cc)
  of_each-disallowed_behind Steps met = IfSome_then d.supplement met stepped
  of_each-disallowed_behind WordClasses met = IsSoundClass-none n (word_of d.characters n) (disallowed-no_class_form _ second.word)
  of_each-disallowed_behind _ met = tt

-- what is met with pairs is met without them, by all but one condition at any bounds
pub IsMet-unpaired : (d : Loaded) (b : Bounds) (c : Condition) → (c ≡ Passthrough → d.bounds ≡ b) → IsMet d c →
    IsMet (record { characters = d.characters; bounds = b; pairs = None; supplement = d.supplement }) c
unfolding says
IsMet-unpaired d b Passthrough same met = (tt, λ n is below. met.1 n is (rw (same refl) below))
IsMet-unpaired d b Pairs same met = (tt, λ n is. tt)
IsMet-unpaired d b RoundTrip same met = (tt, λ n is. tt)
IsMet-unpaired d b SafeBeginning same met = (tt, λ n is. tt)
IsMet-unpaired d b Results same met = (tt, λ n is. tt)
IsMet-unpaired d b PairOrder same met = (tt, λ n is. tt)
IsMet-unpaired d b _ same met = met

-- and with a supplement without it
pub IsMet-unsupplemented : (d : Loaded) (c : Condition) → IsMet d c → IsMet (record { characters = d.characters; bounds = d.bounds; pairs = d.pairs; supplement = None }) c
unfolding says
IsMet-unsupplemented d Steps met = (tt, λ n is. tt)
IsMet-unsupplemented d _ met = met

pub IsMet-alone : (d : Loaded) (c : Condition) → IsMet d c → IsMet (characters_loaded d.characters d.bounds) c
IsMet-alone d c met = IsMet-unsupplemented _ c (IsMet-unpaired d d.bounds c (λ same. refl) met)
