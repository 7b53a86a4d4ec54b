-- Characters that are passed on as they are, and runs of them.
use Rattle.std.proofs.Common.{◌≡◌, ℕ, ◌<◌, inl, inr, Bool, true, false, List, [], ◌∷◌, ◌++◌, length, drop, refl, sym, ap, subst, ◌∙◌, append_assoc, append-nil, arith, length-append}
use Rattle.std.specs.Char.{IsScalar}
use Rattle.std.specs.Prelude.{◌≢◌, nat_lt, ◌||◌, ◌≤◌, not, Some, None}
use lib.Utf8.{scalar}
use Rattle.std.proofs.lemmas.Bool.{cases_lt, cond-false, cond-true, cond_both, le-ltb}
use Rattle.std.proofs.lemmas.Bool.Decides.{nat_tests}
use Rattle.std.proofs.lemmas.List.{drop_at}
use Rattle.normal_forms.specs.Reading.{Reading, ReadsAsItself, IsSecondInNoPair, IsStarter}
use Rattle.normal_forms.specs.Boundary.{BeginsWithStarter}
use Rattle.normal_forms.specs.Hypotheses.{HasStarterResults, SuitsForm}
use Rattle.normal_forms.specs.Decomposition.{expand}
use Rattle.normal_forms.specs.Order.{order, insert, EndsUpTo}
use Rattle.normal_forms.specs.Composition.{compose, compose_from}
use Rattle.normal_forms.specs.declared.Form.{Form}
use Rattle.normal_forms.specs.declared.Form.TheVariants.{Decomposing, Composing}
use Rattle.normal_forms.specs.Forms.{normal_form, nfd, nfc, IsNormalized}
use Rattle.normal_forms.proofs.boundaries.BoundaryLemmas.{nfd-boundary, BeginsWithStarter-expand, BeginsAtBoundary-expand}
use Rattle.normal_forms.proofs.forms.LawLemmas.{nfc-boundary}
use Rattle.normal_forms.proofs.composing.InsertedCharacter.{normal_form-mark}
use Rattle.normal_forms.proofs.ordering.OrderLemmas.{order-at_starter}
use Rattle.normalizer_tables.specs.declared.characters.IgnoredCharacters.TheVariants.{Dropped}
use Rattle.normalizer_tables.specs.declared.condition.Bounds.{Bounds}
use Rattle.normalizer_tables.specs.declared.condition.Condition.TheVariants.{SafeBeginning}
use Rattle.normalizer_check.specs.RequiredConditions.{AreAcceptedPairs, SuitsTexts, pair_conditions}
use Rattle.normalizer_tables.specs.conditions.Loaded.{pairs_loaded}
use Rattle.normalizer_tables.proofs.conditions.ListedConditions.{met}
use Rattle.normalizer_tables.specs.conditions.Conditions.{says}
use Rattle.normalizer_tables.specs.conditions.PairConditions.{is_composing_passthrough, is_taken_as_boundary, KeepsBoundary}
use Rattle.normalizer_tables.specs.Characters.{Characters, class_of, class_of_itself, has_class_form, list_of, list_read, named_list, reading_of_word, word_of}
use Rattle.normalizer_tables.specs.declared.word.WordReading.{WordReading}
use Rattle.normalizer_tables.specs.declared.word.WordReading.TheVariants.{Ignored, Itself, ClassForm, SpecialForm}
use Rattle.normalizer_tables.specs.declared.word.WordReading.TheVariants.{TwoCharacters, HangulSyllable, Fdfa, OneCharacter, Listed}
use Rattle.normalizer_tables.specs.Pairs.{Pair, may_be_second}
use Rattle.normalizer_tables.specs.Words.{class_of_word, is_class_form, is_ordinary_class_form, is_plain, low_byte}
use Rattle.normalizer_tables.specs.PassingWords.{byte_of_word, has_no_flag}
use Rattle.normalizer_passing.specs.PassBytes.{byte_of}
use Rattle.normalizer_tables.specs.Passthrough.{IsPassthroughBelow}
use Rattle.normalizer_tables.specs.Readings.{reading_by}
use Rattle.normalizer_tables.proofs.composites.SecondLemmas.{pair_of-none}
use Rattle.normalizer_tables.proofs.words.CharacterLemmas.{list_of-reads}
use Rattle.normalizer_tables.proofs.words.WordLemmas.{class_of-class_form, class_of-itself}
use Rattle.normalizer_calls.specs.Serving.{AreComposingBytes, ServesComposing, ServesDecomposing}
use Rattle.normalizer_iterators.specs.LazyComposing.{SuitsLazyComposing}
use Rattle.normalizer_iterators.specs.LazyReading.{SuitsLazyReading}
use Rattle.normalizer_iterators.proofs.passthrough.PassthroughItemLemmas.{BeginsAtBoundary-apart}
use Rattle.normalizer_calls.specs.BoundaryBefore.{HasBoundaryBefore}
use Rattle.normalizer_calls.specs.inner.PassthroughRuns.{AreBytesOf, Divides, CanFollowMark, CanPassThrough}
use Rattle.normalizer_calls.proofs.passthrough.ClassReadings.{class_of_itself-ordinary, class_of_itself-plain}

-- a starter that reads as itself is normalized apart from what comes after it too
CanPassThrough-itself : (d : Reading) (c : ℕ) → ReadsAsItself d c → IsStarter d c → CanPassThrough d Decomposing false c
unfolding normal_form nfd expand order insert
CanPassThrough-itself d c itself starter = record {
  starter = starter;
  own = ap (λ l. order d (l ++ [])) itself;
  begins = λ front x. nfd-boundary d front (c ∷ x)
      (BeginsWithStarter-expand d c x (λ none. let no : [] ≡ c ∷ [] = sym none ∙ itself in cc) (subst (BeginsWithStarter d) (sym itself) starter));
  ends = λ _ x. ap (λ l. order d (l ++ expand d x)) itself ∙ order-at_starter d [] c (expand d x) starter;
}

-- a mark that reads as itself stays at the end of a text, if the form composes it with nothing before it
CanFollowMark-itself : (d : Reading) (form : Form) → SuitsForm d form → (c k : ℕ) → ReadsAsItself d c → d.class c ≡ k → 0 < k → (form ≡ Composing → IsSecondInNoPair d c) → CanFollowMark d form c k
CanFollowMark-itself d form suits c k itself class mark second = record {
  class = class;
  stays = λ x ends. normal_form-mark d form suits x c itself (omega (arith, class)) second (subst (λ n. EndsUpTo d n (normal_form d form x)) (sym class) ends);
}

-- a word that says that its character is its own list says its class
module _ (s : Characters) (c : ℕ) (is_scalar : IsScalar c) where
  list_of_reading : (r : WordReading) → reading_of_word s c ≡ r → named_list s [] c r ≡ Some (c ∷ []) → list_of s [] c ≡ c ∷ []
  unfolding list_read
  list_of_reading r read named =
      list_of-reads s [] c (c ∷ []) (cond-true (scalar c) (named_list s [] c (reading_of_word s c)) None is_scalar ∙ ap (named_list s [] c) read ∙ named)

  of_reading : (r : WordReading) → reading_of_word s c ≡ r → (k : ℕ) → class_of_itself r ≡ Some k → (list_of s [] c ≡ c ∷ []) × (class_of s c ≡ k)
  unfolding class_of_itself named_list
  of_reading Itself read k is = (list_of_reading Itself read refl, sym (class_of-itself s c read is_scalar) ∙ (let same : 0 ≡ k = cc in same))
  of_reading (ClassForm j) read k is = (list_of_reading (ClassForm j) read refl, sym (class_of-class_form s c j read is_scalar) ∙ (let same : j ≡ k = cc in same))
  of_reading Ignored read k is = absurd (cc)
  of_reading (SpecialForm j) read k is = absurd (cc)
  of_reading (TwoCharacters a b) read k is = absurd (cc)
  of_reading HangulSyllable read k is = absurd (cc)
  of_reading Fdfa read k is = absurd (cc)
  of_reading (OneCharacter a) read k is = absurd (cc)
  of_reading (Listed item low rest) read k is = absurd (cc)

  pub of_itself : (k : ℕ) → class_of_itself (reading_of_word s c) ≡ Some k → (list_of s [] c ≡ c ∷ []) × (class_of s c ≡ k)
  of_itself k is = of_reading (reading_of_word s c) refl k is

  -- a mark with the ordinary class form, which composes with nothing before it
  pub CanFollowMark-ordinary : (form : Form) (pairs : List Pair) (k : ℕ) → SuitsForm (reading_by s Dropped pairs) form → is_ordinary_class_form (word_of s c) ≡ true → low_byte (word_of s c) ≡ k
      → 0 < k → (form ≡ Composing → may_be_second pairs c ≡ false) → CanFollowMark (reading_by s Dropped pairs) form c k
  CanFollowMark-ordinary form pairs k suits ordinary low mark second =
      let known = of_itself k (class_of_itself-ordinary s c ordinary ∙ ap (λ n. Some n) low) in
      CanFollowMark-itself (reading_by s Dropped pairs) form suits c k known.0 known.1 mark (λ is. pair_of-none pairs c (second is))

plain_of : (w : ℕ) → byte_of_word w ≡ 255 → is_plain w ≡ true
unfolding byte_of_word
plain_of w is = grind (arith, nat_tests)

mark_of : (w byte : ℕ) → byte_of_word w ≡ byte → 0 < byte → byte ≢ 255 → (is_ordinary_class_form w ≡ true) × (low_byte w ≡ byte)
unfolding byte_of_word
mark_of w byte is some mark = grind (arith, nat_tests)

-- the bytes of words, where text is decomposed
pub AreBytesOf-words : (s : Characters) (b : Bounds) → ServesDecomposing s b → (bytes : List ℕ) → ((n : ℕ) → 0 < byte_of bytes n → byte_of bytes n ≡ byte_of_word (word_of s n))
    → AreBytesOf (reading_by s Dropped []) Decomposing false bytes
AreBytesOf-words s b serves bytes say = record {
  starters = λ c scalar is.
      let known = of_itself s c scalar 0 (class_of_itself-plain s c (plain_of (word_of s c) (sym (say c (omega (arith, is))) ∙ is))) in
      CanPassThrough-itself (reading_by s Dropped []) c known.0 known.1;
  marks = λ c scalar some mark.
      let known = mark_of (word_of s c) (byte_of bytes c) (sym (say c some)) some mark in
      CanFollowMark-ordinary s c scalar Decomposing [] (byte_of bytes c) serves.laws.laws known.0 known.1 some (λ no. absurd (cc));
}

not-true : (b : Bool) → not b ≡ true → b ≡ false
not-true true h = absurd (cc)
not-true false h = refl

pub or-true : (b : Bool) → (b || true) ≡ true
or-true true = refl
or-true false = refl

pub first_begins : (d : Reading) (list : List ℕ) → ((first : ℕ) (others : List ℕ) → list ≡ first ∷ others → IsStarter d first) → BeginsWithStarter d list
first_begins d [] starters = tt
first_begins d (first ∷ others) starters = starters first others refl

-- a character below the bound, or without class form, is normalized apart when text is decomposed
pub HasBoundaryBefore-decomposed : (s : Characters) (b : Bounds) → SuitsLazyReading (has_class_form s) (reading_by s Dropped []) → IsPassthroughBelow s b.decomposition
    → SuitsTexts (reading_by s Dropped []) Decomposing → (c : ℕ) → IsScalar c → (nat_lt c b.decomposition || not (has_class_form s c)) ≡ true → HasBoundaryBefore (reading_by s Dropped []) Decomposing c
unfolding normal_form
HasBoundaryBefore-decomposed s b reading passthrough laws c scalar begins = elim (cases_lt c b.decomposition) [
  | inl low ↦ let low_starter = passthrough c scalar low in (CanPassThrough-itself (reading_by s Dropped []) c (low_starter.itself []) low_starter.starter).begins
  | inr high ↦
      let d = reading_by s Dropped [] in
      let other : not (has_class_form s c) ≡ true = sym (ap (λ l. l || not (has_class_form s c)) (le-ltb c b.decomposition high)) ∙ begins in
      let at_boundary : has_class_form s c ≡ false = not-true (has_class_form s c) other in
      λ front x. nfd-boundary d front (c ∷ x)
      (BeginsWithStarter-expand d c x (laws.are_nonempty.are_nonempty c) (first_begins d (d.list c) (λ first others is. reading.starters c first others at_boundary is)))
]

-- a character without class form begins a new part where text is decomposed
pub HasBoundaryBefore-boundary : (s : Characters) (b : Bounds) → ServesDecomposing s b → (c : ℕ) → IsScalar c
    → not (has_class_form s c) ≡ true → HasBoundaryBefore (reading_by s Dropped []) Decomposing c
HasBoundaryBefore-boundary s b serves c scalar at_boundary = serves.beginnings c scalar (ap (λ k. nat_lt c b.decomposition || k) at_boundary ∙ or-true (nat_lt c b.decomposition))

-- a character that is taken to begin at a boundary begins a new part where text is composed: condition 13
pub HasBoundaryBefore-taken : (s : Characters) (b : Bounds) (pairs : List Pair) → HasStarterResults (reading_by s Dropped pairs) → AreAcceptedPairs s b pairs
    → (c : ℕ) → IsScalar c → is_taken_as_boundary s b c ≡ true → HasBoundaryBefore (reading_by s Dropped pairs) Composing c
unfolding says KeepsBoundary normal_form
HasBoundaryBefore-taken s b pairs starters accepted c scalar taken =
    let d = reading_by s Dropped pairs in
    let safe = (met (pairs_loaded s b pairs) (pair_conditions s.is_mapper) SafeBeginning accepted refl).1 c scalar taken in
    λ front x. nfc-boundary d starters front (c ∷ x) (BeginsAtBoundary-expand d c x safe.begins safe.safely)

-- the form of a character alone is its list
pub form_of_one : (s : Characters) (b : Bounds) → ServesDecomposing s b → (c : ℕ) → IsScalar c → normal_form (reading_by s Dropped []) Decomposing (c ∷ []) ≡ list_of s [] c
unfolding normal_form nfd expand
form_of_one s b serves c scalar = ap (order (reading_by s Dropped [])) (append-nil (list_of s [] c)) ∙ serves.ordered c scalar

-- without class form a character is a starter
class-no_form : (s : Characters) (c : ℕ) → has_class_form s c ≡ false → class_of s c ≡ 0
unfolding has_class_form class_of class_of_word
class-no_form s c none = cond_both (scalar c) (class_of_word (word_of s c)) 0 (λ k. k ≡ 0) (λ _. cond-false (is_class_form (word_of s c)) _ 0 none) (λ _. refl)

-- a character that a composing loop passes
pub CanPassThrough-passed : (s : Characters) (b : Bounds) (pairs : List Pair) → SuitsLazyComposing s b pairs → (c : ℕ) → IsScalar c → is_composing_passthrough s b c ≡ true
    → CanPassThrough (reading_by s Dropped pairs) Composing true c
unfolding normal_form
CanPassThrough-passed s b pairs suits c scalar passed =
    let d = reading_by s Dropped pairs in
    let apart = suits.apart Dropped c (record { scalar = scalar; passed = passed }) in
    record {
      starter = class-no_form s c apart.at_boundary;
      own = apart.form;
      begins = λ front x. nfc-boundary d suits.starters front (c ∷ x) (BeginsAtBoundary-expand d c x apart.are_nonempty (BeginsAtBoundary-apart (has_class_form s) d c apart));
      ends = λ no. absurd (cc);
    }

-- the bytes of a composing form
pub AreBytesOf-composing : (s : Characters) (b : Bounds) (pairs : List Pair) → ServesComposing s b pairs → (bytes : List ℕ) → AreComposingBytes s pairs bytes
    → AreBytesOf (reading_by s Dropped pairs) Composing true bytes
unfolding is_composing_passthrough has_no_flag
AreBytesOf-composing s b pairs serves bytes say = record {
  starters = λ c scalar is.
      CanPassThrough-passed s b pairs serves.composing c scalar
      (ap (λ l. nat_lt c b.composition || l) ((say c (omega (arith, is))).starter is) ∙ or-true (nat_lt c b.composition));
  marks = λ c scalar some mark.
      let known = say c some in
      CanFollowMark-ordinary s c scalar Composing pairs (byte_of bytes c) serves.laws.laws (known.form mark) (known.class mark) some (λ _. known.no_second mark);
}

module _ (d : Reading) (form : Form) where
  pub normal_form-nil : (form : Form) → normal_form d form [] ≡ []
  unfolding normal_form nfc nfd expand order compose compose_from
  normal_form-nil Decomposing = refl
  normal_form-nil Composing = refl

  -- nothing comes before, or after
  pub Divides-start : (rest : List ℕ) → Divides d form [] rest
  Divides-start rest read unread is = ap (λ l. l ++ normal_form d form read) (sym (normal_form-nil form))

  pub Divides-end : (front : List ℕ) → Divides d form front []
  Divides-end front [] unread is = ap (normal_form d form) (append-nil front) ∙ sym (append-nil (normal_form d form front)) ∙ ap (λ l. normal_form d form front ++ l) (sym (normal_form-nil form))
  Divides-end front (c ∷ read) unread is = absurd (cc)

  -- a character that begins a new part comes next
  pub Divides-next : (c : ℕ) → HasBoundaryBefore d form c → (front x : List ℕ) → Divides d form front (c ∷ x)
  Divides-next c begins front x [] unread is = Divides-end front [] [] refl
  Divides-next c begins front x (e ∷ read) unread is =
      let same : c ≡ e = cc in
      subst (λ k. normal_form d form (front ++ k ∷ read) ≡ normal_form d form front ++ normal_form d form (k ∷ read)) same (begins front read)

  module _ (held_back : Bool) where
    -- what comes after a character of which nothing is held back is normalized apart
    pub Divides-after : held_back ≡ false → (c : ℕ) → CanPassThrough d form held_back c → (front x rest : List ℕ) → Divides d form (front ++ (x ++ c ∷ [])) rest
    Divides-after free c may front x rest read unread is =
        let f = normal_form d form in
        ap f (append_assoc front (x ++ c ∷ []) read ∙ ap (λ l. front ++ l) (append_assoc x (c ∷ []) read) ∙ sym (append_assoc front x (c ∷ read)))
        ∙ may.begins (front ++ x) read
        ∙ ap (λ l. f (front ++ x) ++ l) (may.ends free read)
        ∙ sym (append_assoc (f (front ++ x)) (c ∷ []) (f read))
        ∙ ap (λ l. l ++ f read)
        (ap (λ l. f (front ++ x) ++ l) (sym may.own) ∙ sym (may.begins (front ++ x) []) ∙ ap f (append_assoc front x (c ∷ [])))

-- ---- how texts end

same_last : (x y : List ℕ) (a b : ℕ) → x ++ a ∷ [] ≡ y ++ b ∷ [] → a ≡ b
same_last x y a b is =
    let long : length x ≡ length y = omega (arith, ap length is, length-append x (a ∷ []), length-append y (b ∷ [])) in
    let last : a ∷ [] ≡ b ∷ [] =
    sym (drop_at x (a ∷ []) (length x) refl) ∙ ap (drop (length x)) is ∙ ap (λ n. drop n (y ++ b ∷ [])) long ∙ drop_at y (b ∷ []) (length y) refl in
    cc

pub EndsUpTo-none : (d : Reading) (k : ℕ) → EndsUpTo d k []
EndsUpTo-none d k front last is = absurd (omega (arith, ap length is, length-append front (last ∷ [])))

pub EndsUpTo-more : (d : Reading) (x : List ℕ) (c k : ℕ) → d.class c ≡ k → EndsUpTo d k (x ++ c ∷ [])
EndsUpTo-more d x c k class front last is = omega (arith, class, ap d.class (same_last x front c last is))

-- a character that passes with class j after one of class `last` stays at the end of a text that is normalized
module _ (d : Reading) (form : Form) (x : List ℕ) (own : IsNormalized d form x) (c j : ℕ) where
  pub IsNormalized-starter : (held_back : Bool) → CanPassThrough d form held_back c → IsNormalized d form (x ++ c ∷ [])
  IsNormalized-starter held_back may = may.begins x [] ∙ ap (λ l. l ++ normal_form d form (c ∷ [])) own ∙ ap (λ l. x ++ l) may.own

  pub IsNormalized-mark : CanFollowMark d form c j → (last : ℕ) → last ≤ j → EndsUpTo d last x → IsNormalized d form (x ++ c ∷ [])
  IsNormalized-mark may last rising ends =
      may.stays x (λ front end is. let low = ends front end (sym own ∙ is) in omega arith) ∙ ap (λ l. l ++ c ∷ []) own
