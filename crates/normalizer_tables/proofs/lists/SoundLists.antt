-- What sound data say of each list.
use Rattle.std.proofs.Common.{◌≡◌, ℕ, inl, inr, true, false, List, [], ◌∷◌, All, Option, None, refl, ◌∙◌, arith}
use Rattle.std.specs.Char.{IsScalar}
use lib.Utf8.{scalar}
use Rattle.std.proofs.lemmas.Bool.{cases_Bool}
use Rattle.std.proofs.lemmas.List.Elements.{All-cons, All-nil}
use Rattle.normal_forms.specs.Boundary.{BeginsWithStarter}
use Rattle.normal_forms.specs.Hypotheses.{HasFullLists}
use Rattle.normal_forms.specs.Order.{insert, is_reorderable, order}
use Rattle.normal_forms.specs.Reading.{Reading}
use Rattle.normalizer_tables.specs.declared.word.WordReading.{WordReading}
use Rattle.normalizer_tables.specs.declared.word.WordReading.TheVariants.{Ignored}
use Rattle.normalizer_tables.specs.Words.{class_of_word}
use Rattle.normalizer_tables.specs.Characters.{Characters, reading_of_word, named_list, list_read, list_of, class_of, has_class_form}
use Rattle.normalizer_tables.specs.conditions.CharacterConditions.{IsFlaggedReplacement, IsPlainStarter, ReadsToItself}
use Rattle.normalizer_tables.specs.conditions.Conditions.{says}
use Rattle.normalizer_tables.specs.Ignored.{IgnoredCharacters, Dropped, Replaced, ignored_list}
use Rattle.normalizer_tables.specs.conditions.SoundData.{Bounds, IsSoundData}
use Rattle.normalizer_tables.specs.Readings.{reading_by, reading_of}
use Rattle.normalizer_tables.proofs.words.CharacterLemmas.{list_read-scalar, list_of-reads, list_of-default}
use Rattle.normalizer_tables.proofs.lists.OrderedLists.{rising-order, order-rising, order-short}

-- only classes matter to the order
pub order-own : (s : Characters) (ignored : List ℕ) (pairing : ℕ → ℕ → Option ℕ) (x : List ℕ) → order (reading_by s Dropped []) x ≡ order (reading_of s ignored pairing) x
unfolding order insert is_reorderable
order-own s ignored pairing x = refl

pub list_read-elsewhere : (s : Characters) (ignored : List ℕ) (n : ℕ) → scalar n ≡ false → list_read s ignored n ≡ None
unfolding list_read
list_read-elsewhere s ignored n h = rw h

-- what a number is: no scalar value, ignored, or one whose list the treatment leaves alone
pub data Kind (s : Characters) (ignored : List ℕ) (n : ℕ) : Type 0 where
  elsewhere : scalar n ≡ false → list_of s ignored n ≡ n ∷ [] → Kind s ignored n
  dropped : scalar n ≡ true → reading_of_word s n ≡ Ignored → list_of s ignored n ≡ ignored → Kind s ignored n
  same : scalar n ≡ true → list_read s ignored n ≡ list_read s [] n → list_of s ignored n ≡ list_of s [] n → Kind s ignored n

kind_by : (s : Characters) (ignored : List ℕ) (n : ℕ) (r : WordReading) → reading_of_word s n ≡ r → scalar n ≡ true → Kind s ignored n
unfolding list_read list_of named_list
kind_by s ignored n Ignored e h = dropped h e (grind arith)
kind_by s ignored n _ e h = same h (grind arith) (grind arith)

pub kind_of : (s : Characters) (ignored : List ℕ) (n : ℕ) → Kind s ignored n
kind_of s ignored n = elim (cases_Bool (scalar n)) [
  | inl h ↦ kind_by s ignored n (reading_of_word s n) refl h
  | inr h ↦ elsewhere h (list_of-default s ignored n (list_read-elsewhere s ignored n h))
]

-- what holds of each kind of list
by_kind : (s : Characters) (ignored : List ℕ) (n : ℕ) (P : List ℕ → Type 0) →
    (scalar n ≡ false → list_of s ignored n ≡ n ∷ [] → P (n ∷ [])) → (scalar n ≡ true → P ignored) → (scalar n ≡ true → P (list_of s [] n)) → P (list_of s ignored n)
by_kind s ignored n P a b c = elim (kind_of s ignored n) [
  | elsewhere q e ↦ rw e (a q e)
  | dropped q r e ↦ rw e (b q)
  | same q e f ↦ rw f (c q)
]

-- a character that reads to itself does so under each treatment
pub reads_as_itself : (s : Characters) (ignored : List ℕ) (n : ℕ) → ReadsToItself s n → list_of s ignored n ≡ n ∷ []
unfolding ReadsToItself named_list
reads_as_itself s ignored n h = elim (kind_of s ignored n) [
  | elsewhere q e ↦ e
  | dropped q r e ↦ grind (arith, list_read-scalar s [] n Ignored q r)
  | same q e f ↦ f ∙ list_of-reads s [] n (n ∷ []) h
]

-- the list of an ignored character reads as itself
ignored_members : (s : Characters) (b : Bounds) → IsSoundData s b → (i : IgnoredCharacters) → All (ReadsToItself s) (ignored_list i)
unfolding says IsFlaggedReplacement IsPlainStarter
ignored_members s b sound Dropped = All-nil (ReadsToItself s)
ignored_members s b sound Replaced = All-cons (ReadsToItself s) 0xFFFD [] sound.replacement.0.0.0 (All-nil (ReadsToItself s))

-- each list has only members that read to themselves, or is of the number alone
own_members : (s : Characters) (b : Bounds) → IsSoundData s b → (i : IgnoredCharacters) (n : ℕ) → scalar n ≡ true → All (ReadsToItself s) (list_of s (ignored_list i) n)
unfolding says
own_members s b sound i n h = by_kind s (ignored_list i) n (All (ReadsToItself s)) (λ q e. cc) (λ q. ignored_members s b sound i) (λ q. sound.members.1 n h)

pub HasFullLists-sound : (s : Characters) (b : Bounds) → IsSoundData s b → (i : IgnoredCharacters) (pairing : ℕ → ℕ → Option ℕ) → HasFullLists (reading_of s (ignored_list i) pairing)
HasFullLists-sound s b sound i pairing = record {
  members = λ c. elim (cases_Bool (scalar c)) [
    | inl h ↦ λ k d below. reads_as_itself s (ignored_list i) _ (own_members s b sound i c h k d below)
    | inr h ↦ (let e = list_of-default s (ignored_list i) c (list_read-elsewhere s (ignored_list i) c h) in
        rw e (All-cons (λ m. list_of s (ignored_list i) m ≡ m ∷ []) c [] e (All-nil (λ m. list_of s (ignored_list i) m ≡ m ∷ []))))
  ];
}

pub IsText-list_of : (s : Characters) (b : Bounds) → IsSoundData s b → (i : IgnoredCharacters) (n : ℕ) → IsScalar n → All IsScalar (list_of s (ignored_list i) n)
unfolding ReadsToItself list_read
IsText-list_of s b sound i n h k d below = (let own = own_members s b sound i n h k d below in grind arith)

pub class_of-no_class_form : (s : Characters) (n : ℕ) → has_class_form s n ≡ false → class_of s n ≡ 0
unfolding has_class_form class_of class_of_word
class_of-no_class_form s n h = grind arith

-- only classes decide which characters a list may begin with
same_beginning : (s : Characters) (ignored : List ℕ) (pairing : ℕ → ℕ → Option ℕ) (x : List ℕ) → BeginsWithStarter (reading_by s Dropped []) x → BeginsWithStarter (reading_of s ignored pairing) x
same_beginning s ignored pairing [] h = tt
same_beginning s ignored pairing (c ∷ x) h = h

ignored_beginning : (s : Characters) (b : Bounds) → IsSoundData s b → (i : IgnoredCharacters) (d : Reading) → ((c : ℕ) → d.class c ≡ class_of s c) → BeginsWithStarter d (ignored_list i)
unfolding says IsFlaggedReplacement IsPlainStarter
ignored_beginning s b sound Dropped d e = tt
ignored_beginning s b sound Replaced d e = e 0xFFFD ∙ sound.replacement.0.0.1

pub BeginsWithStarter-list_of : (s : Characters) (b : Bounds) → IsSoundData s b → (i : IgnoredCharacters) (pairing : ℕ → ℕ → Option ℕ) (c : ℕ) → has_class_form s c ≡ false →
    BeginsWithStarter (reading_of s (ignored_list i) pairing) (list_of s (ignored_list i) c)
unfolding says
BeginsWithStarter-list_of s b sound i pairing c h =
    by_kind s (ignored_list i) c (BeginsWithStarter (reading_of s (ignored_list i) pairing)) (λ q e. class_of-no_class_form s c h)
    (λ q. ignored_beginning s b sound i (reading_of s (ignored_list i) pairing) (λ n. refl)) (λ q. same_beginning s (ignored_list i) pairing _ ((sound.order.1 c q).first h))

pub order-list_of : (s : Characters) (b : Bounds) → IsSoundData s b → (i : IgnoredCharacters) (pairing : ℕ → ℕ → Option ℕ) (c : ℕ) →
    order (reading_of s (ignored_list i) pairing) (list_of s (ignored_list i) c) ≡ list_of s (ignored_list i) c
unfolding says
order-list_of s b sound i pairing c =
    let d = reading_of s (ignored_list i) pairing in
    by_kind s (ignored_list i) c (λ x. order d x ≡ x) (λ q e. order-short d (c ∷ []) (omega arith)) (λ q. order-short d (ignored_list i) (grind arith))
    (λ q. order-rising d 0 (list_of s [] c) (rising-order (reading_by s Dropped []) (list_of s [] c) (sound.order.1 c q).ordered))

-- what the laws of lists say
pub ruleset sound_lists = (HasFullLists-sound, IsText-list_of, class_of-no_class_form, order-list_of)
