-- What a word that is 0, flags aside, says of its character.
use Rattle.std.proofs.Common.{◌≡◌, ℕ, true, List, [], ◌∷◌, Option, refl}
use lib.Utf8.{scalar}
use Rattle.normal_forms.specs.Decomposition.{expand}
use Rattle.normal_forms.specs.Order.{order, insert}
use Rattle.normal_forms.specs.Composition.{compose, compose_from, visit}
use Rattle.normal_forms.specs.declared.Form.{Form}
use Rattle.normal_forms.specs.declared.Form.TheVariants.{Decomposing, Composing}
use Rattle.normal_forms.specs.Forms.{nfd, nfc, normal_form, IsNormalized}
use Rattle.normalizer_tables.specs.Characters.{Characters, word_of, list_of}
use Rattle.normalizer_tables.specs.Words.{is_plain}
use Rattle.normalizer_tables.specs.conditions.CharacterConditions.{ReadsToItself}
use Rattle.normalizer_tables.proofs.conditions.ConditionLemmas.{class_of-plain, list_read-plain, plain-no_class_form}
use Rattle.normalizer_tables.proofs.lists.SoundLists.{reads_as_itself}
use Rattle.normalizer_tables.specs.Readings.{reading_of}

pub list_of-plain_word : (s : Characters) (ignored : List ℕ) (n : ℕ) → scalar n ≡ true → is_plain (word_of s n) ≡ true → list_of s ignored n ≡ n ∷ []
unfolding ReadsToItself
list_of-plain_word s ignored n h plain = reads_as_itself s ignored n (list_read-plain s n h plain)

pub IsNormalized-plain_word : (s : Characters) (ignored : List ℕ) (pairing : ℕ → ℕ → Option ℕ) (form : Form) (n : ℕ) → scalar n ≡ true → is_plain (word_of s n) ≡ true →
    IsNormalized (reading_of s ignored pairing) form (n ∷ [])
unfolding normal_form nfc nfd expand order insert compose compose_from visit
IsNormalized-plain_word s ignored pairing Decomposing n h plain = rw (list_of-plain_word s ignored n h plain) refl
IsNormalized-plain_word s ignored pairing Composing n h plain = rw (list_of-plain_word s ignored n h plain) refl

-- what the law of plain characters says
pub ruleset plain_characters = (list_of-plain_word, class_of-plain, IsNormalized-plain_word, plain-no_class_form)
