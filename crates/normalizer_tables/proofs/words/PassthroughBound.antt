-- Characters below the bound of decomposing are passthrough: conditions 7 and 10.
use Rattle.std.proofs.Common.{◌≡◌, ℕ, false, None, refl, arith}
use Rattle.std.specs.Char.{IsScalar}
use Rattle.normalizer_tables.specs.declared.condition.Bounds.{Bounds}
use Rattle.normalizer_tables.specs.declared.condition.Condition.TheVariants as condition
use Rattle.normalizer_tables.specs.conditions.CharacterConditions.{IsPlainStarter, IsSoundWord, ReadsToItself}
use Rattle.normalizer_tables.specs.conditions.Conditions.{IsMet, says}
use Rattle.normalizer_tables.specs.conditions.Loaded.{characters_loaded}
use Rattle.normalizer_tables.specs.Characters.{Characters, word_of, reading_of_word, named_list, list_read, class_of, has_class_form, characters_from}
use Rattle.normalizer_tables.specs.Data.{Decompositions, Lists}
use Rattle.normalizer_tables.specs.conditions.NfdData.{IsSoundNfdData, nfd_bounds, nfd_conditions, nfd_loaded}
use Rattle.normalizer_tables.specs.Passthrough.{IsPassthroughBelow}
use Rattle.normalizer_tables.specs.Words.{class_of_word, is_class_form}
use Rattle.normalizer_tables.specs.Words.{read}
use Rattle.normalizer_tables.proofs.conditions.ConditionLemmas.{one_class_form, plain-no_class_form}
use Rattle.normalizer_tables.proofs.conditions.ListedConditions.{met}
use Rattle.normalizer_tables.specs.SpecialLists.{fixed_list_of}
use Rattle.normalizer_tables.proofs.lists.SoundLists.{reads_as_itself}

-- a word with a special class form doesn't read to its character, and the class of one with an ordinary class form isn't 0
no_class_form-itself : (s : Characters) (n : ℕ) → IsScalar n → IsSoundWord s n → ReadsToItself s n → class_of s n ≡ 0 → has_class_form s n ≡ false
unfolding has_class_form is_class_form ReadsToItself class_of class_of_word list_read reading_of_word read named_list fixed_list_of
no_class_form-itself s n h sound itself starter = grind (arith, plain-no_class_form (word_of s n), one_class_form (word_of s n), sound.class.ordinary)

pub IsPassthroughBelow-conditions : (s : Characters) (b : Bounds) → IsMet (characters_loaded s b) condition.Words → IsMet (characters_loaded s b) condition.Passthrough → IsPassthroughBelow s b.decomposition
unfolding says IsPlainStarter
IsPassthroughBelow-conditions s b words passthrough = λ c h below. record {
  itself = λ ignored. reads_as_itself s ignored c (passthrough.1 c h below).0;
  starter = (passthrough.1 c h below).1;
  no_class_form = no_class_form-itself s c h (words.1 c h) (passthrough.1 c h below).0 (passthrough.1 c h below).1;
}

pub IsPassthroughBelow-handed_in : (decompositions : Decompositions) (tables : Lists) → IsSoundNfdData decompositions tables →
    IsPassthroughBelow (characters_from decompositions tables None) nfd_bounds.decomposition
IsPassthroughBelow-handed_in decompositions tables accepted =
    let holds = met (nfd_loaded decompositions tables) nfd_conditions in
    IsPassthroughBelow-conditions (characters_from decompositions tables None) nfd_bounds (holds condition.Words accepted refl) (holds condition.Passthrough accepted refl)
