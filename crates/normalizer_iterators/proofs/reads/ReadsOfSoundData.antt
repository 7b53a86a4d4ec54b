-- Data that meet the written conditions may be read lazily.
use Rattle.std.proofs.Common.{◌≡◌, ℕ, false, List, [], ◌∷◌, refl, ap, ◌∙◌, subst, arith, inl, inr, None}
use Rattle.std.proofs.lemmas.Bool.{cases_Bool, cond-false}
use lib.Utf8.{scalar}
use Rattle.normal_forms.specs.Reading.{Reading, IsStarter}
use Rattle.normalizer_tables.specs.declared.characters.IgnoredCharacters.TheVariants.{Dropped}
use Rattle.normalizer_tables.specs.declared.condition.Bounds.{Bounds}
use Rattle.normalizer_tables.specs.declared.condition.Condition.TheVariants.{Order}
use Rattle.normalizer_tables.specs.Characters.{Characters, list_read, list_of, class_of, has_class_form, characters_from}
use Rattle.normal_forms.specs.Boundary.{BeginsWithStarter}
use Rattle.normalizer_tables.specs.conditions.Conditions.{IsMet, says}
use Rattle.normalizer_tables.specs.conditions.Loaded.{characters_loaded}
use Rattle.normalizer_tables.specs.Data.{Decompositions, Lists}
use Rattle.normalizer_tables.proofs.words.CharacterLemmas.{list_of-default}
use Rattle.normalizer_tables.proofs.lists.ListLengths.{length-list_of}
use Rattle.normalizer_tables.specs.conditions.NfdData.{IsSoundNfdData, nfd_bounds, nfd_conditions, nfd_loaded}
use Rattle.normalizer_tables.proofs.conditions.ListedConditions.{met}
use Rattle.normalizer_tables.specs.Readings.{reading_by}
use Rattle.normalizer_iterators.specs.LazyReading.{SuitsLazyReading}

list_of-elsewhere : (s : Characters) (n : ℕ) → scalar n ≡ false → list_of s [] n ≡ n ∷ []
unfolding list_read
list_of-elsewhere s n other = list_of-default s [] n (cond-false _ _ _ other)

class_of-elsewhere : (s : Characters) (n : ℕ) → scalar n ≡ false → class_of s n ≡ 0
unfolding class_of
class_of-elsewhere s n other = cond-false _ _ _ other

first_is_starter : (d : Reading) (x : List ℕ) (first : ℕ) (others : List ℕ) → x ≡ first ∷ others → BeginsWithStarter d x → IsStarter d first
first_is_starter d x first others e h = subst (BeginsWithStarter d) e h

pub SuitsLazyReading-sound : (s : Characters) (b : Bounds) → IsMet (characters_loaded s b) Order → SuitsLazyReading (has_class_form s) (reading_by s Dropped [])
unfolding says
SuitsLazyReading-sound s b sound = record {
  starters = λ c first others other e.
      elim (cases_Bool (scalar c)) [
        | inl is ↦ first_is_starter (reading_by s Dropped []) (list_of s [] c) first others e ((sound.1 c is).first other)
        | inr elsewhere ↦
            let alone : first ≡ c = cc (e, list_of-elsewhere s c elsewhere) in
            ap (class_of s) alone ∙ class_of-elsewhere s c elsewhere
      ];
  short = λ c. length-list_of s [] c (omega arith);
}

-- canonical data that a caller vouches for
pub SuitsLazyReading-nfd : (decompositions : Decompositions) (tables : Lists) → IsSoundNfdData decompositions tables
    → SuitsLazyReading (has_class_form (characters_from decompositions tables None)) (reading_by (characters_from decompositions tables None) Dropped [])
SuitsLazyReading-nfd decompositions tables sound = SuitsLazyReading-sound (characters_from decompositions tables None) nfd_bounds (met (nfd_loaded decompositions tables) nfd_conditions Order sound refl)
