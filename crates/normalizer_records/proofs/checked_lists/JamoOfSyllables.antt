-- What replaces a Hangul syllable.
use Rattle.std.proofs.Common.{◌≡◌, ℕ, true, List, refl}
use Rattle.normalizer_tables.specs.Hangul.{is_hangul_syllable, hangul_decomposition}
use Rattle.normalizer_records.specs.declared.records.Mappings.{Mappings}
use Rattle.normalizer_records.specs.RecordValue.{RecordValue}
use Rattle.normalizer_records.specs.Meaning.{replacement}

pub replacement-syllable : (records : List RecordValue) (mappings : Mappings) (c : ℕ) → is_hangul_syllable c ≡ true → replacement records mappings c ≡ hangul_decomposition c
unfolding replacement
replacement-syllable records mappings c h = rw h refl
