-- What becomes of the form of a stream.
use Rattle.std.specs.Prelude.{◌≡◌, ℕ, ◌-◌, ◌^◌, ◌<◌, ◌≤◌, Bool, false, List, ◌++◌, length, drop, Option, IfSome}
use Rattle.std.specs.Io.KnownBytes.{Appends, Consumes}
use Rattle.icu_normalizer.specs.EncodedForm.{encoded_form}
use Rattle.icu_normalizer.specs.Encodings.{Encoding}
use Rattle.icu_normalizer.specs.Characters.{has_class_form, word_of}
use Rattle.icu_normalizer.specs.Words.{is_backward_combining}
use Rattle.icu_normalizer.specs.ComposingNormalizers.{composing_data_of}
use Rattle.icu_normalizer.specs.Normalizers.{data_of}
use Rattle.icu_normalizer.specs.AnyNormalizers.{kind_by, reading_of}
use Rattle.normalizer_io.specs.Transfer.{AppendsFront}
use Rattle.icu_normalizer.specs.declared.any_normalizer.AnyNormalizer.{AnyNormalizer}
use Rattle.normalizer_streams.specs.IllFormed.{first_of, Ends}
use Rattle.normalizer_streams.specs.declared.ill_formed.Ending.{Ending}
use Rattle.normalizer_streams.specs.declared.ill_formed.ErrorMode.{ErrorMode}
use Rattle.icu_normalizer.specs.declared.any_normalizer.AnyNormalizer.TheVariants as normalizer

-- the bytes of the form of what bytes decode to
abbrev pub form_by : AnyNormalizer → List ℕ → List ℕ
form_by n bytes = encoded_form Encoding.Utf8 (reading_of n) (kind_by n) bytes

-- By the bytes that are left in a source, if it reports them, and by those that a target took before and after: the
-- target took the form of what is to be written of them.
pub record IsFormWritten (mode : ErrorMode) (form : List ℕ → List ℕ)
    (left before after : Option (List ℕ)) (ending : Ending) : Type 0 where
  pub input : List ℕ
  pub whole : IfSome left (λ all. input ≡ all)
  pub text : List ℕ
  pub ends : Ends mode input text ending
  pub output : Appends before after (form text)

-- the target took a beginning of it
pub record IsFormCutOff (mode : ErrorMode) (form : List ℕ → List ℕ)
    (left before after : Option (List ℕ)) : Type 0 where
  pub input : List ℕ
  pub whole : IfSome left (λ all. input ≡ all)
  pub text : List ℕ
  pub ending : Ending
  pub ends : Ends mode input text ending
  pub output : AppendsFront before after (form text)

-- the character may continue what comes before it, as the words of a normalizer say
abbrev pub may_continue : AnyNormalizer → ℕ → Bool
may_continue (normalizer.Decomposing n) c = has_class_form (data_of n) c
may_continue (normalizer.Composing n) c = is_backward_combining (word_of (composing_data_of n) c)

-- at the place is a whole character that continues nothing
pub record IsDivision (continues : ℕ → Bool) (bytes : List ℕ) (place : ℕ) : Type 0 where
  pub within : place < length bytes
  pub whole : (first_of (drop place bytes)).is_error ≡ false
  pub starts : continues (first_of (drop place bytes)).character ≡ false

-- no such character is in the bytes, but for their first one
abbrev pub IsRun : (ℕ → Bool) → List ℕ → Type 0
IsRun continues bytes = (place : ℕ) → 0 < place → IsDivision continues bytes place → ⊥

-- Of what was read, the target took the form of all but one run: whatever comes next, that is the beginning of the form
-- of all, and the rest is the form of the run and what comes next.
pub record IsWrittenToRun (form : List ℕ → List ℕ) (continues : ℕ → Bool)
    (left left' before after : Option (List ℕ)) : Type 0 where
  pub read : List ℕ
  pub consumed : Consumes left left' read
  pub written : List ℕ
  pub output : Appends before after written
  pub passed : List ℕ
  pub run : List ℕ
  pub parts : read ≡ passed ++ run
  pub single : IsRun continues run
  pub apart : (next : List ℕ) → form (read ++ next) ≡ written ++ form (run ++ next)

-- the source has at least as many bytes as a call reads blocks, if it reports them
abbrev pub IsEndless : Option (List ℕ) → Type 0
IsEndless left = IfSome left (λ all. 2 ^ 64 - 1 ≤ length all)
