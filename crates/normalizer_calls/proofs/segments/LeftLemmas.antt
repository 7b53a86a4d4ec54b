-- What is left of a segment.
use Rattle.std.proofs.Common.{◌≡◌, ℕ, List, [], take, ap, sym, ◌∙◌}
use Rattle.std.specs.Prelude.{Option, Some, None, IfSome, IfNone}
use Rattle.normal_forms.specs.CompositionByStarters.{compose_by_starters}
use Rattle.normal_forms.specs.Forms.{normal_form}
use Rattle.normal_forms.specs.Hypotheses.{HasStarterResults}
use Rattle.normal_forms.specs.Reading.{Reading}
use Rattle.normal_forms.specs.declared.Form.TheVariants.{Composing}
use Rattle.normal_forms.proofs.composing.ComposeLemmas.{compose_by_starters-nil}
use Rattle.normalizer_tables.specs.Characters.{Characters}
use Rattle.normalizer_tables.specs.Pairs.{Pair}
use Rattle.normalizer_tables.specs.Readings.{reading_by}
use Rattle.normalizer_tables.specs.declared.characters.IgnoredCharacters.TheVariants.{Dropped}
use Rattle.normalizer_text.specs.Encodings.{Encoding, decoded_in}
use Rattle.normalizer_iterators.specs.declared.segment.SegmentBuffer.{SegmentBuffer}
use Rattle.normalizer_iterators.specs.Segment.{IsDecomposed}
use Rattle.normalizer_iterators.proofs.composing.ComposingLemmas.{nfc-reading_by}
use Rattle.normalizer_iterators.proofs.segments.SegmentLemmas.{AgreesWith-reading_by}
use Rattle.normalizer_calls.specs.Forms.{form_by}
use Rattle.normalizer_calls.specs.inner.FormsLeft.{form_of_ordered, HoldsForm}

pub IfSome-weaker : {T : Type 0} (o : Option T) (P Q : T → Type 0) → ((x : T) → P x → Q x) → IfSome o P → IfSome o Q
IfSome-weaker None P Q f h = tt
IfSome-weaker (Some x) P Q f h = f x h

pub IfNone-composed : {T : Type 0} (o : Option T) (d : Reading) (x : List ℕ) → IfNone o (x ≡ []) → IfNone o (compose_by_starters d x ≡ [])
IfNone-composed None d x none = ap (compose_by_starters d) none ∙ compose_by_starters-nil d
IfNone-composed (Some c) d x none = tt

-- what is composed from a buffer in canonical order is the form
pub HoldsForm-composing : (s : Characters) (pairs : List Pair) → HasStarterResults (reading_by s Dropped pairs) → (e : Encoding) (units : List ℕ) (end : ℕ) (b : SegmentBuffer)
    → IsDecomposed (reading_by s Dropped []) e units end b → HoldsForm (form_by s pairs Composing) e units end b
unfolding form_of_ordered normal_form
HoldsForm-composing s pairs results e units end b ordered = record {
  agrees = record { starter = ordered.agrees.starter; classes = AgreesWith-reading_by s Dropped pairs b.waiting ordered.agrees.classes };
  form = ap (compose_by_starters (reading_by s Dropped pairs)) ordered.form ∙ sym (nfc-reading_by s Dropped pairs results (decoded_in e (take end units)));
}
