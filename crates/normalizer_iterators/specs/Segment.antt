-- The characters of a segment, buffered.
use Rattle.std.specs.Prelude.{◌≡◌, ℕ, ◌<◌, ◌≤◌, List, ◌++◌, take, option_to_list}
use Rattle.std.specs.Option.{ForSome}
use Rattle.normal_forms.specs.Decomposition.{expand}
use Rattle.normal_forms.specs.Forms.{nfd}
use Rattle.normal_forms.specs.Order.{order}
use Rattle.normal_forms.specs.Reading.{Reading, IsStarter}
use Rattle.normal_forms.specs.ShortRuns.{buffer_limit}
use Rattle.normalizer_text.specs.DecodingSteps.{IsBoundary}
use Rattle.normalizer_text.specs.Encodings.{Encoding, first_in, decoded_in}
use Rattle.normalizer_iterators.specs.declared.segment.SegmentBuffer.{SegmentBuffer}
use Rattle.normalizer_iterators.specs.WaitingList.{item_count, ordered_text, reordered_text, AgreesWith}

-- those that are left
unfoldable pub characters_left : SegmentBuffer → List ℕ
characters_left b = option_to_list b.starter ++ ordered_text b.waiting

-- they take no memory
unfoldable pub IsSmall : SegmentBuffer → Type 0
IsSmall b = item_count b.waiting ≤ buffer_limit

-- what is held apart is a starter, and the classes of the others are those of the reading
pub record Agrees (d : Reading) (b : SegmentBuffer) : Type 0 where
  pub starter : ForSome b.starter (IsStarter d)
  pub classes : AgreesWith d b.waiting

-- a front of the units that has some ends there, where a step does
abbrev pub EndsFront : Encoding → List ℕ → ℕ → Type 0
EndsFront e units end = (0 < end) × IsBoundary (first_in e) units end

-- the lists of the units up to a place are buffered: in canonical order, but for marks at the end
pub record HasRead (d : Reading) (e : Encoding) (units : List ℕ) (end : ℕ) (b : SegmentBuffer) : Type 0 where
  pub front : EndsFront e units end
  pub agrees : Agrees d b
  pub text : (rest : List ℕ) → order d (expand d (decoded_in e (take end units)) ++ rest)
      ≡ option_to_list b.starter ++ reordered_text d b.waiting rest

-- the decomposed form of the units up to a place is left
pub record IsDecomposed (d : Reading) (e : Encoding) (units : List ℕ) (end : ℕ) (b : SegmentBuffer) : Type 0 where
  pub front : EndsFront e units end
  pub agrees : Agrees d b
  pub form : characters_left b ≡ nfd d (decoded_in e (take end units))
