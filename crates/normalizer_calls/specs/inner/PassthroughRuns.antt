-- Text whose form is made in parts: runs of characters that are passed on as they are, and what is between them.
use Rattle.std.specs.Prelude.{◌≡◌, ◌≢◌, ℕ, ◌<◌, Bool, true, false}
use Rattle.std.specs.Prelude.{List, [], ◌∷◌, ◌++◌, length, take, drop, IfSome}
use Rattle.std.specs.Char.{IsScalar}
use Rattle.normalizer_passing.specs.PassBytes.{byte_of, starter_byte}
use Rattle.normal_forms.specs.Reading.{Reading, IsStarter}
use Rattle.normal_forms.specs.declared.Form.{Form}
use Rattle.normal_forms.specs.Forms.{normal_form, IsNormalized}
use Rattle.normal_forms.specs.Cut.{IsFront}
use Rattle.normal_forms.specs.Order.{EndsUpTo}
use Rattle.normalizer_text.specs.Encodings.{Encoding, first_in, encoded_in, decoded_in}
use Rattle.normalizer_text.specs.DecodingSteps.{IsBoundary}
use Rattle.normalizer_text.specs.InputCut.{IsInputNormalized}
use Rattle.normalizer_calls.specs.BoundaryBefore.{HasBoundaryBefore}
use Rattle.normalizer_calls.specs.Forms.{MadeForm}
use Rattle.normalizer_calls.specs.declared.runs.Passed.{Passed}
use Rattle.normalizer_calls.specs.declared.segment.Segment.{Segment}

-- however much of the rest is read after the front, both are normalized apart
abbrev pub Divides : Reading → Form → List ℕ → List ℕ → Type 0
Divides d form front rest = (read unread : List ℕ) → rest ≡ read ++ unread
    → normal_form d form (front ++ read) ≡ normal_form d form front ++ normal_form d form read

-- c may be passed on as it is: it is already normalized, and a text that begins with it is normalized apart from what
-- comes before. What comes after it is so too, unless it is held back.
pub record CanPassThrough (d : Reading) (form : Form) (held_back : Bool) (c : ℕ) : Type 0 where
  pub starter : IsStarter d c
  pub own : IsNormalized d form (c ∷ [])
  pub begins : HasBoundaryBefore d form c
  pub ends : held_back ≡ false → (x : List ℕ) → normal_form d form (c ∷ x) ≡ c ∷ normal_form d form x

-- c, a mark of class k, may be passed on as it is after a character of a class up to k: it stays at the end of a text
-- whose form ends with one
pub record CanFollowMark (d : Reading) (form : Form) (c k : ℕ) : Type 0 where
  pub class : d.class c ≡ k
  pub stays : (x : List ℕ) → EndsUpTo d k (normal_form d form x)
      → normal_form d form (x ++ c ∷ []) ≡ normal_form d form x ++ c ∷ []

-- by these bytes, starters pass through, and marks follow a class that isn't greater
pub record AreBytesOf (d : Reading) (form : Form) (held_back : Bool) (bytes : List ℕ) : Type 0 where
  pub starters : (c : ℕ) → IsScalar c → byte_of bytes c ≡ starter_byte → CanPassThrough d form held_back c
  pub marks : (c : ℕ) → IsScalar c → 0 < byte_of bytes c → byte_of bytes c ≢ starter_byte
      → CanFollowMark d form c (byte_of bytes c)

-- the character at the place begins a part of its own, if there is one
abbrev pub BeginsAt : (beginning : ℕ → Bool) → Encoding → List ℕ → ℕ → Type 0
BeginsAt beginning e units end = end < length units → beginning (first_in e (drop end units)).character ≡ true

-- a character ends at the place, and the next one begins a segment of its own, or the units end
pub record IsSegmentEnd (beginning : ℕ → Bool) (e : Encoding) (units : List ℕ) (end : ℕ) : Type 0 where
  pub some : 0 < end
  pub boundary : IsBoundary (first_in e) units end
  pub next : BeginsAt beginning e units end

-- a segment ends at its end, and its step, if it has one, is the one after that
pub record IsFrontSegment (beginning : ℕ → Bool) (e : Encoding) (units : List ℕ) (segment : Segment) : Type 0 where
  pub end : IsSegmentEnd beginning e units segment.end
  pub next : IfSome segment.next (λ next. next ≡ first_in e (drop segment.end units))

-- the units up to a place, which are normalized apart from the others, whatever comes before them
pub record IsPart (e : Encoding) (d : Reading) (form : Form) (units : List ℕ) (end : ℕ) : Type 0 where
  pub some : 0 < end
  pub boundary : IsBoundary (first_in e) units end
  pub divides : (front : List ℕ)
      → Divides d form (front ++ decoded_in e (take end units)) (decoded_in e (drop end units))

-- the units up to the place, if there are some, are a part, well-formed and normalized
abbrev pub IsPassedFront : Encoding → MadeForm → List ℕ → ℕ → Type 0
IsPassedFront e m units end =
    0 < end → IsPart e m.reading m.form units end × IsInputNormalized e m.reading m.form (take end units)

-- the same of the end of what passes; its step, if it has one, is the one after that
abbrev pub IsPassed : Encoding → MadeForm → List ℕ → Passed → Type 0
IsPassed e m units passed =
    IsPassedFront e m units passed.end × IfSome passed.next (λ next. next ≡ first_in e (drop passed.end units))

-- a character ends at the place, and the units up to it, if there are some, are a part, well-formed and normalized
pub record IsKeptTo (e : Encoding) (d : Reading) (form : Form) (units : List ℕ) (end : ℕ) : Type 0 where
  pub boundary : IsBoundary (first_in e) units end
  pub part : 0 < end → IsPart e d form units end × IsInputNormalized e d form (take end units)

-- a piece of the units, after units whose form is the front
pub record StandsInInput (e : Encoding) (d : Reading) (form : Form) (units front piece : List ℕ) : Type 0 where
  pub place : ℕ
  pub boundary : IsBoundary (first_in e) units place
  pub form_before : front ≡ normal_form d form (decoded_in e (take place units))
  pub next : IsFront (encoded_in e piece) (drop place units)
