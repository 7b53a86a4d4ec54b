-- Bytes that are UTF-8, in std's words.
use Rattle.std.proofs.Common.{◌≡◌, ℕ, ◌<◌, true, false, List, [], ◌∷◌, length, take, drop, get_or, get_or-drop, arith, refl, ap, sym, subst, ◌∙◌}
use Rattle.std.specs.Prelude.{All}
use Rattle.std.specs.Char.{IsScalar}
use Rattle.std.specs.Str.{IsCharBoundary, IsUtf8, chars, all_scalars}
use Rattle.std.proofs.lemmas.Str.{chars_from_encodes, IsCharBoundary-from_take, IsUtf8-take}
use Rattle.std.proofs.lemmas.Bool.{and_from, and_parts}
use Rattle.std.proofs.lemmas.List.Elements.{All-nil, All-cons, All-head, All-tail}
use Rattle.normalizer_text.specs.DecodingSteps.{IsWellFormed, IsBoundary}
use Rattle.normalizer_text.specs.Utf8.{continuation, allows, first_of_utf8, decoded_utf8}
use Rattle.normalizer_text.proofs.steps.StepBoundaries.{boundary-le, boundary-well_formed, well_formed-parts}
use Rattle.normalizer_text.specs.Encodings.{Encoding}
use Rattle.normalizer_text.proofs.rules.EncodingLemmas.{DecodesBack-in, encoded-decoded}
use Rattle.normalizer_text.proofs.steps.StepLemmas.{decoded-IsText}
use Rattle.normalizer_text.proofs.steps.BackLemmas.{boundary-at}

text_from_scalars : (x : List ℕ) → all_scalars x ≡ true → All IsScalar x
text_from_scalars [] h = All-nil IsScalar
text_from_scalars (c ∷ x) h = let k = and_parts _ _ h in All-cons IsScalar c x k.0 (text_from_scalars x k.1)

scalars_from_text : (x : List ℕ) → All IsScalar x → all_scalars x ≡ true
scalars_from_text [] h = refl
scalars_from_text (c ∷ x) h = and_from _ _ (All-head IsScalar c x h) (scalars_from_text x (All-tail IsScalar c x h))

pub IsWellFormed-IsUtf8 : (bytes : List ℕ) → IsUtf8 bytes → IsWellFormed first_of_utf8 bytes
IsWellFormed-IsUtf8 bytes u = subst (IsWellFormed first_of_utf8) u.1.1 (DecodesBack-in Encoding.Utf8 u.0 (text_from_scalars u.0 u.1.0)).well_formed

pub IsUtf8-IsWellFormed : (bytes : List ℕ) → IsWellFormed first_of_utf8 bytes → IsUtf8 bytes
IsUtf8-IsWellFormed bytes w = (decoded_utf8 bytes, (scalars_from_text _ (decoded-IsText Encoding.Utf8 bytes), encoded-decoded Encoding.Utf8 bytes w))

pub decoded-chars : (bytes : List ℕ) → IsUtf8 bytes → decoded_utf8 bytes ≡ chars bytes
decoded-chars bytes u = chars_from_encodes (decoded_utf8 bytes) bytes u (encoded-decoded Encoding.Utf8 bytes (IsWellFormed-IsUtf8 bytes u))

-- a step of a text ends at a character boundary
pub IsCharBoundary-boundary : (bytes : List ℕ) (n : ℕ) → IsUtf8 bytes → IsBoundary first_of_utf8 bytes n → IsCharBoundary bytes n
IsCharBoundary-boundary bytes n u b =
    let parts = well_formed-parts Encoding.Utf8 bytes n b (IsWellFormed-IsUtf8 bytes u) in
    IsCharBoundary-from_take bytes n u (boundary-le Encoding.Utf8 bytes n b) (IsUtf8-IsWellFormed (take n bytes) parts.0)

pub boundary-IsCharBoundary : (bytes : List ℕ) (n : ℕ) → IsUtf8 bytes → IsCharBoundary bytes n → IsBoundary first_of_utf8 bytes n
boundary-IsCharBoundary bytes n u c = boundary-well_formed Encoding.Utf8 bytes n c.0 (IsWellFormed-IsUtf8 (take n bytes) (IsUtf8-take bytes n u c))

-- the bytes from one on that can't trail are well-formed
pub well_formed-at : (text : List ℕ) (n : ℕ) → IsUtf8 text → n < length text → allows continuation (get_or (drop n text) 0 0) ≡ false → IsWellFormed first_of_utf8 (drop n text)
well_formed-at text n u h lead =
    let here : get_or text n 0 ≡ get_or (drop n text) 0 0 = ap (λ i. get_or text i 0) (omega arith) ∙ sym (get_or-drop n text 0 0) in
    let apart = boundary-at Encoding.Utf8 text n h (ap (allows continuation) here ∙ lead) in
    (well_formed-parts Encoding.Utf8 text n apart (IsWellFormed-IsUtf8 text u)).1
