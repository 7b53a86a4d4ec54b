-- The rule of each encoding is a rule of decoding.
use Rattle.normalizer_text.specs.Encodings.{Encoding}
use Rattle.normalizer_text.proofs.rules.Decoding.{IsDecoding, HasTrails}
use Rattle.normalizer_text.proofs.rules.Utf8Lemmas.{IsDecoding-utf8, HasTrails-utf8}
use Rattle.normalizer_text.proofs.rules.Utf16Lemmas.{IsDecoding-utf16, HasTrails-utf16}

pub IsDecoding-first : (e : Encoding) → IsDecoding e
IsDecoding-first Encoding.Utf8 = IsDecoding-utf8
IsDecoding-first Encoding.Utf16 = IsDecoding-utf16

pub HasTrails-first : (e : Encoding) → HasTrails e
HasTrails-first Encoding.Utf8 = HasTrails-utf8
HasTrails-first Encoding.Utf16 = HasTrails-utf16
