-- The reply to the lines of a text that comes after others: nothing is replied to nothing, and after a line feed the
-- reply may be divided.
use Rattle.std.specs.Prelude.{◌≡◌, ℕ, ◌+◌, List, [], ◌∷◌, ◌++◌, encode_utf8_all, map}
use Rattle.std.specs.List.{join_with_byte}
use Rattle.std.proofs.Common.{ap, refl, ◌∙◌}
use Rattle.icu_normalizer.specs.Form.TheVariants.{Composing}
use Rattle.icu_normalizer.specs.NormalForms.{nfc, normal_form}
use Rattle.icu_normalizer.specs.Encodings.{Encoding}
use Rattle.icu_normalizer.specs.Mapping.{is_valid_by}
use Rattle.icu_normalizer.specs.Reading.{Reading}
use Rattle.icu_normalizer.specs.Uts46.{MapperData}
use Rattle.icu_normalizer.proofs.EncodingLemmas.{encoded_in-append}
use Rattle.icu_normalizer.proofs.passthrough.PassthroughLemmas.{normal_form-nil}
use Rattle.normalizer_streams.specs.Replies.{feeds}
use Rattle.normalizer_streams.proofs.LineLists.{joined-divided, numbered-divided}
use Rattle.normalizer_command.specs.declared.command.MapperTask.{MapperTask}
use Rattle.normalizer_command.specs.declared.command.MapperTask.TheVariants.{Map, Validate}
use Rattle.normalizer_command.specs.Lines.{invalid_lines, lines_of, told_unless}
use Rattle.normalizer_command.specs.Making.{mapping_of}
use Rattle.normalizer_command.specs.inner.EachLine.{reply_after}

nfc-nil : (d : Reading) → nfc d [] ≡ []
unfolding normal_form
nfc-nil d = normal_form-nil d Composing Composing

pub encoded-append : (x y : List ℕ) → encode_utf8_all (x ++ y) ≡ encode_utf8_all x ++ encode_utf8_all y
encoded-append x y = encoded_in-append Encoding.Utf8 x y

module _ (h : MapperData) where
  map-nil : (mapping_of h).map [] ≡ []
  map-nil = nfc-nil _

  told-nil : (name : List ℕ) (k : ℕ) → told_unless (is_valid_by (mapping_of h).validate []) name k ≡ []
  told-nil name k = ap (λ x. told_unless (is_valid_by (λ t. x) []) name k) (nfc-nil _)

  pub silent_reply : (task : MapperTask) (name : List ℕ) (n : ℕ)
      → reply_after task h name n [] ≡ []
  silent_reply Map name n = ap encode_utf8_all map-nil
  silent_reply (Validate l) name n = ap (λ x. x ++ []) (told-nil name (n + 1))

  pub divided_reply : (task : MapperTask) (name : List ℕ) (n : ℕ) (front rest : List ℕ)
      → reply_after task h name n ((front ++ 0x0A ∷ []) ++ rest)
      ≡ reply_after task h name n (front ++ 0x0A ∷ [])
      ++ reply_after task h name (n + feeds (front ++ 0x0A ∷ [])) rest
  divided_reply Map name n front rest =
      ap encode_utf8_all (joined-divided front rest (mapping_of h).map map-nil)
      ∙ encoded-append (join_with_byte 0x0A (map (mapping_of h).map (lines_of (front ++ 0x0A ∷ []))))
      (join_with_byte 0x0A (map (mapping_of h).map (lines_of rest)))
  divided_reply (Validate l) name n front rest =
      numbered-divided front rest (invalid_lines (mapping_of h) name)
      (λ k line. told_unless (is_valid_by (mapping_of h).validate line) name k)
      (λ k. refl) (λ k line lines. refl) (told-nil name) n
