-- The reply of the mapper, by mappings that make the same.
use Rattle.std.proofs.Common.{◌≡◌, ◌≢◌, ℕ, Bool, true, false, List, [], ◌∷◌, Option, Some, None, length, arith, refl, sym, ap, ◌∙◌}
use Rattle.std.proofs.Math.Seq.{take-nil}
use Rattle.std.specs.Prelude.{is_some, if◌then◌else◌, take, IfSome}
use Rattle.std.specs.Option.{option_to_list}
use Rattle.icu_normalizer.specs.Uts46.{MapperData}
use Rattle.normalizer_io.specs.Transfer.{AppendsFront}
use Rattle.normalizer_streams.specs.declared.ill_formed.Ending.{Ending}
use Rattle.normalizer_streams.specs.declared.ill_formed.ErrorMode.{ErrorMode}
use Rattle.normalizer_streams.specs.declared.lines.Replied.{Replied}
use Rattle.normalizer_streams.specs.IllFormed.{decoded, Ends}
use Rattle.normalizer_streams.specs.Replies.{is_nothing, IsReplyWritten}
use Rattle.normalizer_streams.specs.Streams.{IsFormCutOff}
use Rattle.normalizer_command.specs.declared.command.Listing.{Listing}
use Rattle.normalizer_command.specs.declared.command.Listing.TheVariants.{Places, Names, Nothing}
use Rattle.normalizer_command.specs.declared.command.MapperTask.{MapperTask}
use Rattle.normalizer_command.specs.declared.command.MapperTask.TheVariants.{Map, Validate}
use Rattle.normalizer_command.specs.declared.reply.Answer.{Answer}
use Rattle.normalizer_command.specs.declared.reply.Answer.TheVariants.{No}
use Rattle.normalizer_command.specs.Lines.{invalid_lines, lines_of}
use Rattle.normalizer_command.specs.Listings.{listed}
use Rattle.normalizer_command.specs.Making.{Mapping, Maps, mapping_of}
use Rattle.normalizer_command.specs.Replies.{lines_answered, lines_written, validity}
use Rattle.normalizer_command.specs.Works.{OfMapper}
use Rattle.normalizer_command.specs.Written.{is_known_first, IsCutOff, IsWritten, Replies}
use Rattle.normalizer_command.specs.inner.EachLine.{number_before, replies_to, reply_after}
use Rattle.normalizer_command.specs.inner.Known.{lines_answered_by}
use Rattle.normalizer_command.proofs.LineLemmas.{invalid_lines-by, mapped_lines-by, map-replies, validate-replies}

-- what is written of the lines of a text after others
pub replies-after : (task : MapperTask) (h : MapperData) (name : List ℕ) (n : ℕ) (text : List ℕ)
    → replies_to task (mapping_of h) name (number_before task n) (lines_of text) ≡ reply_after task h name n text
replies-after Map h name n text = map-replies (mapping_of h) name (lines_of text)
replies-after (Validate l) h name n text = validate-replies (mapping_of h) name l n (lines_of text)

-- something is never nothing
nothing-or : (xs : List ℕ) → (if is_nothing xs then [] else xs) ≡ xs
nothing-or [] = refl
nothing-or (x ∷ xs) = refl

not-places : (l : Listing) → l ≢ Places → (invalid name : List ℕ) → listed l name invalid ≡ listed l name []
not-places Places other invalid name = absurd (other refl)
not-places (Names end) other invalid name = refl
not-places Nothing other invalid name = refl

no-invalid : (l : Listing) → l ≢ Places → (end : Ending) → validity l false end ≡ No
no-invalid Places other end = absurd (other refl)
no-invalid (Names e) other end = refl
no-invalid Nothing other end = refl

-- a reply by the lines of a text
replies-of : (task : MapperTask) (mode : ErrorMode) (m : Mapping) (name : List ℕ) (left : Option (List ℕ)) (input text : List ℕ) (ending : Ending) (answer : Answer) (output : List ℕ)
    → IfSome left (λ all. input ≡ all) → Ends mode input text ending → output ≡ lines_written task m name (lines_of (decoded text))
    → answer ≡ lines_answered task m name (lines_of (decoded text)) ending → Replies (OfMapper task mode m) name left answer output
replies-of task mode m name left input text ending answer output whole ends written answered =
    record { input = input; whole = whole; reply = record { text = text; ending = ending; ends = ends; written = written; answered = answered } }

module _ (task : MapperTask) (mode : ErrorMode) (h : MapperData) (m : Mapping) (maps : Maps h m) (name : List ℕ) (left : Option (List ℕ)) where
  -- what is written of each line is what is to be, while a source is read
  written-by : (known : is_known_first (OfMapper task mode m) ≡ false) (text : List ℕ) → reply_after task h name 0 text ≡ lines_written task m name (lines_of text)
  written-by known text = by task known
    where
      by : (task : MapperTask) → is_known_first (OfMapper task mode m) ≡ false → reply_after task h name 0 text ≡ lines_written task m name (lines_of text)
      by Map known = mapped_lines-by h m maps (lines_of text)
      by (Validate Places) known = invalid_lines-by h m maps name 1 (lines_of text) ∙ sym (nothing-or (invalid_lines m name 1 (lines_of text)))
      by (Validate (Names end)) known = cc
      by (Validate Nothing) known = cc

  answered-by : (text : List ℕ) (is_silent : Bool) (end : Ending) → is_silent ≡ is_nothing (reply_after task h name 0 text) → lines_answered_by task is_silent end ≡ lines_answered task m name (lines_of text) end
  answered-by text is_silent end silent = by task silent
    where
      by : (task : MapperTask) → is_silent ≡ is_nothing (reply_after task h name 0 text) → lines_answered_by task is_silent end ≡ lines_answered task m name (lines_of text) end
      by Map silent = refl
      by (Validate l) silent = ap (λ b. validity l b end) (silent ∙ ap is_nothing (invalid_lines-by h m maps name 1 (lines_of text)))

  module _ (known : is_known_first (OfMapper task mode m) ≡ false) (t u : Option (List ℕ)) where
    pub lines_are_written : (replied : Replied) (answer : Answer) → IsReplyWritten mode (λ bytes. reply_after task h name 0 (decoded bytes)) left t u replied
        → answer ≡ lines_answered_by task replied.is_silent replied.ending → IsWritten (OfMapper task mode m) name left t u answer
    lines_are_written replied answer r answers = (
      reply_after task h name 0 (decoded r.text),
      replies-of task mode m name left r.input r.text replied.ending answer _ r.whole r.ends (written-by known (decoded r.text))
          (answers ∙ answered-by (decoded r.text) replied.is_silent replied.ending r.silent),
      r.output,
    )

    pub lines_are_cut : IsFormCutOff mode (λ bytes. reply_after task h name 0 (decoded bytes)) left t u → IsCutOff (OfMapper task mode m) name left t u
    lines_are_cut r = (
      lines_answered task m name (lines_of (decoded r.text)) r.ending,
      reply_after task h name 0 (decoded r.text),
      replies-of task mode m name left r.input r.text r.ending _ _ r.whole r.ends (written-by known (decoded r.text)) refl,
      r.output,
    )

-- ---- lines that are validated up to the first that isn't valid

-- a byte is written of something
some-byte : (byte : Option ℕ) → is_some byte ≡ true → (xs : List ℕ) → AppendsFront (Some []) (Some (option_to_list byte)) xs → is_nothing xs ≡ false
some-byte None is xs front = cc
some-byte (Some b) is [] front = let h : b ∷ [] ≡ take front.0 [] = front.1 in let e : length (b ∷ []) ≡ 0 = ap length h ∙ ap length (take-nil front.0) in absurd (omega (arith, e))
some-byte (Some b) is (x ∷ xs) front = refl

module _ (l : Listing) (other : l ≢ Places) (mode : ErrorMode) (h : MapperData) (m : Mapping) (maps : Maps h m) (name : List ℕ) (left : Option (List ℕ)) where
  silent-by : (text : List ℕ) (b : Bool) → b ≡ is_nothing (reply_after (Validate l) h name 0 text) → b ≡ is_nothing (invalid_lines m name 1 (lines_of text))
  silent-by text b silent = silent ∙ ap is_nothing (invalid_lines-by h m maps name 1 (lines_of text))

  -- a text whose lines are all valid, or aren't
  pub validated : (t u : Option (List ℕ)) (replied : Replied) → IsReplyWritten mode (λ bytes. reply_after (Validate l) h name 0 (decoded bytes)) left t u replied
      → (answer : Answer) (output : List ℕ) → answer ≡ validity l replied.is_silent replied.ending → output ≡ (if replied.is_silent then [] else listed l name [])
      → Replies (OfMapper (Validate l) mode m) name left answer output
  validated t u replied r answer output answers outputs =
      let silent = silent-by (decoded r.text) replied.is_silent r.silent in
      let invalid = invalid_lines m name 1 (lines_of (decoded r.text)) in
      replies-of (Validate l) mode m name left r.input r.text replied.ending answer output r.whole r.ends
      (outputs ∙ ap (λ b. if b then [] else listed l name []) silent ∙ ap (λ x. if is_nothing invalid then [] else x) (sym (not-places l other invalid name)))
      (answers ∙ ap (λ b. validity l b replied.ending) silent)

  -- a line isn't valid
  pub invalidated : (byte : Option ℕ) → is_some byte ≡ true → IsFormCutOff mode (λ bytes. reply_after (Validate l) h name 0 (decoded bytes)) left (Some []) (Some (option_to_list byte))
      → (output : List ℕ) → output ≡ listed l name [] → Replies (OfMapper (Validate l) mode m) name left No output
  invalidated byte some r output outputs =
      let silent = silent-by (decoded r.text) false (sym (some-byte byte some (reply_after (Validate l) h name 0 (decoded r.text)) r.output)) in
      let invalid = invalid_lines m name 1 (lines_of (decoded r.text)) in
      replies-of (Validate l) mode m name left r.input r.text r.ending No output r.whole r.ends
      (outputs ∙ sym (not-places l other invalid name) ∙ ap (λ b. if b then [] else listed l name invalid) silent)
      (sym (no-invalid l other r.ending) ∙ ap (λ b. validity l b r.ending) silent)
