-- What becomes of a reply to a stream.
use Rattle.std.specs.Prelude.{◌≡◌, ℕ, ◌==◌, Bool, true, false, List, [], ◌∷◌, count_by, Option, IfSome}
use Rattle.std.specs.Io.KnownBytes.{Appends}
use Rattle.normalizer_streams.specs.IllFormed.{Ends}
use Rattle.normalizer_streams.specs.declared.ill_formed.ErrorMode.{ErrorMode}
use Rattle.normalizer_streams.specs.declared.lines.Replied.{Replied}

-- there are no bytes
abbrev pub is_nothing : List ℕ → Bool
is_nothing [] = true
is_nothing (b ∷ bytes) = false

-- how many lines a text ends
abbrev pub feeds : List ℕ → ℕ
feeds text = count_by (λ c. c == 0x0A) text

-- By the bytes that are left in a source, if it reports them, and by those that a target took before and after: the
-- target took the reply to the text that is read of them.
pub record IsReplyWritten (mode : ErrorMode) (reply : List ℕ → List ℕ)
    (left before after : Option (List ℕ)) (replied : Replied) : Type 0 where
  pub input : List ℕ
  pub whole : IfSome left (λ all. input ≡ all)
  pub text : List ℕ
  pub ends : Ends mode input text replied.ending
  pub output : Appends before after (reply text)
  pub silent : replied.is_silent ≡ is_nothing (reply text)
