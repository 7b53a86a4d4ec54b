-- What is written of a reply to a source.
use Rattle.std.specs.Prelude.{◌≡◌, ℕ, Bool, true, false, List, Option, Result, IfOk, IfErr, IfSome, MatchBool}
use Rattle.std.specs.Io.KnownBytes.{Appends}
use Rattle.normalizer_io.specs.Transfer.{AppendsFront}
use Rattle.normalizer_command.specs.Replies.{IsReply}
use Rattle.normalizer_command.specs.Works.{Work, OfForm, OfMapper}
use Rattle.normalizer_command.specs.declared.command.Listing.TheVariants.{Places}
use Rattle.normalizer_command.specs.declared.command.MapperTask.TheVariants.{Map, Validate}
use Rattle.normalizer_command.specs.declared.command.Task.TheVariants.{Write, Compare}
use Rattle.normalizer_command.specs.declared.fault.Fault.{Fault}
use Rattle.normalizer_command.specs.declared.fault.Fault.TheVariants as fault
use Rattle.normalizer_command.specs.declared.reply.Answer.{Answer}

-- the work has this reply to all the bytes of a source, if it reports them
pub record Replies (w : Work) (name : List ℕ) (bytes : Option (List ℕ)) (answer : Answer) (output : List ℕ)
    : Type 0 where
  pub input : List ℕ
  pub whole : IfSome bytes (λ all. input ≡ all)
  pub reply : IsReply w name input answer output

-- the whole reply is written
abbrev pub IsWritten : Work → (name : List ℕ) → (bytes before after : Option (List ℕ)) → Answer → Type 0
IsWritten w name bytes before after answer =
    (output : List ℕ) × Replies w name bytes answer output × Appends before after output

-- a prefix of the reply is written
abbrev pub IsCutOff : Work → (name : List ℕ) → (bytes before after : Option (List ℕ)) → Type 0
IsCutOff w name bytes before after =
    (answer : Answer) × (output : List ℕ) × Replies w name bytes answer output × AppendsFront before after output

-- what comes of a file is known before anything is written; forms, mapped lines and places of lines are written while it
-- is read
abbrev pub is_known_first : Work → Bool
is_known_first (OfForm Write mode m) = false
is_known_first (OfForm (Compare l) mode m) = true
is_known_first (OfMapper Map mode m) = false
is_known_first (OfMapper (Validate Places) mode m) = false
is_known_first (OfMapper (Validate l) mode m) = true

-- nothing is written of work that fails so
abbrev pub is_unwritten_by : (known_first : Bool) → Fault → Bool
is_unwritten_by known_first (fault.Open kind) = true
is_unwritten_by known_first fault.Write = false
is_unwritten_by known_first f = known_first

-- What comes of a file whose bytes these are, if they are known, by those that the output took before and after: the whole
-- reply is written; or it fails for a reason, and nothing is written, or a prefix of the reply.
pub record IsOutcome (w : Work) (name : List ℕ) (bytes before after : Option (List ℕ)) (Why : Fault → Type 0)
    (Unwritten : Type 0) (outcome : Result Answer Fault) : Type 0 where
  pub done : IfOk outcome (IsWritten w name bytes before after)
  pub why : IfErr outcome Why
  pub left : IfErr outcome (λ f. MatchBool (is_unwritten_by (is_known_first w) f) Unwritten
      (IsCutOff w name bytes before after))
