-- The reply to the bytes of a file, and what is written.
use Rattle.std.specs.Prelude.{◌≡◌, ℕ, Bool, List, [], if◌then◌else◌}
use Rattle.icu_normalizer.specs.EncodedForm.{encoded_form}
use Rattle.icu_normalizer.specs.Encodings.{Encoding}
use Rattle.normalizer_streams.specs.IllFormed.{decoded, Ends}
use Rattle.normalizer_streams.specs.Mismatches.{Compares}
use Rattle.normalizer_streams.specs.Replies.{is_nothing}
use Rattle.normalizer_streams.specs.declared.ill_formed.Ending.{Ending}
use Rattle.normalizer_streams.specs.declared.ill_formed.Ending.TheVariants as ending
use Rattle.normalizer_streams.specs.declared.ill_formed.ErrorMode.{ErrorMode}
use Rattle.normalizer_streams.specs.declared.mismatch.Comparison.{Comparison}
use Rattle.normalizer_command.specs.Lines.{invalid_lines, lines_of, mapped_lines}
use Rattle.normalizer_command.specs.Listings.{listed}
use Rattle.normalizer_command.specs.Making.{Making, Mapping}
use Rattle.normalizer_command.specs.Mismatches.{TellsComparison}
use Rattle.normalizer_command.specs.Works.{Work, OfForm, OfMapper}
use Rattle.normalizer_command.specs.declared.command.Listing.{Listing}
use Rattle.normalizer_command.specs.declared.command.Listing.TheVariants.{Places}
use Rattle.normalizer_command.specs.declared.command.MapperTask.{MapperTask}
use Rattle.normalizer_command.specs.declared.command.MapperTask.TheVariants.{Map, Validate}
use Rattle.normalizer_command.specs.declared.command.Task.{Task}
use Rattle.normalizer_command.specs.declared.command.Task.TheVariants.{Write, Compare}
use Rattle.normalizer_command.specs.declared.reply.Answer.{Answer}
use Rattle.normalizer_command.specs.declared.reply.Answer.TheVariants.{Done, No, Ended}

-- The text of a file that is to be written in the form ends so. The output is the form of what is written of it.
pub record IsReplyOfWrite (mode : ErrorMode) (m : Making) (input : List ℕ) (end : Ending) (output : List ℕ) : Type 0 where
  pub text : List ℕ
  pub ends : Ends mode input text end
  pub form : output ≡ encoded_form Encoding.Utf8 m.reading m.form text

-- what is written of how the bytes compare with their form
pub record IsReplyOfComparison (l : Listing) (mode : ErrorMode) (m : Making) (name input : List ℕ) (answer : Answer)
    (output : List ℕ) : Type 0 where
  pub comparison : Comparison
  pub compares : Compares mode m.reading m.form input comparison
  pub told : TellsComparison l name comparison answer output

-- the form of what the bytes decode to; or what is listed of their first mismatch
abbrev pub IsReplyOfForm : Task → ErrorMode → Making → (name input : List ℕ) → Answer → (output : List ℕ) → Type 0
IsReplyOfForm Write mode m name input (Ended end) output = IsReplyOfWrite mode m input end output
IsReplyOfForm Write mode m name input other output = ⊥
IsReplyOfForm (Compare l) mode m name input answer output = IsReplyOfComparison l mode m name input answer output

-- how a text of valid lines ended
abbrev pub valid_to : Ending → Answer
valid_to (ending.Whole count) = Done
valid_to (ending.Stopped p) = Ended (ending.Stopped p)

-- what comes of lines that are validated: no, if one isn't valid. If places are listed, an ill-formed sequence comes
-- before that, where it is fatal
abbrev pub validity : Listing → (all_valid : Bool) → Ending → Answer
validity Places all_valid (ending.Stopped p) = Ended (ending.Stopped p)
validity l all_valid end = if all_valid then valid_to end else No

-- the lines, each mapped by itself; or what is listed of those that aren't valid
abbrev pub lines_written : MapperTask → Mapping → (name : List ℕ) → (lines : List (List ℕ)) → List ℕ
lines_written Map m name lines = mapped_lines m lines
lines_written (Validate l) m name lines =
    let invalid = invalid_lines m name 1 lines in if is_nothing invalid then [] else listed l name invalid

abbrev pub lines_answered : MapperTask → Mapping → (name : List ℕ) → (lines : List (List ℕ)) → Ending → Answer
lines_answered Map m name lines end = Ended end
lines_answered (Validate l) m name lines end = validity l (is_nothing (invalid_lines m name 1 lines)) end

-- by the lines of what the text of the bytes decodes to
pub record IsReplyOfMapper (task : MapperTask) (mode : ErrorMode) (m : Mapping) (name input : List ℕ) (answer : Answer)
    (output : List ℕ) : Type 0 where
  pub text : List ℕ
  pub ending : Ending
  pub ends : Ends mode input text ending
  pub written : output ≡ lines_written task m name (lines_of (decoded text))
  pub answered : answer ≡ lines_answered task m name (lines_of (decoded text)) ending

abbrev pub IsReply : Work → (name input : List ℕ) → Answer → (output : List ℕ) → Type 0
IsReply (OfForm task mode m) name input answer output = IsReplyOfForm task mode m name input answer output
IsReply (OfMapper task mode m) name input answer output = IsReplyOfMapper task mode m name input answer output
