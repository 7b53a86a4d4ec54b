-- What comes of a file, by how its reply is made and written.
use Rattle.std.proofs.Common.{◌≡◌, ◌⊎◌, inl, inr, ℕ, true, false, List, Option, Result, Ok, Err, IfOk, IfErr, ap, refl, subst, sym}
use Rattle.std.specs.Prelude.{IsErrAnd, IsErrOf, MatchBool}
use Rattle.icu_normalizer.specs.AnyNormalizers.{kind_by, reading_of}
use Rattle.icu_normalizer.specs.EncodedForm.{encoded_form}
use Rattle.icu_normalizer.specs.Encodings.{Encoding, decoded_in, encoded_in}
use Rattle.icu_normalizer.specs.Mappers.{mapper_data_of}
use Rattle.icu_normalizer.specs.declared.any_normalizer.AnyNormalizer.{AnyNormalizer}
use Rattle.icu_normalizer.specs.declared.uts46.Uts46Mapper.{Uts46Mapper}
use Rattle.normalizer_io.specs.Transfer.{IsUnrefused}
use Rattle.normalizer_io.specs.declared.outcome.TransferError.{TransferError}
use Rattle.normalizer_io.specs.declared.outcome.TransferError.TheVariants as transfer
use Rattle.normalizer_streams.specs.Mismatches.{IsComparison}
use Rattle.normalizer_streams.specs.Streams.{form_by, IsEndless, IsFormCutOff, IsFormWritten}
use Rattle.normalizer_streams.specs.declared.ill_formed.Ending.{Ending}
use Rattle.normalizer_streams.specs.declared.ill_formed.ErrorMode.{ErrorMode}
use Rattle.normalizer_streams.specs.declared.mismatch.Comparison.{Comparison}
use Rattle.normalizer_command.specs.FileFaults.{fault_of_transfer, IsTransferFault}
use Rattle.normalizer_command.specs.Making.{Makes, Making, Mapping, Maps}
use Rattle.normalizer_command.specs.Mismatches.{TellsComparison}
use Rattle.normalizer_command.specs.Works.{Does, OfForm, OfMapper, Work}
use Rattle.normalizer_command.specs.Written.{is_known_first, is_unwritten_by, IsCutOff, IsOutcome, IsWritten, Replies}
use Rattle.normalizer_command.specs.declared.command.Listing.{Listing}
use Rattle.normalizer_command.specs.declared.command.MapperTask.{MapperTask}
use Rattle.normalizer_command.specs.declared.command.Task.{Task}
use Rattle.normalizer_command.specs.declared.command.Task.TheVariants.{Write, Compare}
use Rattle.normalizer_command.specs.declared.fault.Fault.{Fault}
use Rattle.normalizer_command.specs.declared.fault.Fault.TheVariants as fault
use Rattle.normalizer_command.specs.declared.reply.Answer.{Answer}
use Rattle.normalizer_command.specs.declared.reply.Answer.TheVariants.{Ended}
use Rattle.normalizer_command.specs.declared.reply.Reply.{Reply}
use Rattle.normalizer_command.specs.declared.worker.Worker.{Worker}
use Rattle.normalizer_command.specs.declared.worker.Worker.TheVariants as worker
use Rattle.normalizer_command.specs.inner.Known.{IsKnownWritten}
use Rattle.normalizer_command.proofs.MismatchLemmas.{compares-by}

-- ---- why a transfer failed

pub failed-so : {S W X Y : Type 0} (left : S → Option (List ℕ)) (rr : S → S → Type 0) (wr : W → W → Type 0) (i i' : S) (v v' : W) (error : TransferError)
    → (IsErrOf (let r : Result X TransferError = Err error in r) transfer.Read → rr i i' ⊎ IsEndless (left i)) → (IsErrOf (let r : Result Y TransferError = Err error in r) transfer.Write → wr v v')
    → (¬ IsErrOf (let r : Result X TransferError = Err error in r) transfer.Read → IsUnrefused rr i i') → (¬ IsErrOf (let r : Result Y TransferError = Err error in r) transfer.Write → IsUnrefused wr v v')
    → IsTransferFault left rr wr (i, v) (i', v') (fault_of_transfer error)
failed-so left rr wr i i' v v' transfer.Read read write read_ahead ahead = read refl
failed-so left rr wr i i' v v' transfer.Write read write read_ahead ahead = write refl
failed-so left rr wr i i' v v' transfer.Memory read write read_ahead ahead = (inr (read_ahead (λ is. cc)), ahead (λ is. cc))

-- why there is no reply
pub known-so : {S W X : Type 0} (left : S → Option (List ℕ)) (rr : S → S → Type 0) (wr : W → W → Type 0) (i i' : S) (v v' : W) (reply : Result X TransferError)
    → IfErr reply (λ e. (e ≡ transfer.Read) ⊎ (e ≡ transfer.Memory)) → (IsErrOf reply transfer.Read → rr i i' ⊎ IsEndless (left i))
    → (¬ IsErrOf reply transfer.Read → IsUnrefused rr i i') → IsUnrefused wr v v' → IfErr reply (λ e. IsTransferFault left rr wr (i, v) (i', v') (fault_of_transfer e))
known-so left rr wr i i' v v' (Ok r) errors read ahead unrefused = tt
known-so left rr wr i i' v v' (Err transfer.Read) errors read ahead unrefused = read refl
known-so left rr wr i i' v v' (Err transfer.Memory) errors read ahead unrefused = (inr (ahead (λ is. cc)), unrefused)
known-so left rr wr i i' v v' (Err transfer.Write) errors read ahead unrefused = elim errors [ inl is ↦ cc | inr is ↦ cc ]

module _ (w : Work) (name : List ℕ) (bytes before after : Option (List ℕ)) (Why : Fault → Type 0) (Unwritten : Type 0) where
  -- for other reasons
  pub outcome-for : (Why' : Fault → Type 0) (r : Result Answer Fault) → ((f : Fault) → Why f → Why' f) → IsOutcome w name bytes before after Why Unwritten r
      → IsOutcome w name bytes before after Why' Unwritten r
  outcome-for Why' (Ok answer) other o = record { done = o.done; why = tt; left = tt }
  outcome-for Why' (Err f) other o = record { done = tt; why = other f o.why; left = o.left }

  -- ---- a reply that is written while a source is read

  cut-by : (error : TransferError) → IsCutOff w name bytes before after → MatchBool (is_unwritten_by false (fault_of_transfer error)) Unwritten (IsCutOff w name bytes before after)
  cut-by transfer.Read cut = cut
  cut-by transfer.Write cut = cut
  cut-by transfer.Memory cut = cut

  pub outcome-cut : (r : Result Answer Fault) (error : TransferError) → IsErrAnd r (λ f. f ≡ fault_of_transfer error) → is_known_first w ≡ false → Why (fault_of_transfer error)
      → IsCutOff w name bytes before after → IsOutcome w name bytes before after Why Unwritten r
  outcome-cut (Ok answer) error is later why cut = absurd is
  outcome-cut (Err f) error is later why cut = record {
    done = tt;
    why = subst Why (sym is) why;
    left = subst (λ f. MatchBool (is_unwritten_by (is_known_first w) f) Unwritten (IsCutOff w name bytes before after)) (sym is)
        (subst (λ b. MatchBool (is_unwritten_by b (fault_of_transfer error)) Unwritten (IsCutOff w name bytes before after)) (sym later) (cut-by error cut));
  }

  -- ---- a reply that is known before anything is written

  un-by : (error : TransferError) → (error ≡ transfer.Write → ⊥) → Unwritten → MatchBool (is_unwritten_by true (fault_of_transfer error)) Unwritten (IsCutOff w name bytes before after)
  un-by transfer.Read other un = un
  un-by transfer.Write other un = absurd (other refl)
  un-by transfer.Memory other un = un

  pub outcome-known : (known : is_known_first w ≡ true) (reply : Result Reply TransferError) → IfOk reply (λ r. Replies w name bytes r.answer r.output.items)
      → IfErr reply (λ e. (e ≡ transfer.Read) ⊎ (e ≡ transfer.Memory)) → (Refused Unrefused : Type 0) → (Refused → Why fault.Write)
      → (Unrefused → IfErr reply (λ e. Why (fault_of_transfer e)))
      → (outcome : Result Answer Fault) → IsKnownWritten reply before after Refused Unrefused Unwritten outcome → IsOutcome w name bytes before after Why Unwritten outcome
  outcome-known known (Ok r) replies errors Refused Unrefused write other (Ok answer) is = record {
    done = subst (IsWritten w name bytes before after) (sym is.0) (r.output.items, replies, is.1);
    why = tt;
    left = tt;
  }
  outcome-known known (Ok r) replies errors Refused Unrefused write other (Err f) is = record {
    done = tt;
    why = subst Why (sym is.0) (write is.2);
    left = subst (λ f. MatchBool (is_unwritten_by (is_known_first w) f) Unwritten (IsCutOff w name bytes before after)) (sym is.0) (r.answer, r.output.items, replies, is.1);
  }
  outcome-known known (Err e) replies errors Refused Unrefused write other outcome is = subst (IsOutcome w name bytes before after Why Unwritten) (sym is.0) (record {
    done = tt;
    why = other is.1;
    left = subst (λ b. MatchBool (is_unwritten_by b (fault_of_transfer e)) Unwritten (IsCutOff w name bytes before after)) (sym known)
        (un-by e (λ write. no-write e errors write) is.2);
  })
    where
      no-write : (e : TransferError) → (e ≡ transfer.Read) ⊎ (e ≡ transfer.Memory) → e ≡ transfer.Write → ⊥
      no-write transfer.Read why write = cc
      no-write transfer.Memory why write = cc
      no-write transfer.Write why write = elim why [ inl read ↦ cc | inr memory ↦ cc ]

-- ---- forms

module _ (mode : ErrorMode) (n : AnyNormalizer) (m : Making) (makes : Makes n m) (name : List ℕ) (left : Option (List ℕ)) where
  pub replies_compared : (l : Listing) (c : Comparison) → IsComparison mode (reading_of n) (kind_by n) left c → (answer : Answer) (output : List ℕ)
      → TellsComparison l name c answer output → Replies (OfForm (Compare l) mode m) name left answer output
  replies_compared l c x answer output told = record {
    input = x.input;
    whole = x.whole;
    reply = record { comparison = c; compares = compares-by mode (reading_of n) m.reading (kind_by n) m.form makes.same x.input c x.compares; told = told };
  }

  same_form : (text : List ℕ) → form_by n text ≡ encoded_form Encoding.Utf8 m.reading m.form text
  same_form text = ap (encoded_in Encoding.Utf8) (makes.same (decoded_in Encoding.Utf8 text))

  module _ (before after : Option (List ℕ)) where
    pub form_cut : IsFormCutOff mode (form_by n) left before after → IsCutOff (OfForm Write mode m) name left before after
    form_cut f = (
      Ended f.ending,
      form_by n f.text,
      record { input = f.input; whole = f.whole; reply = record { text = f.text; ends = f.ends; form = same_form f.text } },
      f.output,
    )

-- ---- workers

-- what holds for each form or mapping that a worker may be of holds for its work
pub work_of_form : (task : Task) (mode : ErrorMode) (n : AnyNormalizer) (self : Worker) → self ≡ worker.OfForm task mode n → (P : Work → Type 0)
    → ((m : Making) → Makes n m → P (OfForm task mode m)) → (w : Work) → Does self w → P w
work_of_form task mode n self is P each (OfForm task' mode' m) does =
    let same : Does (worker.OfForm task mode n) (OfForm task' mode' m) = subst (λ x. Does x (OfForm task' mode' m)) is does in
    subst (λ x. P (OfForm x mode' m)) same.0 (subst (λ x. P (OfForm task x m)) same.1 (each m same.2))
work_of_form task mode n self is P each (OfMapper task' mode' m) does =
    let never : Does (worker.OfForm task mode n) (OfMapper task' mode' m) = subst (λ x. Does x (OfMapper task' mode' m)) is does in absurd never

pub work_of_mapper : (task : MapperTask) (mode : ErrorMode) (n : Uts46Mapper) (self : Worker) → self ≡ worker.OfMapper task mode n → (P : Work → Type 0)
    → ((m : Mapping) → Maps (mapper_data_of n) m → P (OfMapper task mode m)) → (w : Work) → Does self w → P w
work_of_mapper task mode n self is P each (OfMapper task' mode' m) does =
    let same : Does (worker.OfMapper task mode n) (OfMapper task' mode' m) = subst (λ x. Does x (OfMapper task' mode' m)) is does in
    subst (λ x. P (OfMapper x mode' m)) same.0 (subst (λ x. P (OfMapper task x m)) same.1 (each m same.2))
work_of_mapper task mode n self is P each (OfForm task' mode' m) does =
    let never : Does (worker.OfMapper task mode n) (OfForm task' mode' m) = subst (λ x. Does x (OfForm task' mode' m)) is does in absurd never
