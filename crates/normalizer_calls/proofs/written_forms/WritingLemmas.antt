-- Writing the characters of an iterator.
use Rattle.std.proofs.Common.{◌≡◌, ℕ, List, [], ◌∷◌, ◌++◌, Option, Some, None, Result, Ok, Err, append_assoc, append-nil, refl, ap, sym, subst, ◌∙◌, arith, inl}
use Rattle.std.proofs.lemmas.Result.{IfOk-weaker}
use Rattle.std.specs.Prelude.{⊤, OnErr, IsErrOf}
use Rattle.normal_forms.specs.ShortRuns.{HasShortRuns}
use Rattle.normalizer_text.specs.declared.sink.SinkError.{SinkError}
use Rattle.normalizer_text.specs.Encodings.{Encoding, encoded_in}
use Rattle.normalizer_text.specs.Outputs.{AnswersHint, AnswersUnits}
use Rattle.normalizer_text.specs.Sinks.{TakesNothing}
use Rattle.normalizer_text.proofs.rules.EncodingLemmas.{encoded_in-append, encoded_in-nil}
use Rattle.normalizer_iterators.specs.declared.error.NormalizeError.{NormalizeError}
use Rattle.normalizer_iterators.specs.declared.error.NormalizeError.TheVariants.{Memory, Sink}
use Rattle.normalizer_iterators.specs.Items.{SpellsOk, SpellsUnless}
use Rattle.normalizer_iterators.proofs.items.ItemLemmas.{SpellsOk-next, SpellsOk-no_fault, SpellsUnless-end, SpellsUnless-fault, SpellsUnless-next}
use Rattle.normalizer_calls.specs.Forms.{MadeForm, form_of}
use Rattle.normalizer_calls.specs.Writing.{TellsLengthFirst, TookBeginning, WritesForm}
use Rattle.normalizer_calls.specs.inner.WrittenParts.{Target, WritesText}

module _ {S U : Type 0} (into : Target S U) where
  -- the result of writing some units to the output
  abbrev pub Answered : S → List ℕ → Result ⊤ SinkError → S → Type 0
  Answered = AnswersUnits into.text_taken into.refusal into.refusal_effect into.refuses

  -- the result of announcing an input to it
  abbrev pub AnsweredHint : S → ℕ → Result ⊤ SinkError → S → Type 0
  AnsweredHint = AnswersHint into.text_taken into.refusal into.refusal_effect into.refuses into.length_hint

-- nothing was written
abbrev pub TookBeginning-nothing : {S : Type 0} (e : Encoding) (taken : S → List ℕ) (text : List ℕ) (s : S) → TookBeginning e taken text s s
TookBeginning-nothing e taken text s = record { front = []; rest = text; parts = refl; took = sym (append-nil (taken s)) ∙ ap (λ units. taken s ++ units) (sym (encoded_in-nil e)) }

-- a beginning was written of what an iterator yields from `start`, and it has come to `items`
pub record WroteSoFar {S U I : Type 0} (e : Encoding) (into : Target S U) (gives : I → Option (Result ℕ NormalizeError) → I → Type 0)
    (start : I) (old : S) (items : I) (now : S) : Type 0 where
  pub text : (x : List ℕ) → SpellsUnless gives Memory start x → (b : TookBeginning e into.text_taken x old now) × SpellsUnless gives Memory items b.rest
  pub ahead : (later : S) → into.refusal now later → into.refusal old later
  pub room : (x : List ℕ) → SpellsOk gives start x → (rest : List ℕ) × SpellsOk gives items rest

module _ {S U I : Type 0} {e : Encoding} {into : Target S U} {gives : I → Option (Result ℕ NormalizeError) → I → Type 0} where
  pub WroteSoFar-none : {start : I} {old : S} → WroteSoFar e into gives start old start old
  WroteSoFar-none {old = old} = record {
    text = λ x h. (TookBeginning-nothing e into.text_taken x old, h);
    ahead = λ later h. h;
    room = λ x h. (x, h);
  }

  module _ {start : I} {old : S} {items next : I} {now new : S} (before : WroteSoFar e into gives start old items now) where
    -- one more character was written
    pub WroteSoFar-more : {c : ℕ} → gives items (Some (Ok c)) next → Answered into now (encoded_in e (c ∷ [])) (Ok tt) new
        → WroteSoFar e into gives start old next new
    WroteSoFar-more {c = c} step answer = record {
      text = λ x h.
          let so_far = before.text x h in
          let b = so_far.0 in
          let came = SpellsUnless-next gives Memory items next c b.rest step so_far.1 in (
            record {
              front = b.front ++ c ∷ [];
              rest = came.0;
              parts = b.parts ∙ ap (λ y. b.front ++ y) came.1 ∙ sym (append_assoc b.front (c ∷ []) came.0);
              took = answer.written.appends
                  ∙ ap (λ units. units ++ encoded_in e (c ∷ [])) b.took
                  ∙ append_assoc (into.text_taken old) (encoded_in e b.front) (encoded_in e (c ∷ []))
                  ∙ ap (λ units. into.text_taken old ++ units) (sym (encoded_in-append e b.front (c ∷ [])));
            },
            came.2,
          );
      ahead = λ later h. before.ahead later (answer.written.ahead later h);
      room = λ x h. let so_far = before.room x h in let came = SpellsOk-next gives items next c so_far.0 step so_far.1 in (came.0, came.2);
    }

    -- a character was refused
    pub WritesText-refused : {offered : List ℕ → List ℕ → Type 0} {c : ℕ} {refusal : SinkError} → gives items (Some (Ok c)) next
        → Answered into now (encoded_in e (c ∷ [])) (Err refusal) new
        → {x : List ℕ} → SpellsUnless gives Memory start x → WritesText e into offered x old (Err Sink) new
    WritesText-refused {c = c} step answer {x = x} h =
        let so_far = before.text x h in
        let came = SpellsUnless-next gives Memory items next c so_far.0.rest step so_far.1 in record {
          written = tt;
          ahead = tt;
          fault = λ _. before.ahead new answer.written.fault;
          refusal = λ _. record {
            before = now;
            beginning = so_far.0;
            piece = c ∷ [];
            kind = inl (omega arith);
            rest = came.0;
            goes_on = came.1;
            known = answer.known;
            leaves = answer.written.leaves;
          };
          begun = λ k. absurd (cc);
        }

  module _ {start : I} {old : S} {items next : I} {now : S} (before : WroteSoFar e into gives start old items now) where
    -- the iterator yielded an error
    pub WritesText-fault : {offered : List ℕ → List ℕ → Type 0} {fault : NormalizeError} → gives items (Some (Err fault)) next → {x : List ℕ}
        → SpellsUnless gives Memory start x → WritesText e into offered x old (Err fault) now
    WritesText-fault {fault = fault} step {x = x} h =
        let so_far = before.text x h in
        let memory = (SpellsUnless-fault gives Memory items next fault so_far.0.rest step so_far.1).0 in
        record { written = tt; ahead = tt; fault = λ k. absurd (cc); refusal = λ k. absurd (cc); begun = λ _. so_far.0 }

    -- which it never does if each item is `Ok`
    pub WroteSoFar-room : {fault : NormalizeError} → gives items (Some (Err fault)) next → (x : List ℕ) → SpellsOk gives start x → ⊥
    WroteSoFar-room {fault = fault} step x h = let so_far = before.room x h in SpellsOk-no_fault gives items next fault so_far.0 step so_far.1

    -- no character was left
    pub WritesText-all : {offered : List ℕ → List ℕ → Type 0} → gives items None next → {x : List ℕ} → SpellsUnless gives Memory start x
        → WritesText e into offered x old (Ok tt) now
    WritesText-all step {x = x} h =
        let so_far = before.text x h in
        let b = so_far.0 in
        let ended = (SpellsUnless-end gives Memory items next b.rest step so_far.1).0 in record {
          written = b.took ∙ ap (λ y. into.text_taken old ++ encoded_in e y) (sym (b.parts ∙ ap (λ y. b.front ++ y) ended ∙ append-nil b.front));
          ahead = before.ahead;
          fault = λ k. absurd (cc);
          refusal = λ k. absurd (cc);
          begun = λ k. absurd (cc);
        }

-- the same text was written
pub WritesText-same : {S U : Type 0} {offered : List ℕ → List ℕ → Type 0} {e : Encoding} {into : Target S U} {x y : List ℕ} {old new : S} {answer : Result ⊤ NormalizeError}
    → x ≡ y → WritesText e into offered x old answer new → WritesText e into offered y old answer new
WritesText-same {offered = offered} {e = e} {into = into} {old = old} {new = new} {answer = answer} same h = subst (λ z. WritesText e into offered z old answer new) same h

-- what comes after a hint
module _ {S U : Type 0} (e : Encoding) (into : Target S U) {old : S} {n : ℕ} where
  -- if it was refused, nothing was written
  pub WritesText-untold : {offered : List ℕ → List ℕ → Type 0} {refusal : SinkError} {new : S} → AnsweredHint into old n (Err refusal) new
      → {text : List ℕ} → WritesText e into offered text old (Err Sink) new
  WritesText-untold told {text = text} =
      let nothing = encoded_in-nil e in record {
        written = tt;
        ahead = tt;
        fault = λ _. told.units.written.fault;
        refusal = λ _. record {
          before = old;
          beginning = TookBeginning-nothing e into.text_taken text old;
          piece = [];
          kind = inl (omega arith);
          rest = text;
          goes_on = refl;
          known = subst (into.refuses old) (sym nothing) told.units.known;
          leaves = told.units.written.leaves;
        };
        begun = λ k. absurd (cc);
      }

  pub TellsLengthFirst-untold : {len : ℕ} → n ≡ len → {refusal : SinkError} {new : S} → AnsweredHint into old n (Err refusal) new
      → TellsLengthFirst into.text_taken into.length_hint len old (Err Sink) new
  TellsLengthFirst-untold is {refusal = refusal} {new = new} told = record { hint = Err refusal; state = new; first = subst (λ k. into.length_hint old k (Err refusal) new) is told.hint; stops = (refl, refl, told.none) }

  -- if it was taken, the rest is as if nothing had come before
  module _ {mid : S} (told : AnsweredHint into old n (Ok tt) mid) where
    TookBeginning-told : (text : List ℕ) (to : S) → TookBeginning e into.text_taken text mid to → TookBeginning e into.text_taken text old to
    TookBeginning-told text to b = record { front = b.front; rest = b.rest; parts = b.parts; took = b.took ∙ ap (λ units. units ++ encoded_in e b.front) told.none }

    module _ {answer : Result ⊤ NormalizeError} {new : S} where
      pub WritesText-told : {offered : List ℕ → List ℕ → Type 0} {text : List ℕ} → WritesText e into offered text mid answer new
          → WritesText e into offered text old answer new
      unfolding TookBeginning-told
      WritesText-told {text = text} h = record {
        written = IfOk-weaker answer _ _ (λ _ w. w ∙ ap (λ units. units ++ encoded_in e text) told.none) h.written;
        ahead = IfOk-weaker answer _ _ (λ _ ahead later r. told.units.written.ahead later (ahead later r)) h.ahead;
        fault = λ is. told.units.written.ahead new (h.fault is);
        refusal = λ is. let r = h.refusal is in
            record {
              before = r.before;
              beginning = TookBeginning-told text r.before r.beginning;
              piece = r.piece;
              kind = r.kind;
              rest = r.rest;
              goes_on = r.goes_on;
              known = r.known;
              leaves = r.leaves;
            };
        begun = λ is. TookBeginning-told text new (h.begun is);
      }

      pub TellsLengthFirst-told : {len : ℕ} → n ≡ len → TellsLengthFirst into.text_taken into.length_hint len old answer new
      TellsLengthFirst-told is = record { hint = Ok tt; state = mid; first = subst (λ k. into.length_hint old k (Ok tt) mid) is told.hint; stops = tt }

-- the form was written, whose text is the form of x
pub WritesForm-text : {S U : Type 0} {offered : List ℕ → List ℕ → Type 0} {e : Encoding} {into : Target S U} {m : MadeForm} {x y : List ℕ} {old new : S}
    {answer : Result ⊤ NormalizeError} → x ≡ y → WritesText e into offered (form_of m x) old answer new → (HasShortRuns m.has_class_form m.reading x → ¬ IsErrOf answer Memory)
    → WritesForm e into.text_taken into.refusal into.refusal_effect m y old answer new
WritesForm-text {S = S} {offered = offered} {e = e} {into = into} {m = m} {x = x} {old = old} {new = new} {answer = answer} same h room =
    subst (λ z. WritesForm e into.text_taken into.refusal into.refusal_effect m z old answer new) same (record { written = h.written; ahead = h.ahead; fault = h.fault; room = room; begun = begun answer h })
  where
    begun : (answer : Result ⊤ NormalizeError) → WritesText e into offered (form_of m x) old answer new
        → OnErr answer (((s t : S) → into.refusal_effect s t → TakesNothing into.text_taken s t) → TookBeginning e into.text_taken (form_of m x) old new)
    begun (Ok done) h = tt
    begun (Err Memory) h = λ _. h.begun refl
    begun (Err Sink) h = λ keeps.
        let r = h.refusal refl in
        record { front = r.beginning.front; rest = r.beginning.rest; parts = r.beginning.parts; took = keeps r.before new r.leaves ∙ r.beginning.took }
