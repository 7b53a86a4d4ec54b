-- Forms that are written part by part.
use Rattle.std.proofs.Common.{◌≡◌, ℕ, ◌+◌, ◌<◌, ◌≤◌, Bool, List, length-take-le, [], ◌∷◌, ◌++◌, length, take, drop, Result, Ok, Err, refl, sym, ap}
use Rattle.std.proofs.Common.{subst, ◌∙◌, append_assoc, append-nil, take-append-drop, arith, inl, inr}
use Rattle.std.specs.Prelude.{◌⊎◌, ⊤, IsErrOf}
use Rattle.std.proofs.lemmas.Bool.{cases_Bool, cond-true, cond-false}
use Rattle.std.proofs.lemmas.List.{append_cancel_right, drop-drop}
use Rattle.std.proofs.Math.Seq.{take-length}
use Rattle.std.proofs.Math.Nat.{eq-zero-or-pos}
use Rattle.normal_forms.specs.Reading.{Reading}
use Rattle.normal_forms.specs.declared.Form.{Form}
use Rattle.normal_forms.specs.Forms.{normal_form}
use Rattle.normal_forms.specs.ShortRuns.{continues, leading_length, HasShortChunks, HasShortRuns}
use Rattle.normal_forms.proofs.boundaries.ChunkLemmas.{HasShortRuns-rest}
use Rattle.normalizer_text.specs.declared.sink.SinkError.{SinkError}
use Rattle.normalizer_text.specs.Encodings.{Encoding, first_in, encoded_in, decoded_in}
use Rattle.normalizer_text.specs.DecodingSteps.{IsBoundary}
use Rattle.normalizer_text.proofs.steps.StepBoundaries.{boundary-after, boundary-le, boundary-start, decoded-take-drop}
use Rattle.normalizer_text.proofs.rules.EncodingLemmas.{encoded-decoded, encoded_in-append, encoded_in-nil}
use Rattle.normalizer_text.proofs.steps.StepLemmas.{decoded-nil}
use Rattle.normalizer_text.specs.EncodedForm.{encoded_form}
use Rattle.normalizer_text.specs.InputCut.{IsInputNormalized}
use Rattle.normalizer_iterators.specs.declared.error.NormalizeError.{NormalizeError}
use Rattle.normalizer_iterators.specs.declared.error.NormalizeError.TheVariants.{Sink}
use Rattle.normalizer_calls.specs.inner.PassthroughRuns.{Divides, IsPart, StandsInInput}
use Rattle.normalizer_calls.specs.Writing.{TookBeginning}
use Rattle.normalizer_calls.proofs.passthrough.PassthroughLemmas.{normal_form-nil, Divides-start}
use Rattle.normalizer_calls.proofs.written_forms.WritingLemmas.{Answered, TookBeginning-nothing}
use Rattle.normalizer_calls.specs.inner.WrittenParts.{NothingOffered, Target, WritesText, WrotePart}

-- ---- short runs of a front

leading_length-front : (f : ℕ → Bool) (d : Reading) (x rest : List ℕ) → leading_length f d x ≤ leading_length f d (x ++ rest)
unfolding leading_length
leading_length-front f d [] rest = omega arith
leading_length-front f d (c ∷ x) rest = elim (cases_Bool (continues f d c)) [
  | inl continuing ↦
      let one = cond-true (continues f d c) (length (d.list c) + leading_length f d x) 0 continuing in
      let other = cond-true (continues f d c) (length (d.list c) + leading_length f d (x ++ rest)) 0 continuing in
      let more = leading_length-front f d x rest in omega (arith, one, other, more)
  | inr at_boundary ↦
      let one = cond-false (continues f d c) (length (d.list c) + leading_length f d x) 0 at_boundary in omega (arith, one)
]

HasShortChunks-front : (f : ℕ → Bool) (d : Reading) (x rest : List ℕ) → HasShortChunks f d (x ++ rest) → HasShortChunks f d x
unfolding HasShortChunks
HasShortChunks-front f d [] rest h = tt
HasShortChunks-front f d (c ∷ x) rest h = (
  λ at_boundary. let more = leading_length-front f d x rest in let most = h.0 at_boundary in omega (arith, more, most),
  HasShortChunks-front f d x rest h.1,
)

pub HasShortRuns-front : (f : ℕ → Bool) (d : Reading) (x rest : List ℕ) → HasShortRuns f d (x ++ rest) → HasShortRuns f d x
HasShortRuns-front f d x rest h = record {
  leading = (let more = leading_length-front f d x rest in let most = h.leading in omega (arith, more, most));
  chunks = HasShortChunks-front f d x rest h.chunks;
}

-- a fault that a part never returns is not passed on from it
pub not_handed_on : {A B E : Type 0} {of_part : Result A E} {of_all : Result B E} {fault other : E} → of_part ≡ Err fault → of_all ≡ Err fault → ¬ IsErrOf of_part other → ¬ IsErrOf of_all other
not_handed_on {fault = fault} {other = other} is handed none got =
    let both : Err fault ≡ Err other = sym handed ∙ got in
    let same : fault ≡ other = cc in
    none (is ∙ ap (λ f. Err f) same)

-- all before a position was written
pub record WroteUpTo {S U : Type 0} (e : Encoding) (into : Target S U) (d : Reading) (form : Form) (units : List ℕ) (old : S) (position : ℕ) (now : S) : Type 0 where
  pub boundary : IsBoundary (first_in e) units position
  pub divides : Divides d form (decoded_in e (take position units)) (decoded_in e (drop position units))
  pub took : into.text_taken now ≡ into.text_taken old ++ encoded_form e d form (take position units)
  pub ahead : (later : S) → into.refusal now later → into.refusal old later

module _ (e : Encoding) (d : Reading) (form : Form) where
  form_of_nothing : normal_form d form (decoded_in e []) ≡ []
  form_of_nothing = ap (normal_form d form) (decoded-nil e) ∙ normal_form-nil d form form

  pub encoded_form-nil : encoded_form e d form [] ≡ []
  encoded_form-nil = ap (encoded_in e) form_of_nothing ∙ encoded_in-nil e

  -- units that are well-formed and normalized are their own form
  own_form : (units : List ℕ) → IsInputNormalized e d form units → encoded_form e d form units ≡ units
  own_form units own = ap (encoded_in e) own.own ∙ encoded-decoded e units own.well_formed

module _ {e : Encoding} {d : Reading} {form : Form} where
  module _ {units : List ℕ} {end : ℕ} (part : IsPart e d form units end) where
    -- the form of all is that of the part and that of the others
    pub form-parts : normal_form d form (decoded_in e units) ≡ normal_form d form (decoded_in e (take end units)) ++ normal_form d form (decoded_in e (drop end units))
    form-parts =
        ap (normal_form d form) (decoded-take-drop e units end part.boundary)
        ∙ part.divides [] (decoded_in e (drop end units)) [] (sym (append-nil (decoded_in e (drop end units))))

    pub HasShortRuns-part : {f : ℕ → Bool} {segment : List ℕ} → segment ≡ take end units → HasShortRuns f d (decoded_in e units) → HasShortRuns f d (decoded_in e segment)
    HasShortRuns-part {f = f} is h =
        subst (λ l. HasShortRuns f d (decoded_in e l)) (sym is)
        (HasShortRuns-front f d (decoded_in e (take end units)) (decoded_in e (drop end units)) (subst (HasShortRuns f d) (decoded-take-drop e units end part.boundary) h))

    -- the part is a segment
    module _ {segment : List ℕ} (is : segment ≡ take end units) where
      whole : normal_form d form (decoded_in e units) ≡ normal_form d form (decoded_in e segment) ++ normal_form d form (decoded_in e (drop end units))
      whole = form-parts ∙ ap (λ l. normal_form d form (decoded_in e l) ++ normal_form d form (decoded_in e (drop end units))) (sym is)

      -- a beginning of its form begins the form of all
      longer : {S : Type 0} {taken : S → List ℕ} {old to : S} → TookBeginning e taken (normal_form d form (decoded_in e segment)) old to
          → TookBeginning e taken (normal_form d form (decoded_in e units)) old to
      longer b = record {
        front = b.front;
        rest = b.rest ++ normal_form d form (decoded_in e (drop end units));
        parts = whole ∙ ap (λ l. l ++ normal_form d form (decoded_in e (drop end units))) b.parts ∙ append_assoc b.front b.rest (normal_form d form (decoded_in e (drop end units)));
        took = b.took;
      }

    module _ {S U : Type 0} {into : Target S U} {old new : S} where
      -- a run was written as it is
      module _ (own : IsInputNormalized e d form (take end units)) {piece : List ℕ} (is : piece ≡ take end units) where
        pub WrotePart-run : Answered into old piece (Ok tt) new → WrotePart e into d form units old end new
        WrotePart-run answer = record {
          part = part;
          took = answer.written.appends ∙ ap (λ l. into.text_taken old ++ l) (is ∙ sym (own_form e d form (take end units) own));
          ahead = answer.written.ahead;
        }

        pub WritesText-run_refused : {refusal : SinkError} → Answered into old piece (Err refusal) new
            → WritesText e into (StandsInInput e d form units) (normal_form d form (decoded_in e units)) old (Err Sink) new
        WritesText-run_refused answer = record {
          written = tt;
          ahead = tt;
          fault = λ _. answer.written.fault;
          refusal = λ _. record {
            before = old;
            beginning = TookBeginning-nothing e into.text_taken (normal_form d form (decoded_in e units)) old;
            piece = decoded_in e (take end units);
            kind = inr (record {
              place = 0;
              boundary = boundary-start e units;
              form_before = sym (form_of_nothing e d form);
              next = (drop end units, sym (take-append-drop end units) ∙ ap (λ l. l ++ drop end units) (sym (encoded-decoded e (take end units) own.well_formed)));
            });
            rest = normal_form d form (decoded_in e (drop end units));
            goes_on = form-parts ∙ ap (λ l. l ++ normal_form d form (decoded_in e (drop end units))) own.own;
            known = subst (into.refuses old) (is ∙ sym (encoded-decoded e (take end units) own.well_formed)) answer.known;
            leaves = answer.written.leaves;
          };
          begun = λ k. absurd (cc);
        }

      -- the form of a segment was written
      module _ {segment : List ℕ} (is : segment ≡ take end units) where
        pub WrotePart-segment : WritesText e into NothingOffered (normal_form d form (decoded_in e segment)) old (Ok tt) new
            → WrotePart e into d form units old end new
        WrotePart-segment h = record {
          part = part;
          took = h.written ∙ ap (λ l. into.text_taken old ++ encoded_form e d form l) is;
          ahead = h.ahead;
        }

        pub WritesText-segment_refused : {fault : NormalizeError} → WritesText e into NothingOffered (normal_form d form (decoded_in e segment)) old (Err fault) new
            → WritesText e into (StandsInInput e d form units) (normal_form d form (decoded_in e units)) old (Err fault) new
        unfolding longer
        WritesText-segment_refused h = record {
          written = tt;
          ahead = tt;
          fault = h.fault;
          refusal = λ k. let r = h.refusal k in record {
            before = r.before;
            beginning = longer is r.beginning;
            piece = r.piece;
            kind = single r.piece r.beginning.front r.kind;
            rest = r.rest ++ normal_form d form (decoded_in e (drop end units));
            goes_on = ap (λ l. l ++ normal_form d form (decoded_in e (drop end units))) r.goes_on ∙ append_assoc r.piece r.rest (normal_form d form (decoded_in e (drop end units)));
            known = r.known;
            leaves = r.leaves;
          };
          begun = λ k. longer is (h.begun k);
        }
          where
            single : (piece front : List ℕ) → (length piece ≤ 1) ⊎ NothingOffered front piece → (length piece ≤ 1) ⊎ StandsInInput e d form units front piece
            single piece front (inl one) = inl one
            single piece front (inr none) = absurd none

  -- ---- one part after another

  module _ {S U : Type 0} {into : Target S U} {units : List ℕ} {old : S} where
    pub WroteUpTo-none : WroteUpTo e into d form units old 0 old
    WroteUpTo-none = record {
      boundary = boundary-start e units;
      divides = subst (λ x. Divides d form x (decoded_in e units)) (sym (decoded-nil e)) (Divides-start d form (decoded_in e units));
      took = sym (append-nil (into.text_taken old)) ∙ ap (λ l. into.text_taken old ++ l) (sym (encoded_form-nil e d form));
      ahead = λ later h. h;
    }

    -- all was written
    pub WritesText-parts : {offered : List ℕ → List ℕ → Type 0} {position : ℕ} {now : S} → WroteUpTo e into d form units old position now → length units ≤ position
        → WritesText e into offered (normal_form d form (decoded_in e units)) old (Ok tt) now
    WritesText-parts {position = position} so_far all =
        let most = boundary-le e units position so_far.boundary in
        let end : position ≡ length units = omega (arith, most) in
        record {
          written = so_far.took ∙ ap (λ l. into.text_taken old ++ encoded_form e d form l) (ap (λ n. take n units) end ∙ take-length units);
          ahead = so_far.ahead;
          fault = λ k. absurd (cc);
          refusal = λ k. absurd (cc);
          begun = λ k. absurd (cc);
        }

    module _ {position : ℕ} {now : S} (so_far : WroteUpTo e into d form units old position now) {rest : List ℕ} (is : rest ≡ drop position units) where
      text_before : List ℕ
      text_before = decoded_in e (take position units)

      boundary_behind : (n : ℕ) → IsBoundary (first_in e) rest n → IsBoundary (first_in e) units (position + n)
      boundary_behind n b = boundary-after e units position n so_far.boundary (subst (λ l. IsBoundary (first_in e) l n) is b)

      -- the units after both
      rest_behind : (n : ℕ) → drop n rest ≡ drop (position + n) units
      rest_behind n = ap (drop n) is ∙ drop-drop n position units

      -- what comes before a place in the rest
      text_to : (n : ℕ) → IsBoundary (first_in e) rest n → decoded_in e (take (position + n) units) ≡ decoded_in e (take position units) ++ decoded_in e (take n rest)
      text_to n b = append_cancel_right _ _ (decoded_in e (drop (position + n) units))
          (sym (decoded-take-drop e units (position + n) (boundary_behind n b))
          ∙ decoded-take-drop e units position so_far.boundary
          ∙ ap (λ l. decoded_in e (take position units) ++ decoded_in e l) (sym is)
          ∙ ap (λ l. decoded_in e (take position units) ++ l) (decoded-take-drop e rest n b)
          ∙ sym (append_assoc (decoded_in e (take position units)) (decoded_in e (take n rest)) (decoded_in e (drop n rest)))
          ∙ ap (λ l. (decoded_in e (take position units) ++ decoded_in e (take n rest)) ++ decoded_in e l) (rest_behind n))

      form_to : (n : ℕ) → IsBoundary (first_in e) rest n
          → normal_form d form (decoded_in e (take (position + n) units)) ≡ normal_form d form (decoded_in e (take position units)) ++ normal_form d form (decoded_in e (take n rest))
      form_to n b =
          ap (normal_form d form) (text_to n b)
          ∙ so_far.divides (decoded_in e (take n rest)) (decoded_in e (drop n rest)) (ap (decoded_in e) (sym is) ∙ decoded-take-drop e rest n b)

      form_of_all : normal_form d form (decoded_in e units) ≡ normal_form d form (decoded_in e (take position units)) ++ normal_form d form (decoded_in e rest)
      form_of_all =
          ap (normal_form d form) (decoded-take-drop e units position so_far.boundary ∙ ap (λ l. decoded_in e (take position units) ++ decoded_in e l) (sym is))
          ∙ so_far.divides (decoded_in e rest) [] (ap (decoded_in e) (sym is) ∙ sym (append-nil (decoded_in e rest)))

      -- one more part was written
      pub WroteUpTo-more : {end : ℕ} {new : S} → WrotePart e into d form rest now end new → WroteUpTo e into d form units old (position + end) new
      WroteUpTo-more {end = end} wrote = record {
        boundary = boundary_behind end wrote.part.boundary;
        divides = subst (λ x. Divides d form x (decoded_in e (drop (position + end) units))) (sym (text_to end wrote.part.boundary))
            (subst (λ l. Divides d form (decoded_in e (take position units) ++ decoded_in e (take end rest)) (decoded_in e l)) (rest_behind end)
            (wrote.part.divides (decoded_in e (take position units))));
        took = wrote.took
            ∙ ap (λ l. l ++ encoded_form e d form (take end rest)) so_far.took
            ∙ append_assoc (into.text_taken old) (encoded_form e d form (take position units)) (encoded_form e d form (take end rest))
            ∙ ap (λ l. into.text_taken old ++ l)
            (sym (encoded_in-append e (normal_form d form (decoded_in e (take position units))) (normal_form d form (decoded_in e (take end rest))))
            ∙ ap (encoded_in e) (sym (form_to end wrote.part.boundary)));
        ahead = λ later h. so_far.ahead later (wrote.ahead later h);
      }

      -- a part may have been written
      pub WroteUpTo-maybe : {end : ℕ} {new : S} → (end ≡ 0 → new ≡ now) → (0 < end → WrotePart e into d form rest now end new)
          → WroteUpTo e into d form units old (position + end) new
      WroteUpTo-maybe {end = end} {new = new} none wrote = elim (eq-zero-or-pos end) [
        | inl empty ↦
            let same : position ≡ position + end = omega (arith, empty) in
            subst (λ n. WroteUpTo e into d form units old n new) same (subst (WroteUpTo e into d form units old position) (sym (none empty)) so_far)
        | inr some ↦ WroteUpTo-more (wrote some)
      ]

      pub HasShortRuns-behind : {f : ℕ → Bool} → HasShortRuns f d (decoded_in e units) → HasShortRuns f d (decoded_in e rest)
      HasShortRuns-behind {f = f} h =
          subst (λ l. HasShortRuns f d (decoded_in e l)) (sym is)
          (HasShortRuns-rest f d (decoded_in e (take position units)) (decoded_in e (drop position units)) (subst (HasShortRuns f d) (decoded-take-drop e units position so_far.boundary) h))

      -- a beginning of the form of the rest, after what was written
      beginning_behind : (to : S) → TookBeginning e into.text_taken (normal_form d form (decoded_in e rest)) now to → TookBeginning e into.text_taken (normal_form d form (decoded_in e units)) old to
      beginning_behind to b = record {
        front = normal_form d form (decoded_in e (take position units)) ++ b.front;
        rest = b.rest;
        parts = form_of_all ∙ ap (λ l. normal_form d form (decoded_in e (take position units)) ++ l) b.parts
            ∙ sym (append_assoc (normal_form d form (decoded_in e (take position units))) b.front b.rest);
        took = b.took ∙ ap (λ l. l ++ encoded_in e b.front) so_far.took
            ∙ append_assoc (into.text_taken old) (encoded_form e d form (take position units)) (encoded_in e b.front)
            ∙ ap (λ l. into.text_taken old ++ l) (sym (encoded_in-append e (normal_form d form (decoded_in e (take position units))) b.front));
      }

      -- a piece of the rest is one of the whole
      stands_behind : (front piece : List ℕ) → (length piece ≤ 1) ⊎ StandsInInput e d form rest front piece
          → (length piece ≤ 1) ⊎ StandsInInput e d form units (normal_form d form (decoded_in e (take position units)) ++ front) piece
      stands_behind front piece (inl one) = inl one
      stands_behind front piece (inr stands) = inr (record {
        place = position + stands.place;
        boundary = boundary_behind stands.place stands.boundary;
        form_before = ap (λ l. normal_form d form (decoded_in e (take position units)) ++ l) stands.form_before ∙ sym (form_to stands.place stands.boundary);
        next = (stands.next.0, sym (rest_behind stands.place) ∙ stands.next.1);
      })

      -- the next part was not written
      pub WritesText-behind : {fault : NormalizeError} {new : S}
          → WritesText e into (StandsInInput e d form rest) (normal_form d form (decoded_in e rest)) now (Err fault) new
          → WritesText e into (StandsInInput e d form units) (normal_form d form (decoded_in e units)) old (Err fault) new
      unfolding beginning_behind
      WritesText-behind {new = new} h = record {
        written = tt;
        ahead = tt;
        fault = λ is. so_far.ahead new (h.fault is);
        refusal = λ is. let r = h.refusal is in record {
          before = r.before;
          beginning = beginning_behind r.before r.beginning;
          piece = r.piece;
          kind = stands_behind r.beginning.front r.piece r.kind;
          rest = r.rest;
          goes_on = r.goes_on;
          known = r.known;
          leaves = r.leaves;
        };
        begun = λ is. beginning_behind new (h.begun is);
      }

      -- the rest was written, unless there was a fault
      pub WritesText-rest : {result : Result ⊤ NormalizeError} {new : S}
          → WritesText e into (StandsInInput e d form rest) (normal_form d form (decoded_in e rest)) now result new
          → WritesText e into (StandsInInput e d form units) (normal_form d form (decoded_in e units)) old result new
      WritesText-rest {result = Err fault} h = WritesText-behind h
      WritesText-rest {result = Ok none} h = record {
        written = h.written ∙ ap (λ l. l ++ encoded_form e d form rest) so_far.took
            ∙ append_assoc (into.text_taken old) (encoded_form e d form (take position units)) (encoded_form e d form rest)
            ∙ ap (λ l. into.text_taken old ++ l)
            (sym (encoded_in-append e (normal_form d form (decoded_in e (take position units))) (normal_form d form (decoded_in e rest)))
            ∙ ap (encoded_in e) (sym form_of_all));
        ahead = λ later k. so_far.ahead later (h.ahead later k);
        fault = λ k. absurd (cc);
        refusal = λ k. absurd (cc);
        begun = λ k. absurd (cc);
      }

    -- the first part may have been written
    pub WroteUpTo-first : {end : ℕ} {new : S} → (end ≡ 0 → new ≡ old) → (0 < end → WrotePart e into d form units old end new) → WroteUpTo e into d form units old end new
    WroteUpTo-first {end = end} {new = new} none wrote =
        let same : 0 + end ≡ end = omega arith in
        subst (λ n. WroteUpTo e into d form units old n new) same (WroteUpTo-maybe WroteUpTo-none refl none wrote)

    pub WroteUpTo-le : {position : ℕ} {now : S} → WroteUpTo e into d form units old position now → position ≤ length units
    WroteUpTo-le {position = position} so_far = boundary-le e units position so_far.boundary
