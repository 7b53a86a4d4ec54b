-- A piece that is compared with its form, after what agrees, and before what comes next.
use Rattle.std.proofs.Common.{◌≡◌, ℕ, ◌+◌, ◌<◌, ◌≤◌, ◌⊎◌, inl, inr, Bool, true, IfNone, IfSome, unwrap_or, List, [], ◌∷◌, ◌++◌, length, take, drop, Option, Some, None, MatchOption, refl, sym, ap, subst, ◌∙◌, arith, append_assoc, append-nil, length-append, length-drop, take-append-drop}
use Rattle.std.proofs.Math.Seq.{drop-append-add, take-append-add, take-length}
use Rattle.std.proofs.lemmas.List.{drop-append-le, drop_all, take-append-le}
use Rattle.std.specs.Io.KnownBytes.{IsAtEnd}
use Rattle.std.proofs.KnownBytes.{Consumes-nil, Consumes-trans}
use Rattle.icu_normalizer.proofs.InputCutLemmas.{is_normalized_iff_input_cut, zero_input_qualifies}
use Rattle.icu_normalizer.proofs.StepLemmas.{decoded-nil, first-right}
use Rattle.icu_normalizer.specs.BoundaryBefore.{HasBoundaryBefore}
use Rattle.icu_normalizer.specs.Encodings.{Encoding, decoded_in}
use Rattle.icu_normalizer.specs.Forms.{MadeForm}
use Rattle.icu_normalizer.specs.InputCut.{IsErrorAt}
use Rattle.icu_normalizer.specs.InputOffence.{IsInputOffence}
use Rattle.icu_normalizer.specs.NormalForms.{normal_form}
use Rattle.normalizer_streams.specs.declared.ill_formed.Ending.{Ending}
use Rattle.normalizer_streams.specs.declared.ill_formed.Ending.TheVariants.{Stopped, Whole}
use Rattle.normalizer_streams.specs.declared.ill_formed.ErrorMode.{ErrorMode}
use Rattle.normalizer_streams.specs.declared.ill_formed.ErrorMode.TheVariants.{Fatal, Replacement}
use Rattle.normalizer_streams.specs.declared.mismatch.Comparison.{Comparison}
use Rattle.normalizer_streams.specs.declared.mismatch.Comparison.TheVariants as comparison
use Rattle.normalizer_streams.specs.declared.mismatch.Mismatch.{Mismatch}
use Rattle.normalizer_streams.specs.declared.position.Cursor.{Cursor}
use Rattle.normalizer_streams.specs.declared.position.Position.{Position}
use Rattle.normalizer_streams.specs.IllFormed.{first_of, steps_of, ill_formed, Ends, IsFirstIllFormed, IsWellFormedBy}
use Rattle.normalizer_streams.specs.Mismatches.{Compares, IsComparison, IsNormalizedBy, IsTextOf}
use Rattle.normalizer_streams.specs.Positions.{byte_after, counted, line_after, IsPositionAfter}
use Rattle.normalizer_streams.specs.inner.Agreements.{Agrees, AgreesFurther, BeginsPartBy, IsMismatchIn, IsPieceCompared, IsReadTo}
use Rattle.normalizer_streams.specs.inner.Moves.{Carries}
use Rattle.normalizer_streams.specs.inner.Watches.{IsCursorAfter}
use Rattle.normalizer_streams.proofs.AgreementLemmas.{form-joined, normalized-after, offence-after, offence-more}
use Rattle.normalizer_streams.proofs.ErrorLemmas.{find_ill_formed}
use Rattle.normalizer_streams.proofs.MoveLemmas.{all_that_was_left, nothing_left, rest_is, rest_of}
use Rattle.normalizer_streams.proofs.PassLemmas.{first_of-apart, first-extends, steps_of-append, steps_of-nil, well_formed-joined, IsFirstIllFormed-after, IsFirstIllFormed-more}
use Rattle.normalizer_streams.proofs.SettledLemmas.{steps-divided}

pub Ends-stopped : (all text : List ℕ) → IsFirstIllFormed all text → IsTextOf Fatal all text
Ends-stopped all text f =
    (Stopped (record { line = counted (line_after text); byte = counted (byte_after text) }), (f, record { line = refl; byte = refl }))

pub Ends-replaced : (all : List ℕ) → IsTextOf Replacement all all
Ends-replaced all = (Whole (counted (ill_formed all)), (refl, refl))

pub Ends-well_formed : (all : List ℕ) → IsWellFormedBy all → IsTextOf Fatal all all
Ends-well_formed all right = (Whole 0, (refl, refl, right))

pub Ends-found : (mode : ErrorMode) (piece : List ℕ) (place : Option ℕ) → mode ≡ Fatal
    → IfSome place (λ place. (place ≤ length piece) × IsFirstIllFormed piece (take place piece)) → IfNone place (IsWellFormedBy piece)
    → IsTextOf mode piece (take (unwrap_or place (length piece)) piece)
Ends-found mode piece (Some place) fatal first none = subst (λ mode. IsTextOf mode piece (take place piece)) (sym fatal) (Ends-stopped piece (take place piece) first.1)
Ends-found mode piece None fatal first none =
    subst (λ mode. IsTextOf mode piece (take (length piece) piece)) (sym fatal) (subst (IsTextOf Fatal piece) (sym (take-length piece)) (Ends-well_formed piece none))

module _ (m : MadeForm) where
  abbrev normalized : List ℕ → Type 0
  normalized bytes = IsNormalizedBy m.reading m.form bytes

  abbrev form : List ℕ → List ℕ
  form units = normal_form m.reading m.form (decoded_in Encoding.Utf8 units)

  -- nothing comes next, or a new part does
  abbrev pub IsApart : (next : List ℕ) → Type 0
  IsApart next = (next ≡ []) ⊎ BeginsPartBy m next

  -- ---- what begins a part

  pub BeginsPart-more : (bytes next : List ℕ) → BeginsPartBy m bytes → BeginsPartBy m (bytes ++ next)
  BeginsPart-more bytes next b =
      let same : first_of (bytes ++ next) ≡ first_of bytes = first-extends bytes next b.some b.whole in
      record {
        some = omega (arith, b.some, length-append bytes next);
        whole = ap (λ s. s.is_error) same ∙ b.whole;
        apart = subst (λ s. HasBoundaryBefore m.reading m.form s.character) (sym same) b.apart;
      }

  BeginsPart-less : (front rest : List ℕ) → 0 < length front → IsWellFormedBy front → BeginsPartBy m (front ++ rest) → BeginsPartBy m front
  BeginsPart-less front rest some fine b =
      let right = first-right Encoding.Utf8 front some fine in
      let same : first_of (front ++ rest) ≡ first_of front = first-extends front rest some right in
      record { some = some; whole = right; apart = subst (λ s. HasBoundaryBefore m.reading m.form s.character) same b.apart }

  IsApart-front : (front rest : List ℕ) → IsWellFormedBy front → BeginsPartBy m (front ++ rest) → IsApart front
  IsApart-front [] rest fine b = inl refl
  IsApart-front (x ∷ xs) rest fine b = inr (BeginsPart-less (x ∷ xs) rest (omega arith) fine b)

  steps-apart : (bytes next : List ℕ) → IsApart next → steps_of (bytes ++ next) ≡ steps_of bytes ++ steps_of next
  steps-apart bytes next a = elim a [
    | inl none ↦
        ap steps_of (ap (λ x. bytes ++ x) none ∙ append-nil bytes) ∙ sym (append-nil (steps_of bytes))
        ∙ ap (λ x. steps_of bytes ++ x) (sym (ap steps_of none ∙ steps_of-nil))
    | inr part ↦ steps-divided Encoding.Utf8 bytes next part.some part.whole
  ]

  -- a well-formed piece and what comes next are well-formed, or the first ill-formed sequence comes next
  well_formed-next : (piece next : List ℕ) → IsApart next → IsWellFormedBy piece → IsWellFormedBy (piece ++ next)
      ⊎ ((front : List ℕ) × BeginsPartBy m next × IsFirstIllFormed next front)
  well_formed-next piece next (inl none) fine = inl (subst (IsWellFormedBy) (sym (ap (λ x. piece ++ x) none ∙ append-nil piece)) fine)
  well_formed-next piece next (inr part) fine = elim (find_ill_formed next) [
    | inl right ↦ inl (well_formed-joined piece next (steps-apart piece next (inr part)) fine right)
    | inr found ↦ inr (found.0, part, found.1)
  ]

  -- ---- the text of a piece, and of all

  record Extended (mode : ErrorMode) (passed piece next text : List ℕ) : Type 0 where
    more : List ℕ
    is_text : IsTextOf mode (passed ++ (piece ++ next)) (passed ++ (text ++ more))
    apart : IsApart more
    begins : 0 < length text → BeginsPartBy m (piece ++ next) → BeginsPartBy m (text ++ more)

  module _ (passed piece next : List ℕ) (right : IsWellFormedBy passed) (a : IsApart next) where
    -- all of it is well-formed
    extended-whole : (text : List ℕ) → text ≡ piece → IsWellFormedBy (piece ++ next) → Extended Fatal passed piece next text
    extended-whole text same fine = record {
      more = next;
      is_text = subst (λ t. IsTextOf Fatal (passed ++ (piece ++ next)) (passed ++ (t ++ next))) (sym same)
          (Ends-well_formed (passed ++ (piece ++ next)) (well_formed-joined passed (piece ++ next) (steps_of-append passed (piece ++ next) right) right fine));
      apart = a;
      begins = λ some b. subst (λ t. BeginsPartBy m (t ++ next)) (sym same) b;
    }

    -- the first ill-formed sequence comes next
    extended-next : (text front : List ℕ) → text ≡ piece → IsWellFormedBy piece → BeginsPartBy m next → IsFirstIllFormed next front → Extended Fatal passed piece next text
    extended-next text front same fine b f = record {
      more = front;
      is_text = subst (λ t. IsTextOf Fatal (passed ++ (piece ++ next)) (passed ++ (t ++ front))) (sym same)
          (Ends-stopped (passed ++ (piece ++ next)) (passed ++ (piece ++ front))
          (IsFirstIllFormed-after passed (piece ++ next) (piece ++ front) right (IsFirstIllFormed-after piece next front fine f)));
      apart = IsApart-front front f.rest f.well_formed (subst (BeginsPartBy m) f.parts b);
      begins = λ some p. subst (λ t. BeginsPartBy m (t ++ front)) (sym same)
          (BeginsPart-more piece front (BeginsPart-less piece next (omega (arith, some, ap length same)) fine p));
    }

    -- it is in the piece
    extended-here : (text : List ℕ) → IsFirstIllFormed piece text → Extended Fatal passed piece next text
    extended-here text f = record {
      more = [];
      is_text = subst (λ t. IsTextOf Fatal (passed ++ (piece ++ next)) (passed ++ t)) (sym (append-nil text))
          (Ends-stopped (passed ++ (piece ++ next)) (passed ++ text)
          (IsFirstIllFormed-after passed (piece ++ next) text right (IsFirstIllFormed-more piece text next f (steps-apart piece next a))));
      apart = inl refl;
      begins = λ some b. BeginsPart-more text []
          (BeginsPart-less text (f.rest ++ next) some f.well_formed (subst (BeginsPartBy m) (ap (λ x. x ++ next) f.parts ∙ append_assoc text f.rest next) b));
    }

    extended : (mode : ErrorMode) (text : List ℕ) (ending : Ending) → Ends mode piece text ending → Extended mode passed piece next text
    extended Replacement text (Whole n) ends = record {
      more = next;
      is_text = subst (λ t. IsTextOf Replacement (passed ++ (piece ++ next)) (passed ++ (t ++ next))) (sym ends.0) (Ends-replaced (passed ++ (piece ++ next)));
      apart = a;
      begins = λ some b. subst (λ t. BeginsPartBy m (t ++ next)) (sym ends.0) b;
    }
    extended Replacement text (Stopped p) ends = absurd ends
    extended Fatal text (Stopped p) ends = extended-here text ends.0
    extended Fatal text (Whole n) ends = elim (well_formed-next piece next a ends.2) [
      | inl fine ↦ extended-whole text ends.0 fine
      | inr found ↦ extended-next text found.0 ends.0 ends.2 found.1 found.2
    ]

  -- ---- after normalized bytes

  joined-form : (passed rest : List ℕ) → normalized passed → (0 < length passed → BeginsPartBy m rest)
      → form (passed ++ rest) ≡ decoded_in Encoding.Utf8 passed ++ form rest
  joined-form [] rest own begins = sym (ap (λ x. x ++ form rest) (decoded-nil Encoding.Utf8))
  joined-form (x ∷ xs) rest own begins =
      form-joined Encoding.Utf8 m (x ∷ xs) rest (begins (omega arith)) ∙ ap (λ z. z ++ form rest) own.own

  normalized-joined : (passed rest : List ℕ) → normalized passed → (0 < length passed → 0 < length rest → BeginsPartBy m rest)
      → normalized rest → normalized (passed ++ rest)
  normalized-joined passed [] own begins r = subst normalized (sym (append-nil passed)) own
  normalized-joined passed (x ∷ xs) own begins r =
      let rest = x ∷ xs in
      normalized-after Encoding.Utf8 m passed rest own (joined-form passed rest own (λ some. begins some (omega arith))) r

  some-text : (text : List ℕ) (place found wanted : ℕ) → IsInputOffence Encoding.Utf8 m.reading m.form text place found wanted → 0 < length text
  some-text [] place found wanted o =
      let e = Encoding.Utf8 in
      let none : decoded_in e (drop place []) ≡ [] = ap (decoded_in e) (drop_all place [] (omega arith)) ∙ decoded-nil e in
      absurd (omega (arith, ap length (sym none ∙ o.is_found.1)))
  some-text (x ∷ xs) place found wanted o = omega arith

  -- an ill-formed sequence stays one
  error-within : (passed text more : List ℕ) (place : ℕ) → IsApart more → IsErrorAt Encoding.Utf8 text place → IsErrorAt Encoding.Utf8 (passed ++ (text ++ more)) (length passed + place)
  error-within passed text more place a error =
      let rest = drop place text in
      let some : 0 < length rest = omega (arith, error.within, length-drop place text) in
      let after : drop (length passed + place) (passed ++ (text ++ more)) ≡ rest ++ more =
      drop-append-add passed (text ++ more) place ∙ drop-append-le place text more (omega (arith, error.within)) in
      record {
        within = omega (arith, error.within, length-append text more, length-append passed (text ++ more));
        error = ap (λ x. (first_of x).is_error) after ∙ ap (λ s. s.is_error) (first_of-apart rest more some (steps-apart rest more a)) ∙ error.error;
      }

  -- ---- a piece after what agrees, and before what comes next

  module _ (passed piece next : List ℕ) (cursor : Cursor) (at : Agrees m passed (piece ++ next) cursor) (a : IsApart next) where
    pub normalized-further : normalized piece → normalized (passed ++ piece)
    normalized-further own = normalized-joined passed piece at.normalized (λ some more. BeginsPart-less piece next more own.well_formed (at.begins some)) own

    differs : (mode : ErrorMode) (text : List ℕ) (place : ℕ) (x : Mismatch) → Extended mode passed piece next text → IsMismatchIn Encoding.Utf8 m text place x.found x.wanted
        → IsPositionAfter (passed ++ take place text) x.position
        → Compares mode m.reading m.form (passed ++ (piece ++ next)) (comparison.Differs x)
    differs mode text place x ext first position =
        let e = Encoding.Utf8 in
        let whole = text ++ ext.more in
        let some = some-text text place x.found x.wanted first.first in
        let here : IsInputOffence e m.reading m.form whole place x.found x.wanted = elim ext.apart [
          | inl none ↦
              subst (λ y. IsInputOffence e m.reading m.form y place x.found x.wanted) (sym (ap (λ y. text ++ y) none ∙ append-nil text)) first.first
          | inr part ↦ offence-more e m text ext.more part place x.found x.wanted first
        ] in
        let before : take (length passed + place) (passed ++ whole) ≡ passed ++ take place text =
        take-append-add passed whole place ∙ ap (λ u. passed ++ u) (take-append-le place text ext.more first.first.cut.qualifies.within) in (
          passed ++ whole,
          ext.is_text,
          record {
            place = length passed + place;
            first = offence-after e m passed whole at.normalized (joined-form passed whole at.normalized (λ begun. ext.begins some (at.begins begun))) place x.found x.wanted here;
            position = subst (λ u. IsPositionAfter u x.position) (sym before) position;
            differ = elim first.differ [ inl other ↦ inl other | inr error ↦ inr (error-within passed text ext.more place ext.apart error) ];
          },
        )

    stops : (mode : ErrorMode) (text : List ℕ) (p : Position) → mode ≡ Fatal → IsFirstIllFormed piece text → normalized text
        → IsPositionAfter (passed ++ text) p → Compares mode m.reading m.form (passed ++ (piece ++ next)) (comparison.Stopped p)
    stops mode text p fatal f own position =
        let all = passed ++ (piece ++ next) in
        let begins : BeginsPartBy m (piece ++ next) → 0 < length text → BeginsPartBy m text = λ b some.
        BeginsPart-less text (f.rest ++ next) some f.well_formed (subst (BeginsPartBy m) (ap (λ x. x ++ next) f.parts ∙ append_assoc text f.rest next) b) in
        let first = IsFirstIllFormed-after passed (piece ++ next) text at.normalized.well_formed (IsFirstIllFormed-more piece text next f (steps-apart piece next a)) in (
          passed ++ text,
          subst (λ k. Ends k all (passed ++ text) (Stopped p)) (sym fatal) (first, position),
          normalized-joined passed text at.normalized (λ begun some. begins (at.begins begun) some) own,
        )

    pub compared : (mode : ErrorMode) (c : Comparison) (cursor' : Cursor) → IsPieceCompared mode m passed piece (Some c) cursor'
        → Compares mode m.reading m.form (passed ++ (piece ++ next)) c
    compared mode comparison.Normalized cursor' h = absurd h
    compared mode (comparison.Differs x) cursor' h =
        differs mode h.0 h.1 x (extended passed piece next at.normalized.well_formed a mode h.0 h.2.0 h.2.1) h.3 h.4
    compared mode (comparison.Stopped p) cursor' h = stops mode h.0 p h.1 h.2 h.3 h.4

  -- ---- from the beginning of a stream

  normalized-nil : normalized []
  normalized-nil =
      let e = Encoding.Utf8 in
      (is_normalized_iff_input_cut e m.reading m.form []).1 (record { qualifies = zero_input_qualifies e m.reading m.form []; greatest = λ n q. q.within })

  Agrees-none : (cursor : Cursor) → IsCursorAfter [] cursor → Agrees m [] [] cursor
  Agrees-none cursor c = record {
    normalized = normalized-nil;
    begins = λ some. absurd (omega arith);
    at = c;
  }

  pub Agrees-more : (passed carried more : List ℕ) (cursor : Cursor) → Agrees m passed carried cursor → Agrees m passed (carried ++ more) cursor
  Agrees-more passed carried more cursor a = record {
    normalized = a.normalized;
    begins = λ some. BeginsPart-more carried more (a.begins some);
    at = a.at;
  }

  -- the last piece
  compared-last : (mode : ErrorMode) (passed bytes : List ℕ) (cursor cursor' : Cursor) → Agrees m passed bytes cursor → (found : Option Comparison)
      → IsPieceCompared mode m passed bytes found cursor' → Compares mode m.reading m.form (passed ++ bytes) (unwrap_or found comparison.Normalized)
  compared-last mode passed bytes cursor cursor' a None h =
      normalized-further passed bytes [] cursor (subst (λ x. Agrees m passed x cursor) (sym (append-nil bytes)) a) (inl refl) h.0
  compared-last mode passed bytes cursor cursor' a (Some c) h =
      subst (λ x. Compares mode m.reading m.form (passed ++ x) c) (append-nil bytes)
      (compared passed bytes [] cursor (subst (λ x. Agrees m passed x cursor) (sym (append-nil bytes)) a) (inl refl) mode c cursor' h)

  module _ (passed carried : List ℕ) (place : ℕ) (cursor cursor' : Cursor) (at : Agrees m passed carried cursor)
      (b : BeginsPartBy m (drop place carried)) where
    abbrev piece : List ℕ
    piece = take place carried

    abbrev after : List ℕ
    after = drop place carried

    settled-none : (mode : ErrorMode) → IsPieceCompared mode m passed piece None cursor' → AgreesFurther m passed carried after cursor'
    settled-none mode h = record {
      front = piece;
      parts = sym (take-append-drop place carried);
      agrees = record {
        normalized = normalized-further passed piece after cursor (subst (λ x. Agrees m passed x cursor) (sym (take-append-drop place carried)) at) (inr b) h.0;
        begins = λ some. b;
        at = h.1;
      };
    }

    settled-some : (mode : ErrorMode) (c : Comparison) → IsPieceCompared mode m passed piece (Some c) cursor' → (next : List ℕ)
        → Compares mode m.reading m.form (passed ++ (carried ++ next)) c
    settled-some mode c h next =
        let parts : piece ++ (after ++ next) ≡ carried ++ next = sym (append_assoc piece after next) ∙ ap (λ x. x ++ next) (take-append-drop place carried) in
        subst (λ x. Compares mode m.reading m.form (passed ++ x) c) parts
        (compared passed piece (after ++ next) cursor (subst (λ x. Agrees m passed x cursor) (sym parts) (Agrees-more passed carried next cursor at))
        (inr (BeginsPart-more after next b)) mode c cursor' h)

    pub settled : (mode : ErrorMode) (found : Option Comparison) (kept : List ℕ) → kept ≡ after → IsPieceCompared mode m passed piece found cursor'
        → MatchOption found (AgreesFurther m passed carried kept cursor') (λ c. (next : List ℕ) → Compares mode m.reading m.form (passed ++ (carried ++ next)) c)
    settled mode None kept e h = subst (λ x. AgreesFurther m passed carried x cursor') (sym e) (settled-none mode h)
    settled mode (Some c) kept e h = settled-some mode c h

  -- ---- blocks that are read

  pub IsReadTo-none : (left : Option (List ℕ)) (c : List ℕ) (cursor : Cursor) → c ≡ [] → IsCursorAfter [] cursor → IsReadTo m left left c cursor
  IsReadTo-none left c cursor none at = record {
    read = [];
    consumed = Consumes-nil left;
    passed = [];
    parts = sym none;
    agrees = subst (λ x. Agrees m [] x cursor) (sym none) (Agrees-none cursor at);
  }

  abbrev pub IsReadTo-more : (l k n : Option (List ℕ)) (c d : List ℕ) (cursor : Cursor) (some : Bool) → IsReadTo m l k c cursor → Carries k n c d some → IsReadTo m l n d cursor
  IsReadTo-more l k n c d cursor some p b = record {
    read = p.read ++ b.more;
    consumed = Consumes-trans l k n p.read b.more p.consumed b.consumed;
    passed = p.passed;
    parts = ap (λ x. x ++ b.more) p.parts ∙ append_assoc p.passed c b.more ∙ ap (λ x. p.passed ++ x) (sym b.appended);
    agrees = subst (λ x. Agrees m p.passed x cursor) (sym b.appended) (Agrees-more p.passed c b.more cursor p.agrees);
  }

  -- a block is read, and a piece of it agrees
  pub IsReadTo-block : (l k n : Option (List ℕ)) (c d rest : List ℕ) (some : Bool) (count : ℕ) (cursor cursor' : Cursor) (p : IsReadTo m l k c cursor) → count ≤ length p.read → (b : Carries k n c d some)
      → some ≡ true → ((passed : List ℕ) → Agrees m passed d cursor → AgreesFurther m passed d rest cursor') → (q : IsReadTo m l n rest cursor') × (count + 1 ≤ length q.read)
  IsReadTo-block l k n c d rest some count cursor cursor' p counted b came further =
      let r = IsReadTo-more l k n c d cursor some p b in
      let f = further r.passed r.agrees in (
        record {
          read = r.read;
          consumed = r.consumed;
          passed = r.passed ++ f.front;
          parts = r.parts ∙ ap (λ x. r.passed ++ x) f.parts ∙ sym (append_assoc r.passed f.front rest);
          agrees = f.agrees;
        },
        omega (arith, counted, b.some came, length-append p.read b.more),
      )

  pub IsComparison-some : (mode : ErrorMode) (l n : Option (List ℕ)) (c : List ℕ) (cursor : Cursor) (p : IsReadTo m l n c cursor) (found : Comparison)
      → ((next : List ℕ) → Compares mode m.reading m.form (p.passed ++ (c ++ next)) found) → IsComparison mode m.reading m.form l found
  IsComparison-some mode l n c cursor p found h =
      let parts : p.passed ++ (c ++ rest_of n) ≡ p.read ++ rest_of n = sym (append_assoc p.passed c (rest_of n)) ∙ ap (λ x. x ++ rest_of n) (sym p.parts) in
      record {
        input = p.read ++ rest_of n;
        whole = all_that_was_left l n p.read (rest_of n) p.consumed (rest_is n);
        compares = subst (λ x. Compares mode m.reading m.form x found) parts (h (rest_of n));
      }

  pub IsComparison-last : (mode : ErrorMode) (l n : Option (List ℕ)) (c : List ℕ) (cursor : Cursor) (p : IsReadTo m l n c cursor) → IsAtEnd n → (found : Comparison)
      → Compares mode m.reading m.form (p.passed ++ c) found → IsComparison mode m.reading m.form l found
  IsComparison-last mode l n c cursor p end found h = record {
    input = p.read;
    whole = subst (λ x. IfSome l (λ all. x ≡ all)) (append-nil p.read) (all_that_was_left l n p.read [] p.consumed (nothing_left n end));
    compares = subst (λ x. Compares mode m.reading m.form x found) (sym p.parts) h;
  }

  pub IsComparison-ended : (mode : ErrorMode) (l n : Option (List ℕ)) (c : List ℕ) (cursor cursor' : Cursor) → (p : IsReadTo m l n c cursor) → IsAtEnd n → (last : Option Comparison)
      → IsPieceCompared mode m p.passed c last cursor' → IsComparison mode m.reading m.form l (unwrap_or last comparison.Normalized)
  IsComparison-ended mode l n c cursor cursor' p end last h =
      IsComparison-last mode l n c cursor p end (unwrap_or last comparison.Normalized) (compared-last mode p.passed c cursor cursor' p.agrees last h)
