-- Moves, one after another, and where they end.
use Rattle.std.proofs.Common.{◌≡◌, ℕ, ◌+◌, ◌≤◌, inl, inr, Bool, List, [], ◌++◌, None, Some, Option, IfNone, IfSome, MatchOption, Result, Ok, Err, OnErr, true, refl, sym, ap, subst, ◌∙◌, append_assoc, append-nil, length, length-append, take, drop, arith, take-append-drop}
use Rattle.std.proofs.Math.Seq.{take-append_seam, take-append-add}
use Rattle.std.specs.Io.KnownBytes.{Appends, Consumes, IsAtEnd, Keeps}
use Rattle.std.proofs.KnownBytes.{Appends-nil, Appends-trans, Consumes-kept, Consumes-nil, Consumes-trans}
use Rattle.normalizer_io.specs.Transfer.{AppendsFront}
use Rattle.normalizer_streams.specs.declared.ill_formed.Ending.{Ending}
use Rattle.normalizer_streams.specs.declared.ill_formed.Ending.TheVariants.{Stopped, Whole}
use Rattle.normalizer_streams.specs.declared.ill_formed.ErrorMode.{ErrorMode}
use Rattle.normalizer_streams.specs.declared.ill_formed.ErrorMode.TheVariants.{Fatal, Replacement}
use Rattle.normalizer_streams.specs.declared.watch.Stop.{Stop}
use Rattle.normalizer_streams.specs.declared.watch.Watch.{Watch}
use Rattle.normalizer_streams.specs.IllFormed.{ill_formed, Ends, IsFirstIllFormed}
use Rattle.normalizer_streams.specs.Positions.{byte_after, counted, line_after}
use Rattle.normalizer_streams.specs.Streams.{IsFormCutOff, IsFormWritten, IsRun, IsWrittenToRun}
use Rattle.normalizer_streams.specs.inner.Moves.{Carries, IsCut, IsPassed, IsSettled, Moves, Passes, Stops}
use Rattle.normalizer_streams.specs.inner.Watches.{text_in, IsNoted, Watches}
use Rattle.normalizer_streams.proofs.ErrorLemmas.{find_ill_formed}
use Rattle.normalizer_streams.proofs.PassLemmas.{front-apart, steps_of-append, well_formed-joined, BeginsAs-front, BeginsAs-less, BeginsWhole-more, IsFirstIllFormed-after, IsFirstIllFormed-more, IsPassed-more, IsPassed-none, IsPassed-settled, MayFollow-more, MayFollow-self}

-- what follows of either result
pub OnErr-always : {A E P : Type 0} (r : Result A E) → P → OnErr r P
OnErr-always (Ok a) p = tt
OnErr-always (Err e) p = p

-- a front of a front is a front of all
pub AppendsFront-more : (a b : Option (List ℕ)) (xs ys : List ℕ) → AppendsFront a b xs → AppendsFront a b (xs ++ ys)
AppendsFront-more a b xs ys f =
    let front = take f.0 xs in
    let same : take (length front) (xs ++ ys) ≡ front =
    ap (λ x. take (length front) (x ++ ys)) (sym (take-append-drop f.0 xs)) ∙ ap (take (length front)) (append_assoc front (drop f.0 xs) ys) ∙ take-append_seam front (drop f.0 xs ++ ys) in
    (length front, subst (λ x. Appends a b x) (sym same) f.1)

-- what was appended before a front of the rest is with it a front of all
pub AppendsFront-after : (a b c : Option (List ℕ)) (xs ys : List ℕ) → Appends a b xs → AppendsFront b c ys → AppendsFront a c (xs ++ ys)
AppendsFront-after a b c xs ys p f = (length xs + f.0, subst (λ x. Appends a c x) (sym (take-append-add xs ys f.0)) (Appends-trans a b c xs (take f.0 ys) p f.1))

-- what was read, and all that is left
pub all_that_was_left : (l m : Option (List ℕ)) (read input : List ℕ) → Consumes l m read → IfSome m (λ all. input ≡ all) → IfSome l (λ all. read ++ input ≡ all)
all_that_was_left None m read input p h = tt
all_that_was_left (Some xs) None read input p h = absurd p
all_that_was_left (Some xs) (Some ys) read input p h = ap (λ x. read ++ x) h ∙ sym p

-- what was read is no longer than all
pub read_is_within : (l m : Option (List ℕ)) (read : List ℕ) (n : ℕ) → Consumes l m read → n ≤ length read → IfSome l (λ all. n ≤ length all)
read_is_within None m read n p h = tt
read_is_within (Some xs) None read n p h = absurd p
read_is_within (Some xs) (Some ys) read n p h = omega (arith, ap length p, length-append read ys)

pub nothing_left : (l : Option (List ℕ)) → IsAtEnd l → IfSome l (λ all. [] ≡ all)
nothing_left None h = tt
nothing_left (Some xs) h = sym h

-- what is left, if it is known
abbrev pub rest_of : Option (List ℕ) → List ℕ
rest_of None = []
rest_of (Some xs) = xs

pub rest_is : (l : Option (List ℕ)) → IfSome l (λ all. rest_of l ≡ all)
rest_is None = tt
rest_is (Some xs) = refl

module _ (mode : ErrorMode) (form : List ℕ → List ℕ) where
  -- all was passed
  pub Ends-whole : (m : ErrorMode) (w : Watch) (all : List ℕ) → Watches m w all → Ends m all all (Whole w.found)
  Ends-whole Replacement w all h = (refl, h.1)
  Ends-whole Fatal w all h = (refl, h.1.0, h.1.1)

  -- a text that stops, after what was passed
  pub Ends-stopped : (all text : List ℕ) → mode ≡ Fatal → IsFirstIllFormed all text → Ends mode all text
      (Stopped (record { line = counted (line_after text); byte = counted (byte_after text) }))
  Ends-stopped all text fatal f = subst (λ m. Ends m all text (Stopped (record { line = counted (line_after text); byte = counted (byte_after text) })))
      (sym fatal) (f, record { line = refl; byte = refl })

  -- nothing more is written
  pub IsCut-none : (m : ErrorMode) → m ≡ mode → (w : Watch) (t : Option (List ℕ)) (passed written carried next : List ℕ) → IsPassed form passed written carried → Watches m w passed
      → IsCut mode form t t passed written (carried ++ next)
  IsCut-none Replacement is w t passed written carried next p h = record {
    text = passed ++ (carried ++ next);
    ending = Whole (counted (ill_formed (passed ++ (carried ++ next))));
    ends = subst (λ m. Ends m (passed ++ (carried ++ next)) (passed ++ (carried ++ next)) (Whole (counted (ill_formed (passed ++ (carried ++ next)))))) is (refl, refl);
    output = form (carried ++ next);
    whole = p.apart (carried ++ next) (MayFollow-more form passed written carried next p);
    appended = (0, Appends-nil t);
  }
  IsCut-none Fatal is w t passed written carried next p h = elim (find_ill_formed (carried ++ next)) [
    | inl none ↦ record {
      text = passed ++ (carried ++ next);
      ending = Whole 0;
      ends = subst (λ m. Ends m (passed ++ (carried ++ next)) (passed ++ (carried ++ next)) (Whole 0)) is
          (refl, refl, well_formed-joined passed (carried ++ next) (steps_of-append passed (carried ++ next) h.1.1) h.1.1 none);
      output = form (carried ++ next);
      whole = p.apart (carried ++ next) (MayFollow-more form passed written carried next p);
      appended = (0, Appends-nil t);
    }
    | inr found ↦ record {
      text = passed ++ found.0;
      ending = _;
      ends = Ends-stopped (passed ++ (carried ++ next)) (passed ++ found.0) (sym is) (IsFirstIllFormed-after passed (carried ++ next) found.0 h.1.1 found.1);
      output = form found.0;
      whole = p.apart found.0 (λ some. BeginsAs-less carried next found.0 (p.begins some)
          (BeginsAs-front (carried ++ next) found.0 (BeginsWhole-more carried next (p.begins some)) found.1));
      appended = (0, Appends-nil t);
    }
  ]

  module _ (w : Watch) (t u : Option (List ℕ)) (passed written carried : List ℕ) (place : ℕ) (p : IsPassed form passed written carried) (s : IsSettled form carried place) where
    abbrev front : List ℕ
    front = take place carried

    abbrev after : List ℕ
    after = drop place carried

    whole-after : (next : List ℕ) → front ++ (after ++ next) ≡ carried ++ next
    whole-after next = sym (append_assoc front after next) ∙ ap (λ x. x ++ next) (take-append-drop place carried)

    -- where the text ends in the piece
    stops-at : (stop : Stop) (next : List ℕ) → IsNoted mode w passed front (Some stop) → IsFirstIllFormed (passed ++ (carried ++ next)) (passed ++ take stop.place front)
    stops-at stop next n = IsFirstIllFormed-after passed (carried ++ next) (take stop.place front) n.2
        (subst (λ x. IsFirstIllFormed x (take stop.place front)) (whole-after next)
        (IsFirstIllFormed-more front (take stop.place front) (after ++ next) n.3.first (front-apart form passed written carried place p s next)))

    stops-form : (stop : Stop) → IsNoted mode w passed front (Some stop) → form (passed ++ take stop.place front) ≡ written ++ form (take stop.place front)
    stops-form stop n = p.apart (take stop.place front) (λ some.
        BeginsAs-front carried (take stop.place front) (p.begins some) (subst (λ x. IsFirstIllFormed x (take stop.place front)) (whole-after [] ∙ append-nil carried)
        (IsFirstIllFormed-more front (take stop.place front) (after ++ []) n.3.first (front-apart form passed written carried place p s []))))

    pub Passes-settled : Watches mode w (passed ++ front) → Appends t u (form front) → Passes mode form w t u passed written carried after
    Passes-settled h a = record {
      front = front;
      output = form front;
      parts = sym (take-append-drop place carried);
      appended = a;
      is_passed = IsPassed-settled form passed written carried place p s;
      watches = h;
    }

    pub Stops-settled : (stop : Stop) → IsNoted mode w passed front (Some stop) → Appends t u (form (take stop.place front)) → (next : List ℕ)
        → Stops mode form stop.position t u passed written carried next
    Stops-settled stop n a next = record {
      fatal = n.0;
      front = take stop.place front;
      first = stops-at stop next n;
      position_is = n.3.position;
      output = form (take stop.place front);
      whole = stops-form stop n;
      appended = a;
    }

    pub Moved-settled : (stop : Option Stop) (kept : List ℕ) → kept ≡ after → IsNoted mode w passed front stop → Appends t u (form (text_in front stop))
        → MatchOption stop (Passes mode form w t u passed written carried kept) (λ stop. (next : List ℕ) → Stops mode form stop.position t u passed written carried next)
    Moved-settled None kept e n a = subst (Passes mode form w t u passed written carried) (sym e) (Passes-settled n a)
    Moved-settled (Some stop) kept e n a = Stops-settled stop n a

    pub IsCut-settled : (stop : Option Stop) → IsNoted mode w passed front stop → AppendsFront t u (form (text_in front stop)) → (next : List ℕ)
        → IsCut mode form t u passed written (carried ++ next)
    IsCut-settled None n a next =
        let rest = IsCut-none mode refl w t (passed ++ front) (written ++ form front) after next (IsPassed-settled form passed written carried place p s) n in record {
          text = rest.text;
          ending = rest.ending;
          ends = subst (λ x. Ends mode x rest.text rest.ending) (append_assoc passed front (after ++ next) ∙ ap (λ x. passed ++ x) (whole-after next)) rest.ends;
          output = form front ++ rest.output;
          whole = rest.whole ∙ append_assoc written (form front) rest.output;
          appended = AppendsFront-more t u (form front) rest.output a;
        }
    IsCut-settled (Some stop) n a next = record {
      text = passed ++ take stop.place front;
      ending = _;
      ends = Ends-stopped (passed ++ (carried ++ next)) (passed ++ take stop.place front) n.0 (stops-at stop next n);
      output = form (take stop.place front);
      whole = stops-form stop n;
      appended = a;
    }

  -- nothing is passed
  pub Passes-none : (w : Watch) (t : Option (List ℕ)) (passed written carried : List ℕ) → IsPassed form passed written carried → Watches mode w passed
      → Passes mode form w t t passed written carried carried
  Passes-none w t passed written carried p h = record {
    front = [];
    output = [];
    parts = refl;
    appended = Appends-nil t;
    is_passed = rw (append-nil passed, append-nil written) p;
    watches = rw (append-nil passed) h;
  }

  -- ---- from the beginning of a stream

  abbrev pub Moves-none : (l t : Option (List ℕ)) (c : List ℕ) → c ≡ [] → Moves form l l t t c
  Moves-none l t c e = record {
    read = [];
    consumed = Consumes-nil l;
    passed = [];
    written = [];
    parts = sym e;
    appended = Appends-nil t;
    is_passed = IsPassed-none form c;
  }

  -- bytes that are read are carried
  abbrev pub Moves-read : (l m n t u : Option (List ℕ)) (c d : List ℕ) (some : Bool) → Moves form l m t u c → Carries m n c d some → Moves form l n t u d
  Moves-read l m n t u c d some p b = record {
    read = p.read ++ b.more;
    consumed = Consumes-trans l m n p.read b.more p.consumed b.consumed;
    passed = p.passed;
    written = p.written;
    parts = ap (λ x. x ++ b.more) p.parts ∙ append_assoc p.passed c b.more ∙ ap (λ x. p.passed ++ x) (sym b.appended);
    appended = p.appended;
    is_passed = subst (IsPassed form p.passed p.written) (sym b.appended) (IsPassed-more form p.passed p.written c b.more p.is_passed);
  }

  -- a block is read, and a piece is passed
  pub Moves-block : (l m n t u v : Option (List ℕ)) (c d e : List ℕ) (some : Bool) (k : ℕ) (w : Watch) (p : Moves form l m t u c) → k ≤ length p.read
      → (b : Carries m n c d some) → some ≡ true → Passes mode form w u v p.passed p.written d e
      → (q : Moves form l n t v e) × (k + 1 ≤ length q.read) × Watches mode w q.passed
  Moves-block l m n t u v c d e some k w p counted b came q =
      let r = Moves-read l m n t u c d some p b in (
        record {
          read = r.read;
          consumed = r.consumed;
          passed = p.passed ++ q.front;
          written = p.written ++ q.output;
          parts = r.parts ∙ ap (λ x. p.passed ++ x) q.parts ∙ sym (append_assoc p.passed q.front e);
          appended = Appends-trans t u v p.written q.output p.appended q.appended;
          is_passed = q.is_passed;
        },
        omega (arith, b.some came, length-append p.read b.more),
        q.watches,
      )

  input-parts : (l m t u : Option (List ℕ)) (c : List ℕ) (p : Moves form l m t u c) (next : List ℕ) → p.passed ++ (c ++ next) ≡ p.read ++ next
  input-parts l m t u c p next = sym (append_assoc p.passed c next) ∙ ap (λ x. x ++ next) (sym p.parts)

  pub IsFormCutOff-cut : (l m t u v : Option (List ℕ)) (c : List ℕ) (p : Moves form l m t u c) → IsCut mode form u v p.passed p.written (c ++ rest_of m)
      → IsFormCutOff mode form l t v
  IsFormCutOff-cut l m t u v c p q = record {
    input = p.read ++ rest_of m;
    whole = all_that_was_left l m p.read (rest_of m) p.consumed (rest_is m);
    text = q.text;
    ending = q.ending;
    ends = subst (λ x. Ends mode x q.text q.ending) (input-parts l m t u c p (rest_of m)) q.ends;
    output = rw q.whole (AppendsFront-after t u v p.written q.output p.appended q.appended);
  }

  pub IsFormWritten-stopped : (l m t u v : Option (List ℕ)) (c : List ℕ) (stop : Stop) (p : Moves form l m t u c) → ((next : List ℕ) → Stops mode form stop.position u v p.passed p.written c next)
      → IsFormWritten mode form l t v (Stopped stop.position)
  IsFormWritten-stopped l m t u v c stop p stops =
      let q = stops (rest_of m) in record {
        input = p.read ++ rest_of m;
        whole = all_that_was_left l m p.read (rest_of m) p.consumed (rest_is m);
        text = p.passed ++ q.front;
        ends = subst (λ e. Ends e (p.read ++ rest_of m) (p.passed ++ q.front) (Stopped stop.position)) (sym q.fatal)
            (subst (λ x. IsFirstIllFormed x (p.passed ++ q.front)) (input-parts l m t u c p (rest_of m)) q.first, q.position_is);
        output = rw q.whole (Appends-trans t u v p.written q.output p.appended q.appended);
      }

  module _ (l m t u v : Option (List ℕ)) (c : List ℕ) (w : Watch) (p : Moves form l m t u c) (end : IsAtEnd m) where
    whole-input : IfSome l (λ all. p.read ≡ all)
    whole-input = subst (λ x. IfSome l (λ all. x ≡ all)) (append-nil p.read) (all_that_was_left l m p.read [] p.consumed (nothing_left m end))

    last-first : (stop : Stop) → IsNoted mode w p.passed c (Some stop) → IsFirstIllFormed p.read (p.passed ++ take stop.place c)
    last-first stop n = subst (λ x. IsFirstIllFormed x (p.passed ++ take stop.place c)) (sym p.parts)
        (IsFirstIllFormed-after p.passed c (take stop.place c) n.2 n.3.first)

    last-form : (stop : Stop) → IsNoted mode w p.passed c (Some stop) → form (p.passed ++ take stop.place c) ≡ p.written ++ form (take stop.place c)
    last-form stop n = p.is_passed.apart (take stop.place c) (λ some. BeginsAs-front c (take stop.place c) (p.is_passed.begins some) n.3.first)

    all-form : form (p.passed ++ c) ≡ p.written ++ form c
    all-form = p.is_passed.apart c (MayFollow-self form p.passed p.written c p.is_passed)

    -- the last piece is written
    pub IsFormWritten-end : IsNoted mode w p.passed c None → Appends u v (form c) → IsFormWritten mode form l t v (Whole w.found)
    IsFormWritten-end n a = record {
      input = p.read;
      whole = whole-input;
      text = p.passed ++ c;
      ends = subst (λ x. Ends mode x (p.passed ++ c) (Whole w.found)) (sym p.parts) (Ends-whole mode w (p.passed ++ c) n);
      output = rw all-form (Appends-trans t u v p.written (form c) p.appended a);
    }

    pub IsFormWritten-last : (stop : Stop) → IsNoted mode w p.passed c (Some stop) → Appends u v (form (take stop.place c)) → IsFormWritten mode form l t v (Stopped stop.position)
    IsFormWritten-last stop n a = record {
      input = p.read;
      whole = whole-input;
      text = p.passed ++ take stop.place c;
      ends = subst (λ e. Ends e p.read (p.passed ++ take stop.place c) (Stopped stop.position)) (sym n.0) (last-first stop n, n.3.position);
      output = rw (last-form stop n) (Appends-trans t u v p.written (form (take stop.place c)) p.appended a);
    }

    pub IsFormWritten-ended : (stop : Option Stop) (ending : Ending) → IfNone stop (ending ≡ Whole w.found) → IfSome stop (λ stop. ending ≡ Stopped stop.position)
        → IsNoted mode w p.passed c stop → Appends u v (form (text_in c stop)) → IsFormWritten mode form l t v ending
    IsFormWritten-ended None ending none some n a = subst (IsFormWritten mode form l t v) (sym none) (IsFormWritten-end n a)
    IsFormWritten-ended (Some stop) ending none some n a = subst (IsFormWritten mode form l t v) (sym some) (IsFormWritten-last stop n a)

    pub IsFormCutOff-last : (stop : Option Stop) → IsNoted mode w p.passed c stop → AppendsFront u v (form (text_in c stop)) → IsFormCutOff mode form l t v
    IsFormCutOff-last None n a = record {
      input = p.read;
      whole = whole-input;
      text = p.passed ++ c;
      ending = Whole w.found;
      ends = subst (λ x. Ends mode x (p.passed ++ c) (Whole w.found)) (sym p.parts) (Ends-whole mode w (p.passed ++ c) n);
      output = rw all-form (AppendsFront-after t u v p.written (form c) p.appended a);
    }
    IsFormCutOff-last (Some stop) n a = record {
      input = p.read;
      whole = whole-input;
      text = p.passed ++ take stop.place c;
      ending = Stopped stop.position;
      ends = subst (λ e. Ends e p.read (p.passed ++ take stop.place c) (Stopped stop.position)) (sym n.0) (last-first stop n, n.3.position);
      output = rw (last-form stop n) (AppendsFront-after t u v p.written (form (take stop.place c)) p.appended a);
    }

  -- a read is refused
  pub IsWrittenToRun-refused : (continues : ℕ → Bool) (l m n t u : Option (List ℕ)) (c : List ℕ) → Moves form l m t u c → IsRun continues c → Keeps m n
      → IsWrittenToRun form continues l n t u
  IsWrittenToRun-refused continues l m n t u c p r k = record {
    read = p.read;
    consumed = Consumes-kept l m n p.read p.consumed k;
    written = p.written;
    output = p.appended;
    passed = p.passed;
    run = c;
    parts = p.parts;
    single = r;
    apart = λ next. ap form (sym (input-parts l m t u c p next)) ∙ p.is_passed.apart (c ++ next) (MayFollow-more form p.passed p.written c next p.is_passed);
  }
