-- Lines that were replied to, and what is replied to the pieces that come next.
use Rattle.std.proofs.Common.{◌≡◌, ℕ, ◌+◌, ◌-◌, ◌<◌, ◌≤◌, ◌⊎◌, inl, inr, zero, suc, Bool, true, false, List, [], ◌∷◌, ◌++◌, None, Some, Option, IfNone, IfSome, refl, sym, ap, subst, ◌∙◌, append_assoc, append-nil, length, length-append, map, take, drop, get_or, arith, length-take, take-append-drop}
use Rattle.std.specs.Prelude.{◌&&◌, ◌==◌, not}
use Rattle.std.specs.Io.KnownBytes.{Appends, IsAtEnd}
use Rattle.std.proofs.KnownBytes.{Appends-nil, Appends-trans, Consumes-nil, Consumes-trans}
use Rattle.std.proofs.Math.Dec.{eqb-suc-zero}
use Rattle.std.proofs.lemmas.Bool.{cases_Bool, true≢false}
use Rattle.std.proofs.lemmas.List.{length-map, map-append, take_all, take_more}
use Rattle.std.proofs.lemmas.List.Sums.{count_by-le-length}
use Rattle.icu_normalizer.specs.DecodingSteps.{read, steps_past}
use Rattle.icu_normalizer.specs.Encodings.{Encoding}
use Rattle.icu_normalizer.specs.Step.{Step}
use Rattle.icu_normalizer.specs.Utf8.{row_of}
use Rattle.icu_normalizer.proofs.StepLemmas.{steps-some}
use Rattle.normalizer_io.specs.Transfer.{AppendsFront}
use Rattle.normalizer_streams.specs.declared.ill_formed.Ending.{Ending}
use Rattle.normalizer_streams.specs.declared.ill_formed.Ending.TheVariants.{Stopped, Whole}
use Rattle.normalizer_streams.specs.declared.ill_formed.ErrorMode.{ErrorMode}
use Rattle.normalizer_streams.specs.declared.ill_formed.ErrorMode.TheVariants.{Fatal, Replacement}
use Rattle.normalizer_streams.specs.declared.lines.Progress.{Progress}
use Rattle.normalizer_streams.specs.declared.lines.Replied.{Replied}
use Rattle.normalizer_streams.specs.declared.watch.Stop.{Stop}
use Rattle.normalizer_streams.specs.declared.watch.Watch.{Watch}
use Rattle.normalizer_streams.specs.IllFormed.{decoded, first_of, steps_of, ill_formed, Ends}
use Rattle.normalizer_streams.specs.Positions.{counted}
use Rattle.normalizer_streams.specs.Replies.{feeds, is_nothing, IsReplyWritten}
use Rattle.normalizer_streams.specs.Streams.{IsFormCutOff}
use Rattle.normalizer_streams.specs.inner.LineMoves.{EndsLine, IsPieceCutOff, IsPieceReplied, IsReplied, IsWholePiece, MovesLines}
use Rattle.normalizer_streams.specs.inner.Moves.{Carries}
use Rattle.normalizer_streams.specs.inner.Watches.{text_in, IsNoted, Joins, Watches}
use Rattle.normalizer_streams.proofs.ErrorLemmas.{find_ill_formed}
use Rattle.normalizer_streams.proofs.MoveLemmas.{all_that_was_left, nothing_left, rest_is, rest_of, AppendsFront-after, AppendsFront-more, Ends-stopped, Ends-whole}
use Rattle.normalizer_streams.proofs.PassLemmas.{steps_of-nil, well_formed-joined, IsFirstIllFormed-after, IsFirstIllFormed-more}
use Rattle.normalizer_streams.proofs.SettledLemmas.{steps-divided}

abbrev pub feed : List ℕ
feed = 0x0A ∷ []

-- ---- lines of bytes

first-feed : (rest : List ℕ) → first_of (0x0A ∷ rest) ≡ read 0x0A 1
unfolding row_of
first-feed rest = refl

-- a line feed is a step of its own
feed-apart : (front rest : List ℕ) → steps_of (front ++ 0x0A ∷ rest) ≡ steps_of front ++ (read 0x0A 1 ∷ steps_of rest)
feed-apart front rest =
    let e = Encoding.Utf8 in
    let f = first-feed rest in
    let some : 0 < length (0x0A ∷ rest) = omega arith in
    steps-divided e front (0x0A ∷ rest) some (ap (λ s. s.is_error) f)
    ∙ ap (λ x. steps_of front ++ x) (steps-some e (0x0A ∷ rest) some ∙ ap (λ s. s ∷ steps_of (drop s.width (0x0A ∷ rest))) f)

-- bytes that end with a line feed end a line
EndsLine-feed : (front : List ℕ) → EndsLine (front ++ feed)
EndsLine-feed front =
    let alone : steps_of (front ++ feed) ≡ steps_of front ++ (read 0x0A 1 ∷ []) = feed-apart front [] ∙ ap (λ x. steps_of front ++ (read 0x0A 1 ∷ x)) steps_of-nil in
    record {
      steps_apart = λ rest.
          ap steps_of (append_assoc front feed rest) ∙ feed-apart front rest
          ∙ sym (append_assoc (steps_of front) (read 0x0A 1 ∷ []) (steps_of rest)) ∙ ap (λ x. x ++ steps_of rest) (sym alone);
      front = decoded front;
      ends = ap (map (λ s. s.character)) alone ∙ map-append (λ s. s.character) (steps_of front) (read 0x0A 1 ∷ []);
    }

pub EndsLine-at : (bytes : List ℕ) (end place : ℕ) → end ≡ place + 1 → place < length bytes → get_or bytes place 0 ≡ 0x0A → EndsLine (take end bytes)
EndsLine-at bytes end place is within feed_is =
    let parts : take end bytes ≡ take place bytes ++ feed = ap (λ n. take n bytes) is ∙ take_more bytes place 0 within ∙ ap (λ b. take place bytes ++ b ∷ []) feed_is in
    subst EndsLine (sym parts) (EndsLine-feed (take place bytes))

-- ---- a text is no longer than its bytes

steps-shorter : (first : List ℕ → Step) (n : ℕ) (us : List ℕ) → length (steps_past first n us) ≤ length us
unfolding steps_past
steps-shorter first n [] = omega arith
steps-shorter first zero (u ∷ us) = let less = steps-shorter first ((first (u ∷ us)).width - 1) us in omega (arith, less)
steps-shorter first (suc n) (u ∷ us) = let less = steps-shorter first n us in omega (arith, less)

pub decoded-shorter : (bytes : List ℕ) → length (decoded bytes) ≤ length bytes
decoded-shorter bytes = omega (arith, length-map (steps_of bytes) (λ (s : Step). s.character), steps-shorter first_of 0 bytes)

decoded-append : (a b : List ℕ) → steps_of (a ++ b) ≡ steps_of a ++ steps_of b → decoded (a ++ b) ≡ decoded a ++ decoded b
decoded-append a b apart = ap (map (λ s. s.character)) apart ∙ map-append (λ s. s.character) (steps_of a) (steps_of b)

pub decoded-nil : decoded [] ≡ []
decoded-nil = ap (map (λ s. s.character)) steps_of-nil

pub text_in-shorter : (piece : List ℕ) (stop : Option Stop) → length (text_in piece stop) ≤ length piece
text_in-shorter piece None = omega arith
text_in-shorter piece (Some stop) = omega (arith, length-take stop.place piece)

-- ---- nothing

-- ---- where a text ends, after bytes that were passed

module _ (mode : ErrorMode) where
  -- after the last piece
  pub Ends-after : (w : Watch) (passed piece : List ℕ) (stop : Option Stop) (ending : Ending) → IfNone stop (ending ≡ Whole w.found)
      → IfSome stop (λ stop. ending ≡ Stopped stop.position) → IsNoted mode w passed piece stop → Ends mode (passed ++ piece) (passed ++ text_in piece stop) ending
  Ends-after w passed piece None ending none some n = subst (Ends mode (passed ++ piece) (passed ++ piece)) (sym none) (Ends-whole mode (λ x. x) mode w (passed ++ piece) n)
  Ends-after w passed piece (Some stop) ending none some n =
      subst (Ends mode (passed ++ piece) (passed ++ take stop.place piece)) (sym some)
      (subst (λ k. Ends k (passed ++ piece) (passed ++ take stop.place piece) (Stopped stop.position)) (sym n.0)
      (IsFirstIllFormed-after passed piece (take stop.place piece) n.2 n.3.first, n.3.position))

  -- in a piece, whatever comes after it
  pub Ends-within : (w : Watch) (passed piece next : List ℕ) (stop : Stop) → steps_of (piece ++ next) ≡ steps_of piece ++ steps_of next
      → IsNoted mode w passed piece (Some stop) → Ends mode (passed ++ (piece ++ next)) (passed ++ take stop.place piece) (Stopped stop.position)
  Ends-within w passed piece next stop apart n =
      subst (λ k. Ends k (passed ++ (piece ++ next)) (passed ++ take stop.place piece) (Stopped stop.position)) (sym n.0)
      (IsFirstIllFormed-after passed (piece ++ next) (take stop.place piece) n.2 (IsFirstIllFormed-more piece (take stop.place piece) next n.3.first apart), n.3.position)

  -- somewhere
  pub Ends-some : (m : ErrorMode) → m ≡ mode → (w : Watch) (passed next : List ℕ) → ((rest : List ℕ) → steps_of (passed ++ rest) ≡ steps_of passed ++ steps_of rest) → Watches m w passed
      → (more : List ℕ) × (ending : Ending) × Ends mode (passed ++ next) (passed ++ more) ending
  Ends-some Replacement is w passed next apart h =
      let n = counted (ill_formed (passed ++ next)) in
      (next, Whole n, subst (λ m. Ends m (passed ++ next) (passed ++ next) (Whole n)) is (refl, refl))
  Ends-some Fatal is w passed next apart h = elim (find_ill_formed next) [
    | inl none ↦ (next, Whole 0, subst (λ m. Ends m (passed ++ next) (passed ++ next) (Whole 0)) is (refl, refl, well_formed-joined passed next (apart next) h.1.1 none))
    | inr found ↦ (found.0, _, Ends-stopped mode (λ x. x) (passed ++ next) (passed ++ found.0) (sym is) (IsFirstIllFormed-after passed next found.0 h.1.1 found.1))
  ]

module _ (mode : ErrorMode) (reply : ℕ → List ℕ → List ℕ) (silent : (n : ℕ) → reply n [] ≡ [])
    (divided : (n : ℕ) (front rest : List ℕ) → reply n ((front ++ 0x0A ∷ []) ++ rest) ≡ reply n (front ++ 0x0A ∷ []) ++ reply (n + feeds (front ++ 0x0A ∷ [])) rest) where
  -- the reply to all bytes
  abbrev pub whole_reply : List ℕ → List ℕ
  whole_reply bytes = reply 0 (decoded bytes)

  whole-nothing : IsWholePiece reply []
  whole-nothing =
      let none = decoded-nil in
      let no : (n : ℕ) → reply n (decoded []) ≡ [] = λ n. ap (reply n) none ∙ silent n in
      record {
        steps_apart = λ rest. sym (ap (λ x. x ++ steps_of rest) (steps_of-nil));
        apart = λ n rest.
            let same : n + feeds (decoded []) ≡ n = ap (λ x. n + feeds x) none ∙ (omega arith) in
            sym (ap (λ k. reply k (decoded rest)) same) ∙ sym (ap (λ x. x ++ reply (n + feeds (decoded [])) (decoded rest)) (no n));
      }

  whole-line : (piece : List ℕ) → EndsLine piece → IsWholePiece reply piece
  whole-line piece l = record {
    steps_apart = l.steps_apart;
    apart = λ n rest.
        ap (reply n) (decoded-append piece rest (l.steps_apart rest))
        ∙ subst (λ x. reply n (x ++ decoded rest) ≡ reply n x ++ reply (n + feeds x) (decoded rest)) (sym l.ends) (divided n l.front (decoded rest));
  }

  pub whole_piece : (bytes : List ℕ) (end : ℕ) → (end ≡ 0) ⊎ EndsLine (take end bytes) → IsWholePiece reply (take end bytes)
  whole_piece bytes end (inl none) = subst (λ k. IsWholePiece reply (take k bytes)) (sym none) whole-nothing
  whole_piece bytes end (inr line) = whole-line (take end bytes) line

  -- from the beginning
  pub IsReplied-none : (p : Progress) → p.lines ≡ 0 → p.is_silent ≡ true → Watches mode p.watch [] → IsReplied mode reply p [] []
  IsReplied-none p lines quiet h = record {
    steps_apart = λ rest. sym (ap (λ x. x ++ steps_of rest) (steps_of-nil));
    apart = λ rest. ap (λ n. reply n (decoded rest)) (sym lines);
    fewer = omega (arith, lines);
    silent = quiet;
    watches = h;
  }

  module _ (p : Progress) (passed written : List ℕ) (r : IsReplied mode reply p passed written) where
    pub Joins-replied : (piece : List ℕ) → Joins passed piece
    Joins-replied piece = r.steps_apart piece

    module _ (piece : List ℕ) (w : IsWholePiece reply piece) where
      more-steps : (rest : List ℕ) → steps_of ((passed ++ piece) ++ rest) ≡ steps_of (passed ++ piece) ++ steps_of rest
      more-steps rest =
          ap steps_of (append_assoc passed piece rest) ∙ r.steps_apart (piece ++ rest) ∙ ap (λ x. steps_of passed ++ x) (w.steps_apart rest)
          ∙ sym (append_assoc (steps_of passed) (steps_of piece) (steps_of rest)) ∙ ap (λ x. x ++ steps_of rest) (sym (r.steps_apart piece))

      more-reply : (rest : List ℕ) → whole_reply ((passed ++ piece) ++ rest)
          ≡ written ++ (reply p.lines (decoded piece) ++ reply (p.lines + feeds (decoded piece)) (decoded rest))
      more-reply rest = ap whole_reply (append_assoc passed piece rest) ∙ r.apart (piece ++ rest) ∙ ap (λ x. written ++ x) (w.apart p.lines rest)

      -- a whole piece is replied to
      pub IsReplied-piece : (p' : Progress) (output : List ℕ) → IsPieceReplied mode reply p p' passed written piece output None
          → IsReplied mode reply p' (passed ++ piece) (written ++ output)
      IsReplied-piece p' output q = record {
        steps_apart = more-steps;
        apart = λ rest.
            more-reply rest ∙ sym (append_assoc written (reply p.lines (decoded piece)) (reply (p.lines + feeds (decoded piece)) (decoded rest)))
            ∙ ap (λ x. (written ++ x) ++ reply (p.lines + feeds (decoded piece)) (decoded rest)) (sym q.output_is)
            ∙ ap (λ n. (written ++ output) ++ reply n (decoded rest)) (sym q.lines);
        fewer = omega (arith, q.lines, r.fewer, length-append passed piece, decoded-shorter piece, count_by-le-length (λ c. c == 0x0A) (decoded piece));
        silent = q.silent;
        watches = q.noted;
      }

  abbrev pub MovesLines-none : (l t : Option (List ℕ)) (c : List ℕ) (p : Progress) → c ≡ [] → IsReplied mode reply p [] [] → MovesLines mode reply l l t t c p
  MovesLines-none l t c p e r = record { read = []; consumed = Consumes-nil l; passed = []; written = []; parts = sym e; appended = Appends-nil t; replied = r }

  -- bytes that are read are carried
  abbrev pub MovesLines-read : (l m n t u : Option (List ℕ)) (c d : List ℕ) (some : Bool) (p : Progress) → MovesLines mode reply l m t u c p → Carries m n c d some
      → MovesLines mode reply l n t u d p
  MovesLines-read l m n t u c d some p q b = record {
    read = q.read ++ b.more;
    consumed = Consumes-trans l m n q.read b.more q.consumed b.consumed;
    passed = q.passed;
    written = q.written;
    parts = ap (λ x. x ++ b.more) q.parts ∙ append_assoc q.passed c b.more ∙ ap (λ x. q.passed ++ x) (sym b.appended);
    appended = q.appended;
    replied = q.replied;
  }

  module _ (l m t u v : Option (List ℕ)) (c : List ℕ) (p : Progress) (q : MovesLines mode reply l m t u c p) where
    -- a whole piece is passed
    abbrev pub MovesLines-piece : (p' : Progress) (output kept : List ℕ) (end : ℕ) → IsWholePiece reply (take end c) → kept ≡ drop end c → Appends u v output
        → IsPieceReplied mode reply p p' q.passed q.written (take end c) output None → MovesLines mode reply l m t v kept p'
    MovesLines-piece p' output kept end w e a r = record {
      read = q.read;
      consumed = q.consumed;
      passed = q.passed ++ take end c;
      written = q.written ++ output;
      parts = q.parts ∙ ap (λ x. q.passed ++ x) (sym (take-append-drop end c) ∙ ap (λ x. take end c ++ x) (sym e)) ∙ sym (append_assoc q.passed (take end c) kept);
      appended = Appends-trans t u v q.written output q.appended a;
      replied = IsReplied-piece p q.passed q.written q.replied (take end c) w p' output r;
    }

    input-parts : (next : List ℕ) → q.passed ++ (c ++ next) ≡ q.read ++ next
    input-parts next = sym (append_assoc q.passed c next) ∙ ap (λ x. x ++ next) (sym q.parts)

    piece-parts : (end : ℕ) (next : List ℕ) → q.passed ++ (take end c ++ (drop end c ++ next)) ≡ q.read ++ next
    piece-parts end next = ap (λ x. q.passed ++ x) (sym (append_assoc (take end c) (drop end c) next) ∙ ap (λ x. x ++ next) (take-append-drop end c)) ∙ input-parts next

    known : IfSome l (λ all. q.read ++ rest_of m ≡ all)
    known = all_that_was_left l m q.read (rest_of m) q.consumed (rest_is m)

    known-end : IsAtEnd m → IfSome l (λ all. q.read ≡ all)
    known-end end = subst (λ x. IfSome l (λ all. x ≡ all)) (append-nil q.read) (all_that_was_left l m q.read [] q.consumed (nothing_left m end))

    -- nothing more is written
    pub CutOff-now : IsFormCutOff mode whole_reply l t u
    CutOff-now =
        let rest = c ++ rest_of m in
        let some = Ends-some mode mode refl p.watch q.passed rest q.replied.steps_apart q.replied.watches in
        record {
          input = q.read ++ rest_of m;
          whole = known;
          text = q.passed ++ some.0;
          ending = some.1;
          ends = subst (λ x. Ends mode x (q.passed ++ some.0) some.1) (input-parts (rest_of m)) some.2;
          output = subst (λ x. AppendsFront t u x) (sym (q.replied.apart some.0))
              (AppendsFront-after t u u q.written (reply p.lines (decoded some.0)) q.appended (0, Appends-nil u));
        }

    -- a prefix of the reply to a piece is written
    pub CutOff-piece : (end : ℕ) → IsWholePiece reply (take end c) → IsPieceCutOff mode reply p q.passed (take end c) u v → IsFormCutOff mode whole_reply l t v
    CutOff-piece end w k = by k.stop refl
      where
        by : (stop : Option Stop) → k.stop ≡ stop → IsFormCutOff mode whole_reply l t v
        by None is =
            let piece = take end c in
            let watches : Watches mode k.watch (q.passed ++ piece) = subst (IsNoted mode k.watch q.passed piece) is k.noted in
            let rest = drop end c ++ rest_of m in
            let some = Ends-some mode mode refl k.watch (q.passed ++ piece) rest
            (more-steps p q.passed q.written q.replied piece w) watches in
            let cut : AppendsFront u v (reply p.lines (decoded piece)) = subst (λ s. AppendsFront u v (reply p.lines (decoded (text_in piece s)))) is k.output in
            record {
              input = q.read ++ rest_of m;
              whole = known;
              text = (q.passed ++ piece) ++ some.0;
              ending = some.1;
              ends = subst (λ x. Ends mode x ((q.passed ++ piece) ++ some.0) some.1) (append_assoc q.passed piece rest ∙ piece-parts end (rest_of m)) some.2;
              output = subst (λ x. AppendsFront t v x) (sym (more-reply p q.passed q.written q.replied piece w some.0))
                  (AppendsFront-after t u v q.written _ q.appended (AppendsFront-more u v (reply p.lines (decoded piece)) _ cut));
            }
        by (Some stop) is =
            let piece = take end c in
            let front = take stop.place piece in
            record {
              input = q.read ++ rest_of m;
              whole = known;
              text = q.passed ++ front;
              ending = Stopped stop.position;
              ends = subst (λ x. Ends mode x (q.passed ++ front) (Stopped stop.position)) (piece-parts end (rest_of m))
                  (Ends-within mode k.watch q.passed piece (drop end c ++ rest_of m) stop (w.steps_apart (drop end c ++ rest_of m)) (subst (IsNoted mode k.watch q.passed piece) is k.noted));
              output = subst (λ x. AppendsFront t v x) (sym (q.replied.apart front))
                  (AppendsFront-after t u v q.written _ q.appended (subst (λ s. AppendsFront u v (reply p.lines (decoded (text_in piece s)))) is k.output));
            }

    pub CutOff-last : IsAtEnd m → IsPieceCutOff mode reply p q.passed c u v → IsFormCutOff mode whole_reply l t v
    CutOff-last end k = by k.stop refl
      where
        text : Option Stop → List ℕ
        text stop = q.passed ++ text_in c stop

        by : (stop : Option Stop) → k.stop ≡ stop → IsFormCutOff mode whole_reply l t v
        by None is = record {
          input = q.read;
          whole = known-end end;
          text = text None;
          ending = Whole k.watch.found;
          ends = subst (λ x. Ends mode x (text None) (Whole k.watch.found)) (sym q.parts)
              (Ends-after mode k.watch q.passed c None (Whole k.watch.found) refl tt (subst (IsNoted mode k.watch q.passed c) is k.noted));
          output = subst (λ x. AppendsFront t v x) (sym (q.replied.apart c))
              (AppendsFront-after t u v q.written _ q.appended (subst (λ s. AppendsFront u v (reply p.lines (decoded (text_in c s)))) is k.output));
        }
        by (Some stop) is = record {
          input = q.read;
          whole = known-end end;
          text = text (Some stop);
          ending = Stopped stop.position;
          ends = subst (λ x. Ends mode x (text (Some stop)) (Stopped stop.position)) (sym q.parts)
              (Ends-after mode k.watch q.passed c (Some stop) (Stopped stop.position) tt refl (subst (IsNoted mode k.watch q.passed c) is k.noted));
          output = subst (λ x. AppendsFront t v x) (sym (q.replied.apart (take stop.place c)))
              (AppendsFront-after t u v q.written _ q.appended (subst (λ s. AppendsFront u v (reply p.lines (decoded (text_in c s)))) is k.output));
        }

    module _ (p' : Progress) (output : List ℕ) (a : Appends u v output) where
      -- the last piece is replied to
      pub Written-last : (stop : Option Stop) (replied : Replied) → IsAtEnd m → IsPieceReplied mode reply p p' q.passed q.written c output stop
          → IfNone stop (replied.ending ≡ Whole p'.watch.found) → IfSome stop (λ stop. replied.ending ≡ Stopped stop.position) → replied.is_silent ≡ p'.is_silent
          → IsReplyWritten mode whole_reply l t v replied
      Written-last stop replied end r none some quiet =
          let whole : whole_reply (q.passed ++ text_in c stop) ≡ q.written ++ output = q.replied.apart (text_in c stop) ∙ ap (λ x. q.written ++ x) (sym r.output_is) in
          record {
            input = q.read;
            whole = known-end end;
            text = q.passed ++ text_in c stop;
            ends = subst (λ x. Ends mode x (q.passed ++ text_in c stop) replied.ending) (sym q.parts) (Ends-after mode p'.watch q.passed c stop replied.ending none some r.noted);
            output = subst (λ x. Appends t v x) (sym whole) (Appends-trans t u v q.written output q.appended a);
            silent = quiet ∙ r.silent ∙ ap is_nothing (sym whole);
          }

      -- a text ends in a whole piece
      pub Written-stopped : (end : ℕ) (stop : Stop) (replied : Replied) → IsWholePiece reply (take end c) → IsPieceReplied mode reply p p' q.passed q.written (take end c) output (Some stop)
          → replied.ending ≡ Stopped stop.position → replied.is_silent ≡ p'.is_silent → IsReplyWritten mode whole_reply l t v replied
      Written-stopped end stop replied w r some quiet =
          let piece = take end c in
          let front = take stop.place piece in
          let whole : whole_reply (q.passed ++ front) ≡ q.written ++ output = q.replied.apart front ∙ ap (λ x. q.written ++ x) (sym r.output_is) in
          record {
            input = q.read ++ rest_of m;
            whole = known;
            text = q.passed ++ front;
            ends = subst (Ends mode (q.read ++ rest_of m) (q.passed ++ front)) (sym some) (subst (λ x. Ends mode x (q.passed ++ front) (Stopped stop.position)) (piece-parts end (rest_of m))
                (Ends-within mode p'.watch q.passed piece (drop end c ++ rest_of m) stop (w.steps_apart (drop end c ++ rest_of m)) r.noted));
            output = subst (λ x. Appends t v x) (sym whole) (Appends-trans t u v q.written output q.appended a);
            silent = quiet ∙ r.silent ∙ ap is_nothing (sym whole);
          }

    -- the end of a piece is the end of all, or that of its last whole line
    module _ (is_some : Bool) (end : ℕ) (at : is_some ≡ false → IsAtEnd m) (last : not is_some ≡ true → end ≡ length c)
        (within : not is_some ≡ false → (end ≡ 0) ⊎ EndsLine (take end c)) where
      all-taken : is_some ≡ false → take end c ≡ c
      all-taken is = take_all end c (omega (arith, last (ap not is)))

      pub CutOff-either : IsPieceCutOff mode reply p q.passed (take end c) u v → IsFormCutOff mode whole_reply l t v
      CutOff-either k = elim (cases_Bool is_some) [
        | inl some ↦ CutOff-piece end (whole_piece c end (within (ap not some))) k
        | inr none ↦ CutOff-last (at none) (subst (λ x. IsPieceCutOff mode reply p q.passed x u v) (all-taken none) k)
      ]

      pub Written-either : (p' : Progress) (output : List ℕ) → Appends u v output → (stop : Option Stop) (replied : Replied)
          → IsPieceReplied mode reply p p' q.passed q.written (take end c) output stop
          → IfNone stop ((not is_some ≡ true) × (replied.ending ≡ Whole p'.watch.found)) → IfSome stop (λ stop. replied.ending ≡ Stopped stop.position) → replied.is_silent ≡ p'.is_silent
          → IsReplyWritten mode whole_reply l t v replied
      Written-either p' output a stop replied r whole stopped quiet = elim (cases_Bool is_some) [
        | inr none ↦ Written-last p' output a stop replied (at none) (subst (λ x. IsPieceReplied mode reply p p' q.passed q.written x output stop) (all-taken none) r) (whole_ending stop whole) stopped quiet
        | inl some ↦ by stop some r whole stopped
      ]
        where
          whole_ending : (stop : Option Stop) → IfNone stop ((not is_some ≡ true) × (replied.ending ≡ Whole p'.watch.found)) → IfNone stop (replied.ending ≡ Whole p'.watch.found)
          whole_ending None h = h.1
          whole_ending (Some stop) h = tt

          by : (stop : Option Stop) → is_some ≡ true → IsPieceReplied mode reply p p' q.passed q.written (take end c) output stop
              → IfNone stop ((not is_some ≡ true) × (replied.ending ≡ Whole p'.watch.found)) → IfSome stop (λ stop. replied.ending ≡ Stopped stop.position)
              → IsReplyWritten mode whole_reply l t v replied
          by None some r whole stopped = absurd (true≢false (sym whole.0 ∙ ap not some))
          by (Some stop) some r whole stopped = Written-stopped p' output a end stop replied (whole_piece c end (within (ap not some))) r stopped quiet

  -- a block is read, and a whole piece is passed
  pub MovesLines-block : (l m n t u v : Option (List ℕ)) (c d kept : List ℕ) (p p' : Progress) (some : Bool) (k : ℕ) (q : MovesLines mode reply l m t u c p) → k ≤ length q.read
      → (b : Carries m n c d some) → some ≡ true → (end : ℕ) (output : List ℕ) → IsWholePiece reply (take end d) → kept ≡ drop end d → Appends u v output
      → IsPieceReplied mode reply p p' q.passed q.written (take end d) output None → (r : MovesLines mode reply l n t v kept p') × (k + 1 ≤ length r.read)
  MovesLines-block l m n t u v c d kept p p' some k q counted b came end output w e a h =
      (MovesLines-piece l n t u v d p (MovesLines-read l m n t u c d some p q b) p' output kept end w e a h, omega (arith, counted, b.some came, length-append q.read b.more))
