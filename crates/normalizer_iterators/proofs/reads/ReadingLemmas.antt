-- Reading further characters: what is buffered after each step.
use Rattle.std.proofs.Common.{◌≡◌, ℕ, ◌+◌, ◌<◌, ◌≤◌, Bool, true, false, List, [], ◌∷◌, ◌++◌, length, drop, get_or, refl, sym, ap, ◌∙◌, arith, Option, Some, None, IfSome, OnSome, MatchOption}
use Rattle.std.proofs.Common.{slice_get, inl, inr, append_assoc, append-nil}
use Rattle.std.proofs.lemmas.List.{drop_more, drop_all, length-append}
use Rattle.std.proofs.lemmas.List.Elements.{All-nil, All-push}
use Rattle.std.specs.Iterator.{Count, size, Yields}
use Rattle.std.specs.List.{AllPass}
use Rattle.normal_forms.specs.Decomposition.{expand}
use Rattle.normal_forms.specs.Order.{order}
use Rattle.normal_forms.specs.ShortRuns.{buffer_limit, continues}
use Rattle.normal_forms.proofs.ordering.ExpandLemmas.{expand-append}
use Rattle.normal_forms.proofs.ordering.OrderLemmas.{order-nil}
use Rattle.normalizer_iterators.specs.Delegate.{HasRead, IsReadyAfter, Source}
use Rattle.normalizer_iterators.specs.inner.ReadingOn.{ReadsOn, DidNotFit, ReadsChunk, IsShortChunk, ChunkDidNotFit}
use Rattle.normalizer_iterators.proofs.reads.LazyLemmas.{Yields-one_more}
use Rattle.std.proofs.lemmas.Option.{slice_get_cases}
use Rattle.normal_forms.specs.Reading.{Reading, IsStarter}
use Rattle.normal_forms.proofs.ordering.OrderLemmas.{insert-starter, order-cons}
use Rattle.normalizer_tables.specs.Characters.{Characters}
use Rattle.normalizer_iterators.specs.declared.waiting.WaitingList.{WaitingList}
use Rattle.normalizer_iterators.specs.LazyReading.{HasClassesFrom}
use Rattle.normalizer_iterators.specs.WaitingList.{ordered_text, unordered_text, item_count, reordered_text, AgreesWith}

pub reordered-nothing : (d : Reading) (b : WaitingList) (rest : List ℕ) → ordered_text b ≡ [] → unordered_text b ≡ [] → reordered_text d b rest ≡ order d rest
unfolding reordered_text
reordered-nothing d b rest front open_marks = ap (λ l. l ++ order d (unordered_text b ++ rest)) front ∙ ap (λ l. order d (l ++ rest)) open_marks

-- after starters alone
pub reordered-starter : (d : Reading) (b : WaitingList) (c : ℕ) (rest : List ℕ) → ordered_text b ≡ c ∷ [] → unordered_text b ≡ [] → IsStarter d c → order d (c ∷ rest) ≡ reordered_text d b rest
unfolding reordered_text
reordered-starter d b c rest front open_marks starter =
    order-cons d c rest ∙ insert-starter d c (order d rest) starter
    ∙ sym (ap (λ l. l ++ order d (unordered_text b ++ rest)) front ∙ ap (λ l. c ∷ order d (l ++ rest)) open_marks)

pub reordered-starters : (d : Reading) (b : WaitingList) (c e : ℕ) (rest : List ℕ) → ordered_text b ≡ c ∷ e ∷ [] → unordered_text b ≡ [] → IsStarter d c → IsStarter d e
    → order d (c ∷ e ∷ rest) ≡ reordered_text d b rest
unfolding reordered_text
reordered-starters d b c e rest front open_marks first second =
    order-cons d c (e ∷ rest) ∙ insert-starter d c (order d (e ∷ rest)) first
    ∙ ap (λ l. c ∷ l) (order-cons d e rest ∙ insert-starter d e (order d rest) second)
    ∙ sym (ap (λ l. l ++ order d (unordered_text b ++ rest)) front ∙ ap (λ l. c ∷ e ∷ order d (l ++ rest)) open_marks)

-- ---- the members of a list, one after another

-- those from `first` up to `place` went in
pub record PushedSoFar (s : Characters) (members : List ℕ) (first place : ℕ) (old new : WaitingList) : Type 0 where
  pub text : (d : Reading) → HasClassesFrom s d → AgreesWith d old → (rest : List ℕ) → reordered_text d old (drop first members ++ rest) ≡ reordered_text d new (drop place members ++ rest)
  pub classes : (d : Reading) → HasClassesFrom s d → AgreesWith d old → AgreesWith d new
  pub held : item_count new + first ≡ item_count old + place

pub drop_member : (members : List ℕ) (place m : ℕ) → Some m ≡ slice_get members place → drop place members ≡ m ∷ drop (place + 1) members
drop_member members place m e =
    elim ((slice_get_cases members place).1) [
      | inl there ↦
          let same : m ≡ there.0 = cc (e, there.2) in
          drop_more members place m there.1 ∙ ap (λ c. c ∷ drop (place + 1) members) (ap (get_or members place) same ∙ there.3 ∙ sym same)
      | inr past ↦ absurd (cc (e, past.1))
    ]

pub no_member : (members : List ℕ) (place : ℕ) → place < length members → None ≡ slice_get members place → ⊥
no_member members place inside e =
    elim ((slice_get_cases members place).1) [
      | inl there ↦ cc (e, there.2)
      | inr past ↦ let past_end = past.0 in omega arith
    ]

pub pushed_member : (s : Characters) (members : List ℕ) (first place m : ℕ) (old w new : WaitingList) → Some m ≡ slice_get members place → PushedSoFar s members first place old w
    → ((d : Reading) → HasClassesFrom s d → AgreesWith d w → (rest : List ℕ) → reordered_text d w (m ∷ rest) ≡ reordered_text d new rest)
    → ((d : Reading) → HasClassesFrom s d → AgreesWith d w → AgreesWith d new) → item_count new ≡ item_count w + 1 → PushedSoFar s members first (place + 1) old new
pushed_member s members first place m old w new there before text classes more = record {
  text = λ d same agrees rest.
      before.text d same agrees rest ∙ ap (λ l. reordered_text d w (l ++ rest)) (drop_member members place m there)
      ∙ text d same (before.classes d same agrees) (drop (place + 1) members ++ rest);
  classes = λ d same agrees. classes d same (before.classes d same agrees);
  held = omega (arith, before.held);
}

pub pushed_none : (s : Characters) (members : List ℕ) (first : ℕ) (old : WaitingList) → PushedSoFar s members first first old old
pushed_none s members first old = record { text = λ d same agrees rest. refl; classes = λ d same agrees. agrees; held = refl }

pub pushed_all : (s : Characters) (members : List ℕ) (first place : ℕ) (old new : WaitingList) → length members ≤ place → PushedSoFar s members first place old new → (d : Reading)
    → HasClassesFrom s d → AgreesWith d old → (rest : List ℕ) → reordered_text d old (drop first members ++ rest) ≡ reordered_text d new rest
pushed_all s members first place old new end pushed d same agrees rest = pushed.text d same agrees rest ∙ ap (λ l. reordered_text d new (l ++ rest)) (drop_all place members end)

-- ---- characters that continue, one after another

-- `read` came and is buffered
pub record ReadSoFar {I : Type 0} (gives : I → Option ℕ → I → Type 0) (left : I → Count) (has_class_form : ℕ → Bool) (d : Reading) (delegate : I) (waiting : WaitingList) (delegate_now : I)
    (waiting_now : WaitingList) : Type 0 where
  pub read : List ℕ
  pub run : Yields gives delegate read delegate_now
  pub continuing : AllPass (continues has_class_form d) read
  pub text : (rest : List ℕ) → reordered_text d waiting (expand d read ++ rest) ≡ reordered_text d waiting_now rest
  pub agrees : AgreesWith d waiting_now
  pub held : item_count waiting_now ≡ item_count waiting + length (expand d read)
  pub fewer : size (left delegate_now) + length read ≤ size (left delegate)

nearer_end : (pending : Option ℕ) (next n all now : ℕ) → now + n ≤ all → OnSome pending (next < now) → MatchOption pending (n ≤ all) (λ _. next + n < all)
nearer_end None next n all now fewer h = omega arith
nearer_end (Some c) next n all now fewer h = omega arith

module _ {I : Type 0} (from : Source I) (f : ℕ → Bool) (d : Reading) where
  pub ReadSoFar-none : (delegate : I) (waiting : WaitingList) → AgreesWith d waiting → ReadSoFar from.next_gives from.remaining f d delegate waiting delegate waiting
  unfolding expand
  ReadSoFar-none delegate waiting agrees = record {
    read = [];
    run = refl;
    continuing = All-nil (λ c. continues f d c ≡ true);
    text = λ rest. refl;
    agrees = agrees;
    held = omega arith;
    fewer = omega arith;
  }

  expand-one_more : (xs : List ℕ) (c : ℕ) → expand d (xs ++ c ∷ []) ≡ expand d xs ++ d.list c
  unfolding expand
  expand-one_more xs c = expand-append d xs (c ∷ []) ∙ ap (λ l. expand d xs ++ l) (append-nil (d.list c))

  pub ReadSoFar-more : (delegate now next : I) (waiting w new : WaitingList) (c : ℕ) → ReadSoFar from.next_gives from.remaining f d delegate waiting now w → from.next_gives now (Some c) next → continues f d c ≡ true
      → ((rest : List ℕ) → reordered_text d w (d.list c ++ rest) ≡ reordered_text d new rest) → AgreesWith d new → item_count new ≡ item_count w + length (d.list c) → size (from.remaining next) < size (from.remaining now)
      → ReadSoFar from.next_gives from.remaining f d delegate waiting next new
  ReadSoFar-more delegate now next waiting w new c before step continuing text agrees more nearer =
      let longer = expand-one_more before.read c in
      record {
        read = before.read ++ c ∷ [];
        run = Yields-one_more from.next_gives delegate before.read now c next before.run step;
        continuing = All-push (λ b. continues f d b ≡ true) before.read c before.continuing continuing;
        text = λ rest.
            ap (λ l. reordered_text d waiting (l ++ rest)) longer ∙ ap (reordered_text d waiting) (append_assoc (expand d before.read) (d.list c) rest)
            ∙ before.text (d.list c ++ rest) ∙ text rest;
        agrees = agrees;
        held = omega (arith, before.held, ap length longer, length-append (expand d before.read) (d.list c));
        fewer = omega (arith, before.fewer, length-append before.read (c ∷ []));
      }

  pub ReadSoFar-done : (delegate now next : I) (waiting w new : WaitingList) (pending : Option ℕ) → ReadSoFar from.next_gives from.remaining f d delegate waiting now w → from.next_gives now pending next
      → IfSome pending (λ c. continues f d c ≡ false) → ordered_text new ≡ reordered_text d w [] → unordered_text new ≡ [] → IsReadyAfter from.can_next from.remaining pending next
      → OnSome pending (size (from.remaining next) < size (from.remaining now)) → ReadsOn from f d delegate waiting pending next new
  ReadSoFar-done delegate now next waiting w new pending before step at_boundary text settled ready nearer = record {
    read = before.read;
    run = (now, before.run, step);
    continuing = before.continuing;
    at_boundary = at_boundary;
    text = text ∙ sym (before.text []) ∙ ap (reordered_text d waiting) (append-nil (expand d before.read));
    settled = settled;
    ready = ready;
    fewer = nearer_end pending (size (from.remaining next)) (length before.read) (size (from.remaining delegate)) (size (from.remaining now)) before.fewer nearer;
  }

  pub ReadSoFar-refused : (delegate now next : I) (waiting w : WaitingList) (c : ℕ) → ReadSoFar from.next_gives from.remaining f d delegate waiting now w → from.next_gives now (Some c) next → continues f d c ≡ true
      → buffer_limit < item_count w + length (d.list c) → DidNotFit from.next_gives f d delegate waiting
  ReadSoFar-refused delegate now next waiting w c before step continuing long =
      let longer = expand-one_more before.read c in
      record {
        read = before.read ++ c ∷ [];
        delegate_after = next;
        run = Yields-one_more from.next_gives delegate before.read now c next before.run step;
        continuing = All-push (λ b. continues f d b ≡ true) before.read c before.continuing continuing;
        too_long = omega (arith, before.held, ap length longer, length-append (expand d before.read) (d.list c));
      }

-- ---- one character is read ahead

-- `next` was read from the delegate, after those that are buffered
pub record ReadsAhead {I : Type 0} (from : Source I) (has_class_form : ℕ → Bool) (d : Reading) (first : Option ℕ) (delegate : I)
    (waiting : WaitingList) (next : Option ℕ) (delegate_now : I) (waiting_now : WaitingList) : Type 0 where
  pub ready : IsReadyAfter from.can_next from.remaining next delegate_now
  pub agrees : AgreesWith d waiting_now
  pub behind : (before : I) → HasRead from.next_gives from.remaining before first delegate → (now : I) × ReadSoFar from.next_gives from.remaining has_class_form d before waiting now waiting_now × HasRead from.next_gives from.remaining now next delegate_now

module _ {I : Type 0} (from : Source I) where
  -- nothing is read on if a boundary comes before the first character
  pub ReadsOn-none : (f : ℕ → Bool) (d : Reading) (before after : I) (read : Option ℕ) (waiting : WaitingList) → HasRead from.next_gives from.remaining before read after
      → IsReadyAfter from.can_next from.remaining read after → ordered_text waiting ≡ [] → unordered_text waiting ≡ [] → AgreesWith d waiting → IfSome read (λ c. continues f d c ≡ false)
      → ReadsOn from f d before waiting read after waiting
  ReadsOn-none f d before after read waiting r ready front open_marks agrees at_boundary =
      ReadSoFar-done from f d before before after waiting waiting waiting read (ReadSoFar-none from f d before waiting agrees) r.step at_boundary
      (front ∙ sym (reordered-nothing d waiting [] front open_marks ∙ order-nil d)) open_marks ready r.nearer

  module _ (f : ℕ → Bool) (d : Reading) (first : Option ℕ) (delegate : I) (waiting : WaitingList) where
    pub ReadsAhead-none : IsReadyAfter from.can_next from.remaining first delegate → AgreesWith d waiting → ReadsAhead from f d first delegate waiting first delegate waiting
    ReadsAhead-none ready agrees = record { ready = ready; agrees = agrees; behind = λ before read. (before, ReadSoFar-none from f d before waiting agrees, read) }

    pub ReadsAhead-more : (c : ℕ) (now after : I) (w new : WaitingList) (next : Option ℕ) → ReadsAhead from f d first delegate waiting (Some c) now w → continues f d c ≡ true
        → ((rest : List ℕ) → reordered_text d w (d.list c ++ rest) ≡ reordered_text d new rest) → AgreesWith d new → item_count new ≡ item_count w + length (d.list c) → HasRead from.next_gives from.remaining now next after
        → IsReadyAfter from.can_next from.remaining next after → ReadsAhead from f d first delegate waiting next after new
    ReadsAhead-more c now after w new next before continuing text agrees more came ready = record {
      ready = ready;
      agrees = agrees;
      behind = λ start read.
          let last = before.behind start read in (
            now,
            ReadSoFar-more from f d start last.0 now waiting w new c last.1 last.2.step continuing text agrees more last.2.nearer,
            came,
          );
    }

    pub ReadsAhead-refused : (c : ℕ) (now : I) (w : WaitingList) → ReadsAhead from f d first delegate waiting (Some c) now w → continues f d c ≡ true → buffer_limit < item_count w + length (d.list c)
        → (before : I) → HasRead from.next_gives from.remaining before first delegate → DidNotFit from.next_gives f d before waiting
    ReadsAhead-refused c now w ahead continuing long before read =
        let last = ahead.behind before read in
        ReadSoFar-refused from f d before last.0 now waiting w c last.1 last.2.step continuing long

-- ---- a chunk, if nothing was buffered before

pub ReadsChunk-from : {I : Type 0} (from : Source I) (f : ℕ → Bool) (d : Reading) (c first : ℕ) (members : List ℕ) (delegate next : I)
    (b new : WaitingList) (pending : Option ℕ) → members ≡ d.list c → Some first ≡ slice_get members 0
    → ((rest : List ℕ) → order d (drop 1 members ++ rest) ≡ reordered_text d b rest) → ReadsOn from f d delegate b pending next new
    → ReadsChunk from f d c delegate first pending next new
ReadsChunk-from from f d c first members delegate next b new pending is there held r = record {
  others = drop 1 members;
  members = sym is ∙ drop_member members 0 first there;
  read = r.read;
  run = r.run;
  continuing = r.continuing;
  at_boundary = r.at_boundary;
  text = r.text ∙ sym (held (expand d r.read));
  settled = r.settled;
  ready = r.ready;
  fewer = r.fewer;
}

-- a list alone is a chunk if a boundary follows the character
pub ReadsChunk-short : {I : Type 0} (from : Source I) (f : ℕ → Bool) (d : Reading) (c first : ℕ) (delegate next : I) (following : Option ℕ)
    (w : WaitingList) → IsShortChunk f d c following first w → HasRead from.next_gives from.remaining delegate following next → IsReadyAfter from.can_next from.remaining following next
    → ReadsChunk from f d c delegate first following next w
unfolding expand
ReadsChunk-short from f d c first delegate next following w chunk read ready = record {
  others = chunk.others;
  members = chunk.list;
  read = [];
  run = (delegate, refl, read.step);
  continuing = All-nil (λ b. continues f d b ≡ true);
  at_boundary = chunk.at_boundary;
  text = chunk.text ∙ ap (order d) (sym (append-nil chunk.others));
  settled = chunk.settled;
  ready = ready;
  fewer = nearer_end following (size (from.remaining next)) 0 (size (from.remaining delegate)) (size (from.remaining delegate)) (omega arith) read.nearer;
}

-- the one member of a list is one, if nothing is buffered
pub IsShortChunk-alone : (f : ℕ → Bool) (d : Reading) (c member : ℕ) (following : Option ℕ) (w : WaitingList) → d.list c ≡ member ∷ [] → IfSome following (λ b. continues f d b ≡ false)
    → ordered_text w ≡ [] → unordered_text w ≡ [] → AgreesWith d w → IsShortChunk f d c following member w
IsShortChunk-alone f d c member following w list at_boundary front open_marks agrees = record {
  others = [];
  list = list;
  at_boundary = at_boundary;
  text = front ∙ sym (order-nil d);
  settled = open_marks;
  classes = agrees;
}

pub ChunkDidNotFit-members : {I : Type 0} (gives : I → Option ℕ → I → Type 0) (f : ℕ → Bool) (d : Reading) (c : ℕ) (members : List ℕ) (delegate : I) → members ≡ d.list c
    → buffer_limit + 1 < length members → ChunkDidNotFit gives f d c delegate
unfolding expand
ChunkDidNotFit-members gives f d c members delegate is long =
    record { read = []; delegate_after = delegate; run = refl; continuing = All-nil (λ b. continues f d b ≡ true); too_long = omega (arith, ap length is) }

pub ChunkDidNotFit-behind : {I : Type 0} (gives : I → Option ℕ → I → Type 0) (f : ℕ → Bool) (d : Reading) (c : ℕ) (members : List ℕ) (delegate : I) (b : WaitingList) → members ≡ d.list c
    → item_count b + 1 ≡ length members → DidNotFit gives f d delegate b → ChunkDidNotFit gives f d c delegate
ChunkDidNotFit-behind gives f d c members delegate b is all long =
    record { read = long.read; delegate_after = long.delegate_after; run = long.run; continuing = long.continuing; too_long = omega (arith, long.too_long, all, ap length is) }
