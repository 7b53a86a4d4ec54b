-- A run over files in memory, by what it does over devices.
use Rattle.std.proofs.Common.{◌≡◌, ◌⊎◌, inl, inr, ℕ, true, List, [], ◌∷◌, ◌++◌, Option, Some, None, Result, Ok, Err, IfSome, MatchOption, refl, sym, ap, subst, ◌∙◌, arith, append_assoc, append-nil, length}
use Rattle.std.specs.Prelude.{All, IsErrOf, max}
use Rattle.std.specs.Option.{option_map, option_to_list}
use Rattle.std.specs.Io.KnownBytes.{Appends}
use Rattle.std.proofs.Math.Seq.{drop-append_seam, take-append_seam}
use Rattle.std.proofs.Math.Nat.{max-zero, zero-max}
use Rattle.std.proofs.lemmas.Bool.{true≢false}
use Rattle.std.proofs.lemmas.List.Elements.{All-drop, All-head, All-take}
use Rattle.std.specs.declared.io.ErrorKind.{ErrorKind}
use Rattle.std.specs.declared.io.ErrorKind.TheVariants.{NotFound}
use Rattle.normalizer_command.specs.declared.command.Command.{Command}
use Rattle.normalizer_command.specs.declared.reply.Answer.{Answer}
use Rattle.normalizer_command.specs.DataFaults.{name_of}
use Rattle.normalizer_command.specs.Devices.{Devices, Files, devices}
use Rattle.normalizer_command.specs.FileFaults.{is_refusal}
use Rattle.normalizer_command.specs.FileReports.{Report, Tells}
use Rattle.normalizer_command.specs.InMemory.{in_memory, reports_of, AreHandled, Effect, IsEffectOf, IsHandled, LacksDataInMemory}
use Rattle.normalizer_command.specs.Outcomes.{fault_told, status_of, AreDone, AreEach, IsDone, State}
use Rattle.normalizer_command.specs.Replies.{IsReply}
use Rattle.normalizer_command.specs.Runs.{IsByData, IsRun, LacksData}
use Rattle.normalizer_command.specs.Works.{Work}
use Rattle.normalizer_command.specs.inner.Kept.{IsOfData}
use Rattle.normalizer_command.specs.declared.fault.Fault.{Fault}
use Rattle.normalizer_command.specs.declared.fault.Fault.TheVariants.{Open, Read, Write, InPlace, Memory, Line, Records, Prepared, IllFormed, Replaced}

-- ---- reports that are known

last-of-data : (told : List Report) (report : Report) → All IsOfData (told ++ report ∷ []) → IsOfData report
last-of-data told report all = All-head IsOfData report [] (subst (All IsOfData) (drop-append_seam told (report ∷ [])) (All-drop IsOfData (length told) (told ++ report ∷ []) all))

front-of-data : (told more : List Report) → All IsOfData (told ++ more) → All IsOfData told
front-of-data told more all = subst (All IsOfData) (take-append_seam told more) (All-take IsOfData (length told) (told ++ more) all)

-- the reports were known before, and there are those of one file more
record Told (before : Option (List Report)) (name : List ℕ) (fault : Option Fault) (after : List Report) : Type 0 where
  told : List Report
  was : before ≡ Some told
  parts : after ≡ told ++ option_to_list (option_map (λ fault. (name, fault)) fault)

told-before : (before : Option (List Report)) (name : List ℕ) (fault : Fault) (after : List Report) → Tells before (Some after) (name, fault) → Told before name (Some fault) after
told-before None name fault after h = absurd h
told-before (Some told) name fault after h = record { told = told; was = refl; parts = h }

told-of : (before now : Option (List Report)) (name : List ℕ) (fault : Option Fault) (after : List Report) → now ≡ Some after → MatchOption fault (now ≡ before) (λ fault. Tells before now (name, fault))
    → Told before name fault after
told-of before now name None after known h = record { told = after; was = sym h ∙ known; parts = sym (append-nil after) }
told-of before now name (Some fault) after known h = told-before before name fault after (subst (λ x. Tells before x (name, fault)) known h)

module _ {W : Type 0} (taken : W → Option (List ℕ)) (items : W → List ℕ) (known : (x : W) → taken x ≡ Some (items x)) (write_refused : W → W → Type 0) (bytes_of : List ℕ → Option (List ℕ)) where
  abbrev pub d : Devices W
  d = devices (in_memory bytes_of) taken write_refused

  appended : (x y : W) (output : List ℕ) → Appends (taken x) (taken y) output → items y ≡ items x ++ output
  appended x y output a = by (taken x) (taken y) (known x) (known y) a
    where
      by : (t u : Option (List ℕ)) → t ≡ Some (items x) → u ≡ Some (items y) → Appends t u output → items y ≡ items x ++ output
      by t u e f h = let h : Appends (Some (items x)) (Some (items y)) output = subst (λ t. Appends t (Some (items y)) output) e (subst (λ u. Appends t u output) f h) in h

  module _ (w : Work) where
    -- ---- one file

    record One (name : List ℕ) (s next : State W) (outcome : Result Answer Fault) (after : List Report) : Type 0 where
      told : Told s.told name (fault_told outcome) after
      output : List ℕ
      written : items next.writer ≡ items s.writer ++ output
      handled : IsHandled w name (bytes_of name) outcome output
      goes_on : IsErrOf outcome Write → ⊥

    one-refused : {A : Type 0} (name : List ℕ) (s next : State W) (fault : Fault) (after : List Report) → Told s.told name (Some fault) after → All IsOfData after → is_refusal fault ≡ true → A
    one-refused name s next fault after t of_data refused =
        absurd (true≢false (sym refused ∙ last-of-data t.told (name, fault) (subst (All IsOfData) t.parts of_data)))

    one-replied : (name : List ℕ) (bytes : Option (List ℕ)) → (given : (b : List ℕ) × (bytes ≡ Some b)) → (answer : Answer) (input output : List ℕ) → IfSome bytes (λ all. input ≡ all)
        → IsReply w name input answer output → IsHandled w name bytes (Ok answer) output
    one-replied name None given answer input output whole reply = let never = given.1 in cc
    one-replied name (Some all) given answer input output whole reply = (answer, refl, subst (λ x. IsReply w name x answer output) whole reply)

    one-missing : (name : List ℕ) (bytes : Option (List ℕ)) (kind : ErrorKind) → bytes ≡ None → kind ≡ NotFound → IsHandled w name bytes (Err (Open kind)) []
    one-missing name None kind none not_found = (ap (λ k. Err (Open k)) not_found, refl)
    one-missing name (Some all) kind none not_found = cc

    one : (name : List ℕ) (s next : State W) (outcome : Result Answer Fault) (after : List Report) → IsDone d w name s next outcome → next.told ≡ Some after → All IsOfData after → One name s next outcome after
    one name s next (Ok answer) after done now of_data =
        let output = done.is.done.0 in
        let r = done.is.done.1 in
        record {
          told = told-of s.told next.told name (fault_told (Ok answer)) after now done.told;
          output = output;
          written = appended s.writer next.writer output done.is.done.2;
          handled = one-replied name (bytes_of name) done.opened answer r.input output r.whole r.reply;
          goes_on = λ refused. cc;
        }
    one name s next (Err (Open kind)) after done now of_data = record {
      told = told-of s.told next.told name (Some (Open kind)) after now done.told;
      output = [];
      written = ap items done.is.left ∙ sym (append-nil (items s.writer));
      handled = one-missing name (bytes_of name) kind done.is.why.0 done.is.why.1;
      goes_on = λ refused. cc;
    }
    one name s next (Err Read) after done now of_data = one-refused name s next Read after (told-of s.told next.told name (Some Read) after now done.told) of_data refl
    one name s next (Err Write) after done now of_data = one-refused name s next Write after (told-of s.told next.told name (Some Write) after now done.told) of_data refl
    one name s next (Err (InPlace kind)) after done now of_data = absurd done.is.why
    one name s next (Err Memory) after done now of_data = one-refused name s next Memory after (told-of s.told next.told name (Some Memory) after now done.told) of_data refl
    one name s next (Err (Line fault)) after done now of_data = absurd done.is.why
    one name s next (Err (Records error)) after done now of_data = absurd done.is.why
    one name s next (Err (Prepared fault)) after done now of_data = absurd done.is.why
    one name s next (Err (IllFormed at)) after done now of_data = absurd done.is.why
    one name s next (Err (Replaced count)) after done now of_data = absurd done.is.why

    -- ---- files, one after another

    record Handled (names : List (List ℕ)) (s t : State W) (after : List Report) : Type 0 where
      told : List Report
      was : s.told ≡ Some told
      effect : Effect
      reported : after ≡ told ++ effect.reports
      written : items t.writer ≡ items s.writer ++ effect.output
      status : t.status ≡ max s.status effect.status
      handled : AreHandled bytes_of w names effect

    nothing : (s t : State W) (after : List Report) → s ≡ t → t.told ≡ Some after → Handled [] s t after
    nothing s t after same now = record {
      told = after;
      was = ap (λ x. x.told) same ∙ now;
      effect = record { output = []; reports = []; status = 0 };
      reported = sym (append-nil after);
      written = ap (λ x. items x.writer) (sym same) ∙ sym (append-nil (items s.writer));
      status = ap (λ x. x.status) (sym same) ∙ sym (max-zero s.status);
      handled = refl;
    }

    greatest : (a b c : ℕ) → max (max a b) c ≡ max a (max b c)
    greatest a b c = omega arith

    joined : (name : List ℕ) (names : List (List ℕ)) (s next t : State W) (outcome : Result Answer Fault) (after : List Report) → (rest : Handled names next t after) → One name s next outcome rest.told
        → next.status ≡ max s.status (status_of outcome) → Handled (name ∷ names) s t after
    joined name names s next t outcome after rest first status = record {
      told = first.told.told;
      was = first.told.was;
      effect = record {
        output = first.output ++ rest.effect.output;
        reports = reports_of name outcome ++ rest.effect.reports;
        status = max (status_of outcome) rest.effect.status;
      };
      reported = rest.reported ∙ ap (λ x. x ++ rest.effect.reports) first.told.parts ∙ append_assoc first.told.told (reports_of name outcome) rest.effect.reports;
      written = rest.written ∙ ap (λ x. x ++ rest.effect.output) first.written ∙ append_assoc (items s.writer) first.output rest.effect.output;
      status = rest.status ∙ ap (λ x. max x rest.effect.status) status ∙ greatest s.status (status_of outcome) rest.effect.status;
      handled = (outcome, first.output, rest.effect, first.handled, rest.handled, refl);
    }

    -- the last file, whose write is refused, is none that is handled
    last-write : {A : Type 0} (name : List ℕ) (s next t : State W) (after : List Report) → IsDone d w name s next (Err Write) → next ≡ t → t.told ≡ Some after → All IsOfData after → A
    last-write name s next t after done same now of_data =
        let first = one name s next (Err Write) after done (ap (λ x. x.told) same ∙ now) of_data in absurd (first.goes_on refl)

    is-write : (outcome : Result Answer Fault) → (outcome ≡ Err Write) ⊎ (IsErrOf outcome Write → ⊥)
    is-write (Ok answer) = inr (λ refused. cc)
    is-write (Err (Open kind)) = inr (λ refused. cc)
    is-write (Err Read) = inr (λ refused. cc)
    is-write (Err Write) = inl refl
    is-write (Err (InPlace kind)) = inr (λ refused. cc)
    is-write (Err Memory) = inr (λ refused. cc)
    is-write (Err (Line fault)) = inr (λ refused. cc)
    is-write (Err (Records error)) = inr (λ refused. cc)
    is-write (Err (Prepared fault)) = inr (λ refused. cc)
    is-write (Err (IllFormed at)) = inr (λ refused. cc)
    is-write (Err (Replaced count)) = inr (λ refused. cc)

    handled : (names : List (List ℕ)) (s t : State W) → AreDone d w names s t → (after : List Report) → t.told ≡ Some after → All IsOfData after → Handled names s t after
    unfolding AreEach
    handled [] s t same after now of_data = nothing s t after same now
    handled (name ∷ names) s t done after now of_data =
        let outcome = done.0 in
        let next = done.1 in
        elim (is-write outcome) [
          | inl write ↦
              let here = subst (IsDone d w name s next) write done.2 in
              last-write name s next t after here (done.3 (subst (λ o. IsErrOf o Write) (sym write) refl)) now of_data
          | inr other ↦
              let rest = handled names next t (done.4 other) after now of_data in
              joined name names s next t outcome after rest
              (one name s next outcome rest.told done.2 rest.was (front-of-data rest.told rest.effect.reports (subst (All IsOfData) rest.reported of_data))) done.2.status
        ]

  -- ---- a run

  some-same : (a b : List Report) → Some a ≡ Some b → a ≡ b
  some-same a b e = cc

  effect-same : (o o' : List ℕ) (r r' : List Report) (n n' : ℕ) → o ≡ o' → r ≡ r' → n ≡ n'
      → (let e : Effect = record { output = o; reports = r; status = n } in e) ≡ (let e : Effect = record { output = o'; reports = r'; status = n' } in e)
  effect-same o o' r r' n n' a b c = rw (a, b, c) refl

  -- what is so of the work by data
  by-data : (f : Files) (command : Command) (path : List ℕ) (P Q : Work → Type 0) → ((w : Work) → P w → Q w) → IsByData f command path P → IsByData f command path Q
  by-data f command path P Q each held = elim held [
    | inl (prepared, at, p) ↦ inl (
      prepared,
      at,
      record { packed = p.packed; file = p.file; suits = p.suits; is = each _ p.is; recorded = λ records uts46 builds. each _ (p.recorded records uts46 builds) },
    )
    | inr (directory, p) ↦ inr (
      directory,
      record {
        unicode_data = p.unicode_data;
        exclusions = p.exclusions;
        table = p.table;
        are_files = p.are_files;
        records = p.records;
        uts46 = p.uts46;
        recorded = p.recorded;
        is = each _ p.is;
      },
    )
  ]

  module _ (command : Command) (path : List ℕ) (names : List (List ℕ)) (s t : State W) (after : List Report) (none : s.told ≡ Some []) (empty : items s.writer ≡ []) (zero : s.status ≡ 0)
      (now : t.told ≡ Some after) (of_data : All IsOfData after) where
    -- files that are done from the beginning
    whole : (w : Work) → AreDone d w names s t → AreHandled bytes_of w names (record { output = items t.writer; reports = after; status = t.status })
    whole w done =
        let h = handled w names s t done after now of_data in
        let told : h.told ≡ [] = some-same h.told [] (sym h.was ∙ none) in
        let output : items t.writer ≡ h.effect.output = h.written ∙ ap (λ x. x ++ h.effect.output) empty in
        let reports : after ≡ h.effect.reports = h.reported ∙ ap (λ x. x ++ h.effect.reports) told in
        let status : t.status ≡ h.effect.status = h.status ∙ ap (λ x. max x h.effect.status) zero ∙ zero-max h.effect.status in
        subst (AreHandled bytes_of w names) (sym (effect-same (items t.writer) h.effect.output after h.effect.reports t.status h.effect.status output reports status)) h.handled

    lacks : LacksData (in_memory bytes_of) command path s t → LacksDataInMemory bytes_of command path (record { output = items t.writer; reports = after; status = t.status })
    lacks l =
        let report : Report = (name_of path l.file, l.fault) in
        let told = told-before s.told (name_of path l.file) l.fault after (subst (λ x. Tells s.told x report) now l.told) in
        let parts : after ≡ report ∷ [] = told.parts ∙ ap (λ x. x ++ report ∷ []) (some-same told.told [] (sym told.was ∙ none)) in
        record {
          file = l.file;
          fault = l.fault;
          why = l.why;
          of_data = last-of-data [] report (subst (All IsOfData) parts of_data);
          effect = effect-same (items t.writer) [] after (report ∷ []) t.status 2 (ap items l.unwritten ∙ empty) parts l.status;
        }

    pub effect-of-run : IsRun d command path names s t → IsEffectOf bytes_of command path names (record { output = items t.writer; reports = after; status = t.status })
    effect-of-run run = elim run [
      | inl held ↦ inl (by-data (in_memory bytes_of) command path _ _ whole held)
      | inr no_data ↦ inr (lacks no_data)
    ]
