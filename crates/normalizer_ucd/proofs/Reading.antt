-- Lines read one after another, as a loop does: the first that is wrong is told, or else what each states.
use Rattle.std.proofs.Common.{◌≡◌, ◌↔◌, ℕ, ◌+◌, ◌≤◌, ◌<◌, Bool, true, false, List, [], ◌++◌, length, drop, Option, Some, None}
use Rattle.std.proofs.Common.{◌∷◌, Result, Ok, Err, Bor, refl, sym, ap, subst, ◌∙◌, append_assoc}
use Rattle.std.specs.Prelude.{filter_map, not, if◌then◌else◌}
use Rattle.std.specs.Option.{is_none, is_some, option_map, option_or, option_to_list}
use Rattle.std.specs.List.{cons_option, last_or}
use Rattle.std.proofs.lemmas.List.{append-nil}
use Rattle.std.proofs.Math.ListN.{drop_of_length-le}
use Rattle.normalizer_ucd.specs.declared.error.LineFault.{LineFault}
use Rattle.normalizer_ucd.specs.declared.error.UcdError.{UcdError}
use Rattle.normalizer_ucd.specs.declared.error.Place.{Place}
use Rattle.normalizer_ucd.specs.declared.error.UcdError.TheVariants as errors
use Rattle.normalizer_ucd.specs.declared.error.UcdFile.{UcdFile}
use Rattle.normalizer_ucd.specs.Fields.{has_data}
use Rattle.normalizer_ucd.specs.FallibleReads.{Fails, Gives, unless}
use Rattle.normalizer_ucd.specs.FileLines.{data_lines_from, DataLine}
use Rattle.normalizer_ucd.specs.FileFaults.{Findings, first_wrong, wrong_at}
use Rattle.normalizer_ucd.specs.inner.Lines.{first_found, line_at, read_of, text_of}
use Rattle.normalizer_ucd.proofs.Loop.{one_more, part_at, texts}

-- a fault, or else what there is
pub fails_first : {A C : Type 0} (e : UcdError) (o p : Option LineFault) (x : A) (y : C) → Fails e (unless o x) →
    Fails e (unless (option_or o p) y)
fails_first errors.Memory o p x y h = tt
fails_first (errors.Line e) None p x y h = absurd (cc)
fails_first (errors.Line e) (Some f) p x y h = let same : f ≡ e = cc in ap Err same

pub unless_ok : {A : Type 0} (o : Option LineFault) (x y : A) → unless o x ≡ Ok y → x ≡ y
unless_ok (Some e) x y h = absurd (cc)
unless_ok None x y h = cc

pub unless_err : {A : Type 0} (o : Option LineFault) (x : A) (e : LineFault) → unless o x ≡ Err e ↔ (o ≡ Some e)
unless_err (Some e) x f = (λ h. cc, λ h. cc)
unless_err None x f = (λ h. absurd (cc), λ h. absurd (cc))

-- what is returned of a view of what is read
pub gives : {V A B : Type 0} (view : V → A) (f : A → B) (r : Result V UcdError) (o : Option LineFault) (x : A) →
    Gives view r (unless o x) → Gives (λ v. f (view v)) r (unless o (f x))
gives view f (Err errors.Memory) o x h = tt
gives view f (Err (errors.Line e)) (Some g) x h = cc
gives view f (Err (errors.Line e)) None x h = absurd (cc)
gives view f (Ok v) (Some g) x h = absurd (cc)
gives view f (Ok v) None x h = let is : x ≡ view v = cc in ap (λ y. Ok (f y)) is

pub fails_later : {A C : Type 0} (e : UcdError) (o p : Option LineFault) (x : A) (y : C) → o ≡ None →
    Fails e (unless p x) → Fails e (unless (option_or o p) y)
fails_later errors.Memory o p x y none h = tt
fails_later (errors.Line e) o None x y none h = absurd (cc)
fails_later (errors.Line e) o (Some f) x y none h = let same : f ≡ e = cc in rw none (ap Err same)

pub none_after : (o : Option LineFault) → option_or o None ≡ o
none_after None = refl
none_after (Some f) = refl

pub no_fault : {A : Type 0} (o : Option LineFault) (x y : A) → unless o x ≡ Ok y → (o ≡ None) × (x ≡ y)
no_fault (Some e) x y h = absurd (cc)
no_fault None x y h = (refl, cc)

pub wrong_is : (r : Result (Unit {0}) UcdError) (p q : Place) (fs gs : Findings) → p ≡ q → gs ≡ fs →
    Gives (λ _. tt {0}) r (unless (first_found p fs) (tt {0})) → Gives (λ _. tt {0}) r (unless (first_found q gs) (tt {0}))
wrong_is r p q fs gs same are h =
    subst (λ (x : Findings). Gives (λ _. tt {0}) r (unless (first_found q x) (tt {0}))) (sym are)
    (subst (λ (x : Place). Gives (λ _. tt {0}) r (unless (first_found x fs) (tt {0}))) same h)

-- whether there is none
pub none_of : {A B : Type 0} (f : A → B) (o : Option A) (p : Option B) → option_map f o ≡ p → is_none o ≡ is_none p
none_of f None p is = rw (← is) refl
none_of f (Some x) p is = rw (← is) refl

pub none_is : {A : Type 0} (o : Option A) (b : Bool) → is_some o ≡ not b → b ≡ is_none o
none_is None true h = refl
none_is None false h = absurd (cc)
none_is (Some x) true h = absurd (cc)
none_is (Some x) false h = refl

parts_of : {A B : Type 0} (a c : A) (b d : B) → (let p : A × B = (a, b) in p) ≡ (c, d) → (a ≡ c) × (b ≡ d)
parts_of {A} {B} a c b d same = (ap (λ (p : A × B). p.0) same, ap (λ (p : A × B). p.1) same)

abbrev with_front : {T B : Type 0} → List B → Result (T × List B) LineFault → Result (T × List B) LineFault
with_front front (Ok x) = Ok (x.0, front ++ x.1)
with_front front (Err e) = Err e

no_front : {T B : Type 0} (read : Result (T × List B) LineFault) → with_front [] read ≡ read
no_front (Ok x) = refl
no_front (Err e) = refl

regroup : {T B : Type 0} (front found : List B) (read : Result (T × List B) LineFault) →
    with_front front (with_front found read) ≡ with_front (front ++ found) read
regroup front found (Ok x) = ap (λ xs. Ok (x.0, xs)) (sym (append_assoc front found x.1))
regroup front found (Err f) = refl

joined : {T B : Type 0} (o : Option LineFault) (t : T) (found : Option B) (xs : List B) →
    unless {A = T × List B} o (t, cons_option found xs) ≡ with_front (option_to_list found) (unless {A = T × List B} o (t, xs))
joined (Some e) t found xs = refl
joined None t None xs = refl
joined None t (Some x) xs = refl

module _ {S B : Type 0} (name : UcdFile) (findings : DataLine → Findings) (state : Option DataLine → S)
    (found : DataLine → Option B) where
  -- what is told of lines: the last one with data, and what is found
  abbrev told : ℕ → Option DataLine → List (List ℕ) → Result (Option DataLine × List B) LineFault
  told n before parts =
      let ls = data_lines_from n (text_of before) parts in
      unless (first_wrong name findings ls) (last_or before ls, filter_map found ls)

  module _ (n : ℕ) (before : Option DataLine) (line : List ℕ) where
    abbrev l : DataLine
    l = line_at n before line

    abbrev read : Result (S × Option B) LineFault
    read = read_of name findings state found n before line

    abbrev after : Option DataLine
    after = if has_data line then Some l else before

    pub stated : (t : S) (f : Option B) → has_data line ≡ true → wrong_at name findings l ≡ None → t ≡ state (Some l) →
        f ≡ found l → read ≡ Ok (t, f)
    stated t f is right same of = rw (is, right, same, of) refl

    pub refused : {A : Type 0} (e : UcdError) (x : A) → has_data line ≡ true →
        Fails e (unless (wrong_at name findings l) x) → Fails e read
    refused errors.Memory x is h = tt
    refused (errors.Line e) x is h = rw is (by (wrong_at name findings l) h)
      where
        by : (o : Option LineFault) → unless o x ≡ Err e → unless {A = S × Option B} o (state (Some l), found l) ≡ Err e
        by None h = absurd (cc)
        by (Some g) h = cc

    module _ (parts : List (List ℕ)) where
      abbrev Goes : S → Option B → Type 0
      Goes t f = (t ≡ state after)
          × (told n before (line ∷ parts) ≡ with_front (option_to_list f) (told (n + 1) after parts))

      abbrev ls : List DataLine
      ls = data_lines_from (n + 1) (Some l.text) parts

      goes : (t : S) (f : Option B) → read ≡ Ok (t, f) → Goes t f
      goes t f h = by (has_data line) refl h
        where
          by_wrong : (o : Option LineFault) → has_data line ≡ true → wrong_at name findings l ≡ o →
              unless {A = S × Option B} o (state (Some l), found l) ≡ Ok (t, f) → Goes t f
          by_wrong (Some e) is wrong h = absurd (cc)
          by_wrong None is wrong h =
              let pair : S × Option B = (state (Some l), found l) in
              let same : pair ≡ (t, f) = (no_fault None pair (t, f) h).1 in
              let both = parts_of (state (Some l)) t (found l) f same in (
                rw is (sym both.0),
                rw (is, wrong, ← both.1)
                    (joined (first_wrong name findings ls) (last_or (Some l) ls) (found l) (filter_map found ls)),
              )

          by : (b : Bool) → has_data line ≡ b →
              (if b then unless {A = S × Option B} (wrong_at name findings l) (state (Some l), found l) else Ok (state before, None))
              ≡ Ok (t, f) → Goes t f
          by true is h = by_wrong (wrong_at name findings l) is refl h
          by false is h =
              let pair : S × Option B = (state before, None) in
              let same : pair ≡ (t, f) = (no_fault None pair (t, f) h).1 in
              let both = parts_of (state before) t None f same in
              (rw is (sym both.0), rw (is, ← both.1) (sym (no_front (told (n + 1) before parts))))

      fails : (e : LineFault) → read ≡ Err e → told n before (line ∷ parts) ≡ Err e
      fails e h = by (has_data line) refl h
        where
          by_wrong : (o : Option LineFault) → has_data line ≡ true → wrong_at name findings l ≡ o →
              unless {A = S × Option B} o (state (Some l), found l) ≡ Err e → told n before (line ∷ parts) ≡ Err e
          by_wrong None is wrong h = absurd (cc)
          by_wrong (Some g) is wrong h = rw (is, wrong) cc

          by : (b : Bool) → has_data line ≡ b →
              (if b then unless {A = S × Option B} (wrong_at name findings l) (state (Some l), found l) else Ok (state before, None))
              ≡ Err e → told n before (line ∷ parts) ≡ Err e
          by true is h = by_wrong (wrong_at name findings l) is refl h
          by false is h = absurd (cc)

  module _ (parts : List (Bor (List ℕ))) where
    abbrev all : List DataLine
    all = data_lines_from 1 None (texts parts)

    -- the state s after i lines, in which the front was found
    abbrev pub IsRead : ℕ → S → List B → Type 0
    IsRead i s front = (before : Option DataLine) × (s ≡ state before)
        × (with_front front (told (i + 1) before (texts (drop i parts))) ≡ told 1 None (texts parts))

    abbrev pub Reads : ℕ → S → (Result (S × Option B) LineFault → Type 0) → Type 0
    Reads i s P = (before : Option DataLine) → s ≡ state before →
        P (read_of name findings state found (i + 1) before (part_at parts i))

    pub begins : IsRead 0 (state None) []
    begins = (None, refl, no_front (told 1 None (texts parts)))

    pub goes_on : (i : ℕ) (s t : S) (front : List B) (f : Option B) → i < length parts →
        Reads i s (λ read. read ≡ Ok (t, f)) → IsRead i s front → IsRead (i + 1) t (front ++ option_to_list f)
    goes_on i s t front f lt h so_far =
        let before = so_far.0 in
        let line = part_at parts i in
        let step = goes (i + 1) before line (texts (drop (i + 1) parts)) t f (h before so_far.1) in
        let next = after (i + 1) before line in
        let one : with_front front (told (i + 1) before (texts (drop i parts)))
        ≡ with_front (front ++ option_to_list f) (told (i + 1 + 1) next (texts (drop (i + 1) parts)))
        = rw (one_more parts i lt, step.1) (regroup front (option_to_list f) _) in
        (next, step.0, sym one ∙ so_far.2)

    pub ends : {A : Type 0} (e : UcdError) (i : ℕ) (s : S) (front : List B) (p : Option LineFault) (x : A) → i < length parts →
        Reads i s (Fails e) → IsRead i s front → Fails e (unless (option_or (first_wrong name findings all) p) x)
    ends errors.Memory i s front p x lt h so_far = tt
    ends (errors.Line e) i s front p x lt h so_far =
        let before = so_far.0 in
        let bad = fails (i + 1) before (part_at parts i) (texts (drop (i + 1) parts)) e (h before so_far.1) in
        let one : with_front front (told (i + 1) before (texts (drop i parts))) ≡ Err e
        = rw (one_more parts i lt, bad) refl in
        fails_first (errors.Line e) (first_wrong name findings all) p _ x (sym so_far.2 ∙ one)

    pub record Done (s : S) (front : List B) : Type 0 where
      pub right : first_wrong name findings all ≡ None
      pub state_is : s ≡ state (last_or None all)
      pub front_is : filter_map found all ≡ front

    pub done : (i : ℕ) (s : S) (front : List B) → length parts ≤ i → IsRead i s front → Done s front
    done i s front le so_far =
        let before = so_far.0 in
        let one : with_front front (told (i + 1) before (texts (drop i parts))) ≡ Ok (before, front)
        = rw (drop_of_length-le parts le) (ap (λ (ys : List B). Ok (before, ys)) (append-nil front)) in
        let pair : Option DataLine × List B = (last_or None all, filter_map found all) in
        let whole = no_fault (first_wrong name findings all) pair (before, front) (sym so_far.2 ∙ one) in
        let both = parts_of (last_or None all) before (filter_map found all) front whole.1 in
        record { right = whole.0; state_is = so_far.1 ∙ ap state (sym both.0); front_is = both.1 }
