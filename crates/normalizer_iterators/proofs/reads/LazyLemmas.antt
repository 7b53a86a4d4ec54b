-- Lemmas on what is read lazily: the reading that the data yield, and runs of a delegate.
use Rattle.std.proofs.Common.{◌≡◌, ℕ, ◌<◌, ◌≤◌, Bool, true, false, ◌||◌, List, [], ◌∷◌, ◌++◌, refl, sym, ap, ◌∙◌, subst, Option, Some, None, inl, inr, option_to_list}
use Rattle.std.proofs.lemmas.Bool.{cases_Bool, cases_lt}
use Rattle.std.specs.Iterator.{Yields, YieldsThen}
use Rattle.normal_forms.specs.Reading.{Reading}
use Rattle.normal_forms.specs.ShortRuns.{continues, is_empty}
use Rattle.normalizer_tables.specs.declared.characters.IgnoredCharacters.{IgnoredCharacters}
use Rattle.normalizer_tables.specs.Characters.{Characters, list_of}
use Rattle.normalizer_tables.specs.Ignored.{ignored_list}
use Rattle.normalizer_tables.specs.Pairs.{Pair}
use Rattle.normalizer_tables.specs.Readings.{reading_by}
use Rattle.normalizer_text.specs.DecodingSteps.{Spells}
use Rattle.normalizer_iterators.specs.Delegate.{ComesAfter, Extent, MayYield, SpellsAfter}
use Rattle.normalizer_iterators.specs.Delegate.Extent.{to_end, so_far}
use Rattle.normalizer_iterators.specs.LazyReading.{HasClassesFrom}

-- ---- the reading that the data yield

pub class-reading_by : (s : Characters) (ignored : IgnoredCharacters) (pairs : List Pair) → HasClassesFrom s (reading_by s ignored pairs)
class-reading_by s ignored pairs c = refl

pub list-reading_by : (s : Characters) (ignored : IgnoredCharacters) (pairs : List Pair) (c : ℕ) → (reading_by s ignored pairs).list c ≡ list_of s (ignored_list ignored) c
list-reading_by s ignored pairs c = refl

-- ---- what continues

is_empty-false : (x : List ℕ) → (x ≡ [] → ⊥) → is_empty x ≡ false
is_empty-false [] some = absurd (some refl)
is_empty-false (c ∷ x) some = refl

pub continues-at_boundary : (f : ℕ → Bool) (d : Reading) (c : ℕ) → f c ≡ false → (d.list c ≡ [] → ⊥) → continues f d c ≡ false
unfolding continues
continues-at_boundary f d c other some = ap (λ b. b || is_empty (d.list c)) other ∙ is_empty-false (d.list c) some

is_empty-cases : (x : List ℕ) → is_empty x ≡ false → (first : ℕ) × (others : List ℕ) × (x ≡ first ∷ others)
is_empty-cases [] e = cc
is_empty-cases (c ∷ x) e = (c, x, refl)

-- a character after a boundary has no class form, and a list with a first member
pub at_boundary-parts : (f : ℕ → Bool) (d : Reading) (c : ℕ) → continues f d c ≡ false → (f c ≡ false) × (first : ℕ) × (others : List ℕ) × (d.list c ≡ first ∷ others)
unfolding continues
at_boundary-parts f d c e =
    elim (cases_Bool (f c)) [
      | inl form ↦ cc (e, ap (λ b. b || is_empty (d.list c)) form)
      | inr other ↦
          let some = is_empty-cases (d.list c) (sym (ap (λ b. b || is_empty (d.list c)) other) ∙ e) in
          (other, some.0, some.1, some.2)
    ]

-- a character that no boundary precedes continues
pub continues-else : (f : ℕ → Bool) (d : Reading) (c : ℕ) → (continues f d c ≡ false → false ≡ true) → continues f d c ≡ true
continues-else f d c other =
    elim (cases_Bool (continues f d c)) [
      | inl continuing ↦ continuing
      | inr at_boundary ↦ cc (other at_boundary)
    ]

pub too_many : (n m : ℕ) → (n ≤ m → false ≡ true) → m < n
too_many n m fails =
    elim (cases_lt m n) [
      | inl above ↦ above
      | inr fits ↦ cc (fails fits)
    ]

-- ---- runs of a delegate

module _ {I : Type 0} (gives : I → Option ℕ → I → Type 0) where
  pub Yields-one_more : (s : I) (xs : List ℕ) (t : I) (x : ℕ) (u : I) → Yields gives s xs t → gives t (Some x) u → Yields gives s (xs ++ x ∷ []) u
  Yields-one_more s [] t x u run step = (u, subst (λ j. gives j (Some x) u) (sym run) step, refl)
  Yields-one_more s (y ∷ ys) t x u run step = (run.0, run.1, Yields-one_more run.0 ys t x u run.2 step)

  -- what was yielded is at the front of what is spelled
  pub spelled_behind : (s : I) (xs : List ℕ) (t : I) (x : List ℕ) → Yields gives s xs t → Spells gives s x → (rest : List ℕ) × (x ≡ xs ++ rest) × Spells gives t rest
  spelled_behind s [] t x run spells = (x, refl, subst (λ j. Spells gives j x) run spells)
  spelled_behind s (y ∷ ys) t [] run spells = absurd (spells y run.0 run.1)
  spelled_behind s (y ∷ ys) t (c ∷ x) run spells =
      let first = spells.1 y run.0 run.1 in
      let later = spelled_behind run.0 ys t x run.2 first.1 in
      (later.0, ap (λ z. z ∷ x) (sym first.0) ∙ ap (λ l. y ∷ l) later.1, later.2)

  pub spelled_next : (t : I) (pending : Option ℕ) (u : I) (x : List ℕ) → gives t pending u → Spells gives t x → (rest : List ℕ) × (x ≡ option_to_list pending ++ rest)
      × SpellsAfter gives pending u rest
  spelled_next t None u [] step spells = ([], refl, refl)
  spelled_next t None u (c ∷ x) step spells = absurd (spells.0 u step)
  spelled_next t (Some c) u [] step spells = absurd (spells c u step)
  spelled_next t (Some c) u (b ∷ x) step spells = let first = spells.1 c u step in (x, ap (λ z. z ∷ x) (sym first.0), first.1)

  pub spelled_then : (s : I) (xs : List ℕ) (pending : Option ℕ) (u : I) (x : List ℕ) → YieldsThen gives s xs pending u → Spells gives s x → (rest : List ℕ)
      × (x ≡ xs ++ (option_to_list pending ++ rest)) × SpellsAfter gives pending u rest
  spelled_then s xs pending u x run spells =
      let before = spelled_behind s xs run.0 x run.1 spells in
      let next = spelled_next run.0 pending u before.0 run.2 before.2 in
      (next.0, before.1 ∙ ap (λ l. xs ++ l) next.1, next.2)

  -- ---- what may be yielded after a call may be yielded before it, after what the call yielded

  MayYield-some : (e : Extent) (t : I) (c : ℕ) (u : I) (x : List ℕ) → gives t (Some c) u → MayYield gives e u x → MayYield gives e t (c ∷ x)
  MayYield-some to_end t c u x step h =
      let (after, run) = h in
      let (last, yields, end) = run in
      (after, (last, (u, step, yields), end))
  MayYield-some so_far t c u x step h = (h.0, (u, step, h.1))

  MayYield-none : (e : Extent) (t u : I) → gives t None u → MayYield gives e t []
  MayYield-none to_end t u step = (u, (t, refl, step))
  MayYield-none so_far t u step = (t, refl)

  pub MayYield-next : (e : Extent) (t : I) (pending : Option ℕ) (u : I) (x : List ℕ) → gives t pending u → ComesAfter (MayYield gives e) pending u x → MayYield gives e t (option_to_list pending ++ x)
  MayYield-next e t None u x step h = subst (MayYield gives e t) (sym h) (MayYield-none e t u step)
  MayYield-next e t (Some c) u x step h = MayYield-some e t c u x step h

  MayYield-behind : (e : Extent) (s : I) (xs : List ℕ) (t : I) (x : List ℕ) → Yields gives s xs t → MayYield gives e t x → MayYield gives e s (xs ++ x)
  MayYield-behind e s [] t x run h = subst (λ j. MayYield gives e j x) (sym run) h
  MayYield-behind e s (y ∷ ys) t x run h = MayYield-some e s y run.0 (ys ++ x) run.1 (MayYield-behind e run.0 ys t x run.2 h)

  pub MayYield-then : (e : Extent) (s : I) (xs : List ℕ) (pending : Option ℕ) (u : I) (x : List ℕ) → YieldsThen gives s xs pending u → ComesAfter (MayYield gives e) pending u x
      → MayYield gives e s (xs ++ (option_to_list pending ++ x))
  MayYield-then e s xs pending u x run h = MayYield-behind e s xs run.0 (option_to_list pending ++ x) run.1 (MayYield-next e run.0 pending u x run.2 h)
