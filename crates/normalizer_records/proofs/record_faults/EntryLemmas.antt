-- The first record whose lists show a fault, by the entries of all characters.
use Rattle.std.proofs.Common.{◌≡◌, ℕ, zero, suc, ◌<◌, ◌⊎◌, ◌↔◌, false, List, [], ◌∷◌, ◌++◌, get_or, map, All, Contains, IsSomeAnd}
use Rattle.std.proofs.Common.{Option, Some, None, inl, inr, refl, sym, ap, subst, ◌∙◌, arith}
use Rattle.std.specs.Prelude.{AllPairs}
use Rattle.std.proofs.lemmas.Bool.{cases_eq}
use Rattle.std.proofs.lemmas.List.{get_or-map, length-map}
use Rattle.std.proofs.lemmas.List.Kept.{AllPairs-from_increasing}
use Rattle.std.proofs.lemmas.List.Elements.{All-contains, Contains-append_left, Contains-append_right, Contains-get_or}
use Rattle.std.proofs.lemmas.Map.Made.{Contains-tail}
use Rattle.normalizer_tables.specs.Entries.{EntryValue}
use Rattle.normalizer_records.specs.declared.refusals.Findings.{Findings}
use Rattle.normalizer_records.specs.declared.records.BuildError.{BuildError}
use Rattle.normalizer_records.specs.declared.records.BuildError.TheVariants as error
use Rattle.normalizer_records.specs.RecordValue.{RecordValue, Uts46RecordValue}
use Rattle.normalizer_records.specs.Meaning.{canonical_list, mapper_list}
use Rattle.normalizer_records.specs.Faults.{HasClassFault, HasLengthFault, HasLongList, HasLongOwnList, HasWrongClass, HasWrongOwnClass, has_fixed_fault, IsAsked, IsTooLong, IsWrong}
use Rattle.normalizer_records.specs.AtFault.{first_of, IsCharacterOfFirst, IsFirstShowing, MapperShowsFault, ShowsFault}
use Rattle.normalizer_records.specs.Recorded.{recorded_characters}
use Rattle.normalizer_records.specs.inner.CutLists.{IsCutEntry}
use Rattle.normalizer_records.specs.inner.EntryFaults as entry
use Rattle.normalizer_records.specs.inner.Findings.{AreFound}
use Rattle.normalizer_records.proofs.checked_lists.ChecksOfCuts.{MayStandFor-some}
use Rattle.normalizer_records.proofs.checked_lists.OrLemmas.{either}
use Rattle.normalizer_records.proofs.checked_lists.UnrecordedLemmas.{HasLongOwnList-recorded, HasWrongOwnClass-recorded, mapper_recorded}
use Rattle.normalizer_records.proofs.record_faults.FirstLemmas.{alike, is_there}
use Rattle.normalizer_records.proofs.record_faults.RefusalLemmas.{first_here, first_next}
use Rattle.normalizer_records.proofs.record_faults.ShownLemmas.{IsShown, showing}
use Rattle.normalizer_records.proofs.replacing.ChainLemmas.{Contains-map}

from_map : {X : Type 0} (key : X → ℕ) (xs : List X) (c : ℕ) → Contains (map key xs) c → (x : X) × Contains xs x × (key x ≡ c)
from_map key [] c h = let within = h.1 in absurd (omega arith)
from_map key (x ∷ xs) c (zero, within, is) = (x, (0, omega arith, refl), is)
from_map key (x ∷ xs) c (suc k, within, is) =
    let r = from_map key xs c (k, omega arith, is) in
    let inside = r.1.1 in
    (r.0, (suc r.1.0, omega arith, r.1.2), r.2)

-- the first of many that rise, among some of them
module _ {X Y : Type 0} (key : X → ℕ) (at : Y → ℕ) (P : X → Type 0) (Q : ℕ → Type 0) where
  below : (before after : List X) (x : X) → AllPairs (λ x y. key x < key y) (before ++ x ∷ after) → All (λ x. P x ↔ Q (key x)) (before ++ x ∷ after) →
      All (λ x. ¬ P x) before → (c : ℕ) → c < key x → Contains (map key (before ++ x ∷ after)) c → ¬ Q c
  below [] after x rising same others c less (zero, within, is) q = absurd (omega arith)
  below [] after x rising same others c less (suc k, within, is) q =
      let r = from_map key after c (k, omega arith, is) in
      let inside = r.1.1 in
      let beyond = rising 0 (suc r.1.0) r.0 (omega arith) (omega arith) in
      let at' = ap key r.1.2 ∙ r.2 in
      absurd (omega arith)
  below (b ∷ before) after x rising same others c less (zero, within, is) q =
      others 0 b (omega arith) ((same 0 b (omega arith)).1 (subst Q (sym is) q))
  below (b ∷ before) after x rising same others c less (suc k, within, is) q =
      below before after x (λ i j d lt within. rising (suc i) (suc j) d (omega arith) (omega arith))
      (λ i d lt. same (suc i) d (omega arith)) (λ i d lt. others (suc i) d (omega arith)) c less (k, omega arith, is) q

  among : (ys : List Y) → AllPairs (λ x y. at x < at y) ys → (c : ℕ) → Contains (map at ys) c → Q c →
      ((d : ℕ) → d < c → Contains (map at ys) d → ¬ Q d) → IsCharacterOfFirst at (λ y. Q (at y)) ys (Some c)
  unfolding IsCharacterOfFirst
  among [] rising c inside here never = let within = inside.1 in absurd (omega arith)
  among (y ∷ ys) rising c inside here never = elim (cases_eq (at y) c) [
    | inl same ↦ (y, first_here (λ y. Q (at y)) y ys (subst Q (sym same) here), same)
    | inr other ↦
        let later = Contains-tail (at y) (map at ys) c other inside in
        let r = from_map at ys c later in
        let within = r.1.1 in
        let beyond = rising 0 (suc r.1.0) r.0 (omega arith) (omega arith) in
        let is = ap at r.1.2 ∙ r.2 in
        let less : at y < c = omega arith in
        let rest = among ys (λ i j d lt within. rising (suc i) (suc j) d (omega arith) (omega arith)) c later here
        (λ d lt there. let short = there.1 in never d lt (suc there.0, omega arith, there.2)) in
        (rest.0, first_next (λ y. Q (at y)) y ys (Some rest.0) (never (at y) less (0, omega arith, refl)) rest.1, rest.2)
  ]

  pub first_among : (xs : List X) (ys : List Y) → AllPairs (λ x y. key x < key y) xs → AllPairs (λ x y. at x < at y) ys →
      All (Contains (map key xs)) (map at ys) → All (λ x. P x ↔ Q (key x)) xs → ((c : ℕ) → Q c → Contains (map at ys) c) →
      (n : Option ℕ) → IsCharacterOfFirst key P xs n → IsCharacterOfFirst at (λ y. Q (at y)) ys n
  unfolding IsCharacterOfFirst
  first_among xs ys rising later all same recorded None none = λ k y lt q.
      let here = Contains-map at ys (get_or ys k y) (Contains-get_or ys k y lt) in
      let r = from_map key xs (at (get_or ys k y)) (All-contains (Contains (map key xs)) (map at ys) _ all here) in
      All-contains (λ x. ¬ P x) xs r.0 none r.1 ((All-contains (λ x. P x ↔ Q (key x)) xs r.0 same r.1).1 (subst Q (sym r.2) q))
  first_among xs ys rising later all same recorded (Some c) (x, (before, after, parts, others, shows), is) =
      let whole = subst (All (λ x. P x ↔ Q (key x))) parts same in
      let here : Q c = subst Q is ((All-contains (λ x. P x ↔ Q (key x)) xs x same (is_there xs before after x parts)).0 shows) in
      among ys later c (recorded c here) here
      (λ d lt inside. below before after x (subst (AllPairs (λ x y. key x < key y)) parts rising) whole others d (omega (arith, is))
      (subst (λ zs. Contains (map key zs) d) parts (All-contains (Contains (map key xs)) (map at ys) d all inside)))

swap_iff : {A B : Type 0} → A ↔ B → B ↔ A
swap_iff h = (h.1, h.0)

unshown : {X : Type 0} (key : X → ℕ) (Q : ℕ → Type 0) (xs : List X) (n : Option ℕ) → n ≡ None →
    IsCharacterOfFirst key (λ x. Q (key x)) xs n → (c : ℕ) → Contains (map key xs) c → ¬ Q c
unfolding IsCharacterOfFirst
unshown key Q xs None none h c inside q =
    let r = from_map key xs c inside in
    All-contains (λ x. ¬ Q (key x)) xs r.0 h r.1 (subst Q (sym r.2) q)
unshown key Q xs (Some d) none h c inside q = absurd cc

module _ (records : List RecordValue) (uts46 : List Uts46RecordValue) (e : EntryValue) (cut : IsCutEntry records uts46 e) where
  own_class : entry.HasWrongOwnClass records e ↔ HasWrongOwnClass records e.character
  unfolding HasWrongOwnClass
  own_class =
      let class = cut.class in
      rw class (either (λ h. h, λ h. h) (either (cut.canonical.wrong e.character _) (cut.compatibility.wrong e.character _)))

  own_length : entry.HasLongOwnList e ↔ HasLongOwnList records e.character
  unfolding HasLongOwnList
  own_length = either cut.canonical.long cut.compatibility.long

  mapper_class : entry.HasWrongMapperList records e ↔ IsSomeAnd (mapper_list records uts46 e.character) (IsWrong records e.character false)
  mapper_class = MayStandFor-some records (IsWrong records e.character false) (λ list cut h. h.wrong e.character false) _ _ cut.mapper

  mapper_length : entry.HasLongMapperList e ↔ IsSomeAnd (mapper_list records uts46 e.character) IsTooLong
  mapper_length = MayStandFor-some records IsTooLong (λ list cut h. h.long) _ _ cut.mapper

swapped : {A B C : Type 0} → B ↔ C → (B × A) ↔ (A × C)
swapped same = (λ h. (h.1, same.0 h.0), λ h. (same.1 h.1, h.0))

-- by the canonical list, unless there is a record of the mapper
wrong_canonical : (records : List RecordValue) (uts46 : List Uts46RecordValue) (c : ℕ) → mapper_list records uts46 c ≡ Some (canonical_list records c) →
    IsSomeAnd (mapper_list records uts46 c) (IsWrong records c false) → HasWrongOwnClass records c
unfolding HasWrongOwnClass
wrong_canonical records uts46 c is h =
    let wrong : IsWrong records c false (canonical_list records c) = rw is at h in
    inr (inl (elim wrong.0 [ inl never ↦ absurd cc | inr begins ↦ inr begins ], wrong.1))

long_canonical : (records : List RecordValue) (uts46 : List Uts46RecordValue) (c : ℕ) → mapper_list records uts46 c ≡ Some (canonical_list records c) →
    IsSomeAnd (mapper_list records uts46 c) IsTooLong → HasLongOwnList records c
unfolding HasLongOwnList
long_canonical records uts46 c is h = inl (rw is at h)

-- what records show of the one kind of their own characters, and of the other of characters that the mapper maps
record IsListFault (records : List RecordValue) (uts46 : List Uts46RecordValue) (e : BuildError) (Own Mapped : ℕ → Type 0) : Type 0 where
  own_is : (r : RecordValue) → ShowsFault records uts46 e r ↔ (IsAsked records uts46 r.c × Own r.c)
  mapped_is : (r : Uts46RecordValue) → MapperShowsFault records uts46 e r ↔ (IsAsked records uts46 r.c × Mapped r.c)
  recorded : (c : ℕ) → Own c → Contains (map (λ (r : RecordValue). r.c) records) c
  canonical : (c : ℕ) → mapper_list records uts46 c ≡ Some (canonical_list records c) → Mapped c → Own c

module _ (records : List RecordValue) (uts46 : List Uts46RecordValue) (fixed : has_fixed_fault records uts46 ≡ false) where
  class_fault : IsListFault records uts46 error.Class (HasWrongOwnClass records) (λ c. IsSomeAnd (mapper_list records uts46 c) (IsWrong records c false))
  unfolding ShowsFault MapperShowsFault
  class_fault = record {
    own_is = λ r. (λ h. h, λ h. h);
    mapped_is = λ r. (λ h. h, λ h. h);
    recorded = HasWrongOwnClass-recorded records uts46 fixed;
    canonical = wrong_canonical records uts46;
  }

  length_fault : IsListFault records uts46 error.Length (HasLongOwnList records) (λ c. IsSomeAnd (mapper_list records uts46 c) IsTooLong)
  unfolding ShowsFault MapperShowsFault
  length_fault = record {
    own_is = λ r. (λ h. h, λ h. h);
    mapped_is = λ r. (λ h. h, λ h. h);
    recorded = HasLongOwnList-recorded records uts46 fixed;
    canonical = long_canonical records uts46;
  }

  module _ (e : BuildError) (Own Mapped : ℕ → Type 0) (fault : IsListFault records uts46 e Own Mapped) where
    by_own : (c : ℕ) → IsAsked records uts46 c → Own c → IsShown records uts46 e
    by_own c asked own =
        let r = from_map (λ (r : RecordValue). r.c) records c (fault.recorded c own) in
        inl (r.0, r.1, (fault.own_is r.0).1 (rw r.2 (asked, own)))

    shown_of : ((c : ℕ) × IsAsked records uts46 c × (Own c ⊎ Mapped c)) ↔ IsShown records uts46 e
    shown_of = (there, back)
      where
        there : ((c : ℕ) × IsAsked records uts46 c × (Own c ⊎ Mapped c)) → IsShown records uts46 e
        there (c, asked, inl own) = by_own c asked own
        there (c, asked, inr mapped) = elim (mapper_recorded records uts46 fixed c) [
          | inl listed ↦ let r = from_map (λ (r : Uts46RecordValue). r.c) uts46 c listed in inr (r.0, r.1, (fault.mapped_is r.0).1 (rw r.2 (asked, mapped)))
          | inr same ↦ by_own c asked (fault.canonical c same mapped)
        ]

        back : IsShown records uts46 e → (c : ℕ) × IsAsked records uts46 c × (Own c ⊎ Mapped c)
        back (inl (r, inside, shows)) = let h = (fault.own_is r).0 shows in (r.c, h.0, inl h.1)
        back (inr (r, inside, shows)) = let h = (fault.mapped_is r).0 shows in (r.c, h.0, inr h.1)

  pub IsShown-class : HasClassFault records uts46 ↔ IsShown records uts46 error.Class
  unfolding HasClassFault HasWrongClass
  IsShown-class = shown_of _ _ _ class_fault

  pub IsShown-length : HasLengthFault records uts46 ↔ IsShown records uts46 error.Length
  unfolding HasLengthFault HasLongList
  IsShown-length = shown_of _ _ _ length_fault

-- the first record that shows a fault of lists, by the entries
module _ (f : Findings) (found : AreFound f) where
  abbrev key : EntryValue → ℕ
  key e = e.character

  abbrev of_record : RecordValue → ℕ
  of_record r = r.c

  abbrev of_mapper : Uts46RecordValue → ℕ
  of_mapper r = r.c

  abbrev Asked : (ℕ → Type 0) → ℕ → Type 0
  Asked Q c = IsAsked f.records f.uts46 c × Q c

  abbrev IsFirstEntry : (EntryValue → Type 0) → Option ℕ → Type 0
  IsFirstEntry P n = IsCharacterOfFirst (λ (e : EntryValue). e.character) (λ e. P e × IsAsked f.records f.uts46 e.character) f.entries.items n

  rising : AllPairs (λ x y. x.character < y.character) f.entries.items
  rising = λ i j d lt within.
      let same = length-map f.entries.items key in
      let less = AllPairs-from_increasing (map key f.entries.items) found.listed.rising i j 0 lt (omega arith) in
      let here = get_or-map key f.entries.items i d 0 (omega arith) in
      let there = get_or-map key f.entries.items j d 0 within in
      omega arith

  listed : (c : ℕ) → Contains (recorded_characters f.records f.uts46) c → Contains (map key f.entries.items) c
  listed c = All-contains (Contains (map key f.entries.items)) (recorded_characters f.records f.uts46) c found.listed.all

  first_of_entries : (e : BuildError) (Own Mapped : ℕ → Type 0) → IsListFault f.records f.uts46 e Own Mapped → (EntryOwn EntryMapped : EntryValue → Type 0) →
      ((x : EntryValue) → IsCutEntry f.records f.uts46 x → EntryOwn x ↔ Own x.character) →
      ((x : EntryValue) → IsCutEntry f.records f.uts46 x → EntryMapped x ↔ Mapped x.character) →
      (n m : Option ℕ) → IsFirstEntry EntryOwn n → IsFirstEntry EntryMapped m → IsFirstShowing f.records f.uts46 e (first_of n m)
  first_of_entries e Own Mapped fault EntryOwn EntryMapped own_same mapped_same n m own mapped =
      let first = first_among key of_record (λ x. EntryOwn x × IsAsked f.records f.uts46 x.character) (Asked Own) f.entries.items f.records rising found.rising
      (λ k d lt. listed _ (Contains-append_left _ (map of_mapper f.uts46) _ (Contains-get_or (map of_record f.records) k d lt)))
      (λ k d lt. swapped (own_same _ (found.entries k d lt))) (λ c h. fault.recorded c h.1) n own in
      let mapper = λ (only : (c : ℕ) → Asked Mapped c → Contains (map of_mapper f.uts46) c).
      first_among key of_mapper (λ x. EntryMapped x × IsAsked f.records f.uts46 x.character) (Asked Mapped) f.entries.items f.uts46 rising found.mapper
      (λ k d lt. listed _ (Contains-append_right (map of_record f.records) _ _ (Contains-get_or (map of_mapper f.uts46) k d lt)))
      (λ k d lt. swapped (mapped_same _ (found.entries k d lt))) only m mapped in
      showing f.records f.uts46 e n m (alike of_record _ _ f.records (λ k d lt. swap_iff (fault.own_is _)) n first)
      (λ none. alike of_mapper _ _ f.uts46 (λ k d lt. swap_iff (fault.mapped_is _)) m (mapper (λ c h. elim (mapper_recorded f.records f.uts46 found.fixed c) [
        | inl there ↦ there
        | inr same ↦ let shown = fault.canonical c same h.1 in absurd (unshown of_record (Asked Own) f.records n none first c (fault.recorded c shown) (h.0, shown))
      ])))

  pub first_class : (n m : Option ℕ) → IsFirstEntry (entry.HasWrongOwnClass f.records) n → IsFirstEntry (entry.HasWrongMapperList f.records) m →
      IsFirstShowing f.records f.uts46 error.Class (first_of n m)
  first_class = first_of_entries _ _ _ (class_fault f.records f.uts46 found.fixed) _ _ (own_class f.records f.uts46) (mapper_class f.records f.uts46)

  pub first_length : (n m : Option ℕ) → IsFirstEntry entry.HasLongOwnList n → IsFirstEntry entry.HasLongMapperList m →
      IsFirstShowing f.records f.uts46 error.Length (first_of n m)
  first_length = first_of_entries _ _ _ (length_fault f.records f.uts46 found.fixed) _ _ (own_length f.records f.uts46) (mapper_length f.records f.uts46)
