-- The first requirement that isn't met: of two lists of requirements put together, of the data of each kind, and of all.
use Rattle.std.proofs.Common.{◌≡◌, ◌∙◌, ◌↔◌, ◌⊎◌, inl, inr, ℕ, suc, ◌<◌, ◌≤◌, ◌==◌, true, false, List, [], ◌∷◌, ◌++◌, length, map, flat_map, get_or, All, Option, Some, None, IfSome}
use Rattle.std.proofs.Common.{ap, eqb-true, if◌then◌else◌, subst, sym, refl, arith}
use Rattle.std.proofs.lemmas.Bool.Decides.{nat_tests}
use Rattle.std.proofs.lemmas.List.{append_assoc, get_or_default, get_or-map, length-append, length-map}
use Rattle.std.proofs.lemmas.List.Elements.{All-append, All-cons, All-contains, All-nil}
use Rattle.std.specs.Option.{option_map}
use Rattle.normalizer_tables.specs.declared.condition.Condition.{Condition}
use Rattle.normalizer_tables.specs.conditions.Conditions.{every_condition, IsFirstFailing, IsMet, number_of}
use Rattle.normalizer_tables.specs.Steps.{step_to}
use Rattle.normalizer_tables.specs.declared.entry.Kind.{Kind}
use Rattle.normalizer_tables.specs.declared.entry.Kind.TheVariants.{Canonical, Compatibility, Mapper}
use Rattle.normalizer_check.proofs.conditions.FailingLemmas.{IsFirstFailing-here, IsFirstFailing-next}
use Rattle.normalizer_check.proofs.conditions.LoadedLemmas.{All-behind, All-front}
use Rattle.normalizer_packing.specs.declared.Packed.{Packed}
use Rattle.normalizer_packing.proofs.entry_data.EntryLemmas.{find-tells}
use Rattle.normalizer_records.specs.RecordValue.{RecordValue}
use Rattle.normalizer_records.specs.Meaning.{entry_of, canonical_mapping_of}
use Rattle.normalizer_records.specs.Recorded.{recorded_step}
use Rattle.normalizer_records.specs.Faults.{AreRising}
use Rattle.normalizer_records.proofs.record_faults.LookupLemmas.{find-found}
use Rattle.normalizer_builder.specs.declared.demand.Demand.{Demand}
use Rattle.normalizer_builder.specs.declared.demand.Demand.TheVariants.{Asks, KeepsMappings}
use Rattle.normalizer_builder.specs.Demands.{conditions_of, constructor_demands, IsFirstUnmet, is_asked, KeepsMapping, loaded_of, Meets, reported_number}
use Rattle.normalizer_builder.specs.inner.Earlier.{asked_of, earlier}
use Rattle.normalizer_builder.specs.inner.Parts.{KeepsRecord}

module _ {D : Type 0} (P : D → Type 0) where
  first_is : (Q : D → Type 0) (xs : List D) (r : Option D) → All Q xs → IsFirstFailing P xs r → IfSome r Q
  unfolding IsFirstFailing
  first_is Q xs None all h = tt
  first_is Q xs (Some d) all h = All-behind Q h.0 (d ∷ h.1) (subst (All Q) h.2 all) 0 d (omega arith)

  first_of_none : (r : Option D) → IsFirstFailing P [] r → r ≡ None
  unfolding IsFirstFailing
  first_of_none None h = refl
  first_of_none (Some d) h = absurd (let same : 0 ≡ length (h.0 ++ d ∷ h.1) = ap length h.2 in omega (arith, same, length-append h.0 (d ∷ h.1)))

  first_in_front : (xs ys : List D) (d : D) → IsFirstFailing P xs (Some d) → IsFirstFailing P (xs ++ ys) (Some d)
  unfolding IsFirstFailing
  first_in_front xs ys d h = (h.0, h.1 ++ ys, ap (λ x. x ++ ys) h.2 ∙ append_assoc h.0 (d ∷ h.1) ys, h.3, h.4)

  first_behind : (xs ys : List D) (r : Option D) → All P xs → IsFirstFailing P ys r → IsFirstFailing P (xs ++ ys) r
  unfolding IsFirstFailing
  first_behind xs ys None met h = All-append P xs ys met h
  first_behind xs ys (Some d) met h = (xs ++ h.0, h.1, ap (λ y. xs ++ y) h.2 ∙ sym (append_assoc xs h.0 (d ∷ h.1)), All-append P xs h.0 met h.3, h.4)

  -- the head fails, or it holds
  split : (d : D) (ds : List D) (r : Option D) → IsFirstFailing P (d ∷ ds) r → ((r ≡ Some d) × (¬ P d)) ⊎ (P d × IsFirstFailing P ds r)
  unfolding IsFirstFailing
  split d ds None all = inr (all 0 d (omega arith), All-behind P (d ∷ []) ds all)
  split d ds (Some e) ([], after, same, met, fails) = inl (let head : d ≡ e = cc in (ap Some (sym head), rw head fails))
  split d ds (Some e) (x ∷ before, after, same, met, fails) =
      inr (let head : d ≡ x = cc in let rest : ds ≡ before ++ e ∷ after = cc in (rw head (met 0 x (omega arith)), (before, after, rest, All-behind P (x ∷ []) before met, fails)))

  -- one of the front fails, or all of it holds
  cases : (xs ys : List D) (r : Option D) → IsFirstFailing P (xs ++ ys) r → ((d : D) × (r ≡ Some d) × IsFirstFailing P xs (Some d)) ⊎ (All P xs × IsFirstFailing P ys r)
  cases [] ys r h = inr (All-nil P, h)
  cases (x ∷ xs) ys r h = elim (split x (xs ++ ys) r h) [
    | inl fails ↦ inl (x, fails.0, IsFirstFailing-here P x xs fails.1)
    | inr holds ↦ elim (cases xs ys r holds.1) [
      | inl front ↦ inl (front.0, front.1, IsFirstFailing-next P x xs (Some front.0) holds.0 front.2)
      | inr behind ↦ inr (All-cons P x xs holds.0 behind.0, behind.1)
    ]
  ]

  pub one_first : (xs : List D) (r s : Option D) → IsFirstFailing P xs r → IsFirstFailing P xs s → r ≡ s
  one_first [] r s h k = first_of_none r h ∙ sym (first_of_none s k)
  one_first (x ∷ xs) r s h k = elim (split x xs r h) [
    | inl fails ↦ elim (split x xs s k) [ inl also ↦ fails.0 ∙ sym also.0 | inr holds ↦ absurd (fails.1 holds.0) ]
    | inr holds ↦ elim (split x xs s k) [ inl fails ↦ absurd (fails.1 holds.0) | inr also ↦ one_first xs r s holds.1 also.1 ]
  ]

first_of_map : {C D : Type 0} (P : D → Type 0) (f : C → D) (xs : List C) (r : Option C) → IsFirstFailing (λ c. P (f c)) xs r → IsFirstFailing P (map f xs) (option_map f r)
unfolding IsFirstFailing
first_of_map P f [] r h = rw (first_of_none (λ c. P (f c)) r h) (All-nil P)
first_of_map P f (x ∷ xs) r h = elim (split (λ c. P (f c)) x xs r h) [
  | inl fails ↦ rw fails.0 (IsFirstFailing-here P (f x) (map f xs) fails.1)
  | inr holds ↦ IsFirstFailing-next P (f x) (map f xs) (option_map f r) holds.0 (first_of_map P f xs r holds.1)
]

earlier-first : (d : Demand) (b : Option Demand) → IfSome b (λ e. reported_number d ≤ reported_number e) → earlier (Some d) b ≡ Some d
earlier-first d None h = refl
earlier-first d (Some e) h = grind (arith, nat_tests)

earlier-second : (a : Option Demand) (e : Demand) → IfSome a (λ d. reported_number e < reported_number d) → earlier a (Some e) ≡ Some e
earlier-second None e h = refl
earlier-second (Some d) e h = grind (arith, nat_tests)

-- conditions by their numbers, from m on
abbrev AreNumbered : ℕ → List Condition → Type 0
AreNumbered m [] = Unit {0}
AreNumbered m (c ∷ cs) = (number_of c ≡ m) × AreNumbered (suc m) cs

-- what is reported under the number of a condition
abbrev AreOf : Condition → List Demand → Type 0
AreOf c ds = All (λ d. reported_number d ≡ number_of c) ds

from : (f : Condition → List Demand) → ((c : Condition) → AreOf c (f c)) → (cs : List Condition) (m : ℕ) → AreNumbered m cs → All (λ d. m ≤ reported_number d) (flat_map f cs)
from f of [] m numbers = All-nil (λ d. m ≤ reported_number d)
from f of (c ∷ cs) m numbers =
    All-append (λ d. m ≤ reported_number d) (f c) (flat_map f cs) (λ k d within. omega (arith, of c k d within, numbers.0)) (λ k d within. omega (arith, from f of cs (suc m) numbers.1 k d within))

-- of two requirements on each condition those of f come first
module _ (P : Demand → Type 0) (f g : Condition → List Demand) (of_f : (c : Condition) → AreOf c (f c)) (of_g : (c : Condition) → AreOf c (g c)) where
  pub first_of_both : (cs : List Condition) (m : ℕ) → AreNumbered m cs → (a b : Option Demand) → IsFirstFailing P (flat_map f cs) a → IsFirstFailing P (flat_map g cs) b →
      IsFirstFailing P (flat_map (λ c. f c ++ g c) cs) (earlier a b)
  unfolding IsFirstFailing
  first_of_both [] m numbers a b h k = rw (first_of_none P a h, first_of_none P b k) (All-nil P)
  first_of_both (c ∷ cs) m numbers a b h k =
      let both = flat_map (λ e. f e ++ g e) cs in
      elim (cases P (f c) (flat_map f cs) a h) [
        | inl (d, same, first) ↦
            let number : reported_number d ≡ m = first_is P (λ e. reported_number e ≡ number_of c) (f c) (Some d) (of_f c) first ∙ numbers.0 in
            let least = first_is P (λ e. m ≤ reported_number e) (flat_map g (c ∷ cs)) b (from g of_g (c ∷ cs) m numbers) k in
            rw (same, earlier-first d b (rw number least)) (rw (append_assoc (f c) (g c) both) (first_in_front P (f c) (g c ++ both) d first))
        | inr (met, behind) ↦ elim (cases P (g c) (flat_map g cs) b k) [
          | inl (e, same, first) ↦
              let number : reported_number e ≡ m = first_is P (λ d. reported_number d ≡ number_of c) (g c) (Some e) (of_g c) first ∙ numbers.0 in
              let more = first_is P (λ d. suc m ≤ reported_number d) (flat_map f cs) a (from f of_f cs (suc m) numbers.1) behind in
              rw (same, earlier-second a e (rw number more)) (first_in_front P (f c ++ g c) both e (first_behind P (f c) (g c) (Some e) met first))
          | inr (also, others) ↦ first_behind P (f c ++ g c) both (earlier a b) (All-append P (f c) (g c) met also) (first_of_both cs (suc m) numbers.1 a b behind others)
        ]
      ]

  pub both_met : (cs : List Condition) → All P (flat_map (λ c. f c ++ g c) cs) → All P (flat_map f cs) × All P (flat_map g cs)
  both_met [] all = (all, all)
  both_met (c ∷ cs) all =
      let here = All-front P (f c ++ g c) (flat_map (λ e. f e ++ g e) cs) all in
      let others = both_met cs (All-behind P (f c ++ g c) (flat_map (λ e. f e ++ g e) cs) all) in
      (All-append P (f c) (flat_map f cs) (All-front P (f c) (g c) here) others.0, All-append P (g c) (flat_map g cs) (All-behind P (f c) (g c) here) others.1)

-- the requirements on the data of one kind, condition by condition
abbrev on : Kind → Condition → List Demand
on kind c = if is_asked c kind then Asks c kind ∷ [] else []

abbrev on_others : Condition → List Demand
on_others c = on Compatibility c ++ on Mapper c

of_on : (kind : Kind) (c : Condition) → AreOf c (on kind c)
of_on kind c = elim (is_asked c kind) as (λ b. AreOf c (if b then Asks c kind ∷ [] else [])) [
  | true ↦ All-cons (λ d. reported_number d ≡ number_of c) (Asks c kind) [] refl (All-nil (λ d. reported_number d ≡ number_of c))
  | false ↦ All-nil (λ d. reported_number d ≡ number_of c)
]

of_others : (c : Condition) → AreOf c (on_others c)
of_others c = All-append (λ d. reported_number d ≡ number_of c) (on Compatibility c) (on Mapper c) (of_on Compatibility c) (of_on Mapper c)

numbered : AreNumbered 1 every_condition
numbered = search

by_kind : (kind : Kind) → flat_map (on kind) every_condition ≡ asked_of kind
by_kind Canonical = refl
by_kind Compatibility = refl
by_kind Mapper = refl

module _ (p : Packed) where
  pub of_kind : (kind : Kind) (r : Option Condition) → IsFirstFailing (IsMet (loaded_of p kind)) (conditions_of kind) r →
      (records : List RecordValue) → IsFirstFailing (Meets records p) (asked_of kind) (option_map (λ c. Asks c kind) r)
  unfolding Meets
  of_kind kind r h records = first_of_map (Meets records p) (λ c. Asks c kind) (conditions_of kind) r h

  pub of_all_kinds : (a b m : Option Demand) → ((records : List RecordValue) → IsFirstFailing (Meets records p) (asked_of Canonical) a) →
      ((records : List RecordValue) → IsFirstFailing (Meets records p) (asked_of Compatibility) b) → ((records : List RecordValue) → IsFirstFailing (Meets records p) (asked_of Mapper) m) →
      (records : List RecordValue) → IsFirstFailing (Meets records p) constructor_demands (earlier a (earlier b m))
  of_all_kinds a b m canonical compatibility mapper records =
      let others = first_of_both (Meets records p) (on Compatibility) (on Mapper) (of_on Compatibility) (of_on Mapper) every_condition 1 numbered b m (compatibility records) (mapper records) in
      first_of_both (Meets records p) (on Canonical) on_others (of_on Canonical) of_others every_condition 1 numbered a (earlier b m) (canonical records) others

module _ (records : List RecordValue) (p : Packed) where
  -- the data keep a record if they keep the mapping of its character
  pub keeps_record : AreRising records → (k : ℕ) (r : RecordValue) → r ≡ get_or records k r → k < length records → KeepsRecord p r ↔ KeepsMapping records p r.c
  unfolding KeepsMapping recorded_step canonical_mapping_of entry_of
  keeps_record rising k r is within =
      rw (find-found (λ (e : RecordValue). e.c) records rising r.c k r (record { within = within; there = λ d. ap (λ (e : RecordValue). e.c) (get_or_default records k d r within ∙ sym is) }) is)
      (λ h. h, λ h. h)

  keep_records : AreRising records → All (KeepsRecord p) records ↔ All (λ r. KeepsMapping records p r.c) records
  keep_records rising =
      let each = λ (k : ℕ) (d : RecordValue) (within : k < length records). keeps_record rising k (get_or records k d) (get_or_default records k d (get_or records k d) within) within in
      (λ h k d within. (each k d within).0 (h k d within), λ h k d within. (each k d within).1 (h k d within))

  unrecorded_keeps : (n : ℕ) → entry_of records n ≡ None → KeepsMapping records p n
  unfolding KeepsMapping recorded_step canonical_mapping_of step_to
  unrecorded_keeps n missing = rw missing tt

  -- what holds of the recorded characters holds of all
  keeps_all : All (λ r. KeepsMapping records p r.c) records → (n : ℕ) → KeepsMapping records p n
  unfolding entry_of
  keeps_all kept n = elim (find-tells (λ (r : RecordValue). r.c == n) records) [
    | inl missing ↦ unrecorded_keeps n missing.0
    | inr there ↦ subst (KeepsMapping records p) (eqb-true _ _ there.3) (All-contains (λ (r : RecordValue). KeepsMapping records p r.c) records there.0 kept there.2)
  ]

  pub asked_unmet : (d : Demand) → IsFirstFailing (Meets records p) constructor_demands (Some d) → IsFirstUnmet records p (Some d)
  asked_unmet d h = first_in_front (Meets records p) constructor_demands (KeepsMappings ∷ []) d h

  pub all_met : AreRising records → IsFirstFailing (Meets records p) constructor_demands None → All (KeepsRecord p) records → IsFirstUnmet records p None
  unfolding IsFirstFailing Meets
  all_met rising met kept = All-append (Meets records p) constructor_demands (KeepsMappings ∷ []) met (All-cons (Meets records p) KeepsMappings [] (keeps_all ((keep_records rising).0 kept)) (All-nil (Meets records p)))

  pub mappings_unkept : AreRising records → IsFirstFailing (Meets records p) constructor_demands None → (¬ All (KeepsRecord p) records) → IsFirstUnmet records p (Some KeepsMappings)
  unfolding IsFirstFailing Meets
  mappings_unkept rising met lost =
      first_behind (Meets records p) constructor_demands (KeepsMappings ∷ []) (Some KeepsMappings) met (IsFirstFailing-here (Meets records p) KeepsMappings [] (λ all. lost ((keep_records rising).1 (λ k d within. all (get_or records k d).c))))

  -- the data of each kind meet all that is required of them
  pub fit_kind : IsFirstUnmet records p None → (kind : Kind) → All (IsMet (loaded_of p kind)) (conditions_of kind)
  unfolding IsFirstFailing Meets
  fit_kind met kind =
      let first = both_met (Meets records p) (on Canonical) on_others (of_on Canonical) of_others every_condition (All-front (Meets records p) constructor_demands (KeepsMappings ∷ []) met) in
      let others = both_met (Meets records p) (on Compatibility) (on Mapper) (of_on Compatibility) (of_on Mapper) every_condition first.1 in
      let parts : All (Meets records p) (asked_of kind) = elim kind as (λ k. All (Meets records p) (asked_of k)) [ Canonical ↦ first.0 | Compatibility ↦ others.0 | Mapper ↦ others.1 ] in
      λ k c within. subst (Meets records p) (get_or-map (λ e. Asks e kind) (conditions_of kind) k c (Asks c kind) within)
      (parts k (Asks c kind) (omega (arith, within, length-map (conditions_of kind) (λ e. Asks e kind))))

  -- the requirement on the mappings is the last
  pub mappings_met : IsFirstUnmet records p None → (n : ℕ) → KeepsMapping records p n
  unfolding IsFirstFailing Meets
  mappings_met met = All-behind (Meets records p) constructor_demands (KeepsMappings ∷ []) met 0 KeepsMappings (omega arith)
