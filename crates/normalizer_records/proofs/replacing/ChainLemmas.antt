-- Chains of records through a character, by what leads on from it and what leads to it.
use Rattle.std.proofs.Common.{◌≡◌, ◌||◌, ◌&&◌, Bool, ℕ, zero, suc, ◌+◌, ◌-◌, ◌≤◌, ◌<◌, ◌↔◌, List, [], ◌∷◌, ◌++◌, length, get_or, min, take, refl, Some, None, is_some}
use Rattle.std.proofs.Common.{inl, inr, sym, ap, subst, ◌∙◌, arith, append_assoc, length-append, drop, map, flat_map, find, true, false, ◌==◌, if◌then◌else◌, Contains, IsTrue}
use Rattle.std.specs.BTreeSet.{BTreeSet, contains, IsFromIterResult}
use Rattle.std.specs.Option.{option_map_or}
use Rattle.std.specs.Ordering.{nat_cmp}
use Rattle.std.proofs.lemmas.Bool.{cases_eq, lt-ltb, true≢false}
use Rattle.std.proofs.lemmas.Cmp.{nat_cmp_total}
use Rattle.std.proofs.lemmas.Bool.Decides.{Decides-and, Decides-or, nat_tests}
use Rattle.std.specs.List.{list_any}
use Rattle.std.proofs.Math.Seq.{split_at}
use Rattle.std.proofs.lemmas.List.{get_or_default, get_or-map, length-drop, length-map, take_all, take_more, length-take}
use Rattle.std.proofs.lemmas.List.Elements.{Contains-get_or, Contains-append_cases, Contains-append_left, Contains-append_right}
use Rattle.std.proofs.lemmas.List.Folds.{Any-from_list_any, list_any-from_Any}
use Rattle.std.proofs.lemmas.Map.Lookups.{exact_unsigned}
use Rattle.std.proofs.lemmas.Map.Views.{btree_set_contains_from_list, btree_set_contains_iff}
use Rattle.normalizer_records.specs.RecordValue.{RecordValue}
use Rattle.normalizer_records.specs.Meaning.{entry_of, mapping_of}
use Rattle.normalizer_records.specs.Faults.{AreRising, IsRecorded, IsChain, IsOnLongChain}
use Rattle.normalizer_records.specs.inner.Chains.{beginning, HasLed, IsBetween, IsLedTo, IsSetOf, leading, leads_on, LeadsOn}
use Rattle.normalizer_records.specs.inner.Lookup.{no_entry}
use Rattle.normalizer_records.proofs.record_faults.LookupLemmas.{find-found, stands_or_none}

-- an element with its key
pub Contains-map : {X : Type 0} (key : X → ℕ) (xs : List X) (x : X) → Contains xs x → Contains (map key xs) (key x)
Contains-map key xs x (k, within, is) = (k, omega (arith, length-map xs key), get_or-map key xs k x (key x) within ∙ ap key is)

is_some_find : {X : Type 0} (key : X → ℕ) (xs : List X) (c : ℕ) → Contains (map key xs) c → is_some (find (λ r. key r == c) xs) ≡ true
is_some_find key [] c h = let within = h.1 in absurd (omega arith)
is_some_find key (x ∷ xs) c (zero, within, is) = grind (arith, nat_tests)
is_some_find key (x ∷ xs) c (suc k, within, is) = grind (arith, nat_tests, is_some_find key xs c (k, omega arith, is))

Contains-from_flat_map : {X : Type 0} (f : X → List ℕ) (xs : List X) (y : ℕ) → Contains (flat_map f xs) y → (x : X) × Contains xs x × Contains (f x) y
Contains-from_flat_map f [] y h = let within = h.1 in absurd (omega arith)
Contains-from_flat_map f (x ∷ xs) y h = elim (Contains-append_cases (f x) (flat_map f xs) y h) [
  | inl here ↦ (x, (0, omega arith, refl), here)
  | inr later ↦ let r = Contains-from_flat_map f xs y later in let within = r.1.1 in (r.0, (suc r.1.0, omega arith, r.1.2), r.2)
]

Contains-flat_map : {X : Type 0} (f : X → List ℕ) (xs : List X) (y : ℕ) (x : X) → Contains xs x → Contains (f x) y → Contains (flat_map f xs) y
Contains-flat_map f [] y x inside h = let within = inside.1 in absurd (omega arith)
Contains-flat_map f (z ∷ xs) y x (zero, within, is) h = Contains-append_left (f z) (flat_map f xs) y (subst (λ (e : _). Contains (f e) y) (sym is) h)
Contains-flat_map f (z ∷ xs) y x (suc k, within, is) h = Contains-append_right (f z) (flat_map f xs) y (Contains-flat_map f xs y x (k, omega arith, is) h)

module _ (records : List RecordValue) where
  -- what has a mapping is recorded
  recorded_by : (c d : ℕ) → Contains (mapping_of records c) d → IsRecorded records c
  unfolding mapping_of
  recorded_by c d h = elim (entry_of records c) as (λ o. Contains (option_map_or (λ r. r.mapping) o []) d → is_some o ≡ true) [
    | None ↦ λ none. let within = none.1 in absurd (omega arith)
    | Some r ↦ λ _. refl
  ] h

  -- the end of a chain
  descend : (before rest : List ℕ) → IsChain records (before ++ rest) → IsChain records rest
  unfolding IsChain
  descend [] rest h = h
  descend (b ∷ before) rest h = descend before rest h.2

  on_from_chain : (n c : ℕ) (after : List ℕ) → n ≤ length after → IsChain records (c ∷ after) → LeadsOn records n c
  unfolding IsChain LeadsOn
  on_from_chain zero c after le h = h.0
  on_from_chain (suc n) c [] le h = absurd (omega arith)
  on_from_chain (suc n) c (d ∷ after) le h = (d, h.1, on_from_chain n d after (omega arith) h.2)

  pub chain_from_on : (n c : ℕ) → LeadsOn records n c → (after : List ℕ) × IsChain records (c ∷ after) × (length after ≡ n)
  unfolding IsChain LeadsOn
  chain_from_on zero c h = ([], (h, tt, tt), refl)
  chain_from_on (suc n) c (d, there, h) =
      let further = chain_from_on n d h in
      (d ∷ further.0, (recorded_by c d there, there, further.1), ap suc further.2)

  led_from_chain : (n c : ℕ) (before after : List ℕ) → n ≤ length before → IsChain records (before ++ c ∷ after) → IsLedTo records n c
  unfolding IsChain IsLedTo
  led_from_chain zero c before after le h = (descend before (c ∷ after) h).0
  led_from_chain (suc n) c before after le h =
      let i = length before - 1 in
      let b = get_or before i 0 in
      let split : before ≡ take i before ++ b ∷ [] = sym (take_all (i + 1) before (omega arith)) ∙ take_more before i 0 (omega arith) in
      let chain : IsChain records (take i before ++ b ∷ c ∷ after) = subst (IsChain records) (ap (λ x. x ++ c ∷ after) split ∙ append_assoc (take i before) (b ∷ []) (c ∷ after)) h in
      (b, (descend (take i before) (b ∷ c ∷ after) chain).1, led_from_chain n b (take i before) (c ∷ after) (omega (arith, length-take i before)) chain)

  chain_from_led : (n c : ℕ) (after : List ℕ) → IsLedTo records n c → IsChain records (c ∷ after) → (before : List ℕ) × IsChain records (before ++ c ∷ after) × (length before ≡ n)
  unfolding IsChain IsLedTo
  chain_from_led zero c after h chain = ([], chain, refl)
  chain_from_led (suc n) c after (b, there, h) chain =
      let higher = chain_from_led n b (c ∷ after) h (recorded_by b c there, there, chain) in
      let long = higher.2 in
      (higher.0 ++ b ∷ [], subst (IsChain records) (sym (append_assoc higher.0 (b ∷ []) (c ∷ after))) higher.1, simp length-append (omega arith))

  module _ (P : Type 0) where
    between : (n k c i : ℕ) → i ≤ n → LeadsOn records i c → IsLedTo records (n + k - i) c → IsBetween records P n k c
    unfolding IsBetween
    between zero k c i le on led = let none : i ≡ 0 = omega arith in inr (subst (λ (m : ℕ). LeadsOn records m c) none on, subst (λ (m : ℕ). IsLedTo records m c) (omega arith) led)
    between (suc n) k c i le on led = elim (cases_eq i (suc n)) [
      | inl all ↦ inr (subst (λ (m : ℕ). LeadsOn records m c) all on, subst (λ (m : ℕ). IsLedTo records m c) (omega arith) led)
      | inr less ↦ inl (between n (suc k) c i (omega arith) on (subst (λ (m : ℕ). IsLedTo records m c) (omega arith) led))
    ]

    parts : (P → ⊥) → (n k c : ℕ) → IsBetween records P n k c → (i j : ℕ) × LeadsOn records i c × IsLedTo records j c × (i + j ≡ n + k)
    unfolding IsBetween
    parts never zero k c (inl p) = absurd (never p)
    parts never zero k c (inr h) = (0, k, h.0, h.1, omega arith)
    parts never (suc n) k c (inl h) = let less = parts never n (suc k) c h in let sum = less.4 in (less.0, less.1, less.2, less.3, omega arith)
    parts never (suc n) k c (inr h) = (suc n, k, h.0, h.1, omega arith)

    pub IsBetween-iff_on_long_chain : (P → ⊥) → (c : ℕ) → IsBetween records P 16 0 c ↔ IsOnLongChain records c
    unfolding IsOnLongChain
    IsBetween-iff_on_long_chain never c = (there, back)
      where
        there : IsBetween records P 16 0 c → IsOnLongChain records c
        there h =
            let p = parts never 16 0 c h in
            let on = chain_from_on p.0 c p.2 in
            let led = chain_from_led p.1 c on.0 p.3 on.1 in
            let sum = p.4 in
            let long = on.2 in
            let long_before = led.2 in
            (led.0, on.0, led.1, simp length-append (omega arith))

        back : IsOnLongChain records c → IsBetween records P 16 0 c
        back (before, after, chain, long) =
            let sum : 16 < length before + length (c ∷ after) = simp length-append at long in
            let i = min 16 (length after) in
            between 16 0 c i (omega arith) (on_from_chain i c after (omega arith) (descend before (c ∷ after) chain)) (led_from_chain (16 + 0 - i) c before after (omega arith) chain)

    module _ (k : ℕ) (leading led : BTreeSet ℕ) (h : IsSetOf (IsLedTo records k) led) (c : ℕ) (old new : Bool) (is : new ≡ (old || (contains nat_cmp leading c && contains nat_cmp led c))) where
      pub IsBetween-zero : IsSetOf (LeadsOn records 0) leading → IsTrue old ↔ P → IsTrue new ↔ IsBetween records P 0 k c
      unfolding IsBetween
      IsBetween-zero on from = rw is (Decides-or _ _ from (Decides-and _ _ (on c) (h c)))

      pub IsBetween-more : (n : ℕ) → IsSetOf (LeadsOn records (suc n)) leading → IsTrue old ↔ IsBetween records P n (suc k) c → IsTrue new ↔ IsBetween records P (suc n) k c
      unfolding IsBetween
      IsBetween-more n on from = rw is (Decides-or _ _ from (Decides-and _ _ (on c) (h c)))

  leads-by_member : (b c : ℕ) → Contains (mapping_of records b) c → leads_on records b ≡ true
  leads-by_member b c h = let within = h.1 in lt-ltb 0 (length (mapping_of records b)) (omega arith)

  leads_in_chain : (d : ℕ) (rest : List ℕ) → 0 < length rest → IsChain records (d ∷ rest) → leads_on records d ≡ true
  unfolding IsChain
  leads_in_chain d [] some chain = absurd (omega arith)
  leads_in_chain d (e ∷ rest) some chain = leads-by_member d e chain.1

  -- if so few records lead to no character from which one leads on, no chain is long
  pub no_long_chain : (k : ℕ) (led : BTreeSet ℕ) → k < 16 → HasLed records k led → length led.keys ≡ 0 → (c : ℕ) → IsOnLongChain records c → ⊥
  unfolding IsOnLongChain
  no_long_chain k led low is none c (before, after, chain, long) =
      let xs = before ++ c ∷ after in
      let d = get_or xs k 0 in
      let split : xs ≡ take k xs ++ d ∷ drop (suc k) xs = split_at xs k 0 (omega arith) in
      let there = subst (IsChain records) split chain in
      let reached = led_from_chain k d (take k xs) (drop (suc k) xs) (omega (arith, length-take k xs)) there in
      let on = leads_in_chain d (drop (suc k) xs) (omega (arith, length-drop (suc k) xs)) (descend (take k xs) (d ∷ drop (suc k) xs) there) in
      let within = ((btree_set_contains_iff nat_cmp_total exact_unsigned led d).0 (is d reached on)).1 in
      absurd (omega arith)

  -- a recorded character is that of a record
  pub record_of : (c : ℕ) → IsRecorded records c → (r : RecordValue) × Contains records r × (r.c ≡ c)
  unfolding entry_of
  record_of c h = elim (stands_or_none (λ (r : RecordValue). r.c) records c) [
    | inl at ↦ (get_or records at.0 no_entry, Contains-get_or records at.0 no_entry at.1.within, at.1.there no_entry)
    | inr none ↦ absurd (true≢false (sym h ∙ ap is_some none))
  ]

  pub IsSetOf-recorded : (s : BTreeSet ℕ) → IsFromIterResult nat_cmp (map (λ r. r.c) records) s → IsSetOf (IsRecorded records) s
  unfolding entry_of
  IsSetOf-recorded s is c =
      let have = btree_set_contains_from_list nat_cmp_total exact_unsigned (map (λ (r : RecordValue). r.c) records) s is c in (
        λ h. is_some_find (λ (r : RecordValue). r.c) records c (have.0 h),
        λ h. let r = record_of c h in have.1 (subst (Contains (map (λ (e : RecordValue). e.c) records)) r.2 (Contains-map (λ (e : RecordValue). e.c) records r.0 r.1)),
      )

  pub HasLed-recorded : (s : BTreeSet ℕ) → IsFromIterResult nat_cmp (map (λ r. r.c) records) s → HasLed records 0 s
  unfolding IsLedTo
  HasLed-recorded s is c recorded on = (IsSetOf-recorded s is c).1 recorded

  module _ (rising : AreRising records) where
    -- a mapping is that of a record
    mapping-of_record : (r : RecordValue) → Contains records r → mapping_of records r.c ≡ r.mapping
    unfolding mapping_of entry_of
    mapping-of_record r (k, within, is) =
        ap (λ o. option_map_or (λ (e : RecordValue). e.mapping) o []) (find-found (λ (e : RecordValue). e.c) records rising r.c k r
        (record { within = within; there = λ d. ap (λ (e : RecordValue). e.c) (get_or_default records k d r within ∙ is) }) (sym is))

    record_with : (c d : ℕ) → Contains (mapping_of records c) d → (r : RecordValue) × Contains records r × (r.c ≡ c) × Contains r.mapping d
    record_with c d h =
        let r = record_of c (recorded_by c d h) in
        (r.0, r.1, r.2, subst (λ (y : List ℕ). Contains y d) (ap (mapping_of records) (sym r.2) ∙ mapping-of_record r.0 r.1) h)

    module _ (n : ℕ) (set s : BTreeSet ℕ) where
      pub LeadsOn-more : IsSetOf (LeadsOn records n) set → IsFromIterResult nat_cmp (flat_map (beginning set) records) s → IsSetOf (LeadsOn records (suc n)) s
      unfolding LeadsOn
      LeadsOn-more on is c = let have = btree_set_contains_from_list nat_cmp_total exact_unsigned (flat_map (beginning set) records) s is c in (λ h. there (have.0 h), λ h. have.1 (back h))
        where
          in_record : (r : RecordValue) → Contains records r → (b : Bool) → list_any (contains nat_cmp set) r.mapping ≡ b → Contains (if b then r.c ∷ [] else []) c → LeadsOn records (suc n) c
          in_record r inside false off at = let within = at.1 in absurd (omega arith)
          in_record r inside true holds (suc j, within, is) = absurd (omega arith)
          in_record r inside true holds (zero, within, is) =
              let (k, d, in_mapping, there, has) = Any-from_list_any (contains nat_cmp set) r.mapping holds in
              (d, subst (λ (y : List ℕ). Contains y d) (sym (mapping-of_record r inside) ∙ ap (mapping_of records) is) (k, in_mapping, there), (on d).0 has)

          there : Contains (flat_map (beginning set) records) c → LeadsOn records (suc n) c
          there h = let (r, inside, here) = Contains-from_flat_map (beginning set) records c h in in_record r inside _ refl here

          back : LeadsOn records (suc n) c → Contains (flat_map (beginning set) records) c
          back (d, h, further) =
              let (r, inside, same, (k, in_mapping, at)) = record_with c d h in
              let yes = list_any-from_Any (contains nat_cmp set) r.mapping (k, d, in_mapping, at, (on d).1 further) in
              Contains-flat_map (beginning set) records c r inside (rw yes (0, omega arith, same))

  leading-member : (mapping : List ℕ) (c : ℕ) → Contains mapping c → leads_on records c ≡ true → Contains (leading records mapping) c
  leading-member mapping c (k, within, is) on = rw (list_any-from_Any (leads_on records) mapping (k, c, within, is, on)) (k, within, is)

  pub HasLed-more : (n : ℕ) (set s : BTreeSet ℕ) → HasLed records n set → IsFromIterResult nat_cmp (flat_map (λ c. leading records (mapping_of records c)) set.keys) s → HasLed records (suc n) s
  unfolding IsLedTo
  HasLed-more n set s led is c (b, member, further) on =
      let listed = (btree_set_contains_iff nat_cmp_total exact_unsigned set b).0 (led b further (leads-by_member b c member)) in
      (btree_set_contains_from_list nat_cmp_total exact_unsigned (flat_map (λ e. leading records (mapping_of records e)) set.keys) s is c).1
      (Contains-flat_map (λ e. leading records (mapping_of records e)) set.keys c b listed (leading-member (mapping_of records b) c member on))

  pub IsLedTo-more : (n : ℕ) (set s : BTreeSet ℕ) → IsSetOf (IsLedTo records n) set → IsFromIterResult nat_cmp (flat_map (mapping_of records) set.keys) s → IsSetOf (IsLedTo records (suc n)) s
  unfolding IsLedTo
  IsLedTo-more n set s led is c =
      let have = btree_set_contains_from_list nat_cmp_total exact_unsigned (flat_map (mapping_of records) set.keys) s is c in
      let listed = btree_set_contains_iff nat_cmp_total exact_unsigned set in (
        λ h. let (b, inside, member) = Contains-from_flat_map (mapping_of records) set.keys c (have.0 h) in (b, member, (led b).0 ((listed b).1 inside)),
        λ (b, member, further). have.1 (Contains-flat_map (mapping_of records) set.keys c b ((listed b).0 ((led b).1 further)) member),
      )
