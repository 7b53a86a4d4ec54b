-- Expansions, as far as there is room.
use Rattle.std.proofs.Common.{◌≡◌, ◌≢◌, ℕ, zero, suc, ◌+◌, ◌-◌, ◌<◌, ◌≤◌, List, [], ◌∷◌, ◌++◌, length, get_or, take, drop, refl, Some, sym, ap, ◌∙◌, arith}
use Rattle.std.proofs.Common.{slice_get, flat_map, take-append-drop, append_assoc}
use Rattle.std.proofs.lemmas.Grind.{flat_map-append}
use Rattle.std.proofs.lemmas.List.{take_all, take_more, take-append-le, flat_map_more, length-take}
use Rattle.std.proofs.lemmas.Option.{slice_get_within, get_or_from_slice_get}
use Rattle.normalizer_records.specs.declared.records.Mappings.{Mappings}
use Rattle.normalizer_records.specs.RecordValue.{RecordValue}
use Rattle.normalizer_records.specs.Meaning.{expansion, replace_by, replacement}

-- a cut list may be cut again after an addition
pub take-again : (n : ℕ) (x y : List ℕ) → take n (take n x ++ y) ≡ take n (x ++ y)
take-again zero [] y = refl
take-again zero (a ∷ x) [] = refl
take-again zero (a ∷ x) (b ∷ y) = refl
take-again (suc n) [] y = refl
take-again (suc n) (a ∷ x) y = ap (λ z. a ∷ z) (take-again n x y)

module _ (f : ℕ → List ℕ) (room : ℕ) (start xs : List ℕ) where
  -- one member more
  pub flat_map-cut_more : (before after : List ℕ) (i m : ℕ) → slice_get xs i ≡ Some m → before ≡ take room (start ++ flat_map f (take i xs)) → after ≡ take room (before ++ f m) →
      after ≡ take room (start ++ flat_map f (take (i + 1) xs))
  flat_map-cut_more before after i m at was now =
      let within : i < length xs = slice_get_within xs i m at in
      let here : get_or xs i 0 ≡ m = get_or_from_slice_get xs i m 0 at in
      let grown : take (i + 1) xs ≡ take i xs ++ m ∷ [] = take_more xs i 0 within ∙ ap (λ y. take i xs ++ y ∷ []) here in
      now ∙ ap (λ y. take room (y ++ f m)) was ∙ take-again room (start ++ flat_map f (take i xs)) (f m)
      ∙ ap (take room) (flat_map_more f start (take i xs) m) ∙ ap (λ y. take room (start ++ flat_map f y)) (sym grown)

  pub flat_map-cut_all : (out : List ℕ) (i : ℕ) → length xs ≤ i → out ≡ take room (start ++ flat_map f (take i xs)) → out ≡ take room (start ++ flat_map f xs)
  flat_map-cut_all out i past was = was ∙ ap (λ y. take room (start ++ flat_map f y)) (take_all i xs past)

  -- no room for the lists of further members
  pub flat_map-cut_full : (out : List ℕ) (i : ℕ) → room ≤ length out → out ≡ take room (start ++ flat_map f (take i xs)) → out ≡ take room (start ++ flat_map f xs)
  flat_map-cut_full out i full was =
      let so_far = start ++ flat_map f (take i xs) in
      let len : length out ≤ length so_far = (let same = ap length was ∙ length-take room so_far in omega arith) in
      let split : flat_map f xs ≡ flat_map f (take i xs) ++ flat_map f (drop i xs) = ap (flat_map f) (sym (take-append-drop i xs)) ∙ flat_map-append f (take i xs) (drop i xs) in
      let whole : start ++ flat_map f xs ≡ so_far ++ flat_map f (drop i xs) = ap (λ y. start ++ y) split ∙ sym (append_assoc start (flat_map f (take i xs)) (flat_map f (drop i xs))) in
      was ∙ sym (take-append-le room so_far (flat_map f (drop i xs)) (omega arith)) ∙ ap (take room) (sym whole)

module _ (records : List RecordValue) (mappings : Mappings) where
  pub expansion-zero : (c : ℕ) → expansion records mappings 0 c ≡ c ∷ []
  unfolding expansion
  expansion-zero c = refl

  pub expansion-alone : (depth c : ℕ) → replacement records mappings c ≡ [] → expansion records mappings depth c ≡ c ∷ []
  unfolding expansion replace_by
  expansion-alone zero c h = refl
  expansion-alone (suc n) c h = ap (λ m. replace_by (expansion records mappings n) m c) h

  replace_by-some : (list_of : ℕ → List ℕ) (members : List ℕ) (c : ℕ) → members ≢ [] → replace_by list_of members c ≡ flat_map list_of members
  unfolding replace_by
  replace_by-some list_of [] c h = absurd (h refl)
  replace_by-some list_of (m ∷ members) c h = refl

  pub expansion-replaced : (n c : ℕ) → replacement records mappings c ≢ [] → expansion records mappings (suc n) c ≡ flat_map (expansion records mappings n) (replacement records mappings c)
  unfolding expansion
  expansion-replaced n c h = replace_by-some (expansion records mappings n) (replacement records mappings c) c h

  -- the lists of the members, as far as there is room, make the expansion
  pub expansion-by_members : (depth c room : ℕ) (start members out : List ℕ) → 0 < depth → members ≡ replacement records mappings c → members ≢ [] →
      out ≡ take room (start ++ flat_map (expansion records mappings (depth - 1)) members) → out ≡ take room (start ++ expansion records mappings depth c)
  expansion-by_members depth c room start members out deep are some is =
      let more : depth ≡ suc (depth - 1) = omega arith in
      let e = ap (λ d. expansion records mappings d c) more ∙ expansion-replaced (depth - 1) c (λ none. some (are ∙ none)) in
      is ∙ ap (λ (m : List ℕ). take room (start ++ flat_map (expansion records mappings (depth - 1)) m)) are ∙ ap (λ (y : List ℕ). take room (start ++ y)) (sym e)
