-- What is checked of a list may be checked of a cut of it.
use Rattle.std.proofs.Common.{◌≡◌, ℕ, ◌<◌, ◌≤◌, ◌⊎◌, ◌↔◌, Bool, true, nat_lt, List, [], ◌∷◌, length, take, refl, Option, Some, None}
use Rattle.std.proofs.Common.{IfSome, IsSomeAnd, inl, inr, sym, ap, subst, ◌∙◌, arith}
use Rattle.std.proofs.lemmas.Bool.{cases_lt}
use Rattle.std.proofs.lemmas.Bool.Decides.{nat_tests}
use Rattle.std.proofs.lemmas.Grind.{common_steps}
use Rattle.std.proofs.lemmas.List.{take_all, length-take}
use Rattle.normal_forms.specs.Order.{is_reorderable, insert, order}
use Rattle.normal_forms.proofs.ordering.OrderLemmas.{length-order}
use Rattle.normalizer_tables.specs.SpecialLists.{fixed_list_of, fdfa_list}
use Rattle.normalizer_records.specs.RecordValue.{RecordValue}
use Rattle.normalizer_records.specs.Meaning.{class_of, recorded_classes}
use Rattle.normalizer_records.specs.Faults.{begins_with_mark, IsFreeForm, IsTooLong}
use Rattle.normalizer_records.specs.inner.CutLists.{StandsFor, MayStandFor}

module _ (records : List RecordValue) where
  begins-insert : (c : ℕ) (y : List ℕ) → begins_with_mark records (insert (recorded_classes records) c y) ≡ nat_lt 0 (class_of records c)
  unfolding insert is_reorderable
  begins-insert c [] = refl
  begins-insert c (e ∷ v) = grind (arith, nat_tests)

  begins-take : (n : ℕ) (x : List ℕ) → 0 < n → begins_with_mark records (take n x) ≡ begins_with_mark records x
  begins-take n x h = grind (arith, common_steps)

  -- a list put in order begins with a mark exactly if it did
  pub begins-order : (x : List ℕ) → begins_with_mark records (order (recorded_classes records) x) ≡ begins_with_mark records x
  unfolding order
  begins-order [] = refl
  begins-order (c ∷ w) = begins-insert c (order (recorded_classes records) w)

fixed_list_of-short : (n : ℕ) → IfSome (fixed_list_of n) (λ f. length f.list ≤ 2)
unfolding fixed_list_of
fixed_list_of-short n = grind arith

-- a long list is neither the character alone nor its fixed one
IsFreeForm-long : (records : List RecordValue) (c : ℕ) (list : List ℕ) → 18 < length list → IsFreeForm records c list
IsFreeForm-long records c list h = (λ same. let one = ap length same in omega arith, λ form. let short = rw form at (fixed_list_of-short c) in omega arith)

IsTooLong-long : (list : List ℕ) → 18 < length list → IsTooLong list
unfolding fdfa_list
IsTooLong-long list h = (grind (arith, nat_tests), λ same. let fits = ap length same in omega arith)

pub StandsFor-itself : (records : List RecordValue) (list : List ℕ) → StandsFor records list list
StandsFor-itself records list = record { short = λ h. refl; wrong = λ c m. (λ h. h, λ h. h); long = (λ h. h, λ h. h) }

-- the first 19 of an expansion may be checked in place of all of it
pub StandsFor-cut : (records : List RecordValue) (x cut : List ℕ) → cut ≡ order (recorded_classes records) (take 19 x) → StandsFor records (order (recorded_classes records) x) cut
StandsFor-cut records x cut is =
    let d = recorded_classes records in
    elim (cases_lt 19 (length x)) as (λ _. StandsFor records (order d x) cut) [
      | inr few ↦ subst (StandsFor records (order d x)) (sym (is ∙ ap (order d) (take_all 19 x few))) (StandsFor-itself records (order d x))
      | inl many ↦
          let whole = length-order d x in
          let part = ap length is ∙ length-order d (take 19 x) ∙ length-take 19 x in
          let begins : begins_with_mark records cut ≡ begins_with_mark records (order d x) =
          ap (begins_with_mark records) is ∙ begins-order records (take 19 x) ∙ begins-take records 19 x (omega arith) ∙ sym (begins-order records x) in
          let long_list : 18 < length (order d x) = omega arith in
          let long_cut : 18 < length cut = omega arith in
          record {
            short = λ few. absurd (omega arith);
            wrong = λ c m. (
              λ h. (subst (λ (b : Bool). (m ≡ true) ⊎ (b ≡ true)) begins h.0, IsFreeForm-long records c (order d x) long_list),
              λ h. (subst (λ (b : Bool). (m ≡ true) ⊎ (b ≡ true)) (sym begins) h.0, IsFreeForm-long records c cut long_cut),
            );
            long = (λ h. IsTooLong-long (order d x) long_list, λ h. IsTooLong-long cut long_cut);
          }
    ]

-- the mapper's list is not cut if it is short, and may be checked through a cut
pub MayStandFor-short : (records : List RecordValue) (o p : Option (List ℕ)) → IfSome o (λ list. length list ≤ 18) → MayStandFor records o p → p ≡ o
MayStandFor-short records None None short h = refl
MayStandFor-short records None (Some cut) short h = absurd h
MayStandFor-short records (Some list) None short h = absurd h
MayStandFor-short records (Some list) (Some cut) short h = ap (λ y. Some y) (h.short short)

pub MayStandFor-some : (records : List RecordValue) (P : List ℕ → Type 0) → ((list cut : List ℕ) → StandsFor records list cut → P cut ↔ P list) → (o p : Option (List ℕ)) → MayStandFor records o p →
    IsSomeAnd p P ↔ IsSomeAnd o P
MayStandFor-some records P same None None h = (λ x. x, λ x. x)
MayStandFor-some records P same None (Some cut) h = absurd h
MayStandFor-some records P same (Some list) None h = absurd h
MayStandFor-some records P same (Some list) (Some cut) h = same list cut h
