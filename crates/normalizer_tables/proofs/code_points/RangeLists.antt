-- When a list of triples is a list of ranges.
use Rattle.std.proofs.Common.{◌≡◌, ◌↔◌, IsTrue, Bool, true, List, All, nat_lt, get_or, arith}
use Rattle.std.proofs.lemmas.Bool.{lt-ltb, ltb-true}
use Rattle.std.proofs.lemmas.Bool.Decides.{nat_tests}
use Rattle.std.proofs.lemmas.List.Sums.{AllPass-from_list_all, list_all-from_AllPass}
use Rattle.std.specs.List.{list_all, IsAllAdjacentAnswer}
use Rattle.normalizer_tables.specs.Ranges.{WordRange, IsRange, IsRangeList}
use Rattle.normalizer_tables.specs.Table.{code_points}
use Rattle.normalizer_tables.specs.inner.Blocks.{is_range}
use Rattle.normalizer_tables.proofs.lists.RisingLists.{all_before-decides}

is_range-true : (r : WordRange) → is_range r ≡ true → IsRange r
unfolding code_points
is_range-true r h = (grind (arith, nat_tests), grind (arith, nat_tests))

is_range-from : (r : WordRange) → IsRange r → is_range r ≡ true
unfolding code_points
is_range-from r h = grind (arith, nat_tests)

all_ranges : (rs : List WordRange) → list_all is_range rs ≡ true → All IsRange rs
all_ranges rs h = λ k d within. is_range-true (get_or rs k d) (AllPass-from_list_all is_range rs h k d within)

pub ranges_tested : (rs : List WordRange) → IsRangeList rs → list_all is_range rs ≡ true
ranges_tested rs h = list_all-from_AllPass is_range rs (λ k d within. is_range-from (get_or rs k d) (h.ranges k d within))

-- if each is a range, the test of each and the next decides
pub IsRangeList-decides : (rs : List WordRange) (r : Bool) → list_all is_range rs ≡ true → IsAllAdjacentAnswer (λ q s t. t ≡ nat_lt q.1 s.0) rs r → IsTrue r ↔ IsRangeList rs
IsRangeList-decides rs r ranges h =
    let all = all_ranges rs ranges in
    let rising = all_before-decides IsRange (λ q s. nat_lt q.1 s.0) (λ q s t range one two. grind (arith, nat_tests)) rs all (0, 0, 0) r h in
    (λ yes. record { ranges = all; rising = λ i j d lt within. ltb-true _ _ (rising.0 yes i j d lt within) }, λ list. rising.1 (λ i j d lt within. lt-ltb _ _ (list.rising i j d lt within)))
