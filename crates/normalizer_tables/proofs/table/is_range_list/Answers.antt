use Rattle.std.proofs.Common.{nat_lt, rules, sym, ◌∙◌}
use Rattle.std.proofs.lemmas.List.Sorted.{answers_always}
use Rattle.normalizer_tables.proofs.code_points.RangeLists.{ranges_tested, IsRangeList-decides}
use Rattle.normalizer_tables.proofs.table.is_range_list.Goals as goal

pub returns-then-are_ranges : goal.returns-then-are_ranges
returns-then-are_ranges c =
    IsRangeList-decides _ _ (sym c.are_ranges.ensures ∙ c.if-are_ranges.true) (c.is_sorted_by.ensures.cases (λ q s. nat_lt q.1 s.0) (answers_always _ _ _ (λ f a r f' k. search rules)))

pub returns-else-are_ranges : goal.returns-else-are_ranges
returns-else-are_ranges c = (λ yes. cc, λ list. c.are_ranges.ensures ∙ ranges_tested _ list)
