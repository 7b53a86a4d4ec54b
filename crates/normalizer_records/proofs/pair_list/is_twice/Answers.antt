use Rattle.std.proofs.Common.{◌+◌, not, rules, arith, inl, inr, sym, ap, ◌∙◌}
use Rattle.std.proofs.lemmas.Bool.{cases_Bool, true≢false}
use Rattle.std.proofs.lemmas.Bool.Decides.{nat_tests}
use Rattle.std.proofs.lemmas.List.{get_or_default}
use Rattle.std.proofs.lemmas.List.Sorted.{IsPartitionPoint-from_clause}
use Rattle.normalizer_tables.specs.Pairs.{Pair, is_before}
use Rattle.normalizer_records.proofs.record_faults.PairFaultLemmas.{not_two, parted, two}
use Rattle.normalizer_records.proofs.pair_list.is_twice.Goals as goal

pub returns-then-next-pairs : goal.returns-then-next-pairs
returns-then-next-pairs c =
    let ps = c.args.pairs.now in
    let p = c.args.pair.now in
    let i = c.partition_point-next.result in
    let at = IsPartitionPoint-from_clause (λ (q : Pair). is_before q p.0 p.1) ps i c.partition_point-next.ensures.partitioned (parted ps c.requires p) (λ a r f' h. search rules) in
    elim (cases_Bool c.is_before.result) [
      | inl after ↦ (
        λ no. absurd (true≢false (sym no ∙ ap not after)),
        λ twice. absurd (not_two ps c.requires p i at (λ d within. ap (λ (q : Pair). is_before p q.0 q.1) (get_or_default ps (i + 1) d (0, 0, 0) within) ∙ sym c.is_before.ensures ∙ after) twice),
      )
      | inr stays ↦ (λ _. two ps c.requires p i at (0, 0, 0) c.if-next-pairs.true (sym c.is_before.ensures ∙ stays), λ _. ap not stays)
    ]

pub returns-else-next-pairs : goal.returns-else-next-pairs
returns-else-next-pairs c =
    let ps = c.args.pairs.now in
    let p = c.args.pair.now in
    let i = c.partition_point-next.result in
    let at = IsPartitionPoint-from_clause (λ (q : Pair). is_before q p.0 p.1) ps i c.partition_point-next.ensures.partitioned (parted ps c.requires p) (λ a r f' h. search rules) in
    let last = c.if-next-pairs.false in (
      λ yes. absurd (grind (arith, nat_tests)),
      λ twice. absurd (not_two ps c.requires p i at (λ d within. absurd (omega (arith, last))) twice),
    )
