use Rattle.std.proofs.Common.{◌≡◌, ◌-◌, not, refl, sym, ◌∙◌, rules, tests}
use Rattle.std.specs.List.{list_all, range_with_len}
use Rattle.std.proofs.lemmas.Iterator.{YieldsList-from_range}
use Rattle.std.proofs.lemmas.Iterator.Search.{all_from_yields_List}
use Rattle.normalizer_ucd.specs.Fields.{is_scalar_value}
use Rattle.normalizer_handles.proofs.RangeLemmas.{has_no_character}
use Rattle.normalizer_handles.proofs.mapper_ranges.has_no_character.Goals as goal

pub returns : goal.returns
returns c =
    let r = c.args.range.now in
    let all : c.all.result ≡ list_all (λ c. not (is_scalar_value c)) (range_with_len r.first (r.end - r.first)) =
    rw (← c.range.view_is) (all_from_yields_List (λ c. not (is_scalar_value c)) _ _ c.all.result c.all.ensures.ran
    (YieldsList-from_range c.range.inside.first c.range.inside.end _ (cc) refl) (λ x b q k. search (rules, tests))) in
    all ∙ sym (has_no_character r)
