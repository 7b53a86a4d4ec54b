use Rattle.std.proofs.Common.{[], ap, codes, map, unwrap_or, ◌∙◌}
use Rattle.clap.proofs.WalkLemmas.{first_value-rows, raw_values-rows}
use Rattle.clap.specs.Matches.{found_of}
use Rattle.normalizer_command.proofs.ArgumentLemmas.{list_or, now_or, requests_ok}
use Rattle.normalizer_command.proofs.arguments.request_of.Goals as goal

pub returns : goal.returns
returns c =
    let f = found_of c.args.matches.now in
    requests_ok _ c.requested.result c.flags_of.result c.flags_of.ensures
    (ap (λ x. x.now) c.unwrap_or-word.ensures ∙ now_or c.get_str.result _ ∙ ap (λ o. unwrap_or o []) (c.get_str.ensures ∙ first_value-rows f (codes "command")))
    (ap (λ x. map (λ y. y.now) x.now) c.unwrap_or-after.ensures ∙ list_or c.get_strs.result _ ∙ ap (λ o. unwrap_or o []) (c.get_strs.ensures ∙ raw_values-rows f (codes "file")))
    (c.get_str-2.ensures ∙ first_value-rows f (codes "data")) c.requested.ensures
