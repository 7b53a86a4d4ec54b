use Rattle.std.proofs.Common.{◌≡◌, false, rules}
use Rattle.clap.specs.Walk.{rule_of}
use Rattle.normalizer_command.specs.CommandLine.{path_rule}
use Rattle.normalizer_command.proofs.ArgumentLemmas.{added, added_ok}
use Rattle.normalizer_command.proofs.arguments.command.Goals as goal

pub returns : goal.returns
returns c =
    let local : c.long.result.global ≡ false = search rules in
    let rule : rule_of c.long.result ≡ path_rule = search rules in
    added_ok _ _ _ _ c.arg-9.result c.arg-9.ensures c.short_flag-5.ensures.local c.short_flag-5.ensures.rule
    (added _ _ _ _ _ c.in_ok-arg-8.ensures c.short_flag-4.ensures.local c.short_flag-4.ensures.rule
    (added _ _ _ _ _ c.in_ok-arg-7.ensures c.short_flag-3.ensures.local c.short_flag-3.ensures.rule
    (added _ _ _ _ _ c.in_ok-arg-6.ensures c.short_flag-2.ensures.local c.short_flag-2.ensures.rule
    (added _ _ _ _ _ c.in_ok-arg-5.ensures c.short_flag.ensures.local c.short_flag.ensures.rule
    (added _ _ _ _ _ c.in_ok-arg-4.ensures c.flag.ensures.local c.flag.ensures.rule
    (added _ _ _ _ _ c.in_ok-arg-3.ensures local rule
    (added _ _ _ _ _ c.in_ok-arg-2.ensures c.files.ensures.local c.files.ensures.rule
    (added _ _ _ _ _ c.in_ok-arg.ensures c.new-2.ensures.optional.1 c.new-2.ensures.rule c.new.ensures.app))))))))
