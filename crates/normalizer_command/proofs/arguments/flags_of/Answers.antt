use Rattle.std.proofs.Common.{codes}
use Rattle.clap.specs.Matches.{found_of}
use Rattle.normalizer_command.proofs.ArgumentLemmas.{flag_is}
use Rattle.normalizer_command.proofs.arguments.flags_of.Goals as goal

pub returns : goal.returns
returns c =
    let f = found_of c.args.matches.now in record {
      version = flag_is f (codes "version") c.get_flag.result c.get_flag.ensures.none c.get_flag.ensures.other c.get_flag.ensures.value;
      strict = flag_is f (codes "strict") c.get_flag-2.result c.get_flag-2.ensures.none c.get_flag-2.ensures.other c.get_flag-2.ensures.value;
      quiet = flag_is f (codes "quiet") c.get_flag-3.result c.get_flag-3.ensures.none c.get_flag-3.ensures.other c.get_flag-3.ensures.value;
      names = flag_is f (codes "name-only") c.get_flag-4.result c.get_flag-4.ensures.none c.get_flag-4.ensures.other c.get_flag-4.ensures.value;
      null = flag_is f (codes "null") c.get_flag-5.result c.get_flag-5.ensures.none c.get_flag-5.ensures.other c.get_flag-5.ensures.value;
      in_place = flag_is f (codes "in-place") c.get_flag-6.result c.get_flag-6.ensures.none c.get_flag-6.ensures.other c.get_flag-6.ensures.value;
    }
