use Rattle.std.proofs.Common.{subst}
use Rattle.std.specs.Option.{option_map}
use Rattle.normalizer_command.specs.UnicodeFiles.{AreFiles}
use Rattle.normalizer_command.proofs.data.by_files.Goals as goal

pub returns-in-Ok-clause-does : goal.returns-in-Ok-clause-does
returns-in-Ok-clause-does g c =
    let files = c.in_ok-files.files in
    let made = c.in_ok-data.ensures.built in
    record {
      unicode_data = files.unicode_data.items;
      exclusions = files.exclusions.items;
      table = option_map (λ v. v.items) files.table;
      are_files = subst (λ p. AreFiles (g.I.Inputs.files c.args.inputs.now) c.args.directory.now p files.unicode_data.items files.exclusions.items (option_map (λ v. v.items) files.table))
          c.purpose_of.ensures c.in_ok-files.ensures.files;
      records = made.0;
      uts46 = made.1;
      recorded = made.2;
      is = c.in-Ok.ensures.does made.0 made.1 made.3;
    }
