use Rattle.std.proofs.Common.{ℕ, List, Ok, ap, ◌∙◌}
use Rattle.std.specs.Option.{option_map}
use Rattle.normalizer_prepared.specs.Files.{holding}
use Rattle.normalizer_command.specs.Made.{version_of}
use Rattle.normalizer_command.proofs.made.prepared.Goals as goal

pub returns-in-Ok-prepared_data-clause-file : goal.returns-in-Ok-prepared_data-clause-file
returns-in-Ok-prepared_data-clause-file g c =
    let files = c.in_ok-files.files in
    let packed = c.in_ok-data.data.packed in
    let made = c.in_ok-data.ensures.built in
    record {
      unicode_data = files.unicode_data.items;
      exclusions = files.exclusions.items;
      table = option_map (λ v. v.items) files.table;
      are_files = c.in_ok-files.ensures.files;
      records = made.0;
      uts46 = made.1;
      recorded = made.2;
      packed = packed;
      builds = made.3;
      held = c.in-Ok-prepared_data.ensures.held
          ∙ ap (λ (version : ℕ × ℕ × ℕ). Ok (holding packed version)) c.in-Ok.ensures
          ∙ ap (λ (exclusions : List ℕ). Ok (holding packed (version_of exclusions))) c.deref.ensures.value;
    }
