use Rattle.std.proofs.Common.{Err, Result, ap}
use Rattle.icu_normalizer.specs.Mappers.{mapper_data_of_borrowed}
use Rattle.normalizer_io.specs.declared.outcome.TransferError.{TransferError}
use Rattle.normalizer_streams.specs.declared.lines.Replied.{Replied}
use Rattle.normalizer_command.proofs.MapperLemmas.{invalidated}
use Rattle.normalizer_command.proofs.mapping.MapperLines.validated.Goals as goal

pub returns-in_ok-name_of-in-Err-Write-clause-replies : goal.returns-in_ok-name_of-in-Err-Write-clause-replies
returns-in_ok-name_of-in-Err-Write-clause-replies g c = λ m maps.
    let e = c.in-Err-Write.ensures in
    let t = c.args.self.now in
    let failed : TransferError → Result Replied TransferError = λ error. Err error in
    invalidated c.args.listing c.requires.names c.args.mode (mapper_data_of_borrowed t.mapper) m maps t.name.now _ c.write_replies.new.writer.byte
    (e.write (ap failed c.in-Err-Write.field-0-is)) (rw c.requires.task at e.front) _ c.in_ok-name_of-in-Err-Write.ensures
