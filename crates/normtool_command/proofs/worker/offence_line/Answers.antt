use Rattle.std.proofs.Common.{string_bytes}
use Rattle.normtool_command.proofs.OffenceLineLemmas.{shown_as_offence_line}
use Rattle.normtool_command.proofs.worker.offence_line.Goals as goal

pub returns : goal.returns
returns c = shown_as_offence_line string_bytes _ c.in_radix.result c.in_radix-2.result c.laid_out.result c.laid_out-2.result c.args.offence
    c.laid_out.ensures c.laid_out-2.ensures c.in_radix.ensures c.in_radix-2.ensures c.format.ensures.ok
