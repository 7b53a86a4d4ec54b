use Rattle.std.proofs.Common.{rules, ◌≡◌, string_bytes}
use Rattle.std.specs.Prelude.{Err}
use Rattle.normalizer_io.specs.Transfer.{AppendsFront}
use Rattle.normtool_command.specs.declared.ending.ToolFault.TheVariants.{Write}
use Rattle.normtool_command.proofs.ServedLemmas.{served-replies}
use Rattle.normtool_command.proofs.run.run.Goals as goal

pub returns-clause-reply : goal.returns-clause-reply
returns-clause-reply g c = record {
  outcome = (
    string_bytes c.in-Ok.output,
    served-replies _ _ _ _ c.in_ok-input.input.items _ _ c.in_ok-worker.ensures.served c.in_ok-input.ensures.bytes (search rules),
    search rules,
  );
  read = search rules;
  write = search rules;
  unwritten = search rules;
  unread = search rules;
}

pub returns-in_err-write_all-clause-reply : goal.returns-in_err-write_all-clause-reply
returns-in_err-write_all-clause-reply g c =
    let answer = c.in-Ok.answer in
    let output = string_bytes c.in-Ok.output in
    let refused : c.from_residual-in_err-write_all.result ≡ Err Write = search rules in
    let front : AppendsFront (g.W.Target.bytes_taken c.args.writer.now) (g.W.Target.bytes_taken c.write_all.new.writer) output = search rules in
    record {
      outcome = rw refused (
        answer,
        output,
        served-replies _ _ _ _ c.in_ok-input.input.items _ _ c.in_ok-worker.ensures.served c.in_ok-input.ensures.bytes (search rules),
        front,
      );
      read = search rules;
      write = search rules;
      unwritten = search rules;
      unread = search rules;
    }

pub returns-in_err-write_all-clause-data : goal.returns-in_err-write_all-clause-data
returns-in_err-write_all-clause-data g c =
    let refused : c.from_residual-in_err-write_all.result ≡ Err Write = search rules in
    rw refused (_, c.in_ok-worker.ensures.served)
