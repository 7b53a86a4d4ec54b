use Rattle.std.proofs.Common.{◌≡◌, ◌++◌, None, refl}
use Rattle.std.specs.Option.{option_to_list}
use Rattle.std.proofs.lemmas.Result.{err_from_is_err_and}
use Rattle.normalizer_ucd.specs.declared.error.UcdFile.TheVariants.{CompositionExclusions}
use Rattle.normalizer_ucd.specs.FileFaults.{first_wrong, listing_findings}
use Rattle.normalizer_ucd.specs.FileLines.{data_lines_from}
use Rattle.normalizer_ucd.specs.inner.DataFileLines.{exclusion_by}
use Rattle.normalizer_ucd.proofs.Loop.{texts}
use Rattle.normalizer_ucd.proofs.Reading.{begins, done, ends, goes_on, none_after}
use Rattle.normalizer_ucd.proofs.exclusions.exclusions_in.Goals as goal

pub loop-index-init : goal.loop-index-init
loop-index-init c =
    rw c.new-exclusions.ensures.items
    (begins CompositionExclusions listing_findings (λ _. tt {0}) exclusion_by c.args.lines.now)

pub returns-in_err-found : goal.returns-in_err-found
returns-in_err-found c =
    let p = err_from_is_err_and c.from_residual.result c.from_residual.ensures.1 in
    let e = c.in_err-found.field-0.0 in
    rw (
      p.1,
      p.2,
      ← none_after (first_wrong CompositionExclusions listing_findings
          (data_lines_from 1 None (texts c.args.lines.now))),
    )
    (ends CompositionExclusions listing_findings (λ _. tt {0}) exclusion_by c.args.lines.now e c.loop-index.index tt
    c.loop-index.exclusions.items None _ c.loop-index-test.true (λ before same. c.in_err-found.ensures before)
    c.loop-index.invariant)

pub loop-index-preserved : goal.loop-index-preserved
loop-index-preserved c =
    let e : c.push_found.new.found.items ≡ c.loop-index.exclusions.items ++ option_to_list c.in_ok-found.found
    = c.in_ok-push_found.ensures in
    rw e
    (goes_on CompositionExclusions listing_findings (λ _. tt {0}) exclusion_by c.args.lines.now c.loop-index.index tt tt
    c.loop-index.exclusions.items c.in_ok-found.found c.loop-index-test.true (λ before same. c.in_ok-found.ensures before)
    c.loop-index.invariant)

pub returns : goal.returns
returns c =
    let whole = done CompositionExclusions listing_findings (λ _. tt {0}) exclusion_by c.args.lines.now c.loop-index.index
    tt c.loop-index.exclusions.items c.loop-index-test.false c.loop-index.invariant in
    rw (whole.right, whole.front_is) refl
