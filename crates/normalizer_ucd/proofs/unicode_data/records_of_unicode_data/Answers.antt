use Rattle.std.proofs.Common.{◌≡◌, map, Ok, sym, ◌∙◌, ap}
use Rattle.std.specs.Prelude.{filter_map}
use Rattle.std.specs.Option.{option_or}
use Rattle.std.proofs.lemmas.Result.{err_from_is_err_and}
use Rattle.normalizer_ucd.specs.declared.error.UcdError.TheVariants as errors
use Rattle.normalizer_ucd.specs.declared.error.UcdFile.TheVariants as files
use Rattle.normalizer_ucd.specs.Fields.{lines}
use Rattle.normalizer_ucd.specs.FileLines.{data_lines, listed}
use Rattle.normalizer_ucd.specs.inner.DataFileLines.{exclusion_by}
use Rattle.normalizer_ucd.specs.Wholes.{cut_off}
use Rattle.normalizer_ucd.proofs.ExclusionLemmas.{codes_are, unmapped_is}
use Rattle.normalizer_ucd.proofs.FilesRead.{at_cut, at_data, at_end, at_listing, at_mapping, at_version, listing, lined, open_end}
use Rattle.normalizer_ucd.proofs.FilesRead.{stated, unmapped, version}
use Rattle.normalizer_ucd.proofs.Reading.{no_fault}
use Rattle.normalizer_ucd.proofs.unicode_data.records_of_unicode_data.Goals as goal

pub returns-in_err-lines : goal.returns-in_err-lines
returns-in_err-lines c =
    let ud = c.args.unicode_data.now in
    let ex = c.args.composition_exclusions.now in
    let p = err_from_is_err_and c.from_residual-in_err-lines.result c.from_residual-in_err-lines.ensures.1 in
    let e = c.in_err-lines.field-0.0 in
    let cut = no_fault (cut_off files.CompositionExclusions ex) (lines ex) _ c.in_ok-listed.ensures in
    rw (p.1, p.2) (at_cut ud ex e cut.0 _ c.in_err-lines.ensures)

pub returns-in_err-agree : goal.returns-in_err-agree
returns-in_err-agree c =
    let ud = c.args.unicode_data.now in
    let ex = c.args.composition_exclusions.now in
    let p = err_from_is_err_and c.from_residual-in_err-agree.result c.from_residual-in_err-agree.ensures.1 in
    let e = c.in_err-agree.field-0.0 in
    let cut = no_fault (cut_off files.CompositionExclusions ex) (lines ex) _ c.in_ok-listed.ensures in
    let also = no_fault (cut_off files.UnicodeData ud) (lines ud) _ c.in_ok-lines.ensures in
    let first : map (λ line. line.now) c.deref.result.now ≡ lines ex = rw c.deref.ensures.value (sym cut.1) in
    let second : map (λ line. line.now) c.deref-2.result.now ≡ lines ud = rw c.deref-2.ensures.value (sym also.1) in
    let agreed = rw (first, second) at c.in_err-agree.ensures in
    rw (p.1, p.2) (at_version ud ex e cut.0 also.0 _ agreed)

pub returns-in_err-exclusions : goal.returns-in_err-exclusions
returns-in_err-exclusions c =
    let ud = c.args.unicode_data.now in
    let ex = c.args.composition_exclusions.now in
    let p = err_from_is_err_and c.from_residual-in_err-exclusions.result c.from_residual-in_err-exclusions.ensures.1 in
    let e = c.in_err-exclusions.field-0.0 in
    let cut = no_fault (cut_off files.CompositionExclusions ex) (lines ex) _ c.in_ok-listed.ensures in
    let also = no_fault (cut_off files.UnicodeData ud) (lines ud) _ c.in_ok-lines.ensures in
    let first : map (λ line. line.now) c.deref.result.now ≡ lines ex = rw c.deref.ensures.value (sym cut.1) in
    let second : map (λ line. line.now) c.deref-2.result.now ≡ lines ud = rw c.deref-2.ensures.value (sym also.1) in
    let agreed = rw (first, second) at c.in_ok-agree.ensures in
    let same = no_fault (version ud ex e) (tt {0}) (tt {0}) agreed in
    let third : map (λ line. line.now) c.deref-3.result.now ≡ lines ex = rw c.deref-3.ensures.value (sym cut.1) in
    let listing_read = rw third at c.in_err-exclusions.ensures in
    rw (p.1, p.2) (at_listing ud ex e cut.0 also.0 same.0 _ listing_read)

pub returns-in_err-records : goal.returns-in_err-records
returns-in_err-records c =
    let ud = c.args.unicode_data.now in
    let ex = c.args.composition_exclusions.now in
    let p = err_from_is_err_and c.from_residual-in_err-records.result c.from_residual-in_err-records.ensures.1 in
    let e = c.in_err-records.field-0.0 in
    let cut = no_fault (cut_off files.CompositionExclusions ex) (lines ex) _ c.in_ok-listed.ensures in
    let also = no_fault (cut_off files.UnicodeData ud) (lines ud) _ c.in_ok-lines.ensures in
    let first : map (λ line. line.now) c.deref.result.now ≡ lines ex = rw c.deref.ensures.value (sym cut.1) in
    let second : map (λ line. line.now) c.deref-2.result.now ≡ lines ud = rw c.deref-2.ensures.value (sym also.1) in
    let agreed = rw (first, second) at c.in_ok-agree.ensures in
    let same = no_fault (version ud ex e) (tt {0}) (tt {0}) agreed in
    let third : map (λ line. line.now) c.deref-3.result.now ≡ lines ex = rw c.deref-3.ensures.value (sym cut.1) in
    let listing_read = rw third at c.in_ok-exclusions.ensures in
    let lists = no_fault (listing ud ex e) (filter_map exclusion_by (data_lines ex)) _ listing_read in
    let codes : map (λ x. x.code) c.deref-4.result.now ≡ listed (data_lines ex)
    = rw (c.deref-4.ensures.value, ← lists.1) (codes_are (data_lines ex)) in
    let fifth : map (λ line. line.now) c.deref-5.result.now ≡ lines ud = rw c.deref-5.ensures.value (sym also.1) in
    let data_read = rw (codes, fifth) at c.in_err-records.ensures in
    rw (p.1, p.2) (at_data ud ex e cut.0 also.0 same.0 lists.0 _ data_read)

pub returns-in_err-all_mapped : goal.returns-in_err-all_mapped
returns-in_err-all_mapped c =
    let ud = c.args.unicode_data.now in
    let ex = c.args.composition_exclusions.now in
    let p = err_from_is_err_and c.from_residual-in_err-all_mapped.result c.from_residual-in_err-all_mapped.ensures.1 in
    let e = c.in_err-all_mapped.field-0.0 in
    let cut = no_fault (cut_off files.CompositionExclusions ex) (lines ex) _ c.in_ok-listed.ensures in
    let also = no_fault (cut_off files.UnicodeData ud) (lines ud) _ c.in_ok-lines.ensures in
    let first : map (λ line. line.now) c.deref.result.now ≡ lines ex = rw c.deref.ensures.value (sym cut.1) in
    let second : map (λ line. line.now) c.deref-2.result.now ≡ lines ud = rw c.deref-2.ensures.value (sym also.1) in
    let agreed = rw (first, second) at c.in_ok-agree.ensures in
    let same = no_fault (version ud ex e) (tt {0}) (tt {0}) agreed in
    let third : map (λ line. line.now) c.deref-3.result.now ≡ lines ex = rw c.deref-3.ensures.value (sym cut.1) in
    let listing_read = rw third at c.in_ok-exclusions.ensures in
    let lists = no_fault (listing ud ex e) (filter_map exclusion_by (data_lines ex)) _ listing_read in
    let codes : map (λ x. x.code) c.deref-4.result.now ≡ listed (data_lines ex)
    = rw (c.deref-4.ensures.value, ← lists.1) (codes_are (data_lines ex)) in
    let fifth : map (λ line. line.now) c.deref-5.result.now ≡ lines ud = rw c.deref-5.ensures.value (sym also.1) in
    let data_read = rw (codes, fifth) at c.in_ok-records.ensures in
    let right = no_fault (option_or (lined ud ex e) (open_end ud ex e)) (stated ud ex e) _ data_read in
    let mapped = rw (
      c.deref-7.ensures.value,
      c.deref-6.ensures.value,
      ← right.1,
      ← lists.1,
      unmapped_is (stated ud ex e) (data_lines ex),
    ) at c.in_err-all_mapped.ensures in
    rw (p.1, p.2) (at_mapping ud ex e cut.0 also.0 same.0 lists.0 right.0 _ mapped)

pub returns : goal.returns
returns c =
    let ud = c.args.unicode_data.now in
    let ex = c.args.composition_exclusions.now in
    let e = errors.Memory in
    let cut = no_fault (cut_off files.CompositionExclusions ex) (lines ex) _ c.in_ok-listed.ensures in
    let also = no_fault (cut_off files.UnicodeData ud) (lines ud) _ c.in_ok-lines.ensures in
    let first : map (λ line. line.now) c.deref.result.now ≡ lines ex = rw c.deref.ensures.value (sym cut.1) in
    let second : map (λ line. line.now) c.deref-2.result.now ≡ lines ud = rw c.deref-2.ensures.value (sym also.1) in
    let agreed = rw (first, second) at c.in_ok-agree.ensures in
    let same = no_fault (version ud ex e) (tt {0}) (tt {0}) agreed in
    let third : map (λ line. line.now) c.deref-3.result.now ≡ lines ex = rw c.deref-3.ensures.value (sym cut.1) in
    let listing_read = rw third at c.in_ok-exclusions.ensures in
    let lists = no_fault (listing ud ex e) (filter_map exclusion_by (data_lines ex)) _ listing_read in
    let codes : map (λ x. x.code) c.deref-4.result.now ≡ listed (data_lines ex)
    = rw (c.deref-4.ensures.value, ← lists.1) (codes_are (data_lines ex)) in
    let fifth : map (λ line. line.now) c.deref-5.result.now ≡ lines ud = rw c.deref-5.ensures.value (sym also.1) in
    let data_read = rw (codes, fifth) at c.in_ok-records.ensures in
    let right = no_fault (option_or (lined ud ex e) (open_end ud ex e)) (stated ud ex e) _ data_read in
    let mapped = rw (
      c.deref-7.ensures.value,
      c.deref-6.ensures.value,
      ← right.1,
      ← lists.1,
      unmapped_is (stated ud ex e) (data_lines ex),
    ) at c.in_ok-all_mapped.ensures in
    let all = no_fault (unmapped ud ex e) (tt {0}) (tt {0}) mapped in
    at_end ud ex e cut.0 also.0 same.0 lists.0 right.0 all.0 ∙ ap Ok right.1
