use Rattle.std.proofs.Common.{◌≡◌, rules, Err, take, ap, sym, refl, ◌∙◌}
use Rattle.normal_forms.specs.Forms.{normal_form}
use Rattle.normalizer_text.specs.Encodings.{decoded_in}
use Rattle.normalizer_calls.proofs.passthrough.RunParts.{EndsFront-first, IsPart-segment}
use Rattle.normalizer_calls.proofs.written_forms.MemberLemmas.{decoded-front}
use Rattle.normalizer_calls.proofs.written_forms.PartLemmas.{WritesText-segment_refused, WrotePart-segment}
use Rattle.normalizer_calls.proofs.written_forms.WritingLemmas.{WritesText-same}
use Rattle.normalizer_calls.proofs.writing.write_alone.Goals as goal

pub segment_to-requires : goal.segment_to-requires
segment_to-requires g c = EndsFront-first g.U.Units.encoding (g.U.Units.units c.args.units) c.args.first c.requires.some c.requires.first

pub returns-in_err-write_members-clause-refused : goal.returns-in_err-write_members-clause-refused
returns-in_err-write_members-clause-refused g c =
    let m = g.N.Forming.made_form c.args.normalizer.now in
    let units = g.U.Units.units c.args.units in
    let segment = c.in-Some.ensures in
    let part = IsPart-segment _ _ _ _ _ (g.met.N.Forming.apart c.args.normalizer.now) _ segment.segment.end in
    let one = decoded-front g.U.Units.encoding units c.args.first c.requires.some c.requires.first in
    let form = sym (c.in-Some-form_of_one.ensures) ∙ ap (normal_form m.reading m.form) (sym one ∙ ap (λ n. decoded_in g.U.Units.encoding (take n units)) (sym segment.end)) in
    let is : c.from_residual.result ≡ Err c.in_err-write_members.field-0.0 = search rules in
    rw is (WritesText-segment_refused part refl (WritesText-same form (rw c.in_err-write_members.was at c.write_members.ensures.text)))

pub returns-clause-written : goal.returns-clause-written
returns-clause-written g c =
    let m = g.N.Forming.made_form c.args.normalizer.now in
    let units = g.U.Units.units c.args.units in
    let segment = c.in-Some.ensures in
    let part = IsPart-segment _ _ _ _ _ (g.met.N.Forming.apart c.args.normalizer.now) _ segment.segment.end in
    let one = decoded-front g.U.Units.encoding units c.args.first c.requires.some c.requires.first in
    let form = sym (c.in-Some-form_of_one.ensures) ∙ ap (normal_form m.reading m.form) (sym one ∙ ap (λ n. decoded_in g.U.Units.encoding (take n units)) (sym segment.end)) in
    record {
      segment = segment.segment;
      part = WrotePart-segment part refl (WritesText-same form (rw c.in_ok-write_members.was at c.write_members.ensures.text));
      refused = tt;
    }
