use Rattle.std.proofs.Common.{ap, sym, ◌∙◌}
use Rattle.std.proofs.lemmas.List.{append-nil}
use Rattle.normalizer_tables.specs.Entries.{class_in}
use Rattle.normalizer_tables.specs.declared.entry.Kind.TheVariants.{Canonical}
use Rattle.normalizer_packing.specs.StepWords.{asked_step, stored_step}
use Rattle.normalizer_packing.specs.inner.Spelled.{spelled_in}
use Rattle.normalizer_packing.proofs.spellings.KeptSpellings.{made_more, spelled_kind}
use Rattle.normalizer_packing.proofs.step_words.stored_steps.Goals as goal
use Rattle.normalizer_packing.proofs.step_words.stored_steps.Goals.{in-Some+in_ok-push, in_default}

pub loop-place-preserved : goal.loop-place-preserved
loop-place-preserved c =
    let entries = c.args.entries.now in
    let e = c.at.result.0.now in
    let more = made_more entries c.loop-place.place e c.at.ensures.entry (λ f. stored_step (asked_step entries f)) in
    let asked = c.asked_step-step.ensures entries (c.of.ensures ∙ ap (spelled_in Canonical) c.at.ensures.spellings ∙ spelled_kind (class_in entries) Canonical e) in
    let so_far = c.loop-place.invariant in
    elim c.match-stored_step.branch [
      | in-Some+in_ok-push w ↦ let pushed = w.in_ok-push.ensures.items in rw (w.steps-is, more, sym asked, sym w.in-Some.ensures) cc
      | in_default w ↦ rw (w.steps-is, more, sym asked, sym w.in_default.ensures, append-nil) so_far
    ]
