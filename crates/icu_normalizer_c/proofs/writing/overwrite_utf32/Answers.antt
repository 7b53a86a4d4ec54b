use Rattle.icu_normalizer.specs.NormalForms.{normal_form}
use Rattle.icu_normalizer_c.proofs.FormLemmas.{Overwrites-if}
use Rattle.icu_normalizer_c.proofs.writing.overwrite_utf32.Goals as goal

pub returns-in_ok-normalize_iter-in-Decomposing : goal.returns-in_ok-normalize_iter-in-Decomposing
unfolding normal_form
returns-in_ok-normalize_iter-in-Decomposing c =
    let form = c.in_ok-normalize_iter-in-Decomposing.ensures.form in
    let spells = c.new-characters.ensures.spells in
    rw c.in-Decomposing.is
    (Overwrites-if _ _ _ _ _ _ (form.short _ spells) (c.overwrite_items.ensures _ (form.text _ spells)))

pub returns-in_ok-normalize_iter-in-Composing : goal.returns-in_ok-normalize_iter-in-Composing
unfolding normal_form
returns-in_ok-normalize_iter-in-Composing c =
    let form = c.in_ok-normalize_iter-in-Composing.ensures.form in
    let spells = c.new-characters.ensures.spells in
    rw c.in-Composing.is
    (Overwrites-if _ _ _ _ _ _ (form.short _ spells) (c.overwrite_items-in-Composing.ensures _ (form.text _ spells)))
