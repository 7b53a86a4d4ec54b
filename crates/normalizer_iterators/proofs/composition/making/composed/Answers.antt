use Rattle.std.proofs.Common.{ℕ, List, None, ap, sym, ◌∙◌, []}
use Rattle.std.proofs.lemmas.Result.{err_from_is_err_and}
use Rattle.normal_forms.specs.CompositionByStarters.{compose_by_starters}
use Rattle.normal_forms.specs.Forms.{nfc, nfd}
use Rattle.normalizer_tables.specs.Characters.{has_class_form}
use Rattle.normalizer_tables.specs.Readings.{reading_by}
use Rattle.normalizer_tables.specs.declared.characters.IgnoredCharacters.TheVariants.{Dropped}
use Rattle.normalizer_text.specs.DecodingSteps.{Spells}
use Rattle.normalizer_iterators.specs.Composing.{WillYieldAfter}
use Rattle.normalizer_iterators.proofs.composing.ComposingLemmas.{HasShortRuns-reading_by, nfc-reading_by}
use Rattle.normalizer_iterators.proofs.items.ItemLemmas.{YieldsFormOfRun-composition, SpellsOk-composition, SpellsUnless-composition}
use Rattle.normalizer_iterators.proofs.composition.making.composed.Goals as goal

pub returns-in_err-over-clause-form : goal.returns-in_err-over-clause-form
returns-in_err-over-clause-form g c =
    let s = c.args.characters in
    let f = has_class_form s in
    let short = HasShortRuns-reading_by f s c.args.ignored c.args.pairs.now in
    let refused = c.in_err-over.ensures.refused in
    let exit = err_from_is_err_and c.from_residual.result c.from_residual.ensures.1 in
    rw exit.1 (record {
      text = tt;
      short = λ x spells runs. absurd (cc (c.in_err-over.ensures.succeeds x spells (short x runs)));
      run = tt;
      refused = (cc (exit.2, refused.0), (refused.1.0, refused.1.1, refused.1.2, λ runs. refused.1.3 (short refused.1.0 runs)));
    })

pub returns-clause-form : goal.returns-clause-form
returns-clause-form g c =
    let gives = g.I.Iterator.next_gives in
    let s = c.args.characters in
    let ignored = c.args.ignored in
    let pairs = c.args.pairs.now in
    let f = has_class_form s in
    let d = reading_by s ignored pairs in
    let made = c.in_ok-over.ensures in
    let short = HasShortRuns-reading_by f s ignored pairs in
    let same = λ (y : List ℕ). ap (λ k. compose_by_starters (reading_by k Dropped pairs) y) made.kept.0 in
    let text : (x : List ℕ) → Spells gives c.args.delegate x → WillYieldAfter (Spells gives) (reading_by c.in_ok-over.field-0.characters Dropped pairs) None c.in_ok-over.field-0 (nfc d x)
    = λ x spells. record {
      unread = nfd (reading_by s ignored []) x;
      source = made.text x spells;
      text = nfc-reading_by s ignored pairs c.requires.composing.starters x ∙ sym (same (nfd (reading_by s ignored []) x));
    } in
    record {
      text = λ x spells. SpellsUnless-composition g.I.Iterator _ (nfc d x) (text x spells);
      short = λ x spells runs. SpellsOk-composition g.I.Iterator _ (nfc d x) (text x spells) (made.short x spells (short x runs));
      run = YieldsFormOfRun-composition g.I.Iterator f d (nfc d) c.args.delegate _
          (λ e out h.
          let source = made.came e h.unread h.source in (
            source.0,
            source.1,
            h.text ∙ same h.unread ∙ ap (compose_by_starters (reading_by s Dropped pairs)) source.2 ∙ sym (nfc-reading_by s ignored pairs c.requires.composing.starters source.0),
          ))
          (λ h. let long = made.long h in (long.0, long.1, long.2, λ runs. long.3 (short long.0 runs)));
      refused = tt;
    }
