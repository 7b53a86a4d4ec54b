use Rattle.std.proofs.Common.{◌≡◌, true, false, not, refl, sym, ap, ◌∙◌, true≢false, [], ◌∷◌}
use Rattle.normalizer_tables.specs.Characters.{has_class_form}
use Rattle.normalizer_tables.specs.Ignored.{ignored_list}
use Rattle.normalizer_tables.specs.Words.{is_class_form}
use Rattle.normalizer_tables.specs.Readings.{reading_by}
use Rattle.normalizer_iterators.proofs.reads.LazyLemmas.{continues-at_boundary, at_boundary-parts}
use Rattle.normalizer_iterators.proofs.pending.PendingChar.has_boundary_before.Goals as goal

pub returns-then-is_plain : goal.returns-then-is_plain
returns-then-is_plain c =
    let f = has_class_form c.args.characters.now in
    let d = reading_by c.args.characters.now c.args.ignored [] in
    let passthrough = c.is_plain.ensures c.args.characters.now c.requires c.if-is_plain.true in (
      λ _. continues-at_boundary f d c.args.self.character passthrough.no_class_form
          (λ none. let clash : [] ≡ c.args.self.character ∷ [] = sym none ∙ passthrough.itself (ignored_list c.args.ignored) in cc),
      λ _. refl,
    )

pub returns-then-not-is_class_form : goal.returns-then-not-is_class_form
unfolding has_class_form
returns-then-not-is_class_form c =
    let f = has_class_form c.args.characters.now in
    let d = reading_by c.args.characters.now c.args.ignored [] in
    let other : f c.args.self.character ≡ false = ap is_class_form (sym c.word_by-word.ensures) ∙ sym c.if-not-is_class_form.ensures in (
      λ some. continues-at_boundary f d c.args.self.character other (c.has_members.ensures.0 some),
      λ at_boundary. let parts = at_boundary-parts f d c.args.self.character at_boundary in c.has_members.ensures.1 (λ none. cc (sym none ∙ parts.3)),
    )

pub returns-else-not-is_class_form : goal.returns-else-not-is_class_form
unfolding has_class_form
returns-else-not-is_class_form c =
    let f = has_class_form c.args.characters.now in
    let d = reading_by c.args.characters.now c.args.ignored [] in
    let form : f c.args.self.character ≡ true = ap is_class_form (sym c.word_by-word.ensures) ∙ sym c.is_class_form.ensures ∙ c.if-not-is_class_form.false in (
      λ some. absurd (true≢false (sym some ∙ ap not c.if-not-is_class_form.false)),
      λ at_boundary. absurd (true≢false (sym form ∙ (at_boundary-parts f d c.args.self.character at_boundary).0)),
    )
