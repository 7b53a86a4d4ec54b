use Rattle.std.proofs.Common.{◌≡◌, ◌∷◌, [], ℕ, Bool, Option, Some, None, true, false, not, refl, sym, ◌∙◌, ap}
use Rattle.std.specs.Prelude.{◌&&◌, if◌then◌else◌, nat_lt}
use Rattle.std.specs.Option.{is_none, is_some, unwrap_or}
use Rattle.normalizer_ucd.specs.declared.error.Problem.TheVariants as problems
use Rattle.normalizer_ucd.specs.declared.unicode_data.DataFields.{DataFields}
use Rattle.normalizer_ucd.specs.Fields.{code, mapping}
use Rattle.normalizer_ucd.specs.FileFaults.{breaks_range, data_findings}
use Rattle.normalizer_ucd.specs.FileLines.{DataLine, is_of_character, states_some}
use Rattle.normalizer_ucd.specs.inner.DataFileLines.{AreFieldsOf, next_after, PositionValue}
use Rattle.normalizer_ucd.specs.inner.Lines.{text_of}
use Rattle.normalizer_ucd.proofs.Reading.{none_is, none_of, wrong_is}
use Rattle.normalizer_ucd.proofs.unicode_data.check.Goals as goal

one_or_none : (one : Bool) (c : ℕ) (o : Option ℕ) (none : Bool) → o ≡ (if one then Some c else None) →
    is_some o ≡ not none → none ≡ not one
one_or_none true c (Some k) none is has = sym (none_or none has)
  where
    none_or : (none : Bool) → true ≡ not none → false ≡ none
    none_or true has = absurd (cc)
    none_or false has = refl
one_or_none true c None none is has = absurd (cc)
one_or_none false c (Some k) none is has = absurd (cc)
one_or_none false c None true is has = refl
one_or_none false c None false is has = absurd (cc)

module _ (l : DataLine) (fields : DataFields) (are : AreFieldsOf l.text fields) where
  findings_are : (next start : ℕ) (no_code no_class no_mapping breaks some none : Bool) →
      next ≡ next_after l.before → start ≡ unwrap_or fields.code 0 → no_code ≡ is_none fields.code →
      no_class ≡ is_none fields.class → no_mapping ≡ is_none fields.mapping → breaks ≡ breaks_range l.before l.text →
      some ≡ states_some l.text → none ≡ not (is_of_character l.text) → data_findings l
      ≡ (problems.MissingField, fields.lacks_last)
      ∷ (problems.CodePoint, no_code)
      ∷ (problems.Class, no_class)
      ∷ (problems.Mapping, no_mapping)
      ∷ (problems.Order, nat_lt start next)
      ∷ (problems.Range, breaks)
      ∷ (problems.NotACharacter, some && none)
      ∷ []
  findings_are next start nc nk nm br so none a b c d e f g h =
      rw (a, b, c, d, e ∙ none_of (λ v. v.items) fields.mapping (mapping l.text) are.mapping, f, g, h)
      (rw (are.lacks_last, are.code, are.class) refl)

pub returns : goal.returns
returns c before same are =
    let l : DataLine = record { number = c.args.number; text = c.args.text.now; before = text_of before } in
    let findings = findings_are l c.args.fields.now are c.args.position.next c.unwrap_or-code.result c.is_none.result
    c.is_none-2.result c.is_none-3.result c.breaks_range.result c.states_some.result c.is_none-4.result
    (ap (λ (p : PositionValue). p.next) same) c.unwrap_or-code.ensures
    (none_is c.args.fields.now.code c.is_none.result c.is_none.ensures)
    (none_is c.args.fields.now.class c.is_none-2.result c.is_none-2.ensures)
    (none_is c.args.fields.now.mapping c.is_none-3.result c.is_none-3.ensures)
    (c.breaks_range.ensures (text_of before) (ap (λ (p : PositionValue). p.range) same) are.ends)
    (c.states_some.ensures c.args.text.now are) (one_or_none (is_of_character c.args.text.now)
    (unwrap_or (code c.args.text.now) 0) c.character_of.result c.is_none-4.result
    (c.character_of.ensures c.args.text.now are) c.is_none-4.ensures) in
    wrong_is c.refuse.result _ _ _ (data_findings l) c.at.ensures findings c.refuse.ensures
