use Rattle.std.proofs.Common.{◌≡◌, ◌∷◌, [], ℕ, Bool, refl, ◌∙◌, ap}
use Rattle.std.specs.Prelude.{◌||◌, ◌&&◌, nat_lt}
use Rattle.std.specs.Option.{is_none, unwrap_or}
use Rattle.normalizer_ucd.specs.declared.error.Place.{Place}
use Rattle.normalizer_ucd.specs.declared.error.Problem.TheVariants as problems
use Rattle.normalizer_ucd.specs.declared.error.UcdFile.TheVariants.{IdnaMappingTable}
use Rattle.normalizer_ucd.specs.declared.idna_table.TableFields.{TableFields}
use Rattle.normalizer_ucd.specs.Fields.{mapped_to}
use Rattle.normalizer_ucd.specs.FileFaults.{next_after, table_findings}
use Rattle.normalizer_ucd.specs.FileLines.{DataLine, maps}
use Rattle.normalizer_ucd.specs.inner.TableLines.{AreFieldsOf}
use Rattle.normalizer_ucd.proofs.Reading.{none_is, none_of, wrong_is}
use Rattle.normalizer_ucd.proofs.idna_table.check.Goals as goal

module _ (l : DataLine) (fields : TableFields) (are : AreFieldsOf l.text fields) where
  findings_are : (next start last : ℕ) (maps_some no_first no_last no_status no_mapping : Bool) →
      next ≡ next_after l.before → start ≡ unwrap_or fields.first 0 → last ≡ unwrap_or fields.last 0 →
      maps_some ≡ maps fields.status → no_first ≡ is_none fields.first → no_last ≡ is_none fields.last →
      no_status ≡ is_none fields.status → no_mapping ≡ is_none fields.mapping → table_findings l
      ≡ (problems.CodePoint, no_first || no_last)
      ∷ (problems.Order, nat_lt start next || nat_lt last start)
      ∷ (problems.Gap, nat_lt next start)
      ∷ (problems.MissingField, fields.lacks_status || (maps_some && fields.lacks_mapping))
      ∷ (problems.Status, no_status)
      ∷ (problems.Mapping, maps_some && no_mapping)
      ∷ []
  findings_are next start last m nf nl ns nm a b c d e f g h =
      rw (a, b, c, d, e, f, g, h ∙ none_of (λ v. v.items) fields.mapping (mapped_to l.text) are.mapping)
      (rw (are.first, are.last, are.lacks_status, are.status, are.lacks_mapping) refl)

pub returns : goal.returns
returns c l are number next =
    let same = findings_are l c.args.fields.now are c.args.next c.unwrap_or-start.result c.unwrap_or-last.result
    c.maps-maps.result c.is_none.result c.is_none-2.result c.is_none-3.result c.is_none-4.result next
    c.unwrap_or-start.ensures c.unwrap_or-last.ensures c.maps-maps.ensures
    (none_is c.args.fields.now.first c.is_none.result c.is_none.ensures)
    (none_is c.args.fields.now.last c.is_none-2.result c.is_none-2.ensures)
    (none_is c.args.fields.now.status c.is_none-3.result c.is_none-3.ensures)
    (none_is c.args.fields.now.mapping c.is_none-4.result c.is_none-4.ensures) in
    let place : c.at.result ≡ (record { file = IdnaMappingTable; line = l.number })
    = c.at.ensures ∙ ap (λ (n : ℕ). let p : Place = record { file = IdnaMappingTable; line = n } in p) number in
    wrong_is c.refuse.result _ _ _ (table_findings l) place same c.refuse.ensures
