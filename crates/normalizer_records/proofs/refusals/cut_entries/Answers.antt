use Rattle.std.proofs.Common.{◌∷◌, [], ◌++◌, ap, map, sym, take, ◌∙◌}
use Rattle.std.proofs.lemmas.List.{get_or_read, map-append, take_more}
use Rattle.std.proofs.lemmas.List.Elements.{All-push}
use Rattle.normalizer_tables.specs.Entries.{EntryValue}
use Rattle.normalizer_records.specs.inner.CutLists.{IsCutEntry}
use Rattle.normalizer_records.proofs.refusals.cut_entries.Goals as goal

pub loop-place-preserved : goal.loop-place-preserved
loop-place-preserved c =
    let xs = c.args.characters.now in
    let i = c.loop-place.place in
    let key = λ (e : EntryValue). e.character in
    let e = c.in_ok-cut_entry.field-0 in
    let read = get_or_read xs _ _ c.loop-place-test.true c.index-characters-place.is 0 in
    let pushed = c.in_ok-push.ensures.items in
    record {
      characters = ap (map key) pushed ∙ map-append key c.loop-place.entries.items (e ∷ [])
          ∙ ap (λ ys. ys ++ key e ∷ []) c.loop-place.invariant.characters
          ∙ ap (λ c. take i xs ++ c ∷ []) (c.in_ok-cut_entry.ensures.character ∙ read) ∙ sym (take_more xs i 0 c.loop-place-test.true);
      cut = rw pushed (All-push (IsCutEntry c.args.records.now c.args.uts46.now) _ _ c.loop-place.invariant.cut c.in_ok-cut_entry.ensures.entry);
    }
