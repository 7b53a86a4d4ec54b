use Rattle.std.proofs.Common.{◌≡◌, IfOk, Result, Ok, Err, arith, sym, subst}
use Rattle.normalizer_tables.specs.Entries.{EntryValue}
use Rattle.normalizer_records.specs.inner.CutLists.{IsCutEntry}
use Rattle.normalizer_records.proofs.cut_lists.cut_entry.Goals as goal

if_made : {E : Type 0} (P : EntryValue → Type 0) (x : EntryValue) (r : Result EntryValue E) → IfOk r (λ e. e ≡ x) → P x → IfOk r P
if_made P x (Ok e) is h = subst P (sym is) h
if_made P x (Err e) is h = tt

pub returns-clause-entry : goal.returns-clause-entry
returns-clause-entry c =
    let canonical = c.in_ok-canonical.ensures in
    let here = c.deref.ensures.value in
    let class = c.class_of-class.ensures in
    let step = c.step_of.ensures in
    let mapping = c.unwrap_or-mapping.ensures in
    if_made (IsCutEntry c.args.records.now c.args.uts46.now) _ c.new.result c.new.ensures (record {
      class = class;
      canonical = canonical.list;
      compatibility = rw here c.in_ok-compatibility.ensures.list;
      mapper = c.in_ok-mapper.ensures.list c.in_ok-canonical.canonical.items canonical.list;
      mapping = cc;
      characters = record {
        character = c.ranges.c.0;
        class = omega arith;
        canonical = canonical.text;
        compatibility = rw here c.in_ok-compatibility.ensures.text;
        mapper = c.in_ok-mapper.ensures.text c.in_ok-canonical.canonical.items canonical.text;
      };
    })
