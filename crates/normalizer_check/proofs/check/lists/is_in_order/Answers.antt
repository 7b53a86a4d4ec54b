use Rattle.std.proofs.Common.{◌≡◌, refl, false, sym, ◌∙◌, arith, ◌≤◌, length, []}
use Rattle.normalizer_tables.specs.Characters.{class_of}
use Rattle.normalizer_tables.specs.Readings.{reading_by}
use Rattle.normalizer_tables.specs.declared.characters.IgnoredCharacters.TheVariants.{Dropped}
use Rattle.normalizer_tables.proofs.lists.OrderedLists.{rises_from, rises_from-member, rises_from-fall, rises_from-end, order-rising, order-short, rising-order}
use Rattle.normalizer_check.proofs.check.lists.is_in_order.Goals as goal

pub returns-then-len-le1 : goal.returns-then-len-le1
returns-then-len-le1 c = (λ yes. order-short (reading_by c.args.data.now Dropped []) c.args.list.now (omega (arith, c.len.ensures, c.if-len-le1.true)), λ same. refl)

pub returns-then-class-last : goal.returns-then-class-last
returns-then-class-last c =
    let falls : rises_from (class_of c.args.data.now) 0 c.args.list.now ≡ false =
    c.loop-place.invariant
    ∙ rises_from-fall (class_of c.args.data.now) c.loop-place.last c.args.list.now c.loop-place.place c.at.result c.class_of-class.result c.at.ensures
    c.class_of-class.ensures c.if-class-gt0.true c.if-class-last.true in
    (λ h. cc, λ h. sym falls ∙ rising-order (reading_by c.args.data.now Dropped []) c.args.list.now h)

pub loop-place-preserved : goal.loop-place-preserved
loop-place-preserved c =
    c.loop-place.invariant
    ∙ rises_from-member (class_of c.args.data.now) c.loop-place.last c.args.list.now c.loop-place.place c.at.result c.class_of-class.result c.at.ensures
    c.class_of-class.ensures c.else-class-gt0.either

pub returns : goal.returns
returns c =
    let past : length c.args.list.now ≤ c.loop-place.place = omega arith in (
      λ h. order-rising (reading_by c.args.data.now Dropped []) 0 c.args.list.now
          (c.loop-place.invariant ∙ rises_from-end (class_of c.args.data.now) c.loop-place.last c.args.list.now c.loop-place.place past),
      λ h. refl,
    )
