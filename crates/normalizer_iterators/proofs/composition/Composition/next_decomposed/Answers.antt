use Rattle.std.proofs.Common.{refl, sym, ◌∙◌, arith}
use Rattle.normalizer_iterators.proofs.composing.BeforeStarterLemmas.{Steps-first_starter, Steps-mark, Steps-end, Steps-fault}
use Rattle.normalizer_iterators.proofs.reads.LazyLemmas.{class-reading_by}
use Rattle.normalizer_tables.specs.declared.characters.IgnoredCharacters.TheVariants.{Dropped}
use Rattle.normalizer_iterators.proofs.composition.Composition.next_decomposed.Goals as goal

-- ---- the first starter is composed

pub compose_on-requires : goal.compose_on-requires
compose_on-requires g c = let step = rw c.in-Some-Ok.field-0-is at c.in-Some-Ok.ensures.steps in step.ready c.requires.can

pub returns-then-given-eq0 : goal.returns-then-given-eq0
returns-then-given-eq0 g c =
    let s = c.args.self.now in
    let known = rw c.in-Some-Ok.field-0-is at c.in-Some-Ok.ensures.class in
    let class = known ∙ sym (class-reading_by s.decomposed.characters Dropped s.pairs.now c.in-Some-Ok.given.character) in
    let step = rw c.in-Some-Ok.field-0-is at c.in-Some-Ok.ensures.steps in
    Steps-first_starter g.I.Iterator s c.requires.ahead c.in-Some-Ok.given.character _ _ _ step
    (sym class ∙ c.if-given-eq0.true) c.compose_on.ensures

-- ---- a mark comes

pub returns-else-given-eq0 : goal.returns-else-given-eq0
returns-else-given-eq0 g c =
    let s = c.args.self.now in
    let known = rw c.in-Some-Ok.field-0-is at c.in-Some-Ok.ensures.class in
    let class = known ∙ sym (class-reading_by s.decomposed.characters Dropped s.pairs.now c.in-Some-Ok.given.character) in
    let step = rw c.in-Some-Ok.field-0-is at c.in-Some-Ok.ensures.steps in
    Steps-mark g.I.Iterator s c.requires.ahead _ c.in-Some-Ok.given.character
    (record { kept = (step.kept.0, refl); ahead = c.requires.ahead }) step
    (omega (arith, class, c.if-given-eq0.false))

-- ---- a fault, or the end

pub returns-in-Some-Err : goal.returns-in-Some-Err
returns-in-Some-Err g c =
    let step = rw c.in-Some-Err.field-0-is at c.in-Some-Err.ensures.steps in
    Steps-fault g.I.Iterator c.args.self.now c.requires.ahead _ c.in-Some-Err.error
    (record { kept = (step.kept.0, refl); ahead = c.requires.ahead }) step

pub returns-in-None : goal.returns-in-None
returns-in-None g c =
    Steps-end g.I.Iterator c.args.self.now c.requires.ahead _
    (record { kept = (c.in-None.ensures.steps.kept.0, refl); ahead = c.requires.ahead }) c.in-None.ensures.steps
