use Rattle.std.proofs.Common.{refl}
use Rattle.normalizer_iterators.proofs.composing.BeforeStarterLemmas.{Steps-fault, Steps-end, Steps-first_starter, Steps-passed}
use Rattle.normalizer_iterators.proofs.passthrough.PassthroughItemLemmas.{has_boundary_before, YieldsPassthrough-kept}
use Rattle.normalizer_iterators.proofs.composition.Composition.pass.Goals as goal

pub next_passthrough-requires : goal.next_passthrough-requires
next_passthrough-requires g c =
    let s = c.args.self.now in
    record {
      can = c.requires.can;
      at_boundary = has_boundary_before s.decomposed.characters s.bounds s.pairs.now s.suits s.decomposed.ignored;
      empty = c.requires.at_passed.waiting;
    }

-- ---- a character is given as it is

pub returns-in-Some-Ok-Itself : goal.returns-in-Some-Ok-Itself
returns-in-Some-Ok-Itself g c =
    let s = c.args.self.now in
    let reached = rw c.in-Some-Ok-Itself.field-0-is at c.in-Some-Ok-Itself.ensures s.pairs.now s.suits c.requires.at_passed in
    let given = rw c.in-Some-Ok-Itself.field-0-0-is at reached in
    Steps-passed g.I.Iterator s c.requires.ahead _ c.in-Some-Ok-Itself.character
    (record { kept = (given.kept, refl); ahead = c.requires.ahead }) given

pub invariant_of-self : goal.invariant_of-self
invariant_of-self g c =
    let s = c.args.self.now in
    record { suits = rw (YieldsPassthrough-kept g.I.Iterator s.pairs.now s.decomposed _ _ (c.next_passthrough.ensures s.pairs.now s.suits c.requires.at_passed)) s.suits }

-- ---- the first member of its list is composed

pub compose_on-requires : goal.compose_on-requires
compose_on-requires g c =
    let s = c.args.self.now in
    let reached = rw c.in-Some-Ok-FirstMember.field-0-is at c.in-Some-Ok-FirstMember.ensures s.pairs.now s.suits c.requires.at_passed in
    let given = rw c.in-Some-Ok-FirstMember.field-0-0-is at reached in
    given.steps.ready c.requires.can

pub returns-in-Some-Ok-FirstMember : goal.returns-in-Some-Ok-FirstMember
returns-in-Some-Ok-FirstMember g c =
    let s = c.args.self.now in
    let reached = rw c.in-Some-Ok-FirstMember.field-0-is at c.in-Some-Ok-FirstMember.ensures s.pairs.now s.suits c.requires.at_passed in
    let given = rw c.in-Some-Ok-FirstMember.field-0-0-is at reached in
    Steps-first_starter g.I.Iterator s c.requires.ahead c.in-Some-Ok-FirstMember.starter c.next_passthrough.new.decomposed _ _
    given.steps (given.starter s.pairs.now) c.compose_on.ensures

-- ---- a fault, or the end

pub returns-in-Some-Err : goal.returns-in-Some-Err
returns-in-Some-Err g c =
    let s = c.args.self.now in
    let reached = rw c.in-Some-Err.field-0-is at c.in-Some-Err.ensures s.pairs.now s.suits c.requires.at_passed in
    Steps-fault g.I.Iterator s c.requires.ahead _ c.in-Some-Err.error
    (record { kept = (reached.kept.0, refl); ahead = c.requires.ahead }) reached

pub returns-in-None : goal.returns-in-None
returns-in-None g c =
    let s = c.args.self.now in
    let end = c.in-None.ensures s.pairs.now s.suits c.requires.at_passed in
    Steps-end g.I.Iterator s c.requires.ahead _
    (record { kept = (end.kept.0, refl); ahead = c.requires.ahead }) end
