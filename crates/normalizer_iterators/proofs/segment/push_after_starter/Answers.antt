use Rattle.std.proofs.Common.{◌≡◌, ◌<◌, ◌++◌, ◌∷◌, ℕ, Some, None, length, drop, slice_get, sym, ap, ◌∙◌, arith, []}
use Rattle.normal_forms.specs.Reading.{Reading, IsMark, IsStarter}
use Rattle.normalizer_tables.specs.Ignored.{ignored_list}
use Rattle.normalizer_tables.specs.Readings.{reading_by}
use Rattle.normalizer_iterators.specs.WaitingList.{reordered_text}
use Rattle.normalizer_iterators.specs.inner.MarkReads.{after_starter, starter_of}
use Rattle.normalizer_iterators.proofs.segments.BufferedSegments.{after_starter-mark, after_starter-starter, length-rest, no_members, starter_of-mark, starter_of-nil, starter_of-starter}
use Rattle.normalizer_iterators.proofs.segment.push_after_starter.Goals as goal

-- it is its own list
module _ (d : Reading) (b : ℕ) (own : d.list b ≡ b ∷ []) where
  first : Some b ≡ slice_get (d.list b) 0
  first = ap (λ l. slice_get l 0) (sym own)

  own_starter : IsStarter d b → (Some b ≡ starter_of d (d.list b)) × (after_starter d (d.list b) ≡ [])
  own_starter starter = (starter_of-starter d (d.list b) b first starter, after_starter-starter d (d.list b) b first starter ∙ ap (drop 1) own)

  own_mark : IsMark d b → (None ≡ starter_of d (d.list b)) × (after_starter d (d.list b) ≡ b ∷ [])
  own_mark mark = (starter_of-mark d (d.list b) b first mark, after_starter-mark d (d.list b) b first mark ∙ own)

-- a starter

pub returns-in-Some-eq0-clause-starter : goal.returns-in-Some-eq0-clause-starter
returns-in-Some-eq0-clause-starter c =
    let own = c.in-Some-eq0.ensures.itself (ignored_list c.args.ignored) in
    (own_starter (reading_by c.args.characters.now c.args.ignored []) c.args.read.character own (omega (arith, c.in-Some-eq0.ensures.class))).0

pub returns-in-Some-eq0-clause-text : goal.returns-in-Some-eq0-clause-text
returns-in-Some-eq0-clause-text c =
    let own = c.in-Some-eq0.ensures.itself (ignored_list c.args.ignored) in
    let is = own_starter (reading_by c.args.characters.now c.args.ignored []) c.args.read.character own (omega (arith, c.in-Some-eq0.ensures.class)) in
    λ e same agrees rest. ap (λ l. reordered_text e c.args.waiting.now (l ++ rest)) is.1

pub returns-in-Some-eq0-clause-held : goal.returns-in-Some-eq0-clause-held
returns-in-Some-eq0-clause-held c =
    let own = c.in-Some-eq0.ensures.itself (ignored_list c.args.ignored) in
    let is = own_starter (reading_by c.args.characters.now c.args.ignored []) c.args.read.character own (omega (arith, c.in-Some-eq0.ensures.class)) in
    omega (arith, ap length is.1)

-- or a mark

pub returns-in-Some-clause-starter : goal.returns-in-Some-clause-starter
returns-in-Some-clause-starter c =
    let own = c.in-Some.ensures.itself (ignored_list c.args.ignored) in
    (own_mark (reading_by c.args.characters.now c.args.ignored []) c.args.read.character own (omega (arith, c.in-Some.ensures.class))).0

pub returns-in-Some-clause-text : goal.returns-in-Some-clause-text
returns-in-Some-clause-text c =
    let own = c.in-Some.ensures.itself (ignored_list c.args.ignored) in
    let is = own_mark (reading_by c.args.characters.now c.args.ignored []) c.args.read.character own (omega (arith, c.in-Some.ensures.class)) in
    λ e same agrees rest. ap (λ l. reordered_text e c.args.waiting.now (l ++ rest)) is.1 ∙ c.in_ok-push_mark-in-Some.ensures.text e rest

pub returns-in-Some-clause-held : goal.returns-in-Some-clause-held
returns-in-Some-clause-held c =
    let own = c.in-Some.ensures.itself (ignored_list c.args.ignored) in
    let is = own_mark (reading_by c.args.characters.now c.args.ignored []) c.args.read.character own (omega (arith, c.in-Some.ensures.class)) in
    omega (arith, c.in_ok-push_mark-in-Some.ensures.held, ap length is.1)

pub returns-in_err-push_mark-in-Some-clause-succeeds : goal.returns-in_err-push_mark-in-Some-clause-succeeds
returns-in_err-push_mark-in-Some-clause-succeeds c = λ fits.
    let own = c.in-Some.ensures.itself (ignored_list c.args.ignored) in
    let is = own_mark (reading_by c.args.characters.now c.args.ignored []) c.args.read.character own (omega (arith, c.in-Some.ensures.class)) in
    cc (c.in_err-push_mark-in-Some.ensures.succeeds (omega (arith, ap length is.1)))

-- it has no members

pub returns-in_default-clause-starter : goal.returns-in_default-clause-starter
returns-in_default-clause-starter c =
    (starter_of-nil _ _ (sym c.members-members.ensures ∙ no_members _ (sym c.in_default.is ∙ c.get.ensures))).0

pub returns-in_default-clause-text : goal.returns-in_default-clause-text
returns-in_default-clause-text c = λ e same agrees rest.
    let is = starter_of-nil (reading_by c.args.characters.now c.args.ignored []) _ (sym c.members-members.ensures ∙ no_members _ (sym c.in_default.is ∙ c.get.ensures)) in
    ap (λ l. reordered_text e c.args.waiting.now (l ++ rest)) is.1

pub returns-in_default-clause-held : goal.returns-in_default-clause-held
returns-in_default-clause-held c =
    let is = starter_of-nil (reading_by c.args.characters.now c.args.ignored []) _ (sym c.members-members.ensures ∙ no_members _ (sym c.in_default.is ∙ c.get.ensures)) in
    omega (arith, ap length is.1)

-- it begins with a mark

pub returns-then-class_of-ne0-clause-starter : goal.returns-then-class_of-ne0-clause-starter
returns-then-class_of-ne0-clause-starter c =
    let d = reading_by c.args.characters.now c.args.ignored [] in
    rw (← c.members-members.ensures) (starter_of-mark d _ c.in-Some-get.first c.in-Some-get.ensures (omega (arith, c.class_of.ensures)))

pub returns-then-class_of-ne0-clause-text : goal.returns-then-class_of-ne0-clause-text
returns-then-class_of-ne0-clause-text c = λ e same agrees rest.
    let d = reading_by c.args.characters.now c.args.ignored [] in
    let mark : 0 < d.class c.in-Some-get.first = omega (arith, c.class_of.ensures) in
    ap (λ l. reordered_text e c.args.waiting.now (l ++ rest)) (ap (after_starter d) (sym c.members-members.ensures) ∙ after_starter-mark d _ c.in-Some-get.first c.in-Some-get.ensures mark)
    ∙ c.in_ok-push_from.ensures.text e same agrees rest

pub returns-then-class_of-ne0-clause-held : goal.returns-then-class_of-ne0-clause-held
returns-then-class_of-ne0-clause-held c =
    let d = reading_by c.args.characters.now c.args.ignored [] in
    let whole = after_starter-mark d _ c.in-Some-get.first c.in-Some-get.ensures (omega (arith, c.class_of.ensures)) in
    rw (← c.members-members.ensures) (omega (arith, c.in_ok-push_from.ensures.held, ap length whole))

pub returns-in_err-push_from-clause-succeeds : goal.returns-in_err-push_from-clause-succeeds
returns-in_err-push_from-clause-succeeds c = λ fits.
    let d = reading_by c.args.characters.now c.args.ignored [] in
    let mark : 0 < d.class c.in-Some-get.first = omega (arith, c.class_of.ensures) in
    let whole = ap (after_starter d) (sym c.members-members.ensures) ∙ after_starter-mark d _ c.in-Some-get.first c.in-Some-get.ensures mark in
    cc (c.in_err-push_from.ensures.succeeds (omega (arith, ap length whole)))

-- it begins with a starter

pub returns-clause-starter : goal.returns-clause-starter
returns-clause-starter c =
    let d = reading_by c.args.characters.now c.args.ignored [] in
    rw (← c.members-members.ensures) (starter_of-starter d _ c.in-Some-get.first c.in-Some-get.ensures (omega (arith, c.class_of.ensures)))

pub returns-clause-text : goal.returns-clause-text
returns-clause-text c = λ e same agrees rest.
    let d = reading_by c.args.characters.now c.args.ignored [] in
    let starter : d.class c.in-Some-get.first ≡ 0 = omega (arith, c.class_of.ensures) in
    ap (λ l. reordered_text e c.args.waiting.now (l ++ rest)) (ap (after_starter d) (sym c.members-members.ensures) ∙ after_starter-starter d _ c.in-Some-get.first c.in-Some-get.ensures starter)
    ∙ c.in_ok-push_from-2.ensures.text e same agrees rest

pub returns-clause-held : goal.returns-clause-held
returns-clause-held c =
    let d = reading_by c.args.characters.now c.args.ignored [] in
    let starter : d.class c.in-Some-get.first ≡ 0 = omega (arith, c.class_of.ensures) in
    let rest_of = ap (after_starter d) (sym c.members-members.ensures) ∙ after_starter-starter d _ c.in-Some-get.first c.in-Some-get.ensures starter in
    omega (arith, c.in_ok-push_from-2.ensures.held, ap length rest_of, length-rest c.members-members.result c.in-Some-get.first c.in-Some-get.ensures)

pub returns-in_err-push_from-2-clause-succeeds : goal.returns-in_err-push_from-2-clause-succeeds
returns-in_err-push_from-2-clause-succeeds c = λ fits.
    let d = reading_by c.args.characters.now c.args.ignored [] in
    let starter : d.class c.in-Some-get.first ≡ 0 = omega (arith, c.class_of.ensures) in
    let rest_of = ap (after_starter d) (sym c.members-members.ensures) ∙ after_starter-starter d _ c.in-Some-get.first c.in-Some-get.ensures starter in
    cc (c.in_err-push_from-2.ensures.succeeds (omega (arith, ap length rest_of, length-rest c.members-members.result c.in-Some-get.first c.in-Some-get.ensures)))
