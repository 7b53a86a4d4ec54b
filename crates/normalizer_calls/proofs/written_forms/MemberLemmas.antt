-- Writing the members of a list, as if from an iterator.
use Rattle.std.proofs.Common.{◌≡◌, ℕ, zero, suc, ◌+◌, ◌<◌, ◌≤◌, List, [], ◌∷◌, length, drop, take, Option, Some, None, Result, Ok, arith, refl, ap, sym, subst, ◌∙◌}
use Rattle.std.specs.Prelude.{All, IfSome, slice_get}
use Rattle.std.proofs.lemmas.List.{append_cancel_right, drop_all, drop-drop}
use Rattle.std.proofs.lemmas.List.Elements.{All-nil, All-cons}
use Rattle.normalizer_text.specs.declared.decoding_step.Step.{Step}
use Rattle.normalizer_text.specs.Encodings.{Encoding, first_in, decoded_in}
use Rattle.normalizer_text.proofs.steps.StepBoundaries.{boundary-first, decoded-take-drop}
use Rattle.normalizer_text.proofs.steps.StepLemmas.{decoded-some}
use Rattle.normalizer_iterators.specs.declared.error.NormalizeError.{NormalizeError}
use Rattle.normalizer_iterators.specs.declared.error.NormalizeError.TheVariants.{Memory}
use Rattle.normalizer_iterators.specs.Items.{Answers, HasEnded, SpellsUnless}

-- the members, one by one
abbrev pub list_gives : List ℕ → Option (Result ℕ NormalizeError) → List ℕ → Type 0
list_gives [] answer rest = (answer ≡ None) × (rest ≡ [])
list_gives (c ∷ x) answer rest = (answer ≡ Some (Ok c)) × (rest ≡ x)

list_ended : HasEnded list_gives []
list_ended = record { at = by }
  where
    by : (rs : List (Option (Result ℕ NormalizeError))) (t : List ℕ) → Answers list_gives [] rs t → All (λ r. r ≡ None) rs
    by [] t h = All-nil (λ r. r ≡ None)
    by (r ∷ rs) t (u, step, rest) = All-cons (λ r. r ≡ None) r rs step.0 (by rs t (subst (λ v. Answers list_gives v rs t) step.1 rest))

pub SpellsUnless-list : (x : List ℕ) → SpellsUnless list_gives Memory x x
SpellsUnless-list [] = λ r t step. rw step.0 (rw step.1 list_ended)
SpellsUnless-list (c ∷ x) = λ r t step. rw step.0 (refl, rw step.1 (SpellsUnless-list x))

-- the member at a place comes next, and none after the last
pub list_gives-at : (x : List ℕ) (place c : ℕ) → slice_get x place ≡ Some c → list_gives (drop place x) (Some (Ok c)) (drop (place + 1) x)
list_gives-at [] place c is = absurd (cc)
list_gives-at (d ∷ x) zero c is = let same : d ≡ c = cc in (ap (λ e. Some (Ok e)) (sym same), refl)
list_gives-at (d ∷ x) (suc place) c is =
    let next : suc place + 1 ≡ suc (place + 1) = omega arith in
    subst (λ n. list_gives (drop place x) (Some (Ok c)) (drop n (d ∷ x))) (sym next) (list_gives-at x place c is)

pub list_gives-end : (x : List ℕ) (place : ℕ) → length x ≤ place → list_gives (drop place x) None []
list_gives-end x place past = let is = drop_all place x past in rw is (refl, refl)

-- the one in front comes next, and none if there is none
pub list_gives-front : (x rest : List ℕ) (c : ℕ) → x ≡ c ∷ rest → list_gives x (Some (Ok c)) rest
list_gives-front x rest c is = rw is (refl, refl)

pub list_gives-none : (x : List ℕ) → x ≡ [] → list_gives x None []
list_gives-none x is = rw is (refl, refl)

-- the first step alone
pub decoded-front : (e : Encoding) (units : List ℕ) (s : Step) → 0 < length units → s ≡ first_in e units → decoded_in e (take s.width units) ≡ s.character ∷ []
decoded-front e units s some is =
    let left = decoded_in e (drop s.width units) in
    append_cancel_right (decoded_in e (take s.width units)) (s.character ∷ []) left
    (sym (decoded-take-drop e units s.width (boundary-first e units s (record { some = some; is = is })))
    ∙ decoded-some e units some ∙ ap (λ t. t.character ∷ decoded_in e (drop t.width units)) (sym is))

-- the step after some units, which is the first one of the rest
pub first-drop : (e : Encoding) (units rest : List ℕ) (position end : ℕ) (next : Option Step) → rest ≡ drop position units → IfSome next (λ s. s ≡ first_in e (drop end rest))
    → IfSome next (λ s. s ≡ first_in e (drop (position + end) units))
first-drop e units rest position end None is next = tt
first-drop e units rest position end (Some s) is next =
    next ∙ ap (λ l. first_in e (drop end l)) is ∙ ap (first_in e) (drop-drop end position units ∙ ap (λ n. drop n units) (omega arith))
