-- The cut and the first mismatch of a text over any reading: what needs no hypothesis, or inhabited lists alone.
use Rattle.std.proofs.Common.{◌≡◌, ◌≢◌, ℕ, zero, suc, ◌<◌, ◌≤◌, ◌⊎◌, ◌↔◌, List, [], ◌∷◌, ◌++◌, length, take, drop, Option, Some, None, slice_get, inl}
use Rattle.std.proofs.Common.{inr, refl, sym, ap, subst, ◌∙◌, arith, append-nil, take-append-drop, length-take-le, drop_of_length-le}
use Rattle.std.proofs.lemmas.Bool.{cases_eq, cases_lt}
use Rattle.std.proofs.Math.Seq.{drop-length, take-length}
use Rattle.normal_forms.specs.Reading.{Reading}
use Rattle.normal_forms.specs.Decomposition.{expand}
use Rattle.normal_forms.specs.Order.{order}
use Rattle.normal_forms.specs.Composition.{joined, visit, compose_from, compose}
use Rattle.normal_forms.specs.Forms.{Form, Decomposing, Composing, nfd, nfc, normal_form, IsNormalized}
use Rattle.normal_forms.specs.Hypotheses.{HasNonemptyLists}
use Rattle.normal_forms.specs.Cut.{QualifiesForCut, IsCut}
use Rattle.normal_forms.specs.Offence.{IsFirst, IsFirstOffence, IsOffenceOf}
use Rattle.normal_forms.proofs.cuts.CutLemmas.{expand-empty, length-nfd}

-- ---- the form of nothing, and what has it

pub form_of_nothing : (d : Reading) (form : Form) → normal_form d form [] ≡ []
unfolding normal_form nfc nfd compose compose_from order expand
form_of_nothing d Decomposing = refl
form_of_nothing d Composing = refl

visit-some : (d : Reading) (x : List ℕ) (c : ℕ) → visit d x c ≢ []
unfolding visit
visit-some d [] c e = cc
visit-some d (a ∷ between) c e = either (joined d a between c) e
  where
    either : (o : Option ℕ) → (elim o as (λ _. List ℕ) [ Some composite ↦ composite ∷ between | None ↦ a ∷ visit d between c ]) ≡ [] → ⊥
    either (Some r) e = cc
    either None e = cc

compose_from-some : (d : Reading) (x rest : List ℕ) → x ≢ [] → compose_from d x rest ≢ []
unfolding compose_from
compose_from-some d x [] some e = some e
compose_from-some d x (c ∷ rest) some e = compose_from-some d (visit d x c) rest (visit-some d x c) e

-- composition leaves nothing of nothing alone
compose-empty : (d : Reading) (x : List ℕ) → compose d x ≡ [] → x ≡ []
unfolding compose compose_from
compose-empty d [] e = refl
compose-empty d (c ∷ x) e = absurd (compose_from-some d (visit d [] c) x (visit-some d [] c) e)

nfd-empty : (d : Reading) → HasNonemptyLists d → (x : List ℕ) → nfd d x ≡ [] → x ≡ []
nfd-empty d are_nonempty x e = expand-empty d are_nonempty x (sym (length-nfd d x) ∙ ap length e)

-- no text but the empty one has an empty form
pub form_is_nothing : (d : Reading) (form : Form) → HasNonemptyLists d → (x : List ℕ) → normal_form d form x ≡ [] → x ≡ []
unfolding normal_form nfc
form_is_nothing d Decomposing are_nonempty x e = nfd-empty d are_nonempty x e
form_is_nothing d Composing are_nonempty x e = nfd-empty d are_nonempty x (compose-empty d (nfd d x) e)

-- ---- normalized texts

-- if the rest after a number that qualifies is normalized, so is the text
pub normalized_from_rest : (d : Reading) (form : Form) (x : List ℕ) (n : ℕ) → QualifiesForCut d form x n → IsNormalized d form (drop n x) → IsNormalized d form x
normalized_from_rest d form x n q own = sym q.keeps ∙ ap (λ l. take n x ++ l) own ∙ take-append-drop n x

-- if there is no rest after a number that qualifies, the text is normalized
pub normalized_from_whole : (d : Reading) (form : Form) (x : List ℕ) (n : ℕ) → QualifiesForCut d form x n → drop n x ≡ [] → IsNormalized d form x
normalized_from_whole d form x n q none =
    normalized_from_rest d form x n q (ap (normal_form d form) none ∙ form_of_nothing d form ∙ sym none)

-- a text is normalized exactly if the cut is its length
pub normalized_iff_cut : (d : Reading) (form : Form) (x : List ℕ) → IsNormalized d form x ↔ IsCut d form x (length x)
normalized_iff_cut d form x = (
  λ own. record {
    qualifies = record {
      within = omega arith;
      keeps =
          ap (λ l. l ++ normal_form d form (drop (length x) x)) (take-length x) ∙ ap (λ l. x ++ normal_form d form l) (drop-length x)
          ∙ ap (λ l. x ++ l) (form_of_nothing d form) ∙ append-nil x ∙ sym own;
    };
    greatest = λ m q. q.within;
  },
  λ cut. normalized_from_whole d form x (length x) cut.qualifies (drop-length x),
)

-- ---- every text has one cut

pub same_or_not : (x y : List ℕ) → (x ≡ y) ⊎ (x ≢ y)
same_or_not [] [] = inl refl
same_or_not [] (b ∷ y) = inr (λ e. cc)
same_or_not (a ∷ x) [] = inr (λ e. cc)
same_or_not (a ∷ x) (b ∷ y) =
    elim (cases_eq a b) [
      | inl first ↦ elim (same_or_not x y) [ inl rest ↦ inl (cc (first, rest)) | inr differ ↦ inr (λ e. differ (let rest : x ≡ y = cc in rest)) ]
      | inr differ ↦ inr (λ e. differ (let first : a ≡ b = cc in first))
    ]

pub normalized_or_not : (d : Reading) (form : Form) (x : List ℕ) → IsNormalized d form x ⊎ (normal_form d form x ≢ x)
normalized_or_not d form x = same_or_not (normal_form d form x) x

qualifies_or_not : (d : Reading) (form : Form) (x : List ℕ) (n : ℕ) → QualifiesForCut d form x n ⊎ ¬ QualifiesForCut d form x n
qualifies_or_not d form x n =
    elim (cases_lt (length x) n) [
      | inl past ↦ inr (λ q. (let within = q.within in omega arith))
      | inr within ↦
          elim (same_or_not (take n x ++ normal_form d form (drop n x)) (normal_form d form x)) [
            | inl same ↦ inl (record { within = within; keeps = same })
            | inr differ ↦ inr (λ q. differ q.keeps)
          ]
    ]

-- of what holds of 0, and of each number or not, the greatest number up to n that it holds of
pub greatest_up_to : (P : ℕ → Type 0) → P 0 → ((n : ℕ) → P n ⊎ ¬ P n) → (n : ℕ) → (m : ℕ) × P m × ((k : ℕ) → k ≤ n → P k → k ≤ m)
greatest_up_to P least either zero = (0, least, λ k le q. le)
greatest_up_to P least either (suc n) =
    elim (either (suc n)) [
      | inl q ↦ (suc n, q, λ k le p. le)
      | inr not ↦
          let lower = greatest_up_to P least either n in (
            lower.0,
            lower.1,
            λ k le p. elim (cases_lt n k) [
              | inl past ↦ (let same : k ≡ suc n = omega arith in absurd (not (subst P same p)))
              | inr within ↦ lower.2 k within p
            ],
          )
    ]

pub cut_of : (d : Reading) (form : Form) (x : List ℕ) → (n : ℕ) × IsCut d form x n
cut_of d form x =
    let greatest = greatest_up_to (QualifiesForCut d form x) (record { within = omega arith; keeps = refl }) (qualifies_or_not d form x) (length x) in
    (greatest.0, record { qualifies = greatest.1; greatest = λ m q. greatest.2 m q.within q })

pub cut_unique : (d : Reading) (form : Form) (x : List ℕ) (m n : ℕ) → IsCut d form x m → IsCut d form x n → m ≡ n
cut_unique d form x m n a b =
    let up = b.greatest m a.qualifies in let down = a.greatest n b.qualifies in omega arith

-- the rest after the cut is normalized only if there is none
pub rest_is_nothing : (d : Reading) (form : Form) (x : List ℕ) (n : ℕ) → IsCut d form x n → IsNormalized d form (drop n x) → drop n x ≡ []
rest_is_nothing d form x n cut own =
    let whole = (normalized_iff_cut d form x).0 (normalized_from_rest d form x n cut.qualifies own) in
    let same = cut_unique d form x n (length x) cut whole in
    drop_of_length-le x (omega arith)

-- the cut of a text that is not normalized is below its length
pub cut_below : (d : Reading) (form : Form) (x : List ℕ) (n : ℕ) → normal_form d form x ≢ x → IsCut d form x n → n < length x
cut_below d form x n differs cut =
    elim (cases_lt n (length x)) [
      | inl within ↦ within
      | inr past ↦ absurd (differs (normalized_from_whole d form x n cut.qualifies (drop_of_length-le x past)))
    ]

-- ---- the first mismatch

pub cases_first : (x : List ℕ) → (x ≡ []) ⊎ ((c : ℕ) × IsFirst x c)
cases_first [] = inl refl
cases_first (c ∷ x) = inr (c, (x, refl))

-- a text that is not normalized has a first mismatch
pub offence_of : (d : Reading) (form : Form) → HasNonemptyLists d → (x : List ℕ) → normal_form d form x ≢ x → (place : ℕ) × (found : ℕ) × (wanted : ℕ) × IsFirstOffence d form x place found wanted
offence_of d form are_nonempty x differs =
    let at = cut_of d form x in
    let nonempty : drop at.0 x ≢ [] = λ none. differs (normalized_from_whole d form x at.0 at.1.qualifies none) in
    elim (cases_first (drop at.0 x)) [
      | inl none ↦ absurd (nonempty none)
      | inr found ↦
          elim (cases_first (normal_form d form (drop at.0 x))) [
            | inl none ↦ absurd (nonempty (form_is_nothing d form are_nonempty (drop at.0 x) none))
            | inr wanted ↦
                (at.0, found.0, wanted.0, record { differs = differs; cut = at.1; is_found = found.1; is_wanted = wanted.1 })
          ]
    ]

pub first_unique : (x : List ℕ) (a b : ℕ) → IsFirst x a → IsFirst x b → a ≡ b
first_unique x a b first second = let same = sym first.1 ∙ second.1 in cc

pub offence_unique : (d : Reading) (form : Form) (x : List ℕ) (place found wanted place' found' wanted' : ℕ) → IsFirstOffence d form x place found wanted
    → IsFirstOffence d form x place' found' wanted' → (place ≡ place') × (found ≡ found') × (wanted ≡ wanted')
offence_unique d form x place found wanted place' found' wanted' a b =
    let same : place ≡ place' = cut_unique d form x place place' a.cut b.cut in (
      same,
      first_unique (drop place' x) found found' (subst (λ n. IsFirst (drop n x) found) same a.is_found) b.is_found,
      first_unique (normal_form d form (drop place' x)) wanted wanted'
          (subst (λ n. IsFirst (normal_form d form (drop n x)) wanted) same a.is_wanted) b.is_wanted,
    )

-- every text has one result: its first mismatch, or none
pub answer_of : (d : Reading) (form : Form) → HasNonemptyLists d → (x : List ℕ) → (o : Option (ℕ × ℕ × ℕ)) × IsOffenceOf d form x o
answer_of d form are_nonempty x =
    elim (normalized_or_not d form x) [
      | inl own ↦ (None, own)
      | inr differs ↦ (let at = offence_of d form are_nonempty x differs in (Some (at.0, at.1, at.2), at.3))
    ]

same_answer : (a b c a' b' c' : ℕ) → a ≡ a' → b ≡ b' → c ≡ c' → ◌≡◌ {A = Option (ℕ × ℕ × ℕ)} (Some (a, b, c)) (Some (a', b', c'))
same_answer a b c a' b' c' first second third = cc

pub answer_unique : (d : Reading) (form : Form) (x : List ℕ) (o p : Option (ℕ × ℕ × ℕ)) → IsOffenceOf d form x o → IsOffenceOf d form x p → o ≡ p
answer_unique d form x None None a b = refl
answer_unique d form x None (Some q) a b = absurd (b.differs a)
answer_unique d form x (Some q) None a b = absurd (a.differs b)
answer_unique d form x (Some p) (Some q) a b =
    let same = offence_unique d form x p.0 p.1 p.2 q.0 q.1 q.2 a b in
    same_answer p.0 p.1 p.2 q.0 q.1 q.2 same.0 same.1 same.2

pub none_iff_normalized : (d : Reading) (form : Form) (x : List ℕ) (o : Option (ℕ × ℕ × ℕ)) → IsOffenceOf d form x o → (o ≡ None) ↔ IsNormalized d form x
none_iff_normalized d form x None a = (λ e. a, λ own. refl)
none_iff_normalized d form x (Some q) a = (λ e. cc, λ own. absurd (a.differs own))

-- what comes after a front of this length is at this place
pub at_seam : (p rest : List ℕ) (n c : ℕ) → length p ≡ n → slice_get (p ++ c ∷ rest) n ≡ Some c
at_seam [] rest zero c h = refl
at_seam [] rest (suc n) c h = cc
at_seam (a ∷ p) rest zero c h = cc
at_seam (a ∷ p) rest (suc n) c h = at_seam p rest n c (omega arith)

-- both characters are at the place: one in the text, the other in its form
pub found_at_place : (d : Reading) (form : Form) (x : List ℕ) (place found wanted : ℕ) → IsFirstOffence d form x place found wanted → slice_get x place ≡ Some found
found_at_place d form x place found wanted o =
    ap (λ l. slice_get l place) (sym (take-append-drop place x) ∙ ap (λ l. take place x ++ l) o.is_found.1)
    ∙ at_seam (take place x) o.is_found.0 place found (length-take-le place x o.cut.qualifies.within)

pub wanted_at_place : (d : Reading) (form : Form) (x : List ℕ) (place found wanted : ℕ) → IsFirstOffence d form x place found wanted → slice_get (normal_form d form x) place ≡ Some wanted
wanted_at_place d form x place found wanted o =
    ap (λ l. slice_get l place) (sym o.cut.qualifies.keeps ∙ ap (λ l. take place x ++ l) o.is_wanted.1)
    ∙ at_seam (take place x) o.is_wanted.0 place wanted (length-take-le place x o.cut.qualifies.within)
