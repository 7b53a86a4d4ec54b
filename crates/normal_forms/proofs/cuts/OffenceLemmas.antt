-- The cut and the first mismatch of a text, and of the text with a continuation.
use Rattle.std.proofs.Common.{◌≡◌, ◌≢◌, ℕ, ◌≤◌, ◌↔◌, List, [], ◌∷◌, ◌++◌, length, take, drop, inl, inr, refl, sym, ap, subst, ◌∙◌, arith}
use Rattle.std.proofs.Common.{append_assoc, append-nil, length-append, take-append-drop, length-take-le, take-take, take_at}
use Rattle.std.proofs.lemmas.Bool.{cases_lt}
use Rattle.std.proofs.lemmas.List.{take-append-le}
use Rattle.normal_forms.specs.Reading.{Reading}
use Rattle.normal_forms.specs.Forms.{Form, normal_form, IsNormalized}
use Rattle.normal_forms.specs.Hypotheses.{HasNonemptyLists, SuitsForm}
use Rattle.normal_forms.specs.Cut.{QualifiesForCut, IsCut, IsCommonFront, IsFront}
use Rattle.normal_forms.specs.Offence.{IsFirstOffence}
use Rattle.normal_forms.proofs.composing.VisitLemmas.{pairs_for, normal_form-composed, pairs_for-full, pairs_for-faithful, pairs_for-are_nonempty}
use Rattle.normal_forms.proofs.cuts.PlaceLemmas.{cut_below, offence_of}
pub use Rattle.normal_forms.proofs.cuts.PlaceLemmas.{cut_unique}
use Rattle.normal_forms.proofs.cuts.CutLemmas.{suffix_of_form, rest_of_common_front, front_of_form, form_of_offered_front}
use Rattle.normal_forms.proofs.cuts.AppendLemmas.{front_without_continuation, front_of_form_is_form}

-- ---- common fronts of two lists

-- what two lists begin with is a common front
pub common_front_from : (x y p r s : List ℕ) (n : ℕ) → length p ≡ n → p ++ r ≡ x → p ++ s ≡ y → IsCommonFront x y n
common_front_from x y p r s n h first second = record {
  within_first = omega (arith, length-append p r, ap length first);
  within_second = omega (arith, length-append p s, ap length second);
  same = ap (take n) (sym first) ∙ take_at p r n h ∙ sym (take_at p s n h) ∙ ap (take n) second;
}

-- the second list goes on after the common front
pub common_front-parts : (x y : List ℕ) (n : ℕ) → IsCommonFront x y n → y ≡ take n x ++ drop n y
common_front-parts x y n front = sym (take-append-drop n y) ∙ ap (λ l. l ++ drop n y) (sym front.same)

pub shorter_common_front : (x y : List ℕ) (m n : ℕ) → m ≤ n → IsCommonFront x y n → IsCommonFront x y m
shorter_common_front x y m n le front = record {
  within_first = (let k = front.within_first in omega arith);
  within_second = (let k = front.within_second in omega arith);
  same = sym (take-take m n x le) ∙ ap (take m) front.same ∙ take-take m n y le;
}

-- ---- fronts and suffixes of forms

-- after a common front of a text and its form comes the form of the rest
pub normal_form_behind_front : (d : Reading) (form : Form) → SuitsForm d form → (p r s : List ℕ) → normal_form d form (p ++ r) ≡ p ++ s → normal_form d form r ≡ s
normal_form_behind_front d form suits p r s e =
    normal_form-composed d form suits r
    ∙ rest_of_common_front (pairs_for d form) (pairs_for-full d form suits) (pairs_for-faithful d form suits) p r s
    (sym (normal_form-composed d form suits (p ++ r)) ∙ e)

-- every front and every suffix of a form is normalized
pub parts_of_form : (d : Reading) (form : Form) → SuitsForm d form → (x q s : List ℕ) → normal_form d form x ≡ q ++ s → IsNormalized d form q × IsNormalized d form s
parts_of_form d form suits x q s e =
    let full = pairs_for-full d form suits in
    let faithful = pairs_for-faithful d form suits in
    let parts = sym (normal_form-composed d form suits x) ∙ e in (
      normal_form-composed d form suits q ∙ front_of_form_is_form (pairs_for d form) full faithful x q s parts,
      normal_form-composed d form suits s ∙ suffix_of_form (pairs_for d form) full faithful x q s parts,
    )

-- a text is normalized exactly if it is a front of its form
pub is_normalized_iff_front : (d : Reading) (form : Form) → SuitsForm d form → (x : List ℕ) → IsNormalized d form x ↔ IsFront x (normal_form d form x)
is_normalized_iff_front d form suits x = (
  λ own. ([], own ∙ sym (append-nil x)),
  λ front.
      let none =
      front_of_form (pairs_for d form) (pairs_for-full d form suits) (pairs_for-faithful d form suits) x front.0
      (sym (normal_form-composed d form suits x) ∙ front.1) in
      front.1 ∙ ap (λ l. x ++ l) none ∙ append-nil x,
)

-- what a text has at its front in common with the form of a longer text, it has with its own form
pub normal_form_front_without_continuation : (d : Reading) (form : Form) → SuitsForm d form → (q r t : List ℕ) → IsFront q (normal_form d form (q ++ (r ++ t)))
    → IsFront q (normal_form d form (q ++ r))
normal_form_front_without_continuation d form suits q r t front =
    let without =
    front_without_continuation (pairs_for d form) (pairs_for-full d form suits) (pairs_for-faithful d form suits) q r t
    (front.0, sym (normal_form-composed d form suits (q ++ (r ++ t))) ∙ front.1) in
    (without.0, normal_form-composed d form suits (q ++ r) ∙ without.1)

-- a text whose form is at the front of the text and what follows it is normalized
pub offered_front_is_normalized : (d : Reading) (form : Form) → SuitsForm d form → HasNonemptyLists d → (u v : List ℕ) → IsFront (normal_form d form u) (u ++ v) → IsNormalized d form u
offered_front_is_normalized d form suits are_nonempty u v front =
    let composed = normal_form-composed d form suits u in
    composed
    ∙ form_of_offered_front (pairs_for d form) (pairs_for-full d form suits) (pairs_for-faithful d form suits) (pairs_for-are_nonempty d form are_nonempty)
    u v front.0 (front.1 ∙ ap (λ l. l ++ front.0) composed)

-- a form is no front of its text but the whole
pub form_ends_with_text : (d : Reading) (form : Form) → SuitsForm d form → HasNonemptyLists d → (x : List ℕ) → IsFront (normal_form d form x) x → IsNormalized d form x
form_ends_with_text d form suits are_nonempty x front =
    offered_front_is_normalized d form suits are_nonempty x [] (subst (IsFront (normal_form d form x)) (sym (append-nil x)) front)

-- ---- the cut

-- a number qualifies for the cut exactly if that many characters are a common front of the text and its form
pub cut_iff : (d : Reading) (form : Form) → SuitsForm d form → (x : List ℕ) (n : ℕ) → QualifiesForCut d form x n ↔ IsCommonFront x (normal_form d form x) n
cut_iff d form suits x n = (
  λ q.
      common_front_from x (normal_form d form x) (take n x) (drop n x) (normal_form d form (drop n x)) n (length-take-le n x q.within)
      (take-append-drop n x) q.keeps,
  λ front.
      let parts : normal_form d form x ≡ take n x ++ drop n (normal_form d form x) = common_front-parts x (normal_form d form x) n front in
      let rest : normal_form d form (drop n x) ≡ drop n (normal_form d form x) =
      normal_form_behind_front d form suits (take n x) (drop n x) (drop n (normal_form d form x))
      (ap (normal_form d form) (take-append-drop n x) ∙ parts) in
      record { within = front.within_first; keeps = ap (λ l. take n x ++ l) rest ∙ sym parts },
)

pub zero_qualifies : (d : Reading) (form : Form) (x : List ℕ) → QualifiesForCut d form x 0
zero_qualifies d form x = record { within = omega arith; keeps = refl }

-- every smaller number than one that qualifies qualifies
pub smaller_qualifies : (d : Reading) (form : Form) → SuitsForm d form → (x : List ℕ) (m n : ℕ) → m ≤ n → QualifiesForCut d form x n → QualifiesForCut d form x m
smaller_qualifies d form suits x m n le q =
    (cut_iff d form suits x m).1 (shorter_common_front x (normal_form d form x) m n le ((cut_iff d form suits x n).0 q))

-- the cut is the length of the longest common front of the text and its form
pub cut_iff_longest : (d : Reading) (form : Form) → SuitsForm d form → (x : List ℕ) (n : ℕ)
    → IsCut d form x n ↔ (IsCommonFront x (normal_form d form x) n × ((m : ℕ) → IsCommonFront x (normal_form d form x) m → m ≤ n))
cut_iff_longest d form suits x n = (
  λ cut. ((cut_iff d form suits x n).0 cut.qualifies, λ m front. cut.greatest m ((cut_iff d form suits x m).1 front)),
  λ longest. record {
    qualifies = (cut_iff d form suits x n).1 longest.0;
    greatest = λ m q. longest.1 m ((cut_iff d form suits x m).0 q);
  },
)

-- the front before each number that qualifies is normalized
pub front_at_cut : (d : Reading) (form : Form) → SuitsForm d form → (x : List ℕ) (n : ℕ) → QualifiesForCut d form x n → normal_form d form (take n x) ≡ take n x
front_at_cut d form suits x n q = (parts_of_form d form suits x (take n x) (normal_form d form (drop n x)) (sym q.keeps)).0

-- ---- the first mismatch

-- what is found is not what is wanted: else one more character would qualify
pub found_differs : (d : Reading) (form : Form) → SuitsForm d form → (x : List ℕ) (place found wanted : ℕ) → IsFirstOffence d form x place found wanted → found ≢ wanted
found_differs d form suits x place found wanted offence same =
    let p : List ℕ = take place x in
    let r : List ℕ = offence.is_found.0 in
    let s : List ℕ = offence.is_wanted.0 in
    let text : (p ++ found ∷ []) ++ r ≡ x =
    append_assoc p (found ∷ []) r ∙ ap (λ l. p ++ l) (sym offence.is_found.1) ∙ take-append-drop place x in
    let its_form : (p ++ found ∷ []) ++ s ≡ normal_form d form x =
    append_assoc p (found ∷ []) s ∙ ap (λ c. p ++ c ∷ s) same ∙ ap (λ l. p ++ l) (sym offence.is_wanted.1)
    ∙ offence.cut.qualifies.keeps in
    let n : ℕ = length (p ++ found ∷ []) in
    let front = common_front_from x (normal_form d form x) (p ++ found ∷ []) r s n refl text its_form in
    let le = offence.cut.greatest n ((cut_iff d form suits x n).1 front) in
    omega (arith, length-append p (found ∷ []), length-take-le place x offence.cut.qualifies.within)

-- ---- continuations

-- a common front of a longer text and its form is one of the text, as far as that goes
common_front_without_continuation : (d : Reading) (form : Form) → SuitsForm d form → (x y : List ℕ) (n : ℕ) → n ≤ length x
    → IsCommonFront (x ++ y) (normal_form d form (x ++ y)) n → IsFront (take n x) (normal_form d form x)
common_front_without_continuation d form suits x y n within front =
    let text : x ++ y ≡ take n x ++ (drop n x ++ y) =
    ap (λ l. l ++ y) (sym (take-append-drop n x)) ∙ append_assoc (take n x) (drop n x) y in
    let parts : normal_form d form (x ++ y) ≡ take n x ++ drop n (normal_form d form (x ++ y)) =
    common_front-parts (x ++ y) (normal_form d form (x ++ y)) n front
    ∙ ap (λ l. l ++ drop n (normal_form d form (x ++ y))) (take-append-le n x y within) in
    subst (λ l. IsFront (take n x) (normal_form d form l)) (take-append-drop n x)
    (normal_form_front_without_continuation d form suits (take n x) (drop n x) y
    (drop n (normal_form d form (x ++ y)), ap (normal_form d form) (sym text) ∙ parts))

-- what qualifies with a continuation qualifies without it, as far as the text goes
pub qualifies_without_continuation : (d : Reading) (form : Form) → SuitsForm d form → (x y : List ℕ) (n : ℕ) → n ≤ length x → QualifiesForCut d form (x ++ y) n → QualifiesForCut d form x n
qualifies_without_continuation d form suits x y n within q =
    let front = common_front_without_continuation d form suits x y n within ((cut_iff d form suits (x ++ y) n).0 q) in
    (cut_iff d form suits x n).1
    (common_front_from x (normal_form d form x) (take n x) (drop n x) front.0 n (length-take-le n x within) (take-append-drop n x) (sym front.1))

-- if a text is not normalized, no continuation makes it so
pub continued_differs : (d : Reading) (form : Form) → SuitsForm d form → (x y : List ℕ) → normal_form d form x ≢ x → normal_form d form (x ++ y) ≢ x ++ y
continued_differs d form suits x y differs own = differs (parts_of_form d form suits (x ++ y) x y own).0

-- if a text is not normalized, no continuation moves its cut to a later place
pub continued_cut : (d : Reading) (form : Form) → SuitsForm d form → (x y : List ℕ) (n m : ℕ) → normal_form d form x ≢ x → IsCut d form x n → IsCut d form (x ++ y) m → m ≤ n
continued_cut d form suits x y n m differs cut longer =
    elim (cases_lt (length x) m) [
      | inl past ↦
          let whole =
          qualifies_without_continuation d form suits x y (length x) (omega arith)
          (smaller_qualifies d form suits (x ++ y) (length x) m (omega arith) longer.qualifies) in
          let le = cut.greatest (length x) whole in
          let below = cut_below d form x n differs cut in
          absurd (omega arith)
      | inr within ↦ cut.greatest m (qualifies_without_continuation d form suits x y m within longer.qualifies)
    ]

-- if a text has a first mismatch, it has one no later with every continuation
pub continued_offence : (d : Reading) (form : Form) → SuitsForm d form → HasNonemptyLists d → (x y : List ℕ) (place found wanted : ℕ)
    → IsFirstOffence d form x place found wanted → (place' : ℕ) × (found' : ℕ) × (wanted' : ℕ) × IsFirstOffence d form (x ++ y) place' found' wanted' × (place' ≤ place)
continued_offence d form suits are_nonempty x y place found wanted offence =
    let longer = offence_of d form are_nonempty (x ++ y) (continued_differs d form suits x y offence.differs) in
    (longer.0, longer.1, longer.2, longer.3, continued_cut d form suits x y place longer.0 offence.differs offence.cut longer.3.cut)
