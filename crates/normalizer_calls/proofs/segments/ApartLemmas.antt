-- Lists in which nothing composes: no member after the first is the second of a pair.
use Rattle.std.proofs.Common.{◌≡◌, ◌≤◌, ◌+◌, ℕ, suc, length, List, [], ◌∷◌, ◌++◌, drop, None, Some, refl, sym, ap, ◌∙◌, append-nil, append_assoc, slice_get}
use Rattle.std.proofs.lemmas.List.{drop_all}
use Rattle.std.proofs.lemmas.Bool.{cond_both}
use Rattle.std.specs.Prelude.{◌&&◌, not}
use Rattle.std.specs.Char.{IsScalar}
use Rattle.normal_forms.specs.Reading.{Reading, is_starter}
use Rattle.normal_forms.specs.Composition.{compose, compose_from, is_blocked, joined, visit}
use Rattle.normal_forms.specs.Forms.{nfc, nfd, normal_form}
use Rattle.normal_forms.specs.Decomposition.{expand}
use Rattle.normal_forms.specs.Order.{order}
use Rattle.normal_forms.specs.declared.Form.TheVariants.{Composing}
use Rattle.normalizer_tables.specs.Characters.{Characters, list_of}
use Rattle.normalizer_tables.specs.Pairs.{Pair, pair_of}
use Rattle.normalizer_tables.specs.Readings.{reading_by}
use Rattle.normalizer_tables.specs.declared.characters.IgnoredCharacters.TheVariants.{Dropped}
use Rattle.normalizer_tables.specs.declared.condition.Bounds.{Bounds}
use Rattle.normalizer_tables.proofs.composites.SecondLemmas.{pair_of-none}
use Rattle.normalizer_tables.proofs.lists.ListedLemmas.{drop_member}
use Rattle.normalizer_tables.proofs.lists.SoundLists.{order-own}
use Rattle.normalizer_calls.specs.inner.FormsLeft.{HasNoSecond}
use Rattle.normalizer_calls.specs.Serving.{ServesComposing}

module _ (d : Reading) where
  joined-none : (a : ℕ) (between : List ℕ) (c : ℕ) → d.pair a c ≡ None → joined d a between c ≡ None
  unfolding joined
  joined-none a between c none = cond_both (is_starter d a && not (is_blocked d between c)) (d.pair a c) None (λ o. o ≡ None) (λ _. none) (λ _. refl)

  -- a character that composes with none stays
  pub visit-none : (c : ℕ) → ((a : ℕ) → d.pair a c ≡ None) → (visited : List ℕ) → visit d visited c ≡ visited ++ c ∷ []
  unfolding visit
  visit-none c none [] = refl
  visit-none c none (a ∷ between) = rw (joined-none a between c (none a), visit) (ap (λ l. a ∷ l) (visit-none c none between))

  compose_from-none : (x visited : List ℕ) → ((i c : ℕ) → slice_get x i ≡ Some c → (a : ℕ) → d.pair a c ≡ None) → compose_from d visited x ≡ visited ++ x
  unfolding compose_from
  compose_from-none [] visited none = sym (append-nil visited)
  compose_from-none (c ∷ x) visited none =
      ap (λ l. compose_from d l x) (visit-none c (none 0 c refl) visited)
      ∙ compose_from-none x (visited ++ c ∷ []) (λ i. none (suc i))
      ∙ append_assoc visited (c ∷ []) x

  compose-none : (x : List ℕ) → ((i c : ℕ) → slice_get x (suc i) ≡ Some c → (a : ℕ) → d.pair a c ≡ None) → compose d x ≡ x
  unfolding compose compose_from visit
  compose-none [] none = refl
  compose-none (e ∷ x) none = compose_from-none x (e ∷ []) none

-- a character becomes what its list composes to
pub form_of_list : (s : Characters) (b : Bounds) (pairs : List Pair) → ServesComposing s b pairs → (c : ℕ) → IsScalar c
    → normal_form (reading_by s Dropped pairs) Composing (c ∷ []) ≡ compose (reading_by s Dropped pairs) (list_of s [] c)
unfolding normal_form nfc nfd expand
form_of_list s b pairs serves c scalar =
    ap (λ l. compose (reading_by s Dropped pairs) (order (reading_by s Dropped pairs) l)) (append-nil (list_of s [] c))
    ∙ ap (compose (reading_by s Dropped pairs)) (sym (order-own s [] (pair_of pairs) (list_of s [] c)) ∙ serves.ordered c scalar)

-- a list in which nothing composes stays
pub compose-apart : (s : Characters) (pairs : List Pair) (x : List ℕ) → HasNoSecond pairs x → compose (reading_by s Dropped pairs) x ≡ x
compose-apart s pairs x apart = compose-none (reading_by s Dropped pairs) x (λ i m at. pair_of-none pairs m (apart i m at))

-- ---- a character after a last starter
