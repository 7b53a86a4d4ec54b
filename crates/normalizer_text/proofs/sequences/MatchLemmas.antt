-- The number of leading places that have a byte that may be there.
use Rattle.std.proofs.Common.{◌≡◌, ℕ, zero, suc, ◌<◌, ◌≤◌, true, false, List, [], ◌∷◌, ◌++◌, length, take, get_or, arith, refl, ap, sym, ◌∙◌, ⊎_elim}
use Rattle.std.proofs.lemmas.Bool.{false≢true, cases_Bool, and_parts, leb-true}
use Rattle.normalizer_text.specs.Utf8.{ByteRange, continuation, allows, matched_count}
use Rattle.normalizer_text.specs.MaximalSubparts.{IsWithin, AreWithin}

pub allows-true : (r : ByteRange) (b : ℕ) → allows r b ≡ true → IsWithin r b
allows-true r b e = let k = and_parts _ _ e in (leb-true _ _ k.0, leb-true _ _ k.1)

-- each place below the count has a byte that may be there
pub allows-below_matched : (rs : List ByteRange) (bs : List ℕ) (n : ℕ) → n < matched_count rs bs → allows (get_or rs n continuation) (get_or bs n 0) ≡ true
allows-below_matched [] bs n h = absurd (omega arith)
allows-below_matched (r ∷ rs) [] n h = absurd (omega arith)
allows-below_matched (r ∷ rs) (b ∷ bs) zero h = ⊎_elim (λ yes. yes) (λ no. absurd (let k = rw no at h in omega arith)) (cases_Bool (allows r b))
allows-below_matched (r ∷ rs) (b ∷ bs) (suc n) h = ⊎_elim
    (λ yes. allows-below_matched rs bs n (let k = rw yes at h in omega arith))
    (λ no. absurd (let k = rw no at h in omega arith))
    (cases_Bool (allows r b))

pub matched-le : (rs : List ByteRange) (bs : List ℕ) → (matched_count rs bs ≤ length rs) × (matched_count rs bs ≤ length bs)
matched-le [] bs = (omega arith, omega arith)
matched-le (r ∷ rs) [] = (omega arith, omega arith)
matched-le (r ∷ rs) (b ∷ bs) = let k = matched-le rs bs in ⊎_elim (λ yes. rw yes (omega arith, omega arith)) (λ no. rw no (omega arith, omega arith)) (cases_Bool (allows r b))

-- one more place than the first n
pub matched_more : (rs : List ByteRange) (bs : List ℕ) (n : ℕ) → n ≤ matched_count rs bs → n < length rs → n < length bs → allows (get_or rs n continuation) (get_or bs n 0) ≡ true → suc n ≤ matched_count rs bs
matched_more [] bs n h l m a = absurd (omega arith)
matched_more (r ∷ rs) [] n h l m a = absurd (omega arith)
matched_more (r ∷ rs) (b ∷ bs) zero h l m a = rw a (omega arith)
matched_more (r ∷ rs) (b ∷ bs) (suc n) h l m a = ⊎_elim
    (λ yes. let k = rw yes at h in let i = matched_more rs bs n (omega arith) (omega arith) (omega arith) a in rw yes (omega arith))
    (λ no. absurd (let k = rw no at h in omega arith))
    (cases_Bool (allows r b))

-- the first n and no more, if the next place has no byte or one that may not be there
pub matched_stop : (rs : List ByteRange) (bs : List ℕ) (n : ℕ) → n ≤ matched_count rs bs → (n < length rs → n < length bs → allows (get_or rs n continuation) (get_or bs n 0) ≡ false) → n ≡ matched_count rs bs
matched_stop rs bs n h stop = omega (arith, small)
  where
    small : n < matched_count rs bs → ⊥
    small l = let k = matched-le rs bs in false≢true (sym (stop (omega arith) (omega arith)) ∙ allows-below_matched rs bs n l)

-- if all of the places are matched, the bytes are there
pub AreWithin-matched : (rs : List ByteRange) (bs : List ℕ) → matched_count rs bs ≡ length rs → AreWithin rs (take (length rs) bs)
AreWithin-matched [] bs e = tt
AreWithin-matched (r ∷ rs) [] e = absurd (omega arith)
AreWithin-matched (r ∷ rs) (b ∷ bs) e = ⊎_elim
    (λ yes. (allows-true r b yes, AreWithin-matched rs bs (let k = rw yes at e in omega arith)))
    (λ no. absurd (let k = rw no at e in omega arith))
    (cases_Bool (allows r b))

-- bytes past those that are matched are not looked at
pub matched-take : (rs : List ByteRange) (bs : List ℕ) (n : ℕ) → matched_count rs bs ≤ n → matched_count rs (take n bs) ≡ matched_count rs bs
matched-take [] bs n h = refl
matched-take (r ∷ rs) [] zero h = refl
matched-take (r ∷ rs) [] (suc n) h = refl
matched-take (r ∷ rs) (b ∷ bs) zero h = omega arith
matched-take (r ∷ rs) (b ∷ bs) (suc n) h = ⊎_elim
    (λ yes. rw yes (ap suc (matched-take rs bs n (let k = rw yes at h in omega arith))))
    (λ no. rw no refl)
    (cases_Bool (allows r b))

-- if all of the places are matched, bytes after them change nothing
pub matched-append : (rs : List ByteRange) (bs more : List ℕ) → matched_count rs bs ≡ length rs → matched_count rs (bs ++ more) ≡ length rs
matched-append [] bs more e = refl
matched-append (r ∷ rs) [] more e = absurd (omega arith)
matched-append (r ∷ rs) (b ∷ bs) more e = ⊎_elim
    (λ yes. rw yes (ap suc (matched-append rs bs more (let k = rw yes at e in omega arith))))
    (λ no. absurd (let k = rw no at e in omega arith))
    (cases_Bool (allows r b))
