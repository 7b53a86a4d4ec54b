-- The lines of a text as a list, and what is replied to each in turn.
use Rattle.std.proofs.Common.{◌≡◌, ℕ, ◌+◌, suc, Bool, true, false, cond, List, [], ◌∷◌, ◌++◌, length, map, refl, sym, ap, subst, ◌∙◌, append_assoc, append-nil, arith}
use Rattle.std.specs.Prelude.{◌==◌}
use Rattle.std.specs.List.{join_with_byte, onto_first, slice_split}
use Rattle.std.proofs.lemmas.List.Sums.{sum_by-append}
use Rattle.std.proofs.lemmas.List.Splits.{length-slice_split, slice_split-cons_no, slice_split-cons_yes}
use Rattle.normalizer_streams.specs.Replies.{feeds}

-- what is between line feeds
abbrev pub lines : List ℕ → List (List ℕ)
lines text = slice_split (λ c. c == 0x0A) text

-- there is a first line
abbrev pub First : List (List ℕ) → Type 0
First parts = (part : List ℕ) × (others : List (List ℕ)) × (parts ≡ part ∷ others)

first-onto : (c : ℕ) (parts : List (List ℕ)) → First (onto_first c parts)
first-onto c [] = (c ∷ [], [], refl)
first-onto c (part ∷ parts) = (c ∷ part, parts, refl)

pub first-line : (text : List ℕ) → First (lines text)
first-line [] = ([], [], refl)
first-line (c ∷ text) = by (c == 0x0A) refl
  where
    by : (b : Bool) → (c == 0x0A) ≡ b → First (lines (c ∷ text))
    by true is = ([], lines text, slice_split-cons_yes (λ c. c == 0x0A) c text is)
    by false is = subst First (sym (slice_split-cons_no (λ c. c == 0x0A) c text is)) (first-onto c (lines text))

onto-append : (c : ℕ) (a b : List (List ℕ)) → First a → onto_first c (a ++ b) ≡ onto_first c a ++ b
onto-append c [] b f = absurd (let e : 0 ≡ suc (length f.1) = ap length f.2 in omega (arith, e))
onto-append c (x ∷ a) b f = refl

-- the lines before a line feed, and those after it
pub lines-feed : (x y : List ℕ) → lines (x ++ 0x0A ∷ y) ≡ lines x ++ lines y
lines-feed [] y = slice_split-cons_yes (λ c. c == 0x0A) 0x0A y refl
lines-feed (c ∷ x) y = by (c == 0x0A) refl (lines-feed x y)
  where
    by : (b : Bool) → (c == 0x0A) ≡ b → lines (x ++ 0x0A ∷ y) ≡ lines x ++ lines y → lines (c ∷ (x ++ 0x0A ∷ y)) ≡ lines (c ∷ x) ++ lines y
    by true is ih =
        slice_split-cons_yes (λ c. c == 0x0A) c (x ++ 0x0A ∷ y) is ∙ ap (λ l. [] ∷ l) ih ∙ ap (λ l. l ++ lines y) (sym (slice_split-cons_yes (λ c. c == 0x0A) c x is))
    by false is ih =
        slice_split-cons_no (λ c. c == 0x0A) c (x ++ 0x0A ∷ y) is ∙ ap (onto_first c) ih ∙ onto-append c (lines x) (lines y) (first-line x)
        ∙ ap (λ l. l ++ lines y) (sym (slice_split-cons_no (λ c. c == 0x0A) c x is))

module _ (x y : List ℕ) where
  whole-line : lines (x ++ 0x0A ∷ []) ≡ lines x ++ [] ∷ []
  whole-line = lines-feed x []

  more-lines : lines ((x ++ 0x0A ∷ []) ++ y) ≡ lines x ++ lines y
  more-lines = ap lines (append_assoc x (0x0A ∷ []) y) ∙ lines-feed x y

  -- so many lines end
  feeds-lines : feeds (x ++ 0x0A ∷ []) ≡ length (lines x)
  feeds-lines = sum_by-append (λ (c : ℕ). cond (c == 0x0A) 1 0) x (0x0A ∷ []) ∙ sym (length-slice_split (λ c. c == 0x0A) x)

  -- a reply to numbered lines, if nothing is replied to an empty one
  module _ (F : ℕ → List (List ℕ) → List ℕ) (f : ℕ → List ℕ → List ℕ) (none : (k : ℕ) → F k [] ≡ []) (some : (k : ℕ) (l : List ℕ) (ls : List (List ℕ)) → F k (l ∷ ls) ≡ f k l ++ F (k + 1) ls)
      (empty : (k : ℕ) → f k [] ≡ []) where
    numbered-append : (k : ℕ) (a b : List (List ℕ)) → F k (a ++ b) ≡ F k a ++ F (k + length a) b
    numbered-append k [] b = let e : k ≡ k + 0 = omega arith in ap (λ n. F n b) e ∙ sym (ap (λ z. z ++ F (k + 0) b) (none k))
    numbered-append k (l ∷ a) b =
        let e : k + 1 + length a ≡ k + suc (length a) = omega arith in
        some k l (a ++ b) ∙ ap (λ z. f k l ++ z) (numbered-append (k + 1) a b ∙ ap (λ n. F (k + 1) a ++ F n b) e) ∙ sym (append_assoc (f k l) (F (k + 1) a) (F (k + suc (length a)) b))
        ∙ ap (λ z. z ++ F (k + suc (length a)) b) (sym (some k l a))

    numbered-one : (k : ℕ) → F k ([] ∷ []) ≡ []
    numbered-one k = some k [] [] ∙ ap (λ z. z ++ F (k + 1) []) (empty k) ∙ none (k + 1)

    pub numbered-divided : (n : ℕ) → F (n + 1) (lines ((x ++ 0x0A ∷ []) ++ y)) ≡ F (n + 1) (lines (x ++ 0x0A ∷ [])) ++ F (n + feeds (x ++ 0x0A ∷ []) + 1) (lines y)
    numbered-divided n =
        let e : n + 1 + length (lines x) ≡ n + feeds (x ++ 0x0A ∷ []) + 1 = omega (arith, feeds-lines) in
        let front : F (n + 1) (lines (x ++ 0x0A ∷ [])) ≡ F (n + 1) (lines x) =
        ap (F (n + 1)) whole-line ∙ numbered-append (n + 1) (lines x) ([] ∷ []) ∙ ap (λ z. F (n + 1) (lines x) ++ z) (numbered-one (n + 1 + length (lines x))) ∙ append-nil (F (n + 1) (lines x)) in
        ap (F (n + 1)) more-lines ∙ numbered-append (n + 1) (lines x) (lines y) ∙ ap (λ k. F (n + 1) (lines x) ++ F k (lines y)) e
        ∙ ap (λ z. z ++ F (n + feeds (x ++ 0x0A ∷ []) + 1) (lines y)) (sym front)

  -- lines that are made of others, with line feeds between them, if an empty one is made of an empty one
  module _ (g : List ℕ → List ℕ) (empty : g [] ≡ []) where
    joined : (a b : List (List ℕ)) → First a → First b → join_with_byte 0x0A (map g (a ++ b)) ≡ join_with_byte 0x0A (map g a) ++ 0x0A ∷ join_with_byte 0x0A (map g b)
    joined [] b fa fb = absurd (let e : 0 ≡ suc (length fa.1) = ap length fa.2 in omega (arith, e))
    joined (l ∷ []) [] fa fb = absurd (let e : 0 ≡ suc (length fb.1) = ap length fb.2 in omega (arith, e))
    joined (l ∷ []) (m ∷ b) fa fb = refl
    joined (l ∷ k ∷ a) b fa fb =
        ap (λ z. g l ++ 0x0A ∷ z) (joined (k ∷ a) b ((k, a, refl)) fb)
        ∙ sym (append_assoc (g l) (0x0A ∷ join_with_byte 0x0A (map g (k ∷ a))) (0x0A ∷ join_with_byte 0x0A (map g b)))

    pub joined-divided : join_with_byte 0x0A (map g (lines ((x ++ 0x0A ∷ []) ++ y))) ≡ join_with_byte 0x0A (map g (lines (x ++ 0x0A ∷ []))) ++ join_with_byte 0x0A (map g (lines y))
    joined-divided =
        let all = join_with_byte 0x0A (map g (lines x)) in
        let rest = join_with_byte 0x0A (map g (lines y)) in
        let front : join_with_byte 0x0A (map g (lines (x ++ 0x0A ∷ []))) ≡ all ++ 0x0A ∷ [] =
        ap (λ l. join_with_byte 0x0A (map g l)) whole-line ∙ joined (lines x) ([] ∷ []) (first-line x) (([], [], refl)) ∙ ap (λ z. all ++ 0x0A ∷ z) empty in
        ap (λ l. join_with_byte 0x0A (map g l)) more-lines ∙ joined (lines x) (lines y) (first-line x) (first-line y)
        ∙ sym (append_assoc all (0x0A ∷ []) rest) ∙ ap (λ z. z ++ rest) (sym front)
