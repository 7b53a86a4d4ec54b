-- Lists that a loop makes of the elements of another, one after another.
use Rattle.std.proofs.Common.{◌≡◌, ◌∙◌, ℕ, ◌+◌, ◌<◌, List, [], ◌∷◌, ◌++◌, length, filter_map, take, get_or, Option, ap, sym}
use Rattle.std.specs.List.{cons_option}
use Rattle.std.proofs.lemmas.List.{take_more}
use Rattle.std.proofs.lemmas.List.Elements.{filter_map-append}

pub filter_map-take_more : {X Y : Type 0} (xs : List X) (i : ℕ) (x : X) → i < length xs → x ≡ get_or xs i x → (f : X → Option Y) →
    filter_map f (take (i + 1) xs) ≡ filter_map f (take i xs) ++ cons_option (f x) []
filter_map-take_more xs i x within is f =
    ap (filter_map f) (take_more xs i x within) ∙ filter_map-append f (take i xs) (get_or xs i x ∷ []) ∙ ap (λ m. filter_map f (take i xs) ++ filter_map f (m ∷ [])) (sym is)
