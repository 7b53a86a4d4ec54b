-- Lists of one, two or three characters.
use Rattle.std.specs.Prelude.{ℕ, List, [], ◌∷◌}
use Rattle.normalizer_tables.specs.declared.short_list.ShortList.{ShortList}
use Rattle.normalizer_tables.specs.declared.short_list.ShortList.TheVariants.{One, Two, Three}

-- the characters, in their order
unfoldable pub text_of : ShortList → List ℕ
text_of (One a) = a ∷ []
text_of (Two a b) = a ∷ b ∷ []
text_of (Three a b c) = a ∷ b ∷ c ∷ []
