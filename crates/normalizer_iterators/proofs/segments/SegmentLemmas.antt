-- Short texts: what is left to read.
use Rattle.std.proofs.Common.{◌≡◌, ℕ, ◌+◌, ◌<◌, List, [], ◌∷◌, length, drop, sym, ap, ◌∙◌, arith}
use Rattle.std.proofs.lemmas.List.{drop-drop, length-drop}
use Rattle.normalizer_tables.specs.Characters.{Characters}
use Rattle.normalizer_tables.specs.Pairs.{Pair}
use Rattle.normalizer_tables.specs.Readings.{reading_by}
use Rattle.normalizer_tables.specs.declared.characters.IgnoredCharacters.{IgnoredCharacters}
use Rattle.normalizer_tables.specs.declared.characters.IgnoredCharacters.TheVariants.{Dropped}
use Rattle.normalizer_text.specs.declared.decoding_step.Step.{Step}
use Rattle.normalizer_text.specs.Encodings.{Encoding, first_in, decoded_in}
use Rattle.normalizer_text.proofs.steps.StepLemmas.{decoded-some}
use Rattle.normalizer_iterators.specs.declared.waiting.WaitingList.{WaitingList}
use Rattle.normalizer_iterators.specs.WaitingList.{AgreesWith}

-- what is left to read begins with the character of the step
pub decoded-left : (e : Encoding) (units : List ℕ) (position : ℕ) (s : Step) → position < length units → s ≡ first_in e (drop position units)
    → decoded_in e (drop position units) ≡ s.character ∷ decoded_in e (drop (position + s.width) units)
decoded-left e units position s inside is =
    let some : 0 < length (drop position units) = omega (arith, length-drop position units) in
    decoded-some e (drop position units) some
    ∙ ap (λ t. t.character ∷ decoded_in e (drop t.width (drop position units))) (sym is)
    ∙ ap (λ us. s.character ∷ decoded_in e us) (drop-drop s.width position units)

-- neither ignored characters nor pairs change a class
pub AgreesWith-reading_by : (s : Characters) (ignored : IgnoredCharacters) (pairs : List Pair) (b : WaitingList) → AgreesWith (reading_by s ignored []) b → AgreesWith (reading_by s Dropped pairs) b
unfolding AgreesWith
AgreesWith-reading_by s ignored pairs b agrees = agrees
