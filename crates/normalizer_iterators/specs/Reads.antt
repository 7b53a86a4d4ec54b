-- Characters that were read, with their words if these were looked up.
use Rattle.std.specs.Prelude.{◌≡◌, ◌≢◌, ℕ, true, false, Option, Some, None}
use Rattle.std.specs.Option.{ForSome}
use Rattle.normalizer_tables.specs.Characters.{Characters, word_of}
use Rattle.normalizer_tables.specs.Passthrough.{IsPassthrough}
use Rattle.normalizer_tables.specs.Words.{is_backward_combining, is_non_round_trip, is_plain}
use Rattle.normalizer_iterators.specs.declared.pending.PendingChar.{PendingChar}

-- the character that was read, if one was
abbrev pub character_of : Option PendingChar → Option ℕ
character_of None = None
character_of (Some read) = Some read.character

-- what is plain is passthrough, and the word is that of the character, unless it is one of the two in place of others
pub record HasOwnWord (s : Characters) (r : PendingChar) : Type 0 where
  pub plain : is_plain r.word ≡ true → IsPassthrough s r.character
  pub looked_up : r.word ≢ 0xC0000000 → r.word ≢ 0xFFFFFFFF → r.word ≡ word_of s r.character

-- the word of the character has neither flag
abbrev pub HasNoFlag : Characters → ℕ → Type 0
HasNoFlag s c = (is_non_round_trip (word_of s c) ≡ false) × (is_backward_combining (word_of s c) ≡ false)

-- a character that was read, if one was, has its word
abbrev pub HasOwnWords : Characters → Option PendingChar → Type 0
HasOwnWords s read = ForSome read (HasOwnWord s)
