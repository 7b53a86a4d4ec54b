-- The characters that are buffered before they are yielded.
use Rattle.std.specs.Prelude.{ℕ, List, ◌++◌, take, drop}
use Rattle.smallvec.specs.SmallVec.{small_vec_len}
use Rattle.normal_forms.specs.Reading.{Reading}
use Rattle.normal_forms.specs.Order.{order}
use Rattle.normalizer_iterators.specs.declared.waiting.WaitingList.{WaitingList}
use Rattle.normalizer_iterators.specs.Waiting as entries

-- those that come out next, as they follow one another
unfoldable pub ordered_text : WaitingList → List ℕ
ordered_text b = entries.characters (drop b.next (take b.run b.entries.items))

-- those of them before a place
unfoldable pub text_before : WaitingList → ℕ → List ℕ
text_before b place = entries.characters (drop b.next (take place b.entries.items))

-- those of them from a place on
unfoldable pub text_from : WaitingList → ℕ → List ℕ
text_from b place = entries.characters (drop place (take b.run b.entries.items))

-- the marks after them, not yet in order
unfoldable pub unordered_text : WaitingList → List ℕ
unordered_text b = entries.characters (drop b.run b.entries.items)

-- how many places are in use
unfoldable pub item_count : WaitingList → ℕ
item_count b = small_vec_len b.entries

-- the classes are those of the reading
unfoldable pub AgreesWith : Reading → WaitingList → Type 0
AgreesWith d b = entries.HasClassesOf d b.entries.items

-- what will be yielded, if `rest` is still to be added
unfoldable pub reordered_text : Reading → WaitingList → List ℕ → List ℕ
reordered_text d b rest = ordered_text b ++ order d (unordered_text b ++ rest)
