use Rattle.std.proofs.Common.{◌≡◌, ◌++◌, ℕ, List}
use Rattle.std.specs.Prelude.{encode_utf8_all, string_bytes}
use Rattle.icu_normalizer.specs.Items.{SpellsUnless}
use Rattle.icu_normalizer.specs.NormalizeError.TheVariants.{Memory}
use Rattle.normalizer_command.proofs.mapping.append_items.Given as goal

-- what was appended, and what is left of the text
abbrev pub invariant-loop-item : goal.invariant-loop-item
invariant-loop-item g l = record {
  can : (goal.iterator-loop-item g).can_next l.item-iterator;
  ends : (goal.iterator-loop-item g).is_finite l.item-iterator;
  text : (x : List ℕ) → SpellsUnless g.I.Iterator.next_gives Memory l.fn.items x → (rest : List ℕ) × SpellsUnless g.I.Iterator.next_gives Memory l.item-iterator rest
      × (string_bytes l.fn.output ++ encode_utf8_all x ≡ string_bytes l.output ++ encode_utf8_all rest);
}
