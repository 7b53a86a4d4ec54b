use Rattle.std.proofs.Common.{◌≡◌, ◌≢◌, Bool, ℕ, true, false, not, refl, ap, sym, ◌∙◌, true≢false}
use Rattle.normalizer_tables.specs.Words.{is_backward_combining, is_non_round_trip}
use Rattle.normalizer_iterators.proofs.pending.PendingChar.has_no_flag.Goals as goal

no_flag : (b : Bool) → not b ≡ true → b ≡ false
no_flag true none = absurd (true≢false (sym none))
no_flag false none = refl

-- the words in place of others have the flag
passthrough_has_flag : is_non_round_trip 0xC0000000 ≡ true
unfolding is_non_round_trip
passthrough_has_flag = refl

not_looked_up_has_flag : is_non_round_trip 0xFFFFFFFF ≡ true
unfolding is_non_round_trip
not_looked_up_has_flag = refl

is_other : (v w : ℕ) → is_non_round_trip v ≡ false → is_non_round_trip w ≡ true → v ≢ w
is_other v w none flag is = true≢false (sym flag ∙ ap is_non_round_trip (sym is) ∙ none)

pub returns-then-not-is_non_round_trip : goal.returns-then-not-is_non_round_trip
returns-then-not-is_non_round_trip c = λ s own clear.
    let word = c.args.self.word in
    let none : is_non_round_trip word ≡ false = sym c.is_non_round_trip.ensures ∙ c.if-not-is_non_round_trip.true in
    let same = own.looked_up (is_other word 0xC0000000 none passthrough_has_flag) (is_other word 0xFFFFFFFF none not_looked_up_has_flag) in
    (ap is_non_round_trip (sym same) ∙ none, ap is_backward_combining (sym same) ∙ sym c.is_backward_combining.ensures ∙ no_flag _ clear)
