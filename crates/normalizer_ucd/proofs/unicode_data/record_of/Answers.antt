use Rattle.std.proofs.Common.{◌≡◌, ℕ, Bool, true, false, List, [], map, Option, Some, None, refl, sym, ap, ◌∙◌}
use Rattle.std.specs.Prelude.{◌&&◌, ◌==◌, if◌then◌else◌}
use Rattle.std.specs.Option.{option_map_or, unwrap_or}
use Rattle.std.specs.List.{list_any}
use Rattle.normalizer_records.specs.RecordValue.{RecordValue}
use Rattle.normalizer_ucd.specs.Fields.{class, code, field, is_tagged, mapping}
use Rattle.normalizer_ucd.specs.FileLines.{is_of_character, states_some}
use Rattle.normalizer_ucd.proofs.unicode_data.record_of.Goals as goal

no_record : (some one : Bool) (c : ℕ) (r : RecordValue) → None ≡ (if one then Some c else None) →
    None ≡ (if some && one then Some r else None)
no_record true true c r h = absurd (cc)
no_record true false c r h = refl
no_record false one c r h = refl

pub returns-in_err-c : goal.returns-in_err-c
returns-in_err-c c text are =
    rw c.from_residual.ensures
    (no_record (states_some text) (is_of_character text) (unwrap_or (code text) 0) _ (c.in_err-c.ensures text are))

made : (c class : ℕ) (mapping : List ℕ) (compatibility excluded : Bool) → RecordValue
made c class mapping compatibility excluded =
    record { c = c; class = class; mapping = mapping; compatibility = compatibility; excluded = excluded }

a_record : (some one : Bool) (c class n k : ℕ) (xs ys : List ℕ) (a b x y : Bool) → some ≡ true →
    Some n ≡ (if one then Some c else None) → k ≡ class → xs ≡ ys → a ≡ b → (n ≡ c → x ≡ y) →
    Some (made n k xs a x) ≡ (if some && one then Some (made c class ys b y) else None)
unfolding made
a_record some false c class n k xs ys a b x y is h of same are listed = absurd (cc)
a_record some true c class n k xs ys a b x y is h of same are listed =
    let n_is : n ≡ c = cc in
    rw (is, n_is, of, same, are, listed n_is) refl

pub returns : goal.returns
unfolding made
returns c text are =
    a_record (states_some text) (is_of_character text) (unwrap_or (code text) 0) (unwrap_or (class text) 0) c.in_ok-c.c
    c.unwrap_or.result c.or_empty.result.items (unwrap_or (mapping text) []) c.args.fields.compatibility
    (option_map_or is_tagged (field text 5) false) c.is_excluded.result
    (list_any (λ n. n == unwrap_or (code text) 0) (map (λ e. e.code) c.args.exclusions.now))
    (sym (c.states_some.ensures text are) ∙ c.if-not-states_some.false) (c.in_ok-c.ensures text are)
    (c.unwrap_or.ensures ∙ ap (λ (o : Option ℕ). unwrap_or o 0) are.class)
    (c.or_empty.ensures ∙ ap (λ (o : Option (List ℕ)). unwrap_or o []) are.mapping) are.compatibility
    (λ is. c.is_excluded.ensures
    ∙ ap (λ (k : ℕ). list_any (λ n. n == k) (map (λ e. e.code) c.args.exclusions.now)) is)
