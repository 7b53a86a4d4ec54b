use Rattle.std.proofs.Common.{◌≡◌, ◌↔◌, ◌∷◌, [], false, true, find, is_some, List, Option, None, Some, inr, sym, subst}
use Rattle.std.specs.Prelude.{MatchOption}
use Rattle.std.specs.Option.{option_map}
use Rattle.normalizer_records.specs.declared.at_fault.RecordAtFault.{RecordAtFault}
use Rattle.normalizer_records.specs.declared.at_fault.Refusal.{Refusal}
use Rattle.normalizer_records.specs.declared.records.BuildError.{BuildError}
use Rattle.normalizer_records.specs.declared.records.BuildError.TheVariants.{Class, Mapping, Chain, Length, Pair}
use Rattle.normalizer_records.specs.RecordValue.{RecordValue, Uts46RecordValue}
use Rattle.normalizer_records.specs.Faults.{AreRising, AreMapperRising, has_fixed_fault, HasFault, IsFirstRefusal, IsFirstWith}
use Rattle.normalizer_records.specs.inner.Findings.{AreFound}
use Rattle.normalizer_records.specs.AtFault.{IsFirstAtFault, IsFirstShowing}
use Rattle.normalizer_records.proofs.checked_lists.OrLemmas.{iff_trans}
use Rattle.normalizer_records.proofs.checked_lists.RoomLemmas.{all_whole}
use Rattle.normalizer_records.proofs.record_faults.EntryLemmas.{IsShown-class, IsShown-length}
use Rattle.normalizer_records.proofs.record_faults.RefusalLemmas.{behind_fixed, first_tested, others, unrefused}
use Rattle.normalizer_records.proofs.record_faults.ShownLemmas.{is_shown, IsShown, IsShown-chain, IsShown-mapping, IsShown-pair}
use Rattle.normalizer_records.proofs.refusals.expanded_of_rising.Goals as goal

-- the first refusal and its record, by the first record that shows each fault
module _ (records : List RecordValue) (uts46 : List Uts46RecordValue) (rising : AreRising records) (mapper : AreMapperRising uts46) (fixed : has_fixed_fault records uts46 ≡ false) where
  abbrev IsOutcome : Option Refusal → Type 0
  IsOutcome o = MatchOption o (IsFirstRefusal records uts46 None) (λ r. IsFirstRefusal records uts46 (Some r.error) × IsFirstAtFault records uts46 r.error r.at_fault)

  abbrev tests : (a b c d e : Option RecordAtFault) → List (BuildError × Option RecordAtFault)
  tests a b c d e = (Class, a) ∷ (Mapping, b) ∷ (Chain, c) ∷ (Length, d) ∷ (Pair, e) ∷ []

  shows : (e : BuildError) (o : Option RecordAtFault) → IsFirstShowing records uts46 e o → (F : Type 0) → F ↔ IsShown records uts46 e → (is_some o ≡ true) ↔ F
  shows e o h F same = iff_trans _ _ _ (is_shown records uts46 e o h) (same.1, same.0)

  abbrev refusal : BuildError × Option RecordAtFault → Refusal
  refusal t = record { error = t.0; at_fault = t.1 }

  outcome : (o : Option (BuildError × Option RecordAtFault)) →
      MatchOption o (IsFirstWith (HasFault records uts46) others None) (λ t. IsFirstWith (HasFault records uts46) others (Some t.0) × IsFirstAtFault records uts46 t.0 t.1) →
      IsOutcome (option_map refusal o)
  outcome None h = behind_fixed records uts46 rising mapper fixed None h
  outcome (Some t) h = (behind_fixed records uts46 rising mapper fixed (Some t.0) h.0, h.1)

  by_tests : (a b c d e : Option RecordAtFault) → IsFirstShowing records uts46 Class a → IsFirstShowing records uts46 Mapping b → IsFirstShowing records uts46 Chain c →
      IsFirstShowing records uts46 Length d → IsFirstShowing records uts46 Pair e → IsOutcome (option_map refusal (find (λ t. is_some t.1) (tests a b c d e)))
  unfolding HasFault IsFirstAtFault
  by_tests a b c d e class mapping chain long pair =
      outcome (find (λ t. is_some t.1) (tests a b c d e)) (first_tested (HasFault records uts46) (IsFirstAtFault records uts46) (tests a b c d e) (
        (class, shows Class a class _ (IsShown-class records uts46 fixed)),
        (
          (mapping, shows Mapping b mapping _ (IsShown-mapping records uts46)),
          (
            (chain, shows Chain c chain _ (IsShown-chain records uts46)),
            (
              (long, shows Length d long _ (IsShown-length records uts46 fixed)),
              ((pair, shows Pair e pair _ (IsShown-pair records uts46)), tt),
            ),
          ),
        ),
      ))

pub returns-in-None : goal.returns-in-None
unfolding HasFault
returns-in-None c =
    let records = c.args.records.now in
    let uts46 = c.args.uts46.now in
    let found = c.in_ok-found.ensures in
    let first = by_tests records uts46 c.requires.rising c.requires.mapper c.requires.fixed _ _ _ _ _
    (rw (found.records, found.mapper) at c.first_wrong_class.ensures) c.first_bad_mapping.ensures
    (rw (found.records, found.mapper) at c.first_on_long_chain.ensures)
    (rw (found.records, found.mapper) at c.first_long_list.ensures) (c.first_of_same_pair.ensures uts46) in
    let none : IsFirstRefusal records uts46 None = subst (IsOutcome records uts46 c.requires.rising c.requires.mapper c.requires.fixed) (sym c.in-None.ensures) first in
    let is : AreFound c.in_ok-found.found = found.found in
    record {
      unrefused = none;
      made = record { characters = _; listed = rw (found.records, found.mapper) at is.listed; made = all_whole records uts46 none _ (rw (found.records, found.mapper) at is.entries) };
      characters = λ k d lt. (is.entries k d lt).characters;
      same_pairs = c.in_ok-pairs.ensures.same;
      rising_pairs = c.in_ok-pairs.ensures.rising (unrefused records uts46 none Pair);
    }

pub returns-in-Some : goal.returns-in-Some
returns-in-Some c =
    let records = c.args.records.now in
    let uts46 = c.args.uts46.now in
    let found = c.in_ok-found.ensures in
    let first = by_tests records uts46 c.requires.rising c.requires.mapper c.requires.fixed _ _ _ _ _
    (rw (found.records, found.mapper) at c.first_wrong_class.ensures) c.first_bad_mapping.ensures
    (rw (found.records, found.mapper) at c.first_on_long_chain.ensures)
    (rw (found.records, found.mapper) at c.first_long_list.ensures) (c.first_of_same_pair.ensures uts46) in
    inr (subst (IsOutcome records uts46 c.requires.rising c.requires.mapper c.requires.fixed) (sym c.in-Some.ensures) first)
