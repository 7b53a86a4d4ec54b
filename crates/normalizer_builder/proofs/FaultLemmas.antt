-- The first record at fault, by the error.
use Rattle.std.proofs.Common.{◌≡◌, ◌≢◌, ℕ, IfOk, List, Ok, Err, Option, Result, None, Some, inl, inr, refl, subst, sym}
use Rattle.normalizer_records.specs.declared.at_fault.Refusal.{Refusal}
use Rattle.normalizer_records.specs.declared.at_fault.RecordAtFault.{RecordAtFault}
use Rattle.normalizer_records.specs.declared.records.BuildError.{BuildError}
use Rattle.normalizer_records.specs.declared.records.BuildError.TheVariants as error
use Rattle.normalizer_records.specs.RecordValue.{RecordValue, Uts46RecordValue}
use Rattle.normalizer_records.specs.AtFault.{IsFirstAtFault as IsFirstRecordAtFault, IsRefusal}
use Rattle.normalizer_records.specs.Faults.{HasFault, IsFirstRefusal}
use Rattle.normalizer_tables.specs.declared.condition.Condition.{Condition}
use Rattle.normalizer_tables.specs.declared.condition.Condition.TheVariants.{Pairs}
use Rattle.normalizer_tables.specs.declared.entry.Kind.{Kind}
use Rattle.normalizer_tables.specs.declared.provider.DataMarkerInfo.{DataMarkerInfo}
use Rattle.normalizer_check.specs.EachCharacter.{IsFirstBreaking}
use Rattle.normalizer_packing.specs.declared.Packed.{Packed}
use Rattle.normalizer_builder.specs.AtFault.{IsFirstAtFault, IsFirstOfKind}
use Rattle.normalizer_builder.specs.Building.{IsSmallest}
use Rattle.normalizer_builder.specs.Demands.{loaded_of}
use Rattle.normalizer_builder.proofs.OneAnswer.{IsSmallest-refusal, one_refusal, one_smallest}

module _ (records : List RecordValue) (uts46 : List Uts46RecordValue) where
  same_record : (e : BuildError) → IsFirstRefusal records uts46 (Some e) → (o : Option RecordAtFault) →
      IsFirstRecordAtFault records uts46 e o → IsFirstAtFault records uts46 e o
  unfolding IsFirstAtFault IsFirstRefusal HasFault
  same_record (error.Unfit marker condition) first o h = absurd first.4
  same_record error.TableFull first o h = absurd first.4
  same_record error.Memory first o h = absurd first.4
  same_record _ first o h = h

  -- the first refusal is the smallest error, and the record at fault is that of the error
  of_refusal : (e : BuildError) → e ≢ error.Memory → IsSmallest records uts46 e → (r : Refusal) → r.error ≢ error.Memory →
      IsRefusal records uts46 r → IsFirstAtFault records uts46 e r.at_fault
  of_refusal e some h r also (inl memory) = absurd (also memory)
  of_refusal e some h r also (inr refused) =
      let same = one_smallest records uts46 e r.error h (IsSmallest-refusal records uts46 r (inr refused)) some also in
      subst (λ (f : BuildError). IsFirstAtFault records uts46 f r.at_fault) (sym same) (same_record r.error refused.0 r.at_fault refused.1)

  pub at_fault : {E : Type 0} (e : BuildError) → e ≢ error.Memory → IsSmallest records uts46 e → (r : Refusal) → IsRefusal records uts46 r →
      (o : Result (Option RecordAtFault) E) → IfOk o (λ o. (r.error ≢ error.Memory) × (o ≡ r.at_fault)) → IfOk o (IsFirstAtFault records uts46 e)
  at_fault e some h r refused (Err f) is = tt
  at_fault e some h r refused (Ok o) is = subst (IsFirstAtFault records uts46 e) (sym is.1) (of_refusal e some h r is.0 refused)

  -- an error of records that aren't refused is one of their data
  pub of_data : (e : BuildError) → e ≢ error.Memory → e ≢ error.TableFull → IsSmallest records uts46 e → IsFirstRefusal records uts46 None →
      (marker : DataMarkerInfo) × (condition : ℕ) × (e ≡ error.Unfit marker condition)
  unfolding IsSmallest
  of_data (error.Unfit marker condition) some room h none = (marker, condition, refl)
  of_data error.TableFull some room h none = absurd (room refl)
  of_data error.Memory some room h none = absurd (some refl)
  of_data e some room h none = absurd (let never = one_refusal records uts46 (Some e) None h none in cc)

pub of_each_character : (p : Packed) (kind : Kind) (c : Condition) (n : Option ℕ) → (c ≡ Pairs → ⊥) →
    IsFirstBreaking (loaded_of p kind) c n → IsFirstOfKind p kind c n
unfolding IsFirstOfKind
of_each_character p kind Pairs n other h = absurd (other refl)
of_each_character p kind _ n other h = h
