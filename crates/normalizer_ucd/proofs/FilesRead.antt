-- Reading the two files: each fault, where nothing before it is wrong.
use Rattle.std.proofs.Common.{◌≡◌, List, ℕ, Option, Some, None, Ok, refl}
use Rattle.std.specs.Option.{option_or}
use Rattle.normalizer_records.specs.RecordValue.{RecordValue}
use Rattle.normalizer_ucd.specs.declared.error.LineFault.{LineFault}
use Rattle.normalizer_ucd.specs.declared.error.UcdError.{UcdError}
use Rattle.normalizer_ucd.specs.declared.error.UcdFile.TheVariants as files
use Rattle.normalizer_ucd.specs.Fields.{lines}
use Rattle.normalizer_ucd.specs.FallibleReads.{Fails, unless}
use Rattle.normalizer_ucd.specs.FileFaults.{data_findings, first_wrong, listing_findings, mapping_findings, open_at_end}
use Rattle.normalizer_ucd.specs.FileLines.{data_lines, stated_records}
use Rattle.normalizer_ucd.specs.UnicodeData.{records_of}
use Rattle.normalizer_ucd.specs.Versions.{other_version, stated_in}
use Rattle.normalizer_ucd.specs.Wholes.{cut_off}
use Rattle.normalizer_ucd.proofs.Reading.{fails_first}
use Rattle.normalizer_ucd.proofs.RisingLemmas.{first_right}

or_first : (o p q : Option LineFault) → option_or o (option_or p q) ≡ option_or (option_or o p) q
or_first None p q = refl
or_first (Some f) p q = refl

module _ (unicode_data exclusions : List ℕ) (e : UcdError) where
  abbrev Wrong : Type 0
  Wrong = Fails e (records_of unicode_data exclusions)

  abbrev pub stated : List RecordValue
  stated = stated_records unicode_data exclusions

  abbrev pub version : Option LineFault
  version = other_version (stated_in (lines exclusions)) files.UnicodeData (stated_in (lines unicode_data))

  abbrev pub listing : Option LineFault
  listing = first_wrong files.CompositionExclusions listing_findings (data_lines exclusions)

  abbrev pub lined : Option LineFault
  lined = first_wrong files.UnicodeData data_findings (data_lines unicode_data)

  abbrev pub open_end : Option LineFault
  open_end = open_at_end (data_lines unicode_data)

  abbrev pub unmapped : Option LineFault
  unmapped = first_wrong files.CompositionExclusions (mapping_findings stated) (data_lines exclusions)

  module _ (cut : cut_off files.CompositionExclusions exclusions ≡ None) where
    pub at_cut : {A : Type 0} (x : A) → Fails e (unless (cut_off files.UnicodeData unicode_data) x) → Wrong
    unfolding records_of
    at_cut x h = rw cut (fails_first e (cut_off files.UnicodeData unicode_data) _ x stated h)

    module _ (also : cut_off files.UnicodeData unicode_data ≡ None) where
      pub at_version : {A : Type 0} (x : A) → Fails e (unless version x) → Wrong
      unfolding records_of
      at_version x h = rw (cut, also) (fails_first e version _ x stated h)

      module _ (same : version ≡ None) where
        pub at_listing : {A : Type 0} (x : A) → Fails e (unless listing x) → Wrong
        unfolding records_of
        at_listing x h = rw (cut, also, same) (fails_first e listing _ x stated h)

        module _ (lists : listing ≡ None) where
          pub at_data : {A : Type 0} (x : A) → Fails e (unless (option_or lined open_end) x) → Wrong
          unfolding records_of
          at_data x h =
              rw (cut, also, same, lists, or_first lined open_end (option_or unmapped None))
              (fails_first e (option_or lined open_end) _ x stated h)

          module _ (right : option_or lined open_end ≡ None) where
            pub at_mapping : {A : Type 0} (x : A) → Fails e (unless unmapped x) → Wrong
            unfolding records_of
            at_mapping x h =
                let both = first_right lined open_end right in
                rw (cut, also, same, lists, both.0, both.1) (fails_first e unmapped None x stated h)

            pub at_end : unmapped ≡ None → records_of unicode_data exclusions ≡ Ok stated
            unfolding records_of
            at_end mapped =
                let both = first_right lined open_end right in
                rw (cut, also, same, lists, both.0, both.1, mapped) refl
