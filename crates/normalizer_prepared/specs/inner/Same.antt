-- Data that are equal, part by part.
use Rattle.std.specs.Prelude.{◌≡◌}
use Rattle.normalizer_packing.specs.declared.Packed.{Packed}

pub record HaveEqualWords (p q : Packed) : Type 0 where
  pub canonical : p.canonical ≡ q.canonical
  pub compatibility : p.compatibility ≡ q.compatibility
  pub mapper : p.mapper ≡ q.mapper
  pub supplement : p.supplement ≡ q.supplement

pub record HaveEqualLists (p q : Packed) : Type 0 where
  pub tables : p.tables ≡ q.tables
  pub supplementary_tables : p.supplementary_tables ≡ q.supplementary_tables
  pub compositions : p.compositions ≡ q.compositions
