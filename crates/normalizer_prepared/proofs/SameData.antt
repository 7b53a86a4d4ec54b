-- Data with equal parts are equal.
use Rattle.std.proofs.Common.{◌≡◌, ℕ, List, IsTrue, refl}
use Rattle.std.proofs.lemmas.Bool.Decides.{Decides-and}
use Rattle.std.proofs.lemmas.Slice.Eq.{slice_eq-Decides}
use Rattle.std.specs.Bool.{Decides}
use Rattle.std.specs.Cmp.{unsigned_Decides}
use Rattle.std.specs.Cmp.Lexicographic.{pointwise}
use Rattle.normalizer_packing.specs.declared.Packed.{Packed}
use Rattle.normalizer_tables.specs.Pairs.{Pair, same_pair}
use Rattle.normalizer_prepared.specs.Files.{holding}
use Rattle.normalizer_prepared.specs.declared.reading.PreparedData.{PreparedData}
use Rattle.normalizer_prepared.specs.inner.Same.{HaveEqualLists, HaveEqualWords}

pair_decides : (p q : Pair) → Decides (same_pair p q) (p ≡ q)
pair_decides p q =
    let d = Decides-and _ _ (Decides-and _ _ (unsigned_Decides p.0 q.0) (unsigned_Decides p.1 q.1))
    (unsigned_Decides p.2 q.2) in
    (λ e i. let h = d.0 e in (h.0.0 i, h.0.1 i, h.1 i), λ e. d.1 ((λ i. (e i).0, λ i. (e i).1), λ i. (e i).2))

pub same_pairs : (ps qs : List Pair) → IsTrue (pointwise same_pair ps qs) → ps ≡ qs
same_pairs ps qs is = (slice_eq-Decides pair_decides ps qs (pointwise same_pair ps qs) refl).0 is

pub same_data : (d : PreparedData) (p : Packed) (version : ℕ × ℕ × ℕ) → d.version ≡ version
    → HaveEqualWords d.built.packed p → HaveEqualLists d.built.packed p → d ≡ holding p version
same_data d p version same words lists i =
    record {
      built = record {
        packed = record {
          canonical = words.canonical i;
          compatibility = words.compatibility i;
          mapper = words.mapper i;
          tables = lists.tables i;
          supplementary_tables = lists.supplementary_tables i;
          compositions = lists.compositions i;
          supplement = words.supplement i;
        };
      };
      version = same i;
    }
