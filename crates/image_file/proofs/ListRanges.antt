-- Lists of a head that stay in range when one more is read.
use Rattle.std.proofs.Common.{◌≡◌, ℕ, ℤ, ◌+◌, ◌^◌, ◌<◌, true, List, [], ◌∷◌, ◌++◌, length, arith, refl, sym, ap, ◌∙◌, append_assoc, append-nil, length-append}
use Rattle.std.specs.Prelude.{IsTrue}
use Rattle.ssd_formats.proofs.SpelledHeads.{all_snoc, below_if, bad_snoc, weak_snoc}
use Rattle.ssd_formats.specs.Fields.{is_below}
use Rattle.ssd_geo.specs.Limits.{is_level}
use Rattle.ssd_geo.specs.Limits.{Sizes}
use Rattle.ssd_formats.specs.ImageHead.{is_weak_record, are_weak_records, is_bad_record, are_bad_records}
use Rattle.ssd_geo.specs.declared.weak.Weak.{Weak}
use Rattle.image_file.specs.Lists.{AreLevels, AreWeak, AreBad, AreBlocks}
use Rattle.std.proofs.lemmas.Bool.{and_parts}

-- one more level
pub levels_longer : (levels : List ℤ) (n : ℕ) (level : ℤ) → AreLevels n levels → IsTrue (is_level level) → AreLevels (n + 1) (levels ++ level ∷ [])
levels_longer levels n level are one = record {
  count = omega (arith, are.count, length-append levels (level ∷ []));
  within = all_snoc is_level levels level are.within one;
}

-- one more weak block
pub weak_longer : (sizes : Sizes) (weak : List Weak) (n : ℕ) (w : Weak) → AreWeak sizes n weak → IsTrue (is_weak_record sizes weak w) → w.from < 2 ^ 32 → AreWeak sizes (n + 1) (weak ++ w ∷ [])
weak_longer sizes weak n w are one small = record {
  count = omega (arith, are.count, length-append weak (w ∷ []));
  from = all_snoc (λ (x : Weak). is_below (2 ^ 32) x.from) weak w are.from (below_if w.from (2 ^ 32) small);
  records = weak_snoc sizes weak [] w are.records one;
}

pub bad_longer : (sizes : Sizes) (bad : List (ℕ × ℕ)) (n : ℕ) (b : ℕ × ℕ) → AreBad sizes n bad → IsTrue (is_bad_record sizes bad b) → AreBad sizes (n + 1) (bad ++ b ∷ [])
bad_longer sizes bad n b are one = record {
  count = omega (arith, are.count, length-append bad (b ∷ []));
  records = bad_snoc sizes bad [] b are.records one;
}

-- lists of as many blocks as their fields say
pub blocks_are : (sizes : Sizes) (weak : List Weak) (bad : List (ℕ × ℕ)) (m n : ℕ) → AreWeak sizes m weak → AreBad sizes n bad → m < 2 ^ 16 → n < 2 ^ 16 → AreBlocks sizes weak bad
blocks_are sizes weak bad m n weak_are bad_are few_weak few_bad = record {
  weak_count = below_if (length weak) (2 ^ 16) (omega (arith, weak_are.count));
  are_weak = record { count = refl; from = weak_are.from; records = weak_are.records };
  bad_count = below_if (length bad) (2 ^ 16) (omega (arith, bad_are.count));
  are_bad = record { count = refl; records = bad_are.records };
}
