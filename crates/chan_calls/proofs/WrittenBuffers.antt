-- A list that was written whole as a slice of its `Vec` has just what was written.
use Rattle.std.proofs.Common.{ℕ, ◌≡◌, List, ◌++◌, length, take, drop, sym, ap, ◌∙◌}
use Rattle.std.proofs.Math.Seq.{take-append_seam}

pub written_back : (count : ℕ) (written before : List ℕ) → length written ≡ count →
    take count (written ++ drop (length written) before) ≡ written
written_back count written before long =
    ap (λ (n : ℕ). take n (written ++ drop (length written) before)) (sym long)
    ∙ take-append_seam written (drop (length written) before)

-- so what is read of it is what the writer says
pub read_back : (count : ℕ) (written before now wanted : List ℕ) →
    now ≡ take count (written ++ drop (length written) before) → length written ≡ count →
    written ≡ wanted → now ≡ wanted
read_back count written before now wanted now_is long is = now_is
    ∙ written_back count written before long ∙ is
