-- A word that is added to a sum keeps its length.
use Rattle.std.proofs.Common.{◌≡◌, ◌∙◌, ℕ, suc, List, [], ◌∷◌, length, refl, sym, ap, arith}
use Rattle.ssd_geo.specs.Bits.{bytes_sum}
use Rattle.ssd_geo.proofs.WordSums.{length-bytes_sum}

-- a sum has the bytes of its words
pub added_length : (n : ℕ) (sum word added : List ℕ) → added ≡ bytes_sum sum word → length sum ≡ n
    → length word ≡ n → length added ≡ n
added_length n sum word added e l k = ap length e ∙ length-bytes_sum sum word (k ∙ sym l) ∙ l
