-- Sums of a few bits that are 0, and what follows where a sum is 0.
use Rattle.std.proofs.Common.{◌≡◌, Bool, true, false, refl, sym, ◌∙◌}
use Rattle.ssd_geo.specs.Bits.{bit_sum}

-- the sum of a row with the block that it gives
pub zero-first : (a s : Bool) → bit_sum a (bit_sum s (bit_sum a s)) ≡ false
zero-first true true = refl
zero-first true false = refl
zero-first false true = refl
zero-first false false = refl

-- the same in a middle row
pub zero-middle : (l c q : Bool) → bit_sum l (bit_sum c (bit_sum q (bit_sum (bit_sum l q) c))) ≡ false
zero-middle true true true = refl
zero-middle true true false = refl
zero-middle true false true = refl
zero-middle true false false = refl
zero-middle false true true = refl
zero-middle false true false = refl
zero-middle false false true = refl
zero-middle false false false = refl

-- the same in the last row, where the first block is the sum of all rows
pub zero-last : (a s l : Bool) → bit_sum l (bit_sum s (bit_sum (bit_sum a s) (bit_sum a l))) ≡ false
zero-last true true true = refl
zero-last true true false = refl
zero-last true false true = refl
zero-last true false false = refl
zero-last false true true = refl
zero-last false true false = refl
zero-last false false true = refl
zero-last false false false = refl

-- a row whose sum is 0 gives its last block
pub solve-first : (a s q : Bool) → bit_sum a (bit_sum s q) ≡ false → q ≡ bit_sum a s
solve-first true true true h = absurd (let e : true ≡ false = h in cc)
solve-first true true false h = refl
solve-first true false true h = refl
solve-first true false false h = absurd (let e : true ≡ false = h in cc)
solve-first false true true h = refl
solve-first false true false h = absurd (let e : true ≡ false = h in cc)
solve-first false false true h = absurd (let e : true ≡ false = h in cc)
solve-first false false false h = refl

-- the same in a middle row
pub solve-middle : (l c q n : Bool) → bit_sum l (bit_sum c (bit_sum q n)) ≡ false → n ≡ bit_sum (bit_sum l q) c
solve-middle true true true true h = refl
solve-middle true true true false h = absurd (let e : true ≡ false = h in cc)
solve-middle true true false true h = absurd (let e : true ≡ false = h in cc)
solve-middle true true false false h = refl
solve-middle true false true true h = absurd (let e : true ≡ false = h in cc)
solve-middle true false true false h = refl
solve-middle true false false true h = refl
solve-middle true false false false h = absurd (let e : true ≡ false = h in cc)
solve-middle false true true true h = absurd (let e : true ≡ false = h in cc)
solve-middle false true true false h = refl
solve-middle false true false true h = refl
solve-middle false true false false h = absurd (let e : true ≡ false = h in cc)
solve-middle false false true true h = refl
solve-middle false false true false h = absurd (let e : true ≡ false = h in cc)
solve-middle false false false true h = absurd (let e : true ≡ false = h in cc)
solve-middle false false false false h = refl

equal-sums : (a s p l : Bool) → bit_sum (bit_sum a s) p ≡ bit_sum l s → p ≡ bit_sum a l
equal-sums true true true true h = absurd (let e : true ≡ false = h in cc)
equal-sums true true true false h = refl
equal-sums true true false true h = refl
equal-sums true true false false h = absurd (let e : false ≡ true = h in cc)
equal-sums true false true true h = absurd (let e : false ≡ true = h in cc)
equal-sums true false true false h = refl
equal-sums true false false true h = refl
equal-sums true false false false h = absurd (let e : true ≡ false = h in cc)
equal-sums false true true true h = refl
equal-sums false true true false h = absurd (let e : false ≡ true = h in cc)
equal-sums false true false true h = absurd (let e : true ≡ false = h in cc)
equal-sums false true false false h = refl
equal-sums false false true true h = refl
equal-sums false false true false h = absurd (let e : true ≡ false = h in cc)
equal-sums false false false true h = absurd (let e : false ≡ true = h in cc)
equal-sums false false false false h = refl

-- two values of the last block give the first block
pub solve-all : (a s p l q : Bool) → q ≡ bit_sum (bit_sum a s) p → q ≡ bit_sum l s → p ≡ bit_sum a l
solve-all a s p l q one two = equal-sums a s p l (sym one ∙ two)
