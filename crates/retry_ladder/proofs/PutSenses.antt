-- A sense that is put behind others leaves them as they were.
use Rattle.std.proofs.Common.{◌≡◌, ◌∙◌, ℕ, zero, suc, ◌+◌, ◌-◌, ◌*◌, ◌<◌, ◌≤◌, List, [], ◌∷◌, ◌++◌, length, drop, map, refl, sym, ap, subst, arith, length-append}
use Rattle.std.specs.List.{range_with_len}
use Rattle.std.proofs.Math.Nat.{mul-le-mul_right}
use Rattle.std.proofs.lemmas.List.{drop-take}
use Rattle.std.proofs.lemmas.List.FromFn.{length-map-range_with_len, map-range_with_len_more}
use Rattle.std.proofs.lemmas.Slice.{between-put_mid, take-put_mid_below}
use Rattle.ssd_geo.specs.Senses.{sense_in}
use borrow.Rule.Slice.PartMut.{put_mid}

-- lists that agree up to the end of some senses have the same senses there
same_senses : (n : ℕ) (xs ys : List ℕ) (k : ℕ)
    → ((j : ℕ) → j < k → sense_in n xs j ≡ sense_in n ys j)
    → map (sense_in n xs) (range_with_len 0 k) ≡ map (sense_in n ys) (range_with_len 0 k)
same_senses n xs ys zero same = refl
same_senses n xs ys (suc k) same =
    let further : suc k ≡ k + 1 = omega arith in
    ap (λ (m : ℕ). map (sense_in n xs) (range_with_len 0 m)) further
    ∙ map-range_with_len_more (sense_in n xs) 0 k k (omega arith)
    ∙ ap (λ (front : List (List ℕ)). front ++ sense_in n xs k ∷ [])
    (same_senses n xs ys k (λ j h. same j (omega arith)))
    ∙ ap (λ (sense : List ℕ). map (sense_in n ys) (range_with_len 0 k) ++ sense ∷ [])
    (same k (omega arith))
    ∙ sym (map-range_with_len_more (sense_in n ys) 0 k k (omega arith))
    ∙ ap (λ (m : ℕ). map (sense_in n ys) (range_with_len 0 m)) (sym further)

-- a sense before the one that is put
sense_before : (n k m : ℕ) (five sense : List ℕ) (j : ℕ) → k * n ≤ length five → j * n + n ≤ k * n
    → sense_in n (put_mid (k * n) m five sense) j ≡ sense_in n five j
sense_before n k m five sense j within before =
    let width : ℕ = j * n + n - j * n in
    sym (drop-take (j * n) width (put_mid (k * n) m five sense))
    ∙ ap (drop (j * n)) (take-put_mid_below (k * n) m five sense (j * n + width) (omega arith)
    within)
    ∙ drop-take (j * n) width five

pub one_more_sense : (n k m : ℕ) (five put sense : List ℕ) → put ≡ sense → length sense ≡ n
    → k * n + n ≤ length five
    → map (sense_in n (put_mid (k * n) m five put)) (range_with_len 0 (k + 1))
    ≡ map (sense_in n five) (range_with_len 0 k) ++ sense ∷ []
one_more_sense n k m five put sense e l within =
    map-range_with_len_more (sense_in n (put_mid (k * n) m five put)) 0 k k (omega arith)
    ∙ ap (λ (front : List (List ℕ)). front ++ sense_in n (put_mid (k * n) m five put) k ∷ [])
    (same_senses n (put_mid (k * n) m five put) five k
    (λ j h. sense_before n k m five put j (omega arith) (up_to j k n h)))
    ∙ ap (λ (last : List ℕ). map (sense_in n five) (range_with_len 0 k) ++ last ∷ [])
    (between-put_mid (k * n) m five put (k * n + n) (omega arith) (ap length e ∙ l ∙ is_between k n)
    ∙ e)
  where
    up_to : (j k n : ℕ) → j < k → j * n + n ≤ k * n
    up_to j k n h = let below : suc j ≤ k = omega arith in omega (arith, mul-le-mul_right n below)

    is_between : (k n : ℕ) → n ≡ k * n + n - k * n
    is_between k n = omega arith

-- one more sense behind those of the soft part, of which each has n bytes
pub soft_senses : (n count : ℕ) (five before put sense : List ℕ) → length sense ≡ n → before ≡ five
    → map (sense_in (length sense) put) (range_with_len 0 (count + 1))
    ≡ map (sense_in (length sense) before) (range_with_len 0 count) ++ sense ∷ []
    → map (sense_in n put) (range_with_len 0 (count + 1))
    ≡ map (sense_in n five) (range_with_len 0 count) ++ sense ∷ []
soft_senses n count five before put sense l e h =
    subst (λ (m : ℕ). map (sense_in m put) (range_with_len 0 (count + 1))
    ≡ map (sense_in m five) (range_with_len 0 count) ++ sense ∷ []) l
    (h ∙ ap (λ (xs : List ℕ). map (sense_in (length sense) xs) (range_with_len 0 count) ++ sense
    ∷ []) e)

pub soft_count : (n count : ℕ) (five sense : List ℕ)
    → length (map (sense_in n five) (range_with_len 0 count) ++ sense ∷ []) ≡ count + 1
soft_count n count five sense =
    omega (
      arith,
      length-append (map (sense_in n five) (range_with_len 0 count)) (sense ∷ []),
      length-map-range_with_len (sense_in n five) 0 count,
    )
