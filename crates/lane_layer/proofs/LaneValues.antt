-- What the operations on vectors leave at each lane.
use Rattle.std.proofs.Common.{◌≡◌, ℕ, ◌<◌, List, Bool, false, cond, length, get_or, map, replicate, sym, ap, ◌∙◌, arith, w8}
use Rattle.std.specs.Simd.Lanes.{zip2, sel_l, top}
use Rattle.std.proofs.lemmas.Simd.{length-zip2, get_or-zip2, get_or-replicate, length-replicate, length-sel_l, get_or-sel_l, tops_compared}
use Rattle.lane_layer.specs.Lanes.{HasLanes}

-- the same lanes in other words
pub HasLanes-same : (n : ℕ) (v : List ℕ) (f g : ℕ → ℕ) → HasLanes n v f → ((k : ℕ) → k < n → f k ≡ g k) → HasLanes n v g
HasLanes-same n v f g h e = record { long = h.long; each = λ k l. h.each k l ∙ e k l }

-- an operator on two vectors
pub HasLanes-zip2 : (n : ℕ) (f : ℕ → ℕ → ℕ) (a b : List ℕ) → length a ≡ n → length b ≡ n → HasLanes n (zip2 f a b) (λ k. f (get_or a k 0) (get_or b k 0))
HasLanes-zip2 n f a b p q = record {
  long = length-zip2 f a b (p ∙ sym q) ∙ p;
  each = λ k l. get_or-zip2 f a b k 0 0 0 (omega arith) (omega arith);
}

-- an operator on a splat and a vector
pub HasLanes-splat_first : (n : ℕ) (f : ℕ → ℕ → ℕ) (x : ℕ) (b : List ℕ) → length b ≡ n → HasLanes n (zip2 f (replicate n x) b) (λ k. f x (get_or b k 0))
HasLanes-splat_first n f x b q =
    HasLanes-same n _ _ _ (HasLanes-zip2 n f (replicate n x) b (length-replicate n x) q) (λ k l. ap (λ y. f y (get_or b k 0)) (get_or-replicate n k x 0 l))

-- an operator on a vector and a splat
pub HasLanes-splat_second : (n : ℕ) (f : ℕ → ℕ → ℕ) (a : List ℕ) (x : ℕ) → length a ≡ n → HasLanes n (zip2 f a (replicate n x)) (λ k. f (get_or a k 0) x)
HasLanes-splat_second n f a x p =
    HasLanes-same n _ _ _ (HasLanes-zip2 n f a (replicate n x) p (length-replicate n x)) (λ k l. ap (λ y. f (get_or a k 0) y) (get_or-replicate n k x 0 l))

-- a choice between two vectors by the comparison of two
pub HasLanes-select : (n : ℕ) (t : ℕ → ℕ → Bool) (a b x y : List ℕ) → length a ≡ n → length b ≡ n → length x ≡ n → length y ≡ n
    → HasLanes n (sel_l (map (top 7) (zip2 (λ c d. cond (t c d) 255 0) a b)) x y) (λ k. cond (t (get_or a k 0) (get_or b k 0)) (get_or x k 0) (get_or y k 0))
HasLanes-select n t a b x y p q r s =
    let tests = tops_compared w8 t a b in
    let long : length (zip2 t a b) ≡ n = length-zip2 t a b (p ∙ sym q) ∙ p in
    record {
      long = ap (λ ms. length (sel_l ms x y)) tests ∙ length-sel_l (zip2 t a b) x y (long ∙ sym r) (long ∙ sym s) ∙ long;
      each = λ k l.
          ap (λ ms. get_or (sel_l ms x y) k 0) tests
          ∙ get_or-sel_l (zip2 t a b) x y k 0 (omega arith) (omega arith) (omega arith)
          ∙ ap (λ m. cond m (get_or x k 0) (get_or y k 0)) (get_or-zip2 t a b k 0 0 false (omega arith) (omega arith));
    }
