-- One layer of an iteration, on the numbers of all edges in one list.
use Rattle.std.proofs.Common.{◌≡◌, ℕ, suc, Option, Some, None, filter_map, ◌+◌, ◌-◌, ◌*◌, ◌<◌, ◌≤◌, List, [], ◌∷◌, ◌++◌, length, get_or, take, drop, ℤ, All, sym, ap, ◌∙◌, append_assoc, arith}
use Rattle.std.specs.List.{range_with_len, cons_option}
use Rattle.std.proofs.lemmas.List.{drop_more, drop_all, drop-drop, take-append-drop}
use Rattle.std.proofs.lemmas.List.Elements.{All-append, All-take, All-drop}
use borrow.Rule.Slice.PartMut.{put_mid}
use Rattle.std.proofs.lemmas.List.FromFn.{get_or-map-range_with_len, length-map-range_with_len, length-range_with_len}
use Rattle.std.proofs.lemmas.Slice.{take-put_mid, drop-put_mid}
use Rattle.std.proofs.lemmas.List.Sums.{sum_by_more, sum_by_more_le}
use Rattle.std.proofs.Math.Nat.{mul-le-mul_right}
use Rattle.ssd_geo.specs.BaseMatrix.{BaseMatrix, IsAccepted, block_of_entry, entry_at, layer_of}
use Rattle.ssd_geo.proofs.AcceptedLayers.{accepted_columns}
use Rattle.ssd_geo.specs.Decoding.{edge_count, iterated, layer_worked, layers_of}

-- the numbers of the edges that are done stand in front
abbrev pub joined : List ℤ → List ℤ × List ℤ → List ℤ × List ℤ
joined done s = (s.0, done ++ s.1)

pub joined_more : (layers : List (List (ℕ × ℕ))) (z : ℕ) (layer : List (ℕ × ℕ)) (done p rest p' part : List ℤ) → (p', part) ≡ layer_worked layer z (p, take (length layer * z) rest) → joined done (iterated (layer ∷ layers) z (p, rest)) ≡ joined (done ++ part) (iterated layers z (p', drop (length layer * z) rest))
joined_more layers z layer done p rest p' part e =
    let after = λ (q : List ℤ). iterated layers z (q, drop (length layer * z) rest) in
    let first : joined done (iterated (layer ∷ layers) z (p, rest)) ≡ ((after p').0, done ++ (part ++ (after p').1)) =
    ap (λ (s : List ℤ × List ℤ). ((after (s.0)).0, done ++ (s.1 ++ (after (s.0)).1))) (sym e) in
    first ∙ ap (λ (xs : List ℤ). ((after p').0, xs)) (sym (append_assoc done part (after p').1))

pub layer_at : (m : BaseMatrix) (i : ℕ) → i < m.mb → get_or (layers_of m) i [] ≡ layer_of m i
layer_at m i h = get_or-map-range_with_len (layer_of m) 0 m.mb i i [] h (omega arith)

pub layer_count : (m : BaseMatrix) → length (layers_of m) ≡ m.mb
layer_count m = length-map-range_with_len (layer_of m) 0 m.mb

-- the columns of a base row fit the word
pub columns_fit : (m : BaseMatrix) → IsAccepted m → (i : ℕ) → i < m.mb → (p : List ℤ) → length p ≡ m.nb * m.z → All (λ block. (block.0 + 1) * m.z ≤ length p) (layer_of m i)
columns_fit m h i l p long = λ k d q.
    let below : (get_or (layer_of m i) k d).0 < m.nb = accepted_columns m h i l k d q in
    omega (arith, mul-le-mul_right m.z below)

-- the edges of a base row stand within those of all rows
pub edges_fit : (m : BaseMatrix) (i : ℕ) → i < m.mb → edge_count (take i (layers_of m)) m.z + length (layer_of m i) * m.z ≤ edge_count (layers_of m) m.z
edges_fit m i h =
    let f = λ (layer : List (ℕ × ℕ)). length layer * m.z in
    let at : f (get_or (layers_of m) i []) ≡ f (layer_of m i) = ap f (layer_at m i h) in
    omega (arith, sum_by_more_le f (layers_of m) i [] (omega (arith, layer_count m)))

pub edges_more : (m : BaseMatrix) (i : ℕ) → i < m.mb → edge_count (take (i + 1) (layers_of m)) m.z ≡ edge_count (take i (layers_of m)) m.z + length (layer_of m i) * m.z
edges_more m i h =
    let f = λ (layer : List (ℕ × ℕ)). length layer * m.z in
    let at : f (get_or (layers_of m) i []) ≡ f (layer_of m i) = ap f (layer_at m i h) in
    omega (arith, sum_by_more f (layers_of m) i [] (omega (arith, layer_count m)))

-- one layer more is worked: its part of r is written
pub layer_more : (m : BaseMatrix) (i from : ℕ) (p r p' part : List ℤ) → i < m.mb → from + length (layer_of m i) * m.z ≤ length r → length part ≡ length (layer_of m i) * m.z → (p', part) ≡ layer_worked (layer_of m i) m.z (p, take (length (layer_of m i) * m.z) (drop from r)) → joined (take from r) (iterated (drop i (layers_of m)) m.z (p, drop from r)) ≡ joined (take from r ++ part) (iterated (drop (i + 1) (layers_of m)) m.z (p', drop (length (layer_of m i) * m.z) (drop from r)))
layer_more m i from p r p' part h fits long e =
    let front : drop i (layers_of m) ≡ layer_of m i ∷ drop (i + 1) (layers_of m) =
    drop_more (layers_of m) i [] (omega (arith, layer_count m)) ∙ ap (λ (layer : List (ℕ × ℕ)). layer ∷ drop (i + 1) (layers_of m)) (layer_at m i h) in
    ap (λ (layers : List (List (ℕ × ℕ))). joined (take from r) (iterated layers m.z (p, drop from r))) front
    ∙ joined_more (drop (i + 1) (layers_of m)) m.z (layer_of m i) (take from r) p (drop from r) p' part e

-- the same, where the part of r from `from` on, of length `own`, was lent and written
pub layer_step : (m : BaseMatrix) (i from own : ℕ) (p r p' part : List ℤ) → i < m.mb → own ≡ length (layer_of m i) * m.z → from + own ≤ length r → length part ≡ own → (p', part) ≡ layer_worked (layer_of m i) m.z (p, take (from + own - from) (drop from r)) → joined (take (from + own) (put_mid from (from + own - from) r part)) (iterated (drop (i + 1) (layers_of m)) m.z (p', drop (from + own) (put_mid from (from + own - from) r part))) ≡ joined (take from r) (iterated (drop i (layers_of m)) m.z (p, drop from r))
layer_step m i from own p r p' part h own_is fits long e =
    let less : from + own - from ≡ own = omega arith in
    let front : take (from + own) (put_mid from (from + own - from) r part) ≡ take from r ++ part =
    take-put_mid from (from + own - from) r part (from + own) (omega arith) (omega arith) in
    let back : drop (from + own) (put_mid from (from + own - from) r part) ≡ drop (from + own) r =
    drop-put_mid from (from + own - from) r part (from + own) (omega arith) (omega arith) (omega arith) in
    let split : drop (from + own) r ≡ drop own (drop from r) = sym (drop-drop own from r) in
    let lent : (p', part) ≡ layer_worked (layer_of m i) m.z (p, take (length (layer_of m i) * m.z) (drop from r)) =
    e ∙ ap (λ (n : ℕ). layer_worked (layer_of m i) m.z (p, take n (drop from r))) (less ∙ own_is) in
    let more = layer_more m i from p r p' part h (omega arith) (omega arith) lent in
    let place : drop own (drop from r) ≡ drop (length (layer_of m i) * m.z) (drop from r) = ap (λ (n : ℕ). drop n (drop from r)) own_is in
    ap (λ (xs : List ℤ). joined xs (iterated (drop (i + 1) (layers_of m)) m.z (p', drop (from + own) (put_mid from (from + own - from) r part)))) front
    ∙ ap (λ (xs : List ℤ). joined (take from r ++ part) (iterated (drop (i + 1) (layers_of m)) m.z (p', xs))) (back ∙ split ∙ place)
    ∙ sym more

pub All-written : (P : ℤ → Type 0) (from n : ℕ) (r part : List ℤ) → All P r → All P part → All P (put_mid from n r part)
All-written P from n r part h k = All-append P (take from r) (part ++ drop n (drop from r)) (All-take P from r h) (All-append P part (drop n (drop from r)) k (All-drop P n (drop from r) (All-drop P from r h)))

-- after the last layer all edges are done
pub joined_all : (m : BaseMatrix) (i from : ℕ) (p r : List ℤ) → m.mb ≤ i → joined (take from r) (iterated (drop i (layers_of m)) m.z (p, drop from r)) ≡ (p, r)
joined_all m i from p r h =
    let none : drop i (layers_of m) ≡ [] = drop_all i (layers_of m) (omega (arith, layer_count m)) in
    ap (λ (layers : List (List (ℕ × ℕ))). joined (take from r) (iterated layers m.z (p, drop from r))) none
    ∙ ap (λ (xs : List ℤ). (p, xs)) (take-append-drop from r)

length-cons_option : {A : Type 0} (o : Option A) (xs : List A) → length (cons_option o xs) ≤ suc (length xs)
length-cons_option None xs = omega arith
length-cons_option (Some x) xs = omega arith

length-filter_map : {A B : Type 0} (f : A → Option B) (xs : List A) → length (filter_map f xs) ≤ length xs
length-filter_map f [] = omega arith
length-filter_map f (x ∷ xs) = omega (arith, length-cons_option (f x) (filter_map f xs), length-filter_map f xs)

-- a base row has at most one block in each column
pub blocks_fit : (m : BaseMatrix) (i : ℕ) → length (layer_of m i) ≤ m.nb
blocks_fit m i =
    omega (arith, length-filter_map (λ column. block_of_entry column (entry_at m i column)) (range_with_len 0 m.nb), length-range_with_len 0 m.nb)
