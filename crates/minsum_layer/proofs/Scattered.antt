-- What a check row leaves, edge by edge.
use Rattle.std.proofs.Common.{◌≡◌, ℕ, zero, suc, ◌+◌, ◌*◌, ◌<◌, ◌≤◌, List, [], ◌∷◌, length, get_or, set, drop, ℤ, pos, ◌+ℤ◌, refl, ap, arith}
use Rattle.std.proofs.lemmas.List.{drop_more, drop_all, get_or-map}
use Rattle.std.proofs.lemmas.List.FromFn.{get_or-map-range_with_len}
use Rattle.ssd_geo.specs.Decoding.{edges_of, placed, sums_of}
use Rattle.ssd_geo.specs.Layer.{variable_of, variables_of}

-- one more number is put at its place
pub placed_more : (xs : List ℤ) (places : List ℕ) (ys : List ℤ) (e place : ℕ) (y : ℤ) → e < length places → e < length ys → get_or places e 0 ≡ place → get_or ys e (pos 0) ≡ y → placed xs (drop e places) (drop e ys) ≡ placed (set xs place y) (drop (e + 1) places) (drop (e + 1) ys)
placed_more xs places ys e place y h k at value =
    let p : drop e places ≡ get_or places e 0 ∷ drop (e + 1) places = drop_more places e 0 h in
    let q : drop e ys ≡ get_or ys e (pos 0) ∷ drop (e + 1) ys = drop_more ys e (pos 0) k in
    rw (p, q, at, value) refl

pub placed_all : (xs : List ℤ) (places : List ℕ) (ys : List ℤ) (e : ℕ) → length places ≤ e → placed xs (drop e places) ys ≡ xs
placed_all xs places ys e h =
    let p : drop e places ≡ [] = drop_all e places h in
    rw p refl

pub sums_at : (given told : List ℤ) (e : ℕ) → e < length given → e < length told → get_or (sums_of given told) e (pos 0) ≡ get_or given e (pos 0) +ℤ get_or told e (pos 0)
sums_at [] told e h k = absurd (omega arith)
sums_at (g ∷ given) [] e h k = absurd (omega arith)
sums_at (g ∷ given) (t ∷ told) zero h k = refl
sums_at (g ∷ given) (t ∷ told) (suc e) h k = sums_at given told e (omega arith) (omega arith)
