-- What does the serial min-sum decoder leave, and what does it answer? Layered decoding after Hocevar (2004): check
-- rows are worked one at a time, and each uses what the rows before it left. The clamp and the hard decision are this
-- project's own.
use Rattle.std.specs.Prelude.{ℕ, zero, suc, ◌+◌, ◌*◌, Bool, List, [], ◌∷◌, ◌++◌, map, length, take, drop, set, replicate, ℤ, pos, neg_ℤ, ◌+ℤ◌, ◌-ℤ◌, slice_index_or, sum_by, zip, find, Option, option_map}
use Rattle.std.specs.List.{range_with_len}
use Rattle.std.specs.Int.{int_max, int_min}
use Rattle.ssd_geo.specs.BaseMatrix.{BaseMatrix, layer_of}
use Rattle.ssd_geo.specs.Bits.{bytes_of}
use Rattle.ssd_geo.specs.Codewords.{is_codeword}
use Rattle.ssd_geo.specs.Layer.{variables_of}
use Rattle.ssd_geo.specs.RowRule.{row_rule, is_negative}

-- the number itself where it is from -127 to 127, else the nearer of these
abbrev pub clamped : ℤ → ℤ
clamped n = int_max (neg_ℤ (pos 127)) (int_min n (pos 127))

-- the numbers at these places
abbrev pub picked : List ℤ → List ℕ → List ℤ
picked xs places = map (λ i. slice_index_or xs i (pos 0)) places

-- the list after one number is put at each of these places
abbrev pub placed : List ℤ → List ℕ → List ℤ → List ℤ
placed xs [] ys = xs
placed xs (i ∷ places) [] = xs
placed xs (i ∷ places) (y ∷ ys) = placed (set xs i y) places ys

-- what a check row is given on its edges: the number of each variable less what the row told it before
abbrev pub given_of : List ℤ → List ℤ → List ℤ
given_of ps rs = map (λ pr. clamped (pr.0 -ℤ pr.1)) (zip ps rs)

-- the new numbers of the variables: what the row was given, with what it tells now
abbrev pub sums_of : List ℤ → List ℤ → List ℤ
sums_of given told = map (λ qr. qr.0 +ℤ qr.1) (zip given told)

-- where a layer of this many blocks keeps the edges of its check row t, for lifting size z: block by block
abbrev pub edges_of : ℕ → ℕ → ℕ → List ℕ
edges_of blocks z t = map (λ e. e * z + t) (range_with_len 0 blocks)

-- the numbers of the variables and of a layer's edges after its check row t was worked
unfoldable pub row_worked : List (ℕ × ℕ) → ℕ → ℕ → List ℤ × List ℤ → List ℤ × List ℤ
row_worked layer z t s =
    let variables = variables_of layer z t in
    let edges = edges_of (length layer) z t in
    let given = given_of (picked s.0 variables) (picked s.1 edges) in
    let told = row_rule given in
    (placed s.0 variables (sums_of given told), placed s.1 edges told)

-- the same after the first n check rows of the layer, in order
abbrev pub rows_worked : List (ℕ × ℕ) → ℕ → ℕ → List ℤ × List ℤ → List ℤ × List ℤ
rows_worked layer z zero s = s
rows_worked layer z (suc n) s = row_worked layer z n (rows_worked layer z n s)

-- the same after the whole layer, which has z check rows
abbrev pub layer_worked : List (ℕ × ℕ) → ℕ → List ℤ × List ℤ → List ℤ × List ℤ
layer_worked layer z s = rows_worked layer z z s

-- the numbers of the variables and of all edges after one iteration: layer by layer, each with its own part of the edges
abbrev pub iterated : List (List (ℕ × ℕ)) → ℕ → List ℤ × List ℤ → List ℤ × List ℤ
iterated [] z s = s
iterated (layer ∷ layers) z s =
    let own = length layer * z in
    let first = layer_worked layer z (s.0, take own s.1) in
    let rest = iterated layers z (first.0, drop own s.1) in
    (rest.0, first.1 ++ rest.1)

-- how many edges a code has
abbrev pub edge_count : List (List (ℕ × ℕ)) → ℕ → ℕ
edge_count layers z = sum_by (λ layer. length layer * z) layers

-- the layers of a code, one for each base row
abbrev pub layers_of : BaseMatrix → List (List (ℕ × ℕ))
layers_of m = map (layer_of m) (range_with_len 0 m.mb)

-- the numbers of the variables and of the edges after n iterations on these values; each edge begins with 0
abbrev pub after_iterations : BaseMatrix → List ℤ → ℕ → List ℤ × List ℤ
after_iterations m values zero = (values, replicate (edge_count (layers_of m) m.z) (pos 0))
after_iterations m values (suc n) = iterated (layers_of m) m.z (after_iterations m values n)

-- the hard decision: a bit is 1 exactly where its variable's number is below 0
abbrev pub decided : List ℤ → List Bool
decided p = map is_negative p

-- the hard decision after n iterations on these values
abbrev pub decided_after : BaseMatrix → List ℤ → ℕ → List Bool
decided_after m values n = decided (after_iterations m values n).0

-- the least number of iterations, up to a limit, after which the hard decision is a codeword
abbrev pub iterations_needed : BaseMatrix → ℕ → List ℤ → Option ℕ
iterations_needed m limit values = find (λ n. is_codeword m (decided_after m values n)) (range_with_len 0 (limit + 1))

-- what the decoder answers: that number and the codeword, as bytes, or that there is none up to the limit
abbrev pub decode : BaseMatrix → ℕ → List ℤ → Option (ℕ × List ℕ)
decode m limit values = option_map (λ n. (n, bytes_of (decided_after m values n))) (iterations_needed m limit values)
