-- The work of a whole layer, put together from its blocks and its check rows.
use Rattle.std.proofs.Common.{◌≡◌, ◌≢◌, ℕ, zero, suc, ◌+◌, ◌-◌, ◌*◌, ◌/◌, ◌%◌, ◌<◌, ◌≤◌, ◌⊎◌, inl, inr, List, length, get_or, ℤ, pos, ◌+ℤ◌, ◌-ℤ◌, All, refl, subst, sym, ap, ◌∙◌, arith}
use Rattle.std.specs.List.{remove}
use Rattle.std.proofs.lemmas.Bool.{cases_lt, cases_eq}
use Rattle.std.proofs.lemmas.Int.{ints, clamps}
use Rattle.std.proofs.lemmas.List.{ext_get_or, get_or_default}
use Rattle.std.proofs.lemmas.List.FromFn.{length-map-range_with_len}
use Rattle.std.proofs.Math.Nat.{div-lt_iff_lt-mul, mod-eq_of_lt, mod-eq-sub-mod, mod-lt}
use Rattle.ssd_geo.specs.Decoding.{clamped, edges_of, given_of, layer_worked, picked, row_worked, rows_worked, sums_of}
use Rattle.ssd_geo.specs.Layer.{variable_of, variables_of}
use Rattle.ssd_geo.specs.LayerNumbers.{AreNumbersOf, IsLayer}
use Rattle.ssd_geo.specs.RowRule.{IsWithin, row_rule, told_by}
use Rattle.ssd_geo.proofs.DecodingBounds.{row_rule_within}
use Rattle.ssd_geo.proofs.FoundWords.{length-placed, length-rows}
use Rattle.ssd_geo.proofs.WorkedRows.{other_variable, row_given, worked_edge, worked_variable, length-row_edges, length-row_rule}
use Rattle.minsum_layer.proofs.Gathered.{gathered, given_at, within_at}
use Rattle.minsum_layer.proofs.Scattered.{sums_at}
use Rattle.lane_layer.specs.Rows.{IsToldCode, TellRows, number_of, row_of}
use Rattle.lane_layer.proofs.RowLists.{length-row, row_at}

-- ---- the variables of a block
-- the row of a place in a block's column
record HasRow (z s first k : ℕ) : Type 0 where
  u : ℕ
  in_row : u < z
  is : first + (u + s) % z ≡ k

back : (z s first k : ℕ) → s < z → first ≤ k → k < first + z → HasRow z s first k
back z s first k in_s low high =
    let v = k - first in
    elim (cases_lt v s) [
      | inl before ↦
          let u = v + z - s in
          let e : (u + s) % z ≡ (u + s - z) % z = mod-eq-sub-mod (omega arith) in
          let f : (u + s - z) % z ≡ u + s - z = mod-eq_of_lt (omega arith) in
          record { u = u; in_row = omega arith; is = omega arith }
      | inr after ↦
          let u = v - s in
          let e : (u + s) % z ≡ u + s = mod-eq_of_lt (omega arith) in
          record { u = u; in_row = omega arith; is = omega arith }
    ]

-- a place that is no variable of a block stands outside its column
pub outside_of : (z s first k : ℕ) → s < z → ((u : ℕ) → u < z → first + (u + s) % z ≢ k) → (k < first) ⊎ (first + z ≤ k)
outside_of z s first k in_s h =
    elim (cases_lt k first) [
      | inl below ↦ inl below
      | inr low ↦
          elim (cases_lt k (first + z)) [
            | inl high ↦ (let at = back z s first k in_s low high in absurd (h at.u at.in_row at.is))
            | inr above ↦ inr above
          ]
    ]

in_block : (z s first k : ℕ) → s < z → HasRow z s first k ⊎ ((u : ℕ) → u < z → first + (u + s) % z ≢ k)
in_block z s first k in_s =
    elim (cases_lt k first) [
      | inl below ↦ inr (λ u l e. absurd (omega arith))
      | inr low ↦
          elim (cases_lt k (first + z)) [
            | inl high ↦ inl (back z s first k in_s low high)
            | inr above ↦ inr (λ u l e. let turn : (u + s) % z < z = mod-lt (u + s) (omega arith) in absurd (omega arith))
          ]
    ]

-- the block and the row of a variable of the layer
record IsVariable (layer : List (ℕ × ℕ)) (z k : ℕ) : Type 0 where
  e : ℕ
  u : ℕ
  in_layer : e < length layer
  in_row : u < z
  is : variable_of z u (get_or layer e (0, 0)) ≡ k

found : (layer : List (ℕ × ℕ)) (z k n : ℕ) → n ≤ length layer → All (λ block. block.1 < z) layer → IsVariable layer z k ⊎ ((e u : ℕ) → e < n → u < z → variable_of z u (get_or layer e (0, 0)) ≢ k)
found layer z k zero le shifts = inr (λ e u l m. absurd (omega arith))
found layer z k (suc n) le shifts =
    let block = get_or layer n (0, 0) in
    elim (in_block z (block.1) (block.0 * z) k (shifts n (0, 0) (omega arith))) [
      | inl here ↦ inl (record { e = n; u = here.u; in_layer = omega arith; in_row = here.in_row; is = here.is })
      | inr not_here ↦
          elim (found layer z k n (omega arith) shifts) [
            | inl earlier ↦ inl earlier
            | inr none ↦ inr (λ e u l m.
                elim (cases_eq e n) [
                  | inl same ↦ subst (λ (f : ℕ). variable_of z u (get_or layer f (0, 0)) ≢ k) (sym same) (not_here u m)
                  | inr other ↦ none e u (omega arith) m
                ])
          ]
    ]

-- ---- codes
pub rows_from_given : (layer : List (ℕ × ℕ)) (z u : ℕ) (p r : List ℤ) (given : List ℕ) → ((f : ℕ) → f < length layer → number_of (get_or given (f * z + u) 0) ≡ given_at layer z u p r f)
    → row_of given z u (length layer) ≡ given_of (picked p (variables_of layer z u)) (picked r (edges_of (length layer) z u))
rows_from_given layer z u p r given h =
    gathered layer z u p r (row_of given z u (length layer)) (length-row given z u (length layer)) (λ k q. row_at given z u (length layer) k q ∙ h k q)

code_from_number : (c : ℕ) (x : ℤ) → number_of c ≡ clamped x → c ≤ 254
code_from_number c x e = omega (arith, ints, clamps)

pub code_from_given : (layer : List (ℕ × ℕ)) (z u : ℕ) (p r : List ℤ) (c f : ℕ) → number_of c ≡ given_at layer z u p r f → c ≤ 254
code_from_given layer z u p r c f e = code_from_number c (get_or p (variable_of z u (get_or layer f (0, 0))) (pos 0) -ℤ get_or r (f * z + u) (pos 0)) e

pub told_from_number : (c : ℕ) (x : ℤ) → number_of c ≡ x → IsWithin 95 x → IsToldCode c
told_from_number c x e h = (omega (arith, ints), omega (arith, ints))

-- the block and the row of an edge
record HasEdge (blocks z k : ℕ) : Type 0 where
  e : ℕ
  u : ℕ
  in_layer : e < blocks
  in_row : u < z
  is : e * z + u ≡ k

edge_of : (blocks z k : ℕ) → 0 < z → k < blocks * z → HasEdge blocks z k
edge_of blocks z k some h = record {
  e = k / z;
  u = k % z;
  in_layer = (div-lt_iff_lt-mul some).1 h;
  in_row = mod-lt k some;
  is = omega arith;
}

pub all_by_edges : (P : ℕ → Type 0) (xs : List ℕ) (blocks z : ℕ) → 0 < z → length xs ≡ blocks * z → ((e u : ℕ) → e < blocks → u < z → P (get_or xs (e * z + u) 0)) → All P xs
all_by_edges P xs blocks z some long h = λ k d l.
    let at = edge_of blocks z k some (omega arith) in
    subst P (ap (λ (i : ℕ). get_or xs i 0) at.is ∙ get_or_default xs k 0 d l) (h at.e at.u at.in_layer at.in_row)

-- ---- the layer
edge_sum : (given told : List ℕ) (z degree e u : ℕ) → TellRows given z degree told z → e < degree → u < z
    → number_of (get_or given (e * z + u) 0) +ℤ number_of (get_or told (e * z + u) 0) ≡ get_or (sums_of (row_of given z u degree) (row_rule (row_of given z u degree))) e (pos 0)
edge_sum given told z degree e u tells in_layer in_row =
    let q = row_of given z u degree in
    let long = length-row given z u degree in
    let ruled = length-row_rule q in
    ap (λ (x : ℤ). x +ℤ number_of (get_or told (e * z + u) 0)) (sym (row_at given z u degree e in_layer))
    ∙ ap (λ (x : ℤ). get_or q e (pos 0) +ℤ x) (tells e u in_layer in_row)
    ∙ sym (sums_at q (row_rule q) e (omega arith) (omega arith))

same_pair : (s t : List ℤ × List ℤ) → s.0 ≡ t.0 → s.1 ≡ t.1 → s ≡ t
same_pair s t e f = λ i. (e i, f i)

-- numbers that stand where the rows of the layer leave them are those of the layer's work
pub layer_is_worked : (z : ℕ) (layer : List (ℕ × ℕ)) (p r p' r' : List ℤ) (given told : List ℕ) → IsLayer z layer → AreNumbersOf z layer p r → length p' ≡ length p → length r' ≡ length r
    → ((u : ℕ) → u < z → row_of given z u (length layer) ≡ row_given layer z u (p, r))
    → TellRows given z (length layer) told z
    → ((e u : ℕ) → e < length layer → u < z → get_or p' (variable_of z u (get_or layer e (0, 0))) (pos 0) ≡ number_of (get_or given (e * z + u) 0) +ℤ number_of (get_or told (e * z + u) 0))
    → ((k : ℕ) → ((e u : ℕ) → e < length layer → u < z → variable_of z u (get_or layer e (0, 0)) ≢ k) → get_or p' k (pos 0) ≡ get_or p k (pos 0))
    → ((e u : ℕ) → e < length layer → u < z → get_or r' (e * z + u) (pos 0) ≡ number_of (get_or told (e * z + u) 0))
    → (p', r') ≡ layer_worked layer z (p, r)
layer_is_worked z layer p r p' r' given told h numbers in_p in_r rows tells variables others edges =
    let s : List ℤ × List ℤ = (p, r) in
    let after = rows_worked layer z z s in
    let shifts : All (λ block. block.1 < z) layer = h.shifts in
    let some : 0 < z = (let one : (get_or layer 0 (0, 0)).1 < z = shifts 0 (0, 0) (omega (arith, h.at_least)) in omega arith) in
    let first : p' ≡ after.0 = ext_get_or (pos 0) p' after.0 (in_p ∙ sym (length-rows layer z z s))
    (λ k l.
    elim (found layer z k (length layer) (omega arith) shifts) [
      | inl at ↦
          let v = variable_of z at.u (get_or layer at.e (0, 0)) in
          ap (λ (i : ℕ). get_or p' i (pos 0)) (sym at.is)
          ∙ variables at.e at.u at.in_layer at.in_row
          ∙ edge_sum given told z (length layer) at.e at.u tells at.in_layer at.in_row
          ∙ ap (λ (q : List ℤ). get_or (sums_of q (row_rule q)) at.e (pos 0)) (rows at.u at.in_row)
          ∙ sym (worked_variable z layer h z s (omega arith) numbers.columns at.u at.e at.in_row at.in_layer)
          ∙ ap (λ (i : ℕ). get_or after.0 i (pos 0)) at.is
      | inr none ↦ others k none ∙ sym (other_variable layer z z s k (λ t e m n. none e t n m))
    ]) in
    let second : r' ≡ after.1 = ext_get_or (pos 0) r' after.1 (in_r ∙ sym (length-row_edges layer z z s))
    (λ k l.
    let at = edge_of (length layer) z k some (omega (arith, numbers.edges)) in
    ap (λ (i : ℕ). get_or r' i (pos 0)) (sym at.is)
    ∙ edges at.e at.u at.in_layer at.in_row
    ∙ tells at.e at.u at.in_layer at.in_row
    ∙ ap (λ (q : List ℤ). get_or (row_rule q) at.e (pos 0)) (rows at.u at.in_row)
    ∙ sym (worked_edge z layer h z s (omega arith) numbers.edges at.u at.e at.in_row at.in_layer)
    ∙ ap (λ (i : ℕ). get_or after.1 i (pos 0)) at.is) in
    same_pair (p', r') after first second

pub within_rule : (q : List ℤ) (e : ℕ) → All (IsWithin 127) q → IsWithin 95 (get_or (row_rule q) e (pos 0))
within_rule q e h = within_at 95 (row_rule q) e (row_rule_within q h)
