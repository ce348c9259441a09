use Rattle.std.proofs.Common.{◌≡◌, ℕ, ◌+◌, ◌-◌, ◌*◌, ◌<◌, ◌≤◌, min, max, List, get_or, All, subst, ap, ◌∙◌, arith}
use Rattle.std.specs.Int.Bits.{bit_xor}
use Rattle.std.proofs.lemmas.Simd.{length-replicate, get_or-replicate}
use Rattle.minsum_layer.proofs.TwoLeast.{least_of_others}
use Rattle.lane_layer.specs.Rows.{row_of}
use Rattle.lane_layer.proofs.RowLists.{IsKept, kept_more, kept_none, length-row, row_within}
use Rattle.lane_layer.proofs.tile.find_extremes.Goals as goal

pub loop-e-init : goal.loop-e-init
loop-e-init g c =
    let n = g.row.L in
    record {
      nearest_long = length-replicate n 0;
      second_long = length-replicate n 0;
      signs_long = length-replicate n 0;
      kept = λ k l. kept_none c.args.given.now c.args.z (c.args.t + k) _ _ _ (get_or-replicate n k 0 0 l) (get_or-replicate n k 0 0 l) (get_or-replicate n k 0 0 l);
    }

-- the lanes of the vectors that the body leaves
stepped : (given : List ℕ) (z t n nearest second signs code near low nearest' second' signs' : ℕ) → All (λ c. c ≤ 254) given → IsKept given z t n nearest second signs → code ≡ get_or given (n * z + t) 0
    → near ≡ min code (254 - code) → low ≡ min nearest near → second' ≡ max second low → nearest' ≡ max nearest near → signs' ≡ bit_xor signs code → IsKept given z t (n + 1) nearest' second' signs'
stepped given z t n nearest second signs code near low nearest' second' signs' codes h is near_is low_is second_is nearest_is signs_are =
    let second_all : second' ≡ max second (min nearest (min code (254 - code))) = cc in
    let nearest_all : nearest' ≡ max nearest (min code (254 - code)) = cc in
    let more = kept_more given z t n nearest second signs code codes h is in
    rw (nearest_all, second_all, signs_are) more

pub loop-e-preserved : goal.loop-e-preserved
loop-e-preserved g c = record {
  nearest_long = c.greater-in-loop-e.ensures.long;
  second_long = c.greater.ensures.long;
  signs_long = c.signs_of.ensures.long;
  kept = λ k l.
      stepped c.args.given.now c.args.z (c.args.t + k) c.loop-e.e _ _ _ _ _ _ _ _ _ c.requires.codes (c.loop-e.invariant.kept k l)
      (c.loaded-codes.ensures.each k l ∙ ap (λ (i : ℕ). get_or c.args.given.now i 0) (omega arith))
      (c.nearness-near.ensures.each k l) (c.lesser.ensures.each k l) (c.greater.ensures.each k l) (c.greater-in-loop-e.ensures.each k l) (c.signs_of.ensures.each k l);
}

pub returns : goal.returns
returns g c =
    let given = c.args.given.now in
    let degree = c.args.degree in
    let all : c.loop-e.e ≡ degree = omega arith in
    let kept = λ (k : ℕ) (l : k < g.row.L).
    subst (λ (n : ℕ). IsKept given c.args.z (c.args.t + k) n (get_or c.loop-e.nearest k 0) (get_or c.loop-e.second k 0) (get_or c.loop-e.signs k 0)) all (c.loop-e.invariant.kept k l) in
    record {
      nearest_long = c.loop-e.invariant.nearest_long;
      second_long = c.loop-e.invariant.second_long;
      signs_long = c.loop-e.invariant.signs_long;
      nearest_within = λ k l. (kept k l).nearest_within;
      second_within = λ k l. (kept k l).second_within;
      least_of_others = λ k i l h.
          let row = row_of given c.args.z (c.args.t + k) degree in
          let long = length-row given c.args.z (c.args.t + k) degree in
          least_of_others row _ i (omega arith) (row_within given c.args.z (c.args.t + k) degree c.requires.codes) (kept k l).two (omega arith);
      negative = λ k l. (kept k l).sign;
    }
