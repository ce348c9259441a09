use Rattle.std.proofs.Common.{◌≡◌, ◌++◌, List, ℕ, ap, sym, ◌∙◌, refl, arith}
use Rattle.std.specs.List.{range_with_len}
use Rattle.std.specs.Prelude.{flat_map}
use Rattle.ssd_formats.specs.GeneratedWork.{drawn_before_row}
use Rattle.ssd_geo.specs.Noise.{state_after}
use Rattle.ssd_gen.specs.HeadParts.{words_of_matrix}
use Rattle.ssd_gen.specs.RowWords.{row_bytes, words_of_row}
use Rattle.ssd_gen.proofs.Ranges.{numbers_at, numbers_behind, numbers_more}
use Rattle.ssd_gen.proofs.RowSteps.{rows_more, state_next}
use Rattle.ssd_gen.proofs.WorkParts.{matrix_is, row_piece}
use Rattle.ssd_io.proofs.WriteSteps.{fails_in, none_wrote, writes_all, wrote, wrote_then}
use Rattle.ssd_gen.proofs.matrix.put_matrix.Goals as goal

pub loop-row-init : goal.loop-row-init
loop-row-init g c = record { noise = refl; wrote = none_wrote c.args.output.now }

pub loop-row-preserved : goal.loop-row-preserved
loop-row-preserved g c =
    let start = c.args.noise.now in
    let row = c.loop-row.row in
    let front : List ℕ = flat_map (row_piece start) (range_with_len 0 row) in
    let same : row_bytes c.loop-row.noise row ≡ row_piece start row = ap (λ (state : ℕ). row_bytes state row) c.loop-row.invariant.noise in
    record {
      noise = state_next start (drawn_before_row row) (words_of_row row) _ c.loop-row.noise _ c.loop-row.invariant.noise c.in_ok-put_row.ensures.noise (rows_more row);
      wrote = wrote_then _ (numbers_more (row_piece start) row ∙ ap (λ l. front ++ l) (sym same)) c.loop-row.invariant.wrote (wrote c.in_ok-put_row.ensures.row);
    }

pub returns-in_err-put_row-clause-matrix : goal.returns-in_err-put_row-clause-matrix
returns-in_err-put_row-clause-matrix g c =
    let start = c.args.noise.now in
    let row = c.loop-row.row in
    let front : List ℕ = flat_map (row_piece start) (range_with_len 0 row) in
    let rest = numbers_behind (row_piece start) row 8 in
    let same : row_bytes c.loop-row.noise row ≡ row_piece start row = ap (λ (state : ℕ). row_bytes state row) c.loop-row.invariant.noise in
    fails_in rest _ _ (sym (matrix_is start) ∙ numbers_at (row_piece start) row 8 c.loop-row-test.true ∙ ap (λ l. front ++ (l ++ rest)) (sym same)) c.from_residual.ensures.0 c.loop-row.invariant.wrote c.in_err-put_row.ensures.row

pub returns-clause-matrix : goal.returns-clause-matrix
returns-clause-matrix g c =
    let start = c.args.noise.now in
    let all : 8 ≡ c.loop-row.row = omega arith in
    writes_all _ (sym (matrix_is start) ∙ ap (λ (n : ℕ). flat_map (row_piece start) (range_with_len 0 n)) all) c.loop-row.invariant.wrote

pub returns-clause-noise : goal.returns-clause-noise
unfolding words_of_matrix
returns-clause-noise g c =
    let all : c.loop-row.row ≡ 8 = omega arith in
    c.loop-row.invariant.noise ∙ ap (λ (n : ℕ). state_after c.args.noise.now (drawn_before_row n)) all
