use Rattle.std.proofs.Common.{arith, rules, ◌≡◌, ◌++◌, List, ℕ, ap, sym, ◌∙◌}
use Rattle.std.specs.Int.{cast_signed, cast_unsigned, w16}
use Rattle.std.specs.Int.RustNames.{FitsSigned}
use Rattle.std.specs.List.{range_with_len}
use Rattle.std.specs.Prelude.{flat_map}
use Rattle.ssd_formats.specs.Fields.{bytes_of_signed}
use Rattle.ssd_geo.specs.Noise.{state_after}
use Rattle.ssd_gen.specs.RowWords.{drawn_at, entry_bytes, row_bytes, words_before}
use Rattle.ssd_gen.proofs.Ranges.{numbers_at, numbers_behind, numbers_more}
use Rattle.ssd_gen.proofs.RowSteps.{entry_next, state_next, words_all, words_more, words_none}
use Rattle.ssd_io.proofs.WriteSteps.{fails_in, none_wrote, writes_all, wrote, wrote_then}
use Rattle.ssd_gen.proofs.matrix.put_row.Goals as goal

pub loop-column-init : goal.loop-column-init
loop-column-init g c = record {
  noise = ap (state_after c.args.noise.now) (sym (words_none c.args.row));
  wrote = none_wrote c.args.output.now;
}

pub loop-column-preserved : goal.loop-column-preserved
loop-column-preserved g c =
    let start = c.args.noise.now in
    let row = c.args.row in
    let column = c.loop-column.column in
    let front : List ℕ = flat_map (entry_bytes start row) (range_with_len 0 column) in
    let fits : FitsSigned w16 c.next_entry-entry.result = search rules in
    let same : bytes_of_signed (cast_signed w16 (cast_unsigned w16 c.next_entry-entry.result)) ≡ entry_bytes start row column = entry_next start c.loop-column.noise row column _ fits c.loop-column.invariant.noise c.next_entry-entry.ensures.entry in
    record {
      noise = state_next start (words_before row column) (drawn_at row column) _ c.loop-column.noise _ c.loop-column.invariant.noise c.next_entry-entry.ensures.noise (words_more row column);
      wrote = wrote_then _ (numbers_more (entry_bytes start row) column ∙ ap (λ l. front ++ l) (sym same)) c.loop-column.invariant.wrote (wrote c.in_ok-put_entry.ensures);
    }

pub returns-in_err-put_entry-clause-row : goal.returns-in_err-put_entry-clause-row
unfolding row_bytes
returns-in_err-put_entry-clause-row g c =
    let start = c.args.noise.now in
    let row = c.args.row in
    let column = c.loop-column.column in
    let front : List ℕ = flat_map (entry_bytes start row) (range_with_len 0 column) in
    let rest = numbers_behind (entry_bytes start row) column 73 in
    let fits : FitsSigned w16 c.next_entry-entry.result = search rules in
    let same : bytes_of_signed (cast_signed w16 (cast_unsigned w16 c.next_entry-entry.result)) ≡ entry_bytes start row column = entry_next start c.loop-column.noise row column _ fits c.loop-column.invariant.noise c.next_entry-entry.ensures.entry in
    fails_in rest _ _ (numbers_at (entry_bytes start row) column 73 c.loop-column-test.true ∙ ap (λ l. front ++ (l ++ rest)) (sym same)) c.from_residual.ensures.0 c.loop-column.invariant.wrote c.in_err-put_entry.ensures

pub returns-clause-row : goal.returns-clause-row
unfolding row_bytes
returns-clause-row g c =
    let all : 73 ≡ c.loop-column.column = omega arith in
    writes_all _ (ap (λ (n : ℕ). flat_map (entry_bytes c.args.noise.now c.args.row) (range_with_len 0 n)) all) c.loop-column.invariant.wrote

pub returns-clause-noise : goal.returns-clause-noise
returns-clause-noise g c =
    let all : c.loop-column.column ≡ 73 = omega arith in
    c.loop-column.invariant.noise ∙ ap (state_after c.args.noise.now) (ap (words_before c.args.row) all ∙ words_all c.args.row)
