use Rattle.std.proofs.Common.{ap, refl, sym, ◌∙◌, arith, ◌-◌, ℕ}
use Rattle.ssd_formats.specs.RunText.{summary_text, summary_of}
use Rattle.history_text.proofs.Counting.{summary_same}
use Rattle.history_text.proofs.TextPieces.{prints_same}
use Rattle.history_text.specs.declared.summary.Hints.{Hints}
use Rattle.history_text.proofs.run.put_counted.Goals as goal

pub returns : goal.returns
returns g c =
    let hints : Hints = record { pushed = c.count_hinted-hinted.result - c.args.dropped; dropped = c.args.dropped; taken = c.count_taken.result } in
    prints_same (ap (λ (n : ℕ). summary_text (summary_of n c.args.histories.now c.args.kinds.now c.args.replies.now c.args.dropped)) (sym c.len-levels.ensures) ∙ ap summary_text (summary_same c.len-levels.result c.args.dropped c.args.histories.now c.args.kinds.now c.args.replies.now c.count_calls-calls.result c.count_histories-entries.result c.count_rungs-rungs.result hints (omega (arith, c.requires.levels, c.len-levels.ensures)) (omega (arith, c.count_rungs-rungs.ensures.len)) c.count_calls-calls.ensures c.count_histories-entries.ensures c.count_rungs-rungs.ensures.counted (ap (λ (n : ℕ). n - c.args.dropped) c.count_hinted-hinted.ensures) refl c.count_taken.ensures)) c.put_summary.ensures
