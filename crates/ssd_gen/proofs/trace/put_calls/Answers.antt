use Rattle.std.proofs.Common.{arith, ◌≡◌, ◌++◌, List, ℕ, ap, sym, ◌∙◌, refl}
use Rattle.std.specs.List.{range_with_len}
use Rattle.std.specs.Prelude.{flat_map}
use Rattle.ssd_formats.specs.GeneratedWork.{generated_line_of}
use Rattle.ssd_gen.specs.TraceParts.{call_text, calls_text}
use Rattle.ssd_gen.proofs.Ranges.{numbers_at, numbers_behind, numbers_more}
use Rattle.ssd_gen.proofs.RowSteps.{state_next, word_next}
use Rattle.ssd_io.proofs.WriteSteps.{fails_in, none_wrote, writes_all, wrote, wrote_then}
use Rattle.ssd_gen.proofs.trace.put_calls.Goals as goal

pub loop-call-init : goal.loop-call-init
loop-call-init g c = record { noise = refl; wrote = none_wrote c.args.output.now }

pub loop-call-preserved : goal.loop-call-preserved
loop-call-preserved g c =
    let start = c.args.noise.now in
    let call = c.loop-call.call in
    let front : List ℕ = flat_map (call_text start) (range_with_len 0 call) in
    let same : generated_line_of call c.draw-word.result ≡ call_text start call =
    ap (generated_line_of call) (c.draw-word.ensures.word ∙ word_next start call c.loop-call.noise c.loop-call.invariant.noise) in
    record {
      noise = state_next start call 1 _ c.loop-call.noise _ c.loop-call.invariant.noise c.draw-word.ensures.after refl;
      wrote = wrote_then _ (numbers_more (call_text start) call ∙ ap (λ l. front ++ l) (sym same)) c.loop-call.invariant.wrote (wrote c.in_ok-put_call.ensures);
    }

pub returns-in_err-put_call : goal.returns-in_err-put_call
unfolding calls_text
returns-in_err-put_call g c =
    let start = c.args.noise.now in
    let call = c.loop-call.call in
    let front : List ℕ = flat_map (call_text start) (range_with_len 0 call) in
    let rest = numbers_behind (call_text start) call 4096 in
    let same : generated_line_of call c.draw-word.result ≡ call_text start call =
    ap (generated_line_of call) (c.draw-word.ensures.word ∙ word_next start call c.loop-call.noise c.loop-call.invariant.noise) in
    fails_in rest _ _ (numbers_at (call_text start) call 4096 c.loop-call-test.true ∙ ap (λ l. front ++ (l ++ rest)) (sym same)) c.from_residual.ensures.0 c.loop-call.invariant.wrote c.in_err-put_call.ensures

pub returns : goal.returns
unfolding calls_text
returns g c =
    let all : 4096 ≡ c.loop-call.call = omega arith in
    writes_all _ (ap (λ (n : ℕ). flat_map (call_text c.args.noise.now) (range_with_len 0 n)) all) c.loop-call.invariant.wrote
