-- The worker of the drive may make calls of the loaded channel.
use Rattle.std.proofs.Common.{◌≡◌, ℕ, ◌<◌, List, [], refl, sym, ◌∙◌, ap, subst, Option, arith}
use Rattle.ssd_geo.specs.Coding.{matrix_of}
use Rattle.ssd_geo.specs.BaseMatrix.{BaseMatrix}
use Rattle.ssd_geo.specs.Shape.{HasSizes}
use Rattle.ssd_geo.specs.declared.base.ChannelBase.{ChannelBase}
use Rattle.ssd_geo.specs.declared.policy_view.PolicyView.{PolicyView}
use Rattle.ssd_geo.specs.declared.shape.Shape.{Shape}
use Rattle.ssd_geo.specs.declared.weak.Weak.{Weak}
use Rattle.ssd_histories.specs.HistoryExamples.{small_sizes}
use Rattle.ssd_histories.specs.Start.{Start}
use Rattle.chan_calls.proofs.AloneSteps.{is_of_standing}
use Rattle.chan_calls.specs.Alone.{view_of_lent}
use Rattle.chan_calls.specs.Caller.{CallerView}
use Rattle.chan_calls.specs.Stepping.{Standing}
use Rattle.chan_calls.specs.Workers.{MayCall, WorkerState, WorksFor}
use Rattle.chan_state.specs.ChannelState.{ChannelState, StandsFor}
use Rattle.retry_ladder.specs.Decoder.{IsCodeOf}
use Rattle.loaded_tests.specs.LoadedChannel.{loaded_base}
use Rattle.loaded_tests.specs.LoadedWorker.{MayCollect, loaded_code, loaded_worker}
use Rattle.loaded_tests.specs.LoneCaller.{IsLone}

-- the code is that of the drive's sizes
pub is_code_of : (shape : Shape) → HasSizes shape small_sizes → IsCodeOf shape loaded_code
is_code_of shape sizes = record {
  lifting = sym sizes.lifting_is;
  base_rows = sym sizes.base_rows_are;
  base_columns = sym sizes.base_columns_are;
}

works_for : (worker : WorkerState) (shape : Shape) (weak : List Weak) (start : Start) → worker ≡ loaded_worker shape
    → HasSizes shape small_sizes → start.base ≡ loaded_base shape weak → WorksFor worker start
works_for worker shape weak start is sizes is_base =
    let base = sym is_base in
    record {
      shape_is = ap (λ (w : WorkerState). w.shape) is ∙ ap (λ (b : ChannelBase). b.shape) base;
      session_is = ap (λ (w : WorkerState). w.session) is ∙ ap (λ (b : ChannelBase). b.session) base;
      code_is =
          ap {B = BaseMatrix} (λ (w : WorkerState). w.code) is
          ∙ (λ i. record {
            z = sym sizes.lifting_is i;
            mb = sym sizes.base_rows_are i;
            nb = sym sizes.base_columns_are i;
            entries = loaded_code.entries;
          })
          ∙ ap {B = BaseMatrix} (λ (b : ChannelBase). matrix_of b) base;
      iterations_are = ap (λ (w : WorkerState). w.iterations) is ∙ ap (λ (b : ChannelBase). b.iterations) base;
      levels_are = ap (λ (w : WorkerState). w.levels) is ∙ ap (λ (b : ChannelBase). b.read_levels) base;
      step_is = ap (λ (w : WorkerState). w.step) is ∙ ap (λ (b : ChannelBase). b.step) base;
    }

-- a caller that is alone on the channel may make calls of the worker
pub may_call : (worker : WorkerState) (channel : ChannelState) (view : Option PolicyView) (reference : ℕ)
    → MayCollect worker channel view → MayCall worker (view_of_lent channel reference) (StandsFor channel view)
may_call worker channel view reference may =
    let begun = may.begun in
    record {
      start = begun.start;
      contents = [];
      works = works_for worker may.shape begun.weak begun.start may.worker_is begun.sizes begun.is_base;
      is_of = is_of_standing channel reference view begun.start [] (begun.stands []);
      stands_for = begun.stands [];
      bound = tt;
    }

-- and knows the small sizes
pub is_lone : (worker : WorkerState) (channel : ChannelState) (view : Option PolicyView) (reference : ℕ)
    → MayCollect worker channel view → IsLone (view_of_lent channel reference)
is_lone worker channel view reference may = record {
  alone = refl;
  unbound = refl;
  sizes =
      subst (λ (shape : Shape). HasSizes shape small_sizes)
      (sym ((may.begun.stands []).shape_is ∙ ap (λ (b : ChannelBase). b.shape) may.begun.is_base)) may.begun.sizes;
}

-- row 0 is one of the worker's
pub worker_row : (worker : WorkerState) (caller : CallerView) (stands : Standing) → IsLone caller → MayCall worker caller stands
    → 0 < worker.shape.rows
worker_row worker caller stands lone may =
    let eight = lone.sizes.rows_are in
    let rows : worker.shape.rows ≡ caller.shape.rows =
    ap {B = ℕ} (λ (shape : Shape). shape.rows) (may.works.shape_is ∙ sym may.is_of.shape_is) in
    omega (arith, eight, rows)
