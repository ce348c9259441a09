-- What does a worker have, and for which starts does it work? It has the sizes and the session of a
-- drive, its code, the iterations of its decoder, the read levels and the distance of soft senses;
-- and the data of the page that its latest ladder recovered.
use Rattle.std.specs.Prelude.{ℕ, ◌≡◌, IfSome, List, ℤ}
use Rattle.ssd_geo.specs.BaseMatrix.{BaseMatrix}
use Rattle.ssd_geo.specs.Coding.{matrix_of}
use Rattle.ssd_histories.specs.Start.{Start}
use Rattle.ssd_geo.specs.declared.shape.Shape.{Shape}
use Rattle.ssd_geo.specs.declared.tag.Tag.{Tag}
use Rattle.chan_calls.specs.Caller.{CallerView, IsOf}
use Rattle.chan_calls.specs.Stepping.{Standing}

-- what contracts see of a worker
pub record WorkerState : Type 0 where
  pub shape : Shape
  pub session : ℕ
  pub code : BaseMatrix
  pub iterations : ℕ
  pub levels : List ℤ
  pub step : ℕ
  pub data_bytes : List ℕ

-- a worker works for a start
pub record WorksFor (worker : WorkerState) (start : Start) : Type 0 where
  pub shape_is : worker.shape ≡ start.base.shape
  pub session_is : worker.session ≡ start.base.session
  pub code_is : worker.code ≡ matrix_of start.base
  pub iterations_are : worker.iterations ≡ start.base.iterations
  pub levels_are : worker.levels ≡ start.base.read_levels
  pub step_is : worker.step ≡ start.base.step

-- a worker may make calls of a caller: the channel stands for some start and contents for which the
-- worker works, and where it is bound to a start and contents, for these
pub record MayCall (worker : WorkerState) (caller : CallerView) (stands : Standing) : Type 0 where
  pub start : Start
  pub contents : List (Tag × List ℕ)
  pub works : WorksFor worker start
  pub is_of : IsOf caller start contents
  pub stands_for : stands start contents
  pub bound : IfSome caller.bound (λ bound. bound ≡ (start, contents))
