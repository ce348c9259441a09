-- Which worker serves a drive? The one that has what the head of the drive's image says.
use Rattle.std.specs.Prelude.{◌≡◌}
use Rattle.chan_calls.specs.Workers.{WorkerState}
use Rattle.ssd_formats.specs.ImageHead.{Head, matrix_of_head}
use Rattle.ssd_geo.specs.Shape.{sizes_of}

-- a worker has the sizes, the session, the code, the iterations, the read levels and the distance
-- of soft senses of a head
pub record IsWorkerOf (head : Head) (worker : WorkerState) : Type 0 where
  pub sizes_are : sizes_of worker.shape ≡ head.sizes
  pub session_is : worker.session ≡ head.session
  pub code_is : worker.code ≡ matrix_of_head head
  pub iterations_are : worker.iterations ≡ head.iterations
  pub levels_are : worker.levels ≡ head.read_levels
  pub step_is : worker.step ≡ head.step
