use Rattle.std.proofs.Common.{◌≡◌, List, ℤ, rules, subst, sym}
use Rattle.qc_matrix.specs.Fault.{IsFirstFault}
use Rattle.ssd_geo.specs.BaseMatrix.{IsAccepted, first_fault}
use Rattle.ssd_geo.specs.Shape.{sizes_of}
use Rattle.ssd_formats.specs.ImageHead.{matrix_field}
use Rattle.image_file.specs.Gives.{rest_at, StopsAt}
use Rattle.image_file.specs.Matrix.{matrix_of_shape}
use Rattle.image_file.specs.StopCauses.{StopHasCause}
use Rattle.image_file.proofs.MatrixSteps.{matrix_cause, matrix_fails, matrix_passes}
use Rattle.image_file.proofs.matrix.read_matrix.Goals as goal

pub returns-in-Ok-clause-read : goal.returns-in-Ok-clause-read
returns-in-Ok-clause-read g c =
    let shape = c.args.shape.now in
    let entries = c.in_ok-entries.entries.items in
    let accepted : IsAccepted (matrix_of_shape shape entries) = search rules in
    record {
      given = λ told.
          let read = c.in_ok-entries.ensures.read.given told in
          (read.0, matrix_passes (sizes_of shape) (rest_at c.args.place (g.S.Source.left c.args.input.now)) _ entries read.1 accepted);
      never_fell = c.in_ok-entries.ensures.read.never_fell;
      cause = c.in_ok-entries.ensures.read.cause;
    }

pub returns-in-Err-clause-read : goal.returns-in-Err-clause-read
returns-in-Err-clause-read g c =
    let shape = c.args.shape.now in
    let entries = c.in_ok-entries.entries.items in
    let rest = rest_at c.args.place (g.S.Source.left c.args.input.now) in
    let before = g.S.Source.faults c.args.input.now in
    let now = g.S.Source.faults c.read_entries.new.input in
    let same : c.deref.result.now ≡ entries = search rules in
    let first : IsFirstFault (first_fault (matrix_of_shape shape entries)) c.in-Err.fault =
    subst (λ (l : List ℤ). IsFirstFault (first_fault (matrix_of_shape shape l)) c.in-Err.fault) same c.in-Err.ensures.err in
    record {
      given = λ told.
          let read = c.in_ok-entries.ensures.read.given told in
          subst (λ s. StopsAt s (matrix_field (sizes_of shape) rest)) (sym c.stop_of.ensures) (matrix_fails (sizes_of shape) rest _ entries c.in-Err.fault read.1 first);
      never_fell = c.in_ok-entries.ensures.read.never_fell;
      cause = subst (λ s. StopHasCause before now s) (sym c.stop_of.ensures) (matrix_cause before now c.args.place shape.mb shape.nb c.in-Err.fault c.in_ok-entries.ensures.read.cause);
    }
