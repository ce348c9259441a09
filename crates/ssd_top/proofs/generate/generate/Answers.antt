use Rattle.std.proofs.Common.{refl}
use Rattle.ssd_top.proofs.generate.generate.Goals as goal

pub returns-in-Ok : goal.returns-in-Ok
returns-in-Ok g c = record {
  written = c.in-Ok.ensures.all;
  write_fault = λ same. absurd (cc);
  writes_stay = λ other. c.in-Ok.ensures.cause.stays;
  writes = c.in-Ok.ensures.cause.never_fell;
}

pub returns-in-Err : goal.returns-in-Err
returns-in-Err g c = record {
  written = c.in-Err.ensures.front;
  write_fault = λ same. c.in-Err.ensures.cause.failed;
  writes_stay = λ other. absurd (other refl);
  writes = c.in-Err.ensures.cause.never_fell;
}
