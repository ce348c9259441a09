use Rattle.std.proofs.Common.{subst, refl}
use Rattle.std.specs.Io.KnownBytes.{Appends}
use Rattle.ssd_formats.specs.ImageHead.{Head, head_bytes}
use Rattle.ssd_io.specs.Pieces.{AppendsFront}
use Rattle.ssd_top.proofs.format.write_again.Goals as goal

pub returns-in-Ok : goal.returns-in-Ok
returns-in-Ok g c = record {
  written =
      subst (λ (head : Head). Appends (g.O.Sink.written c.args.output.now) (g.O.Sink.written c.write_head.new.output) (head_bytes head))
      c.with_next_session.ensures.head c.in-Ok.ensures.all;
  write_fault = λ same. absurd (cc);
  writes_stay = λ other. c.in-Ok.ensures.cause.stays;
  writes = c.in-Ok.ensures.cause.never_fell;
}

pub returns : goal.returns
returns g c = record {
  written =
      subst
      (λ (head : Head). AppendsFront (g.O.Sink.written c.args.output.now) (g.O.Sink.written c.write_head.new.output) (head_bytes head))
      c.with_next_session.ensures.head c.in-Err.ensures.front;
  write_fault = λ same. c.in-Err.ensures.cause.failed;
  writes_stay = λ other. absurd (other refl);
  writes = c.in-Err.ensures.cause.never_fell;
}
