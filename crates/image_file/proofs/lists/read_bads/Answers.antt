use Rattle.std.proofs.Common.{◌≡◌, [], ◌∷◌, ◌++◌, ap, ◌∙◌, rules, ◌+◌, ◌*◌, ◌-◌, arith}
use Rattle.ssd_geo.specs.Shape.{sizes_of}
use Rattle.ssd_formats.specs.ImageHead.{bad_records, is_bad_record}
use Rattle.image_file.specs.Gives.{rest_at}
use Rattle.image_file.proofs.LevelSteps.{bad_more, bad_stops, cause_earlier}
use Rattle.image_file.proofs.ListRanges.{bad_longer}
use Rattle.std.specs.Prelude.{IsTrue}
use Rattle.image_file.proofs.lists.read_bads.Goals as goal

pub returns-in-Err-clause-read : goal.returns-in-Err-clause-read
returns-in-Err-clause-read g c =
    let same : c.deref.result.now ≡ c.loop-i.bad.items = search rules in
    record {
      given = λ told. bad_stops (sizes_of c.args.shape.now) c.in-Err.stop (c.args.count - c.loop-i.i) (c.args.count - (c.loop-i.i + 1)) c.deref.result.now (rest_at (c.args.place + 4 * c.loop-i.i) (g.S.Source.left c.loop-i.input)) _ (omega arith) (c.in-Err.ensures.read.given (c.loop-i.invariant.told told)) (ap (λ before. bad_records (sizes_of c.args.shape.now) (c.args.count - c.loop-i.i) before (rest_at (c.args.place + 4 * c.loop-i.i) (g.S.Source.left c.loop-i.input))) same ∙ c.loop-i.invariant.read told);
      never_fell = omega (arith, c.loop-i.invariant.stays, c.in-Err.ensures.read.never_fell);
      cause = cause_earlier c.in-Err.stop _ _ _ c.loop-i.invariant.stays c.in-Err.ensures.read.cause;
    }

pub loop-i-preserved : goal.loop-i-preserved
loop-i-preserved g c = record {
  told = λ told. (c.in-Ok.ensures.read.given (c.loop-i.invariant.told told)).0;
  read = λ told.
      let one = (c.in-Ok.ensures.read.given (c.loop-i.invariant.told told)).1 in
      let same : c.deref.result.now ≡ c.loop-i.bad.items = search rules in
      let pushed : c.push.new.self.items ≡ c.deref.result.now ++ c.in-Ok.next ∷ [] = search rules in
      let place : c.args.place + 4 * (c.loop-i.i + 1) ≡ c.args.place + 4 * c.loop-i.i + 4 = omega arith in
      let left = c.args.count - c.loop-i.i in
      let rest = rest_at (c.args.place + 4 * c.loop-i.i) (g.S.Source.left c.loop-i.input) in
      let more = bad_more (sizes_of c.args.shape.now) left (c.args.count - (c.loop-i.i + 1)) c.deref.result.now rest (rest_at (c.args.place + 4 * c.loop-i.i + 4) (g.S.Source.left c.read_bad.new.input)) c.in-Ok.next (omega arith) one in
      rw (pushed, place) (more ∙ ap (λ before. bad_records (sizes_of c.args.shape.now) left before rest) same ∙ c.loop-i.invariant.read told);
  few = search rules;
  good =
      let same : c.deref.result.now ≡ c.loop-i.bad.items = search rules in
      let pushed : c.push.new.self.items ≡ c.loop-i.bad.items ++ c.in-Ok.next ∷ [] = search rules in
      let one : IsTrue (is_bad_record (sizes_of c.args.shape.now) c.loop-i.bad.items c.in-Ok.next) = search rules in
      rw pushed (bad_longer (sizes_of c.args.shape.now) c.loop-i.bad.items c.loop-i.i c.in-Ok.next c.loop-i.invariant.good one);
  stays = c.in-Ok.ensures.read.cause ∙ c.loop-i.invariant.stays;
}
