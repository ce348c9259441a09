use Rattle.std.proofs.Common.{[], ◌∷◌, ◌++◌, Ok, sym, ◌≡◌, ap, ◌∙◌, rules, ◌+◌, ◌*◌, ◌-◌, arith}
use Rattle.ssd_geo.specs.Shape.{sizes_of}
use Rattle.ssd_formats.specs.ImageHead.{is_weak_record, weak_record, weak_records}
use Rattle.image_file.specs.Gives.{rest_at}
use Rattle.image_file.proofs.LevelSteps.{weak_more, weak_stops, cause_earlier}
use Rattle.image_file.proofs.ListRanges.{weak_longer}
use Rattle.std.specs.Prelude.{IsTrue}
use Rattle.image_file.proofs.lists.read_weaks.Goals as goal

pub returns-in-Err-clause-read : goal.returns-in-Err-clause-read
returns-in-Err-clause-read g c =
    let same : c.deref.result.now ≡ c.loop-i.weak.items = search rules in
    record {
      given = λ told. weak_stops (sizes_of c.args.shape.now) c.in-Err.stop (c.args.count - c.loop-i.i) (c.args.count - (c.loop-i.i + 1)) c.deref.result.now (rest_at (c.args.place + 8 * c.loop-i.i) (g.S.Source.left c.loop-i.input)) _ (omega arith) (c.in-Err.ensures.read.given (c.loop-i.invariant.told told)) (ap (λ before. weak_records (sizes_of c.args.shape.now) (c.args.count - c.loop-i.i) before (rest_at (c.args.place + 8 * c.loop-i.i) (g.S.Source.left c.loop-i.input))) same ∙ c.loop-i.invariant.read told);
      never_fell = omega (arith, c.loop-i.invariant.stays, c.in-Err.ensures.read.never_fell);
      cause = cause_earlier c.in-Err.stop _ _ _ c.loop-i.invariant.stays c.in-Err.ensures.read.cause;
    }

pub loop-i-preserved : goal.loop-i-preserved
loop-i-preserved g c =
    let sizes = sizes_of c.args.shape.now in
    let same : c.deref.result.now ≡ c.loop-i.weak.items = search rules in
    let pushed : c.push.new.self.items ≡ c.loop-i.weak.items ++ c.in-Ok.next ∷ [] = search rules in
    let one : IsTrue (is_weak_record sizes c.loop-i.weak.items c.in-Ok.next) = search rules in
    record {
      told = λ told. (c.in-Ok.ensures.read.given (c.loop-i.invariant.told told)).0;
      read = λ told.
          let place : c.args.place + 8 * (c.loop-i.i + 1) ≡ c.args.place + 8 * c.loop-i.i + 8 = omega arith in
          let left = c.args.count - c.loop-i.i in
          let rest = rest_at (c.args.place + 8 * c.loop-i.i) (g.S.Source.left c.loop-i.input) in
          let next = rest_at (c.args.place + 8 * c.loop-i.i + 8) (g.S.Source.left c.read_weak.new.input) in
          let read : weak_record sizes c.loop-i.weak.items rest ≡ Ok (c.in-Ok.next, next) =
          ap (λ before. weak_record sizes before rest) (sym same) ∙ (c.in-Ok.ensures.read.given (c.loop-i.invariant.told told)).1 in
          rw (pushed, place) (weak_more sizes left (c.args.count - (c.loop-i.i + 1)) c.loop-i.weak.items rest next c.in-Ok.next (omega arith) read ∙ c.loop-i.invariant.read told);
      good = rw pushed (weak_longer sizes c.loop-i.weak.items c.loop-i.i c.in-Ok.next c.loop-i.invariant.good one c.in-Ok.ensures.from);
      stays = c.in-Ok.ensures.read.cause ∙ c.loop-i.invariant.stays;
    }
