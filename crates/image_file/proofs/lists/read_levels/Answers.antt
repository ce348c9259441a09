use Rattle.std.proofs.Common.{◌≡◌, [], ◌∷◌, ◌++◌, ◌∙◌, rules, ◌+◌, ◌*◌, ◌-◌, arith}
use Rattle.image_file.specs.Gives.{rest_at}
use Rattle.image_file.proofs.LevelSteps.{level_more, level_stops, cause_earlier}
use Rattle.image_file.proofs.ListRanges.{levels_longer}
use Rattle.ssd_geo.specs.Limits.{is_level}
use Rattle.std.specs.Prelude.{IsTrue}
use Rattle.image_file.proofs.lists.read_levels.Goals as goal

pub returns-in-Err-clause-read : goal.returns-in-Err-clause-read
returns-in-Err-clause-read g c = record {
  given = λ told. level_stops c.in-Err.stop (c.args.count - c.loop-i.i) (c.args.count - (c.loop-i.i + 1)) c.loop-i.levels.items (rest_at (c.args.place + 2 * c.loop-i.i) (g.S.Source.left c.loop-i.input)) _ (omega arith) (c.in-Err.ensures.read.given (c.loop-i.invariant.told told)) (c.loop-i.invariant.read told);
  never_fell = omega (arith, c.loop-i.invariant.stays, c.in-Err.ensures.read.never_fell);
  cause = cause_earlier c.in-Err.stop _ _ _ c.loop-i.invariant.stays c.in-Err.ensures.read.cause;
}

pub loop-i-preserved : goal.loop-i-preserved
loop-i-preserved g c =
    let pushed : c.push.new.self.items ≡ c.loop-i.levels.items ++ c.in-Ok.level ∷ [] = search rules in
    let one : IsTrue (is_level c.in-Ok.level) = search rules in
    record {
      told = λ told. (c.in-Ok.ensures.read.given (c.loop-i.invariant.told told)).0;
      read = λ told.
          let read = (c.in-Ok.ensures.read.given (c.loop-i.invariant.told told)).1 in
          let place : c.args.place + 2 * (c.loop-i.i + 1) ≡ c.args.place + 2 * c.loop-i.i + 2 = omega arith in
          let left = c.args.count - c.loop-i.i in
          let rest = rest_at (c.args.place + 2 * c.loop-i.i) (g.S.Source.left c.loop-i.input) in
          let next = rest_at (c.args.place + 2 * c.loop-i.i + 2) (g.S.Source.left c.i16_within.new.input) in
          rw (pushed, place) (level_more left (c.args.count - (c.loop-i.i + 1)) c.loop-i.levels.items rest next c.in-Ok.level (omega arith) read ∙ c.loop-i.invariant.read told);
      good = rw pushed (levels_longer c.loop-i.levels.items c.loop-i.i c.in-Ok.level c.loop-i.invariant.good one);
      stays = c.in-Ok.ensures.read.cause ∙ c.loop-i.invariant.stays;
    }
