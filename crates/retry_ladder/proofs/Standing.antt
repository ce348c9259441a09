-- A ladder stands for a look and the senses that it was fed.
use Rattle.std.proofs.Common.{◌∙◌, ap, sym}
use Rattle.ssd_geo.specs.declared.look.Look.{Look}
use Rattle.retry_ladder.specs.Running.{LadderRun, come_to, run_fed}
use Rattle.retry_ladder.specs.View.{FedLaddersStand, LaddersTellTheirState, coding_with, place_in}
use Rattle.retry_ladder.proofs.LadderSteps.{runs_are_ladders, runs_go_on}

pub fed_ladders_stand : FedLaddersStand
fed_ladders_stand ladder matrix limit look senses sense h = record {
  look_is = h.look_is;
  run_is =
      ap (λ (l : Look). run_fed (coding_with ladder matrix limit) ladder.shape.dies l ladder.run
      sense) h.look_is
      ∙ ap (λ (run : LadderRun). run_fed (coding_with ladder matrix limit) ladder.shape.dies look
      run sense) h.run_is
      ∙ sym (runs_go_on (coding_with ladder matrix limit) ladder.shape.dies look senses sense);
}

pub ladders_tell_their_state : LaddersTellTheirState
ladders_tell_their_state ladder matrix limit look senses h =
    ap (λ (l : Look). come_to ladder.step (place_in ladder.shape l) ladder.run) h.look_is
    ∙ ap (λ (run : LadderRun). come_to ladder.step (place_in ladder.shape look) run) h.run_is
    ∙ runs_are_ladders (coding_with ladder matrix limit) ladder.shape.dies look senses
