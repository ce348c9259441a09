-- When a die failed in a sense of a look, the look is left at once, and the channel goes on standing.
use Rattle.std.proofs.Common.{◌≡◌, ℕ, ◌==◌, true, List, ◌∷◌, refl, sym, ap, subst, ◌∙◌, arith}
use Rattle.std.specs.Prelude.{IsTrue}
use Rattle.std.proofs.lemmas.Bool.Decides.{nat_tests}
use Rattle.retry_ladder.specs.View.{LadderView}
use Rattle.ssd_geo.specs.BaseMatrix.{BaseMatrix}
use Rattle.ssd_geo.specs.Coding.{coding_of}
use Rattle.ssd_geo.specs.Ladder.{has_answer}
use Rattle.ssd_histories.specs.Lawful.{has_fault_sense}
use Rattle.ssd_histories.specs.PastPages.{ladder_of}
use Rattle.ssd_histories.specs.SerialCalls.{entry_of}
use Rattle.ssd_histories.specs.Start.{Start}
use Rattle.ssd_geo.specs.declared.entry.Entry.{Entry}
use Rattle.ssd_geo.specs.declared.kind.Kind.{Kind}
use Rattle.ssd_geo.specs.declared.look.Look.{Look}
use Rattle.ssd_geo.specs.declared.tag.Tag.{Tag}
use Rattle.chan_calls.specs.Caller.{CallerView, IsOf, MayLeave, SameCaller}
use Rattle.chan_calls.specs.Calls.{HasFailed, HasSenses}
use Rattle.chan_calls.specs.Climbing.{FailsToClimb, GoesBy}
use Rattle.chan_calls.specs.Sensing.{Leaves}
use Rattle.chan_calls.specs.Stepping.{Standing}
use Rattle.chan_calls.proofs.AddedKinds.{comes_by}
use Rattle.chan_calls.proofs.AnsweredLooks.{failed_may_leave, or_left, or_right}
use Rattle.shared_lemmas.proofs.Tests.{same_number as same}

module _ (matrix : BaseMatrix) (limit : ℕ) (first : LadderView) (caller after : CallerView)
    (stands climbed : Standing) (tag : Tag) (look : Look) (die : ℕ)
    (fails : FailsToClimb matrix limit first caller after stands climbed tag look die) where
  has_fault : IsTrue (has_fault_sense after.seen look.at)
  has_fault =
      subst (λ (past : List Entry). IsTrue (has_fault_sense past look.at)) (sym fails.seen_is)
      (or_left (look.at == look.at) (has_fault_sense fails.now look.at) (same look.at))

  -- it may be left
  pub fault_may_leave : MayLeave after look.at
  fault_may_leave = failed_may_leave after look.at has_fault

  -- the senses before it
  abbrev pub failed_senses : HasSenses caller tag look.at caller.seen
  failed_senses = record {
    senses = fails.asked;
    after = fails.after;
    are_senses = fails.are_senses;
  }

  module _ (new : CallerView) (left : Standing) (same : SameCaller caller after)
      (leaves : Leaves after new climbed left tag look.at) where
    -- it was left, told for another caller that is as much alone
    pub has_failed : (other : CallerView) (at : ℕ) → look.at ≡ at → other.number ≡ caller.number →
        HasFailed other tag at fails.after new.seen die
    has_failed other at at_is number_is = record {
      place = fails.place;
      level = fails.level;
      at_sense = fails.now;
      comes =
          comes_by (record caller { seen = fails.after }) (record other { seen = fails.after }) tag
          fails.now refl number_is fails.comes;
      die_is = fails.die_is;
      leaves = record {
        at_leave = leaves.now;
        comes =
            comes_by after
            (record other {
              seen = entry_of tag (Kind.FaultSense at fails.place fails.level)
                  ∷ fails.now;
            }) tag leaves.now
            (sym (fails.seen_is ∙ ap (λ (n : ℕ). entry_of tag
            (Kind.FaultSense n fails.place fails.level) ∷ fails.now) at_is))
            (number_is ∙ sym same.number_stays) leaves.comes;
        new_is = leaves.seen_is ∙ ap (λ (n : ℕ). entry_of tag (Kind.Leave n) ∷ leaves.now) at_is;
      };
    }

    -- what the channel stood for it stands for
    pub failed_goes_on : (start : Start) (contents : List (Tag × List ℕ)) →
        GoesBy first matrix limit start → IsOf caller start contents → stands start contents →
        IsOf new start contents × left start contents
    failed_goes_on start contents by is_of stands_for =
        let went : IsOf after start contents × climbed start contents =
        fails.goes_on start contents by is_of stands_for in
        let end = leaves.goes_on start contents went.0 went.1
        (or_right (has_answer (ladder_of (coding_of start.base) start contents after.seen look.at))
        (has_fault_sense after.seen look.at) has_fault) in
        (end.1, end.2)
