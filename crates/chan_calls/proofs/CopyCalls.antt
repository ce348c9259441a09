-- One copy of a look's page: its ladder begins with the look, and the look is left after what became
-- of the page, or when a sense failed.
use Rattle.std.proofs.Common.{◌≡◌, ℕ, Bool, true, false, List, Option, Some, None, refl, sym, subst, ◌∙◌, inl, inr}
use Rattle.std.specs.Prelude.{IfSome, IsTrue}
use Rattle.retry_ladder.specs.View.{LadderView, state_in}
use Rattle.ssd_geo.specs.Coding.{coding_of}
use Rattle.ssd_geo.specs.Ladder.{LadderState, has_answer}
use Rattle.ssd_histories.specs.PastPages.{ladder_of}
use Rattle.ssd_histories.specs.Start.{Start}
use Rattle.ssd_geo.specs.declared.entry.Entry.{Entry}
use Rattle.ssd_geo.specs.declared.look.Look.{Look}
use Rattle.ssd_geo.specs.declared.tag.Tag.{Tag}
use Rattle.chan_calls.specs.Caller.{CallerView, IsOf, LookStays, MayLeave, SameCaller}
use Rattle.chan_calls.specs.Calls.{GoesOnFor}
use Rattle.chan_calls.specs.Climbing.{FailsToClimb}
use Rattle.chan_calls.specs.Copied.{CopiesPage, EndsCopy, HasCopied, HasCopyFailed, IsEnded, IsLost, IsMoved}
use Rattle.chan_calls.specs.Sensing.{Leaves}
use Rattle.chan_calls.specs.Stepping.{Standing}
use Rattle.chan_calls.specs.Workers.{WorkerState, WorksFor}
use Rattle.chan_calls.specs.declared.copy_reply.CopyReply.{CopyReply}
use Rattle.chan_calls.specs.declared.worker.Worker.TheInside.{Inside}
use Rattle.chan_calls.proofs.AddedKinds.{comes_by}
use Rattle.chan_calls.proofs.AnsweredLooks.{HasAnswered, answered_may_leave, answered_senses, answered_sensed, answered_state, is_left, leave_goes_on}
use Rattle.chan_calls.proofs.BegunLadders.{HasBegun, page_goes_by}
use Rattle.chan_calls.proofs.FailedLooks.{failed_goes_on, failed_senses, has_failed}

-- what became of a page, told for another caller that is as much alone
module _ (start : Start) (contents : List (Tag × List ℕ)) (a b : CallerView) (tag : Tag) (at : ℕ)
    (before ended : List Entry) (reply : CopyReply) (number_is : b.number ≡ a.number) where
  moved_by : IsMoved start contents a tag at before ended reply →
      IsMoved start contents b tag at before ended reply
  moved_by moved = record {
    at_move = moved.at_move;
    comes = comes_by (record a { seen = before }) (record b { seen = before }) tag moved.at_move refl
        number_is moved.comes;
    is_recovered = moved.is_recovered;
    answer = moved.answer;
    made = moved.made;
    reply_is = moved.reply_is;
  }

  lost_by : (condemns : Bool) → IsLost start contents a tag at condemns before ended reply →
      IsLost start contents b tag at condemns before ended reply
  lost_by true lost = record {
    at_condemn = lost.at_condemn;
    comes = comes_by (record a { seen = before }) (record b { seen = before }) tag lost.at_condemn
        refl number_is lost.comes;
    is_uncorrectable = lost.is_uncorrectable;
    answer = lost.answer;
    made = lost.made;
    reply_is = lost.reply_is;
  }
  lost_by false lost = lost

  ended_by : (condemns : Bool) → IsEnded start contents a tag at condemns before ended reply →
      IsEnded start contents b tag at condemns before ended reply
  ended_by condemns (inl moved) = inl (moved_by moved)
  ended_by condemns (inr lost) = inr (lost_by condemns lost)

module _ (i : Inside) (worker : WorkerState) (caller : CallerView) (stands : Standing) (tag : Tag)
    (look : Look) (first : LadderView)
    (page : HasBegun i worker caller stands tag look first) where
  -- the ladder has its answer, and the page was dealt with
  module _ (after mid : CallerView) (climbed moved : Standing) (ladder : LadderView)
      (condemns : Bool) (reply : CopyReply)
      (ended : HasAnswered first ladder i.decoder.decoder.code i.decoder.decoder.limit caller after
      stands climbed tag look) (same : SameCaller after mid)
      (ends : EndsCopy after mid climbed moved tag look.at condemns (state_in ladder) reply) where
    module _ (start : Start) (contents : List (Tag × List ℕ)) (works : WorksFor worker start)
        (is_of : IsOf caller start contents) (stood : stands start contents) where
      at_answer : ladder_of (coding_of start.base) start contents after.seen look.at
          ≡ state_in ladder
      at_answer =
          answered_state i worker caller after stands climbed tag look first ladder page ended start
          contents works is_of stood

      at_end : IsEnded start contents after tag look.at condemns after.seen mid.seen reply
          × (ladder_of (coding_of start.base) start contents mid.seen look.at ≡ state_in ladder)
          × IsOf mid start contents × moved start contents
      at_end =
          let sensed = answered_sensed i worker caller after stands climbed tag look first ladder
          page ended start contents works is_of stood in
          ends start contents sensed.is_of sensed.stands_still at_answer

    -- the look may be left
    pub copy_may_leave : MayLeave mid look.at
    copy_may_leave =
        answered_may_leave mid look.at
        (subst (λ (b : Option (Start × List (Tag × List ℕ))). IfSome b
        (λ bound. IsTrue (has_answer (ladder_of (coding_of bound.0.base) bound.0 bound.1 mid.seen
        look.at)))) (sym (same.bound_stays ∙ ended.same.bound_stays))
        (by_bound caller.bound page.may.bound))
      where
        by_bound : (b : Option (Start × List (Tag × List ℕ))) →
            IfSome b (λ bound. bound ≡ (page.may.start, page.may.contents)) →
            IfSome b (λ bound. IsTrue (has_answer (ladder_of (coding_of bound.0.base) bound.0
            bound.1 mid.seen look.at)))
        by_bound None h = h
        by_bound (Some bound) h =
            subst (λ (b : Start × List (Tag × List ℕ)). IsTrue (has_answer (ladder_of
            (coding_of b.0.base) b.0 b.1 mid.seen look.at))) (sym h)
            (subst (λ (s : LadderState). IsTrue (has_answer s))
            (sym (at_end page.may.start page.may.contents page.may.works page.may.is_of
            page.may.stands_for).1) ended.answered)

    -- and is left
    module _ (new : CallerView) (left : Standing) (leaves : Leaves mid new moved left tag look.at)
      where
        pub copy_goes_on : GoesOnFor worker caller new stands left
        copy_goes_on = λ start contents works is_of stood.
            let end = at_end start contents works is_of stood in
            let gone : LookStays start contents mid.seen leaves.now look.at × IsOf new start contents
            × left start contents =
            leave_goes_on mid new moved left tag look.at start contents (state_in ladder) end.2 end.3
            end.1 ended.answered leaves in
            (gone.1, gone.2)

        has_copied : (start : Start) (contents : List (Tag × List ℕ)) → WorksFor worker start →
            IsOf caller start contents → stands start contents →
            HasCopied start contents caller tag look.at condemns new.seen reply
        has_copied start contents works is_of stood = record {
          senses = answered_senses i worker caller after stands climbed tag look first ladder page
              ended;
          ended = mid.seen;
          ends = ended_by start contents after caller tag look.at after.seen mid.seen reply
              (sym ended.same.number_stays) condemns (at_end start contents works is_of stood).0;
          leaves = is_left mid new caller moved left tag look.at
              (same.number_stays ∙ ended.same.number_stays) leaves;
        }

        pub copies_page : CopiesPage worker caller stands tag look.at condemns new.seen reply
        copies_page = λ start contents works is_of stood.
            inl (has_copied start contents works is_of stood)

  -- a sense failed, and the look is left
  module _ (after new : CallerView) (climbed left : Standing) (die : ℕ) (condemns : Bool)
      (fails : FailsToClimb i.decoder.decoder.code i.decoder.decoder.limit first caller after stands
      climbed tag look die) (same : SameCaller caller after)
      (leaves : Leaves after new climbed left tag look.at) where
    pub failed_copy_goes_on : GoesOnFor worker caller new stands left
    failed_copy_goes_on = λ start contents works is_of stood.
        failed_goes_on i.decoder.decoder.code i.decoder.decoder.limit first caller after stands
        climbed tag look die fails new left same leaves start contents
        (page_goes_by i worker caller stands tag look first page start works) is_of stood

    has_copy_failed : HasCopyFailed caller tag look.at new.seen (CopyReply.DieFault die)
    has_copy_failed = record {
      senses = failed_senses i.decoder.decoder.code i.decoder.decoder.limit first caller after
          stands climbed tag look die fails;
      die = die;
      fails = has_failed i.decoder.decoder.code i.decoder.decoder.limit first caller after stands
          climbed tag look die fails new left same leaves caller look.at refl refl;
      reply_is = refl;
    }

    pub copy_fails : CopiesPage worker caller stands tag look.at condemns new.seen
        (CopyReply.DieFault die)
    copy_fails = λ start contents works is_of stood. inr has_copy_failed
