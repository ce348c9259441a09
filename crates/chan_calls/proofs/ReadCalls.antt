-- One read of a row whose look found a page: its ladder begins with the look, and the look is left
-- when it has its answer, or when a sense failed.
use Rattle.std.proofs.Common.{◌≡◌, ℕ, List, ◌∷◌, length, refl, sym, ap, subst, ◌∙◌, inl, inr}
use Rattle.chan_tables.specs.declared.answers.LookAnswer.TheVariants.{Found}
use Rattle.retry_ladder.specs.View.{IsAnswerOf, LadderView, state_in}
use Rattle.retry_ladder.specs.declared.ask.Answer.{Answer}
use Rattle.ssd_geo.specs.Coding.{coding_of}
use Rattle.ssd_histories.specs.PastPages.{ladder_of}
use Rattle.ssd_histories.specs.Replies.{reply_of_ladder}
use Rattle.ssd_histories.specs.SerialCalls.{entry_of}
use Rattle.ssd_histories.specs.Start.{Start}
use Rattle.ssd_geo.specs.declared.entry.Entry.{Entry}
use Rattle.ssd_geo.specs.declared.kind.Kind.{Kind}
use Rattle.ssd_geo.specs.declared.look.Look.{Look}
use Rattle.ssd_geo.specs.declared.reply.Reply.{Reply}
use Rattle.ssd_geo.specs.declared.shape.Shape.{Shape}
use Rattle.ssd_geo.specs.declared.tag.Tag.{Tag}
use Rattle.chan_calls.specs.Caller.{AddsKinds, CallerView, Comes, HasLookRoom, IsOf, LookStays, SameCaller}
use Rattle.chan_calls.specs.Calls.{GoesOnFor, HasLooked, HasReadFailed, HasReadPage, HasSenses, ReadsRow, reply_of, sense_kinds}
use Rattle.chan_calls.specs.Climbing.{FailsToClimb}
use Rattle.chan_calls.specs.Copied.{IsFresh}
use Rattle.chan_calls.specs.Ready.{IsReady, IsReplyOf, data_found, worker_state}
use Rattle.chan_calls.specs.Sensing.{Leaves}
use Rattle.chan_calls.specs.Stepping.{GoesOn, MakesLook, Standing}
use Rattle.chan_calls.specs.Workers.{MayCall, WorkerState, WorksFor}
use Rattle.chan_calls.specs.declared.read_reply.ReadReply.{ReadReply}
use Rattle.chan_calls.specs.declared.worker.Worker.TheInside.{Inside}
use Rattle.chan_calls.proofs.AcceptedPages.{reply_given}
use Rattle.chan_calls.proofs.AddedKinds.{adds_by, comes_by}
use Rattle.chan_calls.proofs.AnsweredLooks.{HasAnswered, answered_senses, answered_sensed, answered_state, by_start, has_head, leave_goes_on}
use Rattle.chan_calls.proofs.BegunLadders.{HasBegun, begun_with, may_call_on, page_goes_by}
use Rattle.chan_calls.proofs.FailedLooks.{failed_goes_on, failed_senses, has_failed}
use Rattle.chan_calls.proofs.NewLooks.{new_is_fresh}
use Rattle.chan_calls.proofs.SensedLooks.{ladder_stays}

-- What is known when the look of a worker's read found a page and the ladder began with it: the
-- worker's view is of what it keeps, the call may be made, and the look made its entry.
pub record HasFoundPage (i : Inside) (worker : WorkerState) (old mid : CallerView)
    (stood looked : Standing) (tag : Tag) (row : ℕ) (look : Look)
    (first : LadderView) : Type 0 where
  pub view_is : worker_state i ≡ worker
  pub ready : IsReady i
  pub begun : first ≡ begun_with i look
  pub may : MayCall worker old stood
  pub same : SameCaller old mid
  pub goes_on : GoesOn old mid stood looked
  pub made : (now : List Entry) × Comes old tag now × HasLookRoom old.limit now × MakesLook
      old.shape tag row now (Found look) mid.seen

module _ (i : Inside) (worker : WorkerState) (old mid : CallerView) (stood looked : Standing)
    (tag : Tag) (row : ℕ) (look : Look) (first : LadderView)
    (page : HasFoundPage i worker old mid stood looked tag row look first) where
  mid_may : MayCall worker mid looked
  mid_may = may_call_on worker old mid stood looked page.may page.same page.goes_on

  fresh : IsFresh mid tag look
  fresh =
      new_is_fresh mid_may.start mid_may.contents mid tag row look page.made.0 mid_may.is_of
      (subst (λ (shape : Shape). MakesLook shape tag row page.made.0 (Found look) mid.seen)
      (sym page.same.shape_stays) page.made.3)

  -- the ladder began with a fresh look
  pub read_begun : HasBegun i worker mid looked tag look first
  read_begun = record {
    view_is = page.view_is;
    ready = page.ready;
    begun = page.begun;
    may = mid_may;
    fresh = fresh;
  }

  -- the look and its senses
  abbrev has_looked : HasSenses mid tag look.at mid.seen → HasLooked old tag row
  has_looked made = record {
    at_look = page.made.0;
    comes = page.made.1;
    slot = look.slot;
    serial = look.serial;
    closed = look.closed;
    senses = record {
      senses = made.senses;
      after = made.after;
      are_senses =
          subst (λ (seen : List Entry). AddsKinds old tag
          (sense_kinds (length page.made.0) made.senses) seen made.after) page.made.3.3
          (subst (λ (at : ℕ). AddsKinds old tag (sense_kinds at made.senses) mid.seen
          made.after) page.made.3.0
          (adds_by mid old tag (sense_kinds look.at made.senses) mid.seen made.after
          (sym page.same.number_stays) made.are_senses));
    };
  }

  -- the ladder has its answer, and the look is left
  module _ (after new : CallerView) (climbed left : Standing) (ladder : LadderView)
      (ended : HasAnswered first ladder i.decoder.decoder.code i.decoder.decoder.limit mid after
      looked climbed tag look) (leaves : Leaves after new climbed left tag look.at) where
    module _ (start : Start) (contents : List (Tag × List ℕ)) (works : WorksFor worker start)
        (is_of : IsOf old start contents) (stands : stood start contents) where
      went : IsOf mid start contents × looked start contents
      went = page.goes_on start contents is_of stands

      at_answer : ladder_of (coding_of start.base) start contents after.seen look.at
          ≡ state_in ladder
      at_answer =
          answered_state i worker mid after looked climbed tag look first ladder read_begun ended
          start contents works went.0 went.1

      at_end : LookStays start contents after.seen leaves.now look.at × IsOf new start contents
          × left start contents
      at_end =
          let sensed = answered_sensed i worker mid after looked climbed tag look first ladder
          read_begun ended start contents works went.0 went.1 in
          leave_goes_on after new climbed left tag look.at start contents (state_in ladder)
          sensed.is_of sensed.stands_still at_answer ended.answered leaves

      at_leave : ladder_of (coding_of start.base) start contents leaves.now look.at
          ≡ state_in ladder
      at_leave = ladder_stays start contents after.seen leaves.now look.at at_end.0 ∙ at_answer

      read_page : (answer : Answer) (reply : ReadReply) → IsAnswerOf (state_in ladder) answer →
          IsReplyOf answer reply →
          HasReadPage start contents old tag row new.seen (reply_of reply (data_found ladder))
      read_page answer reply is_answer is_reply = record {
        look = has_looked (answered_senses i worker mid after looked climbed tag look first ladder
            read_begun ended);
        leaves = record {
          at_leave = leaves.now;
          comes =
              comes_by after (record old { seen = after.seen }) tag leaves.now refl
              (sym (ended.same.number_stays ∙ page.same.number_stays)) leaves.comes;
          new_is = leaves.seen_is ∙ ap (λ (at : ℕ). entry_of tag (Kind.Leave at) ∷ leaves.now)
              page.made.3.0;
        };
        reply_is =
            ap (λ (at : ℕ). reply_of_ladder start.base.shape.bytes
            (ladder_of (coding_of start.base) start contents leaves.now at))
            (sym page.made.3.0)
            ∙ ap (reply_of_ladder start.base.shape.bytes) at_leave
            ∙ ap (λ (shape : Shape). reply_of_ladder shape.bytes (state_in ladder))
            (sym (by_start i worker mid after looked climbed tag look first ladder read_begun ended
            start contents works went.0 went.1).shape_is)
            ∙ reply_given ladder.shape ladder.look.serial ladder.look.row
            (state_in ladder) answer reply ended.answered is_answer is_reply
            (has_head i worker mid after looked climbed tag look first ladder read_begun ended);
      }

    pub page_goes_on : GoesOnFor worker old new stood left
    page_goes_on = λ start contents works is_of stands.
        let end : LookStays start contents after.seen leaves.now look.at × IsOf new start contents ×
        left start contents =
        at_end start contents works is_of stands in
        (end.1, end.2)

    pub reads_page : (answer : Answer) (reply : ReadReply) → IsAnswerOf (state_in ladder) answer →
        IsReplyOf answer reply →
        ReadsRow worker old stood tag row new.seen (reply_of reply (data_found ladder))
    reads_page answer reply is_answer is_reply = λ start contents works is_of stands.
        inr (inl (read_page start contents works is_of stands answer reply is_answer is_reply))

  -- a sense failed, and the look is left
  module _ (after new : CallerView) (climbed left : Standing) (die : ℕ)
      (fails : FailsToClimb i.decoder.decoder.code i.decoder.decoder.limit first mid after looked
      climbed tag look die) (same : SameCaller mid after)
      (leaves : Leaves after new climbed left tag look.at) where
    pub fault_goes_on : GoesOnFor worker old new stood left
    fault_goes_on = λ start contents works is_of stands.
        let went : IsOf mid start contents × looked start contents =
        page.goes_on start contents is_of stands in
        failed_goes_on i.decoder.decoder.code i.decoder.decoder.limit first mid after looked
        climbed tag look die fails new left same leaves start contents
        (page_goes_by i worker mid looked tag look first read_begun start works) went.0 went.1

    read_failed : HasReadFailed old tag row new.seen (Reply.DieFault die)
    read_failed = record {
      look = has_looked (failed_senses i.decoder.decoder.code i.decoder.decoder.limit first mid
          after looked climbed tag look die fails);
      die = die;
      fails =
          has_failed i.decoder.decoder.code i.decoder.decoder.limit first mid after looked climbed
          tag look die fails new left same leaves old (length page.made.0) page.made.3.0
          (sym page.same.number_stays);
      reply_is = refl;
    }

    pub read_fails : ReadsRow worker old stood tag row new.seen (Reply.DieFault die)
    read_fails = λ start contents works is_of stands. inr (inr read_failed)
