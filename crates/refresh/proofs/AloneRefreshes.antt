-- The refreshes of a caller that is alone are those of calls that are served one after the other: its look finds what the
-- caller had seen, and the steps of the copy stand together with it.
use Rattle.std.proofs.Common.{◌≡◌, ℕ, false, List, [], ◌∷◌, None, refl, sym, ap, subst, ◌∙◌, inl}
use Rattle.chan_calls.specs.Caller.{CallerView}
use Rattle.chan_calls.specs.Copied.{CopiesAloneAreRefreshes, IsRefreshBy, refresh_of_copy}
use Rattle.chan_calls.specs.Stepping.{MakesLook}
use Rattle.chan_calls.proofs.SensedSteps.{is_seen, step_with}
use Rattle.chan_tables.specs.declared.answers.LookAnswer.{LookAnswer}
use Rattle.chan_tables.specs.declared.answers.LookAnswer.TheVariants.{Empty, Found, Lost}
use Rattle.ssd_geo.specs.Coding.{coding_of}
use Rattle.ssd_geo.specs.Ladder.{LadderState}
use Rattle.ssd_geo.specs.declared.entry.Entry.{Entry}
use Rattle.ssd_geo.specs.declared.kind.Kind.{Kind}
use Rattle.ssd_geo.specs.declared.reply.RefreshReply.{RefreshReply}
use Rattle.ssd_geo.specs.declared.row.Row.{Row}
use Rattle.ssd_geo.specs.declared.shape.Shape.{Shape}
use Rattle.ssd_geo.specs.declared.tag.Tag.{Tag}
use Rattle.ssd_histories.specs.Copies.{IsRefresh}
use Rattle.ssd_histories.specs.PastPages.{ladder_of}
use Rattle.ssd_histories.specs.ServedCalls.{after_lone_look, after_look}
use Rattle.ssd_histories.specs.Start.{Start}
use Rattle.refresh.specs.Alone.{IsRefreshAlone, RefreshesAloneAreRefreshes}
use Rattle.refresh.specs.Refreshes.{FollowsLook}
use Rattle.refresh.proofs.FaultReplies.{refresh_fault_is}
use Rattle.shared_lemmas.proofs.Tests.{same_number}

module _ (start : Start) (contents : List (Tag × List ℕ)) (tag : Tag) (row : ℕ) (copies_are : CopiesAloneAreRefreshes) where
  abbrev ladder : List Entry → ℕ → LadderState
  ladder = ladder_of (coding_of start.base) start contents

  -- the look found no page
  empty_alone : (before : List Entry) →
      IsRefreshAlone start contents tag row before (after_lone_look tag row Row.Empty before) RefreshReply.Empty
  empty_alone before = record {
    steps = step_with tag (Kind.Look row Row.Empty false) before ∷ [];
    are_steps = (refl, refl, refl);
    is_refresh = inl (same_number row);
    reply_is = refl;
    fault_is = refl;
  }

  lost_alone : (before : List Entry) →
      IsRefreshAlone start contents tag row before (after_lone_look tag row Row.Lost before) RefreshReply.Uncorrectable
  lost_alone before = record {
    steps = step_with tag (Kind.Look row Row.Lost false) before ∷ [];
    are_steps = (refl, refl, refl);
    is_refresh = inl (same_number row);
    reply_is = refl;
    fault_is = refl;
  }

  -- what followed the look, with the past that it found
  followed_alone : (answer : LookAnswer) (looked : CallerView) (before after : List Entry) (reply : RefreshReply) →
      looked.number ≡ None → MakesLook looked.shape tag row before answer looked.seen →
      FollowsLook start contents looked tag answer after reply → IsRefreshAlone start contents tag row before after reply
  followed_alone Empty looked before after reply alone made follows =
      subst (λ (given : RefreshReply). IsRefreshAlone start contents tag row before after given) (sym follows.1)
      (subst (λ (past : List Entry). IsRefreshAlone start contents tag row before past RefreshReply.Empty)
      (sym (follows.0 ∙ made)) (empty_alone before))
  followed_alone Lost looked before after reply alone made follows =
      subst (λ (given : RefreshReply). IsRefreshAlone start contents tag row before after given) (sym follows.1)
      (subst (λ (past : List Entry). IsRefreshAlone start contents tag row before past RefreshReply.Uncorrectable)
      (sym (follows.0 ∙ made)) (lost_alone before))
  followed_alone (Found look) looked before after reply alone made follows =
      let by : IsRefreshBy start contents tag look before after follows.copied =
      copies_are start contents looked tag look before after follows.copied alone (record {
        at_is = made.0;
        seen_is =
            made.3 ∙ ap (λ (named : ℕ). after_look tag named look.slot look.serial look.closed before) (sym made.1);
      }) follows.copies in
      let is_refresh : IsRefresh ladder row by.steps =
      subst (λ (named : ℕ). IsRefresh ladder named by.steps) made.1 by.is_refresh in
      subst (λ (given : RefreshReply). IsRefreshAlone start contents tag row before after given) (sym follows.reply_is)
      (record {
        steps = by.steps;
        are_steps = by.are_steps;
        is_refresh = is_refresh;
        reply_is = by.reply_is;
        fault_is = refresh_fault_is ladder row by.steps (refresh_of_copy follows.copied) is_refresh by.reply_is;
      })

pub refreshes_are_refreshes : CopiesAloneAreRefreshes → RefreshesAloneAreRefreshes
refreshes_are_refreshes copies_are start contents caller tag row after reply alone made =
    subst (λ (before : List Entry). IsRefreshAlone start contents tag row before after reply)
    (is_seen caller tag alone caller.seen made.looks.0 made.looks.1)
    (followed_alone start contents tag row copies_are made.answer made.looked made.looks.0 after reply
    (made.same.number_stays ∙ alone)
    (subst (λ (shape : Shape). MakesLook shape tag row made.looks.0 made.answer made.looked.seen) (sym made.same.shape_stays)
    made.looks.3) made.follows)
