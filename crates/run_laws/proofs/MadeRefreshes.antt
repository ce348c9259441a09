-- A refresh as a call: it was served alone, and its reply, which its steps decide, is no hint.
use Rattle.std.proofs.Common.{ℕ, ◌≡◌, ◌%◌, ◌/◌, List, [], Option, Some, refl, sym, ap, subst, ◌∙◌}
use Rattle.std.specs.Prelude.{option_map}
use Rattle.ssd_geo.specs.Coding.{coding_of}
use Rattle.ssd_geo.specs.Ladder.{LadderState}
use Rattle.ssd_geo.specs.declared.entry.Entry.{Entry}
use Rattle.ssd_geo.specs.declared.reply.RefreshReply.{RefreshReply}
use Rattle.ssd_geo.specs.declared.reply.Reply.{Reply}
use Rattle.ssd_geo.specs.declared.tag.Tag.{Tag}
use Rattle.ssd_geo.specs.declared.trace.Verb.{Verb}
use Rattle.ssd_histories.specs.CallSteps.{CallStep, steps_of}
use Rattle.ssd_histories.specs.CallsInOrder.{ladder_in, steps_on}
use Rattle.ssd_histories.specs.Copies.{IsRefresh}
use Rattle.ssd_histories.specs.PastPages.{ladder_of}
use Rattle.ssd_histories.specs.Replies.{refresh_reply, reply_of_refresh}
use Rattle.ssd_histories.specs.SerialHistory.{HasForm, SerialCall, with_past}
use Rattle.ssd_histories.specs.Start.{Start}
use Rattle.serial_laws.proofs.MadeCalls.{own_steps}
use Rattle.run_laws.specs.RepliedCalls.{HasRefreshed}
use Rattle.run_laws.proofs.MadeCalls.{IsMade, IsUnhinted, on_channel, on_run, pushes_none, run_of, without_hint}

-- the reply of a refresh is no hint
refresh_is_unhinted : (told : RefreshReply) → IsUnhinted (reply_of_refresh told)
refresh_is_unhinted RefreshReply.Moved = record { takes_none = refl; no_hint = refl }
refresh_is_unhinted RefreshReply.Changed = record { takes_none = refl; no_hint = refl }
refresh_is_unhinted RefreshReply.Empty = record { takes_none = refl; no_hint = refl }
refresh_is_unhinted RefreshReply.Uncorrectable = record { takes_none = refl; no_hint = refl }
refresh_is_unhinted RefreshReply.NoRoom = record { takes_none = refl; no_hint = refl }
refresh_is_unhinted RefreshReply.ReadOnly = record { takes_none = refl; no_hint = refl }
refresh_is_unhinted RefreshReply.Failed = record { takes_none = refl; no_hint = refl }
refresh_is_unhinted (RefreshReply.DieFault die) = record { takes_none = refl; no_hint = refl }

module _ (start : Start) (contents : List (Tag × List ℕ)) (channels channel : ℕ) (tag : Tag) (past : List Entry)
    (no_steps : steps_of tag past ≡ []) (after : List Entry) (reply : Reply) where
  pub refresh_is_made : (page : ℕ) → page % channels ≡ channel →
      HasRefreshed start contents tag (page / channels) past after reply →
      IsMade start contents channels channel tag (Verb.Refresh page) reply past after
  refresh_is_made page on refreshed =
      let steps : List CallStep = refreshed.was_refreshed.steps in
      let ladder : List Entry → ℕ → LadderState = ladder_of (coding_of start.base) start contents in
      let are : steps_of tag after ≡ steps = own_steps tag past after steps no_steps refreshed.was_refreshed.are_steps in
      let unhinted : IsUnhinted reply = subst IsUnhinted (sym refreshed.reply_is) (refresh_is_unhinted refreshed.told) in
      record {
        takes_none = unhinted.takes_none;
        is_reply = λ runs many is_run.
            on_run (λ run. option_map reply_of_refresh (refresh_reply (ladder_in contents run) (steps_on tag run)) ≡ Some reply)
            runs channels channel page (run_of start after) on many is_run
            (ap (λ (own : List CallStep). option_map reply_of_refresh (refresh_reply ladder own)) are
            ∙ ap (λ (told : Option RefreshReply). option_map reply_of_refresh told) refreshed.was_refreshed.reply_is
            ∙ ap {B = Option Reply} Some (sym refreshed.reply_is));
        hint = 0;
        hints_are = λ hints. pushes_none 0 reply hints unhinted;
        serves = λ state is_run.
            subst (SerialCall contents channels tag reply (Verb.Refresh page) state)
            (without_hint 0 reply (with_past channel after (run_of start past) state) unhinted)
            (on_channel (λ run. HasForm (IsRefresh (ladder_in contents run) (page / channels)) tag) (page % channels) channel
            (run_of start past) after state on is_run
            (record {
              steps = steps;
              are_steps = refreshed.was_refreshed.are_steps;
              has_form = refreshed.was_refreshed.is_refresh;
            }));
      }
