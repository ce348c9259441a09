-- A write and a collect with their rounds: each was served alone, and its reply, which its steps decide, is no hint.
use Rattle.std.proofs.Common.{ℕ, ◌≡◌, ◌%◌, ◌/◌, true, false, List, [], ◌∷◌, Option, Some, None, refl, sym, ap, subst, ◌∙◌}
use Rattle.std.specs.Prelude.{IsSomeAnd, option_map, slice_get, unwrap_or}
use Rattle.std.proofs.lemmas.Option.{none-some, same_Some}
use Rattle.ssd_histories.specs.CallSteps.{CallStep, failed_die, steps_of}
use Rattle.ssd_histories.specs.CallsInOrder.{ladder_in, steps_on}
use Rattle.ssd_histories.specs.Replies.{collect_decided, collect_reply, first_reply, write_decided, write_reply}
use Rattle.ssd_histories.specs.SerialCalls.{SerialCollect, SerialWrite}
use Rattle.ssd_histories.specs.SerialHistory.{SerialCall, with_past}
use Rattle.ssd_histories.specs.Start.{Start}
use Rattle.ssd_geo.specs.declared.entry.Entry.{Entry}
use Rattle.ssd_geo.specs.declared.kind.Kind.{Kind}
use Rattle.ssd_geo.specs.declared.reply.Reply.{Reply}
use Rattle.ssd_geo.specs.declared.tag.Tag.{Tag}
use Rattle.ssd_geo.specs.declared.trace.Content.{Content}
use Rattle.ssd_geo.specs.declared.trace.Verb.{Verb}
use Rattle.serial_laws.proofs.MadeCalls.{own_steps}
use Rattle.run_laws.specs.RepliedCalls.{HasCollected, HasWritten}
use Rattle.run_laws.proofs.MadeCalls.{IsMade, IsUnhinted, on_channel, on_run, pushes_none, run_of, without_hint}

-- the reply of a failed call of a die is no hint
fault_is_unhinted : (die : Option ℕ) (reply : Reply) → option_map (λ n. Reply.DieFault n) die ≡ Some reply → IsUnhinted reply
fault_is_unhinted None reply is = absurd (none-some reply is)
fault_is_unhinted (Some die) reply is =
    subst IsUnhinted (same_Some (Reply.DieFault die) reply is) (record { takes_none = refl; no_hint = refl })

-- nor is one that an entry of a write or of a collect decides
write_kind_is_unhinted : (kind : Kind) (reply : Reply) → write_decided kind ≡ Some reply → IsUnhinted reply
write_kind_is_unhinted (Kind.Write row slot) reply is =
    subst IsUnhinted (same_Some Reply.Ok reply is) (record { takes_none = refl; no_hint = refl })
write_kind_is_unhinted (Kind.Refused row true) reply is =
    subst IsUnhinted (same_Some Reply.ReadOnly reply is) (record { takes_none = refl; no_hint = refl })
write_kind_is_unhinted (Kind.Refused row false) reply is =
    subst IsUnhinted (same_Some Reply.Full reply is) (record { takes_none = refl; no_hint = refl })
write_kind_is_unhinted kind reply is = fault_is_unhinted (failed_die kind) reply is

collect_kind_is_unhinted : (kind : Kind) (reply : Reply) → collect_decided kind ≡ Some reply → IsUnhinted reply
collect_kind_is_unhinted (Kind.Erase sb) reply is =
    subst IsUnhinted (same_Some (Reply.Collected sb) reply is) (record { takes_none = refl; no_hint = refl })
collect_kind_is_unhinted (Kind.BadErase sb die false) reply is =
    subst IsUnhinted (same_Some (Reply.Retired sb) reply is) (record { takes_none = refl; no_hint = refl })
collect_kind_is_unhinted (Kind.BadErase sb die true) reply is = fault_is_unhinted (Some die) reply is
collect_kind_is_unhinted kind reply is = fault_is_unhinted (failed_die kind) reply is

-- so is the first reply that a step decides
first_is_unhinted : (decided : CallStep → Option Reply) → ((step : CallStep) (reply : Reply) → decided step ≡ Some reply → IsUnhinted reply) →
    (steps : List CallStep) (reply : Reply) → first_reply decided steps ≡ Some reply → IsUnhinted reply
first_is_unhinted decided each [] reply is = absurd (none-some reply is)
first_is_unhinted decided each (step ∷ steps) reply is = by_first (decided step) refl (first_is_unhinted decided each steps reply) is
  where
    by_first : (found : Option Reply) → decided step ≡ found → (first_reply decided steps ≡ Some reply → IsUnhinted reply) →
        elim found [ Some held ↦ Some held | None ↦ first_reply decided steps ] ≡ Some reply → IsUnhinted reply
    by_first None e rest is = rest is
    by_first (Some held) e rest is = subst IsUnhinted (same_Some held reply is) (each step held e)

collect_is_unhinted : (steps : List CallStep) → IsUnhinted (collect_reply steps)
collect_is_unhinted steps =
    by_first (first_reply (λ step. collect_decided step.entry.kind) steps)
    (first_is_unhinted (λ step. collect_decided step.entry.kind)
    (λ step reply is. collect_kind_is_unhinted step.entry.kind reply is) steps)
  where
    by_first : (found : Option Reply) → ((reply : Reply) → found ≡ Some reply → IsUnhinted reply) →
        IsUnhinted (unwrap_or found Reply.Idle)
    by_first None each = record { takes_none = refl; no_hint = refl }
    by_first (Some reply) each = each reply refl

module _ (start : Start) (contents : List (Tag × List ℕ)) (channels channel : ℕ) (tag : Tag) (past : List Entry)
    (no_steps : steps_of tag past ≡ []) (after : List Entry) (reply : Reply) where
  pub write_is_made : (page : ℕ) → page % channels ≡ channel → (content : Content) →
      HasWritten start contents tag (page / channels) past after reply →
      IsMade start contents channels channel tag (Verb.Write page content) reply past after
  write_is_made page on content written =
      let are : steps_of tag after ≡ written.steps = own_steps tag past after written.steps no_steps written.are_steps in
      let unhinted : IsUnhinted reply =
      first_is_unhinted (λ step. write_decided step.entry.kind)
      (λ step held is. write_kind_is_unhinted step.entry.kind held is) written.steps reply written.reply_is in
      record {
        takes_none = unhinted.takes_none;
        is_reply = λ runs many is_run.
            on_run (λ run. write_reply (steps_on tag run) ≡ Some reply) runs channels channel page (run_of start after) on many is_run
            (ap write_reply are ∙ written.reply_is);
        hint = 0;
        hints_are = λ hints. pushes_none 0 reply hints unhinted;
        serves = λ state is_run.
            subst (SerialCall contents channels tag reply (Verb.Write page content) state)
            (without_hint 0 reply (with_past channel after (run_of start past) state) unhinted)
            (on_channel (λ run. SerialWrite (ladder_in contents run) run.start.base tag (page / channels))
            (page % channels) channel (run_of start past) after state on is_run written.is_write);
      }

  pub collect_is_made : (named : ℕ) → named ≡ channel → HasCollected start contents tag past after reply →
      IsMade start contents channels channel tag (Verb.Collect named) reply past after
  collect_is_made named on collected =
      let are : steps_of tag after ≡ collected.steps =
      own_steps tag past after collected.steps no_steps collected.are_steps in
      let unhinted : IsUnhinted reply = subst IsUnhinted collected.reply_is (collect_is_unhinted collected.steps) in
      record {
        takes_none = unhinted.takes_none;
        is_reply = λ runs many is_run.
            subst (λ option. IsSomeAnd option (λ run. collect_reply (steps_on tag run) ≡ reply))
            (sym (ap (slice_get runs) on ∙ is_run)) (ap collect_reply are ∙ collected.reply_is);
        hint = 0;
        hints_are = λ hints. pushes_none 0 reply hints unhinted;
        serves = λ state is_run.
            subst (SerialCall contents channels tag reply (Verb.Collect named) state)
            (without_hint 0 reply (with_past channel after (run_of start past) state) unhinted)
            (on_channel (λ run. SerialCollect (ladder_in contents run) run.start.base tag) named channel
            (run_of start past) after state on is_run collected.is_collect);
      }
