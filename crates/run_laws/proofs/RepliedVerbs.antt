-- Each call that was replied to made what its verb says.
use Rattle.std.proofs.Common.{ℕ, ◌≡◌, ◌%◌, ◌/◌, List, [], Some, sym, subst, inl, inr}
use Rattle.ssd_histories.specs.CallSteps.{steps_of}
use Rattle.ssd_histories.specs.Lawful.{IsLawful}
use Rattle.ssd_histories.specs.Start.{Start}
use Rattle.ssd_geo.specs.declared.entry.Entry.{Entry}
use Rattle.ssd_geo.specs.declared.reply.Reply.{Reply}
use Rattle.ssd_geo.specs.declared.tag.Tag.{Tag}
use Rattle.ssd_geo.specs.declared.trace.Verb.{Verb}
use Rattle.ssd_histories.specs.ServedCalls.{HasFoundNone, HasReadPage}
use Rattle.run_laws.specs.RepliedCalls.{HasFailedRead, IsRepliedBy}
use Rattle.run_laws.specs.ServedRuns.{channel_of}
use Rattle.run_laws.proofs.MadeCalls.{IsMade, same_Some}
use Rattle.run_laws.proofs.MadeChanges.{age_is_made, trim_is_made}
use Rattle.run_laws.proofs.MadeRefreshes.{refresh_is_made}
use Rattle.run_laws.proofs.MadeRounds.{collect_is_made, write_is_made}
use Rattle.run_laws.proofs.ServedReads.{ReadMade, failed_read_is_made, lone_look_is_made, page_is_made, read_is_made}

pub call_is_made : (start : Start) (contents : List (Tag × List ℕ)) (channels channel : ℕ) (tag : Tag)
    (verb : Verb) (reply : Reply) (past after : List Entry) → channel_of channels verb ≡ Some channel → steps_of tag past ≡ [] →
    IsRepliedBy start contents channels tag verb reply past after → IsLawful start contents after →
    IsMade start contents channels channel tag verb reply past after
call_is_made start contents channels channel tag (Verb.Write page content) reply past after on none replied lawful =
    write_is_made start contents channels channel tag past none after reply page (same_Some (page % channels) channel on) content
    replied
call_is_made start contents channels channel tag (Verb.Trim page) reply past after on none replied lawful =
    subst (λ (given : Reply). IsMade start contents channels channel tag (Verb.Trim page) given past after) (sym replied.0)
    (subst (λ (new : List Entry). IsMade start contents channels channel tag (Verb.Trim page) Reply.Ok past new) (sym replied.1)
    (trim_is_made start contents channels channel tag past none page (same_Some (page % channels) channel on)))
call_is_made start contents channels channel tag (Verb.Age named die sb amount) reply past after on none replied lawful =
    age_is_made start contents channels channel tag past none named die sb amount (same_Some named channel on) after reply replied
call_is_made start contents channels channel tag (Verb.Read page) reply past after on none replied lawful =
    read_is_made start contents channels channel tag page reply past after
    (same_Some (page % channels) channel on)
    (elim replied [ inl lone ↦ of_none lone | inr found ↦ elim found [ inl read ↦ of_page read | inr failed ↦ of_failed failed ] ])
  where
    of_none : HasFoundNone tag (page / channels) past after reply →
        ReadMade start contents (page / channels) tag reply past after
    of_none lone =
        subst (λ (new : List Entry). ReadMade start contents (page / channels) tag reply past new)
        (sym lone.after_is)
        (lone_look_is_made start contents
        (page / channels) tag past none lone.found reply lone.reply_is)

    of_page : HasReadPage start contents tag (page / channels) past after reply →
        ReadMade start contents (page / channels) tag reply past after
    of_page read =
        subst (λ (new : List Entry). ReadMade start contents (page / channels) tag reply past new)
        (sym read.after_is)
        (page_is_made start contents
        (page / channels) tag past none read.slot read.serial read.closed read.senses reply read.reply_is)

    of_failed : HasFailedRead tag (page / channels) past after reply →
        ReadMade start contents (page / channels) tag reply past after
    of_failed failed =
        subst (λ (given : Reply). ReadMade start contents (page / channels) tag given past after) (sym failed.reply_is)
        (subst (λ (new : List Entry). ReadMade start contents (page / channels) tag (Reply.DieFault failed.place.die) past new)
        (sym failed.after_is)
        (failed_read_is_made start contents (page / channels) tag past none failed.slot failed.serial failed.closed failed.senses
        failed.place failed.level))
call_is_made start contents channels channel tag (Verb.Refresh page) reply past after on none replied lawful =
    refresh_is_made start contents channels channel tag past none after reply page (same_Some (page % channels) channel on) replied
call_is_made start contents channels channel tag (Verb.Collect named) reply past after on none replied lawful =
    collect_is_made start contents channels channel tag past none after reply named (same_Some named channel on) replied
call_is_made start contents channels channel tag (Verb.Drain count) reply past after on none replied lawful =
    absurd replied
