-- The pages that a drain took tell of no fault where no call of a die failed.
use Rattle.std.proofs.Common.{ℕ, ◌≡◌, ◌%◌, ◌<◌, ◌==◌, cond, Bool, true, false, List, [], ◌∷◌, length, All, Option, Some, None, refl, sym, subst, mod-lt}
use Rattle.std.specs.Prelude.{IfSome, option_map, ◌+◌, ◌*◌}
use Rattle.std.specs.List.{list_any}
use Rattle.std.proofs.lemmas.Bool.{true≢false}
use Rattle.std.proofs.lemmas.List.Elements.{All-cons, All-head, All-nil, All-tail, All-weaker}
use Rattle.ssd_geo.specs.Ladder.{LadderState, asks, recovered, uncorrectable}
use Rattle.ssd_geo.specs.declared.entry.Entry.{Entry}
use Rattle.ssd_geo.specs.declared.kind.Kind.{Kind}
use Rattle.ssd_geo.specs.declared.reply.RefreshReply.{RefreshReply}
use Rattle.ssd_geo.specs.declared.reply.Reply.{Reply}
use Rattle.ssd_geo.specs.declared.row.Row.{Row}
use Rattle.ssd_geo.specs.declared.tag.Tag.{Tag}
use Rattle.ssd_histories.specs.CallSteps.{CallStep, failed_die, is_fault}
use Rattle.ssd_histories.specs.CallsInOrder.{ChannelRun, IsDrainReply, ladder_in, steps_on}
use Rattle.ssd_histories.specs.Replies.{decided_pages, drained_on, fault_refresh_reply, is_die_fault, pages_on, refresh_decided, refresh_of_ladder, refresh_reply, row_looked_at}
use Rattle.serial_laws.proofs.Lists.{IsItemAt, item_at}
use Rattle.complete_runs.specs.UncountedRuns.{IsFaultless, tells_fault}
use Rattle.complete_runs.proofs.FirstSteps.{first_has, steps_have}
use Rattle.shared_lemmas.proofs.Lists.{all_at, numbered_at}
use Rattle.shared_lemmas.proofs.Tests.{same_number}

-- no call of a die failed in a step
abbrev pub Calm : CallStep → Type 0
Calm step = is_fault step.entry.kind ≡ false

-- an answer of a refresh tells of no fault
abbrev pub RefreshesCalmly : RefreshReply → Type 0
RefreshesCalmly reply = is_die_fault reply ≡ false

pub none_failed : (kind : Kind) → is_fault kind ≡ false → failed_die kind ≡ None
none_failed (Kind.FaultSense at place level) calm = absurd (true≢false calm)
none_failed (Kind.FaultAge die sb amount) calm = absurd (true≢false calm)
none_failed (Kind.BadWrite row slot die true) calm = absurd (true≢false calm)
none_failed (Kind.BadCopy at slot die true) calm = absurd (true≢false calm)
none_failed (Kind.BadErase sb die true) calm = absurd (true≢false calm)
none_failed (Kind.BadWrite row slot die false) calm = refl
none_failed (Kind.BadCopy at slot die false) calm = refl
none_failed (Kind.BadErase sb die false) calm = refl
none_failed kind calm = refl

fault_is_calm : (kind : Kind) → is_fault kind ≡ false → IfSome (fault_refresh_reply kind) RefreshesCalmly
fault_is_calm kind calm =
    subst (λ (failed : Option ℕ). IfSome (option_map (λ die. RefreshReply.DieFault die) failed) RefreshesCalmly)
    (sym (none_failed kind calm)) tt

ladder_is_calm : (state : LadderState) → IfSome (refresh_of_ladder state) RefreshesCalmly
ladder_is_calm (asks place level) = tt
ladder_is_calm (recovered rung word) = tt
ladder_is_calm uncorrectable = refl

-- what the steps of a refresh decide
decided_is_calm : (ladder : List Entry → ℕ → LadderState) (past : List Entry) (kind : Kind) → is_fault kind ≡ false →
    IfSome (refresh_decided ladder past kind) RefreshesCalmly
decided_is_calm ladder past (Kind.Look row Row.Empty closed) calm = refl
decided_is_calm ladder past (Kind.Look row Row.Lost closed) calm = refl
decided_is_calm ladder past (Kind.Move at slot) calm = refl
decided_is_calm ladder past (Kind.Changed at found) calm = refl
decided_is_calm ladder past (Kind.Stay at true) calm = refl
decided_is_calm ladder past (Kind.Stay at false) calm = refl
decided_is_calm ladder past (Kind.BadCopy at slot die false) calm = refl
decided_is_calm ladder past (Kind.Leave at) calm = ladder_is_calm (ladder past at)
decided_is_calm ladder past kind calm = fault_is_calm kind calm

pub refresh_is_calm : (ladder : List Entry → ℕ → LadderState) (steps : List CallStep) → All Calm steps →
    IfSome (refresh_reply ladder steps) RefreshesCalmly
refresh_is_calm ladder steps calm =
    first_has (λ step. refresh_decided ladder step.past step.entry.kind) RefreshesCalmly steps
    (All-weaker Calm (λ (step : CallStep). IfSome (refresh_decided ladder step.past step.entry.kind) RefreshesCalmly)
    (λ step is_calm. decided_is_calm ladder step.past step.entry.kind is_calm) steps calm)

-- the pages of a channel, as its steps decide them
abbrev DecidedCalmly : ℕ × Option RefreshReply → Type 0
DecidedCalmly page = IfSome page.1 RefreshesCalmly

drained_is_calm : (ladder : List Entry → ℕ → LadderState) (channels channel : ℕ) (steps : List CallStep) → All Calm steps →
    All DecidedCalmly (drained_on ladder channels channel steps)
drained_is_calm ladder channels channel [] calm = All-nil DecidedCalmly
drained_is_calm ladder channels channel (step ∷ steps) calm =
    by_row (row_looked_at step.entry.kind) (drained_is_calm ladder channels channel steps (All-tail Calm step steps calm))
  where
    by_row : (looked : Option ℕ) → All DecidedCalmly (drained_on ladder channels channel steps) →
        All DecidedCalmly
        (elim looked [
          | Some row ↦ (row * channels + channel, refresh_reply ladder (step ∷ steps)) ∷ drained_on ladder channels channel steps
          | None ↦ drained_on ladder channels channel steps
        ])
    by_row None older = older
    by_row (Some row) older =
        All-cons DecidedCalmly (row * channels + channel, refresh_reply ladder (step ∷ steps))
        (drained_on ladder channels channel steps) (refresh_is_calm ladder (step ∷ steps) calm) older

-- and as the reply has them
abbrev DrainedCalmly : ℕ × RefreshReply → Type 0
DrainedCalmly page = RefreshesCalmly page.1

decided_back : (pages : List (ℕ × RefreshReply)) → All DecidedCalmly (decided_pages pages) → All DrainedCalmly pages
decided_back [] calm = All-nil DrainedCalmly
decided_back (page ∷ pages) calm =
    All-cons DrainedCalmly page pages (All-head DecidedCalmly (page.0, Some page.1) (decided_pages pages) calm)
    (decided_back pages (All-tail DecidedCalmly (page.0, Some page.1) (decided_pages pages) calm))

-- a page stands on one of the channels
all_channels : (channels : ℕ) (pages : List (ℕ × RefreshReply)) → 0 < channels →
    ((channel : ℕ) → channel < channels → All DrainedCalmly (pages_on channels channel pages)) → All DrainedCalmly pages
all_channels channels [] some each = All-nil DrainedCalmly
all_channels channels (page ∷ pages) some each =
    All-cons DrainedCalmly page pages
    (first (page.0 % channels == page.0 % channels) (pages_on channels (page.0 % channels) pages) (same_number (page.0 % channels))
    (each (page.0 % channels) (below page.0)))
    (all_channels channels pages some
    (λ channel low. rest (page.0 % channels == channel) (pages_on channels channel pages) (each channel low)))
  where
    below : (n : ℕ) → n % channels < channels
    below n = mod-lt n some

    first : (b : Bool) (others : List (ℕ × RefreshReply)) → b ≡ true →
        All DrainedCalmly (cond b (page ∷ others) others) → DrainedCalmly page
    first true others is all = All-head DrainedCalmly page others all
    first false others is all = absurd (true≢false (sym is))

    rest : (b : Bool) (others : List (ℕ × RefreshReply)) → All DrainedCalmly (cond b (page ∷ others) others) →
        All DrainedCalmly others
    rest true others all = All-tail DrainedCalmly page others all
    rest false others all = all

none_told : (pages : List (ℕ × RefreshReply)) → All DrainedCalmly pages → list_any (λ drained. is_die_fault drained.1) pages ≡ false
none_told [] calm = refl
none_told (page ∷ pages) calm =
    rw (All-head DrainedCalmly page pages calm) (none_told pages (All-tail DrainedCalmly page pages calm))

pub drained_tell_none : (contents : List (Tag × List ℕ)) (runs : List ChannelRun) (tag : Tag) (reply : Reply) →
    All IsFaultless runs → 0 < length runs → IsDrainReply contents runs tag reply → tells_fault reply ≡ false
drained_tell_none contents runs tag (Reply.Drained pages) faultless some is =
    none_told pages (all_channels (length runs) pages some (λ channel low. on_channel channel (item_at runs channel low)))
  where
    on_channel : (channel : ℕ) → IsItemAt runs channel → All DrainedCalmly (pages_on (length runs) channel pages)
    on_channel channel item =
        let run : ChannelRun = item.item in
        let steps : All Calm (steps_on tag run) =
        steps_have (λ kind. is_fault kind ≡ false) tag run.past (all_at IsFaultless runs channel run faultless item.is_there) in
        let same : drained_on (ladder_in contents run) (length runs) channel (steps_on tag run) ≡ decided_pages (pages_on (length runs) channel pages) =
        numbered_at (λ (one : ℕ × ChannelRun).
        drained_on (ladder_in contents one.1) (length runs) one.0 (steps_on tag one.1) ≡ decided_pages (pages_on (length runs) one.0 pages))
        runs channel run is.0 item.is_there in
        decided_back (pages_on (length runs) channel pages)
        (subst (All DecidedCalmly) same (drained_is_calm (ladder_in contents run) (length runs) channel (steps_on tag run) steps))
drained_tell_none contents runs tag reply faultless some is = absurd is
