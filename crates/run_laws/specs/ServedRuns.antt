-- What has a run of an input after some of its calls were served? The calls so far were served one after the other. Each hint of
-- a reply waits in the queue, was dropped, or was taken by a drain that has its reply.
use Rattle.std.specs.Prelude.{ℕ, suc, ◌≡◌, ◌<◌, ◌≤◌, ◌+◌, ◌/◌, ◌%◌, nat_lt, Bool, true, false, ◌&&◌, not, List, [], ◌∷◌, ◌++◌, length, All, count_by, sum_by, slice_get, slice_set, Option, Some, None, ⊤}
use Rattle.ssd_formats.specs.ImageContents.{IsBaseOf, ChannelImage, cells_of_saved}
use Rattle.ssd_formats.specs.ImageHead.{Head}
use Rattle.ssd_formats.specs.Input.{Input}
use Rattle.ssd_formats.specs.RunText.{is_hinted, taken_by}
use Rattle.ssd_formats.specs.TraceText.{content_bytes, contents_of}
use Rattle.ssd_geo.specs.declared.entry.Entry.{Entry}
use Rattle.ssd_geo.specs.declared.reply.RefreshReply.{RefreshReply}
use Rattle.ssd_geo.specs.declared.reply.Reply.{Reply}
use Rattle.ssd_geo.specs.declared.tag.Tag.{Tag}
use Rattle.ssd_geo.specs.declared.trace.Content.{Content}
use Rattle.ssd_geo.specs.declared.trace.TraceCall.{TraceCall}
use Rattle.ssd_geo.specs.declared.trace.Verb.{Verb}
use Rattle.ssd_histories.specs.CallsInOrder.{AreNumberedAfter}
use Rattle.ssd_histories.specs.Lawful.{IsLawful}
use Rattle.ssd_histories.specs.Replies.{is_die_fault}
use Rattle.ssd_histories.specs.SerialHistory.{SerialState, most_hints}
use Rattle.ssd_histories.specs.Start.{Start, data_of}
use Rattle.run_laws.specs.RepliedCalls.{IsRepliedBy, WasRefreshed}
use Rattle.run_laws.specs.Runs.{FaultCounts, Run, runs_with}
use Rattle.run_laws.specs.SerialRuns.{HasData, HasServed, with_reply}

-- a start is as an image gives a channel: its base, and the cells of its dies
pub record BeginsAs (head : Head) (channel : ℕ) (saved : ChannelImage) (start : Start) : Type 0 where
  pub is_base : IsBaseOf head channel saved start.base
  pub are_cells : start.cells ≡ cells_of_saved head.sizes saved

-- the data of the writes of an input
abbrev pub contents_in : Input → List (Tag × List ℕ)
contents_in input = contents_of input.head.sizes.bytes input.calls.calls

-- starts are those of the channels that an image tells of, from this number on
abbrev pub AreStartsOf : Head → ℕ → List ChannelImage → List Start → Type 0
AreStartsOf head channel [] [] = ⊤
AreStartsOf head channel [] (start ∷ starts) = ⊥
AreStartsOf head channel (saved ∷ more) [] = ⊥
AreStartsOf head channel (saved ∷ more) (start ∷ starts) =
    BeginsAs head channel saved start × AreStartsOf head (channel + 1) more starts

-- an input is served from these starts: there is a channel, they are the image's, each has the image's data bytes, and the calls
-- of the trace are numbered and have their data
pub record IsServedFrom (input : Input) (starts : List Start) : Type 0 where
  pub some_channel : 0 < length starts
  pub are_starts : AreStartsOf input.head 0 input.channels starts
  pub same_bytes : All (λ start. start.base.shape.bytes ≡ input.head.sizes.bytes) starts
  pub numbered : AreNumberedAfter input.calls.actors [] input.calls.calls
  pub have_data : All (λ call. HasData input.head.sizes.bytes call.verb) input.calls.calls

-- how many of some replies are hints: data of a rung that isn't 0; and how many hints they took
abbrev pub hints_in : List (List Reply) → ℕ
hints_in replies = sum_by (count_by is_hinted) replies

abbrev pub taken_in : List (List Reply) → ℕ
taken_in replies = sum_by (sum_by taken_by) replies

-- a run between two calls, with these hints in its queue and so many dropped
abbrev pub served_with : List Start → List (List Entry) → List ℕ → ℕ → SerialState
served_with starts pasts hints dropped =
    record { channels = runs_with starts pasts; hints = hints; dropped = dropped }

-- whether the page of a reply waits, and whether it is dropped, with so many pages that wait already
abbrev pub is_put : Reply → ℕ → Bool
is_put reply waiting = is_hinted reply && nat_lt waiting most_hints

abbrev pub is_dropped : Reply → ℕ → Bool
is_dropped reply waiting = is_hinted reply && not (nat_lt waiting most_hints)

-- the queue after a call of a verb on one channel: a read that is a hint puts its page behind the others, where there is room
abbrev pub hints_after : Verb → Reply → List ℕ → List ℕ
hints_after (Verb.Read page) reply hints =
    elim (is_put reply (length hints)) [ true ↦ hints ++ page ∷ [] | false ↦ hints ]
hints_after verb reply hints = hints

-- and how many were dropped
abbrev pub dropped_after : Reply → ℕ → ℕ → ℕ
dropped_after reply waiting dropped = elim (is_dropped reply waiting) [ true ↦ dropped + 1 | false ↦ dropped ]

-- some calls were served, and led a run to these pasts, hints and drops
pub record HasLedTo (contents : List (Tag × List ℕ)) (starts : List Start) (actors : ℕ) (done : List TraceCall)
    (replies : List (List Reply)) (pasts : List (List Entry)) (hints : List ℕ) (dropped : ℕ) : Type 0 where
  pub as_many : length pasts ≡ length starts
  pub has_served : HasServed contents starts actors done replies (served_with starts pasts hints dropped)
  pub few_hints : length hints ≤ most_hints
  pub hints_counted : length hints + dropped + taken_in replies ≡ hints_in replies

-- the channel of a call that has a page or names a channel, with so many channels
abbrev pub channel_of : ℕ → Verb → Option ℕ
channel_of channels (Verb.Write page content) = Some (page % channels)
channel_of channels (Verb.Read page) = Some (page % channels)
channel_of channels (Verb.Trim page) = Some (page % channels)
channel_of channels (Verb.Refresh page) = Some (page % channels)
channel_of channels (Verb.Collect channel) = Some channel
channel_of channels (Verb.Age channel die sb amount) = Some channel
channel_of channels verb = None

-- a call led a channel of a run from one past to another, lawfully
pub record LeadsOn (contents : List (Tag × List ℕ)) (starts : List Start) (pasts : List (List Entry)) (call : TraceCall)
    (reply : Reply) (channel : ℕ) (after : List Entry) : Type 0 where
  pub start : Start
  pub past : List Entry
  pub is_channel : channel_of (length starts) call.verb ≡ Some channel
  pub has_start : slice_get starts channel ≡ Some start
  pub has_past : slice_get pasts channel ≡ Some past
  pub is_replied : IsRepliedBy start contents (length starts) call.tag call.verb reply past after
  pub is_lawful : IsLawful start contents after

-- a page was refreshed in a drain, which led its channel of a run from one past to another, lawfully
pub record RefreshesOn (contents : List (Tag × List ℕ)) (starts : List Start) (tag : Tag) (page : ℕ) (reply : RefreshReply)
    (pasts after : List (List Entry)) : Type 0 where
  pub start : Start
  pub past : List Entry
  pub now : List Entry
  pub has_start : slice_get starts (page % length starts) ≡ Some start
  pub has_past : slice_get pasts (page % length starts) ≡ Some past
  pub was_refreshed : WasRefreshed start contents tag (page / length starts) past now reply
  pub is_lawful : IsLawful start contents now
  pub after_is : after ≡ slice_set pasts (page % length starts) now

-- a drain of so many hints came to its end: it refreshed these pages, with these replies, one after the other; it led from some
-- pasts and hints to others
pub data DrainsTo (contents : List (Tag × List ℕ)) (starts : List Start) (tag : Tag) : ℕ → List (ℕ × RefreshReply) →
    List (List Entry) → List ℕ → List (List Entry) → List ℕ → Type 0 where
  has_taken_all : {pasts : List (List Entry)} {hints : List ℕ} → DrainsTo contents starts tag 0 [] pasts hints pasts hints
  finds_none : {count : ℕ} {pasts : List (List Entry)} → DrainsTo contents starts tag count [] pasts [] pasts []
  takes : {count page : ℕ} {reply : RefreshReply} {drained : List (ℕ × RefreshReply)} {rest left : List ℕ}
      {pasts between after : List (List Entry)} → RefreshesOn contents starts tag page reply pasts between
      → is_die_fault reply ≡ false → DrainsTo contents starts tag count drained between rest after left
      → DrainsTo contents starts tag (suc count) ((page, reply) ∷ drained) pasts (page ∷ rest) after left
  faults : {count page : ℕ} {reply : RefreshReply} {rest : List ℕ} {pasts after : List (List Entry)}
      → RefreshesOn contents starts tag page reply pasts after → is_die_fault reply ≡ true
      → DrainsTo contents starts tag (suc count) ((page, reply) ∷ []) pasts (page ∷ rest) after rest

-- a call on one channel was served
pub record IsServedOnOne (contents : List (Tag × List ℕ)) (starts : List Start) (call : TraceCall) (reply : Reply)
    (pasts : List (List Entry)) (hints : List ℕ) (after : List (List Entry)) (left : List ℕ) : Type 0 where
  pub channel : ℕ
  pub now : List Entry
  pub leads_on : LeadsOn contents starts pasts call reply channel now
  pub after_is : after ≡ slice_set pasts channel now
  pub left_is : left ≡ hints_after call.verb reply hints

-- a drain was served
pub record IsServedDrain (contents : List (Tag × List ℕ)) (starts : List Start) (tag : Tag) (count : ℕ) (reply : Reply)
    (pasts : List (List Entry)) (hints : List ℕ) (after : List (List Entry)) (left : List ℕ) : Type 0 where
  pub drained : List (ℕ × RefreshReply)
  pub reply_is : reply ≡ Reply.Drained drained
  pub drains : DrainsTo contents starts tag count drained pasts hints after left

-- a call of a verb was served with this reply, and led from some pasts and hints to others
abbrev pub IsServedAs : Verb → List (Tag × List ℕ) → List Start → TraceCall → Reply → List (List Entry) → List ℕ →
    List (List Entry) → List ℕ → Type 0
IsServedAs (Verb.Drain count) contents starts call reply pasts hints after left =
    IsServedDrain contents starts call.tag count reply pasts hints after left
IsServedAs verb contents starts call reply pasts hints after left =
    IsServedOnOne contents starts call reply pasts hints after left

abbrev pub IsServedCall : List (Tag × List ℕ) → List Start → TraceCall → Reply → List (List Entry) → List ℕ →
    List (List Entry) → List ℕ → Type 0
IsServedCall contents starts call = IsServedAs call.verb contents starts call

-- after such a call one more was served
abbrev pub ServedCallsGoOn : Type 0
ServedCallsGoOn =
    (contents : List (Tag × List ℕ)) (starts : List Start) (actors : ℕ) (done rest : List TraceCall) (call : TraceCall)
    (reply : Reply) (replies : List (List Reply)) (pasts : List (List Entry)) (hints : List ℕ) (dropped : ℕ)
    (after : List (List Entry)) (left : List ℕ) →
    AreNumberedAfter actors [] (done ++ call ∷ rest) → HasLedTo contents starts actors done replies pasts hints dropped →
    IsServedCall contents starts call reply pasts hints after left →
    HasLedTo contents starts actors (done ++ call ∷ []) (with_reply replies call.tag.actor reply) after left
    (dropped_after reply (length hints) dropped)

-- the run of an input with these replies and so many hints dropped
abbrev pub run_of_input : Input → List Start → List (List Reply) → List (List Entry) → List FaultCounts → ℕ → Run
run_of_input input starts replies pasts counts dropped = record {
  starts = starts;
  calls = input.calls;
  pasts = pasts;
  replies = replies;
  faults = counts;
  dropped = dropped;
}

-- the tag of a write gives its data
abbrev pub TagsGiveData : Type 0
TagsGiveData =
    (actors count : ℕ) (before after : List TraceCall) (tag : Tag) (page : ℕ) (content : Content) →
    AreNumberedAfter actors [] (before ++ record { tag = tag; verb = Verb.Write page content } ∷ after) →
    data_of (contents_of count (before ++ record { tag = tag; verb = Verb.Write page content } ∷ after)) tag ≡ content_bytes count content
