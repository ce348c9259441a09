-- Where does a call stand for which memory was refused? Its channel has the entries of the steps that were answered before: a
-- write and a collect were broken off, and no look of theirs is open; a read was refused before its look, or was made whole and
-- has a reply that wasn't given; the others made nothing. A drain has made some refreshes whole; one hint more may be taken.
use Rattle.std.specs.Prelude.{ℕ, suc, ◌≡◌, ◌⊎◌, ◌/◌, false, List, ◌∷◌, length, slice_get, slice_set, Some}
use Rattle.collector.specs.Stops.{IsBrokenOffCollectAlone, IsBrokenOffWriteAlone}
use Rattle.run_laws.specs.RepliedCalls.{IsRepliedBy}
use Rattle.run_laws.specs.ServedRuns.{RefreshesOn, channel_of}
use Rattle.ssd_geo.specs.declared.entry.Entry.{Entry}
use Rattle.ssd_geo.specs.declared.reply.RefreshReply.{RefreshReply}
use Rattle.ssd_geo.specs.declared.reply.Reply.{Reply}
use Rattle.ssd_geo.specs.declared.tag.Tag.{Tag}
use Rattle.ssd_geo.specs.declared.trace.TraceCall.{TraceCall}
use Rattle.ssd_geo.specs.declared.trace.Verb.{Verb}
use Rattle.ssd_histories.specs.Lawful.{IsLawful}
use Rattle.ssd_histories.specs.Replies.{is_die_fault}
use Rattle.ssd_histories.specs.Start.{Start}

-- a call of a verb on one of so many channels was broken off between two pasts of its channel
abbrev pub IsBrokenOffBy : Start → List (Tag × List ℕ) → ℕ → Tag → Verb → List Entry → List Entry → Type 0
IsBrokenOffBy start contents channels tag (Verb.Write page content) before now =
    IsBrokenOffWriteAlone start contents tag (page / channels) before now
IsBrokenOffBy start contents channels tag (Verb.Read page) before now =
    (now ≡ before) ⊎ (reply : Reply) × IsRepliedBy start contents channels tag (Verb.Read page) reply before now
IsBrokenOffBy start contents channels tag (Verb.Collect channel) before now =
    IsBrokenOffCollectAlone start contents tag before now
IsBrokenOffBy start contents channels tag (Verb.Drain count) before now = ⊥
IsBrokenOffBy start contents channels tag verb before now = now ≡ before

-- a call of a run was broken off, with this past of its channel
pub record BreaksOffAt (contents : List (Tag × List ℕ)) (starts : List Start) (pasts : List (List Entry)) (call : TraceCall)
    (channel : ℕ) (now : List Entry) : Type 0 where
  pub is_channel : channel_of (length starts) call.verb ≡ Some channel
  pub start : Start
  pub past : List Entry
  pub has_start : slice_get starts channel ≡ Some start
  pub has_past : slice_get pasts channel ≡ Some past
  pub is_broken_off : IsBrokenOffBy start contents (length starts) call.tag call.verb past now
  pub is_lawful : IsLawful start contents now

-- a call on one channel was broken off: the other channels and the hints stay
pub record IsBrokenOffOnOne (contents : List (Tag × List ℕ)) (starts : List Start) (call : TraceCall)
    (pasts : List (List Entry)) (hints : List ℕ) (now : List (List Entry)) (left : List ℕ) : Type 0 where
  pub channel : ℕ
  pub past_now : List Entry
  pub breaks_off : BreaksOffAt contents starts pasts call channel past_now
  pub now_is : now ≡ slice_set pasts channel past_now
  pub left_is : left ≡ hints

-- a drain of so many hints was broken off: before it took one, or with one taken whose refresh was refused, maybe after some
-- refreshes
pub data BreaksOffInDrain (contents : List (Tag × List ℕ)) (starts : List Start) (tag : Tag) : ℕ → List (List Entry) → List ℕ →
    List (List Entry) → List ℕ → Type 0 where
  is_refused : {count : ℕ} {hints : List ℕ} {pasts : List (List Entry)}
      → BreaksOffInDrain contents starts tag count pasts hints pasts hints
  is_taken : {count page : ℕ} {rest : List ℕ} {pasts : List (List Entry)}
      → BreaksOffInDrain contents starts tag (suc count) pasts (page ∷ rest) pasts rest
  goes_on : {count page : ℕ} {reply : RefreshReply} {rest left : List ℕ} {pasts between now : List (List Entry)}
      → RefreshesOn contents starts tag page reply pasts between → is_die_fault reply ≡ false
      → BreaksOffInDrain contents starts tag count between rest now left
      → BreaksOffInDrain contents starts tag (suc count) pasts (page ∷ rest) now left

-- a call of a verb was broken off, and led from some pasts and hints to others
abbrev pub IsBrokenOffAs : Verb → List (Tag × List ℕ) → List Start → TraceCall → List (List Entry) → List ℕ →
    List (List Entry) → List ℕ → Type 0
IsBrokenOffAs (Verb.Drain count) contents starts call pasts hints now left =
    BreaksOffInDrain contents starts call.tag count pasts hints now left
IsBrokenOffAs (Verb.Refresh page) contents starts call pasts hints now left = (now ≡ pasts) × (left ≡ hints)
IsBrokenOffAs verb contents starts call pasts hints now left = IsBrokenOffOnOne contents starts call pasts hints now left

abbrev pub IsBrokenOffCall : List (Tag × List ℕ) → List Start → TraceCall → List (List Entry) → List ℕ →
    List (List Entry) → List ℕ → Type 0
IsBrokenOffCall contents starts call = IsBrokenOffAs call.verb contents starts call
