-- What a call made on its channel: it was served alone, its reply is that of its own steps, and it took no hint.
use Rattle.std.proofs.Common.{ℕ, ◌≡◌, ◌%◌, Bool, true, false, ◌&&◌, List, [], ◌∷◌, ◌++◌, length, Some, refl, sym, ap, subst, ◌∙◌, arith}
use Rattle.std.specs.Prelude.{slice_get, IsSomeAnd, nat_lt}
use Rattle.ssd_histories.specs.CallSteps.{CallStep, steps_of}
use Rattle.ssd_histories.specs.CallsInOrder.{ChannelRun, IsReplyBy, OfRun}
use Rattle.ssd_formats.specs.RunText.{is_hinted, taken_by}
use Rattle.ssd_histories.specs.SerialCalls.{entry_of}
use Rattle.ssd_histories.specs.SerialHistory.{OnChannel, SerialCall, SerialState, most_hints, with_hint, with_past}
use Rattle.ssd_histories.specs.Start.{Start}
use Rattle.ssd_geo.specs.declared.entry.Entry.{Entry}
use Rattle.ssd_geo.specs.declared.kind.Kind.{Kind}
use Rattle.ssd_geo.specs.declared.reply.Reply.{Reply}
use Rattle.ssd_geo.specs.declared.tag.Tag.{Tag}
use Rattle.ssd_geo.specs.declared.trace.Verb.{Verb}
use Rattle.run_laws.specs.ServedRuns.{hints_after, is_put}
use Rattle.ssd_histories.proofs.SameTags.{same_tag}

-- the run of a channel with a start and a past
abbrev pub run_of : Start → List Entry → ChannelRun
run_of start past = record { start = start; past = past }

-- a call has one more step by its own entry
pub one_step_more : (tag : Tag) (kind : Kind) (past : List Entry) (steps : List CallStep) → steps_of tag past ≡ steps →
    steps_of tag (entry_of tag kind ∷ past) ≡ steps ++ record { past = past; entry = entry_of tag kind } ∷ []
one_step_more tag kind past steps are =
    rw (same_tag tag, steps_of)
    (ap (λ (before : List CallStep). before ++ record { past = past; entry = entry_of tag kind } ∷ []) are)

-- a run after a call's reply: a page is pushed where that is a hint
abbrev pub with_hint_of : ℕ → Reply → SerialState → SerialState
with_hint_of page reply state = elim (is_hinted reply) [ true ↦ with_hint page state | false ↦ state ]

-- a reply that is no hint and took none
pub record IsUnhinted (reply : Reply) : Type 0 where
  pub takes_none : taken_by reply ≡ 0
  pub no_hint : is_hinted reply ≡ false

pub without_hint : (page : ℕ) (reply : Reply) (state : SerialState) → IsUnhinted reply → state ≡ with_hint_of page reply state
without_hint page reply state is =
    ap {B = SerialState} (λ (b : Bool). elim b [ true ↦ with_hint page state | false ↦ state ]) (sym is.no_hint)

-- the queue after a reply with which a page is pushed, where that is a hint and there is room
abbrev pub pushed : ℕ → Reply → List ℕ → List ℕ
pushed page reply hints = elim (is_put reply (length hints)) [ true ↦ hints ++ page ∷ [] | false ↦ hints ]

pub pushes_none : (page : ℕ) (reply : Reply) (hints : List ℕ) → IsUnhinted reply → pushed page reply hints ≡ hints
pushes_none page reply hints is =
    ap {B = List ℕ}
    (λ (hinted : Bool). elim (hinted && nat_lt (length hints) most_hints) [ true ↦ hints ++ page ∷ [] | false ↦ hints ])
    is.no_hint

-- what a call made on its channel
pub record IsMade (start : Start) (contents : List (Tag × List ℕ)) (channels channel : ℕ) (tag : Tag)
    (verb : Verb) (reply : Reply) (past after : List Entry) : Type 0 where
  pub takes_none : taken_by reply ≡ 0
  pub is_reply : (runs : List ChannelRun) → length runs ≡ channels →
      slice_get runs channel ≡ Some (run_of start after) → IsReplyBy contents runs tag reply verb
  pub hint : ℕ
  pub hints_are : (hints : List ℕ) → pushed hint reply hints ≡ hints_after verb reply hints
  pub serves : (before : SerialState) → slice_get before.channels channel ≡ Some (run_of start past) →
      SerialCall contents channels tag reply verb before
      (with_hint_of hint reply (with_past channel after (run_of start past) before))

-- a fact of the channel's run
pub on_run : (fact : ChannelRun → Type 0) (runs : List ChannelRun) (channels channel page : ℕ)
    (run : ChannelRun) → page % channels ≡ channel → length runs ≡ channels →
    slice_get runs channel ≡ Some run → fact run → OfRun runs (page % length runs) fact
on_run fact runs channels channel page run on many is holds =
    let place : page % length runs ≡ channel = ap (λ (n : ℕ). page % n) many ∙ on in
    subst (λ option. IsSomeAnd option fact) (sym (ap (slice_get runs) place ∙ is)) holds

-- between two pasts of the channel, which is named or a page's, a fact holds that leads from the run before to the run after
pub on_channel : (fact : ChannelRun → List Entry → List Entry → Type 0) (named channel : ℕ)
    (run : ChannelRun) (after : List Entry) (before : SerialState) → named ≡ channel →
    slice_get before.channels channel ≡ Some run →
    fact run run.past after → OnChannel named fact before (with_past channel after run before)
on_channel fact named channel run after before on is holds =
    subst (λ (n : ℕ). OnChannel n fact before (with_past channel after run before)) (sym on)
    (record { run = run; past = after; is_there = is; holds = holds; after_is = refl })

-- numbers that are told to be one
pub same_Some : (a b : ℕ) → Some a ≡ Some b → a ≡ b
same_Some a b e = grind arith

-- the one step of an entry
abbrev pub one_step : Tag → Kind → List Entry → List CallStep
one_step tag kind past = record { past = past; entry = entry_of tag kind } ∷ []
