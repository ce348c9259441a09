-- What becomes of an actor's pass of the queue of hints? A read whose reply is a hint pushes its page, or meets the queue full; a
-- drain takes pages; no other call touches it.
use Rattle.std.specs.Prelude.{ℕ, ◌≡◌, ◌⊎◌, ◌≤◌, ◌*◌, Bool, true, false, List, ◌++◌, length, map, Result, Ok, Err}
use Rattle.std.specs.List.{list_any}
use Rattle.hint_queue.specs.Orders.{HintPassState, having_met_full, having_pushed, knowing_all_taken}
use Rattle.ssd_formats.specs.RunText.{is_hinted}
use Rattle.ssd_geo.specs.declared.reply.RefreshReply.{RefreshReply}
use Rattle.ssd_geo.specs.declared.reply.Reply.{Reply}
use Rattle.ssd_geo.specs.declared.shape.Shape.{Shape}
use Rattle.ssd_geo.specs.declared.stop.ServeStop.{ServeStop}
use Rattle.ssd_geo.specs.declared.trace.Verb.{Verb}
use Rattle.ssd_histories.specs.Replies.{is_die_fault}

-- the pages of a queue are those of a drive: each page is a row of its channel, of so many
abbrev pub HasPagesOf : Shape → ℕ → ℕ → Type 0
HasPagesOf shape channels pages = pages ≡ shape.rows * channels

-- a page was pushed, or met the queue full, if it was to be
abbrev pub PushesIf : Bool → ℕ → HintPassState → HintPassState → Type 0
PushesIf true page old new = (new ≡ having_pushed old page) ⊎ (new ≡ having_met_full old)
PushesIf false page old new = new ≡ old

-- a pass that took some pages more
abbrev pub having_taken_all : HintPassState → List ℕ → HintPassState
having_taken_all pass pages = record pass { taken = pass.taken ++ pages }

-- the pages that a drain refreshed
abbrev pub pages_of : List (ℕ × RefreshReply) → List ℕ
pages_of drained = map (λ page. page.0) drained

-- a drain came to its end by itself: it refreshed as many pages as it was asked for, or the call of a die failed
abbrev pub HasItsPages : ℕ → List (ℕ × RefreshReply) → Type 0
HasItsPages count drained = (length drained ≡ count) ⊎ (list_any (λ page. is_die_fault page.1) drained ≡ true)

-- a drain took the pages that it refreshed, and where it has fewer than it was asked for, all that the pass pushed were taken
pub data TakesHints (count : ℕ) (drained : List (ℕ × RefreshReply)) (old new : HintPassState) : Type 0 where
  by_itself : HasItsPages count drained → new ≡ having_taken_all old (pages_of drained) → TakesHints count drained old new
  none_waits : new ≡ knowing_all_taken (having_taken_all old (pages_of drained)) → TakesHints count drained old new

-- a drain that stopped took some pages, at most as many as it was asked for
pub record HasTakenSome (count : ℕ) (old new : HintPassState) : Type 0 where
  pub pages : List ℕ
  pub few : length pages ≤ count
  pub new_is : new ≡ having_taken_all old pages

-- what a drain and a read made of the pass
abbrev pub DrainsPass : ℕ → Result Reply ServeStop → HintPassState → HintPassState → Type 0
DrainsPass count (Ok (Reply.Drained pages)) old new = TakesHints count pages old new
DrainsPass count (Ok reply) old new = ⊥
DrainsPass count (Err stop) old new = HasTakenSome count old new

abbrev pub ReadsPass : ℕ → Result Reply ServeStop → HintPassState → HintPassState → Type 0
ReadsPass page (Ok reply) old new = PushesIf (is_hinted reply) page old new
ReadsPass page (Err stop) old new = new ≡ old

-- what a call of a verb made of it
abbrev pub UsesPass : Verb → Result Reply ServeStop → HintPassState → HintPassState → Type 0
UsesPass (Verb.Drain count) result old new = DrainsPass count result old new
UsesPass (Verb.Read page) result old new = ReadsPass page result old new
UsesPass verb result old new = new ≡ old
