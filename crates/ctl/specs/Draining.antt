-- What comes of a drain page by page? Each page in front of the hints is refreshed on its channel, until a die's call failed;
-- where the history of that channel has no room for its look, or memory is refused, nothing changed on any channel.
use Rattle.std.specs.Prelude.{ℕ, ◌≡◌, ◌≤◌, ◌%◌, List, length, Result, Ok, Err, ⊤}
use Rattle.chan_calls.specs.Workers.{WorkerState}
use Rattle.ctl.specs.Asked.{HintsFit}
use Rattle.ctl.specs.BrokenOff.{BreaksOffInDrain}
use Rattle.ctl.specs.Seen.{SeenChannel, pasts_of}
use Rattle.ctl.specs.Served.{AreStanding, KeepRooms}
use Rattle.run_laws.specs.ServedRuns.{IsServedDrain, RefreshesOn}
use Rattle.run_laws.specs.StoppedRuns.{HasNoRoomToLook, StopsInDrain}
use Rattle.ssd_geo.specs.declared.reply.RefreshReply.{RefreshReply}
use Rattle.ssd_geo.specs.declared.reply.Reply.{Reply}
use Rattle.ssd_geo.specs.declared.stop.ServeStop.{ServeStop}
use Rattle.ssd_geo.specs.declared.tag.Tag.{Tag}
use Rattle.ssd_histories.specs.Start.{Start}

-- channels, at most eight, stand for some starts for which the worker works
pub record MayRefresh (worker : WorkerState) (channels : List SeenChannel) : Type 0 where
  pub starts : List Start
  pub contents : List (Tag × List ℕ)
  pub standing : AreStanding worker channels starts contents
  pub some_channel : 1 ≤ length channels
  pub few_channels : length channels ≤ 8

-- what the channels stood for they stand for, and this holds of it
abbrev pub OfEachStart : WorkerState → List SeenChannel → List SeenChannel →
    (List Start → List (Tag × List ℕ) → Type 0) → Type 0
OfEachStart worker olds news fact =
    (starts : List Start) (contents : List (Tag × List ℕ)) → AreStanding worker olds starts contents →
    AreStanding worker news starts contents × fact starts contents

-- a page was refreshed on its channel, with this reply
pub record IsRefreshed (worker : WorkerState) (olds news : List SeenChannel) (tag : Tag) (page : ℕ) (reply : RefreshReply)
    : Type 0 where
  pub rooms : KeepRooms olds news
  pub refreshed :
      OfEachStart worker olds news
      (λ starts contents. RefreshesOn contents starts tag page reply (pasts_of olds) (pasts_of news))

-- the history of a page's channel, of so many entries, had no room for its look
pub record IsLeftOut (worker : WorkerState) (olds news : List SeenChannel) (page channel entries : ℕ) : Type 0 where
  pub rooms : KeepRooms olds news
  pub channel_is : channel ≡ page % length olds
  pub pasts_stay : pasts_of news ≡ pasts_of olds
  pub no_room : OfEachStart worker olds news (λ starts contents. HasNoRoomToLook starts (pasts_of olds) channel entries)

-- memory was refused to the look of a page's refresh
pub record IsRefused (worker : WorkerState) (olds news : List SeenChannel) : Type 0 where
  pub pasts_stay : pasts_of news ≡ pasts_of olds
  pub stands : OfEachStart worker olds news (λ starts contents. ⊤)

-- how the refresh of a page ended
abbrev pub Refreshes : WorkerState → List SeenChannel → List SeenChannel → Tag → ℕ → Result RefreshReply ServeStop → Type 0
Refreshes worker olds news tag page (Ok reply) = IsRefreshed worker olds news tag page reply
Refreshes worker olds news tag page (Err (ServeStop.HistoryFull channel entries)) =
    IsLeftOut worker olds news page channel entries
Refreshes worker olds news tag page (Err ServeStop.Memory) = IsRefused worker olds news

-- a drain of so many hints came to its end
pub record HasDrained (worker : WorkerState) (olds news : List SeenChannel) (hints left : List ℕ) (tag : Tag) (count : ℕ)
    (reply : Reply) : Type 0 where
  pub rooms : KeepRooms olds news
  pub hints_fit : HintsFit worker.shape (length olds) hints → HintsFit worker.shape (length olds) left
  pub drained :
      OfEachStart worker olds news
      (λ starts contents. IsServedDrain contents starts tag count reply (pasts_of olds) hints (pasts_of news) left)

-- or it stopped on this channel, whose history has so many entries
pub record HasStoppedInDrain (worker : WorkerState) (olds news : List SeenChannel) (hints left : List ℕ) (tag : Tag)
    (count channel entries : ℕ) : Type 0 where
  pub rooms : KeepRooms olds news
  pub stopped :
      OfEachStart worker olds news
      (λ starts contents.
      StopsInDrain contents starts tag channel entries count (pasts_of olds) hints (pasts_of news) left)

-- how a drain ended
abbrev pub Drains : WorkerState → List SeenChannel → List SeenChannel → List ℕ → List ℕ → Tag → ℕ →
    Result Reply ServeStop → Type 0
Drains worker olds news hints left tag count (Ok reply) = HasDrained worker olds news hints left tag count reply
Drains worker olds news hints left tag count (Err (ServeStop.HistoryFull channel entries)) =
    HasStoppedInDrain worker olds news hints left tag count channel entries
Drains worker olds news hints left tag count (Err ServeStop.Memory) =
    OfEachStart worker olds news
    (λ starts contents. BreaksOffInDrain contents starts tag count (pasts_of olds) hints (pasts_of news) left)
