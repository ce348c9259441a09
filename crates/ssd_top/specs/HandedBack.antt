-- Which dies does the top call take, and what has become of them at the end? It takes the most dies that a drive has, each of
-- which tells its blocks, and hands them back in their order. A work count rises only by calls of the trace, and a load count
-- only where the die is named by the status. Dies are mounted between the head of an image and its contents, which are loaded
-- into them.
use Rattle.std.specs.Prelude.{ℕ, ◌≡◌, ◌≢◌, ◌<◌, List, length, ⊤}
use Rattle.drive_dies.specs.Mounting.{AllTell, CountsFailure, CountsNone, EachBecomes}
use Rattle.onfi_cmd.specs.DieState.{DieState}
use Rattle.ssd_geo.specs.Faults.{Rose, RoseBy}
use Rattle.ssd_top.specs.declared.status.Status.{Status}
use Rattle.ssd_top.specs.declared.status.Status.TheVariants.{Done, Words, Image, Trace, ReadFault, WriteFault, HistoryLimit, OutOfMemory, DieFailed}

-- the most dies that a drive has, on all its channels, and the most channels
abbrev pub most_dies : ℕ
most_dies = 64

abbrev pub most_channels : ℕ
most_channels = 8

-- the dies that are handed in
pub record AreHandedIn (dies : List DieState) : Type 0 where
  pub count_is : length dies ≡ most_dies
  pub tell : AllTell dies

-- the counts of a die that took part in a run: its load count stays, and its work count rose by some faults or none
pub record CountsRun (old new : DieState) : Type 0 where
  pub loads_stay : new.load_count ≡ old.load_count
  pub works_rose : RoseBy 0 old.work_count new.work_count

abbrev pub AllCountRuns : List DieState → List DieState → Type 0
AllCountRuns olds news = EachBecomes (λ number old new. CountsRun old new) olds news

-- those of one that took part in a run and then may have been the one that failed, of this number: its load count rose then, and
-- no other's
pub record CountsRunOrLoad (failed number : ℕ) (old new : DieState) : Type 0 where
  pub works_rose : RoseBy 0 old.work_count new.work_count
  pub rose : number ≡ failed → Rose old.load_count new.load_count
  pub others : number ≢ failed → new.load_count ≡ old.load_count

pub record CountsRunAndFailure (failed : ℕ) (olds news : List DieState) : Type 0 where
  pub in_list : failed < length olds
  pub counts : EachBecomes (CountsRunOrLoad failed) olds news

-- no die counted a fault
abbrev pub AllCountNone : List DieState → List DieState → Type 0
AllCountNone olds news = EachBecomes (λ number old new. CountsNone old new) olds news

-- what became of the dies, by how the call ended. Where memory was refused some may be lost
abbrev pub AreHandedBack : Status → List DieState → List DieState → Type 0
AreHandedBack Words olds news = news ≡ olds
AreHandedBack (Image at fault) olds news = AllCountNone olds news
AreHandedBack (Trace line fault) olds news = AllCountNone olds news
AreHandedBack ReadFault olds news = AllCountNone olds news
AreHandedBack (DieFailed die) olds news = CountsFailure die olds news
AreHandedBack Done olds news = AllCountRuns olds news
AreHandedBack WriteFault olds news = AllCountRuns olds news
AreHandedBack (HistoryLimit channel length) olds news = AllCountRuns olds news
AreHandedBack OutOfMemory olds news = ⊤
