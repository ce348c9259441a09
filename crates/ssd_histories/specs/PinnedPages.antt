-- Do the pages under an open look stay as they were? From a look to its leave, every page of its superblock that was
-- programmed at the look keeps its word, and no closed stripe of it opens. Each law is the contract of a function without
-- a body.
use Rattle.std.specs.Prelude.{ℕ, ◌≡◌, ◌<◌, ◌≤◌, false, List, length, All, Option, IsSome}
use Rattle.ssd_histories.specs.Blocks.{block_at}
use Rattle.ssd_geo.specs.Coding.{Coding}
use Rattle.ssd_histories.specs.History.{open_looks}
use Rattle.ssd_geo.specs.Ladder.{LadderState}
use Rattle.ssd_histories.specs.Lawful.{IsLawfulBy}
use Rattle.ssd_histories.specs.PastBlocks.{used_of}
use Rattle.ssd_histories.specs.PastPages.{StoredPage, page_of, word_of_page}
use Rattle.ssd_histories.specs.PlainMap.{past_at}
use Rattle.ssd_histories.specs.Start.{Start, cells_at_start}
use Rattle.ssd_histories.specs.States as States
use Rattle.ssd_geo.specs.Superblock.{due_pages}
use Rattle.ssd_geo.specs.declared.entry.Entry.{Entry}
use Rattle.ssd_geo.specs.declared.look.Look.{Look}
use Rattle.ssd_geo.specs.declared.place.Place.{Place}
use Rattle.ssd_geo.specs.declared.tag.Tag.{Tag}

-- the dies have just the pages that are due, in each superblock that isn't bad
abbrev pub HasDuePages : Start → Type 0
HasDuePages start =
    (die sb : ℕ) → die < start.base.shape.dies → sb < start.base.shape.superblocks
    → States.is_bad (block_at start.base.blocks sb).state ≡ false
    → length (cells_at_start start die sb).pages ≡ due_pages start.base.shape.dies sb (block_at start.base.blocks sb).used die

-- a page that was programmed still is, with the same word
pub record KeepsWord (before after : Option StoredPage) : Type 0 where
  pub programmed : IsSome after
  pub word : word_of_page after ≡ word_of_page before

-- since an open look, each page of its superblock that was programmed then kept its word, and no fewer slots are used
pub record KeepsPages (coding : Coding) (start : Start) (contents : List (Tag × List ℕ)) (past : List Entry) (pin : Tag × Look) : Type 0 where
  pub began : pin.1.at < length past
  pub pages :
      (place : Place) → place.sb ≡ pin.1.slot.sb → IsSome (page_of coding start contents (past_at past pin.1.at) place)
      → KeepsWord (page_of coding start contents (past_at past pin.1.at) place) (page_of coding start contents past place)
  pub used : used_of start.base (past_at past pin.1.at) pin.1.slot.sb ≤ used_of start.base past pin.1.slot.sb

-- each open look of a lawful past holds its superblock's pages fast
abbrev pub PinnedPagesStay : Type 0
PinnedPagesStay =
    (ladder : List Entry → ℕ → LadderState) (coding : Coding) (start : Start) (contents : List (Tag × List ℕ)) (past : List Entry) →
    HasDuePages start → IsLawfulBy ladder start.base past → All (KeepsPages coding start contents past) (open_looks past)
