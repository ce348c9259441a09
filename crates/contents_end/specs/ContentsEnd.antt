-- May what a channel has be saved, so that it is read again? A start is what a channel has before its first entry; what it has
-- after its last one is a start for the next session. Contents that are made of a start have a spelling, where factory bad
-- superblocks are bad, and serials and levels are in their ranges. Each law is the contract of a function without a body.
use Rattle.std.specs.Prelude.{ℕ, ◌≡◌, ◌<◌, All, true}
use Rattle.std.specs.List.{list_all}
use Rattle.ssd_geo.specs.Limits.{is_level}
use Rattle.ssd_geo.specs.Shape.{sizes_of}
use Rattle.ssd_geo.specs.declared.base.ChannelBase.{ChannelBase}
use Rattle.ssd_histories.specs.Blocks.{block_at}
use Rattle.ssd_histories.specs.Standing.{IsStart}
use Rattle.ssd_histories.specs.Start.{Start, cells_at_start}
use Rattle.ssd_histories.specs.States.{is_bad}
use Rattle.run_laws.specs.Serials.{HasSmallSerials}
use Rattle.ssd_formats.specs.ImageContents.{IsBaseOf, IsSaved, is_factory_bad, saved_channel}
use Rattle.ssd_formats.specs.ImageHead.{Head, IsHead}

-- the fields of a base that stand in a head are those of this head, and the base is of the channel with this number
pub record IsOfHead (head : Head) (channel : ℕ) (base : ChannelBase) : Type 0 where
  pub shape : sizes_of base.shape ≡ head.sizes
  pub session : base.session ≡ head.session
  pub number : base.channel ≡ channel
  pub entries : base.entries ≡ head.entries
  pub read_levels : base.read_levels ≡ head.read_levels
  pub iterations : base.iterations ≡ head.iterations
  pub step : base.step ≡ head.step
  pub law : base.law ≡ head.law
  pub weak : base.weak ≡ head.weak

-- what an image asks of a start beside what a channel asks of it
pub record IsSavable (head : Head) (channel : ℕ) (start : Start) : Type 0 where
  pub of_head : IsOfHead head channel start.base
  pub listed_bad :
      (sb : ℕ) → sb < start.base.shape.superblocks → is_factory_bad head channel sb ≡ true
      → is_bad (block_at start.base.blocks sb).state ≡ true
  pub serials : HasSmallSerials start.base
  pub levels :
      (die sb : ℕ) → die < start.base.shape.dies → sb < start.base.shape.superblocks
      → All (λ page. list_all is_level page ≡ true) (cells_at_start start die sb).pages

-- contents that are made of a start have a spelling, and so they are read again
abbrev pub StartsAreSaved : Type 0
StartsAreSaved =
    (head : Head) (channel : ℕ) (start : Start) → IsHead head → IsStart start → IsSavable head channel start →
    IsSaved head channel (saved_channel start.base start.cells)

-- and the base of the start is theirs
abbrev pub SavedStartsHaveTheirBases : Type 0
SavedStartsHaveTheirBases =
    (head : Head) (channel : ℕ) (start : Start) → IsStart start → IsOfHead head channel start.base →
    IsBaseOf head channel (saved_channel start.base start.cells) start.base
