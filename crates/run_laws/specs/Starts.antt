-- With what do the channels of a run begin? The starts are a function of the image, of the limit of the histories, and of what is
-- handed in for each channel. The image's sizes are given as a shape, since the base of a channel has its
-- sizes as one: no two shapes have the same sizes, so an image leaves none free.
use Rattle.std.specs.Prelude.{ℕ, ◌≡◌, ◌+◌, List, [], ◌∷◌, Option}
use Rattle.ssd_histories.specs.Start.{Start}
use Rattle.ssd_formats.specs.ImageContents.{ChannelImage, blocks_of_saved, cells_of_saved, sum_of_saved}
use Rattle.ssd_formats.specs.ImageHead.{Head}
use Rattle.ssd_geo.specs.Shape.{sizes_of}
use Rattle.ssd_geo.specs.declared.base.ChannelBase.{ChannelBase}
use Rattle.ssd_geo.specs.declared.policy_view.PolicyView.{PolicyView}
use Rattle.ssd_geo.specs.declared.shape.Shape.{Shape}
use Rattle.run_laws.specs.Runs.{FaultCounts, Run}

-- what is handed in for a channel: the counts of faults of its dies, and the view that its policy tells, if it tells one
pub record Handed : Type 0 where
  pub faults : FaultCounts
  pub view : Option PolicyView

-- the base of a channel, from the head of the image and what it tells of the channel
abbrev pub base_of : Shape → Head → ℕ → ChannelImage → ChannelBase
base_of shape head channel saved = record {
  shape = shape;
  session = head.session;
  blocks = blocks_of_saved saved.blocks;
  rows = saved.rows;
  sum = sum_of_saved head.sizes saved;
  channel = channel;
  entries = head.entries;
  read_levels = head.read_levels;
  iterations = head.iterations;
  step = head.step;
  law = head.law;
  weak = head.weak;
}

-- the start of a channel
abbrev pub start_of : Shape → Head → ℕ → ℕ → ChannelImage → Handed → Start
start_of shape head limit channel saved handed = record {
  base = base_of shape head channel saved;
  limit = limit;
  cells = cells_of_saved head.sizes saved;
  work_faults = handed.faults.work;
  load_faults = handed.faults.load;
  view = handed.view;
}

-- those of the channels from this number on
abbrev pub starts_from : Shape → Head → ℕ → ℕ → List ChannelImage → List Handed → List Start
starts_from shape head limit channel [] others = []
starts_from shape head limit channel (saved ∷ more) [] = []
starts_from shape head limit channel (saved ∷ more) (handed ∷ others) =
    start_of shape head limit channel saved handed ∷ starts_from shape head limit (channel + 1) more others

-- those of all channels of an image
abbrev pub starts_of : Shape → Head → ℕ → List ChannelImage → List Handed → List Start
starts_of shape head limit saved handed = starts_from shape head limit 0 saved handed

-- a run begins with the starts of an image, a limit and what was handed in
pub record BeginsWith (head : Head) (saved : List ChannelImage) (limit : ℕ) (handed : List Handed) (run : Run) : Type 0 where
  pub shape : Shape
  pub sizes_are : sizes_of shape ≡ head.sizes
  pub starts_are : run.starts ≡ starts_of shape head limit saved handed
