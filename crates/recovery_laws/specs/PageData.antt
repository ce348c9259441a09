-- Which data has a write, and what has the word of it? A write has as many bytes as a page of the drive. Each law is the
-- contract of a function without a body.
use Rattle.std.specs.Prelude.{ℕ, ◌≡◌, List, Some}
use Rattle.ssd_geo.specs.Coding.{coding_of, data_in}
use Rattle.ssd_geo.specs.declared.base.ChannelBase.{ChannelBase}
use Rattle.ssd_histories.specs.LastWrites.{IsData}

-- the word of a write begins with the head of its serial and row, and has its data behind that
abbrev pub WordsHaveData : Type 0
WordsHaveData =
    (base : ChannelBase) (serial row : ℕ) (data_bytes : List ℕ) → IsData base.shape.bytes data_bytes →
    data_in base.shape serial row ((coding_of base).encoded serial row data_bytes) ≡ Some data_bytes
