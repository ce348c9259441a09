-- Two shapes that hold the same sizes are the same.
use Rattle.std.proofs.Common.{◌≡◌, ℕ}
use mathlib.Core.HLevel.{is_prop→PathP}
use denote.Struct.Props.{props}
use Rattle.ssd_geo.specs.Limits.{IsWithinLimits, Sizes}
use Rattle.ssd_geo.specs.Shape.{sizes_of}
use Rattle.ssd_geo.specs.declared.shape.Shape.{Shape}

within_prop : (sizes : Sizes) → IsProp (IsWithinLimits sizes)
within_prop sizes = hlevel props

pub same_shape : (s t : Shape) → sizes_of s ≡ sizes_of t → s ≡ t
same_shape s t e = λ i. record {
  words = (e i).words;
  channels = (e i).channels;
  dies = (e i).dies;
  superblocks = (e i).superblocks;
  pages = (e i).pages;
  z = (e i).z;
  mb = (e i).mb;
  nb = (e i).nb;
  bytes = (e i).bytes;
  rows = (e i).rows;
  within = is_prop→PathP (λ j. IsWithinLimits (e j)) (λ j. within_prop (e j)) s.within t.within i;
}
