-- The dies of a channel that are mounted tell their pages.
use Rattle.std.proofs.Common.{List}
use Rattle.chan_dies.proofs.OperationLemmas.{planned_then}
use Rattle.chan_dies.specs.DiesState.{AreMounted, IsMountedDie, die_at}
use Rattle.contents_file.specs.DiesCopied.{AllTellPages}
use Rattle.onfi_cmd.specs.DieState.{DieState}
use Rattle.ssd_geo.specs.declared.shape.Shape.{Shape}

pub mounted_tell : (shape : Shape) (dies : List DieState) → AreMounted shape dies → AllTellPages shape dies
mounted_tell shape dies are = record {
  count_is = are.count_is;
  each = λ die within.
      let is : IsMountedDie shape die (die_at dies die) = are.each die within in
      record { mounted = planned_then (die_at dies die).plan (λ plan of. of.shape_is) is.mounted; tells = is.tells };
}
