use Rattle.std.proofs.Common.{ap, false, List, [], ◌∷◌, None, Option, refl, ℕ}
use Rattle.ssd_geo.specs.Shape.{sizes_of}
use Rattle.retry_ladder.specs.Work.{WorkView}
use Rattle.retry_ladder.specs.declared.place_work.PlaceWork.TheInside.{Inside}
use Rattle.retry_ladder.proofs.KeptCodes.{none_is_kept}
use Rattle.retry_ladder.proofs.place_work.PlaceWork.begin.Goals as goal

-- the view before the first sense, with what is kept
abbrev begun_view : Inside → List (Option (List ℕ)) → WorkView
begun_view a kept = record {
  shape = a.shape;
  levels = a.read_levels;
  step = a.step;
  run = record { left = a.read_levels; rung = 0; kept = kept; best = None; five = [] };
  word = a.word.items;
}

pub returns : goal.returns
returns c =
    rw (← c.self.view_is) (ap (begun_view c.self.inside)
    (none_is_kept (sizes_of c.self.inside.shape) (false ∷ false ∷ false ∷ false ∷ []) 4 c.self.inside.word.items refl))
