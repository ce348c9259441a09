use Rattle.std.proofs.Common.{ap, false, List, [], ◌∷◌, None, Option, refl, ℕ, ℤ}
use Rattle.ssd_geo.specs.Shape.{sizes_of}
use Rattle.retry_ladder.specs.Running.{PlaceRun}
use Rattle.retry_ladder.proofs.KeptCodes.{none_is_kept}
use Rattle.retry_ladder.proofs.place_work.PlaceWork.new.Goals as goal

-- the work before the first sense, with what is kept
abbrev begun_run : List ℤ → List (Option (List ℕ)) → PlaceRun
begun_run levels kept = record { left = levels; rung = 0; kept = kept; best = None; five = [] }

pub returns-clause-run : goal.returns-clause-run
returns-clause-run c =
    ap (begun_run c.args.read_levels)
    (none_is_kept (sizes_of c.args.shape) (false ∷ false ∷ false ∷ false ∷ []) 4 c.in_ok-word.word.items refl)
