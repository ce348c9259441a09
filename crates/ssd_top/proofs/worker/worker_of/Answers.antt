use Rattle.std.proofs.Common.{◌∙◌, List, ℤ, ap}
use Rattle.std.specs.List.{list_all}
use Rattle.ssd_geo.specs.Limits.{is_level}
use Rattle.ssd_top.proofs.worker.worker_of.Goals as goal

pub new-requires-clause-levels : goal.new-requires-clause-levels
new-requires-clause-levels c =
    ap (λ (levels : List ℤ). list_all is_level levels) c.in_ok-read_levels.ensures ∙ c.requires.levels
