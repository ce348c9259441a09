-- The pages of a drain that stopped, from the laws of drains.
use Rattle.std.proofs.Common.{[], ◌∷◌, length}
use Rattle.std.proofs.lemmas.Option.{slice_get_within}
use Rattle.calls_among_others.proofs.AmongSteps.{came_then}
use Rattle.race_laws.specs.Drains.{AreDrainedOn, DrainsTakeFew, RefreshedPagesAreDrained}
use Rattle.serial_laws.proofs.Lists.{all_numbered}
use Rattle.shared_lemmas.proofs.Lists.{numbered_at}
use Rattle.made_races.specs.BegunDrains.{BegunDrainsTakeFew, HasRefreshedOn, RefreshedStays}

pub refreshed_stays : RefreshedStays
refreshed_stays start contents channels tag [] before seen past come made = came_then tag.actor before seen past made come
refreshed_stays start contents channels tag (drained ∷ pages) before seen past come (between, first, made) =
    (between, first, refreshed_stays start contents channels tag pages between seen past come made)

pub begun_drains_take_few : RefreshedPagesAreDrained → DrainsTakeFew → BegunDrainsTakeFew
begun_drains_take_few drained few contents runs tag count pages refreshed last many =
    few contents runs tag count pages
    (all_numbered (AreDrainedOn contents (length runs) tag pages) runs
    (λ i run there.
    let own = numbered_at (HasRefreshedOn contents (length runs) tag pages) runs i run refreshed there in
    drained run.start contents (length runs) i tag pages own.before run.past (slice_get_within runs i run there) last own.none_before
    own.are_refreshed)) last many
