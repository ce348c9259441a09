-- The dies that fit a past hold what it says, and each counted the faults of which its entries tell.
use Rattle.std.proofs.Common.{ℕ, ◌≡◌, List, map, subst, sym}
use Rattle.std.proofs.Math.ListN.{get_or-map}
use Rattle.chan_dies.specs.DiesState.{die_at, no_die}
use Rattle.chan_fits.specs.DiesFit.{DiesFit}
use Rattle.onfi_cmd.specs.DieState.{DieState}
use Rattle.ssd_histories.specs.Standing.{CountsFaults, count_at}
use Rattle.ssd_histories.specs.Start.{Start}
use Rattle.ssd_geo.specs.declared.entry.Entry.{Entry}
use Rattle.final_dies.specs.FinalDies.{FittingDiesHold, counts_of}

works_are : (dies : List DieState) (die : ℕ) → count_at (counts_of dies).work die ≡ (die_at dies die).work_count
works_are dies die = get_or-map (λ (state : DieState). state.work_count) dies die no_die

loads_are : (dies : List DieState) (die : ℕ) → count_at (counts_of dies).load die ≡ (die_at dies die).load_count
loads_are dies die = get_or-map (λ (state : DieState). state.load_count) dies die no_die

counted : (start : Start) (past : List Entry) (dies : List DieState) (die : ℕ) →
    CountsFaults start past die (die_at dies die).work_count (die_at dies die).load_count →
    CountsFaults start past die (count_at (counts_of dies).work die) (count_at (counts_of dies).load die)
counted start past dies die held =
    subst (λ (work : ℕ). CountsFaults start past die work (count_at (counts_of dies).load die)) (sym (works_are dies die))
    (subst (λ (load : ℕ). CountsFaults start past die (die_at dies die).work_count load) (sym (loads_are dies die)) held)

pub fitting_dies_hold : FittingDiesHold
fitting_dies_hold start contents past dies sum fit = record {
  hold = record { pages_are = fit.pages_are; erases_are = fit.erases_are };
  count = λ die low. counted start past dies die (fit.counts die low);
}
