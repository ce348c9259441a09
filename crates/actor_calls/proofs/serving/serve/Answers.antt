use Rattle.std.proofs.Common.{◌<◌, ◌/◌, ◌*◌, length, subst, sym}
use Rattle.std.specs.Prelude.{ℕ}
use Rattle.std.proofs.Math.Nat.{div-lt_iff_lt-mul}
use Rattle.ssd_geo.specs.declared.trace.Verb.{Verb}
use Rattle.ctl.specs.Asked.{FitsDrive}
use Rattle.actor_calls.proofs.serving.serve.Goals as goal

-- the page that was read is one of the drive's
pub push_hint-requires-clause-page : goal.push_hint-requires-clause-page
push_hint-requires-clause-page g c =
    let n = length c.args.channels.now in
    let page = c.in-Read.page in
    let rows = c.args.worker.now.shape.rows in
    let fits : page / n < rows =
    subst (λ (verb : Verb). FitsDrive c.args.worker.now.shape n verb) c.in-Read.is c.requires.fits in
    let below : page < rows * n = (div-lt_iff_lt-mul {k = n} {x = page} {y = rows} c.requires.low).0 fits in
    subst (λ (m : ℕ). page < m) (sym c.requires.pages) below
