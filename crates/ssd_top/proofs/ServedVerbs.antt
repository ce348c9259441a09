-- The numbers of a verb that fits the drive fit their fields.
use Rattle.std.proofs.Common.{ℕ, ◌≤◌, arith}
use Rattle.ctl.specs.Asked.{FitsDrive}
use Rattle.run_laws.specs.SpelledPasts.{IsSmallVerb}
use Rattle.ssd_geo.specs.declared.shape.Shape.{Shape}
use Rattle.ssd_geo.specs.declared.trace.Verb.{Verb}

-- the amount of an ageing that fits the drive fits its field
pub small_verb : (shape : Shape) (channels : ℕ) (verb : Verb) → FitsDrive shape channels verb →
    IsSmallVerb verb
small_verb shape channels (Verb.Write page content) fits = tt
small_verb shape channels (Verb.Read page) fits = tt
small_verb shape channels (Verb.Trim page) fits = tt
small_verb shape channels (Verb.Age channel die sb amount) fits =
    let high : amount ≤ 16383 = fits.4 in omega (arith, high)
small_verb shape channels (Verb.Refresh page) fits = tt
small_verb shape channels (Verb.Collect channel) fits = tt
small_verb shape channels (Verb.Drain count) fits = tt
