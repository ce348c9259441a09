-- What a verb that fits the drive has: a channel of the drive.
use Rattle.std.proofs.Common.{ℕ, ◌≡◌, ◌%◌, ◌<◌, Some, arith}
use Rattle.ctl.specs.Asked.{FitsDrive}
use Rattle.run_laws.specs.ServedRuns.{channel_of}
use Rattle.ssd_geo.specs.declared.shape.Shape.{Shape}
use Rattle.ssd_geo.specs.declared.trace.Verb.{Verb}

-- the channel of a verb that fits the drive is one of its channels
pub channel_low : (shape : Shape) (n k : ℕ) (verb : Verb) → 0 < n → channel_of n verb ≡ Some k → FitsDrive shape n verb → k < n
channel_low shape n k (Verb.Write page content) some on fits =
    let own : page % n ≡ k = cc in omega (arith, own)
channel_low shape n k (Verb.Read page) some on fits =
    let own : page % n ≡ k = cc in omega (arith, own)
channel_low shape n k (Verb.Trim page) some on fits =
    let own : page % n ≡ k = cc in omega (arith, own)
channel_low shape n k (Verb.Refresh page) some on fits =
    let own : page % n ≡ k = cc in omega (arith, own)
channel_low shape n k (Verb.Age channel die sb amount) some on fits =
    let own : channel ≡ k = cc in
    let low : channel < n = fits.0 in
    omega (arith, own, low)
channel_low shape n k (Verb.Collect channel) some on fits =
    let own : channel ≡ k = cc in
    omega (arith, own, fits)
channel_low shape n k (Verb.Drain count) some on fits = absurd (cc)
