-- A look that an entry made stands at its position.
use Rattle.std.proofs.Common.{◌≡◌, ℕ, Option, Some, sym, ap}
use Rattle.std.specs.Prelude.{unwrap_or}
use Rattle.ssd_histories.specs.History.{look_made}
use Rattle.ssd_geo.specs.declared.kind.Kind.{Kind}
use Rattle.ssd_geo.specs.declared.look.Look.{Look}
use Rattle.ssd_geo.specs.declared.row.Row.{Row}

pub made_at : (at : ℕ) (kind : Kind) (look : Look) → look_made at kind ≡ Some look → look.at ≡ at
made_at at (Kind.Look row (Row.Page slot serial) closed) look e = ap (λ (o : Option Look). (unwrap_or o look).at) (sym e)
made_at at (Kind.Look row Row.Empty closed) look e = cc
made_at at (Kind.Look row Row.Lost closed) look e = cc
made_at at kind look e = cc
