use Rattle.std.proofs.Common.{refl}
use Rattle.history_laws.proofs.examples.lost_reserve.Goals as goal

pub returns : goal.returns
returns c = record {
  first = λ within. record { bad_are = refl; reserve_is = refl; worn_is = refl; full_is = refl };
  full = λ within. record { bad_are = refl; reserve_is = refl; worn_is = refl; full_is = refl };
  copied = λ within. record { bad_are = refl; reserve_is = refl; worn_is = refl; full_is = refl };
  fits = λ within. (refl, refl);
  worn = λ within. record { bad_are = refl; reserve_is = refl; worn_is = refl; full_is = refl };
}
