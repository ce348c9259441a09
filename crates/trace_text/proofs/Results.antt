-- What it says of the steps that a value or a fault comes of them.
use Rattle.std.proofs.Common.{◌≡◌, refl, ◌<◌, ◌≤◌, ℕ, ◌&&◌, Bool, true, false, cond, Option, Some, None, Result, Ok, Err, nat_lt}
use Rattle.std.specs.Prelude.{ok_or, option_and_then, option_map}
use Rattle.ssd_formats.specs.Fields.{◌>>=◌, passing}
use Rattle.ssd_geo.specs.Limits.{is_within}
use Rattle.std.proofs.lemmas.Grind.{common_steps}
use Rattle.std.proofs.Common.{arith}

-- the same of options
pub then_from : {A B : Type 0} (first : Option A) (next : A → Option B) (value : B) → option_and_then next first ≡ Some value → (x : A) × (first ≡ Some x) × (next x ≡ Some value)
then_from (Some x) next value e = (x, refl, e)
then_from None next value e = absurd (cc)

-- a value that was mapped
pub mapped_from : {A B : Type 0} (found : Option A) (f : A → B) (value : B) → option_map f found ≡ Some value → (x : A) × (found ≡ Some x) × (f x ≡ value)
mapped_from (Some x) f value e = (x, refl, cc)
mapped_from None f value e = absurd (cc)

-- a value in place of which a fault would stand
pub some_from : {A F : Type 0} (found : Option A) (fault : F) (value : A) → ok_or found fault ≡ Ok value → found ≡ Some value
some_from (Some x) fault value e = cc
some_from None fault value e = absurd (cc)

-- a choice
pub chosen : {A : Type 0} {Q : Type 0} (b : Bool) (x y z : A) → (x ≡ z → Q) → (y ≡ z → Q) → cond b x y ≡ z → Q
chosen true x y z f g e = f e
chosen false x y z f g e = g e
