-- Tests of numbers, and what one of two tests says of both, where std has no lemma.
use Rattle.std.proofs.Common.{◌≡◌, refl, ℕ, Bool, true, false, cond, Some, None, ◌&&◌, arith, ◌||◌, ◌<◌, ◌==◌}
use Rattle.std.proofs.lemmas.Bool.Decides.{nat_tests}
use Rattle.std.specs.Prelude.{◌==◌}
use Rattle.std.proofs.lemmas.Grind.{common_steps}

pub not_passed : (b : Bool) (m : ℕ) → cond b (Some m) None ≡ None → b ≡ false
not_passed true m e = absurd (cc)
not_passed false m e = refl

-- the middle of three tests
pub middle_holds : (a b d : Bool) → (a && b && d) ≡ true → b ≡ true
middle_holds true true d e = refl
middle_holds true false d e = absurd (grind (arith, e))
middle_holds false true d e = refl
middle_holds false false d e = absurd (grind (arith, e))

-- whether a number stands in the list after a superblock was moved to its end
pub or_false : (b : Bool) → (b || false) ≡ b
or_false true = refl
or_false false = refl

pub is_other : (k r : ℕ) → k < r → (k == r) ≡ false
is_other k r h = grind (arith, nat_tests)

pub is_other_above : (k r : ℕ) → r < k → (k == r) ≡ false
is_other_above k r h = grind (arith, nat_tests)

pub same_number : (n : ℕ) → (n == n) ≡ true
same_number n = grind (arith, common_steps)
