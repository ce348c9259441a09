-- The pages that a die counts in a block are those that it tells, and no more than a block has.
use Rattle.std.proofs.Common.{◌≡◌, ap, ℕ, ◌<◌, ◌≤◌, true, List, [], Option, Some, None, arith}
use Rattle.std.specs.Prelude.{IfSome, IsSomeAnd, is_some}
use Rattle.std.specs.Option.{unwrap_or}
use Rattle.ssd_geo.specs.BlockCells.{BlockCells}
use Rattle.ssd_geo.specs.declared.shape.Shape.{Shape}
use Rattle.chan_dies.specs.DiesState.{IsMountedDie, IsPlanOf, blocks_in}
use Rattle.onfi_cmd.specs.DieCalls.{IsBlock, IsMountedAnd}
use Rattle.onfi_cmd.specs.DieState.{DieState, programmed_in}
use Rattle.onfi_cmd.specs.declared.plan.DiePlan.{DiePlan}

-- what holds of each plan with a property holds of the one that is there
some_and : {A : Type 0} (o : Option A) (P Q : A → Type 0) → ((x : A) → P x → Q x) → IsSomeAnd o P → IsSomeAnd o Q
some_and (Some x) P Q each has = each x has
some_and None P Q each has = absurd has

few_by : (shape : Shape) (plan : Option DiePlan) (told : Option (List BlockCells)) (sb count : ℕ)
    → IsSomeAnd plan (λ of. of.shape ≡ shape) → is_some told ≡ true → IsSomeAnd plan (λ of. count ≤ of.shape.pages)
    → IfSome told (λ blocks. count ≡ programmed_in blocks sb) → programmed_in (unwrap_or told []) sb ≤ shape.pages
few_by shape None told sb count is tells most same = absurd is
few_by shape (Some plan) None sb count is tells most same = absurd (cc)
few_by shape (Some plan) (Some blocks) sb count is tells most same =
    omega (arith, most, same, ap (λ (of : Shape). of.pages) is)

-- the count of a block
pub few_in_block : (shape : Shape) (die : DieState) (sb count : ℕ) → IsMountedAnd die (λ plan. plan.shape ≡ shape)
    → is_some die.told ≡ true → IsMountedAnd die (λ plan. count ≤ plan.shape.pages)
    → IfSome die.told (λ blocks. count ≡ programmed_in blocks sb) → programmed_in (blocks_in die) sb ≤ shape.pages
few_in_block shape die sb count is tells most same = few_by shape die.plan die.told sb count is tells most same

-- a block of a drive of a shape is one of its die's
pub is_block : (shape : Shape) (die : DieState) (sb : ℕ) → IsMountedAnd die (λ plan. plan.shape ≡ shape) → sb < shape.superblocks
    → IsBlock die sb
is_block shape die sb is below =
    some_and die.plan (λ plan. plan.shape ≡ shape) (λ plan. sb < plan.shape.superblocks)
    (λ plan same. omega (arith, below, ap (λ (of : Shape). of.superblocks) same)) is

-- a mounted die has the shape of its drive
pub shape_of_die : (shape : Shape) (number : ℕ) (die : DieState) → IsMountedDie shape number die
    → IsMountedAnd die (λ plan. plan.shape ≡ shape)
shape_of_die shape number die is =
    some_and die.plan (IsPlanOf shape number) (λ plan. plan.shape ≡ shape) (λ plan of. of.shape_is) is.mounted
