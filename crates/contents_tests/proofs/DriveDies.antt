-- A die of a drive is mounted with the drive's shape, so the shape's blocks and pages are its own.
use Rattle.std.proofs.Common.{ℕ, zero, suc, ◌≡◌, ◌<◌, List, [], ◌∷◌, get_or, map, slice_get, Option, Some, sym, ap, subst, ◌∙◌, arith}
use Rattle.std.specs.Prelude.{IsSomeAnd}
use Rattle.std.proofs.lemmas.List.{length-map}
use Rattle.std.proofs.lemmas.Option.{slice_get-get_or}
use Rattle.drive_dies.specs.Mounting.{die_count, plan_in_drive}
use Rattle.onfi_cmd.specs.DieCalls.{IsBlock, IsPage, IsWholePage, IsInShape}
use Rattle.onfi_cmd.specs.DieState.{DieState, cells_of_page}
use Rattle.onfi_cmd.specs.declared.plan.DiePlan.{DiePlan}
use Rattle.saved_drive.specs.Contents.{AreMounted}
use Rattle.ssd_geo.specs.Limits.{page_cells_of}
use Rattle.ssd_geo.specs.Shape.{sizes_of}
use Rattle.ssd_geo.specs.declared.head.ImageHead.{ImageHead}

mapped_at : {A B : Type 0} (f : A → B) (xs : List A) (k : ℕ) (x : A) → slice_get xs k ≡ Some x → slice_get (map f xs) k ≡ Some (f x)
mapped_at f [] k x at = absurd (cc)
mapped_at f (first ∷ xs) zero x at =
    let same : first ≡ x = cc in
    ap (λ y. Some (f y)) same
mapped_at f (first ∷ xs) (suc k) x at = mapped_at f xs k x at

module _ {A : Type 0} (state : A → DieState) (head : ImageHead) (dies : List A) (number : ℕ) (die : A)
    (mounted : AreMounted head (map state dies)) (below : number < die_count head) (is : die ≡ get_or dies number die) where
  its_plan : (state die).plan ≡ Some (plan_in_drive head number)
  its_plan =
      let at : slice_get dies number ≡ Some die =
      slice_get-get_or dies number die (omega (arith, below, mounted.enough, length-map dies state)) ∙ ap (λ (x : A). Some x) (sym is) in
      (mounted.each number (state die) below (mapped_at state dies number die at)).plan_is

  pub has_block : (sb : ℕ) → sb < head.shape.superblocks → IsBlock (state die) sb
  has_block sb low =
      subst (λ (plan : Option DiePlan). IsSomeAnd plan (λ plan. sb < plan.shape.superblocks)) (sym its_plan) low

  pub has_page : (sb page : ℕ) → sb < head.shape.superblocks → page < head.shape.pages → IsPage (state die) sb page
  has_page sb page low short =
      subst (λ (plan : Option DiePlan). IsSomeAnd plan (λ plan. IsInShape plan sb page)) (sym its_plan)
      (record { block = low; page_within = short })

  pub has_cells : (cells : ℕ) → cells ≡ page_cells_of (sizes_of head.shape) → IsWholePage (state die) cells
  has_cells cells all =
      subst (λ (plan : Option DiePlan). IsSomeAnd plan (λ plan. cells ≡ cells_of_page plan)) (sym its_plan) all
