-- A program or an erase of a block of a mounted die ends as the block's weakness says.
use Rattle.std.proofs.Common.{◌≡◌, ℕ, Bool, true, false, Ok, List, [], sym, subst, ap, ◌∙◌, refl}
use Rattle.std.specs.Prelude.{Option, Some, None, IfSome, IsSomeAnd, IsFalse, ◌==◌, is_some, if◌then◌else◌}
use Rattle.std.specs.Option.{unwrap_or}
use Rattle.ssd_geo.specs.BlockCells.{BlockCells, cells_at}
use Rattle.ssd_geo.specs.declared.place.Place.{Place}
use Rattle.ssd_geo.specs.declared.shape.Shape.{Shape}
use Rattle.onfi_cmd.specs.Addresses.{block_of_row, page_of_row}
use Rattle.onfi_cmd.specs.DieCalls.{HasOutcome, IsWorkCall}
use Rattle.onfi_cmd.specs.DieState.{DieState, changes_unless_weak, is_weak, outcome_of, programmed_levels, status_failed, status_passed, with_page}
use Rattle.onfi_cmd.specs.declared.op.Op.{Op}
use Rattle.onfi_cmd.specs.declared.op.Op.TheVariants.{Program}
use Rattle.onfi_cmd.specs.declared.plan.DiePlan.{DiePlan}
use Rattle.onfi_cmd.specs.declared.stop.DieFailed.{DieFailed}
use Rattle.chan_dies.specs.DiesState.{IsMountedDie, has_weak, is_weak_by, programmed_by}
use Rattle.chan_dies.specs.OneDie.{HoldsNow, PutsPage}
use Rattle.chan_dies.specs.Operations.{DoesOperation, EndsAs, end_told}
use Rattle.chan_dies.specs.declared.one_die.DieEnd.{DieEnd}
use Rattle.chan_dies.proofs.Mounted.{Addresses}

-- what a mounted die tells: its plan, and its blocks
pub record Tells (shape : Shape) (state : DieState) : Type 0 where
  pub plan : DiePlan
  pub blocks : List BlockCells
  pub plan_is : state.plan ≡ Some plan
  pub told_are : state.told ≡ Some blocks
  pub shape_is : plan.shape ≡ shape

some_plan : (plan : Option DiePlan) {P : DiePlan → Type 0} → IsSomeAnd plan P → (p : DiePlan) × (plan ≡ Some p) × P p
some_plan None h = absurd h
some_plan (Some p) h = (p, refl, h)

some_blocks : (told : Option (List BlockCells)) → is_some told ≡ true → (blocks : List BlockCells) × (told ≡ Some blocks)
some_blocks None h = absurd (cc)
some_blocks (Some blocks) h = (blocks, refl)

pub mounted_tells : (shape : Shape) (number : ℕ) (state : DieState) → IsMountedDie shape number state → Tells shape state
mounted_tells shape number state mounted =
    let planned = some_plan state.plan mounted.mounted in
    let told = some_blocks state.told mounted.tells in
    record { plan = planned.0; blocks = told.0; plan_is = planned.1; told_are = told.1; shape_is = planned.2.shape_is }

-- what an operation did, of what is told
pub done : (shape : Shape) (old new : DieState) (op : Op) (bytes : List ℕ) (status : ℕ) (out : List ℕ) (t : Tells shape old) →
    DoesOperation old new op bytes status out → HasOutcome (outcome_of t.plan t.blocks old.read_level old.last_status op bytes) new status out
done shape old new op bytes status out t does =
    let planned = subst (λ (plan : Option DiePlan). IfSome plan (λ p. IfSome old.told (λ blocks.
    HasOutcome (outcome_of p blocks old.read_level old.last_status op bytes) new status out))) t.plan_is does in
    subst (λ (told : Option (List BlockCells)). IfSome told (λ blocks.
    HasOutcome (outcome_of t.plan blocks old.read_level old.last_status op bytes) new status out)) t.told_are planned

-- whether a block is weak, of what is told
weak_told : (shape : Shape) (state : DieState) (sb : ℕ) (t : Tells shape state) → has_weak state sb ≡ is_weak t.plan sb (cells_at t.blocks sb).erases
weak_told shape state sb t = (λ i. is_weak_by (t.plan_is i) (unwrap_or (t.told_are i) []) sb)

-- an operation that a weak block refuses
ends_by : (P : DieState → DieState → Type 0) (old new : DieState) (blocks after : List BlockCells) (sb status : ℕ) (out : List ℕ)
    (end : DieEnd) (weak : Bool) → has_weak old sb ≡ weak → old.told ≡ Some blocks → IsWorkCall {T = ℕ} {E = DieFailed} old new (Ok status) →
    HasOutcome (if weak then record { blocks = blocks; read_level = old.read_level; status = status_failed; answer = [] }
    else record { blocks = after; read_level = old.read_level; status = status_passed; answer = [] }) new status out →
    end ≡ end_told (status == status_failed) → (IsFalse (has_weak old sb) → HoldsNow old new after → P old new) → EndsAs P sb end old new
ends_by P old new blocks after sb status out end true weak_is told work had ended passes =
    let failed : end ≡ DieEnd.Failed = ended ∙ ap (λ (s : ℕ). end_told (s == status_failed)) had.status_is in
    subst (λ (e : DieEnd). EndsAs P sb e old new) (sym failed)
    (record {
      weak = weak_is;
      keeps = record {
        plan_stays = work.plan_stays;
        told_stay = had.told_are ∙ sym told;
        works_stay = work.passed;
        loads_stay = work.loads_stay;
      };
    })
ends_by P old new blocks after sb status out end false weak_is told work had ended passes =
    let passed : end ≡ DieEnd.Passed = ended ∙ ap (λ (s : ℕ). end_told (s == status_failed)) had.status_is in
    subst (λ (e : DieEnd). EndsAs P sb e old new) (sym passed)
    (passes weak_is
    (record {
      plan_stays = work.plan_stays;
      told_are = had.told_are;
      works_stay = work.passed;
      loads_stay = work.loads_stay;
    }))

ends_unless_weak : (P : DieState → DieState → Type 0) (shape : Shape) (old new : DieState) (after : List BlockCells) (sb status : ℕ)
    (out : List ℕ) (end : DieEnd) (t : Tells shape old) → IsWorkCall {T = ℕ} {E = DieFailed} old new (Ok status) →
    HasOutcome (changes_unless_weak t.plan t.blocks old.read_level sb after) new status out →
    end ≡ end_told (status == status_failed) → (IsFalse (has_weak old sb) → HoldsNow old new after → P old new) → EndsAs P sb end old new
ends_unless_weak P shape old new after sb status out end t work had ended passes =
    ends_by P old new t.blocks after sb status out end (is_weak t.plan sb (cells_at t.blocks sb).erases) (weak_told shape old sb t)
    t.told_are work had ended passes

-- the block and the page of a row address, for a die with that shape
block_of_plan : (shape : Shape) (place : Place) (row : ℕ) (plan : DiePlan) → plan.shape ≡ shape → Addresses shape place row →
    block_of_row plan.shape.pages row ≡ place.sb
block_of_plan shape place row plan same address = ap (λ (s : Shape). block_of_row s.pages row) same ∙ address.block_is

page_of_plan : (shape : Shape) (place : Place) (row : ℕ) (plan : DiePlan) → plan.shape ≡ shape → Addresses shape place row →
    page_of_row plan.shape.pages row ≡ place.page
page_of_plan shape place row plan same address = ap (λ (s : Shape). page_of_row s.pages row) same ∙ address.page_is

-- a program of the page of a place
pub program_ends : (shape : Shape) (number : ℕ) (place : Place) (row : ℕ) (word : List ℕ) (old new : DieState) (status : ℕ) (out : List ℕ)
    (end : DieEnd) → IsMountedDie shape number old → Addresses shape place row → IsWorkCall {T = ℕ} {E = DieFailed} old new (Ok status) →
    DoesOperation old new (Program 0 row) word status out → end ≡ end_told (status == status_failed) →
    EndsAs (PutsPage place.sb place.page word) place.sb end old new
program_ends shape number place row word old new status out end mounted address work does ended =
    let t = mounted_tells shape number old mounted in
    let had = done shape old new (Program 0 row) word status out t does in
    let placed = subst (λ (page : ℕ). HasOutcome (changes_unless_weak t.plan t.blocks old.read_level place.sb
    (with_page t.blocks place.sb (programmed_levels t.plan t.blocks place.sb page word))) new status out)
    (page_of_plan shape place row t.plan t.shape_is address)
    (subst (λ (sb : ℕ). HasOutcome (changes_unless_weak t.plan t.blocks old.read_level sb
    (with_page t.blocks sb (programmed_levels t.plan t.blocks sb (page_of_row t.plan.shape.pages row) word))) new status out)
    (block_of_plan shape place row t.plan t.shape_is address) had) in
    ends_unless_weak (PutsPage place.sb place.page word) shape old new
    (with_page t.blocks place.sb (programmed_levels t.plan t.blocks place.sb place.page word)) place.sb status out end t work placed ended
    (λ not_weak holds. record {
      not_weak = not_weak;
      holds = subst (λ (blocks : List BlockCells). HoldsNow old new blocks)
          (sym (λ i. with_page (unwrap_or (t.told_are i) []) place.sb (programmed_by (t.plan_is i) (unwrap_or (t.told_are i) []) place.sb place.page word)))
          holds;
    })
