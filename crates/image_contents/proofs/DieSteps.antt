-- The steps of the dies into which an image's pages are loaded.
use Rattle.std.proofs.Common.{◌≡◌, ℕ, ℤ, ◌<◌, List, [], ◌∷◌, ◌++◌, length, set, Option, Some, None, true, Result, Err, refl, sym, ap, subst, ◌∙◌, arith, length-append, length-set}
use Rattle.std.specs.Prelude.{IfSome, IsSomeAnd}
use Rattle.std.specs.Option.{unwrap_or}
use Rattle.std.proofs.lemmas.List.{get_or-set_same, set-get_or, set-set}
use Rattle.ssd_geo.specs.BlockCells.{BlockCells, blank_cells, cells_at}
use Rattle.ssd_geo.specs.Limits.{page_cells_of}
use Rattle.ssd_geo.specs.Shape.{sizes_of}
use Rattle.ssd_formats.specs.ImageContents.{are_pages, is_page}
use Rattle.chan_dies.specs.DiesState.{blocks_in}
use Rattle.onfi_cmd.specs.DieCalls.{HasNow, IsLoadCall, IsNextPage, IsPage, IsBlock, IsWholePage, WhereTold}
use Rattle.onfi_cmd.specs.DieState.{DieState, programmed_in, with_erases, with_page}
use Rattle.onfi_cmd.specs.declared.plan.DiePlan.{DiePlan}
use Rattle.ssd_geo.specs.declared.shape.Shape.{Shape}
use Rattle.ssd_formats.proofs.SpelledHeads.{all_snoc}
use Rattle.image_contents.specs.DiesLoaded.{AddsPage, ChangesBlock, IsDieIn, KeepsPlan, block_of}

-- what holds of each plan with a property holds of the one that is there
some_and : {A : Type 0} (o : Option A) (P Q : A → Type 0) → ((x : A) → P x → Q x) → IsSomeAnd o P → IsSomeAnd o Q
some_and (Some x) P Q each has = each x has
some_and None P Q each has = absurd has

-- what is told, where it is told
if_told : {A : Type 0} (told : Option (List A)) (P : List A → Type 0) → told ≡ Some (unwrap_or told []) → P (unwrap_or told []) → IfSome told P
if_told (Some xs) P is has = has
if_told None P is has = tt

told_part : (plan : Option DiePlan) (told : Option (List BlockCells)) (P : DiePlan → List BlockCells → Type 0) (Q : DiePlan → Type 0)
    → IsSomeAnd plan Q → told ≡ Some (unwrap_or told []) → IfSome plan (λ p. IfSome told (P p)) → (p : DiePlan) × P p (unwrap_or told [])
told_part None told P Q some is has = absurd some
told_part (Some p) None P Q some is has = absurd (cc)
told_part (Some p) (Some blocks) P Q some is has = (p, has)

-- the calls may be made
pub may_load_block : (shape : Shape) (sb : ℕ) (die : DieState) → IsDieIn shape die → sb < shape.superblocks → IsBlock die sb
may_load_block shape sb die is below =
    some_and die.plan _ _
    (λ plan same. subst (λ (s : Shape). sb < s.superblocks) (sym same) below)
    is.mounted

pub is_page_of : (shape : Shape) (sb page : ℕ) (die : DieState) → IsDieIn shape die → sb < shape.superblocks → page < shape.pages → IsPage die sb page
is_page_of shape sb page die is below within =
    some_and die.plan _ _
    (λ plan same. record {
      block = subst (λ (s : Shape). sb < s.superblocks) (sym same) below;
      page_within = subst (λ (s : Shape). page < s.pages) (sym same) within;
    })
    is.mounted

pub is_next_page : (shape : Shape) (sb page : ℕ) (die : DieState) → IsDieIn shape die → page ≡ length (block_of sb die).pages → IsNextPage die.told sb page
is_next_page shape sb page die is next = if_told die.told (λ blocks. page ≡ programmed_in blocks sb) is.told_are next

pub is_whole_page : (shape : Shape) (cells : ℕ) (die : DieState) → IsDieIn shape die → cells ≡ page_cells_of (sizes_of shape) → IsWholePage die cells
is_whole_page shape cells die is all =
    some_and die.plan _ _
    (λ plan same. subst (λ (s : Shape). cells ≡ page_cells_of (sizes_of s)) (sym same) all)
    is.mounted

-- a call that loads keeps the plan and counts no work
load_keeps : {T E : Type 0} (old new : DieState) (result : Result T E) (blocks : List BlockCells) → IsLoadCall old new result → HasNow old new blocks → KeepsPlan old new
load_keeps old new result blocks call has = record {
  plan_stays = call.plan_stays;
  read_level_stays = has.read_level_stays;
  status_stays = has.status_stays;
  works_stay = call.works_stay;
  still_tells = call.still_tells;
}

-- one that loaded a page
pub page_keeps : {T E : Type 0} (shape : Shape) (sb : ℕ) (old new : DieState) (result : Result T E) (levels : List ℤ) → IsDieIn shape old → IsLoadCall old new result
    → WhereTold old (λ plan blocks. HasNow old new (with_page blocks sb levels)) → KeepsPlan old new
page_keeps shape sb old new result levels is call told =
    let now = told_part old.plan old.told (λ plan blocks. HasNow old new (with_page blocks sb levels)) (λ p. p.shape ≡ shape) is.mounted is.told_are told in
    load_keeps old new result (with_page (blocks_in old) sb levels) call now.1

-- one that loaded erases
pub erases_keep : {T E : Type 0} (shape : Shape) (sb erases : ℕ) (old new : DieState) (result : Result T E) → IsDieIn shape old → IsLoadCall old new result
    → WhereTold old (λ plan blocks. HasNow old new (with_erases blocks sb erases)) → KeepsPlan old new
erases_keep shape sb erases old new result is call told =
    let now = told_part old.plan old.told (λ plan blocks. HasNow old new (with_erases blocks sb erases)) (λ p. p.shape ≡ shape) is.mounted is.told_are told in
    load_keeps old new result (with_erases (blocks_in old) sb erases) call now.1

-- one that failed
pub failure_keeps : {T E : Type 0} (old new : DieState) (error : E) → IsLoadCall {T = T} old new (Err error) → KeepsPlan old new
failure_keeps old new error call = record {
  plan_stays = call.plan_stays;
  read_level_stays = call.err.read_level_stays;
  status_stays = call.err.status_stays;
  works_stay = call.works_stay;
  still_tells = call.still_tells;
}

-- the blocks that a die tells
pub told_blocks : (die : DieState) (blocks : List BlockCells) → die.told ≡ Some blocks → blocks_in die ≡ blocks
told_blocks die blocks is = ap (λ (told : Option (List BlockCells)). unwrap_or told []) is

-- one block of a die became another
pub changes_set : (sb : ℕ) (old new : DieState) (x : BlockCells) → sb < length (blocks_in old) → KeepsPlan old new
    → new.told ≡ Some (set (blocks_in old) sb x) → ChangesBlock sb old new × (block_of sb new ≡ x)
changes_set sb old new x within keeps told =
    let blocks : blocks_in new ≡ set (blocks_in old) sb x = told_blocks new (set (blocks_in old) sb x) told in
    let same : block_of sb new ≡ x = ap (λ (l : List BlockCells). cells_at l sb) blocks ∙ get_or-set_same (blocks_in old) sb x blank_cells within in (
      record {
        keeps = keeps;
        told_are = told ∙ ap (λ (block : BlockCells). Some (set (blocks_in old) sb block)) (sym same);
      },
      same,
    )

pub keeps_none : (die : DieState) → KeepsPlan die die
keeps_none die = record { plan_stays = refl; read_level_stays = refl; status_stays = refl; works_stay = refl; still_tells = refl }

pub keeps_both : (first second third : DieState) → KeepsPlan first second → KeepsPlan second third → KeepsPlan first third
keeps_both first second third a b = record {
  plan_stays = b.plan_stays ∙ a.plan_stays;
  read_level_stays = b.read_level_stays ∙ a.read_level_stays;
  status_stays = b.status_stays ∙ a.status_stays;
  works_stay = b.works_stay ∙ a.works_stay;
  still_tells = b.still_tells ∙ a.still_tells;
}

-- nothing changed
pub changes_none : (shape : Shape) (sb : ℕ) (die : DieState) → IsDieIn shape die → ChangesBlock sb die die
changes_none shape sb die is = record {
  keeps = keeps_none die;
  told_are = is.told_are ∙ ap (λ (l : List BlockCells). Some l) (sym (set-get_or (blocks_in die) sb blank_cells));
}

-- one change after another
pub changes_both : (sb : ℕ) (first second third : DieState) → ChangesBlock sb first second → ChangesBlock sb second third → ChangesBlock sb first third
changes_both sb first second third a b =
    let middle : blocks_in second ≡ set (blocks_in first) sb (block_of sb second) = told_blocks second (set (blocks_in first) sb (block_of sb second)) a.told_are in
    record {
      keeps = keeps_both first second third a.keeps b.keeps;
      told_are =
          b.told_are ∙ ap (λ (l : List BlockCells). Some (set l sb (block_of sb third))) middle
          ∙ ap (λ (l : List BlockCells). Some l) (set-set (blocks_in first) sb (block_of sb second) (block_of sb third));
    }

-- the die stays one of its drive
pub still_in : (shape : Shape) (sb : ℕ) (old new : DieState) → IsDieIn shape old → ChangesBlock sb old new → IsDieIn shape new
still_in shape sb old new is changes =
    let blocks : blocks_in new ≡ set (blocks_in old) sb (block_of sb new) = told_blocks new (set (blocks_in old) sb (block_of sb new)) changes.told_are in
    record {
      mounted = subst (λ (plan : Option DiePlan). IsSomeAnd plan (λ p. p.shape ≡ shape)) (sym changes.keeps.plan_stays) is.mounted;
      told_are = changes.told_are ∙ ap (λ (l : List BlockCells). Some l) (sym blocks);
      count_is = ap (λ (l : List BlockCells). length l) blocks ∙ length-set (blocks_in old) sb (block_of sb new) ∙ is.count_is;
    }

-- a page was loaded
pub page_loaded : (shape : Shape) (sb : ℕ) (old new : DieState) (levels : List ℤ) → IsDieIn shape old → sb < shape.superblocks
    → KeepsPlan old new → WhereTold old (λ plan blocks. HasNow old new (with_page blocks sb levels))
    → ChangesBlock sb old new × (block_of sb new ≡ record { pages = (block_of sb old).pages ++ levels ∷ []; erases = (block_of sb old).erases })
page_loaded shape sb old new levels is below keeps told =
    let now = told_part old.plan old.told (λ plan blocks. HasNow old new (with_page blocks sb levels)) (λ p. p.shape ≡ shape) is.mounted is.told_are told in
    let within : sb < length (blocks_in old) = omega (arith, is.count_is, below) in
    changes_set sb old new (record { pages = (block_of sb old).pages ++ levels ∷ []; erases = (block_of sb old).erases }) within keeps now.1.told_are

-- erases were loaded
pub erases_loaded : (shape : Shape) (sb erases : ℕ) (old new : DieState) → IsDieIn shape old → sb < shape.superblocks
    → KeepsPlan old new → WhereTold old (λ plan blocks. HasNow old new (with_erases blocks sb erases))
    → ChangesBlock sb old new × (block_of sb new ≡ record { pages = (block_of sb old).pages; erases = erases })
erases_loaded shape sb erases old new is below keeps told =
    let now = told_part old.plan old.told (λ plan blocks. HasNow old new (with_erases blocks sb erases)) (λ p. p.shape ≡ shape) is.mounted is.told_are told in
    let within : sb < length (blocks_in old) = omega (arith, is.count_is, below) in
    changes_set sb old new (record { pages = (block_of sb old).pages; erases = erases }) within keeps now.1.told_are

-- one more page, whose levels each may be a cell's
pub adds_page : (shape : Shape) (sb cells : ℕ) (old new : DieState) (levels : List ℤ) → IsDieIn shape old → sb < shape.superblocks
    → KeepsPlan old new → WhereTold old (λ plan blocks. HasNow old new (with_page blocks sb levels)) → is_page cells levels ≡ true
    → AddsPage sb cells old new
adds_page shape sb cells old new levels is below keeps told right =
    let done = page_loaded shape sb old new levels is below keeps told in
    let pages : (block_of sb new).pages ≡ (block_of sb old).pages ++ levels ∷ [] = ap (λ (block : BlockCells). block.pages) done.1 in
    record {
      changes = done.0;
      erases_stay = ap (λ (block : BlockCells). block.erases) done.1;
      one_more = ap (λ (l : List (List ℤ)). length l) pages ∙ length-append (block_of sb old).pages (levels ∷ []);
      pages_are = λ so_far.
          ap (λ (l : List (List ℤ)). are_pages cells l) pages ∙ all_snoc (is_page cells) (block_of sb old).pages levels so_far right;
    }
