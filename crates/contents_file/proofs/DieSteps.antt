-- What becomes of dies whose levels are copied, one after the other.
use Rattle.std.proofs.Common.{◌≡◌, ℕ, zero, suc, ℤ, ◌+◌, ◌<◌, ◌≤◌, List, [], ◌∷◌, length, map, set, get_or, true, Option, Some, None, Result, Ok, Err, refl, sym, ap, subst, ◌∙◌, arith}
use Rattle.std.specs.Prelude.{IfSome, IsSomeAnd, is_some}
use Rattle.std.specs.Option.{unwrap_or}
use Rattle.std.proofs.lemmas.List.{get_or-map, length-map, map-set, set-get_or}
use Rattle.ssd_geo.specs.BlockCells.{BlockCells}
use Rattle.ssd_geo.specs.Limits.{page_cells_of}
use Rattle.ssd_geo.specs.Shape.{sizes_of}
use Rattle.ssd_geo.specs.declared.shape.Shape.{Shape}
use Rattle.ssd_formats.specs.ImageContents.{pages_at}
use Rattle.onfi_cmd.specs.DieCalls.{IsBlock, IsInShape, IsLoadCall, IsMountedAnd, IsPage, IsWholePage, KeepsCells, WhereTold}
use Rattle.onfi_cmd.specs.DieState.{DieState, cells_of_page, erased_levels, levels_of_page, programmed_in}
use Rattle.onfi_cmd.specs.declared.plan.DiePlan.{DiePlan}
use Rattle.chan_dies.proofs.HeldDies.{one_changed, seen_at}
use Rattle.chan_dies.specs.DiesState.{blocks_in, no_die}
use Rattle.contents_file.specs.DiesCopied.{AllStayOrOneFaults, AllTellPages, FaultsLoad, StaysOrFaults, TellsPages, cells_told}
use Rattle.contents_file.specs.declared.stop.WriteStop.{WriteStop}
use Rattle.contents_file.specs.declared.stop.WriteStop.TheVariants.{WriteFault, DieFailed}

-- what holds of each plan with a property holds of the one that is there
some_and : {A : Type 0} (o : Option A) (P Q : A → Type 0) → ((x : A) → P x → Q x) → IsSomeAnd o P → IsSomeAnd o Q
some_and (Some x) P Q each has = each x has
some_and None P Q each has = absurd has

-- what holds of what a mounted die tells
told_part : (plan : Option DiePlan) (told : Option (List BlockCells)) (P : DiePlan → List BlockCells → Type 0) (Q : DiePlan → Type 0)
    → IsSomeAnd plan Q → is_some told ≡ true → IfSome plan (λ p. IfSome told (P p)) → (p : DiePlan) × P p (unwrap_or told [])
told_part None told P Q some is has = absurd some
told_part (Some p) None P Q some is has = absurd (cc)
told_part (Some p) (Some blocks) P Q some is has = (p, has)

if_told : (told : Option (List BlockCells)) (P : List BlockCells → Type 0) → is_some told ≡ true → IfSome told P → P (unwrap_or told [])
if_told (Some blocks) P is has = has
if_told None P is has = absurd (cc)

-- a die whose levels were copied is as it was
pub stays_same : {T E : Type 0} (old new : DieState) (x : T) (cells : ℕ) → IsWholePage old cells → is_some old.told ≡ true
    → IsLoadCall {T = T} {E = E} old new (Ok x) → WhereTold old (λ plan blocks. KeepsCells old new) → new ≡ old
stays_same old new x cells mounted tells call told =
    let keeps : KeepsCells old new =
    (told_part old.plan old.told (λ plan blocks. KeepsCells old new) (λ plan. cells ≡ cells_of_page plan) mounted tells told).1 in
    λ i. record {
      plan = call.plan_stays i;
      told = keeps.told_stay i;
      read_level = keeps.read_level_stays i;
      last_status = keeps.status_stays i;
      work_count = call.works_stay i;
      load_count = call.passed i;
    }

-- one whose call failed counted a load
pub faults_load : {T E : Type 0} (old new : DieState) (e : E) → IsLoadCall {T = T} old new (Err e) → FaultsLoad old new
faults_load old new e call = record {
  plan_stays = call.plan_stays;
  told_stay = call.err.told_stay;
  read_level_stays = call.err.read_level_stays;
  status_stays = call.err.status_stays;
  works_stay = call.works_stay;
  rose = call.cause.failed;
}

-- the item of a list where there is one
got_any : {A : Type 0} (xs : List A) (i : ℕ) (d e : A) → i < length xs → get_or xs i d ≡ get_or xs i e
got_any [] i d e within = absurd (omega arith)
got_any (x ∷ xs) zero d e within = refl
got_any (x ∷ xs) (suc i) d e within = got_any xs i d e (omega arith)

-- the levels that were copied are those of a programmed page
pub levels_told : (old : DieState) (cells sb page : ℕ) (levels : List ℤ) → IsWholePage old cells → is_some old.told ≡ true
    → page < length (pages_at sb (blocks_in old)) → WhereTold old (λ plan blocks. levels ≡ levels_of_page plan blocks sb page)
    → levels ≡ get_or (pages_at sb (blocks_in old)) page []
levels_told old cells sb page levels mounted tells within told =
    let part = told_part old.plan old.told (λ plan blocks. levels ≡ levels_of_page plan blocks sb page) (λ plan. cells ≡ cells_of_page plan) mounted tells told in
    part.1 ∙ got_any (pages_at sb (blocks_in old)) page (erased_levels part.0) [] within

-- the number of pages is the one that the die tells
pub count_told : (die : DieState) (sb count : ℕ) → is_some die.told ≡ true → IfSome die.told (λ blocks. count ≡ programmed_in blocks sb)
    → count ≡ length (pages_at sb (blocks_in die))
count_told die sb count tells told = if_told die.told (λ blocks. count ≡ programmed_in blocks sb) tells told

-- a programmed page is one of the die's
page_below : (plan : Option DiePlan) (sb page count : ℕ) → IsSomeAnd plan (λ p. sb < p.shape.superblocks) → IsSomeAnd plan (λ p. count ≤ p.shape.pages)
    → page < count → IsSomeAnd plan (λ p. IsInShape p sb page)
page_below (Some p) sb page count block most below = record { block = block; page_within = omega (arith, most, below) }
page_below None sb page count block most below = absurd block

pub is_page_below : (die : DieState) (sb page count : ℕ) → IsBlock die sb → IsMountedAnd die (λ plan. count ≤ plan.shape.pages) → page < count → IsPage die sb page
is_page_below die sb page count block most below = page_below die.plan sb page count block most below

-- a die of a shape has its blocks and its cells
pub block_of_shape : (shape : Shape) (die : DieState) (sb : ℕ) → TellsPages shape die → sb < shape.superblocks → IsBlock die sb
block_of_shape shape die sb tells below =
    some_and die.plan _ _ (λ plan same. subst (λ (s : Shape). sb < s.superblocks) (sym same) below) tells.mounted

pub page_of_shape : (shape : Shape) (die : DieState) (cells : ℕ) → TellsPages shape die → cells ≡ page_cells_of (sizes_of shape) → IsWholePage die cells
page_of_shape shape die cells tells all =
    some_and die.plan _ _ (λ plan same. subst (λ (s : Shape). cells ≡ page_cells_of (sizes_of s)) (sym same) all) tells.mounted

-- a die of the list is one of the shape
pub one_tells : {D : Type 0} (state : D → DieState) (shape : Shape) (dies : List D) (i : ℕ) (one : D) → AllTellPages shape (map state dies)
    → i < shape.dies → i < length dies → one ≡ get_or dies i one → TellsPages shape (state one)
one_tells state shape dies i one all below within is =
    subst (λ (held : DieState). TellsPages shape held) (seen_at state dies i one within is) (all.each i below)

-- its pages are those that stand at its number
pub pages_of_one : {D : Type 0} (state : D → DieState) (dies : List D) (sb i : ℕ) (one : D) → i < length dies → one ≡ get_or dies i one
    → get_or (map (pages_at sb) (cells_told (map state dies))) i [] ≡ pages_at sb (blocks_in (state one))
pages_of_one state dies sb i one within is =
    let states : List DieState = map state dies in
    let count : length states ≡ length dies = length-map dies state in
    let cells_count : length (cells_told states) ≡ length states = length-map states blocks_in in
    get_or-map (pages_at sb) (cells_told states) i [] [] (omega arith)
    ∙ ap (pages_at sb) (get_or-map blocks_in states i no_die [] (omega arith) ∙ ap blocks_in (seen_at state dies i one within is))

-- the list is as it was where one of its dies is
same_list : {D : Type 0} (state : D → DieState) (dies : List D) (i : ℕ) (one other : D) → i < length dies → one ≡ get_or dies i one
    → state other ≡ state one → map state (set dies i other) ≡ map state dies
same_list state dies i one other within is same =
    map-set state dies i other
    ∙ ap (λ (x : DieState). set (map state dies) i x) (same ∙ sym (seen_at state dies i one within is))
    ∙ set-get_or (map state dies) i no_die

-- what became of one die became of the list
pub one_becomes : {D T : Type 0} (state : D → DieState) (dies : List D) (i : ℕ) (one other : D) (first : ℕ) (result : Result T WriteStop)
    → i < length dies → one ≡ get_or dies i one → StaysOrFaults (first + i) (state one) (state other) result
    → AllStayOrOneFaults first (map state dies) (map state (set dies i other)) result
one_becomes state dies i one other first (Ok x) within is became = same_list state dies i one other within is became
one_becomes state dies i one other first (Err WriteFault) within is became = same_list state dies i one other within is became
one_becomes state dies i one other first (Err (DieFailed die)) within is became = record {
  place = i;
  in_list = omega (arith, length-map dies state, within);
  number_is = became.0;
  fails = one_changed state dies i one other FaultsLoad within is became.1;
}

-- one die stays, and then what became of it became of it from the beginning
pub later_stays : {T : Type 0} (number : ℕ) (old mid new : DieState) (result : Result T WriteStop) → mid ≡ old → StaysOrFaults number mid new result
    → StaysOrFaults number old new result
later_stays number old mid new result same became = subst (λ (die : DieState). StaysOrFaults number die new result) same became

-- the same of a list
pub later_become : {T : Type 0} (first : ℕ) (olds mids news : List DieState) (result : Result T WriteStop) → mids ≡ olds
    → AllStayOrOneFaults first mids news result → AllStayOrOneFaults first olds news result
later_become first olds mids news result same became = subst (λ (dies : List DieState). AllStayOrOneFaults first dies news result) same became

-- each die has its pages of a superblock
pub pages_count : (shape : Shape) (dies : List DieState) (sb : ℕ) → AllTellPages shape dies → length (map (pages_at sb) (cells_told dies)) ≡ shape.dies
pages_count shape dies sb all = length-map (cells_told dies) (pages_at sb) ∙ length-map dies blocks_in ∙ all.count_is
