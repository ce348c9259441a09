-- What ageing a block does to the blocks that the kept lists stand for.
use Rattle.std.proofs.Common.{◌≡◌, ℕ, ◌+◌, ◌-◌, ◌*◌, ◌<◌, ◌≤◌, List, ◌++◌, map, length, get_or, take, drop, ℤ, refl, sym, ◌∙◌, ap, subst, inl, inr, arith, length-drop}
use Rattle.std.proofs.lemmas.List.{length-map, drop-map, take-map, drop-drop, take-take, drop-take, length-take-le}
use Rattle.std.proofs.lemmas.Simd.{map-map}
use Rattle.std.proofs.lemmas.Bool.Decides.{leb_tells}
use Rattle.std.proofs.Math.Nat.{mul-le-mul_left}
use borrow.Rule.Slice.PartMut.{put_mid}
use Rattle.std.specs.List.{range_with_len}
use Rattle.ssd_geo.specs.BlockCells.{BlockCells}
use Rattle.ssd_geo.specs.Cells.{aged_level}
use Rattle.onfi_cmd.specs.DieState.{with_aged}
use Rattle.die_model.specs.Stored.{Stored, kept_page, kept_block, kept_blocks, IsKept}
use Rattle.die_model.proofs.KeptLemmas.{map-range_same, map-range_set, page_below, page_above, page_inside, block_below, block_above, page_ends, cells_at-kept_blocks, block_path, stored_after, pages_fit, length-put_mid, put_back}

-- a page of the part that was aged
aged_page : (cells at count q i : ℕ) (f : ℤ → ℤ) (levels : List ℤ) → at + count ≤ length levels → q * cells ≡ at + i → i + cells ≤ count →
    kept_page cells (put_mid at count levels (map f (take count (drop at levels)))) q ≡ map f (kept_page cells levels q)
aged_page cells at count q i f levels fits place inside =
    let rest = drop at levels in
    let size : length (map f (take count rest)) ≡ count =
    length-map (take count rest) f ∙ length-take-le count rest (let d = length-drop at levels in omega arith) in
    page_inside cells at count q i levels (map f (take count rest)) (omega arith) place (omega arith)
    ∙ ap (take cells) (drop-map f i (take count rest)) ∙ take-map f cells (drop i (take count rest))
    ∙ ap (map f) (sym (drop-take i cells (take count rest)) ∙ ap (drop i) (take-take (i + cells) count rest inside) ∙ drop-take i cells rest
    ∙ ap (take cells) (drop-drop i at levels ∙ ap (λ (n : ℕ). drop n levels) (sym place)))

-- a block whose programmed pages were aged
pub kept-age : (pages cells : ℕ) (programmed erases : List ℕ) (levels : List ℤ) (sb amount : ℕ) (erased : ℤ) →
    sb < length programmed → IsKept pages cells programmed erases levels →
    (let f = aged_level erased amount in let at = sb * pages * cells in let count = get_or programmed sb 0 * cells in
    kept_blocks pages cells programmed erases (put_mid at count levels (map f (take count (drop at levels)))))
    ≡ with_aged erased (kept_blocks pages cells programmed erases levels) sb amount
kept-age pages cells programmed erases levels sb amount erased within kept =
    let f = aged_level erased amount in
    let many = get_or programmed sb 0 in
    let at = sb * pages * cells in
    let count = many * cells in
    let part = map f (take count (drop at levels)) in
    let levels' = put_mid at count levels part in
    let fits : at + count ≤ length levels = let whole = pages_fit pages cells programmed erases levels sb kept within in omega arith in
    let size : length part ≡ count =
    length-map (take count (drop at levels)) f ∙ length-take-le count (drop at levels) (let d = length-drop at levels in omega arith) in
    let block = cells_at-kept_blocks pages cells programmed erases levels sb within in
    let old = λ (k : ℕ). kept_page cells levels (sb * pages + k) in
    map-range_set (kept_block pages cells programmed erases levels) (kept_block pages cells programmed erases levels') (length programmed) sb _ within
    (block_path
    (map-range_same (λ (k : ℕ). kept_page cells levels' (sb * pages + k)) (λ (k : ℕ). map f (old k)) many
    (λ k below. aged_page cells at count (sb * pages + k) (k * cells) f levels fits (omega arith) (page_ends cells k many below))
    ∙ sym (map-map (map f) old (range_with_len 0 many))
    ∙ ap (λ (block : BlockCells). map (map f) block.pages) (sym block))
    (ap (λ (block : BlockCells). block.erases) (sym block)))
    (λ k below ne. block_path
    (map-range_same (λ (j : ℕ). kept_page cells levels' (k * pages + j)) (λ (j : ℕ). kept_page cells levels (k * pages + j)) (get_or programmed k 0)
    (λ j less.
    (let most : get_or programmed k 0 ≤ pages = kept.most k below in
    elim (leb_tells k sb) [
      | inl t ↦ (let under = block_below pages sb k j (omega arith) (omega arith) in
          page_below cells at count (k * pages + j) levels part (omega arith)
          (page_ends cells (k * pages + j) (sb * pages) (omega arith)))
      | inr t ↦ (let over = block_above pages sb k t.1 in
          let here = kept.most sb within in
          let whole = mul-le-mul_left {m = sb * pages + many} {n = k * pages + j} cells (omega arith) in
          page_above cells at count (k * pages + j) levels part (omega arith) size (omega arith))
    ])))
    refl)

-- what is kept once a block was aged
pub record IsAged (pages cells : ℕ) (programmed erases : List ℕ) (levels : List ℤ) (now : Stored) (erased : ℤ) (sb amount : ℕ) : Type 0 where
  pub kept : IsKept pages cells programmed erases levels
  pub stands_for : (let s : Stored = record { pages = pages; cells = cells; blocks = kept_blocks pages cells programmed erases levels } in s)
      ≡ record { pages = now.pages; cells = now.cells; blocks = with_aged erased now.blocks sb amount }

pub aged : (pages cells : ℕ) (programmed erases : List ℕ) (levels : List ℤ) (now : Stored) (erased : ℤ) (sb amount many at end len : ℕ) (whole written : List ℤ) →
    (let s : Stored = record { pages = pages; cells = cells; blocks = kept_blocks pages cells programmed erases levels } in s) ≡ now →
    IsKept pages cells programmed erases levels → sb < length programmed → many ≡ get_or programmed sb 0 →
    at ≡ (sb * pages + 0) * cells → end ≡ (sb * pages + many) * cells → whole ≡ levels → len ≡ length levels →
    written ≡ take at whole ++ (map (aged_level erased amount) (take (end - at) (drop at whole)) ++ drop (end - at) (drop at whole)) →
    IsAged pages cells programmed erases (take len (written ++ drop (length written) levels)) now erased sb amount
aged pages cells programmed erases levels now erased sb amount many at end len whole written was kept within many_is at_is end_is whole_is len_is written_is =
    let f = aged_level erased amount in
    let from = sb * pages * cells in
    let count = get_or programmed sb 0 * cells in
    let part = map f (take count (drop from levels)) in
    let after = put_mid from count levels part in
    let fits : from + count ≤ length levels = let room = pages_fit pages cells programmed erases levels sb kept within in omega arith in
    let size : length part ≡ count =
    length-map (take count (drop from levels)) f ∙ length-take-le count (drop from levels) (let d = length-drop from levels in omega arith) in
    let first : at ≡ from = at_is ∙ omega arith in
    let last : end ≡ from + count = end_is ∙ ap (λ (n : ℕ). (sb * pages + n) * cells) many_is ∙ omega arith in
    let span : end - at ≡ count = omega arith in
    let same : written ≡ after =
    written_is
    ∙ ap (λ (n : ℕ). take n whole ++ (map f (take (end - at) (drop n whole)) ++ drop (end - at) (drop n whole))) first
    ∙ ap (λ (n : ℕ). take from whole ++ (map f (take n (drop from whole)) ++ drop n (drop from whole))) span
    ∙ ap (λ (xs : List ℤ). put_mid from count xs (map f (take count (drop from xs)))) whole_is in
    let sized : length after ≡ length levels =
    ap (λ (n : ℕ). length (put_mid from n levels part)) (sym size)
    ∙ length-put_mid from levels part (omega arith) in
    let long : length written ≡ len = ap (λ (xs : List ℤ). length xs) same ∙ sized ∙ sym len_is in
    let back : take len (written ++ drop (length written) levels) ≡ after = put_back len written levels long ∙ same in
    let result : IsAged pages cells programmed erases after now erased sb amount = record {
      kept = record { same_blocks = kept.same_blocks; all_levels = sized ∙ kept.all_levels; most = kept.most };
      stands_for = stored_after pages cells (kept_blocks pages cells programmed erases levels) _ now (λ blocks. with_aged erased blocks sb amount) was
          (kept-age pages cells programmed erases levels sb amount erased within kept);
    } in
    subst (λ (xs : List ℤ). IsAged pages cells programmed erases xs now erased sb amount) (sym back) result
