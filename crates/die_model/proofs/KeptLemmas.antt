-- What a change of the kept lists does to the blocks that they stand for.
use Rattle.std.proofs.Common.{◌≡◌, ◌≢◌, ℕ, ◌+◌, ◌-◌, ◌*◌, ◌<◌, ◌≤◌, List, [], ◌∷◌, ◌++◌, map, length, get_or, take, drop, set, replicate, ℤ, pos, refl, sym, ◌∙◌, ap, subst, inl, inr, arith, get_or-set_same, length-set, length-append, length-drop, take_all}
use Rattle.std.proofs.lemmas.List.{length-replicate, get_or_default, get_or-replicate, same_lists, drop-take, get_or-set_other, length-take-le, take-append-le}
use Rattle.std.proofs.lemmas.List.FromFn.{fill_by_all, get_or-map-range_with_len, length-map-range_with_len, map-range_with_len_more}
use Rattle.std.proofs.lemmas.Grind.{get_or_default_zero}
use Rattle.std.proofs.lemmas.List.Edits.{map_over_more}
use Rattle.std.proofs.lemmas.Bool.Decides.{eqb_tells, leb_tells}
use Rattle.std.proofs.lemmas.Slice.{take-put_mid_below, drop-put_mid}
use Rattle.std.proofs.Math.Nat.{mul-le-mul_left}
use Rattle.std.proofs.Math.Seq.{drop-append-add}
use borrow.Rule.Slice.PartMut.{put_mid}
use Rattle.std.specs.List.{range_with_len}
use Rattle.ssd_geo.specs.BlockCells.{blank_cells, BlockCells, cells_at}
use Rattle.ssd_geo.specs.Cells.{aged_level, fresh_level, fresh_levels}
use Rattle.ssd_geo.specs.Noise.{start_of_program}
use Rattle.ssd_geo.specs.declared.cell_law.CellLaw.{CellLaw}
use Rattle.onfi_cmd.specs.DieState.{programmed_in, with_erases, with_erased, with_page}
use Rattle.die_model.specs.Stored.{Stored, kept_page, kept_pages, kept_block, kept_blocks, IsKept}

-- two functions that agree below n make one list
pub map-range_same : {X : Type 0} (f g : ℕ → X) (n : ℕ) → ((k : ℕ) → k < n → f k ≡ g k) →
    map f (range_with_len 0 n) ≡ map g (range_with_len 0 n)
map-range_same f g n same =
    same_lists _ _ (length-map-range_with_len f 0 n ∙ sym (length-map-range_with_len g 0 n))
    (λ k d h. let below : k < n = subst (λ (m : ℕ). k < m) (length-map-range_with_len f 0 n) h in
    get_or-map-range_with_len f 0 n k k d below (omega arith) ∙ same k below
    ∙ sym (get_or-map-range_with_len g 0 n k k d below (omega arith)))

-- two functions that agree but at one place make lists that differ there alone
pub map-range_set : {X : Type 0} (f g : ℕ → X) (n i : ℕ) (x : X) → i < n → g i ≡ x →
    ((k : ℕ) → k < n → k ≢ i → g k ≡ f k) →
    map g (range_with_len 0 n) ≡ set (map f (range_with_len 0 n)) i x
map-range_set f g n i x within here others =
    let old = map f (range_with_len 0 n) in
    let size : length old ≡ n = length-map-range_with_len f 0 n in
    same_lists _ _ (length-map-range_with_len g 0 n ∙ sym (length-set old i x ∙ size))
    (λ k d h. let below : k < n = subst (λ (m : ℕ). k < m) (length-map-range_with_len g 0 n) h in
    get_or-map-range_with_len g 0 n k k d below (omega arith)
    ∙ elim (eqb_tells k i) [
      | inl t ↦ ap g t.1 ∙ here ∙ sym (ap (λ (j : ℕ). get_or (set old i x) j d) t.1 ∙ get_or-set_same old i x d (subst (λ (m : ℕ). i < m) (sym size) within))
      | inr t ↦ others k below t.1 ∙ sym (get_or-set_other old i k x d t.1 ∙ get_or-map-range_with_len f 0 n k k d below (omega arith))
    ])

-- ---- the levels of a page after a part of the levels was written

-- a page below the part
pub page_below : (cells at count q : ℕ) (levels part : List ℤ) → at ≤ length levels → q * cells + cells ≤ at →
    kept_page cells (put_mid at count levels part) q ≡ kept_page cells levels q
page_below cells at count q levels part within below =
    sym (drop-take (q * cells) cells (put_mid at count levels part))
    ∙ ap (drop (q * cells)) (take-put_mid_below at count levels part (q * cells + cells) below within)
    ∙ drop-take (q * cells) cells levels

-- a page above the part
pub page_above : (cells at count q : ℕ) (levels part : List ℤ) → at ≤ length levels → length part ≡ count → at + count ≤ q * cells →
    kept_page cells (put_mid at count levels part) q ≡ kept_page cells levels q
page_above cells at count q levels part within size above =
    ap (take cells) (drop-put_mid at count levels part (q * cells) above within size)

-- a page in the part
pub page_inside : (cells at count q i : ℕ) (levels part : List ℤ) → at ≤ length levels → q * cells ≡ at + i → i + cells ≤ length part →
    kept_page cells (put_mid at count levels part) q ≡ take cells (drop i part)
page_inside cells at count q i levels part within place inside =
    let rest = drop count (drop at levels) in
    let front : length (take at levels) ≡ at = length-take-le at levels within in
    ap (λ (n : ℕ). take cells (drop n (put_mid at count levels part))) (place ∙ ap (λ (n : ℕ). n + i) (sym front))
    ∙ ap (take cells) (drop-append-add (take at levels) (part ++ rest) i)
    ∙ sym (drop-take i cells (part ++ rest))
    ∙ ap (drop i) (take-append-le (i + cells) part rest inside)
    ∙ drop-take i cells part

-- pages of blocks below and above a block stand below and above its pages
pub block_below : (pages sb other page : ℕ) → other < sb → page < pages → other * pages + page + 1 ≤ sb * pages
block_below pages sb other page less within = let whole = mul-le-mul_left pages less in omega arith

pub block_above : (pages sb other : ℕ) → sb < other → sb * pages + pages ≤ other * pages
block_above pages sb other more = let whole = mul-le-mul_left pages more in omega arith

-- a page below another ends where that begins, or before
pub page_ends : (cells q p : ℕ) → q < p → q * cells + cells ≤ p * cells
page_ends cells q p less = let whole = mul-le-mul_left cells less in omega arith

-- ---- the blocks

-- there are as many blocks as counts
pub length-kept_blocks : (pages cells : ℕ) (programmed erases : List ℕ) (levels : List ℤ) →
    length (kept_blocks pages cells programmed erases levels) ≡ length programmed
length-kept_blocks pages cells programmed erases levels =
    length-map-range_with_len (kept_block pages cells programmed erases levels) 0 (length programmed)

-- one block
pub cells_at-kept_blocks : (pages cells : ℕ) (programmed erases : List ℕ) (levels : List ℤ) (sb : ℕ) → sb < length programmed →
    cells_at (kept_blocks pages cells programmed erases levels) sb ≡ kept_block pages cells programmed erases levels sb
cells_at-kept_blocks pages cells programmed erases levels sb within =
    get_or-map-range_with_len (kept_block pages cells programmed erases levels) 0 (length programmed) sb sb blank_cells within (omega arith)

-- how many pages of it are programmed
pub programmed_in-kept_blocks : (pages cells : ℕ) (programmed erases : List ℕ) (levels : List ℤ) (sb : ℕ) → sb < length programmed →
    programmed_in (kept_blocks pages cells programmed erases levels) sb ≡ get_or programmed sb 0
programmed_in-kept_blocks pages cells programmed erases levels sb within =
    ap (λ (block : BlockCells). length block.pages) (cells_at-kept_blocks pages cells programmed erases levels sb within)
    ∙ length-map-range_with_len (λ (page : ℕ). kept_page cells levels (sb * pages + page)) 0 (get_or programmed sb 0)

-- a block is known by its pages and its erases
pub block_path : {a b : List (List ℤ)} {m n : ℕ} → a ≡ b → m ≡ n →
    (let x : BlockCells = record { pages = a; erases = m } in x) ≡ record { pages = b; erases = n }
block_path {a} {b} {m} {n} p q =
    ap (λ (pages : List (List ℤ)). (let x : BlockCells = record { pages = pages; erases = m } in x)) p
    ∙ ap (λ (erases : ℕ). (let x : BlockCells = record { pages = b; erases = erases } in x)) q

-- the erases of one block are set
pub kept-set_erases : (pages cells : ℕ) (programmed erases : List ℕ) (levels : List ℤ) (sb count : ℕ) →
    sb < length programmed → length erases ≡ length programmed →
    kept_blocks pages cells programmed (set erases sb count) levels
    ≡ with_erases (kept_blocks pages cells programmed erases levels) sb count
kept-set_erases pages cells programmed erases levels sb count within same =
    map-range_set (kept_block pages cells programmed erases levels) (kept_block pages cells programmed (set erases sb count) levels)
    (length programmed) sb _ within
    (block_path (ap (λ (block : BlockCells). block.pages) (sym (cells_at-kept_blocks pages cells programmed erases levels sb within)))
    (get_or-set_same erases sb count 0 (omega arith)))
    (λ k below ne. block_path refl (get_or-set_other erases sb k count 0 ne))

-- a block is erased
pub kept-erase : (pages cells : ℕ) (programmed erases : List ℕ) (levels : List ℤ) (sb : ℕ) →
    sb < length programmed → length erases ≡ length programmed →
    kept_blocks pages cells (set programmed sb 0) (set erases sb (get_or erases sb 0 + 1)) levels
    ≡ with_erased (kept_blocks pages cells programmed erases levels) sb
kept-erase pages cells programmed erases levels sb within same =
    let block = cells_at-kept_blocks pages cells programmed erases levels sb within in
    let none = get_or-set_same programmed sb 0 0 within in
    ap (λ (n : ℕ). map (kept_block pages cells (set programmed sb 0) (set erases sb (get_or erases sb 0 + 1)) levels) (range_with_len 0 n)) (length-set programmed sb 0)
    ∙ map-range_set (kept_block pages cells programmed erases levels) (kept_block pages cells (set programmed sb 0) (set erases sb (get_or erases sb 0 + 1)) levels)
    (length programmed) sb _ within
    (block_path (ap (kept_pages pages cells levels sb) none)
    (get_or-set_same erases sb (get_or erases sb 0 + 1) 0 (omega arith) ∙ ap (λ (block : BlockCells). block.erases + 1) (sym block)))
    (λ k below ne. block_path (ap (kept_pages pages cells levels k) (get_or-set_other programmed sb k 0 0 ne))
    (get_or-set_other erases sb k (get_or erases sb 0 + 1) 0 ne))

-- what a store stands for after its blocks were changed
pub stored_after : (pages cells : ℕ) (old new : List BlockCells) (now : Stored) (change : List BlockCells → List BlockCells) →
    (let s : Stored = record { pages = pages; cells = cells; blocks = old } in s) ≡ now → new ≡ change old →
    (let s : Stored = record { pages = pages; cells = cells; blocks = new } in s)
    ≡ record { pages = now.pages; cells = now.cells; blocks = change now.blocks }
stored_after pages cells old new now change was changed =
    subst (λ (s : Stored). (let t : Stored = record { pages = pages; cells = cells; blocks = new } in t) ≡ record { pages = s.pages; cells = s.cells; blocks = change s.blocks })
    was (ap (λ (blocks : List BlockCells). (let t : Stored = record { pages = pages; cells = cells; blocks = blocks } in t)) changed)

-- a block of what a store stands for is one of its counts
pub within_store : (pages cells : ℕ) (programmed erases : List ℕ) (levels : List ℤ) (now : Stored) (sb : ℕ) →
    (let s : Stored = record { pages = pages; cells = cells; blocks = kept_blocks pages cells programmed erases levels } in s) ≡ now →
    sb < length now.blocks → sb < length programmed
within_store pages cells programmed erases levels now sb was within =
    let size = ap (λ (s : Stored). length s.blocks) was in
    let count = length-kept_blocks pages cells programmed erases levels in omega arith

-- there is room for a page of a block
pub page_room : (pages cells blocks sb page : ℕ) → sb < blocks → page < pages →
    (sb * pages + page) * cells + cells ≤ blocks * pages * cells
page_room pages cells blocks sb page within less =
    let below = block_below pages blocks sb page within less in
    page_ends cells (sb * pages + page) (blocks * pages) (omega arith)

-- a page that isn't the one written stays
other_page : (cells q place : ℕ) (levels page : List ℤ) → place * cells ≤ length levels → length page ≡ cells → q ≢ place →
    kept_page cells (put_mid (place * cells) (length page) levels page) q ≡ kept_page cells levels q
other_page cells q place levels page within size ne =
    elim (leb_tells q place) [
      | inl t ↦ (let less : q < place = omega arith in
          page_below cells (place * cells) (length page) q levels page within (page_ends cells q place less))
      | inr t ↦ (let more = page_ends cells place q t.1 in
          page_above cells (place * cells) (length page) q levels page within refl (omega arith))
    ]

-- the page written
written_page : (cells place : ℕ) (levels page : List ℤ) → place * cells ≤ length levels → length page ≡ cells →
    kept_page cells (put_mid (place * cells) (length page) levels page) place ≡ page
written_page cells place levels page within size =
    page_inside cells (place * cells) (length page) place 0 levels page within (omega arith) (omega arith)
    ∙ take_all cells page (omega arith)

-- a block with one more programmed page
pub kept-push : (pages cells : ℕ) (programmed erases : List ℕ) (levels : List ℤ) (sb : ℕ) (page : List ℤ) →
    sb < length programmed → get_or programmed sb 0 < pages → IsKept pages cells programmed erases levels → length page ≡ cells →
    kept_blocks pages cells (set programmed sb (get_or programmed sb 0 + 1)) erases
    (put_mid ((sb * pages + get_or programmed sb 0) * cells) (length page) levels page)
    ≡ with_page (kept_blocks pages cells programmed erases levels) sb page
kept-push pages cells programmed erases levels sb page within room kept size =
    let count = get_or programmed sb 0 in
    let place = sb * pages + count in
    let programmed' = set programmed sb (count + 1) in
    let levels' = put_mid (place * cells) (length page) levels page in
    let fits = page_room pages cells (length programmed) sb count within room in
    let long : place * cells ≤ length levels = omega (arith, kept.all_levels) in
    let block = cells_at-kept_blocks pages cells programmed erases levels sb within in
    let more : get_or programmed' sb 0 ≡ count + 1 = get_or-set_same programmed sb (count + 1) 0 within in
    let old = λ (k : ℕ). kept_page cells levels (sb * pages + k) in
    let new = λ (k : ℕ). kept_page cells levels' (sb * pages + k) in
    let same_pages : map new (range_with_len 0 count) ≡ map old (range_with_len 0 count) =
    map-range_same new old count (λ k below. other_page cells (sb * pages + k) place levels page long size (omega arith)) in
    ap (λ (n : ℕ). map (kept_block pages cells programmed' erases levels') (range_with_len 0 n)) (length-set programmed sb (count + 1))
    ∙ map-range_set (kept_block pages cells programmed erases levels) (kept_block pages cells programmed' erases levels') (length programmed) sb _ within
    (block_path
    (ap (kept_pages pages cells levels' sb) more
    ∙ map-range_with_len_more new 0 count count (omega arith)
    ∙ ap (λ (front : List (List ℤ)). front ++ new count ∷ []) same_pages
    ∙ ap (λ (last : List ℤ). map old (range_with_len 0 count) ++ last ∷ []) (written_page cells place levels page long size)
    ∙ ap (λ (block : BlockCells). block.pages ++ page ∷ []) (sym block))
    (ap (λ (block : BlockCells). block.erases) (sym block)))
    (λ k below ne. block_path
    (ap (kept_pages pages cells levels' k) (get_or-set_other programmed sb k (count + 1) 0 ne)
    ∙ map-range_same (λ (j : ℕ). kept_page cells levels' (k * pages + j)) (λ (j : ℕ). kept_page cells levels (k * pages + j)) (get_or programmed k 0)
    (λ j less. other_page cells (k * pages + j) place levels page long size
    (let most : get_or programmed k 0 ≤ pages = kept.most k below in
    elim (leb_tells k sb) [
      | inl t ↦ (let under = block_below pages sb k j (omega arith) (omega arith) in omega arith)
      | inr t ↦ (let over = block_below pages k sb count t.1 room in omega arith)
    ])))
    refl)

-- the cells of a page of a block are among the levels
pub page_fits : (pages cells : ℕ) (programmed erases : List ℕ) (levels : List ℤ) (sb page : ℕ) →
    IsKept pages cells programmed erases levels → sb < length programmed → page < pages →
    (sb * pages + page) * cells + cells ≤ length levels
page_fits pages cells programmed erases levels sb page kept within less =
    let room = page_room pages cells (length programmed) sb page within less in omega (arith, kept.all_levels)

-- the cells of the programmed pages of a block are among the levels
pub pages_fit : (pages cells : ℕ) (programmed erases : List ℕ) (levels : List ℤ) (sb : ℕ) →
    IsKept pages cells programmed erases levels → sb < length programmed →
    (sb * pages + get_or programmed sb 0) * cells ≤ length levels
pages_fit pages cells programmed erases levels sb kept within =
    let most = kept.most sb within in
    let above = block_above pages sb (length programmed) within in
    let whole = mul-le-mul_left {m = sb * pages + get_or programmed sb 0} {n = length programmed * pages} cells (omega arith) in
    omega (arith, kept.all_levels)

-- a list that was written into stays as long
pub length-put_mid : (at : ℕ) (levels part : List ℤ) → at + length part ≤ length levels →
    length (put_mid at (length part) levels part) ≡ length levels
length-put_mid at levels part fits =
    length-append (take at levels) (part ++ drop (length part) (drop at levels))
    ∙ (let front = length-take-le at levels (omega arith) in
    let rest = length-append part (drop (length part) (drop at levels)) in
    let tail = length-drop (length part) (drop at levels) in
    let whole = length-drop at levels in omega arith)

-- the lists still belong together after a page was written
pub IsKept-push : (pages cells : ℕ) (programmed erases : List ℕ) (levels page : List ℤ) (sb count at : ℕ) →
    IsKept pages cells programmed erases levels → sb < length programmed → count ≤ pages → at + length page ≤ length levels →
    IsKept pages cells (set programmed sb count) erases (put_mid at (length page) levels page)
IsKept-push pages cells programmed erases levels page sb count at kept within room fits =
    let size = length-set programmed sb count in
    record {
      same_blocks = kept.same_blocks ∙ sym size;
      all_levels = length-put_mid at levels page fits ∙ kept.all_levels ∙ ap (λ (n : ℕ). n * pages * cells) (sym size);
      most = λ k below. elim (eqb_tells k sb) [
        | inl t ↦ (let here : get_or (set programmed sb count) k 0 ≡ count =
            ap (λ (j : ℕ). get_or (set programmed sb count) j 0) t.1 ∙ get_or-set_same programmed sb count 0 within in
            omega arith)
        | inr t ↦ (let there = get_or-set_other programmed sb k count 0 t.1 in
            let before : get_or programmed k 0 ≤ pages = kept.most k (omega arith) in omega arith)
      ];
    }

-- what is kept of a block of what a store stands for
pub record IsInStore (pages cells : ℕ) (programmed erases : List ℕ) (now : Stored) (sb : ℕ) : Type 0 where
  pub within : sb < length programmed
  pub programmed_is : programmed_in now.blocks sb ≡ get_or programmed sb 0
  pub erases_are : (cells_at now.blocks sb).erases ≡ get_or erases sb 0
  pub pages_are : now.pages ≡ pages
  pub cells_are : now.cells ≡ cells

pub in_store : (pages cells : ℕ) (programmed erases : List ℕ) (levels : List ℤ) (now : Stored) (sb : ℕ) →
    (let s : Stored = record { pages = pages; cells = cells; blocks = kept_blocks pages cells programmed erases levels } in s) ≡ now →
    sb < length now.blocks → IsInStore pages cells programmed erases now sb
in_store pages cells programmed erases levels now sb was inside =
    let within = within_store pages cells programmed erases levels now sb was inside in
    record {
      within = within;
      programmed_is = sym (ap (λ (s : Stored). programmed_in s.blocks sb) was) ∙ programmed_in-kept_blocks pages cells programmed erases levels sb within;
      erases_are = sym (ap (λ (s : Stored). (cells_at s.blocks sb).erases) was)
          ∙ ap (λ (block : BlockCells). block.erases) (cells_at-kept_blocks pages cells programmed erases levels sb within);
      pages_are = sym (ap (λ (s : Stored). s.pages) was);
      cells_are = sym (ap (λ (s : Stored). s.cells) was);
    }

-- a list that was put back whole
pub put_back : (n : ℕ) (new old : List ℤ) → length new ≡ n → take n (new ++ drop (length new) old) ≡ new
put_back n new old size = take-append-le n new (drop (length new) old) (omega arith) ∙ take_all n new (omega arith)

-- where the next page of a block goes
pub record HasRoomAt (pages cells : ℕ) (programmed : List ℕ) (levels : List ℤ) (sb count : ℕ) : Type 0 where
  pub within : sb < length programmed
  pub count_is : count ≡ get_or programmed sb 0
  pub room : count < pages
  pub fits : (sb * pages + count) * cells + cells ≤ length levels

pub has_room : (pages cells : ℕ) (programmed erases : List ℕ) (levels : List ℤ) (now : Stored) (sb count : ℕ) →
    (let s : Stored = record { pages = pages; cells = cells; blocks = kept_blocks pages cells programmed erases levels } in s) ≡ now →
    IsKept pages cells programmed erases levels → sb < length now.blocks → programmed_in now.blocks sb < now.pages →
    count ≡ get_or programmed sb count → HasRoomAt pages cells programmed levels sb count
has_room pages cells programmed erases levels now sb count was kept inside room read =
    let here = in_store pages cells programmed erases levels now sb was inside in
    let count_is : count ≡ get_or programmed sb 0 = read ∙ get_or_default_zero programmed sb count here.within in
    let less : count < pages = omega (arith, here.programmed_is, here.pages_are) in
    record {
      within = here.within;
      count_is = count_is;
      room = less;
      fits = page_fits pages cells programmed erases levels sb count kept here.within less;
    }

-- what is kept once the next page of a block was written
pub record IsPushed (pages cells : ℕ) (programmed erases : List ℕ) (levels : List ℤ) (now : Stored) (sb : ℕ) (page : List ℤ) : Type 0 where
  pub kept : IsKept pages cells programmed erases levels
  pub stands_for : (let s : Stored = record { pages = pages; cells = cells; blocks = kept_blocks pages cells programmed erases levels } in s)
      ≡ record { pages = now.pages; cells = now.cells; blocks = with_page now.blocks sb page }

pub pushed : (pages cells : ℕ) (programmed erases : List ℕ) (levels : List ℤ) (now : Stored) (sb count at len : ℕ) (page whole written : List ℤ) →
    (let s : Stored = record { pages = pages; cells = cells; blocks = kept_blocks pages cells programmed erases levels } in s) ≡ now →
    IsKept pages cells programmed erases levels → HasRoomAt pages cells programmed levels sb count → length page ≡ cells →
    at ≡ (sb * pages + count) * cells → whole ≡ levels → len ≡ length levels →
    written ≡ take at whole ++ (page ++ drop (length page) (drop at whole)) →
    IsPushed pages cells (set programmed sb (count + 1)) erases (take len (written ++ drop (length written) levels)) now sb page
pushed pages cells programmed erases levels now sb count at len page whole written was kept room size place whole_is len_is written_is =
    let after = put_mid ((sb * pages + count) * cells) (length page) levels page in
    let fits : (sb * pages + count) * cells + length page ≤ length levels = let f = room.fits in omega arith in
    let same : written ≡ after =
    written_is ∙ ap (λ (n : ℕ). take n whole ++ (page ++ drop (length page) (drop n whole))) place
    ∙ ap (λ (xs : List ℤ). put_mid ((sb * pages + count) * cells) (length page) xs page) whole_is in
    let long : length written ≡ len =
    ap (λ (xs : List ℤ). length xs) same ∙ length-put_mid ((sb * pages + count) * cells) levels page fits ∙ sym len_is in
    let back : take len (written ++ drop (length written) levels) ≡ after = put_back len written levels long ∙ same in
    let result : IsPushed pages cells (set programmed sb (count + 1)) erases after now sb page = record {
      kept = IsKept-push pages cells programmed erases levels page sb (count + 1) ((sb * pages + count) * cells) kept room.within (let r = room.room in omega arith) fits;
      stands_for = stored_after pages cells (kept_blocks pages cells programmed erases levels) _ now (λ blocks. with_page blocks sb page) was
          (subst (λ (n : ℕ). kept_blocks pages cells (set programmed sb (n + 1)) erases (put_mid ((sb * pages + n) * cells) (length page) levels page)
          ≡ with_page (kept_blocks pages cells programmed erases levels) sb page)
          (sym room.count_is)
          (kept-push pages cells programmed erases levels sb page room.within (let r = room.room in let e = room.count_is in omega arith) kept size));
    } in
    subst (λ (xs : List ℤ). IsPushed pages cells (set programmed sb (count + 1)) erases xs now sb page) (sym back) result

-- a word's fresh levels are as many as its bits
pub length-fresh_levels : (law : CellLaw) (place erases : ℕ) (word : List ℕ) →
    length (fresh_levels law place erases word) ≡ 8 * length word
length-fresh_levels law place erases word =
    length-map-range_with_len (fresh_level law (start_of_program law.seed place erases) word) 0 (8 * length word)

-- one more level is aged
pub aged_more : (erased : ℤ) (amount : ℕ) (xs ys : List ℤ) (i : ℕ) (level : ℤ) → i < length xs → length ys ≡ length xs →
    ys ≡ map (aged_level erased amount) (take i xs) ++ drop i xs → level ≡ aged_level erased amount (get_or ys i (pos 0)) →
    set ys i level ≡ map (aged_level erased amount) (take (i + 1) xs) ++ drop (i + 1) xs
aged_more erased amount xs ys i level within same before is =
    ap (set ys i) is ∙ map_over_more (aged_level erased amount) xs ys i (get_or ys i (pos 0)) within before
    (get_or_default ys i (pos 0) (get_or ys i (pos 0)) (omega arith))

-- ---- a blank store

-- counts that are all the same
pub get_or-same : (n k d : ℕ) → k < n → get_or (replicate n d) k 0 ≡ d
get_or-same n k d below = get_or-replicate n k d 0 below

-- a blank store stands for blank blocks
pub kept-blank : (pages cells blocks : ℕ) (levels : List ℤ) →
    kept_blocks pages cells (replicate blocks 0) (replicate blocks 0) levels ≡ replicate blocks blank_cells
kept-blank pages cells blocks levels =
    let f = kept_block pages cells (replicate blocks 0) (replicate blocks 0) levels in
    ap (λ (n : ℕ). map f (range_with_len 0 n)) (length-replicate blocks 0)
    ∙ sym (fill_by_all f (replicate blocks blank_cells) blocks blank_cells (length-replicate blocks blank_cells)
    (λ k below. get_or-replicate blocks k blank_cells blank_cells below
    ∙ sym (block_path (ap (kept_pages pages cells levels k) (get_or-same blocks k 0 below)) (get_or-same blocks k 0 below))))
