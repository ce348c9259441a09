-- What a die tells of its blocks after a page was programmed, and after a block was erased or aged.
use Rattle.std.proofs.Common.{◌≡◌, ◌≢◌, ℕ, zero, suc, ◌+◌, ◌<◌, List, [], ◌∷◌, ◌++◌, length, map, set, ℤ, refl, ap, sym, ◌∙◌}
use Rattle.std.proofs.Common.{Option, Some, arith, get_or-set_same, inl, inr}
use Rattle.std.specs.Prelude.{option_map, slice_get}
use Rattle.std.proofs.lemmas.Bool.{cases_eq}
use Rattle.std.proofs.lemmas.List.{get_or-set_other, length-map, length_push}
use Rattle.std.proofs.lemmas.Option.{slice_get-map}
use Rattle.ssd_geo.specs.BlockCells.{BlockCells, blank_cells, cells_at}
use Rattle.ssd_geo.specs.Cells.{aged_level}
use Rattle.onfi_cmd.specs.DieState.{programmed_in, with_aged, with_erased, with_page}

-- the block that was put among the blocks, and any other
pub put_here : (blocks : List BlockCells) (sb : ℕ) (to : BlockCells) → sb < length blocks → cells_at (set blocks sb to) sb ≡ to
put_here blocks sb to lt = get_or-set_same blocks sb to blank_cells lt

pub put_elsewhere : (blocks : List BlockCells) (sb other : ℕ) (to : BlockCells) → other ≢ sb
    → cells_at (set blocks sb to) other ≡ cells_at blocks other
put_elsewhere blocks sb other to differ = get_or-set_other blocks sb other to blank_cells differ

-- one more item at the end
pub pushed_last : {X : Type 0} (xs : List X) (x : X) (n : ℕ) → n ≡ length xs → slice_get (xs ++ x ∷ []) n ≡ Some x
pushed_last [] x n e = ap {B = Option _} (λ (k : ℕ). slice_get (x ∷ []) k) e
pushed_last (y ∷ xs) x zero e = absurd (omega (arith, e))
pushed_last (y ∷ xs) x (suc n) e = pushed_last xs x n (omega (arith, e))

pub pushed_before : {X : Type 0} (xs : List X) (x : X) (n : ℕ) → n ≢ length xs → slice_get (xs ++ x ∷ []) n ≡ slice_get xs n
pushed_before [] x zero e = absurd (e refl)
pushed_before [] x (suc n) e = refl
pushed_before (y ∷ xs) x zero e = refl
pushed_before (y ∷ xs) x (suc n) e = pushed_before xs x n (λ f. e (omega (arith, f)))

-- ---- a program

-- the page that was programmed, the other pages, and how many they are
pub programmed_page : (blocks : List BlockCells) (sb page : ℕ) (levels : List ℤ) → sb < length blocks
    → page ≡ programmed_in blocks sb
    → slice_get (cells_at (with_page blocks sb levels) sb).pages page ≡ Some levels
programmed_page blocks sb page levels lt is =
    ap {B = Option (List ℤ)} (λ (cells : BlockCells). slice_get cells.pages page)
    (put_here blocks sb (record { pages = (cells_at blocks sb).pages ++ levels ∷ []; erases = (cells_at blocks sb).erases }) lt)
    ∙ pushed_last (cells_at blocks sb).pages levels page is

pub other_page : (blocks : List BlockCells) (sb page : ℕ) (levels : List ℤ) → sb < length blocks
    → page ≢ programmed_in blocks sb
    → slice_get (cells_at (with_page blocks sb levels) sb).pages page ≡ slice_get (cells_at blocks sb).pages page
other_page blocks sb page levels lt differ =
    ap {B = Option (List ℤ)} (λ (cells : BlockCells). slice_get cells.pages page)
    (put_here blocks sb (record { pages = (cells_at blocks sb).pages ++ levels ∷ []; erases = (cells_at blocks sb).erases }) lt)
    ∙ pushed_before (cells_at blocks sb).pages levels page differ

pub one_page_more : (blocks : List BlockCells) (sb : ℕ) (levels : List ℤ) → sb < length blocks
    → programmed_in (with_page blocks sb levels) sb ≡ programmed_in blocks sb + 1
one_page_more blocks sb levels lt =
    ap {B = ℕ} (λ (cells : BlockCells). length cells.pages)
    (put_here blocks sb (record { pages = (cells_at blocks sb).pages ++ levels ∷ []; erases = (cells_at blocks sb).erases }) lt)
    ∙ length_push (cells_at blocks sb).pages levels

-- the erases stay in each block
pub erases_stay : (blocks : List BlockCells) (sb other : ℕ) (levels : List ℤ) → sb < length blocks
    → (cells_at (with_page blocks sb levels) other).erases ≡ (cells_at blocks other).erases
erases_stay blocks sb other levels lt = elim (cases_eq other sb) [
  | inl same ↦
      ap {B = ℕ} (λ (n : ℕ). (cells_at (with_page blocks sb levels) n).erases) same
      ∙ ap {B = ℕ} (λ (cells : BlockCells). cells.erases)
      (put_here blocks sb (record { pages = (cells_at blocks sb).pages ++ levels ∷ []; erases = (cells_at blocks sb).erases })
      lt)
      ∙ ap {B = ℕ} (λ (n : ℕ). (cells_at blocks n).erases) (sym same)
  | inr differ ↦
      ap {B = ℕ} (λ (cells : BlockCells). cells.erases)
      (put_elsewhere blocks sb other (record {
        pages = (cells_at blocks sb).pages ++ levels ∷ [];
        erases = (cells_at blocks sb).erases;
      }) differ)
]

-- ---- an erase

pub erased_here : (blocks : List BlockCells) (sb : ℕ) → sb < length blocks
    → cells_at (with_erased blocks sb) sb ≡ record { pages = []; erases = (cells_at blocks sb).erases + 1 }
erased_here blocks sb lt = put_here blocks sb (record { pages = []; erases = (cells_at blocks sb).erases + 1 }) lt

pub erased_elsewhere : (blocks : List BlockCells) (sb other : ℕ) → other ≢ sb
    → cells_at (with_erased blocks sb) other ≡ cells_at blocks other
erased_elsewhere blocks sb other differ = put_elsewhere blocks sb other
    (record { pages = []; erases = (cells_at blocks sb).erases + 1 }) differ

-- ---- ageing

pub aged_here : (erased : ℤ) (blocks : List BlockCells) (sb amount page : ℕ) → sb < length blocks
    → slice_get (cells_at (with_aged erased blocks sb amount) sb).pages page ≡ option_map (map (aged_level erased amount))
    (slice_get (cells_at blocks sb).pages page)
aged_here erased blocks sb amount page lt =
    ap {B = Option (List ℤ)} (λ (cells : BlockCells). slice_get cells.pages page)
    (put_here blocks sb (record {
      pages = map (map (aged_level erased amount)) (cells_at blocks sb).pages;
      erases = (cells_at blocks sb).erases;
    }) lt)
    ∙ slice_get-map (map (aged_level erased amount)) (cells_at blocks sb).pages page

pub aged_elsewhere : (erased : ℤ) (blocks : List BlockCells) (sb amount other : ℕ) → other ≢ sb
    → cells_at (with_aged erased blocks sb amount) other ≡ cells_at blocks other
aged_elsewhere erased blocks sb amount other differ =
    put_elsewhere blocks sb other (record {
      pages = map (map (aged_level erased amount)) (cells_at blocks sb).pages;
      erases = (cells_at blocks sb).erases;
    }) differ

-- ageing leaves as many pages, erased as often
pub as_many_aged : (erased : ℤ) (blocks : List BlockCells) (sb amount other : ℕ) → sb < length blocks
    → programmed_in (with_aged erased blocks sb amount) other ≡ programmed_in blocks other
as_many_aged erased blocks sb amount other lt = elim (cases_eq other sb) [
  | inl same ↦
      ap {B = ℕ} (λ (n : ℕ). programmed_in (with_aged erased blocks sb amount) n) same
      ∙ ap {B = ℕ} (λ (cells : BlockCells). length cells.pages)
      (put_here blocks sb (record {
        pages = map (map (aged_level erased amount)) (cells_at blocks sb).pages;
        erases = (cells_at blocks sb).erases;
      }) lt)
      ∙ length-map (cells_at blocks sb).pages (map (aged_level erased amount))
      ∙ ap {B = ℕ} (λ (n : ℕ). programmed_in blocks n) (sym same)
  | inr differ ↦ ap {B = ℕ} (λ (cells : BlockCells). length cells.pages) (aged_elsewhere erased blocks sb amount other differ)
]

pub erased_as_often : (erased : ℤ) (blocks : List BlockCells) (sb amount other : ℕ) → sb < length blocks
    → (cells_at (with_aged erased blocks sb amount) other).erases ≡ (cells_at blocks other).erases
erased_as_often erased blocks sb amount other lt = elim (cases_eq other sb) [
  | inl same ↦
      ap {B = ℕ} (λ (n : ℕ). (cells_at (with_aged erased blocks sb amount) n).erases) same
      ∙ ap {B = ℕ} (λ (cells : BlockCells). cells.erases)
      (put_here blocks sb (record {
        pages = map (map (aged_level erased amount)) (cells_at blocks sb).pages;
        erases = (cells_at blocks sb).erases;
      }) lt)
      ∙ ap {B = ℕ} (λ (n : ℕ). (cells_at blocks n).erases) (sym same)
  | inr differ ↦ ap {B = ℕ} (λ (cells : BlockCells). cells.erases) (aged_elsewhere erased blocks sb amount other differ)
]
