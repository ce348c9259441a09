-- A superblock with a first live slot has a live page.
use Rattle.std.proofs.Common.{◌≡◌, ℕ, zero, suc, ◌<◌, ◌==◌, cond, Bool, true, false, List, [], ◌∷◌, Some, refl, sym, ap, ◌∙◌, arith}
use Rattle.std.specs.Prelude.{filter_map, option_map}
use Rattle.std.proofs.lemmas.List.Sums.{sum_by-cons}
use Rattle.std.proofs.lemmas.Option.{none-some}
use Rattle.ssd_geo.specs.declared.row.Row.{Row}
use Rattle.ssd_geo.specs.declared.slot.Slot.{Slot}
use Rattle.ssd_histories.specs.PageMap.{first_live_in, index_in, least_of, live_in, names_superblock, slot_at}

none_indexed : (rows : List Row) (sb : ℕ) → live_in rows sb ≡ 0 → filter_map (index_in sb) rows ≡ []
none_indexed [] sb none = refl
none_indexed (Row.Empty ∷ rows) sb none =
    let more = sum_by-cons (λ (row : Row). cond (names_superblock sb row) 1 0) Row.Empty rows in
    none_indexed rows sb (omega (arith, more, none))
none_indexed (Row.Lost ∷ rows) sb none =
    let more = sum_by-cons (λ (row : Row). cond (names_superblock sb row) 1 0) Row.Lost rows in
    none_indexed rows sb (omega (arith, more, none))
none_indexed (Row.Page slot serial ∷ rows) sb none = by_test (slot.sb == sb) refl (none_indexed rows sb)
  where
    by_test : (b : Bool) → (slot.sb == sb) ≡ b → (live_in rows sb ≡ 0 → filter_map (index_in sb) rows ≡ []) →
        filter_map (index_in sb) (Row.Page slot serial ∷ rows) ≡ []
    by_test true is rest =
        let more = sum_by-cons (λ (row : Row). cond (names_superblock sb row) 1 0) (Row.Page slot serial) rows in
        let own : ◌≡◌ {A = ℕ} (cond (names_superblock sb (Row.Page slot serial)) 1 0) 1 = ap {B = ℕ} (λ b. cond b 1 0) is in
        absurd (omega (arith, more, own, none))
    by_test false is rest =
        let more = sum_by-cons (λ (row : Row). cond (names_superblock sb row) 1 0) (Row.Page slot serial) rows in
        rw is (rest (omega (arith, more, none)))

pub first_is_live : (rows : List Row) (sb : ℕ) (slot : Slot) → first_live_in rows sb ≡ Some slot → 0 < live_in rows sb
first_is_live rows sb slot is = by_count (live_in rows sb) refl
  where
    by_count : (n : ℕ) → live_in rows sb ≡ n → 0 < n
    by_count zero none =
        absurd (none-some slot
        (sym (ap (λ (found : List ℕ). option_map (slot_at sb) (least_of found)) (none_indexed rows sb none)) ∙ is))
    by_count (suc n) some = omega arith
