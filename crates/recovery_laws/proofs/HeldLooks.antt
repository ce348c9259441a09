-- What else an open look holds fast: the proofs of the laws of specs/HeldLooks.antt.
use Rattle.std.proofs.Common.{◌≡◌, ℕ, ◌+◌, ◌-◌, ◌*◌, ◌≤◌, ◌==◌, Bool, true, false, [], refl, sym, subst, Option, arith}
use Rattle.std.specs.Prelude.{IsTrue, nat_le, option_map}
use Rattle.std.proofs.lemmas.Bool.Decides.{nat_tests}
use Rattle.std.proofs.lemmas.List.Elements.{All-weaker}
use Rattle.ssd_geo.specs.Coding.{coding_of}
use Rattle.ssd_geo.specs.declared.look.Look.{Look}
use Rattle.ssd_geo.specs.declared.row.Row.{Row}
use Rattle.ssd_histories.specs.History.{open_looks}
use Rattle.ssd_histories.specs.Lawful.{IsLawfulMove}
use Rattle.ssd_histories.specs.LookLaws.{NamesOther, is_rewritten}
use Rattle.ssd_histories.specs.PastBlocks.{used_of}
use Rattle.ssd_histories.specs.PastRows.{row_after, row_of}
use Rattle.ssd_histories.specs.PinnedPages.{KeepsPages}
use Rattle.ssd_histories.specs.PlainMap.{past_at}
use Rattle.ssd_histories.proofs.PinnedWords.{pinned_pages_stay}
use Rattle.ssd_histories.proofs.RewrittenRows.{rewritten_rows_differ}
use Rattle.recovery_laws.specs.HeldLooks.{ClosedStripesStay, KeepsStripes, StaleCopiesChangeNothing}
use Rattle.recovery_laws.proofs.Pasts.{StepLook, step_look}

pub still_within : (slots before after : ℕ) → before ≤ after → nat_le slots before ≡ true → nat_le slots after ≡ true
still_within slots before after more within = grind (arith, nat_tests)

-- no fewer slots are used, so a stripe that was closed is
pub closed_stripes_stay : ClosedStripesStay
closed_stripes_stay ladder start past due lawful =
    All-weaker (KeepsPages (coding_of start.base) start [] past) (KeepsStripes start.base past)
    (λ pin keeps stripe closed.
    still_within ((stripe + 1) * (start.base.shape.dies - 1)) (used_of start.base (past_at past pin.1.at) pin.1.slot.sb)
    (used_of start.base past pin.1.slot.sb) keeps.used closed)
    (open_looks past) (pinned_pages_stay ladder (coding_of start.base) start [] past due lawful)

-- a copy's row wasn't written or trimmed since its look, so it is another than a row that was
pub stale_copies_change_nothing : StaleCopiesChangeNothing
stale_copies_change_nothing ladder base past tag at slot row names lawful rewritten =
    subst (λ (option : Option Look). row_after (option_map (λ look. (look.row, Row.Page slot look.serial)) option) row (row_of base past row) ≡ row_of base past row)
    (sym step.is_look) (by_test (step.pin.1.row == row) refl)
  where
    step : StepLook past at (NamesOther base past) (λ look. IsLawfulMove (ladder past at) base past look slot)
    step =
        step_look past tag at (NamesOther base past) (λ look. IsLawfulMove (ladder past at) base past look slot)
        (rewritten_rows_differ ladder base past names lawful.0) lawful.1.meets

    same_number : (n : ℕ) → (n == row) ≡ true → n ≡ row
    same_number n e = grind (arith, nat_tests)

    other_row : step.pin.1.row ≡ row → ⊥
    other_row same =
        step.has (subst IsTrue (λ i. is_rewritten (sym same i) (sym step.is_at i) past) rewritten) step.pin.1.serial step.fact.may_copy.is_unchanged

    by_test : (b : Bool) → (step.pin.1.row == row) ≡ b → (elim b [ true ↦ Row.Page slot step.pin.1.serial | false ↦ row_of base past row ]) ≡ row_of base past row
    by_test true e = absurd (other_row (same_number step.pin.1.row e))
    by_test false e = refl
