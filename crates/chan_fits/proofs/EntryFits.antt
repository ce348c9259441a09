-- The dies fit a past with one more entry of any kind, and the table stays due in them.
use Rattle.std.proofs.Common.{◌≡◌, ℕ, ◌&&◌, Bool, true, false, List, ◌∷◌, refl, sym, subst, arith}
use Rattle.std.specs.Prelude.{nat_lt}
use Rattle.ssd_geo.specs.Bits.{bytes_sum}
use Rattle.ssd_geo.specs.Coding.{coding_of, word_bytes_in}
use Rattle.ssd_geo.specs.Ladder.{LadderState}
use Rattle.ssd_geo.specs.StripeSum.{zero_word}
use Rattle.ssd_geo.specs.declared.base.BlockBase.{BlockBase}
use Rattle.ssd_geo.specs.declared.entry.Entry.{Entry}
use Rattle.ssd_geo.specs.declared.kind.Kind.{Kind}
use Rattle.ssd_geo.specs.declared.shape.Shape.{Shape}
use Rattle.ssd_geo.specs.declared.tag.Tag.{Tag}
use Rattle.ssd_histories.specs.Blocks.{block_at, with_victim}
use Rattle.ssd_histories.specs.Lawful.{IsLawfulBy}
use Rattle.ssd_histories.specs.PastBlocks.{blocks_of}
use Rattle.ssd_histories.specs.PastPages.{senses_of, word_programmed}
use Rattle.ssd_histories.specs.Standing.{IsStart}
use Rattle.ssd_histories.specs.Start.{Start}
use Rattle.ssd_histories.proofs.UsedSlots.{made}
use Rattle.onfi_cmd.specs.DieState.{DieState}
use Rattle.chan_dies.specs.DiesState.{die_at}
use Rattle.chan_dies.specs.OneDie.{FaultsDie, RefusesBlock}
use Rattle.chan_fits.specs.DiesFit.{AreDue, DiesFit}
use Rattle.chan_fits.specs.FitLaws.{AllStay, DiesChange, DiesFitAfterEntry, DiesFitTheirStart, DueAfterEntry}
use Rattle.chan_fits.specs.FitLaws.{DueTablesAllowSteps, SumStays}
use Rattle.chan_fits.proofs.AgeFits.{age_fits}
use Rattle.chan_fits.proofs.BlockChanges.{stopped_blocks, told_kept, unerased_blocks}
use Rattle.chan_fits.proofs.DueAfter.{due_aged, due_erased, due_picked, due_programmed}
use Rattle.chan_fits.proofs.DueDies.{can_count_erases, due_retired, due_stays, has_next_pages}
use Rattle.chan_fits.proofs.EraseFits.{bad_erase_fits, erase_fits, fault_erase_fits, pick_fits, sealed_good}
use Rattle.chan_fits.proofs.FailedFits.{bad_copy_fits, bad_write_fits, fault_copy_fits, fault_write_fits, faulted_tells}
use Rattle.chan_fits.proofs.FailedFits.{refused_tells}
use Rattle.chan_fits.proofs.ProgramFits.{move_fits, write_fits}
use Rattle.chan_fits.proofs.QuietFits.{IsQuiet, fault_age_fits, fault_sense_fits, one_faults, one_keeps, sense_fits, told_fits}
use Rattle.chan_fits.proofs.StartFits.{start_due, start_fits}
use Rattle.std.proofs.lemmas.Bool.{and_parts, ltb-true}

-- the same dies with the same sum under another name
renamed : (start : Start) (contents : List (Tag × List ℕ)) (past : List Entry) (dies : List DieState) (sum after : List ℕ)
    → after ≡ sum
    → DiesFit start contents past dies sum → DiesFit start contents past dies after
renamed start contents past dies sum after e fit = subst (λ (s : List ℕ). DiesFit start contents past dies s) (sym e) fit

-- where the dies and the sum are as they were
unchanged : (start : Start) (contents : List (Tag × List ℕ)) (past : List Entry) (tag : Tag) (kind : Kind)
    (old new : List DieState) (sum after : List ℕ) → IsQuiet kind
    → AreDue start.base.shape (blocks_of start.base past) old → SumStays AllStay old new sum after
    → DiesFit start contents past old sum → DiesFit start contents (made tag kind ∷ past) new after
unchanged start contents past tag kind old new sum after quiet due stays fit =
    renamed start contents (made tag kind ∷ past) new sum after stays.sum_is
    (subst (λ (dies : List DieState). DiesFit start contents (made tag kind ∷ past) dies sum) (sym stays.dies)
    (told_fits start contents past tag kind old sum quiet due fit))

fits_by_kind : (ladder : List Entry → ℕ → LadderState) (start : Start) (contents : List (Tag × List ℕ)) (past : List Entry)
    (tag : Tag) (kind : Kind)
    (word : List ℕ) (old new : List DieState) (sum after : List ℕ)
    → IsStart start → IsLawfulBy ladder start.base (made tag kind ∷ past)
    → word ≡ word_programmed (coding_of start.base) start contents
    (senses_of (coding_of start.base) start contents past) past tag kind
    → DiesChange start.base.shape kind word old new sum after
    → AreDue start.base.shape (blocks_of start.base past) old → DiesFit start contents past old sum
    → DiesFit start contents (made tag kind ∷ past) new after
fits_by_kind ladder start contents past tag (Kind.Look row found closed) word old new sum after is_start lawful is change due
    fit =
    unchanged start contents past tag (Kind.Look row found closed) old new sum after tt due change fit
fits_by_kind ladder start contents past tag (Kind.Leave at) word old new sum after is_start lawful is change due fit =
    unchanged start contents past tag (Kind.Leave at) old new sum after tt due change fit
fits_by_kind ladder start contents past tag (Kind.Trim row) word old new sum after is_start lawful is change due fit =
    unchanged start contents past tag (Kind.Trim row) old new sum after tt due change fit
fits_by_kind ladder start contents past tag (Kind.Changed at found) word old new sum after is_start lawful is change due fit =
    unchanged start contents past tag (Kind.Changed at found) old new sum after tt due change fit
fits_by_kind ladder start contents past tag (Kind.Condemn at) word old new sum after is_start lawful is change due fit =
    unchanged start contents past tag (Kind.Condemn at) old new sum after tt due change fit
fits_by_kind ladder start contents past tag (Kind.Stay at worn) word old new sum after is_start lawful is change due fit =
    unchanged start contents past tag (Kind.Stay at worn) old new sum after tt due change fit
fits_by_kind ladder start contents past tag (Kind.Refused row worn) word old new sum after is_start lawful is change due fit =
    unchanged start contents past tag (Kind.Refused row worn) old new sum after tt due change fit
fits_by_kind ladder start contents past tag (Kind.Note free victim live pins garbage) word old new sum after is_start lawful is
    change due fit =
    unchanged start contents past tag (Kind.Note free victim live pins garbage) old new sum after tt due change fit
fits_by_kind ladder start contents past tag (Kind.Pick sb) word old new sum after is_start lawful is change due fit =
    renamed start contents (made tag (Kind.Pick sb) ∷ past) new sum after change.sum_is
    (subst (λ (dies : List DieState). DiesFit start contents (made tag (Kind.Pick sb) ∷ past) dies sum) (sym change.dies)
    (pick_fits ladder start contents past tag sb sum old lawful due fit))
fits_by_kind ladder start contents past tag (Kind.Sense at place level) word old new sum after is_start lawful is change due fit
    =
    renamed start contents (made tag (Kind.Sense at place level) ∷ past) new sum after change.sum_is
    (sense_fits start contents past tag at place level old new sum change.dies due fit)
fits_by_kind ladder start contents past tag (Kind.FaultSense at place level) word old new sum after is_start lawful is change
    due fit =
    renamed start contents (made tag (Kind.FaultSense at place level) ∷ past) new sum after change.sum_is
    (fault_sense_fits start contents past tag at place level old new sum change.dies due fit)
fits_by_kind ladder start contents past tag (Kind.Write row slot) word old new sum after is_start lawful is change due fit =
    write_fits ladder start contents past tag row slot word sum after old new is_start lawful is due change.dies change.sum_is
    fit
fits_by_kind ladder start contents past tag (Kind.Move at slot) word old new sum after is_start lawful is change due fit =
    move_fits ladder start contents past tag at slot word sum after old new is_start lawful is due change.dies change.sum_is fit
fits_by_kind ladder start contents past tag (Kind.BadWrite row slot die false) word old new sum after is_start lawful is change
    due fit =
    renamed start contents (made tag (Kind.BadWrite row slot die false) ∷ past) new
    (zero_word (word_bytes_in start.base.shape)) after change.sum_is
    (bad_write_fits ladder start contents past tag row slot die word sum old new is_start lawful is due change.dies fit)
fits_by_kind ladder start contents past tag (Kind.BadWrite row slot die true) word old new sum after is_start lawful is change
    due fit =
    renamed start contents (made tag (Kind.BadWrite row slot die true) ∷ past) new
    (zero_word (word_bytes_in start.base.shape)) after change.sum_is
    (fault_write_fits ladder start contents past tag row slot die word sum old new is_start lawful is due change.dies fit)
fits_by_kind ladder start contents past tag (Kind.BadCopy at slot die false) word old new sum after is_start lawful is change
    due fit =
    renamed start contents (made tag (Kind.BadCopy at slot die false) ∷ past) new
    (zero_word (word_bytes_in start.base.shape)) after change.sum_is
    (bad_copy_fits ladder start contents past tag at slot die word sum old new is_start lawful is due change.dies fit)
fits_by_kind ladder start contents past tag (Kind.BadCopy at slot die true) word old new sum after is_start lawful is change due
    fit =
    renamed start contents (made tag (Kind.BadCopy at slot die true) ∷ past) new
    (zero_word (word_bytes_in start.base.shape)) after change.sum_is
    (fault_copy_fits ladder start contents past tag at slot die word sum old new is_start lawful is due change.dies fit)
fits_by_kind ladder start contents past tag (Kind.Erase sb) word old new sum after is_start lawful is change due fit =
    renamed start contents (made tag (Kind.Erase sb) ∷ past) new sum after change.sum_is
    (erase_fits ladder start contents past tag sb sum old new lawful due change.dies fit)
fits_by_kind ladder start contents past tag (Kind.BadErase sb die false) word old new sum after is_start lawful is change due
    fit =
    renamed start contents (made tag (Kind.BadErase sb die false) ∷ past) new sum after change.sum_is
    (bad_erase_fits ladder start contents past tag sb die sum old new lawful due change.dies fit)
fits_by_kind ladder start contents past tag (Kind.BadErase sb die true) word old new sum after is_start lawful is change due fit
    =
    renamed start contents (made tag (Kind.BadErase sb die true) ∷ past) new sum after change.sum_is
    (fault_erase_fits ladder start contents past tag sb die sum old new lawful due change.dies fit)
fits_by_kind ladder start contents past tag (Kind.Age die sb amount) word old new sum after is_start lawful is change due fit =
    let there : (nat_lt die start.base.shape.dies ≡ true) × (nat_lt sb start.base.shape.superblocks ≡ true) =
    and_parts (nat_lt die start.base.shape.dies) (nat_lt sb start.base.shape.superblocks) lawful.1.in_range in
    renamed start contents (made tag (Kind.Age die sb amount) ∷ past) new sum after change.sum_is
    (age_fits start contents past tag die sb amount sum old new (ltb-true die start.base.shape.dies there.0)
    (ltb-true sb start.base.shape.superblocks there.1) due change.dies fit)
fits_by_kind ladder start contents past tag (Kind.FaultAge die sb amount) word old new sum after is_start lawful is change due
    fit =
    renamed start contents (made tag (Kind.FaultAge die sb amount) ∷ past) new sum after change.sum_is
    (fault_age_fits start contents past tag die sb amount old new sum change.dies due fit)

pub dies_fit_after_entry : DiesFitAfterEntry
dies_fit_after_entry ladder start contents past tag kind word old new sum after is_start lawful is change due fit =
    fits_by_kind ladder start contents past tag kind word old new sum after is_start lawful is change due fit

-- ---- the table

-- the table where the dies tell what they told
still_due : (shape : Shape) (blocks : List BlockBase) (old new : List DieState) → new ≡ old → AreDue shape blocks old
    → AreDue shape blocks new
still_due shape blocks old new same due = subst (AreDue shape blocks) (sym same) due

pub due_after_entry : DueAfterEntry
due_after_entry slots shape blocks (Kind.Look row found closed) word old new sum after count allows change due =
    still_due shape blocks old new change.dies due
due_after_entry slots shape blocks (Kind.Leave at) word old new sum after count allows change due =
    still_due shape blocks old new change.dies due
due_after_entry slots shape blocks (Kind.Trim row) word old new sum after count allows change due =
    still_due shape blocks old new change.dies due
due_after_entry slots shape blocks (Kind.Changed at found) word old new sum after count allows change due =
    still_due shape blocks old new change.dies due
due_after_entry slots shape blocks (Kind.Condemn at) word old new sum after count allows change due =
    still_due shape blocks old new change.dies due
due_after_entry slots shape blocks (Kind.Stay at worn) word old new sum after count allows change due =
    still_due shape blocks old new change.dies due
due_after_entry slots shape blocks (Kind.Refused row worn) word old new sum after count allows change due =
    still_due shape blocks old new change.dies due
due_after_entry slots shape blocks (Kind.Note free victim live pins garbage) word old new sum after count allows change due =
    still_due shape blocks old new change.dies due
due_after_entry slots shape blocks (Kind.Pick sb) word old new sum after count allows change due =
    still_due shape (with_victim blocks sb) old new change.dies
    (due_picked shape blocks old sb count (sealed_good (block_at blocks sb).state allows) due)
due_after_entry slots shape blocks (Kind.Sense at place level) word old new sum after count allows change due =
    due_stays shape blocks old new (λ die lt. told_kept (die_at old die) (die_at new die)
    (one_keeps place.die old new change.dies die)) due
due_after_entry slots shape blocks (Kind.FaultSense at place level) word old new sum after count allows change due =
    due_stays shape blocks old new (λ die lt. one_faults place.die old new change.dies die) due
due_after_entry slots shape blocks (Kind.FaultAge die sb amount) word old new sum after count allows change due =
    due_stays shape blocks old new (λ other lt. one_faults die old new change.dies other) due
due_after_entry slots shape blocks (Kind.Write row slot) word old new sum after count allows change due =
    due_programmed slots shape blocks slot word (bytes_sum word sum) old new count allows.is_next allows.in_range change.dies
    due
due_after_entry slots shape blocks (Kind.Move at slot) word old new sum after count allows change due =
    due_programmed slots shape blocks slot word (bytes_sum word sum) old new count allows.is_next allows.in_range change.dies
    due
due_after_entry slots shape blocks (Kind.BadWrite row slot die false) word old new sum after count allows change due =
    due_retired shape blocks old new slot.sb count
    (λ other lt. stopped_blocks shape slot word die (RefusesBlock slot.sb) old new (refused_tells slot.sb) change.dies other)
    due
due_after_entry slots shape blocks (Kind.BadWrite row slot die true) word old new sum after count allows change due =
    due_retired shape blocks old new slot.sb count
    (λ other lt. stopped_blocks shape slot word die FaultsDie old new faulted_tells change.dies other) due
due_after_entry slots shape blocks (Kind.BadCopy at slot die false) word old new sum after count allows change due =
    due_retired shape blocks old new slot.sb count
    (λ other lt. stopped_blocks shape slot word die (RefusesBlock slot.sb) old new (refused_tells slot.sb) change.dies other)
    due
due_after_entry slots shape blocks (Kind.BadCopy at slot die true) word old new sum after count allows change due =
    due_retired shape blocks old new slot.sb count
    (λ other lt. stopped_blocks shape slot word die FaultsDie old new faulted_tells change.dies other) due
due_after_entry slots shape blocks (Kind.Erase sb) word old new sum after count allows change due =
    due_erased shape blocks old new sb count allows change.dies due
due_after_entry slots shape blocks (Kind.BadErase sb die false) word old new sum after count allows change due =
    due_retired shape blocks old new sb count (λ other lt. unerased_blocks shape.dies sb die (RefusesBlock sb) old new
    (refused_tells sb) change.dies other) due
due_after_entry slots shape blocks (Kind.BadErase sb die true) word old new sum after count allows change due =
    due_retired shape blocks old new sb count (λ other lt. unerased_blocks shape.dies sb die FaultsDie old new faulted_tells
    change.dies other) due
due_after_entry slots shape blocks (Kind.Age die sb amount) word old new sum after count allows change due =
    due_aged shape blocks old new die sb amount allows change.dies.others change.dies.changed due

-- ---- what a due table allows

pub due_tables_allow_steps : DueTablesAllowSteps
due_tables_allow_steps shape blocks dies due = record {
  programs = λ slot next. has_next_pages shape blocks dies slot due next.is_next next.in_range;
  erases = λ sb within good few. can_count_erases shape blocks dies sb due within good few;
}

pub dies_fit_their_start : DiesFitTheirStart
dies_fit_their_start start contents dies is_start tell = record {
  fits = start_fits start contents dies start.base.sum is_start tell refl;
  due = start_due start dies is_start tell;
}
