-- Entries and histories, read one after the other.
use Rattle.std.proofs.Common.{◌≡◌, refl, sym, ap, ◌∙◌, subst, ℕ, suc, ◌+◌, ◌-◌, ◌<◌, List, [], ◌∷◌}
use Rattle.std.proofs.Common.{◌++◌, length, Result, Ok, Err, arith}
use Rattle.ssd_formats.specs.Fields.{◌>>=◌}
use Rattle.ssd_formats.specs.HistoryText.{Printed, at_end, read_history, count_of_words}
use Rattle.ssd_formats.specs.HistoryText.{entries_of_lines, entry_of_words, histories_of_lines}
use Rattle.ssd_formats.specs.HistoryText.{next_line, printed}
use Rattle.ssd_formats.specs.Numbers.{Text}
use Rattle.ssd_geo.specs.declared.entry.Entry.{Entry}
use Rattle.history_text.specs.LinesLeft.{StopsAt, channel_of_lines}
use Rattle.history_text.specs.declared.fault.HistoryFault.{HistoryFault}
use Rattle.history_text.specs.declared.fault.HistoryFault.TheVariants.{Line, Memory}

-- a value that was read, and what is read on from it
read_on : {A B F : Type 0} (first : Result A F) (next : A → Result B F) (value : A) →
    first ≡ Ok value → first >>= next ≡ next value
read_on first next value e = ap (λ r. r >>= next) e

-- a stop stays
stops : {A B : Type 0} (fault : HistoryFault) (first : Result A ℕ) (next : A → Result B ℕ) →
    StopsAt fault first → StopsAt fault (first >>= next)
stops (Line line) first next e = ap (λ r. r >>= next) e
stops Memory first next e = tt

-- what reads the same has the same stop
stops_same : {A : Type 0} (fault : HistoryFault) (a b : Result A ℕ) →
    a ≡ b → StopsAt fault b → StopsAt fault a
stops_same fault a b e stop = subst (StopsAt fault) (sym e) stop

-- the entries of a channel, or the histories of all
abbrev Entries : Type 0
Entries = Result (List Entry × Printed) ℕ

abbrev Histories : Type 0
Histories = Result (List (List Entry) × Printed) ℕ

-- so many more entries behind these and the one that was read
abbrev entries_with : ℕ → List Entry → Entry × Printed → Entries
entries_with n before entry = entries_of_lines n (before ++ entry.0 ∷ []) entry.1

entries_next : (n : ℕ) (before : List Entry) (rest : Printed) →
    entries_of_lines (suc n) before rest
    ≡ next_line (entry_of_words (length before)) rest >>= entries_with n before
unfolding entries_of_lines
entries_next n before rest = refl

-- of the entries that are left one is read
entries_left : (left n at : ℕ) (before : List Entry) (rest : Printed) → left ≡ suc n → length before ≡ at →
    entries_of_lines left before rest ≡ next_line (entry_of_words at) rest >>= entries_with n before
entries_left left n at before rest e is =
    ap (λ m. entries_of_lines m before rest) e ∙ entries_next n before rest
    ∙ ap (λ m. next_line (entry_of_words m) rest >>= entries_with n before) is

pub entries_go_on : (all : Entries) (count at : ℕ) (before : List Entry) (rest : Printed) (entry : Entry)
    (after : Printed) → at < count → length before ≡ at →
    all ≡ entries_of_lines (count - at) before rest →
    next_line (entry_of_words at) rest ≡ Ok (entry, after) →
    all ≡ entries_of_lines (count - (at + 1)) (before ++ entry ∷ []) after
entries_go_on all count at before rest entry after inside is so e =
    so ∙ entries_left (count - at) (count - (at + 1)) at before rest (omega arith) is
    ∙ read_on (next_line (entry_of_words at) rest) _ (entry, after) e

pub entries_stop : (fault : HistoryFault) (all : Entries) (count at : ℕ) (before : List Entry)
    (rest : Printed) → at < count → length before ≡ at →
    all ≡ entries_of_lines (count - at) before rest →
    StopsAt fault (next_line (entry_of_words at) rest) → StopsAt fault all
entries_stop fault all count at before rest inside is so stop =
    let left = entries_left (count - at) (count - (at + 1)) at before rest (omega arith) is in
    stops_same fault all _ (so ∙ left) (stops fault (next_line (entry_of_words at) rest) _ stop)

no_entry_left : (before : List Entry) (rest : Printed) → entries_of_lines 0 before rest ≡ Ok (before, rest)
unfolding entries_of_lines
no_entry_left before rest = refl

pub entries_end : (all : Entries) (count at : ℕ) (before : List Entry) (rest : Printed) →
    count ≡ at → all ≡ entries_of_lines (count - at) before rest → all ≡ Ok (before, rest)
entries_end all count at before rest e so =
    let none : count - at ≡ 0 = omega arith in
    so ∙ ap (λ m. entries_of_lines m before rest) none ∙ no_entry_left before rest

-- so many more histories behind these and the one that was read
abbrev histories_with : ℕ → List (List Entry) → List Entry × Printed → Histories
histories_with n before history = histories_of_lines n (before ++ history.0 ∷ []) history.1

abbrev counted : ℕ × Printed → Entries
counted entries = entries_of_lines entries.0 [] entries.1

histories_next : (n : ℕ) (before : List (List Entry)) (rest : Printed) →
    histories_of_lines (suc n) before rest
    ≡ next_line (count_of_words (length before)) rest >>= (λ entries. counted entries >>= histories_with n before)
unfolding histories_of_lines
histories_next n before rest = refl

grouped : {A B C F : Type 0} (first : Result A F) (next : A → Result B F) (last : B → Result C F) →
    first >>= (λ x. next x >>= last) ≡ (first >>= next) >>= last
grouped (Ok x) next last = refl
grouped (Err fault) next last = refl

-- of the histories that are left one is read
histories_left : (left n at : ℕ) (before : List (List Entry)) (rest : Printed) →
    left ≡ suc n → length before ≡ at →
    histories_of_lines left before rest ≡ channel_of_lines at rest >>= histories_with n before
histories_left left n at before rest e is =
    ap (λ m. histories_of_lines m before rest) e ∙ histories_next n before rest
    ∙ grouped (next_line (count_of_words (length before)) rest) counted (histories_with n before)
    ∙ ap (λ m. channel_of_lines m rest >>= histories_with n before) is

pub histories_go_on : (all : Histories) (count at : ℕ) (before : List (List Entry)) (rest : Printed)
    (history : List Entry) (after : Printed) → at < count → length before ≡ at →
    all ≡ histories_of_lines (count - at) before rest →
    channel_of_lines at rest ≡ Ok (history, after) →
    all ≡ histories_of_lines (count - (at + 1)) (before ++ history ∷ []) after
histories_go_on all count at before rest history after inside is so e =
    so ∙ histories_left (count - at) (count - (at + 1)) at before rest (omega arith) is
    ∙ read_on (channel_of_lines at rest) _ (history, after) e

pub histories_stop : (fault : HistoryFault) (all : Histories) (count at : ℕ) (before : List (List Entry))
    (rest : Printed) → at < count → length before ≡ at →
    all ≡ histories_of_lines (count - at) before rest →
    StopsAt fault (channel_of_lines at rest) → StopsAt fault all
histories_stop fault all count at before rest inside is so stop =
    let left = histories_left (count - at) (count - (at + 1)) at before rest (omega arith) is in
    stops_same fault all _ (so ∙ left) (stops fault (channel_of_lines at rest) _ stop)

no_history_left : (before : List (List Entry)) (rest : Printed) →
    histories_of_lines 0 before rest ≡ Ok (before, rest)
unfolding histories_of_lines
no_history_left before rest = refl

pub histories_end : (all : Histories) (count at : ℕ) (before : List (List Entry)) (rest : Printed) →
    count ≡ at → all ≡ histories_of_lines (count - at) before rest → all ≡ Ok (before, rest)
histories_end all count at before rest e so =
    let none : count - at ≡ 0 = omega arith in
    so ∙ ap (λ m. histories_of_lines m before rest) none ∙ no_history_left before rest

-- a stop before the end of the text is that of the whole
pub stopped : (fault : HistoryFault) (channels : ℕ) (text : Text) →
    StopsAt fault (histories_of_lines channels [] (printed text)) →
    StopsAt fault (read_history channels text)
stopped fault channels text stop =
    stops fault (histories_of_lines channels [] (printed text)) at_end stop
