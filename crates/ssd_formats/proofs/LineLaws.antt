-- Lines of words are found again in a text, and so are histories.
use Rattle.std.proofs.Common.{◌≡◌, refl, ℕ, zero, suc, ◌+◌, ◌-◌, ◌/◌, ◌%◌, ◌^◌, ◌<◌, ◌≤◌, Bool, true, false, List, [], ◌∷◌, ◌++◌, length, map, arith, ap, ◌∙◌, sym, ◌&&◌, not, inl, inr}
use Rattle.std.specs.Prelude.{Result, Ok, Err, Option, Some, None, IsTrue, ℤ, flat_map, ◌==◌, if◌then◌else◌, codes, decimal, bytes_eq, nat_le}
use Rattle.std.specs.List.{list_all, slice_split, enumerate_from}
use Rattle.std.specs.Fmt.{signed_decimal, digits, digits_onto, digit_glyph}
use Rattle.std.proofs.lemmas.Bool.{cases_lt, and_from, and_parts, leb-true}
use Rattle.std.proofs.lemmas.Grind.{common_steps}
use Rattle.std.proofs.lemmas.List.{append_assoc, append-nil, length-append}
use Rattle.std.proofs.lemmas.List.Splits.{length-slice_split}
use Rattle.ssd_formats.specs.EntryText.{kind_words, slot_text, place_text, tag_text, row_words, closed_words, dotted, spaced, line_of, victim_word, fault_word, entry_line, history_text, histories_text}
use Rattle.ssd_formats.specs.Fields.{◌>>=◌, is_below}
use Rattle.ssd_formats.specs.HistoryText.{Printed, printed_lines, value_or, line_at, next_line, entry_of_words, entries_of_lines, count_of_words, histories_of_lines, read_history, at_end, most_entries, is_spelled_slot, is_spelled_place, is_spelled_row, is_spelled_kind, is_spelled_victim, is_closed_of_page, is_spelled_entry, is_spelled_history, are_spelled_histories}
use Rattle.ssd_formats.specs.ImageHead.{is_short}
use Rattle.ssd_formats.specs.Lines.{is_line_feed}
use Rattle.ssd_formats.specs.Numbers.{Text}
use Rattle.ssd_formats.specs.ReplyText.{actors_text, actor_text, reply_line}
use Rattle.ssd_formats.specs.RunText.{Summary, counts_text, summary_text, summary_of, run_text}
use Rattle.ssd_geo.specs.declared.reply.Reply.{Reply}
use Rattle.ssd_geo.specs.declared.reply.CallKind.{CallKind}
use Rattle.ssd_geo.specs.declared.entry.Entry.{Entry}
use Rattle.ssd_geo.specs.declared.kind.Kind.{Kind}
use Rattle.ssd_geo.specs.declared.kind.Kind.TheVariants.{Look, Sense, Leave, Write, Trim, Move, Changed, Condemn, Stay, Pick, Erase, BadWrite, BadCopy, BadErase, Age, Refused, FaultSense, FaultAge, Note}
use Rattle.ssd_geo.specs.declared.place.Place.{Place}
use Rattle.ssd_geo.specs.declared.row.Row.{Row}
use Rattle.ssd_geo.specs.declared.row.Row.TheVariants.{Empty, Lost, Page}
use Rattle.ssd_geo.specs.declared.slot.Slot.{Slot}
use Rattle.ssd_geo.specs.declared.tag.Tag.{Tag}
use Rattle.ssd_formats.proofs.FieldLaws.{goes_on}
use Rattle.ssd_formats.proofs.HeadLaws.{below_is}
use Rattle.ssd_formats.proofs.NumberLaws.{decimal_is_read}
use Rattle.ssd_formats.proofs.TextLaws.{lacks, split_first, split_joined, lacks_joined, decimal_lacks, signed_lacks, small_by, short_is_small, three_of, kind_again, tag_again}
use Rattle.shared_lemmas.proofs.Tests.{same_number}

-- whether a word has neither space nor LF
abbrev pub plain : Text → Bool
plain word = lacks 32 word && lacks 10 word

pub plain_decimal : (n : ℕ) → n < 2 ^ 64 → plain (decimal n) ≡ true
plain_decimal n h = and_from (lacks 32 (decimal n)) (lacks 10 (decimal n)) (decimal_lacks 32 n (omega arith) h) (decimal_lacks 10 n (omega arith) h)

plain_signed : (n : ℤ) → is_short n ≡ true → plain (signed_decimal n) ≡ true
plain_signed n e =
    let small = short_is_small n e in
    and_from (lacks 32 (signed_decimal n)) (lacks 10 (signed_decimal n)) (signed_lacks 32 n (omega arith) small) (signed_lacks 10 n (omega arith) small)

spaces_lacked : (c : ℕ) (ns : List ℕ) → c < 46 → list_all (is_below (2 ^ 64)) ns ≡ true → list_all (lacks c) (map decimal ns) ≡ true
spaces_lacked c [] low e = refl
spaces_lacked c (n ∷ ns) low e =
    let both = and_parts (is_below (2 ^ 64) n) (list_all (is_below (2 ^ 64)) ns) e in
    and_from (lacks c (decimal n)) (list_all (lacks c) (map decimal ns)) (decimal_lacks c n (omega (arith, low)) (below_is (2 ^ 64) n both.0)) (spaces_lacked c ns low both.1)

plain_dotted : (ns : List ℕ) → list_all (is_below (2 ^ 64)) ns ≡ true → plain (dotted ns) ≡ true
plain_dotted ns e =
    and_from (lacks 32 (dotted ns)) (lacks 10 (dotted ns))
    (lacks_joined 32 46 (map decimal ns) refl (spaces_lacked 32 ns (omega arith) e))
    (lacks_joined 10 46 (map decimal ns) refl (spaces_lacked 10 ns (omega arith) e))

wide : (bound n : ℕ) → bound ≤ 2 ^ 64 → is_below bound n ≡ true → is_below (2 ^ 64) n ≡ true
wide bound n few e = let small : n < 2 ^ 64 = small_by bound n few e in grind (arith, common_steps)

plain_8 : (n : ℕ) → is_below (2 ^ 8) n ≡ true → plain (decimal n) ≡ true
plain_8 n e = plain_decimal n (small_by (2 ^ 8) n (omega arith) e)

plain_16 : (n : ℕ) → is_below (2 ^ 16) n ≡ true → plain (decimal n) ≡ true
plain_16 n e = plain_decimal n (small_by (2 ^ 16) n (omega arith) e)

plain_32 : (n : ℕ) → is_below (2 ^ 32) n ≡ true → plain (decimal n) ≡ true
plain_32 n e = plain_decimal n (small_by (2 ^ 32) n (omega arith) e)

plain_64 : (n : ℕ) → is_below (2 ^ 64) n ≡ true → plain (decimal n) ≡ true
plain_64 n e = plain_decimal n (small_by (2 ^ 64) n (omega arith) e)

plain_slot : (slot : Slot) → is_spelled_slot slot ≡ true → plain (slot_text slot) ≡ true
plain_slot slot e =
    let both = and_parts (is_below (2 ^ 16) slot.sb) (is_below (2 ^ 32) slot.index) e in
    plain_dotted (slot.sb ∷ slot.index ∷ []) (rw (wide (2 ^ 16) slot.sb (omega arith) both.0, wide (2 ^ 32) slot.index (omega arith) both.1) refl)

plain_place : (place : Place) → is_spelled_place place ≡ true → plain (place_text place) ≡ true
plain_place place e =
    let parts = three_of (is_below (2 ^ 8) place.die) (is_below (2 ^ 16) place.sb) (is_below (2 ^ 16) place.page) e in
    plain_dotted (place.die ∷ place.sb ∷ place.page ∷ []) (rw (wide (2 ^ 8) place.die (omega arith) parts.0, wide (2 ^ 16) place.sb (omega arith) parts.1, wide (2 ^ 16) place.page (omega arith) parts.2) refl)

plain_block : (die sb : ℕ) → is_below (2 ^ 8) die ≡ true → is_below (2 ^ 16) sb ≡ true → plain (dotted (die ∷ sb ∷ [])) ≡ true
plain_block die sb d b =
    plain_dotted (die ∷ sb ∷ []) (rw (wide (2 ^ 8) die (omega arith) d, wide (2 ^ 16) sb (omega arith) b) refl)

pub plain_tag : (tag : Tag) → is_below (2 ^ 8) tag.actor ≡ true → is_below (2 ^ 32) tag.call ≡ true → plain (tag_text tag) ≡ true
plain_tag tag a c =
    plain_dotted (tag.actor ∷ tag.call ∷ []) (rw (wide (2 ^ 8) tag.actor (omega arith) a, wide (2 ^ 32) tag.call (omega arith) c) refl)

-- words of which each is plain
abbrev pub plain_words : List Text → Bool
plain_words words = list_all plain words

with_word : (word : Text) (words : List Text) → plain word ≡ true → plain_words words ≡ true → plain_words (word ∷ words) ≡ true
with_word word words e f = and_from (plain word) (plain_words words) e f

plain_fault : (fault : Bool) → plain_words (fault_word fault ∷ []) ≡ true
plain_fault true = refl
plain_fault false = refl

plain_row : (row : Row) → is_spelled_row row ≡ true → plain_words (row_words row) ≡ true
plain_row Empty e = refl
plain_row Lost e = refl
plain_row (Page slot serial) e =
    let both = and_parts (is_spelled_slot slot) (is_below (2 ^ 64) serial) e in
    with_word (slot_text slot) (decimal serial ∷ []) (plain_slot slot both.0) (with_word (decimal serial) [] (plain_64 serial both.1) refl)

plain_found : (row : Row) (closed : Bool) → is_spelled_row row ≡ true → plain_words (row_words row ++ closed_words row closed) ≡ true
plain_found Empty closed e = refl
plain_found Lost closed e = refl
plain_found (Page slot serial) true e =
    let both = and_parts (is_spelled_slot slot) (is_below (2 ^ 64) serial) e in
    with_word (slot_text slot) (decimal serial ∷ codes "closed" ∷ []) (plain_slot slot both.0) (with_word (decimal serial) (codes "closed" ∷ []) (plain_64 serial both.1) refl)
plain_found (Page slot serial) false e =
    let both = and_parts (is_spelled_slot slot) (is_below (2 ^ 64) serial) e in
    with_word (slot_text slot) (decimal serial ∷ codes "open" ∷ []) (plain_slot slot both.0) (with_word (decimal serial) (codes "open" ∷ []) (plain_64 serial both.1) refl)

plain_victim : (victim : Option ℕ) → is_spelled_victim victim ≡ true → plain (victim_word victim) ≡ true
plain_victim None e = refl
plain_victim (Some sb) e = plain_16 sb e

one_number : (n : ℕ) → is_below (2 ^ 32) n ≡ true → plain_words (decimal n ∷ []) ≡ true
one_number n e = with_word (decimal n) [] (plain_32 n e) refl

one_block : (n : ℕ) → is_below (2 ^ 16) n ≡ true → plain_words (decimal n ∷ []) ≡ true
one_block n e = with_word (decimal n) [] (plain_16 n e) refl

number_and_slot : (n : ℕ) (slot : Slot) → (is_below (2 ^ 32) n && is_spelled_slot slot) ≡ true → plain_words (decimal n ∷ slot_text slot ∷ []) ≡ true
number_and_slot n slot e =
    let both = and_parts (is_below (2 ^ 32) n) (is_spelled_slot slot) e in
    with_word (decimal n) (slot_text slot ∷ []) (plain_32 n both.0) (with_word (slot_text slot) [] (plain_slot slot both.1) refl)

sense_words : (at : ℕ) (place : Place) (level : ℤ) → (is_below (2 ^ 32) at && is_spelled_place place && is_short level) ≡ true → plain_words (decimal at ∷ place_text place ∷ signed_decimal level ∷ []) ≡ true
sense_words at place level e =
    let parts = three_of (is_below (2 ^ 32) at) (is_spelled_place place) (is_short level) e in
    with_word (decimal at) (place_text place ∷ signed_decimal level ∷ []) (plain_32 at parts.0)
    (with_word (place_text place) (signed_decimal level ∷ []) (plain_place place parts.1) (with_word (signed_decimal level) [] (plain_signed level parts.2) refl))

bad_slot_words : (n : ℕ) (slot : Slot) (die : ℕ) (fault : Bool) → (is_below (2 ^ 32) n && is_spelled_slot slot && is_below (2 ^ 8) die) ≡ true → plain_words (decimal n ∷ slot_text slot ∷ decimal die ∷ fault_word fault ∷ []) ≡ true
bad_slot_words n slot die fault e =
    let parts = three_of (is_below (2 ^ 32) n) (is_spelled_slot slot) (is_below (2 ^ 8) die) e in
    with_word (decimal n) (slot_text slot ∷ decimal die ∷ fault_word fault ∷ []) (plain_32 n parts.0)
    (with_word (slot_text slot) (decimal die ∷ fault_word fault ∷ []) (plain_slot slot parts.1)
    (with_word (decimal die) (fault_word fault ∷ []) (plain_8 die parts.2) (plain_fault fault)))

age_words : (die sb amount : ℕ) → (is_below (2 ^ 8) die && is_below (2 ^ 16) sb && is_below (2 ^ 16) amount) ≡ true → plain_words (dotted (die ∷ sb ∷ []) ∷ decimal amount ∷ []) ≡ true
age_words die sb amount e =
    let parts = three_of (is_below (2 ^ 8) die) (is_below (2 ^ 16) sb) (is_below (2 ^ 16) amount) e in
    with_word (dotted (die ∷ sb ∷ [])) (decimal amount ∷ []) (plain_block die sb parts.0 parts.1) (with_word (decimal amount) [] (plain_16 amount parts.2) refl)

worn_words : (n : ℕ) (word : Text) → is_below (2 ^ 32) n ≡ true → plain word ≡ true → plain_words (decimal n ∷ word ∷ []) ≡ true
worn_words n word e f = with_word (decimal n) (word ∷ []) (plain_32 n e) (with_word word [] f refl)

pub plain_kind : (kind : Kind) → is_spelled_kind kind ≡ true → plain_words (kind_words kind) ≡ true
plain_kind (Look row found closed) e =
    let parts = three_of (is_below (2 ^ 32) row) (is_spelled_row found) (is_closed_of_page found closed) e in
    with_word (decimal row) (row_words found ++ closed_words found closed) (plain_32 row parts.0) (plain_found found closed parts.1)
plain_kind (Sense at place level) e = sense_words at place level e
plain_kind (Leave at) e = one_number at e
plain_kind (Write row slot) e = number_and_slot row slot e
plain_kind (Trim row) e = one_number row e
plain_kind (Move at slot) e = number_and_slot at slot e
plain_kind (Changed at found) e =
    let both = and_parts (is_below (2 ^ 32) at) (is_spelled_row found) e in
    with_word (decimal at) (row_words found) (plain_32 at both.0) (plain_row found both.1)
plain_kind (Condemn at) e = one_number at e
plain_kind (Stay at true) e = worn_words at (codes "readonly") e refl
plain_kind (Stay at false) e = worn_words at (codes "noroom") e refl
plain_kind (Pick sb) e = one_block sb e
plain_kind (Erase sb) e = one_block sb e
plain_kind (BadWrite row slot die fault) e = bad_slot_words row slot die fault e
plain_kind (BadCopy at slot die fault) e = bad_slot_words at slot die fault e
plain_kind (BadErase sb die fault) e =
    let both = and_parts (is_below (2 ^ 16) sb) (is_below (2 ^ 8) die) e in
    with_word (decimal sb) (decimal die ∷ fault_word fault ∷ []) (plain_16 sb both.0) (with_word (decimal die) (fault_word fault ∷ []) (plain_8 die both.1) (plain_fault fault))
plain_kind (Age die sb amount) e = age_words die sb amount e
plain_kind (Refused row true) e = worn_words row (codes "readonly") e refl
plain_kind (Refused row false) e = worn_words row (codes "full") e refl
plain_kind (FaultSense at place level) e = sense_words at place level e
plain_kind (FaultAge die sb amount) e = age_words die sb amount e
plain_kind (Note free victim live pins garbage) e =
    let last = and_parts (is_below (2 ^ 16) free && is_spelled_victim victim && is_below (2 ^ 32) live && is_below (2 ^ 32) pins) (is_below (2 ^ 16) garbage) e in
    let fourth = and_parts (is_below (2 ^ 16) free && is_spelled_victim victim && is_below (2 ^ 32) live) (is_below (2 ^ 32) pins) last.0 in
    let parts = three_of (is_below (2 ^ 16) free) (is_spelled_victim victim) (is_below (2 ^ 32) live) fourth.0 in
    with_word (decimal free) (victim_word victim ∷ decimal live ∷ decimal pins ∷ decimal garbage ∷ []) (plain_16 free parts.0)
    (with_word (victim_word victim) (decimal live ∷ decimal pins ∷ decimal garbage ∷ []) (plain_victim victim parts.1)
    (with_word (decimal live) (decimal pins ∷ decimal garbage ∷ []) (plain_32 live parts.2)
    (with_word (decimal pins) (decimal garbage ∷ []) (plain_32 pins fourth.1)
    (with_word (decimal garbage) [] (plain_16 garbage last.1) refl))))

lacks_of_plain : (words : List Text) → plain_words words ≡ true → (list_all (lacks 32) words ≡ true) × (list_all (lacks 10) words ≡ true)
lacks_of_plain [] e = (refl, refl)
lacks_of_plain (word ∷ words) e =
    let both = and_parts (plain word) (plain_words words) e in
    let here = and_parts (lacks 32 word) (lacks 10 word) both.0 in
    let others = lacks_of_plain words both.1 in
    (and_from (lacks 32 word) (list_all (lacks 32) words) here.0 others.0, and_from (lacks 10 word) (list_all (lacks 10) words) here.1 others.1)

-- the lines of a text
abbrev pub lines_from : Text → List (Option Text)
lines_from text = printed_lines (slice_split is_line_feed text)

pub printed_more : (part : Text) (parts : List Text) → 0 < length parts → printed_lines (part ∷ parts) ≡ Some part ∷ printed_lines parts
printed_more part [] some = absurd (omega (arith, some))
printed_more part (next ∷ parts) some = refl

pub line_first : (words : List Text) (rest : Text) → plain_words words ≡ true → lines_from (line_of words ++ rest) ≡ Some (spaced words) ∷ lines_from rest
line_first words rest e =
    let some : 0 < length (slice_split is_line_feed rest) = omega (arith, length-slice_split is_line_feed rest) in
    ap lines_from (append_assoc (spaced words) (10 ∷ []) rest)
    ∙ (ap printed_lines (split_first 10 (spaced words) rest (lacks_joined 10 32 words refl (lacks_of_plain words e).1))
    ∙ printed_more (spaced words) (slice_split is_line_feed rest) some)

pub next_again : {A : Type 0} (value : List Text → Option A) (words : List Text) (x : A) (number : ℕ) (rest : Text) → plain_words words ≡ true → 0 < length words → value words ≡ Some x →
    next_line value (record { number = number; lines = lines_from (line_of words ++ rest) }) ≡ Ok (x, record { number = number + 1; lines = lines_from rest })
next_again value words x number rest e some v =
    ap (line_at value number) (line_first words rest e)
    ∙ (ap (λ ws. value_or number (lines_from rest) (value ws)) (split_joined 32 words (lacks_of_plain words e).0 some)
    ∙ ap (value_or number (lines_from rest)) v)

same_text : (text : Text) → bytes_eq text text ≡ true
same_text [] = refl
same_text (b ∷ text) = rw (same_number b, same_text text) refl

-- values that were read and the lines after them, for equal values and numbers
abbrev pub lines_after : {A : Type 0} → A → ℕ → List (Option Text) → Result (A × Printed) ℕ
lines_after x number lines = Ok (x, record { number = number; lines = lines })

same_lines : {A : Type 0} (x y : A) (m n : ℕ) (lines : List (Option Text)) → x ≡ y → m ≡ n → lines_after x m lines ≡ lines_after y n lines
same_lines x y m n lines e f = rw (e, f) refl

false_is_true : false ≡ true → ⊥
false_is_true e = grind (arith, common_steps)

-- the words of an entry's line
abbrev entry_words : ℕ → Entry → List Text
entry_words position entry = decimal position ∷ tag_text entry.tag ∷ kind_words entry.kind

entry_again : (position : ℕ) (entry : Entry) → is_spelled_entry entry ≡ true → entry_of_words position (entry_words position entry) ≡ Some entry
entry_again position entry e =
    let parts = three_of (is_below (2 ^ 8) entry.tag.actor) (is_below (2 ^ 32) entry.tag.call) (is_spelled_kind entry.kind) e in
    rw (same_text (decimal position), kind_again entry.kind parts.2, tag_again entry.tag parts.0 parts.1) refl

plain_entry : (position : ℕ) (entry : Entry) → position < 2 ^ 64 → is_spelled_entry entry ≡ true → plain_words (entry_words position entry) ≡ true
plain_entry position entry h e =
    let parts = three_of (is_below (2 ^ 8) entry.tag.actor) (is_below (2 ^ 32) entry.tag.call) (is_spelled_kind entry.kind) e in
    with_word (decimal position) (tag_text entry.tag ∷ kind_words entry.kind) (plain_decimal position h)
    (with_word (tag_text entry.tag) (kind_words entry.kind) (plain_tag entry.tag parts.0 parts.1) (plain_kind entry.kind parts.2))

pub entries_again : (entries before : List Entry) (position number : ℕ) (rest : Text) → length before ≡ position → position + length entries ≤ most_entries →
    list_all is_spelled_entry entries ≡ true →
    entries_of_lines (length entries) before (record { number = number; lines = lines_from (flat_map entry_line (enumerate_from position entries) ++ rest) }) ≡ Ok (before ++ entries, record { number = number + length entries; lines = lines_from rest })
unfolding entries_of_lines
entries_again [] before position number rest at few e =
    same_lines before (before ++ []) number (number + 0) (lines_from rest) (sym (append-nil before)) (omega arith)
entries_again (entry ∷ entries) before position number rest at few e =
    let both = and_parts (is_spelled_entry entry) (list_all is_spelled_entry entries) e in
    let words : List Text = entry_words position entry in
    let tail : Text = flat_map entry_line (enumerate_from (position + 1) entries) in
    let small : position < 2 ^ 64 = omega (arith, few) in
    let value : entry_of_words (length before) words ≡ Some entry = ap (λ n. entry_of_words n words) at ∙ entry_again position entry both.0 in
    let next : length (before ++ entry ∷ []) ≡ position + 1 = omega (arith, length-append before (entry ∷ []), at) in
    ap (λ text. entries_of_lines (suc (length entries)) before (record { number = number; lines = lines_from text })) (append_assoc (line_of words) tail rest)
    ∙ (goes_on _ _ _ (next_again (entry_of_words (length before)) words entry number (tail ++ rest) (plain_entry position entry small both.0) (omega arith) value)
    ∙ (entries_again entries (before ++ entry ∷ []) (position + 1) (number + 1) rest next (omega (arith, few)) both.1
    ∙ same_lines ((before ++ entry ∷ []) ++ entries) (before ++ entry ∷ entries) (number + 1 + length entries) (number + suc (length entries)) (lines_from rest)
    (append_assoc before (entry ∷ []) entries) (omega arith)))

-- the lines that histories take
abbrev pub lines_taken : List (List Entry) → ℕ
lines_taken [] = 0
lines_taken (entries ∷ histories) = 1 + length entries + lines_taken histories

channel_words_plain : (channel count : ℕ) → channel < 2 ^ 64 → count < 2 ^ 64 → plain_words (codes "channel" ∷ decimal channel ∷ decimal count ∷ []) ≡ true
channel_words_plain channel count h k =
    with_word (codes "channel") (decimal channel ∷ decimal count ∷ []) refl
    (with_word (decimal channel) (decimal count ∷ []) (plain_decimal channel h) (with_word (decimal count) [] (plain_decimal count k) refl))

count_again : (channel count : ℕ) → count < 2 ^ 64 → nat_le count most_entries ≡ true → count_of_words channel (codes "channel" ∷ decimal channel ∷ decimal count ∷ []) ≡ Some count
count_again channel count h e = rw (same_text (decimal channel), decimal_is_read count h, e) refl

-- histories are read, and then so many more from what follows them
pub histories_again : (k : ℕ) (histories before : List (List Entry)) (channel number : ℕ) (rest : Text) → length before ≡ channel → channel + length histories ≤ 512 →
    list_all is_spelled_history histories ≡ true →
    histories_of_lines (length histories + k) before (record { number = number; lines = lines_from (flat_map history_text (enumerate_from channel histories) ++ rest) })
    ≡ histories_of_lines k (before ++ histories) (record { number = number + lines_taken histories; lines = lines_from rest })
unfolding histories_of_lines
histories_again k [] before channel number rest at few e =
    let none : 0 + k ≡ k = omega arith in
    let number_stays : number ≡ number + 0 = omega arith in
    ap (λ n. histories_of_lines n before (record { number = number; lines = lines_from rest })) none
    ∙ (ap (λ (b : List (List Entry)). histories_of_lines k b (record { number = number; lines = lines_from rest })) (sym (append-nil before))
    ∙ ap (λ n. histories_of_lines k (before ++ []) (record { number = n; lines = lines_from rest })) number_stays)
histories_again k (entries ∷ histories) before channel number rest at few e =
    let both = and_parts (is_spelled_history entries) (list_all is_spelled_history histories) e in
    let here = and_parts (nat_le (length entries) most_entries) (list_all is_spelled_entry entries) both.0 in
    let count : length entries ≤ most_entries = leb-true (length entries) most_entries here.0 in
    let words : List Text = codes "channel" ∷ decimal channel ∷ decimal (length entries) ∷ [] in
    let first : Text = flat_map entry_line (enumerate_from 0 entries) in
    let tail : Text = flat_map history_text (enumerate_from (channel + 1) histories) in
    let small : channel < 2 ^ 64 = omega (arith, few) in
    let few_entries : length entries < 2 ^ 64 = omega (arith, count) in
    let step : suc (length histories) + k ≡ suc (length histories + k) = omega arith in
    let value : count_of_words (length before) words ≡ Some (length entries) = ap (λ n. count_of_words n words) at ∙ count_again channel (length entries) few_entries here.0 in
    let next : length (before ++ entries ∷ []) ≡ channel + 1 = omega (arith, length-append before (entries ∷ []), at) in
    let numbers : number + 1 + length entries + lines_taken histories ≡ number + (1 + length entries + lines_taken histories) = omega arith in
    ap (λ n. histories_of_lines n before (record { number = number; lines = lines_from (((line_of words ++ first) ++ tail) ++ rest) })) step
    ∙ (ap (λ text. histories_of_lines (suc (length histories + k)) before (record { number = number; lines = lines_from text })) (append_assoc (line_of words ++ first) tail rest ∙ append_assoc (line_of words) first (tail ++ rest))
    ∙ (goes_on _ _ _ (next_again (count_of_words (length before)) words (length entries) number (first ++ (tail ++ rest)) (channel_words_plain channel (length entries) small few_entries) (omega arith) value)
    ∙ (goes_on _ _ _ (entries_again entries [] 0 (number + 1) (tail ++ rest) refl (omega (arith, count)) here.1)
    ∙ (histories_again k histories (before ++ entries ∷ []) (channel + 1) (number + 1 + length entries) rest next (omega (arith, few)) both.1
    ∙ (ap (λ (b : List (List Entry)). histories_of_lines k b (record { number = number + 1 + length entries + lines_taken histories; lines = lines_from rest })) (append_assoc before (entries ∷ []) histories)
    ∙ ap (λ n. histories_of_lines k (before ++ entries ∷ histories) (record { number = n; lines = lines_from rest })) numbers)))))

pub histories_are_read : (histories : List (List Entry)) → IsTrue (are_spelled_histories histories) → read_history (length histories) (histories_text histories) ≡ Ok histories
unfolding histories_of_lines
histories_are_read histories h =
    let both = and_parts (nat_le (length histories) 256) (list_all is_spelled_history histories) h in
    let few : 0 + length histories ≤ 512 = omega (arith, leb-true (length histories) 256 both.0) in
    let whole : length histories ≡ length histories + 0 = omega arith in
    ap (λ n. read_history n (histories_text histories)) whole
    ∙ (ap (read_history (length histories + 0)) (sym (append-nil (histories_text histories)))
    ∙ ap (λ read. read >>= at_end) (histories_again 0 histories [] 0 1 [] refl few both.1))

-- digits lack every byte below them, however many they are
either_lacks : (c : ℕ) (b : Bool) (x y : Text) → lacks c x ≡ true → lacks c y ≡ true → lacks c (if b then x else y) ≡ true
either_lacks c true x y e f = e
either_lacks c false x y e f = f

glyph_lacks : (c n : ℕ) → c < 48 → not (digit_glyph false (n % 10) == c) ≡ true
glyph_lacks c n low =
    let small : n % 10 < 10 = omega arith in grind (arith, common_steps)

digits_onto_lack : (k c n : ℕ) (acc : Text) → c < 48 → lacks c acc ≡ true → lacks c (digits_onto k 10 false n acc) ≡ true
digits_onto_lack zero c n acc low e = e
digits_onto_lack (suc k) c n acc low e =
    let more : lacks c (digit_glyph false (n % 10) ∷ acc) ≡ true = and_from (not (digit_glyph false (n % 10) == c)) (lacks c acc) (glyph_lacks c n low) e in
    either_lacks c (n / 10 == 0) (digit_glyph false (n % 10) ∷ acc) (digits_onto k 10 false (n / 10) (digit_glyph false (n % 10) ∷ acc)) more
    (digits_onto_lack k c (n / 10) (digit_glyph false (n % 10) ∷ acc) low more)

any_decimal_plain : (n : ℕ) → plain (decimal n) ≡ true
unfolding digits
any_decimal_plain n =
    and_from (lacks 32 (decimal n)) (lacks 10 (decimal n)) (digits_onto_lack 64 32 n [] (omega arith) refl) (digits_onto_lack 64 10 n [] (omega arith) refl)

-- a line that spells no value
next_none : {A : Type 0} (value : List Text → Option A) (words : List Text) (number : ℕ) (rest : Text) → plain_words words ≡ true → 0 < length words → value words ≡ None →
    next_line value (record { number = number; lines = lines_from (line_of words ++ rest) }) ≡ Err number
next_none value words number rest e some v =
    ap (line_at value number) (line_first words rest e)
    ∙ (ap (λ ws. value_or number (lines_from rest) (value ws)) (split_joined 32 words (lacks_of_plain words e).0 some)
    ∙ ap (value_or number (lines_from rest)) v)

-- what follows the histories begins with no channel
no_channel : (channel number : ℕ) (answers : List (List Reply)) (s : Summary) →
    next_line (count_of_words channel) (record { number = number; lines = lines_from (actors_text answers ++ summary_text s) }) ≡ Err number
no_channel channel number [] s = next_none (count_of_words channel) (codes "summary" ∷ []) number (counts_text s) refl (omega arith) refl
no_channel channel number (given ∷ answers) s =
    let words : List Text = codes "actor" ∷ decimal 0 ∷ decimal (length given) ∷ [] in
    let own_replies : Text = flat_map reply_line (enumerate_from 0 given) in
    let others : Text = flat_map actor_text (enumerate_from 1 answers) in
    let is_plain : plain_words words ≡ true = with_word (codes "actor") (decimal 0 ∷ decimal (length given) ∷ []) refl
    (with_word (decimal 0) (decimal (length given) ∷ []) (any_decimal_plain 0) (with_word (decimal (length given)) [] (any_decimal_plain (length given)) refl)) in
    ap (λ text. next_line (count_of_words channel) (record { number = number; lines = lines_from text }))
    (append_assoc (line_of words ++ own_replies) others (summary_text s) ∙ append_assoc (line_of words) own_replies (others ++ summary_text s))
    ∙ next_none (count_of_words channel) words number (own_replies ++ (others ++ summary_text s)) is_plain (omega arith) refl

pub stays_err : {A B F : Type 0} (read : Result A F) (fault : F) (next : A → Result B F) → read ≡ Err fault → (read >>= next) ≡ Err fault
stays_err read fault next e = ap (λ r. r >>= next) e

abbrev first_of : {A B : Type 0} → A → Result (A × B) ℕ → A
first_of other (Ok read) = read.0
first_of other (Err fault) = other

abbrev is_read : {A : Type 0} → Result A ℕ → Bool
is_read (Ok read) = true
is_read (Err fault) = false

histories_meet : (k number number' : ℕ) (histories histories' : List (List Entry)) (answers answers' : List (List Reply)) (s s' : Summary) →
    histories_of_lines k histories (record { number = number; lines = lines_from (actors_text answers ++ summary_text s) })
    ≡ histories_of_lines 0 histories' (record { number = number'; lines = lines_from (actors_text answers' ++ summary_text s') }) →
    histories ≡ histories'
unfolding histories_of_lines
histories_meet zero number number' histories histories' answers answers' s s' e = ap (first_of histories) e
histories_meet (suc k) number number' histories histories' answers answers' s s' e =
    let refused = stays_err _ _ (λ (entries : ℕ × Printed). entries_of_lines entries.0 [] entries.1 >>= (λ history. histories_of_lines k (histories ++ history.0 ∷ []) history.1)) (no_channel (length histories) number answers s) in
    absurd (false_is_true (sym (ap is_read refused) ∙ ap is_read e))

told_by_fewer : (levels levels' : ℕ) (histories histories' : List (List Entry)) (kinds kinds' : List (List CallKind)) (answers answers' : List (List Reply)) (dropped dropped' : ℕ) →
    length histories ≤ length histories' → IsTrue (are_spelled_histories histories) → IsTrue (are_spelled_histories histories') →
    run_text true levels histories kinds answers dropped ≡ run_text true levels' histories' kinds' answers' dropped' → histories ≡ histories'
told_by_fewer levels levels' histories histories' kinds kinds' answers answers' dropped dropped' fewer h h' e =
    let both = and_parts (nat_le (length histories) 256) (list_all is_spelled_history histories) h in
    let both' = and_parts (nat_le (length histories') 256) (list_all is_spelled_history histories') h' in
    let few : 0 + length histories ≤ 512 = omega (arith, leb-true (length histories) 256 both.0) in
    let few' : 0 + length histories' ≤ 512 = omega (arith, leb-true (length histories') 256 both'.0) in
    let k : ℕ = length histories' - length histories in
    let s : Summary = summary_of levels histories kinds answers dropped in
    let s' : Summary = summary_of levels' histories' kinds' answers' dropped' in
    let text : Text = histories_text histories in
    let text' : Text = histories_text histories' in
    let rest : Text = actors_text answers ++ summary_text s in
    let rest' : Text = actors_text answers' ++ summary_text s' in
    let same : text ++ rest ≡ text' ++ rest' = sym (append_assoc text (actors_text answers) (summary_text s)) ∙ (e ∙ append_assoc text' (actors_text answers') (summary_text s')) in
    let sums : length histories + k ≡ length histories' + 0 = omega (arith, fewer) in
    let left = histories_again k histories [] 0 1 rest refl few both.1 in
    let right = histories_again 0 histories' [] 0 1 rest' refl few' both'.1 in
    histories_meet k (1 + lines_taken histories) (1 + lines_taken histories') histories histories' answers answers' s s'
    (sym left
    ∙ (ap (λ n. histories_of_lines n [] (record { number = 1; lines = lines_from (text ++ rest) })) sums
    ∙ (ap (λ t. histories_of_lines (length histories' + 0) [] (record { number = 1; lines = lines_from t })) same
    ∙ right)))

pub whole_text_tells : (levels levels' : ℕ) (histories histories' : List (List Entry)) (kinds kinds' : List (List CallKind)) (answers answers' : List (List Reply)) (dropped dropped' : ℕ) →
    IsTrue (are_spelled_histories histories) → IsTrue (are_spelled_histories histories') →
    run_text true levels histories kinds answers dropped ≡ run_text true levels' histories' kinds' answers' dropped' → histories ≡ histories'
whole_text_tells levels levels' histories histories' kinds kinds' answers answers' dropped dropped' h h' e =
    elim (cases_lt (length histories) (length histories')) [
      | inl lt ↦ told_by_fewer levels levels' histories histories' kinds kinds' answers answers' dropped dropped' (omega (arith, lt)) h h' e
      | inr le ↦ sym (told_by_fewer levels' levels histories' histories kinds' kinds answers' answers dropped' dropped le h' h (sym e))
    ]
