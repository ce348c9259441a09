-- Histories are read from their text, and the whole text of a run tells them.
use Rattle.std.proofs.Common.{◌≡◌, refl, ℕ, suc, ◌^◌, ◌<◌, ◌≤◌, Bool, true, false, List, [], ◌∷◌, ◌++◌, length, arith, ap, ◌∙◌, sym, ◌&&◌, not}
use Rattle.std.specs.Prelude.{Option, Some, None, ℤ, pos, negsuc, ◌==◌, codes, decimal, bytes_eq, unsigned_abs}
use Rattle.std.specs.List.{list_all, slice_split, join_with_byte}
use Rattle.std.specs.Fmt.{signed_decimal}
use Rattle.std.specs.Str.{all_ascii_digits}
use Rattle.std.specs.Char.{is_ascii_digit}
use Rattle.std.proofs.lemmas.Grind.{common_steps}
use Rattle.std.proofs.lemmas.Int.{ints}
use Rattle.std.proofs.lemmas.Fmt.{digits_decimal}
use Rattle.ssd_formats.specs.EntryText.{kind_words, slot_text, place_text, tag_text, row_words, closed_words, dotted, victim_word, fault_word}
use Rattle.ssd_formats.specs.Fields.{is_below}
use Rattle.ssd_formats.specs.HistoryText.{is_spelled_slot, is_spelled_place, is_spelled_row, is_spelled_kind, is_spelled_victim, is_closed_of_page}
use Rattle.ssd_formats.specs.ImageHead.{is_short}
use Rattle.ssd_formats.specs.KindOfWords.{◌>>=◌, number_8, number_16, number_32, read_level, cut_in_parts, read_slot, slot_in_parts, read_place, place_in_parts, read_block, block_in_parts, read_tag, tag_in_parts, read_row, read_found, read_victim, read_sense, read_slotted, read_bad_slot, read_age, kind_of_words}
use Rattle.ssd_formats.specs.Numbers.{Text, number_below}
use Rattle.ssd_geo.specs.declared.kind.Kind.{Kind}
use Rattle.ssd_geo.specs.declared.kind.Kind.TheVariants.{Look, Sense, Leave, Write, Trim, Move, Changed, Condemn, Stay, Pick, Erase, BadWrite, BadCopy, BadErase, Age, Refused, FaultSense, FaultAge, Note}
use Rattle.ssd_geo.specs.declared.place.Place.{Place}
use Rattle.ssd_geo.specs.declared.row.Row.{Row}
use Rattle.ssd_geo.specs.declared.row.Row.TheVariants.{Empty, Lost, Page}
use Rattle.ssd_geo.specs.declared.slot.Slot.{Slot}
use Rattle.ssd_geo.specs.declared.tag.Tag.{Tag}
use Rattle.ssd_formats.proofs.HeadLaws.{below_is}
use Rattle.ssd_formats.proofs.NumberLaws.{own, decimal_is_read, signed_is_read}
use Rattle.std.proofs.lemmas.Bool.{and_parts, not-true}
use Rattle.shared_lemmas.proofs.Tests.{same_number}

-- goes on with a value that is there
then_some : {A B : Type 0} (read : Option A) (x : A) (next : A → Option B) → read ≡ Some x → (read >>= next) ≡ next x
then_some read x next e = ap (λ r. r >>= next) e

-- a byte doesn't stand in a text
abbrev pub lacks : ℕ → Text → Bool
lacks c text = list_all (λ b. not (b == c)) text

split_last : (c : ℕ) (word : Text) → lacks c word ≡ true → slice_split (λ b. b == c) word ≡ word ∷ []
split_last c [] e = refl
split_last c (b ∷ word) e =
    let both = and_parts (not (b == c)) (lacks c word) e in
    rw (not-true (b == c) both.0, split_last c word both.1) refl

pub split_first : (c : ℕ) (word rest : Text) → lacks c word ≡ true → slice_split (λ b. b == c) (word ++ c ∷ rest) ≡ word ∷ slice_split (λ b. b == c) rest
split_first c [] rest e = rw (same_number c) refl
split_first c (b ∷ word) rest e =
    let both = and_parts (not (b == c)) (lacks c word) e in
    rw (not-true (b == c) both.0, split_first c word rest both.1) refl

-- words with a byte between them that none of them has
pub split_joined : (c : ℕ) (words : List Text) → list_all (lacks c) words ≡ true → 0 < length words → slice_split (λ b. b == c) (join_with_byte c words) ≡ words
split_joined c [] e some = absurd (omega (arith, some))
split_joined c (word ∷ []) e some = split_last c word (and_parts (lacks c word) true e).0
split_joined c (word ∷ next ∷ words) e some =
    let both = and_parts (lacks c word) (list_all (lacks c) (next ∷ words)) e in
    split_first c word (join_with_byte c (next ∷ words)) both.0
    ∙ ap (λ (rest : List Text). word ∷ rest) (split_joined c (next ∷ words) both.1 (omega arith))

pub lacks_append : (c : ℕ) (a b : Text) → lacks c a ≡ true → lacks c b ≡ true → lacks c (a ++ b) ≡ true
lacks_append c [] b e f = f
lacks_append c (x ∷ a) b e f =
    let both = and_parts (not (x == c)) (lacks c a) e in rw (both.0, lacks_append c a b both.1 f) refl

pub lacks_joined : (c d : ℕ) (words : List Text) → (d == c) ≡ false → list_all (lacks c) words ≡ true → lacks c (join_with_byte d words) ≡ true
lacks_joined c d [] apart e = refl
lacks_joined c d (word ∷ []) apart e = (and_parts (lacks c word) true e).0
lacks_joined c d (word ∷ next ∷ words) apart e =
    let both = and_parts (lacks c word) (list_all (lacks c) (next ∷ words)) e in
    let rest : lacks c (d ∷ join_with_byte d (next ∷ words)) ≡ true = rw (apart, lacks_joined c d (next ∷ words) apart both.1) refl in
    lacks_append c word (d ∷ join_with_byte d (next ∷ words)) both.0 rest

digit_is_other : (c d : ℕ) → c < 48 → is_ascii_digit d ≡ true → not (d == c) ≡ true
digit_is_other c d low e = grind (arith, common_steps)

digits_lack : (c : ℕ) (digits : Text) → c < 48 → all_ascii_digits digits ≡ true → lacks c digits ≡ true
digits_lack c [] low e = refl
digits_lack c (d ∷ digits) low e =
    let both = and_parts (is_ascii_digit d) (all_ascii_digits digits) e in
    let no : not (d == c) ≡ true = digit_is_other c d low both.0 in
    rw (no, digits_lack c digits low both.1) refl

pub decimal_lacks : (c n : ℕ) → c < 48 → n < 2 ^ 64 → lacks c (decimal n) ≡ true
decimal_lacks c n low h = digits_lack c (decimal n) low (digits_decimal own n h)

pub signed_lacks : (c : ℕ) (n : ℤ) → c < 45 → unsigned_abs n < 2 ^ 63 → lacks c (signed_decimal n) ≡ true
signed_lacks c (pos n) low h = decimal_lacks c n (omega (arith, low)) (omega (arith, h))
signed_lacks c (negsuc n) low h =
    let no : not (45 == c) ≡ true = grind (arith, common_steps) in rw (no, decimal_lacks c (suc n) (omega (arith, low)) (omega (arith, h))) refl

-- a number below a bound is read from its text
pub below_again : (bound n : ℕ) → bound ≤ 2 ^ 64 → is_below bound n ≡ true → number_below bound (decimal n) ≡ Some n
below_again bound n few e =
    let small : n < 2 ^ 64 = omega (arith, below_is bound n e, few) in rw (decimal_is_read n small, e) refl

pub short_is_small : (n : ℤ) → is_short n ≡ true → unsigned_abs n < 2 ^ 63
short_is_small (pos n) e = grind (arith, common_steps, ints)
short_is_small (negsuc n) e = grind (arith, common_steps, ints)

level_again : (n : ℤ) → is_short n ≡ true → read_level (signed_decimal n) ≡ Some n
level_again n e = then_some _ _ _ (signed_is_read n (short_is_small n e)) ∙ rw e refl

-- the parts of numbers with full stops between
two_parts : (m n : ℕ) → m < 2 ^ 64 → n < 2 ^ 64 → cut_in_parts (dotted (m ∷ n ∷ [])) ≡ decimal m ∷ decimal n ∷ []
two_parts m n hm hn =
    let all : list_all (lacks 46) (decimal m ∷ decimal n ∷ []) ≡ true = rw (decimal_lacks 46 m (omega arith) hm, decimal_lacks 46 n (omega arith) hn) refl in
    split_joined 46 (decimal m ∷ decimal n ∷ []) all (omega arith)

three_parts : (m n k : ℕ) → m < 2 ^ 64 → n < 2 ^ 64 → k < 2 ^ 64 → cut_in_parts (dotted (m ∷ n ∷ k ∷ [])) ≡ decimal m ∷ decimal n ∷ decimal k ∷ []
three_parts m n k hm hn hk =
    let all : list_all (lacks 46) (decimal m ∷ decimal n ∷ decimal k ∷ []) ≡ true = rw (decimal_lacks 46 m (omega arith) hm, decimal_lacks 46 n (omega arith) hn, decimal_lacks 46 k (omega arith) hk) refl in
    split_joined 46 (decimal m ∷ decimal n ∷ decimal k ∷ []) all (omega arith)

-- a number that is below a bound of 64 bits
pub small_by : (bound n : ℕ) → bound ≤ 2 ^ 64 → is_below bound n ≡ true → n < 2 ^ 64
small_by bound n few e = omega (arith, below_is bound n e, few)

slot_again : (slot : Slot) → is_spelled_slot slot ≡ true → read_slot (slot_text slot) ≡ Some slot
slot_again slot e =
    let both = and_parts (is_below (2 ^ 16) slot.sb) (is_below (2 ^ 32) slot.index) e in
    ap slot_in_parts (two_parts slot.sb slot.index (small_by (2 ^ 16) slot.sb (omega arith) both.0) (small_by (2 ^ 32) slot.index (omega arith) both.1))
    ∙ (then_some _ _ _ (below_again (2 ^ 16) slot.sb (omega arith) both.0)
    ∙ then_some _ _ _ (below_again (2 ^ 32) slot.index (omega arith) both.1))

place_again : (place : Place) → is_spelled_place place ≡ true → read_place (place_text place) ≡ Some place
place_again place e =
    let both = and_parts (is_below (2 ^ 8) place.die && is_below (2 ^ 16) place.sb) (is_below (2 ^ 16) place.page) e in
    let first = and_parts (is_below (2 ^ 8) place.die) (is_below (2 ^ 16) place.sb) both.0 in
    ap place_in_parts (three_parts place.die place.sb place.page (small_by (2 ^ 8) place.die (omega arith) first.0) (small_by (2 ^ 16) place.sb (omega arith) first.1) (small_by (2 ^ 16) place.page (omega arith) both.1))
    ∙ (then_some _ _ _ (below_again (2 ^ 8) place.die (omega arith) first.0)
    ∙ (then_some _ _ _ (below_again (2 ^ 16) place.sb (omega arith) first.1)
    ∙ then_some _ _ _ (below_again (2 ^ 16) place.page (omega arith) both.1)))

block_again : (die sb : ℕ) → is_below (2 ^ 8) die ≡ true → is_below (2 ^ 16) sb ≡ true → read_block (dotted (die ∷ sb ∷ [])) ≡ Some (die, sb)
block_again die sb d b =
    ap block_in_parts (two_parts die sb (small_by (2 ^ 8) die (omega arith) d) (small_by (2 ^ 16) sb (omega arith) b))
    ∙ (then_some _ _ _ (below_again (2 ^ 8) die (omega arith) d) ∙ then_some _ _ _ (below_again (2 ^ 16) sb (omega arith) b))

pub tag_again : (tag : Tag) → is_below (2 ^ 8) tag.actor ≡ true → is_below (2 ^ 32) tag.call ≡ true → read_tag (tag_text tag) ≡ Some tag
tag_again tag a c =
    ap tag_in_parts (two_parts tag.actor tag.call (small_by (2 ^ 8) tag.actor (omega arith) a) (small_by (2 ^ 32) tag.call (omega arith) c))
    ∙ (then_some _ _ _ (below_again (2 ^ 8) tag.actor (omega arith) a) ∙ then_some _ _ _ (below_again (2 ^ 32) tag.call (omega arith) c))

row_again : (row : Row) → is_spelled_row row ≡ true → read_row (row_words row) ≡ Some row
row_again Empty e = refl
row_again Lost e = refl
row_again (Page slot serial) e =
    let both = and_parts (is_spelled_slot slot) (is_below (2 ^ 64) serial) e in
    then_some _ _ _ (slot_again slot both.0) ∙ then_some _ _ _ (below_again (2 ^ 64) serial (omega arith) both.1)

found_again : (row : Row) (closed : Bool) → is_spelled_row row ≡ true → is_closed_of_page row closed ≡ true → read_found (row_words row ++ closed_words row closed) ≡ Some (row, closed)
found_again Empty closed e c = ap (λ b. Some (Empty, b)) (sym (not-true closed c))
found_again Lost closed e c = ap (λ b. Some (Lost, b)) (sym (not-true closed c))
found_again (Page slot serial) true e c = then_some _ _ _ (row_again (Page slot serial) e)
found_again (Page slot serial) false e c = then_some _ _ _ (row_again (Page slot serial) e)

not_dash : (digits : Text) → all_ascii_digits digits ≡ true → bytes_eq digits (codes "-") ≡ false
not_dash [] e = refl
not_dash (d ∷ digits) e =
    let both = and_parts (is_ascii_digit d) (all_ascii_digits digits) e in
    let no : (d == 45) ≡ false = not-true (d == 45) (digit_is_other 45 d (omega arith) both.0) in rw no refl

victim_again : (victim : Option ℕ) → is_spelled_victim victim ≡ true → read_victim (victim_word victim) ≡ Some victim
victim_again None e = refl
victim_again (Some sb) e =
    rw (not_dash (decimal sb) (digits_decimal own sb (small_by (2 ^ 16) sb (omega arith) e))) (then_some _ _ _ (below_again (2 ^ 16) sb (omega arith) e))

-- which parts of a conjunction hold
pub three_of : (a b c : Bool) → (a && b && c) ≡ true → (a ≡ true) × (b ≡ true) × (c ≡ true)
three_of a b c e =
    let both = and_parts (a && b) c e in
    let first = and_parts a b both.0 in
    (first.0, first.1, both.1)

n8 : (n : ℕ) → is_below (2 ^ 8) n ≡ true → number_8 (decimal n) ≡ Some n
n8 n e = below_again (2 ^ 8) n (omega arith) e

n16 : (n : ℕ) → is_below (2 ^ 16) n ≡ true → number_16 (decimal n) ≡ Some n
n16 n e = below_again (2 ^ 16) n (omega arith) e

n32 : (n : ℕ) → is_below (2 ^ 32) n ≡ true → number_32 (decimal n) ≡ Some n
n32 n e = below_again (2 ^ 32) n (omega arith) e

sense_again : (kind : ℕ → Place → ℤ → Kind) (at : ℕ) (place : Place) (level : ℤ) → (is_below (2 ^ 32) at && is_spelled_place place && is_short level) ≡ true →
    read_sense kind (decimal at ∷ place_text place ∷ signed_decimal level ∷ []) ≡ Some (kind at place level)
sense_again kind at place level e =
    let parts = three_of (is_below (2 ^ 32) at) (is_spelled_place place) (is_short level) e in
    then_some _ _ _ (n32 at parts.0) ∙ (then_some _ _ _ (place_again place parts.1) ∙ then_some _ _ _ (level_again level parts.2))

slotted_again : (kind : ℕ → Slot → Kind) (n : ℕ) (slot : Slot) → (is_below (2 ^ 32) n && is_spelled_slot slot) ≡ true →
    read_slotted kind (decimal n ∷ slot_text slot ∷ []) ≡ Some (kind n slot)
slotted_again kind n slot e =
    let both = and_parts (is_below (2 ^ 32) n) (is_spelled_slot slot) e in
    then_some _ _ _ (n32 n both.0) ∙ then_some _ _ _ (slot_again slot both.1)

bad_slot_again : (kind : ℕ → Slot → ℕ → Bool → Kind) (n : ℕ) (slot : Slot) (die : ℕ) (fault : Bool) → (is_below (2 ^ 32) n && is_spelled_slot slot && is_below (2 ^ 8) die) ≡ true →
    read_bad_slot kind (decimal n ∷ slot_text slot ∷ decimal die ∷ fault_word fault ∷ []) ≡ Some (kind n slot die fault)
bad_slot_again kind n slot die true e =
    let parts = three_of (is_below (2 ^ 32) n) (is_spelled_slot slot) (is_below (2 ^ 8) die) e in
    then_some _ _ _ (n32 n parts.0) ∙ (then_some _ _ _ (slot_again slot parts.1) ∙ then_some _ _ _ (n8 die parts.2))
bad_slot_again kind n slot die false e =
    let parts = three_of (is_below (2 ^ 32) n) (is_spelled_slot slot) (is_below (2 ^ 8) die) e in
    then_some _ _ _ (n32 n parts.0) ∙ (then_some _ _ _ (slot_again slot parts.1) ∙ then_some _ _ _ (n8 die parts.2))

age_again : (kind : ℕ → ℕ → ℕ → Kind) (die sb amount : ℕ) → (is_below (2 ^ 8) die && is_below (2 ^ 16) sb && is_below (2 ^ 16) amount) ≡ true →
    read_age kind (dotted (die ∷ sb ∷ []) ∷ decimal amount ∷ []) ≡ Some (kind die sb amount)
age_again kind die sb amount e =
    let parts = three_of (is_below (2 ^ 8) die) (is_below (2 ^ 16) sb) (is_below (2 ^ 16) amount) e in
    then_some _ _ _ (block_again die sb parts.0 parts.1) ∙ then_some _ _ _ (n16 amount parts.2)

pub kind_again : (kind : Kind) → is_spelled_kind kind ≡ true → kind_of_words (kind_words kind) ≡ Some kind
kind_again (Look row found closed) e =
    let parts = three_of (is_below (2 ^ 32) row) (is_spelled_row found) (is_closed_of_page found closed) e in
    then_some _ _ _ (n32 row parts.0) ∙ then_some _ _ _ (found_again found closed parts.1 parts.2)
kind_again (Sense at place level) e = sense_again Sense at place level e
kind_again (Leave at) e = then_some _ _ _ (n32 at e)
kind_again (Write row slot) e = slotted_again Write row slot e
kind_again (Trim row) e = then_some _ _ _ (n32 row e)
kind_again (Move at slot) e = slotted_again Move at slot e
kind_again (Changed at found) e =
    let both = and_parts (is_below (2 ^ 32) at) (is_spelled_row found) e in
    then_some _ _ _ (n32 at both.0) ∙ then_some _ _ _ (row_again found both.1)
kind_again (Condemn at) e = then_some _ _ _ (n32 at e)
kind_again (Stay at true) e = then_some _ _ _ (n32 at e)
kind_again (Stay at false) e = then_some _ _ _ (n32 at e)
kind_again (Pick sb) e = then_some _ _ _ (n16 sb e)
kind_again (Erase sb) e = then_some _ _ _ (n16 sb e)
kind_again (BadWrite row slot die fault) e = bad_slot_again BadWrite row slot die fault e
kind_again (BadCopy at slot die fault) e = bad_slot_again BadCopy at slot die fault e
kind_again (BadErase sb die true) e =
    let both = and_parts (is_below (2 ^ 16) sb) (is_below (2 ^ 8) die) e in
    then_some _ _ _ (n16 sb both.0) ∙ then_some _ _ _ (n8 die both.1)
kind_again (BadErase sb die false) e =
    let both = and_parts (is_below (2 ^ 16) sb) (is_below (2 ^ 8) die) e in
    then_some _ _ _ (n16 sb both.0) ∙ then_some _ _ _ (n8 die both.1)
kind_again (Age die sb amount) e = age_again Age die sb amount e
kind_again (Refused row true) e = then_some _ _ _ (n32 row e)
kind_again (Refused row false) e = then_some _ _ _ (n32 row e)
kind_again (FaultSense at place level) e = sense_again FaultSense at place level e
kind_again (FaultAge die sb amount) e = age_again FaultAge die sb amount e
kind_again (Note free victim live pins garbage) e =
    let last = and_parts (is_below (2 ^ 16) free && is_spelled_victim victim && is_below (2 ^ 32) live && is_below (2 ^ 32) pins) (is_below (2 ^ 16) garbage) e in
    let fourth = and_parts (is_below (2 ^ 16) free && is_spelled_victim victim && is_below (2 ^ 32) live) (is_below (2 ^ 32) pins) last.0 in
    let parts = three_of (is_below (2 ^ 16) free) (is_spelled_victim victim) (is_below (2 ^ 32) live) fourth.0 in
    then_some _ _ _ (n16 free parts.0) ∙ (then_some _ _ _ (victim_again victim parts.1) ∙ (then_some _ _ _ (n32 live parts.2)
    ∙ (then_some _ _ _ (n32 pins fourth.1) ∙ then_some _ _ _ (n16 garbage last.1))))
