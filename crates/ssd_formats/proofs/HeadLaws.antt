-- The head of an image that was written is read again, whatever follows.
use Rattle.std.proofs.Common.{◌≡◌, refl, ℕ, suc, ◌+◌, ◌-◌, ◌*◌, ◌/◌, ◌%◌, ◌^◌, ◌<◌, ◌≤◌, Bool, true, false, not, List, [], ◌∷◌, ◌++◌, length, arith, ap, ◌∙◌, sym, ◌&&◌}
use Rattle.std.specs.Prelude.{Ok, None, FitsSigned, ℤ, pos, negsuc, flat_map, option_map, nat_le, ◌==◌, if◌then◌else◌}
use Rattle.std.specs.List.{list_all}
use Rattle.std.proofs.lemmas.Grind.{common_steps}
use Rattle.std.proofs.lemmas.Int.{ints}
use Rattle.std.proofs.lemmas.List.{append_assoc, append-nil, length-append}
use Rattle.std.proofs.Math.Nat.{mul-le-mul}
use Rattle.ssd_geo.specs.BaseMatrix.{BaseMatrix, first_fault}
use Rattle.ssd_formats.specs.Fields.{Rest, Reading, bytes_field, is_below, is_any, level_fields, bytes_of_signed, passing}
use Rattle.ssd_geo.specs.Limits.{IsWithinLimits, Sizes, cells_of, first_size_fault, is_column_count, is_level, is_signed_within, is_within, is_word_count, most_bytes_of, most_rows_of, payload_bytes_of}
use Rattle.ssd_geo.proofs.Sizes.{faultless_sizes_are_within}
use Rattle.std.specs.Int.{w8, w16, w32, w64, to_le_bytes}
use Rattle.ssd_formats.specs.InputFaults.{magic, range}
use Rattle.ssd_formats.specs.ImageHead.{Head, Fixed, beginning, first_beginning, is_beginning, words_field, first_sizes, with_columns, fixed_fields, from_beginning, is_programmed_level, IsHead, read_head, head_bytes, first_head_bytes, later_bytes, weak_record, weak_records, weak_bytes, comes_after, is_weak_before, are_weak_records, is_weak_record, bad_record, bad_records, bad_bytes, is_bad_record, are_bad_records, is_bad_before, rows_fit, is_short, signed_numbers, matrix_field, matrix_fault, unless_fault}
use Rattle.ssd_geo.specs.declared.weak.Weak.{Weak}
use Rattle.ssd_formats.proofs.FieldLaws.{goes_on, bytes_again, field_again, number_again_64, number_again_8, number_again_16, number_again_32, signed_numbers_again, signed_again}
use Rattle.std.proofs.lemmas.Bool.{and_parts}

pub below_is : (bound n : ℕ) → is_below bound n ≡ true → n < bound
below_is bound n e = grind (arith, common_steps)

pub within_is : (low high n : ℕ) → is_within low high n ≡ true → n ≤ high
within_is low high n e = grind (arith, common_steps)

pub short_fits : (n : ℤ) → is_short n ≡ true → FitsSigned w16 n
short_fits (pos n) e = record { sfits = grind (arith, common_steps, ints) }
short_fits (negsuc n) e = record { sfits = grind (arith, common_steps, ints) }

level_fits : (n : ℤ) → is_level n ≡ true → FitsSigned w16 n
level_fits (pos n) e = record { sfits = grind (arith, common_steps, ints) }
level_fits (negsuc n) e = record { sfits = grind (arith, common_steps, ints) }

-- channels, dies and superblocks fit their fields
record AreSmall (sizes : Sizes) : Type 0 where
  channels : sizes.channels ≤ 2 ^ 8
  dies : sizes.dies ≤ 2 ^ 8
  superblocks : sizes.superblocks ≤ 2 ^ 16

-- what was read and the rest, for equal values and places
abbrev pub read_at : {A : Type 0} → A → ℕ → List ℕ → Reading A
read_at x place bytes = Ok (x, record { place = place; bytes = bytes })

pub same_reading : {A : Type 0} (x y : A) (p q : ℕ) (bytes : List ℕ) → x ≡ y → p ≡ q → read_at x p bytes ≡ read_at y q bytes
same_reading x y p q bytes e f = rw (e, f) refl

pub levels_again : (levels before : List ℤ) (place : ℕ) (more : List ℕ) → list_all is_level levels ≡ true →
    level_fields (length levels) before (record { place = place; bytes = flat_map bytes_of_signed levels ++ more }) ≡ Ok (before ++ levels, record { place = place + length (flat_map bytes_of_signed levels); bytes = more })
unfolding level_fields
levels_again [] before place more e =
    same_reading before (before ++ []) place (place + 0) more (sym (append-nil before)) (omega arith)
levels_again (level ∷ levels) before place more e =
    let both : (is_level level ≡ true) × (list_all is_level levels ≡ true) = and_parts (is_level level) (list_all is_level levels) e in
    goes_on _ _ _ (signed_again is_level level place (flat_map bytes_of_signed levels ++ more) (level_fits level both.0) both.0)
    ∙ (levels_again levels (before ++ level ∷ []) (place + 2) more both.1
    ∙ same_reading ((before ++ level ∷ []) ++ levels) (before ++ level ∷ levels) (place + 2 + length (flat_map bytes_of_signed levels)) (place + suc (suc (length (flat_map bytes_of_signed levels)))) more
    (append_assoc before (level ∷ []) levels) (omega arith))

signed_list_again : (ns : List ℤ) → list_all is_short ns ≡ true → signed_numbers (flat_map bytes_of_signed ns) ≡ ns
signed_list_again [] e = refl
signed_list_again (n ∷ ns) e =
    let both : (is_short n ≡ true) × (list_all is_short ns ≡ true) = and_parts (is_short n) (list_all is_short ns) e in
    let first = signed_numbers_again n (short_fits n both.0) in
    rw (first, signed_list_again ns both.1) refl

signed_bytes_length : (ns : List ℤ) → length (flat_map bytes_of_signed ns) ≡ 2 * length ns
signed_bytes_length [] = refl
signed_bytes_length (n ∷ ns) = omega (arith, signed_bytes_length ns)

matrix_again : (head : Head) (place : ℕ) (more : List ℕ) → IsHead head →
    matrix_field head.sizes (record { place = place; bytes = flat_map bytes_of_signed head.entries ++ more }) ≡ Ok (head.entries, record { place = place + length (flat_map bytes_of_signed head.entries); bytes = more })
unfolding matrix_field
matrix_again head place more h =
    let bytes : List ℕ = flat_map bytes_of_signed head.entries in
    let sizes : Sizes = head.sizes in
    let start : Rest = record { place = place; bytes = bytes ++ more } in
    let rest : Rest = record { place = place + length bytes; bytes = more } in
    let long : 2 * (sizes.mb * sizes.nb) ≡ length bytes = omega (arith, signed_bytes_length head.entries, h.entry_count) in
    let read : bytes_field (2 * (sizes.mb * sizes.nb)) start ≡ Ok (bytes, rest) = ap (λ n. bytes_field n start) long ∙ bytes_again place bytes more in
    let tested : List ℤ → Reading (List ℤ) = λ es.
    let m : BaseMatrix = record { z = sizes.z; mb = sizes.mb; nb = sizes.nb; entries = es } in unless_fault (option_map (matrix_fault place m) (first_fault m)) (es, rest) in
    goes_on _ _ _ read ∙ (ap tested (signed_list_again head.entries h.entries) ∙ rw h.faultless refl)

weak_again : (sizes : Sizes) (before : List Weak) (weak : Weak) (place : ℕ) (more : List ℕ) → AreSmall sizes →
    is_weak_record sizes before weak ≡ true → is_below (2 ^ 32) weak.from ≡ true →
    weak_record sizes before (record { place = place; bytes = weak_bytes weak ++ more }) ≡ Ok (weak, record { place = place + 1 + 1 + 2 + 4; bytes = more })
unfolding weak_record
weak_again sizes before weak place more small e from =
    let b4 : List ℕ = more in
    let b3 : List ℕ = to_le_bytes w32 weak.from ++ b4 in
    let b2 : List ℕ = to_le_bytes w16 weak.sb ++ b3 in
    let b1 : List ℕ = to_le_bytes w8 weak.die ++ b2 in
    let tc : Bool = is_below sizes.channels weak.channel in
    let td : Bool = is_below sizes.dies weak.die in
    let ts : Bool = is_below sizes.superblocks weak.sb in
    let parts = and_parts (tc && td && ts) (comes_after is_weak_before before weak) e in
    let upto = and_parts (tc && td) ts parts.0 in
    let first = and_parts tc td upto.0 in
    let fc : weak.channel < 2 ^ 8 = omega (arith, below_is sizes.channels weak.channel first.0, small.channels) in
    let fd : weak.die < 2 ^ 8 = omega (arith, below_is sizes.dies weak.die first.1, small.dies) in
    let fs : weak.sb < 2 ^ 16 = omega (arith, below_is sizes.superblocks weak.sb upto.1, small.superblocks) in
    let ff : weak.from < 2 ^ 32 = below_is (2 ^ 32) weak.from from in
    goes_on _ _ _ (number_again_8 (place, range) (is_below sizes.channels) weak.channel place b1 fc first.0)
    ∙ (goes_on _ _ _ (number_again_8 (place + 1, range) (is_below sizes.dies) weak.die (place + 1) b2 fd first.1)
    ∙ (goes_on _ _ _ (number_again_16 (place + 1 + 1, range) (is_below sizes.superblocks) weak.sb (place + 1 + 1) b3 fs upto.1)
    ∙ (goes_on _ _ _ (number_again_32 (place + 1 + 1 + 2, range) is_any weak.from (place + 1 + 1 + 2) b4 ff refl)
    ∙ rw parts.1 refl)))

weaks_again : (sizes : Sizes) (weak before : List Weak) (place : ℕ) (more : List ℕ) → AreSmall sizes →
    are_weak_records sizes before weak ≡ true → list_all (λ (w : Weak). is_below (2 ^ 32) w.from) weak ≡ true →
    weak_records sizes (length weak) before (record { place = place; bytes = flat_map weak_bytes weak ++ more }) ≡ Ok (before ++ weak, record { place = place + length (flat_map weak_bytes weak); bytes = more })
unfolding weak_records
weaks_again sizes [] before place more small e from =
    same_reading before (before ++ []) place (place + 0) more (sym (append-nil before)) (omega arith)
weaks_again sizes (w ∷ weak) before place more small e from =
    let here = and_parts (is_weak_record sizes before w) (are_weak_records sizes (before ++ w ∷ []) weak) e in
    let fits = and_parts (is_below (2 ^ 32) w.from) (list_all (λ (v : Weak). is_below (2 ^ 32) v.from) weak) from in
    let tail : List ℕ = flat_map weak_bytes weak in
    goes_on _ _ _ (weak_again sizes before w place (tail ++ more) small here.0 fits.0)
    ∙ (weaks_again sizes weak (before ++ w ∷ []) (place + 1 + 1 + 2 + 4) more small here.1 fits.1
    ∙ same_reading ((before ++ w ∷ []) ++ weak) (before ++ w ∷ weak) (place + 1 + 1 + 2 + 4 + length tail) (place + length (flat_map weak_bytes (w ∷ weak))) more
    (append_assoc before (w ∷ []) weak) (omega arith))

bad_again : (sizes : Sizes) (before : List (ℕ × ℕ)) (bad : ℕ × ℕ) (place : ℕ) (more : List ℕ) → AreSmall sizes →
    is_bad_record sizes before bad ≡ true →
    bad_record sizes before (record { place = place; bytes = bad_bytes bad ++ more }) ≡ Ok (bad, record { place = place + 1 + 1 + 2; bytes = more })
unfolding bad_record
bad_again sizes before bad place more small e =
    let b2 : List ℕ = to_le_bytes w16 bad.1 ++ more in
    let b1 : List ℕ = to_le_bytes w8 0 ++ b2 in
    let tc : Bool = is_below sizes.channels bad.0 in
    let ts : Bool = is_below sizes.superblocks bad.1 in
    let parts = and_parts (tc && ts && comes_after is_bad_before before bad) (rows_fit sizes before bad.0) e in
    let upto = and_parts (tc && ts) (comes_after is_bad_before before bad) parts.0 in
    let first = and_parts tc ts upto.0 in
    let fc : bad.0 < 2 ^ 8 = omega (arith, below_is sizes.channels bad.0 first.0, small.channels) in
    let fs : bad.1 < 2 ^ 16 = omega (arith, below_is sizes.superblocks bad.1 first.1, small.superblocks) in
    goes_on _ _ _ (number_again_8 (place, range) (is_below sizes.channels) bad.0 place b1 fc first.0)
    ∙ (goes_on _ _ _ (number_again_8 (place + 1, range) (is_below 1) 0 (place + 1) b2 (omega arith) refl)
    ∙ (goes_on _ _ _ (number_again_16 (place + 1 + 1, range) (is_below sizes.superblocks) bad.1 (place + 1 + 1) more fs first.1)
    ∙ rw (upto.1, parts.1) refl))

bads_again : (sizes : Sizes) (bad before : List (ℕ × ℕ)) (place : ℕ) (more : List ℕ) → AreSmall sizes →
    are_bad_records sizes before bad ≡ true →
    bad_records sizes (length bad) before (record { place = place; bytes = flat_map bad_bytes bad ++ more }) ≡ Ok (before ++ bad, record { place = place + length (flat_map bad_bytes bad); bytes = more })
unfolding bad_records
bads_again sizes [] before place more small e =
    same_reading before (before ++ []) place (place + 0) more (sym (append-nil before)) (omega arith)
bads_again sizes (b ∷ bad) before place more small e =
    let here = and_parts (is_bad_record sizes before b) (are_bad_records sizes (before ++ b ∷ []) bad) e in
    let tail : List ℕ = flat_map bad_bytes bad in
    goes_on _ _ _ (bad_again sizes before b place (tail ++ more) small here.0)
    ∙ (bads_again sizes bad (before ++ b ∷ []) (place + 1 + 1 + 2) more small here.1
    ∙ same_reading ((before ++ b ∷ []) ++ bad) (before ++ b ∷ bad) (place + 1 + 1 + 2 + length tail) (place + length (flat_map bad_bytes (b ∷ bad))) more
    (append_assoc before (b ∷ []) bad) (omega arith))

-- the fields of fixed places after the number of codewords, and then more
abbrev fixed_with : Head → List ℕ → List ℕ
fixed_with head more =
    let sizes : Sizes = head.sizes in
    let levels : ℕ = length head.read_levels in
    to_le_bytes w8 sizes.channels ++ (
    to_le_bytes w8 sizes.dies ++ (
    to_le_bytes w16 sizes.superblocks ++ (
    to_le_bytes w16 sizes.pages ++ (
    to_le_bytes w16 sizes.z ++ (
    to_le_bytes w8 sizes.mb ++ (
    to_le_bytes w8 sizes.nb ++ (
    to_le_bytes w8 levels ++ (
    to_le_bytes w8 head.iterations ++ (
    to_le_bytes w32 sizes.bytes ++ (
    to_le_bytes w32 sizes.rows ++ (
    to_le_bytes w64 head.law.seed ++ (
    to_le_bytes w32 head.session ++ (
    bytes_of_signed head.law.erased ++ (
    bytes_of_signed head.law.programmed ++ (
    to_le_bytes w16 head.law.spread ++ (
    to_le_bytes w16 head.step ++ more))))))))))))))))

-- the sizes among them that are read first
abbrev first_of : Sizes → Sizes
first_of sizes = record sizes { nb = 0; bytes = 0; rows = 0 }

-- what they tell
abbrev fixed_of : Head → Fixed
fixed_of head = record {
  sizes = head.sizes;
  levels = length head.read_levels;
  iterations = head.iterations;
  law = head.law;
  step = head.step;
  session = head.session;
}

erased_fits : (n : ℤ) → is_signed_within (negsuc 8191) (pos 8190) n ≡ true → FitsSigned w16 n
erased_fits (pos n) e = record { sfits = grind (arith, common_steps, ints) }
erased_fits (negsuc n) e = record { sfits = grind (arith, common_steps, ints) }

programmed_fits : (m n : ℤ) → is_signed_within (negsuc 8191) (pos 8190) m ≡ true → is_programmed_level m n ≡ true → FitsSigned w16 n
programmed_fits (pos m) (pos n) e f = record { sfits = grind (arith, common_steps, ints) }
programmed_fits (pos m) (negsuc n) e f = record { sfits = grind (arith, common_steps, ints) }
programmed_fits (negsuc m) (pos n) e f = record { sfits = grind (arith, common_steps, ints) }
programmed_fits (negsuc m) (negsuc n) e f = record { sfits = grind (arith, common_steps, ints) }

pub word_count_is : (words : ℕ) → is_word_count words ≡ true → words ≤ 4
word_count_is words e = within_is 1 4 words (and_parts (is_within 1 4 words) (not (words == 3)) e).0

-- the number of columns of the base matrix, by itself
pub columns_are : (sizes : Sizes) → is_column_count sizes ≡ true → is_within (sizes.mb + 1) 128 sizes.nb ≡ true
columns_are sizes e =
    let a : Bool = is_within (sizes.mb + 1) 128 sizes.nb in
    let b : Bool = (sizes.nb - sizes.mb) * sizes.z % 8 == 0 in
    let c : Bool = sizes.nb * sizes.z % 8 == 0 in
    let upto = and_parts (a && b && c) (nat_le (cells_of sizes) (2 ^ 28)) e in
    let next = and_parts (a && b) c upto.0 in (and_parts a b next.0).0

small_page : (payload bytes : ℕ) → payload ≤ 4 * 16384 → bytes ≤ payload - 16 → bytes < 2 ^ 32
small_page payload bytes p b = omega (arith, p, b)

few_rows : (product rows : ℕ) → product ≤ 256 * 8 * 256 → rows ≤ product → rows < 2 ^ 32
few_rows product rows p r = omega (arith, p, r)

eighth : (bits : ℕ) → bits ≤ 128 * 1024 → bits / 8 ≤ 16384
eighth bits h = omega (arith, h)

bytes_small : (head : Head) → IsHead head → head.sizes.bytes < 2 ^ 32
bytes_small head h =
    let sizes : Sizes = head.sizes in
    let top_columns : sizes.nb ≤ 128 = within_is (sizes.mb + 1) 128 sizes.nb (columns_are sizes h.base_columns) in
    let few_columns : sizes.nb - sizes.mb ≤ 128 = omega (arith, top_columns) in
    let part : (sizes.nb - sizes.mb) * sizes.z ≤ 128 * 1024 = mul-le-mul few_columns (within_is 4 1024 sizes.z h.lifting) in
    let payload : payload_bytes_of sizes ≤ 4 * 16384 = mul-le-mul (word_count_is sizes.words h.words) (eighth ((sizes.nb - sizes.mb) * sizes.z) part) in
    small_page (payload_bytes_of sizes) sizes.bytes payload (within_is 1 (most_bytes_of sizes) sizes.bytes h.bytes)

rows_small : (head : Head) → IsHead head → head.sizes.rows < 2 ^ 32
rows_small head h =
    let sizes : Sizes = head.sizes in
    let top_superblocks : sizes.superblocks ≤ 256 = within_is 4 256 sizes.superblocks h.superblocks in
    let top_dies : sizes.dies ≤ 8 = within_is 3 8 sizes.dies h.dies in
    let top_pages : sizes.pages ≤ 256 = within_is 2 256 sizes.pages h.pages in
    let few_superblocks : sizes.superblocks - (2 + 0) ≤ 256 = omega (arith, top_superblocks) in
    let few_dies : sizes.dies - 1 ≤ 8 = omega (arith, top_dies) in
    let product : most_rows_of sizes 0 ≤ 256 * 8 * 256 = mul-le-mul (mul-le-mul few_superblocks few_dies) top_pages in
    few_rows (most_rows_of sizes 0) sizes.rows product (within_is 1 (most_rows_of sizes 0) sizes.rows h.rows)

-- the sizes that are read first, whatever follows
first_again : (sizes : Sizes) (start : ℕ) (more : List ℕ) →
    is_within 1 8 sizes.channels ≡ true → is_within 3 8 sizes.dies ≡ true → is_within 4 256 sizes.superblocks ≡ true →
    is_within 2 256 sizes.pages ≡ true → is_within 4 1024 sizes.z ≡ true → is_within 3 16 sizes.mb ≡ true →
    first_sizes sizes.words (record { place = start; bytes = to_le_bytes w8 sizes.channels ++ (to_le_bytes w8 sizes.dies ++ (to_le_bytes w16 sizes.superblocks ++ (to_le_bytes w16 sizes.pages ++ (to_le_bytes w16 sizes.z ++ (to_le_bytes w8 sizes.mb ++ more))))) })
    ≡ Ok (first_of sizes, record { place = start + 1 + 1 + 2 + 2 + 2 + 1; bytes = more })
unfolding first_sizes
first_again sizes start more channels dies superblocks pages lifting base_rows =
    let b5 : List ℕ = more in
    let b4 : List ℕ = to_le_bytes w8 sizes.mb ++ b5 in
    let b3 : List ℕ = to_le_bytes w16 sizes.z ++ b4 in
    let b2 : List ℕ = to_le_bytes w16 sizes.pages ++ b3 in
    let b1 : List ℕ = to_le_bytes w16 sizes.superblocks ++ b2 in
    let b0 : List ℕ = to_le_bytes w8 sizes.dies ++ b1 in
    let top_channels : sizes.channels ≤ 8 = within_is 1 8 sizes.channels channels in
    let top_dies : sizes.dies ≤ 8 = within_is 3 8 sizes.dies dies in
    let top_superblocks : sizes.superblocks ≤ 256 = within_is 4 256 sizes.superblocks superblocks in
    let top_pages : sizes.pages ≤ 256 = within_is 2 256 sizes.pages pages in
    let top_lifting : sizes.z ≤ 1024 = within_is 4 1024 sizes.z lifting in
    let top_base_rows : sizes.mb ≤ 16 = within_is 3 16 sizes.mb base_rows in
    let p1 : ℕ = start + 1 in
    let p2 : ℕ = p1 + 1 in
    let p3 : ℕ = p2 + 2 in
    let p4 : ℕ = p3 + 2 in
    let p5 : ℕ = p4 + 2 in
    goes_on _ _ _ (number_again_8 (start, range) (is_within 1 8) sizes.channels start b0 (omega (arith, top_channels)) channels)
    ∙ (goes_on _ _ _ (number_again_8 (p1, range) (is_within 3 8) sizes.dies p1 b1 (omega (arith, top_dies)) dies)
    ∙ (goes_on _ _ _ (number_again_16 (p2, range) (is_within 4 256) sizes.superblocks p2 b2 (omega (arith, top_superblocks)) superblocks)
    ∙ (goes_on _ _ _ (number_again_16 (p3, range) (is_within 2 256) sizes.pages p3 b3 (omega (arith, top_pages)) pages)
    ∙ (goes_on _ _ _ (number_again_16 (p4, range) (is_within 4 1024) sizes.z p4 b4 (omega (arith, top_lifting)) lifting)
    ∙ (goes_on _ _ _ (number_again_8 (p5, range) (is_within 3 16) sizes.mb p5 b5 (omega (arith, top_base_rows)) base_rows)
    ∙ refl)))))

-- the bytes begin with this number of codewords, and then these are left
abbrev begins_with : List ℕ → ℕ → ℕ → List ℕ → Type 0
begins_with bytes words start left = words_field (from_beginning bytes) ≡ read_at words start left

fixed_again : (head : Head) (bytes : List ℕ) (start : ℕ) (more : List ℕ) → IsHead head → begins_with bytes head.sizes.words start (fixed_with head more) →
    fixed_fields (from_beginning bytes) ≡ Ok (fixed_of head, record { place = start + 40; bytes = more })
unfolding fixed_fields
fixed_again head bytes start more h begins =
    let sizes : Sizes = head.sizes in
    let levels : ℕ = length head.read_levels in
    let b16 : List ℕ = more in
    let b15 : List ℕ = to_le_bytes w16 head.step ++ b16 in
    let b14 : List ℕ = to_le_bytes w16 head.law.spread ++ b15 in
    let b13 : List ℕ = bytes_of_signed head.law.programmed ++ b14 in
    let b12 : List ℕ = bytes_of_signed head.law.erased ++ b13 in
    let b11 : List ℕ = to_le_bytes w32 head.session ++ b12 in
    let b10 : List ℕ = to_le_bytes w64 head.law.seed ++ b11 in
    let b9 : List ℕ = to_le_bytes w32 sizes.rows ++ b10 in
    let b8 : List ℕ = to_le_bytes w32 sizes.bytes ++ b9 in
    let b7 : List ℕ = to_le_bytes w8 head.iterations ++ b8 in
    let b6 : List ℕ = to_le_bytes w8 levels ++ b7 in
    let b5 : List ℕ = to_le_bytes w8 sizes.nb ++ b6 in
    let p7 : ℕ = start + 1 + 1 + 2 + 2 + 2 + 1 in
    let p8 : ℕ = p7 + 1 in
    let p9 : ℕ = p8 + 1 in
    let p10 : ℕ = p9 + 1 in
    let p11 : ℕ = p10 + 4 in
    let p12 : ℕ = p11 + 4 in
    let p13 : ℕ = p12 + 8 in
    let p14 : ℕ = p13 + 4 in
    let p15 : ℕ = p14 + 2 in
    let p16 : ℕ = p15 + 2 in
    let p17 : ℕ = p16 + 2 in
    let top_base_columns : sizes.nb ≤ 128 = within_is (sizes.mb + 1) 128 sizes.nb (columns_are sizes h.base_columns) in
    let top_level_count : levels ≤ 16 = within_is 1 16 levels h.level_count in
    let top_iterations : head.iterations ≤ 64 = within_is 1 64 head.iterations h.iterations in
    let top_spread : head.law.spread ≤ 4095 = within_is 0 4095 head.law.spread h.spread in
    let top_step : head.step ≤ 2047 = within_is 1 2047 head.step h.step in
    let low_seed : head.law.seed < 2 ^ 64 = below_is (2 ^ 64) head.law.seed h.seed in
    let low_session : head.session < 2 ^ 24 = below_is (2 ^ 24) head.session h.session in
    goes_on _ _ _ begins
    ∙ (goes_on _ _ _ (first_again sizes start b5 h.channels h.dies h.superblocks h.pages h.lifting h.base_rows)
    ∙ (goes_on _ _ _ (number_again_8 (p7, range) (λ nb. is_column_count (with_columns (first_of sizes) nb)) sizes.nb p7 b6 (omega (arith, top_base_columns)) h.base_columns)
    ∙ (goes_on _ _ _ (number_again_8 (p8, range) (is_within 1 16) levels p8 b7 (omega (arith, top_level_count)) h.level_count)
    ∙ (goes_on _ _ _ (number_again_8 (p9, range) (is_within 1 64) head.iterations p9 b8 (omega (arith, top_iterations)) h.iterations)
    ∙ (goes_on _ _ _ (number_again_32 (p10, range) (is_within 1 (most_bytes_of sizes)) sizes.bytes p10 b9 (bytes_small head h) h.bytes)
    ∙ (goes_on _ _ _ (number_again_32 (p11, range) (is_within 1 (most_rows_of sizes 0)) sizes.rows p11 b10 (rows_small head h) h.rows)
    ∙ (goes_on _ _ _ (number_again_64 (p12, range) is_any head.law.seed p12 b11 low_seed refl)
    ∙ (goes_on _ _ _ (number_again_32 (p13, range) (is_below (2 ^ 24)) head.session p13 b12 (omega (arith, low_session)) h.session)
    ∙ (goes_on _ _ _ (signed_again (is_signed_within (negsuc 8191) (pos 8190)) head.law.erased p14 b13 (erased_fits head.law.erased h.erased) h.erased)
    ∙ (goes_on _ _ _ (signed_again (is_programmed_level head.law.erased) head.law.programmed p15 b14 (programmed_fits head.law.erased head.law.programmed h.erased h.programmed) h.programmed)
    ∙ (goes_on _ _ _ (number_again_16 (p16, range) (is_within 0 4095) head.law.spread p16 b15 (omega (arith, top_spread)) h.spread)
    ∙ (goes_on _ _ _ (number_again_16 (p17, range) (is_within 1 2047) head.step p17 b16 (omega (arith, top_step)) h.step)
    ∙ same_reading (fixed_of head) (fixed_of head) (p17 + 2) (start + 40) more refl (omega arith)))))))))))))

full_again : (full : Bool) → ((if full then 1 else 0) == 1) ≡ full
full_again true = refl
full_again false = refl

full_small : (full : Bool) → (if full then 1 else 0) < 2 ^ 8
full_small true = omega arith
full_small false = omega arith

full_in_range : (full : Bool) → is_within 0 1 (if full then 1 else 0) ≡ true
full_in_range true = refl
full_in_range false = refl

-- seven parts and more, as they are written and as they are read
regrouped : (a b c d e f g more : List ℕ) → (a ++ b ++ c ++ d ++ e ++ f ++ g) ++ more ≡ a ++ (b ++ (c ++ (d ++ (e ++ (f ++ (g ++ more))))))
regrouped a b c d e f g more =
    append_assoc (a ++ b ++ c ++ d ++ e ++ f) g more
    ∙ (append_assoc (a ++ b ++ c ++ d ++ e) f (g ++ more)
    ∙ (append_assoc (a ++ b ++ c ++ d) e (f ++ (g ++ more))
    ∙ (append_assoc (a ++ b ++ c) d (e ++ (f ++ (g ++ more)))
    ∙ (append_assoc (a ++ b) c (d ++ (e ++ (f ++ (g ++ more))))
    ∙ append_assoc a b (c ++ (d ++ (e ++ (f ++ (g ++ more)))))))))

length_of_seven : (a b c d e f g : List ℕ) → length (a ++ b ++ c ++ d ++ e ++ f ++ g) ≡ length a + length b + length c + length d + length e + length f + length g
length_of_seven a b c d e f g =
    let l1 = length-append (a ++ b ++ c ++ d ++ e ++ f) g in
    let l2 = length-append (a ++ b ++ c ++ d ++ e) f in
    let l3 = length-append (a ++ b ++ c ++ d) e in
    let l4 = length-append (a ++ b ++ c) d in
    let l5 = length-append (a ++ b) c in
    let l6 = length-append a b in
    omega (arith, l1, l2, l3, l4, l5, l6)

-- what follows the number of codewords, wherever it stands
later_is_read : (head : Head) (bytes : List ℕ) (start : ℕ) (more : List ℕ) → IsHead head → begins_with bytes head.sizes.words start (later_bytes head ++ more) →
    read_head bytes ≡ Ok (head, record { place = start + length (later_bytes head); bytes = more })
unfolding read_head
later_is_read head bytes start more h begins =
    let sizes : Sizes = head.sizes in
    let small : AreSmall sizes = record {
      channels = omega (arith, within_is 1 8 sizes.channels h.channels);
      dies = omega (arith, within_is 3 8 sizes.dies h.dies);
      superblocks = omega (arith, within_is 4 256 sizes.superblocks h.superblocks);
    } in
    let lv : List ℕ = flat_map bytes_of_signed head.read_levels in
    let en : List ℕ = flat_map bytes_of_signed head.entries in
    let wc : List ℕ = to_le_bytes w16 (length head.weak) in
    let wk : List ℕ = flat_map weak_bytes head.weak in
    let bc : List ℕ = to_le_bytes w16 (length head.bad) in
    let bd : List ℕ = flat_map bad_bytes head.bad in
    let ct : List ℕ = to_le_bytes w8 (if head.full then 1 else 0) in
    let t7 : List ℕ = more in
    let t6 : List ℕ = ct ++ t7 in
    let t5 : List ℕ = bd ++ t6 in
    let t4 : List ℕ = bc ++ t5 in
    let t3 : List ℕ = wk ++ t4 in
    let t2 : List ℕ = wc ++ t3 in
    let t1 : List ℕ = en ++ t2 in
    let p0 : ℕ = start + 40 in
    let p1 : ℕ = p0 + length lv in
    let p2 : ℕ = p1 + length en in
    let p3 : ℕ = p2 + 2 in
    let p4 : ℕ = p3 + length wk in
    let p5 : ℕ = p4 + 2 in
    let p6 : ℕ = p5 + length bd in
    let weak_small : length head.weak < 2 ^ 16 = below_is (2 ^ 16) (length head.weak) h.weak_count in
    let bad_small : length head.bad < 2 ^ 16 = below_is (2 ^ 16) (length head.bad) h.bad_count in
    let grouped : begins_with bytes sizes.words start (fixed_with head (lv ++ t1)) =
    begins ∙ ap (λ t. read_at sizes.words start (fixed_with head t)) (regrouped lv en wc wk bc bd ct more) in
    goes_on _ _ _ (fixed_again head bytes start (lv ++ t1) h grouped)
    ∙ (goes_on _ _ _ (levels_again head.read_levels [] p0 t1 h.levels)
    ∙ (goes_on _ _ _ (matrix_again head p1 t2 h)
    ∙ (goes_on _ _ _ (number_again_16 (p2, range) is_any (length head.weak) p2 t3 weak_small refl)
    ∙ (goes_on _ _ _ (weaks_again sizes head.weak [] p3 t4 small h.weak h.weak_from)
    ∙ (goes_on _ _ _ (number_again_16 (p4, range) is_any (length head.bad) p4 t5 bad_small refl)
    ∙ (goes_on _ _ _ (bads_again sizes head.bad [] p5 t6 small h.bad)
    ∙ (goes_on _ _ _ (number_again_8 (p6, range) (is_within 0 1) (if head.full then 1 else 0) p6 t7 (full_small head.full) (full_in_range head.full))
    ∙ same_reading (record head { full = (if head.full then 1 else 0) == 1 }) head (p6 + 1) (start + length (later_bytes head)) more
    (ap (λ full. record head { full = full }) (full_again head.full)) (omega (arith, length_of_seven lv en wc wk bc bd ct)))))))))

-- the number of codewords, in both versions
words_again : (words : ℕ) (left : List ℕ) → is_word_count words ≡ true → begins_with (beginning ++ to_le_bytes w8 words ++ left) words 9 left
unfolding words_field
words_again words left e =
    goes_on _ _ _ (field_again (0, magic) (passing is_beginning) beginning 0 beginning (to_le_bytes w8 words ++ left) refl)
    ∙ number_again_8 (8, range) is_word_count words 8 left (omega (arith, word_count_is words e)) e

first_words_again : (left : List ℕ) → begins_with (first_beginning ++ left) 1 8 left
unfolding words_field
first_words_again left =
    goes_on _ _ _ (field_again (0, magic) (passing is_beginning) first_beginning 0 first_beginning left refl)

pub head_is_read : (head : Head) (more : List ℕ) → IsHead head →
    read_head (head_bytes head ++ more) ≡ Ok (head, record { place = length (head_bytes head); bytes = more })
unfolding head_bytes
head_is_read head more h =
    later_is_read head (head_bytes head ++ more) 9 more h (words_again head.sizes.words (later_bytes head ++ more) h.words)
    ∙ same_reading head head (9 + length (later_bytes head)) (length (head_bytes head)) more refl (omega arith)

pub first_head_is_read : (head : Head) (more : List ℕ) → IsHead head → head.sizes.words ≡ 1 →
    read_head (first_head_bytes head ++ more) ≡ Ok (head, record { place = length (first_head_bytes head); bytes = more })
unfolding first_head_bytes
first_head_is_read head more h one =
    let left : List ℕ = later_bytes head ++ more in
    later_is_read head (first_head_bytes head ++ more) 8 more h (first_words_again left ∙ ap (λ words. read_at words 8 left) (sym one))
    ∙ same_reading head head (8 + length (later_bytes head)) (length (first_head_bytes head)) more refl (omega arith)

pub head_is_within_limits : (head : Head) → IsHead head → IsWithinLimits head.sizes
head_is_within_limits head h =
    let sizes : Sizes = head.sizes in
    let none : first_size_fault sizes ≡ None =
    rw (h.words, h.channels, h.dies, h.superblocks, h.pages, h.lifting, h.base_rows, h.base_columns, h.bytes, h.rows) refl in
    (faultless_sizes_are_within sizes).0 none
