-- A head that was read from bytes has a spelling: each of its fields is in its range.
use Rattle.std.proofs.Common.{◌≡◌, refl, ℕ, zero, suc, ◌+◌, ◌-◌, ◌*◌, ◌^◌, ◌<◌, ◌≤◌, Bool, true, false, List, [], ◌∷◌, ◌++◌, length, take, drop, arith, ap, ◌∙◌, sym, not, subst, get_or}
use Rattle.std.specs.Prelude.{Result, Ok, Err, Option, Some, None, FitsSigned, ℤ, pos, negsuc, nat_lt, ◌==◌, if◌then◌else◌, bytes_eq, option_map}
use Rattle.std.specs.List.{list_all}
use Rattle.std.specs.Int.{Width, w8, w16, w32, w64, byte_len, from_le_bytes, cast_signed}
use Rattle.std.proofs.lemmas.Grind.{common_steps}
use Rattle.std.proofs.lemmas.Int.{ints}
use Rattle.ssd_formats.specs.Fields.{Rest, Fault, Reading, ◌>>=◌, bytes_field, found_or, field_or, passing, number_or, number_field, signed_field, signed_of_bytes, is_any, is_below, level_fields, are_bytes}
use Rattle.ssd_geo.specs.Limits.{Sizes, is_column_count, is_level, is_signed_within, is_within, is_word_count, most_bytes_of, most_rows_of}
use Rattle.ssd_formats.specs.InputFaults.{magic, range, order, short}
use Rattle.ssd_formats.specs.ImageHead.{Head, Fixed, IsHead, first_beginning, is_beginning, words_field, first_sizes, with_columns, fixed_fields, is_programmed_level, is_short, signed_numbers, unless_fault, matrix_fault, matrix_field, weak_record, weak_records, bad_record, bad_records, is_weak_record, are_weak_records, is_bad_record, are_bad_records, comes_after, is_weak_before, is_bad_before, rows_fit, read_head, from_beginning}
use Rattle.ssd_geo.specs.BaseMatrix.{BaseMatrix, first_fault}
use Rattle.ssd_geo.specs.declared.weak.Weak.{Weak}
use Rattle.std.proofs.lemmas.List.{length-append, append_assoc, append-nil, length-take-le}
use Rattle.std.proofs.lemmas.Bool.{and_parts}

abbrev pub is_read : {A F : Type 0} → Result A F → Bool
is_read (Ok x) = true
is_read (Err fault) = false

abbrev pub value_else : {A F : Type 0} → A → Result A F → A
value_else other (Ok x) = x
value_else other (Err fault) = other

pub never : false ≡ true → ⊥
never e = grind (arith, common_steps)

-- goes on only after a value
pub went_on : {A B F : Type 0} (read : Result A F) (next : A → Result B F) (y : B) → (read >>= next) ≡ Ok y → (x : A) × (read ≡ Ok x) × (next x ≡ Ok y)
went_on (Ok x) next y e = (x, refl, e)
went_on (Err fault) next y e = absurd (never (ap is_read e))

found_ok : {A : Type 0} (b : Bool) (v : A) (fault : Fault) (rest : Rest) (x : A × Rest) → found_or (if b then Some v else None) fault rest ≡ Ok x → (b ≡ true) × ((v, rest) ≡ x)
found_ok true v fault rest x e = (refl, ap (value_else x) e)
found_ok false v fault rest x e = absurd (never (ap is_read e))

bytes_ok : (b : Bool) (fault : Fault) (y x : List ℕ × Rest) → (if b then Err fault else Ok y) ≡ Ok x → y ≡ x
bytes_ok true fault y x e = absurd (never (ap is_read e))
bytes_ok false fault y x e = ap (value_else x) e

-- what stands after n bytes
abbrev pub after : ℕ → Rest → Rest
after n rest = record { place = rest.place + n; bytes = drop n rest.bytes }

-- a field whose value passed a test: the value is that of its bytes
pub passed : {A : Type 0} (fault : Fault) (n : ℕ) (test : A → Bool) (value : List ℕ → A) (rest : Rest) (x : A × Rest) →
    field_or fault n (λ bytes. passing test (value bytes)) rest ≡ Ok x → (test x.0 ≡ true) × (x.0 ≡ value (take n rest.bytes)) × (x.1 ≡ after n rest)
passed fault n test value rest x e =
    let step = went_on (bytes_field n rest) (λ field. found_or (passing test (value field.0)) fault field.1) x e in
    let field : (take n rest.bytes, after n rest) ≡ step.0 = bytes_ok (nat_lt (length rest.bytes) n) _ (take n rest.bytes, after n rest) step.0 step.1 in
    let found = found_ok (test (value step.0.0)) (value step.0.0) fault step.0.1 x step.2 in
    let value_is : value step.0.0 ≡ x.0 = ap (λ p. p.0) found.1 in
    (ap test (sym value_is) ∙ found.0, sym value_is ∙ ap (λ p. value p.0) (sym field), sym (ap (λ p. p.1) found.1) ∙ ap (λ p. p.1) (sym field))

pub are_taken : (n : ℕ) (bytes : List ℕ) → are_bytes bytes ≡ true → are_bytes (take n bytes) ≡ true
are_taken zero bytes e = refl
are_taken (suc n) [] e = refl
are_taken (suc n) (b ∷ bytes) e =
    let both = and_parts (nat_lt b 256) (are_bytes bytes) e in rw (both.0, are_taken n bytes both.1) refl

are_left : (n : ℕ) (bytes : List ℕ) → are_bytes bytes ≡ true → are_bytes (drop n bytes) ≡ true
are_left zero bytes e = e
are_left (suc n) [] e = refl
are_left (suc n) (b ∷ bytes) e = are_left n bytes (and_parts (nat_lt b 256) (are_bytes bytes) e).1

pub small_at : (bytes : List ℕ) → are_bytes bytes ≡ true → (i : ℕ) → get_or bytes i 0 < 256
small_at [] e i = omega arith
small_at (b ∷ bytes) e zero =
    let both = and_parts (nat_lt b 256) (are_bytes bytes) e in grind (arith, common_steps)
small_at (b ∷ bytes) e (suc i) = small_at bytes (and_parts (nat_lt b 256) (are_bytes bytes) e).1 i

-- the bytes that are left are bytes
pub still_bytes : (n : ℕ) (rest left : Rest) → are_bytes rest.bytes ≡ true → left ≡ after n rest → are_bytes left.bytes ≡ true
still_bytes n rest left e same = ap (λ r. are_bytes r.bytes) same ∙ are_left n rest.bytes e

number_16_small : (bytes : List ℕ) → ((i : ℕ) → get_or bytes i 0 < 256) → from_le_bytes w16 bytes < 2 ^ 16
number_16_small bytes h = omega (arith, h 0, h 1)

pub number_32_small : (bytes : List ℕ) → ((i : ℕ) → get_or bytes i 0 < 256) → from_le_bytes w32 bytes < 2 ^ 32
number_32_small bytes h = omega (arith, h 0, h 1, h 2, h 3)

number_64_small : (bytes : List ℕ) → ((i : ℕ) → get_or bytes i 0 < 256) → from_le_bytes w64 bytes < 2 ^ 64
number_64_small bytes h = omega (arith, h 0, h 1, h 2, h 3, h 4, h 5, h 6, h 7)

pub below_if : (n bound : ℕ) → n < bound → is_below bound n ≡ true
below_if n bound h = grind (arith, common_steps)

-- the fields of fixed places are in range
pub record IsFixed (f : Fixed) : Type 0 where
  words : is_word_count f.sizes.words ≡ true
  channels : is_within 1 8 f.sizes.channels ≡ true
  dies : is_within 3 8 f.sizes.dies ≡ true
  superblocks : is_within 4 256 f.sizes.superblocks ≡ true
  pages : is_within 2 256 f.sizes.pages ≡ true
  lifting : is_within 4 1024 f.sizes.z ≡ true
  base_rows : is_within 3 16 f.sizes.mb ≡ true
  base_columns : is_column_count f.sizes ≡ true
  level_count : is_within 1 16 f.levels ≡ true
  iterations : is_within 1 64 f.iterations ≡ true
  bytes : is_within 1 (most_bytes_of f.sizes) f.sizes.bytes ≡ true
  rows : is_within 1 (most_rows_of f.sizes 0) f.sizes.rows ≡ true
  seed : is_below (2 ^ 64) f.law.seed ≡ true
  session : is_below (2 ^ 24) f.session ≡ true
  erased : is_signed_within (negsuc 8191) (pos 8190) f.law.erased ≡ true
  programmed : is_programmed_level f.law.erased f.law.programmed ≡ true
  spread : is_within 0 4095 f.law.spread ≡ true
  step : is_within 1 2047 f.step ≡ true

-- What follows from a whole reading, once it follows from a field that was read and from the reading of what is left.
pub on_field : {A B : Type 0} (R : Type 0) (fault : Fault) (n : ℕ) (test : A → Bool) (value : List ℕ → A) (rest : Rest) (next : A × Rest → Reading B) (y : B × Rest) → are_bytes rest.bytes ≡ true →
    (field_or fault n (λ bytes. passing test (value bytes)) rest >>= next) ≡ Ok y →
    ((x : A × Rest) → test x.0 ≡ true → x.0 ≡ value (take n rest.bytes) → are_bytes x.1.bytes ≡ true → next x ≡ Ok y → R) → R
on_field R fault n test value rest next y are e follows =
    let read = went_on (field_or fault n (λ bytes. passing test (value bytes)) rest) next y e in
    let parts = passed fault n test value rest read.0 read.1 in
    follows read.0 parts.0 parts.1 (still_bytes n rest read.0.1 are parts.2) read.2

pub on_number : {B : Type 0} (R : Type 0) (fault : Fault) (w : Width) (test : ℕ → Bool) (rest : Rest) (next : ℕ × Rest → Reading B) (y : B × Rest) → are_bytes rest.bytes ≡ true →
    (number_or fault w test rest >>= next) ≡ Ok y →
    ((x : ℕ × Rest) → test x.0 ≡ true → are_bytes x.1.bytes ≡ true → next x ≡ Ok y → R) → R
on_number R fault w test rest next y are e follows =
    on_field R fault (byte_len w) test (from_le_bytes w) rest next y are e (λ x t v b n. follows x t b n)

pub on_signed : {B : Type 0} (R : Type 0) (test : ℤ → Bool) (rest : Rest) (next : ℤ × Rest → Reading B) (y : B × Rest) → are_bytes rest.bytes ≡ true →
    (signed_field test rest >>= next) ≡ Ok y →
    ((x : ℤ × Rest) → test x.0 ≡ true → are_bytes x.1.bytes ≡ true → next x ≡ Ok y → R) → R
on_signed R test rest next y are e follows =
    on_field R (rest.place, range) 2 test signed_of_bytes rest next y are e (λ x t v b n. follows x t b n)

-- a number that passes no test but fits its field
pub on_any_16 : {B : Type 0} (R : Type 0) (rest : Rest) (next : ℕ × Rest → Reading B) (y : B × Rest) → are_bytes rest.bytes ≡ true →
    (number_field w16 is_any rest >>= next) ≡ Ok y →
    ((x : ℕ × Rest) → is_below (2 ^ 16) x.0 ≡ true → are_bytes x.1.bytes ≡ true → next x ≡ Ok y → R) → R
on_any_16 R rest next y are e follows =
    on_field R (rest.place, range) 2 is_any (from_le_bytes w16) rest next y are e
    (λ x t v b n. follows x (below_if x.0 (2 ^ 16) (omega (arith, v, number_16_small (take 2 rest.bytes) (small_at (take 2 rest.bytes) (are_taken 2 rest.bytes are))))) b n)

pub on_any_32 : {B : Type 0} (R : Type 0) (rest : Rest) (next : ℕ × Rest → Reading B) (y : B × Rest) → are_bytes rest.bytes ≡ true →
    (number_field w32 is_any rest >>= next) ≡ Ok y →
    ((x : ℕ × Rest) → is_below (2 ^ 32) x.0 ≡ true → are_bytes x.1.bytes ≡ true → next x ≡ Ok y → R) → R
on_any_32 R rest next y are e follows =
    on_field R (rest.place, range) 4 is_any (from_le_bytes w32) rest next y are e
    (λ x t v b n. follows x (below_if x.0 (2 ^ 32) (omega (arith, v, number_32_small (take 4 rest.bytes) (small_at (take 4 rest.bytes) (are_taken 4 rest.bytes are))))) b n)

pub on_any_64 : {B : Type 0} (R : Type 0) (rest : Rest) (next : ℕ × Rest → Reading B) (y : B × Rest) → are_bytes rest.bytes ≡ true →
    (number_field w64 is_any rest >>= next) ≡ Ok y →
    ((x : ℕ × Rest) → is_below (2 ^ 64) x.0 ≡ true → are_bytes x.1.bytes ≡ true → next x ≡ Ok y → R) → R
on_any_64 R rest next y are e follows =
    on_field R (rest.place, range) 8 is_any (from_le_bytes w64) rest next y are e
    (λ x t v b n. follows x (below_if x.0 (2 ^ 64) (omega (arith, v, number_64_small (take 8 rest.bytes) (small_at (take 8 rest.bytes) (are_taken 8 rest.bytes are))))) b n)

-- What follows from a whole reading, once it follows from a first part and the reading of what is left.
pub on_part : {A B : Type 0} (R : Type 0) (read : Reading A) (next : A × Rest → Reading B) (y : B × Rest) → (read >>= next) ≡ Ok y →
    ((x : A × Rest) → read ≡ Ok x → next x ≡ Ok y → R) → R
on_part R read next y e follows = let step = went_on read next y e in follows step.0 step.1 step.2

abbrev pub reading_of : {A : Type 0} → A × Rest → Reading A
reading_of x = Ok x

-- what is known of the number of codewords that was read
record IsWordsRead (x : ℕ × Rest) : Type 0 where
  is_count : is_word_count x.0 ≡ true
  left : are_bytes x.1.bytes ≡ true

words_given : (words : ℕ) (rest : Rest) (x : ℕ × Rest) → Ok (words, rest) ≡ reading_of x → is_word_count words ≡ true → are_bytes rest.bytes ≡ true → IsWordsRead x
words_given words rest x e told are =
    let same : (words, rest) ≡ x = ap (value_else x) e in
    subst (λ (p : ℕ × Rest). IsWordsRead p) same (record { is_count = told; left = are })

-- a number that is the last to be read
last_number : (fault : Fault) (w : Width) (test : ℕ → Bool) (rest : Rest) (x : ℕ × Rest) → are_bytes rest.bytes ≡ true → number_or fault w test rest ≡ Ok x → (test x.0 ≡ true) × (are_bytes x.1.bytes ≡ true)
last_number fault w test rest x are e =
    let parts = passed fault (byte_len w) test (from_le_bytes w) rest x e in (parts.0, still_bytes (byte_len w) rest x.1 are parts.2)

words_after_is : (b : Bool) (rest : Rest) (x : ℕ × Rest) → are_bytes rest.bytes ≡ true → (if b then Ok (1, rest) else number_field w8 is_word_count rest) ≡ reading_of x → IsWordsRead x
words_after_is true rest x are e = words_given 1 rest x e refl are
words_after_is false rest x are e =
    let known = last_number (rest.place, range) w8 is_word_count rest x are e in record { is_count = known.0; left = known.1 }

words_are : (rest : Rest) (x : ℕ × Rest) → are_bytes rest.bytes ≡ true → words_field rest ≡ Ok x → IsWordsRead x
unfolding words_field
words_are rest x are e =
    on_field (IsWordsRead x) (rest.place, magic) 8 is_beginning (λ bytes. bytes) rest _ x are e (λ s t v r n. words_after_is (bytes_eq first_beginning s.0) s.1 x r n)

-- what is known of the sizes that were read first
record IsFirst (words : ℕ) (x : Sizes × Rest) : Type 0 where
  words_are : x.0.words ≡ words
  channels : is_within 1 8 x.0.channels ≡ true
  dies : is_within 3 8 x.0.dies ≡ true
  superblocks : is_within 4 256 x.0.superblocks ≡ true
  pages : is_within 2 256 x.0.pages ≡ true
  lifting : is_within 4 1024 x.0.z ≡ true
  base_rows : is_within 3 16 x.0.mb ≡ true
  left : are_bytes x.1.bytes ≡ true

first_is : (words : ℕ) (rest : Rest) (x : Sizes × Rest) → are_bytes rest.bytes ≡ true → first_sizes words rest ≡ Ok x → IsFirst words x
unfolding first_sizes
first_is words rest x are e =
    on_number (IsFirst words x) (rest.place, range) w8 (is_within 1 8) rest _ x are e (λ s1 t1 r1 n1.
    on_number (IsFirst words x) (s1.1.place, range) w8 (is_within 3 8) s1.1 _ x r1 n1 (λ s2 t2 r2 n2.
    on_number (IsFirst words x) (s2.1.place, range) w16 (is_within 4 256) s2.1 _ x r2 n2 (λ s3 t3 r3 n3.
    on_number (IsFirst words x) (s3.1.place, range) w16 (is_within 2 256) s3.1 _ x r3 n3 (λ s4 t4 r4 n4.
    on_number (IsFirst words x) (s4.1.place, range) w16 (is_within 4 1024) s4.1 _ x r4 n4 (λ s5 t5 r5 n5.
    on_number (IsFirst words x) (s5.1.place, range) w8 (is_within 3 16) s5.1 _ x r5 n5 (λ s6 t6 r6 n6.
    let first : Sizes = record { words = words; channels = s1.0; dies = s2.0; superblocks = s3.0; pages = s4.0; z = s5.0; mb = s6.0; nb = 0; bytes = 0; rows = 0 } in
    let same : (first, s6.1) ≡ x = ap (value_else x) n6 in
    let known : IsFirst words (first, s6.1) = record { words_are = refl; channels = t1; dies = t2; superblocks = t3; pages = t4; lifting = t5; base_rows = t6; left = r6 } in
    subst (λ (p : Sizes × Rest). IsFirst words p) same known))))))

abbrev pub FixedIs : Fixed × Rest → Type 0
FixedIs x = IsFixed x.0 × (are_bytes x.1.bytes ≡ true)

fixed_given : (f : Fixed) (rest : Rest) (x : Fixed × Rest) → Ok (f, rest) ≡ reading_of x → IsFixed f → are_bytes rest.bytes ≡ true → FixedIs x
fixed_given f rest x e told are =
    let same : (f, rest) ≡ x = ap (value_else x) e in
    subst (λ (p : Fixed × Rest). FixedIs p) same (told, are)

pub fixed_is : (rest : Rest) (x : Fixed × Rest) → are_bytes rest.bytes ≡ true → fixed_fields rest ≡ Ok x → FixedIs x
unfolding fixed_fields
fixed_is rest x are e =
    on_part (FixedIs x) (words_field rest) _ x e (λ w read0 n0.
    let words = words_are rest w are read0 in
    on_part (FixedIs x) (first_sizes w.0 w.1) _ x n0 (λ f read1 n1.
    let first : IsFirst w.0 f = first_is w.0 w.1 f words.left read1 in
    on_number (FixedIs x) (f.1.place, range) w8 (λ nb. is_column_count (with_columns f.0 nb)) f.1 _ x first.left n1 (λ s7 t7 r7 n7.
    on_number (FixedIs x) (s7.1.place, range) w8 (is_within 1 16) s7.1 _ x r7 n7 (λ s8 t8 r8 n8.
    on_number (FixedIs x) (s8.1.place, range) w8 (is_within 1 64) s8.1 _ x r8 n8 (λ s9 t9 r9 n9.
    on_number (FixedIs x) (s9.1.place, range) w32 (is_within 1 (most_bytes_of (with_columns f.0 s7.0))) s9.1 _ x r9 n9 (λ s10 t10 r10 n10.
    on_number (FixedIs x) (s10.1.place, range) w32 (is_within 1 (most_rows_of f.0 0)) s10.1 _ x r10 n10 (λ s11 t11 r11 n11.
    on_any_64 (FixedIs x) s11.1 _ x r11 n11 (λ s12 t12 r12 n12.
    on_number (FixedIs x) (s12.1.place, range) w32 (is_below (2 ^ 24)) s12.1 _ x r12 n12 (λ s13 t13 r13 n13.
    on_signed (FixedIs x) (is_signed_within (negsuc 8191) (pos 8190)) s13.1 _ x r13 n13 (λ s14 t14 r14 n14.
    on_signed (FixedIs x) (is_programmed_level s14.0) s14.1 _ x r14 n14 (λ s15 t15 r15 n15.
    on_number (FixedIs x) (s15.1.place, range) w16 (is_within 0 4095) s15.1 _ x r15 n15 (λ s16 t16 r16 n16.
    on_number (FixedIs x) (s16.1.place, range) w16 (is_within 1 2047) s16.1 _ x r16 n16 (λ s17 t17 r17 n17.
    let sizes : Sizes = f.0 in
    fixed_given (record {
      sizes = record sizes { nb = s7.0; bytes = s10.0; rows = s11.0 };
      levels = s8.0;
      iterations = s9.0;
      law = record { erased = s14.0; programmed = s15.0; spread = s16.0; seed = s12.0 };
      step = s17.0;
      session = s13.0;
    }) s17.1 x n17 (record {
      words = ap is_word_count first.words_are ∙ words.is_count;
      channels = first.channels;
      dies = first.dies;
      superblocks = first.superblocks;
      pages = first.pages;
      lifting = first.lifting;
      base_rows = first.base_rows;
      base_columns = t7;
      level_count = t8;
      iterations = t9;
      bytes = t10;
      rows = t11;
      seed = t12;
      session = t13;
      erased = t14;
      programmed = t15;
      spread = t16;
      step = t17;
    }) r17)))))))))))))

chosen_ok : {A : Type 0} (b : Bool) (fault : Fault) (y x : A × Rest) → (if b then Ok y else Err fault) ≡ reading_of x → (b ≡ true) × (y ≡ x)
chosen_ok true fault y x e = (refl, ap (value_else x) e)
chosen_ok false fault y x e = absurd (never (ap is_read e))

pub all_snoc : {A : Type 0} (test : A → Bool) (xs : List A) (y : A) → list_all test xs ≡ true → test y ≡ true → list_all test (xs ++ y ∷ []) ≡ true
all_snoc test [] y e f = rw f refl
all_snoc test (x ∷ xs) y e f =
    let both = and_parts (test x) (list_all test xs) e in rw (both.0, all_snoc test xs y both.1 f) refl

-- so many more were read, each passes a test, and bytes are left
pub record AreMore {A : Type 0} (test : A → Bool) (n : ℕ) (before : List A) (x : List A × Rest) : Type 0 where
  pub pass : list_all test x.0 ≡ true
  pub count : length x.0 ≡ length before + n
  pub left : are_bytes x.1.bytes ≡ true

pub levels_are : (n : ℕ) (before : List ℤ) (rest : Rest) (x : List ℤ × Rest) → are_bytes rest.bytes ≡ true → list_all is_level before ≡ true → level_fields n before rest ≡ Ok x → AreMore is_level n before x
unfolding level_fields
levels_are zero before rest x are pass e =
    let same : (before, rest) ≡ x = ap (value_else x) e in
    subst (λ (p : List ℤ × Rest). AreMore is_level zero before p) same (record { pass = pass; count = omega arith; left = are })
levels_are (suc n) before rest x are pass e =
    on_signed (AreMore is_level (suc n) before x) is_level rest _ x are e (λ s t b follows.
    let more : AreMore is_level n (before ++ s.0 ∷ []) x = levels_are n (before ++ s.0 ∷ []) s.1 x b (all_snoc is_level before s.0 pass t) follows in
    record { pass = more.pass; count = omega (arith, more.count, length-append before (s.0 ∷ [])); left = more.left })

-- what is known of a base matrix that was read
record IsMatrix (sizes : Sizes) (x : List ℤ × Rest) : Type 0 where
  all_fit : list_all is_short x.0 ≡ true
  count : length x.0 ≡ sizes.mb * sizes.nb
  faultless : first_fault (record { z = sizes.z; mb = sizes.mb; nb = sizes.nb; entries = x.0 }) ≡ None
  left : are_bytes x.1.bytes ≡ true

pub fits_short : (n : ℤ) → FitsSigned w16 n → is_short n ≡ true
fits_short (pos n) h = let small : n < 2 ^ 15 = h.sfits in grind (arith, common_steps, ints)
fits_short (negsuc n) h = let small = h.sfits in grind (arith, common_steps, ints)

pub picked_short : (b : Bool) (n : ℕ) → nat_lt n (2 ^ 15) ≡ b → is_short (if b then pos n else negsuc (2 ^ 16 - suc n)) ≡ true
picked_short true n e = fits_short (pos n) (record { sfits = grind (arith, common_steps) })
picked_short false n e = fits_short (negsuc (2 ^ 16 - suc n)) (record { sfits = grind (arith, common_steps) })

pub signed_short : (n : ℕ) → is_short (cast_signed w16 n) ≡ true
signed_short n = picked_short (nat_lt n (2 ^ 15)) n refl

pub all_short : (bytes : List ℕ) → list_all is_short (signed_numbers bytes) ≡ true
all_short [] = refl
all_short (low ∷ []) = refl
all_short (low ∷ high ∷ bytes) = rw (signed_short (from_le_bytes w16 (low ∷ high ∷ [])), all_short bytes) refl

-- a field that was whole
whole_length : (b : Bool) (n k : ℕ) (fault : Fault) (y x : List ℕ × Rest) → nat_lt k n ≡ b → (if b then Err fault else Ok y) ≡ reading_of x → (n ≤ k) × (y ≡ x)
whole_length true n k fault y x t e = absurd (never (ap is_read e))
whole_length false n k fault y x t e = (grind (arith, common_steps), ap (value_else x) e)

pub whole_field : (n : ℕ) (rest : Rest) (x : List ℕ × Rest) → bytes_field n rest ≡ Ok x → (length x.0 ≡ n) × (x.1 ≡ after n rest)
whole_field n rest x e =
    let parts = whole_length (nat_lt (length rest.bytes) n) n (length rest.bytes) (rest.place + length rest.bytes, short) (take n rest.bytes, after n rest) x refl e in
    (ap (λ p. length p.0) (sym parts.1) ∙ length-take-le n rest.bytes parts.0, ap (λ p. p.1) (sym parts.1))

numbers_count : (k : ℕ) (bytes : List ℕ) → length bytes ≡ 2 * k → length (signed_numbers bytes) ≡ k
numbers_count zero [] e = refl
numbers_count (suc k) [] e = absurd (omega (arith, e))
numbers_count k (low ∷ []) e = absurd (omega (arith, e))
numbers_count zero (low ∷ high ∷ bytes) e = absurd (omega (arith, e))
numbers_count (suc k) (low ∷ high ∷ bytes) e =
    let less : length bytes ≡ 2 * k = omega (arith, e) in
    let rest : length (signed_numbers bytes) ≡ k = numbers_count k bytes less in omega (arith, rest)

unless_ok : {A B : Type 0} (fault : Option B) (f : B → Fault) (y x : A × Rest) → unless_fault (option_map f fault) y ≡ Ok x → (fault ≡ None) × (y ≡ x)
unless_ok None f y x e = (refl, ap (value_else x) e)
unless_ok (Some fault) f y x e = absurd (never (ap is_read e))

matrix_is : (sizes : Sizes) (rest : Rest) (x : List ℤ × Rest) → are_bytes rest.bytes ≡ true → matrix_field sizes rest ≡ Ok x → IsMatrix sizes x
unfolding matrix_field
matrix_is sizes rest x are e =
    let n : ℕ = 2 * (sizes.mb * sizes.nb) in
    on_part (IsMatrix sizes x) (bytes_field n rest) _ x e (λ field read follows.
    let long = whole_field n rest field read in
    let m : BaseMatrix = record { z = sizes.z; mb = sizes.mb; nb = sizes.nb; entries = signed_numbers field.0 } in
    let parts = unless_ok (first_fault m) (matrix_fault rest.place m) (m.entries, field.1) x follows in
    let known : IsMatrix sizes (m.entries, field.1) = record {
      all_fit = all_short field.0;
      count = numbers_count (sizes.mb * sizes.nb) field.0 long.0;
      faultless = parts.0;
      left = still_bytes n rest field.1 are long.1;
    } in
    subst (λ (p : List ℤ × Rest). IsMatrix sizes p) parts.1 known)

-- a list of records of an image that was read
record AreRecords {A : Type 0} (are_records : List A → Bool) (n : ℕ) (before : List A) (x : List A × Rest) : Type 0 where
  records : are_records x.0 ≡ true
  count : length x.0 ≡ length before + n
  left : are_bytes x.1.bytes ≡ true

-- what is known of a weak block that was read
record IsWeakRead (sizes : Sizes) (before : List Weak) (x : Weak × Rest) : Type 0 where
  is_weak : is_weak_record sizes before x.0 ≡ true
  from : is_below (2 ^ 32) x.0.from ≡ true
  left : are_bytes x.1.bytes ≡ true

weak_is : (sizes : Sizes) (before : List Weak) (rest : Rest) (x : Weak × Rest) → are_bytes rest.bytes ≡ true → weak_record sizes before rest ≡ Ok x → IsWeakRead sizes before x
unfolding weak_record
weak_is sizes before rest x are e =
    on_number (IsWeakRead sizes before x) (rest.place, range) w8 (is_below sizes.channels) rest _ x are e (λ s1 t1 r1 n1.
    on_number (IsWeakRead sizes before x) (s1.1.place, range) w8 (is_below sizes.dies) s1.1 _ x r1 n1 (λ s2 t2 r2 n2.
    on_number (IsWeakRead sizes before x) (s2.1.place, range) w16 (is_below sizes.superblocks) s2.1 _ x r2 n2 (λ s3 t3 r3 n3.
    on_any_32 (IsWeakRead sizes before x) s3.1 _ x r3 n3 (λ s4 t4 r4 n4.
    let weak : Weak = record { channel = s1.0; die = s2.0; sb = s3.0; from = s4.0 } in
    let parts = chosen_ok (comes_after is_weak_before before weak) (rest.place, order) (weak, s4.1) x n4 in
    let known : IsWeakRead sizes before (weak, s4.1) = record { is_weak = rw (t1, t2, t3, parts.0) refl; from = t4; left = r4 } in
    subst (λ (p : Weak × Rest). IsWeakRead sizes before p) parts.1 known))))

pub weak_snoc : (sizes : Sizes) (xs pre : List Weak) (w : Weak) → are_weak_records sizes pre xs ≡ true → is_weak_record sizes (pre ++ xs) w ≡ true → are_weak_records sizes pre (xs ++ w ∷ []) ≡ true
weak_snoc sizes [] pre w e f =
    let here : is_weak_record sizes pre w ≡ true = ap (λ l. is_weak_record sizes l w) (sym (append-nil pre)) ∙ f in rw here refl
weak_snoc sizes (x ∷ xs) pre w e f =
    let both = and_parts (is_weak_record sizes pre x) (are_weak_records sizes (pre ++ x ∷ []) xs) e in
    let later = weak_snoc sizes xs (pre ++ x ∷ []) w both.1 (ap (λ l. is_weak_record sizes l w) (append_assoc pre (x ∷ []) xs) ∙ f) in
    rw (both.0, later) refl

-- what is known of the weak blocks that were read
record AreWeakRead (sizes : Sizes) (n : ℕ) (before : List Weak) (x : List Weak × Rest) : Type 0 where
  records : are_weak_records sizes [] x.0 ≡ true
  from : list_all (λ (w : Weak). is_below (2 ^ 32) w.from) x.0 ≡ true
  count : length x.0 ≡ length before + n
  left : are_bytes x.1.bytes ≡ true

weaks_are : (sizes : Sizes) (n : ℕ) (before : List Weak) (rest : Rest) (x : List Weak × Rest) → are_bytes rest.bytes ≡ true →
    are_weak_records sizes [] before ≡ true → list_all (λ (w : Weak). is_below (2 ^ 32) w.from) before ≡ true →
    weak_records sizes n before rest ≡ Ok x → AreWeakRead sizes n before x
unfolding weak_records
weaks_are sizes zero before rest x are good low e =
    let same : (before, rest) ≡ x = ap (value_else x) e in
    subst (λ (p : List Weak × Rest). AreWeakRead sizes zero before p) same (record { records = good; from = low; count = omega arith; left = are })
weaks_are sizes (suc n) before rest x are good low e =
    on_part (AreWeakRead sizes (suc n) before x) (weak_record sizes before rest) _ x e (λ s read follows.
    let known = weak_is sizes before rest s are read in
    let more = weaks_are sizes n (before ++ s.0 ∷ []) s.1 x known.left (weak_snoc sizes before [] s.0 good known.is_weak) (all_snoc (λ (w : Weak). is_below (2 ^ 32) w.from) before s.0 low known.from) follows in
    record { records = more.records; from = more.from; count = omega (arith, more.count, length-append before (s.0 ∷ [])); left = more.left })

-- what is known of a factory bad superblock that was read
record IsBadRead (sizes : Sizes) (before : List (ℕ × ℕ)) (x : (ℕ × ℕ) × Rest) : Type 0 where
  is_bad : is_bad_record sizes before x.0 ≡ true
  left : are_bytes x.1.bytes ≡ true

bad_chosen : {A : Type 0} (b c : Bool) (f g : Fault) (y x : A × Rest) → (if not b then Err f else (if c then Ok y else Err g)) ≡ reading_of x → (b ≡ true) × (c ≡ true) × (y ≡ x)
bad_chosen true true f g y x e = (refl, refl, ap (value_else x) e)
bad_chosen true false f g y x e = absurd (never (ap is_read e))
bad_chosen false c f g y x e = absurd (never (ap is_read e))

bad_is : (sizes : Sizes) (before : List (ℕ × ℕ)) (rest : Rest) (x : (ℕ × ℕ) × Rest) → are_bytes rest.bytes ≡ true → bad_record sizes before rest ≡ Ok x → IsBadRead sizes before x
unfolding bad_record
bad_is sizes before rest x are e =
    on_number (IsBadRead sizes before x) (rest.place, range) w8 (is_below sizes.channels) rest _ x are e (λ s1 t1 r1 n1.
    on_number (IsBadRead sizes before x) (s1.1.place, range) w8 (is_below 1) s1.1 _ x r1 n1 (λ s2 t2 r2 n2.
    on_number (IsBadRead sizes before x) (s2.1.place, range) w16 (is_below sizes.superblocks) s2.1 _ x r2 n2 (λ s3 t3 r3 n3.
    let bad : ℕ × ℕ = (s1.0, s3.0) in
    let parts = bad_chosen (comes_after is_bad_before before bad) (rows_fit sizes before bad.0) (rest.place, order) (rest.place, range) (bad, s3.1) x n3 in
    let known : IsBadRead sizes before (bad, s3.1) = record { is_bad = rw (t1, t3, parts.0, parts.1) refl; left = r3 } in
    subst (λ (p : (ℕ × ℕ) × Rest). IsBadRead sizes before p) parts.2 known)))

pub bad_snoc : (sizes : Sizes) (xs pre : List (ℕ × ℕ)) (b : ℕ × ℕ) → are_bad_records sizes pre xs ≡ true → is_bad_record sizes (pre ++ xs) b ≡ true → are_bad_records sizes pre (xs ++ b ∷ []) ≡ true
bad_snoc sizes [] pre b e f =
    let here : is_bad_record sizes pre b ≡ true = ap (λ l. is_bad_record sizes l b) (sym (append-nil pre)) ∙ f in rw here refl
bad_snoc sizes (x ∷ xs) pre b e f =
    let both = and_parts (is_bad_record sizes pre x) (are_bad_records sizes (pre ++ x ∷ []) xs) e in
    let later = bad_snoc sizes xs (pre ++ x ∷ []) b both.1 (ap (λ l. is_bad_record sizes l b) (append_assoc pre (x ∷ []) xs) ∙ f) in
    rw (both.0, later) refl

bads_are : (sizes : Sizes) (n : ℕ) (before : List (ℕ × ℕ)) (rest : Rest) (x : List (ℕ × ℕ) × Rest) → are_bytes rest.bytes ≡ true →
    are_bad_records sizes [] before ≡ true → bad_records sizes n before rest ≡ Ok x → AreRecords (are_bad_records sizes []) n before x
unfolding bad_records
bads_are sizes zero before rest x are good e =
    let same : (before, rest) ≡ x = ap (value_else x) e in
    subst (λ (p : List (ℕ × ℕ) × Rest). AreRecords (are_bad_records sizes []) zero before p) same (record { records = good; count = omega arith; left = are })
bads_are sizes (suc n) before rest x are good e =
    on_part (AreRecords (are_bad_records sizes []) (suc n) before x) (bad_record sizes before rest) _ x e (λ s read follows.
    let known = bad_is sizes before rest s are read in
    let more = bads_are sizes n (before ++ s.0 ∷ []) s.1 x known.left (bad_snoc sizes before [] s.0 good known.is_bad) follows in
    record { records = more.records; count = omega (arith, more.count, length-append before (s.0 ∷ [])); left = more.left })

-- how many levels were read is a number in range
counted : (low high n m : ℕ) → is_within low high n ≡ true → m ≡ 0 + n → is_within low high m ≡ true
counted low high n m e f = let same : m ≡ n = omega (arith, f) in ap (is_within low high) same ∙ e

counted_below : (bound n m : ℕ) → is_below bound n ≡ true → m ≡ 0 + n → is_below bound m ≡ true
counted_below bound n m e f = let same : m ≡ n = omega (arith, f) in ap (is_below bound) same ∙ e

abbrev head_pair : Head × Rest → Reading Head
head_pair x = Ok x

head_given : (h : Head) (rest : Rest) (x : Head × Rest) → Ok (h, rest) ≡ head_pair x → IsHead h → IsHead x.0
head_given h rest x e told =
    let same : (h, rest) ≡ x = ap (value_else x) e in subst (λ (p : Head × Rest). IsHead p.0) same told

pub head_has_spelling : (bytes : List ℕ) (x : Head × Rest) → are_bytes bytes ≡ true → read_head bytes ≡ Ok x → IsHead x.0
unfolding read_head
head_has_spelling bytes x are e =
    on_part (IsHead x.0) (fixed_fields (from_beginning bytes)) _ x e (λ f read0 n0.
    let known = fixed_is (from_beginning bytes) f are read0 in
    let fixed : IsFixed f.0 = known.0 in
    on_part (IsHead x.0) (level_fields f.0.levels [] f.1) _ x n0 (λ lv read1 n1.
    let levels = levels_are f.0.levels [] f.1 lv known.1 refl read1 in
    on_part (IsHead x.0) (matrix_field f.0.sizes lv.1) _ x n1 (λ en read2 n2.
    let matrix = matrix_is f.0.sizes lv.1 en levels.left read2 in
    on_any_16 (IsHead x.0) en.1 _ x matrix.left n2 (λ wc tw rw_ n3.
    on_part (IsHead x.0) (weak_records f.0.sizes wc.0 [] wc.1) _ x n3 (λ wk read4 n4.
    let weak = weaks_are f.0.sizes wc.0 [] wc.1 wk rw_ refl refl read4 in
    on_any_16 (IsHead x.0) wk.1 _ x weak.left n4 (λ bc tb rb n5.
    on_part (IsHead x.0) (bad_records f.0.sizes bc.0 [] bc.1) _ x n5 (λ bd read6 n6.
    let bad = bads_are f.0.sizes bc.0 [] bc.1 bd rb refl read6 in
    on_number (IsHead x.0) (bd.1.place, range) w8 (is_within 0 1) bd.1 _ x bad.left n6 (λ ct tc rc n7.
    head_given (record {
      sizes = f.0.sizes;
      read_levels = lv.0;
      iterations = f.0.iterations;
      law = f.0.law;
      step = f.0.step;
      session = f.0.session;
      entries = en.0;
      weak = wk.0;
      bad = bd.0;
      full = ct.0 == 1;
    }) ct.1 x n7 (record {
      words = fixed.words;
      channels = fixed.channels;
      dies = fixed.dies;
      superblocks = fixed.superblocks;
      pages = fixed.pages;
      lifting = fixed.lifting;
      base_rows = fixed.base_rows;
      base_columns = fixed.base_columns;
      level_count = counted 1 16 f.0.levels (length lv.0) fixed.level_count levels.count;
      iterations = fixed.iterations;
      bytes = fixed.bytes;
      rows = fixed.rows;
      seed = fixed.seed;
      session = fixed.session;
      erased = fixed.erased;
      programmed = fixed.programmed;
      spread = fixed.spread;
      step = fixed.step;
      levels = levels.pass;
      entries = matrix.all_fit;
      entry_count = matrix.count;
      faultless = matrix.faultless;
      weak_count = counted_below (2 ^ 16) wc.0 (length wk.0) tw weak.count;
      weak_from = weak.from;
      weak = weak.records;
      bad_count = counted_below (2 ^ 16) bc.0 (length bd.0) tb bad.count;
      bad = bad.records;
    })))))))))
