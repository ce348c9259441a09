-- Which bytes are the head of an image, and what is the first fault of those that aren't? The fields are tested in the
-- order of the file, each as soon as it is read. There are two versions, told apart by the text at the beginning: in the
-- second the number of codewords of a page stands after that text; in the first it isn't there, and a page has one. What
-- follows is the same in both. The format is this project's own.
use Rattle.std.specs.Prelude.{◌≡◌, IsTrue, ℕ, zero, suc, ◌+◌, ◌-◌, ◌*◌, ◌%◌, ◌^◌, ◌==◌, nat_lt, nat_le, Bool, true, ◌&&◌, ◌||◌, not, if◌then◌else◌, List, [], ◌∷◌, ◌++◌, bytes_eq, length, flat_map, count_by, option_map, slice_get, codes, ℤ, pos, negsuc, int_lt, int_le, Option, Some, None, Ok, Err}
use Rattle.std.specs.Int.{w8, w16, w32, w64, to_le_bytes}
use Rattle.std.specs.List.{list_all}
use Rattle.std.specs.Option.{option_map_or}
use Rattle.ssd_geo.specs.BaseMatrix.{BaseMatrix, MatrixFault, entry_range, parity_column, diagonal as diagonal_of, first_fault}
use Rattle.ssd_formats.specs.Fields.{are_bytes, Rest, Fault, Reading, ◌>>=◌, bytes_field, number_field, signed_field, text_field, signed_of_bytes, bytes_of_signed, is_any, is_below, level_fields}
use Rattle.ssd_geo.specs.Limits.{IsWithinLimits, Sizes, is_within, is_level, is_signed_within, is_column_count, is_word_count, most_bytes_of, most_rows_of}
use Rattle.ssd_geo.specs.Shape.{sizes_of}
use Rattle.ssd_formats.specs.InputFaults.{range, entry, parity, diagonal, order}
use Rattle.ssd_geo.specs.declared.cell_law.CellLaw.{CellLaw}
use Rattle.ssd_geo.specs.declared.head.ImageHead.{ImageHead}
use Rattle.ssd_geo.specs.declared.weak.Weak.{Weak}

-- what an image tells before its contents, as plain numbers and lists
pub record Head : Type 0 where
  pub sizes : Sizes
  pub read_levels : List ℤ
  pub iterations : ℕ
  pub law : CellLaw
  pub step : ℕ
  pub session : ℕ
  pub entries : List ℤ
  pub weak : List Weak
  pub bad : List (ℕ × ℕ)
  pub full : Bool

-- what an image's head tells, without the place that was reached
abbrev pub head_of : ImageHead → Head
head_of head = record {
  sizes = sizes_of head.shape;
  read_levels = head.read_levels;
  iterations = head.iterations;
  law = head.law;
  step = head.step;
  session = head.session;
  entries = head.entries;
  weak = head.weak;
  bad = head.bad;
  full = head.full;
}

-- the base matrix of a head
abbrev pub matrix_of_head : Head → BaseMatrix
matrix_of_head head = record { z = head.sizes.z; mb = head.sizes.mb; nb = head.sizes.nb; entries = head.entries }

-- the fields of fixed places
pub record Fixed : Type 0 where
  pub sizes : Sizes
  pub levels : ℕ
  pub iterations : ℕ
  pub law : CellLaw
  pub step : ℕ
  pub session : ℕ

-- whether a level may be that of a programmed cell, where erased ones have this one
abbrev pub is_programmed_level : ℤ → ℤ → Bool
is_programmed_level erased programmed = int_lt erased programmed && int_le programmed (pos 8191)

-- the text at the beginning, in the first version and in the second
abbrev pub first_beginning : List ℕ
first_beginning = codes "SSDIMG01"

abbrev pub beginning : List ℕ
beginning = codes "SSDIMG02"

-- whether a text is one of them
abbrev pub is_beginning : List ℕ → Bool
is_beginning text = bytes_eq first_beginning text || bytes_eq beginning text

-- the number of codewords of a page, after this text: a field of the second version
abbrev pub words_after : List ℕ → Rest → Reading ℕ
words_after text rest = if bytes_eq first_beginning text then Ok (1, rest) else number_field w8 is_word_count rest

-- the text at the beginning and the number of codewords of a page
unfoldable pub words_field : Rest → Reading ℕ
words_field rest = do
  text ← text_field 8 is_beginning rest
  words_after text.0 text.1

-- the sizes up to the rows of the base matrix, where a page has so many codewords; the later ones are 0
unfoldable pub first_sizes : ℕ → Rest → Reading Sizes
first_sizes words rest = do
  channels ← number_field w8 (is_within 1 8) rest
  dies ← number_field w8 (is_within 3 8) channels.1
  superblocks ← number_field w16 (is_within 4 256) dies.1
  pages ← number_field w16 (is_within 2 256) superblocks.1
  z ← number_field w16 (is_within 4 1024) pages.1
  mb ← number_field w8 (is_within 3 16) z.1
  Ok (
    record {
      words = words;
      channels = channels.0;
      dies = dies.0;
      superblocks = superblocks.0;
      pages = pages.0;
      z = z.0;
      mb = mb.0;
      nb = 0;
      bytes = 0;
      rows = 0;
    },
    mb.1,
  )

-- the first sizes with this number of columns of the base matrix
abbrev pub with_columns : Sizes → ℕ → Sizes
with_columns first nb = record first { nb = nb }

-- the fields of fixed places
unfoldable pub fixed_fields : Rest → Reading Fixed
fixed_fields rest = do
  words ← words_field rest
  first ← first_sizes words.0 words.1
  nb ← number_field w8 (λ nb. is_column_count (with_columns first.0 nb)) first.1
  levels ← number_field w8 (is_within 1 16) nb.1
  iterations ← number_field w8 (is_within 1 64) levels.1
  bytes ← number_field w32 (is_within 1 (most_bytes_of (with_columns first.0 nb.0))) iterations.1
  rows ← number_field w32 (is_within 1 (most_rows_of first.0 0)) bytes.1
  seed ← number_field w64 is_any rows.1
  session ← number_field w32 (is_below (2 ^ 24)) seed.1
  erased ← signed_field (is_signed_within (negsuc 8191) (pos 8190)) session.1
  programmed ← signed_field (is_programmed_level erased.0) erased.1
  spread ← number_field w16 (is_within 0 4095) programmed.1
  step ← number_field w16 (is_within 1 2047) spread.1
  Ok (
    record {
      sizes = record first.0 { nb = nb.0; bytes = bytes.0; rows = rows.0 };
      levels = levels.0;
      iterations = iterations.0;
      law = record { erased = erased.0; programmed = programmed.0; spread = spread.0; seed = seed.0 };
      step = step.0;
      session = session.0;
    },
    step.1,
  )

-- the numbers of 16 bits with a sign that bytes spell, two for each
abbrev pub signed_numbers : List ℕ → List ℤ
signed_numbers [] = []
signed_numbers (low ∷ []) = []
signed_numbers (low ∷ high ∷ bytes) = signed_of_bytes (low ∷ high ∷ []) ∷ signed_numbers bytes

-- where what is wrong with a base matrix stands, which begins at a place, and what it is in an image
abbrev pub matrix_fault : ℕ → BaseMatrix → MatrixFault → Fault
matrix_fault place m (entry_range i j) = (place + 2 * (i * m.nb + j), entry)
matrix_fault place m (parity_column i) = (place + 2 * (i * m.nb + (m.nb - m.mb)), parity)
matrix_fault place m (diagonal_of i j) = (place + 2 * (i * m.nb + j), diagonal)

-- a value, unless there is a fault
abbrev pub unless_fault : {A : Type 0} → Option Fault → A × Rest → Reading A
unless_fault None read = Ok read
unless_fault (Some fault) read = Err fault

-- the base matrix, which is read whole and then tested
unfoldable pub matrix_field : Sizes → Rest → Reading (List ℤ)
matrix_field sizes rest = do
  bytes ← bytes_field (2 * (sizes.mb * sizes.nb)) rest
  let m : BaseMatrix = record { z = sizes.z; mb = sizes.mb; nb = sizes.nb; entries = signed_numbers bytes.0 } in unless_fault (option_map (matrix_fault rest.place m) (first_fault m)) (m.entries, bytes.1)

-- whether a weak block stands before another by channel, die and superblock
abbrev pub is_weak_before : Weak → Weak → Bool
is_weak_before first second =
    nat_lt first.channel second.channel || (first.channel == second.channel &&
    (nat_lt first.die second.die || (first.die == second.die && nat_lt first.sb second.sb)))

-- whether what comes next stands after the last of those before
abbrev pub comes_after : {A : Type 0} → (A → A → Bool) → List A → A → Bool
comes_after is_before before next = option_map_or (λ last. is_before last next) (slice_get before (length before - 1)) true

-- a weak block, after those before
unfoldable pub weak_record : Sizes → List Weak → Rest → Reading Weak
weak_record sizes before rest = do
  channel ← number_field w8 (is_below sizes.channels) rest
  die ← number_field w8 (is_below sizes.dies) channel.1
  sb ← number_field w16 (is_below sizes.superblocks) die.1
  from ← number_field w32 is_any sb.1
  let weak : Weak = record { channel = channel.0; die = die.0; sb = sb.0; from = from.0 } in if comes_after is_weak_before before weak then Ok (weak, from.1) else Err (rest.place, order)

-- so many weak blocks after those before
unfoldable pub weak_records : Sizes → ℕ → List Weak → Rest → Reading (List Weak)
weak_records sizes zero before rest = Ok (before, rest)
weak_records sizes (suc n) before rest = do
  weak ← weak_record sizes before rest
  weak_records sizes n (before ++ weak.0 ∷ []) weak.1

-- whether a factory bad superblock, a channel and a superblock, stands before another
abbrev pub is_bad_before : ℕ × ℕ → ℕ × ℕ → Bool
is_bad_before first second = nat_lt first.0 second.0 || (first.0 == second.0 && nat_lt first.1 second.1)

-- how many of some factory bad superblocks are a channel's
abbrev pub bad_of_channel : List (ℕ × ℕ) → ℕ → ℕ
bad_of_channel bad channel = count_by (λ of. of.0 == channel) bad

-- whether the rows of a channel still fit, with one more of its superblocks bad
abbrev pub rows_fit : Sizes → List (ℕ × ℕ) → ℕ → Bool
rows_fit sizes before channel =
    nat_le sizes.rows (most_rows_of sizes (bad_of_channel before channel + 1))

-- a factory bad superblock, after those before: it stands after them, and then its channel's rows still fit
unfoldable pub bad_record : Sizes → List (ℕ × ℕ) → Rest → Reading (ℕ × ℕ)
bad_record sizes before rest = do
  channel ← number_field w8 (is_below sizes.channels) rest
  nought ← number_field w8 (is_below 1) channel.1
  sb ← number_field w16 (is_below sizes.superblocks) nought.1
  if not (comes_after is_bad_before before (channel.0, sb.0)) then Err (rest.place, order) else if rows_fit sizes before channel.0 then Ok ((channel.0, sb.0), sb.1) else Err (rest.place, range)

-- so many factory bad superblocks after those before
unfoldable pub bad_records : Sizes → ℕ → List (ℕ × ℕ) → Rest → Reading (List (ℕ × ℕ))
bad_records sizes zero before rest = Ok (before, rest)
bad_records sizes (suc n) before rest = do
  bad ← bad_record sizes before rest
  bad_records sizes n (before ++ bad.0 ∷ []) bad.1

-- what is read from the beginning on
abbrev pub from_beginning : List ℕ → Rest
from_beginning bytes = record { place = 0; bytes = bytes }

-- the head of an image
unfoldable pub read_head : List ℕ → Reading Head
read_head bytes = do
  fixed ← fixed_fields (from_beginning bytes)
  read_levels ← level_fields fixed.0.levels [] fixed.1
  entries ← matrix_field fixed.0.sizes read_levels.1
  weak_count ← number_field w16 is_any entries.1
  weak ← weak_records fixed.0.sizes weak_count.0 [] weak_count.1
  bad_count ← number_field w16 is_any weak.1
  bad ← bad_records fixed.0.sizes bad_count.0 [] bad_count.1
  contents ← number_field w8 (is_within 0 1) bad.1
  Ok (
    record {
      sizes = fixed.0.sizes;
      read_levels = read_levels.0;
      iterations = fixed.0.iterations;
      law = fixed.0.law;
      step = fixed.0.step;
      session = fixed.0.session;
      entries = entries.0;
      weak = weak.0;
      bad = bad.0;
      full = contents.0 == 1;
    },
    contents.1,
  )

-- the bytes of a weak block and of a factory bad superblock
abbrev pub weak_bytes : Weak → List ℕ
weak_bytes weak =
    to_le_bytes w8 weak.channel ++ to_le_bytes w8 weak.die ++ to_le_bytes w16 weak.sb ++ to_le_bytes w32 weak.from

abbrev pub bad_bytes : ℕ × ℕ → List ℕ
bad_bytes bad = to_le_bytes w8 bad.0 ++ to_le_bytes w8 0 ++ to_le_bytes w16 bad.1

-- the bytes of a head after the number of codewords of a page, which are the same in both versions
abbrev pub later_bytes : Head → List ℕ
later_bytes head =
    to_le_bytes w8 head.sizes.channels ++
    to_le_bytes w8 head.sizes.dies ++
    to_le_bytes w16 head.sizes.superblocks ++
    to_le_bytes w16 head.sizes.pages ++
    to_le_bytes w16 head.sizes.z ++
    to_le_bytes w8 head.sizes.mb ++
    to_le_bytes w8 head.sizes.nb ++
    to_le_bytes w8 (length head.read_levels) ++
    to_le_bytes w8 head.iterations ++
    to_le_bytes w32 head.sizes.bytes ++
    to_le_bytes w32 head.sizes.rows ++
    to_le_bytes w64 head.law.seed ++
    to_le_bytes w32 head.session ++
    bytes_of_signed head.law.erased ++
    bytes_of_signed head.law.programmed ++
    to_le_bytes w16 head.law.spread ++
    to_le_bytes w16 head.step ++
    flat_map bytes_of_signed head.read_levels ++
    flat_map bytes_of_signed head.entries ++
    to_le_bytes w16 (length head.weak) ++
    flat_map weak_bytes head.weak ++
    to_le_bytes w16 (length head.bad) ++
    flat_map bad_bytes head.bad ++
    to_le_bytes w8 (if head.full then 1 else 0)

-- the bytes of a head, in the second version
unfoldable pub head_bytes : Head → List ℕ
head_bytes head = beginning ++ to_le_bytes w8 head.sizes.words ++ later_bytes head

-- the bytes of a head in the first version, in which a page has one codeword
unfoldable pub first_head_bytes : Head → List ℕ
first_head_bytes head = first_beginning ++ later_bytes head

-- a head as a drive is saved or formatted with it: the session is the next one
abbrev pub with_next_session : Head → Bool → Head
with_next_session head full = record head { session = (head.session + 1) % 2 ^ 24; full = full }

-- whether a weak block is one of a drive, and stands after those before
abbrev pub is_weak_record : Sizes → List Weak → Weak → Bool
is_weak_record sizes before weak =
    is_below sizes.channels weak.channel && is_below sizes.dies weak.die && is_below sizes.superblocks weak.sb
    && comes_after is_weak_before before weak

abbrev pub are_weak_records : Sizes → List Weak → List Weak → Bool
are_weak_records sizes before [] = true
are_weak_records sizes before (weak ∷ more) =
    is_weak_record sizes before weak && are_weak_records sizes (before ++ weak ∷ []) more

-- whether a factory bad superblock is one of a drive, stands after those before, and leaves room for the rows
abbrev pub is_bad_record : Sizes → List (ℕ × ℕ) → ℕ × ℕ → Bool
is_bad_record sizes before bad =
    is_below sizes.channels bad.0 && is_below sizes.superblocks bad.1 && comes_after is_bad_before before bad
    && rows_fit sizes before bad.0

abbrev pub are_bad_records : Sizes → List (ℕ × ℕ) → List (ℕ × ℕ) → Bool
are_bad_records sizes before [] = true
are_bad_records sizes before (bad ∷ more) =
    is_bad_record sizes before bad && are_bad_records sizes (before ++ bad ∷ []) more

-- whether a number fits 16 bits with a sign
abbrev pub is_short : ℤ → Bool
is_short n = is_signed_within (negsuc 32767) (pos 32767) n

-- a head that has a spelling: each field is in its range
pub record IsHead (head : Head) : Type 0 where
  pub words : IsTrue (is_word_count head.sizes.words)
  pub channels : IsTrue (is_within 1 8 head.sizes.channels)
  pub dies : IsTrue (is_within 3 8 head.sizes.dies)
  pub superblocks : IsTrue (is_within 4 256 head.sizes.superblocks)
  pub pages : IsTrue (is_within 2 256 head.sizes.pages)
  pub lifting : IsTrue (is_within 4 1024 head.sizes.z)
  pub base_rows : IsTrue (is_within 3 16 head.sizes.mb)
  pub base_columns : IsTrue (is_column_count head.sizes)
  pub level_count : IsTrue (is_within 1 16 (length head.read_levels))
  pub iterations : IsTrue (is_within 1 64 head.iterations)
  pub bytes : IsTrue (is_within 1 (most_bytes_of head.sizes) head.sizes.bytes)
  pub rows : IsTrue (is_within 1 (most_rows_of head.sizes 0) head.sizes.rows)
  pub seed : IsTrue (is_below (2 ^ 64) head.law.seed)
  pub session : IsTrue (is_below (2 ^ 24) head.session)
  pub erased : IsTrue (is_signed_within (negsuc 8191) (pos 8190) head.law.erased)
  pub programmed : IsTrue (is_programmed_level head.law.erased head.law.programmed)
  pub spread : IsTrue (is_within 0 4095 head.law.spread)
  pub step : IsTrue (is_within 1 2047 head.step)
  pub levels : IsTrue (list_all is_level head.read_levels)
  pub entries : IsTrue (list_all is_short head.entries)
  pub entry_count : length head.entries ≡ head.sizes.mb * head.sizes.nb
  pub faultless : first_fault (matrix_of_head head) ≡ None
  pub weak_count : IsTrue (is_below (2 ^ 16) (length head.weak))
  pub weak_from : IsTrue (list_all (λ weak. is_below (2 ^ 32) weak.from) head.weak)
  pub weak : IsTrue (are_weak_records head.sizes [] head.weak)
  pub bad_count : IsTrue (is_below (2 ^ 16) (length head.bad))
  pub bad : IsTrue (are_bad_records head.sizes [] head.bad)

-- a head that was written is read again, whatever follows
abbrev pub HeadIsRead : Type 0
HeadIsRead =
    (head : Head) (more : List ℕ) → IsHead head →
    read_head (head_bytes head ++ more) ≡ Ok (head, record { place = length (head_bytes head); bytes = more })

-- and so is one in the first version, with one codeword a page
abbrev pub FirstHeadIsRead : Type 0
FirstHeadIsRead =
    (head : Head) (more : List ℕ) → IsHead head → head.sizes.words ≡ 1 →
    read_head (first_head_bytes head ++ more) ≡ Ok (head, record { place = length (first_head_bytes head); bytes = more })

-- a head that was read from bytes has a spelling
abbrev pub HeadHasSpelling : Type 0
HeadHasSpelling =
    (bytes : List ℕ) (head : Head) (rest : Rest) → IsTrue (are_bytes bytes) → read_head bytes ≡ Ok (head, rest) → IsHead head

-- the sizes of a head that has a spelling are within the limits
abbrev pub HeadIsWithinLimits : Type 0
HeadIsWithinLimits = (head : Head) → IsHead head → IsWithinLimits head.sizes
