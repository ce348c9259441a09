-- Which images are read by hand, to see that the definitions of images say what is meant?
use Rattle.std.specs.Prelude.{Result, replicate, true, map, ℕ, ◌+◌, length, false, List, [], ◌∷◌, ◌++◌, take, drop, pos, negsuc, Ok, Err}
use Rattle.ssd_formats.specs.Fields.{Fault, Reading}
use Rattle.ssd_geo.specs.Bits.{bits_of}
use Rattle.ssd_geo.specs.Cells.{aim_of_bit}
use Rattle.ssd_geo.specs.PageWord.{word_of}
use Rattle.ssd_formats.specs.ImageContents.{image_bytes, ChannelImage, blank_saved}
use Rattle.ssd_geo.specs.declared.weak.Weak.{Weak}
use Rattle.ssd_geo.specs.declared.row.Row.TheVariants.{Empty, Page}
use Rattle.ssd_geo.specs.declared.superblock.SbState.TheVariants.{Frontier}
use Rattle.ssd_formats.specs.ImageHead.{Head, matrix_of_head, with_next_session, read_head}
use Rattle.ssd_formats.specs.InputFaults.{short}

-- the bytes of a blank image of one channel: its text, its sizes, the numbers of its data, of its law and of its step,
-- two read levels, the three rows of its base matrix, no weak and no factory bad block, and no contents
abbrev pub small_image : List ℕ
small_image =
    83 ∷ 83 ∷ 68 ∷ 73 ∷ 77 ∷ 71 ∷ 48 ∷ 49 ∷
    1 ∷ 3 ∷ 4 ∷ 0 ∷ 2 ∷ 0 ∷ 64 ∷ 0 ∷ 3 ∷ 6 ∷ 2 ∷ 8 ∷
    8 ∷ 0 ∷ 0 ∷ 0 ∷ 8 ∷ 0 ∷ 0 ∷ 0 ∷ 1 ∷ 0 ∷ 0 ∷ 0 ∷ 0 ∷ 0 ∷ 0 ∷ 0 ∷
    0 ∷ 0 ∷ 0 ∷ 0 ∷ 156 ∷ 255 ∷ 100 ∷ 0 ∷ 0 ∷ 0 ∷ 10 ∷ 0 ∷
    0 ∷ 0 ∷ 196 ∷ 255 ∷
    0 ∷ 0 ∷ 1 ∷ 0 ∷ 255 ∷ 255 ∷ 1 ∷ 0 ∷ 0 ∷ 0 ∷ 255 ∷ 255 ∷
    5 ∷ 0 ∷ 255 ∷ 255 ∷ 7 ∷ 0 ∷ 0 ∷ 0 ∷ 0 ∷ 0 ∷ 0 ∷ 0 ∷
    255 ∷ 255 ∷ 11 ∷ 0 ∷ 3 ∷ 0 ∷ 1 ∷ 0 ∷ 255 ∷ 255 ∷ 0 ∷ 0 ∷
    0 ∷ 0 ∷ 0 ∷ 0 ∷ 0 ∷ []

-- the head that it has
abbrev pub small_head : Head
small_head = record {
  sizes = record {
    words = 1;
    channels = 1;
    dies = 3;
    superblocks = 4;
    pages = 2;
    z = 64;
    mb = 3;
    nb = 6;
    bytes = 8;
    rows = 8;
  };
  read_levels = pos 0 ∷ negsuc 59 ∷ [];
  iterations = 8;
  law = record { erased = negsuc 99; programmed = pos 100; spread = 0; seed = 1 };
  step = 10;
  session = 0;
  entries =
      pos 0 ∷ pos 1 ∷ negsuc 0 ∷ pos 1 ∷ pos 0 ∷ negsuc 0 ∷
      pos 5 ∷ negsuc 0 ∷ pos 7 ∷ pos 0 ∷ pos 0 ∷ pos 0 ∷
      negsuc 0 ∷ pos 11 ∷ pos 3 ∷ pos 1 ∷ negsuc 0 ∷ pos 0 ∷ [];
  weak = [];
  bad = [];
  full = false;
}

-- the same image in the second version
abbrev pub second_small_image : List ℕ
second_small_image =
    83 ∷ 83 ∷ 68 ∷ 73 ∷ 77 ∷ 71 ∷ 48 ∷ 50 ∷ 1 ∷ drop 8 small_image

-- a list of bytes with some in place of those from a place on
abbrev pub with_bytes : List ℕ → ℕ → List ℕ → List ℕ
with_bytes image place bytes = take place image ++ bytes ++ drop (place + length bytes) image

-- the image of a drive whose pages have two codewords, each of half the bits: that with two codewords and half the
-- lifting size
abbrev pub two_words_image : List ℕ
two_words_image = with_bytes (with_bytes second_small_image 8 (2 ∷ [])) 15 (32 ∷ 0 ∷ [])

-- the head that it has
abbrev pub two_words_head : Head
two_words_head = record small_head { sizes = record small_head.sizes { words = 2; z = 32 } }

-- the fault of an input that has no head
abbrev pub fault_or : {A : Type 0} → Fault → Reading A → Fault
fault_or other (Ok read) = other
fault_or other (Err fault) = fault

-- the fault of the first n bytes of an image
abbrev pub fault_of_first : List ℕ → ℕ → Fault
fault_of_first image n = fault_or (length image, short) (read_head (take n image))

-- the blank image as it is saved: in the second version, with the next session, contents, and then nothing but zeros: for
-- each superblock its state, erases, used slots and programmed pages, and for each row its kind
abbrev pub saved_small_image : List ℕ
saved_small_image =
    take 37 second_small_image ++ 1 ∷ take 55 (drop 38 second_small_image) ++ 1 ∷ replicate 68 0

-- its head, and what it tells of its channel
abbrev pub saved_small_head : Head
saved_small_head = with_next_session small_head true

-- the blank image with other bytes after its base matrix, and room for fewer rows a channel
abbrev pub small_image_with : List ℕ → List ℕ
small_image_with lists = take 24 small_image ++ 4 ∷ drop 25 (take 88 small_image) ++ lists

-- a weak block, and a factory bad superblock
abbrev pub weak_at : ℕ → ℕ → List ℕ
weak_at die sb = 0 ∷ die ∷ sb ∷ 0 ∷ 7 ∷ 0 ∷ 0 ∷ 0 ∷ []

abbrev pub bad_at : ℕ → List ℕ
bad_at sb = 0 ∷ 0 ∷ sb ∷ 0 ∷ []

-- the weak and the factory bad blocks of a head
abbrev pub lists_of : Reading Head → Result (List Weak × List (ℕ × ℕ)) Fault
lists_of (Ok read) = let head : Head = read.0 in Ok (head.weak, head.bad)
lists_of (Err fault) = Err fault

-- those of the blank image with other bytes after its base matrix
abbrev pub read_lists : List ℕ → Result (List Weak × List (ℕ × ℕ)) Fault
read_lists lists = lists_of (read_head (small_image_with lists))

-- the word of the page that row 5 has after one write of 01h 02h: the payload is a serial of 0, the row, the four bytes
-- of a page head and the data
abbrev pub one_page_payload : List ℕ
one_page_payload =
    0 ∷ 0 ∷ 0 ∷ 0 ∷ 0 ∷ 0 ∷ 0 ∷ 0 ∷ 5 ∷ 0 ∷ 0 ∷ 0 ∷ 80 ∷ 71 ∷ 69 ∷ 49 ∷ 1 ∷ 2 ∷ 0 ∷ 0 ∷ 0 ∷ 0 ∷ 0 ∷ 0 ∷ []

-- a channel with that page, in the drive of a head: it stands on die 1, and the open stripe's sum is its word
abbrev pub one_page_saved : Head → ChannelImage
one_page_saved head =
    let word = word_of head.sizes (matrix_of_head head) one_page_payload in
    record {
      blocks =
          record {
            block = record { state = Frontier; erases = 0; used = 1 };
            pages = [] ∷ (map (aim_of_bit head.law) (bits_of 384 word) ∷ []) ∷ [] ∷ [];
            sum = word;
          } ∷ map (blank_saved head 0) (1 ∷ 2 ∷ 3 ∷ []);
      rows = replicate 5 Empty ++ Page (record { sb = 0; index = 0 }) 0 ∷ replicate 2 Empty;
    }

-- the image with it
abbrev pub page_image : List ℕ
page_image = image_bytes saved_small_head (one_page_saved small_head ∷ [])

-- and that of the drive whose pages have two codewords
abbrev pub saved_two_words_head : Head
saved_two_words_head = with_next_session two_words_head true

abbrev pub two_words_page_image : List ℕ
two_words_page_image = image_bytes saved_two_words_head (one_page_saved two_words_head ∷ [])
