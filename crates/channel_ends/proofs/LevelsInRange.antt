-- Each level that a past leaves in a page is in the range of an image's levels, where those at the start are.
use Rattle.std.proofs.Common.{◌≡◌, refl, ◌∙◌, ℕ, zero, suc, ◌+◌, ◌*◌, ◌<◌, ◌%◌, Bool, true, false, List, [], ◌∷◌, length, map, get_or, Option, Some, None, option_map, ℤ, pos, negsuc, ◌+ℤ◌, ◌-ℤ◌, ◌≤ℤ◌, ◌<ℤ◌, int_le, int_lt, slice_get, arith}
use Rattle.std.specs.Prelude.{All, ⊤, if◌then◌else◌}
use Rattle.std.specs.Int.{int_max}
use Rattle.std.specs.List.{list_all, range_with_len}
use Rattle.std.proofs.Math.Nat.{mod-lt}
use Rattle.std.proofs.lemmas.Int.{clamps, ints}
use Rattle.std.proofs.lemmas.List.Folds.{list_all-map}
use Rattle.ssd_geo.specs.Bits.{bit_of, bytes_sum}
use Rattle.ssd_geo.specs.Cells.{IsCellLaw, aged_level, aim_of_bit, fresh_level, fresh_levels}
use Rattle.ssd_geo.specs.Coding.{Coding}
use Rattle.ssd_geo.specs.Limits.{is_level}
use Rattle.ssd_geo.specs.Noise.{bits_of_cell, noise_of_bits, number_of_page, start_of_program}
use Rattle.ssd_geo.specs.Stripe.{stripe_of_index}
use Rattle.ssd_geo.specs.declared.base.ChannelBase.{ChannelBase}
use Rattle.ssd_geo.specs.declared.cell_law.CellLaw.{CellLaw}
use Rattle.ssd_geo.specs.declared.entry.Entry.{Entry}
use Rattle.ssd_geo.specs.declared.place.Place.{Place}
use Rattle.ssd_geo.specs.declared.tag.Tag.{Tag}
use Rattle.ssd_histories.specs.PastBlocks.{erases_of}
use Rattle.ssd_histories.specs.PastPages.{PageChange, StoredPage, aged_page, fresh_page, page_change, page_of, programs, programs_parity, empties, ages, leaves, senses_of, stored_in_image, sum_of, word_programmed}
use Rattle.ssd_histories.specs.Start.{Start, image_page}
use Rattle.contents_end.proofs.Tests.{all_of_range, both_true}
use Rattle.std.proofs.lemmas.Bool.{and_parts}

is_level_if : (level : ℤ) → negsuc 16383 ≤ℤ level → level ≤ℤ pos 16383 → is_level level ≡ true
is_level_if level low high =
    both_true (int_le (negsuc 16383) level) (int_le level (pos 16383)) (grind (arith, ints, low)) (grind (arith, ints, high))

-- a fresh level
fresh_in_range : (law : CellLaw) (bit : Bool) (drawn : ℕ) → IsCellLaw law
    → is_level (aim_of_bit law bit +ℤ noise_of_bits law.spread drawn) ≡ true
fresh_in_range law true drawn h =
    let noise : drawn % (2 * law.spread + 1) < 2 * law.spread + 1 = mod-lt drawn (omega arith) in
    is_level_if (law.erased +ℤ noise_of_bits law.spread drawn)
    (omega (arith, ints, h.erased_low, h.programmed_low, h.programmed_high, h.spread_high))
    (omega (arith, ints, h.erased_low, h.programmed_low, h.programmed_high, h.spread_high))
fresh_in_range law false drawn h =
    let noise : drawn % (2 * law.spread + 1) < 2 * law.spread + 1 = mod-lt drawn (omega arith) in
    is_level_if (law.programmed +ℤ noise_of_bits law.spread drawn)
    (omega (arith, ints, h.erased_low, h.programmed_low, h.programmed_high, h.spread_high))
    (omega (arith, ints, h.erased_low, h.programmed_low, h.programmed_high, h.spread_high))

all_fresh : (law : CellLaw) (place erases : ℕ) (word : List ℕ) → IsCellLaw law
    → list_all is_level (fresh_levels law place erases word) ≡ true
all_fresh law place erases word h =
    let drawn : ℕ = start_of_program law.seed place erases in
    list_all-map is_level (fresh_level law drawn word) (range_with_len 0 (8 * length word))
    ∙ all_of_range (λ (cell : ℕ). is_level (fresh_level law drawn word cell)) (8 * length word) 0
    (λ k below. fresh_in_range law (bit_of word (0 + k)) (bits_of_cell drawn (0 + k)) h)

fresh_page_in : (base : ChannelBase) (past : List Entry) (place : Place) (word : List ℕ) → IsCellLaw base.law
    → list_all is_level (fresh_page base past place word).levels ≡ true
fresh_page_in base past place word h =
    all_fresh base.law
    (number_of_page base.shape.dies base.shape.superblocks base.shape.pages base.channel place.die place.sb place.page)
    (erases_of base past place.sb) word h

-- an aged level
aged_in_range : (erased : ℤ) (amount : ℕ) (level : ℤ) → negsuc 8191 ≤ℤ erased → is_level level ≡ true
    → is_level (aged_level erased amount level) ≡ true
aged_in_range erased amount level low e =
    let both = and_parts (int_le (negsuc 16383) level) (int_le level (pos 16383)) e in
    by_test (int_lt erased level) refl (grind (arith, ints, both.1))
  where
    by_test : (b : Bool) → int_lt erased level ≡ b → level ≤ℤ pos 16383
        → is_level (if b then int_max erased (level -ℤ pos amount) else level) ≡ true
    by_test true above most =
        let less : erased <ℤ level = grind (arith, ints, above) in
        is_level_if (int_max erased (level -ℤ pos amount)) (omega (arith, ints, clamps, low)) (omega (arith, ints, clamps, less, most))
    by_test false above most = e

all_aged : (erased : ℤ) (amount : ℕ) (levels : List ℤ) → negsuc 8191 ≤ℤ erased → list_all is_level levels ≡ true
    → list_all is_level (map (aged_level erased amount) levels) ≡ true
all_aged erased amount [] low e = refl
all_aged erased amount (level ∷ levels) low e =
    let both = and_parts (is_level level) (list_all is_level levels) e in
    both_true (is_level (aged_level erased amount level)) (list_all is_level (map (aged_level erased amount) levels))
    (aged_in_range erased amount level low both.0) (all_aged erased amount levels low both.1)

-- what stands in a page has levels in range
abbrev pub LevelsIn : Option (List ℤ) → Type 0
LevelsIn None = ⊤
LevelsIn (Some levels) = list_all is_level levels ≡ true

abbrev PageInRange : Option StoredPage → Type 0
PageInRange None = ⊤
PageInRange (Some page) = list_all is_level page.levels ≡ true

in_image : (levels : Option (List ℤ)) → LevelsIn levels → PageInRange (option_map stored_in_image levels)
in_image None h = h
in_image (Some levels) h = h

aged_page_in : (start : Start) (amount : ℕ) (page : Option StoredPage) → IsCellLaw start.base.law → PageInRange page
    → PageInRange (option_map (aged_page start.base amount) page)
aged_page_in start amount None h e = e
aged_page_in start amount (Some page) h e = all_aged start.base.law.erased amount page.levels h.erased_low e

page_in_range : (coding : Coding) (start : Start) (contents : List (Tag × List ℕ)) (past : List Entry) (place : Place)
    → IsCellLaw start.base.law → LevelsIn (image_page start place) → PageInRange (page_of coding start contents past place)
page_in_range coding start contents [] place law image = in_image (image_page start place) image
page_in_range coding start contents (entry ∷ past) place law image =
    by_change (page_change start.base.shape.dies entry.kind place) (page_in_range coding start contents past place law image)
  where
    by_change : (change : PageChange) → PageInRange (page_of coding start contents past place)
        → PageInRange (elim change [
          | programs ↦ Some (fresh_page start.base past place
              (word_programmed coding start contents (senses_of coding start contents past) past entry.tag entry.kind))
          | programs_parity slot ↦ Some (fresh_page start.base past place
              (bytes_sum (word_programmed coding start contents (senses_of coding start contents past) past entry.tag entry.kind)
              (sum_of coding start contents past slot.sb (stripe_of_index start.base.shape.dies slot.index))))
          | empties ↦ None
          | ages amount ↦ option_map (aged_page start.base amount) (page_of coding start contents past place)
          | leaves ↦ page_of coding start contents past place
        ])
    by_change programs rest =
        fresh_page_in start.base past place
        (word_programmed coding start contents (senses_of coding start contents past) past entry.tag entry.kind) law
    by_change (programs_parity slot) rest =
        fresh_page_in start.base past place
        (bytes_sum (word_programmed coding start contents (senses_of coding start contents past) past entry.tag entry.kind)
        (sum_of coding start contents past slot.sb (stripe_of_index start.base.shape.dies slot.index))) law
    by_change empties rest = tt
    by_change (ages amount) rest = aged_page_in start amount (page_of coding start contents past place) law rest
    by_change leaves rest = rest

out_of_page : (page : Option StoredPage) → PageInRange page → LevelsIn (option_map (λ (stored : StoredPage). stored.levels) page)
out_of_page None h = h
out_of_page (Some page) h = h

pub levels_in_range : (coding : Coding) (start : Start) (contents : List (Tag × List ℕ)) (past : List Entry) (place : Place)
    → IsCellLaw start.base.law → LevelsIn (image_page start place)
    → LevelsIn (option_map (λ (stored : StoredPage). stored.levels) (page_of coding start contents past place))
levels_in_range coding start contents past place law image =
    out_of_page (page_of coding start contents past place) (page_in_range coding start contents past place law image)

-- the pages of a list, one by one
pub in_list : (pages : List (List ℤ)) (k : ℕ) → All (λ (page : List ℤ). list_all is_level page ≡ true) pages
    → LevelsIn (slice_get pages k)
in_list [] zero each = tt
in_list [] (suc k) each = tt
in_list (page ∷ pages) zero each = each 0 [] (omega arith)
in_list (page ∷ pages) (suc k) each = in_list pages k (λ i d below. each (suc i) d (omega (arith, below)))

pub from_list : (pages : List (List ℤ)) (k : ℕ) (d : List ℤ) → k < length pages → LevelsIn (slice_get pages k)
    → list_all is_level (get_or pages k d) ≡ true
from_list [] k d below h = absurd (omega (arith, below))
from_list (page ∷ pages) zero d below h = h
from_list (page ∷ pages) (suc k) d below h = from_list pages k d (omega (arith, below)) h
