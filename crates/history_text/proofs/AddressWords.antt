-- Slots, places, blocks and calls, taken number by number.
use Rattle.std.proofs.Common.{◌≡◌, refl, ℕ, List, [], ◌∷◌, Option, Some}
use Rattle.ssd_formats.specs.KindOfWords.{◌>>=◌, number_8, number_16, number_32, read_block}
use Rattle.ssd_formats.specs.KindOfWords.{block_in_parts, read_place, place_in_parts, read_slot}
use Rattle.ssd_formats.specs.KindOfWords.{slot_in_parts, read_tag, tag_in_parts}
use Rattle.ssd_formats.specs.Numbers.{Text}
use Rattle.ssd_geo.specs.declared.place.Place.{Place}
use Rattle.ssd_geo.specs.declared.slot.Slot.{Slot}
use Rattle.ssd_geo.specs.declared.tag.Tag.{Tag}
use Rattle.history_text.specs.Pieces.{pieces_of, three_pieces, two_pieces}

abbrev slot_with : Text × Text → Option Slot
slot_with of = do
  b ← number_16 of.0
  n ← number_32 of.1
  Some (record { sb = b; index = n })

slot_of_two : (parts : List Text) → slot_in_parts parts ≡ two_pieces parts >>= slot_with
slot_of_two [] = refl
slot_of_two (sb ∷ []) = refl
slot_of_two (sb ∷ index ∷ []) = refl
slot_of_two (sb ∷ index ∷ more ∷ parts) = refl

pub slot_is : (word : Text) → read_slot word ≡ two_pieces (pieces_of 46 word) >>= slot_with
slot_is word = slot_of_two (pieces_of 46 word)

abbrev place_with : Text × Text × Text → Option Place
place_with of = do
  d ← number_8 of.0
  b ← number_16 of.1
  p ← number_16 of.2
  Some (record { die = d; sb = b; page = p })

place_of_three : (parts : List Text) → place_in_parts parts ≡ three_pieces parts >>= place_with
place_of_three [] = refl
place_of_three (die ∷ []) = refl
place_of_three (die ∷ sb ∷ []) = refl
place_of_three (die ∷ sb ∷ page ∷ []) = refl
place_of_three (die ∷ sb ∷ page ∷ more ∷ parts) = refl

pub place_is : (word : Text) → read_place word ≡ three_pieces (pieces_of 46 word) >>= place_with
place_is word = place_of_three (pieces_of 46 word)

abbrev block_with : Text × Text → Option (ℕ × ℕ)
block_with of = do
  d ← number_8 of.0
  b ← number_16 of.1
  Some (d, b)

block_of_two : (parts : List Text) → block_in_parts parts ≡ two_pieces parts >>= block_with
block_of_two [] = refl
block_of_two (die ∷ []) = refl
block_of_two (die ∷ sb ∷ []) = refl
block_of_two (die ∷ sb ∷ more ∷ parts) = refl

pub block_is : (word : Text) → read_block word ≡ two_pieces (pieces_of 46 word) >>= block_with
block_is word = block_of_two (pieces_of 46 word)

abbrev tag_with : Text × Text → Option Tag
tag_with of = do
  a ← number_8 of.0
  c ← number_32 of.1
  Some (record { actor = a; call = c })

tag_of_two : (parts : List Text) → tag_in_parts parts ≡ two_pieces parts >>= tag_with
tag_of_two [] = refl
tag_of_two (actor ∷ []) = refl
tag_of_two (actor ∷ call ∷ []) = refl
tag_of_two (actor ∷ call ∷ more ∷ parts) = refl

pub tag_is : (word : Text) → read_tag word ≡ two_pieces (pieces_of 46 word) >>= tag_with
tag_is word = tag_of_two (pieces_of 46 word)
