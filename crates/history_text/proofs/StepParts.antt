-- The words of a step, taken from the first on.
use Rattle.std.proofs.Common.{◌≡◌, refl, ℕ, Bool, List, [], ◌∷◌, Option, Some, None}
use Rattle.std.specs.Prelude.{codes, ℤ}
use Rattle.ssd_formats.specs.KindOfWords.{◌>>=◌, number_8, number_16, number_32, read_level, read_slot}
use Rattle.ssd_formats.specs.KindOfWords.{read_place, read_block, one_of, read_row, read_found, read_look}
use Rattle.ssd_formats.specs.KindOfWords.{read_sense, read_numbered, read_slotted, read_changed, read_worn}
use Rattle.ssd_formats.specs.KindOfWords.{read_bad_slot, read_bad_erase, read_age, read_victim, read_note, read_bad}
use Rattle.ssd_formats.specs.KindOfWords.{read_fault, kind_of_words}
use Rattle.ssd_formats.specs.Numbers.{Text}
use Rattle.ssd_geo.specs.declared.kind.Kind.{Kind}
use Rattle.ssd_geo.specs.declared.kind.Kind.TheVariants.{Look, Changed, BadErase, Note}
use Rattle.ssd_geo.specs.declared.place.Place.{Place}
use Rattle.ssd_geo.specs.declared.slot.Slot.{Slot}
use Rattle.history_text.specs.Pieces.{next_piece, five_pieces}
use Rattle.history_text.specs.StepWords.{number_in, superblock_in, slotted_in, sensed_in, worn_in}
use Rattle.history_text.specs.StepWords.{bad_slot_in, bad_erase_in, aged_in}

-- values that are read one after the other, in a tuple or in what is made of them
abbrev two : {A B : Type 0} → A → B → Option (A × B)
two x y = Some (x, y)

abbrev three : {A B C : Type 0} → A → B → C → Option (A × B × C)
three x y z = Some (x, y, z)

abbrev four : {A B C D : Type 0} → A → B → C → D → Option (A × B × C × D)
four x y z w = Some (x, y, z, w)

two_read : {A B C : Type 0} (a : Option A) (b : Option B) (f : A → B → C) →
    (a >>= (λ x. b >>= (λ y. Some (f x y)))) ≡ ((a >>= (λ x. b >>= two x)) >>= (λ p. Some (f p.0 p.1)))
two_read None b f = refl
two_read (Some x) None f = refl
two_read (Some x) (Some y) f = refl

three_read : {A B C D : Type 0} (a : Option A) (b : Option B) (c : Option C) (f : A → B → C → D) →
    (a >>= (λ x. b >>= (λ y. c >>= (λ z. Some (f x y z)))))
    ≡ ((a >>= (λ x. b >>= (λ y. c >>= three x y))) >>= (λ p. Some (f p.0 p.1 p.2)))
three_read None b c f = refl
three_read (Some x) None c f = refl
three_read (Some x) (Some y) None f = refl
three_read (Some x) (Some y) (Some z) f = refl

four_read : {A B C D E : Type 0} (a : Option A) (b : Option B) (c : Option C) (d : Option D)
    (f : A → B → C → D → E) →
    (a >>= (λ x. b >>= (λ y. c >>= (λ z. d >>= (λ w. Some (f x y z w))))))
    ≡ ((a >>= (λ x. b >>= (λ y. c >>= (λ z. d >>= four x y z)))) >>= (λ p. Some (f p.0 p.1 p.2 p.3)))
four_read None b c d f = refl
four_read (Some x) None c d f = refl
four_read (Some x) (Some y) None d f = refl
four_read (Some x) (Some y) (Some z) None f = refl
four_read (Some x) (Some y) (Some z) (Some w) f = refl

pub number_is : (kind : ℕ → Kind) (words : List Text) →
    read_numbered kind number_32 words ≡ number_in words >>= (λ n. Some (kind n))
number_is kind [] = refl
number_is kind (n ∷ []) = refl
number_is kind (n ∷ more ∷ words) = refl

pub superblock_is : (kind : ℕ → Kind) (words : List Text) →
    read_numbered kind number_16 words ≡ superblock_in words >>= (λ n. Some (kind n))
superblock_is kind [] = refl
superblock_is kind (n ∷ []) = refl
superblock_is kind (n ∷ more ∷ words) = refl

pub slotted_is : (kind : ℕ → Slot → Kind) (words : List Text) →
    read_slotted kind words ≡ slotted_in words >>= (λ of. Some (kind of.0 of.1))
slotted_is kind [] = refl
slotted_is kind (n ∷ []) = refl
slotted_is kind (n ∷ s ∷ []) = two_read (number_32 n) (read_slot s) kind
slotted_is kind (n ∷ s ∷ more ∷ words) = refl

pub sensed_is : (kind : ℕ → Place → ℤ → Kind) (words : List Text) →
    read_sense kind words ≡ sensed_in words >>= (λ of. Some (kind of.0 of.1 of.2))
sensed_is kind [] = refl
sensed_is kind (a ∷ []) = refl
sensed_is kind (a ∷ p ∷ []) = refl
sensed_is kind (a ∷ p ∷ l ∷ []) = three_read (number_32 a) (read_place p) (read_level l) kind
sensed_is kind (a ∷ p ∷ l ∷ more ∷ words) = refl

pub worn_is : (kind : ℕ → Bool → Kind) (other : Text) (words : List Text) →
    read_worn kind other words ≡ worn_in other words >>= (λ of. Some (kind of.0 of.1))
worn_is kind other [] = refl
worn_is kind other (n ∷ []) = refl
worn_is kind other (n ∷ w ∷ []) = two_read (number_32 n) (one_of (codes "readonly") other w) kind
worn_is kind other (n ∷ w ∷ more ∷ words) = refl

pub bad_slot_is : (kind : ℕ → Slot → ℕ → Bool → Kind) (words : List Text) →
    read_bad_slot kind words ≡ bad_slot_in words >>= (λ of. Some (kind of.0 of.1 of.2 of.3))
bad_slot_is kind [] = refl
bad_slot_is kind (n ∷ []) = refl
bad_slot_is kind (n ∷ s ∷ []) = refl
bad_slot_is kind (n ∷ s ∷ d ∷ []) = refl
bad_slot_is kind (n ∷ s ∷ d ∷ f ∷ []) =
    four_read (number_32 n) (read_slot s) (number_8 d) (one_of (codes "fault") (codes "fail") f) kind
bad_slot_is kind (n ∷ s ∷ d ∷ f ∷ more ∷ words) = refl

pub bad_erase_is : (words : List Text) →
    read_bad_erase words ≡ bad_erase_in words >>= (λ of. Some (BadErase of.0 of.1 of.2))
bad_erase_is [] = refl
bad_erase_is (b ∷ []) = refl
bad_erase_is (b ∷ d ∷ []) = refl
bad_erase_is (b ∷ d ∷ f ∷ []) =
    three_read (number_16 b) (number_8 d) (one_of (codes "fault") (codes "fail") f) BadErase
bad_erase_is (b ∷ d ∷ f ∷ more ∷ words) = refl

aged_with : (b : Option (ℕ × ℕ)) (n : Option ℕ) (kind : ℕ → ℕ → ℕ → Kind) →
    (b >>= (λ of. n >>= (λ m. Some (kind of.0 of.1 m))))
    ≡ ((b >>= (λ of. n >>= three of.0 of.1)) >>= (λ of. Some (kind of.0 of.1 of.2)))
aged_with None n kind = refl
aged_with (Some of) None kind = refl
aged_with (Some of) (Some m) kind = refl

pub aged_is : (kind : ℕ → ℕ → ℕ → Kind) (words : List Text) →
    read_age kind words ≡ aged_in words >>= (λ of. Some (kind of.0 of.1 of.2))
aged_is kind [] = refl
aged_is kind (b ∷ []) = refl
aged_is kind (b ∷ n ∷ []) = aged_with (read_block b) (number_16 n) kind
aged_is kind (b ∷ n ∷ more ∷ words) = refl

-- the steps of a copy, and those of a read, a write or a trim
pub ruleset copy_steps = (slotted_is, number_is, worn_is)

pub ruleset host_steps = (sensed_is, number_is, slotted_is)

abbrev look_with : Text × List Text → Option Kind
look_with of = do
  r ← number_32 of.0
  f ← read_found of.1
  Some (Look r f.0 f.1)

pub look_is : (words : List Text) → read_look words ≡ next_piece words >>= look_with
look_is [] = refl
look_is (row ∷ found) = refl

abbrev changed_with : Text × List Text → Option Kind
changed_with of = do
  a ← number_32 of.0
  f ← read_row of.1
  Some (Changed a f)

pub changed_is : (words : List Text) → read_changed words ≡ next_piece words >>= changed_with
changed_is [] = refl
changed_is (at ∷ found) = refl

abbrev note_with : Text × Text × Text × Text × Text → Option Kind
note_with of = do
  f ← number_16 of.0
  v ← read_victim of.1
  l ← number_32 of.2
  p ← number_32 of.3
  g ← number_16 of.4
  Some (Note f v l p g)

pub note_is : (words : List Text) → read_note words ≡ five_pieces words >>= note_with
note_is [] = refl
note_is (f ∷ []) = refl
note_is (f ∷ v ∷ []) = refl
note_is (f ∷ v ∷ l ∷ []) = refl
note_is (f ∷ v ∷ l ∷ p ∷ []) = refl
note_is (f ∷ v ∷ l ∷ p ∷ g ∷ []) = refl
note_is (f ∷ v ∷ l ∷ p ∷ g ∷ more ∷ words) = refl

-- steps whose name is the first of the words
pub bad_is : (words : List Text) → read_bad words ≡ next_piece words >>= (λ of. read_bad (of.0 ∷ of.1))
bad_is [] = refl
bad_is (name ∷ words) = refl

pub fault_is : (words : List Text) →
    read_fault words ≡ next_piece words >>= (λ of. read_fault (of.0 ∷ of.1))
fault_is [] = refl
fault_is (name ∷ words) = refl

pub kind_is : (words : List Text) →
    kind_of_words words ≡ next_piece words >>= (λ of. kind_of_words (of.0 ∷ of.1))
kind_is [] = refl
kind_is (name ∷ words) = refl
