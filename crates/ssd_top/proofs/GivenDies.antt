-- The dies that channels give back: those of each channel stand behind those of the channels before it, and the dies that no
-- channel had behind all of them.
use Rattle.std.proofs.Common.{ℕ, zero, suc, ◌≡◌, ◌+◌, ◌*◌, ◌<◌, ◌≤◌, ◌⊎◌, inl, inr, List, [], ◌∷◌, ◌++◌, drop, length, map, take, Some, refl, sym, ap, subst, ◌∙◌, append_assoc, arith, length-append, length-drop, suc-mul, zero-mul}
use Rattle.std.proofs.Math.Seq.{drop-append-add, take-append_seam}
use Rattle.std.proofs.lemmas.List.{get_or-drop, get_or-take}
use Rattle.std.proofs.lemmas.List.Elements.{All-head, All-tail}
use Rattle.std.proofs.lemmas.Option.{get_or_from_slice_get, slice_get-map, slice_get_within}
use Rattle.std.specs.Prelude.{All, flat_map, option_map, slice_get}
use Rattle.ssd_histories.specs.Standing.{count_at}
use Rattle.drive_contents.proofs.Pieces.{is_behind}

-- what stands in one list behind another stands in the first or, so much further on, in the second
record IsBehind {A : Type 0} (xs ys : List A) (number : ℕ) (item : A) : Type 0 where
  place : ℕ
  number_is : number ≡ length xs + place
  has_item : slice_get ys place ≡ Some item

front_or_behind : {A : Type 0} (xs ys : List A) (number : ℕ) (item : A) → slice_get (xs ++ ys) number ≡ Some item
    → (slice_get xs number ≡ Some item) ⊎ IsBehind xs ys number item
front_or_behind [] ys number item is = inr (record { place = number; number_is = omega arith; has_item = is })
front_or_behind (x ∷ xs) ys zero item is = inl is
front_or_behind (x ∷ xs) ys (suc number) item is =
    elim (front_or_behind xs ys number item is) [
      | inl front ↦ inl front
      | inr behind ↦ inr (record {
        place = behind.place;
        number_is = omega (arith, behind.number_is);
        has_item = behind.has_item;
      })
    ]

-- counts of which a part is taken: the one with this number in the part
pub count_in_part : {A : Type 0} (of : A → ℕ) (all : List A) (from count place : ℕ) (item : A) → place < count
    → slice_get all (from + place) ≡ Some item → count_at (take count (drop from (map of all))) place ≡ of item
count_in_part of all from count place item low is =
    get_or-take count (drop from (map of all)) place 0 low ∙ get_or-drop from (map of all) place 0
    ∙ get_or_from_slice_get (map of all) (from + place) (of item) 0
    (slice_get-map of all (from + place) ∙ ap (option_map of) is)

-- pieces of so many items each, one behind the other
module _ {X A : Type 0} (piece_of : X → List A) (count : ℕ) where
  abbrev AreWhole : List X → Type 0
  AreWhole xs = All (λ x. length (piece_of x) ≡ count) xs

  pub length_of_pieces : (xs : List X) → AreWhole xs → length (flat_map piece_of xs) ≡ length xs * count
  length_of_pieces [] whole = sym (zero-mul count)
  length_of_pieces (x ∷ xs) whole =
      let first : length (piece_of x) ≡ count = All-head (λ y. length (piece_of y) ≡ count) x xs whole in
      let rest = length_of_pieces xs (All-tail (λ y. length (piece_of y) ≡ count) x xs whole) in
      let both = length-append (piece_of x) (flat_map piece_of xs) in
      let more = suc-mul (length xs) count in
      omega (arith, first, rest, both, more)

  -- the piece with this number, where others follow
  pub piece_at : (xs : List X) (others : List A) (number : ℕ) (x : X) → AreWhole xs → slice_get xs number ≡ Some x
      → take count (drop (number * count) (flat_map piece_of xs ++ others)) ≡ piece_of x
  piece_at [] others number x whole is = absurd (cc)
  piece_at (y ∷ xs) others zero x whole is =
      let same : y ≡ x = cc in
      let rest : List A = flat_map piece_of xs ++ others in
      let long : length (piece_of y) ≡ count = All-head (λ z. length (piece_of z) ≡ count) y xs whole in
      ap (λ (n : ℕ). take count (drop n ((piece_of y ++ flat_map piece_of xs) ++ others))) (zero-mul count)
      ∙ ap (λ (list : List A). take count list) (append_assoc (piece_of y) (flat_map piece_of xs) others)
      ∙ ap (λ (n : ℕ). take n (piece_of y ++ rest)) (sym long)
      ∙ take-append_seam (piece_of y) rest ∙ ap piece_of same
  piece_at (y ∷ xs) others (suc number) x whole is =
      let rest : List A = flat_map piece_of xs ++ others in
      let long : length (piece_of y) ≡ count = All-head (λ z. length (piece_of z) ≡ count) y xs whole in
      let further : suc number * count ≡ length (piece_of y) + number * count = omega (arith, suc-mul number count, long) in
      ap (λ (n : ℕ). take count (drop n ((piece_of y ++ flat_map piece_of xs) ++ others))) further
      ∙ ap (λ (list : List A). take count (drop (length (piece_of y) + number * count) list))
      (append_assoc (piece_of y) (flat_map piece_of xs) others)
      ∙ ap (λ (list : List A). take count list) (drop-append-add (piece_of y) rest (number * count))
      ∙ piece_at xs others number x (All-tail (λ z. length (piece_of z) ≡ count) y xs whole) is

  -- what stands in pieces stands in one of them
  pub record IsInPiece (xs : List X) (number : ℕ) (item : A) : Type 0 where
    pub piece : ℕ
    pub place : ℕ
    pub number_is : number ≡ piece * count + place
    pub low : place < count
    pub x : X
    pub has_piece : slice_get xs piece ≡ Some x
    pub has_item : slice_get (piece_of x) place ≡ Some item

  in_piece : (xs : List X) (number : ℕ) (item : A) → AreWhole xs → slice_get (flat_map piece_of xs) number ≡ Some item
      → IsInPiece xs number item
  in_piece [] number item whole is = absurd (cc)
  in_piece (y ∷ xs) number item whole is =
      let long : length (piece_of y) ≡ count = All-head (λ z. length (piece_of z) ≡ count) y xs whole in
      elim (front_or_behind (piece_of y) (flat_map piece_of xs) number item is) [
        | inl front ↦ record {
          piece = zero;
          place = number;
          number_is = omega (arith, zero-mul count);
          low = omega (arith, long, slice_get_within (piece_of y) number item front);
          x = y;
          has_piece = refl;
          has_item = front;
        }
        | inr behind ↦
            let later =
            in_piece xs behind.place item (All-tail (λ z. length (piece_of z) ≡ count) y xs whole) behind.has_item in
            record {
              piece = suc later.piece;
              place = later.place;
              number_is = omega (arith, long, behind.number_is, later.number_is, suc-mul later.piece count);
              low = later.low;
              x = later.x;
              has_piece = later.has_piece;
              has_item = later.has_item;
            }
      ]

  -- pieces that took the place of the first items of a list
  module _ (olds : List A) (xs : List X) (whole : AreWhole xs) where
    abbrev news : List A
    news = flat_map piece_of xs ++ drop (length xs * count) olds

    pub others_stay : drop (length xs * count) news ≡ drop (length xs * count) olds
    others_stay =
        let front = length_of_pieces xs whole in
        let all : length (flat_map piece_of xs) + 0 ≡ length xs * count = omega (arith, front) in
        subst (λ (n : ℕ). drop n news ≡ drop (length xs * count) olds) all
        (drop-append-add (flat_map piece_of xs) (drop (length xs * count) olds) 0)

    module _ (enough : length xs * count ≤ length olds) where
      pub as_long : length news ≡ length olds
      as_long =
          let both = length-append (flat_map piece_of xs) (drop (length xs * count) olds) in
          let front = length_of_pieces xs whole in
          let rest = length-drop (length xs * count) olds in
          omega (arith, both, front, rest)

      -- what stands there now stands in a piece, or stood there before
      pub in_piece_or_old : (number : ℕ) (old new : A) → slice_get olds number ≡ Some old → slice_get news number ≡ Some new
          → IsInPiece xs number new ⊎ (new ≡ old)
      in_piece_or_old number old new was is =
          elim (front_or_behind (flat_map piece_of xs) (drop (length xs * count) olds) number new is) [
            | inl front ↦ inl (in_piece xs number new whole front)
            | inr behind ↦
                let there : slice_get olds (length xs * count + behind.place) ≡ Some new =
                sym (is_behind (length xs * count) olds behind.place) ∙ behind.has_item in
                let same : number ≡ length xs * count + behind.place =
                behind.number_is ∙ ap (λ (n : ℕ). n + behind.place) (length_of_pieces xs whole) in
                let here : slice_get olds (length xs * count + behind.place) ≡ Some old =
                subst (λ (n : ℕ). slice_get olds n ≡ Some old) same was in
                let both : new ≡ old = cc in
                inr both
          ]
