-- What is kept of the numbers of a range, with one more number.
use Rattle.std.proofs.Common.{◌≡◌, ℕ, zero, suc, ◌+◌, ◌<◌, length, get_or, List, [], ◌∷◌, ◌++◌, Option, Some, None, refl, ap, sym, ◌∙◌, arith}
use Rattle.std.specs.Prelude.{filter_map, option_to_list, map}
use Rattle.std.proofs.lemmas.List.{map_push, length-map, get_or-map}
use Rattle.std.proofs.lemmas.List.FromFn.{map-range_with_len_more, length-map-range_with_len, get_or-map-range_with_len}
use Rattle.std.specs.List.{range_with_len, cons_option}

pub filter_map-more : {X : Type 0} (h : ℕ → Option X) (a n j : ℕ) → a + n ≡ j → filter_map h (range_with_len a (n + 1)) ≡ filter_map h (range_with_len a n) ++ cons_option (h j) []
filter_map-more h a zero j e =
    let here : a ≡ j = omega arith in
    rw here refl
filter_map-more {X} h a (suc n) j e =
    let more : suc n + 1 ≡ suc (n + 1) = omega arith in
    let rest : filter_map h (range_with_len (a + 1) (n + 1)) ≡ filter_map h (range_with_len (a + 1) n) ++ cons_option (h j) [] = filter_map-more h (a + 1) n j (omega arith) in
    rw more
    (ap (λ (xs : List X). cons_option (h a) xs) rest
    ∙ elim (h a) as (λ o. cons_option o (filter_map h (range_with_len (a + 1) n) ++ cons_option (h j) []) ≡ cons_option o (filter_map h (range_with_len (a + 1) n)) ++ cons_option (h j) [])
    [ None ↦ refl | Some x ↦ refl ])

-- one more number, whose item is kept if there is one
pub filter_map-pushed : {X : Type 0} (h : ℕ → Option X) (n : ℕ) (before after : List X) → before ≡ filter_map h (range_with_len 0 n)
    → after ≡ before ++ option_to_list (h n) → after ≡ filter_map h (range_with_len 0 (n + 1))
filter_map-pushed {X} h n before after so_far pushed =
    pushed ∙ ap (λ (xs : List X). xs ++ option_to_list (h n)) so_far
    ∙ elim (h n) as (λ o. filter_map h (range_with_len 0 n) ++ option_to_list o ≡ filter_map h (range_with_len 0 n) ++ cons_option o []) [ None ↦ refl | Some x ↦ refl ]
    ∙ sym (filter_map-more h 0 n n (omega arith))

-- one more item, which is the one of the next number
pub map-pushed : {X Y : Type 0} (f : ℕ → Y) (g : X → Y) (n : ℕ) (before after : List X) (x : X) → map g before ≡ map f (range_with_len 0 n)
    → after ≡ before ++ x ∷ [] → g x ≡ f n → map g after ≡ map f (range_with_len 0 (n + 1))
map-pushed {X} {Y} f g n before after x so_far pushed item =
    ap (map g) pushed ∙ map_push g before x
    ∙ ap (λ (ys : List Y). ys ++ g x ∷ []) so_far
    ∙ ap (λ (y : Y). map f (range_with_len 0 n) ++ y ∷ []) item
    ∙ sym (map-range_with_len_more f 0 n n (omega arith))

-- items that are those of a range: how many they are, and the one at a place
pub map-length : {X Y : Type 0} (f : ℕ → Y) (g : X → Y) (n : ℕ) (xs : List X) → map g xs ≡ map f (range_with_len 0 n) → length xs ≡ n
map-length f g n xs same = sym (length-map xs g) ∙ ap length same ∙ length-map-range_with_len f 0 n

pub map-item : {X Y : Type 0} (f : ℕ → Y) (g : X → Y) (n i : ℕ) (xs : List X) (x : X) → map g xs ≡ map f (range_with_len 0 n) → i < n → x ≡ get_or xs i x → g x ≡ f i
map-item {X} {Y} f g n i xs x same within read =
    let inside : i < length xs = omega (arith, map-length f g n xs same) in
    ap g read ∙ sym (get_or-map g xs i x (g x) inside) ∙ ap (λ (ys : List Y). get_or ys i (g x)) same
    ∙ get_or-map-range_with_len f 0 n i i (g x) within (omega arith)
