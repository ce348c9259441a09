-- What a window holds after its bytes were moved, taken or read.
use Rattle.std.proofs.Common.{◌≡◌, refl, sym, ap, ◌∙◌, subst, ℕ, ◌+◌, ◌-◌, ◌<◌, ◌≤◌, List, [], ◌∷◌, ◌++◌, length, take, drop, Option, Some, None, append_assoc, append-nil, length-append, length-take-le, length-drop, arith, rules}
use Rattle.std.specs.Io.KnownBytes.{Consumes, IsAtEnd}
use Rattle.std.specs.List.{copy_within}
use Rattle.std.proofs.Math.Seq.{take-append-add, take-append_seam}
use Rattle.std.proofs.lemmas.List.{drop-append-le, drop-drop, drop-take, take-append-le}
use Rattle.std.proofs.lemmas.List.Edits.{take-paste}
use borrow.Rule.Slice.PartMut.{put_mid, post_of}
use Rattle.trace_text.specs.BytesAhead.{IsOver, KeepsAhead, bytes_ahead, Fetches}

-- the bytes between two places, taken from either end
between : (bytes : List ℕ) (from to : ℕ) → from ≤ to → take (to - from) (drop from bytes) ≡ drop from (take to bytes)
between bytes from to order =
    let whole : to ≡ from + (to - from) = omega arith in
    sym (drop-take from (to - from) bytes) ∙ ap (λ n. drop from (take n bytes)) (sym whole)

pub held_length : (bytes : List ℕ) (from to : ℕ) → from ≤ to → to ≤ length bytes → length (take (to - from) (drop from bytes)) ≡ to - from
held_length bytes from to order within = length-take-le (to - from) (drop from bytes) (omega (arith, length-drop from bytes))

-- so many bytes of a piece that stands behind them
pub held_more : (bytes piece : List ℕ) (from to k n : ℕ) → from ≤ to → to ≤ length bytes → n ≤ length piece → take (to + n - from) (drop from (put_mid to k bytes piece)) ≡ take (to - from) (drop from bytes) ++ take n piece
held_more bytes piece from to k n order within few =
    let behind = piece ++ post_of to k bytes in
    let front = take (to - from) (drop from bytes) in
    let size : length front ≡ to - from = held_length bytes from to order within in
    let cut : drop from (take to bytes ++ behind) ≡ front ++ behind =
    drop-append-le from (take to bytes) behind (omega (arith, length-take-le to bytes within)) ∙ ap (λ l. l ++ behind) (sym (between bytes from to order)) in
    let count : to + n - from ≡ length front + n = omega (arith, size) in
    ap (λ l. take (to + n - from) l) cut ∙ (ap (λ m. take m (front ++ behind)) count ∙ (take-append-add front behind n ∙ ap (λ l. front ++ l) (take-append-le n piece (post_of to k bytes) few)))

-- the same bytes at the front of the buffer
pub moved_to_front : (bytes : List ℕ) (from to : ℕ) → from ≤ to → to ≤ length bytes → take (0 + (to - from)) (copy_within bytes from to 0) ≡ take (to - from) (drop from bytes)
moved_to_front bytes from to order within =
    let size : to - from ≤ length (drop from bytes) = omega (arith, length-drop from bytes) in
    take-paste bytes 0 (drop from bytes) (to - from) (omega arith) size

over : (left : Option (List ℕ)) → IsAtEnd left → IsOver left
over None e = refl
over (Some xs) e = e

kept : (before after piece : List ℕ) (left_before left_after : Option (List ℕ)) → after ≡ before ++ piece → Consumes left_before left_after piece → KeepsAhead before after left_before left_after
kept before after piece None left_after is read told = absurd told
kept before after piece (Some xs) None is read told = absurd read
kept before after piece (Some xs) (Some ys) is read told = (tt, ap (λ l. l ++ ys) is ∙ (append_assoc before piece ys ∙ ap (λ l. before ++ l) (sym read)))

-- what was read stands behind what was held
pub fetched : (count : ℕ) (before after piece : List ℕ) (left_before left_after : Option (List ℕ)) → after ≡ before ++ piece → length piece ≡ count → Consumes left_before left_after piece → (count ≡ 0 → IsAtEnd left_after) → Fetches count before after left_before left_after
fetched count before after piece left_before left_after is size read end = record {
  ahead = kept before after piece left_before left_after is read;
  front = ap (take (length before)) is ∙ take-append_seam before piece;
  grown = ap length is ∙ (length-append before piece ∙ ap (λ n. length before + n) size);
  end = λ none. over left_after (end none);
}

-- so many bytes less at the front
pub skipped : (bytes : List ℕ) (from to count : ℕ) → from + count ≤ to → take (to - (from + count)) (drop (from + count) bytes) ≡ drop count (take (to - from) (drop from bytes))
skipped bytes from to count few =
    let rest : to - from ≡ count + (to - (from + count)) = omega arith in
    sym (ap (λ n. drop count (take n (drop from bytes))) rest ∙ (drop-take count (to - (from + count)) (drop from bytes) ∙ ap (take (to - (from + count))) (drop-drop count from bytes)))

-- one read after the other
pub kept_on : (a b c : List ℕ) (x y z : Option (List ℕ)) → KeepsAhead a b x y → KeepsAhead b c y z → KeepsAhead a c x z
kept_on a b c x y z first second told = let one = first told in let two = second one.0 in (two.0, two.1 ∙ one.1)

-- a buffer that was written behind a place keeps its length
pub refilled : (len to : ℕ) (buffer piece items : List ℕ) → to ≤ length buffer → length piece ≡ length buffer - to → length buffer ≡ len
    → take len (put_mid to (length buffer - to) buffer piece ++ drop (length (put_mid to (length buffer - to) buffer piece)) items) ≡ put_mid to (length buffer - to) buffer piece
refilled len to buffer piece items inside size whole =
    let written = put_mid to (length buffer - to) buffer piece in
    let post = post_of to (length buffer - to) buffer in
    let front : length (take to buffer) ≡ to = length-take-le to buffer inside in
    let rest : length post ≡ 0 = length-drop (length buffer - to) (drop to buffer) ∙ (ap (λ n. n - (length buffer - to)) (length-drop to buffer) ∙ omega arith) in
    let all : length written ≡ len = length-append (take to buffer) (piece ++ post) ∙ (ap (λ n. length (take to buffer) + n) (length-append piece post) ∙ omega (arith, front, rest, size, whole)) in
    ap (λ n. take n (written ++ drop (length written) items)) (sym all) ∙ take-append_seam written (drop (length written) items)
