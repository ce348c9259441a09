-- Which line is the first of some bytes that begin with those held.
use Rattle.std.proofs.Common.{◌≡◌, refl, sym, ap, ◌∙◌, subst, ℕ, zero, suc, ◌+◌, ◌-◌, ◌<◌, ◌≤◌, ◌==◌, Bool, true, false, cond, List, [], ◌∷◌, ◌++◌, length, get_or, take, drop, append_assoc, append-nil, length-append, length-take-le, length-drop, take-append-drop, take_all, drop-cons, nat_eq, arith, rules, All}
use Rattle.std.specs.List.{slice_split, onto_first}
use Rattle.std.specs.Str.Lines.{strip_carriage_return}
use Rattle.std.proofs.Math.ListN.{drop_of_length-le}
use Rattle.std.proofs.lemmas.Grind.{common_steps}
use Rattle.std.proofs.lemmas.List.Elements.{All-head, All-tail}
use Rattle.std.proofs.lemmas.List.Splits.{length-slice_split, slice_split_at, slice_split_none, slice_split-cons_no}
use Rattle.ssd_formats.specs.Lines.{Line, is_line_feed, lines_in, lines_of_parts}
use Rattle.ssd_formats.specs.TraceText.{most_line_bytes}
use Rattle.trace_text.specs.BytesAhead.{HasNoFeed}
use Rattle.trace_text.specs.ReadLines.{BeginsLong}

first_part : (x : List ℕ) (parts : List (List ℕ)) → 0 < length parts → lines_of_parts (x ∷ parts) ≡ record { text = strip_carriage_return x; taken = length x + 1 } ∷ lines_of_parts parts
first_part x [] h = absurd (omega (arith, h))
first_part x (y ∷ parts) h = refl

some_parts : (xs : List ℕ) → 0 < length (slice_split is_line_feed xs)
some_parts xs = omega (arith, length-slice_split is_line_feed xs)

-- a line up to an LF
line_before_feed : (line rest : List ℕ) → HasNoFeed line → lines_in (line ++ 10 ∷ rest) ≡ record { text = strip_carriage_return line; taken = length line + 1 } ∷ lines_in rest
line_before_feed line rest none =
    ap lines_of_parts (slice_split_at is_line_feed line 10 rest none refl) ∙ first_part line (slice_split is_line_feed rest) (some_parts rest)

cut_at_feed : (held : List ℕ) (at : ℕ) → at < length held → get_or held at 0 ≡ 10 → held ≡ take at held ++ 10 ∷ drop (at + 1) held
cut_at_feed held at inside feed =
    let next : suc at ≡ at + 1 = omega arith in
    sym (take-append-drop at held) ∙ ap (λ l. take at held ++ l) (drop-cons held at 0 inside ∙ (ap (λ c. c ∷ drop (suc at) held) feed ∙ ap (λ n. 10 ∷ drop n held) next))

take_take : (n m : ℕ) (l : List ℕ) → n ≤ m → take n (take m l) ≡ take n l
take_take zero m l h = refl
take_take (suc n) zero l h = absurd (omega (arith, h))
take_take (suc n) (suc m) [] h = refl
take_take (suc n) (suc m) (x ∷ l) h = ap (λ k. x ∷ k) (take_take n m l (omega (arith, h)))

-- the first line is taken, up to the first LF in the bytes held
pub line_is_taken : (held rest : List ℕ) (at text : ℕ) → at < length held → get_or held at 0 ≡ 10 → HasNoFeed (take at held) → text ≤ at → take text (take at held) ≡ strip_carriage_return (take at held)
    → lines_in (held ++ rest) ≡ record { text = take text held; taken = at + 1 } ∷ lines_in (drop (at + 1) held ++ rest)
line_is_taken held rest at text inside feed none short stripped =
    let whole : held ++ rest ≡ take at held ++ 10 ∷ (drop (at + 1) held ++ rest) = ap (λ l. l ++ rest) (cut_at_feed held at inside feed) ∙ append_assoc (take at held) (10 ∷ drop (at + 1) held) rest in
    let size : length (take at held) ≡ at = length-take-le at held (omega (arith, inside)) in
    let front : take text (take at held) ≡ take text held = take_take text at held short in
    let found : Line = record { text = take text held; taken = at + 1 } in
    let same : record { text = strip_carriage_return (take at held); taken = length (take at held) + 1 } ≡ found = cc (sym stripped ∙ front, size) in
    ap lines_in whole ∙ (line_before_feed (take at held) (drop (at + 1) held ++ rest) none ∙ ap (λ l. l ∷ lines_in (drop (at + 1) held ++ rest)) same)

-- the last line is taken, which has no LF
pub last_is_taken : (held rest : List ℕ) → HasNoFeed held → rest ≡ [] → 0 < length held
    → lines_in (held ++ rest) ≡ record { text = take (length held) held; taken = length held } ∷ lines_in (drop (length held) held ++ rest)
last_is_taken held rest none over some =
    let whole : held ++ rest ≡ held = ap (λ l. held ++ l) over ∙ append-nil held in
    let behind : drop (length held) held ++ rest ≡ [] = ap (λ l. l ++ rest) (drop_of_length-le held (omega arith)) ∙ over in
    let front : take (length held) held ≡ held = take_all (length held) held (omega arith) in
    let test : nat_eq (length held) 0 ≡ false = grind (arith, common_steps) in
    let one : lines_in held ≡ record { text = held; taken = length held } ∷ [] = ap lines_of_parts (slice_split_none is_line_feed held none) ∙ ap (λ b. cond b [] (record { text = held; taken = length held } ∷ [])) test in
    ap lines_in whole ∙ (one ∙ (ap (λ t. record { text = t; taken = length held } ∷ []) (sym front) ∙ ap (λ l. record { text = take (length held) held; taken = length held } ∷ lines_in l) (sym behind)))

-- no line is left
pub none_is_left : (held rest : List ℕ) → rest ≡ [] → length held ≡ 0 → lines_in (held ++ rest) ≡ []
none_is_left [] rest over none = ap lines_in over
none_is_left (x ∷ held) rest over none = absurd (omega (arith, none))

-- parts whose first is at least so long
abbrev pub HasLongPart : ℕ → List (List ℕ) → Type 0
HasLongPart n [] = ⊥
HasLongPart n (part ∷ parts) = n ≤ length part

longer_first : (n x : ℕ) (parts : List (List ℕ)) → HasLongPart n parts → HasLongPart (n + 1) (onto_first x parts)
longer_first n x [] h = absurd h
longer_first n x (part ∷ parts) h = omega (arith, h)

some_first : (parts : List (List ℕ)) → 0 < length parts → HasLongPart 0 parts
some_first [] h = absurd (omega (arith, h))
some_first (part ∷ parts) h = omega arith

long_first : (held rest : List ℕ) → HasNoFeed held → HasLongPart (length held) (slice_split is_line_feed (held ++ rest))
long_first [] rest none = some_first (slice_split is_line_feed rest) (some_parts rest)
long_first (x ∷ held) rest none =
    let first : is_line_feed x ≡ false = All-head (λ byte. is_line_feed byte ≡ false) x held none in
    let more = long_first held rest (All-tail (λ byte. is_line_feed byte ≡ false) x held none) in
    let P : ℕ → Type 0 = λ n. HasLongPart n (onto_first x (slice_split is_line_feed (held ++ rest))) in
    let next : length held + 1 ≡ suc (length held) = omega arith in
    subst (HasLongPart (suc (length held))) (sym (slice_split-cons_no is_line_feed x (held ++ rest) first)) (subst P next (longer_first (length held) x (slice_split is_line_feed (held ++ rest)) more))

stripped_by : (b : Bool) (l : List ℕ) → length l ≤ length (cond b (take (length l - 1) l) l) + 1
stripped_by true l = omega (arith, length-take-le (length l - 1) l (omega arith))
stripped_by false l = omega arith

stripped_length : (l : List ℕ) → length l ≤ length (strip_carriage_return l) + 1
stripped_length l = stripped_by (nat_eq (get_or l (length l - 1) 0) 13) l

longer : (n m : ℕ) (parts : List (List ℕ)) → n ≤ m → HasLongPart m parts → HasLongPart n parts
longer n m [] h long = long
longer n m (part ∷ parts) h long = omega (arith, h, long)

begins_long : (parts : List (List ℕ)) → HasLongPart 40002 parts → BeginsLong (lines_of_parts parts)
begins_long [] h = absurd h
begins_long (part ∷ []) h =
    let test : nat_eq (length part) 0 ≡ false = grind (arith, common_steps) in
    let P : Bool → Type 0 = λ b. BeginsLong (cond b [] (record { text = part; taken = length part } ∷ [])) in
    subst P (sym test) (omega (arith, h))
begins_long (part ∷ next ∷ parts) h = omega (arith, h, stripped_length part)

-- the first line is too long
pub line_is_long : (held rest : List ℕ) → HasNoFeed held → 40002 ≤ length held → BeginsLong (lines_in (held ++ rest))
line_is_long held rest none long = begins_long (slice_split is_line_feed (held ++ rest)) (longer 40002 (length held) _ long (long_first held rest none))
