-- What is found of the lines ahead, where bytes were read on.
use Rattle.std.proofs.Common.{◌≡◌, refl, sym, ap, ◌∙◌, subst, ℕ, ◌+◌, ◌<◌, ◌≤◌, List, [], ◌∷◌, ◌++◌, length, take, drop, Option, Some, None, arith, rules}
use Rattle.std.specs.Str.Lines.{strip_carriage_return}
use Rattle.ssd_formats.specs.Lines.{Line, lines_in}
use Rattle.ssd_io.specs.Told.{IsTold, told_bytes}
use Rattle.trace_text.specs.BytesAhead.{HasNoFeed, IsFound, IsOver, KeepsAhead, bytes_ahead, lines_ahead}
use Rattle.trace_text.specs.ReadLines.{BeginsLong}
use Rattle.trace_text.specs.declared.window.Found.TheVariants.{Feed, End, Long}
use Rattle.trace_text.proofs.LineSteps.{last_is_taken, line_is_long, line_is_taken, none_is_left}

-- the lines ahead are those of the bytes held now
same_lines : (pending start held : List ℕ) (x y : Option (List ℕ)) → start ≡ pending → bytes_ahead held y ≡ bytes_ahead start x → lines_ahead pending x ≡ lines_ahead held y
same_lines pending start held x y is kept = ap lines_in (ap (λ l. l ++ told_bytes x) (sym is) ∙ sym kept)

pub feed_found : (pending start held text_now pending_now : List ℕ) (line_now at text : ℕ) (x y : Option (List ℕ)) → start ≡ pending → KeepsAhead start held x y → IsFound (Feed at) held y → text ≤ at → take text (take at held) ≡ strip_carriage_return (take at held)
    → text_now ≡ take text held → pending_now ≡ drop (at + 1) held → line_now ≡ at + 1
    → IsTold x → IsTold y × (lines_ahead pending x ≡ record { text = text_now; taken = line_now } ∷ lines_ahead pending_now y)
feed_found pending start held text_now pending_now line_now at text x y is keeps found short stripped t p l told =
    let k = keeps told in
    (k.0, same_lines pending start held x y is k.1 ∙ rw (t, p, l) (line_is_taken held (told_bytes y) at text found.0 found.1 found.2 short stripped))

pub last_found : (pending start held text_now pending_now : List ℕ) (line_now : ℕ) (x y : Option (List ℕ)) → start ≡ pending → KeepsAhead start held x y → IsFound End held y → 0 < length held
    → text_now ≡ take (length held) held → pending_now ≡ drop (length held) held → line_now ≡ length held
    → IsTold x → IsTold y × (lines_ahead pending x ≡ record { text = text_now; taken = line_now } ∷ lines_ahead pending_now y)
last_found pending start held text_now pending_now line_now x y is keeps found some t p l told =
    let k = keeps told in
    (k.0, same_lines pending start held x y is k.1 ∙ rw (t, p, l) (last_is_taken held (told_bytes y) found.0 found.1 some))

pub end_found : (pending start held : List ℕ) (x y : Option (List ℕ)) → start ≡ pending → KeepsAhead start held x y → IsFound End held y → length held ≡ 0
    → IsTold x → IsTold y × ((lines_ahead pending x ≡ []) × IsOver y)
end_found pending start held x y is keeps found none told =
    let k = keeps told in
    (k.0, (same_lines pending start held x y is k.1 ∙ none_is_left held (told_bytes y) found.1 none, found.1))

pub long_found : (pending start held : List ℕ) (x y : Option (List ℕ)) → start ≡ pending → KeepsAhead start held x y → IsFound Long held y
    → IsTold x → IsTold y × BeginsLong (lines_ahead pending x)
long_found pending start held x y is keeps found told =
    let k = keeps told in
    (k.0, subst BeginsLong (sym (same_lines pending start held x y is k.1)) (line_is_long held (told_bytes y) found.0 found.1))
