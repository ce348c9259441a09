-- What each accepted trace has, by induction on its lines.
use Rattle.std.proofs.Common.{◌≡◌, refl, ◌+◌, ◌*◌, ◌-◌, ◌^◌, ◌<◌, ◌≤◌, ℕ, Bool, true, false, cond, List, [], ◌∷◌, ◌++◌, length, Some, None, Result, Ok, Err, nat_lt, nat_le, nat_eq, not, ◌&&◌, ap, sym, ◌∙◌, subst, arith, append_assoc, append-nil}
use Rattle.std.specs.Prelude.{All, ok_or, option_and_then, option_map, codes, bytes_eq}
use Rattle.std.proofs.lemmas.Grind.{common_steps}
use Rattle.std.proofs.lemmas.List.Elements.{All-cons, All-nil}
use Rattle.ssd_formats.specs.Fields.{◌>>=◌, passing}
use Rattle.ssd_geo.specs.Limits.{Sizes, is_within}
use Rattle.ssd_formats.specs.InputFaults.{TraceFault}
use Rattle.ssd_formats.specs.InputFaults as faults
use Rattle.ssd_formats.specs.Lines.{Line, lines_in, is_skipped}
use Rattle.ssd_formats.specs.Numbers.{Text, bytes_of_hex, hex_digit, number_below, number_of_text}
use Rattle.ssd_formats.specs.TraceText.{pages_of_drive, number_word, ranged_word, bounded_word, page_word, listed_content, words_content, content_of_text, content_word, write_call_of, page_call_of, collect_call_of, drain_call_of, age_call_of, verb_of, actor_word, call_of_words, numbered_after, are_few_calls, most_calls, is_short_line, line_words, actors_of_words, first_of_line, calls_with, at_line, calls_of_lines, trace_of_lines}
use Rattle.ssd_geo.specs.declared.trace.Content.{Content}
use Rattle.ssd_geo.specs.declared.trace.Content.TheVariants.{Listed, Words}
use Rattle.ssd_geo.specs.declared.trace.Trace.{Trace}
use Rattle.ssd_geo.specs.declared.trace.TraceCall.{TraceCall}
use Rattle.ssd_geo.specs.declared.trace.Verb.{Verb}
use Rattle.ssd_geo.specs.declared.trace.Verb.TheVariants.{Write, Read, Trim, Refresh, Collect, Drain, Age}
use Rattle.trace_text.specs.NumberedCalls.{IsContentOf, IsVerbOf, IsNumberedAfter, AreCalls, AreNumberedAfter, IsNumbered, TracesAreNumbered}
use Rattle.trace_text.proofs.Results.{mapped_from, then_from, some_from, chosen}
use Rattle.ssd_geo.proofs.Sizes.{between}
use Rattle.std.proofs.lemmas.Option.{cond_some}
use Rattle.std.proofs.lemmas.Bool.{ltb-true, leb-true}
use Rattle.ssd_formats.proofs.SpelledHeads.{went_on}

tested : (test : ℕ → Bool) (fault : TraceFault) (word : Text) (n : ℕ) → (number_word word >>= (λ m. ok_or (passing test m) fault)) ≡ Ok n → test n ≡ true
tested test fault word n e =
    let step = went_on (number_word word) (λ m. ok_or (passing test m) fault) n e in
    let both = cond_some (test step.0) step.0 n (some_from (passing test step.0) fault n step.2) in
    ap test (sym both.1) ∙ both.0

bounded : (bound : ℕ) (word : Text) (n : ℕ) → bounded_word bound word ≡ Ok n → n < bound
bounded bound word n e = ltb-true n bound (tested (λ m. nat_lt m bound) faults.out_of_range word n e)

ranged : (low high : ℕ) (word : Text) (n : ℕ) → ranged_word low high word ≡ Ok n → (low ≤ n) × (n ≤ high)
ranged low high word n e = between low high n (tested (is_within low high) faults.out_of_range word n e)

digit_or_less : (b : Bool) (m n : ℕ) → (b ≡ true → m < 16) → cond b (Some m) None ≡ Some n → n < 16
digit_or_less true m n small e = let h : m < 16 = small refl in let f : m ≡ n = cc in omega (arith, h, f)
digit_or_less false m n small e = absurd (cc)

choice_less : (b c : Bool) (k m n : ℕ) → (b ≡ true → k < 16) → (c ≡ true → m < 16) → cond b (Some k) (cond c (Some m) None) ≡ Some n → n < 16
choice_less true c k m n one other e = digit_or_less true k n one e
choice_less false c k m n one other e = digit_or_less c m n other e

pub digit_is_small : (byte h : ℕ) → hex_digit byte ≡ Some h → h < 16
digit_is_small byte h e =
    choice_less (nat_le 48 byte && nat_le byte 57) (nat_le 97 byte && nat_le byte 102) (byte - 48) (byte - 87) h (λ b. grind (arith, common_steps)) (λ b. grind (arith, common_steps)) e

byte_of_digits : (h l : ℕ) → h < 16 → l < 16 → h * 16 + l < 256
byte_of_digits h l high low = omega arith

pub hex_gives_bytes : (text bytes : List ℕ) → bytes_of_hex text ≡ Some bytes → All (λ byte. byte < 256) bytes
hex_gives_bytes [] bytes e =
    let P : List ℕ → Type 0 = All (λ byte. byte < 256) in
    let is : [] ≡ bytes = cc in subst P is (All-nil (λ byte. byte < 256))
hex_gives_bytes (high ∷ []) bytes e = absurd (cc)
hex_gives_bytes (high ∷ low ∷ further) bytes e =
    let P : List ℕ → Type 0 = All (λ byte. byte < 256) in
    let h = then_from (hex_digit high) (λ x. option_and_then (λ y. option_map (λ zs. (x * 16 + y) ∷ zs) (bytes_of_hex further)) (hex_digit low)) bytes e in
    let l = then_from (hex_digit low) (λ y. option_map (λ zs. (h.0 * 16 + y) ∷ zs) (bytes_of_hex further)) bytes h.2 in
    let rest = mapped_from (bytes_of_hex further) (λ zs. (h.0 * 16 + l.0) ∷ zs) bytes l.2 in
    let small = byte_of_digits h.0 l.0 (digit_is_small high h.0 h.1) (digit_is_small low l.0 l.1) in
    subst P rest.2 (All-cons (λ byte. byte < 256) (h.0 * 16 + l.0) rest.0 small (hex_gives_bytes further rest.0 rest.1))

listed_in_range : (most : ℕ) (digits : Text) (content : Content) → listed_content most digits ≡ Some content → IsContentOf most content
listed_in_range most digits content e =
    let found = then_from (bytes_of_hex digits) (λ bytes. cond (nat_le (length bytes) most) (Some (Listed bytes)) None) content e in
    let both = cond_some (nat_le (length found.0) most) (Listed found.0) content found.2 in
    subst (IsContentOf most) both.1 (leb-true (length found.0) most both.0, hex_gives_bytes digits found.0 found.1)

words_in_range : (most : ℕ) (digits : Text) (content : Content) → words_content digits ≡ Some content → IsContentOf most content
words_in_range most digits content e =
    let found = mapped_from (number_below (2 ^ 64) digits) Words content e in
    let value = then_from (number_of_text digits) (λ n. cond (nat_lt n (2 ^ 64)) (Some n) None) found.0 found.1 in
    let both = cond_some (nat_lt value.0 (2 ^ 64)) value.0 found.0 value.2 in
    let small : found.0 < 2 ^ 64 = let P : ℕ → Type 0 = λ n. n < 2 ^ 64 in subst P both.1 (ltb-true value.0 (2 ^ 64) both.0) in
    subst (IsContentOf most) found.2 small

content_in_range : (most : ℕ) (text : Text) (content : Content) → content_of_text most text ≡ Some content → IsContentOf most content
content_in_range most [] content e = absurd (cc)
content_in_range most (first ∷ further) content e =
    chosen (nat_eq first 120) (listed_content most further) (cond (nat_eq first 103) (words_content further) None) (Some content) (listed_in_range most further content)
    (λ f. chosen (nat_eq first 103) (words_content further) None (Some content) (words_in_range most further content) (λ g. absurd (cc)) f) e

page_call_in_range : (verb : ℕ → Verb) (sizes : Sizes) (words : List Text) (v : Verb) → ((page : ℕ) → page < pages_of_drive sizes → IsVerbOf sizes (verb page)) → page_call_of verb sizes words ≡ Ok v → IsVerbOf sizes v
page_call_in_range verb sizes [] v may e = absurd (cc)
page_call_in_range verb sizes (page ∷ []) v may e =
    let x = went_on (page_word sizes page) (λ n. Ok (verb n)) v e in
    let is : verb x.0 ≡ v = cc (x.2) in
    subst (IsVerbOf sizes) is (may x.0 (bounded (pages_of_drive sizes) page x.0 x.1))
page_call_in_range verb sizes (page ∷ next ∷ more) v may e = absurd (cc)

write_in_range : (sizes : Sizes) (words : List Text) (v : Verb) → write_call_of sizes words ≡ Ok v → IsVerbOf sizes v
write_in_range sizes [] v e = absurd (cc)
write_in_range sizes (page ∷ []) v e = absurd (cc)
write_in_range sizes (page ∷ content ∷ []) v e =
    let x = went_on (page_word sizes page) (λ n. content_word sizes content >>= (λ written. Ok (Write n written))) v e in
    let w = went_on (content_word sizes content) (λ written. Ok (Write x.0 written)) v x.2 in
    let is : Write x.0 w.0 ≡ v = cc (w.2) in
    subst (IsVerbOf sizes) is (bounded (pages_of_drive sizes) page x.0 x.1, content_in_range sizes.bytes content w.0 (some_from (content_of_text sizes.bytes content) faults.bytes w.0 w.1))
write_in_range sizes (page ∷ content ∷ next ∷ more) v e = absurd (cc)

collect_in_range : (sizes : Sizes) (words : List Text) (v : Verb) → collect_call_of sizes words ≡ Ok v → IsVerbOf sizes v
collect_in_range sizes [] v e = absurd (cc)
collect_in_range sizes (channel ∷ []) v e =
    let x = went_on (bounded_word sizes.channels channel) (λ n. Ok (Collect n)) v e in
    let is : Collect x.0 ≡ v = cc (x.2) in
    subst (IsVerbOf sizes) is (bounded sizes.channels channel x.0 x.1)
collect_in_range sizes (channel ∷ next ∷ more) v e = absurd (cc)

drain_in_range : (sizes : Sizes) (words : List Text) (v : Verb) → drain_call_of words ≡ Ok v → IsVerbOf sizes v
drain_in_range sizes [] v e = absurd (cc)
drain_in_range sizes (hints ∷ []) v e =
    let x = went_on (ranged_word 1 16 hints) (λ n. Ok (Drain n)) v e in
    let is : Drain x.0 ≡ v = cc (x.2) in
    subst (IsVerbOf sizes) is (ranged 1 16 hints x.0 x.1)
drain_in_range sizes (hints ∷ next ∷ more) v e = absurd (cc)

age_in_range : (sizes : Sizes) (words : List Text) (v : Verb) → age_call_of sizes words ≡ Ok v → IsVerbOf sizes v
age_in_range sizes [] v e = absurd (cc)
age_in_range sizes (a ∷ []) v e = absurd (cc)
age_in_range sizes (a ∷ b ∷ []) v e = absurd (cc)
age_in_range sizes (a ∷ b ∷ c ∷ []) v e = absurd (cc)
age_in_range sizes (channel ∷ die ∷ block ∷ amount ∷ []) v e =
    let c = went_on (bounded_word sizes.channels channel) (λ x. bounded_word sizes.dies die >>= (λ y. bounded_word sizes.superblocks block >>= (λ z. ranged_word 1 16383 amount >>= (λ n. Ok (Age x y z n))))) v e in
    let d = went_on (bounded_word sizes.dies die) (λ y. bounded_word sizes.superblocks block >>= (λ z. ranged_word 1 16383 amount >>= (λ n. Ok (Age c.0 y z n)))) v c.2 in
    let b = went_on (bounded_word sizes.superblocks block) (λ z. ranged_word 1 16383 amount >>= (λ n. Ok (Age c.0 d.0 z n))) v d.2 in
    let n = went_on (ranged_word 1 16383 amount) (λ n. Ok (Age c.0 d.0 b.0 n)) v b.2 in
    let is : Age c.0 d.0 b.0 n.0 ≡ v = cc (n.2) in
    let range = ranged 1 16383 amount n.0 n.1 in
    subst (IsVerbOf sizes) is (bounded sizes.channels channel c.0 c.1, bounded sizes.dies die d.0 d.1, bounded sizes.superblocks block b.0 b.1, range.0, range.1)
age_in_range sizes (a ∷ b ∷ c ∷ d ∷ f ∷ more) v e = absurd (cc)

pub verb_in_range : (sizes : Sizes) (words : List Text) (v : Verb) → verb_of sizes words ≡ Ok v → IsVerbOf sizes v
verb_in_range sizes [] v e = absurd (cc)
verb_in_range sizes (word ∷ arguments) v e =
    chosen (bytes_eq word (codes "write")) _ _ (Ok v) (write_in_range sizes arguments v) (
    chosen (bytes_eq word (codes "read")) _ _ (Ok v) (page_call_in_range Read sizes arguments v (λ page h. h)) (
    chosen (bytes_eq word (codes "trim")) _ _ (Ok v) (page_call_in_range Trim sizes arguments v (λ page h. h)) (
    chosen (bytes_eq word (codes "refresh")) _ _ (Ok v) (page_call_in_range Refresh sizes arguments v (λ page h. h)) (
    chosen (bytes_eq word (codes "collect")) _ _ (Ok v) (collect_in_range sizes arguments v) (
    chosen (bytes_eq word (codes "drain")) _ _ (Ok v) (drain_in_range sizes arguments v) (
    chosen (bytes_eq word (codes "age")) _ _ (Ok v) (age_in_range sizes arguments v) (λ f. absurd (cc)))))))) e

-- one more call
pub one_more : (sizes : Sizes) (actors : ℕ) (before calls : List TraceCall) (call : TraceCall) → AreNumberedAfter sizes actors before calls → IsNumberedAfter sizes actors (before ++ calls) call → AreNumberedAfter sizes actors before (calls ++ call ∷ [])
one_more sizes actors before [] call all last =
    let P : List TraceCall → Type 0 = λ b. IsNumberedAfter sizes actors b call in (subst P (append-nil before) last, tt)
one_more sizes actors before (first ∷ calls) call all last =
    let P : List TraceCall → Type 0 = λ b. IsNumberedAfter sizes actors b call in
    (all.0, one_more sizes actors (before ++ first ∷ []) calls call all.1 (subst P (sym (append_assoc before (first ∷ []) calls)) last))

few_and : (m n : ℕ) (b : Bool) → (nat_le m n && b) ≡ true → m ≤ n
few_and m n true e = grind (arith, common_steps)
few_and m n false e = grind (arith, common_steps)

call_is_numbered : (sizes : Sizes) (actors : ℕ) (words : List Text) (before : List TraceCall) (call : ℕ × Verb) → call_of_words sizes actors words ≡ Ok call → IsNumberedAfter sizes actors before (numbered_after before call)
call_is_numbered sizes actors [] before call e = absurd (cc)
call_is_numbered sizes actors (first ∷ further) before call e =
    let actor = went_on (actor_word actors first) (λ a. verb_of sizes further >>= (λ v. Ok (a, v))) call e in
    let verb = went_on (verb_of sizes further) (λ v. Ok (actor.0, v)) call actor.2 in
    let pair : ℕ × Verb = (actor.0, verb.0) in
    let is : pair ≡ call = cc (verb.2) in
    let P : ℕ × Verb → Type 0 = λ c. IsNumberedAfter sizes actors before (numbered_after before c) in
    subst P is (record {
      actor = ltb-true actor.0 actors (tested (λ m. nat_lt m actors) faults.actor first actor.0 actor.1);
      number = refl;
      verb = verb_in_range sizes further verb.0 verb.1;
    })

pub calls_with_one : (sizes : Sizes) (actors : ℕ) (before : List TraceCall) (line : Line) (calls : List TraceCall) → calls_with sizes actors before line ≡ Ok calls → AreCalls sizes actors before → AreCalls sizes actors calls
calls_with_one sizes actors before line calls e good =
    let words = went_on (line_words line) (λ words. call_of_words sizes actors words >>= (λ call. ok_or (passing (are_few_calls sizes) (before ++ numbered_after before call ∷ [])) faults.long)) calls e in
    let call = went_on (call_of_words sizes actors words.0) (λ call. ok_or (passing (are_few_calls sizes) (before ++ numbered_after before call ∷ [])) faults.long) calls words.2 in
    let both = cond_some (are_few_calls sizes (before ++ numbered_after before call.0 ∷ [])) (before ++ numbered_after before call.0 ∷ []) calls (some_from (passing (are_few_calls sizes) (before ++ numbered_after before call.0 ∷ [])) faults.long calls call.2) in
    subst (AreCalls sizes actors) both.1 (record {
      few = few_and (length (before ++ numbered_after before call.0 ∷ [])) most_calls _ both.0;
      all = one_more sizes actors [] before (numbered_after before call.0) good.all (call_is_numbered sizes actors words.0 before call.0 call.1);
    })

at_line_ok : {A : Type 0} (number : ℕ) (read : Result A TraceFault) (value : A) → at_line number read ≡ Ok value → read ≡ Ok value
at_line_ok number (Ok x) value e = cc
at_line_ok number (Err fault) value e = absurd (cc)

pub lines_are_numbered : (sizes : Sizes) (actors number taken : ℕ) (before : List TraceCall) (lines : List Line) (calls : List TraceCall) → calls_of_lines sizes actors number taken before lines ≡ Ok calls → AreCalls sizes actors before → AreCalls sizes actors calls
unfolding calls_of_lines
lines_are_numbered sizes actors number taken before [] calls e good = let is : before ≡ calls = cc in subst (AreCalls sizes actors) is good
lines_are_numbered sizes actors number taken before (line ∷ lines) calls e good =
    let further = λ (found : List TraceCall). calls_of_lines sizes actors (number + 1) (taken + line.taken) found lines in
    chosen (not (is_short_line taken line)) (Err (number, faults.long)) (cond (is_skipped line.text) (further before) (at_line number (calls_with sizes actors before line) >>= further)) (Ok calls)
    (λ f. absurd (cc))
    (λ f. chosen (is_skipped line.text) (further before) (at_line number (calls_with sizes actors before line) >>= further) (Ok calls)
    (λ g. lines_are_numbered sizes actors (number + 1) (taken + line.taken) before lines calls g good)
    (λ g. let found = went_on (at_line number (calls_with sizes actors before line)) further calls g in
    lines_are_numbered sizes actors (number + 1) (taken + line.taken) found.0 lines calls found.2 (calls_with_one sizes actors before line found.0 (at_line_ok number _ found.0 found.1) good)) f) e

actors_are_few : (words : List Text) (actors : ℕ) → actors_of_words words ≡ Some actors → (1 ≤ actors) × (actors ≤ 32)
actors_are_few [] actors e = absurd (cc)
actors_are_few (a ∷ []) actors e = absurd (cc)
actors_are_few (a ∷ b ∷ []) actors e = absurd (cc)
actors_are_few (word ∷ version ∷ number ∷ []) actors e =
    chosen (bytes_eq word (codes "trace") && bytes_eq version (codes "1")) (option_and_then (passing (is_within 1 32)) (number_of_text number)) None (Some actors)
    (λ f. let found = then_from (number_of_text number) (passing (is_within 1 32)) actors f in
    let both = cond_some (is_within 1 32 found.0) found.0 actors found.2 in
    between 1 32 actors (ap (is_within 1 32) (sym both.1) ∙ both.0))
    (λ f. absurd (cc)) e
actors_are_few (a ∷ b ∷ c ∷ d ∷ more) actors e = absurd (cc)

pub first_actors : (line : Line) (actors : ℕ) → first_of_line line ≡ Ok actors → (1 ≤ actors) × (actors ≤ 32)
first_actors line actors e =
    let words = went_on (line_words line) (λ words. ok_or (actors_of_words words) faults.first) actors e in
    actors_are_few words.0 actors (some_from (actors_of_words words.0) faults.first actors words.2)

lines_give_numbered : (sizes : Sizes) (number taken : ℕ) (lines : List Line) (trace : Trace) → trace_of_lines sizes number taken lines ≡ Ok trace → IsNumbered sizes trace
unfolding trace_of_lines
lines_give_numbered sizes number taken [] trace e = absurd (cc)
lines_give_numbered sizes number taken (line ∷ lines) trace e =
    let made : ℕ → List TraceCall → Result Trace (ℕ × TraceFault) = λ actors calls. Ok (record { actors = actors; calls = calls }) in
    let first : ℕ → Result Trace (ℕ × TraceFault) = λ actors. calls_of_lines sizes actors (number + 1) (taken + line.taken) [] lines >>= made actors in
    chosen (not (is_short_line taken line)) (Err (number, faults.long)) (cond (is_skipped line.text) (trace_of_lines sizes (number + 1) (taken + line.taken) lines) (at_line number (first_of_line line) >>= first)) (Ok trace)
    (λ f. absurd (cc))
    (λ f. chosen (is_skipped line.text) (trace_of_lines sizes (number + 1) (taken + line.taken) lines) (at_line number (first_of_line line) >>= first) (Ok trace)
    (lines_give_numbered sizes (number + 1) (taken + line.taken) lines trace)
    (λ g. let actors = went_on (at_line number (first_of_line line)) first trace g in
    let calls = went_on (calls_of_lines sizes actors.0 (number + 1) (taken + line.taken) [] lines) (made actors.0) trace actors.2 in
    let few = first_actors line actors.0 (at_line_ok number _ actors.0 actors.1) in
    let good = lines_are_numbered sizes actors.0 (number + 1) (taken + line.taken) [] lines calls.0 calls.1 (record { few = omega arith; all = tt }) in
    let whole : Trace = record { actors = actors.0; calls = calls.0 } in
    let is : whole ≡ trace = cc (calls.2) in
    subst (IsNumbered sizes) is (record { actors_low = few.0; actors_high = few.1; few = good.few; calls = good.all })) f) e

pub traces_are_numbered : TracesAreNumbered
traces_are_numbered sizes text trace e = lines_give_numbered sizes 1 0 (lines_in text) trace e
