-- What one more call changes in the counts of the calls before it.
use Rattle.std.proofs.Common.{◌≡◌, refl, sym, ap, ◌∙◌, ℕ, suc, ◌+◌, ◌*◌, ◌-◌, ◌<◌, ◌≤◌, Bool, true, false, cond, List, [], ◌∷◌, ◌++◌, length, get_or, set, nat_eq, nat_le, ◌&&◌, length-append, arith, rules}
use Rattle.std.specs.Prelude.{count_by}
use Rattle.std.specs.List.{list_all}
use Rattle.std.proofs.lemmas.Grind.{common_steps}
use Rattle.ssd_formats.specs.TraceText.{is_of_actor, is_read_call, is_read_verb, most_bytes_read, most_calls, numbered_after}
use Rattle.ssd_geo.specs.declared.trace.TraceCall.{TraceCall}
use Rattle.ssd_geo.specs.declared.trace.Verb.{Verb}
use Rattle.trace_text.specs.CallSteps.{are_few, with_call}

-- the count with one more
pub count_more : (p : TraceCall → Bool) (calls : List TraceCall) (call : TraceCall) → count_by p (calls ++ call ∷ []) ≡ count_by p calls + cond (p call) 1 0
count_more p [] call = grind (arith, common_steps)
count_more p (first ∷ calls) call = let rest = count_more p calls call in grind (arith, common_steps)

-- the tests of the limits, at the numbers that are kept
pub few_with_call : (bytes : ℕ) (calls : List TraceCall) (actor : ℕ) (verb : Verb) (reads : ℕ) → reads ≡ count_by is_read_call calls + cond (is_read_verb verb) 1 0
    → are_few bytes (with_call calls actor verb) ≡ (nat_le (length calls + 1) most_calls && nat_le (reads * bytes) most_bytes_read)
few_with_call bytes calls actor verb reads is =
    let call = numbered_after calls (actor, verb) in
    let size : length (calls ++ call ∷ []) ≡ length calls + 1 = length-append calls (call ∷ []) in
    let counted : count_by is_read_call (calls ++ call ∷ []) ≡ reads = count_more is_read_call calls call ∙ sym is in
    ap (λ n. nat_le n most_calls && nat_le (count_by is_read_call (calls ++ call ∷ []) * bytes) most_bytes_read) size
    ∙ ap (λ n. nat_le (length calls + 1) most_calls && nat_le (n * bytes) most_bytes_read) counted

-- the counts of all actors, of which one has one more call
pub counts_more : (counts : List ℕ) (calls : List TraceCall) (actor : ℕ) (verb : Verb) → length counts ≡ 32 → actor < 32 → ((k : ℕ) → k < 32 → get_or counts k 0 ≡ count_by (is_of_actor k) calls)
    → (k : ℕ) → k < 32 → get_or (set counts actor (get_or counts actor 0 + 1)) k 0 ≡ count_by (is_of_actor k) (with_call calls actor verb)
counts_more counts calls actor verb size inside kept k low =
    let more = count_more (is_of_actor k) calls (numbered_after calls (actor, verb)) in
    let one = kept k low in
    let own = kept actor inside in
    grind (arith, common_steps)

-- a list of zeros has nothing else
pub zeros : (xs : List ℕ) → list_all (λ x. nat_eq x 0) xs ≡ true → (k : ℕ) → get_or xs k 0 ≡ 0
zeros xs all k = grind (arith, common_steps)
