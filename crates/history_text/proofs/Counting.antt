-- Counts at places, and the tests of the summary that they stand for.
use Rattle.std.proofs.Common.{◌≡◌, ℕ, zero, suc, ◌+◌, ◌-◌, ◌<◌, ◌≤◌, List, [], ◌∷◌, ◌++◌, length, take, get_or, replicate, map, refl, sym, ap, ◌∙◌, codes, decimal, append_assoc, arith}
use Rattle.std.specs.Prelude.{◌==◌, Bool, true, false, ◌&&◌, zip, sum_by, count_by, slice_index}
use Rattle.std.specs.List.{range_with_len}
use Rattle.std.proofs.lemmas.List.{get_or-replicate}
use Rattle.std.proofs.lemmas.Bool.Decides.{nat_tests}
use Rattle.ssd_formats.specs.Numbers.{Text}
use Rattle.ssd_formats.specs.EntryText.{line_of}
use Rattle.ssd_formats.specs.RunText.{Answered, answered_calls, answers_count, replies_count, entries_count, summary_of, summary_text, count_line, counts_as_write, counts_as_read, counts_as_trim, counts_as_ok, counts_as_full, counts_as_read_only, counts_as_die_fault, counts_as_data, counts_as_empty, counts_as_uncorrectable, is_data_at, is_hinted, taken_by, counts_as_move, counts_as_condemn, counts_as_changed, counts_as_stay, counts_as_pick, counts_as_erase, counts_as_bad, counts_as_fault, counts_as_sense}
use Rattle.ssd_geo.specs.declared.entry.Entry.{Entry}
use Rattle.ssd_geo.specs.declared.kind.Kind.{Kind}
use Rattle.ssd_geo.specs.declared.reply.CallKind.{CallKind}
use Rattle.ssd_geo.specs.declared.reply.Reply.{Reply}
use Rattle.ssd_geo.specs.declared.kind.Kind.TheVariants as did
use Rattle.ssd_geo.specs.declared.reply.CallKind.TheVariants as kinds
use Rattle.ssd_geo.specs.declared.reply.Reply.TheVariants as replies
use Rattle.history_text.specs.declared.summary.Hints.{Hints}
use Rattle.history_text.specs.Places.{kind_place, write_place, read_place, call_place, rung_place, placed_calls, placed_entries, placed_rungs}
use Rattle.history_text.specs.SummaryText.{call_lines, entry_lines, last_lines, placed_summary}

zip_none : (kinds : List CallKind) → zip kinds (let none : List Reply = [] in none) ≡ []
zip_none [] = refl
zip_none (kind ∷ kinds) = refl

-- no reply has no place
pub placed_none : (k : ℕ) (kinds : List CallKind) (rest : List Reply) → rest ≡ [] → placed_calls k (zip kinds rest) ≡ 0
placed_none k kinds rest none = ap (λ replies. placed_calls k (zip kinds replies)) none ∙ ap (placed_calls k) (zip_none kinds)

-- a list of zeros
pub zero_at : (n k : ℕ) → k < n → let zeros : List ℕ = replicate n 0 in get_or zeros k 0 ≡ 0
zero_at n k within = get_or-replicate n k 0 0 within

regrouped : (a b c d e f g h i j : Text) → ((((((((a ++ b) ++ c) ++ d) ++ e) ++ f) ++ g) ++ h) ++ i) ++ j ≡ (a ++ (b ++ (c ++ d))) ++ ((e ++ (f ++ g)) ++ (h ++ (i ++ j)))
regrouped a b c d e f g h i j = simp append_assoc

-- the summary is the lines of calls, of entries, of rungs and of hints
pub summary_parts : (calls entries rungs : List ℕ) (hints : Hints) → summary_text (placed_summary calls entries rungs hints) ≡ call_lines calls ++ (entry_lines entries ++ (count_line (codes "rung") rungs ++ last_lines hints))
summary_parts calls entries rungs hints =
    regrouped (line_of (codes "summary" ∷ [])) (count_line (codes "write") (slice_index calls 0 ∷ slice_index calls 1 ∷ slice_index calls 2 ∷ slice_index calls 3 ∷ [])) (count_line (codes "read") (slice_index calls 4 ∷ slice_index calls 5 ∷ slice_index calls 6 ∷ slice_index calls 7 ∷ [])) (count_line (codes "trim") (slice_index calls 8 ∷ [])) (line_of (codes "move" ∷ decimal (slice_index entries 0) ∷ codes "condemn" ∷ decimal (slice_index entries 1) ∷ codes "changed" ∷ decimal (slice_index entries 2) ∷ codes "stay" ∷ decimal (slice_index entries 3) ∷ [])) (line_of (codes "pick" ∷ decimal (slice_index entries 4) ∷ codes "erase" ∷ decimal (slice_index entries 5) ∷ codes "bad" ∷ decimal (slice_index entries 6) ∷ codes "fault" ∷ decimal (slice_index entries 7) ∷ [])) (count_line (codes "sense") (slice_index entries 8 ∷ [])) (count_line (codes "rung") rungs) (count_line (codes "hint") (hints.pushed ∷ hints.dropped ∷ hints.taken ∷ [])) (line_of (codes "end" ∷ []))

-- the tests of answered calls
on_write_0 : (reply : Reply) → (write_place reply == 0) ≡ (counts_as_write kinds.Write && counts_as_ok reply)
on_write_0 replies.Ok = refl
on_write_0 reply = refl

on_read_0 : (reply : Reply) → (read_place reply == 0) ≡ (counts_as_write kinds.Read && counts_as_ok reply)
on_read_0 replies.Ok = refl
on_read_0 reply = refl

call_test_0 : (kind : CallKind) (reply : Reply) → (call_place kind reply == 0) ≡ (counts_as_write kind && counts_as_ok reply)
call_test_0 kinds.Write reply = on_write_0 reply
call_test_0 kinds.Read reply = on_read_0 reply
call_test_0 kind reply = refl

calls_0 : (calls : List Answered) → placed_calls 0 calls ≡ replies_count counts_as_write counts_as_ok calls
calls_0 calls = ap (λ (test : Answered → Bool). count_by test calls) (λ i call. call_test_0 call.0 call.1 i)

on_write_1 : (reply : Reply) → (write_place reply == 1) ≡ (counts_as_write kinds.Write && counts_as_full reply)
on_write_1 replies.Full = refl
on_write_1 reply = refl

on_read_1 : (reply : Reply) → (read_place reply == 1) ≡ (counts_as_write kinds.Read && counts_as_full reply)
on_read_1 replies.Full = refl
on_read_1 reply = refl

call_test_1 : (kind : CallKind) (reply : Reply) → (call_place kind reply == 1) ≡ (counts_as_write kind && counts_as_full reply)
call_test_1 kinds.Write reply = on_write_1 reply
call_test_1 kinds.Read reply = on_read_1 reply
call_test_1 kind reply = refl

calls_1 : (calls : List Answered) → placed_calls 1 calls ≡ replies_count counts_as_write counts_as_full calls
calls_1 calls = ap (λ (test : Answered → Bool). count_by test calls) (λ i call. call_test_1 call.0 call.1 i)

on_write_2 : (reply : Reply) → (write_place reply == 2) ≡ (counts_as_write kinds.Write && counts_as_read_only reply)
on_write_2 replies.ReadOnly = refl
on_write_2 reply = refl

on_read_2 : (reply : Reply) → (read_place reply == 2) ≡ (counts_as_write kinds.Read && counts_as_read_only reply)
on_read_2 replies.ReadOnly = refl
on_read_2 reply = refl

call_test_2 : (kind : CallKind) (reply : Reply) → (call_place kind reply == 2) ≡ (counts_as_write kind && counts_as_read_only reply)
call_test_2 kinds.Write reply = on_write_2 reply
call_test_2 kinds.Read reply = on_read_2 reply
call_test_2 kind reply = refl

calls_2 : (calls : List Answered) → placed_calls 2 calls ≡ replies_count counts_as_write counts_as_read_only calls
calls_2 calls = ap (λ (test : Answered → Bool). count_by test calls) (λ i call. call_test_2 call.0 call.1 i)

on_write_3 : (reply : Reply) → (write_place reply == 3) ≡ (counts_as_write kinds.Write && counts_as_die_fault reply)
on_write_3 (replies.DieFault die) = refl
on_write_3 reply = refl

on_read_3 : (reply : Reply) → (read_place reply == 3) ≡ (counts_as_write kinds.Read && counts_as_die_fault reply)
on_read_3 (replies.DieFault die) = refl
on_read_3 reply = refl

call_test_3 : (kind : CallKind) (reply : Reply) → (call_place kind reply == 3) ≡ (counts_as_write kind && counts_as_die_fault reply)
call_test_3 kinds.Write reply = on_write_3 reply
call_test_3 kinds.Read reply = on_read_3 reply
call_test_3 kind reply = refl

calls_3 : (calls : List Answered) → placed_calls 3 calls ≡ replies_count counts_as_write counts_as_die_fault calls
calls_3 calls = ap (λ (test : Answered → Bool). count_by test calls) (λ i call. call_test_3 call.0 call.1 i)

on_write_4 : (reply : Reply) → (write_place reply == 4) ≡ (counts_as_read kinds.Write && counts_as_data reply)
on_write_4 (replies.Data rung bytes) = refl
on_write_4 reply = refl

on_read_4 : (reply : Reply) → (read_place reply == 4) ≡ (counts_as_read kinds.Read && counts_as_data reply)
on_read_4 (replies.Data rung bytes) = refl
on_read_4 reply = refl

call_test_4 : (kind : CallKind) (reply : Reply) → (call_place kind reply == 4) ≡ (counts_as_read kind && counts_as_data reply)
call_test_4 kinds.Write reply = on_write_4 reply
call_test_4 kinds.Read reply = on_read_4 reply
call_test_4 kind reply = refl

calls_4 : (calls : List Answered) → placed_calls 4 calls ≡ replies_count counts_as_read counts_as_data calls
calls_4 calls = ap (λ (test : Answered → Bool). count_by test calls) (λ i call. call_test_4 call.0 call.1 i)

on_write_5 : (reply : Reply) → (write_place reply == 5) ≡ (counts_as_read kinds.Write && counts_as_empty reply)
on_write_5 replies.Empty = refl
on_write_5 reply = refl

on_read_5 : (reply : Reply) → (read_place reply == 5) ≡ (counts_as_read kinds.Read && counts_as_empty reply)
on_read_5 replies.Empty = refl
on_read_5 reply = refl

call_test_5 : (kind : CallKind) (reply : Reply) → (call_place kind reply == 5) ≡ (counts_as_read kind && counts_as_empty reply)
call_test_5 kinds.Write reply = on_write_5 reply
call_test_5 kinds.Read reply = on_read_5 reply
call_test_5 kind reply = refl

calls_5 : (calls : List Answered) → placed_calls 5 calls ≡ replies_count counts_as_read counts_as_empty calls
calls_5 calls = ap (λ (test : Answered → Bool). count_by test calls) (λ i call. call_test_5 call.0 call.1 i)

on_write_6 : (reply : Reply) → (write_place reply == 6) ≡ (counts_as_read kinds.Write && counts_as_uncorrectable reply)
on_write_6 replies.Uncorrectable = refl
on_write_6 reply = refl

on_read_6 : (reply : Reply) → (read_place reply == 6) ≡ (counts_as_read kinds.Read && counts_as_uncorrectable reply)
on_read_6 replies.Uncorrectable = refl
on_read_6 reply = refl

call_test_6 : (kind : CallKind) (reply : Reply) → (call_place kind reply == 6) ≡ (counts_as_read kind && counts_as_uncorrectable reply)
call_test_6 kinds.Write reply = on_write_6 reply
call_test_6 kinds.Read reply = on_read_6 reply
call_test_6 kind reply = refl

calls_6 : (calls : List Answered) → placed_calls 6 calls ≡ replies_count counts_as_read counts_as_uncorrectable calls
calls_6 calls = ap (λ (test : Answered → Bool). count_by test calls) (λ i call. call_test_6 call.0 call.1 i)

on_write_7 : (reply : Reply) → (write_place reply == 7) ≡ (counts_as_read kinds.Write && counts_as_die_fault reply)
on_write_7 (replies.DieFault die) = refl
on_write_7 reply = refl

on_read_7 : (reply : Reply) → (read_place reply == 7) ≡ (counts_as_read kinds.Read && counts_as_die_fault reply)
on_read_7 (replies.DieFault die) = refl
on_read_7 reply = refl

call_test_7 : (kind : CallKind) (reply : Reply) → (call_place kind reply == 7) ≡ (counts_as_read kind && counts_as_die_fault reply)
call_test_7 kinds.Write reply = on_write_7 reply
call_test_7 kinds.Read reply = on_read_7 reply
call_test_7 kind reply = refl

calls_7 : (calls : List Answered) → placed_calls 7 calls ≡ replies_count counts_as_read counts_as_die_fault calls
calls_7 calls = ap (λ (test : Answered → Bool). count_by test calls) (λ i call. call_test_7 call.0 call.1 i)

on_write_8 : (reply : Reply) → (write_place reply == 8) ≡ (counts_as_trim kinds.Write && true)
on_write_8 replies.Ok = refl
on_write_8 reply = refl

on_read_8 : (reply : Reply) → (read_place reply == 8) ≡ (counts_as_trim kinds.Read && true)
on_read_8 replies.Ok = refl
on_read_8 reply = refl

call_test_8 : (kind : CallKind) (reply : Reply) → (call_place kind reply == 8) ≡ (counts_as_trim kind && true)
call_test_8 kinds.Write reply = on_write_8 reply
call_test_8 kinds.Read reply = on_read_8 reply
call_test_8 kind reply = refl

calls_8 : (calls : List Answered) → placed_calls 8 calls ≡ replies_count counts_as_trim (λ reply. true) calls
calls_8 calls = ap (λ (test : Answered → Bool). count_by test calls) (λ i call. call_test_8 call.0 call.1 i)

entry_test_0 : (kind : Kind) → (kind_place kind == 0) ≡ counts_as_move kind
entry_test_0 (did.Move at slot) = refl
entry_test_0 kind = refl

entries_0 : (histories : List (List Entry)) → sum_by (placed_entries 0) histories ≡ entries_count counts_as_move histories
entries_0 histories = ap (λ (test : Entry → Bool). sum_by (count_by test) histories) (λ i entry. entry_test_0 entry.kind i)

entry_test_1 : (kind : Kind) → (kind_place kind == 1) ≡ counts_as_condemn kind
entry_test_1 (did.Condemn at) = refl
entry_test_1 kind = refl

entries_1 : (histories : List (List Entry)) → sum_by (placed_entries 1) histories ≡ entries_count counts_as_condemn histories
entries_1 histories = ap (λ (test : Entry → Bool). sum_by (count_by test) histories) (λ i entry. entry_test_1 entry.kind i)

entry_test_2 : (kind : Kind) → (kind_place kind == 2) ≡ counts_as_changed kind
entry_test_2 (did.Changed at found) = refl
entry_test_2 kind = refl

entries_2 : (histories : List (List Entry)) → sum_by (placed_entries 2) histories ≡ entries_count counts_as_changed histories
entries_2 histories = ap (λ (test : Entry → Bool). sum_by (count_by test) histories) (λ i entry. entry_test_2 entry.kind i)

entry_test_3 : (kind : Kind) → (kind_place kind == 3) ≡ counts_as_stay kind
entry_test_3 (did.Stay at worn) = refl
entry_test_3 kind = refl

entries_3 : (histories : List (List Entry)) → sum_by (placed_entries 3) histories ≡ entries_count counts_as_stay histories
entries_3 histories = ap (λ (test : Entry → Bool). sum_by (count_by test) histories) (λ i entry. entry_test_3 entry.kind i)

entry_test_4 : (kind : Kind) → (kind_place kind == 4) ≡ counts_as_pick kind
entry_test_4 (did.Pick sb) = refl
entry_test_4 kind = refl

entries_4 : (histories : List (List Entry)) → sum_by (placed_entries 4) histories ≡ entries_count counts_as_pick histories
entries_4 histories = ap (λ (test : Entry → Bool). sum_by (count_by test) histories) (λ i entry. entry_test_4 entry.kind i)

entry_test_5 : (kind : Kind) → (kind_place kind == 5) ≡ counts_as_erase kind
entry_test_5 (did.Erase sb) = refl
entry_test_5 kind = refl

entries_5 : (histories : List (List Entry)) → sum_by (placed_entries 5) histories ≡ entries_count counts_as_erase histories
entries_5 histories = ap (λ (test : Entry → Bool). sum_by (count_by test) histories) (λ i entry. entry_test_5 entry.kind i)

entry_test_6 : (kind : Kind) → (kind_place kind == 6) ≡ counts_as_bad kind
entry_test_6 (did.BadErase sb die fault) = refl
entry_test_6 kind = refl

entries_6 : (histories : List (List Entry)) → sum_by (placed_entries 6) histories ≡ entries_count counts_as_bad histories
entries_6 histories = ap (λ (test : Entry → Bool). sum_by (count_by test) histories) (λ i entry. entry_test_6 entry.kind i)

entry_test_7 : (kind : Kind) → (kind_place kind == 7) ≡ counts_as_fault kind
entry_test_7 (did.FaultAge die sb amount) = refl
entry_test_7 kind = refl

entries_7 : (histories : List (List Entry)) → sum_by (placed_entries 7) histories ≡ entries_count counts_as_fault histories
entries_7 histories = ap (λ (test : Entry → Bool). sum_by (count_by test) histories) (λ i entry. entry_test_7 entry.kind i)

entry_test_8 : (kind : Kind) → (kind_place kind == 8) ≡ counts_as_sense kind
entry_test_8 (did.Sense at place level) = refl
entry_test_8 kind = refl

entries_8 : (histories : List (List Entry)) → sum_by (placed_entries 8) histories ≡ entries_count counts_as_sense histories
entries_8 histories = ap (λ (test : Entry → Bool). sum_by (count_by test) histories) (λ i entry. entry_test_8 entry.kind i)

-- the test of a rung
past_rungs : (k : ℕ) → k < 256 → (256 == k) ≡ false
past_rungs k within = grind (arith, nat_tests)

rung_test : (k : ℕ) → k < 256 → (reply : Reply) → (rung_place reply == k) ≡ is_data_at k reply
rung_test k within (replies.Data rung bytes) = refl
rung_test k within reply = past_rungs k within

rungs_at : (k : ℕ) → k < 256 → (answers : List (List Reply)) → sum_by (placed_rungs k) answers ≡ answers_count (is_data_at k) answers
rungs_at k within answers = ap (λ (test : Reply → Bool). sum_by (count_by test) answers) (λ i reply. rung_test k within reply i)

-- the first numbers of a list, from what each of them is
first_numbers : (f : ℕ → ℕ) (n a : ℕ) (xs : List ℕ) → n ≤ length xs → ((k : ℕ) → k < n → get_or xs k 0 ≡ f (a + k)) → take n xs ≡ map f (range_with_len a n)
first_numbers f zero a xs long each = refl
first_numbers f (suc n) a [] long each = absurd (omega arith)
first_numbers f (suc n) a (x ∷ xs) long each =
    let here : x ≡ f a = each 0 (omega arith) ∙ ap f (omega arith) in
    let rest : take n xs ≡ map f (range_with_len (a + 1) n) = first_numbers f n (a + 1) xs (omega arith) (λ k within. each (suc k) (omega arith) ∙ ap f (omega arith)) in
    λ i. here i ∷ rest i

-- the counts at places are those of the summary
pub summary_same : (levels dropped : ℕ) (histories : List (List Entry)) (of : List (List CallKind)) (answers : List (List Reply)) (calls entries rungs : List ℕ) (hints : Hints)
    → levels ≤ 254 → 256 ≤ length rungs
    → ((k : ℕ) → k < 10 → slice_index calls k ≡ placed_calls k (answered_calls of answers))
    → ((k : ℕ) → k < 10 → slice_index entries k ≡ sum_by (placed_entries k) histories)
    → ((k : ℕ) → k < 257 → slice_index rungs k ≡ sum_by (placed_rungs k) answers)
    → hints.pushed ≡ answers_count is_hinted answers - dropped → hints.dropped ≡ dropped → hints.taken ≡ sum_by (sum_by taken_by) answers
    → summary_of levels histories of answers dropped ≡ placed_summary calls entries (take (levels + 2) rungs) hints
summary_same levels dropped histories of answers calls entries rungs hints few long in_calls in_entries in_rungs pushed same_dropped taken =
    let all = answered_calls of answers in
    let row : take (levels + 2) rungs ≡ map (λ rung. answers_count (is_data_at rung) answers) (range_with_len 0 (levels + 2)) =
    first_numbers (λ rung. answers_count (is_data_at rung) answers) (levels + 2) 0 rungs (omega arith) (λ k within. in_rungs k (omega arith) ∙ rungs_at k (omega arith) answers ∙ ap (λ rung. answers_count (is_data_at rung) answers) (omega arith)) in
    let c0 = in_calls 0 (omega arith) ∙ calls_0 all in
    let c1 = in_calls 1 (omega arith) ∙ calls_1 all in
    let c2 = in_calls 2 (omega arith) ∙ calls_2 all in
    let c3 = in_calls 3 (omega arith) ∙ calls_3 all in
    let c4 = in_calls 4 (omega arith) ∙ calls_4 all in
    let c5 = in_calls 5 (omega arith) ∙ calls_5 all in
    let c6 = in_calls 6 (omega arith) ∙ calls_6 all in
    let c7 = in_calls 7 (omega arith) ∙ calls_7 all in
    let c8 = in_calls 8 (omega arith) ∙ calls_8 all in
    let e0 = in_entries 0 (omega arith) ∙ entries_0 histories in
    let e1 = in_entries 1 (omega arith) ∙ entries_1 histories in
    let e2 = in_entries 2 (omega arith) ∙ entries_2 histories in
    let e3 = in_entries 3 (omega arith) ∙ entries_3 histories in
    let e4 = in_entries 4 (omega arith) ∙ entries_4 histories in
    let e5 = in_entries 5 (omega arith) ∙ entries_5 histories in
    let e6 = in_entries 6 (omega arith) ∙ entries_6 histories in
    let e7 = in_entries 7 (omega arith) ∙ entries_7 histories in
    let e8 = in_entries 8 (omega arith) ∙ entries_8 histories in
    sym (λ i. record {
      write_ok = c0 i;
      write_full = c1 i;
      write_readonly = c2 i;
      write_diefault = c3 i;
      read_data = c4 i;
      read_empty = c5 i;
      read_uncorrectable = c6 i;
      read_diefault = c7 i;
      trims = c8 i;
      moves = e0 i;
      condemns = e1 i;
      changes = e2 i;
      stays = e3 i;
      picks = e4 i;
      erases = e5 i;
      bads = e6 i;
      faults = e7 i;
      senses = e8 i;
      rungs = row i;
      pushed = pushed i;
      dropped = same_dropped i;
      taken = taken i;
    })
