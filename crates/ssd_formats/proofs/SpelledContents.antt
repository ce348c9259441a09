-- Contents that were read from bytes have a spelling: each of their fields is in its range.
use Rattle.std.proofs.Common.{◌≡◌, refl, ℕ, zero, suc, ◌+◌, ◌-◌, ◌*◌, ◌/◌, ◌%◌, ◌^◌, ◌≤◌, Bool, true, false, List, [], ◌∷◌, ◌++◌, length, map, take, arith, ap, ◌∙◌, sym, ◌&&◌, not, subst, inl, inr}
use Rattle.std.specs.Prelude.{Ok, Option, Some, None, ℤ, nat_lt, ◌==◌, if◌then◌else◌}
use Rattle.std.specs.List.{list_all}
use Rattle.std.specs.Int.{w8, w16, w32, from_le_bytes}
use Rattle.std.proofs.lemmas.Bool.{cases_lt, and_parts, eqb-true, eq-eqb}
use Rattle.std.proofs.lemmas.Grind.{common_steps}
use Rattle.std.specs.Option.{option_map_or}
use Rattle.std.proofs.lemmas.List.{length-map, length-append, append_assoc, append-nil}
use Rattle.std.proofs.Math.Nat.{div-le_of_le-mul, div-add-mod, mul_comm}
use Rattle.ssd_histories.specs.Blocks.{has_due_used}
use Rattle.ssd_formats.specs.Fields.{Rest, Fault, Reading, bytes_field, field_or, found_or, passing, is_below, level_fields, are_bytes}
use Rattle.ssd_geo.specs.Limits.{Sizes, is_within, page_cells_of, word_bytes_of}
use Rattle.ssd_formats.specs.ImageContents.{SavedBlock, ChannelImage, slots_of_sizes, is_page_word, state_field, state_of_bytes, state_of_number, may_be, is_programmed_count, are_programmed_counts, programmed_fields, page_fields, die_fields, is_stripe_open, sum_field, block_fields, blocks_fields, blocks_of_saved, may_name, page_row, row_field, row_fields, channel_fields, is_page, are_pages, is_sum, is_saved_block, are_saved_blocks, is_saved_row, are_saved_rows, IsSaved}
use Rattle.ssd_formats.specs.ImageHead.{Head}
use Rattle.ssd_formats.specs.InputFaults.{range}
use Rattle.ssd_formats.specs.InputFaults as faults
use Rattle.ssd_histories.specs.States.{is_bad}
use Rattle.ssd_geo.specs.Stripe.{parity_die, data_number}
use Rattle.ssd_geo.specs.Superblock.{due_pages, slots_of}
use Rattle.ssd_geo.specs.declared.base.BlockBase.{BlockBase}
use Rattle.ssd_geo.specs.declared.row.Row.{Row}
use Rattle.ssd_geo.specs.declared.row.Row.TheVariants.{Empty, Lost, Page}
use Rattle.ssd_geo.specs.declared.superblock.SbState.{SbState}
use Rattle.ssd_geo.specs.declared.superblock.SbState.TheVariants.{Free, Frontier, Sealed, Bad, Victim}
use Rattle.ssd_formats.proofs.HeadLaws.{within_is}
use Rattle.ssd_formats.proofs.SpelledHeads.{went_on, passed, value_else, never, on_part, on_number, on_any_64, on_field, levels_are, AreMore, all_snoc, still_bytes, after, whole_field, is_read, below_if, number_32_small, small_at, are_taken}
use Rattle.ssd_histories.proofs.UsedSlots.{due_used}

one_at_most : (b : Bool) → (if b then 1 else 0) ≤ 1
one_at_most true = omega arith
one_at_most false = omega arith

none_counted : (b : Bool) (n r : ℕ) → r ≡ 0 → (let counted : ℕ = if b && nat_lt n r then 1 else 0 in counted) ≡ 0
none_counted true n r e = grind (arith, common_steps)
none_counted false n r e = refl

-- no more pages are due than a block has
pub due_at_most : (pages dies sb used die : ℕ) → used ≤ slots_of pages dies → due_pages dies sb used die ≤ pages
due_at_most pages dies sb used die few =
    let d : ℕ = dies - 1 in
    let q : ℕ = used / d in
    let r : ℕ = used % d in
    let p : ℕ = parity_die dies sb q in
    let turned : pages * d ≡ d * pages = mul_comm pages d in
    let most : q ≤ pages = div-le_of_le-mul d (omega (arith, few, turned)) in
    let parts : d * q + r ≡ used = div-add-mod used d in
    elim (cases_lt q pages) [
      | inl lt ↦ omega (arith, lt, one_at_most (not (die == p) && nat_lt (data_number p die) r))
      | inr le ↦
          let same : q ≡ pages = omega (arith, most, le) in
          let whole : d * q ≡ d * pages = ap (λ n. d * n) same in
          let none : r ≡ 0 = omega (arith, parts, whole, few, turned) in
          let counted : ℕ = if not (die == p) && nat_lt (data_number p die) r then 1 else 0 in
          let nothing : counted ≡ 0 = none_counted (not (die == p)) (data_number p die) r none in
          omega (arith, nothing, most)
    ]

pub within_if : (n high : ℕ) → n ≤ high → is_within 0 high n ≡ true
within_if n high h = grind (arith, common_steps)

count_fits : (sizes : Sizes) (state : SbState) (sb used die n : ℕ) (bad : Bool) → is_bad state ≡ bad → used ≤ slots_of_sizes sizes → is_programmed_count sizes state sb used die n ≡ true → n ≤ sizes.pages
count_fits sizes state sb used die n true is few e =
    let due : ℕ = due_pages sizes.dies sb used die in
    let test : is_within due sizes.pages n ≡ true = ap (λ b. if b then is_within due sizes.pages n else (n == due)) (sym is) ∙ e in
    within_is due sizes.pages n test
count_fits sizes state sb used die n false is few e =
    let due : ℕ = due_pages sizes.dies sb used die in
    let test : (n == due) ≡ true = ap (λ b. if b then is_within due sizes.pages n else (n == due)) (sym is) ∙ e in
    omega (arith, eqb-true n due test, due_at_most sizes.pages sizes.dies sb used die few)

counts_snoc : (sizes : Sizes) (state : SbState) (sb used : ℕ) (xs pre : List ℕ) (n : ℕ) → are_programmed_counts sizes state sb used pre xs ≡ true →
    (is_programmed_count sizes state sb used (length (pre ++ xs)) n && is_within 0 sizes.pages n) ≡ true → are_programmed_counts sizes state sb used pre (xs ++ n ∷ []) ≡ true
counts_snoc sizes state sb used [] pre n e f =
    let here : (is_programmed_count sizes state sb used (length pre) n && is_within 0 sizes.pages n) ≡ true = ap (λ (l : List ℕ). is_programmed_count sizes state sb used (length l) n && is_within 0 sizes.pages n) (sym (append-nil pre)) ∙ f in rw here refl
counts_snoc sizes state sb used (x ∷ xs) pre n e f =
    let both = and_parts (is_programmed_count sizes state sb used (length pre) x && is_within 0 sizes.pages x) (are_programmed_counts sizes state sb used (pre ++ x ∷ []) xs) e in
    let later = counts_snoc sizes state sb used xs (pre ++ x ∷ []) n both.1 (ap (λ (l : List ℕ). is_programmed_count sizes state sb used (length l) n && is_within 0 sizes.pages n) (append_assoc pre (x ∷ []) xs) ∙ f) in
    rw (both.0, later) refl

-- what is known of the numbers of programmed pages that were read
record AreCounts (sizes : Sizes) (state : SbState) (sb used n : ℕ) (before : List ℕ) (x : List ℕ × Rest) : Type 0 where
  due : are_programmed_counts sizes state sb used [] x.0 ≡ true
  count : length x.0 ≡ length before + n
  left : are_bytes x.1.bytes ≡ true

counts_are : (sizes : Sizes) (state : SbState) (sb used n : ℕ) (before : List ℕ) (rest : Rest) (x : List ℕ × Rest) → used ≤ slots_of_sizes sizes → are_bytes rest.bytes ≡ true →
    are_programmed_counts sizes state sb used [] before ≡ true → programmed_fields sizes state sb used n before rest ≡ Ok x → AreCounts sizes state sb used n before x
unfolding programmed_fields
counts_are sizes state sb used zero before rest x few are good e =
    let same : (before, rest) ≡ x = ap (value_else x) e in
    subst (λ (p : List ℕ × Rest). AreCounts sizes state sb used zero before p) same (record { due = good; count = omega arith; left = are })
counts_are sizes state sb used (suc n) before rest x few are good e =
    on_number (AreCounts sizes state sb used (suc n) before x) (rest.place, faults.count) w16 (is_programmed_count sizes state sb used (length before)) rest _ x are e (λ s t b follows.
    let fits : is_within 0 sizes.pages s.0 ≡ true = within_if s.0 sizes.pages (count_fits sizes state sb used (length before) s.0 (is_bad state) refl few t) in
    let more = counts_are sizes state sb used n (before ++ s.0 ∷ []) s.1 x few b (counts_snoc sizes state sb used before [] s.0 good (rw (t, fits) refl)) follows in
    record { due = more.due; count = omega (arith, more.count, length-append before (s.0 ∷ [])); left = more.left })

pages_are : (cells n : ℕ) (before : List (List ℤ)) (rest : Rest) (x : List (List ℤ) × Rest) → are_bytes rest.bytes ≡ true → are_pages cells before ≡ true → page_fields cells n before rest ≡ Ok x → AreMore (is_page cells) n before x
unfolding page_fields
pages_are cells zero before rest x are good e =
    let same : (before, rest) ≡ x = ap (value_else x) e in
    subst (λ (p : List (List ℤ) × Rest). AreMore (is_page cells) zero before p) same (record { pass = good; count = omega arith; left = are })
pages_are cells (suc n) before rest x are good e =
    on_part (AreMore (is_page cells) (suc n) before x) (level_fields cells [] rest) _ x e (λ s read follows.
    let page = levels_are cells [] rest s are refl read in
    let size : (length s.0 == cells) ≡ true = eq-eqb (length s.0) cells (omega (arith, page.count)) in
    let is : is_page cells s.0 ≡ true = rw (size, page.pass) refl in
    let more = pages_are cells n (before ++ s.0 ∷ []) s.1 x page.left (all_snoc (is_page cells) before s.0 good is) follows in
    record { pass = more.pass; count = omega (arith, more.count, length-append before (s.0 ∷ [])); left = more.left })

-- what is known of the pages of dies that were read
record AreDies (cells : ℕ) (counts : List ℕ) (before : List (List (List ℤ))) (x : List (List (List ℤ)) × Rest) : Type 0 where
  pass : list_all (are_pages cells) x.0 ≡ true
  count : map length x.0 ≡ map length before ++ counts
  left : are_bytes x.1.bytes ≡ true

lengths_snoc : (xs : List (List (List ℤ))) (p : List (List ℤ)) → map length (xs ++ p ∷ []) ≡ map length xs ++ length p ∷ []
lengths_snoc [] p = refl
lengths_snoc (x ∷ xs) p = ap (λ (l : List ℕ). length x ∷ l) (lengths_snoc xs p)

dies_are : (cells : ℕ) (counts : List ℕ) (before : List (List (List ℤ))) (rest : Rest) (x : List (List (List ℤ)) × Rest) → are_bytes rest.bytes ≡ true → list_all (are_pages cells) before ≡ true →
    die_fields cells counts before rest ≡ Ok x → AreDies cells counts before x
unfolding die_fields
dies_are cells [] before rest x are good e =
    let same : (before, rest) ≡ x = ap (value_else x) e in
    subst (λ (p : List (List (List ℤ)) × Rest). AreDies cells [] before p) same (record { pass = good; count = sym (append-nil (map length before)); left = are })
dies_are cells (n ∷ counts) before rest x are good e =
    on_part (AreDies cells (n ∷ counts) before x) (page_fields cells n [] rest) _ x e (λ s read follows.
    let pages = pages_are cells n [] rest s are refl read in
    let size : length s.0 ≡ n = omega (arith, pages.count) in
    let more = dies_are cells counts (before ++ s.0 ∷ []) s.1 x pages.left (all_snoc (are_pages cells) before s.0 good pages.pass) follows in
    record {
      pass = more.pass;
      count = more.count ∙ (ap (λ (l : List ℕ). l ++ counts) (lengths_snoc before s.0) ∙ (append_assoc (map length before) (length s.0 ∷ []) counts ∙ ap (λ m. map length before ++ m ∷ counts) size));
      left = more.left;
    })

abbrev read_as : List ℕ × Rest → Reading (List ℕ)
read_as x = Ok x

abbrev some_of : {A : Type 0} → A → Option A
some_of x = Some x

abbrev some_else : {A : Type 0} → A → Option A → A
some_else other (Some x) = x
some_else other None = other

abbrev is_there : {A : Type 0} → Option A → Bool
is_there (Some x) = true
is_there None = false

found_value : {A : Type 0} (o : Option A) (fault : Fault) (rest : Rest) (x : A × Rest) → found_or o fault rest ≡ Ok x → (o ≡ Some x.0) × (rest ≡ x.1)
found_value (Some v) fault rest x e = let same : (v, rest) ≡ x = ap (value_else x) e in (ap (λ p. Some p.0) same, ap (λ p. p.1) same)
found_value None fault rest x e = absurd (never (ap is_read e))

-- a field whose bytes have a value
valued : {A : Type 0} (fault : Fault) (n : ℕ) (value : List ℕ → Option A) (rest : Rest) (x : A × Rest) → field_or fault n value rest ≡ Ok x →
    (field : List ℕ) × (length field ≡ n) × (value field ≡ Some x.0) × (x.1 ≡ after n rest)
valued fault n value rest x e =
    let step = went_on (bytes_field n rest) (λ field. found_or (value field.0) fault field.1) x e in
    let whole = whole_field n rest step.0 step.1 in
    let found = found_value (value step.0.0) fault step.0.1 x step.2 in
    (step.0.0, whole.0, found.0, sym found.1 ∙ whole.1)

some_is : {A : Type 0} (test : A → Bool) (b : Bool) (v x : A) → (if b then Some v else None) ≡ some_of x → (b ≡ true) × (v ≡ x)
some_is test true v x e = (refl, ap (some_else x) e)
some_is test false v x e = absurd (never (ap is_there e))

long_enough : (n : ℕ) (test : List ℕ → Bool) (rest : Rest) (x : List ℕ × Rest) (fault : Fault) → field_or fault n (passing test) rest ≡ Ok x → length x.0 ≡ n
long_enough n test rest x fault e =
    let parts = valued fault n (passing test) rest x e in
    let same = some_is test (test parts.0) parts.0 x.0 parts.2 in
    ap (λ (l : List ℕ). length l) (sym same.1) ∙ parts.1

-- what is known of a sum that was read
record IsSumRead (head : Head) (block : BlockBase) (x : List ℕ × Rest) : Type 0 where
  is : is_sum head block x.0 ≡ true
  left : are_bytes x.1.bytes ≡ true

sum_is : (head : Head) (block : BlockBase) (rest : Rest) (x : List ℕ × Rest) (b : Bool) → is_stripe_open head.sizes block ≡ b → are_bytes rest.bytes ≡ true → sum_field head block rest ≡ Ok x → IsSumRead head block x
sum_is head block rest x true o are e =
    let n : ℕ = word_bytes_of head.sizes in
    let is_checked : List ℕ → Bool = is_page_word head in
    let read : Reading (List ℕ) = field_or (rest.place, faults.sum) n (passing is_checked) rest in
    let whole : read ≡ Ok x = ap (λ c. if c then read else Ok ([], rest)) (sym o) ∙ e in
    let parts = passed (rest.place, faults.sum) n is_checked (λ bytes. bytes) rest x whole in
    let long = long_enough n is_checked rest x (rest.place, faults.sum) whole in
    let test : (length x.0 == n && is_checked x.0) ≡ true = rw (eq-eqb (length x.0) n long, parts.0) refl in
    record { is = ap (λ c. if c then (length x.0 == n && is_checked x.0) else (length x.0 == 0)) o ∙ test; left = still_bytes n rest x.1 are parts.2 }
sum_is head block rest x false o are e =
    let n : ℕ = word_bytes_of head.sizes in
    let is_checked : List ℕ → Bool = is_page_word head in
    let read : Reading (List ℕ) = field_or (rest.place, faults.sum) n (passing is_checked) rest in
    let none : read_as ([], rest) ≡ Ok x = ap (λ c. if c then read else Ok ([], rest)) (sym o) ∙ e in
    let same : ([], rest) ≡ x = ap (value_else x) none in
    let known : IsSumRead head block ([], rest) = record { is = ap (λ c. if c then (length {A = ℕ} [] == n && is_checked []) else (length {A = ℕ} [] == 0)) o; left = are } in
    subst (λ (p : List ℕ × Rest). IsSumRead head block p) same known

known_state : (test : SbState → Bool) (o : Option SbState) (state : SbState) → option_map_or (passing test) o None ≡ some_of state → test state ≡ true
known_state test (Some s) state e =
    let parts = some_is test (test s) s state e in ap test (sym parts.1) ∙ parts.0
known_state test None state e = absurd (never (ap is_there e))

-- what is known of a superblock that was read
record IsBlockRead (head : Head) (channel : ℕ) (before : List SavedBlock) (x : SavedBlock × Rest) : Type 0 where
  is : is_saved_block head channel before x.0 ≡ true
  left : are_bytes x.1.bytes ≡ true

abbrev block_pair : SavedBlock × Rest → Reading SavedBlock
block_pair x = Ok x

block_given : (head : Head) (channel : ℕ) (before : List SavedBlock) (saved : SavedBlock) (rest : Rest) (x : SavedBlock × Rest) → Ok (saved, rest) ≡ block_pair x →
    is_saved_block head channel before saved ≡ true → are_bytes rest.bytes ≡ true → IsBlockRead head channel before x
block_given head channel before saved rest x e is are =
    let same : (saved, rest) ≡ x = ap (value_else x) e in
    subst (λ (p : SavedBlock × Rest). IsBlockRead head channel before p) same (record { is = is; left = are })

block_is : (head : Head) (channel : ℕ) (before : List SavedBlock) (rest : Rest) (x : SavedBlock × Rest) → are_bytes rest.bytes ≡ true → block_fields head channel before rest ≡ Ok x → IsBlockRead head channel before x
unfolding block_fields
block_is head channel before rest x are e =
    let sizes : Sizes = head.sizes in
    on_part (IsBlockRead head channel before x) (state_field head channel before rest) _ x e (λ st read0 n0.
    let v = valued (rest.place, faults.state) 1 (state_of_bytes head channel before) rest st read0 in
    let may = known_state (may_be head channel before) (state_of_number (from_le_bytes w8 v.0)) st.0 v.2 in
    on_number (IsBlockRead head channel before x) (st.1.place, range) w32 (is_within 0 (2 ^ 31)) st.1 _ x (still_bytes 1 rest st.1 are v.3) n0 (λ er te be n1.
    on_field (IsBlockRead head channel before x) (er.1.place, faults.count) 4 (has_due_used (slots_of_sizes sizes) st.0) (from_le_bytes w32) er.1 _ x be n1 (λ us tu vu bu n2.
    let low : is_below (2 ^ 32) us.0 ≡ true = below_if us.0 (2 ^ 32) (omega (arith, vu, number_32_small (take 4 er.1.bytes) (small_at (take 4 er.1.bytes) (are_taken 4 er.1.bytes be)))) in
    on_part (IsBlockRead head channel before x) (programmed_fields sizes st.0 (length before) us.0 sizes.dies [] us.1) _ x n2 (λ pr read3 n3.
    let counts = counts_are sizes st.0 (length before) us.0 sizes.dies [] us.1 pr (due_used (slots_of_sizes sizes) st.0 us.0 tu) bu refl read3 in
    on_part (IsBlockRead head channel before x) (die_fields (page_cells_of sizes) pr.0 [] pr.1) _ x n3 (λ pg read4 n4.
    let pages = dies_are (page_cells_of sizes) pr.0 [] pr.1 pg counts.left refl read4 in
    let block : BlockBase = record { state = st.0; erases = er.0; used = us.0 } in
    on_part (IsBlockRead head channel before x) (sum_field head block pg.1) _ x n4 (λ sm read5 n5.
    let sum = sum_is head block pg.1 sm (is_stripe_open sizes block) refl pages.left read5 in
    let sizes_of_all : length (map length pg.0) ≡ length pg.0 = length-map pg.0 length in
    let same_sizes : length (map length pg.0) ≡ length pr.0 = ap (λ (l : List ℕ). length l) pages.count in
    let all : length pg.0 ≡ sizes.dies = omega (arith, sizes_of_all, same_sizes, counts.count) in
    let each : (length pg.0 == sizes.dies) ≡ true = eq-eqb (length pg.0) sizes.dies all in
    let due : are_programmed_counts sizes st.0 (length before) us.0 [] (map length pg.0) ≡ true = ap (are_programmed_counts sizes st.0 (length before) us.0 []) pages.count ∙ counts.due in
    block_given head channel before (record { block = block; pages = pg.0; sum = sm.0 }) sm.1 x n5 (rw (may, te, low, tu, each, due, pages.pass, sum.is) refl) sum.left))))))

blocks_snoc : (head : Head) (channel : ℕ) (xs pre : List SavedBlock) (b : SavedBlock) → are_saved_blocks head channel pre xs ≡ true → is_saved_block head channel (pre ++ xs) b ≡ true → are_saved_blocks head channel pre (xs ++ b ∷ []) ≡ true
blocks_snoc head channel [] pre b e f =
    let here : is_saved_block head channel pre b ≡ true = ap (λ l. is_saved_block head channel l b) (sym (append-nil pre)) ∙ f in rw here refl
blocks_snoc head channel (x ∷ xs) pre b e f =
    let both = and_parts (is_saved_block head channel pre x) (are_saved_blocks head channel (pre ++ x ∷ []) xs) e in
    let later = blocks_snoc head channel xs (pre ++ x ∷ []) b both.1 (ap (λ l. is_saved_block head channel l b) (append_assoc pre (x ∷ []) xs) ∙ f) in
    rw (both.0, later) refl

-- what is known of a list that was read
record AreGood {A : Type 0} (are_good : List A → Bool) (n : ℕ) (before : List A) (x : List A × Rest) : Type 0 where
  good : are_good x.0 ≡ true
  count : length x.0 ≡ length before + n
  left : are_bytes x.1.bytes ≡ true

blocks_are : (head : Head) (channel n : ℕ) (before : List SavedBlock) (rest : Rest) (x : List SavedBlock × Rest) → are_bytes rest.bytes ≡ true → are_saved_blocks head channel [] before ≡ true →
    blocks_fields head channel n before rest ≡ Ok x → AreGood (are_saved_blocks head channel []) n before x
unfolding blocks_fields
blocks_are head channel zero before rest x are good e =
    let same : (before, rest) ≡ x = ap (value_else x) e in
    subst (λ (p : List SavedBlock × Rest). AreGood (are_saved_blocks head channel []) zero before p) same (record { good = good; count = omega arith; left = are })
blocks_are head channel (suc n) before rest x are good e =
    on_part (AreGood (are_saved_blocks head channel []) (suc n) before x) (block_fields head channel before rest) _ x e (λ s read follows.
    let known = block_is head channel before rest s are read in
    let more = blocks_are head channel n (before ++ s.0 ∷ []) s.1 x known.left (blocks_snoc head channel before [] s.0 good known.is) follows in
    record { good = more.good; count = omega (arith, more.count, length-append before (s.0 ∷ [])); left = more.left })

-- what is known of a row that was read
record IsRowRead (sizes : Sizes) (blocks : List BlockBase) (before : List Row) (x : Row × Rest) : Type 0 where
  is : is_saved_row sizes blocks before x.0 ≡ true
  left : are_bytes x.1.bytes ≡ true

abbrev row_pair : Row × Rest → Reading Row
row_pair x = Ok x

row_given : (sizes : Sizes) (blocks : List BlockBase) (before : List Row) (of : Row) (rest : Rest) (x : Row × Rest) → Ok (of, rest) ≡ row_pair x →
    is_saved_row sizes blocks before of ≡ true → are_bytes rest.bytes ≡ true → IsRowRead sizes blocks before x
row_given sizes blocks before of rest x e is are =
    let same : (of, rest) ≡ x = ap (value_else x) e in
    subst (λ (p : Row × Rest). IsRowRead sizes blocks before p) same (record { is = is; left = are })

page_row_is : (sizes : Sizes) (blocks : List BlockBase) (before : List Row) (fault : Fault) (rest : Rest) (x : Row × Rest) → are_bytes rest.bytes ≡ true → page_row sizes blocks before fault rest ≡ Ok x → IsRowRead sizes blocks before x
unfolding page_row
page_row_is sizes blocks before fault rest x are e =
    on_number (IsRowRead sizes blocks before x) fault w16 (is_below sizes.superblocks) rest _ x are e (λ sb tb bb n0.
    on_field (IsRowRead sizes blocks before x) fault 4 (λ index. may_name blocks before (record { sb = sb.0; index = index })) (from_le_bytes w32) sb.1 _ x bb n0 (λ ix ti vi bi n1.
    let low : is_below (2 ^ 32) ix.0 ≡ true = below_if ix.0 (2 ^ 32) (omega (arith, vi, number_32_small (take 4 sb.1.bytes) (small_at (take 4 sb.1.bytes) (are_taken 4 sb.1.bytes bb)))) in
    on_any_64 (IsRowRead sizes blocks before x) ix.1 _ x bi n1 (λ sr ts bs n2.
    row_given sizes blocks before (Page (record { sb = sb.0; index = ix.0 }) sr.0) sr.1 x n2 (rw (tb, low, ts, ti) refl) bs)))

row_chosen : (sizes : Sizes) (blocks : List BlockBase) (before : List Row) (b c : Bool) (fault : Fault) (rest : Rest) (x : Row × Rest) → are_bytes rest.bytes ≡ true →
    (if b then Ok (Empty, rest) else (if c then page_row sizes blocks before fault rest else Ok (Lost, rest))) ≡ row_pair x → IsRowRead sizes blocks before x
row_chosen sizes blocks before true c fault rest x are e = row_given sizes blocks before Empty rest x e refl are
row_chosen sizes blocks before false true fault rest x are e = page_row_is sizes blocks before fault rest x are e
row_chosen sizes blocks before false false fault rest x are e = row_given sizes blocks before Lost rest x e refl are

row_is : (sizes : Sizes) (blocks : List BlockBase) (before : List Row) (rest : Rest) (x : Row × Rest) → are_bytes rest.bytes ≡ true → row_field sizes blocks before rest ≡ Ok x → IsRowRead sizes blocks before x
unfolding row_field
row_is sizes blocks before rest x are e =
    on_number (IsRowRead sizes blocks before x) (rest.place, faults.row) w8 (is_within 0 2) rest _ x are e (λ kd tk bk n0.
    row_chosen sizes blocks before (kd.0 == 0) (kd.0 == 1) (rest.place, faults.row) kd.1 x bk n0)

rows_snoc : (sizes : Sizes) (blocks : List BlockBase) (xs pre : List Row) (of : Row) → are_saved_rows sizes blocks pre xs ≡ true → is_saved_row sizes blocks (pre ++ xs) of ≡ true → are_saved_rows sizes blocks pre (xs ++ of ∷ []) ≡ true
rows_snoc sizes blocks [] pre of e f =
    let here : is_saved_row sizes blocks pre of ≡ true = ap (λ l. is_saved_row sizes blocks l of) (sym (append-nil pre)) ∙ f in rw here refl
rows_snoc sizes blocks (x ∷ xs) pre of e f =
    let both = and_parts (is_saved_row sizes blocks pre x) (are_saved_rows sizes blocks (pre ++ x ∷ []) xs) e in
    let later = rows_snoc sizes blocks xs (pre ++ x ∷ []) of both.1 (ap (λ l. is_saved_row sizes blocks l of) (append_assoc pre (x ∷ []) xs) ∙ f) in
    rw (both.0, later) refl

rows_are : (sizes : Sizes) (blocks : List BlockBase) (n : ℕ) (before : List Row) (rest : Rest) (x : List Row × Rest) → are_bytes rest.bytes ≡ true → are_saved_rows sizes blocks [] before ≡ true →
    row_fields sizes blocks n before rest ≡ Ok x → AreGood (are_saved_rows sizes blocks []) n before x
unfolding row_fields
rows_are sizes blocks zero before rest x are good e =
    let same : (before, rest) ≡ x = ap (value_else x) e in
    subst (λ (p : List Row × Rest). AreGood (are_saved_rows sizes blocks []) zero before p) same (record { good = good; count = omega arith; left = are })
rows_are sizes blocks (suc n) before rest x are good e =
    on_part (AreGood (are_saved_rows sizes blocks []) (suc n) before x) (row_field sizes blocks before rest) _ x e (λ s read follows.
    let known = row_is sizes blocks before rest s are read in
    let more = rows_are sizes blocks n (before ++ s.0 ∷ []) s.1 x known.left (rows_snoc sizes blocks before [] s.0 good known.is) follows in
    record { good = more.good; count = omega (arith, more.count, length-append before (s.0 ∷ [])); left = more.left })

pub contents_have_spelling : (head : Head) (channel : ℕ) (rest : Rest) (x : ChannelImage × Rest) → are_bytes rest.bytes ≡ true → channel_fields head channel rest ≡ Ok x → IsSaved head channel x.0
unfolding channel_fields
contents_have_spelling head channel rest x are e =
    on_part (IsSaved head channel x.0) (blocks_fields head channel head.sizes.superblocks [] rest) _ x e (λ bs read0 n0.
    let blocks = blocks_are head channel head.sizes.superblocks [] rest bs are refl read0 in
    on_part (IsSaved head channel x.0) (row_fields head.sizes (blocks_of_saved bs.0) head.sizes.rows [] bs.1) _ x n0 (λ rs read1 n1.
    let rows = rows_are head.sizes (blocks_of_saved bs.0) head.sizes.rows [] bs.1 rs blocks.left refl read1 in
    let saved : ChannelImage = record { blocks = bs.0; rows = rs.0 } in
    let known : IsSaved head channel saved = record {
      block_count = omega (arith, blocks.count);
      blocks = blocks.good;
      row_count = omega (arith, rows.count);
      rows = rows.good;
    } in
    let same : (saved, rs.1) ≡ x = ap (value_else x) n1 in
    subst (λ (p : ChannelImage × Rest). IsSaved head channel p.0) same known))
