-- The list of erased superblocks and the marks beside it, when a superblock is moved to the list's end.
use Rattle.std.proofs.Common.{eq-eqb, ◌≡◌, ℕ, zero, suc, ◌+◌, ◌<◌, ◌≤◌, ◌==◌, inl, inr, List, [], ◌∷◌, ◌++◌, length, get_or, set, take, replicate, Bool, true, false, not, ◌||◌, cond, refl, arith, ap, ◌∙◌, sym}
use Rattle.std.specs.List.{count_by, filter, list_any}
use Rattle.std.proofs.lemmas.Bool.{cases_eq, eqb-true, ne_eqb}
use Rattle.std.proofs.lemmas.List.{get_or-set_same, get_or-set_other, length-append, length-set, length-take, take_more_set}
use Rattle.std.proofs.lemmas.List.Folds.{list_any-append}
use Rattle.std.proofs.lemmas.List.Sums.{count_by-le-length, length-filter, sum_by-set}
use Rattle.ssd_histories.specs.Policies.{moved_to_end}
use Rattle.victim.specs.Listed.{AreListed}
use Rattle.shared_lemmas.proofs.Lists.{no_mark}
use Rattle.shared_lemmas.proofs.Tests.{or_false}

-- whether a number isn't this one
abbrev pub is_other : ℕ → ℕ → Bool
is_other sb other = not (other == sb)

pub listed_none : AreListed [] 0 (replicate 256 false)
listed_none = record { len_is = refl; marks_len = refl; few = omega arith; marked = λ sb. no_mark 256 sb }

-- a list without a number that stands in it is shorter
shorter_by : (sb x : ℕ) (xs : List ℕ) (same : Bool)
    → (list_any (λ other. other == sb) xs ≡ true → length (filter (is_other sb) xs) + 1 ≤ length xs)
    → (same || list_any (λ other. other == sb) xs) ≡ true
    → length (cond (not same) (x ∷ filter (is_other sb) xs) (filter (is_other sb) xs)) + 1 ≤ length (x ∷ xs)
shorter_by sb x xs true ih any = omega (arith, length-filter (is_other sb) xs, count_by-le-length (is_other sb) xs)
shorter_by sb x xs false ih any = omega (arith, ih any)

shorter : (sb : ℕ) (xs : List ℕ) → list_any (λ other. other == sb) xs ≡ true → length (filter (is_other sb) xs) + 1 ≤ length xs
shorter sb [] any = cc
shorter sb (x ∷ xs) any = shorter_by sb x xs (x == sb) (shorter sb xs) any

-- a list without a number has every other number that it had
any_by : (sb k x : ℕ) (xs : List ℕ) (same : Bool) → (x == sb) ≡ same → (k ≡ sb → ⊥)
    → list_any (λ other. other == k) (filter (is_other sb) xs) ≡ list_any (λ other. other == k) xs
    → list_any (λ other. other == k) (cond (not same) (x ∷ filter (is_other sb) xs) (filter (is_other sb) xs))
    ≡ ((x == k) || list_any (λ other. other == k) xs)
any_by sb k x xs true is_same differ ih =
    let x_is : x ≡ sb = eqb-true x sb is_same in
    let other : (x == k) ≡ false = ne_eqb x k (λ e. differ (sym e ∙ x_is)) in
    rw other ih
any_by sb k x xs false is_same differ ih = ap (λ b. (x == k) || b) ih

any_kept : (sb k : ℕ) (xs : List ℕ) → (k ≡ sb → ⊥)
    → list_any (λ other. other == k) (filter (is_other sb) xs) ≡ list_any (λ other. other == k) xs
any_kept sb k [] differ = refl
any_kept sb k (x ∷ xs) differ = any_by sb k x xs (x == sb) refl differ (any_kept sb k xs differ)

-- how long the list is without a number, and one more: at most as many as the marks that are then set
room_by : (list : List ℕ) (len sb : ℕ) (marks : List Bool) (mark : Bool) → get_or marks sb false ≡ mark
    → AreListed list len marks → sb < 256
    → length (filter (is_other sb) list) + 1 ≤ count_by (λ m. m) (set marks sb true)
room_by list len sb marks true is_mark listed lt =
    let in_marks : sb < length marks = omega (arith, listed.marks_len) in
    let after = rw is_mark at (sum_by-set (λ m. cond m 1 0) marks sb true false in_marks) in
    omega (arith, after, shorter sb list (sym (listed.marked sb) ∙ is_mark), listed.len_is, listed.few)
room_by list len sb marks false is_mark listed lt =
    let in_marks : sb < length marks = omega (arith, listed.marks_len) in
    let after = rw is_mark at (sum_by-set (λ m. cond m 1 0) marks sb true false in_marks) in
    omega (arith, after, length-filter (is_other sb) list, count_by-le-length (is_other sb) list, listed.len_is, listed.few)

or_true : (b : Bool) → (b || true) ≡ true
or_true true = refl
or_true false = refl

marked_by : (list : List ℕ) (len sb : ℕ) (marks : List Bool) → AreListed list len marks → sb < 256 → (k : ℕ)
    → get_or (set marks sb true) k false ≡ list_any (λ other. other == k) (moved_to_end list sb)
marked_by list len sb marks listed lt k =
    let in_marks : sb < length marks = omega (arith, listed.marks_len) in
    rw list_any-append
    (elim (cases_eq k sb) [
      | inl e ↦ rw (e, get_or-set_same marks sb true false in_marks, eq-eqb sb sb refl) (sym (or_true _))
      | inr ne ↦
          let apart : (sb == k) ≡ false = ne_eqb sb k (λ e. ne (sym e)) in
          rw (get_or-set_other marks sb k true false ne, apart, any_kept sb k list ne) (listed.marked k ∙ sym (or_false _))
    ])

-- what is known once the superblock stands behind those that were kept
pub record IsMoved (list order : List ℕ) (kept sb : ℕ) (marks : List Bool) : Type 0 where
  pub in_range : kept < 256
  pub list_is : take (kept + 1) (set order kept sb) ≡ moved_to_end list sb
  pub listed : AreListed (take (kept + 1) (set order kept sb)) (kept + 1) (set marks sb true)

pub listed_more : (list order : List ℕ) (len kept sb : ℕ) (marks : List Bool) → AreListed list len marks → sb < 256
    → length order ≡ 256 → kept ≤ len → take kept order ≡ filter (is_other sb) list → IsMoved list order kept sb marks
listed_more list order len kept sb marks listed lt order_len le is_kept =
    let most : len ≤ 256 = omega (arith, listed.few, listed.marks_len, count_by-le-length (λ m. m) marks) in
    let kept_len : length (filter (is_other sb) list) ≡ kept =
    sym (ap length is_kept) ∙ omega (arith, length-take kept order) in
    let room = room_by list len sb marks (get_or marks sb false) refl listed lt in
    let fits : kept < 256 =
    omega (arith, room, count_by-le-length (λ m. m) (set marks sb true), length-set marks sb true, listed.marks_len) in
    let moved : take (kept + 1) (set order kept sb) ≡ moved_to_end list sb =
    take_more_set order kept sb (omega arith) ∙ ap (λ l. l ++ sb ∷ []) is_kept in
    record {
      in_range = fits;
      list_is = moved;
      listed = rw moved (record {
        len_is = length-append (filter (is_other sb) list) (sb ∷ []) ∙ omega arith;
        marks_len = length-set marks sb true ∙ listed.marks_len;
        few = omega arith;
        marked = marked_by list len sb marks listed lt;
      });
    }
