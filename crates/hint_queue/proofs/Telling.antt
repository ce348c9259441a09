-- Each step on the counts keeps their rule.
use Rattle.std.proofs.Common.{◌≡◌, ◌≢◌, ◌⊎◌, ◌==◌, eqb, eq-eqb, ne_eqb, cond, Bool, ℕ, zero, suc, ◌+◌, ◌-◌, ◌%◌, ◌^◌, ◌<◌, ◌≤◌, List, [], ◌∷◌, ◌++◌, length, get_or, set, replicate, refl, sym, ap, ◌∙◌, subst, inl, inr, ⊎_elim, arith, length-set, get_or-set_same, get_or-set_other}
use Rattle.std.proofs.Math.Nat.{mod-add-mod, mod-le}
use Rattle.std.proofs.lemmas.List.{get_or_past}
use Rattle.std.proofs.lemmas.List.Sums.{sum_by-append, sum_by-cons}
use Rattle.std.specs.List.{count_by, sum_by}
use mathlib.Core.Logic.{dite}
use mathlib.Core.Option.{none, some, some-injective, some-ne-none}
use native.Mathlib.Decide.{dec_lt, ℕ_discrete}
use lib.ListN.{get_elem?}
use lib.Seq.{set-get_or}
use Rattle.atomic_table.specs.Table.{Allows, Joins, Splits, State, keeps, opening, step}
use Rattle.atomic_table.proofs.Lists.{set_else}
use Rattle.hint_queue.specs.Counts.{AreBelow, FitsTally, IsCounted, Looks, Settles, Teller, Tells, all_times, first_tally, no_tally, one_share, seeing, share_left, share_right, telling, times, united}
use Rattle.hint_queue.specs.declared.counts.Sight.{Sight}
use Rattle.hint_queue.specs.declared.counts.Tally.{Tally}
use Rattle.hint_queue.proofs.Seats.{each_set}
use Rattle.shared_lemmas.proofs.Lists.{last_or_before}

-- a sum over seats, of which one changes
sum_set : {A : Type 0} (f : A → ℕ) (xs : List A) (id : ℕ) (was is : A) → get_elem? xs id ≡ some was → sum_by f (set xs id is) + f was ≡ sum_by f xs + f is
sum_set f [] id was is e = absurd (some-ne-none was (sym e))
sum_set f (x ∷ xs) zero was is e = let same = ap f (some-injective x was e) in omega (arith, sum_by-cons f x xs, sum_by-cons f is xs, same)
sum_set f (x ∷ xs) (suc id) was is e = omega (arith, sum_by-cons f x xs, sum_by-cons f x (set xs id is), sum_set f xs id was is e)

sum_snoc : {A : Type 0} (f : A → ℕ) (xs : List A) (x : A) → sum_by f (xs ++ x ∷ []) ≡ sum_by f xs + f x
sum_snoc f xs x = omega (arith, sum_by-append f xs (x ∷ []), sum_by-cons f x [])

sum_least : {A : Type 0} (f : A → ℕ) (xs : List A) (id : ℕ) (x : A) → get_elem? xs id ≡ some x → f x ≤ sum_by f xs
sum_least f [] id x e = absurd (some-ne-none x (sym e))
sum_least f (y ∷ xs) zero x e = let same = ap f (some-injective y x e) in omega (arith, sum_by-cons f y xs, same)
sum_least f (y ∷ xs) (suc id) x e = omega (arith, sum_by-cons f y xs, sum_least f xs id x e)

pub times_append : (word : ℕ) (xs ys : List ℕ) → times word (xs ++ ys) ≡ times word xs + times word ys
times_append word xs ys = sum_by-append (λ other. cond (other == word) 1 0) xs ys

-- one more in a word
abbrev pub tick : ℕ → ℕ → ℕ
tick word other = cond (other == word) 1 0

pub times_same : (word : ℕ) (xs : List ℕ) → times word (xs ++ word ∷ []) ≡ times word xs + 1
times_same word xs =
    let one : tick word word ≡ 1 = ap (λ (b : Bool). let n : ℕ = cond b 1 0 in n) (eq-eqb word word refl) in
    omega (arith, times_append word xs (word ∷ []), sum_by-cons (tick word) word [], one)

pub times_other : (word other : ℕ) (xs : List ℕ) → other ≢ word → times word (xs ++ other ∷ []) ≡ times word xs
times_other word other xs not =
    let zero_is : tick word other ≡ 0 = ap (λ (b : Bool). let n : ℕ = cond b 1 0 in n) (ne_eqb other word not) in
    omega (arith, times_append word xs (other ∷ []), sum_by-cons (tick word) other [], zero_is)

below_more : (most more : ℕ → ℕ) → ((word : ℕ) → most word ≤ more word) → (sights : List Sight) → AreBelow most sights → AreBelow more sights
below_more most more le [] below = tt
below_more most more le (sight ∷ sights) below = let first = below.0 in let here = le sight.word in (omega arith, below_more most more le sights below.1)

below_append : (most : ℕ → ℕ) (xs ys : List Sight) → AreBelow most xs → AreBelow most ys → AreBelow most (xs ++ ys)
below_append most [] ys one two = two
below_append most (x ∷ xs) ys one two = (one.0, below_append most xs ys one.1 two)

-- what a seat knows is so when more is told
fits_more : (shares : ℕ) (before after : List Tally) → ((word : ℕ) → all_times word before ≤ all_times word after) → (tally : Tally) → FitsTally shares before tally → FitsTally shares after tally
fits_more shares before after le tally fits = record {
  total = fits.total;
  tells = fits.tells;
  seen = below_more (λ word. all_times word before) (λ word. all_times word after) le tally.seen fits.seen;
}

module _ (passes : ℕ) where
  zeros : (count word : ℕ) → ◌≡◌ {A = ℕ} (get_or (replicate count 0) word 0) 0
  zeros zero word = refl
  zeros (suc count) zero = refl
  zeros (suc count) (suc word) = zeros count word

  first_seat : (seat : ℕ) (tally : Tally) → get_elem? (first_tally passes ∷ []) seat ≡ some tally → FitsTally passes (first_tally passes ∷ []) tally
  first_seat zero tally e = subst (FitsTally passes (first_tally passes ∷ [])) (some-injective (first_tally passes) tally e) (record { total = inr refl; tells = λ _. refl; seen = tt })
  first_seat (suc seat) tally e = absurd (some-ne-none tally (sym e))

  pub counts_begin : (count : ℕ) → IsCounted (opening (replicate count 0) [] (first_tally passes))
  counts_begin count = record {
    total = passes;
    shares = omega (arith, sum_by-cons (λ (tally : Tally). tally.share) (first_tally passes) []);
    words = λ word low. zeros count word;
    each_seat = first_seat;
  }

-- one more was told in a word
told_more : (views : List Tally) (id word : ℕ) (me : Tally) → get_elem? views id ≡ some me → (other : ℕ) → (other ≡ word → all_times other (set views id (telling word me)) ≡ all_times other views + 1) × (other ≢ word → all_times other (set views id (telling word me)) ≡ all_times other views)
told_more views id word me at other =
    let sums = sum_set (λ (tally : Tally). times other tally.told) views id me (telling word me) at in (
      λ e. let one : times other (me.told ++ word ∷ []) ≡ times other me.told + 1 = subst (λ (w : ℕ). times other (me.told ++ w ∷ []) ≡ times other me.told + 1) e (times_same other me.told) in omega (arith, sums, one),
      λ not. let none = times_other other word me.told (λ e. not (sym e)) in omega (arith, sums, none),
    )

told_least : (views : List Tally) (id word : ℕ) (me : Tally) → get_elem? views id ≡ some me → (other : ℕ) → all_times other views ≤ all_times other (set views id (telling word me))
told_least views id word me at other = dite (ℕ_discrete other word)
    (λ (e : other ≡ word). let more = (told_more views id word me at other).0 e in omega (arith, more))
    (λ (n : other ≢ word). let more = (told_more views id word me at other).1 n in omega (arith, more))

pub tells : (slots id word : ℕ) (me : Teller) → 1 ≤ me.0.share → Allows IsCounted slots id me word (λ n. (n + 1) % 2 ^ 64) (Tells (step slots word 1 0 none) me)
tells slots id word me some_share s k _ at _ =
    let changed : Tally = telling word me.0 in
    let after : List Tally = set s.views id changed in
    let mine = k.each_seat id me.0 at in
    let words : List ℕ = set s.words word ((get_or s.words word 0 + 1) % 2 ^ 64) in
    let counted : (other : ℕ) → other < length words → get_or words other 0 ≡ all_times other after % 2 ^ 64 = λ other low.
    let low' : other < length s.words = let same = length-set s.words word ((get_or s.words word 0 + 1) % 2 ^ 64) in omega (arith, same) in
    dite (ℕ_discrete other word)
    (λ (e : other ≡ word).
    let here : get_or words word 0 ≡ (get_or s.words word 0 + 1) % 2 ^ 64 = get_or-set_same s.words word ((get_or s.words word 0 + 1) % 2 ^ 64) 0 (subst (λ (n : ℕ). n < length s.words) e low') in
    ap (λ n. get_or words n 0) e
    ∙ (here
    ∙ (ap (λ n. (n + 1) % 2 ^ 64) (ap (λ n. get_or s.words n 0) (sym e) ∙ k.words other low')
    ∙ (mod-add-mod (all_times other s.views) (2 ^ 64) 1
    ∙ ap (λ n. n % 2 ^ 64) (sym ((told_more s.views id word me.0 at other).0 e))))))
    (λ (n : other ≢ word).
    get_or-set_other s.words word other ((get_or s.words word 0 + 1) % 2 ^ 64) 0 n
    ∙ (k.words other low' ∙ ap (λ n. n % 2 ^ 64) (sym ((told_more s.views id word me.0 at other).1 n)))) in (
      changed,
      keeps,
      tt,
      record {
        total = k.total;
        shares = let sums = sum_set (λ (tally : Tally). tally.share) s.views id me.0 changed at in let whole = k.shares in omega (arith, sums, whole);
        words = counted;
        each_seat = each_set (λ _. FitsTally k.total after) s.views id changed
            (let more = fits_more k.total s.views after (told_least s.views id word me.0 at) me.0 mine in record { total = more.total; tells = λ none. absurd (omega arith); seen = more.seen })
            (λ seat tally apart there. fits_more k.total s.views after (told_least s.views id word me.0 at) tally (k.each_seat seat tally there));
      },
      refl,
    )

-- a seat's sights don't change what was told
same_told : (views : List Tally) (id : ℕ) (me changed : Tally) → get_elem? views id ≡ some me → changed.told ≡ me.told → (word : ℕ) → all_times word (set views id changed) ≡ all_times word views
same_told views id me changed at same word =
    let sums = sum_set (λ (tally : Tally). times word tally.told) views id me changed at in
    let told = ap (times word) same in omega (arith, sums, told)

found_least : (s : State ℕ Tally) (k : IsCounted s) (word : ℕ) → get_or s.words word 0 ≤ all_times word s.views
found_least s k word = dite (dec_lt word (length s.words))
    (λ (low : word < length s.words). let is = k.words word low in let least = mod-le (all_times word s.views) (2 ^ 64) in omega (arith, is, least))
    (λ high. let none : get_or s.words word 0 ≡ 0 = get_or_past s.words word 0 (omega arith) in omega (arith, none))

pub looks : (slots id word : ℕ) (me : Teller) → Allows IsCounted slots id me word (λ n. n) (Looks (step slots word 0 0 none) me)
looks slots id word me s k _ at _ =
    let found : ℕ = get_or s.words word 0 in
    let changed : Tally = seeing word found me.0 in
    let after : List Tally = set s.views id changed in
    let mine = k.each_seat id me.0 at in
    let same = same_told s.views id me.0 changed at refl in
    let least : (w : ℕ) → all_times w s.views ≤ all_times w after = λ w. let e = same w in omega (arith, e) in (
      changed,
      keeps,
      tt,
      subst (λ (ws : List ℕ). IsCounted record { words = ws; homes = s.homes; views = after }) (sym (set-get_or s.words word 0)) record {
        total = k.total;
        shares = let sums = sum_set (λ (tally : Tally). tally.share) s.views id me.0 changed at in let whole = k.shares in omega (arith, sums, whole);
        words = λ w low. k.words w low ∙ ap (λ n. n % 2 ^ 64) (sym (same w));
        each_seat = each_set (λ _. FitsTally k.total after) s.views id changed
            (let more = fits_more k.total s.views after least me.0 mine in record {
              total = more.total;
              tells = more.tells;
              seen = (let here = found_least s k word in let there = least word in omega (arith, here, there), more.seen);
            })
            (λ seat tally apart there. fits_more k.total s.views after least tally (k.each_seat seat tally there));
      },
      refl,
    )

-- seats without a share told nothing
none_told : (word : ℕ) (views : List Tally) → sum_by (λ tally. tally.share) views ≡ 0 → ((seat : ℕ) (tally : Tally) → get_elem? views seat ≡ some tally → tally.share ≡ 0 → tally.told ≡ []) → all_times word views ≡ 0
none_told word [] nothing nil = refl
none_told word (x ∷ xs) nothing nil =
    let shares = sum_by-cons (λ (tally : Tally). tally.share) x xs in
    let lacks : x.share ≡ 0 = omega (arith, shares, nothing) in
    let empty : times word x.told ≡ 0 = ap (times word) (nil 0 x refl lacks) in
    let rest = none_told word xs (omega (arith, shares, nothing)) (λ seat tally at. nil (suc seat) tally at) in
    omega (arith, sum_by-cons (λ (tally : Tally). times word tally.told) x xs, empty, rest)

-- where one seat has all shares, it told all
all_told : (word : ℕ) (views : List Tally) (id : ℕ) (me : Tally) → get_elem? views id ≡ some me → sum_by (λ tally. tally.share) views ≤ me.share
    → ((seat : ℕ) (tally : Tally) → get_elem? views seat ≡ some tally → tally.share ≡ 0 → tally.told ≡ []) → all_times word views ≡ times word me.told
all_told word [] id me e most nil = absurd (some-ne-none me (sym e))
all_told word (x ∷ xs) zero me e most nil =
    let is : x ≡ me = some-injective x me e in
    let shares = sum_by-cons (λ (tally : Tally). tally.share) x xs in
    let here = ap (λ (tally : Tally). tally.share) is in
    let told = ap (λ (tally : Tally). times word tally.told) is in
    let rest : all_times word xs ≡ 0 = none_told word xs (omega (arith, shares, here, most)) (λ seat tally at. nil (suc seat) tally at) in
    omega (arith, sum_by-cons (λ (tally : Tally). times word tally.told) x xs, told, rest)
all_told word (x ∷ xs) (suc id) me e most nil =
    let shares = sum_by-cons (λ (tally : Tally). tally.share) x xs in
    let least = sum_least (λ (tally : Tally). tally.share) xs id me e in
    let nothing : x.share ≡ 0 = omega (arith, shares, least, most) in
    let empty : times word x.told ≡ 0 = ap (times word) (nil 0 x refl nothing) in
    let rest = all_told word xs id me e (omega (arith, shares, most)) (λ seat tally at. nil (suc seat) tally at) in
    omega (arith, sum_by-cons (λ (tally : Tally). times word tally.told) x xs, empty, rest)

pub settles : (slots id word : ℕ) (me : Teller) → Allows IsCounted slots id me word (λ n. n) (Settles (step slots word 0 0 none) me)
settles slots id word me s k _ at _ =
    let mine = k.each_seat id me.0 at in
    let same = same_told s.views id me.0 me.0 at refl in
    let least : (w : ℕ) → all_times w s.views ≤ all_times w (set s.views id me.0) = λ w. let e = same w in omega (arith, e) in (
      me.0,
      keeps,
      tt,
      subst (λ (ws : List ℕ). IsCounted record { words = ws; homes = s.homes; views = set s.views id me.0 }) (sym (set-get_or s.words word 0)) record {
        total = k.total;
        shares = let sums = sum_set (λ (tally : Tally). tally.share) s.views id me.0 me.0 at in let whole = k.shares in omega (arith, sums, whole);
        words = λ w low. k.words w low ∙ ap (λ n. n % 2 ^ 64) (sym (same w));
        each_seat = each_set (λ _. FitsTally k.total (set s.views id me.0)) s.views id me.0
            (fits_more k.total s.views (set s.views id me.0) least me.0 mine)
            (λ seat tally apart there. fits_more k.total s.views (set s.views id me.0) least tally (k.each_seat seat tally there));
      },
      (
        refl,
        λ some_share all.
            let total : me.0.total ≡ k.total = ⊎_elim (λ (t : me.0.share ≡ 0). absurd (omega arith)) (λ (t : me.0.total ≡ k.total). t) mine.total in
            let whole = k.shares in
            let most : sum_by (λ tally. tally.share) s.views ≤ me.0.share = omega (arith, whole, total, all) in
            below_more (λ w. all_times w s.views) (λ w. times w me.0.told)
            (λ w. let e = all_told w s.views id me.0 at most (λ seat tally there. (k.each_seat seat tally there).tells) in omega (arith, e))
            me.0.seen mine.seen,
      ),
    )

-- a seat that told nothing and found nothing
abbrev pub idle : ℕ → ℕ → Tally
idle total share = record { total = total; share = share; told = []; seen = [] }

pub shares : (id total share : ℕ) → 1 ≤ share → Splits IsCounted id (idle total share) (share_left (idle total share)) (share_right (idle total share))
shares id total share some_share s k at =
    let mine = k.each_seat id (idle total share) at in
    let left : Tally = share_left (idle total share) in
    let right : Tally = share_right (idle total share) in
    let cut : List Tally = set s.views id left in
    let after : List Tally = cut ++ right ∷ [] in
    let same : (w : ℕ) → all_times w after ≡ all_times w s.views = λ w.
    let kept = same_told s.views id (idle total share) left at refl w in
    let more = sum_snoc (λ (tally : Tally). times w tally.told) cut right in omega (arith, kept, more) in
    let least : (w : ℕ) → all_times w s.views ≤ all_times w after = λ w. let e = same w in omega (arith, e) in
    let is : total ≡ k.total = ⊎_elim (λ (t : share ≡ 0). absurd (omega arith)) (λ (t : total ≡ k.total). t) mine.total in
    let old = each_set (λ _. FitsTally k.total after) s.views id left
    (record { total = inr is; tells = λ _. refl; seen = tt })
    (λ seat tally apart there. fits_more k.total s.views after least tally (k.each_seat seat tally there)) in record {
      total = k.total;
      shares = let sums = sum_set (λ (tally : Tally). tally.share) s.views id (idle total share) left at in
          let more = sum_snoc (λ (tally : Tally). tally.share) cut right in
          let whole = k.shares in omega (arith, sums, more, whole);
      words = λ w low. k.words w low ∙ ap (λ n. n % 2 ^ 64) (sym (same w));
      each_seat = λ seat tally there. ⊎_elim (old seat tally)
          (λ (t : (seat ≡ length cut) × (right ≡ tally)). subst (FitsTally k.total after) t.1 (record { total = inr is; tells = λ none. absurd (omega (arith, none)); seen = tt }))
          (last_or_before cut right tally seat there);
    }

pub unites : (id : ℕ) (one : Tally) (other : ℕ) (two : Tally) → 1 ≤ one.share → Joins IsCounted id one other two (united one two) no_tally
unites id one other two some_share s k at apart there =
    let there' : get_elem? s.views other ≡ some two = sym (set_else s.views id other (united one two) apart) ∙ there in
    let mine = k.each_seat id one at in
    let theirs = k.each_seat other two there' in
    let both : Tally = united one two in
    let half : List Tally = set s.views id both in
    let after : List Tally = set half other no_tally in
    let same : (w : ℕ) → all_times w after ≡ all_times w s.views = λ w.
    let first = sum_set (λ (tally : Tally). times w tally.told) s.views id one both at in
    let second = sum_set (λ (tally : Tally). times w tally.told) half other two no_tally there in
    let parts = times_append w two.told one.told in omega (arith, first, second, parts) in
    let least : (w : ℕ) → all_times w s.views ≤ all_times w after = λ w. let e = same w in omega (arith, e) in
    let more = fits_more k.total s.views after least one mine in
    let more' = fits_more k.total s.views after least two theirs in record {
      total = k.total;
      shares = let first = sum_set (λ (tally : Tally). tally.share) s.views id one both at in
          let second = sum_set (λ (tally : Tally). tally.share) half other two no_tally there in
          let whole = k.shares in omega (arith, first, second, whole);
      words = λ w low. k.words w low ∙ ap (λ n. n % 2 ^ 64) (sym (same w));
      each_seat = each_set (λ _. FitsTally k.total after) half other no_tally
          (record { total = inl refl; tells = λ _. refl; seen = tt })
          (λ seat tally not_other it. each_set (λ _. FitsTally k.total after) s.views id both
          (record {
            total = ⊎_elim (λ (t : one.share ≡ 0). absurd (omega arith)) (λ (t : one.total ≡ k.total). inr t) mine.total;
            tells = λ none. absurd (omega (arith, none));
            seen = below_append (λ w. all_times w after) two.seen one.seen more'.seen more.seen;
          })
          (λ n t not_id is. fits_more k.total s.views after least t (k.each_seat n t is)) seat tally it);
    }
