-- Lists that go on from what a pass has seen.
use Rattle.std.proofs.Common.{◌≡◌, ◌≢◌, ◌==◌, ne_eqb, cond, ℕ, suc, ◌<◌, ◌≤◌, List, [], ◌∷◌, ◌++◌, length, All, refl, sym, ap, ◌∙◌, subst, arith, append_assoc}
use Rattle.std.proofs.lemmas.List.{append-nil, append_cancel_left}
use Rattle.std.proofs.lemmas.List.Elements.{filter-append}
use Rattle.ssd_geo.specs.declared.entry.Entry.{Entry}
use Rattle.turn_table.specs.Passes.{GoesOn, Has, entries_by}

nil_left : {A : Type 0} (xs ys : List A) → xs ++ ys ≡ [] → xs ≡ []
nil_left [] ys e = refl
nil_left (x ∷ xs) ys e = absurd cc

-- what is added to a list without changing it is nothing
adds_nil : {A : Type 0} (xs ys : List A) → xs ++ ys ≡ xs → ys ≡ []
adds_nil xs ys e = append_cancel_left xs ys [] (e ∙ sym (append-nil xs))

pub by_append : (number : ℕ) (xs ys : List Entry) → entries_by number (xs ++ ys) ≡ entries_by number xs ++ entries_by number ys
by_append number xs ys = filter-append (λ entry. entry.tag.actor == number) xs ys

by_one : (number : ℕ) (entry : Entry) → entry.tag.actor ≢ number → entries_by number (entry ∷ []) ≡ []
by_one number entry other = ap (λ b. cond b (entry ∷ []) []) (ne_eqb entry.tag.actor number other)

pub by_snoc : (number : ℕ) (xs : List Entry) (entry : Entry) → entry.tag.actor ≢ number → entries_by number (xs ++ entry ∷ []) ≡ entries_by number xs
by_snoc number xs entry other = by_append number xs (entry ∷ []) ∙ (ap (λ ys. entries_by number xs ++ ys) (by_one number entry other) ∙ append-nil (entries_by number xs))

-- a number without an entry has none in a beginning
pub none_before : (number : ℕ) (xs ys : List Entry) → entries_by number (xs ++ ys) ≡ [] → entries_by number xs ≡ []
none_before number xs ys e = nil_left (entries_by number xs) (entries_by number ys) (sym (by_append number xs ys) ∙ e)

-- between what was seen and a list that goes on from it no entry of the number stands either
between : (number : ℕ) (seen more rest : List Entry) → entries_by number ((seen ++ more) ++ rest) ≡ entries_by number seen → entries_by number (seen ++ more) ≡ entries_by number seen
between number seen more rest e =
    let s = entries_by number seen in let m = entries_by number more in let r = entries_by number rest in
    let whole : s ++ (m ++ r) ≡ s =
    sym (append_assoc s m r) ∙ (ap (λ z. z ++ r) (sym (by_append number seen more)) ∙ (sym (by_append number (seen ++ more) rest) ∙ e)) in
    by_append number seen more ∙ (ap (λ z. s ++ z) (nil_left m r (adds_nil s (m ++ r) whole)) ∙ append-nil s)

pub goes_on_self : (numbers : List ℕ) (list : List Entry) → GoesOn numbers list list
goes_on_self numbers list = record { rest = []; begins = sym (append-nil list); own = λ number has. refl }

pub goes_on_more : (numbers : List ℕ) (seen list : List Entry) (entry : Entry) → GoesOn numbers seen list → (Has numbers entry.tag.actor → ⊥) → GoesOn numbers seen (list ++ entry ∷ [])
goes_on_more numbers seen list entry on other = record {
  rest = on.rest ++ entry ∷ [];
  begins = ap (λ z. z ++ entry ∷ []) on.begins ∙ append_assoc seen on.rest (entry ∷ []);
  own = λ number has. by_snoc number list entry (λ e. other (subst (Has numbers) (sym e) has)) ∙ on.own number has;
}

pub goes_on_then : (numbers others : List ℕ) (seen mid list : List Entry) → GoesOn numbers seen mid → GoesOn others mid list → ((number : ℕ) → Has numbers number → Has others number) → GoesOn numbers seen list
goes_on_then numbers others seen mid list first second sub = record {
  rest = first.rest ++ second.rest;
  begins = second.begins ∙ (ap (λ z. z ++ second.rest) first.begins ∙ append_assoc seen first.rest second.rest);
  own = λ number has. second.own number (sub number has) ∙ first.own number has;
}

-- of two beginnings of one list the shorter begins the longer
shorter_begins : (xs ys r s : List Entry) → xs ++ r ≡ ys ++ s → length xs ≤ length ys → (rest : List Entry) × (ys ≡ xs ++ rest)
shorter_begins [] ys r s e le = (ys, refl)
shorter_begins (x ∷ xs) [] r s e le = absurd (omega arith)
shorter_begins (x ∷ xs) (y ∷ ys) r s e le =
    let head : x ≡ y = cc in let tail : xs ++ r ≡ ys ++ s = cc in
    let t = shorter_begins xs ys r s tail (omega arith) in (t.0, cc (t.1, head))

-- a list that goes on from what was seen goes on so in each longer beginning
pub goes_on_between : (numbers : List ℕ) (seen mid rest list : List Entry) → GoesOn numbers seen list → list ≡ mid ++ rest → length seen ≤ length mid → GoesOn numbers seen mid
goes_on_between numbers seen mid rest list on is le =
    let t = shorter_begins seen mid on.rest rest (sym on.begins ∙ is) le in record {
      rest = t.0;
      begins = t.1;
      own = λ number has.
          let e : entries_by number ((seen ++ t.0) ++ rest) ≡ entries_by number seen =
          ap (entries_by number) (ap (λ z. z ++ rest) (sym t.1) ∙ sym is) ∙ on.own number has in
          ap (entries_by number) t.1 ∙ between number seen t.0 rest e;
    }

-- a number at or above those of all actors has no entry
pub none_above : (n number : ℕ) (list : List Entry) → All (λ entry. entry.tag.actor < n) list → n ≤ number → entries_by number list ≡ []
none_above n number [] all le = refl
none_above n number (entry ∷ list) all le =
    let first : entry.tag.actor < n = all 0 entry (omega arith) in
    let other : entry.tag.actor ≢ number = λ e. omega arith in
    let rest = none_above n number list (λ k d l. all (suc k) d (omega arith)) le in
    ap (λ b. cond b (entry ∷ entries_by number list) (entries_by number list)) (ne_eqb entry.tag.actor number other) ∙ rest
