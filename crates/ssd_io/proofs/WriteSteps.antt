-- Bytes that are written one after the other are written as one.
use Rattle.std.proofs.Common.{◌≡◌, ℕ, ◌+◌, ◌<◌, ◌≤◌, List, [], ◌∷◌, ◌++◌, length, take, drop, get_or, sym, ap, ◌∙◌, Option, Result, Ok, Err, IsErr, append-nil, length-append, drop-cons, add-one, arith, subst, refl, rules, take-append-drop}
use Rattle.std.proofs.lemmas.List.{take-append-le}
use Rattle.std.proofs.lemmas.Grind.{flat_map-append}
use Rattle.std.proofs.KnownBytes.{Appends-trans, Appends-nil}
use Rattle.std.proofs.Math.Seq.{take-append-add, take-suc}
use Rattle.std.specs.Io.KnownBytes.{Appends}
use Rattle.std.specs.Prelude.{flat_map}
use Rattle.ssd_geo.specs.Faults.{Rose}
use Rattle.ssd_io.specs.Pieces.{AppendsFront}
use Rattle.ssd_io.specs.Writes.{Writes, Wrote}

-- a front of what follows what was appended is one of all
front_after : (a b c : Option (List ℕ)) (xs ys zs : List ℕ) → Appends a b xs → AppendsFront b c ys → AppendsFront a c (xs ++ (ys ++ zs))
front_after a b c xs ys zs p q =
    let n : ℕ = q.0 in
    let within : n < length ys = q.1 in
    let short : n ≤ length ys = omega arith in
    let same : take (length xs + n) (xs ++ (ys ++ zs)) ≡ xs ++ take n ys =
    take-append-add xs (ys ++ zs) n ∙ ap (λ l. xs ++ l) (take-append-le n ys zs short) in
    (length xs + n, omega (arith, length-append xs (ys ++ zs), length-append ys zs), subst (Appends a c) (sym same) (Appends-trans a b c xs (take n ys) p q.2))

-- the pieces of a list's items: those before one and its own
pub items_more : {A : Type 0} (piece : A → List ℕ) (xs : List A) (i : ℕ) (d : A) → i < length xs → flat_map piece (take (i + 1) xs) ≡ flat_map piece (take i xs) ++ piece (get_or xs i d)
items_more piece xs i d within =
    ap (flat_map piece) (ap (λ n. take n xs) (add-one i) ∙ take-suc xs i d within) ∙ flat_map-append piece (take i xs) (get_or xs i d ∷ []) ∙ ap (λ l. flat_map piece (take i xs) ++ l) (append-nil (piece (get_or xs i d)))

-- and those behind it
pub items_at : {A : Type 0} (piece : A → List ℕ) (xs : List A) (i : ℕ) (d : A) → i < length xs → flat_map piece xs ≡ flat_map piece (take i xs) ++ (piece (get_or xs i d) ++ flat_map piece (drop (i + 1) xs))
items_at piece xs i d within =
    let next : drop i xs ≡ get_or xs i d ∷ drop (i + 1) xs = drop-cons xs i d within ∙ ap (λ n. get_or xs i d ∷ drop n xs) (sym (add-one i)) in
    ap (flat_map piece) (sym (take-append-drop i xs)) ∙ flat_map-append piece (take i xs) (drop i xs) ∙ ap (λ l. flat_map piece (take i xs) ++ flat_map piece l) next

module _ {O : Type 0} {written : O → Option (List ℕ)} {faults : O → ℕ} where
  -- nothing was written yet
  pub none_wrote : (o : O) → Wrote written faults o o []
  none_wrote o = record { appended = Appends-nil (written o); stays = refl }

  -- all was written
  pub wrote : {T E : Type 0} {o o1 : O} {x : T} {xs : List ℕ} → Writes {E = E} written faults o o1 (Ok x) xs → Wrote written faults o o1 xs
  wrote q = record { appended = q.all; stays = q.cause.stays }

  -- what follows was written too
  pub wrote_then : {o o1 o2 : O} {xs ys : List ℕ} (whole : List ℕ) → whole ≡ xs ++ ys → Wrote written faults o o1 xs → Wrote written faults o1 o2 ys → Wrote written faults o o2 whole
  wrote_then {o} {o1} {o2} {xs} {ys} whole e p q =
      subst (Wrote written faults o o2) (sym e) (record { appended = Appends-trans _ _ _ xs ys p.appended q.appended; stays = q.stays ∙ p.stays })

  -- the same bytes in other words
  pub writes_is : {T E : Type 0} {o o1 : O} {r : Result T E} {xs : List ℕ} (whole : List ℕ) → whole ≡ xs → Writes written faults o o1 r xs → Writes written faults o o1 r whole
  writes_is {o = o} {o1 = o1} {r = r} whole e q = subst (Writes written faults o o1 r) (sym e) q

  -- nothing is left to write
  pub writes_all : {T E : Type 0} {o o1 : O} {x : T} {xs : List ℕ} (whole : List ℕ) → whole ≡ xs → Wrote written faults o o1 xs → Writes {E = E} written faults o o1 (Ok x) whole
  writes_all {E = E} {o = o} {o1 = o1} {x = x} whole e p =
      subst (Writes {E = E} written faults o o1 (Ok x)) (sym e) (record { all = p.appended; front = tt; cause = record { stays = p.stays; never_fell = omega (arith, p.stays); failed = tt } })

  -- the sink failed in the middle: what follows isn't written
  pub fails_in : {T U E F : Type 0} {o o1 o2 : O} {e : F} {xs ys : List ℕ} (rest whole : List ℕ) (r : Result T E) → whole ≡ xs ++ (ys ++ rest) → IsErr r → Wrote written faults o o1 xs → Writes {T = U} written faults o1 o2 (Err e) ys → Writes written faults o o2 r whole
  fails_in rest whole (Ok x) is failed p q = absurd (cc)
  fails_in {o = o} {o1 = o1} {o2 = o2} {xs = xs} {ys = ys} rest whole (Err other) is failed p q = record {
    all = tt;
    front = subst (AppendsFront (written o) (written o2)) (sym is) (front_after (written o) (written o1) (written o2) xs ys rest p.appended q.front);
    cause = record {
      stays = tt;
      never_fell = omega (arith, p.stays, q.cause.never_fell);
      failed = subst (λ (n : ℕ). Rose n (faults o2)) p.stays q.cause.failed;
    };
  }

  -- the sink failed at the first bytes
  pub fails_early : {T U E F : Type 0} {o o1 : O} {e : F} {xs : List ℕ} (rest : List ℕ) (r : Result T E) → IsErr r → Writes {T = U} written faults o o1 (Err e) xs → Writes written faults o o1 r (xs ++ rest)
  fails_early {o = o} {xs = xs} rest r failed q = fails_in rest (xs ++ rest) r refl failed (none_wrote o) q

  -- what was written before a call
  pub writes_then : {T E : Type 0} {o o1 o2 : O} {xs ys : List ℕ} (r : Result T E) → Wrote written faults o o1 xs → Writes written faults o1 o2 r ys → Writes written faults o o2 r (xs ++ ys)
  writes_then {xs = xs} {ys = ys} (Ok x) p q = writes_all (xs ++ ys) refl (wrote_then (xs ++ ys) refl p (wrote q))
  writes_then {xs = xs} {ys = ys} (Err e) p q = fails_in [] (xs ++ ys) (Err e) (ap (λ l. xs ++ l) (sym (append-nil ys))) (search rules) p q

  -- the piece of one more item was written
  pub piece_wrote : {A T E : Type 0} {o o1 o2 : O} {x : T} (piece : A → List ℕ) (xs : List A) (i : ℕ) (d : A) → i < length xs → Wrote written faults o o1 (flat_map piece (take i xs)) → Writes {E = E} written faults o1 o2 (Ok x) (piece (get_or xs i d)) → Wrote written faults o o2 (flat_map piece (take (i + 1) xs))
  piece_wrote piece xs i d within p q = wrote_then _ (items_more piece xs i d within) p (wrote q)

  -- the sink failed at the piece of an item
  pub piece_fails : {A T U E F : Type 0} {o o1 o2 : O} {e : F} (piece : A → List ℕ) (xs : List A) (i : ℕ) (d : A) (r : Result T E) → IsErr r → i < length xs → Wrote written faults o o1 (flat_map piece (take i xs)) → Writes {T = U} written faults o1 o2 (Err e) (piece (get_or xs i d)) → Writes written faults o o2 r (flat_map piece xs)
  piece_fails piece xs i d r failed within p q = fails_in (flat_map piece (drop (i + 1) xs)) _ r (items_at piece xs i d within) failed p q
