-- Parts of an image that are written one after the other are written as one, up to the first stop.
use Rattle.std.proofs.Common.{◌≡◌, ℕ, ◌+◌, ◌<◌, ◌≤◌, List, [], ◌∷◌, ◌++◌, length, take, drop, get_or, sym, ap, ◌∙◌, Option, Result, Ok, Err, append-nil, length-append, drop-cons, add-one, arith, subst, refl, take-append-drop}
use Rattle.std.proofs.lemmas.List.{take-append-le}
use Rattle.std.proofs.lemmas.Grind.{flat_map-append}
use Rattle.std.proofs.KnownBytes.{Appends-trans, Appends-nil}
use Rattle.std.proofs.Math.Seq.{take-append-add, take-suc}
use Rattle.std.specs.Io.KnownBytes.{Appends}
use Rattle.std.specs.Prelude.{flat_map}
use Rattle.ssd_geo.specs.Faults.{Rose}
use Rattle.ssd_io.proofs.WriteSteps.{none_wrote, items_at, items_more}
use Rattle.ssd_io.specs.Writes.{Writes, Wrote}
use Rattle.contents_file.specs.Saves.{AppendsFirst, HasWriteCause, Puts, Saves}
use Rattle.contents_file.specs.declared.stop.WriteStop.{WriteStop}
use Rattle.contents_file.specs.declared.stop.WriteStop.TheVariants.{WriteFault, DieFailed}

-- the first bytes of what follows what was appended are the first of all
first_after : (a b c : Option (List ℕ)) (xs ys zs : List ℕ) → Appends a b xs → AppendsFirst b c ys → AppendsFirst a c (xs ++ (ys ++ zs))
first_after a b c xs ys zs p q =
    let n : ℕ = q.0 in
    let short : n ≤ length ys = q.1 in
    let same : take (length xs + n) (xs ++ (ys ++ zs)) ≡ xs ++ take n ys =
    take-append-add xs (ys ++ zs) n ∙ ap (λ l. xs ++ l) (take-append-le n ys zs short) in
    (length xs + n, omega (arith, length-append xs (ys ++ zs), length-append ys zs), subst (Appends a c) (sym same) (Appends-trans a b c xs (take n ys) p q.2))

-- the cause of a stop, where the count was as it was before
pub cause_stops : (T U : Type 0) (a b c : ℕ) (stop : WriteStop) → b ≡ a → HasWriteCause {T = U} b c (Err stop) → HasWriteCause {T = T} a c (Err stop)
cause_stops T U a b c WriteFault same rose = subst (λ (n : ℕ). Rose n c) same rose
cause_stops T U a b c (DieFailed die) same stays = stays ∙ same

module _ {O : Type 0} {written : O → Option (List ℕ)} {faults : O → ℕ} where
  -- a part was written
  pub put_wrote : {T : Type 0} {o o1 : O} {x : T} {xs : List ℕ} → Puts written faults o o1 (Ok x) xs → Wrote written faults o o1 xs
  put_wrote q = record { appended = q.all; stays = q.cause }

  -- two parts were written
  pub both_wrote : {o o1 o2 : O} {xs ys : List ℕ} → Wrote written faults o o1 xs → Wrote written faults o1 o2 ys → Wrote written faults o o2 (xs ++ ys)
  both_wrote {o = o} {o1 = o1} {o2 = o2} {xs = xs} {ys = ys} p q = record { appended = Appends-trans (written o) (written o1) (written o2) xs ys p.appended q.appended; stays = q.stays ∙ p.stays }

  -- nothing is left to write
  pub puts_all : {T : Type 0} {o o1 : O} {x : T} {xs : List ℕ} (whole : List ℕ) → whole ≡ xs → Wrote written faults o o1 xs → Puts written faults o o1 (Ok x) whole
  puts_all {T = T} {o = o} {o1 = o1} {x = x} whole e p =
      subst (Puts {T = T} written faults o o1 (Ok x)) (sym e) (record { all = p.appended; first = tt; never_fell = omega (arith, p.stays); cause = p.stays })

  -- the item of a list was put, which is the same list
  pub put_at : {A T : Type 0} {o o1 : O} (piece : A → List ℕ) (xs ys : List A) (i : ℕ) (d : A) (r : Result T WriteStop) → xs ≡ ys → Puts written faults o o1 r (piece (get_or xs i d)) → Puts written faults o o1 r (piece (get_or ys i d))
  put_at {A = A} {o = o} {o1 = o1} piece xs ys i d r same q = subst (λ (l : List A). Puts written faults o o1 r (piece (get_or l i d))) same q

  -- the same bytes in other words
  pub puts_is : {T : Type 0} {o o1 : O} {r : Result T WriteStop} {xs : List ℕ} (whole : List ℕ) → whole ≡ xs → Puts written faults o o1 r xs → Puts written faults o o1 r whole
  puts_is {o = o} {o1 = o1} {r = r} whole e q = subst (Puts written faults o o1 r) (sym e) q

  -- a part was stopped: what follows isn't written
  pub stops_in : {T U : Type 0} {o o1 o2 : O} {xs ys : List ℕ} (stop : WriteStop) (rest whole : List ℕ) → whole ≡ xs ++ (ys ++ rest) → Wrote written faults o o1 xs → Puts {T = U} written faults o1 o2 (Err stop) ys → Puts {T = T} written faults o o2 (Err stop) whole
  stops_in {T = T} {U = U} {o = o} {o1 = o1} {o2 = o2} {xs = xs} {ys = ys} stop rest whole is p q = record {
    all = tt;
    first = subst (AppendsFirst (written o) (written o2)) (sym is) (first_after (written o) (written o1) (written o2) xs ys rest p.appended q.first);
    never_fell = omega (arith, p.stays, q.never_fell);
    cause = cause_stops T U (faults o) (faults o1) (faults o2) stop p.stays q.cause;
  }

  -- what was written before a part
  pub puts_then : {T : Type 0} {o o1 o2 : O} {xs ys : List ℕ} (r : Result T WriteStop) → Wrote written faults o o1 xs → Puts written faults o1 o2 r ys → Puts written faults o o2 r (xs ++ ys)
  puts_then {xs = xs} {ys = ys} (Ok x) p q = puts_all (xs ++ ys) refl (record { appended = Appends-trans _ _ _ xs ys p.appended q.all; stays = q.cause ∙ p.stays })
  puts_then {xs = xs} {ys = ys} (Err stop) p q = stops_in stop [] (xs ++ ys) (ap (λ l. xs ++ l) (sym (append-nil ys))) p q

  -- what follows a part that was stopped isn't written
  pub put_early : {T : Type 0} {o o1 : O} {xs : List ℕ} (stop : WriteStop) (rest : List ℕ) → Puts {T = T} written faults o o1 (Err stop) xs → Puts {T = T} written faults o o1 (Err stop) (xs ++ rest)
  put_early {o = o} {xs = xs} stop rest q = stops_in stop rest (xs ++ rest) refl (none_wrote o) q

  -- the sink failed where a part was written that needs no die
  pub sink_fails : {T U F : Type 0} {o o1 : O} {e : F} {xs : List ℕ} → Writes {T = U} written faults o o1 (Err e) xs → Puts {T = T} written faults o o1 (Err WriteFault) xs
  sink_fails {xs = xs} q =
      let within : q.front.0 < length xs = q.front.1 in
      record {
        all = tt;
        first = (q.front.0, omega (arith, within), q.front.2);
        never_fell = q.cause.never_fell;
        cause = q.cause.failed;
      }

  -- a die failed before anything was written
  pub die_fails : {T : Type 0} (o : O) (die : ℕ) (xs : List ℕ) → Puts {T = T} written faults o o (Err (DieFailed die)) xs
  die_fails o die xs = record {
    all = tt;
    first = (0, omega arith, Appends-nil (written o));
    never_fell = omega arith;
    cause = refl;
  }

  -- the piece of one more item was put
  pub item_put : {A T : Type 0} {o o1 o2 : O} {x : T} (piece : A → List ℕ) (xs : List A) (i : ℕ) (d : A) → i < length xs → Wrote written faults o o1 (flat_map piece (take i xs)) → Puts written faults o1 o2 (Ok x) (piece (get_or xs i d)) → Wrote written faults o o2 (flat_map piece (take (i + 1) xs))
  item_put {o = o} {o1 = o1} {o2 = o2} piece xs i d within p q =
      subst (Wrote written faults o o2) (sym (items_more piece xs i d within))
      (record { appended = Appends-trans (written o) (written o1) (written o2) (flat_map piece (take i xs)) (piece (get_or xs i d)) p.appended q.all; stays = q.cause ∙ p.stays })

  -- an item was stopped
  pub item_stops : {A T U : Type 0} {o o1 o2 : O} (stop : WriteStop) (piece : A → List ℕ) (xs : List A) (i : ℕ) (d : A) → i < length xs → Wrote written faults o o1 (flat_map piece (take i xs)) → Puts {T = U} written faults o1 o2 (Err stop) (piece (get_or xs i d)) → Puts {T = T} written faults o o2 (Err stop) (flat_map piece xs)
  item_stops stop piece xs i d within p q = stops_in stop (flat_map piece (drop (i + 1) xs)) _ (items_at piece xs i d within) p q

  -- all contents are saved
  pub saves_all : {T : Type 0} {o o1 : O} {x : T} {xs : List ℕ} → Wrote written faults o o1 xs → Saves written faults o o1 (Ok x) xs
  saves_all p = record { all = p.appended; front = tt; never_fell = omega (arith, p.stays); cause = p.stays }

  -- the first part was stopped, and another one follows
  pub first_stops : {T U : Type 0} {o o1 : O} {xs : List ℕ} (stop : WriteStop) (ys : List ℕ) → 0 < length ys → Puts {T = U} written faults o o1 (Err stop) xs → Saves {T = T} written faults o o1 (Err stop) (xs ++ ys)
  first_stops {T = T} {U = U} {o = o} {o1 = o1} {xs = xs} stop ys some q =
      let n : ℕ = q.first.0 in
      let short : n ≤ length xs = q.first.1 in
      record {
        all = tt;
        front = (n, omega (arith, length-append xs ys), subst (Appends (written o) (written o1)) (sym (take-append-le n xs ys short)) q.first.2);
        never_fell = q.never_fell;
        cause = cause_stops T U (faults o) (faults o) (faults o1) stop refl q.cause;
      }

  -- the sink failed at the last part
  pub last_fails : {T U F : Type 0} {o o1 o2 : O} {e : F} {xs ys : List ℕ} → Wrote written faults o o1 xs → Writes {T = U} written faults o1 o2 (Err e) ys → Saves {T = T} written faults o o2 (Err WriteFault) (xs ++ ys)
  last_fails {o = o} {o1 = o1} {o2 = o2} {xs = xs} {ys = ys} p q =
      let n : ℕ = q.front.0 in
      let within : n < length ys = q.front.1 in
      record {
        all = tt;
        front = (length xs + n, omega (arith, length-append xs ys), subst (Appends (written o) (written o2)) (sym (take-append-add xs ys n)) (Appends-trans (written o) (written o1) (written o2) xs (take n ys) p.appended q.front.2));
        never_fell = omega (arith, p.stays, q.cause.never_fell);
        cause = subst (λ (n : ℕ). Rose n (faults o2)) p.stays q.cause.failed;
      }
