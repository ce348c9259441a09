-- Contents that are saved one after the other are saved as one, up to the first stop.
use Rattle.std.proofs.Common.{◌≡◌, ℕ, ◌+◌, ◌<◌, List, [], ◌++◌, length, take, drop, get_or, Option, Result, Ok, Err, refl, sym, ap, subst, ◌∙◌, append-nil, length-append, arith}
use Rattle.std.proofs.KnownBytes.{Appends-trans}
use Rattle.std.proofs.Math.Seq.{take-append-add}
use Rattle.std.proofs.lemmas.List.{take-append-le}
use Rattle.std.specs.Io.KnownBytes.{Appends}
use Rattle.std.specs.Prelude.{flat_map}
use Rattle.ssd_io.proofs.WriteSteps.{items_at, items_more, none_wrote, wrote_then}
use Rattle.ssd_io.specs.Writes.{Writes, Wrote}
use Rattle.contents_file.proofs.PutSteps.{both_wrote, last_fails, saves_all, stops_in}
use Rattle.contents_file.specs.Saves.{Puts, Saves}
use Rattle.contents_file.specs.declared.stop.WriteStop.{WriteStop}
use Rattle.contents_file.specs.declared.stop.WriteStop.TheVariants.{WriteFault}

module _ {O : Type 0} {written : O → Option (List ℕ)} {faults : O → ℕ} where
  -- the same bytes in other words
  pub saves_is : {T : Type 0} {o o1 : O} {r : Result T WriteStop} {xs : List ℕ} (whole : List ℕ) → whole ≡ xs
      → Saves written faults o o1 r xs → Saves written faults o o1 r whole
  saves_is {o = o} {o1 = o1} {r = r} whole same q = subst (Saves written faults o o1 r) (sym same) q

  -- what was saved was written
  pub saved_wrote : {T : Type 0} {o o1 : O} {x : T} {xs : List ℕ} → Saves written faults o o1 (Ok x) xs
      → Wrote written faults o o1 xs
  saved_wrote q = record { appended = q.all; stays = q.cause }

  -- a call that saves was stopped: what follows isn't written
  pub saving_stops : {T U : Type 0} {o o1 o2 : O} {xs ys : List ℕ} (stop : WriteStop) (rest whole : List ℕ)
      → whole ≡ xs ++ (ys ++ rest) → Wrote written faults o o1 xs → Saves {T = U} written faults o1 o2 (Err stop) ys
      → Saves {T = T} written faults o o2 (Err stop) whole
  saving_stops {T = T} {U = U} {o = o} {o1 = o1} {o2 = o2} {xs = xs} {ys = ys} stop rest whole is p q =
      let n : ℕ = q.front.0 in
      let within : n < length ys = q.front.1 in
      let part : Puts {T = U} written faults o1 o2 (Err stop) ys = record {
        all = tt;
        first = (n, omega (arith, within), q.front.2);
        never_fell = q.never_fell;
        cause = q.cause;
      } in
      let stopped : Puts {T = T} written faults o o2 (Err stop) whole = stops_in stop rest whole is p part in
      let same : take (length xs + n) whole ≡ xs ++ take n ys =
      ap (λ (bytes : List ℕ). take (length xs + n) bytes) is ∙ take-append-add xs (ys ++ rest) n
      ∙ ap (λ (bytes : List ℕ). xs ++ bytes) (take-append-le n ys rest (omega (arith, within))) in
      let long : length whole ≡ length xs + (length ys + length rest) =
      ap (λ (bytes : List ℕ). length bytes) is ∙ length-append xs (ys ++ rest)
      ∙ ap (λ (m : ℕ). length xs + m) (length-append ys rest) in
      record {
        all = tt;
        front = (
          length xs + n,
          omega (arith, long, within),
          subst (Appends (written o) (written o2)) (sym same)
              (Appends-trans (written o) (written o1) (written o2) xs (take n ys) p.appended q.front.2),
        );
        never_fell = stopped.never_fell;
        cause = stopped.cause;
      }

  -- what was written before a call that saves
  pub saves_then : {T : Type 0} {o o1 o2 : O} {xs ys : List ℕ} (r : Result T WriteStop) → Wrote written faults o o1 xs
      → Saves written faults o1 o2 r ys → Saves written faults o o2 r (xs ++ ys)
  saves_then (Ok x) p q = saves_all (both_wrote p (saved_wrote q))
  saves_then {xs = xs} {ys = ys} (Err stop) p q =
      saving_stops stop [] (xs ++ ys) (ap (λ (bytes : List ℕ). xs ++ bytes) (sym (append-nil ys))) p q

  -- the sink failed at what stands before
  pub saving_fails : {T U F : Type 0} {o o1 : O} {e : F} {xs : List ℕ} (rest : List ℕ)
      → Writes {T = U} written faults o o1 (Err e) xs → Saves {T = T} written faults o o1 (Err WriteFault) (xs ++ rest)
  saving_fails {T = T} {U = U} {o = o} {xs = xs} rest q =
      saving_stops {U = U} WriteFault rest (xs ++ rest) refl (none_wrote o) (last_fails (none_wrote o) q)

  -- one more item was saved
  pub item_saved : {A T : Type 0} {o o1 o2 : O} {x : T} (piece : A → List ℕ) (xs : List A) (i : ℕ) (d : A) → i < length xs
      → Wrote written faults o o1 (flat_map piece (take i xs)) → Saves written faults o1 o2 (Ok x) (piece (get_or xs i d))
      → Wrote written faults o o2 (flat_map piece (take (i + 1) xs))
  item_saved piece xs i d within p q = wrote_then _ (items_more piece xs i d within) p (saved_wrote q)

  -- an item was stopped
  pub item_stopped : {A T U : Type 0} {o o1 o2 : O} (stop : WriteStop) (piece : A → List ℕ) (xs : List A) (i : ℕ) (d : A)
      → i < length xs → Wrote written faults o o1 (flat_map piece (take i xs))
      → Saves {T = U} written faults o1 o2 (Err stop) (piece (get_or xs i d))
      → Saves {T = T} written faults o o2 (Err stop) (flat_map piece xs)
  item_stopped stop piece xs i d within p q =
      saving_stops stop (flat_map piece (drop (i + 1) xs)) _ (items_at piece xs i d within) p q
