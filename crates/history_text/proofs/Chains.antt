-- Texts that are printed one after the other are printed as one.
use Rattle.std.proofs.Common.{◌≡◌, ℕ, suc, ◌+◌, ◌≤◌, ◌<◌, List, [], ◌∷◌, ◌++◌, length, take, drop, get_or, refl, sym, ap, ◌∙◌, Option, Result, Ok, Err, IsErr, OnOk, OnErr, append_assoc, append-nil, length-append, drop-cons, add-one, arith, subst}
use Rattle.std.proofs.lemmas.List.{take-append-le, drop_all}
use Rattle.std.proofs.KnownBytes.{Appends-trans, Appends-nil}
use Rattle.std.specs.Io.KnownBytes.{Appends}
use Rattle.std.specs.declared.alloc.Global.{Global}
use Rattle.std.specs.declared.vec.Vec.{Vec}
use Rattle.ssd_geo.specs.Faults.{Rose}
use Rattle.ssd_formats.specs.Numbers.{Text}
use Rattle.ssd_io.specs.Pieces.{AppendsFront}
use Rattle.history_text.specs.Printing.{Adds, Stops, Prints}

-- the front of two texts that goes past the first
pub take_past : (xs ys : Text) (n : ℕ) → take (length xs + n) (xs ++ ys) ≡ xs ++ take n ys
take_past [] ys n = omega_zero n ys where
  omega_zero : (n : ℕ) (ys : Text) → take (0 + n) ys ≡ take n ys
  omega_zero n ys = let e : 0 + n ≡ n = omega arith in ap (λ k. take k ys) e
take_past (x ∷ xs) ys n =
    let e : suc (length xs) + n ≡ suc (length xs + n) = omega arith in
    ap (λ k. take k (x ∷ xs ++ ys)) e ∙ ap (λ l. x ∷ l) (take_past xs ys n)

-- a line of three texts
regrouped : (l a b front l' : Text) → l ++ a ≡ front ++ l' → l ++ (a ++ b) ≡ front ++ (l' ++ b)
regrouped l a b front l' e = sym (append_assoc l a b) ∙ ap (λ t. t ++ b) e ∙ append_assoc front l' b

module _ {O : Type 0} {written : O → Option Text} {faults : O → ℕ} where
  pub adds_then : {o o1 o2 : O} {l l1 l2 : Vec ℕ Global} {a b : Text} → Adds written faults o o1 l l1 a → Adds written faults o1 o2 l1 l2 b → Adds written faults o o2 l l2 (a ++ b)
  adds_then {o} {o1} {o2} {l} {l1} {l2} {a} {b} p q = record {
    front = p.front ++ q.front;
    appended = Appends-trans _ _ _ p.front q.front p.appended q.appended;
    kept = regrouped l.items a b p.front l1.items p.kept ∙ ap (λ t. p.front ++ t) q.kept ∙ sym (append_assoc p.front q.front l2.items);
    room = omega (arith, p.room, q.room);
    stays = q.stays ∙ p.stays;
  }

  pub stops_then : {o o1 o2 : O} {l l1 l2 : Vec ℕ Global} {a b : Text} → Adds written faults o o1 l l1 a → Stops written faults o1 o2 l1 l2 b → Stops written faults o o2 l l2 (a ++ b)
  stops_then {o} {o1} {o2} {l} {l1} {l2} {a} {b} p q =
      let whole = regrouped l.items a b p.front l1.items p.kept in
      let n : ℕ = q.front.0 in
      let within : n < length (l1.items ++ b) = q.front.1 in
      let long : length (l.items ++ (a ++ b)) ≡ length p.front + length (l1.items ++ b) = ap length whole ∙ length-append p.front (l1.items ++ b) in
      let same : take (length p.front + n) (l.items ++ (a ++ b)) ≡ p.front ++ take n (l1.items ++ b) =
      ap (take (length p.front + n)) whole ∙ take_past p.front (l1.items ++ b) n in
      record {
        front = (length p.front + n, omega arith, subst (Appends (written o) (written o2)) (sym same) (Appends-trans _ _ _ p.front _ p.appended q.front.2));
        room = omega (arith, p.room, q.room);
        never_fell = omega (arith, p.stays, q.never_fell);
        rose = subst (λ (n : ℕ). Rose n (faults o2)) p.stays q.rose;
      }

  pub stops_early : {o o1 : O} {l l1 : Vec ℕ Global} {a : Text} (b : Text) → Stops written faults o o1 l l1 a → Stops written faults o o1 l l1 (a ++ b)
  stops_early {o} {o1} {l} {l1} {a} b q =
      let n : ℕ = q.front.0 in
      let within : n < length (l.items ++ a) = q.front.1 in
      let short : n ≤ length (l.items ++ a) = omega arith in
      let same : take n (l.items ++ (a ++ b)) ≡ take n (l.items ++ a) =
      ap (take n) (sym (append_assoc l.items a b)) ∙ take-append-le n (l.items ++ a) b short in
      record {
        front = (n, omega (arith, length-append l.items a, length-append l.items (a ++ b), length-append a b), subst (Appends (written o) (written o1)) (sym same) q.front.2);
        room = q.room;
        never_fell = q.never_fell;
        rose = q.rose;
      }

  ok_then : {T E : Type 0} {o o1 : O} {l l1 : Vec ℕ Global} {a : Text} (o2 : O) (l2 : Vec ℕ Global) (b : Text) (r : Result T E) → Adds written faults o o1 l l1 a → OnOk r (Adds written faults o1 o2 l1 l2 b) → OnOk r (Adds written faults o o2 l l2 (a ++ b))
  ok_then o2 l2 b (Ok x) p q = adds_then p q
  ok_then o2 l2 b (Err e) p q = tt

  err_then : {T E : Type 0} {o o1 : O} {l l1 : Vec ℕ Global} {a : Text} (o2 : O) (l2 : Vec ℕ Global) (b : Text) (r : Result T E) → Adds written faults o o1 l l1 a → OnErr r (Stops written faults o1 o2 l1 l2 b) → OnErr r (Stops written faults o o2 l l2 (a ++ b))
  err_then o2 l2 b (Ok x) p q = tt
  err_then o2 l2 b (Err e) p q = stops_then p q

  -- a text that is printed after one that was added
  pub prints_then : {T E : Type 0} {o o1 o2 : O} {l l1 l2 : Vec ℕ Global} {r : Result T E} {a b : Text} → Adds written faults o o1 l l1 a → Prints written faults o1 o2 l1 l2 r b → Prints written faults o o2 l l2 r (a ++ b)
  prints_then {o2 = o2} {l2 = l2} {r = r} {b = b} p q = record { ok = ok_then o2 l2 b r p q.ok; err = err_then o2 l2 b r p q.err }

  -- a call that fails where a part of its text couldn't be printed
  pub prints_front : {T E : Type 0} {o o1 : O} {l l1 : Vec ℕ Global} {text : Text} (r : Result T E) → IsErr r → Stops written faults o o1 l l1 text → Prints written faults o o1 l l1 r text
  prints_front (Ok x) h q = absurd (cc)
  prints_front (Err e) h q = record { ok = tt; err = q }

-- A text in pieces, one for each item of a list: the text from an item on, and the piece of an item at a place.
pub record Pieces {A : Type 0} (text : ℕ → List A → Text) (piece : ℕ → A → Text) : Type 0 where
  pub next : (i : ℕ) (x : A) (xs : List A) → text i (x ∷ xs) ≡ piece i x ++ text (i + 1) xs
  pub none : (i : ℕ) → text i [] ≡ []

-- the item at a place stands in front of those after it
drop_next : {A : Type 0} (xs : List A) (i : ℕ) (d x : A) → i < length xs → x ≡ get_or xs i d → drop i xs ≡ x ∷ drop (i + 1) xs
drop_next xs i d x within is = drop-cons xs i d within ∙ ap (λ y. y ∷ drop (suc i) xs) (sym is) ∙ ap (λ n. x ∷ drop n xs) (sym (add-one i))

-- Midway in a text: a part of it was added, and the rest is still to be printed.
pub record Midway {O : Type 0} (written : O → Option Text) (faults : O → ℕ) (output output' : O) (line line' : Vec ℕ Global) (rest whole : Text) : Type 0 where
  pub printed : Text
  pub added : Adds written faults output output' line line' printed
  pub whole_is : whole ≡ printed ++ rest

module _ {O : Type 0} {written : O → Option Text} {faults : O → ℕ} where
  -- nothing was printed yet
  pub begun : (o : O) (l : Vec ℕ Global) (whole : Text) → Midway written faults o o l l whole whole
  begun o l whole = record {
    printed = [];
    added = record { front = []; appended = Appends-nil (written o); kept = append-nil l.items; room = omega arith; stays = refl };
    whole_is = refl;
  }

  more : {o o1 o2 : O} {l l1 l2 : Vec ℕ Global} {a rest whole : Text} → Midway written faults o o1 l l1 (a ++ rest) whole → Adds written faults o1 o2 l1 l2 a → Midway written faults o o2 l l2 rest whole
  more {a = a} {rest = rest} m p = record {
    printed = m.printed ++ a;
    added = adds_then m.added p;
    whole_is = m.whole_is ∙ sym (append_assoc m.printed a rest);
  }

  stopped : {o o1 o2 : O} {l l1 l2 : Vec ℕ Global} {a whole : Text} (rest : Text) → Midway written faults o o1 l l1 (a ++ rest) whole → Stops written faults o1 o2 l1 l2 a → Stops written faults o o2 l l2 whole
  stopped {o} {o1} {o2} {l} {l1} {l2} {a} {whole} rest m q = subst (Stops written faults o o2 l l2) (sym m.whole_is) (stops_then m.added (stops_early rest q))

  -- all was printed
  pub ended : {o o1 : O} {l l1 : Vec ℕ Global} {whole : Text} → Midway written faults o o1 l l1 [] whole → Adds written faults o o1 l l1 whole
  ended {o} {o1} {l} {l1} {whole} m = subst (Adds written faults o o1 l l1) (sym (m.whole_is ∙ append-nil m.printed)) m.added

  -- the piece of an item was printed
  pub piece_more : {A : Type 0} {text : ℕ → List A → Text} {piece : ℕ → A → Text} {o o1 o2 : O} {l l1 l2 : Vec ℕ Global} {whole : Text} (by : Pieces text piece) (xs : List A) (i : ℕ) (d x : A) → i < length xs → x ≡ get_or xs i d → Midway written faults o o1 l l1 (text i (drop i xs)) whole → Adds written faults o1 o2 l1 l2 (piece i x) → Midway written faults o o2 l l2 (text (i + 1) (drop (i + 1) xs)) whole
  piece_more {text = text} {o = o} {o1 = o1} {l = l} {l1 = l1} {whole = whole} by xs i d x within is m p =
      let e = ap (text i) (drop_next xs i d x within is) ∙ by.next i x (drop (i + 1) xs) in
      more (subst (λ t. Midway written faults o o1 l l1 t whole) e m) p

  -- the piece of an item couldn't be printed
  pub piece_stopped : {A : Type 0} {text : ℕ → List A → Text} {piece : ℕ → A → Text} {o o1 o2 : O} {l l1 l2 : Vec ℕ Global} {whole : Text} (by : Pieces text piece) (xs : List A) (i : ℕ) (d x : A) → i < length xs → x ≡ get_or xs i d → Midway written faults o o1 l l1 (text i (drop i xs)) whole → Stops written faults o1 o2 l1 l2 (piece i x) → Stops written faults o o2 l l2 whole
  piece_stopped {text = text} {o = o} {o1 = o1} {l = l} {l1 = l1} {whole = whole} by xs i d x within is m p =
      let e = ap (text i) (drop_next xs i d x within is) ∙ by.next i x (drop (i + 1) xs) in
      stopped (text (i + 1) (drop (i + 1) xs)) (subst (λ t. Midway written faults o o1 l l1 t whole) e m) p

  -- the pieces of all items were printed
  pub pieces_ended : {A : Type 0} {text : ℕ → List A → Text} {piece : ℕ → A → Text} {o o1 : O} {l l1 : Vec ℕ Global} {whole : Text} (by : Pieces text piece) (xs : List A) (i : ℕ) → length xs ≤ i → Midway written faults o o1 l l1 (text i (drop i xs)) whole → Adds written faults o o1 l l1 whole
  pieces_ended {text = text} {o = o} {o1 = o1} {l = l} {l1 = l1} {whole = whole} by xs i past m =
      ended (subst (λ t. Midway written faults o o1 l l1 t whole) (ap (text i) (drop_all i xs past) ∙ by.none i) m)

-- What was written by calls that began with an empty line.
module _ {O : Type 0} {written : O → Option Text} {faults : O → ℕ} where
  all_added : {o o1 : O} {l l1 : Vec ℕ Global} {text : Text} → l.items ≡ [] → l1.items ≡ [] → Adds written faults o o1 l l1 text → Appends (written o) (written o1) text
  all_added {o} {o1} {l} {l1} {text} empty empty1 p =
      let same : p.front ≡ text = sym (append-nil p.front) ∙ ap (λ t. p.front ++ t) (sym empty1) ∙ sym p.kept ∙ ap (λ t. t ++ text) empty in
      subst (Appends (written o) (written o1)) same p.appended

  -- an empty line holds nothing more, so all was written
  pub all_written : {T E : Type 0} {o o1 : O} {l l1 : Vec ℕ Global} (text : Text) (r : Result T E) → l.items ≡ [] → OnOk r (l1.items ≡ []) → Prints written faults o o1 l l1 r (text ++ []) → OnOk r (Appends (written o) (written o1) text)
  all_written {o = o} {o1 = o1} text (Ok x) empty empty1 q = subst (Appends (written o) (written o1)) (append-nil text) (all_added empty empty1 q.ok)
  all_written text (Err e) empty empty1 q = tt

  -- a front was written before the sink failed
  pub front_written : {T E : Type 0} {o o1 : O} {l l1 : Vec ℕ Global} {text : Text} (r : Result T E) → l.items ≡ [] → Stops written faults o o1 l l1 text → OnErr r (AppendsFront (written o) (written o1) text)
  front_written (Ok x) empty q = tt
  front_written {o = o} {o1 = o1} {text = text} (Err e) empty q = subst (λ t. AppendsFront (written o) (written o1) (t ++ text)) empty q.front

  pub front_of_all : {T E : Type 0} {o o1 : O} {l l1 : Vec ℕ Global} (text : Text) (r : Result T E) → l.items ≡ [] → Prints written faults o o1 l l1 r (text ++ []) → OnErr r (AppendsFront (written o) (written o1) text)
  front_of_all text (Ok x) empty q = tt
  front_of_all {o = o} {o1 = o1} text (Err e) empty q = subst (AppendsFront (written o) (written o1)) (append-nil text) (subst (λ t. AppendsFront (written o) (written o1) (t ++ (text ++ []))) empty q.err.front)
