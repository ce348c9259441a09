-- What becomes of the dies of a drive whose list lends those of one channel.
use Rattle.std.proofs.Common.{ℕ, ◌≡◌, ◌≢◌, ◌+◌, ◌-◌, ◌*◌, ◌<◌, ◌≤◌, List, ◌++◌, drop, length, map, take, Result, Ok, Err, inl, inr, sym, ap, subst, ◌∙◌, arith}
use Rattle.std.proofs.Math.Nat.{mul-le-mul}
use Rattle.std.proofs.lemmas.Bool.{cases_lt}
use Rattle.std.proofs.lemmas.List.{drop-map, get_or-drop, get_or-take, length-drop, length-map, length-take, length-take-le, map-append, take-map}
use Rattle.std.proofs.lemmas.Slice.{between-put_mid, drop-put_mid, take-put_mid_below}
use borrow.Rule.Slice.PartMut.{put_mid, put_same, same_len_mid}
use Rattle.chan_dies.specs.DiesState.{die_at, no_die}
use Rattle.chan_dies.specs.OneDie.{OthersStay}
use Rattle.contents_file.specs.DiesCopied.{AllStayOrOneFaults, AllTellPages, FailsAt, FaultsLoad}
use Rattle.contents_file.specs.declared.stop.WriteStop.{WriteStop}
use Rattle.contents_file.specs.declared.stop.WriteStop.TheVariants.{WriteFault, DieFailed}
use Rattle.drive_image.specs.WholeImage.{NamesOneBelow}
use Rattle.final_dies.specs.FinalDies.{dies_of_channel}
use Rattle.onfi_cmd.specs.DieState.{DieState}
use Rattle.ssd_geo.specs.declared.shape.Shape.{Shape}

-- the dies of a channel are among those of the list
pub part_fits : {A : Type 0} (state : A → DieState) (shape : Shape) (channel : ℕ) (dies : List A)
    → AllTellPages shape (dies_of_channel shape.dies (map state dies) channel)
    → channel * shape.dies + shape.dies ≤ length dies
part_fits state shape channel dies tell =
    let from : List DieState = drop (channel * shape.dies) (map state dies) in
    omega (
      arith,
      tell.count_is,
      length-take shape.dies from,
      length-drop (channel * shape.dies) (map state dies),
      length-map dies state,
      shape.within.dies_low,
    )

-- as many are lent as a channel has
pub as_many : (first count : ℕ) → first + count - first ≡ count
as_many first count = omega arith

-- what is lent
pub lent_are : {A : Type 0} (state : A → DieState) (first count k : ℕ) (dies : List A) → k ≡ count
    → map state (take k (drop first dies)) ≡ take count (drop first (map state dies))
lent_are state first count k dies as_many =
    sym (take-map state k (drop first dies))
    ∙ ap (λ (all : List DieState). take k all) (sym (drop-map state first dies))
    ∙ ap (λ (n : ℕ). take n (drop first (map state dies))) as_many

module _ (first count : ℕ) (olds own : List DieState) (fits : first + count ≤ length olds) (long : length own ≡ count) where
  -- the dies of a list where those from a place on became others
  abbrev news : List DieState
  news = put_mid first count olds own

  at_first : first ≤ length olds
  at_first = omega (arith, fits)

  stays_before : (number : ℕ) → number < first → die_at news number ≡ die_at olds number
  stays_before number before =
      sym (get_or-take first news number no_die before)
      ∙ ap (λ (all : List DieState). die_at all number) (take-put_mid_below first count olds own first (omega arith) at_first)
      ∙ get_or-take first olds number no_die before

  stays_behind : (number : ℕ) → first + count ≤ number → die_at news number ≡ die_at olds number
  stays_behind number behind =
      let k : ℕ = number - (first + count) in
      let there : first + count + k ≡ number = omega (arith, behind) in
      let at : (dies : List DieState) → die_at (drop (first + count) dies) k ≡ die_at dies number =
      λ dies. get_or-drop (first + count) dies k no_die ∙ ap (λ (i : ℕ). die_at dies i) there in
      sym (at news)
      ∙ ap (λ (all : List DieState). die_at all k)
      (drop-put_mid first count olds own (first + count) (omega arith) at_first long)
      ∙ at olds

  -- those that were lent, and those in their places
  was_own : (place : ℕ) → place < count → die_at (take count (drop first olds)) place ≡ die_at olds (first + place)
  was_own place low = get_or-take count (drop first olds) place no_die low ∙ get_or-drop first olds place no_die

  is_own : (place : ℕ) → place < count → die_at own place ≡ die_at news (first + place)
  is_own place low =
      let part : take (first + count - first) (drop first news) ≡ own =
      between-put_mid first count olds own (first + count) at_first (omega (arith, long)) in
      sym (ap (λ (all : List DieState). die_at all place) part)
      ∙ get_or-take (first + count - first) (drop first news) place no_die (omega (arith, low))
      ∙ get_or-drop first news place no_die

  others_stay : (place : ℕ) → place < count → OthersStay place (take count (drop first olds)) own
      → OthersStay (first + place) olds news
  others_stay place low others other is_other =
      elim (cases_lt other first) [
        | inl before ↦ stays_before other before
        | inr not_before ↦ elim (cases_lt other (first + count)) [
          | inl within ↦
              let k : ℕ = other - first in
              let there : first + k ≡ other = omega (arith, not_before) in
              let below : k < count = omega (arith, not_before, within) in
              let apart : k ≢ place = λ same. is_other (omega (arith, there, same)) in
              ap (λ (i : ℕ). die_at news i) (sym there) ∙ sym (is_own k below) ∙ others k apart ∙ was_own k below
              ∙ ap (λ (i : ℕ). die_at olds i) there
          | inr behind ↦ stays_behind other behind
        ]
      ]

  one_fails : (number : ℕ) → FailsAt first number (take count (drop first olds)) own → FailsAt 0 number olds news
  one_fails number fails =
      let place : ℕ = fails.place in
      let short : length (take count (drop first olds)) ≡ count =
      length-take-le count (drop first olds) (omega (arith, length-drop first olds, fits)) in
      let low : place < count = omega (arith, fails.in_list, short) in
      let as_long : length news ≡ length olds = same_len_mid first count olds own (long ∙ sym short) in
      record {
        place = first + place;
        in_list = omega (arith, low, fits);
        number_is = omega (arith, fails.number_is);
        fails = record {
          count_stays = as_long;
          others = others_stay place low fails.fails.others;
          changed =
              subst (λ (old : DieState). FaultsLoad old (die_at news (first + place))) (was_own place low)
              (subst (λ (new : DieState). FaultsLoad (die_at (take count (drop first olds)) place) new) (is_own place low)
              fails.fails.changed);
        };
      }

-- where those that were lent are as they were, all are
all_stay : (first count : ℕ) (olds own : List DieState) → own ≡ take count (drop first olds) → put_mid first count olds own ≡ olds
all_stay first count olds own same =
    ap (λ (part : List DieState). put_mid first count olds part) same ∙ put_same first count olds

become_among : {T : Type 0} (result : Result T WriteStop) (first count : ℕ) (olds own : List DieState)
    → first + count ≤ length olds → length own ≡ count → AllStayOrOneFaults first (take count (drop first olds)) own result
    → AllStayOrOneFaults 0 olds (put_mid first count olds own) result
become_among (Ok done) first count olds own fits long became = all_stay first count olds own became
become_among (Err WriteFault) first count olds own fits long became = all_stay first count olds own became
become_among (Err (DieFailed die)) first count olds own fits long became = one_fails first count olds own fits long die became

-- the states of a list where a part became another
states_put : {A : Type 0} (state : A → DieState) (first k : ℕ) (olds own : List A)
    → map state (put_mid first k olds own) ≡ put_mid first k (map state olds) (map state own)
states_put state first k olds own =
    map-append state (take first olds) (own ++ drop k (drop first olds))
    ∙ ap (λ (from : List DieState). map state (take first olds) ++ from) (map-append state own (drop k (drop first olds)))
    ∙ ap (λ (part : List DieState). part ++ (map state own ++ map state (drop k (drop first olds))))
    (sym (take-map state first olds))
    ∙ ap (λ (part : List DieState). take first (map state olds) ++ (map state own ++ part))
    (sym (drop-map state k (drop first olds)) ∙ ap (λ (part : List DieState). drop k part) (sym (drop-map state first olds)))

-- what became of the dies that were lent became of all
pub all_become : {A T : Type 0} (state : A → DieState) (result : Result T WriteStop) (first count k : ℕ) (olds own : List A)
    → k ≡ count → first + count ≤ length olds → length own ≡ count
    → AllStayOrOneFaults first (take count (drop first (map state olds))) (map state own) result
    → AllStayOrOneFaults 0 (map state olds) (map state (put_mid first k olds own)) result
all_become state result first count k olds own as_many fits long became =
    subst (λ (all : List DieState). AllStayOrOneFaults 0 (map state olds) all result)
    (sym (states_put state first k olds own
    ∙ ap (λ (n : ℕ). put_mid first n (map state olds) (map state own)) as_many))
    (become_among result first count (map state olds) (map state own) (omega (arith, fits, length-map olds state))
    (omega (arith, long, length-map own state)) became)

-- the die that failed is one of those that were lent
pub names_lent : {T : Type 0} (result : Result T WriteStop) (first count : ℕ) (olds news : List DieState) → length olds ≡ count
    → AllStayOrOneFaults first olds news result → NamesOneBelow (first + count) result
names_lent (Ok done) first count olds news long became = tt
names_lent (Err WriteFault) first count olds news long became = tt
names_lent (Err (DieFailed die)) first count olds news long became = omega (arith, became.number_is, became.in_list, long)

-- and so it is one of the drive's
pub names_one : (T U : Type 0) (stop : WriteStop) (channels dies channel : ℕ) → channel < channels
    → NamesOneBelow {T = T} (channel * dies + dies) (Err stop) → NamesOneBelow {T = U} (channels * dies) (Err stop)
names_one T U WriteFault channels dies channel within names = tt
names_one T U (DieFailed die) channels dies channel within names =
    let fits : (channel + 1) * dies ≤ channels * dies =
    mul-le-mul {n₁ = channel + 1} {m₁ = dies} {n₂ = channels} {m₂ = dies} (omega (arith, within)) (omega arith) in
    omega (arith, names, fits)
