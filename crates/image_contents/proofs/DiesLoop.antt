-- The dies of a channel, whose blocks of one superblock are loaded one after the other.
use Rattle.std.proofs.Common.{◌≡◌, ◌≢◌, ℕ, suc, ◌+◌, ◌<◌, ◌≤◌, List, [], ◌∷◌, ◌++◌, length, set, take, drop, get_or, slice_get, Some, Result, Ok, Err, refl, sym, ap, subst, ◌∙◌, inl, inr, arith, drop-cons}
use Rattle.std.proofs.lemmas.Bool.{cases_lt}
use Rattle.std.proofs.lemmas.List.{map-append, take_more_set}
use Rattle.std.proofs.lemmas.Option.{slice_get-get_or, slice_get_within}
use Rattle.chan_dies.specs.DiesState.{no_die}
use Rattle.drive_dies.proofs.EachDie.{one_changed}
use Rattle.drive_dies.specs.Mounting.{EachBecomes}
use Rattle.onfi_cmd.specs.DieState.{DieState}
use Rattle.image_file.specs.StopCauses.{StopHasCause}
use Rattle.image_file.specs.declared.stop.ImageFault.{ImageFault}
use Rattle.image_file.specs.declared.stop.ReadStop.{ReadStop}
use Rattle.image_file.specs.declared.stop.ReadStop.TheVariants.{Fault as FaultAt, ReadFault, DieFailed, Memory}
use Rattle.image_contents.proofs.DieSteps.{keeps_both, keeps_none}
use Rattle.image_contents.specs.DiesLoaded.{BecomeLoaded, BecomesLoaded, CountsLoad, CountsLoadAmong, KeepsPlan, LoadsBlock, NamesOne, block_of, count_at, pages_in}

-- a die below a bound was loaded and counted nothing, and one from there on is as it was
pub record IsLoadedBelow (sb erases cells : ℕ) (counts : List ℕ) (bound number : ℕ) (old new : DieState) : Type 0 where
  pub loaded : number < bound → LoadsBlock sb erases (count_at counts number) cells old new
  pub loads_stay : new.load_count ≡ old.load_count
  pub stays : bound ≤ number → new ≡ old

-- at the beginning none was loaded
pub none_loaded : (sb erases cells : ℕ) (counts : List ℕ) (states : List DieState) → EachBecomes (IsLoadedBelow sb erases cells counts 0) states states
none_loaded sb erases cells counts states = record {
  count_stays = refl;
  each = λ number old new was is.
      let same : new ≡ old = cc in
      record {
        loaded = λ below. absurd (omega arith);
        loads_stay = ap (λ (die : DieState). die.load_count) same;
        stays = λ above. same;
      };
}

-- a die that isn't loaded yet is as it was
pub not_yet_loaded : (sb erases cells : ℕ) (counts : List ℕ) (olds news : List DieState) (number : ℕ) (before : DieState)
    → EachBecomes (IsLoadedBelow sb erases cells counts number) olds news → number < length news → before ≡ get_or news number before
    → before ≡ get_or olds number before
not_yet_loaded sb erases cells counts olds news number before each below at =
    let old : DieState = get_or olds number before in
    let was : slice_get olds number ≡ Some old = slice_get-get_or olds number before (omega (arith, each.count_stays, below)) in
    let now : slice_get news number ≡ Some before = slice_get-get_or news number before below ∙ ap (λ (x : DieState). Some x) (sym at) in
    (each.each number old before was now).stays (omega arith)

-- one more die is loaded
pub one_more_loaded : (sb erases cells : ℕ) (counts : List ℕ) (olds news : List DieState) (number : ℕ) (before after : DieState)
    → EachBecomes (IsLoadedBelow sb erases cells counts number) olds news → number < length news → before ≡ get_or news number before
    → LoadsBlock sb erases (count_at counts number) cells before after → after.load_count ≡ before.load_count
    → EachBecomes (IsLoadedBelow sb erases cells counts (number + 1)) olds (set news number after)
one_more_loaded sb erases cells counts olds news number before after each below at loads counted =
    one_changed (IsLoadedBelow sb erases cells counts number) (IsLoadedBelow sb erases cells counts (number + 1)) olds news number before after each below at
    (λ old so_far.
    let same : before ≡ old = so_far.stays (omega arith) in
    record {
      loaded = λ _. subst (λ (x : DieState). LoadsBlock sb erases (count_at counts number) cells x after) same loads;
      loads_stay = counted ∙ so_far.loads_stay;
      stays = λ above. absurd (omega arith);
    })
    (λ other old new apart so_far. record {
      loaded = λ low. so_far.loaded (omega arith);
      loads_stay = so_far.loads_stay;
      stays = λ above. so_far.stays (omega arith);
    })

-- the pages of one more die
pub pages_longer : (sb number : ℕ) (states : List DieState) (after : DieState) → number < length states
    → pages_in sb (take (number + 1) (set states number after)) ≡ pages_in sb (take number states) ++ (block_of sb after).pages ∷ []
pages_longer sb number states after below =
    ap (λ l. pages_in sb l) (take_more_set states number after below)
    ∙ map-append (λ (die : DieState). (block_of sb die).pages) (take number states) (after ∷ [])

-- the next number of pages
pub next_count : (counts : List ℕ) (number : ℕ) → number < length counts → drop number counts ≡ count_at counts number ∷ drop (number + 1) counts
next_count counts number below =
    let next : suc number ≡ number + 1 = omega arith in
    drop-cons counts number 0 below ∙ ap (λ n. count_at counts number ∷ drop n counts) next

-- what a stop of one die's part says of the dies: the one that was asked may have counted a load
pub counts_among : (stop : ReadStop ImageFault) (number : ℕ) (before now : ℕ) → CountsLoad {X = Unit {0}} number before now (Err stop)
    → CountsLoadAmong {X = Unit {0}} number before now (Err stop)
counts_among (FaultAt at fault) number before now counts = counts
counts_among ReadFault number before now counts = counts
counts_among (DieFailed die) number before now counts = (λ same. counts.1, λ apart. absurd (apart counts.0))
counts_among Memory number before now counts = counts

-- another die counted none
pub others_count : (stop : ReadStop ImageFault) (number other before now asked asked_now : ℕ) → CountsLoad {X = Unit {0}} number asked asked_now (Err stop)
    → other ≢ number → now ≡ before → CountsLoadAmong {X = Unit {0}} other before now (Err stop)
others_count (FaultAt at fault) number other before now asked asked_now counts apart same = same
others_count ReadFault number other before now asked asked_now counts apart same = same
others_count (DieFailed die) number other before now asked asked_now counts apart same =
    (λ is. absurd (apart (sym is ∙ counts.0)), λ _. same)
others_count Memory number other before now asked asked_now counts apart same = same

-- the die that was asked is one of them
pub names_asked : (stop : ReadStop ImageFault) (first number count before now : ℕ) → number < count → CountsLoad {X = Unit {0}} (first + number) before now (Err stop)
    → NamesOne {X = Unit {0}} first count (Err stop)
names_asked (FaultAt at fault) first number count before now below counts = tt
names_asked ReadFault first number count before now below counts = tt
names_asked (DieFailed die) first number count before now below counts =
    let is : die ≡ first + number = counts.0 in (omega (arith, is), omega (arith, is, below))
names_asked Memory first number count before now below counts = tt

-- the plan of each die stays
pub kept_so_far : (sb erases cells : ℕ) (counts : List ℕ) (bound number : ℕ) (old new : DieState) → IsLoadedBelow sb erases cells counts bound number old new → KeepsPlan old new
kept_so_far sb erases cells counts bound number old new so_far = elim (cases_lt number bound) [
  | inl below ↦ (so_far.loaded below).changes.keeps
  | inr above ↦ subst (λ (x : DieState). KeepsPlan old x) (sym (so_far.stays above)) (keeps_none old)
]

-- all were loaded
pub all_loaded : (sb erases cells : ℕ) (counts : List ℕ) (olds news : List DieState) (number : ℕ) → length olds ≤ number
    → EachBecomes (IsLoadedBelow sb erases cells counts number) olds news
    → EachBecomes (λ die old new. LoadsBlock sb erases (count_at counts die) cells old new) olds news
all_loaded sb erases cells counts olds news number all each = record {
  count_stays = each.count_stays;
  each = λ die old new was is.
      let within : die < length olds = slice_get_within olds die old was in
      (each.each die old new was is).loaded (omega arith);
}

pub all_become : {X : Type 0} (sb erases cells first : ℕ) (counts : List ℕ) (olds news : List DieState) (number : ℕ) (answer : X)
    → EachBecomes (IsLoadedBelow sb erases cells counts number) olds news → BecomeLoaded {X = X} {F = ImageFault} first olds news (Ok answer)
all_become sb erases cells first counts olds news number answer each = record {
  each = record {
    count_stays = each.count_stays;
    each = λ die old new was is.
        let so_far = each.each die old new was is in
        record { keeps = kept_so_far sb erases cells counts number die old new so_far; counts = so_far.loads_stay };
  };
  names_one = tt;
}

-- the next die stops the dies
pub next_die_stops : (sb erases cells first : ℕ) (counts : List ℕ) (olds news : List DieState) (number : ℕ) (before after : DieState) (stop : ReadStop ImageFault)
    → EachBecomes (IsLoadedBelow sb erases cells counts number) olds news → number < length news → before ≡ get_or news number before
    → KeepsPlan before after → CountsLoad {X = Unit {0}} (first + number) before.load_count after.load_count (Err stop)
    → BecomeLoaded {X = Unit {0}} first olds (set news number after) (Err stop)
next_die_stops sb erases cells first counts olds news number before after stop each below at keeps counted = record {
  each =
      one_changed (IsLoadedBelow sb erases cells counts number) (λ k old new. BecomesLoaded {X = Unit {0}} (Err stop) (first + k) old new)
      olds news number before after each below at
      (λ old so_far.
      let same : before ≡ old = so_far.stays (omega arith) in
      record {
        keeps = subst (λ (x : DieState). KeepsPlan x after) same keeps;
        counts = subst (λ (x : DieState). CountsLoadAmong {X = Unit {0}} (first + number) x.load_count after.load_count (Err stop)) same
            (counts_among stop (first + number) before.load_count after.load_count counted);
      })
      (λ other old new apart so_far. record {
        keeps = kept_so_far sb erases cells counts number other old new so_far;
        counts = others_count stop (first + number) (first + other) old.load_count new.load_count before.load_count after.load_count counted
            (λ same. apart (omega (arith, same))) so_far.loads_stay;
      });
  names_one = names_asked stop first number (length olds) before.load_count after.load_count (omega (arith, each.count_stays, below)) counted;
}

-- a die keeps its plan, and counted no load
pub record KeepsLoads (old new : DieState) : Type 0 where
  pub keeps : KeepsPlan old new
  pub loads_stay : new.load_count ≡ old.load_count

-- so does each of them where nothing happened
pub loads_kept : (states : List DieState) → EachBecomes (λ number old new. KeepsLoads old new) states states
loads_kept states = record {
  count_stays = refl;
  each = λ number old new was is.
      let same : new ≡ old = cc in
      subst (λ (x : DieState). KeepsLoads old x) (sym same) (record { keeps = keeps_none old; loads_stay = refl });
}

-- and where the dies were loaded to the end
pub loads_kept_if_ok : {X : Type 0} (first : ℕ) (olds news : List DieState) (answer : X) → BecomeLoaded {X = X} {F = ImageFault} first olds news (Ok answer)
    → EachBecomes (λ number old new. KeepsLoads old new) olds news
loads_kept_if_ok first olds news answer become = record {
  count_stays = become.each.count_stays;
  each = λ number old new was is.
      let one = become.each.each number old new was is in record { keeps = one.keeps; loads_stay = one.counts };
}

-- and then again
pub loads_kept_on : (olds mids news : List DieState) → EachBecomes (λ number old new. KeepsLoads old new) olds mids
    → EachBecomes (λ number old new. KeepsLoads old new) mids news → EachBecomes (λ number old new. KeepsLoads old new) olds news
loads_kept_on olds mids news before after = record {
  count_stays = after.count_stays ∙ before.count_stays;
  each = λ number old new was is.
      let within : number < length mids = omega (arith, before.count_stays, slice_get_within olds number old was) in
      let mid : DieState = get_or mids number no_die in
      let held : slice_get mids number ≡ Some mid = slice_get-get_or mids number no_die within in
      let one = before.each number old mid was held in
      let two = after.each number mid new held is in
      record { keeps = keeps_both old mid new one.keeps two.keeps; loads_stay = two.loads_stay ∙ one.loads_stay };
}

-- that is what an end without a stop says of them
pub become_if_ok : {X : Type 0} (first : ℕ) (olds news : List DieState) (answer : X) → EachBecomes (λ number old new. KeepsLoads old new) olds news
    → BecomeLoaded {X = X} {F = ImageFault} first olds news (Ok answer)
become_if_ok first olds news answer kept = record {
  each = record {
    count_stays = kept.count_stays;
    each = λ number old new was is.
        let one = kept.each number old new was is in record { keeps = one.keeps; counts = one.loads_stay };
  };
  names_one = tt;
}

-- where the source or the memory stopped, none counted a load
counts_unasked : (X : Type 0) (stop : ReadStop ImageFault) (before now number loads loads_now : ℕ) → StopHasCause before now stop → loads_now ≡ loads
    → CountsLoadAmong {X = X} number loads loads_now (Err stop)
counts_unasked X (FaultAt at fault) before now number loads loads_now cause same = same
counts_unasked X ReadFault before now number loads loads_now cause same = same
counts_unasked X (DieFailed die) before now number loads loads_now cause same = absurd cause
counts_unasked X Memory before now number loads loads_now cause same = same

names_unasked : (X : Type 0) (stop : ReadStop ImageFault) (before now first count : ℕ) → StopHasCause before now stop → NamesOne {X = X} first count (Err stop)
names_unasked X (FaultAt at fault) before now first count cause = tt
names_unasked X ReadFault before now first count cause = tt
names_unasked X (DieFailed die) before now first count cause = absurd cause
names_unasked X Memory before now first count cause = tt

pub become_unasked : {X : Type 0} (first before now : ℕ) (olds news : List DieState) (stop : ReadStop ImageFault) → StopHasCause before now stop
    → EachBecomes (λ number old new. KeepsLoads old new) olds news → BecomeLoaded {X = X} {F = ImageFault} first olds news (Err stop)
become_unasked {X = X} first before now olds news stop cause kept = record {
  each = record {
    count_stays = kept.count_stays;
    each = λ number old new was is.
        let one = kept.each number old new was is in
        record { keeps = one.keeps; counts = counts_unasked X stop before now (first + number) old.load_count new.load_count cause one.loads_stay };
  };
  names_one = names_unasked X stop before now first (length olds) cause;
}

-- a stop of a part is one of the whole
counts_on : (X Y : Type 0) (stop : ReadStop ImageFault) (number before now : ℕ) → CountsLoadAmong {X = X} number before now (Err stop)
    → CountsLoadAmong {X = Y} number before now (Err stop)
counts_on X Y (FaultAt at fault) number before now counts = counts
counts_on X Y ReadFault number before now counts = counts
counts_on X Y (DieFailed die) number before now counts = counts
counts_on X Y Memory number before now counts = counts

names_on : (X Y : Type 0) (stop : ReadStop ImageFault) (first count : ℕ) → NamesOne {X = X} first count (Err stop) → NamesOne {X = Y} first count (Err stop)
names_on X Y (FaultAt at fault) first count names = names
names_on X Y ReadFault first count names = names
names_on X Y (DieFailed die) first count names = names
names_on X Y Memory first count names = names

pub become_on : {X Y : Type 0} (first : ℕ) (olds news : List DieState) (stop : ReadStop ImageFault) → BecomeLoaded {X = X} {F = ImageFault} first olds news (Err stop)
    → BecomeLoaded {X = Y} first olds news (Err stop)
become_on {X = X} {Y = Y} first olds news stop become = record {
  each = record {
    count_stays = become.each.count_stays;
    each = λ number old new was is.
        let one = become.each.each number old new was is in
        record { keeps = one.keeps; counts = counts_on X Y stop (first + number) old.load_count new.load_count one.counts };
  };
  names_one = names_on X Y stop first (length olds) become.names_one;
}

-- dies that only had blocks loaded so far, and then became something: so they did from the beginning on
pub loaded_later : {X : Type 0} (first : ℕ) (olds mids news : List DieState) (result : Result X (ReadStop ImageFault))
    → EachBecomes (λ number old new. KeepsLoads old new) olds mids
    → BecomeLoaded first mids news result → BecomeLoaded first olds news result
loaded_later {X = X} first olds mids news result so_far become = record {
  each = record {
    count_stays = become.each.count_stays ∙ so_far.count_stays;
    each = λ number old new was is.
        let within : number < length mids = omega (arith, so_far.count_stays, slice_get_within olds number old was) in
        let mid : DieState = get_or mids number no_die in
        let held : slice_get mids number ≡ Some mid = slice_get-get_or mids number no_die within in
        let before = so_far.each number old mid was held in
        let after = become.each.each number mid new held is in
        record {
          keeps = keeps_both old mid new before.keeps after.keeps;
          counts = subst (λ (n : ℕ). CountsLoadAmong {X = X} (first + number) n new.load_count result) before.loads_stay after.counts;
        };
  };
  names_one = subst (λ (n : ℕ). NamesOne {X = X} first n result) so_far.count_stays become.names_one;
}
