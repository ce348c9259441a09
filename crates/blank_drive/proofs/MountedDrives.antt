-- Dies that were mounted in the place of a list are its items, and those behind the drive's are as they were.
use Rattle.std.proofs.Common.{ℕ, zero, suc, ◌≡◌, ◌+◌, ◌≤◌, List, [], ◌∷◌, ◌++◌, drop, length, map, slice_get, take, Some, Result, Ok, Err, OnOk, refl, sym, ap, subst, ◌∙◌, arith}
use Rattle.std.proofs.Math.Seq.{take-append_seam}
use Rattle.drive_dies.specs.Mounting.{AllTell, AreReady, CountsMounts, MountsDies, die_count}
use Rattle.drive_dies.specs.declared.mounting.MountStop.{MountStop}
use Rattle.onfi_cmd.specs.DieState.{DieState}
use Rattle.ssd_geo.specs.declared.head.ImageHead.{ImageHead}

-- items that were written in the place of all those of a list are its items
written_whole : {A : Type 0} (olds news : List A) (count : ℕ) → length news ≡ count
    → take count (news ++ drop (length news) olds) ≡ news
written_whole olds news count long =
    ap (λ (n : ℕ). take n (news ++ drop (length news) olds)) (sym long) ∙ take-append_seam news (drop (length news) olds)

-- lists with the same items from a place on
same_behind : {A : Type 0} (count : ℕ) (olds news : List A) → length news ≡ length olds
    → ((number : ℕ) (old new : A) → count ≤ number → slice_get olds number ≡ Some old → slice_get news number ≡ Some new
    → new ≡ old)
    → drop count news ≡ drop count olds
same_behind zero [] [] long each = refl
same_behind zero [] (new ∷ news) long each = absurd (omega arith)
same_behind zero (old ∷ olds) [] long each = absurd (omega arith)
same_behind zero (old ∷ olds) (new ∷ news) long each =
    rw (
      each 0 old new (omega arith) refl refl,
      same_behind 0 olds news (omega (arith, long)) (λ n x y low was is. each (suc n) x y (omega arith) was is),
    ) refl
same_behind (suc count) [] [] long each = refl
same_behind (suc count) [] (new ∷ news) long each = absurd (omega arith)
same_behind (suc count) (old ∷ olds) [] long each = absurd (omega arith)
same_behind (suc count) (old ∷ olds) (new ∷ news) long each =
    same_behind count olds news (omega (arith, long)) (λ n x y low was is. each (suc n) x y (omega (arith, low)) was is)

-- the dies behind those of the drive are as they were
others_stay : {T : Type 0} (head : ImageHead) (olds news : List DieState) (result : Result T MountStop)
    → MountsDies head olds news result
    → OnOk result (drop (die_count head) news ≡ drop (die_count head) olds)
others_stay head olds news (Ok done) each =
    same_behind (die_count head) olds news each.count_stays (λ n old new above was is. (each.each n old new was is).stays above)
others_stay head olds news (Err stop) each = tt

are_ready : {T : Type 0} (head : ImageHead) (olds news : List DieState) (result : Result T MountStop) → AllTell olds
    → OnOk result (AllTell olds → AreReady head news) → OnOk result (AreReady head news)
are_ready head olds news (Ok done) tell ready = ready tell
are_ready head olds news (Err stop) tell ready = tt

-- a slice was lent by a list of so many items, and dies of it were mounted
module _ {A T : Type 0} (state : A → DieState) (head : ImageHead) (olds seen news : List A) (count : ℕ)
    (long : length news ≡ count)
    (same : seen ≡ olds) (result : Result T MountStop) where
  abbrev after : List A
  after = take count (news ++ drop (length news) olds)

  after_is : map state after ≡ map state news
  after_is = ap (λ (all : List A). map state all) (written_whole olds news count long)

  seen_is : map state seen ≡ map state olds
  seen_is = ap (λ (all : List A). map state all) same

  pub ready_after : AllTell (map state olds) → OnOk result (AllTell (map state seen) → AreReady head (map state news))
      → OnOk result (AreReady head (map state after))
  ready_after tell ready =
      subst (λ (all : List DieState). OnOk result (AreReady head all)) (sym after_is)
      (are_ready head (map state seen) (map state news) result
      (subst (λ (all : List DieState). AllTell all) (sym seen_is) tell) ready)

  pub counts_after : CountsMounts (map state seen) (map state news) result
      → CountsMounts (map state olds) (map state after) result
  counts_after counts =
      subst (λ (all : List DieState). CountsMounts (map state olds) all result) (sym after_is)
      (subst (λ (all : List DieState). CountsMounts all (map state news) result) seen_is counts)

  pub others_after : MountsDies head (map state seen) (map state news) result
      → OnOk result (drop (die_count head) (map state after) ≡ drop (die_count head) (map state olds))
  others_after mounts =
      subst (λ (all : List DieState). OnOk result (drop (die_count head) all ≡ drop (die_count head) (map state olds)))
      (sym after_is)
      (subst (λ (all : List DieState). OnOk result (drop (die_count head) (map state news) ≡ drop (die_count head) all)) seen_is
      (others_stay head (map state seen) (map state news) result mounts))
