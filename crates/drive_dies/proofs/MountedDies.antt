-- What follows from what the mounts of dies did: how they were counted, and that the dies are ready.
use Rattle.std.proofs.Common.{ℕ, ◌≡◌, ◌≢◌, ◌<◌, ◌≤◌, true, is_some, List, length, slice_get, get_or, Option, Some, None, IfSome, Result, Ok, Err, OnOk, refl, sym, ap, subst, ◌∙◌, inl, inr, arith}
use Rattle.std.proofs.lemmas.Bool.{cases_eq, cases_lt}
use Rattle.std.proofs.lemmas.Option.{slice_get-get_or, slice_get_within}
use Rattle.onfi_cmd.specs.DieCalls.{IsBlank}
use Rattle.onfi_cmd.specs.DieState.{DieState}
use Rattle.ssd_geo.specs.BlockCells.{BlockCells}
use Rattle.ssd_geo.specs.declared.head.ImageHead.{ImageHead}
use Rattle.drive_dies.specs.Mounting.{AllTell, AreReady, CountsLoad, CountsMounts, CountsNone, EachBecomes, IsBlankDie, IsMountedBelow, IsMountedUpTo, Mounts, MountsDies, die_count, plan_in_drive}
use Rattle.drive_dies.specs.declared.mounting.MountStop.{MountStop}
use Rattle.drive_dies.specs.declared.mounting.MountStop.TheVariants.{Failed, Memory}

-- what became of each die may be said in other words
becomes : (P R : ℕ → DieState → DieState → Type 0) (olds news : List DieState)
    → ((number : ℕ) (old new : DieState) → P number old new → R number old new) → EachBecomes P olds news → EachBecomes R olds news
becomes P R olds news so each = record {
  count_stays = each.count_stays;
  each = λ number old new was is. so number old new (each.each number old new was is);
}

same_counts : (old new : DieState) → new ≡ old → CountsNone old new
same_counts old new same = record {
  works_stay = ap (λ (die : DieState). die.work_count) same;
  loads_stay = ap (λ (die : DieState). die.load_count) same;
}

below_counts : (head : ImageHead) (bound number : ℕ) (old new : DieState) → IsMountedBelow head bound number old new → CountsNone old new
below_counts head bound number old new is = elim (cases_lt number bound) [
  | inl low ↦ record { works_stay = (is.mounted low).works_stay; loads_stay = (is.mounted low).loads_stay }
  | inr high ↦ same_counts old new (is.stays high)
]

failed_counts : (head : ImageHead) (failed number : ℕ) (old new : DieState) → IsMountedUpTo head failed number old new
    → CountsLoad failed number old new
failed_counts head failed number old new is = elim (cases_lt number failed) [
  | inl low ↦ record {
    works_stay = (is.mounted low).works_stay;
    rose = λ same. absurd (omega arith);
    others = λ _. (is.mounted low).loads_stay;
  }
  | inr high ↦ elim (cases_eq number failed) [
    | inl same ↦ record {
      works_stay = (is.fails same).works_stay;
      rose = λ _. (is.fails same).rose;
      others = λ apart. absurd (apart same);
    }
    | inr apart ↦
        let counts : CountsNone old new = same_counts old new (is.stays (omega arith)) in
        record {
          works_stay = counts.works_stay;
          rose = λ same. absurd (apart same);
          others = λ _. counts.loads_stay;
        }
  ]
]

-- how the mounts were counted
pub counts_mounts : {T : Type 0} (head : ImageHead) (olds news : List DieState) (result : Result T MountStop)
    → die_count head ≤ length olds → MountsDies head olds news result → CountsMounts olds news result
counts_mounts head olds news (Ok done) enough each =
    becomes (IsMountedBelow head (die_count head)) (λ number old new. CountsNone old new) olds news (below_counts head (die_count head)) each
counts_mounts head olds news (Err (Failed die)) enough both = record {
  in_list = omega (arith, both.0, enough);
  counts = becomes (IsMountedUpTo head die) (CountsLoad die) olds news (failed_counts head die) both.1;
}
counts_mounts head olds news (Err Memory) enough some =
    becomes (IsMountedBelow head some.0) (λ number old new. CountsNone old new) olds news (below_counts head some.0) some.2

blank_of : (told : Option (List BlockCells)) (P : Type 0) → is_some told ≡ true → IfSome told (λ blocks. P) → P
blank_of (Some blocks) P tells blank = blank
blank_of None P tells blank = absurd (cc)

-- dies that tell are ready once all are mounted
pub are_ready : {T : Type 0} (head : ImageHead) (olds news : List DieState) (result : Result T MountStop) → die_count head ≤ length olds
    → MountsDies head olds news result → OnOk result (AllTell olds → AreReady head news)
are_ready head olds news (Ok done) enough each = λ tell. record {
  enough = omega (arith, each.count_stays, enough);
  each = λ number die low at.
      let in_olds : number < length olds = omega (arith, slice_get_within news number die at, each.count_stays) in
      let old : DieState = get_or olds number die in
      let was : slice_get olds number ≡ Some old = slice_get-get_or olds number die in_olds in
      let mounts : Mounts (plan_in_drive head number) old die = (each.each number old die was at).mounted low in
      record {
        plan_is = mounts.plan_is;
        blank = blank_of old.told (IsBlank (plan_in_drive head number) die) (tell number old was) mounts.blank;
      };
}
are_ready head olds news (Err stop) enough each = tt
