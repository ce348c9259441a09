-- The runs of channels when one channel's past has changed: they are the runs before with that channel's run set anew.
use Rattle.std.proofs.Common.{ℕ, suc, zero, ◌≡◌, ◌≢◌, ◌<◌, Bool, true, false, List, [], ◌∷◌, length, Option, Some, refl, ap, ◌∙◌, inl, inr, arith, length-set, get_or-set_same, eqb-true, eq-eqb}
use Rattle.std.specs.Prelude.{◌⊎◌, ◌==◌, slice_get, slice_set}
use Rattle.std.proofs.lemmas.Option.{slice_get-get_or}
use Rattle.ssd_histories.specs.CallsInOrder.{ChannelRun}
use Rattle.ssd_histories.specs.Start.{Start}
use Rattle.ssd_geo.specs.declared.entry.Entry.{Entry}
use Rattle.run_laws.specs.Runs.{runs_with}

-- a list that was set at a place holds there what was set, and elsewhere what it held
pub get_set : {X : Type 0} (xs : List X) (k : ℕ) (y : X) → k < length xs → slice_get (slice_set xs k y) k ≡ Some y
get_set xs k y within =
    slice_get-get_or (slice_set xs k y) k y (omega (arith, length-set xs k y, within)) ∙ ap {B = Option _} Some (get_or-set_same xs k y y within)

-- whether two numbers are one
pub one_or_other : (i k : ℕ) → (i ≡ k) ⊎ (i ≢ k)
one_or_other i k = by_test (i == k) refl
  where
    by_test : (b : Bool) → (i == k) ≡ b → (i ≡ k) ⊎ (i ≢ k)
    by_test true e = inl (eqb-true i k e)
    by_test false e = inr (λ same. absurd (grind (arith, eq-eqb i k same)))

-- the runs with one past changed
pub runs_changed : (starts : List Start) (pasts : List (List Entry)) (k : ℕ) (start : Start) (after : List Entry) → slice_get starts k ≡ Some start → runs_with starts (slice_set pasts k after) ≡ slice_set (runs_with starts pasts) k (record { start = start; past = after })
runs_changed [] pasts k start after is = absurd (grind arith)
runs_changed (first ∷ starts) [] k start after is = refl
runs_changed (first ∷ starts) (past ∷ pasts) zero start after is =
    let same : first ≡ start = grind arith in
    ap {B = List ChannelRun} (λ (s : Start). record { start = s; past = after } ∷ runs_with starts pasts) same
runs_changed (first ∷ starts) (past ∷ pasts) (suc k) start after is =
    ap {B = List ChannelRun} (λ (runs : List ChannelRun). record { start = first; past = past } ∷ runs) (runs_changed starts pasts k start after is)

pub run_at : (starts : List Start) (pasts : List (List Entry)) (k : ℕ) (start : Start) (past : List Entry) → slice_get starts k ≡ Some start → slice_get pasts k ≡ Some past → slice_get (runs_with starts pasts) k ≡ Some (record { start = start; past = past })
run_at [] pasts k start past is has = absurd (grind arith)
run_at (first ∷ starts) [] k start past is has = absurd (grind arith)
run_at (first ∷ starts) (other ∷ pasts) zero start past is has =
    let starts_same : first ≡ start = grind arith in
    let pasts_same : other ≡ past = grind arith in
    λ i. Some (record { start = starts_same i; past = pasts_same i })
run_at (first ∷ starts) (other ∷ pasts) (suc k) start past is has = run_at starts pasts k start past is has

-- a run has its channel's start and past
pub run_parts : (starts : List Start) (pasts : List (List Entry)) (k : ℕ) (run : ChannelRun) →
    slice_get (runs_with starts pasts) k ≡ Some run → (slice_get starts k ≡ Some run.start) × (slice_get pasts k ≡ Some run.past)
run_parts [] pasts k run is = absurd (grind arith)
run_parts (first ∷ starts) [] k run is = absurd (grind arith)
run_parts (first ∷ starts) (past ∷ pasts) zero run is =
    let same : ◌≡◌ {A = ChannelRun} (record { start = first; past = past }) run = grind arith in
    (ap {B = Option Start} (λ (one : ChannelRun). Some one.start) same, ap {B = Option (List Entry)} (λ (one : ChannelRun). Some one.past) same)
run_parts (first ∷ starts) (past ∷ pasts) (suc k) run is = run_parts starts pasts k run is

pub runs_as_many : (starts : List Start) (pasts : List (List Entry)) → length pasts ≡ length starts → length (runs_with starts pasts) ≡ length starts
runs_as_many [] pasts many = refl
runs_as_many (start ∷ starts) [] many = absurd (omega arith)
runs_as_many (start ∷ starts) (past ∷ pasts) many =
    let fewer : length pasts ≡ length starts = omega arith in
    omega (arith, runs_as_many starts pasts fewer)
