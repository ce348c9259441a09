-- Channels that go behind locks and come out again, one after the other.
use Rattle.std.proofs.Common.{ℕ, ◌≡◌, List, [], ◌∷◌, ◌++◌, length, map, slice_get, Some, refl, sym, ap, subst, ◌∙◌}
use Rattle.std.proofs.lemmas.List.{length-map, map-append}
use Rattle.std.proofs.lemmas.Option.{same_Some, slice_get-map}
use Rattle.ssd_histories.specs.Start.{Start}
use Rattle.ssd_geo.specs.declared.tag.Tag.{Tag}
use Rattle.shared_steps.specs.Tracing.{TracedState}
use Rattle.turn_table.specs.Passes.{LockState, PassState}
use Rattle.raced_channels.specs.Locks.{IsClosed, IsLocked}
use Rattle.raced_channels.proofs.Grown.{grown, grown_both}

abbrev pub EachLocked : List (Tag × List ℕ) → ℕ → List TracedState → List (LockState Start) → List (List PassState) → Type 0
EachLocked contents actors channels locks rows =
    (number : ℕ) (lock : LockState Start) (row : List PassState) → slice_get locks number ≡ Some lock
    → slice_get rows number ≡ Some row
    → (channel : TracedState) → slice_get channels number ≡ Some channel → IsLocked contents actors channel lock row

-- one channel more went behind a lock
pub one_more_locked : {V : Type 0} (items : V → List PassState) (contents : List (Tag × List ℕ)) (actors n : ℕ) (channels : List TracedState)
    (locks locks' : List (LockState Start)) (rows rows' : List V) (lock : LockState Start) (row : V) (channel : TracedState)
    → length locks ≡ n → length rows ≡ n → locks' ≡ locks ++ lock ∷ [] → rows' ≡ rows ++ row ∷ []
    → slice_get channels n ≡ Some channel → IsLocked contents actors channel lock (items row)
    → EachLocked contents actors channels locks (map items rows) → EachLocked contents actors channels locks' (map items rows')
one_more_locked {V = V} items contents actors n channels locks locks' rows rows' lock row channel long long' more more' there is each =
    let grows : map items rows' ≡ map items rows ++ items row ∷ [] =
    ap (λ (all : List V). map items all) more' ∙ map-append items rows (row ∷ []) in
    subst (λ (all : List (LockState Start)). EachLocked contents actors channels all (map items rows')) (sym more)
    (subst (λ (all : List (List PassState)). EachLocked contents actors channels (locks ++ lock ∷ []) all) (sym grows)
    (grown_both
    (λ (k : ℕ) (one : LockState Start) (its : List PassState).
    (other : TracedState) → slice_get channels k ≡ Some other → IsLocked contents actors other one its)
    locks (map items rows) lock (items row) n (sym long) (sym (length-map rows items ∙ long')) each
    (λ other at. subst (λ (one : TracedState). IsLocked contents actors one lock (items row)) (same_Some channel other (sym there ∙ at)) is)))

abbrev pub EachClosed : List (Tag × List ℕ) → List (LockState Start) → List (List PassState) → List TracedState → Type 0
EachClosed contents locks rows channels =
    (number : ℕ) (channel : TracedState) → slice_get channels number ≡ Some channel
    → (lock : LockState Start) (row : List PassState) → slice_get locks number ≡ Some lock → slice_get rows number ≡ Some row
    → IsClosed contents lock row channel

-- one channel more came out of its lock
pub one_more_closed : (contents : List (Tag × List ℕ)) (n : ℕ) (locks : List (LockState Start)) (rows : List (List PassState))
    (channels channels' : List TracedState) (lock : LockState Start) (row : List PassState) (channel : TracedState)
    → length channels ≡ n → channels' ≡ channels ++ channel ∷ [] → slice_get locks n ≡ Some lock → slice_get rows n ≡ Some row
    → IsClosed contents lock row channel → EachClosed contents locks rows channels → EachClosed contents locks rows channels'
one_more_closed contents n locks rows channels channels' lock row channel long more there there' is each =
    subst (λ (all : List TracedState). EachClosed contents locks rows all) (sym more)
    (grown
    (λ (k : ℕ) (one : TracedState).
    (other : LockState Start) (its : List PassState) → slice_get locks k ≡ Some other → slice_get rows k ≡ Some its
    → IsClosed contents other its one)
    channels channel n (sym long) each
    (λ other its at at'.
    subst (λ (one : LockState Start). IsClosed contents one its channel) (same_Some lock other (sym there ∙ at))
    (subst (λ (one : List PassState). IsClosed contents lock one channel) (same_Some row its (sym there' ∙ at')) is)))

-- the passes of the next row are all of the next lock
pub next_row : {V : Type 0} (items : V → List PassState) (rows : List V) (n : ℕ) (row : V) → slice_get rows n ≡ Some row
    → slice_get (map items rows) n ≡ Some (items row)
next_row items rows n row there = slice_get-map items rows n ∙ rw there refl
