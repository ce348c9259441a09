-- In a lawful past the sum of a stripe of which no slot is used is zeros, in each superblock that isn't bad.
use Rattle.std.proofs.Common.{◌≡◌, ℕ, ◌+◌, ◌-◌, ◌*◌, ◌/◌, ◌%◌, ◌<◌, ◌≤◌, ◌==◌, nat_lt, not, ◌&&◌, ◌||◌, Bool, true, false, List}
use Rattle.std.proofs.Common.{[], ◌∷◌, refl, ap, sym, ◌∙◌, Some, arith}
use Rattle.std.specs.Prelude.{if◌then◌else◌}
use Rattle.std.specs.List.{list_any}
use Rattle.std.proofs.lemmas.Bool.Decides.{nat_tests}
use Rattle.std.proofs.lemmas.Nat.{div-add-mod'}
use Rattle.ssd_geo.specs.Coding.{coding_of, word_bytes_in}
use Rattle.ssd_histories.specs.History.{open_look}
use Rattle.ssd_geo.specs.Ladder.{LadderState}
use Rattle.ssd_histories.specs.Lawful.{IsLawfulBy, IsLawfulKind, IsLawfulMove}
use Rattle.ssd_histories.specs.PastBlocks.{block_before, is_bad_superblock, turns_bad, used_of}
use Rattle.ssd_histories.specs.PastPages.{SumChange, adds, clears, keeps, is_in_stripe, is_open_in_image, sum_change, sum_of}
use Rattle.ssd_histories.specs.PastPages.{sum_when}
use Rattle.ssd_histories.specs.Ranges.{has_slot, is_in_range}
use Rattle.ssd_histories.specs.Room.{next_slot}
use Rattle.ssd_histories.specs.Start.{Start}
use Rattle.ssd_histories.specs.States as States
use Rattle.ssd_geo.specs.Stripe.{parity_die, stripe_of_index}
use Rattle.ssd_geo.specs.StripeSum.{zero_word}
use Rattle.ssd_geo.specs.declared.base.ChannelBase.{ChannelBase}
use Rattle.ssd_geo.specs.declared.entry.Entry.{Entry}
use Rattle.ssd_geo.specs.declared.kind.Kind.{Kind}
use Rattle.ssd_geo.specs.declared.slot.Slot.{Slot}
use Rattle.ssd_geo.specs.declared.tag.Tag.{Tag}
use Rattle.ssd_histories.proofs.FreshPages.{two_dies, bad_before, next_here, turned_bad}
use Rattle.ssd_histories.proofs.UsedSlots.{made, next_is_used, of_some, second_holds, slot_in_range, used_kept}

-- the sum of each stripe of a superblock whose slots are all unused is zeros
abbrev pub HasFreshSums : Start → List (Tag × List ℕ) → List Entry → ℕ → Type 0
HasFreshSums start contents past sb =
    (stripe : ℕ) → used_of start.base past sb ≤ stripe * (start.base.shape.dies - 1)
    → sum_of (coding_of start.base) start contents past sb stripe ≡ zero_word (word_bytes_in start.base.shape)

-- a stripe whose slots are all unused isn't open in the image
not_open : (frontier : Bool) (used w stripe : ℕ) → used ≤ stripe * w
    → (frontier && used / w == stripe && not (used % w == 0)) ≡ false
not_open false used w stripe le = refl
not_open true used w stripe le = whole (used / w) (used % w) used w stripe (div-add-mod' used w) le
  where
    whole : (q r n v s : ℕ) → q * v + r ≡ n → n ≤ s * v → (true && q == s && not (r == 0)) ≡ false
    whole q r n v s e le = by_test (q == s) (r == 0) (λ same. rest q r n v s e le same)
      where
        rest : (q r n v s : ℕ) → q * v + r ≡ n → n ≤ s * v → (q == s) ≡ true → (r == 0) ≡ true
        rest q r n v s e le same =
            let here : q ≡ s = grind (arith, nat_tests) in
            let times : q * v ≡ s * v = ap {B = ℕ} (λ (k : ℕ). k * v) here in
            let none : r ≡ 0 = omega arith in
            grind (arith, nat_tests)

        by_test : (a b : Bool) → (a ≡ true → b ≡ true) → (true && a && not b) ≡ false
        by_test true true h = refl
        by_test true false h = absurd (grind (arith, h refl))
        by_test false b h = refl

first_sums : (start : Start) (contents : List (Tag × List ℕ)) (sb : ℕ) → HasFreshSums start contents [] sb
first_sums start contents sb stripe le =
    let block = block_before start.base sb in
    closed (is_open_in_image start.base sb stripe)
    (not_open (States.is_frontier block.state) block.used (start.base.shape.dies - 1) stripe le)
  where
    closed : (b : Bool) → b ≡ false
        → ◌≡◌ {A = List ℕ} (elim b [ true ↦ start.base.sum | false ↦ zero_word (word_bytes_in start.base.shape) ])
        (zero_word (word_bytes_in start.base.shape))
    closed true e = absurd (grind arith)
    closed false e = refl

-- a sum under a change that keeps it, or clears it
sum_kept : (change : SumChange) (a zeros before : List ℕ) → change ≡ keeps → before ≡ zeros
    → ◌≡◌ {A = List ℕ} (elim change [ adds ↦ a | clears ↦ zeros | keeps ↦ before ]) zeros
sum_kept adds a zeros before e f = absurd (grind arith)
sum_kept clears a zeros before e f = refl
sum_kept keeps a zeros before e f = f

when_not : (b : Bool) (change : SumChange) → b ≡ false → sum_when b change ≡ keeps
when_not true change e = absurd (grind arith)
when_not false change e = refl

-- the next slot is in no stripe above the used slots
next_elsewhere : (dies sb stripe used : ℕ) (slot : Slot) → 2 ≤ dies → (sb ≡ slot.sb → slot.index ≡ used)
    → (if slot.sb == sb then used + 1 else used) ≤ stripe * (dies - 1)
    → is_in_stripe dies sb stripe slot ≡ false
next_elsewhere dies sb stripe used slot two at le =
    by_both (slot.sb == sb) (stripe_of_index dies slot.index == stripe)
    (λ blocks stripes. filled slot.sb sb used slot.index stripe (dies - 1) (omega arith) blocks at stripes le)
  where
    filled : (a b u n s w : ℕ) → 0 < w → (a == b) ≡ true → (b ≡ a → n ≡ u) → (n / w == s) ≡ true
        → (if a == b then u + 1 else u) ≤ s * w → ⊥
    filled a b u n s w pos e at f le =
        let same : b ≡ a = grind (arith, nat_tests) in
        let index : n ≡ u = at same in
        let stripes : n / w ≡ s = grind (arith, nat_tests) in
        let more : ◌≡◌ {A = ℕ} (if a == b then u + 1 else u) (u + 1) = ap {B = ℕ} (λ (t : Bool). if t then u + 1 else u) e in
        let times : n / w * w ≡ s * w = ap {B = ℕ} (λ (k : ℕ). k * w) stripes in
        omega (arith, more, times, index, div-add-mod' n w)

    by_both : (a b : Bool) → (a ≡ true → b ≡ true → ⊥) → (a && b) ≡ false
    by_both true true h = absurd (h refl refl)
    by_both true false h = refl
    by_both false b h = refl

-- no slot of another superblock is in a stripe
block_elsewhere : (a b : Bool) → a ≡ false → (a && b) ≡ false
block_elsewhere true b e = absurd (grind arith)
block_elsewhere false b e = refl

failed_elsewhere : (a b d : Bool) → a ≡ false → (a && b && d) ≡ false
failed_elsewhere true b d e = absurd (grind arith)
failed_elsewhere false b d e = refl

-- an entry that keeps the sums of the stripes above a superblock's used slots, and leaves no fewer slots used
kept_sums : (start : Start) (contents : List (Tag × List ℕ)) (past : List Entry) (entry : Entry) (sb : ℕ)
    → used_of start.base past sb ≤ used_of start.base (entry ∷ past) sb
    → ((stripe : ℕ) → used_of start.base (entry ∷ past) sb ≤ stripe * (start.base.shape.dies - 1)
    → sum_change start.base.shape.dies sb stripe entry.kind ≡ keeps)
    → HasFreshSums start contents past sb → HasFreshSums start contents (entry ∷ past) sb
kept_sums start contents past entry sb more change h stripe le =
    sum_kept (sum_change start.base.shape.dies sb stripe entry.kind) _ (zero_word (word_bytes_in start.base.shape))
    (sum_of (coding_of start.base) start contents past sb stripe) (change stripe le) (h stripe (omega arith))

-- an erase clears the sums of its superblock
erased_sums : (erased : Bool) (a zeros before : List ℕ) → (erased ≡ false → before ≡ zeros)
    → ◌≡◌ {A = List ℕ} (elim (sum_when erased clears) [ adds ↦ a | clears ↦ zeros | keeps ↦ before ]) zeros
erased_sums true a zeros before h = refl
erased_sums false a zeros before h = h refl

used_before : (named sb used limit : ℕ) → (named == sb) ≡ false → (if named == sb then 0 else used) ≤ limit → used ≤ limit
used_before named sb used limit e le = grind (arith, nat_tests)

sums_step : (state : ℕ → LadderState) (start : Start) (contents : List (Tag × List ℕ)) (past : List Entry) (tag : Tag)
    (kind : Kind) → is_in_range start.base.shape kind ≡ true
    → IsLawfulKind state start.base past tag kind → (sb : ℕ) → turns_bad sb kind ≡ false → HasFreshSums start contents past sb
    → HasFreshSums start contents (made tag kind ∷ past) sb
sums_step state start contents past tag (Kind.Write named slot) range c sb good h =
    kept_sums start contents past (made tag (Kind.Write named slot)) sb
    (used_kept sb (Kind.Write named slot) (used_of start.base past sb) tt)
    (λ stripe le. when_not (is_in_stripe start.base.shape.dies sb stripe slot) adds
    (next_elsewhere start.base.shape.dies sb stripe (used_of start.base past sb) slot (two_dies start)
    (next_here start.base past slot sb c.is_programmed.is_next
    (second_holds (nat_lt named start.base.shape.rows) (has_slot start.base.shape slot) range)) le))
    h
sums_step state start contents past tag (Kind.Move at slot) range c sb good h =
    kept_sums start contents past (made tag (Kind.Move at slot)) sb
    (used_kept sb (Kind.Move at slot) (used_of start.base past sb) tt)
    (λ stripe le. when_not (is_in_stripe start.base.shape.dies sb stripe slot) adds
    (next_elsewhere start.base.shape.dies sb stripe (used_of start.base past sb) slot (two_dies start)
    (next_here start.base past slot sb (of_some (open_look past tag at)
    (λ look. IsLawfulMove (state at) start.base past look slot) (λ look move. move.is_programmed.is_next) c) range) le))
    h
sums_step state start contents past tag (Kind.BadWrite named slot die fault) range c sb good h =
    kept_sums start contents past (made tag (Kind.BadWrite named slot die fault)) sb
    (used_kept sb (Kind.BadWrite named slot die fault) (used_of start.base past sb) tt)
    (λ stripe le. when_not (is_in_stripe start.base.shape.dies sb stripe slot
    && die == parity_die start.base.shape.dies sb stripe) adds
    (failed_elsewhere (slot.sb == sb) (stripe_of_index start.base.shape.dies slot.index == stripe)
    (die == parity_die start.base.shape.dies sb stripe) good))
    h
sums_step state start contents past tag (Kind.BadCopy at slot die fault) range c sb good h =
    kept_sums start contents past (made tag (Kind.BadCopy at slot die fault)) sb
    (used_kept sb (Kind.BadCopy at slot die fault) (used_of start.base past sb) tt)
    (λ stripe le. when_not (is_in_stripe start.base.shape.dies sb stripe slot
    && die == parity_die start.base.shape.dies sb stripe) adds
    (failed_elsewhere (slot.sb == sb) (stripe_of_index start.base.shape.dies slot.index == stripe)
    (die == parity_die start.base.shape.dies sb stripe) good))
    h
sums_step state start contents past tag (Kind.Erase named) range c sb good h =
    λ stripe le. erased_sums (named == sb) _ (zero_word (word_bytes_in start.base.shape))
    (sum_of (coding_of start.base) start contents past sb stripe)
    (λ e. h stripe (used_before named sb (used_of start.base past sb) (stripe * (start.base.shape.dies - 1)) e le))
sums_step state start contents past tag (Kind.BadErase named die fault) range c sb good h =
    kept_sums start contents past (made tag (Kind.BadErase named die fault)) sb
    (used_kept sb (Kind.BadErase named die fault) (used_of start.base past sb) good)
    (λ stripe le. refl) h
sums_step state start contents past tag kind range c sb good h =
    kept_sums start contents past (made tag kind) sb (used_kept sb kind (used_of start.base past sb) tt) (λ stripe le. refl) h

pub fresh_sums : (ladder : List Entry → ℕ → LadderState) (start : Start) (contents : List (Tag × List ℕ)) (past : List Entry)
    → IsLawfulBy ladder start.base past → (sb : ℕ) → is_bad_superblock start.base past sb ≡ false
    → HasFreshSums start contents past sb
fresh_sums ladder start contents [] lawful sb good = first_sums start contents sb
fresh_sums ladder start contents (entry ∷ past) lawful sb good =
    let before : Bool = States.is_bad (block_before start.base sb).state in
    let later : Bool = list_any (λ other. turns_bad sb other.kind) past in
    sums_step (ladder past) start contents past entry.tag entry.kind lawful.1.in_range lawful.1.meets sb
    (turned_bad before (turns_bad sb entry.kind) later good)
    (fresh_sums ladder start contents past lawful.0 sb (bad_before before (turns_bad sb entry.kind) later good))
