-- A channel without weak blocks has no weak die, at whatever position.
use Rattle.std.proofs.Common.{◌≡◌, ℕ, ◌==◌, nat_le, not, ◌&&◌, ◌||◌, Bool, true, false, List, [], ◌∷◌, refl, ap, arith}
use Rattle.std.specs.List.{list_any}
use Rattle.ssd_geo.specs.WeakBlocks.{is_weak_in}
use Rattle.ssd_geo.specs.declared.base.ChannelBase.{ChannelBase}
use Rattle.ssd_geo.specs.declared.entry.Entry.{Entry}
use Rattle.ssd_geo.specs.declared.weak.Weak.{Weak}
use Rattle.ssd_histories.specs.PastBlocks.{erases_of}
use Rattle.ssd_histories.specs.WeakDies.{is_none_weak, is_weak}
use Rattle.history_laws.specs.BlankChannels.{has_no_weak_block}

-- no item of the list makes a die of the channel weak
none_weak : (channel die sb erases : ℕ) (weak : List Weak) → not (list_any (λ (w : Weak). w.channel == channel) weak) ≡ true
    → is_weak_in weak channel die sb erases ≡ false
none_weak channel die sb erases [] none = refl
none_weak channel die sb erases (first ∷ weak) none =
    by_first (first.channel == channel) (list_any (λ (w : Weak). w.channel == channel) weak)
    (first.die == die && (first.sb == sb && nat_le first.from erases))
    (is_weak_in weak channel die sb erases) none (none_weak channel die sb erases weak)
  where
    by_first : (a b c d : Bool) → not (a || b) ≡ true → (not b ≡ true → d ≡ false) → (a && c || d) ≡ false
    by_first true b c d e rest = absurd (grind arith)
    by_first false true c d e rest = absurd (grind arith)
    by_first false false c d e rest = rest refl

-- so no die of the channel is weak
pub never_weak : (base : ChannelBase) (past : List Entry) (sb die : ℕ) → has_no_weak_block base ≡ true
    → is_weak base past sb die ≡ false
never_weak base past sb die none = none_weak base.channel die sb (erases_of base past sb) base.weak none

-- where no die is weak in a superblock, none of some dies is
pub none_is_weak : (base : ChannelBase) (past : List Entry) (sb : ℕ) → ((die : ℕ) → is_weak base past sb die ≡ false)
    → (dies : List ℕ)
    → is_none_weak base past sb dies ≡ true
none_is_weak base past sb sound dies = ap {B = Bool} not (no_die dies)
  where
    no_die : (dies : List ℕ) → list_any (is_weak base past sb) dies ≡ false
    no_die [] = refl
    no_die (die ∷ dies) = either (is_weak base past sb die) (list_any (is_weak base past sb) dies) (sound die) (no_die dies)
      where
        either : (a b : Bool) → a ≡ false → b ≡ false → (a || b) ≡ false
        either true b e f = absurd (grind arith)
        either false b e f = f
