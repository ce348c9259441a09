-- A channel may begin with the base that a blank image gives it and with its dies, mounted and blank; and channels that begin
-- one after the other.
use Rattle.std.proofs.Common.{ℕ, zero, suc, ◌≡◌, ◌+◌, ◌-◌, ◌*◌, ◌^◌, ◌<◌, ◌≤◌, List, [], ◌∷◌, ◌++◌, drop, length, map, replicate, get_or, slice_get, take, Option, Some, None, Result, Ok, Err, IfOk, refl, sym, ap, subst, ◌∙◌, add-one, add-zero, zero-mul, arith}
use Rattle.std.specs.List.{drop-map, take-map}
use Rattle.std.proofs.Math.Nat.{mul-le-mul}
use Rattle.std.proofs.Math.Seq.{drop-drop, take-suc}
use Rattle.std.proofs.lemmas.List.{get_or-drop, get_or-take, get_or-map, length-drop, length-map, length-replicate, length-take-le, map-append}
use Rattle.std.proofs.lemmas.Nat.{div-mul-add, mod-mul-add}
use Rattle.std.proofs.lemmas.Option.{get_or_from_slice_get, slice_get-get_or, slice_get_within, same_Some}
use Rattle.chan_dies.specs.DiesState.{blocks_in, die_at, no_die}
use Rattle.chan_state.specs.ChannelState.{ChannelState}
use Rattle.chan_state.specs.Starting.{HasBegun, IsDieOf, MayBegin, start_of}
use Rattle.drive_dies.specs.Mounting.{AreDiesOf, AreReady, die_count, IsBlankDie, plan_in_drive, plan_of_die}
use Rattle.final_dies.specs.FinalDies.{dies_of_channel}
use Rattle.onfi_cmd.specs.DieState.{DieState}
use Rattle.onfi_cmd.specs.declared.plan.DiePlan.{DiePlan}
use Rattle.ssd_formats.specs.ImageContents.{IsBaseOf, blank_channel, cells_of_saved}
use Rattle.ssd_formats.specs.ImageHead.{Head, IsHead, head_of}
use Rattle.ssd_geo.specs.BlockCells.{BlockCells, blank_cells}
use Rattle.ssd_geo.specs.declared.base.ChannelBase.{ChannelBase}
use Rattle.ssd_geo.specs.declared.head.ImageHead.{ImageHead}
use Rattle.ssd_geo.specs.declared.policy_view.PolicyView.{PolicyView}
use Rattle.ssd_geo.specs.declared.shape.Shape.{Shape}
use Rattle.channel_base.proofs.BlankChannels.{cells_are}
use Rattle.blank_drive.proofs.BlankStarts.{blank_is_start}
use Rattle.blank_drive.specs.Begun.{AreBegun, IsBegun}

-- items that are each the same
all_same : {A B : Type 0} (f : A → B) (xs : List A) (b : B) → ((k : ℕ) (x : A) → slice_get xs k ≡ Some x → f x ≡ b)
    → map f xs ≡ replicate (length xs) b
all_same f [] b each = refl
all_same f (x ∷ xs) b each = rw (each 0 x refl, all_same f xs b (λ k y at. each (suc k) y at)) refl

-- the blocks of a blank die
blocks_are : (plan : DiePlan) (die : DieState) → IsBlankDie plan die → blocks_in die ≡ replicate plan.shape.superblocks blank_cells
blocks_are plan die blank = rw blank.blank.told_are refl

die_is : (base : ChannelBase) (head : ImageHead) (channel number : ℕ) (die : DieState) → base.shape ≡ head.shape
    → IsBaseOf (head_of head) channel (blank_channel (head_of head) channel) base → IsBlankDie (plan_of_die head channel number) die
    → IsDieOf base number die
die_is base head channel number die same_shape is_base blank = record {
  plan_is = blank.plan_is ∙ (λ i. Some (
      record {
        channel = sym is_base.number i;
        die = number;
        shape = sym same_shape i;
        law = sym is_base.law i;
        weak = sym is_base.weak i;
      }
      ));
  tells = rw blank.blank.told_are refl;
  blocks_count =
      ap (λ (blocks : List BlockCells). length blocks) (blocks_are (plan_of_die head channel number) die blank)
      ∙ length-replicate head.shape.superblocks blank_cells ∙ ap (λ (shape : Shape). shape.superblocks) (sym same_shape);
}

-- a blank base may begin with its dies
pub may_begin : (head : ImageHead) → IsHead (head_of head) → (channel : ℕ) → channel < head.shape.channels → (base : ChannelBase)
    → IsBaseOf (head_of head) channel (blank_channel (head_of head) channel) base → base.shape ≡ head.shape
    → (dies : List DieState) → AreDiesOf head channel dies → (limit : ℕ) → 256 ≤ limit → limit ≤ 2 ^ 22 → (view : Option PolicyView)
    → MayBegin base limit dies view
may_begin head is_head channel within base is_base same_shape dies are limit low high view =
    let blank : List BlockCells = replicate head.shape.superblocks blank_cells in
    let cells : map blocks_in dies ≡ replicate (length dies) blank =
    all_same blocks_in dies blank (λ k die at. blocks_are (plan_of_die head channel k) die (are.each k die at)) in
    record {
      is_start =
          blank_is_start (head_of head) is_head channel within (start_of base limit dies view) is_base
          (cells ∙ ap (λ (n : ℕ). replicate n blank) are.count_is
          ∙ ap (λ (shape : Shape). replicate shape.dies (replicate shape.superblocks blank_cells)) (sym same_shape)) low high;
      dies_are = λ die below.
          let in_list : die < length dies = omega (arith, are.count_is, ap (λ (shape : Shape). shape.dies) same_shape) in
          die_is base head channel die (die_at dies die) same_shape is_base
          (are.each die (die_at dies die) (slice_get-get_or dies die no_die in_list));
    }

-- the cells of its dies are those of the blank image
pub cells_of_dies : (head : ImageHead) (channel : ℕ) (dies : List DieState) → AreDiesOf head channel dies
    → map blocks_in dies ≡ cells_of_saved (head_of head).sizes (blank_channel (head_of head) channel)
cells_of_dies head channel dies are =
    let blank : List BlockCells = replicate head.shape.superblocks blank_cells in
    all_same blocks_in dies blank (λ k die at. blocks_are (plan_of_die head channel k) die (are.each k die at))
    ∙ ap (λ (n : ℕ). replicate n blank) are.count_is ∙ sym (cells_are (head_of head) channel)

-- and has begun where it was started
pub has_begun : {A E : Type 0} (kept : A → ChannelState) (head : Head) (limit channel : ℕ) (base : ChannelBase) (dies : List DieState)
    (view : Option PolicyView) (result : Result A E) → IsBaseOf head channel (blank_channel head channel) base
    → map blocks_in dies ≡ cells_of_saved head.sizes (blank_channel head channel)
    → IfOk result (λ made. HasBegun base limit dies view (kept made)) → IfOk result (λ made. IsBegun head limit channel dies view (kept made))
has_begun kept head limit channel base dies view (Ok made) is_base cells begun =
    record { base = base; is_base = is_base; cells_are = cells; has_begun = begun }
has_begun kept head limit channel base dies view (Err stop) is_base cells begun = tt

-- the dies of a channel are the next so many of those of the drive
pub are_dies_of : (head : ImageHead) (dies : List DieState) (channel : ℕ) → AreReady head dies → channel < head.shape.channels
    → (own : List DieState) → own ≡ dies_of_channel head.shape.dies dies channel → AreDiesOf head channel own
are_dies_of head dies channel ready within own are =
    let count : ℕ = head.shape.dies in
    let start : ℕ = channel * count in
    let more : (channel + 1) * count ≤ head.shape.channels * count =
    mul-le-mul {n₁ = channel + 1} {m₁ = count} {n₂ = head.shape.channels} {m₂ = count} (omega arith) (omega arith) in
    let room : start + count ≤ die_count head = omega (arith, more) in
    let enough : count ≤ length (drop start dies) = omega (arith, length-drop start dies, ready.enough, room) in
    record {
      count_is = ap (λ (all : List DieState). length all) are ∙ length-take-le count (drop start dies) enough;
      each = λ number die at.
          let long : length own ≡ count =
          ap (λ (all : List DieState). length all) are ∙ length-take-le count (drop start dies) enough in
          let below : number < count = omega (arith, slice_get_within own number die at, long) in
          let here : get_or dies (start + number) die ≡ die =
          sym (get_or-take count (drop start dies) number die below ∙ get_or-drop start dies number die)
          ∙ ap (λ (all : List DieState). get_or all number die) (sym are) ∙ get_or_from_slice_get own number die die at in
          let place : slice_get dies (start + number) ≡ Some die =
          slice_get-get_or dies (start + number) die (omega (arith, ready.enough, room, below))
          ∙ ap (λ (x : DieState). Some x) here in
          let same : plan_in_drive head (start + number) ≡ plan_of_die head channel number = λ i.
          record {
            channel = div-mul-add channel count number below i;
            die = mod-mul-add channel count number below i;
            shape = head.shape;
            law = head.law;
            weak = head.weak;
          } in
          subst (λ (plan : DiePlan). IsBlankDie plan die) same
          (ready.each (start + number) die (omega (arith, room, below)) place);
    }

-- what is at a place of a list with one more at its end
at_end : (P : ℕ → ChannelState → Type 0) (from : ℕ) (before : List ChannelState) (next : ChannelState)
    → ((number : ℕ) (channel : ChannelState) → slice_get before number ≡ Some channel → P (from + number) channel)
    → P (from + length before) next → (number : ℕ) (channel : ChannelState) → slice_get (before ++ next ∷ []) number ≡ Some channel
    → P (from + number) channel
at_end P from [] next each last zero channel same = subst (P (from + 0)) (same_Some next channel same) last
at_end P from [] next each last (suc number) channel same = absurd (cc)
at_end P from (first ∷ before) next each last zero channel same = each zero channel same
at_end P from (first ∷ before) next each last (suc number) channel same =
    let moved : from + 1 + number ≡ from + suc number = omega arith in
    let there : from + length (first ∷ before) ≡ from + 1 + length before = omega arith in
    subst (λ (n : ℕ). P n channel) moved
    (at_end P (from + 1) before next
    (λ n state at. subst (λ (m : ℕ). P m state) (omega arith) (each (suc n) state at))
    (subst (λ (n : ℕ). P n next) there last) number channel same)

zero_more : (n : ℕ) → 0 + n ≡ n
zero_more n = omega arith

-- one more channel has begun
pub one_more_begun : (head : Head) (limit : ℕ) (dies : List DieState) (views : List (Option PolicyView)) (channels : List ChannelState)
    (next : ChannelState) (count : ℕ) → AreBegun head limit dies views channels → length channels ≡ count
    → IsBegun head limit count (dies_of_channel head.sizes.dies dies count) (get_or views count None) next
    → AreBegun head limit dies views (channels ++ next ∷ [])
one_more_begun head limit dies views channels next count begun long last =
    let P : ℕ → ChannelState → Type 0 = λ (n : ℕ) (state : ChannelState).
    IsBegun head limit n (dies_of_channel head.sizes.dies dies n) (get_or views n None) state in
    record {
      each = λ number channel at.
          subst (λ (n : ℕ). P n channel) (zero_more number)
          (at_end P 0 channels next (λ n state there. subst (λ (m : ℕ). P m state) (sym (zero_more n)) (begun.each n state there))
          (subst (λ (n : ℕ). P n next) (sym (zero_more (length channels) ∙ long)) last) number channel at);
    }

-- none has begun at first
pub none_begun : (head : Head) (limit : ℕ) (dies : List DieState) (views : List (Option PolicyView)) (channels : List ChannelState)
    → channels ≡ [] → AreBegun head limit dies views channels
none_begun head limit dies views channels none = record {
  each = λ number channel at.
      let nowhere : number < length channels = slice_get_within channels number channel at in
      absurd (omega (arith, nowhere, ap (λ (all : List ChannelState). length all) none));
}

-- what a policy tells is the next of the views
pub view_is : {P V : Type 0} (told : P → V) (policies : List P) (count : ℕ) (policy : P) (none : V) → count < length policies
    → policy ≡ get_or (drop count policies) 0 policy → told policy ≡ get_or (map told policies) count none
view_is told policies count policy none below is =
    let same : policy ≡ get_or policies count policy =
    is ∙ get_or-drop count policies 0 policy ∙ ap (λ (n : ℕ). get_or policies n policy) (add-zero count) in
    ap told same ∙ sym (get_or-map told policies count policy none below)

-- one more channel has its policy
pub one_more_view : {P C V : Type 0} (told : P → V) (of_channel : C → V) (policies : List P) (channels : List C) (count : ℕ) (policy : P)
    (next : C) → map of_channel channels ≡ take count (map told policies) → count < length policies
    → policy ≡ get_or (drop count policies) 0 policy → of_channel next ≡ told policy
    → map of_channel (channels ++ next ∷ []) ≡ take (count + 1) (map told policies)
one_more_view {V = V} told of_channel policies channels count policy next so_far below is same =
    map-append of_channel channels (next ∷ [])
    ∙ ap (λ (views : List V). views ++ of_channel next ∷ []) so_far
    ∙ ap (λ (view : V). take count (map told policies) ++ view ∷ []) (same ∙ view_is told policies count policy (told policy) below is)
    ∙ sym (take-suc (map told policies) count (told policy) (omega (arith, length-map policies told, below)))
    ∙ ap (λ (n : ℕ). take n (map told policies)) (sym (add-one count))

-- so many more are gone from a list
pub gone : {A : Type 0} (xs ys rest : List A) (before more all : ℕ) → rest ≡ drop before xs → ys ≡ drop more rest → before + more ≡ all
    → ys ≡ drop all xs
gone {A = A} xs ys rest before more all so_far next sum =
    next ∙ ap (λ (left : List A). drop more left) so_far ∙ drop-drop more before xs ∙ ap (λ (n : ℕ). drop n xs) (omega (arith, sum))

-- the dies of so many channels are gone, and then those of one more
pub one_more_channel : (count number : ℕ) → number * count + count ≡ (number + 1) * count
one_more_channel count number = omega arith

-- at first nothing is gone
pub none_gone : {A : Type 0} (xs : List A) (count : ℕ) → xs ≡ drop (0 * count) xs
none_gone xs count = ap (λ (n : ℕ). drop n xs) (sym (zero-mul count))

-- one more channel has begun, with its dies and its policy
module _ {P C X : Type 0} (policies rest : List P) (channels after : List C) (dies own : List X) (policy : P) (next : C) (told : P → Option PolicyView)
    (kept : C → ChannelState) (view_of : C → Option PolicyView) (state : X → DieState) (count : ℕ) (below : count < length policies)
    (rest_is : rest ≡ drop count policies) (is : policy ≡ get_or rest 0 policy) (long : length channels ≡ count)
    (more : after ≡ channels ++ next ∷ []) where
  pub next_begun : (head : Head) (limit : ℕ) → own ≡ take head.sizes.dies (drop (count * head.sizes.dies) dies)
      → AreBegun head limit (map state dies) (map told policies) (map kept channels)
      → IsBegun head limit count (map state own) (told policy) (kept next)
      → AreBegun head limit (map state dies) (map told policies) (map kept after)
  next_begun head limit own_is begun last =
      let per : ℕ = head.sizes.dies in
      let states : map state own ≡ dies_of_channel per (map state dies) count =
      ap (λ (all : List X). map state all) own_is
      ∙ sym (ap (λ (all : List DieState). take per all) (drop-map state (count * per) dies) ∙ take-map state per (drop (count * per) dies)) in
      let told_is : told policy ≡ get_or (map told policies) count None =
      view_is told policies count policy None below (is ∙ ap (λ (left : List P). get_or left 0 policy) rest_is) in
      subst (λ (all : List ChannelState). AreBegun head limit (map state dies) (map told policies) all)
      (sym (ap (λ (all : List C). map kept all) more ∙ map-append kept channels (next ∷ [])))
      (one_more_begun head limit (map state dies) (map told policies) (map kept channels) (kept next) count begun
      (length-map channels kept ∙ long)
      (subst (λ (all : List DieState). IsBegun head limit count all (get_or (map told policies) count None) (kept next)) states
      (subst (λ (view : Option PolicyView). IsBegun head limit count (map state own) view (kept next)) told_is last)))

  pub next_view : map view_of channels ≡ take count (map told policies) → view_of next ≡ told policy
      → map view_of after ≡ take (count + 1) (map told policies)
  next_view so_far same =
      ap (λ (all : List C). map view_of all) more
      ∙ one_more_view told view_of policies channels count policy next so_far below
      (is ∙ ap (λ (left : List P). get_or left 0 policy) rest_is) same
