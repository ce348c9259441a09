-- The worker of the small drive may make calls of its blank channel.
use Rattle.std.proofs.Common.{ℕ, ◌≡◌, ◌<◌, ◌≤◌, ◌*◌, List, ℤ, Option, Some, None, refl, ap, subst, sym, ◌∙◌, [], ◌∷◌}
use Rattle.std.proofs.Common.{arith, length, lit≤, map}
use Rattle.std.specs.List.{list_all}
use Rattle.std.specs.Prelude.{IsTrue, is_some, slice_get, slice_index_or, true}
use Rattle.blank_drive.proofs.SameSizes.{same_shape}
use Rattle.blank_drive.specs.Begun.{AreBegun}
use Rattle.chan_calls.proofs.AloneSteps.{is_of_standing}
use Rattle.chan_calls.specs.Alone.{view_of_lent}
use Rattle.chan_calls.specs.Workers.{WorkerState, WorksFor}
use Rattle.chan_state.specs.ChannelState.{ChannelState, StandsFor}
use Rattle.chan_state.specs.Starting.{start_of}
use Rattle.die_model.specs.SimState.{state_of}
use Rattle.die_model.specs.Simulated.{unmounted_state}
use Rattle.die_model.specs.declared.sim_die.SimDie.{SimDie}
use Rattle.drive_dies.proofs.HandedDies.{one_more_tells}
use Rattle.drive_dies.specs.Mounting.{AllTell, die_count}
use Rattle.final_dies.specs.FinalDies.{dies_of_channel}
use Rattle.onfi_cmd.specs.DieState.{DieState}
use Rattle.ssd_formats.specs.ImageContents.{IsBaseOf, blank_channel}
use Rattle.ssd_formats.specs.ImageExamples.{small_head}
use Rattle.ssd_formats.specs.ImageHead.{Head, IsHead, head_of, matrix_of_head}
use Rattle.retry_ladder.specs.Decoder.{IsCodeOf}
use Rattle.ssd_geo.specs.BaseMatrix.{BaseMatrix}
use Rattle.ssd_geo.specs.Limits.{Sizes, is_level}
use Rattle.ssd_geo.specs.Shape.{sizes_of}
use Rattle.ssd_geo.specs.declared.shape.Shape.{Shape}
use Rattle.ssd_geo.specs.declared.head.ImageHead.{ImageHead}
use Rattle.ssd_geo.specs.declared.policy_view.PolicyView.{PolicyView}
use Rattle.ssd_geo.specs.declared.tag.Tag.{Tag}
use Rattle.call_tests.specs.SmallCalls.{IsSmallWorker, MayTry, StandsBlank, first_data, first_tag}

-- the head of the small drive is in range
pub small_is_head : IsHead small_head
small_is_head = record {
  words = refl;
  channels = refl;
  dies = refl;
  superblocks = refl;
  pages = refl;
  lifting = refl;
  base_rows = refl;
  base_columns = refl;
  level_count = refl;
  iterations = refl;
  bytes = refl;
  rows = refl;
  seed = refl;
  session = refl;
  erased = refl;
  programmed = refl;
  spread = refl;
  step = refl;
  levels = refl;
  entries = refl;
  entry_count = refl;
  faultless = refl;
  weak_count = refl;
  weak_from = refl;
  weak = refl;
  bad_count = refl;
  bad = refl;
}

-- the code of the small drive fits such a shape, and a worker with both is that of the drive
pub small_code_of : (shape : Shape) (code : BaseMatrix) → code ≡ matrix_of_head small_head
    → sizes_of shape ≡ small_head.sizes → IsCodeOf shape code
small_code_of shape code is sizes = record {
  lifting = ap (λ (m : BaseMatrix). m.z) is ∙ sym (ap (λ (s : Sizes). s.z) sizes);
  base_rows = ap (λ (m : BaseMatrix). m.mb) is ∙ sym (ap (λ (s : Sizes). s.mb) sizes);
  base_columns = ap (λ (m : BaseMatrix). m.nb) is ∙ sym (ap (λ (s : Sizes). s.nb) sizes);
}

-- its read levels may be a worker's
pub few_levels : (levels : List ℤ) → levels ≡ small_head.read_levels → length levels ≤ 16
few_levels levels is = subst (λ (l : List ℤ). length l ≤ 16) (sym is) (lit≤ tt)

pub are_levels : (levels : List ℤ) → levels ≡ small_head.read_levels → IsTrue (list_all is_level levels)
are_levels levels is = subst (λ (l : List ℤ). IsTrue (list_all is_level l)) (sym is) small_is_head.levels

pub small_worker_is : (worker : WorkerState) (shape : Shape) (code : BaseMatrix) (levels : List ℤ)
    → worker
    ≡ record { shape = shape; session = 0; code = code; iterations = 8; levels = levels; step = 10; data_bytes = [] }
    → sizes_of shape ≡ small_head.sizes → code ≡ matrix_of_head small_head → levels ≡ small_head.read_levels
    → IsSmallWorker worker
small_worker_is worker shape code levels is sizes code_is levels_are = record {
  sizes_are = ap (λ (w : WorkerState). sizes_of w.shape) is ∙ sizes;
  session_is = ap (λ (w : WorkerState). w.session) is;
  code_is = ap (λ (w : WorkerState). w.code) is ∙ code_is;
  iterations_are = ap (λ (w : WorkerState). w.iterations) is;
  levels_are = ap (λ (w : WorkerState). w.levels) is ∙ levels_are;
  step_is = ap (λ (w : WorkerState). w.step) is;
}

-- a head of the small drive's has one channel and three dies
pub one_channel : (head : ImageHead) → head_of head ≡ small_head → head.shape.channels ≡ 1
one_channel head is = ap (λ (h : Head). h.sizes.channels) is

pub three_dies_are : (head : ImageHead) → head_of head ≡ small_head → die_count head ≡ 3
three_dies_are head is = ap (λ (h : Head). h.sizes.channels * h.sizes.dies) is

pub is_head_of : (head : ImageHead) → head_of head ≡ small_head → IsHead (head_of head)
is_head_of head is = subst IsHead (sym is) small_is_head

-- the first item is seen first in what is seen of the items
pub first_is : {A B : Type 0} (items : List A) (f : A → B) (x : A) → 0 < length items → x ≡ slice_index_or items 0 x
    → slice_get (map f items) 0 ≡ Some (f x)
first_is [] f x some is = absurd (omega arith)
first_is {B = B} (item ∷ items) f x some is = ap {B = Option B} (λ y. Some (f y)) (sym is)

-- so is what is told of the first policy, where the same is told of each
pub first_view_is : {P : Type 0} (policies : List P) (told : P → Option PolicyView) (view : Option PolicyView)
    → ((policy : P) → told policy ≡ view) → 0 < length policies → slice_index_or (map told policies) 0 None ≡ view
first_view_is [] told view each some = absurd (omega arith)
first_view_is (policy ∷ policies) told view each some = each policy

-- the first channel that has begun with such a head is that of the small drive
pub first_stands_blank : (head : ImageHead) (limit : ℕ) (dies : List DieState) (views : List (Option PolicyView))
    (channels : List ChannelState) (channel : ChannelState) → head_of head ≡ small_head
    → AreBegun (head_of head) limit dies views channels → slice_get channels 0 ≡ Some channel
    → StandsBlank channel (slice_index_or views 0 None)
first_stands_blank head limit dies views channels channel is begun first =
    let one = begun.each 0 channel first in
    record {
      start =
          start_of one.base limit (dies_of_channel (head_of head).sizes.dies dies 0) (slice_index_or views 0 None);
      is_base = subst (λ (h : Head). IsBaseOf h 0 (blank_channel h 0) one.base) is one.is_base;
      stands = one.has_begun.stands;
    }

-- the contents of the calls that are tried
abbrev contents : List (Tag × List ℕ)
contents = (first_tag, first_data) ∷ []

-- the worker works for the start of the channel
works_for : (worker : WorkerState) (channel : ChannelState) (view : Option PolicyView) → IsSmallWorker worker
    → (blank : StandsBlank channel view) → WorksFor worker blank.start
works_for worker channel view is blank =
    let of = blank.is_base in
    record {
      shape_is = same_shape worker.shape blank.start.base.shape (is.sizes_are ∙ sym of.shape);
      session_is = is.session_is ∙ sym of.session;
      code_is =
          is.code_is ∙ (λ i. record {
            z = (sym of.shape i).z;
            mb = (sym of.shape i).mb;
            nb = (sym of.shape i).nb;
            entries = sym of.entries i;
          });
      iterations_are = is.iterations_are ∙ sym of.iterations;
      levels_are = is.levels_are ∙ sym of.read_levels;
      step_is = is.step_is ∙ sym of.step;
    }

pub small_may_try : (worker : WorkerState) (channel : ChannelState) (view : Option PolicyView) (reference : ℕ)
    → IsSmallWorker worker → StandsBlank channel view → MayTry worker (view_of_lent channel reference) (StandsFor channel view)
small_may_try worker channel view reference is blank = record {
  may =
      record {
        start = blank.start;
        contents = contents;
        works = works_for worker channel view is blank;
        is_of = is_of_standing channel reference view blank.start contents (blank.stands contents);
        stands_for = blank.stands contents;
        bound = tt;
      };
  own_data = refl;
  sizes_are = is.sizes_are;
  alone = refl;
  free = refl;
}

-- dies that aren't mounted yet tell their blocks
pub three_tell : (zeroth one two : SimDie) → state_of zeroth ≡ unmounted_state → state_of one ≡ unmounted_state
    → state_of two ≡ unmounted_state → (dies : List SimDie) → dies ≡ zeroth ∷ one ∷ two ∷ [] → AllTell (map state_of dies)
three_tell zeroth one two zeroth_is one_is two_is dies is =
    let tells : (die : SimDie) → state_of die ≡ unmounted_state → is_some (state_of die).told ≡ true =
    λ die new. ap (λ (state : DieState). is_some state.told) new in
    subst (λ (items : List SimDie). AllTell (map state_of items)) (sym is)
    (one_more_tells state_of (zeroth ∷ one ∷ []) two
    (one_more_tells state_of (zeroth ∷ []) one
    (one_more_tells state_of [] zeroth (λ number die none. absurd (cc)) (tells zeroth zeroth_is)) (tells one one_is))
    (tells two two_is))
