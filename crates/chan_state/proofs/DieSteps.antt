-- Senses and ageing: what each answers, adds and keeps, and which die counted a fault.
use Rattle.std.proofs.Common.{◌≡◌, ℕ, ◌+◌, ◌<◌, ◌≤◌, List, [], length, sym, ◌∙◌, ap, subst, Option, Some, None, Result, Ok, refl, inl, inr}
use Rattle.std.proofs.lemmas.Bool.{cases_eq}
use Rattle.std.specs.Prelude.{IfOk, IsTrue, ℤ}
use Rattle.chan_dies.specs.DiesState.{DiesState, die_at, levels_at}
use Rattle.chan_dies.specs.OneDie.{AgesBlock, ChangesDie, ChangesOneDie, FaultsDie, KeepsDie}
use Rattle.chan_fits.proofs.EndedPrograms.{CountsFault}
use Rattle.chan_fits.proofs.QuietFits.{StaysCounted, kept_counted, one_keeps, same_counted}
use Rattle.chan_fits.proofs.SensedBits.{sensed_is}
use Rattle.chan_tables.specs.TablesState.{TablesState, room_of_step, tables_after}
use Rattle.onfi_cmd.specs.DieState.{DieState}
use Rattle.ssd_geo.specs.Cells.{sensed}
use Rattle.ssd_geo.specs.Coding.{coding_of}
use Rattle.ssd_histories.specs.PastPages.{ladder_of}
use Rattle.ssd_histories.specs.Ranges.{has_place}
use Rattle.ssd_geo.specs.declared.kind.Kind.{Kind}
use Rattle.ssd_geo.specs.declared.look.Look.{Look}
use Rattle.ssd_geo.specs.declared.place.Place.{Place}
use Rattle.ssd_geo.specs.declared.shape.Shape.{Shape}
use Rattle.ssd_geo.specs.declared.stop.StepStop.{StepStop}
use Rattle.ssd_geo.specs.declared.tag.Tag.{Tag}
use Rattle.chan_state.specs.ChannelState.{ChannelState, Count, KeepsStanding}
use Rattle.chan_state.specs.Kept.{AreFitting, channel_of}
use Rattle.chan_state.specs.Steps.{Ages, CountAt, GivesBits, HasStepRoom, IsRefused, MaySense, Senses, SensesFor, fault_of_age, fault_of_sense}
use Rattle.chan_state.specs.declared.answers.AgeAnswer.{AgeAnswer}
use Rattle.chan_state.specs.declared.answers.AgeAnswer.TheVariants as age
use Rattle.chan_state.specs.declared.answers.SenseAnswer.{SenseAnswer}
use Rattle.chan_state.specs.declared.answers.SenseAnswer.TheVariants as sense
use Rattle.chan_state.proofs.LawfulSteps.{lawful_age, lawful_fault_age, lawful_fault_sense, lawful_sense}
use Rattle.chan_state.proofs.LookSteps.{exactly}
use Rattle.chan_state.proofs.OpenLooks.{open_in_past}
use Rattle.chan_state.proofs.Standing.{stands_after}
use Rattle.chan_state.proofs.Taken.{Taken, adds, fitting}

-- ---- counts

-- what is told of plans and counts tells which die counted a fault
pub counts : (named : Option ℕ) (old new : ChannelState) → CountsFault named old.dies new.dies → Count named old new
counts None old new stay = record { works_stay = λ die. (stay die).works_stay; loads_stay = λ die. (stay die).loads_stay }
counts (Some named) old new both = record {
  rose = both.0.rose;
  others = λ die far. (both.1 die far).works_stay;
  loads_stay = λ die. elim (cases_eq die named) [
    | inl here ↦ subst (λ (n : ℕ). (die_at new.dies n).load_count ≡ (die_at old.dies n).load_count) (sym here) both.0.loads_stay
    | inr far ↦ (both.1 die far).loads_stay
  ];
}

-- one die keeps what it tells, or counted a fault, and the others are as they were
one_kept : (die : ℕ) (old new : List DieState) → ChangesDie die KeepsDie old new → CountsFault None old new
one_kept die old new changes other = kept_counted (die_at old other) (die_at new other) (one_keeps die old new changes other)

one_faulted : (die : ℕ) (old new : List DieState) → ChangesDie die FaultsDie old new → CountsFault (Some die) old new
one_faulted die old new changes = (changes.changed, λ other far. same_counted (die_at old other) (die_at new other) (changes.others other far))

one_aged : (die sb amount : ℕ) (old new : List DieState) → ChangesDie die (AgesBlock sb amount) old new → CountsFault None old new
one_aged die sb amount old new changes other = elim (cases_eq other die) [
  | inl here ↦ subst (λ (n : ℕ). StaysCounted (die_at old n) (die_at new n)) (sym here)
      (record { plan_stays = changes.changed.plan_stays; works_stay = changes.changed.works_stay; loads_stay = changes.changed.loads_stay })
  | inr far ↦ same_counted (die_at old other) (die_at new other) (changes.others other far)
]

-- ---- senses

pub record SenseClauses (old new : ChannelState) (tag : Tag) (at : ℕ) (place : Place) (level : ℤ) (was out : List ℕ) (answer : SenseAnswer) : Type 0 where
  pub entry : Senses old new tag at place level answer
  pub looks : new.looks ≡ old.looks
  pub bits : GivesBits old place level was out answer
  pub faults : Count (fault_of_sense answer) old new
  pub stands : SensesFor old new at place level out answer

sense_taken : (old : TablesState) (dies : DiesState) (new : TablesState) (after : DiesState) (tag : Tag) (at : ℕ) (place : Place) (level : ℤ) → new ≡ tables_after old tag (Kind.Sense at place level)
    → ChangesOneDie place.die KeepsDie dies after → Taken old dies new after tag (Kind.Sense at place level) []
sense_taken old dies new after tag at place level e changes = record {
  tables_are = exactly old new tag (Kind.Sense at place level) e;
  shape_stays = changes.shape_stays;
  change = record { dies = changes.dies; sum_is = changes.sum_stays };
  allows = tt;
}

fault_sense_taken : (old : TablesState) (dies : DiesState) (new : TablesState) (after : DiesState) (tag : Tag) (at : ℕ) (place : Place) (level : ℤ) → new ≡ tables_after old tag (Kind.FaultSense at place level)
    → ChangesOneDie place.die FaultsDie dies after → Taken old dies new after tag (Kind.FaultSense at place level) []
fault_sense_taken old dies new after tag at place level e changes = record {
  tables_are = exactly old new tag (Kind.FaultSense at place level) e;
  shape_stays = changes.shape_stays;
  change = record { dies = changes.dies; sum_is = changes.sum_stays };
  allows = tt;
}

pub sense_clauses : (old : TablesState) (dies : DiesState) (new : TablesState) (after : DiesState) (tag : Tag) (at : ℕ) (place : Place) (level : ℤ) (was out : List ℕ) (items : ℕ)
    → AreFitting old dies items → MaySense (channel_of old dies) tag at → IsTrue (has_place old.shape place)
    → new ≡ tables_after old tag (Kind.Sense at place level) → ChangesOneDie place.die KeepsDie dies after → out ≡ sensed level (levels_at dies.dies place)
    → SenseClauses (channel_of old dies) (channel_of new after) tag at place level was out sense.Sensed
sense_clauses old dies new after tag at place level was out items fit may range e changes bits =
    let taken : Taken old dies new after tag (Kind.Sense at place level) [] = sense_taken old dies new after tag at place level e changes in
    record {
      entry = adds old dies new after tag (Kind.Sense at place level) [] taken;
      looks = ap {B = List (Tag × Look)} (λ (t : TablesState). t.looks) e;
      bits = bits;
      faults = counts None (channel_of old dies) (channel_of new after) (one_kept place.die dies.dies after.dies changes.dies);
      stands = λ view start contents stands asked.
          let in_range : IsTrue (has_place start.base.shape place) = subst (λ (shape : Shape). IsTrue (has_place shape place)) stands.shape_is range in (
            bits ∙ sensed_is start contents old.past dies.dies dies.sum place level in_range stands.dies_fit,
            stands_after old dies new after tag (Kind.Sense at place level) [] items view start contents fit taken tt stands (record {
              lawful =
                  lawful_sense (ladder_of (coding_of start.base) start contents old.past) start.base old.past tag at place level in_range
                  (open_in_past old dies view start contents tag at stands may.is_open) may.no_fault asked;
              word_is = refl;
            }),
          );
    }

pub fault_sense_clauses : (old : TablesState) (dies : DiesState) (new : TablesState) (after : DiesState) (tag : Tag) (at : ℕ) (place : Place) (level : ℤ) (was out : List ℕ) (items : ℕ)
    → AreFitting old dies items → MaySense (channel_of old dies) tag at → IsTrue (has_place old.shape place)
    → new ≡ tables_after old tag (Kind.FaultSense at place level) → ChangesOneDie place.die FaultsDie dies after → out ≡ was
    → SenseClauses (channel_of old dies) (channel_of new after) tag at place level was out (sense.DieFault place.die)
fault_sense_clauses old dies new after tag at place level was out items fit may range e changes bits =
    let taken : Taken old dies new after tag (Kind.FaultSense at place level) [] = fault_sense_taken old dies new after tag at place level e changes in
    record {
      entry = (refl, adds old dies new after tag (Kind.FaultSense at place level) [] taken);
      looks = ap {B = List (Tag × Look)} (λ (t : TablesState). t.looks) e;
      bits = bits;
      faults = counts (Some place.die) (channel_of old dies) (channel_of new after) (one_faulted place.die dies.dies after.dies changes.dies);
      stands = λ view start contents stands asked.
          let in_range : IsTrue (has_place start.base.shape place) = subst (λ (shape : Shape). IsTrue (has_place shape place)) stands.shape_is range in (
            tt,
            stands_after old dies new after tag (Kind.FaultSense at place level) [] items view start contents fit taken tt stands (record {
              lawful =
                  lawful_fault_sense (ladder_of (coding_of start.base) start contents old.past) start.base old.past tag at place level in_range
                  (open_in_past old dies view start contents tag at stands may.is_open) may.no_fault asked;
              word_is = refl;
            }),
          );
    }

pub sense_fitting : (old : TablesState) (dies : DiesState) (new : TablesState) (after : DiesState) (tag : Tag) (at : ℕ) (place : Place) (level : ℤ) (items : ℕ) → AreFitting old dies items
    → new ≡ tables_after old tag (Kind.Sense at place level) → ChangesOneDie place.die KeepsDie dies after → AreFitting new after items
sense_fitting old dies new after tag at place level items fit e changes =
    fitting old dies new after tag (Kind.Sense at place level) [] items fit (sense_taken old dies new after tag at place level e changes)

pub fault_sense_fitting : (old : TablesState) (dies : DiesState) (new : TablesState) (after : DiesState) (tag : Tag) (at : ℕ) (place : Place) (level : ℤ) (items : ℕ) → AreFitting old dies items
    → new ≡ tables_after old tag (Kind.FaultSense at place level) → ChangesOneDie place.die FaultsDie dies after → AreFitting new after items
fault_sense_fitting old dies new after tag at place level items fit e changes =
    fitting old dies new after tag (Kind.FaultSense at place level) [] items fit (fault_sense_taken old dies new after tag at place level e changes)

-- ---- ageing

-- the tables took memory, and then have one more entry
pub both_after : (old roomy new : TablesState) (tag : Tag) (kind : Kind) → roomy ≡ record old { room = roomy.room } → new ≡ tables_after roomy tag kind
    → new ≡ tables_after (record old { room = new.room }) tag kind
both_after old roomy new tag kind same e =
    exactly_from (record old { room = roomy.room }) new tag kind (e ∙ ap {B = TablesState} (λ (t : TablesState). tables_after t tag kind) same)
  where
    exactly_from : (before after : TablesState) (t : Tag) (k : Kind) → after ≡ tables_after before t k → after ≡ tables_after (record before { room = after.room }) t k
    exactly_from before after t k = exactly before after t k

pub record AgeClauses (old new : ChannelState) (tag : Tag) (die sb amount : ℕ) (result : Result AgeAnswer StepStop) : Type 0 where
  pub room : IsRefused (HasStepRoom old) old result
  pub ok : IfOk result (λ answer. Ages old new tag die sb amount answer)
  pub faults : CountAt fault_of_age old new result
  pub stands : KeepsStanding old new

age_taken : (old : TablesState) (dies : DiesState) (roomy new : TablesState) (after : DiesState) (tag : Tag) (die sb amount : ℕ) → sb < old.shape.superblocks
    → roomy ≡ record old { room = roomy.room } → new ≡ tables_after roomy tag (Kind.Age die sb amount) → ChangesOneDie die (AgesBlock sb amount) dies after
    → Taken old dies new after tag (Kind.Age die sb amount) []
age_taken old dies roomy new after tag die sb amount within same e changes = record {
  tables_are = both_after old roomy new tag (Kind.Age die sb amount) same e;
  shape_stays = changes.shape_stays;
  change = record { dies = changes.dies; sum_is = changes.sum_stays };
  allows = within;
}

fault_age_taken : (old : TablesState) (dies : DiesState) (roomy new : TablesState) (after : DiesState) (tag : Tag) (die sb amount : ℕ)
    → roomy ≡ record old { room = roomy.room } → new ≡ tables_after roomy tag (Kind.FaultAge die sb amount) → ChangesOneDie die FaultsDie dies after
    → Taken old dies new after tag (Kind.FaultAge die sb amount) []
fault_age_taken old dies roomy new after tag die sb amount same e changes = record {
  tables_are = both_after old roomy new tag (Kind.FaultAge die sb amount) same e;
  shape_stays = changes.shape_stays;
  change = record { dies = changes.dies; sum_is = changes.sum_stays };
  allows = tt;
}

pub age_clauses : (old : TablesState) (dies : DiesState) (roomy new : TablesState) (after : DiesState) (tag : Tag) (die sb amount items : ℕ) → AreFitting old dies items
    → die < old.shape.dies → sb < old.shape.superblocks → length old.past + room_of_step old.looks ≤ old.limit
    → roomy ≡ record old { room = roomy.room } → new ≡ tables_after roomy tag (Kind.Age die sb amount) → ChangesOneDie die (AgesBlock sb amount) dies after
    → AgeClauses (channel_of old dies) (channel_of new after) tag die sb amount (Ok age.Aged)
age_clauses old dies roomy new after tag die sb amount items fit low within room same e changes =
    let taken : Taken old dies new after tag (Kind.Age die sb amount) [] = age_taken old dies roomy new after tag die sb amount within same e changes in
    record {
      room = room;
      ok = adds old dies new after tag (Kind.Age die sb amount) [] taken;
      faults = counts None (channel_of old dies) (channel_of new after) (one_aged die sb amount dies.dies after.dies changes.dies);
      stands = λ view start contents stands.
          stands_after old dies new after tag (Kind.Age die sb amount) [] items view start contents fit taken tt stands (record {
            lawful =
                lawful_age (ladder_of (coding_of start.base) start contents old.past) start.base old.past tag die sb amount
                (subst (λ (shape : Shape). die < shape.dies) stands.shape_is low) (subst (λ (shape : Shape). sb < shape.superblocks) stands.shape_is within);
            word_is = refl;
          });
    }

pub fault_age_clauses : (old : TablesState) (dies : DiesState) (roomy new : TablesState) (after : DiesState) (tag : Tag) (die sb amount items : ℕ) → AreFitting old dies items
    → die < old.shape.dies → sb < old.shape.superblocks → length old.past + room_of_step old.looks ≤ old.limit
    → roomy ≡ record old { room = roomy.room } → new ≡ tables_after roomy tag (Kind.FaultAge die sb amount) → ChangesOneDie die FaultsDie dies after
    → AgeClauses (channel_of old dies) (channel_of new after) tag die sb amount (Ok (age.DieFault die))
fault_age_clauses old dies roomy new after tag die sb amount items fit low within room same e changes =
    let taken : Taken old dies new after tag (Kind.FaultAge die sb amount) [] = fault_age_taken old dies roomy new after tag die sb amount same e changes in
    record {
      room = room;
      ok = (refl, adds old dies new after tag (Kind.FaultAge die sb amount) [] taken);
      faults = counts (Some die) (channel_of old dies) (channel_of new after) (one_faulted die dies.dies after.dies changes.dies);
      stands = λ view start contents stands.
          stands_after old dies new after tag (Kind.FaultAge die sb amount) [] items view start contents fit taken tt stands (record {
            lawful =
                lawful_fault_age (ladder_of (coding_of start.base) start contents old.past) start.base old.past tag die sb amount
                (subst (λ (shape : Shape). die < shape.dies) stands.shape_is low) (subst (λ (shape : Shape). sb < shape.superblocks) stands.shape_is within);
            word_is = refl;
          });
    }

pub age_fitting : (old : TablesState) (dies : DiesState) (roomy new : TablesState) (after : DiesState) (tag : Tag) (die sb amount items : ℕ) → AreFitting old dies items → sb < old.shape.superblocks
    → roomy ≡ record old { room = roomy.room } → new ≡ tables_after roomy tag (Kind.Age die sb amount) → ChangesOneDie die (AgesBlock sb amount) dies after → AreFitting new after items
age_fitting old dies roomy new after tag die sb amount items fit within same e changes =
    fitting old dies new after tag (Kind.Age die sb amount) [] items fit (age_taken old dies roomy new after tag die sb amount within same e changes)

pub fault_age_fitting : (old : TablesState) (dies : DiesState) (roomy new : TablesState) (after : DiesState) (tag : Tag) (die sb amount items : ℕ) → AreFitting old dies items
    → roomy ≡ record old { room = roomy.room } → new ≡ tables_after roomy tag (Kind.FaultAge die sb amount) → ChangesOneDie die FaultsDie dies after → AreFitting new after items
fault_age_fitting old dies roomy new after tag die sb amount items fit same e changes =
    fitting old dies new after tag (Kind.FaultAge die sb amount) [] items fit (fault_age_taken old dies roomy new after tag die sb amount same e changes)
