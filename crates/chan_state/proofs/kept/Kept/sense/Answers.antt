use Rattle.std.proofs.Common.{◌≡◌, length, sym, ap, ◌∙◌, subst, w16, to_z, of_z, rules}
use Rattle.std.specs.Prelude.{IsTrue, ℤ}
use Rattle.chan_dies.specs.DiesState.{levels_at}
use Rattle.chan_tables.specs.TablesState.{tables_after}
use Rattle.ssd_geo.specs.Cells.{sensed}
use Rattle.ssd_geo.specs.declared.kind.Kind.{Kind}
use Rattle.ssd_geo.specs.Coding.{word_bytes_in}
use Rattle.ssd_geo.specs.declared.shape.Shape.{Shape}
use Rattle.ssd_histories.specs.OpenLooks.{look_at}
use Rattle.ssd_histories.specs.Ranges.{has_place}
use Rattle.chan_fits.proofs.PlacesInRange.{place_in_range}
use Rattle.chan_state.specs.ChannelState.{ChannelState}
use Rattle.chan_state.specs.Kept.{channel_of}
use Rattle.chan_state.specs.Steps.{MaySense}
use Rattle.chan_state.specs.declared.answers.SenseAnswer.TheVariants as answer
use Rattle.chan_state.proofs.DieSteps.{SenseClauses, fault_sense_clauses, fault_sense_fitting, sense_clauses, sense_fitting}
use Rattle.chan_state.proofs.OpenLooks.{open_of_call}
use Rattle.chan_state.proofs.kept.Kept.sense.Goals as goal

pub sense-requires : goal.sense-requires
sense-requires g c =
    let range : IsTrue (has_place c.self.inside.tables.shape c.args.place) = subst (λ (s : ChannelState). IsTrue (has_place s.shape c.args.place)) (sym c.self.view_is) c.requires.place in
    let word : length c.args.out.now ≡ word_bytes_in c.self.inside.tables.shape = subst (λ (s : ChannelState). length c.args.out.now ≡ word_bytes_in s.shape) (sym c.self.view_is) c.requires.word in
    record {
      place = place_in_range c.self.inside.dies.shape c.args.place (subst (λ (shape : Shape). IsTrue (has_place shape c.args.place)) (sym c.self.invariant.same_shape) range);
      word = subst (λ (shape : Shape). length c.args.out.now ≡ word_bytes_in shape) (sym c.self.invariant.same_shape) word;
    }

pub sensed-requires : goal.sensed-requires
sensed-requires g c =
    let may : MaySense (channel_of c.self.inside.tables c.self.inside.dies) c.args.tag c.args.at = subst (λ (s : ChannelState). MaySense s c.args.tag c.args.at) (sym c.self.view_is) c.requires.may in
    record { «open» = open_of_call c.args.tag (look_at c.self.inside.tables.looks c.args.at) may.is_open; few = may.few }

pub fault_sensed-requires : goal.fault_sensed-requires
fault_sensed-requires g c =
    let may : MaySense (channel_of c.self.inside.tables c.self.inside.dies) c.args.tag c.args.at = subst (λ (s : ChannelState). MaySense s c.args.tag c.args.at) (sym c.self.view_is) c.requires.may in
    record { «open» = open_of_call c.args.tag (look_at c.self.inside.tables.looks c.args.at) may.is_open; first = may.no_fault }

pub invariant_of-self : goal.invariant_of-self
invariant_of-self g c =
    let level : to_z w16 (of_z w16 c.args.level) ≡ c.args.level = search rules in
    let entry : c.sensed.new.self ≡ tables_after c.self.inside.tables c.args.tag (Kind.Sense c.args.at c.args.place c.args.level) =
    c.sensed.ensures ∙ ap (λ (l : ℤ). tables_after c.self.inside.tables c.args.tag (Kind.Sense c.args.at c.args.place l)) level in
    sense_fitting c.self.inside.tables c.self.inside.dies c.sensed.new.self c.sense.new.self c.args.tag c.args.at c.args.place c.args.level (length c.self.inside.infos.items) c.self.invariant entry c.in-Ok.ensures.ok

pub invariant_of-self-in-Err : goal.invariant_of-self-in-Err
invariant_of-self-in-Err g c =
    let level : to_z w16 (of_z w16 c.args.level) ≡ c.args.level = search rules in
    let entry : c.fault_sensed.new.self ≡ tables_after c.self.inside.tables c.args.tag (Kind.FaultSense c.args.at c.args.place c.args.level) =
    c.fault_sensed.ensures ∙ ap (λ (l : ℤ). tables_after c.self.inside.tables c.args.tag (Kind.FaultSense c.args.at c.args.place l)) level in
    fault_sense_fitting c.self.inside.tables c.self.inside.dies c.fault_sensed.new.self c.sense.new.self c.args.tag c.args.at c.args.place c.args.level (length c.self.inside.infos.items) c.self.invariant entry c.in-Err.ensures.err

pub returns-in-Ok : goal.returns-in-Ok
returns-in-Ok g c =
    let level : to_z w16 (of_z w16 c.args.level) ≡ c.args.level = search rules in
    let entry : c.sensed.new.self ≡ tables_after c.self.inside.tables c.args.tag (Kind.Sense c.args.at c.args.place c.args.level) =
    c.sensed.ensures ∙ ap (λ (l : ℤ). tables_after c.self.inside.tables c.args.tag (Kind.Sense c.args.at c.args.place l)) level in
    let bits : c.sense.new.out ≡ sensed c.args.level (levels_at c.self.inside.dies.dies c.args.place) =
    c.in-Ok.ensures.bits ∙ ap (λ (l : ℤ). sensed l (levels_at c.self.inside.dies.dies c.args.place)) level in
    let new : ChannelState = channel_of c.sensed.new.self c.sense.new.self in
    let may : MaySense (channel_of c.self.inside.tables c.self.inside.dies) c.args.tag c.args.at = subst (λ (s : ChannelState). MaySense s c.args.tag c.args.at) (sym c.self.view_is) c.requires.may in
    let range : IsTrue (has_place c.self.inside.tables.shape c.args.place) = subst (λ (s : ChannelState). IsTrue (has_place s.shape c.args.place)) (sym c.self.view_is) c.requires.place in
    let now : SenseClauses c.args.self.now new c.args.tag c.args.at c.args.place c.args.level c.args.out.now c.sense.new.out answer.Sensed =
    subst (λ (s : ChannelState). SenseClauses s new c.args.tag c.args.at c.args.place c.args.level c.args.out.now c.sense.new.out answer.Sensed) c.self.view_is
    (sense_clauses c.self.inside.tables c.self.inside.dies c.sensed.new.self c.sense.new.self c.args.tag c.args.at c.args.place c.args.level c.args.out.now c.sense.new.out (length c.self.inside.infos.items)
    c.self.invariant may range entry c.in-Ok.ensures.ok bits) in
    record { entry = now.entry; looks = now.looks; bits = now.bits; faults = now.faults; stands = now.stands }

pub returns-in-Err : goal.returns-in-Err
returns-in-Err g c =
    let level : to_z w16 (of_z w16 c.args.level) ≡ c.args.level = search rules in
    let entry : c.fault_sensed.new.self ≡ tables_after c.self.inside.tables c.args.tag (Kind.FaultSense c.args.at c.args.place c.args.level) =
    c.fault_sensed.ensures ∙ ap (λ (l : ℤ). tables_after c.self.inside.tables c.args.tag (Kind.FaultSense c.args.at c.args.place l)) level in
    let new : ChannelState = channel_of c.fault_sensed.new.self c.sense.new.self in
    let may : MaySense (channel_of c.self.inside.tables c.self.inside.dies) c.args.tag c.args.at = subst (λ (s : ChannelState). MaySense s c.args.tag c.args.at) (sym c.self.view_is) c.requires.may in
    let range : IsTrue (has_place c.self.inside.tables.shape c.args.place) = subst (λ (s : ChannelState). IsTrue (has_place s.shape c.args.place)) (sym c.self.view_is) c.requires.place in
    let now : SenseClauses c.args.self.now new c.args.tag c.args.at c.args.place c.args.level c.args.out.now c.sense.new.out (answer.DieFault c.args.place.die) =
    subst (λ (s : ChannelState). SenseClauses s new c.args.tag c.args.at c.args.place c.args.level c.args.out.now c.sense.new.out (answer.DieFault c.args.place.die)) c.self.view_is
    (fault_sense_clauses c.self.inside.tables c.self.inside.dies c.fault_sensed.new.self c.sense.new.self c.args.tag c.args.at c.args.place c.args.level c.args.out.now c.sense.new.out (length c.self.inside.infos.items)
    c.self.invariant may range entry c.in-Err.ensures.err c.in-Err.ensures.out) in
    record { entry = now.entry; looks = now.looks; bits = now.bits; faults = now.faults; stands = now.stands }
