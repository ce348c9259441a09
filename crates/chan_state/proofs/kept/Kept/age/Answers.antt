use Rattle.std.proofs.Common.{◌<◌, length, sym, subst, Ok}
use Rattle.ssd_geo.specs.declared.shape.Shape.{Shape}
use Rattle.chan_state.specs.ChannelState.{ChannelState, KeepsStanding}
use Rattle.chan_state.specs.Kept.{channel_of}
use Rattle.chan_state.specs.declared.answers.AgeAnswer.TheVariants as answer
use Rattle.chan_state.proofs.DieSteps.{AgeClauses, age_clauses, age_fitting, fault_age_clauses, fault_age_fitting}
use Rattle.chan_state.proofs.LookSteps.{same_stands}
use Rattle.chan_state.proofs.Taken.{roomier}
use Rattle.chan_state.proofs.kept.Kept.age.Goals as goal

pub age-requires : goal.age-requires
age-requires g c =
    let low : c.args.die < c.self.inside.tables.shape.dies = subst (λ (s : ChannelState). c.args.die < s.shape.dies) (sym c.self.view_is) c.requires.die in
    let within : c.args.sb < c.self.inside.tables.shape.superblocks = subst (λ (s : ChannelState). c.args.sb < s.shape.superblocks) (sym c.self.view_is) c.requires.superblock in
    record {
      die = subst (λ (shape : Shape). c.args.die < shape.dies) (sym c.self.invariant.same_shape) low;
      superblock = subst (λ (shape : Shape). c.args.sb < shape.superblocks) (sym c.self.invariant.same_shape) within;
    }

pub invariant_of-self : goal.invariant_of-self
invariant_of-self g c = roomier c.self.inside.tables c.self.inside.dies c.make_room.new.self (length c.self.inside.infos.items) c.self.invariant c.make_room.ensures.same

pub invariant_of-self-in-Ok : goal.invariant_of-self-in-Ok
invariant_of-self-in-Ok g c =
    let within : c.args.sb < c.self.inside.tables.shape.superblocks = subst (λ (s : ChannelState). c.args.sb < s.shape.superblocks) (sym c.self.view_is) c.requires.superblock in
    age_fitting c.self.inside.tables c.self.inside.dies c.make_room.new.self c.aged.new.self c.age.new.self c.args.tag c.args.die c.args.sb c.args.amount (length c.self.inside.infos.items) c.self.invariant within
    c.make_room.ensures.same c.aged.ensures c.in-Ok.ensures.ok

pub invariant_of-self-in-Err : goal.invariant_of-self-in-Err
invariant_of-self-in-Err g c =
    fault_age_fitting c.self.inside.tables c.self.inside.dies c.make_room.new.self c.fault_aged.new.self c.age.new.self c.args.tag c.args.die c.args.sb c.args.amount (length c.self.inside.infos.items) c.self.invariant
    c.make_room.ensures.same c.fault_aged.ensures c.in-Err.ensures.err

pub returns-in_err-make_room-clause-stands : goal.returns-in_err-make_room-clause-stands
returns-in_err-make_room-clause-stands g c =
    subst (λ (s : ChannelState). KeepsStanding s (channel_of c.make_room.new.self c.self.inside.dies)) c.self.view_is (same_stands c.self.inside.tables c.self.inside.dies c.make_room.new.self c.make_room.ensures.same)

pub returns-in-Ok : goal.returns-in-Ok
returns-in-Ok g c =
    let new : ChannelState = channel_of c.aged.new.self c.age.new.self in
    let low : c.args.die < c.self.inside.tables.shape.dies = subst (λ (s : ChannelState). c.args.die < s.shape.dies) (sym c.self.view_is) c.requires.die in
    let within : c.args.sb < c.self.inside.tables.shape.superblocks = subst (λ (s : ChannelState). c.args.sb < s.shape.superblocks) (sym c.self.view_is) c.requires.superblock in
    let now : AgeClauses c.args.self.now new c.args.tag c.args.die c.args.sb c.args.amount (Ok answer.Aged) =
    subst (λ (s : ChannelState). AgeClauses s new c.args.tag c.args.die c.args.sb c.args.amount (Ok answer.Aged)) c.self.view_is
    (age_clauses c.self.inside.tables c.self.inside.dies c.make_room.new.self c.aged.new.self c.age.new.self c.args.tag c.args.die c.args.sb c.args.amount (length c.self.inside.infos.items)
    c.self.invariant low within c.in_ok-make_room.ensures.room c.make_room.ensures.same c.aged.ensures c.in-Ok.ensures.ok) in
    record { room = now.room; ok = now.ok; faults = now.faults; stands = now.stands }

pub returns-in-Err : goal.returns-in-Err
returns-in-Err g c =
    let new : ChannelState = channel_of c.fault_aged.new.self c.age.new.self in
    let low : c.args.die < c.self.inside.tables.shape.dies = subst (λ (s : ChannelState). c.args.die < s.shape.dies) (sym c.self.view_is) c.requires.die in
    let within : c.args.sb < c.self.inside.tables.shape.superblocks = subst (λ (s : ChannelState). c.args.sb < s.shape.superblocks) (sym c.self.view_is) c.requires.superblock in
    let now : AgeClauses c.args.self.now new c.args.tag c.args.die c.args.sb c.args.amount (Ok (answer.DieFault c.args.die)) =
    subst (λ (s : ChannelState). AgeClauses s new c.args.tag c.args.die c.args.sb c.args.amount (Ok (answer.DieFault c.args.die))) c.self.view_is
    (fault_age_clauses c.self.inside.tables c.self.inside.dies c.make_room.new.self c.fault_aged.new.self c.age.new.self c.args.tag c.args.die c.args.sb c.args.amount (length c.self.inside.infos.items)
    c.self.invariant low within c.in_ok-make_room.ensures.room c.make_room.ensures.same c.fault_aged.ensures c.in-Err.ensures.err) in
    record { room = now.room; ok = now.ok; faults = now.faults; stands = now.stands }
