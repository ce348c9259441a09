use Rattle.std.proofs.Common.{◌≡◌, length, ap, ◌∙◌, sym, subst, rules}
use Rattle.std.specs.List.{length_refill}
use Rattle.std.specs.Vec.{with_items}
use Rattle.chan_state.specs.ChannelState.{ChannelState}
use Rattle.chan_state.specs.Kept.{channel_of}
use Rattle.chan_state.proofs.LookSteps.{NoteClauses, note_clauses, note_fitting}
use Rattle.chan_state.proofs.Taken.{recounted}
use Rattle.chan_state.proofs.kept.Kept.note.Goals as goal

pub noted-requires : goal.noted-requires
noted-requires g c = ap length c.deref_mut.ensures.value ∙ c.self.invariant.items_count

pub invariant_of-self : goal.invariant_of-self
invariant_of-self g c =
    let full : c.self.inside.infos.len ≡ length c.self.inside.infos.items = search rules in
    recounted c.noted.new.self c.self.inside.dies (length c.self.inside.infos.items) (length (with_items c.self.inside.infos c.noted.new.infos).items)
    (sym (length_refill c.self.inside.infos.len c.self.inside.infos.items c.noted.new.infos full) ∙ full)
    (note_fitting c.self.inside.tables c.self.inside.dies c.noted.new.self c.args.tag (length c.self.inside.infos.items) c.noted.result c.self.invariant c.noted.ensures.ok c.noted.ensures.err)

pub returns : goal.returns
returns g c =
    let new : ChannelState = channel_of c.noted.new.self c.self.inside.dies in
    let now : NoteClauses c.args.self.now new c.args.tag c.noted.result =
    subst (λ (s : ChannelState). NoteClauses s new c.args.tag c.noted.result) c.self.view_is
    (note_clauses c.self.inside.tables c.self.inside.dies c.noted.new.self c.args.tag (length c.self.inside.infos.items) c.noted.result c.self.invariant
    c.noted.ensures.room c.noted.ensures.value c.noted.ensures.in_range c.noted.ensures.ok c.noted.ensures.err) in
    record { room = now.room; ok = now.ok; err = now.err; dies = now.dies; stands = now.stands }
