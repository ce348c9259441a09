use Rattle.std.proofs.Common.{◌∙◌, List, Result, map, refl, sym, subst, arith}
use Rattle.command_words.specs.Commands.{told_settings}
use Rattle.ctl.specs.Asked.{settings}
use Rattle.final_dies.specs.FinalDies.{counts_of}
use Rattle.ssd_formats.specs.ImageContents.{ChannelImage}
use Rattle.ssd_formats.specs.ImageHead.{head_of}
use Rattle.ssd_top.proofs.EndedChannels.{written_whole}
use Rattle.ssd_top.proofs.SavedInputs.{are_listed, are_saved, are_saved_as, saved_at, saved_run_begins}
use Rattle.ssd_top.proofs.ServedEnds.{serves}
use Rattle.ssd_top.specs.Forms.{input_of}
use Rattle.ssd_top.specs.Serving.{ServesInput, job_of}
use Rattle.ssd_top.specs.declared.served.Served.{Served}
use Rattle.ssd_top.specs.declared.status.Status.{Status}
use Rattle.ssd_top.proofs.serve.serve.Goals.{in-Ok-answered, in-Ok-printed_of, in-Err-printed_of, in-Err}
use Rattle.ssd_top.proofs.serve.serve.Goals as goal

pub serve_trace-answered-requires : goal.serve_trace-answered-requires
serve_trace-answered-requires g c =
    let head = head_of c.args.head in
    let saved : List ChannelImage = c.requires.image.0 in
    let dies = map g.D.Die.state c.args.dies.items in
    let views = map (λ policy. g.P.Policy.told policy) c.args.policies.items in
    record {
      begins = record {
        job = job_of (input_of head (saved_at head saved) c.args.trace.now) c.args.settings.history dies views;
        is_trace = refl;
        running =
            saved_run_begins c.in-Ok-begin_channels.channels.items c.deref_mut.result.now (λ channel. channel.kept)
            (λ channel. g.P.Policy.told channel.policy) c.args.head saved c.args.bases.items dies c.requires.image.1 c.args.trace.now
            c.in-Ok.worker c.in-Ok.ensures c.args.settings.history (counts_of dies) views c.deref_mut.ensures.value
            (omega (arith, c.in-Ok-begin_channels.ensures.count))
            (c.in-Ok-begin_channels.ensures.starts saved c.requires.image.1) c.in-Ok-begin_channels.ensures.views c.requires.calls;
        few_calls = c.requires.calls.few;
      };
    }

pub returns : goal.returns
returns g c = λ saved of.
    let head = head_of c.args.head in
    let dies = map g.D.Die.state c.args.dies.items in
    let views = map (λ policy. g.P.Policy.told policy) c.args.policies.items in
    let ends = λ (outcome : Result Served Status).
    ServesInput (input_of head (saved_at head saved) c.args.trace.now) (told_settings c.args.settings) dies views
    (map g.D.Die.state c.in-Ok-end_channels.field-0.dies.items) outcome in
    let running =
    saved_run_begins c.in-Ok-begin_channels.channels.items c.deref_mut.result.now (λ channel. channel.kept)
    (λ channel. g.P.Policy.told channel.policy) c.args.head saved c.args.bases.items dies of.of_image c.args.trace.now
    c.in-Ok.worker c.in-Ok.ensures c.args.settings.history (counts_of dies) views c.deref_mut.ensures.value
    (omega (arith, c.in-Ok-begin_channels.ensures.count))
    (c.in-Ok-begin_channels.ensures.starts saved of.of_image) c.in-Ok-begin_channels.ensures.views c.requires.calls in
    let whole =
    written_whole c.serve_trace-answered.new.channels c.in-Ok-begin_channels.channels.items c.in-Ok-begin_channels.channels.len
    (omega arith) in
    let served : ends c.match-answered-2.outcome =
    elim c.match-answered-2.branch as (λ _. ends c.match-answered-2.outcome) [
      | in-Ok-answered w ↦ elim w.match-printed_of.branch as (λ _. ends c.match-answered-2.outcome) [
        | in-Ok-printed_of made ↦
            subst ends (sym (w.outcome-is ∙ made.outcome-is))
            (serves c.deref_mut.result.now c.serve_trace-answered.new.channels _ c.args.dies.items
            c.begin_channels.new.dies.items
            c.in-Ok-end_channels.field-0.dies.items (λ channel. channel.kept)
            (λ channel. g.P.Policy.told channel.policy) g.D.Die.state c.args.head c.requires.head (saved_at head saved)
            (are_saved_as head saved c.args.bases.items dies of)
            (are_saved head saved c.args.bases.items dies of.of_image)
            (told_settings c.args.settings) c.args.trace.now views c.requires.dies.enough (settings c.in-Ok.worker) whole running
            c.in-Ok-end_channels.ensures.counts
            c.in-Ok-begin_channels.ensures.left c.in-Ok-end_channels.ensures.dies c.in-Ok-end_channels.field-0.histories.items
            w.in-Ok-answered.answered
            (record { printed = made.in-Ok-printed_of.printed; parts = c.in-Ok-end_channels.field-0.parts })
            c.in-Ok-end_channels.ensures.histories c.in-Ok-end_channels.ensures.parts c.in-Ok-end_channels.ensures.whole
            w.in-Ok-answered.ensures.ok
            made.in-Ok-printed_of.ensures)
        | in-Err-printed_of failed ↦ subst ends (sym (w.outcome-is ∙ failed.outcome-is)) tt
      ]
      | in-Err w ↦ subst ends (sym w.outcome-is) tt
    ] in
    subst
    (λ (channels : List ChannelImage).
    ServesInput (record { head = head; channels = channels; calls = c.args.trace.now }) (told_settings c.args.settings) dies views
    (map g.D.Die.state c.in-Ok-end_channels.field-0.dies.items) c.match-answered-2.outcome)
    (are_listed head saved c.args.bases.items dies of.of_image) served
