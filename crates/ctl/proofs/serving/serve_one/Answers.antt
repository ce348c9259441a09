use Rattle.std.proofs.Common.{◌≡◌, ℕ, inl, inr, length, map, refl, subst, sym}
use Rattle.std.specs.Prelude.{IsFalse}
use Rattle.std.proofs.lemmas.List.{length-map}
use Rattle.ctl.proofs.SeenChannels.{seen_by}
use Rattle.ctl.proofs.ServedCalls.{drain_served, is_that_stop, may_refresh, on_one_served, on_one_stopped, other_ends, refresh_fits, refresh_served, refresh_stopped}
use Rattle.ctl.specs.Asked.{HintsFit, IsPageOf, refreshes, settings}
use Rattle.ctl.specs.Served.{IsServed, Serves}
use Rattle.run_laws.specs.ServedRuns.{hints_after}
use Rattle.ssd_geo.specs.declared.trace.Verb.{Verb}
use Rattle.ctl.proofs.serving.serve_one.Goals as goal

-- the pages of its hints may be refreshed
pub drain-requires-clause-may : goal.drain-requires-clause-may
drain-requires-clause-may g c =
    may_refresh (settings c.args.worker.now) (map (seen_by g.P.Policy.told) c.args.channels.now) c.args.hints.now c.args.call.now
    c.requires.may

pub drain-requires-clause-fit : goal.drain-requires-clause-fit
drain-requires-clause-fit g c =
    subst (λ (n : ℕ). HintsFit c.args.worker.now.shape n c.args.hints.now)
    (length-map c.args.channels.now (seen_by g.P.Policy.told)) c.requires.may.hints_fit

-- and so they were
pub returns-in-Drain-clause-serves : goal.returns-in-Drain-clause-serves
returns-in-Drain-clause-serves g c =
    drain_served (settings c.args.worker.now) (map (seen_by g.P.Policy.told) c.args.channels.now)
    (map (seen_by g.P.Policy.told) c.drain.new.channels) c.args.hints.now c.drain.new.hints c.args.call.now c.in-Drain.count
    c.in-Drain.is c.drain.result c.drain.ensures.drains

-- the page may be refreshed
pub refresh_page-requires-clause-may : goal.refresh_page-requires-clause-may
refresh_page-requires-clause-may g c =
    may_refresh (settings c.args.worker.now) (map (seen_by g.P.Policy.told) c.args.channels.now) c.args.hints.now c.args.call.now
    c.requires.may

pub refresh_page-requires-clause-page : goal.refresh_page-requires-clause-page
refresh_page-requires-clause-page g c =
    subst (λ (n : ℕ). IsPageOf c.args.worker.now.shape n c.in-Refresh.page)
    (length-map c.args.channels.now (seen_by g.P.Policy.told))
    (refresh_fits (settings c.args.worker.now) (map (seen_by g.P.Policy.told) c.args.channels.now) c.args.hints.now
    c.args.call.now c.requires.may c.in-Refresh.page c.in-Refresh.is)

-- and so it was, or its look found no room
pub returns-in_ok-reply-in-Refresh-clause-serves : goal.returns-in_ok-reply-in-Refresh-clause-serves
returns-in_ok-reply-in-Refresh-clause-serves g c =
    subst
    (IsServed (settings c.args.worker.now) (map (seen_by g.P.Policy.told) c.args.channels.now)
    (map (seen_by g.P.Policy.told) c.refresh_page.new.channels) c.args.hints.now c.args.hints.now c.args.call.now)
    (sym c.reply_of_refresh.ensures)
    (refresh_served (settings c.args.worker.now) (map (seen_by g.P.Policy.told) c.args.channels.now)
    (map (seen_by g.P.Policy.told) c.refresh_page.new.channels) c.args.hints.now c.args.call.now c.in-Refresh.page
    c.in-Refresh.is c.in_ok-reply-in-Refresh.reply c.in_ok-reply-in-Refresh.ensures.refreshes)

pub returns-in_err-reply-in-Refresh-clause-serves : goal.returns-in_err-reply-in-Refresh-clause-serves
returns-in_err-reply-in-Refresh-clause-serves g c =
    subst
    (Serves (settings c.args.worker.now) (map (seen_by g.P.Policy.told) c.args.channels.now)
    (map (seen_by g.P.Policy.told) c.refresh_page.new.channels) c.args.hints.now c.args.hints.now c.args.call.now)
    (sym (is_that_stop c.from_residual.result c.in_err-reply-in-Refresh.field-0.0 c.from_residual.ensures.1))
    (refresh_stopped (settings c.args.worker.now) (map (seen_by g.P.Policy.told) c.args.channels.now)
    (map (seen_by g.P.Policy.told) c.refresh_page.new.channels) c.args.hints.now c.args.call.now c.in-Refresh.page
    c.in-Refresh.is c.in_err-reply-in-Refresh.field-0.0 c.in_err-reply-in-Refresh.ensures.refreshes)

-- a read was served with no hint in sight, and its page may wait behind the hints
pub returns-in_ok-reply-in-Read-clause-serves : goal.returns-in_ok-reply-in-Read-clause-serves
returns-in_ok-reply-in-Read-clause-serves g c =
    on_one_served (settings c.args.worker.now) (map (seen_by g.P.Policy.told) c.args.channels.now)
    (map (seen_by g.P.Policy.told) c.serve_on_one.new.channels) c.args.hints.now c.args.call.now
    (subst (λ (verb : Verb). IsFalse (refreshes verb)) (sym c.in-Read.is) refl) c.put_hint.new.hints
    c.in_ok-reply-in-Read.reply c.requires.may.fits
    (subst (λ (verb : Verb). c.put_hint.new.hints ≡ hints_after verb c.in_ok-reply-in-Read.reply c.args.hints.now)
    (sym c.in-Read.is) c.put_hint.ensures) c.in_ok-reply-in-Read.ensures.serves

pub returns-in_err-reply-in-Read-clause-serves : goal.returns-in_err-reply-in-Read-clause-serves
returns-in_err-reply-in-Read-clause-serves g c =
    subst
    (Serves (settings c.args.worker.now) (map (seen_by g.P.Policy.told) c.args.channels.now)
    (map (seen_by g.P.Policy.told) c.serve_on_one.new.channels) c.args.hints.now c.args.hints.now c.args.call.now)
    (sym (is_that_stop c.from_residual-in_err-reply-in-Read.result c.in_err-reply-in-Read.field-0.0
    c.from_residual-in_err-reply-in-Read.ensures.1))
    (on_one_stopped (settings c.args.worker.now) (map (seen_by g.P.Policy.told) c.args.channels.now)
    (map (seen_by g.P.Policy.told) c.serve_on_one.new.channels) c.args.hints.now c.args.call.now
    (subst (λ (verb : Verb). IsFalse (refreshes verb)) (sym c.in-Read.is) refl) c.in_err-reply-in-Read.field-0.0
    c.in_err-reply-in-Read.ensures.serves)

-- the others leave the hints as they are
pub returns-in-Write-clause-serves : goal.returns-in-Write-clause-serves
returns-in-Write-clause-serves g c =
    let olds = map (seen_by g.P.Policy.told) c.args.channels.now in
    let news = map (seen_by g.P.Policy.told) c.serve_on_one-in-Write.new.channels in
    elim c.in-Write.is [
      | inl write ↦ other_ends (settings c.args.worker.now) olds news c.args.hints.now c.args.call.now
          (Verb.Write write.0 write.1) write.2 refl (λ reply. refl) c.requires.may.fits c.serve_on_one-in-Write.result
          c.serve_on_one-in-Write.ensures.serves
      | inr other ↦ elim other [
        | inl trim ↦ other_ends (settings c.args.worker.now) olds news c.args.hints.now c.args.call.now
            (Verb.Trim trim.0) trim.1 refl (λ reply. refl) c.requires.may.fits c.serve_on_one-in-Write.result
            c.serve_on_one-in-Write.ensures.serves
        | inr last ↦ elim last [
          | inl collect ↦ other_ends (settings c.args.worker.now) olds news c.args.hints.now c.args.call.now
              (Verb.Collect collect.0) collect.1 refl (λ reply. refl) c.requires.may.fits c.serve_on_one-in-Write.result
              c.serve_on_one-in-Write.ensures.serves
          | inr age ↦ other_ends (settings c.args.worker.now) olds news c.args.hints.now c.args.call.now
              (Verb.Age age.0 age.1 age.2 age.3) age.4 refl (λ reply. refl) c.requires.may.fits c.serve_on_one-in-Write.result
              c.serve_on_one-in-Write.ensures.serves
        ]
      ]
    ]
