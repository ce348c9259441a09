use Rattle.std.proofs.Common.{◌∙◌, ◌%◌, ap, refl, subst, sym}
use Rattle.std.specs.Prelude.{ℕ}
use Rattle.shared_steps.specs.Sharing.{view_of_shared}
use Rattle.ssd_formats.specs.TraceText.{content_bytes}
use Rattle.ssd_geo.specs.declared.trace.Verb.{Verb}
use Rattle.ctl.specs.Asked.{HasOwnData}
use Rattle.actor_calls.specs.Ended.{EndsAmong}
use Rattle.actor_calls.proofs.KnownChannels.{at_verb, known_after, may_write, of_these, of_these_with, works}
use Rattle.actor_calls.proofs.calling.call_on.Goals as goal

-- the data are those of the call
pub write-requires-clause-may : goal.write-requires-clause-may
write-requires-clause-may g c κs within =
    may_write c.args.worker.now c.args.call.now.tag.actor c.args.channel.now.turns.now c.args.channel.now.pass
    g.J.Contents.contents c.requires.known c.args.call.now.tag c.content_into.new.out
    (subst (λ (verb : Verb). HasOwnData c.args.worker.now.shape.bytes c.args.call.now.tag verb g.J.Contents.contents)
    c.in-Write.is c.requires.own_data
    ∙ sym (c.content_into.ensures ∙ ap (λ (n : ℕ). content_bytes n c.in-Write.content) c.requires.bytes))

pub returns-in-Write-clause-ends : goal.returns-in-Write-clause-ends
returns-in-Write-clause-ends g c =
    let lock = c.args.channel.now.turns.now in
    let pass = c.args.channel.now.pass in
    let contents = g.J.Contents.contents in
    let after = view_of_shared c.write.new.steps.turns.now c.write.new.steps.pass contents in
    at_verb c.args.channels
    (λ k verb. EndsAmong lock.start contents c.args.channels k c.args.call.now.tag verb
    (view_of_shared lock pass contents).seen after.seen c.write.result)
    c.args.call.now.verb (Verb.Write c.in-Write.page c.in-Write.content) c.args.at (c.in-Write.page % c.args.channels)
    c.in-Write.is refl c.requires.at
    (of_these_with c.args.worker.now c.args.call.now.tag.actor lock pass contents c.requires.known c.args.call.now.tag
    c.content_into.new.out
    (subst (λ (verb : Verb). HasOwnData c.args.worker.now.shape.bytes c.args.call.now.tag verb contents)
    c.in-Write.is c.requires.own_data
    ∙ sym (c.content_into.ensures ∙ ap (λ (n : ℕ). content_bytes n c.in-Write.content) c.requires.bytes))
    (λ start contents. EndsAmong start contents c.args.channels (c.in-Write.page % c.args.channels) c.args.call.now.tag
    (Verb.Write c.in-Write.page c.in-Write.content) (view_of_shared lock pass g.J.Contents.contents).seen after.seen
    c.write.result)
    (c.write.ensures.ends c.in-Write.content))

pub returns-in-Read-clause-known : goal.returns-in-Read-clause-known
returns-in-Read-clause-known g c =
    let lock = c.args.channel.now.turns.now in
    let pass = c.args.channel.now.pass in
    let contents = g.J.Contents.contents in
    known_after c.args.worker.now c.args.call.now.tag.actor lock pass contents c.requires.known c.read.new.steps.turns.now
    c.read.new.steps.pass c.read.ensures.caller
    (c.read.ensures.goes_on lock.start contents (works c.args.worker.now c.args.call.now.tag.actor lock pass contents c.requires.known) c.requires.known.is_of (refl, refl)).0

pub returns-in-Read-clause-ends : goal.returns-in-Read-clause-ends
returns-in-Read-clause-ends g c =
    let lock = c.args.channel.now.turns.now in
    let pass = c.args.channel.now.pass in
    let contents = g.J.Contents.contents in
    let after = view_of_shared c.read.new.steps.turns.now c.read.new.steps.pass contents in
    at_verb c.args.channels
    (λ k verb. EndsAmong lock.start contents c.args.channels k c.args.call.now.tag verb
    (view_of_shared lock pass contents).seen after.seen c.read.result)
    c.args.call.now.verb (Verb.Read c.in-Read.page) c.args.at (c.in-Read.page % c.args.channels) c.in-Read.is refl c.requires.at
    (of_these c.args.worker.now c.args.call.now.tag.actor lock pass contents c.requires.known
    (λ start contents. EndsAmong start contents c.args.channels (c.in-Read.page % c.args.channels) c.args.call.now.tag (Verb.Read c.in-Read.page)
    (view_of_shared lock pass g.J.Contents.contents).seen after.seen c.read.result)
    c.read.ensures.ends)

pub returns-in-Trim-clause-known : goal.returns-in-Trim-clause-known
returns-in-Trim-clause-known g c =
    let lock = c.args.channel.now.turns.now in
    let pass = c.args.channel.now.pass in
    let contents = g.J.Contents.contents in
    known_after c.args.worker.now c.args.call.now.tag.actor lock pass contents c.requires.known c.trim.new.steps.turns.now
    c.trim.new.steps.pass c.trim.ensures.caller
    (c.trim.ensures.goes_on lock.start contents c.requires.known.is_of (refl, refl)).0

pub returns-in-Trim-clause-ends : goal.returns-in-Trim-clause-ends
returns-in-Trim-clause-ends g c =
    let lock = c.args.channel.now.turns.now in
    let pass = c.args.channel.now.pass in
    let contents = g.J.Contents.contents in
    let after = view_of_shared c.trim.new.steps.turns.now c.trim.new.steps.pass contents in
    at_verb c.args.channels
    (λ k verb. EndsAmong lock.start contents c.args.channels k c.args.call.now.tag verb
    (view_of_shared lock pass contents).seen after.seen c.trim.result)
    c.args.call.now.verb (Verb.Trim c.in-Trim.page) c.args.at (c.in-Trim.page % c.args.channels) c.in-Trim.is refl c.requires.at
    (c.trim.ensures.ends lock.start contents)

pub returns-in-Refresh-clause-known : goal.returns-in-Refresh-clause-known
returns-in-Refresh-clause-known g c =
    let lock = c.args.channel.now.turns.now in
    let pass = c.args.channel.now.pass in
    let contents = g.J.Contents.contents in
    known_after c.args.worker.now c.args.call.now.tag.actor lock pass contents c.requires.known c.refresh.new.steps.turns.now
    c.refresh.new.steps.pass c.refresh.ensures.caller
    (c.refresh.ensures.goes_on lock.start contents (works c.args.worker.now c.args.call.now.tag.actor lock pass contents c.requires.known) c.requires.known.is_of (refl, refl)).0

pub returns-in-Refresh-clause-ends : goal.returns-in-Refresh-clause-ends
returns-in-Refresh-clause-ends g c =
    let lock = c.args.channel.now.turns.now in
    let pass = c.args.channel.now.pass in
    let contents = g.J.Contents.contents in
    let after = view_of_shared c.refresh.new.steps.turns.now c.refresh.new.steps.pass contents in
    at_verb c.args.channels
    (λ k verb. EndsAmong lock.start contents c.args.channels k c.args.call.now.tag verb
    (view_of_shared lock pass contents).seen after.seen c.refresh.result)
    c.args.call.now.verb (Verb.Refresh c.in-Refresh.page) c.args.at (c.in-Refresh.page % c.args.channels) c.in-Refresh.is refl c.requires.at
    (of_these c.args.worker.now c.args.call.now.tag.actor lock pass contents c.requires.known
    (λ start contents. EndsAmong start contents c.args.channels (c.in-Refresh.page % c.args.channels) c.args.call.now.tag (Verb.Refresh c.in-Refresh.page)
    (view_of_shared lock pass g.J.Contents.contents).seen after.seen c.refresh.result)
    c.refresh.ensures.ends)

pub returns-in-Collect-clause-known : goal.returns-in-Collect-clause-known
returns-in-Collect-clause-known g c =
    let lock = c.args.channel.now.turns.now in
    let pass = c.args.channel.now.pass in
    let contents = g.J.Contents.contents in
    known_after c.args.worker.now c.args.call.now.tag.actor lock pass contents c.requires.known c.collect.new.steps.turns.now
    c.collect.new.steps.pass c.collect.ensures.caller
    (c.collect.ensures.goes_on lock.start contents (works c.args.worker.now c.args.call.now.tag.actor lock pass contents c.requires.known) c.requires.known.is_of (refl, refl)).0

pub returns-in-Collect-clause-ends : goal.returns-in-Collect-clause-ends
returns-in-Collect-clause-ends g c =
    let lock = c.args.channel.now.turns.now in
    let pass = c.args.channel.now.pass in
    let contents = g.J.Contents.contents in
    let after = view_of_shared c.collect.new.steps.turns.now c.collect.new.steps.pass contents in
    at_verb c.args.channels
    (λ k verb. EndsAmong lock.start contents c.args.channels k c.args.call.now.tag verb
    (view_of_shared lock pass contents).seen after.seen c.collect.result)
    c.args.call.now.verb (Verb.Collect c.in-Collect.on) c.args.at c.in-Collect.on c.in-Collect.is refl c.requires.at
    (of_these c.args.worker.now c.args.call.now.tag.actor lock pass contents c.requires.known
    (λ start contents. EndsAmong start contents c.args.channels c.in-Collect.on c.args.call.now.tag (Verb.Collect c.in-Collect.on)
    (view_of_shared lock pass g.J.Contents.contents).seen after.seen c.collect.result)
    c.collect.ensures.ends)

pub returns-in-Age-clause-known : goal.returns-in-Age-clause-known
returns-in-Age-clause-known g c =
    let lock = c.args.channel.now.turns.now in
    let pass = c.args.channel.now.pass in
    let contents = g.J.Contents.contents in
    known_after c.args.worker.now c.args.call.now.tag.actor lock pass contents c.requires.known c.age.new.steps.turns.now
    c.age.new.steps.pass c.age.ensures.caller
    (c.age.ensures.goes_on lock.start contents c.requires.known.is_of (refl, refl)).0

pub returns-in-Age-clause-ends : goal.returns-in-Age-clause-ends
returns-in-Age-clause-ends g c =
    let lock = c.args.channel.now.turns.now in
    let pass = c.args.channel.now.pass in
    let contents = g.J.Contents.contents in
    let after = view_of_shared c.age.new.steps.turns.now c.age.new.steps.pass contents in
    at_verb c.args.channels
    (λ k verb. EndsAmong lock.start contents c.args.channels k c.args.call.now.tag verb
    (view_of_shared lock pass contents).seen after.seen c.age.result)
    c.args.call.now.verb (Verb.Age c.in-Age.on c.in-Age.die c.in-Age.sb c.in-Age.amount) c.args.at c.in-Age.on c.in-Age.is refl c.requires.at
    (c.age.ensures.ends lock.start contents)
