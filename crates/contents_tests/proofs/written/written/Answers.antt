use Rattle.std.proofs.Common.{map, sym, subst, arith}
use Rattle.std.proofs.lemmas.List.{length-map}
use Rattle.contents_file.specs.DiesCopied.{AllTellPages}
use Rattle.contents_tests.proofs.WrittenBases.{all_tell, blocks_are, channel_low, first_is, rows_are}
use Rattle.contents_tests.proofs.written.written.Goals as goal

pub write_channel-result-requires-clause-channel : goal.write_channel-result-requires-clause-channel
write_channel-result-requires-clause-channel g c =
    channel_low c.args.drive.now.head c.args.drive.now.bases.items (map g.D.Die.state c.args.dies.now.items) c.in-Some.base.now
    c.requires.image (first_is c.args.drive.now.bases.items c.deref.result.now c.in-Some.base.now c.deref.ensures.value c.in-Some.ensures.value)

pub write_channel-result-requires-clause-blocks : goal.write_channel-result-requires-clause-blocks
write_channel-result-requires-clause-blocks g c =
    blocks_are c.args.drive.now.head c.args.drive.now.bases.items (map g.D.Die.state c.args.dies.now.items) c.in-Some.base.now
    c.requires.image (first_is c.args.drive.now.bases.items c.deref.result.now c.in-Some.base.now c.deref.ensures.value c.in-Some.ensures.value)

pub write_channel-result-requires-clause-rows : goal.write_channel-result-requires-clause-rows
write_channel-result-requires-clause-rows g c =
    rows_are c.args.drive.now.head c.args.drive.now.bases.items (map g.D.Die.state c.args.dies.now.items) c.in-Some.base.now
    c.requires.image (first_is c.args.drive.now.bases.items c.deref.result.now c.in-Some.base.now c.deref.ensures.value c.in-Some.ensures.value)

pub write_channel-result-requires-clause-dies : goal.write_channel-result-requires-clause-dies
write_channel-result-requires-clause-dies g c =
    subst (λ lent. AllTellPages c.in-Some.base.now.shape (map g.D.Die.state lent)) (sym c.deref_mut.ensures.value)
    (all_tell c.args.drive.now.head c.args.drive.now.bases.items (map g.D.Die.state c.args.dies.now.items) c.in-Some.base.now
    c.requires.image (first_is c.args.drive.now.bases.items c.deref.result.now c.in-Some.base.now c.deref.ensures.value c.in-Some.ensures.value)
    c.requires.mounted (omega (arith, length-map c.args.dies.now.items g.D.Die.state, c.args.dies.now.len)))
