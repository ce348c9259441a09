use Rattle.std.proofs.Common.{◌≡◌, ℕ, ◌+◌, ◌*◌, ◌-◌, ◌<◌, List, [], ◌∷◌, ◌++◌, Ok, Err, length, map, refl, sym, ap, subst, ◌∙◌, arith, rules}
use Rattle.std.specs.Prelude.{All}
use Rattle.std.proofs.lemmas.List.{length-append, length-map, map-append}
use Rattle.ssd_formats.specs.ImageContents.{SavedBlock, blocks_fields, blocks_of_saved}
use Rattle.ssd_formats.specs.ImageHead.{Head, head_of}
use Rattle.ssd_geo.specs.declared.base.BlockBase.{BlockBase}
use Rattle.onfi_cmd.specs.DieState.{DieState}
use Rattle.image_file.specs.Gives.{rest_at}
use Rattle.image_file.specs.declared.stop.ReadStop.TheVariants.{Memory}
use Rattle.image_contents.proofs.DiesLoop.{become_if_ok, become_on, become_unasked, loaded_later, loads_kept, loads_kept_if_ok, loads_kept_on}
use Rattle.image_contents.proofs.InParts.{block_in_parts}
use Rattle.image_contents.proofs.Steps.{blocks_end, blocks_lack, blocks_more}
use Rattle.image_contents.proofs.Stops.{all_read, later_load_stops}
use Rattle.image_contents.proofs.TakenDies.{next_blank, none_taken, still_dies}
use Rattle.image_contents.proofs.TakenSteps.{taken_more}
use Rattle.image_contents.specs.DiesLoaded.{BecomeLoaded, block_of}
use Rattle.image_contents.specs.Parts.{block_after}
use Rattle.image_contents.specs.Taken.{TakesBlock}
use Rattle.image_contents.proofs.blocks.read_blocks.Goals as goal

pub loop-init : goal.loop-init
loop-init g c =
    let head = c.args.head.now in
    let dies : List DieState = map g.D.Die.state c.args.dies.now in
    let all : head.shape.superblocks - 0 ≡ head.shape.superblocks = omega arith in
    record {
      taken = (
        [],
        search rules,
        refl,
        none_taken head c.args.channel dies c.args.sum.now c.requires.dies c.requires.sum,
        λ told. (
          told,
          ap (λ (n : ℕ). blocks_fields (head_of head) c.args.channel n [] (rest_at c.args.place.now (g.S.Source.left c.args.input.now))) all,
        ),
      );
      stays = refl;
      keeps = loads_kept dies;
      count = search rules;
      place_low = omega arith;
      place_high = omega arith;
      cells = search rules;
    }

pub read_block-requires-clause-dies : goal.read_block-requires-clause-dies
read_block-requires-clause-dies g c =
    let so_far = c.loop.invariant.taken in
    let below : c.loop.counter < c.args.head.now.shape.superblocks = omega arith in
    still_dies c.args.head.now c.args.channel so_far.0 (map g.D.Die.state c.args.dies.now) (map g.D.Die.state c.loop.dies) c.loop.sum c.requires.dies
    c.loop.invariant.keeps so_far.3 (omega (arith, so_far.2, below))

pub read_block-requires-clause-blank : goal.read_block-requires-clause-blank
read_block-requires-clause-blank g c =
    let so_far = c.loop.invariant.taken in
    let states : List DieState = map g.D.Die.state c.loop.dies in
    let same : c.deref.result.now ≡ c.loop.blocks.items = search rules in
    let number : length c.deref.result.now ≡ length so_far.0 =
    ap (λ (l : List BlockBase). length l) (same ∙ so_far.1) ∙ length-map so_far.0 (λ (saved : SavedBlock). saved.block) in
    subst (λ (n : ℕ). All (λ die. (block_of n die).pages ≡ []) states) (sym number)
    (next_blank c.args.head.now c.args.channel so_far.0 states c.loop.sum so_far.3)

pub loop-preserved : goal.loop-preserved
loop-preserved g c =
    let head : Head = head_of c.args.head.now in
    let channel : ℕ = c.args.channel in
    let so_far = c.loop.invariant.taken in
    let saved : List SavedBlock = so_far.0 in
    let given = c.in-Ok.ensures.read.given in
    let more : SavedBlock = given.0 in
    let block : BlockBase = c.in-Ok.block in
    let firsts : List DieState = map g.D.Die.state c.args.dies.now in
    let olds : List DieState = map g.D.Die.state c.loop.dies in
    let news : List DieState = map g.D.Die.state c.read_block.new.dies in
    let same : c.deref.result.now ≡ c.loop.blocks.items = search rules in
    let before : c.deref.result.now ≡ blocks_of_saved saved = same ∙ so_far.1 in
    let pushed : c.push.new.self.items ≡ c.loop.blocks.items ++ block ∷ [] = search rules in
    let below : c.loop.counter < head.sizes.superblocks = omega arith in
    let takes : TakesBlock head channel (blocks_of_saved saved) more olds news c.loop.sum c.read_block.new.sum =
    subst (λ (l : List BlockBase). TakesBlock head channel l more olds news c.loop.sum c.read_block.new.sum) before given.1.1 in
    let rest = rest_at c.loop.place (g.S.Source.left c.loop.input) in
    let next = rest_at c.read_block.new.place (g.S.Source.left c.read_block.new.input) in
    record {
      taken = (
        saved ++ more ∷ [],
        pushed ∙ ap (λ (l : List BlockBase). l ++ block ∷ []) so_far.1 ∙ ap (λ (b : BlockBase). blocks_of_saved saved ++ b ∷ []) (sym given.1.0)
            ∙ sym (map-append (λ (of : SavedBlock). of.block) saved (more ∷ [])),
        omega (arith, length-append saved (more ∷ []), so_far.2),
        taken_more head channel saved more olds news c.loop.sum c.read_block.new.sum (omega (arith, so_far.2, below)) so_far.3 takes,
        λ told.
            let earlier = so_far.4 told in
            let read = given.2 earlier.0 in (
              read.0,
              blocks_more head channel (head.sizes.superblocks - c.loop.counter) (head.sizes.superblocks - (c.loop.counter + 1)) saved rest next more (omega arith)
                  (block_in_parts head channel saved rest
                  ∙ subst (λ (l : List BlockBase). block_after head channel l rest ≡ Ok (more, next)) before read.1)
                  ∙ earlier.1,
            ),
      );
      stays = c.in-Ok.ensures.read.cause ∙ c.loop.invariant.stays;
      keeps = loads_kept_on firsts olds news c.loop.invariant.keeps (loads_kept_if_ok _ olds news block c.in-Ok.ensures.loaded);
      count = search rules;
      place_low = omega (arith, c.loop.invariant.place_low, c.in-Ok.ensures.near.0);
      place_high = omega (arith, c.loop.invariant.place_high, c.in-Ok.ensures.near.1);
      cells = c.read_block.ensures.cells ∙ c.loop.invariant.cells;
    }

pub returns-in-Err-clause-read : goal.returns-in-Err-clause-read
returns-in-Err-clause-read g c =
    let head : Head = head_of c.args.head.now in
    let channel : ℕ = c.args.channel in
    let so_far = c.loop.invariant.taken in
    let same : c.deref.result.now ≡ c.loop.blocks.items = search rules in
    let before : c.deref.result.now ≡ blocks_of_saved so_far.0 = same ∙ so_far.1 in
    let left = g.S.Source.left c.loop.input in
    later_load_stops _ _ (g.S.Source.left c.args.input.now) left _ _ _ _ c.args.place.now c.loop.place _ _ c.in-Err.stop
    (block_after head channel c.deref.result.now) (blocks_fields head channel head.sizes.superblocks [])
    (λ told.
    let earlier = so_far.4 told in (
      earlier.0,
      λ fault read. sym earlier.1
          ∙ blocks_lack head channel (head.sizes.superblocks - c.loop.counter) (head.sizes.superblocks - (c.loop.counter + 1)) so_far.0 (rest_at c.loop.place left) fault (omega arith)
          (block_in_parts head channel so_far.0 (rest_at c.loop.place left)
          ∙ subst (λ (l : List BlockBase). block_after head channel l (rest_at c.loop.place left) ≡ Err fault) before read),
    ))
    c.loop.invariant.stays c.in-Err.ensures.read

pub returns-in-Err-clause-loaded : goal.returns-in-Err-clause-loaded
returns-in-Err-clause-loaded g c =
    loaded_later _ (map g.D.Die.state c.args.dies.now) (map g.D.Die.state c.loop.dies) (map g.D.Die.state c.read_block.new.dies) _ c.loop.invariant.keeps
    (become_on _ (map g.D.Die.state c.loop.dies) (map g.D.Die.state c.read_block.new.dies) c.in-Err.stop c.in-Err.ensures.loaded)

pub returns-in_err-map_err-in-Ok-clause-loaded : goal.returns-in_err-map_err-in-Ok-clause-loaded
returns-in_err-map_err-in-Ok-clause-loaded g c =
    let firsts : List DieState = map g.D.Die.state c.args.dies.now in
    let olds : List DieState = map g.D.Die.state c.loop.dies in
    let news : List DieState = map g.D.Die.state c.read_block.new.dies in
    let ended : c.from_residual-in_err-map_err-in-Ok.result ≡ Err Memory = search rules in
    let first : ℕ = c.args.channel * c.args.head.now.shape.dies in
    subst (λ result. BecomeLoaded first firsts news result) (sym ended)
    (become_unasked first 0 0 firsts news Memory refl
    (loads_kept_on firsts olds news c.loop.invariant.keeps (loads_kept_if_ok _ olds news c.in-Ok.block c.in-Ok.ensures.loaded)))

pub returns-clause-read : goal.returns-clause-read
returns-clause-read g c =
    let head : Head = head_of c.args.head.now in
    let channel : ℕ = c.args.channel in
    let so_far = c.loop.invariant.taken in
    let left = g.S.Source.left c.loop.input in
    all_read _ (g.S.Source.left c.args.input.now) left _ _ c.args.place.now c.loop.place _ so_far.0 (blocks_fields head channel head.sizes.superblocks [])
    c.loop.invariant.stays (so_far.1, so_far.3)
    (λ told.
    let earlier = so_far.4 told in (
      earlier.0,
      sym earlier.1 ∙ blocks_end head channel (head.sizes.superblocks - c.loop.counter) so_far.0 (rest_at c.loop.place left) (omega arith),
    ))

pub returns-clause-loaded : goal.returns-clause-loaded
returns-clause-loaded g c =
    become_if_ok _ (map g.D.Die.state c.args.dies.now) (map g.D.Die.state c.loop.dies) _ c.loop.invariant.keeps
