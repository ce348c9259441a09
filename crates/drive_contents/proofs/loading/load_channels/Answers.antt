use Rattle.std.proofs.Common.{◌≡◌, ℕ, ◌+◌, ◌-◌, ◌*◌, ◌<◌, ◌≤◌, List, [], ◌∷◌, ◌++◌, drop, length, map, Ok, Err, refl, sym, ap, subst, ◌∙◌, arith, rules}
use Rattle.std.proofs.lemmas.List.{length-drop, length-take-le}
use Rattle.drive_dies.specs.Mounting.{die_count}
use Rattle.final_dies.specs.FinalDies.{dies_of_channel}
use Rattle.image_contents.proofs.DiesLoop.{become_if_ok, become_unasked, loads_kept}
use Rattle.image_contents.proofs.Stops.{all_read, later_load_stops}
use Rattle.image_contents.specs.DiesLoaded.{BecomeLoaded}
use Rattle.image_file.specs.Gives.{rest_at}
use Rattle.image_file.specs.declared.stop.ImageFault.{ImageFault}
use Rattle.image_file.specs.declared.stop.ReadStop.TheVariants.{Memory}
use Rattle.onfi_cmd.specs.DieState.{DieState}
use Rattle.ssd_formats.specs.ImageContents.{read_channel, read_channels}
use Rattle.ssd_formats.specs.ImageHead.{Head, IsHead, head_of}
use Rattle.ssd_geo.specs.declared.base.ChannelBase.{ChannelBase}
use Rattle.ssd_geo.specs.declared.head.ImageHead.{ImageHead}
use Rattle.drive_contents.specs.LoadedDrive.{ChangesChannel}
use Rattle.drive_contents.proofs.LoadSteps.{all_are_read, are_of_image, behind_all, behind_more, channel_fits, dies_same, head_same, keeps_more, next_read, none_loaded, ready_next, still_mounted, stop_loaded, stops_whole}
use Rattle.drive_contents.proofs.loading.load_channels.Goals as goal

-- the dies behind those of the drive are as they were
all_behind : (was now : ImageHead) (channel : ℕ) (first mid news : List DieState) → now ≡ record was { place = now.place }
    → channel < was.shape.channels → ChangesChannel now.shape.dies channel mid news
    → drop (channel * was.shape.dies) mid ≡ drop (channel * was.shape.dies) first
    → drop (die_count was) news ≡ drop (die_count was) first
all_behind was now channel first mid news same within changes behind =
    let count : ℕ = was.shape.dies in
    let changed : ChangesChannel count channel mid news =
    subst (λ (n : ℕ). ChangesChannel n channel mid news) (dies_same was now now.place same) changes in
    let room : channel * count + count ≤ die_count was = channel_fits was.shape.channels count channel within in
    behind_all count ((channel + 1) * count) (die_count was) first news (omega (arith, room))
    (behind_more count channel first mid news changed behind)

pub loop-channel-init : goal.loop-channel-init
loop-channel-init g c =
    let head : ImageHead = c.args.head.now in
    let dies : List DieState = map g.D.Die.state c.args.dies.now in
    let all : head.shape.channels - 0 ≡ head.shape.channels = omega arith in
    record {
      loaded = (
        [],
        none_loaded (head_of head) c.new-bases.result.items dies c.new-bases.ensures.items,
        λ told. (
          told,
          ap (λ (n : ℕ). read_channels (head_of head) n [] (rest_at head.place (g.S.Source.left c.args.input.now))) all,
        ),
      );
      stays = refl {a = g.S.Source.faults c.args.input.now};
      keeps = loads_kept dies;
      behind = refl {a = drop (0 * head.shape.dies) dies};
      head = refl {a = head};
      place_high = omega arith;
    }

pub load_channel-requires-clause-head : goal.load_channel-requires-clause-head
load_channel-requires-clause-head g c =
    subst (λ (head : Head). IsHead head)
    (sym (head_same c.args.head.now c.loop-channel.head c.loop-channel.head.place c.loop-channel.invariant.head))
    c.requires.head

pub load_channel-requires-clause-dies : goal.load_channel-requires-clause-dies
load_channel-requires-clause-dies g c =
    ready_next c.args.head.now c.loop-channel.head c.loop-channel.head.place c.loop-channel.invariant.head c.loop-channel.channel
    (map g.D.Die.state c.args.dies.now) (map g.D.Die.state c.loop-channel.dies) c.requires.dies
    c.loop-channel.invariant.keeps.count_stays c.loop-channel.invariant.behind

pub loop-channel-preserved : goal.loop-channel-preserved
loop-channel-preserved g c =
    let was : ImageHead = c.args.head.now in
    let now : ImageHead = c.loop-channel.head in
    let count : ℕ = was.shape.dies in
    let channel : ℕ = c.loop-channel.channel in
    let inv = c.loop-channel.invariant in
    let same : now ≡ record was { place = now.place } = inv.head in
    let first : List DieState = map g.D.Die.state c.args.dies.now in
    let mid : List DieState = map g.D.Die.state c.loop-channel.dies in
    let news : List DieState = map g.D.Die.state c.load_channel.new.dies in
    let base : ChannelBase = c.in-Ok.base in
    let counts : now.shape.dies ≡ count = dies_same was now now.place same in
    let changes : ChangesChannel now.shape.dies channel mid news = c.load_channel.ensures.others in
    let changed : ChangesChannel count channel mid news =
    subst (λ (n : ℕ). ChangesChannel n channel mid news) counts changes in
    let loaded : BecomeLoaded {X = ChannelBase} {F = ImageFault} (channel * count) (dies_of_channel count mid channel)
    (dies_of_channel count news channel) (Ok base) =
    subst (λ (n : ℕ). BecomeLoaded {X = ChannelBase} {F = ImageFault} (channel * n) (dies_of_channel n mid channel)
    (dies_of_channel n news channel) (Ok base)) counts c.in-Ok.ensures.loaded in
    let pushed : c.push.new.self.items ≡ c.loop-channel.bases.items ++ base ∷ [] = search rules in
    record {
      loaded =
          next_read was now now.place same channel (g.S.Source.left c.args.input.now) (g.S.Source.left c.loop-channel.input)
          (g.S.Source.left c.load_channel.new.input) was.place c.load_channel.new.head.place mid news c.loop-channel.bases.items
          c.push.new.self.items base (omega arith) pushed inv.loaded changes c.in-Ok.ensures.read.given;
      stays = c.in-Ok.ensures.read.cause ∙ inv.stays;
      keeps = keeps_more base count channel first mid news inv.keeps changed loaded;
      behind = behind_more count channel first mid news changed inv.behind;
      head =
          c.load_channel.ensures.head
          ∙ ap (λ (head : ImageHead). record head { place = c.load_channel.new.head.place }) same;
      place_high = omega (arith, inv.place_high, c.in-Ok.ensures.near.1);
    }

pub returns-in-Err-clause-read : goal.returns-in-Err-clause-read
returns-in-Err-clause-read g c =
    let was : ImageHead = c.args.head.now in
    let now : ImageHead = c.loop-channel.head in
    let channel : ℕ = c.loop-channel.channel in
    let inv = c.loop-channel.invariant in
    let left = g.S.Source.left c.loop-channel.input in
    later_load_stops _ _ (g.S.Source.left c.args.input.now) left _ _ _ _ was.place now.place _ _ c.in-Err.stop
    (read_channel (head_of now) channel) (read_channels (head_of was) was.shape.channels [])
    (λ told.
    stops_whole was now now.place inv.head channel (g.S.Source.left c.args.input.now) left was.place
    (map g.D.Die.state c.loop-channel.dies) c.loop-channel.bases.items (omega arith) inv.loaded told)
    inv.stays c.in-Err.ensures.read

pub returns-in-Err-clause-loaded : goal.returns-in-Err-clause-loaded
returns-in-Err-clause-loaded g c =
    let was : ImageHead = c.args.head.now in
    let now : ImageHead = c.loop-channel.head in
    let count : ℕ = was.shape.dies in
    let channel : ℕ = c.loop-channel.channel in
    let inv = c.loop-channel.invariant in
    let first : List DieState = map g.D.Die.state c.args.dies.now in
    let mid : List DieState = map g.D.Die.state c.loop-channel.dies in
    let news : List DieState = map g.D.Die.state c.load_channel.new.dies in
    let counts : now.shape.dies ≡ count = dies_same was now now.place inv.head in
    let within : channel < was.shape.channels = omega arith in
    let room : channel * count + count ≤ die_count was = channel_fits was.shape.channels count channel within in
    let fits : channel * count + count ≤ length mid = omega (arith, room, c.requires.dies.enough, inv.keeps.count_stays) in
    let long : length (dies_of_channel count mid channel) ≡ count =
    length-take-le count (drop (channel * count) mid) (omega (arith, fits, length-drop (channel * count) mid)) in
    let loaded : BecomeLoaded {X = ChannelBase} {F = ImageFault} (channel * count) (dies_of_channel count mid channel)
    (dies_of_channel count news channel) (Err c.in-Err.stop) =
    subst (λ (n : ℕ). BecomeLoaded {X = ChannelBase} {F = ImageFault} (channel * n) (dies_of_channel n mid channel)
    (dies_of_channel n news channel) (Err c.in-Err.stop)) counts c.in-Err.ensures.loaded in
    stop_loaded _ _ c.in-Err.stop count channel first mid news fits long inv.keeps
    (subst (λ (n : ℕ). ChangesChannel n channel mid news) counts c.load_channel.ensures.others) loaded

pub returns-in-Err-clause-others : goal.returns-in-Err-clause-others
returns-in-Err-clause-others g c =
    let was : ImageHead = c.args.head.now in
    let now : ImageHead = c.loop-channel.head in
    let channel : ℕ = c.loop-channel.channel in
    let inv = c.loop-channel.invariant in
    all_behind was now channel (map g.D.Die.state c.args.dies.now) (map g.D.Die.state c.loop-channel.dies)
    (map g.D.Die.state c.load_channel.new.dies) inv.head (omega arith) c.load_channel.ensures.others inv.behind

pub returns-in_err-map_err-in-Ok-clause-others : goal.returns-in_err-map_err-in-Ok-clause-others
returns-in_err-map_err-in-Ok-clause-others g c =
    let was : ImageHead = c.args.head.now in
    let now : ImageHead = c.loop-channel.head in
    let channel : ℕ = c.loop-channel.channel in
    let inv = c.loop-channel.invariant in
    all_behind was now channel (map g.D.Die.state c.args.dies.now) (map g.D.Die.state c.loop-channel.dies)
    (map g.D.Die.state c.load_channel.new.dies) inv.head (omega arith) c.load_channel.ensures.others inv.behind

pub returns-in_err-map_err-in-Ok-clause-loaded : goal.returns-in_err-map_err-in-Ok-clause-loaded
returns-in_err-map_err-in-Ok-clause-loaded g c =
    let was : ImageHead = c.args.head.now in
    let now : ImageHead = c.loop-channel.head in
    let count : ℕ = was.shape.dies in
    let channel : ℕ = c.loop-channel.channel in
    let inv = c.loop-channel.invariant in
    let first : List DieState = map g.D.Die.state c.args.dies.now in
    let mid : List DieState = map g.D.Die.state c.loop-channel.dies in
    let news : List DieState = map g.D.Die.state c.load_channel.new.dies in
    let base : ChannelBase = c.in-Ok.base in
    let counts : now.shape.dies ≡ count = dies_same was now now.place inv.head in
    let changed : ChangesChannel count channel mid news =
    subst (λ (n : ℕ). ChangesChannel n channel mid news) counts c.load_channel.ensures.others in
    let loaded : BecomeLoaded {X = ChannelBase} {F = ImageFault} (channel * count) (dies_of_channel count mid channel)
    (dies_of_channel count news channel) (Ok base) =
    subst (λ (n : ℕ). BecomeLoaded {X = ChannelBase} {F = ImageFault} (channel * n) (dies_of_channel n mid channel)
    (dies_of_channel n news channel) (Ok base)) counts c.in-Ok.ensures.loaded in
    let ended : c.from_residual.result ≡ Err Memory = search rules in
    subst (λ result. BecomeLoaded 0 first news result) (sym ended)
    (become_unasked 0 0 0 first news Memory refl (keeps_more base count channel first mid news inv.keeps changed loaded))

pub returns-clause-read : goal.returns-clause-read
returns-clause-read g c =
    let was : ImageHead = c.args.head.now in
    let inv = c.loop-channel.invariant in
    let so_far = inv.loaded in
    let channel : ℕ = c.loop-channel.channel in
    let all : channel ≡ was.shape.channels = omega arith in
    let left = g.S.Source.left c.loop-channel.input in
    all_read _ (g.S.Source.left c.args.input.now) left _ _ was.place c.loop-channel.head.place c.loop-channel.bases so_far.0
    (read_channels (head_of was) was.shape.channels []) inv.stays
    (are_of_image (head_of was) channel so_far.0 c.loop-channel.bases.items (map g.D.Die.state c.loop-channel.dies) so_far.1 all)
    (λ told.
    all_are_read was channel c.loop-channel.bases.items (map g.D.Die.state c.loop-channel.dies)
    (g.S.Source.left c.args.input.now) left was.place c.loop-channel.head.place all so_far told)

pub returns-clause-mounted : goal.returns-clause-mounted
returns-clause-mounted g c =
    still_mounted c.args.head.now (map g.D.Die.state c.args.dies.now) (map g.D.Die.state c.loop-channel.dies) c.requires.dies
    c.loop-channel.invariant.keeps

pub returns-clause-loaded : goal.returns-clause-loaded
returns-clause-loaded g c =
    become_if_ok 0 (map g.D.Die.state c.args.dies.now) (map g.D.Die.state c.loop-channel.dies) c.loop-channel.bases
    c.loop-channel.invariant.keeps

pub returns-clause-others : goal.returns-clause-others
returns-clause-others g c =
    let was : ImageHead = c.args.head.now in
    let count : ℕ = was.shape.dies in
    let all : was.shape.channels ≡ c.loop-channel.channel = omega arith in
    ap (λ (n : ℕ). drop (n * count) (map g.D.Die.state c.loop-channel.dies)) all ∙ c.loop-channel.invariant.behind
    ∙ ap (λ (n : ℕ). drop (n * count) (map g.D.Die.state c.args.dies.now)) (sym all)
