-- One more channel of a drive was read and loaded, or none more can be.
use Rattle.std.proofs.Common.{ℕ, zero, suc, ◌≡◌, ◌+◌, ◌-◌, ◌*◌, ◌<◌, ◌≤◌, ◌⊎◌, List, [], ◌∷◌, ◌++◌, drop, length, slice_get, Option, Some, Ok, Err, inl, inr, refl, sym, ap, subst, ◌∙◌, arith}
use Rattle.std.proofs.Math.Nat.{mul-le-mul}
use Rattle.std.proofs.lemmas.Bool.{cases_lt}
use Rattle.std.proofs.lemmas.List.{drop-drop, length-append}
use Rattle.std.proofs.lemmas.Option.{slice_get_within}
use Rattle.contents_start.specs.ContentsStart.{AreOfContents}
use Rattle.drive_dies.specs.Mounting.{AreReady, EachBecomes}
use Rattle.final_dies.specs.FinalDies.{dies_of_channel}
use Rattle.image_contents.proofs.DieSteps.{keeps_none}
use Rattle.image_contents.proofs.DiesLoop.{KeepsLoads, become_on, loaded_later, loads_kept_if_ok, loads_kept_on}
use Rattle.image_contents.specs.DiesLoaded.{BecomeLoaded, BecomesLoaded, CountsLoadAmong, NamesOne}
use Rattle.image_file.specs.Gives.{rest_at}
use Rattle.image_file.specs.declared.stop.ImageFault.{ImageFault}
use Rattle.image_file.specs.declared.stop.ReadStop.{ReadStop}
use Rattle.image_file.specs.declared.stop.ReadStop.TheVariants.{Fault as FaultAt, ReadFault, DieFailed, Memory}
use Rattle.onfi_cmd.specs.DieState.{DieState}
use Rattle.saved_drive.specs.Contents.{AreMounted, AreOfImage, StaysMounted}
use Rattle.saved_drive.proofs.MountedDies.{dies_stay_mounted, ready_dies_are_mounted}
use Rattle.ssd_formats.specs.Fields.{Fault, Rest}
use Rattle.ssd_formats.specs.ImageContents.{ChannelImage, read_channel, read_channels}
use Rattle.ssd_formats.specs.ImageHead.{Head, head_of}
use Rattle.ssd_geo.specs.declared.base.ChannelBase.{ChannelBase}
use Rattle.ssd_geo.specs.declared.head.ImageHead.{ImageHead}
use Rattle.ssd_io.specs.Told.{IsTold}
use Rattle.drive_contents.specs.LoadedDrive.{AreLoadedBelow, AreReadyFrom, ChangesChannel}
use Rattle.drive_contents.proofs.Pieces.{all_become, part_before, same_of}
use Rattle.shared_lemmas.proofs.Lists.{in_front_of}

-- the channels of an image, one after the other
pub channels_more : (head : Head) (n m channel : ℕ) (before : List ChannelImage) (rest next : Rest) (x : ChannelImage) → n ≡ suc m
    → length before ≡ channel → read_channel head channel rest ≡ Ok (x, next)
    → read_channels head m (before ++ x ∷ []) next ≡ read_channels head n before rest
unfolding read_channels
channels_more head n m channel before rest next x long here read =
    let at : read_channel head (length before) rest ≡ Ok (x, next) = ap (λ (k : ℕ). read_channel head k rest) here ∙ read in
    rw (long, at) refl

pub channels_lack : (head : Head) (n m channel : ℕ) (before : List ChannelImage) (rest : Rest) (fault : Fault) → n ≡ suc m
    → length before ≡ channel → read_channel head channel rest ≡ Err fault → read_channels head n before rest ≡ Err fault
unfolding read_channels
channels_lack head n m channel before rest fault long here read =
    let at : read_channel head (length before) rest ≡ Err fault = ap (λ (k : ℕ). read_channel head k rest) here ∙ read in
    rw (long, at) refl

pub channels_end : (head : Head) (n : ℕ) (before : List ChannelImage) (rest : Rest) → n ≡ 0
    → read_channels head n before rest ≡ Ok (before, rest)
unfolding read_channels
channels_end head n before rest none = rw none refl

pub at_the_end : {A : Type 0} (xs : List A) (y : A) (k : ℕ) → length xs ≡ k → slice_get (xs ++ y ∷ []) k ≡ Some y
at_the_end [] y zero here = refl
at_the_end [] y (suc k) here = absurd (omega (arith, here))
at_the_end (x ∷ xs) y zero here = absurd (omega (arith, here))
at_the_end (x ∷ xs) y (suc k) here = at_the_end xs y k (omega (arith, here))

-- one more channel is loaded
pub one_more_loaded : (head : Head) (channel : ℕ) (saved : List ChannelImage) (bases : List ChannelBase) (olds news : List DieState)
    (of : ChannelImage) (base : ChannelBase) → AreLoadedBelow head channel saved bases olds
    → ChangesChannel head.sizes.dies channel olds news
    → AreOfContents head channel of base (dies_of_channel head.sizes.dies news channel)
    → AreLoadedBelow head (channel + 1) (saved ++ of ∷ []) (bases ++ base ∷ []) news
one_more_loaded head channel saved bases olds news of base loaded changes are = record {
  as_many_saved = omega (arith, length-append saved (of ∷ []), loaded.as_many_saved);
  as_many_bases = omega (arith, length-append bases (base ∷ []), loaded.as_many_bases);
  each = λ number other its other_at its_at.
      elim (cases_lt number channel) [
        | inl earlier ↦
            let in_saved : slice_get saved number ≡ Some other =
            sym (in_front_of saved (of ∷ []) number (omega (arith, earlier, loaded.as_many_saved))) ∙ other_at in
            let in_bases : slice_get bases number ≡ Some its =
            sym (in_front_of bases (base ∷ []) number (omega (arith, earlier, loaded.as_many_bases))) ∙ its_at in
            subst (λ (dies : List DieState). AreOfContents head number other its dies)
            (sym (part_before head.sizes.dies channel number olds news changes earlier))
            (loaded.each number other its in_saved in_bases)
        | inr later ↦
            let low : number < length (saved ++ of ∷ []) = slice_get_within (saved ++ of ∷ []) number other other_at in
            let last : channel ≡ number = omega (arith, low, later, length-append saved (of ∷ []), loaded.as_many_saved) in
            let same : of ≡ other = same_of of other (sym (at_the_end saved of number (loaded.as_many_saved ∙ last)) ∙ other_at) in
            let same_base : base ≡ its = same_of base its (sym (at_the_end bases base number (loaded.as_many_bases ∙ last)) ∙ its_at) in
            subst (λ (n : ℕ). AreOfContents head n other its (dies_of_channel head.sizes.dies news n)) last
            (subst (λ (o : ChannelImage). AreOfContents head channel o its (dies_of_channel head.sizes.dies news channel)) same
            (subst (λ (b : ChannelBase). AreOfContents head channel of b (dies_of_channel head.sizes.dies news channel)) same_base are))
      ];
}

-- ---- the dies

-- the dies of one more channel were loaded, and no others
pub keeps_more : {X : Type 0} (value : X) (count channel : ℕ) (first mid now : List DieState)
    → EachBecomes (λ number old new. KeepsLoads old new) first mid → ChangesChannel count channel mid now
    → BecomeLoaded {X = X} {F = ImageFault} (channel * count) (dies_of_channel count mid channel)
    (dies_of_channel count now channel) (Ok value)
    → EachBecomes (λ number old new. KeepsLoads old new) first now
keeps_more value count channel first mid now keeps changes loaded =
    loads_kept_on first mid now keeps
    (all_become (λ number old new. KeepsLoads old new) count channel mid now changes
    (loads_kept_if_ok (channel * count) (dies_of_channel count mid channel) (dies_of_channel count now channel) value loaded)
    (λ number die outside. record { keeps = keeps_none die; loads_stay = refl }))

each_of : (P Q : ℕ → DieState → DieState → Type 0) (a b : List DieState) → ((number : ℕ) (x y : DieState) → P number x y → Q number x y)
    → EachBecomes P a b → EachBecomes Q a b
each_of P Q a b weaker each =
    record { count_stays = each.count_stays; each = λ number x y was is. weaker number x y (each.each number x y was is) }

-- what became of all dies where those of one channel stopped
counts_outside : (X : Type 0) {F : Type 0} (stop : ReadStop F) (first count number n : ℕ) → NamesOne {X = X} first count (Err stop)
    → (number < first) ⊎ (first + count ≤ number) → CountsLoadAmong {X = X} number n n (Err stop)
counts_outside X (FaultAt at fault) first count number n names outside = refl
counts_outside X ReadFault first count number n names outside = refl
counts_outside X (DieFailed die) first count number n names outside = (
  λ same. absurd (elim outside [
    | inl before ↦ omega (arith, names.0, before, same)
    | inr behind ↦ omega (arith, names.1, behind, same)
  ]),
  λ other. refl,
)
counts_outside X Memory first count number n names outside = refl

names_among : (X : Type 0) {F : Type 0} (stop : ReadStop F) (first count all : ℕ) → first + count ≤ all
    → NamesOne {X = X} first count (Err stop) → NamesOne {X = X} 0 all (Err stop)
names_among X (FaultAt at fault) first count all fits names = tt
names_among X ReadFault first count all fits names = tt
names_among X (DieFailed die) first count all fits names = (omega arith, omega (arith, names.1, fits))
names_among X Memory first count all fits names = tt

abbrev loads_among : (X : Type 0) → ReadStop ImageFault → ℕ → DieState → DieState → Type 0
loads_among X stop number old new = BecomesLoaded {X = X} {F = ImageFault} (Err stop) number old new

pub stop_loaded : (X Y : Type 0) (stop : ReadStop ImageFault) (count channel : ℕ) (first mid now : List DieState)
    → channel * count + count ≤ length mid → length (dies_of_channel count mid channel) ≡ count
    → EachBecomes (λ number old new. KeepsLoads old new) first mid → ChangesChannel count channel mid now
    → BecomeLoaded {X = X} (channel * count) (dies_of_channel count mid channel) (dies_of_channel count now channel) (Err stop)
    → BecomeLoaded {X = Y} 0 first now (Err stop)
stop_loaded X Y stop count channel first mid now fits long keeps changes loaded =
    let names : NamesOne {X = X} (channel * count) count (Err stop) =
    subst (λ (n : ℕ). NamesOne {X = X} (channel * count) n (Err stop)) long loaded.names_one in
    let each : EachBecomes (loads_among X stop) mid now =
    all_become (loads_among X stop) count channel mid now changes loaded.each
    (λ number die outside. record {
      keeps = keeps_none die;
      counts = counts_outside X stop (channel * count) count number die.load_count names outside;
    }) in
    loaded_later 0 first mid now (Err stop) keeps
    (become_on {X = X} {Y = Y} 0 mid now stop
    (record {
      each = each_of (loads_among X stop) (λ number old new. loads_among X stop (0 + number) old new) mid now
          (λ number x y one.
          let zero_more : number ≡ 0 + number = omega arith in
          subst (λ (n : ℕ). loads_among X stop n x y) zero_more one)
          each;
      names_one = names_among X stop (channel * count) count (length mid) fits names;
    }))

-- the drive's dies are mounted still
pub still_mounted : (head : ImageHead) (first now : List DieState) → AreReady head first
    → EachBecomes (λ number old new. KeepsLoads old new) first now → AreMounted head now
still_mounted head first now ready keeps =
    dies_stay_mounted head first now
    (each_of (λ number old new. KeepsLoads old new) (λ number old new. StaysMounted old new) first now
    (λ number x y one. record { plan_stays = one.keeps.plan_stays; still_tells = one.keeps.still_tells }) keeps)
    (ready_dies_are_mounted head first ready)

-- those behind a channel are as they were
pub behind_more : (count channel : ℕ) (first mid now : List DieState) → ChangesChannel count channel mid now
    → drop (channel * count) mid ≡ drop (channel * count) first → drop ((channel + 1) * count) now ≡ drop ((channel + 1) * count) first
behind_more count channel first mid now changes same =
    let there : channel * count + count ≡ (channel + 1) * count = omega arith in
    ap (λ (n : ℕ). drop n now) (sym there) ∙ changes.behind_stay
    ∙ sym (drop-drop count (channel * count) mid) ∙ ap (λ (all : List DieState). drop count all) same
    ∙ drop-drop count (channel * count) first ∙ ap (λ (n : ℕ). drop n first) there

pub behind_all : (count before all : ℕ) (first now : List DieState) → before ≤ all → drop before now ≡ drop before first
    → drop all now ≡ drop all first
behind_all count before all first now fits same =
    let more : ℕ = all - before in
    let there : before + more ≡ all = omega (arith, fits) in
    ap (λ (n : ℕ). drop n now) (sym there) ∙ sym (drop-drop more before now)
    ∙ ap (λ (dies : List DieState). drop more dies) same
    ∙ drop-drop more before first ∙ ap (λ (n : ℕ). drop n first) there

-- a channel is one of the drive's
pub channel_fits : (channels count channel : ℕ) → channel < channels → channel * count + count ≤ channels * count
channel_fits channels count channel within =
    let more : (channel + 1) * count ≤ channels * count =
    mul-le-mul {n₁ = channel + 1} {m₁ = count} {n₂ = channels} {m₂ = count} (omega (arith, within)) (omega arith) in
    omega (arith, more)

-- ready dies are so wherever the head's place is
pub ready_anywhere : (head : ImageHead) (place : ℕ) (dies : List DieState) → AreReady head dies
    → AreReady (record head { place = place }) dies
ready_anywhere head place dies ready = record { enough = ready.enough; each = ready.each }

-- and mounted dies are mounted
pub mounted_anywhere : (head : ImageHead) (place : ℕ) (dies : List DieState) → AreMounted head dies
    → AreMounted (record head { place = place }) dies
mounted_anywhere head place dies mounted = record { enough = mounted.enough; each = mounted.each }

-- all channels were read
pub are_of_image : (head : Head) (count : ℕ) (saved : List ChannelImage) (bases : List ChannelBase) (dies : List DieState)
    → AreLoadedBelow head count saved bases dies → count ≡ head.sizes.channels → AreOfImage head saved bases dies
are_of_image head count saved bases dies loaded all = record {
  as_many_saved = loaded.as_many_saved ∙ all;
  as_many_bases = loaded.as_many_bases ∙ all;
  each = loaded.each;
}

-- none is loaded at first
pub none_loaded : (head : Head) (bases : List ChannelBase) (dies : List DieState) → bases ≡ []
    → AreLoadedBelow head 0 [] bases dies
none_loaded head bases dies none = record {
  as_many_saved = refl;
  as_many_bases = ap (λ (all : List ChannelBase). length all) none;
  each = λ channel of base of_at base_at. absurd (omega (arith, slice_get_within [] channel of of_at));
}

-- ---- what was read so far

-- so many channels were read, up to a place
abbrev pub HaveRead : ImageHead → ℕ → List ChannelBase → List DieState → Option (List ℕ) → Option (List ℕ) → ℕ → ℕ → Type 0
HaveRead head channel bases dies before after start place =
    (saved : List ChannelImage) × AreLoadedBelow (head_of head) channel saved bases dies
    × (IsTold before → IsTold after
    × (read_channels (head_of head) (head.shape.channels - channel) saved (rest_at place after)
    ≡ read_channels (head_of head) head.shape.channels [] (rest_at start before)))

module _ (was now : ImageHead) (place : ℕ) (same : now ≡ record was { place = place }) where
  pub head_same : head_of now ≡ head_of was
  head_same = ap head_of same

  pub dies_same : now.shape.dies ≡ was.shape.dies
  dies_same = ap (λ (head : ImageHead). head.shape.dies) same

  -- one more channel was read
  pub next_read : (channel : ℕ) (a b d : Option (List ℕ)) (start next : ℕ) (mid news : List DieState) (bases after : List ChannelBase)
      (base : ChannelBase) → channel < was.shape.channels → after ≡ bases ++ base ∷ []
      → HaveRead was channel bases mid a b start now.place → ChangesChannel now.shape.dies channel mid news
      → (of : ChannelImage) × AreOfContents (head_of now) channel of base (dies_of_channel now.shape.dies news channel)
      × (IsTold b → IsTold d × (read_channel (head_of now) channel (rest_at now.place b) ≡ Ok (of, rest_at next d)))
      → HaveRead was (channel + 1) after news a d start next
  next_read channel a b d start next mid news bases after base within more so_far changes given =
      let of : ChannelImage = given.0 in
      let changed : ChangesChannel was.shape.dies channel mid news =
      subst (λ (count : ℕ). ChangesChannel count channel mid news) dies_same changes in
      let are : AreOfContents (head_of was) channel of base (dies_of_channel was.shape.dies news channel) =
      subst (λ (head : Head). AreOfContents head channel of base (dies_of_channel was.shape.dies news channel)) head_same
      (subst (λ (count : ℕ). AreOfContents (head_of now) channel of base (dies_of_channel count news channel)) dies_same given.1) in
      let loaded : AreLoadedBelow (head_of was) (channel + 1) (so_far.0 ++ of ∷ []) after news =
      subst (λ (all : List ChannelBase). AreLoadedBelow (head_of was) (channel + 1) (so_far.0 ++ of ∷ []) all news) (sym more)
      (one_more_loaded (head_of was) channel so_far.0 bases mid news of base so_far.1 changed are) in (
        so_far.0 ++ of ∷ [],
        loaded,
        λ told.
            let earlier = so_far.2 told in
            let last = given.2 earlier.0 in
            let read : read_channel (head_of was) channel (rest_at now.place b) ≡ Ok (of, rest_at next d) =
            ap (λ (head : Head). read_channel head channel (rest_at now.place b)) (sym head_same) ∙ last.1 in
            let one : was.shape.channels - channel ≡ suc (was.shape.channels - (channel + 1)) = omega (arith, within) in (
              last.0,
              channels_more (head_of was) (was.shape.channels - channel) (was.shape.channels - (channel + 1)) channel so_far.0
                  (rest_at now.place b) (rest_at next d) of one so_far.1.as_many_saved read
                  ∙ earlier.1,
            ),
      )

  -- where the next can't be read, all can't
  pub stops_whole : (channel : ℕ) (a b : Option (List ℕ)) (start : ℕ) (mid : List DieState) (bases : List ChannelBase)
      → channel < was.shape.channels → HaveRead was channel bases mid a b start now.place → IsTold a
      → IsTold b
      × ((fault : Fault) → read_channel (head_of now) channel (rest_at now.place b) ≡ Err fault
      → read_channels (head_of was) was.shape.channels [] (rest_at start a) ≡ Err fault)
  stops_whole channel a b start mid bases within so_far told =
      let earlier = so_far.2 told in
      let one : was.shape.channels - channel ≡ suc (was.shape.channels - (channel + 1)) = omega (arith, within) in (
        earlier.0,
        λ fault lacks.
            sym earlier.1
            ∙ channels_lack (head_of was) (was.shape.channels - channel) (was.shape.channels - (channel + 1)) channel so_far.0
            (rest_at now.place b) fault one so_far.1.as_many_saved
            (ap (λ (head : Head). read_channel head channel (rest_at now.place b)) (sym head_same) ∙ lacks),
      )

  -- the dies of the next channel are ready still
  pub ready_next : (channel : ℕ) (first mid : List DieState) → AreReady was first → length mid ≡ length first
      → drop (channel * was.shape.dies) mid ≡ drop (channel * was.shape.dies) first → AreReadyFrom now channel mid
  ready_next channel first mid ready long behind =
      subst (λ (head : ImageHead). AreReadyFrom head channel mid) (sym same)
      (record { before = first; ready = ready_anywhere was place first ready; same = behind; as_many = long })

-- all channels were read
pub all_are_read : (head : ImageHead) (channel : ℕ) (bases : List ChannelBase) (dies : List DieState) (a b : Option (List ℕ))
    (start place : ℕ) → channel ≡ head.shape.channels → (so_far : HaveRead head channel bases dies a b start place) → IsTold a
    → IsTold b × (read_channels (head_of head) head.shape.channels [] (rest_at start a) ≡ Ok (so_far.0, rest_at place b))
all_are_read head channel bases dies a b start place all so_far told =
    let given = so_far.2 told in
    let none : head.shape.channels - channel ≡ 0 = omega (arith, all) in
    (given.0, sym given.1 ∙ channels_end (head_of head) (head.shape.channels - channel) so_far.0 (rest_at place b) none)
