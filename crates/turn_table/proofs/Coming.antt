-- A look at the ticket that is served keeps the rule of a lock: the seat whose ticket it is takes the slot.
use Rattle.std.proofs.Common.{◌≡◌, ◌≢◌, ℕ, zero, suc, ◌-◌, ◌%◌, ◌^◌, ◌<◌, List, [], ◌∷◌, length, get_or, set, Option, Some, refl, sym, ap, ◌∙◌, subst, arith}
use mathlib.Core.Logic.{dite}
use mathlib.Core.Option.{some, none, some-injective, some-ne-none}
use mathlib.Core.Option as slot
use native.Mathlib.Decide.{ℕ_discrete}
use lib.ListN.{get_elem?}
use lib.Seq.{set-get_or}
use Rattle.atomic_table.specs.Table.{Allows, State, keeps, step, takes}
use Rattle.atomic_table.proofs.Lists.{one_turn, set_again, set_here}
use Rattle.ssd_geo.specs.declared.entry.Entry.{Entry}
use Rattle.turn_table.specs.Kept.{EachGoesOn, Fits, FitsHome, FitsStage, IsKept, Standing}
use Rattle.turn_table.specs.Passes.{GoesOn}
use Rattle.turn_table.specs.Steps.{Comes, Knower}
use Rattle.turn_table.specs.Views.{numbers_in}
use Rattle.turn_table.specs.declared.view.Stage.{Stage}
use Rattle.turn_table.specs.declared.view.Stage.TheVariants.{Away, Waiting, InTurn}
use Rattle.turn_table.specs.declared.view.View.{View}
use Rattle.turn_table.proofs.Lists.{goes_on_self}
use Rattle.turn_table.proofs.Numbers.{few_apart, has_at}
use Rattle.turn_table.proofs.Seats.{each_set, one_seat, one_view}

-- a place in a list is below its length
at_below : (xs : List ℕ) (k x : ℕ) → get_elem? xs k ≡ some x → k < length xs
at_below [] k x e = absurd (some-ne-none x (sym e))
at_below (y ∷ ys) zero x e = omega arith
at_below (y ∷ ys) (suc k) x e = let low = at_below ys k x e in omega arith

seat_below : (views : List View) (seat : ℕ) (view : View) → get_elem? views seat ≡ some view → seat < length views
seat_below [] seat view e = absurd (some-ne-none view (sym e))
seat_below (other ∷ views) zero view e = omega arith
seat_below (other ∷ views) (suc seat) view e = let low = seat_below views seat view e in omega arith

-- the view in turn, which has seen this list
abbrev turning : List Entry → View → View
turning list view = record view { seen = list; stage = InTurn }

module _ {V : Type 0} where
  -- a value at home: no seat is in turn, and so what the others know stays so once the slot is away
  taken_stage : (now : Standing) (held : Option V) (view : View) (stage : Stage) → FitsStage {V = V} now (some held) view stage → FitsStage {V = V} now none view stage
  taken_stage now held view Away at = at
  taken_stage now held view (Waiting ticket) at = at
  taken_stage now held view InTurn at = absurd (some-ne-none held at.2)

  taken_fits : (now : Standing) (held : Option V) (seat : ℕ) (view : View) → Fits {V = V} now (some held) seat view → Fits {V = V} now none seat view
  taken_fits now held seat view fits = record {
    numbered = fits.numbered;
    own = fits.own;
    gives_apart = fits.gives_apart;
    to_give = fits.to_give;
    goes_on = fits.goes_on;
    joined = fits.joined;
    stage = taken_stage now held view view.stage fits.stage;
  }

  turning_fits : (now : Standing) (held : Option V) (id : ℕ) (view : View) (list : List Entry) → Fits {V = V} now (some held) id view → view.joined ≡ [] → get_elem? now.queue 0 ≡ some view.number → list ≡ now.history
      → Fits {V = V} now none id (turning list view)
  turning_fits now held id view list fits alone first same = record {
    numbered = fits.numbered;
    own = fits.own;
    gives_apart = fits.gives_apart;
    to_give = λ given has. let unused = fits.to_give given has in record {
      below = unused.below;
      seat_is = unused.seat_is;
      no_entry = unused.no_entry;
      not_own = unused.not_own;
      not_queued = unused.not_queued;
    };
    goes_on = subst (λ (l : List Entry). GoesOn (numbers_in view) list l) same (goes_on_self (numbers_in view) list);
    joined = subst (λ (parts : List _). EachGoesOn parts list) (sym alone) tt;
    stage = (first, sym same, refl);
  }

module _ {V S : Type 0} (entries : V → List Entry) (start : V → S) (passes : ℕ) (begun : S) where
  abbrev Rule : State (Option V) View → Type 0
  Rule = IsKept entries start passes begun

  -- the ticket that is served is the seat's own where both leave one rest
  served : (s : State (Option V) View) (k : Rule s) (ticket : ℕ) (view : View) → FitsStage k.now k.home view (Waiting ticket) → get_or s.words 1 0 ≡ ticket % 2 ^ 64 → get_elem? k.now.queue 0 ≡ some view.number
  served s k ticket view at found =
      let few = few_apart passes k.now.queue k.apart k.below in
      let low = at_below k.now.queue (ticket - k.now.serving) view.number at.1 in
      let rests : k.now.serving % 2 ^ 64 ≡ ticket % 2 ^ 64 = sym (ap (λ ws. get_or ws 1 0) k.words) ∙ found in
      let fewer = k.few in
      let same : k.now.serving ≡ ticket = one_turn k.now.serving ticket (2 ^ 64) at.0 (omega arith) rests in
      subst (λ (n : ℕ). get_elem? k.now.queue n ≡ some view.number) (omega (arith, same)) at.1

  -- then no other seat is in turn, and the value is at home
  module _ (s : State (Option V) View) (k : Rule s) (id ticket : ℕ) (view : View) (at : get_elem? s.views id ≡ some view) (waits : view.stage ≡ Waiting ticket) (first : get_elem? k.now.queue 0 ≡ some view.number) where
    at_home : (home : slot.Option (Option V)) → k.home ≡ home → FitsHome entries start begun k.now.history s.views home → (value : V) × (home ≡ some (Some value)) × (entries value ≡ k.now.history) × (start value ≡ begun)
    at_home none is turn =
        let fits = k.each_seat turn.0 turn.1 turn.2 in
        let mine = k.each_seat id view at in
        let in_turn = subst (FitsStage k.now k.home turn.1) turn.3 fits.stage in
        let same : turn.1.number ≡ view.number = some-injective turn.1.number view.number (sym in_turn.0 ∙ first) in
        let low : view.number < k.now.passes = let count = k.count in let below = k.below view.number (has_at k.now.queue 0 view.number first) in omega arith in
        let seats : turn.0 ≡ id = one_seat k.now k.home turn.0 id turn.1 view fits mine same low in
        let views : turn.1 ≡ view = one_view s.views id turn.1 view (subst (λ (n : ℕ). get_elem? s.views n ≡ some turn.1) seats turn.2) at in
        let clash : InTurn ≡ Waiting ticket = sym turn.3 ∙ (ap (λ (v : View). v.stage) views ∙ waits) in absurd cc
    at_home (some held) is fits = (fits.0, ap (λ (x : Option V). some x) fits.1, fits.2, fits.3)

  keeps_taken : (s : State (Option V) View) (k : Rule s) (id : ℕ) (view : View) (value : V) → get_elem? s.views id ≡ some view → view.joined ≡ [] → get_elem? k.now.queue 0 ≡ some view.number
      → k.home ≡ some (Some value) → entries value ≡ k.now.history
      → Rule record { words = s.words; homes = set s.homes 0 none; views = set s.views id (turning (entries value) view) }
  keeps_taken s k id view value at alone first home list = record {
    now = k.now;
    home = none;
    count = k.count;
    few = k.few;
    words = k.words;
    homes = ap (λ (hs : List (slot.Option (Option V))). set hs 0 none) k.homes;
    apart = k.apart;
    below = k.below;
    actors = k.actors;
    at_home = (id, turning (entries value) view, set_here s.views id (turning (entries value) view) (seat_below s.views id view at), refl);
    each_seat =
        let fits : (seat : ℕ) (other : View) → get_elem? s.views seat ≡ some other → Fits k.now (some (Some value)) seat other =
        λ seat other there. subst (λ (h : slot.Option (Option V)). Fits k.now h seat other) home (k.each_seat seat other there) in
        each_set (Fits {V = V} k.now none) s.views id (turning (entries value) view)
        (turning_fits k.now (Some value) id view (entries value) (fits id view at) alone first list)
        (λ seat other apart there. taken_fits k.now (Some value) seat other (fits seat other there));
  }

  pub comes : (slots id : ℕ) (me : Knower V) (ticket : ℕ) (known : Option S) → me.0.stage ≡ Waiting ticket → me.0.joined ≡ [] → known ≡ Some begun
      → Allows Rule slots id me 1 (λ n. n) (Comes entries start known (step slots 1 0 0 none) me)
  comes slots id me ticket known waits alone knows s k _ at _ =
      let fits = k.each_seat id me.0 at in
      let stage : FitsStage k.now k.home me.0 (Waiting ticket) = subst (FitsStage k.now k.home me.0) waits fits.stage in
      dite (ℕ_discrete (get_or s.words 1 0) (ticket % 2 ^ 64))
      (λ (found : get_or s.words 1 0 ≡ ticket % 2 ^ 64).
      let first = served s k ticket me.0 stage found in
      let home = at_home s k id ticket me.0 at waits first k.home refl k.at_home in
      let words : set s.words 1 (get_or s.words 1 0) ≡ s.words = set-get_or s.words 1 0 in
      let here : get_elem? s.homes 0 ≡ some (some (Some home.0)) = ap (λ (hs : List (slot.Option (Option V))). get_elem? hs 0) k.homes ∙ ap (λ (h : slot.Option (Option V)). some h) home.1 in (
        turning (entries home.0) me.0,
        takes 0 (Some home.0),
        here,
        subst (λ (ws : List ℕ). Rule record { words = ws; homes = set s.homes 0 none; views = set s.views id (turning (entries home.0) me.0) }) (sym words)
            (keeps_taken s k id me.0 home.0 at alone first home.1 home.2),
        λ (t : ℕ) (is : me.0.stage ≡ Waiting t). (
          λ (e : get_or s.words 1 0 ≡ t % 2 ^ 64). (home.0, knows ∙ ap Some (sym home.3), subst (GoesOn (numbers_in me.0) me.0.seen) (sym home.2) fits.goes_on, refl),
          λ (n : get_or s.words 1 0 ≢ t % 2 ^ 64). let same : Waiting t ≡ Waiting ticket = sym is ∙ waits in let tickets : t ≡ ticket = cc in absurd (n (found ∙ ap (λ (x : ℕ). x % 2 ^ 64) (sym tickets))),
        ),
      ))
      (λ (other : get_or s.words 1 0 ≢ ticket % 2 ^ 64).
      let words : set s.words 1 (get_or s.words 1 0) ≡ s.words = set-get_or s.words 1 0 in
      let views : set s.views id me.0 ≡ s.views = set_again s.views id me.0 at in (
        me.0,
        keeps,
        tt,
        subst (λ (x : List ℕ × List View). Rule record { words = x.0; homes = s.homes; views = x.1 }) (λ i. (sym words i, sym views i)) k,
        λ (t : ℕ) (is : me.0.stage ≡ Waiting t). (
          λ (e : get_or s.words 1 0 ≡ t % 2 ^ 64). let same : Waiting t ≡ Waiting ticket = sym is ∙ waits in let tickets : t ≡ ticket = cc in absurd (other (e ∙ ap (λ (x : ℕ). x % 2 ^ 64) tickets)),
          λ (n : get_or s.words 1 0 ≢ t % 2 ^ 64). refl,
        ),
      ))
