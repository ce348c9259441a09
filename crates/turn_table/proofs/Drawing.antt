-- A ticket that is drawn keeps the rule of a lock.
use Rattle.std.proofs.Common.{◌≡◌, ◌≢◌, ℕ, ◌+◌, ◌-◌, ◌%◌, ◌^◌, ◌<◌, List, [], ◌∷◌, ◌++◌, length, get_or, set, Option, refl, sym, ap, ◌∙◌, subst, inl, ⊎_elim, arith, length-append}
use mathlib.Core.Option.{some, none, some-injective, some-ne-none}
use mathlib.Core.Option as slot
use lib.ListN.{get_elem?}
use Rattle.atomic_table.specs.Table.{Allows, State, keeps, step}
use Rattle.atomic_table.proofs.Lists.{at_last, at_longer}
use Rattle.ssd_geo.specs.declared.entry.Entry.{Entry}
use Rattle.turn_table.specs.Kept.{Fits, FitsStage, IsKept, Standing}
use Rattle.turn_table.specs.Passes.{Has}
use Rattle.turn_table.specs.Steps.{Draws, Knower}
use Rattle.turn_table.specs.declared.view.Stage.{Stage}
use Rattle.turn_table.specs.declared.view.Stage.TheVariants.{Away, Waiting, InTurn}
use Rattle.turn_table.specs.declared.view.View.{View}
use Rattle.turn_table.proofs.Numbers.{apart_snoc, has_append, has_one}
use Rattle.turn_table.proofs.Seats.{each_set, next_ticket, still_home}

-- a number stands behind the queue
abbrev drawn : Standing → ℕ → Standing
drawn now number = record now { queue = now.queue ++ number ∷ [] }

module _ {V : Type 0} (now : Standing) (home : slot.Option (Option V)) (id number : ℕ) (mine : now.seat_of number ≡ id) (low : number < now.passes) where
  other_stage : (seat : ℕ) (view : View) → seat ≢ id → Fits now home seat view → (stage : Stage) → FitsStage now home view stage → FitsStage (drawn now number) home view stage
  other_stage seat view other fits Away away = λ (h : Has (now.queue ++ number ∷ []) view.number).
      ⊎_elim (λ (t : Has now.queue view.number). away t)
      (λ (t : Has (number ∷ []) view.number). let same = has_one view.number number t in other (sym (fits.own number (inl (sym same)) low) ∙ mine))
      (has_append now.queue (number ∷ []) view.number h)
  other_stage seat view other fits (Waiting ticket) at = (at.0, at_longer now.queue (number ∷ []) (ticket - now.serving) view.number at.1)
  other_stage seat view other fits InTurn at = (at_longer now.queue (number ∷ []) 0 view.number at.0, at.1, at.2)

  other_fits : (seat : ℕ) (view : View) → seat ≢ id → Fits now home seat view → Fits (drawn now number) home seat view
  other_fits seat view other fits = record {
    numbered = fits.numbered;
    own = fits.own;
    gives_apart = fits.gives_apart;
    to_give = λ given has. let unused = fits.to_give given has in record {
      below = unused.below;
      seat_is = unused.seat_is;
      no_entry = unused.no_entry;
      not_own = unused.not_own;
      not_queued = λ h. ⊎_elim (λ (t : Has now.queue given). unused.not_queued t)
          (λ (t : Has (number ∷ []) given). other (sym unused.seat_is ∙ (ap now.seat_of (has_one given number t) ∙ mine)))
          (has_append now.queue (number ∷ []) given h);
    };
    goes_on = fits.goes_on;
    joined = fits.joined;
    stage = other_stage seat view other fits view.stage fits.stage;
  }

-- the view with its ticket
abbrev waiting : ℕ → View → View
waiting ticket view = record view { stage = Waiting ticket }

own_fits : {V : Type 0} (now : Standing) (home : slot.Option (Option V)) (id : ℕ) (view : View) → Fits now home id view → Fits (drawn now view.number) home id (waiting (now.serving + length now.queue) view)
own_fits now home id view fits = record {
  numbered = fits.numbered;
  own = fits.own;
  gives_apart = fits.gives_apart;
  to_give = λ given has. let unused = fits.to_give given has in record {
    below = unused.below;
    seat_is = unused.seat_is;
    no_entry = unused.no_entry;
    not_own = unused.not_own;
    not_queued = λ h. ⊎_elim (λ (t : Has now.queue given). unused.not_queued t)
        (λ (t : Has (view.number ∷ []) given). unused.not_own (inl (has_one given view.number t)))
        (has_append now.queue (view.number ∷ []) given h);
  };
  goes_on = fits.goes_on;
  joined = fits.joined;
  stage = (omega arith, at_last now.queue view.number ((now.serving + length now.queue) - now.serving) (omega arith));
}

module _ {V S : Type 0} (entries : V → List Entry) (start : V → S) (passes : ℕ) (begun : S) where
  abbrev Rule : State (Option V) View → Type 0
  Rule = IsKept entries start passes begun

  drawn_words : (now : Standing) (number : ℕ) (words : List ℕ) → words ≡ ((now.serving + length now.queue) % 2 ^ 64) ∷ (now.serving % 2 ^ 64) ∷ []
      → set words 0 ((get_or words 0 0 + 1) % 2 ^ 64) ≡ ((now.serving + length (now.queue ++ number ∷ [])) % 2 ^ 64) ∷ (now.serving % 2 ^ 64) ∷ []
  drawn_words now number words is =
      let more : (now.serving + length now.queue) + 1 ≡ now.serving + length (now.queue ++ number ∷ []) = omega (arith, length-append now.queue (number ∷ [])) in
      ap (λ ws. set ws 0 ((get_or ws 0 0 + 1) % 2 ^ 64)) is
      ∙ ap (λ n. n ∷ (now.serving % 2 ^ 64) ∷ []) (next_ticket (now.serving + length now.queue) ∙ ap (λ n. n % 2 ^ 64) more)

  keeps_drawn : (s : State (Option V) View) (k : Rule s) (id : ℕ) (view : View) → get_elem? s.views id ≡ some view → view.stage ≡ Away → view.number ≢ 255
      → Rule record { words = set s.words 0 ((get_or s.words 0 0 + 1) % 2 ^ 64); homes = s.homes; views = set s.views id (waiting (k.now.serving + length k.now.queue) view) }
  keeps_drawn s k id view at away numbered =
      let fits = k.each_seat id view at in
      let low : view.number < k.now.passes = ⊎_elim (λ (t : view.number < k.now.passes). t) (λ (t : view.number ≡ 255). absurd (numbered t)) fits.numbered in
      let mine : k.now.seat_of view.number ≡ id = fits.own view.number (inl refl) low in
      let idle : Has k.now.queue view.number → ⊥ = subst (FitsStage k.now k.home view) away fits.stage in record {
        now = drawn k.now view.number;
        home = k.home;
        count = k.count;
        few = k.few;
        words = drawn_words k.now view.number s.words k.words;
        homes = k.homes;
        apart = apart_snoc k.now.queue view.number k.apart idle;
        below = λ n h. ⊎_elim (λ (t : Has k.now.queue n). k.below n t)
            (λ (t : Has (view.number ∷ []) n). let same = has_one n view.number t in let few = k.count in omega arith)
            (has_append k.now.queue (view.number ∷ []) n h);
        actors = k.actors;
        at_home = still_home entries start begun k.now.history s.views id view (waiting (k.now.serving + length k.now.queue) view) at away k.home k.at_home;
        each_seat = each_set (Fits (drawn k.now view.number) k.home) s.views id (waiting (k.now.serving + length k.now.queue) view)
            (own_fits k.now k.home id view fits)
            (λ seat other apart there. other_fits k.now k.home id view.number mine low seat other apart (k.each_seat seat other there));
      }

  pub draws : (slots id : ℕ) (me : Knower V) → me.0.stage ≡ Away → me.0.number ≢ 255 → Allows Rule slots id me 0 (λ n. (n + 1) % 2 ^ 64) (Draws (step slots 0 1 0 none) me)
  draws slots id me away numbered s k _ at _ =
      let ticket : ℕ = k.now.serving + length k.now.queue in (
        waiting ticket me.0,
        keeps,
        tt,
        keeps_drawn s k id me.0 at away numbered,
        (ticket, sym (ap (λ ws. get_or ws 0 0) k.words), refl),
      )
