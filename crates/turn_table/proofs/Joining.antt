-- A pass that takes in another keeps the rule of a lock, and so does the look by which it is compared with both.
use Rattle.std.proofs.Common.{◌≡◌, ◌≢◌, eqb, eq-eqb, ne_eqb, nat_le, cond, Bool, true, false, ℕ, ◌<◌, ◌≤◌, List, [], ◌++◌, length, set, All, Option, refl, sym, ap, ◌∙◌, subst, inr, ⊎_elim, arith}
use Rattle.std.proofs.lemmas.Bool.Decides.{nat_tests}
use mathlib.Core.Option.{some, none, some-injective, some-ne-none}
use mathlib.Core.Option as slot
use lib.ListN.{get_elem?}
use lib.Seq.{set-get_or}
use Rattle.atomic_table.specs.Table.{Allows, Joins, State, keeps, step}
use Rattle.atomic_table.proofs.Lists.{set_else}
use Rattle.ssd_geo.specs.declared.entry.Entry.{Entry}
use Rattle.turn_table.specs.Kept.{Fits, FitsStage, IsKept, Standing}
use Rattle.turn_table.specs.Passes.{GoesOn, Has, entries_by, longer}
use Rattle.turn_table.specs.Steps.{Compares, Knower, joined_view, spent_view}
use Rattle.turn_table.specs.Views.{numbers_in}
use Rattle.turn_table.specs.declared.view.Stage.{Stage}
use Rattle.turn_table.specs.declared.view.Stage.TheVariants.{Away, Waiting, InTurn}
use Rattle.turn_table.specs.declared.view.View.{View}
use Rattle.turn_table.proofs.Lists.{goes_on_between, none_above}
use Rattle.turn_table.proofs.Numbers.{has_append, has_one}
use Rattle.turn_table.proofs.Seats.{each_set, reseated, still_home}

-- the longer of two lists is one of them, and no shorter than either
by_test : (P : List Entry → Type 0) (one other : List Entry) → (length other ≤ length one → P one) → (length one ≤ length other → P other)
    → (test : Bool) → nat_le (length other) (length one) ≡ test → P (cond test one other)
by_test P one other first second true is = let le : length other ≤ length one = grind (arith, nat_tests) in first le
by_test P one other first second false is = let le : length one ≤ length other = grind (arith, nat_tests) in second le

longer_is : (P : List Entry → Type 0) (one other : List Entry) → (length other ≤ length one → P one) → (length one ≤ length other → P other) → P (longer one other)
longer_is P one other first second = by_test P one other first second (nat_le (length other) (length one)) refl

module _ (one two : List ℕ) (seen other history : List Entry) (first : GoesOn one seen history) (second : GoesOn two other history) where
  longer_begins : (rest : List Entry) × (history ≡ longer seen other ++ rest)
  longer_begins = longer_is (λ list. (rest : List Entry) × (history ≡ list ++ rest)) seen other (λ le. (first.rest, first.begins)) (λ le. (second.rest, second.begins))

  first_longer : GoesOn one seen (longer seen other)
  first_longer = goes_on_between one seen (longer seen other) longer_begins.0 history first longer_begins.1
      (longer_is (λ list. length seen ≤ length list) seen other (λ le. omega arith) (λ le. le))

  second_longer : GoesOn two other (longer seen other)
  second_longer = goes_on_between two other (longer seen other) longer_begins.0 history second longer_begins.1
      (longer_is (λ list. length other ≤ length list) seen other (λ le. le) (λ le. omega arith))

  both_longer : GoesOn (one ++ two) (longer seen other) history
  both_longer = record {
    rest = longer_begins.0;
    begins = longer_begins.1;
    own = λ number has. ⊎_elim (λ (t : Has one number). first.own number t ∙ sym (first_longer.own number t))
        (λ (t : Has two number). second.own number t ∙ sym (second_longer.own number t))
        (has_append one two number has);
  }

-- the seats after those of one went to another
abbrev moved : Standing → ℕ → ℕ → Standing
moved now from to = record now { seat_of = λ number. cond (eqb (now.seat_of number) from) to (now.seat_of number) }

module _ {V : Type 0} (now : Standing) (home : slot.Option (Option V)) (id other : ℕ) (apart : other ≢ id) (few : now.passes ≤ 32) (actors : All (λ entry. entry.tag.actor < now.passes) now.history) (below : (number : ℕ) → Has now.queue number → number < now.passes) where
  stays : (number seat : ℕ) → now.seat_of number ≡ seat → seat ≢ other → (moved now other id).seat_of number ≡ seat
  stays number seat is not_other = ap (λ b. cond b id (now.seat_of number)) (ne_eqb (now.seat_of number) other (λ e. not_other (sym is ∙ e))) ∙ is

  moves : (number : ℕ) → now.seat_of number ≡ other → (moved now other id).seat_of number ≡ id
  moves number is = ap (λ b. cond b id (now.seat_of number)) (eq-eqb (now.seat_of number) other is)

  other_fits : (seat : ℕ) (view : View) → seat ≢ other → Fits now home seat view → Fits (moved now other id) home seat view
  other_fits seat view not_other fits = record {
    numbered = fits.numbered;
    own = λ number has low. stays number seat (fits.own number has low) not_other;
    gives_apart = fits.gives_apart;
    to_give = λ number has. let unused = fits.to_give number has in record {
      below = unused.below;
      seat_is = stays number seat unused.seat_is not_other;
      no_entry = unused.no_entry;
      not_own = unused.not_own;
      not_queued = unused.not_queued;
    };
    goes_on = fits.goes_on;
    joined = fits.joined;
    stage = reseated now (moved now other id).seat_of home view view.stage fits.stage;
  }

  joined_fits : (one two : View) → one.stage ≡ Away → Fits now home id one → Fits now home other two → Fits (moved now other id) home id (joined_view one two)
  joined_fits one two away fits fits' = record {
    numbered = fits.numbered;
    own = λ number has low. ⊎_elim (λ (t : Has (numbers_in one) number). stays number id (fits.own number t low) (λ e. apart (sym e)))
        (λ (t : Has (numbers_in two) number). moves number (fits'.own number t low))
        (has_append (numbers_in one) (numbers_in two) number has);
    gives_apart = fits.gives_apart;
    to_give = λ number has. let unused = fits.to_give number has in record {
      below = unused.below;
      seat_is = stays number id unused.seat_is (λ e. apart (sym e));
      no_entry = unused.no_entry;
      not_own = λ has. ⊎_elim (λ (t : Has (numbers_in one) number). unused.not_own t)
          (λ (t : Has (numbers_in two) number). apart (sym (fits'.own number t unused.below) ∙ unused.seat_is))
          (has_append (numbers_in one) (numbers_in two) number has);
      not_queued = unused.not_queued;
    };
    goes_on = both_longer (numbers_in one) (numbers_in two) one.seen two.seen now.history fits.goes_on fits'.goes_on;
    joined = (
      first_longer (numbers_in one) (numbers_in two) one.seen two.seen now.history fits.goes_on fits'.goes_on,
      (second_longer (numbers_in one) (numbers_in two) one.seen two.seen now.history fits.goes_on fits'.goes_on, tt),
    );
    stage = subst (FitsStage (moved now other id) home (joined_view one two)) (sym away) (subst (FitsStage now home one) away fits.stage);
  }

  spent_fits : Fits (moved now other id) home other spent_view
  spent_fits = record {
    numbered = inr refl;
    own = λ number has low. let e : number ≡ 255 = has_one number 255 has in absurd (omega arith);
    gives_apart = tt;
    to_give = λ number has. absurd has;
    goes_on = record {
      rest = now.history;
      begins = refl;
      own = λ number has. ap (λ n. entries_by n now.history) (has_one number 255 has) ∙ none_above now.passes 255 now.history actors (omega arith);
    };
    joined = tt;
    stage = λ h. let low = below 255 h in omega arith;
  }

module _ {V S : Type 0} (entries : V → List Entry) (start : V → S) (passes : ℕ) (begun : S) where
  abbrev Rule : State (Option V) View → Type 0
  Rule = IsKept entries start passes begun

  pub joins : (id : ℕ) (one : View) (other : ℕ) (two : View) → one.stage ≡ Away → two.stage ≡ Away → Joins Rule id one other two (joined_view one two) spent_view
  joins id one other two away away' s k at apart there =
      let there' : get_elem? s.views other ≡ some two = sym (set_else s.views id other (joined_view one two) apart) ∙ there in
      let fits = k.each_seat id one at in
      let fits' = k.each_seat other two there' in
      let few : k.now.passes ≤ 32 = let count = k.count in let few = k.few in omega arith in
      let actors : All (λ (entry : Entry). entry.tag.actor < k.now.passes) k.now.history = subst (λ (n : ℕ). All (λ (entry : Entry). entry.tag.actor < n) k.now.history) (sym k.count) k.actors in
      let below : (number : ℕ) → Has k.now.queue number → number < k.now.passes = λ number has. subst (λ (n : ℕ). number < n) (sym k.count) (k.below number has) in
      let mine = joined_fits k.now k.home id other apart few actors below one two away fits fits' in
      let home = still_home entries start begun k.now.history s.views id one (joined_view one two) at away k.home k.at_home in record {
        now = moved k.now other id;
        home = k.home;
        count = k.count;
        few = k.few;
        words = k.words;
        homes = k.homes;
        apart = k.apart;
        below = k.below;
        actors = k.actors;
        at_home = still_home entries start begun k.now.history (set s.views id (joined_view one two)) other two spent_view there away' k.home home;
        each_seat = each_set (Fits (moved k.now other id) k.home) (set s.views id (joined_view one two)) other spent_view
            (spent_fits k.now k.home id other apart few actors below)
            (λ seat view not_other it. each_set (λ n v. n ≢ other → Fits (moved k.now other id) k.home n v) s.views id (joined_view one two) (λ _. mine)
            (λ n v not_id is not. other_fits k.now k.home id other apart few actors below n v not (k.each_seat n v is)) seat view it not_other);
      }

  compared_stage : (now : Standing) (home : slot.Option (Option V)) (view : View) (stage : Stage) → FitsStage now home view stage → FitsStage now home (record view { joined = [] }) stage
  compared_stage now home view Away at = at
  compared_stage now home view (Waiting ticket) at = at
  compared_stage now home view InTurn at = at

  pub compares : (slots id : ℕ) (me : Knower V) → me.0.stage ≡ Away → Allows Rule slots id me 0 (λ n. n) (Compares (step slots 0 0 0 none) me)
  compares slots id me away s k _ at _ =
      let fits = k.each_seat id me.0 at in
      let changed : View = record me.0 { joined = [] } in (
        changed,
        keeps,
        tt,
        subst (λ (ws : List ℕ). Rule record { words = ws; homes = s.homes; views = set s.views id changed }) (sym (set-get_or s.words 0 0)) record {
          now = k.now;
          home = k.home;
          count = k.count;
          few = k.few;
          words = k.words;
          homes = k.homes;
          apart = k.apart;
          below = k.below;
          actors = k.actors;
          at_home = still_home entries start begun k.now.history s.views id me.0 changed at away k.home k.at_home;
          each_seat = each_set (Fits k.now k.home) s.views id changed
              (record {
                numbered = fits.numbered;
                own = fits.own;
                gives_apart = fits.gives_apart;
                to_give = λ number has. let unused = fits.to_give number has in record {
                  below = unused.below;
                  seat_is = unused.seat_is;
                  no_entry = unused.no_entry;
                  not_own = unused.not_own;
                  not_queued = unused.not_queued;
                };
                goes_on = fits.goes_on;
                joined = tt;
                stage = compared_stage k.now k.home me.0 me.0.stage fits.stage;
              })
              (λ seat view apart there. k.each_seat seat view there);
        },
        (fits.joined, refl),
      )
