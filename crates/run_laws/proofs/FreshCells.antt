-- A page whose word is told has the fresh cells of this word, where no block was aged: whatever programmed it left them so.
use Rattle.std.proofs.Common.{◌≡◌, ℕ, ◌==◌, ◌&&◌, nat_lt, Bool, true, false, List, [], ◌∷◌, refl, ap, subst, Option, Some, None, ℤ}
use Rattle.std.specs.Prelude.{All, option_map, unwrap_or, ⊤}
use Rattle.std.proofs.lemmas.List.Elements.{All-head, All-tail}
use Rattle.ssd_geo.specs.Cells.{fresh_levels}
use Rattle.ssd_geo.specs.Coding.{Coding}
use Rattle.ssd_geo.specs.Noise.{number_of_page}
use Rattle.ssd_geo.specs.Stripe.{is_last_of_stripe, parity_die, place_of_parity, place_of_slot, stripe_of_index}
use Rattle.ssd_geo.specs.declared.base.ChannelBase.{ChannelBase}
use Rattle.ssd_geo.specs.declared.entry.Entry.{Entry}
use Rattle.ssd_geo.specs.declared.kind.Kind.{Kind}
use Rattle.ssd_geo.specs.declared.place.Place.{Place}
use Rattle.ssd_geo.specs.declared.slot.Slot.{Slot}
use Rattle.ssd_geo.specs.declared.tag.Tag.{Tag}
use Rattle.ssd_histories.specs.PastBlocks.{erases_of}
use Rattle.ssd_histories.specs.PastPages.{PageChange, StoredPage, programs, programs_parity, empties, ages, leaves, aged_page, change_by_failed, change_by_program, change_when, fresh_page, is_place, levels_in, page_change, page_of, stored_in_image, word_of_page}
use Rattle.ssd_histories.specs.Start.{Start, image_page}
use Rattle.run_laws.specs.FirstSenses.{IsNoAgeing}

-- the fresh cells of a word stand in a page
pub record HasFreshCells (base : ChannelBase) (word : List ℕ) (page : Option StoredPage) : Type 0 where
  pub number : ℕ
  pub erases : ℕ
  pub levels_are : levels_in base page ≡ fresh_levels base.law number erases word

-- a change ages no page
abbrev IsNoAge : PageChange → Type 0
IsNoAge (ages amount) = ⊥
IsNoAge _ = ⊤

program_ages_none : (dies : ℕ) (slot : Slot) (place : Place) → IsNoAge (change_by_program dies slot place)
program_ages_none dies slot place =
    by_tests (is_place place (place_of_slot dies slot))
    (is_last_of_stripe dies slot.index && is_place place (place_of_parity dies slot.sb (stripe_of_index dies slot.index)))
  where
    by_tests : (a b : Bool) → IsNoAge (elim a [ true ↦ programs | false ↦ elim b [ true ↦ programs_parity slot | false ↦ leaves ] ])
    by_tests true b = tt
    by_tests false true = tt
    by_tests false false = tt

failed_ages_none : (dies : ℕ) (slot : Slot) (die : ℕ) (place : Place) → IsNoAge (change_by_failed dies slot die place)
failed_ages_none dies slot die place =
    by_test (die == parity_die dies slot.sb (stripe_of_index dies slot.index) && is_place place (place_of_slot dies slot))
  where
    by_test : (b : Bool) → IsNoAge (elim b [ true ↦ programs | false ↦ leaves ])
    by_test true = tt
    by_test false = tt

erase_ages_none : (b : Bool) → IsNoAge (change_when b empties)
erase_ages_none true = tt
erase_ages_none false = tt

ages_none : (dies : ℕ) (kind : Kind) (place : Place) → IsNoAgeing kind → IsNoAge (page_change dies kind place)
ages_none dies (Kind.Write row slot) place none = program_ages_none dies slot place
ages_none dies (Kind.Move at slot) place none = program_ages_none dies slot place
ages_none dies (Kind.BadWrite row slot die fault) place none = failed_ages_none dies slot die place
ages_none dies (Kind.BadCopy at slot die fault) place none = failed_ages_none dies slot die place
ages_none dies (Kind.Erase sb) place none = erase_ages_none (place.sb == sb)
ages_none dies (Kind.BadErase sb die fault) place none = erase_ages_none (place.sb == sb && nat_lt place.die die)
ages_none dies (Kind.Age die sb amount) place none = absurd none
ages_none dies kind place none = tt

-- what a program leaves
fresh_has : (base : ChannelBase) (past : List Entry) (place : Place) (programmed word : List ℕ) → Some programmed ≡ Some word →
    HasFreshCells base word (Some (fresh_page base past place programmed))
fresh_has base past place programmed word same =
    subst (λ (told : List ℕ). HasFreshCells base told (Some (fresh_page base past place programmed)))
    (ap {B = List ℕ} (λ (option : Option (List ℕ)). unwrap_or option programmed) same)
    (record {
      number = number_of_page base.shape.dies base.shape.superblocks base.shape.pages base.channel place.die place.sb place.page;
      erases = erases_of base past place.sb;
      levels_are = refl;
    })

-- a page after a change that ages none
changed_has : (base : ChannelBase) (past : List Entry) (place : Place) (change : PageChange) (programmed : List ℕ)
    (parity : Slot → List ℕ) (before : Option StoredPage) (word : List ℕ) → IsNoAge change →
    (word_of_page before ≡ Some word → HasFreshCells base word before) →
    word_of_page (elim change as (λ (c : PageChange). Option StoredPage) [
      | programs ↦ Some (fresh_page base past place programmed)
      | programs_parity slot ↦ Some (fresh_page base past place (parity slot))
      | empties ↦ None
      | ages amount ↦ option_map (aged_page base amount) before
      | leaves ↦ before
    ]) ≡ Some word →
    HasFreshCells base word (elim change as (λ (c : PageChange). Option StoredPage) [
      | programs ↦ Some (fresh_page base past place programmed)
      | programs_parity slot ↦ Some (fresh_page base past place (parity slot))
      | empties ↦ None
      | ages amount ↦ option_map (aged_page base amount) before
      | leaves ↦ before
    ])
changed_has base past place programs programmed parity before word none older is = fresh_has base past place programmed word is
changed_has base past place (programs_parity slot) programmed parity before word none older is =
    fresh_has base past place (parity slot) word is
changed_has base past place empties programmed parity before word none older is = absurd (cc)
changed_has base past place (ages amount) programmed parity before word none older is = absurd none
changed_has base past place leaves programmed parity before word none older is = older is

-- no word of the image is told
image_has_none : (base : ChannelBase) (page : Option (List ℤ)) (word : List ℕ) →
    word_of_page (option_map stored_in_image page) ≡ Some word → HasFreshCells base word (option_map stored_in_image page)
image_has_none base None word is = absurd (cc)
image_has_none base (Some levels) word is = absurd (cc)

pub told_words_are_fresh : (coding : Coding) (start : Start) (contents : List (Tag × List ℕ)) (past : List Entry) (place : Place)
    (word : List ℕ) → All (λ entry. IsNoAgeing entry.kind) past →
    word_of_page (page_of coding start contents past place) ≡ Some word →
    HasFreshCells start.base word (page_of coding start contents past place)
told_words_are_fresh coding start contents [] place word none is = image_has_none start.base (image_page start place) word is
told_words_are_fresh coding start contents (entry ∷ past) place word none is =
    changed_has start.base past place (page_change start.base.shape.dies entry.kind place) _ _
    (page_of coding start contents past place) word
    (ages_none start.base.shape.dies entry.kind place (All-head (λ (other : Entry). IsNoAgeing other.kind) entry past none))
    (told_words_are_fresh coding start contents past place word
    (All-tail (λ (other : Entry). IsNoAgeing other.kind) entry past none)) is
