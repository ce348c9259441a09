-- A ladder's stage after one more sense, from what the sense made of the work on a place.
use Rattle.std.proofs.Common.{◌≡◌, ◌∙◌, ℕ, ◌+◌, Bool, true, false, List, refl, sym, ap, Some}
use Rattle.ssd_geo.specs.Bits.{bytes_sum}
use Rattle.ssd_geo.specs.BaseMatrix.{BaseMatrix}
use Rattle.ssd_geo.specs.Coding.{Coding, coding_in, word_bytes_in}
use Rattle.ssd_geo.specs.Ladder.{other_places}
use Rattle.ssd_geo.specs.StripeSum.{zero_word}
use Rattle.ssd_geo.specs.declared.look.Look.{Look}
use Rattle.ssd_geo.specs.declared.place.Place.{Place}
use Rattle.retry_ladder.specs.Decoder.{is_expected}
use Rattle.retry_ladder.specs.Running.{LadderRun, PlaceRun, PlaceStep, at_rest, finds, goes_on, has_none, misses, other_stepped, page_stepped, place_fed}
use Rattle.retry_ladder.specs.View.{IsOther, IsPage, LadderView, place_in, places_from, run_at, with_sense}
use Rattle.retry_ladder.specs.Work.{WorkView}
use Rattle.retry_ladder.specs.declared.ladder.Stage.{Stage}
use Rattle.retry_ladder.specs.declared.ladder.Stage.TheVariants.{Failed, Found, Other, Page}
use Rattle.retry_ladder.proofs.Places.{all_places}

-- what contracts see of a ladder at a stage
abbrev pub view_at : Stage → WorkView → Look → List ℕ → LadderView
view_at stage work look sum = record {
  shape = work.shape;
  levels = work.levels;
  step = work.step;
  look = look;
  run = run_at stage work.shape.dies (place_in work.shape look) work sum;
}

-- what contracts see of a ladder with this run
abbrev view_with : WorkView → Look → LadderRun → LadderView
view_with work look run =
    record { shape = work.shape; levels = work.levels; step = work.step; look = look; run = run }

-- the coding that a ladder goes by
abbrev coding_at : WorkView → BaseMatrix → ℕ → Coding
coding_at work matrix limit = coding_in work.shape work.levels work.step matrix limit

-- the words with the head that a look expects
abbrev accepts_at : WorkView → Look → List ℕ → Bool
accepts_at work look word = is_expected work.shape (Some (look.serial, look.row)) word

-- the places of a look's stripe from a die on
abbrev rest_at : WorkView → Look → ℕ → List Place
rest_at work look die = places_from work.shape.dies (place_in work.shape look) die

-- what goes to another place, or ends, says so of the ladder
abbrev pub IsAtRest : Stage → WorkView → WorkView → Look → List ℕ → ℕ → Type 0
IsAtRest stage work after look sum die =
    (matrix : BaseMatrix) (limit : ℕ) →
    run_at stage work.shape.dies (place_in work.shape look) after sum
    ≡ at_rest (coding_at work matrix limit) (accepts_at work look) (rest_at work look die) sum

rest_view : (stage : Stage) (work next after : WorkView) (look : Look) (sum : List ℕ) (die : ℕ)
    (matrix : BaseMatrix) (limit : ℕ)
    → next ≡ record work { run = next.run; word = next.word }
    → after ≡ record next { run = after.run; word = after.word }
    → IsAtRest stage next after look sum die
    → view_at stage after look sum ≡ view_with work look
    (at_rest (coding_at work matrix limit) (accepts_at work look) (rest_at work look die) sum)
rest_view stage work next after look sum die matrix limit e f h =
    ap (λ (w : WorkView). view_with after look
    (run_at stage w.shape.dies (place_in w.shape look) after sum)) f
    ∙ ap (view_with after look) (h matrix limit)
    ∙ ap (λ (w : WorkView). view_with w look (at_rest (coding_at next matrix limit)
    (accepts_at next look) (rest_at next look die) sum)) f
    ∙ ap (λ (w : WorkView). view_with w look (at_rest (coding_at w matrix limit) (accepts_at w look)
    (rest_at w look die) sum)) e

-- the page itself, after one more sense
abbrev page_after : WorkView → Look → BaseMatrix → ℕ → PlaceStep → LadderView
page_after work look matrix limit step =
    view_with work look (page_stepped (coding_at work matrix limit) (accepts_at work look)
    (other_places work.shape.dies (place_in work.shape look)) look.closed step)

-- what one more sense makes of the work on a place, with words that are accepted where this test
-- says so
abbrev step_of : WorkView → BaseMatrix → ℕ → (List ℕ → Bool) → List ℕ → PlaceStep
step_of work matrix limit accepts bits =
    place_fed (coding_at work matrix limit) accepts work.run.left work.run bits

pub page_goes_on : (stage : Stage) (work next : WorkView) (look : Look) (sum bits : List ℕ)
    (matrix : BaseMatrix) (limit : ℕ) (run : PlaceRun)
    → IsPage (run_at stage work.shape.dies (place_in work.shape look) work sum)
    → step_of work matrix limit (accepts_at work look) bits ≡ goes_on run
    → next ≡ record work { run = run; word = next.word }
    → view_at stage next look sum ≡ with_sense (view_at stage work look sum) matrix limit bits
page_goes_on Page work next look sum bits matrix limit run h e f =
    ap (λ (w : WorkView). view_at Page w look sum) f
    ∙ sym (ap (page_after work look matrix limit) e)
page_goes_on (Other die) work next look sum bits matrix limit run h e f = absurd h
page_goes_on (Found other) work next look sum bits matrix limit run h e f = absurd h
page_goes_on Failed work next look sum bits matrix limit run h e f = absurd h

pub page_finds : (stage : Stage) (work next : WorkView) (look : Look) (sum bits : List ℕ)
    (matrix : BaseMatrix) (limit rung : ℕ)
    → IsPage (run_at stage work.shape.dies (place_in work.shape look) work sum)
    → step_of work matrix limit (accepts_at work look) bits ≡ finds rung next.word
    → next ≡ record work { run = next.run; word = next.word }
    → view_at (Found rung) next look sum ≡ with_sense (view_at stage work look sum) matrix limit
    bits
page_finds Page work next look sum bits matrix limit rung h e f =
    ap (λ (w : WorkView). view_at (Found rung) w look sum) f
    ∙ sym (ap (page_after work look matrix limit) e)
page_finds (Other die) work next look sum bits matrix limit rung h e f = absurd h
page_finds (Found other) work next look sum bits matrix limit rung h e f = absurd h
page_finds Failed work next look sum bits matrix limit rung h e f = absurd h

-- an open stripe ends the ladder
page_closed : (work : WorkView) (look : Look) (matrix : BaseMatrix) (limit : ℕ) (closed b : Bool)
    (rest : LadderRun) → closed ≡ b
    → at_rest (coding_at work matrix limit) (accepts_at work look)
    (other_places work.shape.dies (place_in work.shape look)) (zero_word (word_bytes_in work.shape))
    ≡ rest
    → page_stepped (coding_at work matrix limit) (accepts_at work look)
    (other_places work.shape.dies (place_in work.shape look)) closed misses
    ≡ elim b as (λ _. LadderRun) [ true ↦ rest | false ↦ has_none ]
page_closed work look matrix limit true true rest e f = f
page_closed work look matrix limit false false rest e f = refl
page_closed work look matrix limit true false rest e f = cc
page_closed work look matrix limit false true rest e f = cc

pub page_open : (stage : Stage) (work next : WorkView) (look : Look) (sum bits : List ℕ)
    (matrix : BaseMatrix) (limit : ℕ)
    → IsPage (run_at stage work.shape.dies (place_in work.shape look) work sum)
    → step_of work matrix limit (accepts_at work look) bits ≡ misses
    → next ≡ record work { run = next.run; word = next.word } → look.closed ≡ false
    → view_at Failed next look sum ≡ with_sense (view_at stage work look sum) matrix limit bits
page_open Page work next look sum bits matrix limit h e f not_closed =
    ap (λ (w : WorkView). view_at Failed w look sum) f
    ∙ sym (ap (page_after work look matrix limit) e
    ∙ ap (view_with work look) (page_closed work look matrix limit look.closed false _ not_closed
    refl))
page_open (Other die) work next look sum bits matrix limit h e f not_closed = absurd h
page_open (Found rung) work next look sum bits matrix limit h e f not_closed = absurd h
page_open Failed work next look sum bits matrix limit h e f not_closed = absurd h

-- a closed stripe goes to its other pages
pub page_rest : (stage to : Stage) (work next after : WorkView) (look : Look)
    (sum cleared bits : List ℕ) (matrix : BaseMatrix) (limit : ℕ)
    → IsPage (run_at stage work.shape.dies (place_in work.shape look) work sum)
    → step_of work matrix limit (accepts_at work look) bits ≡ misses
    → next ≡ record work { run = next.run; word = next.word } → look.closed ≡ true
    → cleared ≡ zero_word (word_bytes_in work.shape)
    → after ≡ record next { run = after.run; word = after.word }
    → IsAtRest to next after look cleared 0
    → view_at to after look cleared ≡ with_sense (view_at stage work look sum) matrix limit bits
page_rest Page to work next after look sum cleared bits matrix limit h e f closed zeros g rest =
    rest_view to work next after look cleared 0 matrix limit f g rest
    ∙ ap (λ (places : List Place). view_with work look
    (at_rest (coding_at work matrix limit) (accepts_at work look) places cleared))
    (all_places work.shape.dies (place_in work.shape look))
    ∙ ap (λ (s : List ℕ). view_with work look
    (at_rest (coding_at work matrix limit) (accepts_at work look)
    (other_places work.shape.dies (place_in work.shape look)) s)) zeros
    ∙ sym (ap (page_after work look matrix limit) e
    ∙ ap (view_with work look) (page_closed work look matrix limit look.closed true _ closed refl))
page_rest (Other die) to work next after look sum cleared bits matrix limit h e f closed zeros g
    rest = absurd h
page_rest (Found rung) to work next after look sum cleared bits matrix limit h e f closed zeros g
    rest = absurd h
page_rest Failed to work next after look sum cleared bits matrix limit h e f closed zeros g rest =
    absurd h

-- another page of the stripe, after one more sense
abbrev other_after : WorkView → Look → BaseMatrix → ℕ → ℕ → List ℕ → PlaceStep → LadderView
other_after work look matrix limit die sum step =
    view_with work look (other_stepped (coding_at work matrix limit) (accepts_at work look)
    (record {
      die = die;
      sb = (place_in work.shape look).sb;
      page =
          (place_in work.shape look).page;
    }) (rest_at work look (die + 1)) sum step)

pub other_goes_on : (stage : Stage) (work next : WorkView) (look : Look) (sum bits : List ℕ) (die : ℕ)
    (matrix : BaseMatrix) (limit : ℕ) (run : PlaceRun)
    → IsOther (run_at stage work.shape.dies (place_in work.shape look) work sum) die
    → step_of work matrix limit (λ word. true) bits ≡ goes_on run
    → next ≡ record work { run = run; word = next.word }
    → view_at stage next look sum ≡ with_sense (view_at stage work look sum) matrix limit bits
other_goes_on (Other own) work next look sum bits die matrix limit run h e f =
    ap (λ (w : WorkView). view_at (Other own) w look sum) f
    ∙ sym (ap (other_after work look matrix limit own sum) e)
other_goes_on Page work next look sum bits die matrix limit run h e f = absurd h
other_goes_on (Found other) work next look sum bits die matrix limit run h e f = absurd h
other_goes_on Failed work next look sum bits die matrix limit run h e f = absurd h

pub other_finds : (stage to : Stage) (work next after : WorkView) (look : Look)
    (sum added bits : List ℕ) (die : ℕ) (matrix : BaseMatrix) (limit rung : ℕ)
    → IsOther (run_at stage work.shape.dies (place_in work.shape look) work sum) die
    → step_of work matrix limit (λ word. true) bits ≡ finds rung next.word
    → next ≡ record work { run = next.run; word = next.word }
    → added ≡ bytes_sum sum next.word → after ≡ record next { run = after.run; word = after.word }
    → IsAtRest to next after look added (die + 1)
    → view_at to after look added ≡ with_sense (view_at stage work look sum) matrix limit bits
other_finds (Other own) to work next after look sum added bits die matrix limit rung h e f sums g
    rest =
    rest_view to work next after look added (die + 1) matrix limit f g rest
    ∙ ap (λ (d : ℕ). view_with work look (at_rest (coding_at work matrix limit)
    (accepts_at work look) (rest_at work look (d + 1)) added)) (sym h)
    ∙ ap (λ (s : List ℕ). view_with work look
    (at_rest (coding_at work matrix limit) (accepts_at work look) (rest_at work look (own + 1)) s))
    sums
    ∙ sym (ap (other_after work look matrix limit own sum) e)
other_finds Page to work next after look sum added bits die matrix limit rung h e f sums g rest =
    absurd h
other_finds (Found other) to work next after look sum added bits die matrix limit rung h e f sums g
    rest = absurd h
other_finds Failed to work next after look sum added bits die matrix limit rung h e f sums g rest =
    absurd h
