-- What lets the next call of the small drive be made, and what stays so after it.
use Rattle.std.proofs.Common.{ℕ, ◌≡◌, ◌<◌, List, Ok, Option, refl, ap, subst, sym, ◌∙◌, arith}
use Rattle.std.specs.Prelude.{IfSome}
use Rattle.chan_calls.proofs.NewLooks.{new_is_fresh}
use Rattle.chan_calls.specs.Caller.{CallerView, HasLookRoom, IsOf, SameCaller, Serves, TakesData}
use Rattle.chan_calls.specs.Calls.{GoesOnFor, WritesData}
use Rattle.chan_calls.specs.Copied.{IsFresh}
use Rattle.chan_calls.specs.Stepping.{GoesOn, IsStepped, MakesLook, Standing}
use Rattle.chan_calls.specs.Workers.{WorkerState}
use Rattle.chan_tables.specs.declared.answers.LookAnswer.TheVariants.{Found}
use Rattle.collector.proofs.FirstCallers.{works_still}
use Rattle.ssd_geo.specs.Limits.{Sizes}
use Rattle.ssd_geo.specs.Shape.{sizes_of}
use Rattle.ssd_geo.specs.declared.look.Look.{Look}
use Rattle.ssd_geo.specs.declared.shape.Shape.{Shape}
use Rattle.ssd_geo.specs.declared.tag.Tag.{Tag}
use Rattle.ssd_histories.specs.Start.{Start, data_of}
use Rattle.call_tests.specs.SmallCalls.{MayTry, first_data, first_tag}

-- the caller makes the calls of every actor, and writes any data
module _ (worker : WorkerState) (caller : CallerView) (stands : Standing) (tried : MayTry worker caller stands) where
  pub serves_each : (actor : ℕ) → Serves caller actor
  serves_each actor = subst (λ (number : Option ℕ). IfSome number (λ n. actor ≡ n)) (sym tried.alone) tt

  pub takes_any : (tag : Tag) (data_bytes : List ℕ) → TakesData caller tag data_bytes
  takes_any tag data_bytes =
      subst (λ (bound : Option (Start × List (Tag × List ℕ))). IfSome bound (λ held. data_of held.1 tag ≡ data_bytes))
      (sym tried.free) tt

  -- the channel has the shape that the worker has
  pub shape_is : caller.shape ≡ worker.shape
  shape_is = tried.may.is_of.shape_is ∙ sym tried.may.works.shape_is

  -- the page, its block and its data are in range
  pub row_is_in : 5 < worker.shape.rows
  row_is_in = let rows : worker.shape.rows ≡ 8 = ap (λ (sizes : Sizes). sizes.rows) tried.sizes_are in omega (arith, rows)

  pub data_are_whole : worker.shape.bytes ≡ 8
  data_are_whole = ap (λ (sizes : Sizes). sizes.bytes) tried.sizes_are

  pub row_is_of : 5 < caller.shape.rows
  row_is_of = subst (λ (shape : Shape). 5 < shape.rows) (sym shape_is) row_is_in

  pub die_is_of : 1 < caller.shape.dies
  die_is_of =
      let dies : worker.shape.dies ≡ 3 = ap (λ (sizes : Sizes). sizes.dies) tried.sizes_are in
      subst (λ (shape : Shape). 1 < shape.dies) (sym shape_is) (omega (arith, dies))

  pub superblock_is_of : 0 < caller.shape.superblocks
  superblock_is_of =
      let superblocks : worker.shape.superblocks ≡ 4 = ap (λ (sizes : Sizes). sizes.superblocks) tried.sizes_are in
      subst (λ (shape : Shape). 0 < shape.superblocks) (sym shape_is) (omega (arith, superblocks))

-- the worker may go on where the channel goes on standing for what it stood for
still : (worker later : WorkerState) (old new : CallerView) (stood stands : Standing) (tried : MayTry worker old stood)
    → later ≡ record worker { data_bytes = later.data_bytes } → SameCaller old new
    → IsOf new tried.may.start tried.may.contents × stands tried.may.start tried.may.contents → MayTry later new stands
still worker later old new stood stands tried is same there = record {
  may =
      record {
        start = tried.may.start;
        contents = tried.may.contents;
        works = works_still worker later tried.may.start is tried.may.works;
        is_of = there.0;
        stands_for = there.1;
        bound =
            subst
            (λ (bound : Option (Start × List (Tag × List ℕ))).
            IfSome bound (λ held. held ≡ (tried.may.start, tried.may.contents)))
            (sym (same.bound_stays ∙ tried.free)) tt;
      };
  own_data = tried.own_data;
  sizes_are = ap (λ (w : WorkerState). sizes_of w.shape) is ∙ tried.sizes_are;
  alone = same.number_stays ∙ tried.alone;
  free = same.bound_stays ∙ tried.free;
}

-- so after a read or a copy
pub tried_call : (worker later : WorkerState) (old new : CallerView) (stood stands : Standing)
    → later ≡ record worker { data_bytes = later.data_bytes } → SameCaller old new → GoesOnFor worker old new stood stands
    → MayTry worker old stood → MayTry later new stands
tried_call worker later old new stood stands is same goes tried =
    still worker later old new stood stands tried is same
    (goes tried.may.start tried.may.contents tried.may.works tried.may.is_of tried.may.stands_for)

-- after the first write
pub tried_write : (worker later : WorkerState) (old new : CallerView) (stood stands : Standing)
    → later ≡ worker → SameCaller old new → WritesData worker old new stood stands first_tag first_data
    → MayTry worker old stood → MayTry later new stands
tried_write worker later old new stood stands is same goes tried =
    subst (λ (w : WorkerState). MayTry w new stands) (sym is)
    (still worker worker old new stood stands tried refl same
    (goes tried.may.start tried.may.contents tried.may.works tried.may.is_of tried.may.stands_for tried.own_data))

-- and after a step
pub tried_step : (worker : WorkerState) (old new : CallerView) (stood stands : Standing)
    → SameCaller old new → GoesOn old new stood stands → MayTry worker old stood → MayTry worker new stands
tried_step worker old new stood stands same goes tried =
    still worker worker old new stood stands tried refl same
    (goes tried.may.start tried.may.contents tried.may.is_of tried.may.stands_for)

-- a look that was just made is fresh
pub look_is_fresh : (worker : WorkerState) (old looked : CallerView) (stood stands : Standing) (tag : Tag) (row : ℕ)
    (look : Look) → MayTry worker old stood → SameCaller old looked → GoesOn old looked stood stands
    → IsStepped HasLookRoom (MakesLook old.shape tag row) tag old looked (Ok (Found look)) → IsFresh looked tag look
look_is_fresh worker old looked stood stands tag row look tried same goes stepped =
    let there = goes tried.may.start tried.may.contents tried.may.is_of tried.may.stands_for in
    new_is_fresh tried.may.start tried.may.contents looked tag row look stepped.0 there.0
    (subst (λ (shape : Shape). MakesLook shape tag row stepped.0 (Found look) looked.seen) (sym same.shape_stays) stepped.3)
