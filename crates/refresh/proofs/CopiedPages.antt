-- A look that found a page: its page may be copied, and what its copy comes to is what the refresh comes to.
use Rattle.std.proofs.Common.{◌≡◌, ℕ, false, List, sym, subst}
use Rattle.std.specs.Prelude.{Ok}
use Rattle.chan_calls.specs.Caller.{CallerView, SameCaller}
use Rattle.chan_calls.specs.Copied.{CopiesPage, IsFresh, refresh_of_copy}
use Rattle.chan_calls.specs.Stepping.{GoesOn, MakesLook, Standing}
use Rattle.chan_calls.specs.Workers.{MayCall, WorkerState}
use Rattle.chan_calls.specs.declared.copy_reply.CopyReply.{CopyReply}
use Rattle.chan_calls.proofs.NewLooks.{new_is_fresh}
use Rattle.chan_tables.specs.declared.answers.LookAnswer.TheVariants.{Found}
use Rattle.ssd_geo.specs.declared.entry.Entry.{Entry}
use Rattle.ssd_geo.specs.declared.look.Look.{Look}
use Rattle.ssd_geo.specs.declared.reply.RefreshReply.{RefreshReply}
use Rattle.ssd_geo.specs.declared.shape.Shape.{Shape}
use Rattle.ssd_geo.specs.declared.tag.Tag.{Tag}
use Rattle.refresh.specs.Refreshes.{LooksAt, MakesRefresh}

module _ (worker : WorkerState) (old looked : CallerView) (stood stands : Standing) (tag : Tag) (row : ℕ) (look : Look)
    (same : SameCaller old looked) (goes : GoesOn old looked stood stands)
    (looks : LooksAt tag row old looked (Ok (Found look))) where
  -- nothing was done for the look yet
  pub found_is_fresh : MayCall worker old stood → IsFresh looked tag look
  found_is_fresh may =
      new_is_fresh may.start may.contents looked tag row look looks.0
      (goes may.start may.contents may.is_of may.stands_for).0
      (subst (λ (shape : Shape). MakesLook shape tag row looks.0 (Found look) looked.seen) (sym same.shape_stays) looks.3)

  -- its page was copied
  pub found_is_refreshed : (new : List Entry) (copied : CopyReply) (reply : RefreshReply) → reply ≡ refresh_of_copy copied →
      CopiesPage worker looked stands tag look.at false new copied → MakesRefresh worker old stood tag row new (Ok reply)
  found_is_refreshed new copied reply is copies = λ start contents works is_of stood_for.
      let there = goes start contents is_of stood_for in
      record {
        answer = Found look;
        looked = looked;
        same = same;
        looks = looks;
        follows = record {
          copied = copied;
          copies = copies start contents works there.0 there.1;
          reply_is = is;
        };
      }
