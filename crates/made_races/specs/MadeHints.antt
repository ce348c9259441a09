-- What became of the hints of an actor that made its calls? What its answered calls did at the queue, one after the other, and what
-- the next one did, is what is asked of the actor. The law is the contract of a function without a body.
use Rattle.std.specs.Prelude.{ℕ, slice_get}
use Rattle.hint_queue.specs.Orders.{HintPassState, QueueState, new_pass}
use Rattle.race_laws.specs.Races.{AreCallsOf}
use Rattle.race_runs.specs.RaceHints.{HintsOfActor, HintsOfCalls, HintsOfNext}
use Rattle.run_laws.specs.Runs.{Run}

abbrev pub MadeCallsTellHints : Type 0
MadeCallsTellHints =
    (run : Run) (queue : QueueState) (actor dropped : ℕ) (between pass : HintPassState)
    (calls : AreCallsOf run.calls.calls run.replies actor) →
    HintsOfCalls calls.answered (new_pass queue actor) between dropped → HintsOfNext (slice_get calls.rest 0) between pass →
    HintsOfActor run queue actor dropped pass
