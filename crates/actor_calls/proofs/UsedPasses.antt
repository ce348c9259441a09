-- A call leaves its actor's pass one of the same queue.
use Rattle.std.proofs.Common.{ℕ, ◌≡◌, Bool, true, false, ap, inl, inr}
use Rattle.std.specs.Prelude.{Err, Ok, Result}
use Rattle.hint_queue.specs.Orders.{HintPassState}
use Rattle.ssd_formats.specs.RunText.{is_hinted}
use Rattle.ssd_geo.specs.declared.reply.Reply.{Reply}
use Rattle.ssd_geo.specs.declared.stop.ServeStop.{ServeStop}
use Rattle.ssd_geo.specs.declared.trace.Verb.{Verb}
use Rattle.actor_calls.specs.Hinted.{DrainsPass, PushesIf, UsesPass, by_itself, none_waits}

queue_pushed : (hinted : Bool) (page : ℕ) (old new : HintPassState) → PushesIf hinted page old new → new.queue ≡ old.queue
queue_pushed true page old new (inl is) = ap (λ (pass : HintPassState). pass.queue) is
queue_pushed true page old new (inr is) = ap (λ (pass : HintPassState). pass.queue) is
queue_pushed false page old new is = ap (λ (pass : HintPassState). pass.queue) is

queue_drained : (count : ℕ) (result : Result Reply ServeStop) (old new : HintPassState) → DrainsPass count result old new →
    new.queue ≡ old.queue
queue_drained count (Ok (Reply.Drained pages)) old new (by_itself has is) = ap (λ (pass : HintPassState). pass.queue) is
queue_drained count (Ok (Reply.Drained pages)) old new (none_waits is) = ap (λ (pass : HintPassState). pass.queue) is
queue_drained count (Ok Reply.Ok) old new none = absurd none
queue_drained count (Ok Reply.Full) old new none = absurd none
queue_drained count (Ok Reply.ReadOnly) old new none = absurd none
queue_drained count (Ok (Reply.DieFault die)) old new none = absurd none
queue_drained count (Ok (Reply.Data rung data_bytes)) old new none = absurd none
queue_drained count (Ok Reply.Empty) old new none = absurd none
queue_drained count (Ok Reply.Uncorrectable) old new none = absurd none
queue_drained count (Ok Reply.Moved) old new none = absurd none
queue_drained count (Ok Reply.Changed) old new none = absurd none
queue_drained count (Ok Reply.NoRoom) old new none = absurd none
queue_drained count (Ok Reply.Failed) old new none = absurd none
queue_drained count (Ok (Reply.Collected sb)) old new none = absurd none
queue_drained count (Ok (Reply.Retired sb)) old new none = absurd none
queue_drained count (Ok Reply.Idle) old new none = absurd none
queue_drained count (Err stop) old new taken = ap (λ (pass : HintPassState). pass.queue) taken.new_is

queue_read : (page : ℕ) (result : Result Reply ServeStop) (old new : HintPassState) →
    UsesPass (Verb.Read page) result old new → new.queue ≡ old.queue
queue_read page (Ok reply) old new uses = queue_pushed (is_hinted reply) page old new uses
queue_read page (Err stop) old new is = ap (λ (pass : HintPassState). pass.queue) is

pub uses_queue : (verb : Verb) (result : Result Reply ServeStop) (old new : HintPassState) → UsesPass verb result old new →
    new.queue ≡ old.queue
uses_queue (Verb.Write page content) result old new is = ap (λ (pass : HintPassState). pass.queue) is
uses_queue (Verb.Read page) result old new uses = queue_read page result old new uses
uses_queue (Verb.Trim page) result old new is = ap (λ (pass : HintPassState). pass.queue) is
uses_queue (Verb.Refresh page) result old new is = ap (λ (pass : HintPassState). pass.queue) is
uses_queue (Verb.Collect channel) result old new is = ap (λ (pass : HintPassState). pass.queue) is
uses_queue (Verb.Age channel die sb amount) result old new is = ap (λ (pass : HintPassState). pass.queue) is
uses_queue (Verb.Drain count) result old new uses = queue_drained count result old new uses
