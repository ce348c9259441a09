-- When does a channel stand as before with a view under another name, and what is a view that moves on twice?
use Rattle.std.proofs.Common.{◌≡◌, sym, subst, Option, Some, None, refl}
use Rattle.std.specs.Prelude.{option_map}
use Rattle.chan_dies.specs.DiesState.{DiesState}
use Rattle.chan_tables.specs.TablesState.{TablesState}
use Rattle.ssd_geo.specs.declared.policy_view.PolicyView.{PolicyView}
use Rattle.chan_state.specs.ChannelState.{StandsFor}
use Rattle.chan_state.specs.Collecting.{MovesView}
use Rattle.chan_state.specs.Kept.{channel_of}
use Rattle.chan_state.proofs.LookSteps.{same_stands}

-- the same view under another name
pub same_moves : (old : TablesState) (dies : DiesState) (new : TablesState) (was now : Option PolicyView) → new ≡ record old { room = new.room } → now ≡ was
    → MovesView (channel_of old dies) was (channel_of new dies) now
same_moves old dies new was now same e start contents stands =
    subst (λ (view : Option PolicyView). StandsFor (channel_of new dies) view start contents) (sym e) (same_stands old dies new same was start contents stands)

-- two functions of what may be there are one
pub twice : {A B C : Type 0} (f : B → C) (g : A → B) (o : Option A) → option_map f (option_map g o) ≡ option_map (λ x. f (g x)) o
twice f g None = refl
twice f g (Some x) = refl
