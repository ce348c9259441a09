-- Does a channel's history follow the view of its policy? The view moves on at each pick, over the table at its
-- position, and at each erase; nothing else changes it. Each pick is then the view's answer.
use Rattle.std.specs.Prelude.{◌≡◌, List, [], ◌∷◌, Option, Some, None, ⊤}
use Rattle.ssd_histories.specs.Policies.{answer_of, view_after_erase, view_after_pick}
use Rattle.ssd_histories.specs.Room.{table_of}
use Rattle.ssd_geo.specs.declared.base.ChannelBase.{ChannelBase}
use Rattle.ssd_geo.specs.declared.entry.Entry.{Entry}
use Rattle.ssd_geo.specs.declared.kind.Kind.{Kind}
use Rattle.ssd_geo.specs.declared.policy_view.PolicyView.{PolicyView}

-- a view after an entry, from the view before it
abbrev pub view_after : ChannelBase → List Entry → Kind → PolicyView → PolicyView
view_after base past (Kind.Pick sb) view = view_after_pick view (table_of base past)
view_after base past (Kind.Erase sb) view = view_after_erase view sb
view_after base past _ view = view

-- a view, moved on by the picks and erases of a past
abbrev pub view_of : ChannelBase → PolicyView → List Entry → PolicyView
view_of base view [] = view
view_of base view (entry ∷ past) = view_after base past entry.kind (view_of base view past)

-- an entry is the answer of a view, if it is a pick
abbrev pub IsAnsweredBy : ChannelBase → PolicyView → List Entry → Kind → Type 0
IsAnsweredBy base view past (Kind.Pick sb) = sb ≡ answer_of view (table_of base past)
IsAnsweredBy base view past _ = ⊤

-- each pick of a past is the answer of the view, as it was moved on before
abbrev pub FollowsView : ChannelBase → PolicyView → List Entry → Type 0
FollowsView base view [] = ⊤
FollowsView base view (entry ∷ past) = FollowsView base view past × IsAnsweredBy base (view_of base view past) past entry.kind

-- the same where the view is told
abbrev pub FollowsTold : ChannelBase → Option PolicyView → List Entry → Type 0
FollowsTold base None past = ⊤
FollowsTold base (Some view) past = FollowsView base view past
