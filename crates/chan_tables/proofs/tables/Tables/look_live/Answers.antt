use Rattle.std.proofs.Common.{◌≡◌, length, subst, None}
use Rattle.ssd_histories.specs.OpenLooks.{look_at}
use Rattle.chan_tables.specs.TablesState.{TablesState}
use Rattle.chan_tables.proofs.Fits.{none_at_end}
use Rattle.chan_tables.proofs.tables.Tables.look_live.Goals as goal

pub returns-in_err-allow-clause-is_first : goal.returns-in_err-allow-clause-is_first
returns-in_err-allow-clause-is_first c =
    subst (λ (s : TablesState). look_at s.looks (length s.past) ≡ None) c.self.view_is
    (none_at_end c.self.inside.shape c.self.inside.session c.self.inside.rows c.self.inside.blocks c.self.inside.looks c.self.inside.history c.self.invariant)

pub returns-then-not-is_victim-clause-is_first : goal.returns-then-not-is_victim-clause-is_first
returns-then-not-is_victim-clause-is_first c =
    subst (λ (s : TablesState). look_at s.looks (length s.past) ≡ None) c.self.view_is
    (none_at_end c.self.inside.shape c.self.inside.session c.self.inside.rows c.self.inside.blocks c.self.inside.looks c.self.inside.history c.self.invariant)

pub returns-in_default-clause-is_first : goal.returns-in_default-clause-is_first
returns-in_default-clause-is_first c =
    subst (λ (s : TablesState). look_at s.looks (length s.past) ≡ None) c.self.view_is
    (none_at_end c.self.inside.shape c.self.inside.session c.self.inside.rows c.self.inside.blocks c.self.inside.looks c.self.inside.history c.self.invariant)

pub returns-in_err-look-clause-is_first : goal.returns-in_err-look-clause-is_first
returns-in_err-look-clause-is_first c =
    subst (λ (s : TablesState). look_at s.looks (length s.past) ≡ None) c.self.view_is
    (none_at_end c.self.inside.shape c.self.inside.session c.self.inside.rows c.self.inside.blocks c.self.inside.looks c.self.inside.history c.self.invariant)
