use Rattle.std.proofs.Common.{None}
use Rattle.chan_state.proofs.Beginning.{any_view, begun, begun_fitting, few_at_start, mounted, used_rows}
use Rattle.chan_state.proofs.kept.Kept.new.Goals as goal

pub new-requires-clause-mounted : goal.new-requires-clause-mounted
new-requires-clause-mounted g c = mounted c.args.base c.args.limit _ None c.requires

pub new-requires-2-clause-used : goal.new-requires-2-clause-used
new-requires-2-clause-used g c = rw c.as_slice.ensures (used_rows _ c.requires.is_start)

pub new-requires-2-clause-few_erases : goal.new-requires-2-clause-few_erases
new-requires-2-clause-few_erases g c = few_at_start c.args.base c.requires.is_start.few_erases

pub invariant_of-result : goal.invariant_of-result
invariant_of-result g c =
    rw (c.in_ok-tables.ensures, c.in_ok-dies.ensures, c.as_slice.ensures, c.into_vec.ensures) (begun_fitting c.args.base c.args.limit _ _ None _ c.requires c.in_ok-infos.ensures)

pub returns : goal.returns
returns g c =
    rw (c.in_ok-tables.ensures, c.in_ok-dies.ensures, c.as_slice.ensures, c.into_vec.ensures)
    (λ view. begun c.args.base c.args.limit 0 _ view (any_view c.args.base c.args.limit _ None view c.requires))
