use Rattle.std.proofs.Common.{◌≡◌, ◌^◌, ℕ, ap, refl, sym, subst}
use Rattle.ssd_formats.proofs.HeadLaws.{below_is}
use Rattle.ssd_formats.specs.ImageHead.{IsHead, head_of, with_next_session}
use Rattle.ssd_top.proofs.TopCommands.{next_head}
use Rattle.ssd_top.proofs.format.with_next_session.Goals as goal

pub next_session-requires : goal.next_session-requires
next_session-requires c = below_is (2 ^ 24) c.args.head.session c.requires.session

pub returns : goal.returns
returns c =
    let next : record (head_of c.args.head) { session = c.next_session.result; full = c.args.full }
    ≡ with_next_session (head_of c.args.head) c.args.full =
    ap (λ (session : ℕ). record (head_of c.args.head) { session = session; full = c.args.full }) c.next_session.ensures in
    record { head = next; is_head = subst IsHead (sym next) (next_head (head_of c.args.head) c.args.full c.requires); shape = refl }
