use Rattle.std.proofs.Common.{◌≡◌, ◌+◌, ◌≤◌, List, ℕ, Some, None, ap, sym, ◌∙◌, subst, length, take, drop, get_or, true, false, arith, rules, take_all, length-take-le}
use Rattle.std.specs.List.{position}
use Rattle.ssd_formats.specs.Lines.{is_line_feed}
use Rattle.trace_text.specs.BytesAhead.{HasNoFeed}
use Rattle.trace_text.specs.Windows.{held}
use Rattle.trace_text.proofs.Feeds.{first_behind, none_behind}
use Rattle.trace_text.proofs.HeldBytes.{kept_on}
use Rattle.trace_text.proofs.window.Window.seek.Goals as goal

is_feed : (byte : ℕ) → is_line_feed byte ≡ true → byte ≡ 10
is_feed byte e = grind arith

pub returns-in-Some-clause-found : goal.returns-in-Some-clause-found
returns-in-Some-clause-found g c =
    let place : position is_line_feed (drop c.reading.looked (held c.reading.self)) ≡ Some c.in-Some.at = search rules in
    let f = first_behind is_line_feed (held c.reading.self) c.reading.looked c.in-Some.at c.reading.invariant.none place in
    record { ahead = c.reading.invariant.ahead; is_found = (f.0, is_feed _ f.1, f.2) }

pub returns-then-looked-gt-LONGEST-clause-found : goal.returns-then-looked-gt-LONGEST-clause-found
returns-then-looked-gt-LONGEST-clause-found g c =
    let place : position is_line_feed (drop c.reading.looked (held c.reading.self)) ≡ None = search rules in
    let none = none_behind is_line_feed (held c.reading.self) c.reading.looked c.reading.invariant.none place in
    let long : length c.bytes-looked.result.now ≡ length (held c.reading.self) = ap length c.bytes-looked.ensures in
    record { ahead = c.reading.invariant.ahead; is_found = (none, omega (arith, long)) }

pub returns-then-branch-eq0-clause-found : goal.returns-then-branch-eq0-clause-found
returns-then-branch-eq0-clause-found g c =
    let place : position is_line_feed (drop c.reading.looked (held c.reading.self)) ≡ None = search rules in
    let none = none_behind is_line_feed (held c.reading.self) c.reading.looked c.reading.invariant.none place in
    let f = c.in_ok-fetch.ensures.bytes in
    let grown = f.grown in
    let same : held c.fetch.new.self ≡ held c.reading.self = sym (take_all (length (held c.reading.self)) (held c.fetch.new.self) (omega (arith, grown))) ∙ f.front in
    record {
      ahead = kept_on _ _ _ _ _ _ c.reading.invariant.ahead f.ahead;
      is_found = (subst HasNoFeed (sym same) none, f.end c.if-branch-eq0.true);
    }

pub reading-preserved : goal.reading-preserved
reading-preserved g c =
    let place : position is_line_feed (drop c.reading.looked (held c.reading.self)) ≡ None = search rules in
    let none = none_behind is_line_feed (held c.reading.self) c.reading.looked c.reading.invariant.none place in
    let f = c.in_ok-fetch.ensures.bytes in
    let grown = f.grown in
    let size : length c.bytes-looked.result.now ≡ length (held c.reading.self) = ap length c.bytes-looked.ensures in
    let front : take (length c.bytes-looked.result.now) (held c.fetch.new.self) ≡ held c.reading.self = ap (λ n. take n (held c.fetch.new.self)) size ∙ f.front in
    record {
      looked = omega (arith, grown, size);
      few = omega arith;
      none = subst HasNoFeed (sym front) none;
      ahead = kept_on _ _ _ _ _ _ c.reading.invariant.ahead f.ahead;
      stays = search rules;
    }
