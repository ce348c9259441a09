use Rattle.std.proofs.Common.{◌≡◌, ◌+◌, ◌<◌, ◌≤◌, sym, ap, ◌∙◌, subst, List, ℕ, length, take, drop, length-take-le, arith, rules}
use Rattle.std.specs.Str.Lines.{strip_carriage_return}
use Rattle.trace_text.specs.ReadLines.{pending}
use Rattle.trace_text.specs.Windows.{held}
use Rattle.trace_text.proofs.ReadSteps.{feed_found, last_found, long_found}
use Rattle.trace_text.proofs.line_reader.LineReader.read_line.Goals as goal

pub returns-in-Feed-clause-read : goal.returns-in-Feed-clause-read
returns-in-Feed-clause-read g c =
    let s = rw c.in-Feed.is at c.in_ok-at.ensures.found in
    let at = c.in-Feed.at in
    let text = c.without_return-text.result in
    let bytes = c.seek.new.self in
    let same : c.bytes.result.now ≡ held bytes = c.bytes.ensures in
    let P : List ℕ → Type 0 = λ l. take text (take at l) ≡ strip_carriage_return (take at l) in
    let stripped : P (held bytes) = subst P same c.without_return-text.ensures.text in
    let inside : at < length (held bytes) = s.is_found.0 in
    let size : length (take at c.bytes.result.now) ≡ at = ap (λ l. length (take at l)) same ∙ length-take-le at (held bytes) (omega (arith, inside)) in
    let short = c.without_return-text.ensures.within in
    let t = c.take.ensures in
    record {
      told = feed_found (pending c.args.self.now) (held c.leave.new.self.window) (held bytes) _ _ _ at text _ _ c.leave.ensures.bytes s.ahead s.is_found (omega (arith, size, short)) stripped t.text_is t.pending_is t.line_is;
      counts = record { number = t.number ∙ ap (λ n. n + 1) c.leave.ensures.number; taken = omega (arith, t.taken, t.line_is, c.leave.ensures.taken); some = omega (arith, t.line_is, size) };
    }

pub returns-else-rest-eq0-clause-read : goal.returns-else-rest-eq0-clause-read
returns-else-rest-eq0-clause-read g c =
    let s = rw c.in-End.is at c.in_ok-at.ensures.found in
    let bytes = c.seek.new.self in
    let size : length c.bytes-rest.result.now ≡ length (held bytes) = ap length c.bytes-rest.ensures in
    let t = c.take-in-End.ensures in
    let some : 0 < length (held bytes) = omega (arith, size) in
    record {
      told = last_found (pending c.args.self.now) (held c.leave.new.self.window) (held bytes) _ _ _ _ _ c.leave.ensures.bytes s.ahead s.is_found some (t.text_is ∙ ap (λ n. take n (held bytes)) size) (t.pending_is ∙ ap (λ n. drop n (held bytes)) size) (t.line_is ∙ size);
      counts = record { number = t.number ∙ ap (λ n. n + 1) c.leave.ensures.number; taken = omega (arith, t.taken, t.line_is, c.leave.ensures.taken); some = omega (arith, t.line_is, size, some) };
    }

pub returns-in-Long-clause-read : goal.returns-in-Long-clause-read
returns-in-Long-clause-read g c =
    let s = rw c.in-Long.is at c.in_ok-at.ensures.found in
    record {
      told = long_found (pending c.args.self.now) (held c.leave.new.self.window) (held c.seek.new.self) _ _ c.leave.ensures.bytes s.ahead s.is_found;
      counts = c.leave.ensures.number;
    }
