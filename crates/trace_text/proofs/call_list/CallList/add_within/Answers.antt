use Rattle.std.proofs.Common.{◌≡◌, ◌+◌, ◌∷◌, [], ◌++◌, ℕ, ◌<◌, ◌≤◌, sym, ap, ◌∙◌, refl, length, length-append, arith, rules, get_or}
use Rattle.std.specs.Prelude.{count_by}
use Rattle.ssd_formats.specs.TraceText.{is_of_actor, is_read_call, most_calls, numbered_after}
use Rattle.trace_text.specs.CallSteps.{with_call}
use Rattle.trace_text.proofs.CallCounts.{count_more, counts_more}
use Rattle.trace_text.proofs.call_list.CallList.add_within.Goals as goal

pub invariant_of-self-2 : goal.invariant_of-self-2
invariant_of-self-2 c =
    let before = c.args.self.now in
    let own = c.self.invariant.2 c.args.actor c.requires.actor in
    let items = c.in-Ok.ensures.items in
    let view = c.self.view_is in
    let pushed : c.push.new.self.items ≡ with_call before c.args.actor c.args.verb = cc (own, items, view) in
    let size : length (with_call before c.args.actor c.args.verb) ≡ length before + 1 = length-append before _ in
    let reads : c.reads_with-reads.result ≡ count_by is_read_call c.push.new.self.items =
    c.reads_with-reads.ensures ∙ (sym (count_more is_read_call before (numbered_after before (c.args.actor, c.args.verb))) ∙ ap (count_by is_read_call) (sym pushed)) in (
      omega (arith, ap length pushed, size, c.requires.few),
      reads,
      λ k low. counts_more c.self.inside.counts before c.args.actor c.args.verb (search rules) c.requires.actor (λ j l. let e = c.self.invariant.2 j l in let v = c.self.view_is in cc) k low ∙ ap (count_by (is_of_actor k)) (sym pushed),
    )
