use Rattle.std.proofs.Common.{ℕ, ◌≡◌, ◌++◌, List, OnOk, codes, decimal, subst, ap, ◌∙◌}
use Rattle.ssd_formats.specs.InputFaults.{image_fault_word, trace_fault_word}
use Rattle.image_file.specs.Gives.{named_fault as image_fault}
use Rattle.trace_text.specs.Answers.{named_fault as trace_fault}
use Rattle.ssd_top.proofs.FaultTexts.{fault_line, limit_line}
use Rattle.ssd_top.proofs.status.Status.put.Goals as goal

pub returns-in-Image-clause-ok : goal.returns-in-Image-clause-ok
returns-in-Image-clause-ok c =
    let word : c.image_word.result.now ≡ image_fault_word (image_fault c.in-Image.fault) = c.image_word.ensures in
    rw c.in-Image.is (subst (λ (text : List ℕ). OnOk c.put_fault.result (c.put_fault.new.out.items ≡ text))
    (ap (λ (w : List ℕ). c.args.out.now.items ++ codes "image fault at " ++ decimal c.in-Image.at ++ codes ": " ++ w ++ codes "\n") word
    ∙ fault_line c.args.out.now.items (codes "image fault at") (decimal c.in-Image.at) (image_fault_word (image_fault c.in-Image.fault)))
    c.put_fault.ensures.ok)

pub returns-in-Trace-clause-ok : goal.returns-in-Trace-clause-ok
returns-in-Trace-clause-ok c =
    let word : c.trace_word.result.now ≡ trace_fault_word (trace_fault c.in-Trace.fault) = c.trace_word.ensures in
    rw c.in-Trace.is (subst (λ (text : List ℕ). OnOk c.put_fault-in-Trace.result (c.put_fault-in-Trace.new.out.items ≡ text))
    (ap (λ (w : List ℕ). c.args.out.now.items ++ codes "trace fault in line " ++ decimal c.in-Trace.line ++ codes ": " ++ w ++ codes "\n") word
    ∙ fault_line c.args.out.now.items (codes "trace fault in line") (decimal c.in-Trace.line) (trace_fault_word (trace_fault c.in-Trace.fault)))
    c.put_fault-in-Trace.ensures.ok)

pub returns-in-HistoryLimit-clause-ok : goal.returns-in-HistoryLimit-clause-ok
returns-in-HistoryLimit-clause-ok c =
    rw c.in-HistoryLimit.is (subst (λ (text : List ℕ). OnOk c.put_limit.result (c.put_limit.new.out.items ≡ text))
    (limit_line c.args.out.now.items (codes "history limit on channel") (decimal c.in-HistoryLimit.channel) (codes "at") (decimal c.in-HistoryLimit.length))
    c.put_limit.ensures.ok)
