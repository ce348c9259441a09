use Rattle.std.proofs.Common.{ℕ, ◌≡◌, ◌++◌, List, Result, Ok, Err, codes, decimal, is_ok, if◌then◌else◌, OnOk, ap, ◌∙◌}
use Rattle.ssd_top.proofs.status.put_limit.Goals as goal

-- bytes that were added piece by piece, the last piece where there was room
all_added : {A E : Type 0} (result : Result A E) (before front first middle second last with_front with_first with_middle with_second all : List ℕ)
    → with_front ≡ before ++ front → with_first ≡ with_front ++ first → with_middle ≡ with_first ++ middle
    → with_second ≡ with_middle ++ second → all ≡ (if is_ok result then with_second ++ last else with_second)
    → OnOk result (all ≡ before ++ front ++ first ++ middle ++ second ++ last)
all_added (Ok answer) before front first middle second last with_front with_first with_middle with_second all a b c d e = cc
all_added (Err stop) before front first middle second last with_front with_first with_middle with_second all a b c d e = tt

pub returns-clause-ok : goal.returns-clause-ok
returns-clause-ok c =
    all_added c.extend_from_slice-5.result c.args.out.now.items (codes "history limit on channel ") (decimal c.args.channel) (codes " at ")
    (decimal c.args.entries) (codes "\n") _ _ _ _ _ c.in_ok-extend_from_slice.ensures.items
    (c.in_ok-extend_from_slice-2.ensures.items ∙ ap (λ (text : List ℕ). c.extend_from_slice.new.self.items ++ text) (c.as_bytes.ensures.value ∙ c.format.ensures.text))
    c.in_ok-extend_from_slice-3.ensures.items
    (c.in_ok-extend_from_slice-4.ensures.items ∙ ap (λ (text : List ℕ). c.extend_from_slice-3.new.self.items ++ text) (c.as_bytes-2.ensures.value ∙ c.format-2.ensures.text))
    c.extend_from_slice-5.ensures.items
