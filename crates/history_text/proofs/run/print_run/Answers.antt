use Rattle.history_text.proofs.Chains.{adds_then, prints_then, stops_then, all_written, front_written, front_of_all}
use Rattle.history_text.proofs.run.print_run.Goals as goal

pub returns-in_err-put_counted-clause-front : goal.returns-in_err-put_counted-clause-front
returns-in_err-put_counted-clause-front g c =
    front_written _ c.clear.ensures.items (stops_then c.in_ok-put_whole.ensures.ok c.in_err-put_counted.ensures.err)

pub returns-clause-all : goal.returns-clause-all
returns-clause-all g c =
    all_written _ _ c.clear.ensures.items c.flush.ensures.empty (prints_then (adds_then c.in_ok-put_whole.ensures.ok c.in_ok-put_counted.ensures.ok) c.flush.ensures.prints)

pub returns-clause-front : goal.returns-clause-front
returns-clause-front g c =
    front_of_all _ _ c.clear.ensures.items (prints_then (adds_then c.in_ok-put_whole.ensures.ok c.in_ok-put_counted.ensures.ok) c.flush.ensures.prints)
