use Rattle.past_examples.proofs.CollectedRun.{calls_in_order, has_replies, is_served}
use Rattle.past_examples.proofs.run_examples.run_with_a_collection.Goals as goal

pub returns-clause-in_order : goal.returns-clause-in_order
returns-clause-in_order c = calls_in_order

pub returns-clause-served : goal.returns-clause-served
returns-clause-served c = is_served

pub returns-clause-replies : goal.returns-clause-replies
returns-clause-replies c = has_replies
