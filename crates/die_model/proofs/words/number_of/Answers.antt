use Rattle.std.proofs.Common.{rules}
use Rattle.die_model.proofs.WordLemmas.{number_small}
use Rattle.die_model.proofs.words.number_of.Goals as goal

pub overflow_mul-result : goal.overflow_mul-result
overflow_mul-result c =
    let within = c.args.plan.now.shape.within in
    let plan = c.requires.plan in
    let place = c.requires.place in
    let small = number_small c.args.plan.now.channel c.args.plan.now.die c.args.sb c.args.page _ _ _ _ plan.channel within.channels_high
    plan.die within.dies_high place.block within.superblocks_high place.page_within within.pages_high in search rules

pub overflow_add-result : goal.overflow_add-result
overflow_add-result c =
    let within = c.args.plan.now.shape.within in
    let plan = c.requires.plan in
    let place = c.requires.place in
    let small = number_small c.args.plan.now.channel c.args.plan.now.die c.args.sb c.args.page _ _ _ _ plan.channel within.channels_high
    plan.die within.dies_high place.block within.superblocks_high place.page_within within.pages_high in search rules
