use Rattle.loaded_tests.proofs.collects.called_on.Goals as goal

pub called-requires : goal.called-requires
called-requires c = record {
  shape = c.in_ok-shape.shape;
  worker_is = c.in_ok-worker.ensures;
  begun = c.in_ok-channel.ensures.begun;
}
