use Rattle.commit.proofs.Arisen.empty.Goals as goal

pub returns : goal.returns
returns c = λ j. record { faults = c.empty.ensures j; acks = c.empty-2.ensures j }
