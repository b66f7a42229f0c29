use mathlib.Core.Path.{ap}
use Rattle.key_gen.specs.KeyGen.{key_gen_of}
use Rattle.key_gen_state.specs.KeyGenState.{running_of}
use Rattle.steps.specs.Steps.{tracked}
use Rattle.commit.proofs.MessageLaws.{by_part, by_ack}
use Rattle.commit.proofs.messages.handle_head.Goals as goal

pub returns-in-Part : goal.returns-in-Part
returns-in-Part c =
    let s = c.args.running.now in
    λ m e. ap (tracked (running_of s)) (by_part m c.args.h e c.args.verdict (key_gen_of s.key_gen) _ _ c.in-Part.is c.handle_part_counted.ensures)

pub returns-in-Ack : goal.returns-in-Ack
returns-in-Ack c =
    let s = c.args.running.now in
    λ m e. ap (tracked (running_of s)) (by_ack m c.args.h e c.args.verdict (key_gen_of s.key_gen) _ _ c.in-Ack.is c.handle_ack_counted.ensures)
