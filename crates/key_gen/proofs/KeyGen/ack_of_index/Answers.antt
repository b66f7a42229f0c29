use Rattle.std.proofs.Common.{rules, None, ◌≤◌}
use mathlib.Core.Path.{◌≡◌, refl, sym, ap, ◌∙◌}
use mathlib.Core.Bool.{true, false}
use lib.Dec.{eqb}
use lib.ListN.{length, get_or}
use Rattle.lists.specs.Lists.{option_as_found}
use Rattle.key_gen.specs.KeyGen.{key_gen_of, proposal_at, ack_of_index}
use Rattle.key_gen.proofs.KeyGenLaws.{part_lookup, part_past, part_acked, told_ack, flag_here}
use Rattle.key_gen.proofs.KeyGen.ack_of_index.Goals as goal

pub returns-in-Some-Some : goal.returns-in-Some-Some
unfolding ack_of_index
returns-in-Some-Some c =
    let s : c.in-Some-Some.field-0.now ≡ get_or c.args.self.now.proposals c.args.i None = search rules in
    rw (part_lookup c.args.self.now.proposals c.args.i ∙ ap (option_as_found (proposal_at c.args.i)) (sym s ∙ c.in-Some-Some.field-0-is), flag_here c.in-Some-Some.p.acks c.args.j ∙ c.if-p-j.true)

pub returns-in-Some-Some-2 : goal.returns-in-Some-Some-2
unfolding ack_of_index
returns-in-Some-Some-2 c =
    let ps = c.args.self.now.proposals in
    let s : c.in-Some-Some.field-0.now ≡ get_or ps c.args.i None = search rules in
    rw (part_lookup ps c.args.i ∙ ap (option_as_found (proposal_at c.args.i)) (sym s ∙ c.in-Some-Some.field-0-is), flag_here c.in-Some-Some.p.acks c.args.j ∙ c.if-p-j.false)
    (told_ack (key_gen_of c.args.self.now) c.args.verdict _ _ true (sym c.if-observes.ensures) (proposal_at c.args.i c.in-Some-Some.p) c.args.j
    (part_acked ps c.args.i c.acknowledge.result (proposal_at c.args.i c.in-Some-Some.p) c.args.j false (search rules) (c.acknowledge.ensures c.args.i))
    refl)

pub returns-in-Some-Some-3 : goal.returns-in-Some-Some-3
unfolding ack_of_index
returns-in-Some-Some-3 c =
    let ps = c.args.self.now.proposals in
    let s : c.in-Some-Some.field-0.now ≡ get_or ps c.args.i None = search rules in
    rw (part_lookup ps c.args.i ∙ ap (option_as_found (proposal_at c.args.i)) (sym s ∙ c.in-Some-Some.field-0-is), flag_here c.in-Some-Some.p.acks c.args.j ∙ c.if-p-j.false)
    (told_ack (key_gen_of c.args.self.now) c.args.verdict _ _ false (sym c.if-observes.ensures) (proposal_at c.args.i c.in-Some-Some.p) c.args.j
    (part_acked ps c.args.i c.acknowledge-in-Some-Some-3.result (proposal_at c.args.i c.in-Some-Some.p) c.args.j (eqb c.args.verdict 0) (search rules) (c.acknowledge-in-Some-Some-3.ensures c.args.i))
    (sym c.value_outcome.ensures))

pub returns-in-Some-None : goal.returns-in-Some-None
unfolding ack_of_index
returns-in-Some-None c =
    let s : get_or c.args.self.now.proposals c.args.i None ≡ None = search rules in
    rw (part_lookup c.args.self.now.proposals c.args.i ∙ ap (option_as_found (proposal_at c.args.i)) s)

pub returns-in-Some-None-2 : goal.returns-in-Some-None-2
unfolding ack_of_index
returns-in-Some-None-2 c =
    let l : length c.args.self.now.proposals ≤ c.args.i = search rules in
    rw (part_past c.args.self.now.proposals c.args.i l)
