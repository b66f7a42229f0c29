use Rattle.std.proofs.Common.{rules}
use mathlib.Core.Path.{◌≡◌, refl, sym, ap, ◌∙◌}
use mathlib.Core.Bool.{true, false}
use native.Mathlib.Omega.{arith}
use lib.ListN.{length}
use borrow.Author.Tests.{eq-eqb, ne_eqb}
use Rattle.lists.specs.Lists.{option_as_found}
use Rattle.bincode.specs.Sizes.{base}
use Rattle.key_gen.specs.KeyGen.{key_gen_of, proposal_at, part_of_index}
use Rattle.key_gen.proofs.KeyGenLaws.{part_lookup, part_new, told_part}
use Rattle.key_gen.proofs.KeyGen.part_of_index.Goals as goal

pub returns-in-Some : goal.returns-in-Some
unfolding part_of_index
returns-in-Some c = rw (part_lookup c.args.self.now.proposals c.args.i ∙ ap (option_as_found (proposal_at c.args.i)) c.in-Some.is, eq-eqb _ _ c.if-p-commit.true)

pub returns-in-Some-2 : goal.returns-in-Some-2
unfolding part_of_index
returns-in-Some-2 c = rw (part_lookup c.args.self.now.proposals c.args.i ∙ ap (option_as_found (proposal_at c.args.i)) c.in-Some.is, ne_eqb _ _ c.if-p-commit.false)

pub returns-then-observes : goal.returns-then-observes
unfolding part_of_index
returns-then-observes c =
    let l : length c.args.self.now.proposals ≡ base.nodes = search rules in
    rw (part_lookup c.args.self.now.proposals c.args.i ∙ ap (option_as_found (proposal_at c.args.i)) c.in-None.is)
    (told_part (key_gen_of c.args.self.now) c.args.verdict _ _ true (sym c.if-observes.ensures) c.args.i c.args.commit
    (part_new c.args.self.now.proposals c.args.i c.args.commit c.new.result (omega arith) c.new.ensures)
    refl)

pub returns-else-observes : goal.returns-else-observes
unfolding part_of_index
returns-else-observes c =
    let l : length c.args.self.now.proposals ≡ base.nodes = search rules in
    rw (part_lookup c.args.self.now.proposals c.args.i ∙ ap (option_as_found (proposal_at c.args.i)) c.in-None.is)
    (told_part (key_gen_of c.args.self.now) c.args.verdict _ _ false (sym c.if-observes.ensures) c.args.i c.args.commit
    (part_new c.args.self.now.proposals c.args.i c.args.commit c.new.result (omega arith) c.new.ensures)
    (sym c.row_outcome.ensures))
