use Rattle.std.proofs.Common.{rules}
use mathlib.Core.Path.{◌≡◌}
use borrow.Author.Tests.{ne_eqb}
use Rattle.key_gen.specs.KeyGen.{row_effect}
use Rattle.key_gen.proofs.row_outcome.Goals as goal

pub returns-in-0 : goal.returns-in-0
unfolding row_effect
returns-in-0 c = rw c.in-0.is

pub returns-in-1 : goal.returns-in-1
unfolding row_effect
returns-in-1 c = rw c.in-1.is

pub returns-in-2 : goal.returns-in-2
unfolding row_effect
returns-in-2 c = rw c.in-2.is

pub returns-in_default : goal.returns-in_default
unfolding row_effect
returns-in_default c =
    let a : c.args.verdict ≡ 0 → ⊥ = search rules in
    let b : c.args.verdict ≡ 1 → ⊥ = search rules in
    let d : c.args.verdict ≡ 2 → ⊥ = search rules in
    rw (ne_eqb _ _ a, ne_eqb _ _ b, ne_eqb _ _ d)
