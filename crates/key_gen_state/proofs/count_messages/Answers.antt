use Rattle.std.proofs.Common.{rules}
use Prim.Native.Nat.{ℕ, ◌+◌}
use mathlib.Core.Path.{◌≡◌, ap, ◌∙◌}
use native.Mathlib.Omega.{arith}
use lib.ListN.{length, get_or}
use Rattle.bincode.specs.Sizes.{base}
use Rattle.key_gen_state.specs.KeyGenState.{raised}
use Rattle.key_gen_state.proofs.LentCountLaws.{raised_there, raised_past}
use Rattle.key_gen_state.proofs.count_messages.Goals as goal

pub returns-then-place-ge-LIMIT : goal.returns-then-place-ge-LIMIT
returns-then-place-ge-LIMIT c =
    let counts = c.args.counts.now.counts in
    let l : length counts ≡ base.nodes + base.nodes = search rules in
    raised_past base counts c.args.place c.args.n (omega (arith, l, c.if-place-ge-LIMIT.true))

pub returns : goal.returns
returns c =
    let counts = c.args.counts.now.counts in
    let place = c.args.place in
    let k = c.raise-count.ensures ∙ ap (λ (m : ℕ). raised m (get_or counts place 0)) c.nodes_up_to.ensures in
    raised_there base counts place c.args.n _ k (search rules)
