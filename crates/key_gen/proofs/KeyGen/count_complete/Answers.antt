use Rattle.std.proofs.Common.{rules}
use Rattle.std.specs.Prelude.{count_by}
use mathlib.Core.Path.{◌≡◌, refl}
use native.Mathlib.Omega.{arith}
use lib.ListN.{length}
use Rattle.lists.specs.Lists.{filter}
use Rattle.lists.proofs.PresentLaws.{present_counted, present_within}
use Rattle.bincode.specs.Sizes.{base}
use Rattle.key_gen.specs.KeyGen.{complete, complete_in, proposal_at, parts_of, count_complete}
use Rattle.key_gen.proofs.KeyGen.count_complete.Goals as goal

pub returns : goal.returns
unfolding count_complete complete
returns c =
    let ps = c.args.self.proposals in
    let t = c.num_faulty-t.result in
    let e : c.count.result ≡ count_by (complete_in t) ps = search rules in
    let l : length ps ≡ base.nodes = search rules in
    let f = present_counted proposal_at (complete t) (complete_in t) refl (λ i p. refl) ps 0 0 in
    let m = present_within proposal_at (complete t) (complete_in t) refl (λ i p. refl) ps 0 in
    let counted : c.count.result ≡ length (filter (complete t) (parts_of ps)) = omega (arith, e, f) in
    (rw c.num_faulty-t.ensures at counted, omega (arith, e, f, m, l))
