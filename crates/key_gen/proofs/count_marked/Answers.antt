use Rattle.std.proofs.Common.{rules}
use Rattle.std.specs.Prelude.{count_by}
use mathlib.Core.Path.{◌≡◌}
use native.Mathlib.Omega.{arith}
use lib.ListN.{length}
use Rattle.bincode.specs.Sizes.{base}
use Rattle.key_gen.proofs.KeyGenLaws.{marked_counted, marked_within}
use Rattle.key_gen.proofs.count_marked.Goals as goal

pub returns : goal.returns
returns c =
    let bs = c.args.flags in
    let e : c.count.result ≡ count_by (λ b. b) bs = search rules in
    let l : length bs ≡ base.nodes = search rules in
    let f = marked_counted (λ b. b) (λ k b. k) bs 0 0 in
    let m = marked_within (λ b. b) (λ k b. k) bs 0 in
    (omega (arith, e, f), omega (arith, e, f, m, l))
