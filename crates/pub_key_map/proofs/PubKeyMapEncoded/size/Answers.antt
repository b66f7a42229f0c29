use Rattle.std.proofs.Common.{add-one}
use Prim.Native.Nat.{suc, ◌+◌, ◌≤◌}
use mathlib.Core.Path.{◌≡◌, sym, ap, ◌∙◌}
use native.Mathlib.Omega.{arith}
use native.Mathlib.Nat.{suc-mul, mul-le-mul_right}
use mathlib.Core.List.{List}
use lib.Seq.{drop-cons}
use lib.ListN.{length, drop, length-append}
use Rattle.lists.proofs.ListLaws.{rest_none}
use Rattle.bincode.specs.Stands.{concat_map}
use Rattle.bincode.specs.Sizes.{base}
use Rattle.bincode.specs.Writing.{told}
use Rattle.pub_key_map.specs.declared.Node.{Node}
use Rattle.pub_key_map.specs.PubKeyMap.{nodes_of, no_node, node_bytes, map_bytes}
use Rattle.pub_key_map.proofs.PubKeyMapEncoded.size.Goals as goal

pub loop-x-init : goal.loop-x-init
unfolding map_bytes
loop-x-init g c =
    let e = g.E.IntEncoding.edition in
    let ns = nodes_of c.args.self.now in (
      omega (arith, c.size_u64-size.ensures),
      omega (arith, c.size_u64-size.type_inv),
      rw (c.as_slice-x-items.ensures, c.size_u64-size.ensures.0, c.len.ensures.0)
          (ap told (sym (length-append (e.bytes 8 (length ns)) (concat_map (node_bytes e) ns)))),
    )

pub loop-x-preserved : goal.loop-x-preserved
loop-x-preserved g c =
    let enc = node_bytes g.E.IntEncoding.edition in
    let l = c.loop-x in
    let ns = c.as_slice-x-items.result.now in
    let x = drop-cons ns l.x-index no_node c.loop-x-test.true in
    let r : concat_map enc (drop l.x-index ns) ≡ _ = ap (concat_map enc) x in
    let n = ap length r ∙ length-append (enc _) (concat_map enc (drop (suc l.x-index) ns)) in
    let m = suc-mul l.x-index (g.E.IntEncoding.longest 4 + g.E.IntEncoding.longest 8) in
    rw add-one (
      omega (arith, m, c.saturating_add-size.ensures, c.size.ensures, l.invariant.0),
      omega (arith, c.saturating_add-size.ensures),
      omega (arith, n, c.saturating_add-size.ensures, c.size.ensures, l.invariant.2),
    )

pub returns : goal.returns
returns g c =
    let l = c.loop-x in
    let few : l.x-index ≤ base.nodes = omega (arith, l.auto.x-index-end, ap length c.as_slice-x-items.ensures, c.len.ensures) in
    let n = ap (λ (ns : List Node). length (concat_map (node_bytes g.E.IntEncoding.edition) ns)) (rest_none c.as_slice-x-items.result.now l.x-index c.loop-x-test.false) in
    let m = mul-le-mul_right (g.E.IntEncoding.longest 4 + g.E.IntEncoding.longest 8) few in
    omega (arith, n, m, l.invariant.0, l.invariant.1, l.invariant.2)
