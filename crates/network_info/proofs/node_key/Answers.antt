use Rattle.std.proofs.Common.{rules}
use mathlib.Core.Path.{◌≡◌, ap, ◌∙◌}
use Prim.Native.Nat.{ℕ}
use Rattle.std.specs.Option.{option_map}
use Rattle.pub_key_map.specs.declared.Node.{Node}
use Rattle.pub_key_map.specs.PubKeyMap.{nodes_of}
use Rattle.lists.specs.Lists.{map_found, option_as_found}
use Rattle.network_info.proofs.IndexLaws.{key_looked_up, key_mapped}
use Rattle.network_info.proofs.node_key.Goals as goal

pub returns : goal.returns
returns c =
    let e : c.map.result ≡ option_map (λ (n : Node). n.key) c.get.result = search rules in
    ap (option_as_found (λ (x : ℕ). x)) e ∙ key_mapped c.get.result ∙ ap (map_found (λ (n : Node). n.key)) c.get.ensures ∙ key_looked_up (nodes_of c.args.m) c.args.id
