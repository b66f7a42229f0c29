use mathlib.Core.Bool.{true, false}
use mathlib.Core.Path.{◌≡◌, sym, ◌∙◌}
use Rattle.lists.specs.Lists.{has_key}
use Rattle.pub_key_map.specs.PubKeyMap.{id_of, nodes_of}
use Rattle.node_change.specs.NodeChange.{row13}
use Rattle.node_change.proofs.is_full_for.Goals as goal

pub returns-then-not-has : goal.returns-then-not-has
unfolding row13
returns-then-not-has c =
    let h : has_key id_of c.args.id (nodes_of c.args.map) ≡ false = sym c.has.ensures ∙ c.if-not-has.true in
    rw (h, c.len.ensures.0)

pub returns-else-not-has : goal.returns-else-not-has
unfolding row13
returns-else-not-has c =
    let h : has_key id_of c.args.id (nodes_of c.args.map) ≡ true = sym c.has.ensures ∙ c.if-not-has.false in
    rw (h, c.if-not-has.false)
