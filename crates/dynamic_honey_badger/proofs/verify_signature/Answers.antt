use mathlib.Core.Path.{ap, ◌∙◌}
use mathlib.Core.List.{List}
use Rattle.std.proofs.Common.{rules}
use Rattle.lists.specs.Lists.{Found}
use Rattle.pub_key_map.specs.declared.Node.{Node}
use Rattle.pub_key_map.specs.PubKeyMap.{nodes_of}
use Rattle.dynamic_honey_badger.specs.State.{valid_under}
use Rattle.dynamic_honey_badger.proofs.StateLaws.{candidate_by}
use Rattle.dynamic_honey_badger.proofs.verify_signature.Goals as goal

pub returns : goal.returns
returns c =
    let a = c.args in
    c.verify_under.ensures ∙ ap (λ (ns : Found (List Node)). valid_under (nodes_of a.pub_keys) ns a.id a.sig) (candidate_by _ a.state _ c.map-candidate.ensures.cases (λ x y q. search rules))
