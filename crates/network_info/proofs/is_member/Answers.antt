use mathlib.Core.Path.{◌∙◌}
use Rattle.pub_key_map.specs.PubKeyMap.{nodes_of}
use Rattle.network_info.proofs.IndexLaws.{member_some}
use Rattle.network_info.proofs.is_member.Goals as goal

pub returns : goal.returns
returns c = c.is_some.ensures ∙ member_some _ (nodes_of c.args.m) _ c.node_index.ensures
