-- What a batch is handled by.
use Rattle.std.specs.Prelude.{List}
use Rattle.pub_key_map.specs.declared.Node.{Node}
use Rattle.pub_key_map.specs.PubKeyMap.{nodes_of}
use Rattle.commit.specs.declared.Terms.{Terms}

abbrev pub nodes_by : Terms → List Node
nodes_by t = nodes_of t.map
