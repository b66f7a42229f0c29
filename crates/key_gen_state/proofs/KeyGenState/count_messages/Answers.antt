use Rattle.std.proofs.Common.{◌≤◌, ℕ}
use mathlib.Core.Path.{subst}
use Rattle.bincode.specs.Sizes.{base}
use Rattle.pub_key_map.specs.PubKeyMap.{nodes_of}
use Rattle.key_gen_state.specs.KeyGenState.{running_of}
use Rattle.key_gen_state.proofs.LentCountLaws.{counted_lent}
use Rattle.key_gen_state.proofs.KeyGenState.count_messages.Goals as goal

pub returns : goal.returns
returns c =
    let n = c.len-n in
    let p = c.sender_place-place in
    let k = c.count_messages-count in
    counted_lent base (nodes_of c.args.current) (running_of c.args.self) c.args.sender (subst (λ (m : ℕ). m ≤ base.nodes) n.ensures.0 n.ensures.1) p.ensures.1 p.ensures.2 p.result n.result k.new.counts.counts k.result p.ensures.0 n.ensures.0 k.ensures
