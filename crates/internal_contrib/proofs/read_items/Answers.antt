use Rattle.bincode.proofs.ItemLaws.{count_read}
use Rattle.internal_contrib.proofs.CountLaws.{count_passed}
use Rattle.internal_contrib.proofs.read_items.Goals as goal

pub returns : goal.returns
returns g c =
    let r = count_read _ _ _ _ c.read_count.ensures c.in_ok-n.was in
    count_passed (g.T.Item.read_at _) _ _ _ _ _ r.0 r.1 _ c.pass_items.ensures _ c.in_ok-d.was
