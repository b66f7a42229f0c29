use Rattle.internal_contrib.proofs.BatchLaws.{span_stands}
use Rattle.internal_contrib.proofs.user_span.Goals as goal

pub returns-in-Ok : goal.returns-in-Ok
returns-in-Ok c = span_stands _ (λ i. (c.type_inv.s i).fits) _ c.index_batch.ensures _ _ c.in-Ok.is _ _ c.place_of.ensures _ c.unwrap_or.ensures
