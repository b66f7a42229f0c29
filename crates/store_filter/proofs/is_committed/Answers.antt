use Rattle.std.proofs.Common.{rules, tests}
use Rattle.std.proofs.lemmas.Iterator.{YieldsList-from_slice}
use Rattle.std.proofs.lemmas.Iterator.Search.{any_from_yields_List}
use Rattle.key_gen_message.specs.KeyGenMessage.{signed_of}
use Rattle.store_filter.specs.Filter.{stands_at}
use Rattle.store_filter.proofs.is_committed.Goals as goal

pub returns : goal.returns
returns c = any_from_yields_List (stands_at c.args.s.now (signed_of c.args.x.now)) _ _ _ c.any.ensures.ran (YieldsList-from_slice c.args.places.now cc) (λ x b q k. search (rules, tests))
