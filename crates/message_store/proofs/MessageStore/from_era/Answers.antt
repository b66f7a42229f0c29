use Rattle.std.proofs.Common.{rules}
use mathlib.Core.Path.{ap, ◌∙◌}
use mathlib.Core.List.{map}
use Rattle.lists.proofs.KeptLaws.{map_filter}
use Rattle.key_gen_message.specs.KeyGenMessage.{signed_of}
use Rattle.message_store.specs.MessageStore.{held, is_recent, from_era}
use Rattle.message_store.proofs.MessageStore.from_era.Goals as goal

pub returns : goal.returns
unfolding from_era
returns c =
    ap (map signed_of) (c.retain.ensures (λ x. is_recent c.args.era (signed_of x)) (λ x r says. search rules))
    ∙ map_filter signed_of (is_recent c.args.era) (held c.args.self)
