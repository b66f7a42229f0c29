use Rattle.std.proofs.Common.{rules}
use mathlib.Core.Path.{ap, ◌∙◌}
use mathlib.Core.List.{map}
use Rattle.lists.proofs.KeptLaws.{map_filter}
use Rattle.key_gen_message.specs.KeyGenMessage.{signed_of}
use Rattle.key_gen_message.proofs.MessageLaws.{signed_eq}
use Rattle.message_store.specs.MessageStore.{held, is_other, without}
use Rattle.message_store.proofs.MessageStore.without.Goals as goal

pub returns : goal.returns
unfolding without
returns c =
    ap (map signed_of) (c.retain.ensures (λ x. is_other (signed_of c.args.m) (signed_of x)) (λ x r says. search (rules, signed_eq)))
    ∙ map_filter signed_of (is_other (signed_of c.args.m)) (held c.args.self)
