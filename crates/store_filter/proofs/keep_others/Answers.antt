use Rattle.std.proofs.Common.{rules}
use mathlib.Core.Path.{◌≡◌, ap, ◌∙◌}
use mathlib.Core.Bool.{not}
use Rattle.std.specs.List.{list_any}
use mathlib.Core.List.{map}
use Rattle.lists.proofs.KeptLaws.{map_filter}
use Rattle.key_gen_message.specs.KeyGenMessage.{signed_of}
use Rattle.message_store.specs.MessageStore.{held}
use Rattle.steps.specs.Kept.{is_none}
use Rattle.store_filter.specs.Filter.{message_in, without_entries, stands_at}
use Rattle.store_filter.proofs.FilterLaws.{none_at}
use Rattle.store_filter.proofs.keep_others.Goals as goal

pub returns : goal.returns
unfolding without_entries
returns c =
    let a = c.args in
    λ es h.
    ap (map signed_of) (c.retain.ensures (λ x. is_none (map message_in es) (signed_of x)) (λ x r says. let e : r ≡ not (list_any (stands_at a.s.now (signed_of x)) a.places.now) = search rules in e ∙ none_at a.s.now (signed_of x) es a.places.now h)) ∙ map_filter signed_of (is_none (map message_in es)) (held c.args.store)
