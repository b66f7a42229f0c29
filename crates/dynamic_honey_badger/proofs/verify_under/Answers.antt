use mathlib.Core.Bool.{Bool, ◌||◌}
use mathlib.Core.Path.{sym, ap, ◌∙◌}
use Rattle.std.proofs.Common.{rules, tests}
use Rattle.lists.specs.Lists.{option_as_found}
use Rattle.pub_key_map.specs.PubKeyMap.{nodes_of}
use Rattle.dynamic_honey_badger.specs.State.{valid_under, is_candidate_key}
use Rattle.dynamic_honey_badger.proofs.StateLaws.{candidate_signs}
use Rattle.dynamic_honey_badger.proofs.verify_under.Goals as goal

pub returns-then-is_key : goal.returns-then-is_key
unfolding valid_under
returns-then-is_key c = rw (sym c.is_key.ensures ∙ c.if-is_key.true) c.if-is_key.true

pub returns-else-is_key : goal.returns-else-is_key
unfolding valid_under
returns-else-is_key c =
    let a = c.args in
    candidate_signs a.id a.sig _ _ a.candidate c.is_some_and.ensures (λ x q. search (rules, tests))
    ∙ ap (λ (b : Bool). b || is_candidate_key (option_as_found nodes_of a.candidate) a.id a.sig) (sym (sym c.is_key.ensures ∙ c.if-is_key.false))
