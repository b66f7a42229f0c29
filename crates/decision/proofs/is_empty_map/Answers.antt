use mathlib.Core.Path.{sym, ap, ◌∙◌}
use Rattle.std.specs.declared.option.Option.{Option}
use Rattle.lists.specs.Lists.{found}
use Rattle.change.specs.declared.Change.{Change}
use Rattle.change.specs.Change.{change_of}
use Rattle.pub_key_map.specs.PubKeyMap.{nodes_of}
use Rattle.joining.proofs.StartLaws.{empty_length}
use Rattle.decision.specs.declared.Carried.{Carried}
use Rattle.decision.specs.Decision.{elected_of, change_in, is_empty_map}
use Rattle.decision.proofs.is_empty_map.Goals as goal

pub returns-in-NodeChange : goal.returns-in-NodeChange
returns-in-NodeChange c =
    rw (c.len.ensures.0, empty_length (nodes_of c.in-NodeChange.map))
    (sym (ap (λ (x : Option Carried). is_empty_map (change_in (elected_of x))) c.in-Some.is ∙ ap (λ (x : Change). is_empty_map (found (change_of x))) c.in-NodeChange.is))
