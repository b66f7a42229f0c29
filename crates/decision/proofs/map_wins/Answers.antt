use mathlib.Core.Path.{refl, sym, ap, ◌∙◌}
use mathlib.Core.Bool.{Bool, cond}
use mathlib.Core.List.{[], ◌∷◌}
use Rattle.bincode.specs.Sizes.{base}
use Rattle.pub_key_map.specs.PubKeyMap.{nodes_of}
use Rattle.voters.specs.Voters.{ids_of}
use Rattle.change.specs.Change.{ChangeStateOf, in_progress}
use Rattle.due.specs.declared.DueKind.TheVariants.{Part}
use Rattle.decision.specs.Decision.{of_parts}
use Rattle.decision.proofs.DecisionLaws.{same_decision, map_begun, map_again, map_new}
use Rattle.decision.proofs.map_wins.Goals as goal

pub returns-then-is_candidate : goal.returns-then-is_candidate
returns-then-is_candidate c =
    let a = c.args in
    λ st l. same_decision refl (ap (λ (x : ChangeStateOf). record { change = x; voters = ids_of a.voters }) (c.in_progress.ensures ∙ ap in_progress c.node_change.ensures)) refl refl
    ∙ sym (map_again base a.era (of_parts a.parts.now st l) (ids_of a.voters) (nodes_of a.map) (sym c.is_candidate.ensures ∙ c.if-is_candidate.true))

pub returns : goal.returns
returns c =
    let a = c.args in
    λ st l. same_decision
    (map_begun a.era a.parts.now.vote_counter c.new_era-parts.result a.map a.parts.now.params a.parts.now.key_gen_state c.new.result c.new-begun.result st l c.new_era-parts.ensures c.new-begun.ensures c.new.ensures)
    (ap (λ (x : ChangeStateOf). record { change = x; voters = ids_of a.voters }) (c.in_progress.ensures ∙ ap in_progress c.node_change.ensures))
    (ap (λ (b : Bool). cond b (record { kind = Part; era = a.era } ∷ []) []) c.is_member.ensures)
    refl
    ∙ sym (map_new base a.era (of_parts a.parts.now st l) (ids_of a.voters) (nodes_of a.map) (sym c.is_candidate.ensures ∙ c.if-is_candidate.false))
