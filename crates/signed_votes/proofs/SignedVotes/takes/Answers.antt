use mathlib.Core.Path.{sym, ap, ◌∙◌}
use mathlib.Core.Bool.{true}
use Prim.Native.Nat.{ℕ}
use lib.Dec.{ltb}
use Rattle.lists.specs.Lists.{takes_place}
use Rattle.lists.proofs.ListLaws.{cond_yes, cond_no}
use Rattle.lists.proofs.SortedLaws.{map_has_key}
use Rattle.bincode.specs.Sizes.{base}
use Rattle.votes.specs.Votes.{signed_of}
use Rattle.signed_votes.specs.SignedVotes.{held, voter_of}
use Rattle.signed_votes.proofs.SignedVotes.takes.Goals as goal

pub returns-then-has : goal.returns-then-has
unfolding takes_place
returns-then-has c =
    let a = c.args in
    c.if-has.true ∙ sym (cond_yes true _ (sym (map_has_key signed_of voter_of a.voter (held a.self)) ∙ sym c.has.ensures ∙ c.if-has.true))

pub returns-else-has : goal.returns-else-has
unfolding takes_place
returns-else-has c =
    let a = c.args in
    ap (λ (n : ℕ). ltb n base.nodes) c.len.ensures.0
    ∙ sym (cond_no true _ (sym (map_has_key signed_of voter_of a.voter (held a.self)) ∙ sym c.has.ensures ∙ c.if-has.false))
