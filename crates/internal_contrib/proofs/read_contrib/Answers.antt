use mathlib.Core.Path.{sym, ◌∙◌}
use native.Mathlib.Omega.{arith}
use lib.Dec.{lit<}
use Rattle.bincode.specs.Sizes.{base}
use Rattle.bincode.proofs.AnswerLaws.{passed_on}
use Rattle.internal_contrib.specs.InternalContrib.{read_messages, read_votes}
use Rattle.internal_contrib.proofs.ContribLaws.{contrib_no_messages, contrib_no_votes, contrib_read}
use Rattle.internal_contrib.proofs.read_contrib.Goals as goal

pub returns-in_err-messages : goal.returns-in_err-messages
unfolding read_messages
returns-in_err-messages c =
    passed_on _ _ c.from_residual-in_err-messages.ensures.1
    ∙ sym (contrib_no_messages base _ _ _ _ _ (sym c.in-Ok.ensures) (omega (arith, c.from.ensures, c.if-from-b.false))
    _ _ (sym c.read_user.ensures ∙ c.in_ok-user.was) _ (sym c.read_items.ensures ∙ c.in_err-messages.was))

pub returns-in_err-votes : goal.returns-in_err-votes
unfolding read_messages read_votes
returns-in_err-votes c =
    passed_on _ _ c.from_residual-in_err-votes.ensures.1
    ∙ sym (contrib_no_votes base _ _ _ _ _ (sym c.in-Ok.ensures) (omega (arith, c.from.ensures, c.if-from-b.false))
    _ _ (sym c.read_user.ensures ∙ c.in_ok-user.was) _ _ (sym c.read_items.ensures ∙ c.in_ok-messages.was) _ c.saturating_sub-left.ensures
    _ (sym c.read_items-2.ensures ∙ c.in_err-votes.was))

pub returns : goal.returns
unfolding read_messages read_votes
returns c =
    contrib_read base _ _ _ _ _ (sym c.in-Ok.ensures) (omega (arith, c.from.ensures, c.if-from-b.false))
    _ _ (sym c.read_user.ensures ∙ c.in_ok-user.was) _ _ (sym c.read_items.ensures ∙ c.in_ok-messages.was) _ c.saturating_sub-left.ensures
    (lit< tt) (lit< tt) (λ i. (c.type_inv.s i).fits) _ _ (sym c.read_items-2.ensures ∙ c.in_ok-votes.was)
