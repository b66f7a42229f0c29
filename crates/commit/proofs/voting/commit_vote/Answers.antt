use mathlib.Core.Path.{sym, ◌∙◌}
use Rattle.commit.proofs.VoteLaws.{bad_vote, old_vote, good_vote}
use Rattle.commit.proofs.voting.commit_vote.Goals as goal

pub returns-then-not-is_good : goal.returns-then-not-is_good
returns-then-not-is_good c =
    let a = c.args in
    bad_vote a.terms.now a.place a.h a.tally.now (sym c.is_good.ensures ∙ c.if-not-is_good.true)

pub returns-then-is_obsolete : goal.returns-then-is_obsolete
returns-then-is_obsolete c =
    let a = c.args in
    old_vote a.terms.now a.place a.h a.tally.now (sym c.is_good.ensures ∙ c.if-not-is_good.false) (sym c.is_obsolete.ensures ∙ c.if-is_obsolete.true)

pub returns : goal.returns
returns c =
    let a = c.args in
    good_vote a.terms.now a.place a.h a.tally.now (sym c.is_good.ensures ∙ c.if-not-is_good.false) (sym c.is_obsolete.ensures ∙ c.if-is_obsolete.false)
    (record { entries = c.insert.new.self }) c.insert.ensures
