use mathlib.Core.Path.{ap, ◌∙◌}
use Rattle.lists.specs.Lists.{found, map_found, option_as_found}
use Rattle.signed_votes.specs.SignedVotes.{votes_of}
use Rattle.board.specs.Board.{standing_of, standing_at, said_standing}
use Rattle.board.proofs.Board.standing.Goals as goal

pub returns-in_err-row : goal.returns-in_err-row
unfolding standing_at
returns-in_err-row c = ap (option_as_found said_standing) c.from_residual.ensures ∙ ap (map_found (standing_of (votes_of c.args.votes))) c.in_err-row.ensures

pub returns : goal.returns
unfolding standing_at
returns c =
    ap found (λ j. record { change = c.change_of.ensures j; count = c.in_ok-row.row.count }) ∙ ap (map_found (standing_of (votes_of c.args.votes))) c.in_ok-row.ensures
