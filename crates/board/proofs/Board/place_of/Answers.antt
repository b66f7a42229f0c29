use Rattle.std.proofs.Common.{rules, tests}
use native.Mathlib.Omega.{arith}
use mathlib.Core.Path.{◌≡◌, ◌∙◌}
use lib.ListN.{length}
use Rattle.std.specs.Option.{unwrap_or}
use Rattle.std.specs.Prelude.{position}
use Rattle.std.proofs.lemmas.Iterator.{YieldsList-from_slice}
use Rattle.std.proofs.lemmas.Iterator.Search.{position_from_yields_List}
use Rattle.winner.specs.Board.{is_before}
use Rattle.board.specs.Turns.{rank}
use Rattle.board.specs.Board.{rows_of, count_in, voter_in}
use Rattle.board.proofs.BoardTurns.{rank_le, rank_found}
use Rattle.board.proofs.Board.place_of.Goals as goal

pub returns : goal.returns
returns c =
    let row = c.args.row in
    let qs = rows_of c.args.self in
    let p : c.position-place.result ≡ position (is_before count_in voter_in row) qs
    = position_from_yields_List (is_before count_in voter_in row) _ _ _ c.position-place.ensures.ran (YieldsList-from_slice qs cc) (λ x b q k. search (rules, tests)) in
    let e : c.unwrap_or.result ≡ rank row qs = c.unwrap_or.ensures ∙ (λ i. unwrap_or (p i) (length (c.as_slice-rows.ensures i))) ∙ rank_found row qs in
    (e, omega (arith, e, rank_le row qs))
