use mathlib.Core.Path.{sym, ap, ◌∙◌}
use mathlib.Core.List.{◌∷◌, ◌++◌}
use Prim.Native.Nat.{ℕ}
use lib.ListN.{take, drop}
use Rattle.array_list.proofs.PushLaws.{put_within}
use Rattle.bincode.specs.Sizes.{base}
use Rattle.board.specs.Board.{rows_of}
use Rattle.board.proofs.BoardTurns.{placed_at}
use Rattle.board.proofs.Board.put.Goals as goal

pub returns : goal.returns
returns c =
    let a = c.args in
    c.insert_at.ensures
    ∙ put_within base.nodes c.place_of-at.result a.row (rows_of a.self) c.requires c.place_of-at.ensures.1
    ∙ ap (λ (k : ℕ). take k (rows_of a.self) ++ (a.row ∷ drop k (rows_of a.self))) c.place_of-at.ensures.0 ∙ sym (placed_at a.row (rows_of a.self))
