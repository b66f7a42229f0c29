-- The rows of some votes: a row is told by its choice, and lists that have the rows of the votes have the same rows.
-- Assumes nothing.
use Prim.Native.Nat.{◌<◌}
use mathlib.Core.Path.{◌≡◌, refl, sym, ap, subst, ◌∙◌}
use mathlib.Core.List.{List}
use mathlib.Core.Bool.{Bool}
use native.Mathlib.Omega.{arith}
use Rattle.winner.specs.Support.{support, Cast, choices, supporters}
use Rattle.winner.specs.Board.{Row, row_for}
use Rattle.winner.specs.BoardTerms.{Among, Lowest, RowOf, RowsOf}
use Rattle.winner.proofs.AmongLaws.{all_one, lowest_one}
use Rattle.winner.proofs.SupporterLaws.{lowest_supporter}

-- a row is told by its choice, its count and its voter
row_is : {A : Type 0} (r q : Row A) → r.choice ≡ q.choice → r.count ≡ q.count → r.lowest ≡ q.lowest → r ≡ q
row_is r q e f g = λ i. record { choice = e i; count = f i; lowest = g i }

module _ {A : Type 0} (eq : A → A → Bool) (vs : List (Cast A)) where
  -- the row of a choice counts its voters; with support it is a row of the votes
  pub row_counts : (x : A) → (row_for eq vs x).count ≡ support eq x (choices vs)
  row_counts x = refl

  pub row_for_of : (x : A) → 0 < support eq x (choices vs) → RowOf eq vs (row_for eq vs x)
  row_for_of x h = record { some = omega (arith, h, row_counts x); counts = row_counts x; least_voter = lowest_supporter eq x vs h }

  -- a row of the votes is told by its choice
  pub row_one : (r q : Row A) → RowOf eq vs r → RowOf eq vs q → r.choice ≡ q.choice → r ≡ q
  row_one r q h k e =
      row_is r q e (h.counts ∙ ap (λ (x : A). support eq x (choices vs)) e ∙ sym k.counts)
      (lowest_one r.lowest q.lowest (supporters eq q.choice vs) (subst (λ (x : A). Lowest r.lowest (supporters eq x vs)) e h.least_voter) k.least_voter)

  -- its choice has support
  pub row_supported : (r : Row A) → RowOf eq vs r → 0 < support eq r.choice (choices vs)
  row_supported r h = omega (arith, h.some, h.counts)

  -- what has the rows of the votes has the row of each choice with support
  pub row_among : (rs : List (Row A)) → RowsOf eq vs rs → (x : A) → 0 < support eq x (choices vs) → Among (row_for eq vs x) rs
  row_among rs h x l =
      let t = h.each x l in
      subst (λ (r : Row A). Among r rs) (row_one t.0 (row_for eq vs x) (all_one (RowOf eq vs) rs h.only t.0 t.2) (row_for_of x l) t.1) t.2

  -- two lists that have the rows of the votes have the same rows
  pub rows_same : (rs qs : List (Row A)) → RowsOf eq vs rs → RowsOf eq vs qs → (r : Row A) → Among r rs → Among r qs
  rows_same rs qs h k r m =
      let o = all_one (RowOf eq vs) rs h.only r m in
      let l = row_supported r o in
      subst (λ (q : Row A). Among q qs) (row_one (row_for eq vs r.choice) r (row_for_of r.choice l) o refl) (row_among qs k r.choice l)
