-- The board has a row for each choice that a voter has and for no other, in order, and it is the only such list; its first row is the greatest, and the lowest voter of a row has the row's choice.
-- Assumes nothing.
use Prim.Native.Nat.{ℕ, ◌<◌}
use mathlib.Core.Path.{◌≡◌, refl, sym, ap, subst, ◌∙◌}
use mathlib.Core.List.{List, [], ◌∷◌, map}
use mathlib.Core.Bool.{Bool, true, false}
use mathlib.Core.Logic.{◌⊎◌, inl, inr, ⊎_elim}
use native.Mathlib.Omega.{arith}
use lib.Dec.{ltb}
use borrow.Author.Tests.{ltb-true, ltb-false}
use Rattle.bincode.specs.Stands.{All}
use Rattle.lists.specs.Lists.{lookup, found}
use Rattle.lists.proofs.ListLaws.{false_true}
use Rattle.winner.specs.Support.{support, Cast, choices, voters, lowest}
use Rattle.winner.specs.Board.{Row, first_choices, row_for, board}
use Rattle.winner.specs.BoardTerms.{Among, Unrepeated, Before, Ordered, RowOf, RowsOf, IsBoard}
use Rattle.winner.proofs.AmongLaws.{all_one, all_follows, all_map, among_map}
use Rattle.winner.proofs.BoardOrder.{in_order_all, in_order_among}
use Rattle.winner.proofs.OrderedLaws.{Apart, AllApart, in_order_ordered, ordered_one}
use Rattle.winner.proofs.SupporterLaws.{lowest_supporter, supporter_cast, one_choice}
use Rattle.winner.proofs.FirstChoices.{Different, first_supported, first_among, first_different}
use Rattle.winner.proofs.BoardRows.{row_for_of, row_among, rows_same}

module _ {A : Type 0} (eq : A → A → Bool) (eq-true : (x y : A) → eq x y ≡ true → x ≡ y) (eq_refl : (x : A) → eq x x ≡ true) where
  -- the board has a row for each choice that a voter has, with its count and its lowest voter, and no other, repeated voters or not
  pub board_rows : (vs : List (Cast A)) → RowsOf eq vs (board eq vs)
  unfolding board support
  board_rows vs = record {
    each = λ x h. (
      row_for eq vs x,
      refl,
      in_order_among (λ (r : Row A). r.count) (λ (r : Row A). r.lowest) (row_for eq vs x) [] (map (row_for eq vs) xs)
          (inr (among_map (row_for eq vs) x xs (first_among eq eq-true [] (choices vs) x refl h))),
    );
    only = in_order_all (λ (r : Row A). r.count) (λ (r : Row A). r.lowest) (RowOf eq vs) [] (map (row_for eq vs) xs) tt (all_map (row_for eq vs) (RowOf eq vs) xs rows);
  }
    where
      xs : List A
      xs = first_choices eq [] (choices vs)

      rows : All (λ (x : A). RowOf eq vs (row_for eq vs x)) xs
      rows = all_follows (λ (x : A). 0 < support eq x (choices vs)) (λ (x : A). RowOf eq vs (row_for eq vs x)) (row_for_of eq vs) xs (first_supported eq eq_refl [] (choices vs))

  -- where no voter is repeated, the rows of two choices have different lowest voters, so one stands before the other
  pub rows_apart : (vs : List (Cast A)) → Unrepeated (voters vs) → (x y : A) → 0 < support eq x (choices vs) → 0 < support eq y (choices vs) → eq x y ≡ false
      → Apart (row_for eq vs x) (row_for eq vs y)
  rows_apart vs u x y h k n = go (ltb i j) refl (ltb j i) refl (ltb (lowest eq x vs) (lowest eq y vs)) refl
    where
      i : ℕ
      i = support eq x (choices vs)

      j : ℕ
      j = support eq y (choices vs)

      other : lowest eq x vs ≡ lowest eq y vs → ⊥
      other e =
          let m = (lowest_supporter eq x vs h).0 in
          let q : x ≡ y = one_choice eq eq-true (lowest eq y vs) x y vs u (rw e at m) (lowest_supporter eq y vs k).0 in
          false_true (sym n ∙ rw q (eq_refl y))

      go : (a : Bool) → ltb i j ≡ a → (b : Bool) → ltb j i ≡ b → (c : Bool) → ltb (lowest eq x vs) (lowest eq y vs) ≡ c → Apart (row_for eq vs x) (row_for eq vs y)
      go true s b t c w = inr (inl (ltb-true i j s))
      go false s true t c w = inl (inl (ltb-true j i t))
      go false s false t true w = inl (inr (omega (arith, ltb-false i j s, ltb-false j i t), ltb-true (lowest eq x vs) (lowest eq y vs) w))
      go false s false t false w =
          let l = ltb-false (lowest eq x vs) (lowest eq y vs) w in
          inr (inr (omega (arith, ltb-false i j s, ltb-false j i t), omega (arith, other)))

  -- the same of all rows of different choices
  all_apart : (vs : List (Cast A)) → Unrepeated (voters vs) → (xs : List A) → Different eq xs → All (λ (x : A). 0 < support eq x (choices vs)) xs → AllApart (map (row_for eq vs) xs)
  all_apart vs u [] d ps = tt
  all_apart vs u (x ∷ xs) d ps = (each xs d.0 ps.1, all_apart vs u xs d.1 ps.1)
    where
      each : (ys : List A) → All (λ (y : A). eq x y ≡ false) ys → All (λ (y : A). 0 < support eq y (choices vs)) ys → All (Apart (row_for eq vs x)) (map (row_for eq vs) ys)
      each [] d ps = tt
      each (y ∷ ys) d qs = (rows_apart vs u x y ps.0 qs.0 d.0, each ys d.1 qs.1)

  -- where no voter is repeated, each row stands before all that are behind it
  pub board_ordered : (vs : List (Cast A)) → Unrepeated (voters vs) → Ordered (board eq vs)
  unfolding board
  board_ordered vs u =
      in_order_ordered [] (map (row_for eq vs) xs) (none (map (row_for eq vs) xs)) (all_apart vs u xs (first_different eq [] (choices vs)) (first_supported eq eq_refl [] (choices vs))) tt
    where
      xs : List A
      xs = first_choices eq [] (choices vs)

      none : (rs : List (Row A)) → All (λ (r : Row A). All (Apart r) []) rs
      none [] = tt
      none (r ∷ rs) = (tt, none rs)

  -- so it is the board that 02 says
  pub board_is : (vs : List (Cast A)) → Unrepeated (voters vs) → IsBoard eq vs (board eq vs)
  board_is vs u = record { rows = board_rows vs; ordered = board_ordered vs u }

  -- and no other list is
  pub board_only : (vs : List (Cast A)) → Unrepeated (voters vs) → (rs : List (Row A)) → IsBoard eq vs rs → rs ≡ board eq vs
  board_only vs u rs h =
      ordered_one rs (board eq vs) h.ordered (board_ordered vs u) (rows_same eq vs rs (board eq vs) h.rows (board_rows vs)) (rows_same eq vs (board eq vs) rs (board_rows vs) h.rows)

  -- where no voter is repeated, the first row stands before the row of every other choice that has a voter
  pub first_greatest : (vs : List (Cast A)) → Unrepeated (voters vs) → (r : Row A) (rs : List (Row A)) → board eq vs ≡ r ∷ rs
      → (y : A) → 0 < support eq y (choices vs) → (y ≡ r.choice) ⊎ Before r (row_for eq vs y)
  first_greatest vs u r rs e y h =
      let m : Among (row_for eq vs y) (r ∷ rs) = subst (Among (row_for eq vs y)) e (row_among eq vs (board eq vs) (board_rows vs) y h) in
      let o : Ordered (r ∷ rs) = subst Ordered e (board_ordered vs u) in
      ⊎_elim (λ (q : row_for eq vs y ≡ r). inl (ap (λ (p : Row A). p.choice) q)) (λ (n : Among (row_for eq vs y) rs). inr (all_one (Before r) rs o.0 (row_for eq vs y) n)) m

  -- where no voter is repeated, the lowest voter of a row, looked up among the votes, has the row's choice
  pub row_cast : (vs : List (Cast A)) → Unrepeated (voters vs)
      → All (λ (r : Row A). lookup (λ (v : Cast A). v.voter) vs r.lowest ≡ found (record { voter = r.lowest; choice = r.choice })) (board eq vs)
  row_cast vs u =
      all_follows (RowOf eq vs) (λ (r : Row A). lookup (λ (v : Cast A). v.voter) vs r.lowest ≡ found (record { voter = r.lowest; choice = r.choice }))
      (λ r h. supporter_cast eq eq-true r.lowest r.choice vs u h.least_voter.0) (board eq vs) (board_rows vs).only
