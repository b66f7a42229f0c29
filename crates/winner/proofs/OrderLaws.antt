-- 02, CR 8: "the winner does not depend on the order in which votes were counted". Votes of different voters in any order have the same winner, the same list of each choice (CR 7) and the same board (CR 3).
-- Assumes nothing.
use Prim.Native.Nat.{ℕ, ◌+◌, ◌≤◌, ◌<◌}
use mathlib.Core.Path.{◌≡◌, refl, sym, ap, ◌∙◌}
use mathlib.Core.List.{List, [], ◌∷◌, map}
use mathlib.Core.Bool.{Bool, true, false, cond}
use mathlib.Core.Logic.{inl, inr, ⊎_elim}
use native.Mathlib.Omega.{arith}
use Rattle.bincode.specs.Stands.{All}
use Rattle.lists.specs.Lists.{Found, found, nothing}
use Rattle.winner.specs.Support.{Cast, choices, voters, support, supporters}
use Rattle.winner.specs.Board.{Row, board}
use Rattle.winner.specs.BoardTerms.{Among, Unrepeated, Lowest, RowOf, IsBoard}
use Rattle.winner.specs.Winner.{winner}
use Rattle.winner.specs.WinnerTerms.{Beats, Wins, Ascending, ListOf, Reordered, none, same, swap, then}
use Rattle.winner.proofs.AmongLaws.{all_one, all_follows}
use Rattle.winner.proofs.BoardLaws.{board_is, board_only}
use Rattle.winner.proofs.WinnerLaws.{winner_none}
use Rattle.winner.proofs.WinsLaws.{winner_exactly}

-- what is one of a list, holds of each of it, or is counted in it, is so in any order
module _ {A : Type 0} where
  pub order_back : {xs ys : List A} → Reordered xs ys → Reordered ys xs
  order_back none = none
  order_back (same x r) = same x (order_back r)
  order_back (swap x y xs) = swap y x xs
  order_back (then r q) = then (order_back q) (order_back r)

  pub order_self : (xs : List A) → Reordered xs xs
  order_self [] = none
  order_self (x ∷ xs) = same x (order_self xs)

  pub order_among : {xs ys : List A} → Reordered xs ys → (z : A) → Among z xs → Among z ys
  order_among none z m = m
  order_among (same x r) z m = ⊎_elim (λ (e : z ≡ x). inl e) (λ n. inr (order_among r z n)) m
  order_among (swap x y xs) z m = ⊎_elim (λ (e : z ≡ x). inr (inl e)) (λ n. ⊎_elim (λ (e : z ≡ y). inl e) (λ k. inr (inr k)) n) m
  order_among (then r q) z m = order_among q z (order_among r z m)

  pub order_all : (P : A → Type 0) {xs ys : List A} → Reordered xs ys → All P xs → All P ys
  order_all P none a = a
  order_all P (same x r) a = (a.0, order_all P r a.1)
  order_all P (swap x y xs) a = (a.1.0, (a.0, a.1.1))
  order_all P (then r q) a = order_all P q (order_all P r a)

pub order_map : {A B : Type 0} (f : A → B) {xs ys : List A} → Reordered xs ys → Reordered (map f xs) (map f ys)
order_map f none = none
order_map f (same x r) = same (f x) (order_map f r)
order_map f (swap x y xs) = swap (f x) (f y) (map f xs)
order_map f (then r q) = then (order_map f r) (order_map f q)

pub order_unrepeated : {ns ms : List ℕ} → Reordered ns ms → Unrepeated ns → Unrepeated ms
order_unrepeated none u = u
order_unrepeated (same x r) u = (λ m. u.0 (order_among (order_back r) x m), order_unrepeated r u.1)
order_unrepeated (swap x y xs) u = (λ m. ⊎_elim (λ (e : y ≡ x). u.0 (inl (sym e))) u.1.0 m, (λ m. u.0 (inr m), u.1.1))
order_unrepeated (then r q) u = order_unrepeated q (order_unrepeated r u)

pub order_lowest : {ns ms : List ℕ} → Reordered ns ms → (n : ℕ) → Lowest n ns → Lowest n ms
order_lowest r n l = (order_among r n l.0, order_all (λ (m : ℕ). n ≤ m) r l.1)

module _ {A : Type 0} (eq : A → A → Bool) where
  pub order_support : (x : A) {xs ys : List A} → Reordered xs ys → support eq x xs ≡ support eq x ys
  unfolding support
  order_support x none = refl
  order_support x (same y r) = ap (λ (n : ℕ). cond (eq y x) 1 0 + n) (order_support x r)
  order_support x (swap y z xs) = omega arith
  order_support x (then r q) = order_support x r ∙ order_support x q

  pub order_supporters : (x : A) {vs ws : List (Cast A)} → Reordered vs ws → Reordered (supporters eq x vs) (supporters eq x ws)
  unfolding supporters
  order_supporters x none = none
  order_supporters x (same v {xs = vs} {ys = ws} r) = go (eq v.choice x) (order_supporters x r)
    where
      go : (b : Bool) → Reordered (supporters eq x vs) (supporters eq x ws) → Reordered (cond b (v.voter ∷ supporters eq x vs) (supporters eq x vs)) (cond b (v.voter ∷ supporters eq x ws) (supporters eq x ws))
      go true q = same v.voter q
      go false q = q
  order_supporters x (swap v w vs) = go (eq v.choice x) (eq w.choice x)
    where
      go : (a b : Bool) → Reordered (cond a (v.voter ∷ cond b (w.voter ∷ supporters eq x vs) (supporters eq x vs)) (cond b (w.voter ∷ supporters eq x vs) (supporters eq x vs)))
          (cond b (w.voter ∷ cond a (v.voter ∷ supporters eq x vs) (supporters eq x vs)) (cond a (v.voter ∷ supporters eq x vs) (supporters eq x vs)))
      go true true = swap v.voter w.voter (supporters eq x vs)
      go true false = order_self (v.voter ∷ supporters eq x vs)
      go false true = order_self (w.voter ∷ supporters eq x vs)
      go false false = order_self (supporters eq x vs)
  order_supporters x (then r q) = then (order_supporters x r) (order_supporters x q)

  -- what 02 says of a winner, of a list and of a board, of the votes in any order
  module _ {vs ws : List (Cast A)} (r : Reordered vs ws) where
    counted : (x : A) → support eq x (choices vs) ≡ support eq x (choices ws)
    counted x = order_support x (order_map (λ (v : Cast A). v.choice) r)

    back : Reordered ws vs
    back = order_back r

    order_beats : (x y : A) → Beats eq vs x y → Beats eq ws x y
    order_beats x y (inl h) = inl (omega (arith, h, counted x, counted y))
    order_beats x y (inr h) = inr (omega (arith, h.0, counted x, counted y), λ n m i j. h.1 n m (order_lowest (order_supporters x back) n i) (order_lowest (order_supporters y back) m j))

    pub order_wins : (f : ℕ) (x : A) → Wins eq vs f x → Wins eq ws f x
    order_wins f x w =
        record { passes = omega (arith, w.passes, counted x); beats = λ y n h. order_beats x y (w.beats y n (omega (arith, h, counted y))) }

    pub order_list : (x : A) (ns : List ℕ) → ListOf eq vs x ns → ListOf eq ws x ns
    order_list x ns l =
        record {
          ascend = l.ascend;
          each = λ n m. order_among (order_supporters x r) n (l.each n m);
          all = λ n m. l.all n (order_among (order_supporters x back) n m);
        }

    order_row : (q : Row A) → RowOf eq vs q → RowOf eq ws q
    order_row q h = record { some = h.some; counts = h.counts ∙ counted q.choice; least_voter = order_lowest (order_supporters q.choice r) q.lowest h.least_voter }

    pub order_board : (qs : List (Row A)) → IsBoard eq vs qs → IsBoard eq ws qs
    order_board qs b =
        record {
          rows = record { each = λ x h. b.rows.each x (omega (arith, h, counted x)); only = all_follows (RowOf eq vs) (RowOf eq ws) order_row qs b.rows.only };
          ordered = b.ordered;
        }

-- two ascending lists of the same numbers are equal
ascending_one : (ns ms : List ℕ) → Ascending ns → Ascending ms → ((n : ℕ) → Among n ns → Among n ms) → ((n : ℕ) → Among n ms → Among n ns) → ns ≡ ms
ascending_one [] [] a b f g = refl
ascending_one [] (m ∷ ms) a b f g = absurd (g m (inl refl))
ascending_one (n ∷ ns) [] a b f g = absurd (f n (inl refl))
ascending_one (n ∷ ns) (m ∷ ms) a b f g = rw (heads, ascending_one ns ms a.1 b.1 (λ k i. tail_in k i) (λ k i. tail_out k i))
  where
    above_n : (k : ℕ) → Among k ns → n < k
    above_n k i = all_one (λ (j : ℕ). n < j) ns a.0 k i

    above_m : (k : ℕ) → Among k ms → m < k
    above_m k i = all_one (λ (j : ℕ). m < j) ms b.0 k i

    heads : n ≡ m
    heads =
        ⊎_elim (λ (e : n ≡ m). e)
        (λ (i : Among n ms). ⊎_elim (λ (e : m ≡ n). sym e) (λ (j : Among m ns). absurd (let w : ⊥ = omega (arith, above_n m j, above_m n i) in w)) (g m (inl refl)))
        (f n (inl refl))

    tail_in : (k : ℕ) → Among k ns → Among k ms
    tail_in k i = ⊎_elim (λ (e : k ≡ m). absurd (let w : ⊥ = omega (arith, above_n k i, heads, e) in w)) (λ (j : Among k ms). j) (f k (inr i))

    tail_out : (k : ℕ) → Among k ms → Among k ns
    tail_out k i = ⊎_elim (λ (e : k ≡ n). absurd (let w : ⊥ = omega (arith, above_m k i, heads, e) in w)) (λ (j : Among k ns). j) (g k (inr i))

-- the list of a choice is one
pub same_list : {A : Type 0} (eq : A → A → Bool) {vs ws : List (Cast A)} → Reordered vs ws → (x : A) (ns ms : List ℕ) → ListOf eq vs x ns → ListOf eq ws x ms → ns ≡ ms
same_list eq r x ns ms l k =
    let h = order_list eq r x ns l in
    ascending_one ns ms l.ascend k.ascend (λ n i. k.all n (h.each n i)) (λ n i. h.all n (k.each n i))

module _ {A : Type 0} (eq : A → A → Bool) (eq-true : (x y : A) → eq x y ≡ true → x ≡ y) (eq_refl : (x : A) → eq x x ≡ true) {vs ws : List (Cast A)} (r : Reordered vs ws) where
  module _ (apart : Unrepeated (voters vs)) where
    apart_too : Unrepeated (voters ws)
    apart_too = order_unrepeated (order_map (λ (v : Cast A). v.voter) r) apart

    pub same_winner : (f : ℕ) → winner eq f vs ≡ winner eq f ws
    same_winner f = go (winner eq f vs) refl
      where
        go : (w : Found A) → winner eq f vs ≡ w → w ≡ winner eq f ws
        go (found x) e = sym ((winner_exactly eq eq-true eq_refl ws f apart_too x).1 (order_wins eq r f x ((winner_exactly eq eq-true eq_refl vs f apart x).0 e)))
        go nothing e = sym ((winner_none eq f ws eq-true).1 (λ x. omega (arith, (winner_none eq f vs eq-true).0 e x, order_support eq x (order_map (λ (v : Cast A). v.choice) r))))

    pub same_board : board eq vs ≡ board eq ws
    same_board = board_only eq eq-true eq_refl ws apart_too (board eq vs) (order_board eq r (board eq vs) (board_is eq eq-true eq_refl vs apart))
