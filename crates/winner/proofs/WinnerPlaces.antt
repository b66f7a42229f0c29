-- The place that is told with the winner: the first that has its choice; of votes by ascending voter it is that of the winner's lowest voter.
-- Assumes nothing.
use Prim.Native.Nat.{ℕ, zero, suc, ◌≤◌, ◌<◌}
use mathlib.Core.Path.{◌≡◌, refl, sym, ap, subst, ◌∙◌}
use mathlib.Core.List.{List, [], ◌∷◌, ◌++◌}
use mathlib.Core.Bool.{Bool, true, false, cond}
use mathlib.Core.Logic.{◌↔◌, ◌⊎◌, inl, inr, ⊎_elim}
use native.Mathlib.Omega.{arith}
use lib.Dec.{ltb}
use lib.ListN.{length, get_or, take, drop, length-take}
use lib.Seq.{split_at}
use borrow.Author.Tests.{ltb-true, ltb-false}
use Rattle.lists.specs.Lists.{Found, found, nothing, map_found}
use Rattle.lists.proofs.ListLaws.{false_true, found_same, not_found}
use Rattle.bincode.specs.Stands.{All}
use Rattle.winner.specs.Support.{Cast, choices, voters, support, supporters}
use Rattle.winner.specs.BoardTerms.{Among, Lowest}
use Rattle.winner.specs.Winner.{ahead, winner, place_of, winner_place}
use Rattle.winner.specs.WinnerTerms.{Ascending}
use Rattle.winner.proofs.AmongLaws.{all_one, all_follows, all_behind}
use Rattle.winner.proofs.SupporterLaws.{supporter_voter}
use Rattle.winner.proofs.AheadLaws.{never_itself}
use Rattle.winner.proofs.WinnerLaws.{winner_is, winner_among}

module _ {A : Type 0} (eq : A → A → Bool) where
  -- a choice stands behind those that are others
  place_behind : (x : A) (us ts : List A) → eq x x ≡ true → All (λ (u : A). eq u x ≡ false) us → place_of eq x (us ++ (x ∷ ts)) ≡ length us
  unfolding place_of
  place_behind x [] ts e a = rw e
  place_behind x (u ∷ us) ts e a = rw a.0 (ap suc (place_behind x us ts e a.1))

  -- before its place it does not stand
  place_first : (x : A) (xs : List A) (z : A) (j : ℕ) → j < place_of eq x xs → eq (get_or xs j z) x ≡ false
  unfolding place_of
  place_first x [] z j l = absurd (let y : ⊥ = omega arith in y)
  place_first x (y ∷ ys) z j l = go (eq y x) refl j l (place_first x ys z)
    where
      go : (b : Bool) → eq y x ≡ b → (k : ℕ) → k < cond b 0 (suc (place_of eq x ys)) → ((i : ℕ) → i < place_of eq x ys → eq (get_or ys i z) x ≡ false)
          → eq (get_or (y ∷ ys) k z) x ≡ false
      go true e k l ih = absurd (let w : ⊥ = omega arith in w)
      go false e zero l ih = e
      go false e (suc k) l ih = ih k (omega arith)

  module _ (eq-true : (x y : A) → eq x y ≡ true → x ≡ y) (eq_refl : (x : A) → eq x x ≡ true) where
    -- at its place it stands, if it is one of the list
    place_stands : (x : A) (xs : List A) (z : A) → Among x xs → (place_of eq x xs < length xs) × (get_or xs (place_of eq x xs) z ≡ x)
    unfolding place_of
    place_stands x [] z m = absurd m
    place_stands x (y ∷ ys) z m = go (eq y x) refl m (place_stands x ys z)
      where
        go : (b : Bool) → eq y x ≡ b → (x ≡ y) ⊎ Among x ys → (Among x ys → (place_of eq x ys < length ys) × (get_or ys (place_of eq x ys) z ≡ x))
            → (cond b 0 (suc (place_of eq x ys)) < suc (length ys)) × (get_or (y ∷ ys) (cond b 0 (suc (place_of eq x ys))) z ≡ x)
        go true e m ih = (omega arith, eq-true y x e)
        go false e m ih =
            let r = ih (⊎_elim (λ q. absurd (false_true (sym e ∙ ap (λ (w : A). eq w x) (sym q) ∙ eq_refl x))) (λ n. n) m) in
            (omega (arith, r.0), r.1)

    -- of votes by ascending voter, the voter at the first place of a choice is the lowest that has it
    first_lowest : (x : A) (vs : List (Cast A)) (z : Cast A) → Ascending (voters vs) → Among x (choices vs) → Lowest (get_or vs (place_of eq x (choices vs)) z).voter (supporters eq x vs)
    unfolding place_of supporters
    first_lowest x [] z a m = absurd m
    first_lowest x (v ∷ vs) z a m = go (eq v.choice x) refl m (first_lowest x vs z a.1)
      where
        behind : All (λ (n : ℕ). v.voter ≤ n) (supporters eq x vs)
        behind = each (supporters eq x vs) (λ n k. let l = all_one (λ (i : ℕ). v.voter < i) (voters vs) a.0 n (supporter_voter eq n x vs k) in omega arith)
          where
            each : (ns : List ℕ) → ((n : ℕ) → Among n ns → v.voter ≤ n) → All (λ (n : ℕ). v.voter ≤ n) ns
            each [] h = tt
            each (n ∷ ns) h = (h n (inl refl), each ns (λ k i. h k (inr i)))

        go : (b : Bool) → eq v.choice x ≡ b → (x ≡ v.choice) ⊎ Among x (choices vs)
            → (Among x (choices vs) → Lowest (get_or vs (place_of eq x (choices vs)) z).voter (supporters eq x vs))
            → Lowest (get_or (v ∷ vs) (cond b 0 (suc (place_of eq x (choices vs)))) z).voter (cond b (v.voter ∷ supporters eq x vs) (supporters eq x vs))
        go true e m ih = (inl refl, (omega arith, behind))
        go false e m ih = ih (⊎_elim (λ q. absurd (false_true (sym e ∙ ap (λ (w : A). eq w x) (sym q) ∙ eq_refl x))) (λ n. n) m)

    module _ (f : ℕ) (vs : List (Cast A)) (z : A) where
      -- what is said of the place: it is one of the votes, its choice wins, and stands at no earlier place
      abbrev Told : ℕ → Type 0
      Told i = (i < length (choices vs)) × (winner eq f vs ≡ found (get_or (choices vs) i z)) × ((j : ℕ) → j < i → get_or (choices vs) j z ≡ get_or (choices vs) i z → ⊥)

      before : (x : A) (j : ℕ) → j < place_of eq x (choices vs) → get_or (choices vs) j z ≡ x → ⊥
      before x j l q = false_true (sym (place_first x (choices vs) z j l) ∙ ap (λ (w : A). eq w x) q ∙ eq_refl x)

      one : (i : ℕ) → Told i → place_of eq (get_or (choices vs) i z) (choices vs) ≡ i
      one i t = case (ltb k i) refl (ltb i k) refl
        where
          k : ℕ
          k = place_of eq (get_or (choices vs) i z) (choices vs)

          case : (a : Bool) → ltb k i ≡ a → (b : Bool) → ltb i k ≡ b → k ≡ i
          case true e b g =
              absurd (t.2 k (ltb-true k i e) (place_stands (get_or (choices vs) i z) (choices vs) z (winner_among eq f vs (get_or (choices vs) i z) t.1)).1)
          case false e true g = absurd (before (get_or (choices vs) i z) i (ltb-true i k g) refl)
          case false e false g = let l = ltb-false k i e in let m = ltb-false i k g in omega arith

      -- and that is said of one place at most
      pub place_exactly : (i : ℕ) → (winner_place eq f vs ≡ found i) ↔ Told i
      unfolding winner_place
      place_exactly i = (λ e. told (winner eq f vs) refl e, λ t. ap (map_found (λ x. place_of eq x (choices vs))) t.1 ∙ ap found (one i t))
        where
          told : (r : Found A) → winner eq f vs ≡ r → map_found (λ x. place_of eq x (choices vs)) r ≡ found i → Told i
          told nothing w e = absurd (not_found e)
          told (found x) w e =
              let p : place_of eq x (choices vs) ≡ i = found_same e in
              let s = place_stands x (choices vs) z (winner_among eq f vs x w) in
              let t : get_or (choices vs) i z ≡ x = ap (λ (k : ℕ). get_or (choices vs) k z) (sym p) ∙ s.1 in
              (omega (arith, s.0, p), w ∙ ap found (sym t), λ j l q. before x j (omega (arith, p)) (q ∙ t))

      -- of votes by ascending voter it is that of the winner's lowest voter
      pub place_lowest : (i : ℕ) (v : Cast A) → Ascending (voters vs) → winner_place eq f vs ≡ found i → Lowest (get_or vs i v).voter (supporters eq (get_or (choices vs) i z) vs)
      place_lowest i v a e =
          let t = (place_exactly i).0 e in
          subst (λ (k : ℕ). Lowest (get_or vs k v).voter (supporters eq (get_or (choices vs) i z) vs)) (one i t)
          (first_lowest (get_or (choices vs) i z) vs v a (winner_among eq f vs (get_or (choices vs) i z) t.1))

      -- the winner is the choice at that place, and nobody wins where there is none
      pub place_chooses : map_found (λ i. get_or (choices vs) i z) (winner_place eq f vs) ≡ winner eq f vs
      unfolding winner_place
      place_chooses = go (winner eq f vs) refl
        where
          go : (r : Found A) → winner eq f vs ≡ r → map_found (λ i. get_or (choices vs) i z) (map_found (λ x. place_of eq x (choices vs)) r) ≡ r
          go nothing w = refl
          go (found x) w = ap found (place_stands x (choices vs) z (winner_among eq f vs x w)).1

      -- the choice at place i passes f, it is ahead of all before it, and none is ahead of it: that place is told
      pub place_is : (i : ℕ) → i < length (choices vs) → f < support eq (get_or (choices vs) i z) (choices vs)
          → All (λ (u : A). ahead eq vs (get_or (choices vs) i z) u ≡ true) (take i (choices vs)) → All (λ (y : A). ahead eq vs y (get_or (choices vs) i z) ≡ false) (choices vs)
          → winner_place eq f vs ≡ found i
      unfolding winner_place
      place_is i l h a b =
          ap (map_found (λ x. place_of eq x (choices vs)))
          (winner_is eq f vs (take i (choices vs)) own (drop (suc i) (choices vs)) split h a
          (all_behind (λ (y : A). ahead eq vs y own ≡ false) (take i (choices vs)) (own ∷ drop (suc i) (choices vs)) (subst (All (λ (y : A). ahead eq vs y own ≡ false)) split b)).1)
          ∙ ap found (ap (place_of eq own) split ∙ place_behind own (take i (choices vs)) (drop (suc i) (choices vs)) (eq_refl own) (all_follows _ _ (λ u e. others u e) (take i (choices vs)) a) ∙ omega (arith, length-take i (choices vs)))
        where
          own : A
          own = get_or (choices vs) i z

          split : choices vs ≡ take i (choices vs) ++ (own ∷ drop (suc i) (choices vs))
          split = split_at (choices vs) i z l

          others : (u : A) → ahead eq vs own u ≡ true → eq u own ≡ false
          others u e = go (eq u own) refl
            where
              go : (c : Bool) → eq u own ≡ c → c ≡ false
              go true q = absurd (false_true (sym (never_itself eq vs own) ∙ ap (ahead eq vs own) (sym (eq-true u own q)) ∙ e))
              go false q = refl
