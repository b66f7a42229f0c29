-- A winner has more than f voters and nobody is ahead of it; none wins exactly if no choice passes f.
-- Assumes nothing.
use Prim.Native.Nat.{ℕ, ◌≤◌, ◌<◌}
use mathlib.Core.Path.{◌≡◌, refl, sym, ap, subst, ◌∙◌}
use mathlib.Core.List.{List, [], ◌∷◌, ◌++◌}
use mathlib.Core.Bool.{Bool, true, false, cond}
use mathlib.Core.Logic.{◌↔◌, inl, inr, ⊎_elim}
use native.Mathlib.Omega.{arith}
use lib.Dec.{ltb}
use lib.ListN.{length, length-map}
use borrow.Author.Tests.{ltb-true, ltb-false, lt-ltb}
use Rattle.lists.specs.Lists.{Found, found, nothing, filter}
use Rattle.lists.proofs.ListLaws.{false_true, found_same, not_found}
use Rattle.lists.proofs.FilterLaws.{filter_append}
use Rattle.bincode.specs.Stands.{All}
use Rattle.winner.specs.Support.{Cast, choices, support}
use Rattle.winner.specs.BoardTerms.{Among}
use Rattle.winner.specs.Winner.{passing, ahead, foremost, foremost_of, winner}
use Rattle.winner.proofs.AmongLaws.{all_one, among_filter, filter_among, all_filter}
use Rattle.winner.proofs.SupportLaws.{support_few, supported_among, denied}
use Rattle.winner.proofs.AheadLaws.{never_itself, ahead_then, ahead_past, fewer_behind}

module _ {A : Type 0} (eq : A → A → Bool) where
  -- among some choices the foremost is one of them, and none of them is ahead of it
  module _ (vs : List (Cast A)) where
    foremost_among : (x : A) (ys : List A) → Among (foremost eq vs x ys) (x ∷ ys)
    unfolding foremost
    foremost_among x [] = inl refl
    foremost_among x (y ∷ ys) = go (ahead eq vs y x) (foremost_among y ys) (foremost_among x ys)
      where
        go : (b : Bool) → Among (foremost eq vs y ys) (y ∷ ys) → Among (foremost eq vs x ys) (x ∷ ys) → Among (foremost eq vs (cond b y x) ys) (x ∷ y ∷ ys)
        go true m n = inr m
        go false m n = ⊎_elim (λ e. inl e) (λ k. inr (inr k)) n

    abbrev Unbeaten : A → List A → Type 0
    Unbeaten best zs = All (λ (z : A). ahead eq vs z best ≡ false) zs

    foremost_unbeaten : (x : A) (ys : List A) → Unbeaten (foremost eq vs x ys) (x ∷ ys)
    unfolding foremost
    foremost_unbeaten x [] = (never_itself eq vs x, tt)
    foremost_unbeaten x (y ∷ ys) = go (ahead eq vs y x) refl (foremost_unbeaten y ys) (foremost_unbeaten x ys)
      where
        behind : (z w best : A) → ahead eq vs w z ≡ true → ahead eq vs w best ≡ false → ahead eq vs z best ≡ false
        behind z w best e f = denied (ahead eq vs z best) (λ g. false_true (sym f ∙ ahead_then eq vs w z best e g))

        beside : (z w best : A) → ahead eq vs w z ≡ false → ahead eq vs z best ≡ false → ahead eq vs w best ≡ false
        beside z w best e f = denied (ahead eq vs w best) (λ g. false_true (sym e ∙ ahead_past eq vs w best z g f))

        go : (b : Bool) → ahead eq vs y x ≡ b → Unbeaten (foremost eq vs y ys) (y ∷ ys) → Unbeaten (foremost eq vs x ys) (x ∷ ys) → Unbeaten (foremost eq vs (cond b y x) ys) (x ∷ y ∷ ys)
        go true e u w = (behind x y (foremost eq vs y ys) e u.0, u)
        go false e u w = (w.0, (beside x y (foremost eq vs x ys) e w.0, w.1))

    -- one that is ahead of all before it, and of which none behind it is ahead, is the foremost
    foremost_stays : (x : A) (ts : List A) → All (λ (t : A). ahead eq vs t x ≡ false) ts → foremost eq vs x ts ≡ x
    unfolding foremost
    foremost_stays x [] a = refl
    foremost_stays x (t ∷ ts) a = rw a.0 (foremost_stays x ts a.1)

    foremost_is : (w x : A) (us ts : List A) → ahead eq vs x w ≡ true → All (λ (u : A). ahead eq vs x u ≡ true) us → All (λ (t : A). ahead eq vs t x ≡ false) ts
        → foremost eq vs w (us ++ (x ∷ ts)) ≡ x
    unfolding foremost
    foremost_is w x [] ts e a b = ap (λ (c : Bool). foremost eq vs (cond c x w) ts) e ∙ foremost_stays x ts b
    foremost_is w x (u ∷ us) ts e a b = go (ahead eq vs u w) (foremost_is u x us ts a.0 a.1 b) (foremost_is w x us ts e a.1 b)
      where
        go : (c : Bool) → foremost eq vs u (us ++ (x ∷ ts)) ≡ x → foremost eq vs w (us ++ (x ∷ ts)) ≡ x → foremost eq vs (cond c u w) (us ++ (x ∷ ts)) ≡ x
        go true p q = p
        go false p q = q

  module _ (f : ℕ) (vs : List (Cast A)) where
    abbrev passes : A → Bool
    passes x = ltb f (support eq x (choices vs))

    -- the winner is the foremost of those that pass
    of_passing : (x : A) (xs : List A) → foremost_of eq vs xs ≡ found x → Among x xs × All (λ (y : A). ahead eq vs y x ≡ false) xs
    of_passing x [] e = absurd (not_found e)
    of_passing x (y ∷ ys) e =
        let q : foremost eq vs y ys ≡ x = found_same e in
        (subst (λ (z : A). Among z (y ∷ ys)) q (foremost_among vs y ys), subst (λ (z : A). All (λ (w : A). ahead eq vs w z ≡ false) (y ∷ ys)) q (foremost_unbeaten vs y ys))

    -- it passes, it is one of the choices, and none of them is ahead of it
    pub winner_passes : (x : A) → winner eq f vs ≡ found x → (f < support eq x (choices vs)) × Among x (choices vs) × ((y : A) → Among y (choices vs) → ahead eq vs y x ≡ false)
    unfolding winner passing
    winner_passes x e = (over, m.0, unbeaten)
      where
        w : Among x (filter passes (choices vs)) × All (λ (y : A). ahead eq vs y x ≡ false) (filter passes (choices vs))
        w = of_passing x (filter passes (choices vs)) e

        m : Among x (choices vs) × (passes x ≡ true)
        m = filter_among passes x (choices vs) w.0

        over : f < support eq x (choices vs)
        over = ltb-true f (support eq x (choices vs)) m.1

        unbeaten : (y : A) → Among y (choices vs) → ahead eq vs y x ≡ false
        unbeaten y n = go (passes y) refl
          where
            go : (b : Bool) → passes y ≡ b → ahead eq vs y x ≡ false
            go true p = all_one (λ (z : A). ahead eq vs z x ≡ false) (filter passes (choices vs)) w.1 y (among_filter passes y (choices vs) n p)
            go false p = fewer_behind eq vs x y (let l = ltb-false f (support eq y (choices vs)) p in omega (arith, over))

    -- its supporters are more than f
    pub winner_supported : (x : A) → winner eq f vs ≡ found x → f < support eq x (choices vs)
    winner_supported x e = (winner_passes x e).0

    -- a winner is one of the choices
    pub winner_among : (x : A) → winner eq f vs ≡ found x → Among x (choices vs)
    winner_among x e = (winner_passes x e).1

    -- the first of those that pass and of which none is ahead wins
    pub winner_is : (us : List A) (x : A) (ts : List A) → choices vs ≡ us ++ (x ∷ ts) → f < support eq x (choices vs)
        → All (λ (u : A). ahead eq vs x u ≡ true) us → All (λ (t : A). ahead eq vs t x ≡ false) ts → winner eq f vs ≡ found x
    unfolding winner passing filter
    winner_is us x ts e h a b =
        ap (foremost_of eq vs)
        (ap (filter passes) e ∙ filter_append passes us (x ∷ ts) ∙ ap (λ (c : Bool). filter passes us ++ cond c (x ∷ filter passes ts) (filter passes ts)) (lt-ltb f (support eq x (choices vs)) h))
        ∙ go (filter passes us) (all_filter (λ (u : A). ahead eq vs x u ≡ true) passes us a)
      where
        go : (ws : List A) → All (λ (w : A). ahead eq vs x w ≡ true) ws → foremost_of eq vs (ws ++ (x ∷ filter passes ts)) ≡ found x
        go [] c = ap found (foremost_stays vs x (filter passes ts) (all_filter (λ (t : A). ahead eq vs t x ≡ false) passes ts b))
        go (w ∷ ws) c = ap found (foremost_is vs w x ws (filter passes ts) c.0 c.1 (all_filter (λ (t : A). ahead eq vs t x ≡ false) passes ts b))

    -- where no choice passes f nobody wins
    pub nobody_wins : ((x : A) → support eq x (choices vs) ≤ f) → winner eq f vs ≡ nothing
    nobody_wins h = go (winner eq f vs) refl
      where
        go : (r : Found A) → winner eq f vs ≡ r → r ≡ nothing
        go (found x) e = absurd (let l = winner_supported x e in let k = h x in let w : ⊥ = omega arith in w)
        go nothing e = refl

    -- so where there are at most f votes
    pub few_nobody : length vs ≤ f → winner eq f vs ≡ nothing
    few_nobody h = nobody_wins (λ x. omega (arith, support_few eq x (choices vs), length-map vs (λ (v : Cast A). v.choice)))

    -- where equality is equality, none wins exactly if no choice passes f
    module _ (eq-true : (x y : A) → eq x y ≡ true → x ≡ y) where
      pub winner_none : (winner eq f vs ≡ nothing) ↔ ((x : A) → support eq x (choices vs) ≤ f)
      unfolding winner passing
      winner_none = (none, nobody_wins)
        where
          empty : (xs : List A) → foremost_of eq vs xs ≡ nothing → (x : A) → Among x xs → ⊥
          empty [] e x m = m
          empty (y ∷ ys) e x m = not_found (sym e)

          none : winner eq f vs ≡ nothing → (x : A) → support eq x (choices vs) ≤ f
          none e x = go (passes x) refl
            where
              go : (b : Bool) → passes x ≡ b → support eq x (choices vs) ≤ f
              go true p =
                  let l = ltb-true f (support eq x (choices vs)) p in
                  absurd (empty (filter passes (choices vs)) e x (among_filter passes x (choices vs) (supported_among eq eq-true x (choices vs) (omega arith)) p))
              go false p = ltb-false f (support eq x (choices vs)) p
