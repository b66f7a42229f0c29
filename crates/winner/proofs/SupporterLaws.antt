-- The voters that have a choice: how many they are, the lowest of them, and the choice that each of them has.
-- Assumes nothing.
use Prim.Native.Nat.{ℕ, ◌+◌, ◌≤◌, ◌<◌}
use mathlib.Core.Path.{◌≡◌, refl, sym, ap, ◌∙◌}
use mathlib.Core.List.{List, [], ◌∷◌, ◌++◌}
use mathlib.Core.Bool.{Bool, true, false, cond}
use mathlib.Core.Logic.{◌⊎◌, inl, inr, ⊎_elim}
use native.Mathlib.Numerals.{add-one}
use native.Mathlib.Omega.{arith}
use lib.Dec.{eqb}
use lib.ListN.{length, take, get_or}
use lib.Seq.{take-suc}
use borrow.Author.Tests.{eqb-true, eqb-false}
use Rattle.bincode.specs.Stands.{Each}
use Rattle.lists.specs.Lists.{Found, found, nothing, lookup}
use Rattle.lists.proofs.ListLaws.{false_true, found_same, not_found}
use Rattle.winner.specs.Support.{support, Cast, choices, voters, least, supporters, lowest}
use Rattle.winner.specs.BoardTerms.{Among, Unrepeated, Lowest}
use Rattle.winner.proofs.AmongLaws.{least_with_lem}

-- a vote is told by its voter and its choice
cast_is : {A : Type 0} (v : Cast A) (n : ℕ) (x : A) → v.voter ≡ n → v.choice ≡ x → v ≡ record { voter = n; choice = x }
cast_is v n x e f = rw (← e, ← f)

-- ids that ascend from a bound on ascend from a lower one on
pub ascend_lower : (ids : List ℕ) (least low : ℕ) → low ≤ least → Each (λ (l : ℕ) (id : ℕ). id + 1) (λ l id. l ≤ id) least ids → Each (λ (l : ℕ) (id : ℕ). id + 1) (λ l id. l ≤ id) low ids
ascend_lower [] least low h s = tt
ascend_lower (id ∷ ids) least low h s = let l = s.0 in (omega (arith, h, l), s.1)

-- the choice of a vote that is found
abbrev choice_in : {A : Type 0} → A → Found (Cast A) → A
choice_in x (found v) = v.choice
choice_in x nothing = x

module _ {A : Type 0} (eq : A → A → Bool) where
  -- the voters of a choice, in two parts of a list
  pub supporters_append : (x : A) (vs ws : List (Cast A)) → supporters eq x (vs ++ ws) ≡ supporters eq x vs ++ supporters eq x ws
  unfolding supporters
  supporters_append x [] ws = refl
  supporters_append x (v ∷ vs) ws = go (eq v.choice x) (supporters_append x vs ws)
    where
      go : (b : Bool) → supporters eq x (vs ++ ws) ≡ supporters eq x vs ++ supporters eq x ws
          → cond b (v.voter ∷ supporters eq x (vs ++ ws)) (supporters eq x (vs ++ ws)) ≡ cond b (v.voter ∷ supporters eq x vs) (supporters eq x vs) ++ supporters eq x ws
      go true e = ap (λ (ns : List ℕ). v.voter ∷ ns) e
      go false e = e

  -- one vote more: its voter comes behind the others, where it is for the choice
  pub next_supporter : (x : A) (vs : List (Cast A)) (j : ℕ) → j < length vs → (z : Cast A)
      → supporters eq x (take (j + 1) vs) ≡ supporters eq x (take j vs) ++ cond (eq (get_or vs j z).choice x) ((get_or vs j z).voter ∷ []) []
  unfolding supporters
  next_supporter x vs j l z = rw (add-one, take-suc vs j z l, supporters_append x (take j vs) (get_or vs j z ∷ []))

  -- a choice has as many voters as it has support
  pub supporters_counted : (x : A) (vs : List (Cast A)) → length (supporters eq x vs) ≡ support eq x (choices vs)
  unfolding supporters support
  supporters_counted x [] = refl
  supporters_counted x (v ∷ vs) = go (eq v.choice x) (supporters_counted x vs)
    where
      go : (b : Bool) → length (supporters eq x vs) ≡ support eq x (choices vs)
          → length (cond b (v.voter ∷ supporters eq x vs) (supporters eq x vs)) ≡ cond b 1 0 + support eq x (choices vs)
      go true e = omega arith
      go false e = omega arith

  -- the lowest voter of a choice that has one is the lowest of its voters
  pub lowest_supporter : (x : A) (vs : List (Cast A)) → 0 < support eq x (choices vs) → Lowest (lowest eq x vs) (supporters eq x vs)
  unfolding lowest
  lowest_supporter x vs h = go (supporters eq x vs) (omega (arith, supporters_counted x vs))
    where
      go : (ns : List ℕ) → 0 < length ns → Lowest (least ns) ns
      go [] l = absurd (let z : ⊥ = omega arith in z)
      go (n ∷ ns) l = least_with_lem n ns

  -- who has a choice is a voter
  pub supporter_voter : (n : ℕ) (x : A) (vs : List (Cast A)) → Among n (supporters eq x vs) → Among n (voters vs)
  unfolding supporters
  supporter_voter n x [] m = m
  supporter_voter n x (v ∷ vs) m = go (eq v.choice x) m (supporter_voter n x vs)
    where
      go : (b : Bool) → Among n (cond b (v.voter ∷ supporters eq x vs) (supporters eq x vs)) → (Among n (supporters eq x vs) → Among n (voters vs)) → (n ≡ v.voter) ⊎ Among n (voters vs)
      go true m ih = ⊎_elim (λ (e : n ≡ v.voter). inl e) (λ (k : Among n (supporters eq x vs)). inr (ih k)) m
      go false m ih = inr (ih m)

  -- where equality is equality and no voter is repeated
  module _ (eq-true : (x y : A) → eq x y ≡ true → x ≡ y) where
    -- a voter that has a choice, looked up, has that choice
    pub supporter_cast : (n : ℕ) (x : A) (vs : List (Cast A)) → Unrepeated (voters vs) → Among n (supporters eq x vs)
        → lookup (λ (v : Cast A). v.voter) vs n ≡ found (record { voter = n; choice = x })
    unfolding supporters lookup
    supporter_cast n x [] u m = absurd m
    supporter_cast n x (v ∷ vs) u m = go (eqb v.voter n) refl (eq v.choice x) refl m (supporter_cast n x vs u.1)
      where
        go : (b : Bool) → eqb v.voter n ≡ b → (c : Bool) → eq v.choice x ≡ c → Among n (cond c (v.voter ∷ supporters eq x vs) (supporters eq x vs))
            → (Among n (supporters eq x vs) → lookup (λ (v : Cast A). v.voter) vs n ≡ found (record { voter = n; choice = x }))
            → cond b (found v) (lookup (λ (v : Cast A). v.voter) vs n) ≡ found (record { voter = n; choice = x })
        go true t true s m ih = ap found (cast_is v n x (eqb-true v.voter n t) (eq-true v.choice x s))
        go true t false s m ih = absurd (u.0 (rw (eqb-true v.voter n t) (supporter_voter n x vs m)))
        go false t true s m ih = ⊎_elim (λ (e : n ≡ v.voter). absurd (eqb-false v.voter n t (sym e))) ih m
        go false t false s m ih = ih m

    -- one voter has one choice
    pub one_choice : (n : ℕ) (x y : A) (vs : List (Cast A)) → Unrepeated (voters vs) → Among n (supporters eq x vs) → Among n (supporters eq y vs) → x ≡ y
    one_choice n x y vs u m k = ap (λ (r : Found (Cast A)). choice_in x r) (sym (supporter_cast n x vs u m) ∙ supporter_cast n y vs u k)

  -- where every choice is equal to itself, a voter whose vote is for a choice is one of its voters
  module _ (eq-refl : (x : A) → eq x x ≡ true) where
    pub cast_supporter : (n : ℕ) (v : Cast A) (vs : List (Cast A)) → lookup (λ (c : Cast A). c.voter) vs n ≡ found v → Among n (supporters eq v.choice vs)
    unfolding supporters lookup
    cast_supporter n v [] e = absurd (not_found e)
    cast_supporter n v (w ∷ vs) e = go (eqb w.voter n) refl (eq w.choice v.choice) refl e (cast_supporter n v vs)
      where
        go : (b : Bool) → eqb w.voter n ≡ b → (c : Bool) → eq w.choice v.choice ≡ c → cond b (found w) (lookup (λ (c : Cast A). c.voter) vs n) ≡ found v
            → (lookup (λ (c : Cast A). c.voter) vs n ≡ found v → Among n (supporters eq v.choice vs))
            → Among n (cond c (w.voter ∷ supporters eq v.choice vs) (supporters eq v.choice vs))
        go true t true s e ih = inl (sym (eqb-true w.voter n t))
        go true t false s e ih = absurd (false_true (sym s ∙ ap (λ (c : Cast A). eq c.choice v.choice) (found_same e) ∙ eq-refl v.choice))
        go false t true s e ih = inr (ih e)
        go false t false s e ih = ih e
