-- Single sentences of the scope document, said of the recipe: whose shares are named, whose values are used, when the share is missing.
-- Assumes nothing.
use Prim.Native.Nat.{ℕ, zero, suc, ◌+◌, ◌*◌, ◌≤◌, ◌<◌}
use mathlib.Core.Path.{◌≡◌, refl, ap, ◌∙◌}
use mathlib.Core.List.{List, [], ◌∷◌, ◌++◌, map}
use mathlib.Core.Bool.{Bool, true, false, cond, ◌||◌}
use native.Mathlib.Omega.{arith}
use native.Mathlib.Numerals.{add-one}
use lib.Dec.{ltb}
use lib.ListN.{length, take}
use borrow.Author.Tests.{lt-ltb, le-ltb}
use Rattle.std.specs.Prelude.{Some, None}
use Rattle.std.specs.declared.option.Option.{Option}
use Rattle.lists.specs.Lists.{marked, present, filter}
use Rattle.util.specs.MaxFaulty.{max_faulty}
use Rattle.bincode.specs.Stands.{Each}
use Rattle.network_info.specs.NetworkInfo.{is_member}
use Rattle.key_gen.specs.declared.Proposal.{Proposal}
use Rattle.key_gen.specs.KeyGen.{ProposalOf, KeyGenOf, proposal_at, complete, indices, parts_of}
use Rattle.recipe.specs.Recipe.{ShareOf, observer, share, missing, some_short, recipe}

-- fewer than t+1 good values of one of them are too few
some_short_lem : (t : ℕ) (before behind : List ProposalOf) (q : ProposalOf) → length q.good < t + 1 → some_short t (before ++ (q ∷ behind)) ≡ true
unfolding some_short
some_short_lem t [] behind q h = rw (lt-ltb (length q.good) (t + 1) h)
some_short_lem t (x ∷ before) behind q h = go (ltb (length x.good) (t + 1)) (some_short_lem t before behind q h)
  where
    go : (b : Bool) → some_short t (before ++ (q ∷ behind)) ≡ true → (b || some_short t (before ++ (q ∷ behind))) ≡ true
    go true e = refl
    go false e = e

-- t+1 of each are enough
none_short : (t : ℕ) (qs : List ProposalOf) → ((before behind : List ProposalOf) (q : ProposalOf) → qs ≡ before ++ (q ∷ behind) → t + 1 ≤ length q.good) → some_short t qs ≡ false
unfolding some_short
none_short t [] h = refl
none_short t (x ∷ qs) h =
    rw (le-ltb (length x.good) (t + 1) (h [] qs x refl)) (none_short t qs (λ before behind q e. h (x ∷ before) behind q (ap (λ (ys : List ProposalOf). x ∷ ys) e)))

module _ (g : KeyGenOf) where
  -- t of the new map
  abbrev t : ℕ
  t = max_faulty (length g.nodes)

  -- the parts with more than 2t acknowledgers
  abbrev completed : List ProposalOf
  completed = filter (λ (q : ProposalOf). ltb (2 * t) (length q.acks)) g.parts

  -- 01: "an observer's names proposers only", the complete ones
  pub observer_names : is_member g.nodes g.our_id ≡ false → recipe g ≡ observer (map (λ (q : ProposalOf). q.proposer) completed)
  unfolding recipe complete
  observer_names o = rw o

  module _ (own : is_member g.nodes g.our_id ≡ true) where
    -- "complete proposers .. and, for each, the first t+1 acknowledgers with good values", where each has as many
    pub shares_named : ((before behind : List ProposalOf) (q : ProposalOf) → completed ≡ before ++ (q ∷ behind) → t + 1 ≤ length q.good)
        → recipe g ≡ share (map {B = ShareOf} (λ (q : ProposalOf). record { proposer = q.proposer; used = take (t + 1) q.good }) completed)
    unfolding recipe complete
    shares_named h = rw (own, none_short t completed h)

    -- "If fewer exist, the recipe says the share is missing"
    pub share_missing : (before behind : List ProposalOf) (q : ProposalOf) → completed ≡ before ++ (q ∷ behind) → length q.good < t + 1
        → recipe g ≡ missing (map (λ (q : ProposalOf). q.proposer) completed)
    unfolding recipe complete
    share_missing before behind q e h =
        let s : some_short t completed ≡ true = ap (some_short t) e ∙ some_short_lem t before behind q h in
        rw (own, s)

-- numbers that ascend, none below the least
abbrev pub Ascend : ℕ → List ℕ → Type 0
Ascend = Each (λ (low x : ℕ). x + 1) (λ low x. low ≤ x)

lower : (low high : ℕ) (xs : List ℕ) → low ≤ high → Ascend high xs → Ascend low xs
lower low high [] h s = tt
lower low high (x ∷ xs) h s = let l = s.0 in (omega arith, s.1)

-- the proposers of some parts, and those of the recorded parts from place i on of which a test holds
abbrev names : List ProposalOf → List ℕ
names qs = map (λ (q : ProposalOf). q.proposer) qs

module _ (named : ProposalOf → Bool) where
  abbrev names_from : ℕ → List (Option Proposal) → List ℕ
  names_from i ps = names (filter named (present proposal_at i ps))

  proposers_from : (ps : List (Option Proposal)) (i : ℕ) → Ascend i (names_from i ps)
  unfolding present filter
  proposers_from [] i = tt
  proposers_from (None ∷ ps) i = lower i (suc i) (names_from (suc i) ps) (omega arith) (proposers_from ps (suc i))
  proposers_from (Some p ∷ ps) i = go (named (proposal_at i p)) (proposers_from ps (suc i))
    where
      go : (b : Bool) → Ascend (suc i) (names_from (suc i) ps)
          → Ascend i (names (cond b (proposal_at i p ∷ filter named (present proposal_at (suc i) ps)) (filter named (present proposal_at (suc i) ps))))
      go true e = (omega arith, rw (add-one i) e)
      go false e = lower i (suc i) (names_from (suc i) ps) (omega arith) e

  -- "complete proposers ascending": of what code holds, whichever of the parts are named
  pub proposers_ascend : (ps : List (Option Proposal)) → Ascend 0 (map (λ (q : ProposalOf). q.proposer) (filter named (parts_of ps)))
  proposers_ascend ps = proposers_from ps 0

used_from : (n : ℕ) (bs : List Bool) (i : ℕ) → Ascend i (take n (marked (λ b. b) (λ k b. k) i bs))
unfolding marked
used_from zero bs i = tt
used_from (suc n) [] i = tt
used_from (suc n) (true ∷ bs) i = (omega arith, rw (add-one i) (used_from n bs (suc i)))
used_from (suc n) (false ∷ bs) i = lower i (suc i) (take (suc n) (marked (λ b. b) (λ k b. k) (suc i) bs)) (omega arith) (used_from (suc n) bs (suc i))

-- "by ascending index": the acknowledgers of whom the first are taken
pub used_ascend : (n : ℕ) (good : List Bool) → Ascend 0 (take n (indices good))
used_ascend n good = used_from n good 0
