-- How many voters a change has, and who they are: what counting is, that the list is the relation `Carry`, and that both are the engine's.
-- Assumes nothing.
use Prim.Native.Nat.{ℕ, ◌+◌, ◌≤◌, ◌<◌}
use mathlib.Core.Path.{◌≡◌, refl, sym, ap, ◌∙◌}
use mathlib.Core.List.{List, [], ◌∷◌, ◌++◌, map}
use mathlib.Core.Bool.{Bool, true, false, cond}
use mathlib.Core.Logic.{inl, inr, ⊎_elim}
use native.Mathlib.Omega.{arith}
use lib.ListN.{length, length-map}
use Rattle.lists.specs.Lists.{filter}
use Rattle.lists.proofs.ListLaws.{false_true}
use Rattle.bincode.specs.Stands.{All, Each}
use Rattle.winner.specs.Support.{Cast, choices, support, supporters}
use Rattle.winner.specs.BoardTerms.{Among}
use Rattle.winner.proofs.AmongLaws.{among_map, filter_among}
use Rattle.winner.proofs.SupporterLaws.{ascend_lower}
use Rattle.change.specs.Change.{ChangeOf, same_change}
use Rattle.change.proofs.ChangeLaws.{change_true, change_refl}
use Rattle.votes.specs.Votes.{SignedVoteOf}
use Rattle.reference.specs.Winner.{choice_of, votes_for, voters_for, ids_for, Carry, nobody, one, other}

-- a vote as the engine's board takes it
abbrev pub cast_ref : SignedVoteOf → Cast ChangeOf
cast_ref v = record { voter = v.voter; choice = v.vote.change }

-- voters for a change: nobody among nobody; a voter whose change it is makes one more, and no other does
module _ (c : ChangeOf) where
  pub no_voters : voters_for c [] ≡ 0
  unfolding voters_for filter
  no_voters = refl

  pub voter_counts : (v : SignedVoteOf) (vs : List SignedVoteOf) → v.vote.change ≡ c → voters_for c (v ∷ vs) ≡ 1 + voters_for c vs
  unfolding voters_for filter
  voter_counts v vs e = rw (e, change_refl c) (omega arith)

  pub other_voter : (v : SignedVoteOf) (vs : List SignedVoteOf) → (v.vote.change ≡ c → ⊥) → voters_for c (v ∷ vs) ≡ voters_for c vs
  unfolding voters_for filter
  other_voter v vs n = go (same_change (choice_of v) c) refl
    where
      go : (b : Bool) → same_change (choice_of v) c ≡ b → length (cond b (v ∷ filter (λ x. same_change (choice_of x) c) vs) (filter (λ x. same_change (choice_of x) c) vs)) ≡ length (filter (λ x. same_change (choice_of x) c) vs)
      go true e = absurd (n (change_true (choice_of v) c e))
      go false e = refl

  -- the engine counts the same
  pub voters_are : (vs : List SignedVoteOf) → voters_for c vs ≡ support same_change c (choices (map cast_ref vs))
  unfolding voters_for filter support
  voters_are [] = refl
  voters_are (v ∷ vs) = go (same_change (choice_of v) c) (voters_are vs)
    where
      go : (b : Bool) → length (filter (λ x. same_change (choice_of x) c) vs) ≡ support same_change c (choices (map cast_ref vs))
          → length (cond b (v ∷ filter (λ x. same_change (choice_of x) c) vs) (filter (λ x. same_change (choice_of x) c) vs)) ≡ cond b 1 0 + support same_change c (choices (map cast_ref vs))
      go true ih = rw ih (omega arith)
      go false ih = rw ih (omega arith)

  -- 02, CR 7: the ids are those of the voters whose change it is, in the order of the votes
  pub carry_is : {vs : List SignedVoteOf} {ids : List ℕ} → Carry c vs ids → ids_for c vs ≡ ids
  unfolding ids_for filter
  carry_is nobody = refl
  carry_is (one v e k) = rw (e, change_refl c) (ap (λ (ns : List ℕ). v.voter ∷ ns) (carry_is k))
  carry_is (other {vs = vs} v n k) = go (same_change (choice_of v) c) refl (carry_is k)
    where
      rest : List SignedVoteOf
      rest = filter (λ x. same_change (choice_of x) c) vs

      go : {ids : List ℕ} (b : Bool) → same_change (choice_of v) c ≡ b → map (λ x. x.voter) rest ≡ ids → map (λ x. x.voter) (cond b (v ∷ rest) rest) ≡ ids
      go true e ih = absurd (n (change_true (choice_of v) c e))
      go false e ih = ih

  -- they ascend where the voters do
  pub carry_ascends : {vs : List SignedVoteOf} {ids : List ℕ} (low : ℕ) → Each (λ (least : ℕ) (v : SignedVoteOf). v.voter + 1) (λ least v. least ≤ v.voter) low vs → Carry c vs ids
      → Each (λ (least : ℕ) (id : ℕ). id + 1) (λ least id. least ≤ id) low ids
  carry_ascends low a nobody = tt
  carry_ascends low a (one v e k) = (a.0, carry_ascends (v.voter + 1) a.1 k)
  carry_ascends low a (other {ids = ids} v n k) = let l = a.0 in ascend_lower ids (v.voter + 1) low (omega (arith, l)) (carry_ascends (v.voter + 1) a.1 k)

  -- of any votes there is such a list
  pub carry_all : (vs : List SignedVoteOf) → Carry c vs (ids_for c vs)
  unfolding ids_for filter
  carry_all [] = nobody
  carry_all (v ∷ vs) = go (same_change (choice_of v) c) refl (carry_all vs)
    where
      rest : List SignedVoteOf
      rest = filter (λ x. same_change (choice_of x) c) vs

      go : (b : Bool) → same_change (choice_of v) c ≡ b → Carry c vs (map (λ x. x.voter) rest) → Carry c (v ∷ vs) (map (λ x. x.voter) (cond b (v ∷ rest) rest))
      go true e k = one v (change_true (choice_of v) c e) k
      go false e k = other v (λ q. false_true (sym e ∙ ap (λ (x : ChangeOf). same_change x c) q ∙ change_refl c)) k

  -- there are as many ids as voters
  pub ids_counted : (vs : List SignedVoteOf) → length (ids_for c vs) ≡ voters_for c vs
  unfolding ids_for voters_for
  ids_counted vs = length-map (votes_for c vs) (λ v. v.voter)

  -- the engine lists the same
  pub ids_are : (vs : List SignedVoteOf) → ids_for c vs ≡ supporters same_change c (map cast_ref vs)
  unfolding ids_for filter supporters
  ids_are [] = refl
  ids_are (v ∷ vs) = go (same_change (choice_of v) c) (ids_are vs)
    where
      rest : List SignedVoteOf
      rest = filter (λ x. same_change (choice_of x) c) vs

      go : (b : Bool) → map (λ x. x.voter) rest ≡ supporters same_change c (map cast_ref vs)
          → map (λ x. x.voter) (cond b (v ∷ rest) rest) ≡ cond b (v.voter ∷ supporters same_change c (map cast_ref vs)) (supporters same_change c (map cast_ref vs))
      go true ih = ap (λ (ns : List ℕ). v.voter ∷ ns) ih
      go false ih = ih

  -- a change with voters is that of one of them
  pub voter_found : (vs : List SignedVoteOf) → 0 < voters_for c vs → (v : SignedVoteOf) × Among v vs × (v.vote.change ≡ c)
  unfolding voters_for
  voter_found vs h = go (votes_for c vs) h (λ v m. filter_among (λ x. same_change (choice_of x) c) v vs m)
    where
      go : (ws : List SignedVoteOf) → 0 < length ws → ((v : SignedVoteOf) → Among v ws → Among v vs × (same_change (choice_of v) c ≡ true)) → (v : SignedVoteOf) × Among v vs × (v.vote.change ≡ c)
      go [] l each = absurd (let y : ⊥ = omega arith in y)
      go (w ∷ ws) l each = let t = each w (inl refl) in (w, t.0, change_true (choice_of w) c t.1)

-- the choices of votes as casts
pub choices_append : (vs : List SignedVoteOf) (v : SignedVoteOf) (ws : List SignedVoteOf) → choices (map cast_ref (vs ++ (v ∷ ws))) ≡ choices (map cast_ref vs) ++ (choice_of v ∷ choices (map cast_ref ws))
choices_append [] v ws = refl
choices_append (u ∷ vs) v ws = ap (λ (xs : List ChangeOf). choice_of u ∷ xs) (choices_append vs v ws)

pub voter_among : (v : SignedVoteOf) (vs : List SignedVoteOf) → Among v vs → Among (choice_of v) (choices (map cast_ref vs))
voter_among v vs m = among_map (λ (x : Cast ChangeOf). x.choice) (cast_ref v) (map cast_ref vs) (among_map cast_ref v vs m)

pub among_voter : (c : ChangeOf) (vs : List SignedVoteOf) → Among c (choices (map cast_ref vs)) → (v : SignedVoteOf) × Among v vs × (choice_of v ≡ c)
among_voter c [] m = absurd m
among_voter c (v ∷ vs) m = ⊎_elim (λ e. (v, inl refl, sym e)) (λ n. let t = among_voter c vs n in (t.0, inr t.1, t.2)) m

pub all_choices : (P : ChangeOf → Type 0) (vs : List SignedVoteOf) → All (λ (v : SignedVoteOf). P (choice_of v)) vs → All P (choices (map cast_ref vs))
all_choices P [] a = tt
all_choices P (v ∷ vs) a = (a.0, all_choices P vs a.1)
