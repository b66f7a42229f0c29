-- 02, CR 7: "In a counter as in CR 3 its length is greater than f, at most n, and each listed voter's stored vote is for that change when the winner is taken."
-- Assumes nothing.
use Prim.Native.Nat.{ℕ, ◌+◌, ◌<◌}
use mathlib.Core.Path.{◌≡◌, refl, sym, ap, subst, ◌∙◌}
use mathlib.Core.List.{List, [], ◌∷◌, map}
use mathlib.Core.Bool.{Bool, true, false, cond}
use native.Mathlib.Omega.{arith}
use lib.ListN.{length}
use Rattle.lists.specs.Lists.{Found, found, nothing, map_found, lookup}
use Rattle.lists.proofs.ListLaws.{found_same, not_found}
use Rattle.lists.proofs.SortedLaws.{map_lookup}
use Rattle.util.specs.MaxFaulty.{max_faulty}
use Rattle.bincode.specs.Sizes.{Sizes}
use Rattle.bincode.specs.Stands.{All}
use Rattle.pub_key_map.specs.declared.Node.{Node}
use Rattle.network_info.specs.NetworkInfo.{is_member}
use Rattle.change.specs.Change.{ChangeOf, same_change}
use Rattle.change.proofs.ChangeLaws.{change_true, change_refl}
use Rattle.votes.specs.Votes.{SignedVoteOf}
use Rattle.signed_votes.specs.SignedVotes.{voter_of}
use Rattle.signed_votes.proofs.VotesLaws.{AscendsFrom}
use Rattle.winner.specs.Support.{support, Cast, supporters}
use Rattle.winner.specs.BoardTerms.{Among}
use Rattle.winner.proofs.AmongLaws.{all_one}
use Rattle.winner.proofs.SupporterLaws.{ascend_lower, supporters_counted, supporter_cast, cast_supporter}
use Rattle.board.specs.Board.{cast_of}
use Rattle.board.proofs.HandedLaws.{ascending_unrepeated}
use Rattle.vote_counter.specs.VoteCounter.{CounterOf, new_counter, compute_winner, supporters_of, CarriedOf, carried_by, carried}
use Rattle.vote_counter.specs.Calls.{CounterCall, after_calls}
use Rattle.vote_counter.specs.Carried.{Carries}
use Rattle.vote_counter.proofs.CounterLaws.{choices_are, winner_more}
use Rattle.vote_counter.proofs.MemberLaws.{few_keyed}
use Rattle.vote_counter.proofs.BoardKept.{Kept, new_kept, calls_kept}

-- a change has as many voters as it has support
pub voters_counted : (vs : List SignedVoteOf) (x : ChangeOf) → length (supporters_of vs x) ≡ support same_change x (map (λ v. v.vote.change) vs)
unfolding supporters_of
voters_counted vs x = supporters_counted same_change x (map cast_of vs) ∙ ap (support same_change x) (choices_are vs)

-- its voters ascend where all do
pub supporters_ascend : (x : ChangeOf) (low : ℕ) (vs : List SignedVoteOf) → AscendsFrom voter_of low vs → AscendsFrom (λ (i : ℕ). i) low (supporters same_change x (map cast_of vs))
unfolding supporters
supporters_ascend x low [] a = tt
supporters_ascend x low (v ∷ vs) a = go (same_change v.vote.change x) (supporters_ascend x (voter_of v + 1) vs a.1)
  where
    ids : List ℕ
    ids = supporters same_change x (map cast_of vs)

    go : (b : Bool) → AscendsFrom (λ (i : ℕ). i) (voter_of v + 1) ids → AscendsFrom (λ (i : ℕ). i) low (cond b (voter_of v ∷ ids) ids)
    go true s = (a.0, s)
    go false s = let l = a.0 in ascend_lower ids (voter_of v + 1) low (omega (arith, l)) s

-- what holds of every voter holds of those of a change
supporters_all : (P : ℕ → Type 0) (x : ChangeOf) (vs : List SignedVoteOf) → All (λ (v : SignedVoteOf). P (voter_of v)) vs → All P (supporters same_change x (map cast_of vs))
unfolding supporters
supporters_all P x [] a = tt
supporters_all P x (v ∷ vs) a = go (same_change v.vote.change x) (supporters_all P x vs a.1)
  where
    go : (b : Bool) → All P (supporters same_change x (map cast_of vs)) → All P (cond b (voter_of v ∷ supporters same_change x (map cast_of vs)) (supporters same_change x (map cast_of vs)))
    go true s = (a.0, s)
    go false s = s

-- the winner's answer, taken apart: of every counter
module _ (c : CounterOf) (w : CarriedOf) (won : carried c ≡ found w) where
  by_winner : (x : Found ChangeOf) → map_found (carried_by c) x ≡ found w → (x ≡ found w.change) × (w.voters ≡ supporters_of c.committed w.change)
  by_winner (found x) e =
      let q : carried_by c x ≡ w = found_same e in
      let p : x ≡ w.change = ap (λ (y : CarriedOf). y.change) q in
      (ap found p, sym (ap (λ (y : CarriedOf). y.voters) q) ∙ ap (supporters_of c.committed) p)
  by_winner nothing e = absurd (not_found e)

  apart : (compute_winner c ≡ found w.change) × (w.voters ≡ supporters_of c.committed w.change)
  unfolding carried
  apart = by_winner (compute_winner c) won

  pub carried_winner : compute_winner c ≡ found w.change
  carried_winner = apart.0

  pub carried_voters : w.voters ≡ supporters_of c.committed w.change
  carried_voters = apart.1

  -- more than f voters, f of the current map
  pub carried_more : max_faulty (length c.nodes) < length w.voters
  carried_more = let m = winner_more c w.change carried_winner in omega (arith, m, voters_counted c.committed w.change, ap length carried_voters)

  -- of a counter with ascending voters that are all in its map
  module _ (k : Kept c) where
    abbrev ids : List ℕ
    ids = supporters same_change w.change (map cast_of c.committed)

    ids_are : w.voters ≡ ids
    unfolding supporters_of
    ids_are = carried_voters

    ids_ascend : AscendsFrom (λ (i : ℕ). i) 0 ids
    ids_ascend = supporters_ascend w.change 0 c.committed k.ascend

    ids_members : All (λ (i : ℕ). is_member c.nodes i ≡ true) ids
    ids_members = supporters_all (λ (i : ℕ). is_member c.nodes i ≡ true) w.change c.committed k.members

    listed_vote : (id : ℕ) → Among id ids → (v : SignedVoteOf) × (lookup voter_of c.committed id ≡ found v) × (v.vote.change ≡ w.change)
    listed_vote id m =
        go (lookup voter_of c.committed id) refl
        (map_lookup cast_of (λ (v : Cast ChangeOf). v.voter) c.committed id ∙ supporter_cast same_change change_true id w.change (map cast_of c.committed) (ascending_unrepeated 0 c.committed k.ascend) m)
      where
        go : (f : Found SignedVoteOf) → lookup voter_of c.committed id ≡ f → map_found cast_of f ≡ found (record { voter = id; choice = w.change })
            → (v : SignedVoteOf) × (lookup voter_of c.committed id ≡ found v) × (v.vote.change ≡ w.change)
        go (found v) e q = (v, e, ap (λ (x : Cast ChangeOf). x.choice) (found_same q))
        go nothing e q = absurd (not_found q)

    all_votes : (id : ℕ) (v : SignedVoteOf) → lookup voter_of c.committed id ≡ found v → v.vote.change ≡ w.change → Among id ids
    all_votes id v e q =
        subst (λ (x : ChangeOf). Among id (supporters same_change x (map cast_of c.committed))) q
        (cast_supporter same_change change_refl id (cast_of v) (map cast_of c.committed)
        (sym (map_lookup cast_of (λ (x : Cast ChangeOf). x.voter) c.committed id) ∙ ap (map_found cast_of) e))

    pub kept_carries : Carries c w
    kept_carries =
        record {
          is_winner = carried_winner;
          over_f = carried_more;
          within_n = omega (arith, ap length ids_are, few_keyed c.nodes (λ (i : ℕ). i) 0 ids ids_ascend ids_members);
          ascend = subst (AscendsFrom (λ (i : ℕ). i) 0) (sym ids_are) ids_ascend;
          listed = λ id m. listed_vote id (subst (Among id) ids_are m);
          all_listed = λ id v e q. subst (Among id) (sym ids_are) (all_votes id v e q);
          members = λ id m. all_one (λ (i : ℕ). is_member c.nodes i ≡ true) ids ids_members id (subst (Among id) ids_are m);
        }

-- for every id, key, map and era, and every list of calls: wherever a winner is taken after them
pub carried_after : (z : Sizes) (id key : ℕ) (ns : List Node) (era : ℕ) (xs : List CounterCall) (w : CarriedOf)
    → carried (after_calls z (new_counter id key ns era) xs) ≡ found w → Carries (after_calls z (new_counter id key ns era) xs) w
carried_after z id key ns era xs w won = kept_carries _ w won (calls_kept z (new_counter id key ns era) xs (new_kept id key ns era))
