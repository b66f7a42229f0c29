-- In a formed state no list is longer than the map that it goes by: there are no more votes than nodes, so a member's vote always has a place, and no more rows of the board; no more parts
-- than nodes of the candidate map, and no more acknowledgers or good values of a part.
-- Assumes nothing.
use Prim.Native.Nat.{ℕ, ◌+◌, ◌-◌, ◌≤◌, ◌<◌}
use mathlib.Core.Path.{◌≡◌, refl, ap}
use mathlib.Core.List.{List, [], ◌∷◌}
use mathlib.Core.Bool.{Bool, true, false}
use native.Mathlib.Omega.{arith}
use lib.ListN.{length}
use Rattle.lists.specs.Lists.{insert, has_key, insert_within}
use Rattle.lists.proofs.SortedLaws.{within_same, within_new}
use Rattle.bincode.specs.Sizes.{Sizes}
use Rattle.bincode.specs.Stands.{All}
use Rattle.pub_key_map.specs.declared.Node.{Node}
use Rattle.network_info.specs.NetworkInfo.{is_member}
use Rattle.votes.specs.Votes.{SignedVoteOf}
use Rattle.signed_votes.specs.SignedVotes.{voter_of}
use Rattle.signed_votes.proofs.VotesLaws.{AscendsFrom, insert_ascends, all_insert}
use Rattle.board.proofs.HandedLaws.{worked_few}
use Rattle.key_gen.specs.KeyGen.{ProposalOf, by_proposer}
use Rattle.key_gen_state.specs.KeyGenState.{KeyGenStateOf}
use Rattle.dynamic_honey_badger.specs.State.{StateOf, nodes_in}
use Rattle.vote_counter.proofs.MemberLaws.{few_keyed}
use Rattle.agreement.specs.Formed.{MapFormed, VotesFormed, PartFormed, KeyGenFormed, Formed}
use Rattle.agreement.proofs.AllLaws.{all_then, insert_length}

module _ {A : Type 0} (key : A → ℕ) where
  -- ascending keys below n are no more than n
  few_below : (n low : ℕ) (xs : List A) → AscendsFrom key low xs → All (λ (x : A). key x < n) xs → length xs ≤ n - low
  few_below n low [] s b = omega arith
  few_below n low (x ∷ xs) s b = let l = s.0 in let h = b.0 in omega (arith, few_below n (key x + 1) xs s.1 b.1)

module _ (z : Sizes) (ns : List Node) (m : MapFormed z ns) (vs : List SignedVoteOf) (f : VotesFormed z ns vs) where
  -- there are no more votes than nodes
  pub few_votes : length vs ≤ length ns
  few_votes = few_keyed ns voter_of 0 vs f.ascend f.voters

  -- a member's vote has a place, whether the member has voted or not
  pub vote_place : (v : SignedVoteOf) → is_member ns v.voter ≡ true → insert_within voter_of z.nodes v vs ≡ insert voter_of v vs
  vote_place v e = go (has_key voter_of v.voter vs) refl
    where
      more : length (insert voter_of v vs) ≤ length ns
      more =
          few_keyed ns voter_of 0 (insert voter_of v vs) (insert_ascends voter_of v vs f.ascend)
          (all_insert (λ (x : SignedVoteOf). is_member ns x.voter ≡ true) voter_of v e vs f.voters)

      go : (b : Bool) → has_key voter_of v.voter vs ≡ b → insert_within voter_of z.nodes v vs ≡ insert voter_of v vs
      go true q = within_same voter_of z.nodes v vs q
      go false q = let h = m.map_ok.few in within_new voter_of z.nodes v vs q (omega (arith, (insert_length voter_of v vs).1 q, more))

-- in a formed state there are no more votes than nodes, pending or committed, and each member's vote has a place
module _ (z : Sizes) (s : StateOf) (f : Formed z s) where
  pub few_committed : length s.counter.committed ≤ length (nodes_in s)
  few_committed = few_votes z (nodes_in s) f.nodes_formed s.counter.committed f.committed_formed

  pub few_pending : length s.counter.pending ≤ length (nodes_in s)
  few_pending = few_votes z (nodes_in s) f.nodes_formed s.counter.pending f.pending_formed

  -- 02, CR 3: the board has no more rows than the map has nodes
  pub few_rows : length s.counter.board ≤ length (nodes_in s)
  few_rows = omega (arith, ap length f.board_worked, worked_few s.counter.committed, few_committed)

  pub committed_place : (v : SignedVoteOf) → is_member (nodes_in s) v.voter ≡ true → insert_within voter_of z.nodes v s.counter.committed ≡ insert voter_of v s.counter.committed
  committed_place = vote_place z (nodes_in s) f.nodes_formed s.counter.committed f.committed_formed

  pub pending_place : (v : SignedVoteOf) → is_member (nodes_in s) v.voter ≡ true → insert_within voter_of z.nodes v s.counter.pending ≡ insert voter_of v s.counter.pending
  pending_place = vote_place z (nodes_in s) f.nodes_formed s.counter.pending f.pending_formed

-- key generation has no more parts than the candidate map has nodes, and no part has more acknowledgers or good values
pub few_parts : (z : Sizes) (id : ℕ) (g : KeyGenStateOf) → KeyGenFormed z id g → length g.key_gen.parts ≤ length g.key_gen.nodes
few_parts z id g f =
    let n = length g.key_gen.nodes in
    let b = all_then (PartFormed n) (λ (q : ProposalOf). q.proposer < n) (λ q p. p.proposer_below) g.key_gen.parts f.parts_formed in
    omega (arith, few_below by_proposer n 0 g.key_gen.parts f.parts_ascend b)

pub few_acks : (n : ℕ) (q : ProposalOf) → PartFormed n q → length q.acks ≤ n
few_acks n q f = omega (arith, few_below (λ (j : ℕ). j) n 0 q.acks f.acks_ascend f.acks_below)

pub few_good : (n : ℕ) (q : ProposalOf) → PartFormed n q → length q.good ≤ n
few_good n q f = omega (arith, few_below (λ (j : ℕ). j) n 0 q.good f.good_ascend f.good_below)
