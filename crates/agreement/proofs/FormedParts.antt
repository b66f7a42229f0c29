-- Each step keeps the parts of a state formed: maps, votes.
-- Assumes nothing.
use Prim.Native.Nat.{ℕ, ◌+◌, ◌^◌, ◌<◌}
use mathlib.Core.Path.{◌≡◌}
use mathlib.Core.List.{List, [], ◌∷◌}
use mathlib.Core.Bool.{true}
use native.Mathlib.Omega.{arith}
use Rattle.lists.specs.Lists.{insert_within, filter}
use Rattle.bincode.specs.Sizes.{Sizes}
use Rattle.bincode.specs.Stands.{Each, All}
use Rattle.pub_key_map.specs.declared.Node.{Node}
use Rattle.pub_key_map.specs.PubKeyMap.{following, NodeOk, MapOk}
use Rattle.network_info.specs.NetworkInfo.{is_member}
use Rattle.votes.specs.Votes.{SignedVoteOf, SignedVoteOk}
use Rattle.signed_votes.specs.SignedVotes.{voter_of}
use Rattle.signed_votes.proofs.VotesLaws.{AscendsFrom, within_ascends, all_within}
use Rattle.pub_key_map.specs.PubKeyMap.{id_of}
use Rattle.node_change.specs.NodeChange.{is_not, with_node, without_node}
use Rattle.agreement.specs.Formed.{VotesFormed}
use Rattle.lists.proofs.FilterLaws.{filter_length}
use Rattle.winner.proofs.AmongLaws.{all_filter}
use Rattle.agreement.proofs.AllLaws.{within_length, ascends_filter}

-- a map's nodes ascend, and each has an id and a key that fit
abbrev pub NodeFits : Node → Type 0
NodeFits n = (n.id < 256 ^ 4) × (n.key < 256 ^ 8) × (n.key ≡ 0 → ⊥)

pub map_split : (low : ℕ) (ns : List Node) → Each following NodeOk low ns → AscendsFrom id_of low ns × All NodeFits ns
map_split low [] e = (tt, tt)
map_split low (n ∷ ns) e =
    let o = e.0 in
    let r = map_split (n.id + 1) ns e.1 in
    ((o.ascends, r.0), ((o.id_fits, o.key_fits, o.is_key), r.1))

map_join : (low : ℕ) (ns : List Node) → AscendsFrom id_of low ns → All NodeFits ns → Each following NodeOk low ns
map_join low [] s f = tt
map_join low (n ∷ ns) s f =
    (record { ascends = s.0; id_fits = f.0.0; key_fits = f.0.1; is_key = f.0.2 }, map_join (n.id + 1) ns s.1 f.1)

module _ (z : Sizes) where
  -- a map with one node more is a map
  pub with_node_ok : (ns : List Node) (id key : ℕ) → id < 256 ^ 4 → key < 256 ^ 8 → (key ≡ 0 → ⊥) → MapOk z ns → MapOk z (with_node z ns (record { id = id; key = key }))
  unfolding with_node
  with_node_ok ns id key i k n o =
      let m : Node = record { id = id; key = key } in
      let s = map_split 0 ns o.each in
      record {
        few = within_length id_of z.nodes m ns o.few;
        each = map_join 0 (insert_within id_of z.nodes m ns) (within_ascends id_of z.nodes m ns s.0) (all_within NodeFits id_of m (i, k, n) z.nodes ns s.1);
      }

  -- and so is one with one node less
  pub without_node_ok : (ns : List Node) (id : ℕ) → MapOk z ns → MapOk z (without_node ns id)
  unfolding without_node
  without_node_ok ns id o =
      let s = map_split 0 ns o.each in
      let f = o.few in
      record {
        few = omega (arith, filter_length (is_not id) ns);
        each = map_join 0 (filter (is_not id) ns) (ascends_filter id_of (is_not id) 0 ns s.0) (all_filter NodeFits (is_not id) ns s.1);
      }

module _ (z : Sizes) (ns : List Node) where
  -- no votes
  pub no_votes : VotesFormed z ns []
  no_votes = record { ascend = tt; voters = tt; votes_ok = tt }

  -- a member's vote more
  pub vote_more : (v : SignedVoteOf) (vs : List SignedVoteOf) → is_member ns v.voter ≡ true → SignedVoteOk z v → VotesFormed z ns vs → VotesFormed z ns (insert_within voter_of z.nodes v vs)
  vote_more v vs m o f =
      record {
        ascend = within_ascends voter_of z.nodes v vs f.ascend;
        voters = all_within (λ (x : SignedVoteOf). is_member ns x.voter ≡ true) voter_of v m z.nodes vs f.voters;
        votes_ok = all_within (SignedVoteOk z) voter_of v o z.nodes vs f.votes_ok;
      }
