-- 01, "What two boxes share": the book. It is fed the start and the shared batches only, nothing of a node's own. Plain lists: nodes by ascending id, votes by
-- ascending voter, parts by ascending proposer, acknowledgers ascending.
use Rattle.std.specs.Prelude.{ℕ, List, []}
use Rattle.lists.specs.Lists.{Found, nothing}
use Rattle.pub_key_map.specs.declared.Node.{Node}
use Rattle.params.specs.declared.Params.{Params}
use Rattle.votes.specs.Votes.{SignedVoteOf}

-- per proposer the commitment and the set of acknowledgers
pub record PartRef : Type 0 where
  pub proposer : ℕ
  pub commit : ℕ
  pub acks : List ℕ

-- the candidate map, with the parts so far
pub record CandidateRef : Type 0 where
  pub nodes : List Node
  pub parts : List PartRef

pub record RefState : Type 0 where
  pub era : ℕ
  pub nodes : List Node
  pub params : Params
  pub votes : List SignedVoteOf
  pub candidate : Found CandidateRef

-- it opens with no votes and no candidate map
abbrev pub open_ref : ℕ → List Node → Params → RefState
open_ref era ns p = record { era = era; nodes = ns; params = p; votes = []; candidate = nothing }
