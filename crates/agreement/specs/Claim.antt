-- The claims of demand 3: what is said of a node's whole list of calls, and of two nodes.
use Rattle.std.specs.Prelude.{ℕ, ◌≡◌, List, [], map, length, ◌⊎◌}
use Rattle.lists.specs.Lists.{Found, found, nothing}
use Rattle.bincode.specs.Read.{Read, value, refuse, whole}
use Rattle.bincode.specs.Numbers.{fixed}
use Rattle.bincode.specs.Outcome.{Outcome, done, refused}
use Rattle.bincode.specs.Sizes.{Sizes}
use Rattle.pub_key_map.specs.declared.Node.{Node}
use Rattle.pub_key_map.specs.PubKeyMap.{read_map}
use Rattle.params.specs.declared.Params.{Params}
use Rattle.params.specs.Params.{read_params}
use Rattle.util.specs.MaxFaulty.{max_faulty}
use Rattle.change.specs.Change.{ChangeOf, same_change, in_progress, complete}
use Rattle.winner.specs.WinnerTerms.{Wins}
use Rattle.board.specs.Board.{cast_of}
use Rattle.vote_counter.specs.Carried.{Carries}
use Rattle.batch.specs.Batch.{BatchOf}
use Rattle.join_plan.specs.JoinPlan.{PlanOf, read_plan}
use Rattle.dynamic_honey_badger.specs.State.{StateOf, nodes_in}
use Rattle.dynamic_honey_badger.specs.Asked.{board_at}
use Rattle.reference.specs.Reference.{RefState, open_ref}
use Rattle.reference.specs.Step.{RefReport, ref_run, ref_answers}
use Rattle.agreement.specs.Shared.{ref_of, plan_ref}
use Rattle.agreement.specs.Calls.{Call, run, shared_batches, answers, reports, Start, new_start, join_start}

-- 01, "What two boxes share": the reference state that a start opens, by map, era and parameters, a joiner's by its plan. Own id, own key and lent places do not
-- occur. Nothing, where the bytes cannot be read.
abbrev pub opened_by : ℕ → Read (List Node) → Read Params → Found RefState
opened_by era (value ns c) (value p d) = found (open_ref era ns p)
opened_by era (value ns c) (refuse n) = nothing
opened_by era (refuse n) x = nothing

abbrev pub planned_by : Read PlanOf → Found RefState
planned_by (value p c) = found (plan_ref p)
planned_by (refuse n) = nothing

unfoldable pub ref_start : Sizes → Start → Found RefState
ref_start z (new_start id key era map params) = opened_by era (whole (read_map fixed z map) map) (whole (read_params fixed params) params)
ref_start z (join_start places id key plan) = planned_by (whole (read_plan fixed z plan) plan)

-- from state s on, a list of calls follows the reference state r: after it the node holds what r holds after the shared batches, and it has answered them as r does
abbrev pub FollowsFrom : Sizes → RefState → StateOf → List Call → Type 0
FollowsFrom z r s cs = (ref_of (run z s cs) ≡ ref_run z r (shared_batches z s cs)) × (answers z s cs ≡ ref_answers z r (shared_batches z s cs))

-- the claim of one node: it follows the reference state that its start opens
pub record FollowsStart (z : Sizes) (start : Start) (s : StateOf) (cs : List Call) : Type 0 where
  pub reference : RefState
  pub opens : ref_start z start ≡ found reference
  pub follows : FollowsFrom z reference s cs

-- the claim of two nodes and their lists of calls: the same shared part after them, and the same answers
abbrev pub Agree : Sizes → StateOf → List Call → StateOf → List Call → Type 0
Agree z s cs t ds = (ref_of (run z s cs) ≡ ref_of (run z t ds)) × (answers z s cs ≡ answers z t ds)

-- 02, CR 1: the rows up to row 15, in their order: the numbers by which a batch call of another era may be refused
abbrev pub UpToEra : ℕ → Type 0
UpToEra n = (n ≡ 1) ⊎ ((n ≡ 2) ⊎ ((n ≡ 3) ⊎ ((n ≡ 4) ⊎ (n ≡ 15))))

-- the claim of 02, CR 1, of two lists of calls from one state: the same state after them, the same shared batches, answers and reports
abbrev pub SameOutcome : Sizes → StateOf → List Call → List Call → Type 0
SameOutcome z s cs ds =
    (run z s cs ≡ run z s ds) × (shared_batches z s cs ≡ shared_batches z s ds) × (answers z s cs ≡ answers z s ds) × (reports z s cs ≡ reports z s ds)

-- 02, CR 3: two states have one board: the rows that are kept, and what is handed out at each place
abbrev pub OneBoard : StateOf → StateOf → Type 0
OneBoard s t = (s.counter.board ≡ t.counter.board) × ((n : ℕ) → board_at s n ≡ board_at t n)

-- 02, CR 7: the voters that an answer tells; a refusal tells none
abbrev pub told_voters : Outcome RefReport → List ℕ
told_voters (done r) = r.batch.voters
told_voters (refused n) = []

-- who is listed in a report, and that those carried the change with most support (02, CR 8): v is the state with the batch's own votes, before a new era; the map is the one before the batch
pub record VotersListed (s v : StateOf) (b : BatchOf) : Type 0 where
  pub same_map : v.counter.nodes ≡ nodes_in s
  pub won : ChangeOf
  pub told : (b.change ≡ in_progress won) ⊎ (b.change ≡ complete won)
  pub carries : Carries v.counter (record { change = won; voters = b.voters })
  pub by_most : Wins same_change (map cast_of v.counter.committed) (max_faulty (length v.counter.nodes)) won
