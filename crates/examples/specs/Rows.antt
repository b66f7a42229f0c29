-- 01, "Half-marathon examples": the marked ones (*), in their order; and 02's key messages of a leaving node, boards, join plans in both editions, votes of old numbers, voters behind a winner and winners among several changes over f. A later layer adds its own kind of row here.
use Rattle.std.specs.Prelude.{ℕ, zero, suc, ◌+◌, ◌-◌, ◌^◌, ◌≡◌, List, [], ◌∷◌, Bool, true, false, length, take, replicate}
use Rattle.lists.specs.Lists.{Found, found, nothing}
use Rattle.bincode.specs.Read.{value, whole}
use Rattle.bincode.specs.Outcome.{Outcome, done, refused}
use Rattle.bincode.specs.Numbers.{Edition, fixed, variable}
use Rattle.bincode.specs.Sizes.{base}
use Rattle.util.specs.MaxFaulty.{max_faulty}
use Rattle.honey_badger.specs.declared.EncryptionSchedule.{EncryptionSchedule}
use Rattle.honey_badger.specs.declared.EncryptionSchedule.TheVariants.{Always, Never, EveryNthEpoch, TickTock}
use Rattle.honey_badger.specs.EncryptionSchedule.{use_on_epoch}
use Rattle.change.specs.Change.{ChangeOf, node_change, encryption_schedule, in_progress, complete, same_change}
use Rattle.winner.specs.Board as board
use Rattle.winner.specs.Support.{Cast}
use Rattle.pub_key_map.specs.declared.Node.{Node}
use Rattle.votes.specs.Votes.{VoteOf, SignedVoteOf, vote_bytes}
use Rattle.params.specs.declared.SubsetHandlingStrategy.TheVariants.{Incremental, AllAtEnd}
use Rattle.join_plan.specs.JoinPlan.{PlanOf, read_plan, plan_bytes, plan_converted, conversion_said}
use Rattle.key_gen_message.specs.KeyGenMessage.{part, ack, SignedKeyGenMsgOf}
use Rattle.fault_log.specs.declared.FaultKind.{FaultKind}
use Rattle.fault_log.specs.declared.FaultKind.TheVariants.{InvalidCommittedVote, UnexpectedKeyGenPart, UnexpectedKeyGenAck}
use Rattle.fault_log.specs.declared.Fault.{Fault}
use Rattle.internal_contrib.specs.InternalContrib.{ContribOf}
use Rattle.reference.specs.Reference.{PartRef, RefState, open_ref}
use Rattle.reference.specs.Winner.{most_support}
use Rattle.reference.specs.Step.{is_ready, RefReport, ref_batch}

pub data Row : Type 0 where
  -- f of a number of nodes
  faulty : ℕ → ℕ → Row
  -- who wins among n nodes, from the choices of the voters 1, 2, .. in their order
  won : ℕ → List ChangeOf → Found ChangeOf → Row
  -- whether key generation is ready among n nodes, where the proposers 0, 1, .. have a part each, with so many acks
  finished : ℕ → List ℕ → Bool → Row
  -- the epoch that a batch with an inner epoch reports, and the era after it
  moved : RefState → ℕ → List ContribOf → ℕ → ℕ → Row
  -- the faults that a batch with an inner epoch reports
  blamed : RefState → ℕ → List ContribOf → List Fault → Row
  -- the votes that are stored behind it (02, CR 6)
  kept : RefState → ℕ → List ContribOf → List SignedVoteOf → Row
  -- the voters that its report lists (02, CR 7)
  listed : RefState → ℕ → List ContribOf → List ℕ → Row
  -- the row of the table that refuses it
  denied : RefState → ℕ → List ContribOf → ℕ → Row
  -- the board of some voters with their choices: counts and choices, in order (02, CR 3)
  shown : List (Cast ChangeOf) → List (ℕ × ChangeOf) → Row
  -- a vote as bytes
  encoded : VoteOf → List ℕ → Row
  -- a join plan as bytes of the old edition and of the new one (02, CR 5)
  planned : PlanOf → List ℕ → List ℕ → Row
  -- how many bytes a join plan takes in each
  long : PlanOf → ℕ → ℕ → Row
  -- whether a schedule encrypts an epoch
  encrypted : EncryptionSchedule → ℕ → Bool → Row

-- n nodes from an id on, and n indices from one on
abbrev pub nodes_from : ℕ → ℕ → List Node
nodes_from i zero = []
nodes_from i (suc n) = record { id = i; key = i + 10 } ∷ nodes_from (i + 1) n

abbrev pub indices_from : ℕ → ℕ → List ℕ
indices_from i zero = []
indices_from i (suc n) = i ∷ indices_from (i + 1) n

-- parts of different proposers, from one on, each with its own commitment and so many acknowledgers
abbrev pub parts_from : ℕ → List ℕ → List PartRef
parts_from i [] = []
parts_from i (acks ∷ more) = record { proposer = i; commit = i + 100; acks = indices_from 0 acks } ∷ parts_from (i + 1) more

-- the votes of voters from one on, for a change each
abbrev pub votes_from : ℕ → List ChangeOf → List SignedVoteOf
votes_from i [] = []
votes_from i (c ∷ more) = record { vote = record { change = c; era = 0; num = 0 }; voter = i; sig = i + 10 } ∷ votes_from (i + 1) more

-- voters from one on with a choice each, as the board takes them; and what of its rows is shown
abbrev pub casts_from : ℕ → List ChangeOf → List (Cast ChangeOf)
casts_from i [] = []
casts_from i (c ∷ more) = record { voter = i; choice = c } ∷ casts_from (i + 1) more

abbrev pub shown_of : List (board.Row ChangeOf) → List (ℕ × ChangeOf)
shown_of [] = []
shown_of (r ∷ rs) = (r.count, r.choice) ∷ shown_of rs

-- the epoch of a report
abbrev pub epoch_of : Outcome RefReport → Outcome ℕ
epoch_of (done r) = done r.batch.epoch
epoch_of (refused n) = refused n

-- four nodes in an era, and the vote of one of them in that era, numbered 0, signed with its key
abbrev pub four : List Node
four = record { id = 1; key = 11 } ∷ record { id = 2; key = 12 } ∷ record { id = 3; key = 13 } ∷ record { id = 4; key = 14 } ∷ []

abbrev pub in_era : ℕ → RefState
in_era era = open_ref era four (record { max_future_epochs = 3; subset_handling_strategy = Incremental; encryption_schedule = Always })

-- and five
abbrev pub five_in : ℕ → RefState
five_in era = open_ref era (nodes_from 1 5) (in_era era).params

abbrev pub vote_of : ℕ → ℕ → ChangeOf → SignedVoteOf
vote_of era i c = record { vote = record { change = c; era = era; num = 0 }; voter = i; sig = i + 10 }

-- a contribution of two votes for one change
abbrev pub two_for : ℕ → ChangeOf → List ContribOf
two_for era c = record { id = 3; user = []; messages = []; votes = vote_of era 1 c ∷ vote_of era 2 c ∷ [] } ∷ []

-- the faults of a report
abbrev pub faults_of : Outcome RefReport → Outcome (List Fault)
faults_of (done r) = done r.faults
faults_of (refused n) = refused n

-- the voters of a report
abbrev pub voters_of : Outcome RefReport → Outcome (List ℕ)
voters_of (done r) = done r.batch.voters
voters_of (refused n) = refused n

-- votes as a batch of one contribution
abbrev pub ballot : List SignedVoteOf → List ContribOf
ballot vs = record { id = 3; user = []; messages = []; votes = vs } ∷ []

-- the fourth of the nodes leaves: key generation runs for the other three
abbrev pub leaves_in : ℕ → RefState
leaves_in era =
    record { era = era; nodes = four; params = (in_era era).params; votes = []; candidate = found (record { nodes = nodes_from 1 3; parts = [] }) }

-- and is ready for them: each part has all three acks
abbrev pub ready_in : ℕ → RefState
ready_in era =
    record { era = era; nodes = four; params = (in_era era).params; votes = []; candidate = found (record { nodes = nodes_from 1 3; parts = parts_from 0 (3 ∷ 3 ∷ 3 ∷ []) }) }

-- what a node has signed in an era: a part with so many rows, or an ack of the part of the proposer with an index
abbrev pub part_of : ℕ → ℕ → List ℕ → SignedKeyGenMsgOf
part_of era i rows = record { era = era; id = i; message = part (record { commit = i + 100; rows = rows }); sig = i + 10 }

abbrev pub ack_of : ℕ → ℕ → ℕ → SignedKeyGenMsgOf
ack_of era i proposer = record { era = era; id = i; message = ack (record { proposer = proposer; values = 7 ∷ [] }); sig = i + 10 }

-- the fourth node's part, as it should be and without rows, its ack of a part that nobody sent, and a second copy of the first, in a contribution of the first node; the
-- second node's part stands among them
abbrev pub leaving : ℕ → List ContribOf
leaving era =
    record {
      id = 1;
      user = [];
      messages = part_of era 4 (7 ∷ 8 ∷ 9 ∷ []) ∷ part_of era 4 [] ∷ part_of era 2 (7 ∷ 8 ∷ 9 ∷ []) ∷ ack_of era 4 9 ∷ part_of era 4 (7 ∷ 8 ∷ 9 ∷ []) ∷ [];
      votes = [];
    }
    ∷ []

abbrev pub fault_of : ℕ → FaultKind → Fault
fault_of i k = record { node_id = i; kind = k }

-- a vote of the second node, in an era and with a number, under a key (its own is 12)
abbrev pub second : ℕ → ℕ → ℕ → ChangeOf → SignedVoteOf
second era num key c = record { vote = record { change = c; era = era; num = num }; voter = 2; sig = key }

-- the second node gets key 22: key generation runs for that map. Its vote with number 1 is stored.
abbrev pub renewed : List Node
renewed = record { id = 1; key = 11 } ∷ record { id = 2; key = 22 } ∷ nodes_from 3 2

abbrev pub renewed_in : ℕ → ChangeOf → RefState
renewed_in era c =
    record {
      era = era;
      nodes = four;
      params = (in_era era).params;
      votes = second era 1 12 c ∷ [];
      candidate = found (record { nodes = renewed; parts = [] });
    }

-- The first node proposes votes of old numbers: of another era, under no key, both, under the key to come, and a valid one. The third node proposes a new one, and
-- behind it, so old too: one under no key and a valid one; and the vote of a node that is in no map.
abbrev pub forged : ℕ → ChangeOf → ChangeOf → List ContribOf
forged era c d =
    record { id = 1; user = []; messages = []; votes = second (era + 1) 1 12 d ∷ second era 0 0 d ∷ second (era + 1) 0 0 d ∷ second era 1 22 d ∷ second era 1 12 d ∷ [] }
    ∷ record { id = 3; user = []; messages = []; votes = second era 2 12 d ∷ second era 2 0 c ∷ second era 2 12 c ∷ vote_of era 9 c ∷ [] }
    ∷ []

-- bytes of the edition a converted to b, in a buffer of zeros: accepted as the other bytes, with their length
abbrev pub Converts : Edition → Edition → ℕ → List ℕ → List ℕ → Type 0
Converts a b room s t =
    (conversion_said a b room base s (replicate room 0) ≡ done (length t)) × (take (length t) (plan_converted a b room base s (replicate room 0)) ≡ t)

-- era 300, `EveryNthEpoch(70000)` in progress, one node 250 with key 251, key set 0, 2^32 future epochs, `Incremental`, `Never`
abbrev pub short_plan : PlanOf
short_plan =
    record {
      era = 300;
      change = in_progress (encryption_schedule (EveryNthEpoch 70000));
      keys = record { id = 250; key = 251 } ∷ [];
      key_set = 0;
      params = record { max_future_epochs = 2 ^ 32; subset_handling_strategy = Incremental; encryption_schedule = Never };
    }

-- sixteen nodes whose ids and keys take all the bytes that they can, twice, and the longest schedule
abbrev pub long_nodes : ℕ → ℕ → List Node
long_nodes i zero = []
long_nodes i (suc n) = record { id = 2 ^ 16 + i; key = 2 ^ 32 + i } ∷ long_nodes (i + 1) n

abbrev pub long_plan : PlanOf
long_plan =
    record {
      era = 2 ^ 64 - 1;
      change = complete (node_change (long_nodes 0 16));
      keys = long_nodes 0 16;
      key_set = 2 ^ 32;
      params = record { max_future_epochs = 2 ^ 64 - 1; subset_handling_strategy = AllAtEnd; encryption_schedule = TickTock (2 ^ 32 - 1) (2 ^ 16) };
    }

-- what a row claims
abbrev pub Holds : Row → Type 0
Holds (faulty n f) = max_faulty n ≡ f
Holds (won n choices r) = most_support (max_faulty n) (votes_from 1 choices) ≡ r
Holds (finished n acks b) = is_ready (record { nodes = nodes_from 1 n; parts = parts_from 0 acks }) ≡ b
Holds (moved s inner cs epoch era) = (epoch_of (ref_batch base s inner cs).answer ≡ done epoch) × ((ref_batch base s inner cs).state.era ≡ era)
Holds (blamed s inner cs fs) = faults_of (ref_batch base s inner cs).answer ≡ done fs
Holds (kept s inner cs vs) = (ref_batch base s inner cs).state.votes ≡ vs
Holds (listed s inner cs ids) = voters_of (ref_batch base s inner cs).answer ≡ done ids
Holds (denied s inner cs n) = voters_of (ref_batch base s inner cs).answer ≡ refused n
Holds (shown vs rs) = shown_of (board.board same_change vs) ≡ rs
Holds (encoded v bytes) = vote_bytes v ≡ bytes
Holds (planned p old new) =
    (plan_bytes fixed p ≡ old) × (plan_bytes variable p ≡ new) × Converts fixed variable base.variable_plan old new × Converts variable fixed base.plan new old
Holds (long p old new) =
    (whole (read_plan fixed base (plan_bytes fixed p)) (plan_bytes fixed p) ≡ value p old)
    × (whole (read_plan variable base (plan_bytes variable p)) (plan_bytes variable p) ≡ value p new)
Holds (encrypted x epoch b) = use_on_epoch x epoch ≡ done b

-- two changes that differ
abbrev pub X : ChangeOf
X = encryption_schedule Always

abbrev pub Y : ChangeOf
Y = node_change (record { id = 1; key = 11 } ∷ [])

-- and two that differ from X, but not in what they encrypt
abbrev pub nth : ChangeOf
nth = encryption_schedule (EveryNthEpoch 1)

-- the map without nodes
abbrev pub nobody : ChangeOf
nobody = node_change []

abbrev pub both : ChangeOf
both = encryption_schedule (TickTock 1 0)

unfoldable pub rows : List Row
rows =
    -- f: n=1→0, 3→0, 4→1, 7→2, 16→5
    faulty 1 0
    ∷ faulty 3 0
    ∷ faulty 4 1
    ∷ faulty 7 2
    ∷ faulty 16 5
    -- n=4, voters 1:X, 2:Y, 3:Y, 4:X: X wins (02, CR 8; Y by 01's own rule); 1:X, 2:Y: none
    ∷ won 4 (X ∷ Y ∷ Y ∷ X ∷ []) (found X)
    ∷ won 4 (X ∷ Y ∷ []) nothing
    -- n=4: 2 acks incomplete, 3 complete: beside two complete parts, a third one of 2 acks or of 3
    ∷ finished 4 (4 ∷ 4 ∷ 2 ∷ []) false
    ∷ finished 4 (4 ∷ 4 ∷ 3 ∷ []) true
    -- n=4: 2 complete parts not ready, 3 ready; n=7: 4 not ready, 5 ready
    ∷ finished 4 (4 ∷ 4 ∷ []) false
    ∷ finished 4 (4 ∷ 4 ∷ 4 ∷ []) true
    ∷ finished 7 (7 ∷ 7 ∷ 7 ∷ 7 ∷ []) false
    ∷ finished 7 (7 ∷ 7 ∷ 7 ∷ 7 ∷ 7 ∷ []) true
    -- era 5, inner 3, new map wins: epoch 8, era 9
    ∷ moved (in_era 5) 3 (two_for 5 Y) 8 9
    -- the vote for EveryNthEpoch(3), era 5, number 0, as 28 bytes
    ∷ encoded
    (record { change = encryption_schedule (EveryNthEpoch 3); era = 5; num = 0 })
    (1 ∷ 0 ∷ 0 ∷ 0 ∷ 2 ∷ 0 ∷ 0 ∷ 0 ∷ 3 ∷ 0 ∷ 0 ∷ 0 ∷ 5 ∷ 0 ∷ 0 ∷ 0 ∷ 0 ∷ 0 ∷ 0 ∷ 0 ∷ 0 ∷ 0 ∷ 0 ∷ 0 ∷ 0 ∷ 0 ∷ 0 ∷ 0 ∷ [])
    -- TickTock(2,3): epoch 2 yes, 3 no
    ∷ encrypted (TickTock 2 3) 2 true
    ∷ encrypted (TickTock 2 3) 3 false
    -- 02, CR 2: each key message of a leaving node is one fault of it, whatever is wrong with it, and the batch is reported
    ∷ blamed (leaves_in 5) 3 (leaving 5) (fault_of 4 UnexpectedKeyGenPart ∷ fault_of 4 UnexpectedKeyGenPart ∷ fault_of 4 UnexpectedKeyGenAck ∷ fault_of 4 UnexpectedKeyGenPart ∷ [])
    -- 02, CR 3: equal counts by lowest voter; then voter 1 goes over; counts of one, and three schedules that are equal in effect
    ∷ shown (casts_from 1 (X ∷ Y ∷ Y ∷ X ∷ [])) ((2, X) ∷ (2, Y) ∷ [])
    ∷ shown (casts_from 1 (Y ∷ Y ∷ Y ∷ X ∷ [])) ((3, Y) ∷ (1, X) ∷ [])
    ∷ shown (casts_from 1 (X ∷ Y ∷ [])) ((1, X) ∷ (1, Y) ∷ [])
    ∷ shown (casts_from 1 (nth ∷ X ∷ both ∷ X ∷ [])) ((2, X) ∷ (1, nth) ∷ (1, both) ∷ [])
    -- the lowest voter decides, not the place, and nobody's board is empty
    ∷ shown (record { voter = 4; choice = X } ∷ record { voter = 1; choice = Y } ∷ []) ((1, Y) ∷ (1, X) ∷ [])
    ∷ shown [] []
    -- 02, CR 5: a short plan in both editions, field by field (era; change; map; key set; parameters), and the longest plan
    ∷ planned
    short_plan
    (44 ∷ 1 ∷ 0 ∷ 0 ∷ 0 ∷ 0 ∷ 0 ∷ 0 ∷
    1 ∷ 0 ∷ 0 ∷ 0 ∷ 1 ∷ 0 ∷ 0 ∷ 0 ∷ 2 ∷ 0 ∷ 0 ∷ 0 ∷ 112 ∷ 17 ∷ 1 ∷ 0 ∷
    1 ∷ 0 ∷ 0 ∷ 0 ∷ 0 ∷ 0 ∷ 0 ∷ 0 ∷ 250 ∷ 0 ∷ 0 ∷ 0 ∷ 251 ∷ 0 ∷ 0 ∷ 0 ∷ 0 ∷ 0 ∷ 0 ∷ 0 ∷
    0 ∷ 0 ∷ 0 ∷ 0 ∷ 0 ∷ 0 ∷ 0 ∷ 0 ∷
    0 ∷ 0 ∷ 0 ∷ 0 ∷ 1 ∷ 0 ∷ 0 ∷ 0 ∷ 0 ∷ 0 ∷ 0 ∷ 0 ∷ 1 ∷ 0 ∷ 0 ∷ 0 ∷ [])
    (251 ∷ 44 ∷ 1 ∷
    1 ∷ 1 ∷ 2 ∷ 252 ∷ 112 ∷ 17 ∷ 1 ∷ 0 ∷
    1 ∷ 250 ∷ 251 ∷ 251 ∷ 0 ∷
    0 ∷
    253 ∷ 0 ∷ 0 ∷ 0 ∷ 0 ∷ 1 ∷ 0 ∷ 0 ∷ 0 ∷ 0 ∷ 1 ∷ [])
    ∷ long long_plan 448 491
    -- 02, CR 6: a wrong vote is one fault of its proposer, whatever its number, a valid old one is nothing, and the valid new one is stored
    ∷ blamed (renewed_in 5 X) 3 (forged 5 X Y)
    (fault_of 1 InvalidCommittedVote ∷ fault_of 1 InvalidCommittedVote ∷ fault_of 1 InvalidCommittedVote ∷ fault_of 1 InvalidCommittedVote ∷
    fault_of 3 InvalidCommittedVote ∷ fault_of 3 InvalidCommittedVote ∷ [])
    ∷ kept (renewed_in 5 X) 3 (forged 5 X Y) (second 5 2 12 Y ∷ [])
    -- 02, CR 7: 1:X, 2:Y, 3:Y, 4:X, and X wins by 1 and 4; 1:X, 2:X, 3:Y, 4:X, and X wins by 4 too, who stands behind the one with whom it passes f
    ∷ listed (in_era 0) 3 (ballot (votes_from 1 (X ∷ Y ∷ Y ∷ X ∷ []))) (1 ∷ 4 ∷ [])
    ∷ listed (in_era 0) 3 (ballot (votes_from 1 (X ∷ X ∷ Y ∷ X ∷ []))) (1 ∷ 2 ∷ 4 ∷ [])
    -- the vote of 2 is of an earlier batch; then 2 goes over to Y; and nobody is listed with `None`, though a vote is left
    ∷ listed (renewed_in 5 X) 3 (ballot (vote_of 5 4 X ∷ [])) (2 ∷ 4 ∷ [])
    ∷ listed (renewed_in 5 X) 3 (ballot (second 5 2 12 Y ∷ vote_of 5 4 X ∷ vote_of 5 1 X ∷ [])) (1 ∷ 4 ∷ [])
    ∷ listed (renewed_in 5 X) 3 (ballot []) []
    -- the candidate map wins again; and a ready key generation completes, where Y passes f
    ∷ listed (renewed_in 5 X) 3 (ballot (vote_of 5 4 (node_change renewed) ∷ vote_of 5 1 (node_change renewed) ∷ [])) (1 ∷ 4 ∷ [])
    ∷ listed (ready_in 5) 3 (two_for 5 Y) []
    -- 02, CR 8: more voters win, whoever has enough first, the schedule X as well as the map Y; of as many, the lowest voter's, also among three
    ∷ won 5 (X ∷ X ∷ Y ∷ Y ∷ Y ∷ []) (found Y)
    ∷ won 5 (Y ∷ Y ∷ X ∷ X ∷ X ∷ []) (found X)
    ∷ won 4 (Y ∷ X ∷ X ∷ Y ∷ []) (found Y)
    ∷ won 6 (nth ∷ X ∷ Y ∷ Y ∷ X ∷ nth ∷ []) (found nth)
    -- as many each: Y's lowest voter is 1 and X's is 2, whose vote is of an earlier batch; then 2 has gone over to Y
    ∷ listed (renewed_in 5 X) 3 (ballot (vote_of 5 4 X ∷ vote_of 5 3 Y ∷ vote_of 5 1 Y ∷ [])) (1 ∷ 3 ∷ [])
    ∷ listed (renewed_in 5 X) 3 (ballot (vote_of 5 4 X ∷ vote_of 5 3 Y ∷ vote_of 5 1 X ∷ second 5 2 12 Y ∷ [])) (1 ∷ 4 ∷ [])
    -- the candidate map has no advantage, and no disadvantage
    ∷ listed (renewed_in 5 X) 3 (ballot (vote_of 5 1 X ∷ vote_of 5 3 (node_change renewed) ∷ vote_of 5 4 (node_change renewed) ∷ [])) (1 ∷ 2 ∷ [])
    ∷ listed (renewed_in 5 X) 3 (ballot (vote_of 5 3 X ∷ vote_of 5 4 (node_change renewed) ∷ vote_of 5 1 (node_change renewed) ∷ [])) (1 ∷ 4 ∷ [])
    -- row 7 only where the empty map wins: with as many voters and the lowest, or with most; else it is passed by
    ∷ denied (in_era 0) 3 (ballot (votes_from 1 (nobody ∷ X ∷ X ∷ nobody ∷ []))) 7
    ∷ denied (five_in 0) 3 (ballot (votes_from 1 (X ∷ X ∷ nobody ∷ nobody ∷ nobody ∷ []))) 7
    ∷ listed (in_era 0) 3 (ballot (votes_from 1 (X ∷ nobody ∷ nobody ∷ X ∷ []))) (1 ∷ 4 ∷ [])
    ∷ listed (five_in 0) 3 (ballot (votes_from 1 (nobody ∷ nobody ∷ X ∷ X ∷ X ∷ []))) (3 ∷ 4 ∷ 5 ∷ [])
    ∷ []
