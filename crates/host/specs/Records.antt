-- 01: "Faults go into a lent list of records, each a station id and a kind": the batch call with such a list, filled from its first place on.
use Rattle.std.specs.Prelude.{ℕ, ◌≡◌, List, [], ◌∷◌, map, length}
use Rattle.bincode.specs.Outcome.{Outcome}
use Rattle.bincode.specs.Sizes.{base}
use Rattle.fault_log.specs.declared.Fault.{Fault}
use Rattle.fault_log.specs.FaultLog.{fault_number}
use Rattle.filled.specs.Filled.{filled}
use Rattle.filled.specs.Numbers.{DueIn, due_places}
use Rattle.dynamic_honey_badger.specs.declared.DynamicHoneyBadger.{DynamicHoneyBadger}
use Rattle.dynamic_honey_badger.specs.State.{state_of}
use Rattle.process_output.specs.Process.{BatchCall, ReportOf, processed}
use Rattle.process_batch.specs.declared.Processed.{Processed}
use Rattle.process_batch.specs.Answer.{ProcessedAs, BatchRefusedKeeps}
use Rattle.process_batch.specs.Lent.{faults_in, due_in}
use Rattle.host.specs.declared.FaultRecord.{FaultRecord}

-- a fault as its node's id and the number of its kind
abbrev pub record_of : Fault → FaultRecord
record_of f = record { node_id = f.node_id; kind = fault_number f.kind }

-- the lent lists of due items as numbers
pub record DueLists : Type 0 where
  pub kinds : List ℕ
  pub indices : List ℕ
  pub eras : List ℕ

-- the call that a number of places for faults and the lent lists of due items make
abbrev pub places_call : ℕ → ℕ → List ℕ → List ℕ → ℕ → DueLists → BatchCall
places_call era inner bytes verdicts places d =
    record { era = era; inner = inner; bytes = bytes; verdicts = verdicts; fault_places = places; due_places = due_places d.kinds d.indices d.eras }

-- and the one that a lent list of records makes
abbrev pub records_call : ℕ → ℕ → List ℕ → List ℕ → List FaultRecord → DueLists → BatchCall
records_call era inner bytes verdicts faults d = places_call era inner bytes verdicts (length faults) d

-- ids and kinds as records, as far as both lists reach
unfoldable pub pairs : List ℕ → List ℕ → List FaultRecord
pairs [] ks = []
pairs (i ∷ is) [] = []
pairs (i ∷ is) (k ∷ ks) = record { node_id = i; kind = k } ∷ pairs is ks

-- what the definition answers to a call
abbrev pub answer_of : DynamicHoneyBadger → BatchCall → Outcome ReportOf
answer_of s b = (processed base (state_of s) b).answer

-- what a batch call gives: what the definition says of the state and the call; where it is a refusal, beside the very state that was given
abbrev pub BatchAnswered : Processed → DynamicHoneyBadger → BatchCall → Type 0
BatchAnswered r s b = ProcessedAs r (processed base (state_of s) b) × BatchRefusedKeeps r s

-- what the lists of due items hold at the end
abbrev pub DueDone : Outcome ReportOf → DueLists → DueLists → Type 0
DueDone a d d' = DueIn (due_in a) d.kinds d'.kinds d.indices d'.indices d.eras d'.eras

-- the batch call with a lent list of records, whole; a refused call has no faults and no due items, so its lists are as they were
abbrev pub RecordsDone : DynamicHoneyBadger → ℕ → ℕ → List ℕ → List ℕ → List FaultRecord → DueLists → Processed → List FaultRecord → DueLists → Type 0
RecordsDone s era inner bytes verdicts faults d r faults' d' =
    let b = records_call era inner bytes verdicts faults d in
    BatchAnswered r s b × (faults' ≡ filled (map record_of (faults_in (answer_of s b))) faults) × DueDone (answer_of s b) d d'
