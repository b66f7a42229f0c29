-- What a host asks a node between batches: `should_propose`, `next_epoch`, `last_report`, the board.
use Rattle.std.specs.Prelude.{ℕ, ◌+◌, List, [], ◌∷◌, Bool, true, false, cond, length, ltb, eqb}
use Rattle.std.specs.declared.option.Option.{Option}
use Rattle.std.specs.declared.result.Result.{Result}
use Rattle.lists.specs.Lists.{Found}
use Rattle.bincode.specs.Answer.{outcome_as_said}
use Rattle.bincode.specs.declared.Refusal.{Refusal}
use Rattle.bincode.specs.Outcome.{Outcome, done, refused}
use Rattle.util.specs.MaxFaulty.{max_faulty}
use Rattle.key_gen_message.specs.KeyGenMessage.{SignedKeyGenMsgOf}
use Rattle.votes.specs.Votes.{SignedVoteOf}
use Rattle.board.specs.Board.{StandingOf}
use Rattle.vote_counter.specs.VoteCounter.{pending_votes, board_row}
use Rattle.dynamic_honey_badger.specs.State.{StateOf, Stamp, era_of, nodes_in, stamp_held}
use Rattle.dynamic_honey_badger.specs.declared.ReportStamp.{ReportStamp}

-- row 5: an epoch over 2^64-2
unfoldable pub row5 : ℕ → Bool
row5 epoch = ltb 18446744073709551614 epoch

-- the epoch of a batch in an era
abbrev pub epoch_in : ℕ → ℕ → Outcome ℕ
epoch_in era inner = cond (row5 (era + inner)) (refused 5) (done (era + inner))

unfoldable pub next_epoch : StateOf → ℕ → Outcome ℕ
next_epoch s inner = epoch_in (era_of s) inner

unfoldable pub some_by : ℕ → List SignedVoteOf → Bool
some_by id [] = false
some_by id (v ∷ vs) = cond (eqb v.voter id) true (some_by id vs)

abbrev pub some_stored : List SignedKeyGenMsgOf → Bool
some_stored [] = false
some_stored (m ∷ ms) = true

-- not with input given; then with more than f proposals, or a pending vote of the own that is to be committed, or a stored message
unfoldable pub should_propose : StateOf → Bool → ℕ → Bool
should_propose s has-input proposals =
    cond has-input false
    (cond (ltb (max_faulty (length (nodes_in s))) proposals) true
    (cond (some_by s.counter.our_id (pending_votes s.counter)) true
    (some_stored s.store)))

abbrev pub said_next : Result ℕ Refusal → Outcome ℕ
said_next r = outcome_as_said (λ (n : ℕ). n) r

-- 02, CR 1: era and epoch of the last report, kept with the state, or none
abbrev pub last_report : StateOf → Found Stamp
last_report s = s.last

abbrev pub said_last : Option ReportStamp → Found Stamp
said_last r = stamp_held r

-- 02, CR 3: the board by place, as the counter keeps it
abbrev pub board_at : StateOf → ℕ → Found StandingOf
board_at s n = board_row s.counter n
