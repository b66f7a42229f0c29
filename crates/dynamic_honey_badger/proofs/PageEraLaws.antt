-- Single sentences of the scope document, said of a node's state: a new era, a fresh key generation, starting and joining, what a host asks.
-- Assumes nothing.
use Prim.Native.Nat.{ℕ, ◌+◌, ◌≤◌, ◌<◌}
use mathlib.Core.Path.{◌≡◌, refl}
use mathlib.Core.List.{List, [], ◌∷◌, ◌++◌}
use mathlib.Core.Bool.{Bool, true, false, cond}
use lib.Dec.{eqb}
use lib.ListN.{length, replicate}
use borrow.Author.Tests.{lt-ltb, le-ltb, eq-eqb, ne_eqb}
use Rattle.lists.specs.Lists.{Found, found, nothing}
use Rattle.bincode.specs.Sizes.{Sizes}
use Rattle.bincode.specs.Stands.{All}
use Rattle.bincode.specs.Outcome.{done, refused}
use Rattle.util.specs.MaxFaulty.{max_faulty}
use Rattle.pub_key_map.specs.declared.Node.{Node}
use Rattle.network_info.specs.NetworkInfo.{is_member}
use Rattle.honey_badger.specs.declared.EncryptionSchedule.{EncryptionSchedule}
use Rattle.params.specs.declared.Params.{Params}
use Rattle.change.specs.Change.{ChangeOf, node_change, encryption_schedule, none, in_progress, complete}
use Rattle.due.specs.declared.DueKind.TheVariants.{Part}
use Rattle.votes.specs.Votes.{SignedVoteOf}
use Rattle.vote_counter.specs.VoteCounter.{pending_votes}
use Rattle.key_gen_state.specs.KeyGenState.{KeyGenStateOf}
use Rattle.key_gen_message.specs.KeyGenMessage.{SignedKeyGenMsgOf}
use Rattle.message_store.specs.MessageStore.{from_era}
use Rattle.join_plan.specs.JoinPlan.{PlanOf}
use Rattle.joining.specs.Starting.{StartOf, start_checked, join_checked}
use Rattle.dynamic_honey_badger.specs.State.{StateOf, new_era, key_gen_for, part_due, started, joined_with, joined}
use Rattle.dynamic_honey_badger.specs.Asked.{row5, next_epoch, some_by, should_propose}

-- 01: "A new era empties pending and committed votes and drops stored messages of lower eras", and so the board (02, CR 3); own id and key, parameters and key
-- generation stay, and so does the stamp of the last report
pub era_begins : (era : ℕ) (ns : List Node) (s : StateOf)
    → new_era era ns s
    ≡ record {
      counter = record { our_id = s.counter.our_id; our_key = s.counter.our_key; nodes = ns; era = era; pending = []; committed = []; board = [] };
      params = s.params;
      key_gen = s.key_gen;
      store = from_era era s.store;
      last = s.last;
    }
unfolding new_era
era_begins era ns s = refl

-- a key generation for a map that is fresh: no parts, nobody counted, this node's own
abbrev pub fresh : Sizes → ℕ → List Node → KeyGenStateOf
fresh z id ns = record { key_gen = record { our_id = id; nodes = ns; parts = [] }; counts = replicate (z.nodes + z.nodes) 0 }

pub key_gen_begins : (z : Sizes) (ns : List Node) (s : StateOf)
    → key_gen_for z ns s ≡ record { counter = s.counter; params = s.params; key_gen = found (fresh z s.counter.our_id ns); store = s.store; last = s.last }
unfolding key_gen_for
key_gen_begins z ns s = refl

-- "a part for each fresh key generation, where the candidate map holds this station", with its era
module _ (ns : List Node) (id era : ℕ) where
  pub part_due_lem : is_member ns id ≡ true → part_due ns id era ≡ record { kind = Part; era = era } ∷ []
  part_due_lem e = rw e

  pub no_part_due : is_member ns id ≡ false → part_due ns id era ≡ []
  no_part_due e = rw e

-- a state with no votes, an empty board, nothing stored, nothing reported (02, CR 1: "none at the start and after joining"), and this key generation or none
abbrev pub opening : ℕ → ℕ → ℕ → List Node → Params → Found KeyGenStateOf → StateOf
opening id key era ns p g = record { counter = record { our_id = id; our_key = key; nodes = ns; era = era; pending = []; committed = []; board = [] }; params = p; key_gen = g; store = []; last = nothing }

-- an accepted `new`: era, map and parameters given, no key generation
pub new_opens : (z : Sizes) (id key era : ℕ) (map params : List ℕ) (x : StartOf) → start_checked z key map params ≡ done x
    → started z id key era map params ≡ done (opening id key era x.keys x.params nothing)
unfolding started
new_opens z id key era map params x e = rw e

-- an accepted joining: era, map and parameters of the plan
module _ (z : Sizes) (places id key : ℕ) (plan : List ℕ) (p : PlanOf) (accepted : join_checked z places id key plan ≡ done p) where
  -- a map in progress: its key generation begins afresh, and "Joining gives a due list too": a part of the plan's era, where that map holds the joiner
  module _ (ns : List Node) (e : p.change ≡ in_progress (node_change ns)) where
    pub joiner_in_map : is_member ns id ≡ true
        → joined z places id key plan ≡ done (record { state = opening id key p.era p.keys p.params (found (fresh z id ns)); due = record { kind = Part; era = p.era } ∷ [] })
    unfolding joined joined_with key_gen_for
    joiner_in_map m = rw (accepted, e, m)

    pub joiner_outside : is_member ns id ≡ false → joined z places id key plan ≡ done (record { state = opening id key p.era p.keys p.params (found (fresh z id ns)); due = [] })
    unfolding joined joined_with key_gen_for
    joiner_outside m = rw (accepted, e, m)

  -- in any other case no key generation begins, and nothing is due
  pub joiner_none : p.change ≡ none → joined z places id key plan ≡ done (record { state = opening id key p.era p.keys p.params nothing; due = [] })
  unfolding joined joined_with
  joiner_none e = rw (accepted, e)

  pub joiner_schedule : (x : EncryptionSchedule) → p.change ≡ in_progress (encryption_schedule x)
      → joined z places id key plan ≡ done (record { state = opening id key p.era p.keys p.params nothing; due = [] })
  unfolding joined joined_with
  joiner_schedule x e = rw (accepted, e)

  pub joiner_complete : (c : ChangeOf) → p.change ≡ complete c → joined z places id key plan ≡ done (record { state = opening id key p.era p.keys p.params nothing; due = [] })
  unfolding joined joined_with
  joiner_complete c e = rw (accepted, e)

-- `next_epoch`: era and inner epoch added; row 5 over 2^64-2
module _ (s : StateOf) (inner : ℕ) where
  pub next_adds : s.counter.era + inner ≤ 18446744073709551614 → next_epoch s inner ≡ done (s.counter.era + inner)
  unfolding next_epoch row5
  next_adds h = rw (le-ltb 18446744073709551614 (s.counter.era + inner) h)

  pub next_over : 18446744073709551614 < s.counter.era + inner → next_epoch s inner ≡ refused 5
  unfolding next_epoch row5
  next_over h = rw (lt-ltb 18446744073709551614 (s.counter.era + inner) h)

-- `should_propose`: never with input given
module _ (s : StateOf) (proposals : ℕ) where
  pub given_not : should_propose s true proposals ≡ false
  unfolding should_propose
  given_not = refl

  -- with more than f proposals, f of the current map
  pub many_propose : max_faulty (length s.counter.nodes) < proposals → should_propose s false proposals ≡ true
  unfolding should_propose
  many_propose h = rw (lt-ltb (max_faulty (length s.counter.nodes)) proposals h)

  module _ (few : proposals ≤ max_faulty (length s.counter.nodes)) where
    some_own : (id : ℕ) (before behind : List SignedVoteOf) (v : SignedVoteOf) → v.voter ≡ id → some_by id (before ++ (v ∷ behind)) ≡ true
    unfolding some_by
    some_own id [] behind v e = rw (eq-eqb v.voter id e)
    some_own id (x ∷ before) behind v e = go (eqb x.voter id) (some_own id before behind v e)
      where
        go : (b : Bool) → some_by id (before ++ (v ∷ behind)) ≡ true → cond b true (some_by id (before ++ (v ∷ behind))) ≡ true
        go true h = refl
        go false h = h

    none_own : (id : ℕ) (vs : List SignedVoteOf) → All (λ (v : SignedVoteOf). v.voter ≡ id → ⊥) vs → some_by id vs ≡ false
    unfolding some_by
    none_own id [] h = refl
    none_own id (v ∷ vs) h = rw (ne_eqb v.voter id h.0) (none_own id vs h.1)

    -- with an own vote among the pending ones handed out
    pub own_proposes : (before behind : List SignedVoteOf) (v : SignedVoteOf) → pending_votes s.counter ≡ before ++ (v ∷ behind) → v.voter ≡ s.counter.our_id → should_propose s false proposals ≡ true
    unfolding should_propose
    own_proposes before behind v e o = rw (le-ltb (max_faulty (length s.counter.nodes)) proposals few, e, some_own s.counter.our_id before behind v o)

    -- with a stored message; and else not
    module _ (others : All (λ (v : SignedVoteOf). v.voter ≡ s.counter.our_id → ⊥) (pending_votes s.counter)) where
      pub stored_proposes : (m : SignedKeyGenMsgOf) (ms : List SignedKeyGenMsgOf) → s.store ≡ m ∷ ms → should_propose s false proposals ≡ true
      unfolding should_propose
      stored_proposes m ms e = rw (le-ltb (max_faulty (length s.counter.nodes)) proposals few, none_own s.counter.our_id (pending_votes s.counter) others, e)

      pub nothing_proposes : s.store ≡ [] → should_propose s false proposals ≡ false
      unfolding should_propose
      nothing_proposes e = rw (le-ltb (max_faulty (length s.counter.nodes)) proposals few, none_own s.counter.our_id (pending_votes s.counter) others, e)
