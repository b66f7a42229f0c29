-- Single sentences of the scope document, said of the vote counter: a vote of a batch, a received one, an own one, and those handed out.
-- Assumes nothing.
use Prim.Native.Nat.{ℕ, ◌+◌, ◌≤◌, ◌<◌}
use mathlib.Core.Path.{◌≡◌, refl, sym, ap, ◌∙◌}
use mathlib.Core.List.{List, [], ◌∷◌, ◌++◌}
use mathlib.Core.Bool.{Bool, true, false, cond}
use native.Mathlib.Omega.{arith}
use lib.Dec.{eqb}
use lib.ListN.{length}
use borrow.Author.Tests.{le-leb, lt-leb, eq-eqb, ne_eqb}
use Rattle.lists.proofs.ListLaws.{false_true}
use Rattle.lists.proofs.PlaceLaws.{at_between}
use Rattle.lists.specs.Lists.{Found, found, nothing, at_place, map_found, lookup, insert_within, takes_place, filter}
use Rattle.bincode.specs.Sizes.{Sizes}
use Rattle.bincode.specs.Outcome.{done, refused}
use Rattle.pub_key_map.specs.declared.Node.{Node}
use Rattle.network_info.specs.NetworkInfo.{key_of}
use Rattle.change.specs.Change.{ChangeOf}
use Rattle.votes.specs.Votes.{SignedVoteOf}
use Rattle.signed_votes.specs.SignedVotes.{num_of}
use Rattle.board.specs.Board.{worked_out}
use Rattle.fault_log.specs.declared.FaultKind.TheVariants.{InvalidVoteSignature, InvalidCommittedVote}
use Rattle.vote_counter.specs.VoteCounter.{CounterOf, at_or_below, obsolete, is_key, valid_vote, VoteEffect, stored, nothing_new, fault, vote_effect, pending_effect, add_pending, add_committed, sign_vote_for, pending_votes}

-- a voter's vote among some
abbrev vote_of : List SignedVoteOf → ℕ → Found SignedVoteOf
vote_of vs id = lookup (λ (x : SignedVoteOf). x.voter) vs id

-- some votes with one in place of its voter's, by ascending voter
abbrev replaced : Sizes → SignedVoteOf → List SignedVoteOf → List SignedVoteOf
replaced z v vs = insert_within (λ (x : SignedVoteOf). x.voter) z.nodes v vs

-- "numbered at or below the voter's stored one", and not so
abbrev pub AtOrBelow : List SignedVoteOf → SignedVoteOf → Type 0
AtOrBelow vs v = (old : SignedVoteOf) × (vote_of vs v.voter ≡ found old) × (v.vote.num ≤ old.vote.num)

abbrev pub Newer : List SignedVoteOf → SignedVoteOf → Type 0
Newer vs v = (old : SignedVoteOf) → vote_of vs v.voter ≡ found old → old.vote.num < v.vote.num

pub old_obsolete : (vs : List SignedVoteOf) (v : SignedVoteOf) → AtOrBelow vs v → obsolete vs v ≡ true
unfolding obsolete
old_obsolete vs v h = rw (h.1, le-leb v.vote.num h.0.vote.num h.2)

pub newer_not : (vs : List SignedVoteOf) (v : SignedVoteOf) → Newer vs v → obsolete vs v ≡ false
unfolding obsolete
newer_not vs v h = go (vote_of vs v.voter) h
  where
    go : (x : Found SignedVoteOf) → ((old : SignedVoteOf) → x ≡ found old → old.vote.num < v.vote.num) → at_or_below v.vote.num (map_found num_of x) ≡ false
    go (found old) h = lt-leb v.vote.num old.vote.num (omega (arith, h old refl))
    go nothing h = refl

-- signed under the voter's key of the current map, and not so
pub signed_valid : (ns : List Node) (v : SignedVoteOf) → key_of ns v.voter ≡ found v.sig → valid_vote ns v ≡ true
unfolding valid_vote
signed_valid ns v e = rw e (eq-eqb v.sig v.sig refl)

pub unsigned_not : (ns : List Node) (v : SignedVoteOf) → (key_of ns v.voter ≡ found v.sig → ⊥) → valid_vote ns v ≡ false
unfolding valid_vote
unsigned_not ns v h = go (key_of ns v.voter) h
  where
    go : (x : Found ℕ) → (x ≡ found v.sig → ⊥) → is_key v.sig x ≡ false
    go (found key) h = ne_eqb key v.sig (λ e. h (ap found e))
    go nothing h = refl

pub invalid_unsigned : (ns : List Node) (v : SignedVoteOf) → valid_vote ns v ≡ false → key_of ns v.voter ≡ found v.sig → ⊥
invalid_unsigned ns v e q = false_true (sym e ∙ signed_valid ns v q)

-- a test between two that are one
pub either_way : (b : Bool) (e : VoteEffect) → cond b e e ≡ e
either_way true e = refl
either_way false e = refl

module _ (z : Sizes) (c : CounterOf) (v : SignedVoteOf) where
  -- 02, CR 6: "the order of checks on a committed vote becomes era, signature, number": a wrong era is `InvalidCommittedVote`, whatever signature and number are
  pub committed_era : (v.vote.era ≡ c.era → ⊥) → add_committed z c v ≡ record { counter = c; effect = fault InvalidCommittedVote }
  unfolding add_committed vote_effect
  committed_era h = rw (ne_eqb _ _ h)

  -- a wrong signature is, whatever era and number are
  pub committed_signature : (key_of c.nodes v.voter ≡ found v.sig → ⊥) → add_committed z c v ≡ record { counter = c; effect = fault InvalidCommittedVote }
  unfolding add_committed vote_effect
  committed_signature h = rw (unsigned_not c.nodes v h, either_way (eqb v.vote.era c.era) (fault InvalidCommittedVote))

  module _ (now : v.vote.era ≡ c.era) (signed : key_of c.nodes v.voter ≡ found v.sig) where
    -- "An old number on a valid vote still does nothing"
    pub committed_old : AtOrBelow c.committed v → add_committed z c v ≡ record { counter = c; effect = nothing_new }
    unfolding add_committed vote_effect
    committed_old h = rw (eq-eqb _ _ now, signed_valid c.nodes v signed, old_obsolete c.committed v h)

    -- 01, step 3: "Otherwise it replaces the stored one": among the committed votes alone
    pub committed_replaces : Newer c.committed v
        → add_committed z c v
        ≡ record { counter = record { our_id = c.our_id; our_key = c.our_key; nodes = c.nodes; era = c.era; pending = c.pending; committed = replaced z v c.committed; board = cond (takes_place (λ (x : SignedVoteOf). x.voter) z.nodes v.voter c.committed) (worked_out (replaced z v c.committed)) c.board }; effect = stored }
    unfolding add_committed vote_effect
    committed_replaces new = rw (eq-eqb _ _ now, signed_valid c.nodes v signed, newer_not c.committed v new)

  -- a received vote: of another era it is nothing (of a later one the fault is the message's)
  pub received_era : (v.vote.era ≡ c.era → ⊥) → add_pending z c v ≡ record { counter = c; effect = nothing_new }
  unfolding add_pending pending_effect
  received_era h = rw (ne_eqb _ _ h)

  module _ (now : v.vote.era ≡ c.era) where
    -- numbered at or below the pending one it is nothing, before its signature is looked at
    pub received_old : AtOrBelow c.pending v → add_pending z c v ≡ record { counter = c; effect = nothing_new }
    unfolding add_pending pending_effect
    received_old h = rw (eq-eqb _ _ now, old_obsolete c.pending v h)

    module _ (new : Newer c.pending v) where
      -- under no key of its voter it is a fault
      pub received_signature : (key_of c.nodes v.voter ≡ found v.sig → ⊥) → add_pending z c v ≡ record { counter = c; effect = fault InvalidVoteSignature }
      unfolding add_pending pending_effect
      received_signature h = rw (eq-eqb _ _ now, newer_not c.pending v new, unsigned_not c.nodes v h)

      -- else it replaces the pending one; what is committed stays
      pub received_replaces : key_of c.nodes v.voter ≡ found v.sig
          → add_pending z c v
          ≡ record { counter = record { our_id = c.our_id; our_key = c.our_key; nodes = c.nodes; era = c.era; pending = replaced z v c.pending; committed = c.committed; board = c.board }; effect = stored }
      unfolding add_pending pending_effect
      received_replaces e = rw (eq-eqb _ _ now, newer_not c.pending v new, signed_valid c.nodes v e)

-- an own vote: for the change, of the current era, by the own id, under the own key; it replaces the own pending one
module _ (z : Sizes) (c : CounterOf) (change : ChangeOf) where
  abbrev own : ℕ → SignedVoteOf
  own num = record { vote = record { change = change; era = c.era; num = num }; voter = c.our_id; sig = c.our_key }

  abbrev cast : ℕ → CounterOf
  cast num = record { our_id = c.our_id; our_key = c.our_key; nodes = c.nodes; era = c.era; pending = replaced z (own num) c.pending; committed = c.committed; board = c.board }

  -- its number is 0 at first
  pub own_first : vote_of c.pending c.our_id ≡ nothing → sign_vote_for z c change ≡ record { counter = cast 0; answer = done (own 0) }
  unfolding sign_vote_for
  own_first e = rw e

  module _ (old : SignedVoteOf) (pending : vote_of c.pending c.our_id ≡ found old) where
    -- then one more than the own pending one's
    pub own_next : (old.vote.num ≡ 18446744073709551615 → ⊥) → sign_vote_for z c change ≡ record { counter = cast (old.vote.num + 1); answer = done (own (old.vote.num + 1)) }
    unfolding sign_vote_for
    own_next h = rw (pending, ne_eqb _ _ h)

    -- row 11: "own pending vote number is 2^64-1"
    pub own_last : old.vote.num ≡ 18446744073709551615 → sign_vote_for z c change ≡ record { counter = c; answer = refused 11 }
    unfolding sign_vote_for
    own_last h = rw (pending, eq-eqb _ _ h)

-- pending votes handed out: those that are newer than their voter's committed one, in their order
module _ (c : CounterOf) where
  abbrev holding : List SignedVoteOf → CounterOf
  holding vs = record { our_id = c.our_id; our_key = c.our_key; nodes = c.nodes; era = c.era; pending = vs; committed = c.committed; board = c.board }

  pub handed_none : pending_votes (holding []) ≡ []
  unfolding pending_votes filter
  handed_none = refl

  module _ (v : SignedVoteOf) (vs : List SignedVoteOf) where
    pub handed_old : AtOrBelow c.committed v → pending_votes (holding (v ∷ vs)) ≡ pending_votes (holding vs)
    unfolding pending_votes filter
    handed_old h = rw (old_obsolete c.committed v h)

    pub handed_newer : Newer c.committed v → pending_votes (holding (v ∷ vs)) ≡ v ∷ pending_votes (holding vs)
    unfolding pending_votes filter
    handed_newer h = rw (newer_not c.committed v h)

-- by place, 0 first: with as many before it as its place says; none past the last
pub vote_by_place : (before behind : List SignedVoteOf) (v : SignedVoteOf) → at_place (length before) (before ++ (v ∷ behind)) ≡ found v
vote_by_place = at_between
