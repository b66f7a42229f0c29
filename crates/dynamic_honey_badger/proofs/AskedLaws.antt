-- Laws of what a host asks between batches.
-- Assumes nothing.
use borrow.Author.Tests.{lt-ltb, le-ltb, ltb-true, ltb-false, lt-leb, le-leb, eqb-true}
use mathlib.Core.Bool.{Bool, true, false, cond, ◌||◌}
use mathlib.Core.List.{List, [], ◌∷◌, map}
use mathlib.Core.Path.{◌≡◌, refl, sym, ap, ◌∙◌}
use Prim.Native.Nat.{ℕ, suc, ◌+◌, ◌^◌, ◌≤◌, ◌<◌}
use native.Mathlib.Omega.{arith}
use lib.Dec.{leb, ltb, eqb}
use lib.ListN.{length}
use Rattle.std.specs.Bool.{then_some}
use Rattle.std.specs.List.{list_any}
use Rattle.std.specs.Option.{MatchOption, SomeIff, ok_or, option_map, unwrap_or}
use Rattle.std.specs.declared.option.Option.{Option}
use Rattle.std.specs.declared.option.Option.TheVariants.{None, Some}
use Rattle.std.specs.declared.result.Result.TheVariants.{Err}
use Rattle.bincode.specs.declared.Refusal.TheVariants.{LastEpoch}
use Rattle.lists.specs.Lists.{Found, filter, lookup, map_found, option_as_found}
use Rattle.util.specs.MaxFaulty.{max_faulty}
use Rattle.votes.specs.declared.SignedVote.{SignedVote}
use Rattle.votes.specs.Votes.{SignedVoteOf, signed_of}
use Rattle.signed_votes.specs.SignedVotes.{voter_of, num_of}
use Rattle.vote_counter.specs.VoteCounter.{CounterOf, at_or_below, obsolete, newer, pending_votes}
use Rattle.key_gen_message.specs.KeyGenMessage.{SignedKeyGenMsgOf}
use Rattle.dynamic_honey_badger.specs.Asked.{row5, epoch_in, said_next, some_by, some_stored, should_propose}
use Rattle.dynamic_honey_badger.specs.State.{StateOf, nodes_in}

-- whether a pending vote is of an id and newer than that id's committed one
abbrev pub own_waits : ℕ → Option ℕ → SignedVote → Bool
own_waits id o x = cond (eqb x.voter id) (unwrap_or (option_map (λ old. ltb old x.vote.num) o) true) false

-- a number is above one that there may be where it is not at or below it
above : (num : ℕ) (o : Option ℕ) → unwrap_or (option_map (λ old. ltb old num) o) true ≡ cond (at_or_below num (option_as_found (λ (x : ℕ). x) o)) false true
above num (Some old) = go (ltb old num) refl
  where
    go : (b : Bool) → ltb old num ≡ b → b ≡ cond (leb num old) false true
    go true e = rw (lt-leb num old (ltb-true old num e))
    go false e = rw (le-leb num old (ltb-false old num e))
above num None = refl

module _ (id : ℕ) where
  some_kept : (v : SignedVoteOf) (vs : List SignedVoteOf) (a b : Bool) → eqb v.voter id ≡ b → some_by id (cond a (v ∷ vs) vs) ≡ (cond b a false || some_by id vs)
  unfolding some_by
  some_kept v vs true true e = rw e
  some_kept v vs true false e = rw e
  some_kept v vs false true e = refl
  some_kept v vs false false e = refl

  module _ (c : CounterOf) (o : Option ℕ) (own : option_as_found (λ (x : ℕ). x) o ≡ map_found num_of (lookup voter_of c.committed id)) where
    waits : (x : SignedVote) (b : Bool) → eqb x.voter id ≡ b → cond b (unwrap_or (option_map (λ old. ltb old x.vote.num) o) true) false ≡ cond b (newer c (signed_of x)) false
    unfolding obsolete
    waits x true e =
        above x.vote.num o
        ∙ ap (λ (f : Found ℕ). cond (at_or_below x.vote.num f) false true) (own ∙ ap (λ (i : ℕ). map_found num_of (lookup voter_of c.committed i)) (sym (eqb-true x.voter id e)))
    waits x false e = refl

    -- a pending vote of an id is newer than its voter's committed one where it is newer than the id's
    pub own_among : (xs : List SignedVote) → list_any (own_waits id o) xs ≡ some_by id (filter (newer c) (map signed_of xs))
    unfolding some_by filter
    own_among [] = refl
    own_among (x ∷ xs) =
        ap (λ (r : Bool). own_waits id o x || r) (own_among xs)
        ∙ ap (λ (w : Bool). w || some_by id (filter (newer c) (map signed_of xs))) (waits x (eqb x.voter id) refl)
        ∙ sym (some_kept (signed_of x) (filter (newer c) (map signed_of xs)) (newer c (signed_of x)) (eqb x.voter id) refl)

-- the epoch is the sum, where it is no number too many
module _ (era inner : ℕ) (Q : ℕ → Bool → Type 0) (told : (x : ℕ) (b : Bool) → Q x b → b ≡ ltb x 18446744073709551615) where
  fits : (b : Bool) → b ≡ ltb (era + inner) 18446744073709551615 → said_next (ok_or (then_some b (era + inner)) LastEpoch) ≡ epoch_in era inner
  unfolding row5
  fits true e = rw (le-ltb 18446744073709551614 (era + inner) (omega (arith, ltb-true (era + inner) 18446744073709551615 (sym e))))
  fits false e = rw (lt-ltb 18446744073709551614 (era + inner) (omega (arith, ltb-false (era + inner) 18446744073709551615 (sym e))))

  over : (era + inner < 2 ^ 64 → ⊥) → said_next (Err LastEpoch) ≡ epoch_in era inner
  unfolding row5
  over h = rw (lt-ltb 18446744073709551614 (era + inner) (omega (arith, h)))

  pub epoch_filtered : (o f : Option ℕ) → SomeIff o (era + inner < 2 ^ 64) (era + inner)
      → MatchOption o (f ≡ None) (λ x. (b : Bool) × Q x b × (f ≡ then_some b x)) → said_next (ok_or f LastEpoch) ≡ epoch_in era inner
  epoch_filtered None f h e = ap (λ (y : Option ℕ). said_next (ok_or y LastEpoch)) e ∙ over h
  epoch_filtered (Some x) f h (b, q, e) =
      ap (λ (y : Option ℕ). said_next (ok_or y LastEpoch)) (e ∙ ap (then_some b) h.1) ∙ fits b (told x b q ∙ ap (λ (y : ℕ). ltb y 18446744073709551615) h.1)

-- some message is stored where the store's length is not 0
pub some_length : (ms : List SignedKeyGenMsgOf) → ltb 0 (length ms) ≡ some_stored ms
some_length [] = refl
some_length (m ∷ ms) = lt-ltb 0 (suc (length ms)) (omega arith)

-- whether to propose, by the first test that decides
module _ (s : StateOf) (given : Bool) (proposals : ℕ) where
  pub propose_given : given ≡ true → should_propose s given proposals ≡ false
  unfolding should_propose
  propose_given g = rw g

  module _ (g : given ≡ false) where
    pub propose_many : max_faulty (length (nodes_in s)) < proposals → should_propose s given proposals ≡ true
    unfolding should_propose
    propose_many h = rw (g, lt-ltb (max_faulty (length (nodes_in s))) proposals h)

    module _ (h : proposals ≤ max_faulty (length (nodes_in s))) where
      pub propose_own : some_by s.counter.our_id (pending_votes s.counter) ≡ true → should_propose s given proposals ≡ true
      unfolding should_propose
      propose_own o = rw (g, le-ltb (max_faulty (length (nodes_in s))) proposals h, o)

      pub propose_stored : some_by s.counter.our_id (pending_votes s.counter) ≡ false → should_propose s given proposals ≡ some_stored s.store
      unfolding should_propose
      propose_stored o = rw (g, le-ltb (max_faulty (length (nodes_in s))) proposals h, o)
