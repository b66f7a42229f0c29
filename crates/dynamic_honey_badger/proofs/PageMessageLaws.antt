-- Single sentences of the scope document and its readings, said of received messages and of due items handed back.
-- Assumes nothing.
use Prim.Native.Nat.{ℕ, ◌+◌, ◌≤◌, ◌<◌}
use mathlib.Core.Path.{◌≡◌, refl, ap}
use mathlib.Core.List.{[], ◌∷◌, ◌++◌}
use mathlib.Core.Logic.{◌⊎◌, inl, inr}
use mathlib.Core.Bool.{Bool, true, false, ◌||◌}
use native.Mathlib.Omega.{arith}
use lib.ListN.{length, get_or, set}
use lib.Seq.{set-get_or}
use borrow.Author.Tests.{lt-ltb, le-ltb, eq-eqb, ne_eqb}
use Rattle.lists.specs.Lists.{Found, found, nothing, insert_within}
use Rattle.bincode.specs.Sizes.{Sizes}
use Rattle.network_info.specs.NetworkInfo.{key_of}
use Rattle.fault_log.specs.declared.FaultKind.TheVariants.{InvalidVoteSignature, UnexpectedDhbMessageEra, InvalidKeyGenMessageSignature, UnexpectedKeyGenMessage, TooManyKeyGenMessages}
use Rattle.votes.specs.Votes.{SignedVoteOf}
use Rattle.vote_counter.specs.VoteCounter.{is_key}
use Rattle.vote_counter.proofs.PageLaws.{AtOrBelow, Newer, received_old, received_signature, received_replaces}
use Rattle.key_gen_state.specs.KeyGenState.{KeyGenStateOf, sender_place, count_messages}
use Rattle.key_gen_message.specs.KeyGenMessage.{KeyGenMessageOf}
use Rattle.message.specs.Message.{key_gen, signed_vote}
use Rattle.message_store.proofs.StoreLaws.{push_full, push_room}
use Rattle.dynamic_honey_badger.specs.State.{StateOf, candidate_nodes, is_candidate_key, valid_under}
use Rattle.dynamic_honey_badger.specs.Received.{quiet, fault, refusal, received_key_gen, received_content}

-- a key, or none, is one that signed: "`verify` means equality"
is_key_lem : (sig : ℕ) (x : Found ℕ) → x ≡ found sig → is_key sig x ≡ true
is_key_lem sig x e = rw (e, eq-eqb sig sig refl)

not_key : (sig : ℕ) (x : Found ℕ) → (x ≡ found sig → ⊥) → is_key sig x ≡ false
not_key sig (found key) h = ne_eqb key sig (λ e. h (ap found e))
not_key sig nothing h = refl

-- "A key message's signature may be under the signer's current or candidate key"
abbrev pub CandidateKey : Found KeyGenStateOf → ℕ → ℕ → Type 0
CandidateKey k id sig = (g : KeyGenStateOf) × (k ≡ found g) × (key_of g.key_gen.nodes id ≡ found sig)

abbrev pub SignedBy : StateOf → ℕ → ℕ → Type 0
SignedBy s id sig = (key_of s.counter.nodes id ≡ found sig) ⊎ CandidateKey s.key_gen id sig

module _ (s : StateOf) (id sig : ℕ) where
  pub signed_valid : SignedBy s id sig → valid_under s.counter.nodes (candidate_nodes s.key_gen) id sig ≡ true
  unfolding valid_under
  signed_valid (inl e) = rw (is_key_lem sig (key_of s.counter.nodes id) e)
  signed_valid (inr e) = rw (e.1, is_key_lem sig (key_of e.0.key_gen.nodes id) e.2) (either (is_key sig (key_of s.counter.nodes id)))
    where
      either : (b : Bool) → (b || true) ≡ true
      either true = refl
      either false = refl

  pub unsigned_not : (SignedBy s id sig → ⊥) → valid_under s.counter.nodes (candidate_nodes s.key_gen) id sig ≡ false
  unfolding valid_under
  unsigned_not h = rw (not_key sig (key_of s.counter.nodes id) (λ e. h (inl e))) (go s.key_gen (λ e. h (inr e)))
    where
      go : (k : Found KeyGenStateOf) → (CandidateKey k id sig → ⊥) → is_candidate_key (candidate_nodes k) id sig ≡ false
      go (found g) h = not_key sig (key_of g.key_gen.nodes id) (λ e. h (g, refl, e))
      go nothing h = refl

-- a received key message: era, signature, running key generation, count, store
module _ (z : Sizes) (s : StateOf) (sender era : ℕ) (m : KeyGenMessageOf) (sig : ℕ) where
  -- "a later era is `UnexpectedDhbMessageEra` on the sender, an earlier era is nothing", before its signature is looked at
  pub key_later : s.counter.era < era → received_content z s sender (key_gen era m sig) ≡ record { state = s; effect = fault UnexpectedDhbMessageEra }
  unfolding received_content
  key_later h = rw (lt-ltb s.counter.era era h)

  pub key_earlier : era < s.counter.era → received_content z s sender (key_gen era m sig) ≡ record { state = s; effect = quiet }
  unfolding received_content
  key_earlier h = rw (le-ltb s.counter.era era (omega arith), lt-ltb era s.counter.era h)

  module _ (now : era ≡ s.counter.era) where
    -- under neither key
    pub key_unsigned : (SignedBy s sender sig → ⊥) → received_content z s sender (key_gen era m sig) ≡ record { state = s; effect = fault InvalidKeyGenMessageSignature }
    unfolding received_content received_key_gen
    key_unsigned h = rw (le-ltb s.counter.era era (omega arith), le-ltb era s.counter.era (omega arith), unsigned_not s sender sig h)

    module _ (signed : SignedBy s sender sig) where
      -- no key generation runs
      pub key_unexpected : s.key_gen ≡ nothing → received_content z s sender (key_gen era m sig) ≡ record { state = s; effect = fault UnexpectedKeyGenMessage }
      unfolding received_content received_key_gen
      key_unexpected e = rw (le-ltb s.counter.era era (omega arith), le-ltb era s.counter.era (omega arith), signed_valid s sender sig signed, e)

      -- one runs: the sender has a place among its counts
      module _ (g : KeyGenStateOf) (runs : s.key_gen ≡ found g) (i : ℕ) (place : sender_place z s.counter.nodes g.key_gen.nodes sender ≡ found i) where
        -- the state with the sender's count raised by one, and this store
        abbrev counted : StateOf
        counted = record { counter = s.counter; params = s.params; key_gen = found (record { key_gen = g.key_gen; counts = set g.counts i (get_or g.counts i 0 + 1) }); store = s.store; last = s.last }

        abbrev stored : StateOf
        stored =
            record {
              counter = s.counter;
              params = s.params;
              key_gen = found (record { key_gen = g.key_gen; counts = set g.counts i (get_or g.counts i 0 + 1) });
              store = s.store ++ (record { era = era; id = sender; message = m; sig = sig } ∷ []);
              last = s.last;
            }

        -- "count > n+1 of the new map", also where the store is full: this one would be the message n+2; nothing is stored
        pub key_many : get_or g.counts i 0 ≡ length g.key_gen.nodes + 1 → received_content z s sender (key_gen era m sig) ≡ record { state = counted; effect = fault TooManyKeyGenMessages }
        unfolding received_content received_key_gen count_messages
        key_many h =
            rw
            (le-ltb s.counter.era era (omega arith), le-ltb era s.counter.era (omega arith), signed_valid s sender sig signed, runs, place, lt-ltb (get_or g.counts i 0) (length g.key_gen.nodes + 2) (omega arith), lt-ltb (length g.key_gen.nodes + 1) (get_or g.counts i 0 + 1) (omega arith))

        -- once the count has stopped rising nothing changes
        pub key_still_many : length g.key_gen.nodes + 2 ≤ get_or g.counts i 0
            → received_content z s sender (key_gen era m sig)
            ≡ record { state = record { counter = s.counter; params = s.params; key_gen = found g; store = s.store; last = s.last }; effect = fault TooManyKeyGenMessages }
        unfolding received_content received_key_gen count_messages
        key_still_many h =
            rw
            (le-ltb s.counter.era era (omega arith), le-ltb era s.counter.era (omega arith), signed_valid s sender sig signed, runs, place, le-ltb (get_or g.counts i 0) (length g.key_gen.nodes + 2) h, lt-ltb (length g.key_gen.nodes + 1) (get_or g.counts i 0) (omega arith), set-get_or g.counts i 0)

        module _ (few : get_or g.counts i 0 ≤ length g.key_gen.nodes) where
          -- row 12: "message to be stored, 128 held": everything as given, "the sender's count too"
          pub key_full : z.store ≤ length s.store → received_content z s sender (key_gen era m sig) ≡ record { state = s; effect = refusal 12 }
          unfolding received_content received_key_gen count_messages
          key_full h =
              rw
              (le-ltb s.counter.era era (omega arith), le-ltb era s.counter.era (omega arith), signed_valid s sender sig signed, runs, place, lt-ltb (get_or g.counts i 0) (length g.key_gen.nodes + 2) (omega arith), le-ltb (length g.key_gen.nodes + 1) (get_or g.counts i 0 + 1) (omega arith), push_full z s.store (record { era = era; id = sender; message = m; sig = sig }) h)

          -- else it is stored behind the others, under its sender
          pub key_stored : length s.store < z.store → received_content z s sender (key_gen era m sig) ≡ record { state = stored; effect = quiet }
          unfolding received_content received_key_gen count_messages
          key_stored h =
              rw
              (le-ltb s.counter.era era (omega arith), le-ltb era s.counter.era (omega arith), signed_valid s sender sig signed, runs, place, lt-ltb (get_or g.counts i 0) (length g.key_gen.nodes + 2) (omega arith), le-ltb (length g.key_gen.nodes + 1) (get_or g.counts i 0 + 1) (omega arith), push_room z s.store (record { era = era; id = sender; message = m; sig = sig }) h)

-- a received vote: era, number, signature
module _ (z : Sizes) (s : StateOf) (sender : ℕ) (v : SignedVoteOf) where
  pub vote_later : s.counter.era < v.vote.era → received_content z s sender (signed_vote v) ≡ record { state = s; effect = fault UnexpectedDhbMessageEra }
  unfolding received_content
  vote_later h = rw (lt-ltb s.counter.era v.vote.era h)

  pub vote_earlier : v.vote.era < s.counter.era → received_content z s sender (signed_vote v) ≡ record { state = s; effect = quiet }
  unfolding received_content
  vote_earlier h = rw (le-ltb s.counter.era v.vote.era (omega arith), lt-ltb v.vote.era s.counter.era h)

  module _ (now : v.vote.era ≡ s.counter.era) where
    -- "A number at or below the pending one is nothing, before the signature is looked at"
    pub vote_old : AtOrBelow s.counter.pending v → received_content z s sender (signed_vote v) ≡ record { state = s; effect = quiet }
    unfolding received_content
    vote_old h = rw (le-ltb s.counter.era v.vote.era (omega arith), le-ltb v.vote.era s.counter.era (omega arith), received_old z s.counter v now h)

    module _ (new : Newer s.counter.pending v) where
      pub vote_unsigned : (key_of s.counter.nodes v.voter ≡ found v.sig → ⊥) → received_content z s sender (signed_vote v) ≡ record { state = s; effect = fault InvalidVoteSignature }
      unfolding received_content
      vote_unsigned h = rw (le-ltb s.counter.era v.vote.era (omega arith), le-ltb v.vote.era s.counter.era (omega arith), received_signature z s.counter v now new h)

      -- else it replaces its voter's pending vote, whoever sent it
      pub vote_replaces : key_of s.counter.nodes v.voter ≡ found v.sig
          → received_content z s sender (signed_vote v)
          ≡ record {
            state = record {
              counter = record {
                our_id = s.counter.our_id;
                our_key = s.counter.our_key;
                nodes = s.counter.nodes;
                era = s.counter.era;
                pending = insert_within (λ (x : SignedVoteOf). x.voter) z.nodes v s.counter.pending;
                committed = s.counter.committed;
                board = s.counter.board;
              };
              params = s.params;
              key_gen = s.key_gen;
              store = s.store;
              last = s.last;
            };
            effect = quiet;
          }
      unfolding received_content
      vote_replaces e = rw (le-ltb s.counter.era v.vote.era (omega arith), le-ltb v.vote.era s.counter.era (omega arith), received_replaces z s.counter v now new e)
