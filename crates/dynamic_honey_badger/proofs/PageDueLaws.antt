-- Single sentences of the scope document, said of due items that the host hands back.
-- Assumes nothing.
use Prim.Native.Nat.{ℕ, ◌≤◌, ◌<◌}
use mathlib.Core.Path.{◌≡◌}
use mathlib.Core.List.{List, [], ◌∷◌, ◌++◌}
use mathlib.Core.Bool.{true, false}
use lib.ListN.{length}
use borrow.Author.Tests.{eq-eqb, ne_eqb}
use Rattle.bincode.specs.Read.{value, whole}
use Rattle.bincode.specs.Numbers.{read_num}
use Rattle.bincode.specs.Sizes.{Sizes}
use Rattle.network_info.specs.NetworkInfo.{is_member}
use Rattle.key_gen_message.specs.KeyGenMessage.{KeyGenMessageOf}
use Rattle.message.specs.Message.{key_gen}
use Rattle.message_store.proofs.StoreLaws.{push_full, push_room}
use Rattle.dynamic_honey_badger.specs.State.{StateOf}
use Rattle.dynamic_honey_badger.specs.Received.{quiet, refusal, read_due_item, returned_key_gen, returned}

-- 01: "as `Message::KeyGen` bytes (another tag is 2)": at the tag, whatever follows; the state stays
pub other_tag : (z : Sizes) (s : StateOf) (bytes : List ℕ) (tag c : ℕ) → read_num 4 bytes 0 ≡ value tag c → (tag ≡ 1 → ⊥) → returned z s bytes ≡ record { state = s; effect = refusal 2 }
unfolding returned whole read_due_item
other_tag z s bytes tag c e h = rw (e, ne_eqb tag 1 h)

-- a key message handed back, under any signature, whether or not key generation runs
module _ (z : Sizes) (s : StateOf) (bytes : List ℕ) (era : ℕ) (m : KeyGenMessageOf) (sig c : ℕ) (read : whole (read_due_item z bytes) bytes ≡ value (key_gen era m sig) c) where
  -- "one of another era, .. is dropped"
  pub other_era_dropped : (era ≡ s.counter.era → ⊥) → returned z s bytes ≡ record { state = s; effect = quiet }
  unfolding returned returned_key_gen
  other_era_dropped h = rw (read, ne_eqb era s.counter.era h)

  module _ (now : era ≡ s.counter.era) where
    -- "or made by a non-validator, is dropped"
    pub outsider_dropped : is_member s.counter.nodes s.counter.our_id ≡ false → returned z s bytes ≡ record { state = s; effect = quiet }
    unfolding returned returned_key_gen
    outsider_dropped o = rw (read, eq-eqb era s.counter.era now, o)

    module _ (validator : is_member s.counter.nodes s.counter.our_id ≡ true) where
      -- row 12 where the store is full
      pub full_refused : z.store ≤ length s.store → returned z s bytes ≡ record { state = s; effect = refusal 12 }
      unfolding returned returned_key_gen
      full_refused h = rw (read, eq-eqb era s.counter.era now, validator, push_full z s.store (record { era = era; id = s.counter.our_id; message = m; sig = sig }) h)

      -- "stored under the own id with the signature unchecked"; it is counted for no sender
      pub own_stored : length s.store < z.store
          → returned z s bytes
          ≡ record {
            state = record {
              counter = s.counter;
              params = s.params;
              key_gen = s.key_gen;
              store = s.store ++ (record { era = era; id = s.counter.our_id; message = m; sig = sig } ∷ []);
              last = s.last;
            };
            effect = quiet;
          }
      unfolding returned returned_key_gen
      own_stored h = rw (read, eq-eqb era s.counter.era now, validator, push_room z s.store (record { era = era; id = s.counter.our_id; message = m; sig = sig }) h)
