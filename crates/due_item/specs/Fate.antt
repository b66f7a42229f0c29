-- What is decided of a due item on small parts of the state, for every state that has these parts.
use Rattle.std.specs.Prelude.{ℕ, ◌≡◌, List, false, leb, Some, None, Ok, Err}
use Rattle.std.specs.declared.option.Option.{Option}
use Rattle.std.specs.declared.result.Result.{Result}
use Rattle.bincode.specs.Rows.{row_number}
use Rattle.bincode.specs.Sizes.{Sizes}
use Rattle.bincode.specs.declared.Refusal.{Refusal}
use Rattle.pub_key_map.specs.declared.Node.{Node}
use Rattle.key_gen_message.specs.declared.SignedKeyGenMsg.{SignedKeyGenMsg}
use Rattle.key_gen_message.specs.KeyGenMessage.{signed_of}
use Rattle.message_store.specs.MessageStore.{row12, pushed}
use Rattle.dynamic_honey_badger.specs.Received.{HandledOf, quiet, refusal, handled_as, stored_in, returned}
use Rattle.dynamic_honey_badger.specs.State.{StateOf, era_of, nodes_in}

-- where it is stored, the store has room; where it is not, nothing changes
abbrev pub FatedAs : Sizes → StateOf → HandledOf → Result (Option SignedKeyGenMsg) Refusal → Type 0
FatedAs z s h (Ok (Some m)) = (row12 z s.store ≡ false) × (h ≡ stored_in s s (pushed z s.store (signed_of m)))
FatedAs z s h (Ok None) = h ≡ handled_as s quiet
FatedAs z s h (Err r) = h ≡ handled_as s (refusal (row_number r))

-- it is what the item does, for a state with this era, map and own id, and a store that is full where this many are held
abbrev pub FatedFor : Sizes → ℕ → List Node → ℕ → ℕ → List ℕ → Result (Option SignedKeyGenMsg) Refusal → Type 0
FatedFor z era ns id held bytes f =
    (s : StateOf) → era_of s ≡ era → nodes_in s ≡ ns → s.counter.our_id ≡ id → row12 z s.store ≡ leb z.store held → FatedAs z s (returned z s bytes) f
