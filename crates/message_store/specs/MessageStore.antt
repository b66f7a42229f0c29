-- 01: the message store, in order of arrival; row 12.
use Rattle.std.specs.Prelude.{ℕ, ◌≡◌, List, [], ◌∷◌, ◌++◌, map, Bool, not, cond, length, replicate, leb}
use Rattle.std.specs.Prelude.{Ok, Err}
use Rattle.std.specs.declared.result.Result.{Result}
use Rattle.lists.specs.Lists.{filter}
use Rattle.array_list.specs.ArrayList.{items_in}
use Rattle.bincode.specs.Rows.{row_number}
use Rattle.bincode.specs.declared.Refusal.{Refusal}
use Rattle.bincode.specs.Sizes.{Sizes, base}
use Rattle.bincode.specs.Outcome.{Outcome, done, refused}
use Rattle.key_gen_message.specs.declared.SignedKeyGenMsg.{SignedKeyGenMsg}
use Rattle.key_gen_message.specs.KeyGenMessage.{SignedKeyGenMsgOf, signed_of, signed_held, no_signed, same_signed}
use Rattle.message_store.specs.declared.MessageStore.{MessageStore}
use Rattle.message_store.specs.declared.Pushed.{Pushed}

-- row 12: as many are held as the store has places
unfoldable pub row12 : Sizes → List SignedKeyGenMsgOf → Bool
row12 z ms = leb z.store (length ms)

-- the last to arrive is the last of the list
unfoldable pub pushed : Sizes → List SignedKeyGenMsgOf → SignedKeyGenMsgOf → Outcome (List SignedKeyGenMsgOf)
pushed z ms m = cond (row12 z ms) (refused 12) (done (ms ++ (m ∷ [])))

-- step 4: stored messages equal to a committed one go
abbrev pub is_other : SignedKeyGenMsgOf → SignedKeyGenMsgOf → Bool
is_other m x = not (same_signed x m)

unfoldable pub without : SignedKeyGenMsgOf → List SignedKeyGenMsgOf → List SignedKeyGenMsgOf
without m ms = filter (is_other m) ms

-- a new era drops stored messages of lower eras
abbrev pub is_recent : ℕ → SignedKeyGenMsgOf → Bool
is_recent era x = leb era x.era

unfoldable pub from_era : ℕ → List SignedKeyGenMsgOf → List SignedKeyGenMsgOf
from_era era ms = filter (is_recent era) ms

-- as code holds it: those below the count, as far as the array reaches
abbrev pub held : MessageStore → List SignedKeyGenMsg
held s = items_in s.messages

abbrev pub store_of : MessageStore → List SignedKeyGenMsgOf
store_of s = map signed_of (held s)

abbrev pub no_store : MessageStore
no_store = record { messages = record { count = 0; items = replicate base.store (signed_held no_signed) } }

abbrev pub said_push : Result (Unit {0}) Refusal → MessageStore → Outcome (List SignedKeyGenMsgOf)
said_push (Ok u) s = done (store_of s)
said_push (Err e) s = refused (row_number e)

abbrev pub pushed_of : Pushed → Outcome (List SignedKeyGenMsgOf)
pushed_of r = said_push r.outcome r.store

-- beside row 12 stands the very store that was given, places that do not count included
abbrev pub PushRefusedKeeps : Pushed → MessageStore → Type 0
PushRefusedKeeps r s = (e : Refusal) → r.outcome ≡ Err e → r.store ≡ s
