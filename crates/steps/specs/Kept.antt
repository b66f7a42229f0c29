-- The stored messages, once those of a batch have gone.
use Rattle.std.specs.Prelude.{List, [], ◌∷◌, ◌++◌, Bool, true, ◌&&◌}
use Rattle.key_gen_message.specs.KeyGenMessage.{SignedKeyGenMsgOf}
use Rattle.message_store.specs.MessageStore.{without, is_other}
use Rattle.internal_contrib.specs.InternalContrib.{ContribOf}

-- the stored messages after one and the other committed one
abbrev pub less : List SignedKeyGenMsgOf → SignedKeyGenMsgOf → List SignedKeyGenMsgOf
less store m = without m store

-- a message that equals none of a list
abbrev pub is_none : List SignedKeyGenMsgOf → SignedKeyGenMsgOf → Bool
is_none [] x = true
is_none (m ∷ ms) x = is_other m x && is_none ms x

-- the key messages of all contributions, in order
abbrev pub messages_in : List ContribOf → List SignedKeyGenMsgOf
messages_in [] = []
messages_in (c ∷ cs) = c.messages ++ messages_in cs
