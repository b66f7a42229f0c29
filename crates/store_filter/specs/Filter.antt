-- 01, step 4: stored messages equal to a committed one go; here once for all messages of a batch, by the places where they stand in its bytes.
use Rattle.std.specs.Prelude.{ℕ, zero, suc, ◌+◌, ◌≤◌, ◌≡◌, List, [], ◌∷◌, ◌++◌, map, length, take, Bool, false, cond, eqb}
use Rattle.lists.specs.Lists.{filter}
use Rattle.bincode.specs.Read.{Read, value, refuse}
use Rattle.bincode.specs.Items.{foldl}
use Rattle.bincode.specs.Sizes.{base}
use Rattle.key_gen_message.specs.declared.KeyGenMessage.{KeyGenMessage}
use Rattle.key_gen_message.specs.declared.KeyGenMessage.TheVariants.{Part, Ack}
use Rattle.key_gen_message.specs.KeyGenMessage.{SignedKeyGenMsgOf, read_signed_key_gen_msg, same_signed}
use Rattle.key_gen_message.specs.Head.{head_of}
use Rattle.internal_contrib.specs.declared.Contrib.{Contrib}
use Rattle.steps.specs.Kept.{is_none}
use Rattle.store_filter.specs.declared.MessagePlace.{MessagePlace}

-- a key message with the position where it stands
pub record Entry : Type 0 where
  pub message : SignedKeyGenMsgOf
  pub at : ℕ

-- what follows a message that is read; nothing follows a refusal
abbrev pub behind : Read SignedKeyGenMsgOf → (SignedKeyGenMsgOf → ℕ → List Entry) → List Entry
behind (value m c) f = f m c
behind (refuse k) f = []

-- of n messages from a position on, those before the first that cannot be read
unfoldable pub entries_from : List ℕ → ℕ → ℕ → List Entry
entries_from s zero at = []
entries_from s (suc n) at = behind (read_signed_key_gen_msg base s at) (λ m c. record { message = m; at = at } ∷ entries_from s n c)

-- one more, up to as many as a batch may have
abbrev pub listed : List Entry → Entry → List Entry
listed es e = take base.items (es ++ (e ∷ []))

-- the messages of a contribution stand behind a count of eight bytes
abbrev pub contrib_listed : List ℕ → List Entry → Contrib → List Entry
contrib_listed s es k = foldl listed es (entries_from s k.messages.count (k.messages.at + 8))

unfoldable pub entries_in : List ℕ → List Contrib → List Entry
entries_in s ks = foldl (contrib_listed s) [] ks

abbrev pub message_in : Entry → SignedKeyGenMsgOf
message_in e = e.message

-- the stored messages that equal none of them
unfoldable pub without_entries : List Entry → List SignedKeyGenMsgOf → List SignedKeyGenMsgOf
without_entries es store = filter (is_none (map message_in es)) store

-- an entry by small numbers: the signer, the commitment or proposer's index, and the position
abbrev pub first_of : SignedKeyGenMsgOf → ℕ
first_of m = (head_of m).first

abbrev pub place_of : Entry → MessagePlace
place_of e = record { id = e.message.id; first = first_of e.message; at = e.at }

abbrev pub no_place : MessagePlace
no_place = record { id = 0; first = 0; at = 0 }

abbrev pub number_in : KeyGenMessage → ℕ
number_in (Part p) = p.commit
number_in (Ack a) = a.proposer

-- a message is the one that is read; it equals none that is not
abbrev pub is_read : SignedKeyGenMsgOf → Read SignedKeyGenMsgOf → Bool
is_read x (value m c) = same_signed x m
is_read x (refuse k) = false

-- a message is the one that stands at a place: what is read there is compared only where the small numbers agree
unfoldable pub stands_at : List ℕ → SignedKeyGenMsgOf → MessagePlace → Bool
stands_at s x p = cond (eqb x.id p.id) (cond (eqb (first_of x) p.first) (is_read x (read_signed_key_gen_msg base s p.at)) false) false

-- each is read where it stands
abbrev pub ReadAt : List ℕ → Entry → Type 0
ReadAt s e = (c : ℕ) × (read_signed_key_gen_msg base s e.at ≡ value e.message c)

abbrev pub AllRead : List ℕ → List Entry → Type 0
AllRead s [] = Unit {0}
AllRead s (e ∷ es) = ReadAt s e × AllRead s es

-- entries by their places, no more than a batch may have
pub record Listed (s : List ℕ) (es : List Entry) (ps : List MessagePlace) : Type 0 where
  pub by_place : map place_of es ≡ ps
  pub by_bytes : AllRead s es
  pub few : length es ≤ base.items
