-- What code keeps of a batch: the places of a contribution's parts, which follow from the lengths of the encodings; and its answers.
use Rattle.std.specs.Prelude.{ℕ, ◌+◌, ◌-◌, List, [], ◌∷◌, Bool, true, false, cond, length, eqb, Some, None}
use Rattle.std.specs.declared.option.Option.{Option}
use Rattle.bincode.specs.Read.{Read, value, refuse}
use Rattle.bincode.specs.Outcome.{Outcome, done, refused}
use Rattle.bincode.specs.Items.{foldl}
use Rattle.internal_contrib.specs.InternalContrib.{ContribOf, user_bytes, messages_bytes, contrib_bytes}
use Rattle.internal_contrib.specs.declared.Budget.{Budget}
use Rattle.internal_contrib.specs.declared.Contrib.{Contrib}
use Rattle.internal_contrib.specs.declared.Span.{Span}

-- a list of something that stands at a position
abbrev pub span_of : {A : Type 0} → ℕ → List A → Span
span_of at xs = record { at = at; count = length xs }

-- a contribution that stands at a position: four bytes of id, a count of eight, the user bytes, the messages, the votes
abbrev pub placed : ℕ → ContribOf → Contrib
placed at c =
    record {
      id = c.id;
      user = span_of (at + 12) c.user;
      messages = span_of (at + 4 + length (user_bytes c.user)) c.messages;
      votes = span_of (at + 4 + length (user_bytes c.user) + length (messages_bytes c.messages)) c.votes;
    }

-- `spending` on what code keeps
abbrev pub spent : Budget → Contrib → Budget
spent b c = record { low = c.id + 1; left = b.left - c.messages.count - c.votes.count }

-- the user bytes' place in a batch: start and count, or none
pub data Place : Type 0 where
  at_place : ℕ → ℕ → Place
  no_place : Place

-- the place of the id's user bytes among contributions that stand from a position on
unfoldable pub place_from : ℕ → List ContribOf → ℕ → Place
place_from at [] id = no_place
place_from at (c ∷ cs) id = cond (eqb c.id id) (at_place (at + 12) (length c.user)) (place_from (at + length (contrib_bytes c)) cs id)

-- how many key-generation messages a batch has
unfoldable pub message_count : List ContribOf → ℕ
message_count = foldl (λ n c. n + length c.messages) 0

-- the id's contribution
unfoldable pub user_in : List ContribOf → ℕ → List ℕ
user_in [] id = []
user_in (c ∷ cs) id = cond (eqb c.id id) c.user (user_in cs id)

unfoldable pub has_id : List ContribOf → ℕ → Bool
has_id [] id = false
has_id (c ∷ cs) id = cond (eqb c.id id) true (has_id cs id)

-- 01: a look-up by station shows the user bytes; without such a contribution, or where reading refuses, the empty part
abbrev pub user_of : Read (List ContribOf) → ℕ → List ℕ
user_of (value cs c) id = user_in cs id
user_of (refuse n) id = []

-- where that part starts in the batch lent in: at the user bytes, or at the batch's end. Contributions stand behind a count of eight bytes.
abbrev pub start_at : List ℕ → Place → ℕ
start_at s (at_place start n) = start
start_at s no_place = length s

abbrev pub start_in : List ℕ → Read (List ContribOf) → ℕ → ℕ
start_in s (value cs c) id = start_at s (place_from 8 cs id)
start_in s (refuse n) id = length s

abbrev pub start_of : ℕ × ℕ → List ℕ → Read (List ContribOf) → ℕ → ℕ × ℕ
start_of ptr s x id = (ptr.0, start_in s x id + ptr.1)

-- the companion: yes, no or the refusal
abbrev pub contributed : Read (List ContribOf) → ℕ → Outcome Bool
contributed (value cs c) id = done (has_id cs id)
contributed (refuse n) id = refused n

-- the reading pass: the number of key-generation messages, or the refusal met first
abbrev pub checked : Read (List ContribOf) → Outcome ℕ
checked (value cs c) = done (message_count cs)
checked (refuse n) = refused n

-- a place as code answers it
abbrev pub said_place : Option Span → Place
said_place (Some x) = at_place x.at x.count
said_place None = no_place
