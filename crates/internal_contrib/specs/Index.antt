-- What is kept of a whole batch: the places of its contributions, which stand one behind the other; and what is read again at a place that was kept.
use Rattle.std.specs.Prelude.{ℕ, ◌+◌, ◌≡◌, List, [], ◌∷◌, length}
use Rattle.std.specs.declared.result.Result.{Result}
use Rattle.lists.specs.Lists.{padded, Found, found, nothing, lookup}
use Rattle.array_list.specs.ArrayList.{items_in}
use Rattle.bincode.specs.Read.{Read, value, refuse}
use Rattle.bincode.specs.Outcome.{Outcome, done, refused}
use Rattle.bincode.specs.Answer.{outcome_as_said}
use Rattle.bincode.specs.Sizes.{Sizes, base}
use Rattle.bincode.specs.declared.Refusal.{Refusal}
use Rattle.internal_contrib.specs.InternalContrib.{ContribOf, read_contrib, contrib_bytes}
use Rattle.internal_contrib.specs.Places.{placed, Place, at_place, no_place, message_count}
use Rattle.internal_contrib.specs.declared.Budget.{Budget}
use Rattle.internal_contrib.specs.declared.Contrib.{Contrib}
use Rattle.internal_contrib.specs.declared.BatchIndex.{BatchIndex}
use Rattle.internal_contrib.specs.declared.Span.{Span}

-- the contributions of any value of the struct: those below the count, as far as the array reaches
abbrev pub contribs_in : BatchIndex → List Contrib
contribs_in x = items_in x.contribs

-- the struct that holds a list of them: unused places are zero
abbrev pub no_span : Span
no_span = record { at = 0; count = 0 }

abbrev pub no_contrib : Contrib
no_contrib = record { id = 0; user = no_span; messages = no_span; votes = no_span }

abbrev pub index_held : List Contrib → BatchIndex
index_held ks = record { contribs = record { count = length ks; items = padded base.nodes no_contrib ks } }

-- contributions that stand one behind the other from a position on
unfoldable pub placed_from : ℕ → List ContribOf → List Contrib
placed_from at [] = []
placed_from at (c ∷ cs) = placed at c ∷ placed_from (at + length (contrib_bytes c)) cs

-- those of a batch stand behind a count of eight bytes; of one that is refused nothing is kept
abbrev pub placed_in : Read (List ContribOf) → List Contrib
placed_in (value cs c) = placed_from 8 cs
placed_in (refuse n) = []

-- what a batch is read as: its index, and how many key-generation messages it has; or the refusal met first
abbrev pub indexed : Read (List ContribOf) → Outcome (BatchIndex × ℕ)
indexed (value cs c) = done (index_held (placed_from 8 cs), message_count cs)
indexed (refuse n) = refused n

abbrev pub Indexed : Result (BatchIndex × ℕ) Refusal → Read (List ContribOf) → Type 0
Indexed r x = outcome_as_said (λ (p : BatchIndex × ℕ). p) r ≡ indexed x

-- the place of a node's user bytes, by what is kept
abbrev pub contrib_id : Contrib → ℕ
contrib_id k = k.id

abbrev pub place_by : Found Contrib → Place
place_by (found k) = at_place k.user.at k.user.count
place_by nothing = no_place

abbrev pub place_in : List Contrib → ℕ → Place
place_in ks id = place_by (lookup contrib_id ks id)

-- what is kept of a contribution that is read somewhere in the bytes; and the same of two lists, one by one
module _ (z : Sizes) (s : List ℕ) where
  pub record Kept (k : Contrib) (x : ContribOf) : Type 0 where
    pub budget : Budget
    pub at : ℕ
    pub next : ℕ
    pub read : read_contrib z s budget at ≡ value x next
    pub kept : k ≡ placed at x

  abbrev pub EachKept : List Contrib → List ContribOf → Type 0
  EachKept [] [] = Unit {0}
  EachKept [] (x ∷ xs) = ⊥
  EachKept (k ∷ ks) [] = ⊥
  EachKept (k ∷ ks) (x ∷ xs) = Kept k x × EachKept ks xs
