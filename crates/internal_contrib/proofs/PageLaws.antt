-- Single sentences of the scope document, said of the look-up of a node's user bytes, and of its companion.
-- Assumes nothing.
use Prim.Native.Nat.{ℕ, ◌+◌, ◌^◌, ◌<◌}
use mathlib.Core.Path.{◌≡◌, refl, ap, ◌∙◌}
use mathlib.Core.List.{List, [], ◌∷◌, ◌++◌}
use mathlib.Core.Bool.{true, false}
use native.Mathlib.Omega.{arith}
use native.Mathlib.Nat.{add-zero}
use lib.ListN.{length, take, drop, length-append}
use borrow.Author.Tests.{eq-eqb, ne_eqb}
use Rattle.bincode.specs.Read.{value, refuse}
use Rattle.bincode.specs.Outcome.{done, refused}
use Rattle.bincode.specs.Sizes.{Sizes}
use Rattle.bincode.specs.Stands.{Bytes, All, concat_map}
use Rattle.internal_contrib.specs.InternalContrib.{ContribOf, read_batch, contrib_bytes}
use Rattle.internal_contrib.specs.Places.{at_place, no_place, place_from, user_in, has_id, user_of, start_in, contributed}
use Rattle.internal_contrib.proofs.BatchLaws.{batch_shows}

-- none of some contributions is the node's
abbrev pub OthersOnly : ℕ → List ContribOf → Type 0
OthersOnly id cs = All (λ (c : ContribOf). c.id ≡ id → ⊥) cs

-- a batch in which the node's contribution stands behind those of others
module _ (id : ℕ) (c : ContribOf) (own : c.id ≡ id) (behind : List ContribOf) where
  user_behind : (before : List ContribOf) → OthersOnly id before → user_in (before ++ (c ∷ behind)) id ≡ c.user
  unfolding user_in
  user_behind [] h = rw (eq-eqb c.id id own)
  user_behind (x ∷ before) h = rw (ne_eqb x.id id h.0) (user_behind before h.1)

  has_behind : (before : List ContribOf) → OthersOnly id before → has_id (before ++ (c ∷ behind)) id ≡ true
  unfolding has_id
  has_behind [] h = rw (eq-eqb c.id id own)
  has_behind (x ∷ before) h = rw (ne_eqb x.id id h.0) (has_behind before h.1)

  place_behind : (at : ℕ) (before : List ContribOf) → OthersOnly id before
      → place_from at (before ++ (c ∷ behind)) id ≡ at_place (at + length (concat_map contrib_bytes before) + 12) (length c.user)
  unfolding place_from
  place_behind at [] h = rw (add-zero at, eq-eqb c.id id own)
  place_behind at (x ∷ before) h =
      let e : at + length (contrib_bytes x) + length (concat_map contrib_bytes before) ≡ at + length (contrib_bytes x ++ concat_map contrib_bytes before)
      = simp length-append (omega arith) in
      rw (ne_eqb x.id id h.0, ← e) (place_behind (at + length (contrib_bytes x)) before h.1)

  module _ (before : List ContribOf) (others : OthersOnly id before) (end : ℕ) where
    -- 01: "A look-up by station shows the user bytes"
    pub look_up_shows : user_of (value (before ++ (c ∷ behind)) end) id ≡ c.user
    look_up_shows = user_behind before others

    -- the companion says yes, also where they are empty
    pub companion_yes : contributed (value (before ++ (c ∷ behind)) end) id ≡ done true
    companion_yes = ap done (has_behind before others)

    -- the part starts behind the batch's count, the contributions before it, its id and the count of its user bytes
    pub look_up_starts : (s : List ℕ) → start_in s (value (before ++ (c ∷ behind)) end) id ≡ 8 + length (concat_map contrib_bytes before) + 12
    look_up_starts s = rw (place_behind 8 before others)

    -- "as a part of the batch lent in": they stand there as they are shown
    pub part_of_batch : (z : Sizes) → z.nodes < 256 ^ 8 → z.rows < 256 ^ 8 → z.user < 256 ^ 8 → (s : List ℕ) → Bytes s
        → read_batch z s ≡ value (before ++ (c ∷ behind)) end
        → take (length c.user) (drop (8 + length (concat_map contrib_bytes before) + 12) s) ≡ c.user
    part_of_batch z nodes rows user s bytes r =
        (batch_shows z nodes rows user s bytes (before ++ (c ∷ behind)) end id (8 + length (concat_map contrib_bytes before) + 12) (length c.user) r
        (place_behind 8 before others)).1
        ∙ user_behind before others

-- "without such a contribution, .. it is the empty part at the end, and a companion call answers .. no"
module _ (id : ℕ) where
  pub no_user : (cs : List ContribOf) (end : ℕ) → OthersOnly id cs → user_of (value cs end) id ≡ []
  unfolding user_in
  no_user [] end h = refl
  no_user (x ∷ cs) end h = rw (ne_eqb x.id id h.0) (no_user cs end h.1)

  no_place_from : (at : ℕ) (cs : List ContribOf) → OthersOnly id cs → place_from at cs id ≡ no_place
  unfolding place_from
  no_place_from at [] h = refl
  no_place_from at (x ∷ cs) h = rw (ne_eqb x.id id h.0) (no_place_from (at + length (contrib_bytes x)) cs h.1)

  pub part_at_end : (s : List ℕ) (cs : List ContribOf) (end : ℕ) → OthersOnly id cs → start_in s (value cs end) id ≡ length s
  part_at_end s cs end h = rw (no_place_from 8 cs h)

  no_id : (cs : List ContribOf) → OthersOnly id cs → has_id cs id ≡ false
  unfolding has_id
  no_id [] h = refl
  no_id (x ∷ cs) h = rw (ne_eqb x.id id h.0) (no_id cs h.1)

  pub companion_no : (cs : List ContribOf) (end : ℕ) → OthersOnly id cs → contributed (value cs end) id ≡ done false
  companion_no cs end h = ap done (no_id cs h)

  -- "or where reading refuses": the same part, and the companion answers the refusal
  pub refused_look_up : (s : List ℕ) (n : ℕ) → (user_of (refuse n) id ≡ []) × (start_in s (refuse n) id ≡ length s) × (contributed (refuse n) id ≡ refused n)
  refused_look_up s n = (refl, refl, refl)
