-- Laws of a batch: one contribution more, the place of a node's user bytes, and what an accepted batch shows.
-- Assumes nothing.
use Prim.Native.Nat.{ℕ, suc, ◌+◌, ◌^◌, ◌≤◌, ◌<◌}
use mathlib.Core.Path.{◌≡◌, refl, sym, ap, ◌∙◌, subst}
use mathlib.Core.List.{List, [], ◌∷◌, ◌++◌}
use mathlib.Core.Bool.{Bool, true, false, cond}
use native.Mathlib.Omega.{arith}
use native.Mathlib.Nat.{add-zero}
use lib.Dec.{eqb, lit<}
use lib.ListN.{length, take, drop, length-append}
use borrow.Author.Tests.{lt-ltb, le-ltb}
use Rattle.std.specs.declared.option.Option.{Option}
use Rattle.std.specs.declared.option.Option.TheVariants.{Some, None}
use Rattle.std.specs.Option.{unwrap_or}
use Rattle.std.specs.declared.result.Result.{Result}
use Rattle.std.specs.declared.result.Result.TheVariants.{Ok, Err}
use Rattle.lists.specs.Lists.{found, lookup}
use Rattle.lists.proofs.ListLaws.{take_padded}
use Rattle.bincode.specs.Read.{Read, value, refuse, whole}
use Rattle.bincode.specs.Numbers.{bytes_of}
use Rattle.bincode.specs.Outcome.{done, refused}
use Rattle.bincode.specs.Rows.{row_number}
use Rattle.bincode.specs.Answer.{outcome_as_said}
use Rattle.bincode.specs.declared.Refusal.{Refusal}
use Rattle.bincode.specs.Sizes.{Sizes, base}
use Rattle.bincode.specs.Stands.{Bytes, Stands, concat_map}
use Rattle.bincode.proofs.NumberLaws.{length_bytes_of}
use Rattle.bincode.proofs.ItemLaws.{foldl_more}
use Rattle.bincode.proofs.StandLaws.{stands_left, stands_right, stands_self}
use Rattle.internal_contrib.specs.declared.Contrib.{Contrib}
use Rattle.internal_contrib.specs.declared.BatchIndex.{BatchIndex}
use Rattle.internal_contrib.specs.declared.Span.{Span}
use Rattle.internal_contrib.specs.InternalContrib.{ContribOf, read_contribs, read_batch, contrib_bytes, batch_bytes}
use Rattle.internal_contrib.specs.Places.{placed, Place, at_place, no_place, place_from, message_count, user_in, has_id, user_of, start_at, start_in, contributed, said_place}
use Rattle.internal_contrib.specs.Index.{contribs_in, no_contrib, index_held, contrib_id, placed_from, placed_in, place_by, place_in, indexed, Indexed}
use Rattle.internal_contrib.proofs.ContribLaws.{user_within, user_stands}
use Rattle.internal_contrib.proofs.ContribCodes.{batch_one_encoding}

-- the whole length goes first
module _ (z : Sizes) (s : List ℕ) where
  pub batch_long : z.batch < length s → read_batch z s ≡ refuse 3
  unfolding read_batch
  batch_long h = rw (lt-ltb z.batch (length s) h)

  pub batch_short : length s ≤ z.batch → read_batch z s ≡ whole (read_contribs z s) s
  unfolding read_batch
  batch_short h = rw (le-ltb z.batch (length s) h)

-- one contribution more
pub count_more : (cs : List ContribOf) (x : ContribOf) → message_count (cs ++ (x ∷ [])) ≡ message_count cs + length x.messages
unfolding message_count
count_more cs x = foldl_more (λ n c. n + length c.messages) 0 cs x

pub length_more : (cs : List ContribOf) (x : ContribOf)
    → length (concat_map contrib_bytes (cs ++ (x ∷ []))) ≡ length (concat_map contrib_bytes cs) + length (contrib_bytes x)
length_more [] x = simp length-append (omega arith)
length_more (c ∷ cs) x = simp (length-append, length_more cs x) (omega arith)

-- what is kept of contributions that stand one behind the other
pub placed_more : (at : ℕ) (cs : List ContribOf) (x : ContribOf)
    → placed_from at (cs ++ (x ∷ [])) ≡ placed_from at cs ++ (placed (at + length (concat_map contrib_bytes cs)) x ∷ [])
unfolding placed_from
placed_more at [] x = rw add-zero
placed_more at (c ∷ cs) x =
    let e : at + length (contrib_bytes c ++ concat_map contrib_bytes cs) ≡ at + length (contrib_bytes c) + length (concat_map contrib_bytes cs)
    = simp length-append (omega arith) in
    rw e (ap (λ (ks : List Contrib). placed at c ∷ ks) (placed_more (at + length (contrib_bytes c)) cs x))

pub length_placed : (at : ℕ) (cs : List ContribOf) → length (placed_from at cs) ≡ length cs
unfolding placed_from
length_placed at [] = refl
length_placed at (c ∷ cs) = ap suc (length_placed (at + length (contrib_bytes c)) cs)

-- the place of a node's user bytes is found by what is kept
pub place_kept : (at : ℕ) (cs : List ContribOf) (id : ℕ) → place_in (placed_from at cs) id ≡ place_from at cs id
unfolding placed_from place_from lookup
place_kept at [] id = refl
place_kept at (c ∷ cs) id = go (eqb c.id id) (place_kept (at + length (contrib_bytes c)) cs id)
  where
    go : (b : Bool) → place_in (placed_from (at + length (contrib_bytes c)) cs) id ≡ place_from (at + length (contrib_bytes c)) cs id
        → place_by (cond b (found (placed at c)) (lookup contrib_id (placed_from (at + length (contrib_bytes c)) cs) id))
        ≡ cond b (at_place (at + 12) (length c.user)) (place_from (at + length (contrib_bytes c)) cs id)
    go true h = refl
    go false h = h

-- not both a place and none
pub place_clash : {start n : ℕ} → at_place start n ≡ no_place → ⊥
place_clash p = let z : ◌≡◌ {A = ℕ} 0 1 = cc in omega arith

-- a place that was found: the node has a contribution, and its user bytes stand there
module _ (s : List ℕ) (id start n : ℕ) where
  pub record Shows (at : ℕ) (cs : List ContribOf) : Type 0 where
    pub has : has_id cs id ≡ true
    pub within : start + n ≤ at + length (concat_map contrib_bytes cs)
    pub shown : Stands s at (concat_map contrib_bytes cs) → take n (drop start s) ≡ user_in cs id

  pub place_shows : (at : ℕ) (cs : List ContribOf) → place_from at cs id ≡ at_place start n → Shows at cs
  unfolding place_from has_id user_in
  place_shows at [] p = absurd (place_clash (sym p))
  place_shows at (c ∷ cs) p =
      let l = length-append (contrib_bytes c) (concat_map contrib_bytes cs) in
      let g = go l (eqb c.id id) (place_shows (at + length (contrib_bytes c)) cs) p in
      record { has = g.0; within = g.1; shown = g.2 }
    where
      go : length (contrib_bytes c ++ concat_map contrib_bytes cs) ≡ length (contrib_bytes c) + length (concat_map contrib_bytes cs)
          → (b : Bool) → (place_from (at + length (contrib_bytes c)) cs id ≡ at_place start n → Shows (at + length (contrib_bytes c)) cs)
          → cond b (at_place (at + 12) (length c.user)) (place_from (at + length (contrib_bytes c)) cs id) ≡ at_place start n
          → (cond b true (has_id cs id) ≡ true) × (start + n ≤ at + length (contrib_bytes c ++ concat_map contrib_bytes cs))
          × (Stands s at (contrib_bytes c ++ concat_map contrib_bytes cs) → take n (drop start s) ≡ cond b c.user (user_in cs id))
      go l true h q =
          let e : at + 12 ≡ start = cc in
          let f : length c.user ≡ n = cc in
          (refl, omega (arith, user_within c), λ t. rw (← e, ← f) (user_stands s at c (stands_left s at (contrib_bytes c) (concat_map contrib_bytes cs) t)))
      go l false h q =
          let r = h q in
          (r.has, omega (arith, r.within), λ t. r.shown (stands_right s at (contrib_bytes c) (concat_map contrib_bytes cs) t))

-- no place: the node has no contribution
pub place_none : (at : ℕ) (cs : List ContribOf) (id : ℕ) → place_from at cs id ≡ no_place → (has_id cs id ≡ false) × (user_in cs id ≡ [])
unfolding place_from has_id user_in
place_none at [] id p = (refl, refl)
place_none at (c ∷ cs) id p = go (eqb c.id id) (place_none (at + length (contrib_bytes c)) cs id) p
  where
    go : (b : Bool) → (place_from (at + length (contrib_bytes c)) cs id ≡ no_place → (has_id cs id ≡ false) × (user_in cs id ≡ []))
        → cond b (at_place (at + 12) (length c.user)) (place_from (at + length (contrib_bytes c)) cs id) ≡ no_place
        → (cond b true (has_id cs id) ≡ false) × (cond b c.user (user_in cs id) ≡ [])
    go true h q = absurd (place_clash q)
    go false h q = h q

-- the place of a node's user bytes in a batch, if it is read and has one
abbrev pub place_of : Read (List ContribOf) → ℕ → Place
place_of (value cs c) id = place_from 8 cs id
place_of (refuse n) id = no_place

-- an index that holds what was kept gives it back, and the place is found by it
pub held_index : (ks : List Contrib) → contribs_in (index_held ks) ≡ ks
held_index ks = take_padded base.nodes no_contrib ks

pub index_place : (x : Read (List ContribOf)) (i : BatchIndex) → i ≡ index_held (placed_in x) → (id : ℕ) → place_in (contribs_in i) id ≡ place_of x id
unfolding lookup
index_place x i e id = ap (λ (y : BatchIndex). place_in (contribs_in y) id) e ∙ ap (λ (ks : List Contrib). place_in ks id) (held_index (placed_in x)) ∙ go x
  where
    go : (y : Read (List ContribOf)) → place_in (placed_in y) id ≡ place_of y id
    go (value cs c) = place_kept 8 cs id
    go (refuse n) = refl

-- what the place tells of the batch
pub place_read : (x : Read (List ContribOf)) (id start n : ℕ) → place_of x id ≡ at_place start n
    → (cs : List ContribOf) × (c : ℕ) × (x ≡ value cs c) × (place_from 8 cs id ≡ at_place start n)
place_read (value cs c) id start n p = (cs, c, refl, p)
place_read (refuse k) id start n p = absurd (place_clash (sym p))

pub place_empty : (s : List ℕ) (x : Read (List ContribOf)) (id : ℕ) → place_of x id ≡ no_place → (user_of x id ≡ []) × (start_in s x id ≡ length s)
place_empty s (value cs c) id p = ((place_none 8 cs id p).1, ap (start_at s) p)
place_empty s (refuse n) id p = (refl, refl)

-- what an index tells of the reading that it came from
indexed_done : (x : Read (List ContribOf)) (p : BatchIndex × ℕ) → done p ≡ indexed x
    → (cs : List ContribOf) × (c : ℕ) × (x ≡ value cs c) × (p.1 ≡ message_count cs) × (p.0 ≡ index_held (placed_in x))
indexed_done (value cs c) p q =
    let e : p ≡ (index_held (placed_from 8 cs), message_count cs) = cc in
    (cs, c, refl, ap (λ (y : BatchIndex × ℕ). y.1) e, ap (λ (y : BatchIndex × ℕ). y.0) e)
indexed_done (refuse k) p q = let z : ◌≡◌ {A = ℕ} 0 1 = cc in absurd (let y : ⊥ = omega arith in y)

indexed_refused : (x : Read (List ContribOf)) (n : ℕ) → refused n ≡ indexed x → x ≡ refuse n
indexed_refused (value cs c) n p = let z : ◌≡◌ {A = ℕ} 0 1 = cc in absurd (let y : ⊥ = omega arith in y)
indexed_refused (refuse k) n p = let e : k ≡ n = cc in ap refuse e

module _ (x : Read (List ContribOf)) (r : Result (BatchIndex × ℕ) Refusal) (e : Indexed r x) where
  pub check_value : (i : BatchIndex) (n : ℕ) → r ≡ Ok (i, n)
      → (cs : List ContribOf) × (c : ℕ) × (x ≡ value cs c) × (n ≡ message_count cs) × (i ≡ index_held (placed_in x))
  check_value i n q = indexed_done x (i, n) (sym (ap (outcome_as_said (λ (p : BatchIndex × ℕ). p)) q) ∙ e)

  pub check_refuse : (k : Refusal) → r ≡ Err k → x ≡ refuse (row_number k)
  check_refuse k q = indexed_refused x (row_number k) (sym (ap (outcome_as_said (λ (p : BatchIndex × ℕ). p)) q) ∙ e)

  -- the place that is found by it is the batch's
  pub check_place : (i : BatchIndex) (n : ℕ) → r ≡ Ok (i, n) → (o : Option Span) (id : ℕ) → said_place o ≡ place_in (contribs_in i) id
      → (p : Place) → said_place o ≡ p → place_of x id ≡ p
  check_place i n q o id f p g = sym (index_place x i (check_value i n q).4 id) ∙ sym f ∙ g

-- a place found in an accepted batch lies within it, and the node's user bytes stand there
module _ (z : Sizes) (nodes-fit : z.nodes < 256 ^ 8) (rows_fit : z.rows < 256 ^ 8) (user-fits : z.user < 256 ^ 8) where
  pub batch_shows : (s : List ℕ) → Bytes s → (cs : List ContribOf) (c id start n : ℕ) → read_batch z s ≡ value cs c → place_from 8 cs id ≡ at_place start n
      → (start + n ≤ length s) × (take n (drop start s) ≡ user_in cs id)
  unfolding batch_bytes
  batch_shows s b cs c id start n r p =
      let e = (batch_one_encoding z nodes-fit rows_fit user-fits s cs c b r).0 in
      let l : length s ≡ 8 + length (concat_map contrib_bytes cs) = ap length e ∙ simp (length-append, length_bytes_of) in
      let t : Stands s 0 (batch_bytes cs) = subst (λ (u : List ℕ). Stands u 0 (batch_bytes cs)) (sym e) (stands_self (batch_bytes cs)) in
      let u = stands_right s 0 (bytes_of 8 (length cs)) (concat_map contrib_bytes cs) t in
      let k : 0 + length (bytes_of 8 (length cs)) ≡ 8 = omega (arith, length_bytes_of 8 (length cs)) in
      let g = place_shows s id start n 8 cs p in
      (omega (arith, g.within), g.shown (subst (λ (i : ℕ). Stands s i (concat_map contrib_bytes cs)) k u))

  -- the same by the place that the batch has
  pub place_told : (s : List ℕ) → Bytes s → (id start n : ℕ) → place_of (read_batch z s) id ≡ at_place start n
      → (start + n ≤ length s) × (take n (drop start s) ≡ user_of (read_batch z s) id) × (start ≡ start_in s (read_batch z s) id)
  place_told s b id start n p =
      let w = place_read (read_batch z s) id start n p in
      let g = batch_shows s b w.0 w.1 id start n w.2 w.3 in
      let user = g.1 ∙ ap (λ (y : Read (List ContribOf)). user_of y id) (sym w.2) in
      let from = ap (start_at s) (sym w.3) ∙ ap (λ (y : Read (List ContribOf)). start_in s y id) (sym w.2) in
      (g.0, user, from)

-- where a node's user bytes stand, by the look-up in an index: within the batch, or no bytes at its end
module _ (s : List ℕ) (bytes : Bytes s) (r : Result (BatchIndex × ℕ) Refusal) (e : Indexed r (read_batch base s))
    (i : BatchIndex) (n : ℕ) (q : r ≡ Ok (i, n)) (id : ℕ) where
  abbrev Stood : Span → Type 0
  Stood u = (u.at + u.count ≤ length s) × (take u.count (drop u.at s) ≡ user_of (read_batch base s) id) × (u.at ≡ start_in s (read_batch base s) id)

  stood : (o : Option Span) → said_place o ≡ place_in (contribs_in i) id → Stood (unwrap_or o (record { at = length s; count = 0 }))
  stood (Some x) f = place_told base (lit< tt) (lit< tt) (lit< tt) s bytes id x.at x.count (check_place (read_batch base s) r e i n q (Some x) id f _ refl)
  stood None f =
      let p = place_empty s (read_batch base s) id (check_place (read_batch base s) r e i n q None id f _ refl) in
      (omega arith, sym p.0, sym p.1)

  pub span_stands : (o : Option Span) → said_place o ≡ place_in (contribs_in i) id
      → (u : Span) → u ≡ unwrap_or o (record { at = length s; count = 0 }) → Stood u
  span_stands o f u w = subst Stood (sym w) (stood o f)

-- the companion, by the place that the batch has
pub has_place : (x : Read (List ContribOf)) (id start n : ℕ) → place_of x id ≡ at_place start n → done true ≡ contributed x id
has_place x id start n p =
    let w = place_read x id start n p in
    ap done (sym (place_shows [] id start n 8 w.0 w.3).has) ∙ ap (λ (y : Read (List ContribOf)). contributed y id) (sym w.2)

pub has_none : (x : Read (List ContribOf)) (cs : List ContribOf) (c : ℕ) → x ≡ value cs c → (id : ℕ) → place_of x id ≡ no_place → done false ≡ contributed x id
has_none x cs c e id p =
    let q : place_from 8 cs id ≡ no_place = ap (λ (y : Read (List ContribOf)). place_of y id) (sym e) ∙ p in
    ap done (sym (place_none 8 cs id q).0) ∙ ap (λ (y : Read (List ContribOf)). contributed y id) (sym e)
