-- Turns of the loops that work out a board.
-- Assumes nothing.
use Prim.Native.Nat.{ℕ, zero, suc, ◌+◌, ◌≤◌, ◌<◌, min}
use mathlib.Core.Path.{◌≡◌, refl, sym, ap, ◌∙◌, subst}
use mathlib.Core.List.{List, [], ◌∷◌, ◌++◌, map}
use mathlib.Core.Bool.{Bool, true, false, cond, not}
use native.Mathlib.Omega.{arith}
use native.Mathlib.Nat.{add-zero, zero-add}
use lib.Dec.{eqb, ltb}
use lib.ListN.{length, take, drop, get_or, set, replicate, length-map, length-set, length-drop, get_or-map}
use lib.Seq.{take_all, get_or-drop, get_or-set_same, get_or-set_other}
use borrow.Author.Tests.{eq-eqb, ne_eqb, eqb-true, eqb-false, ltb-false}
use Rattle.lists.specs.Lists.{Found, map_found, lookup}
use Rattle.std.specs.Prelude.{position, Some, None}
use Rattle.std.specs.List.{position_or_len, enumerate_from}
use Rattle.std.specs.Option.{unwrap_or}
use Rattle.std.proofs.lemmas.List.FromFn.{length-enumerate_from, get_or-enumerate_from}
use Rattle.lists.proofs.ListLaws.{false_true}
use Rattle.lists.proofs.SortedLaws.{map_lookup}
use Rattle.change.specs.Change.{ChangeOf, change_of, same_change}
use Rattle.change.proofs.ChangeLaws.{change_true, change_refl}
use Rattle.votes.specs.declared.SignedVote.{SignedVote}
use Rattle.votes.specs.Votes.{SignedVoteOf, signed_of, no_signed, voter_in as voter_in_vote}
use Rattle.signed_votes.specs.declared.SignedVotes.{SignedVotes}
use Rattle.signed_votes.specs.SignedVotes.{held, votes_of, voter_of}
use Rattle.winner.specs.Support.{support, Cast, choices, least_with, supporters, lowest}
use Rattle.winner.specs.Board.{Row, first_choices, row_for, is_before, placed, in_order, board}
use Rattle.winner.proofs.SupportTurns.{count_yes, count_no}
use Rattle.winner.proofs.LowestTurns.{none_supports, lowest_yes, lowest_no, lowest_own, choice_first, choice_again, choices_end}
use Rattle.winner.proofs.BoardOrder.{in_order_map}
use Rattle.board.specs.declared.BoardRow.{BoardRow}
use Rattle.board.specs.Board.{count_in, voter_in, cast_of, kept_row, worked_out, change_by}
use Rattle.board.specs.Turns.{rank, choice_at, Begins, had_before, Marked, Begun}

-- the change that a look-up among the structs finds
pub held_change : (t : SignedVotes) (k : ℕ) (x : Found SignedVote) → lookup voter_in_vote (held t) k ≡ x → change_by (lookup voter_of (votes_of t) k) ≡ change_by (map_found signed_of x)
held_change t k x e = ap change_by (sym (map_lookup signed_of voter_of (held t) k) ∙ ap (map_found signed_of) e)

-- the vote at a place of a slice, whatever stands for the default
pub vote_at : (xs : List SignedVote) (i : ℕ) → i < length (map signed_of xs) → (z : SignedVote) → get_or (map signed_of xs) i no_signed ≡ signed_of (get_or xs i z)
vote_at [] i l z = absurd (let y : ⊥ = omega arith in y)
vote_at (x ∷ xs) zero l z = refl
vote_at (x ∷ xs) (suc i) l z = vote_at xs i (omega arith) z

-- the place of a row among others
module _ (r : BoardRow) where
  pub placed_at : (qs : List BoardRow) → placed count_in voter_in r qs ≡ take (rank r qs) qs ++ (r ∷ drop (rank r qs) qs)
  unfolding placed rank
  placed_at [] = refl
  placed_at (q ∷ qs) = go (is_before count_in voter_in r q) (placed_at qs)
    where
      go : (b : Bool) → placed count_in voter_in r qs ≡ take (rank r qs) qs ++ (r ∷ drop (rank r qs) qs)
          → cond b (r ∷ q ∷ qs) (q ∷ placed count_in voter_in r qs) ≡ take (cond b 0 (suc (rank r qs))) (q ∷ qs) ++ (r ∷ drop (cond b 0 (suc (rank r qs))) (q ∷ qs))
      go true e = refl
      go false e = ap (λ (zs : List BoardRow). q ∷ zs) e

  pub rank_le : (qs : List BoardRow) → rank r qs ≤ length qs
  unfolding rank
  rank_le [] = omega arith
  rank_le (q ∷ qs) = go (is_before count_in voter_in r q) (rank_le qs)
    where
      go : (b : Bool) → rank r qs ≤ length qs → cond b 0 (suc (rank r qs)) ≤ suc (length qs)
      go true h = omega arith
      go false h = omega arith

  -- the search for it
  rank_first : (qs : List BoardRow) → position_or_len (is_before count_in voter_in r) qs ≡ rank r qs
  unfolding rank
  rank_first [] = refl
  rank_first (q ∷ qs) = go (is_before count_in voter_in r q) (rank_first qs)
    where
      go : (b : Bool) → position_or_len (is_before count_in voter_in r) qs ≡ rank r qs → cond (not b) (1 + position_or_len (is_before count_in voter_in r) qs) 0 ≡ cond b 0 (suc (rank r qs))
      go true e = refl
      go false e = omega (arith, e)

  pub rank_found : (qs : List BoardRow) → unwrap_or (position (is_before count_in voter_in r) qs) (length qs) ≡ rank r qs
  rank_found qs = go (ltb (position_or_len (is_before count_in voter_in r) qs) (length qs)) refl
    where
      go : (b : Bool) → ltb (position_or_len (is_before count_in voter_in r) qs) (length qs) ≡ b
          → unwrap_or (cond b (Some (position_or_len (is_before count_in voter_in r) qs)) None) (length qs) ≡ rank r qs
      go true e = rank_first qs
      go false e = let l = ltb-false (position_or_len (is_before count_in voter_in r) qs) (length qs) e in omega (arith, rank_first qs, rank_le qs)

-- the choices of the first of some votes
choices_take : {A : Type 0} (n : ℕ) (cs : List (Cast A)) → choices (take n cs) ≡ take n (choices cs)
choices_take zero cs = refl
choices_take (suc n) [] = refl
choices_take {A} (suc n) (c ∷ cs) = ap (λ (xs : List A). c.choice ∷ xs) (choices_take n cs)

-- votes as casts, and the change that the vote at a place is for
module _ (vs : List SignedVoteOf) where
  abbrev casts : List (Cast ChangeOf)
  casts = map cast_of vs

  pub cast_at : (j : ℕ) → get_or casts j (cast_of no_signed) ≡ cast_of (get_or vs j no_signed)
  cast_at j = get_or-map cast_of vs j no_signed

  choice_at_lem : (j : ℕ) → get_or (choices casts) j no_signed.vote.change ≡ choice_at vs j
  choice_at_lem j = get_or-map (λ (c : Cast ChangeOf). c.choice) casts j (cast_of no_signed) ∙ ap (λ (c : Cast ChangeOf). c.choice) (cast_at j)

  many : length casts ≡ length vs
  many = length-map vs cast_of

  choices_many : length (choices casts) ≡ length vs
  choices_many = length-map casts (λ (c : Cast ChangeOf). c.choice) ∙ many

  -- how many of the votes before place i are for a change, one vote further
  module _ (x : ChangeOf) (j : ℕ) (k : j < length vs) where
    one_yes : same_change (choice_at vs j) x ≡ true → support same_change x (take (j + 1) (choices casts)) ≡ support same_change x (take j (choices casts)) + 1
    one_yes e = count_yes same_change (choices casts) x no_signed.vote.change j (omega (arith, choices_many)) (ap (λ (y : ChangeOf). same_change y x) (choice_at_lem j) ∙ e)

    one_no : same_change (choice_at vs j) x ≡ false → support same_change x (take (j + 1) (choices casts)) ≡ support same_change x (take j (choices casts))
    one_no e = count_no same_change (choices casts) x no_signed.vote.change j (omega (arith, choices_many)) (ap (λ (y : ChangeOf). same_change y x) (choice_at_lem j) ∙ e)

  module _ (p k : ℕ) (l : p < length vs) where
    had_yes : same_change (choice_at vs k) (choice_at vs p) ≡ true → had_before vs (p + 1) k ≡ true
    had_yes e =
        let same = change_true (choice_at vs k) (choice_at vs p) e in
        let s = one_yes (choice_at vs k) p l (ap (λ (y : ChangeOf). same_change (choice_at vs p) y) same ∙ change_refl (choice_at vs p)) in
        ap not (ne_eqb (support same_change (choice_at vs k) (take (p + 1) (choices casts))) 0 (λ z. omega arith))

    had_no : same_change (choice_at vs k) (choice_at vs p) ≡ false → had_before vs (p + 1) k ≡ had_before vs p k
    had_no e = ap (λ (n : ℕ). not (eqb n 0)) (one_no (choice_at vs k) p l (go (same_change (choice_at vs p) (choice_at vs k)) refl))
      where
        go : (b : Bool) → same_change (choice_at vs p) (choice_at vs k) ≡ b → same_change (choice_at vs p) (choice_at vs k) ≡ false
        go true q =
            let same = change_true (choice_at vs p) (choice_at vs k) q in
            absurd (false_true (sym e ∙ ap (λ (y : ChangeOf). same_change y (choice_at vs p)) (sym same) ∙ change_refl (choice_at vs p)))
        go false q = q

    -- a vote whose change was there before adds none
    pub had_again : had_before vs p p ≡ true → had_before vs (p + 1) k ≡ had_before vs p k
    had_again h = go (same_change (choice_at vs k) (choice_at vs p)) refl
      where
        go : (b : Bool) → same_change (choice_at vs k) (choice_at vs p) ≡ b → had_before vs (p + 1) k ≡ had_before vs p k
        go true e = had_yes e ∙ sym h ∙ ap (λ (y : ChangeOf). not (eqb (support same_change y (take p (choices casts))) 0)) (sym (change_true (choice_at vs k) (choice_at vs p) e))
        go false e = had_no e

  pub marked_start : (n : ℕ) → Marked vs 0 (replicate n false)
  unfolding support
  marked_start n k h l = get_d_replicate n k
    where
      get_d_replicate : (m i : ℕ) → get_or (replicate m false) i false ≡ false
      get_d_replicate zero i = refl
      get_d_replicate (suc m) zero = refl
      get_d_replicate (suc m) (suc i) = get_d_replicate m i

  pub marked_again : (p : ℕ) (seen : List Bool) → p < length vs → get_or seen p false ≡ true → Marked vs p seen → Marked vs (p + 1) seen
  marked_again p seen l e m k h g = m k (omega arith) g ∙ sym (had_again p k l (sym (m p (omega arith) l) ∙ e))

  -- while the votes behind place p are gone over, up to place j
  abbrev pub Marking : ℕ → ℕ → List Bool → Type 0
  Marking p j seen = ((k : ℕ) → j ≤ k → k < length vs → get_or seen k false ≡ had_before vs p k) × ((k : ℕ) → p < k → k < j → get_or seen k false ≡ had_before vs (p + 1) k)

  pub marking_start : (p : ℕ) (seen : List Bool) → Marked vs p seen → Marking p (p + 1) seen
  marking_start p seen m = (λ k h l. m k (omega arith) l, λ k h l. absurd (omega arith))

  module _ (p j : ℕ) (seen : List Bool) (l : p < length vs) (g : j < length vs) (m : Marking p j seen) where
    pub marking_yes : j < length seen → same_change (choice_at vs j) (choice_at vs p) ≡ true → Marking p (j + 1) (set seen j true)
    marking_yes f e = (
      λ k h q. get_or-set_other seen j k true false (λ w. let y : ⊥ = omega arith in y) ∙ m.0 k (omega arith) q,
      λ k h q. go k h q (eqb k j) refl,
    )
      where
        go : (k : ℕ) → p < k → k < j + 1 → (b : Bool) → eqb k j ≡ b → get_or (set seen j true) k false ≡ had_before vs (p + 1) k
        go k h q true w =
            let s = eqb-true k j w in
            ap (λ (i : ℕ). get_or (set seen j true) i false) s ∙ get_or-set_same seen j true false f ∙ sym (had_yes p j l e) ∙ ap (had_before vs (p + 1)) (sym s)
        go k h q false w = let n = eqb-false k j w in get_or-set_other seen j k true false (λ v. n v) ∙ m.1 k h (omega arith)

    pub marking_no : same_change (choice_at vs j) (choice_at vs p) ≡ false → Marking p (j + 1) seen
    marking_no e = (λ k h q. m.0 k (omega arith) q, λ k h q. go k h q (eqb k j) refl)
      where
        go : (k : ℕ) → p < k → k < j + 1 → (b : Bool) → eqb k j ≡ b → get_or seen k false ≡ had_before vs (p + 1) k
        go k h q true w =
            let s = eqb-true k j w in
            ap (λ (i : ℕ). get_or seen i false) s ∙ m.0 j (omega arith) g ∙ sym (had_no p j l e) ∙ ap (had_before vs (p + 1)) (sym s)
        go k h q false w = let n = eqb-false k j w in m.1 k h (omega arith)

  pub marking_end : (p j : ℕ) (seen : List Bool) → length vs ≤ j → Marking p j seen → Marked vs (p + 1) seen
  marking_end p j seen h m k q g = m.1 k (omega arith) (omega arith)

  -- the vote at place p: an earlier one is for its change, or none is
  module _ (p : ℕ) (seen : List Bool) (l : p < length vs) (m : Marked vs p seen) where
    pub begun_before : get_or seen p false ≡ true → (row : BoardRow) → Begins vs p false row
    begun_before e row =
        (sym (not_out (eqb (support same_change (choice_at vs p) (take p (choices casts))) 0) (sym (m p (omega arith) l) ∙ e)), λ q. absurd (false_true q))
      where
        not_out : (b : Bool) → not b ≡ true → b ≡ false
        not_out true h = absurd (false_true h)
        not_out false h = refl

    pub first_here : get_or seen p false ≡ false → support same_change (choice_at vs p) (take p (choices casts)) ≡ 0
    first_here e = go (eqb (support same_change (choice_at vs p) (take p (choices casts))) 0) refl (sym (m p (omega arith) l) ∙ e)
      where
        go : (b : Bool) → eqb (support same_change (choice_at vs p) (take p (choices casts))) 0 ≡ b → not b ≡ false → support same_change (choice_at vs p) (take p (choices casts)) ≡ 0
        go true q h = eqb-true _ 0 q
        go false q h = absurd (false_true (sym h))

-- the row of the change that the vote at place p is for, where no earlier one is, while its votes are counted: before place j so many are for it, and the lowest of their
-- voters is `low`
module _ (vs : List SignedVoteOf) (p : ℕ) (l : p < length vs) where
  abbrev own : ChangeOf
  own = choice_at vs p

  abbrev voter : ℕ
  voter = voter_of (get_or vs p no_signed)

  abbrev pub Counted : ℕ → ℕ → ℕ → Type 0
  Counted low count j =
      (count ≡ support same_change own (take j (choices (casts vs)))) × (low ≡ least_with voter (supporters same_change own (take j (casts vs))))
      × (support same_change own (take p (choices (casts vs))) ≡ 0)

  pub counted_start : support same_change own (take p (choices (casts vs))) ≡ 0 → Counted voter 1 (p + 1)
  counted_start z =
      let s = one_yes vs own p l (change_refl own) in
      let t = lowest_yes same_change (casts vs) own voter (cast_of no_signed) p (omega (arith, many vs)) (ap (λ (x : Cast ChangeOf). same_change x.choice own) (cast_at vs p) ∙ change_refl own) in
      let none : supporters same_change own (take p (casts vs)) ≡ [] = none_supports same_change own (take p (casts vs)) (ap (support same_change own) (choices_take p (casts vs)) ∙ z) in
      let same : min voter voter ≡ voter = omega arith in
      (omega (arith, s, z), sym (t ∙ (λ i. min (least_with voter (none i)) (cast_at vs p i).voter) ∙ same), z)

  -- a turn: the vote at place j is for the change, or it is not
  module _ (low count j : ℕ) (k : j < length vs) (c : Counted low count j) where
    pub counted_yes : same_change (choice_at vs j) own ≡ true → Counted (min low (voter_of (get_or vs j no_signed))) (count + 1) (j + 1)
    counted_yes e =
        let s = one_yes vs own j k e in
        let t = lowest_yes same_change (casts vs) own voter (cast_of no_signed) j (omega (arith, many vs)) (ap (λ (x : Cast ChangeOf). same_change x.choice own) (cast_at vs j) ∙ e) in (
          omega (arith, s, c.0),
          ap (λ (m : ℕ). min m (voter_of (get_or vs j no_signed))) c.1
              ∙ sym (t ∙ ap (λ (x : Cast ChangeOf). min (least_with voter (supporters same_change own (take j (casts vs)))) x.voter) (cast_at vs j)),
          c.2,
        )

    pub counted_no : same_change (choice_at vs j) own ≡ false → Counted low count (j + 1)
    counted_no e =
        let s = one_no vs own j k e in
        let t = lowest_no same_change (casts vs) own voter (cast_of no_signed) j (omega (arith, many vs)) (ap (λ (x : Cast ChangeOf). same_change x.choice own) (cast_at vs j) ∙ e) in
        (c.0 ∙ sym s, c.1 ∙ sym t, c.2)

  -- all are counted
  pub begins : (low count j : ℕ) → length vs ≤ j → Counted low count j → Begins vs p true (record { voter = low; count = count })
  begins low count j h c =
      let n = c.2 in
      let q = lowest_own same_change (casts vs) own (cast_of no_signed) p (omega (arith, many vs)) (ap (λ (x : Cast ChangeOf). same_change x.choice own) (cast_at vs p) ∙ change_refl own)
      (ap (support same_change own) (choices_take p (casts vs)) ∙ n) in
      let lowest_is : low ≡ lowest same_change own (casts vs)
      = c.1 ∙ ap (λ (cs : List (Cast ChangeOf)). least_with voter (supporters same_change own cs)) (take_all j (casts vs) (omega (arith, many vs)))
      ∙ ap (λ (x : Cast ChangeOf). least_with x.voter (supporters same_change own (casts vs))) (sym (cast_at vs p)) ∙ q in
      let count_is : count ≡ support same_change own (choices (casts vs)) = c.0 ∙ ap (support same_change own) (take_all j (choices (casts vs)) (omega (arith, choices_many vs))) in
      (sym (eq-eqb (support same_change own (take p (choices (casts vs)))) 0 n), λ e i. record { voter = lowest_is i; count = count_is i })

-- the rows that are still to be put in, from place i on
module _ (vs : List SignedVoteOf) where
  abbrev pub to_come : ℕ → List BoardRow
  to_come i =
      map kept_row (map (row_for same_change (map cast_of vs)) (first_choices same_change (take i (choices (map cast_of vs))) (drop i (choices (map cast_of vs)))))

  pub none_in : worked_out vs ≡ in_order count_in voter_in [] (to_come 0)
  unfolding worked_out board
  none_in =
      in_order_map kept_row (λ (r : Row ChangeOf). r.count) (λ (r : Row ChangeOf). r.lowest) count_in voter_in (λ r. refl) (λ r. refl) []
      (map (row_for same_change (map cast_of vs)) (first_choices same_change [] (choices (map cast_of vs))))

  module _ (i : ℕ) (l : i < length vs) (done : List BoardRow) where
    pub row_in : (row : BoardRow) → Begins vs i true row → in_order count_in voter_in done (to_come i) ≡ in_order count_in voter_in (placed count_in voter_in row done) (to_come (i + 1))
    unfolding in_order
    row_in row b =
        let e = choice_first same_change (choices (map cast_of vs)) (choice_at vs i) i no_signed.vote.change (sym (choice_at_lem vs i)) (omega (arith, choices_many vs)) (sym b.0) in
        let r = b.1 refl in
        rw (e, r)

    pub row_there : (row : BoardRow) → Begins vs i false row → in_order count_in voter_in done (to_come i) ≡ in_order count_in voter_in done (to_come (i + 1))
    row_there row b =
        let e = choice_again same_change (choices (map cast_of vs)) (choice_at vs i) i no_signed.vote.change (sym (choice_at_lem vs i)) (omega (arith, choices_many vs)) (sym b.0) in
        rw e

  pub all_in : (i : ℕ) → length vs ≤ i → (done : List BoardRow) → in_order count_in voter_in done (to_come i) ≡ done
  unfolding in_order
  all_in i h done = rw (choices_end same_change (choices (map cast_of vs)) i (omega (arith, length-map (map cast_of vs) (λ (c : Cast ChangeOf). c.choice), length-map vs cast_of)))

-- the loop over the votes behind place p: what it keeps before place j
module _ (xs : List SignedVote) (p : ℕ) (before : List Bool) where
  abbrev all : List SignedVoteOf
  all = map signed_of xs

  abbrev pub Going : ℕ → List Bool → ℕ → ℕ → Type 0
  Going j seen low count =
      (count ≤ j) × (length seen ≡ length before)
      × ((l : p < length all) → Marked all p before → get_or before p false ≡ false → Counted all p l low count j × Marking all p j seen)

  pub going_start : (z : SignedVote) → Going (p + 1 + 0) before (get_or xs p z).voter 1
  going_start z =
      rw add-zero (
        omega arith,
        refl,
        λ l m f. (
          subst (λ (k : ℕ). Counted all p l k 1 (p + 1)) (ap voter_of (vote_at xs p l z)) (counted_start all p l (first_here all p before l m f)),
          marking_start all p before m,
        ),
      )

  -- a turn: the vote x at place j is for the change, or it is not
  module _ (i j : ℕ) (x : SignedVote) (t : (i < length (drop (p + 1) (enumerate_from 0 xs))) × (◌≡◌ {A = ℕ × SignedVote} (j, x) (get_or (drop (p + 1) (enumerate_from 0 xs)) i (j, x)))) where
    within : p + 1 + i < length xs
    within = omega (arith, t.0, length-drop (p + 1) (enumerate_from 0 xs), length-enumerate_from 0 xs)

    turn_is : ◌≡◌ {A = ℕ × SignedVote} (j, x) (p + 1 + i, get_or xs (p + 1 + i) x)
    turn_is =
        t.1 ∙ get_or-drop (p + 1) (enumerate_from 0 xs) i (j, x) ∙ get_or-enumerate_from 0 xs (p + 1 + i) (j, x) within
        ∙ ap {B = ℕ × SignedVote} (λ (m : ℕ). (m, get_or xs (p + 1 + i) x)) (zero-add (p + 1 + i))

    place_is : j ≡ p + 1 + i
    place_is = ap (λ (y : ℕ × SignedVote). y.0) turn_is

    vote_is : (k : j < length all) → get_or all j no_signed ≡ signed_of x
    vote_is k = vote_at xs j k x ∙ ap signed_of (ap (λ (m : ℕ). get_or xs m x) place_is ∙ sym (ap (λ (y : ℕ × SignedVote). y.1) turn_is))

    agreed : (z : SignedVote) → p < length all → j < length all → same_change (choice_at all j) (choice_at all p) ≡ same_change (change_of x.vote.change) (change_of (get_or xs p z).vote.change)
    agreed z l k = λ n. same_change (vote_is k n).vote.change (vote_at xs p l z n).vote.change

    module _ (z : SignedVote) (seen : List Bool) (low count n : ℕ) (next : n ≡ i + 1) (g : Going (p + 1 + i) seen low count) where
      there : j < length all
      there = omega (arith, within, place_is, length-map xs signed_of)

      so_far : Going j seen low count
      so_far = subst (λ (m : ℕ). Going m seen low count) (sym place_is) g

      pub going_yes : length xs ≤ length before → same_change (change_of x.vote.change) (change_of (get_or xs p z).vote.change) ≡ true → (low' : ℕ) → low' ≡ min low x.voter
          → Going (p + 1 + n) (set seen j true) low' (count + 1)
      going_yes room e low' q =
          subst (λ (m : ℕ). Going m (set seen j true) low' (count + 1)) (omega (arith, place_is, next)) (
            omega (arith, so_far.0),
            length-set seen j true ∙ so_far.1,
            λ l m f.
                let u = so_far.2 l m f in
                let s = agreed z l there ∙ e in (
                  subst (λ (k : ℕ). Counted all p l k (count + 1) (j + 1)) (ap (λ (v : SignedVoteOf). min low (voter_of v)) (vote_is there) ∙ sym q) (counted_yes all p l low count j there u.0 s),
                  marking_yes all p j seen l there u.1 (omega (arith, so_far.1, within, place_is, room)) s,
                ),
          )

      pub going_no : same_change (change_of x.vote.change) (change_of (get_or xs p z).vote.change) ≡ false → Going (p + 1 + n) seen low count
      going_no e =
          subst (λ (m : ℕ). Going m seen low count) (omega (arith, place_is, next)) (
            omega (arith, so_far.0),
            so_far.1,
            λ l m f.
                let u = so_far.2 l m f in
                let s = agreed z l there ∙ e in
                (counted_no all p l low count j there u.0 s, marking_no all p j seen l there u.1 s),
          )

  -- behind the last turn
  pub going_end : (i : ℕ) → i ≡ length (drop (p + 1) (enumerate_from 0 xs)) → p < length xs → (seen : List Bool) (low count : ℕ) → Going (p + 1 + i) seen low count
      → Begun all p before (record { voter = low; count = count }) seen
  going_end i e h seen low count g m f =
      let n = length-map xs signed_of in
      let end : length all ≤ p + 1 + i = omega (arith, n, e, length-drop (p + 1) (enumerate_from 0 xs), length-enumerate_from 0 xs) in
      let l : p < length all = omega (arith, n, h) in
      let u = g.2 l m f in
      (begins all p l low count (p + 1 + i) end u.0, marking_end all p (p + 1 + i) seen end u.1)
