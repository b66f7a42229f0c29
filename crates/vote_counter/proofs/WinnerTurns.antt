-- Turns of the two loops that look for the winner: votes by their place, and for each the votes for its change.
-- Assumes nothing.
use Prim.Native.Nat.{ℕ, ◌+◌, ◌≤◌, ◌<◌, min}
use mathlib.Core.Path.{◌≡◌, refl, sym, ap, subst, ◌∙◌}
use mathlib.Core.List.{List, [], ◌∷◌, ◌++◌, append-nil}
use mathlib.Core.Bool.{Bool, true, false, cond}
use native.Mathlib.Omega.{arith}
use lib.Dec.{ltb, eqb}
use lib.ListN.{length, take, get_or, length-append, get_or-map, length-map}
use lib.Seq.{take_all}
use borrow.Author.Tests.{ltb-true, ltb-false, le-ltb}
use Rattle.std.specs.Prelude.{Some, None}
use Rattle.std.specs.declared.option.Option.{Option}
use Rattle.lists.specs.Lists.{option_as_found}
use Rattle.lists.proofs.ListLaws.{found_same, not_found}
use Rattle.change.specs.Change.{ChangeOf, change_of, same_change}
use Rattle.change.proofs.ChangeLaws.{change_true, change_refl}
use Rattle.votes.specs.declared.SignedVote.{SignedVote}
use Rattle.votes.specs.Votes.{no_signed}
use Rattle.winner.specs.Support.{Cast, choices, support, supporters, least_with, lowest}
use Rattle.winner.specs.Board.{row_for, is_before}
use Rattle.winner.specs.Winner.{winner_place}
use Rattle.winner.proofs.SupporterLaws.{next_supporter, supporters_counted}
use Rattle.winner.proofs.LowestTurns.{least_more, lowest_own}
use Rattle.winner.proofs.WinnerTurns.{NoneYet, Leading, none_on, none_leads, leads_on, leads_over, none_again, leads_again, none_end, leads_end}
use Rattle.board.specs.declared.BoardRow.{BoardRow}
use Rattle.board.specs.Board.{count_in, voter_in, cast_of, kept_row}
use Rattle.vote_counter.proofs.CarriedTurns.{casts, many, cast_is}

module _ (xs : List SignedVote) where
  -- the change of the vote at a place
  abbrev change_at : ℕ → ChangeOf
  change_at i = get_or (choices (casts xs)) i no_signed.vote.change

  choices_many : length (choices (casts xs)) ≡ length xs
  choices_many = length-map (casts xs) (λ (c : Cast ChangeOf). c.choice) ∙ many xs

  change_is : (i : ℕ) → i < length xs → (z : SignedVote) → change_at i ≡ change_of (get_or xs i z).vote.change
  change_is i l z = get_or-map (λ (c : Cast ChangeOf). c.choice) (casts xs) i (cast_of no_signed) ∙ ap (λ (c : Cast ChangeOf). c.choice) (cast_is xs i l z)

  -- the row of a change, as the board keeps it
  abbrev row_of : ChangeOf → BoardRow
  row_of x = kept_row (row_for same_change (casts xs) x)

  -- for the vote at place i, of a voter for a change: the votes for it before place k are counted, their lowest voter is known, and none of them stands before place i
  module _ (own : ChangeOf) (first i : ℕ) where
    abbrev counted : ℕ → List ℕ
    counted k = supporters same_change own (take k (casts xs))

    abbrev pub Counting : ℕ → BoardRow → Type 0
    Counting k row =
        (row.count ≡ length (counted k)) × (row.voter ≡ least_with first (counted k)) × (row.count ≤ k) × ((m : ℕ) → m ≤ i → m ≤ k → counted m ≡ [])

    pub counting_start : Counting 0 (record { voter = first; count = 0 })
    unfolding supporters
    counting_start = (refl, refl, omega arith, λ m h k. none m (omega arith))
      where
        none : (m : ℕ) → m ≡ 0 → counted m ≡ []
        none m e = rw e

    -- the vote at place k is for the change, or it is not
    module _ (k : ℕ) (l : k < length xs) (y : SignedVote) (row : BoardRow) (h : Counting k row) where
      abbrev theirs : ChangeOf
      theirs = change_of (get_or xs k y).vote.change

      one_more : counted (k + 1) ≡ counted k ++ cond (same_change theirs own) ((get_or xs k y).voter ∷ []) []
      one_more =
          next_supporter same_change own (casts xs) k (omega (arith, many xs)) (cast_of no_signed)
          ∙ (λ j. counted k ++ cond (same_change (cast_is xs k l y j).choice own) ((cast_is xs k l y j).voter ∷ []) [])

      pub counting_yes : i ≤ k → same_change theirs own ≡ true → (low : ℕ) → low ≡ min row.voter (get_or xs k y).voter → Counting (k + 1) (record { voter = low; count = row.count + 1 })
      counting_yes p e low q =
          let more : counted (k + 1) ≡ counted k ++ ((get_or xs k y).voter ∷ []) = rw e at one_more in (
            omega (arith, h.0, ap length more, length-append (counted k) ((get_or xs k y).voter ∷ [])),
            q ∙ ap (λ (n : ℕ). min n (get_or xs k y).voter) h.1 ∙ sym (ap (least_with first) more ∙ least_more first (counted k) (get_or xs k y).voter),
            omega (arith, h.2),
            λ m a b. h.3 m a (omega arith),
          )

      pub counting_no : same_change theirs own ≡ false → Counting (k + 1) row
      counting_no e =
          let as_was : counted (k + 1) ≡ counted k = (rw e at one_more) ∙ append-nil (counted k) in (
            h.0 ∙ ap length (sym as_was),
            h.1 ∙ ap (least_with first) (sym as_was),
            omega (arith, h.2),
            λ m a b. until m a (ltb k m) refl b,
          )
        where
          until : (m : ℕ) → m ≤ i → (c : Bool) → ltb k m ≡ c → m ≤ k + 1 → counted m ≡ []
          until m a true t b =
              let n : m ≡ k + 1 = omega (arith, ltb-true k m t) in
              ap counted n ∙ (rw e at one_more) ∙ append-nil (counted k) ∙ h.3 k (omega (arith, ltb-true k m t)) (omega arith)
          until m a false t b = h.3 m a (ltb-false k m t)

    -- behind the last vote the row is known
    pub counting_end : i < length xs → get_or (casts xs) i (cast_of no_signed) ≡ record { voter = first; choice = own } → (k : ℕ) → length xs ≤ k → (row : BoardRow) → Counting k row
        → row ≡ row_of own
    unfolding lowest
    counting_end l here k end row h = λ j. record { voter = low j; count = number j }
      where
        all : take k (casts xs) ≡ casts xs
        all = take_all k (casts xs) (omega (arith, many xs))

        number : row.count ≡ support same_change own (choices (casts xs))
        number = h.0 ∙ ap (λ (vs : List (Cast ChangeOf)). length (supporters same_change own vs)) all ∙ supporters_counted same_change own (casts xs)

        low : row.voter ≡ lowest same_change own (casts xs)
        low =
            h.1 ∙ ap (λ (vs : List (Cast ChangeOf)). least_with first (supporters same_change own vs)) all
            ∙ ap (λ (c : Cast ChangeOf). least_with c.voter (supporters same_change own (casts xs))) (sym here)
            ∙ lowest_own same_change (casts xs) own (cast_of no_signed) i (omega (arith, many xs)) (ap (λ (c : Cast ChangeOf). same_change c.choice own) here ∙ change_refl own)
            (sym (supporters_counted same_change own (take i (casts xs))) ∙ ap length (h.3 i (omega arith) (omega arith)))

  -- the best so far: nobody, with the row that has to be passed, or the change at a place with its row
  module _ (f : ℕ) where
    abbrev pub bound : BoardRow
    bound = record { voter = 0; count = f }

    abbrev pub Best : ℕ → Option ℕ → BoardRow → Type 0
    Best i None best = (best ≡ bound) × NoneYet same_change f (casts xs) no_signed.vote.change i
    Best i (Some p) best = (p < length xs) × (best ≡ row_of (change_at p)) × Leading same_change f (casts xs) no_signed.vote.change i p

    pub best_start : Best 0 None bound
    best_start = (refl, tt)

    -- a row stands before the first bound exactly if it passes f
    over_bound : (r : BoardRow) → is_before count_in voter_in r bound ≡ ltb f r.count
    over_bound r = go (ltb f r.count) refl
      where
        go : (b : Bool) → ltb f r.count ≡ b → is_before count_in voter_in r bound ≡ b
        go true e = rw e
        go false e = rw e (lem (eqb f r.count))
          where
            lem : (c : Bool) → cond c (ltb r.voter 0) false ≡ false
            lem true = le-ltb r.voter 0 (omega arith)
            lem false = refl

    module _ (i : ℕ) (l : i < length xs) (z : SignedVote) (won : Option ℕ) (best : BoardRow) (h : Best i won best) where
      within : i < length (choices (casts xs))
      within = omega (arith, choices_many)

      -- an earlier vote, at place k, is for its change
      module _ (k : ℕ) (n : k < i) (y : SignedVote) (e : same_change (change_of (get_or xs k y).vote.change) (change_of (get_or xs i z).vote.change) ≡ true) where
        same : change_at k ≡ change_at i
        same = change_is k (omega arith) y ∙ change_true (change_of (get_or xs k y).vote.change) (change_of (get_or xs i z).vote.change) e ∙ sym (change_is i l z)

        pub best_again : Best (i + 1) won best
        best_again = go won h
          where
            go : (w : Option ℕ) → Best i w best → Best (i + 1) w best
            go None b = (b.0, none_again same_change f (casts xs) no_signed.vote.change i within k n same b.1)
            go (Some p) b = (b.0, b.1, leads_again same_change f (casts xs) no_signed.vote.change i within k n same p b.2)

      -- its row stands before the best so far, or it does not
      module _ (row : BoardRow) (r : row ≡ row_of (change_of (get_or xs i z).vote.change)) where
        is_row : row ≡ row_of (change_at i)
        is_row = r ∙ ap row_of (sym (change_is i l z))

        pub best_over : is_before count_in voter_in row best ≡ true → Best (i + 1) (Some i) row
        best_over e = go won h
          where
            go : (w : Option ℕ) → Best i w best → Best (i + 1) (Some i) row
            go None b =
                let t : ltb f (row_of (change_at i)).count ≡ true = sym (over_bound (row_of (change_at i))) ∙ (λ j. is_before count_in voter_in (sym is_row j) (sym b.0 j)) ∙ e in
                (l, is_row, none_leads same_change f (casts xs) no_signed.vote.change i within b.1 (ltb-true f (row_of (change_at i)).count t))
            go (Some p) b = (l, is_row, leads_over same_change f (casts xs) no_signed.vote.change i within p b.2 ((λ j. is_before count_in voter_in (sym is_row j) (sym b.1 j)) ∙ e))

        pub best_stays : is_before count_in voter_in row best ≡ false → Best (i + 1) won best
        best_stays e = go won h
          where
            go : (w : Option ℕ) → Best i w best → Best (i + 1) w best
            go None b =
                let t : ltb f (row_of (change_at i)).count ≡ false = sym (over_bound (row_of (change_at i))) ∙ (λ j. is_before count_in voter_in (sym is_row j) (sym b.0 j)) ∙ e in
                (b.0, none_on same_change f (casts xs) no_signed.vote.change i within b.1 (ltb-false f (row_of (change_at i)).count t))
            go (Some p) b = (b.0, b.1, leads_on same_change f (casts xs) no_signed.vote.change i within p b.2 ((λ j. is_before count_in voter_in (sym is_row j) (sym b.1 j)) ∙ e))

    -- the same, told by what the code names
    pub best_told : (i : ℕ) (w v : Option ℕ) (r q : BoardRow) → w ≡ v → r ≡ q → Best i v q → Best i w r
    best_told i w v r q e g b = subst (λ (x : Option ℕ). Best i x r) (sym e) (subst (λ (y : BoardRow). Best i v y) (sym g) b)

    -- behind the last vote
    pub best_end : (i : ℕ) → length xs ≤ i → (won : Option ℕ) (best : BoardRow) → Best i won best
        → (option_as_found (λ (x : ℕ). x) won ≡ winner_place same_change f (casts xs)) × ((p : ℕ) → won ≡ Some p → p < length xs)
    best_end i end None best h = (sym (none_end same_change f (casts xs) no_signed.vote.change change_true change_refl i (omega (arith, choices_many)) h.1), λ p e. absurd (not_found (ap (option_as_found (λ (x : ℕ). x)) e)))
    best_end i end (Some q) best h = (
      sym (leads_end same_change f (casts xs) no_signed.vote.change change_true change_refl i (omega (arith, choices_many)) q (omega (arith, h.0, choices_many)) h.2),
      λ p e. let same : q ≡ p = found_same (ap (option_as_found (λ (x : ℕ). x)) e) in omega (arith, h.0, same),
    )
