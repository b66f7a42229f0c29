-- Turns of the loops over entries.
-- Assumes nothing.
use Prim.Native.Nat.{ℕ, suc, ◌+◌, ◌≤◌, ◌<◌}
use mathlib.Core.Path.{◌≡◌, refl, sym, ap, ◌∙◌}
use mathlib.Core.List.{List, [], ◌∷◌, ◌++◌, map}
use mathlib.Core.Bool.{Bool, true, false, cond, ◌||◌}
use Rattle.std.specs.List.{list_any}
use Rattle.std.proofs.lemmas.List.{map_more}
use Rattle.std.specs.declared.result.Result.TheVariants.{Ok, Err}
use Rattle.std.specs.declared.option.Option.{Option}
use Rattle.std.specs.declared.option.Option.TheVariants.{Some, None}
use Rattle.std.specs.Option.{option_map, unwrap_or}
use native.Mathlib.Omega.{arith}
use lib.Dec.{leb, ltb, eqb}
use lib.ListN.{length, take, drop, get_or, length-take, length-map}
use lib.Seq.{take_all}
use borrow.Author.Tests.{lt-ltb, ltb-true}
use Rattle.lists.specs.Lists.{Found, map_found, option_as_found, lookup, insert, has_key, insert_within}
use Rattle.lists.proofs.ListLaws.{false_true, cond_yes, rest_none}
use Rattle.array_list.specs.ArrayList.{pushed}
use Rattle.bincode.specs.Items.{foldl}
use Rattle.bincode.specs.Sizes.{base}
use Rattle.bincode.specs.Answer.{answer}
use Rattle.bincode.specs.declared.Refusal.{Refusal}
use Rattle.bincode.proofs.ReadLaws.{answer_ok, answer_err}
use Rattle.change.specs.declared.Change.TheVariants.{NodeChange}
use Rattle.votes.specs.declared.SignedVote.{SignedVote}
use Rattle.votes.specs.Votes.{SignedVoteOf, signed_of, signed_held, read_signed_vote}
use Rattle.votes.proofs.VoteLaws.{held_vote}
use Rattle.signed_votes.specs.declared.SignedVotes.{SignedVotes}
use Rattle.signed_votes.specs.SignedVotes.{held, votes_of}
use Rattle.vote_counter.specs.VoteCounter.{CounterOf, at_or_below, add_committed}
use Rattle.commit.specs.declared.tally.Entry.{Entry}
use Rattle.commit.specs.Tally.{entry_voter, entry_num, kept_entry, outdated, is_fresh, any_fresh}
use Rattle.commit.specs.Put.{put_read, put_placed, put_in}

-- the test on a number, by the entry that the search finds
pub outdated_by : (es : List Entry) (voter num : ℕ) (o : Option Entry) → option_as_found (λ (x : Entry). x) o ≡ lookup entry_voter es voter
    → unwrap_or (option_map (λ (e : Entry). leb num e.num) o) false ≡ outdated es voter num
unfolding outdated
outdated_by es voter num o e = go o ∙ ap (λ (x : Found Entry). at_or_below num (map_found entry_num x)) e
  where
    go : (o : Option Entry) → unwrap_or (option_map (λ (e : Entry). leb num e.num) o) false ≡ at_or_below num (map_found entry_num (option_as_found (λ (x : Entry). x) o))
    go (Some x) = refl
    go None = refl

-- an entry of this batch is one of which a test holds
pub fresh_any : (es : List Entry) → list_any is_fresh es ≡ any_fresh es
unfolding any_fresh
fresh_any [] = refl
fresh_any (e ∷ es) = go (is_fresh e) (fresh_any es)
  where
    go : (b : Bool) → list_any is_fresh es ≡ any_fresh es → (b || list_any is_fresh es) ≡ cond b true (any_fresh es)
    go true h = refl
    go false h = h

-- the first of those left is handled
module _ {A B : Type 0} (f : B → A → B) (b : B) (es : List A) (i : ℕ) where
  pub fold_more : (x : A) → drop i es ≡ x ∷ drop (i + 1) es → (b' : B) → b' ≡ f b x → foldl f b (drop i es) ≡ foldl f b' (drop (i + 1) es)
  fold_more x h b' e = ap (foldl f b) h ∙ ap (λ (y : B). foldl f y (drop (i + 1) es)) (sym e)

  pub fold_end : length es ≤ i → foldl f b (drop i es) ≡ b
  fold_end l = ap (foldl f b) (rest_none es i l)

-- a vote as it was before the batch
abbrev pub kept_of : SignedVote → Entry
kept_of x = kept_entry (signed_of x)

-- what a read past the votes would give
abbrev pub blank : SignedVote
blank = record { vote = record { change = NodeChange (record { nodes = record { count = 0; items = [] } }); era = 0; num = 0 }; voter = 0; sig = 0 }

kept_all : (xs : List SignedVote) → map kept_of xs ≡ map kept_entry (map signed_of xs)
kept_all [] = refl
kept_all (x ∷ xs) = ap (λ (es : List Entry). kept_of x ∷ es) (kept_all xs)

-- one vote more, where there is room for a limit
pub kept_next : (limit i : ℕ) (xs : List SignedVote) (z : SignedVote) (es : List Entry) → es ≡ map kept_of (take i xs) → i < length xs → i < limit
    → pushed limit (kept_of (get_or xs i z)) es ≡ map kept_of (take (i + 1) xs)
unfolding pushed
kept_next limit i xs z es e b l =
    let x = kept_of (get_or xs i z) in
    cond_yes (es ++ (x ∷ [])) es (lt-ltb (length es) limit (omega (arith, ap length e, length-map (take i xs) kept_of, length-take i xs, l)))
    ∙ ap (λ (ys : List Entry). ys ++ (x ∷ [])) e
    ∙ sym (map_more kept_of xs i z b)

-- behind the last all are there
pub kept_done : (i : ℕ) (t : SignedVotes) (es : List Entry) → es ≡ map kept_of (take i (held t)) → length (held t) ≤ i → es ≡ map kept_entry (votes_of t)
kept_done i t es e l = e ∙ ap (map kept_of) (take_all i (held t) l) ∙ kept_all (held t)

-- with one put in there are no more than the limit
insert_length : (a : Entry) (es : List Entry)
    → (has_key entry_voter a.voter es ≡ true → length (insert entry_voter a es) ≡ length es) × (length (insert entry_voter a es) ≤ length es + 1)
unfolding insert has_key
insert_length a [] = (λ e. absurd (false_true e), omega arith)
insert_length a (x ∷ es) = go (ltb x.voter a.voter) (eqb x.voter a.voter) (insert_length a es)
  where
    go : (b c : Bool) → (has_key entry_voter a.voter es ≡ true → length (insert entry_voter a es) ≡ length es) × (length (insert entry_voter a es) ≤ length es + 1)
        → (cond b (has_key entry_voter a.voter es) c ≡ true → length (cond b (x ∷ insert entry_voter a es) (cond c (a ∷ es) (a ∷ x ∷ es))) ≡ suc (length es))
        × (length (cond b (x ∷ insert entry_voter a es) (cond c (a ∷ es) (a ∷ x ∷ es))) ≤ suc (length es) + 1)
    go true c h = (λ e. ap suc (h.0 e), omega (arith, h.1))
    go false true h = (λ e. refl, omega arith)
    go false false h = (λ e. absurd (false_true e), omega arith)

pub within_bound : (limit : ℕ) (a : Entry) (es : List Entry) → length es ≤ limit → length (insert_within entry_voter limit a es) ≤ limit
unfolding insert_within
within_bound limit a es h = go (has_key entry_voter a.voter es) refl (ltb (length es) limit) refl
  where
    go : (b : Bool) → has_key entry_voter a.voter es ≡ b → (c : Bool) → ltb (length es) limit ≡ c → length (cond b (insert entry_voter a es) (cond c (insert entry_voter a es) es)) ≤ limit
    go true e c f = omega (arith, (insert_length a es).0 e)
    go false e true f = omega (arith, (insert_length a es).1, ltb-true (length es) limit f)
    go false e false f = h

-- a vote of this batch that is read, and one that cannot be read
module _ (s : List ℕ) (c : CounterOf) (e : Entry) (place : ℕ) (f : e.place ≡ Some place) where
  pub put_unread : (r : Refusal) → answer signed_held (read_signed_vote base s place) ≡ Err r → c ≡ put_in base s c e
  unfolding put_in
  put_unread r q =
      let u = answer_err signed_held (read_signed_vote base s place) r q in
      sym (ap (put_placed base s c) f ∙ ap (put_read base c) u.1)

  pub put_read_lem : (x : SignedVote) (d : ℕ) → answer signed_held (read_signed_vote base s place) ≡ Ok (x, d)
      → (add_committed base c (signed_of x)).counter ≡ put_in base s c e
  unfolding put_in
  put_read_lem x d q =
      let u = answer_ok signed_held (read_signed_vote base s place) x d q in
      sym
      (ap (put_placed base s c) f ∙ ap (put_read base c) u.1
      ∙ ap (λ (v : SignedVoteOf). (add_committed base c v).counter) (sym (ap signed_of u.2 ∙ held_vote u.0)))
