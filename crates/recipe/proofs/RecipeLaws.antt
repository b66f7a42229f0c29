-- Laws of the recipe: what is held place by place is what the recipe of the recorded parts says.
-- Assumes nothing.
use Prim.Native.Nat.{ℕ, zero, suc, ◌+◌, ◌-◌, ◌≤◌, ◌<◌}
use mathlib.Core.Path.{◌≡◌, refl, sym, ap, ◌∙◌}
use mathlib.Core.List.{List, [], ◌∷◌, ◌++◌, map, append_assoc, append-nil}
use mathlib.Core.Bool.{Bool, true, false, not, cond, ◌&&◌, ◌||◌}
use native.Mathlib.Omega.{arith}
use native.Mathlib.Nat.{add-zero}
use native.Mathlib.Numerals.{add-one}
use mir.Val.{bool_byte}
use lib.Dec.{ltb, leb}
use lib.ListN.{length, take, drop, get_or, set}
use lib.Seq.{drop-cons, take_all, take-suc-set, drop-set-lt}
use borrow.Author.Tests.{lt-ltb, ltb-true, ltb-false, le-leb, lt-leb, leb-true, leb-false}
use Rattle.std.specs.Prelude.{Some, None}
use Rattle.std.specs.List.{list_any}
use Rattle.std.specs.declared.option.Option.{Option}
use Rattle.lists.specs.Lists.{marked, present, filter}
use Rattle.lists.proofs.ListLaws.{rest_none}
use Rattle.pub_key_map.specs.PubKeyMap.{nodes_of}
use Rattle.network_info.specs.NetworkInfo.{is_member}
use Rattle.key_gen.specs.declared.KeyGen.{KeyGen}
use Rattle.key_gen.specs.declared.Proposal.{Proposal}
use Rattle.key_gen.specs.KeyGen.{ProposalOf, by_proposer, proposal_at, complete, complete_in, indices, threshold, key_gen_of}
use Rattle.recipe.specs.declared.Share.{Share}
use Rattle.recipe.specs.declared.Recipe.TheVariants.{Observer, Share as Shares, Missing}
use Rattle.recipe.specs.Recipe.{observer, share, missing, share_of, some_short, recipe, share_at, recipe_of}
use Rattle.recipe.specs.Places.{first_marks, short_at, share_with, share_for, short_in, share_in}

-- the first n marked places are the first n of the marked places
pub first_marked : (bs : List Bool) (n i : ℕ) → marked (λ b. b) (λ k b. k) i (first_marks n bs) ≡ take n (marked (λ b. b) (λ k b. k) i bs)
unfolding marked first_marks
first_marked [] zero i = refl
first_marked [] (suc n) i = refl
first_marked (true ∷ bs) zero i = first_marked bs zero (suc i)
first_marked (true ∷ bs) (suc n) i =
    let z : suc n - 1 ≡ n = omega arith in
    rw (lt-ltb 0 (suc n) (omega arith), z) (ap (λ (xs : List ℕ). i ∷ xs) (first_marked bs n (suc i)))
first_marked (false ∷ bs) n i = first_marked bs n (suc i)

-- the loop that unmarks all others in place, by how many stayed marked before place i
module _ (whole : List Bool) (t : ℕ) where
  abbrev pub Marking : ℕ → ℕ → List Bool → Type 0
  Marking taken i bs = (whole ≡ take i bs ++ first_marks (t + 1 - taken) (drop i bs)) × (taken ≤ i)

  -- a turn: a marked place stays so where no more than t did before
  pub marks_turn : (taken i : ℕ) (bs : List Bool) (c : Bool) (one : ℕ) → i < length bs → Marking taken i bs → c ≡ (get_or bs i false && leb taken t) → one ≡ bool_byte c
      → Marking (taken + one) (i + 1) (set bs i c)
  unfolding first_marks
  marks_turn taken i bs c one h e s k = go (get_or bs i false) (leb taken t) refl refl c s one k
    where
      rest : (b d : Bool) → get_or bs i false ≡ b → leb taken t ≡ d → first_marks (t + 1 - taken) (drop i bs) ≡ (b && d) ∷ first_marks (t + 1 - (taken + bool_byte (b && d))) (drop (suc i) bs)
      rest true true p q =
          let n : t + 1 - taken - 1 ≡ t + 1 - (taken + 1) = omega arith in
          rw (drop-cons bs i false h, p, lt-ltb 0 (t + 1 - taken) (omega (arith, leb-true taken t q)), n) refl
      rest true false p q =
          let n : t + 1 - taken ≡ 0 = omega (arith, leb-false taken t q) in
          rw (drop-cons bs i false h, p, n, add-zero, n) refl
      rest false d p q = rw (drop-cons bs i false h, p, add-zero) refl

      go : (b d : Bool) → get_or bs i false ≡ b → leb taken t ≡ d → (c : Bool) → c ≡ (b && d) → (one : ℕ) → one ≡ bool_byte c → Marking (taken + one) (i + 1) (set bs i c)
      go b d p q c s one k = (
        rw (k, s, add-one i, take-suc-set bs i (b && d) h, drop-set-lt (suc i) bs i (b && d) (omega arith), append_assoc) (e.0 ∙ ap (λ (xs : List Bool). take i bs ++ xs) (rest b d p q)),
        omega (arith, e.1, k, few c),
      )
        where
          few : (c : Bool) → bool_byte c ≤ 1
          few true = omega arith
          few false = omega arith

  -- at the end all is done
  pub marks_end : (taken i : ℕ) (bs : List Bool) → length bs ≤ i → Marking taken i bs → bs ≡ whole
  unfolding first_marks
  marks_end taken i bs h e = sym (rw (rest_none bs i h, take_all i bs h, append-nil) at e.0)

-- no more than t are fewer than t+1
pub few_held : (n t : ℕ) → leb n t ≡ ltb n (t + 1)
few_held n t = go (ltb n (t + 1)) refl
  where
    go : (b : Bool) → ltb n (t + 1) ≡ b → leb n t ≡ b
    go true e = le-leb n t (omega (arith, ltb-true n (t + 1) e))
    go false e = lt-leb n t (omega (arith, ltb-false n (t + 1) e))

-- what is said of a place is what is said of the part that stands there
module _ (t : ℕ) (place : Option Proposal) where
  pub short_held : (b : Bool) → (place ≡ None → b ≡ false) → ((p : Proposal) → place ≡ Some p → b ≡ (complete t (proposal_at 0 p) && leb (length (indices p.good)) t)) → b ≡ short_in t place
  unfolding short_at
  short_held b absent there = go place refl
    where
      go : (o : Option Proposal) → place ≡ o → b ≡ short_in t o
      go None e = absent e
      go (Some p) e = there p e ∙ ap (λ (f : Bool). complete t (proposal_at 0 p) && f) (few_held (length (indices p.good)) t)

  pub given_held : (o : Option Share) → (place ≡ None → o ≡ None) → ((p : Proposal) → place ≡ Some p → complete t (proposal_at 0 p) ≡ true → o ≡ Some (share_with t p))
      → ((p : Proposal) → place ≡ Some p → complete t (proposal_at 0 p) ≡ false → o ≡ None) → o ≡ share_in t place
  unfolding share_for
  given_held o absent whole part = go place refl
    where
      test : (p : Proposal) → place ≡ Some p → (b : Bool) → complete t (proposal_at 0 p) ≡ b → o ≡ cond b (Some (share_with t p)) None
      test p e true f = whole p e f
      test p e false f = part p e f

      go : (q : Option Proposal) → place ≡ q → o ≡ share_in t q
      go None e = absent e
      go (Some p) e = test p e (complete t (proposal_at 0 p)) refl

module _ (t : ℕ) where
  -- the complete ones among the proposals from place i on
  abbrev pub parts_from : ℕ → List (Option Proposal) → List ProposalOf
  parts_from i ps = filter (complete t) (present proposal_at i ps)

  -- whatever is told of a share and of a part in the same way, is told of the same ones in the same order
  module _ {B : Type 0} (view : ℕ → Share → B) (tell : ProposalOf → B) (same : (i : ℕ) (p : Proposal) → view i (share_with t p) ≡ tell (proposal_at i p)) where
    pub shares_told : (ps : List (Option Proposal)) (i : ℕ) → present view i (map (share_in t) ps) ≡ map tell (parts_from i ps)
    unfolding present filter share_for complete
    shares_told [] i = refl
    shares_told (None ∷ ps) i = shares_told ps (suc i)
    shares_told (Some p ∷ ps) i = go (complete t (proposal_at 0 p)) (shares_told ps (suc i))
      where
        go : (b : Bool) → present view (suc i) (map (share_in t) ps) ≡ map tell (parts_from (suc i) ps)
            → present view i (cond b (Some (share_with t p)) None ∷ map (share_in t) ps) ≡ map tell (cond b (proposal_at i p ∷ parts_from (suc i) ps) (parts_from (suc i) ps))
        go true e = rw (same i p, e)
        go false e = e

  -- whose values are used
  pub used_told : (ps : List (Option Proposal)) → present share_at 0 (map (share_in t) ps) ≡ map (share_of t) (parts_from 0 ps)
  used_told ps = shares_told share_at (share_of t) (λ i p. rw (first_marked p.good (t + 1) 0)) ps 0

  -- the complete proposers
  pub complete_told : (ps : List (Option Proposal)) (i : ℕ) → marked (λ b. b) (λ k b. k) i (map (complete_in t) ps) ≡ map by_proposer (parts_from i ps)
  unfolding marked present filter complete
  complete_told [] i = refl
  complete_told (None ∷ ps) i = complete_told ps (suc i)
  complete_told (Some p ∷ ps) i = go (complete t (proposal_at 0 p)) (complete_told ps (suc i))
    where
      go : (b : Bool) → marked (λ b. b) (λ k b. k) (suc i) (map (complete_in t) ps) ≡ map by_proposer (parts_from (suc i) ps)
          → cond b (i ∷ marked (λ b. b) (λ k b. k) (suc i) (map (complete_in t) ps)) (marked (λ b. b) (λ k b. k) (suc i) (map (complete_in t) ps))
          ≡ map by_proposer (cond b (proposal_at i p ∷ parts_from (suc i) ps) (parts_from (suc i) ps))
      go true e = ap (λ (xs : List ℕ). i ∷ xs) e
      go false e = e

  -- a complete part with too few good values is one at its place
  pub short_told : (ps : List (Option Proposal)) (i : ℕ) → list_any (short_in t) ps ≡ some_short t (parts_from i ps)
  unfolding present filter short_at some_short complete
  short_told [] i = refl
  short_told (None ∷ ps) i = short_told ps (suc i)
  short_told (Some p ∷ ps) i = go (complete t (proposal_at 0 p)) (short_told ps (suc i))
    where
      go : (b : Bool) → list_any (short_in t) ps ≡ some_short t (parts_from (suc i) ps)
          → ((b && ltb (length (indices p.good)) (t + 1)) || list_any (short_in t) ps) ≡ some_short t (cond b (proposal_at i p ∷ parts_from (suc i) ps) (parts_from (suc i) ps))
      go true e = rw e
      go false e = e

-- what is held place by place is the recipe
module _ (g : KeyGen) (t : ℕ) (same : t ≡ threshold (key_gen_of g)) where
  -- an observer's
  pub observer_held : (observing : Bool) (fs : List Bool) → observing ≡ not (is_member (nodes_of g.pub_keys) g.our_id) → observing ≡ true → fs ≡ map (complete_in t) g.proposals
      → recipe_of (Observer fs) ≡ recipe (key_gen_of g)
  unfolding recipe
  observer_held observing fs m i f = rw (f, ← same, sym m ∙ i) (ap observer (complete_told t g.proposals 0))

  -- a member's, which goes by whether some complete proposer has too few good values
  module _ (observing short : Bool) (m : observing ≡ not (is_member (nodes_of g.pub_keys) g.our_id)) (i : observing ≡ false) (s : short ≡ list_any (short_in t) g.proposals) where
    pub missing_held : (fs : List Bool) → fs ≡ map (complete_in t) g.proposals → short ≡ true → recipe_of (Missing fs) ≡ recipe (key_gen_of g)
    unfolding recipe
    missing_held fs f b = rw (f, ← same, sym m ∙ i, sym (short_told t g.proposals 0) ∙ sym s ∙ b) (ap missing (complete_told t g.proposals 0))

    pub share_held : (ss : List (Option Share)) → ss ≡ map (share_in t) g.proposals → short ≡ false → recipe_of (Shares ss) ≡ recipe (key_gen_of g)
    unfolding recipe
    share_held ss f b = rw (f, ← same, sym m ∙ i, sym (short_told t g.proposals 0) ∙ sym s ∙ b) (ap share (used_told t g.proposals))
