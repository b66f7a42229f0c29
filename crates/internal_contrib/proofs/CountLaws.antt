-- A run of items of which code keeps the count and the place: the messages and the votes of a contribution.
-- Assumes nothing.
use Prim.Native.Nat.{ℕ, ◌+◌, ◌-◌, ◌≤◌, ◌<◌}
use mathlib.Core.Path.{◌≡◌, sym, ap, ◌∙◌}
use mathlib.Core.List.{List, [], ◌∷◌, ◌++◌}
use Rattle.std.specs.declared.result.Result.{Result}
use Rattle.std.specs.declared.result.Result.TheVariants.{Ok, Err}
use Rattle.bincode.specs.Read.{Read, value}
use Rattle.bincode.specs.Numbers.{fixed, read_num}
use Rattle.bincode.specs.Items.{counted, after, plain, stay, many}
use Rattle.bincode.specs.Answer.{answer, step_of}
use Rattle.bincode.specs.declared.Refusal.{Refusal}
use Rattle.bincode.proofs.ReadLaws.{step_ok, step_err}
use Rattle.internal_contrib.specs.declared.Span.{Span}
use Rattle.internal_contrib.specs.Places.{span_of}
use Rattle.bincode.proofs.ItemLaws.{counted_start, length_items, many_start, many_turn, many_refused, many_end}

-- a loop that passes items: what it keeps
module _ {A : Type 0} (rd : ℕ → Read A) (n first : ℕ) where
  pub record Passing (i c : ℕ) : Type 0 where
    pub done : List A
    pub rest : many rd n first ≡ after done (many rd (n - i) c)

  pub pass_start : Passing 0 first
  pass_start = record { done = []; rest = many_start rd n first }

  -- a turn, by the answer that passing the item gave
  module _ (i c : ℕ) (p : Passing i c) (h : i < n) (t : Result ℕ Refusal) (e : t ≡ step_of (rd c)) where
    pub pass_more : (d : ℕ) → t ≡ Ok d → Passing (i + 1) d
    pass_more d q =
        let a = step_ok (rd c) d (sym e ∙ q) in
        record { done = p.done ++ (a.0 ∷ []); rest = p.rest ∙ many_turn rd p.done n i c a.0 d h a.1 }

    pub pass_refused : (k : Refusal) → t ≡ Err k → ◌≡◌ {A = Result ℕ Refusal} (Err k) (step_of (many rd n first))
    pass_refused k q =
        let a = step_err (rd c) k (sym e ∙ q) in
        ap {B = Result ℕ Refusal} Err a.2 ∙ ap step_of (sym (p.rest ∙ many_refused rd p.done n i c a.0 h a.1))

  pub pass_done : (i c : ℕ) → Passing i c → n ≤ i → ◌≡◌ {A = Result ℕ Refusal} (Ok c) (step_of (many rd n first))
  pass_done i c p h = ap step_of (sym (p.rest ∙ many_end rd p.done n i c h))

-- a count, and the items passed
module _ {A : Type 0} (rd : ℕ → Read A) (s : List ℕ) (left at : ℕ) where
  module _ (n c : ℕ) (r : read_num 8 s at ≡ value n c) where
    module _ (h : n ≤ left) (t : Result ℕ Refusal) (e : t ≡ step_of (many rd n c)) where
      counted_many : counted (plain rd) stay fixed s left tt at ≡ many rd n c
      counted_many = counted_start (plain rd) stay fixed s left tt at n c r h ∙ sym (many_start rd n c)

      pub count_passed : (d : ℕ) → t ≡ Ok d
          → ◌≡◌ {A = Result (Span × ℕ) Refusal} (Ok (record { at = at; count = n }, d)) (answer (span_of at) (counted (plain rd) stay fixed s left tt at))
      count_passed d q =
          let a = step_ok (many rd n c) d (sym e ∙ q) in
          ap {B = Result (Span × ℕ) Refusal} (λ (k : ℕ). Ok (record { at = at; count = k }, d)) (sym (length_items (plain rd) stay n tt c a.0 d a.1))
          ∙ ap (answer (span_of at)) (sym (counted_many ∙ a.1))
