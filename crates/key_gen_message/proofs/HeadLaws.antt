-- Rows or values that are passed over: what their reading comes to, by the room that is left.
-- Assumes nothing.
use Prim.Native.Nat.{ℕ, zero, suc, ◌+◌, ◌*◌, ◌≤◌, ◌<◌}
use mathlib.Core.Path.{◌≡◌, refl, sym, ap}
use mathlib.Core.List.{List, [], ◌∷◌}
use mathlib.Core.Bool.{Bool, true, false}
use native.Mathlib.Omega.{arith}
use lib.Dec.{ltb}
use borrow.Author.Tests.{ltb-true, ltb-false, le-ltb}
use Rattle.bincode.proofs.ReadLaws.{map_refused}
use lib.ListN.{length, take, drop}
use Rattle.std.specs.declared.result.Result.TheVariants.{Ok, Err}
use Rattle.bincode.specs.Read.{Read, value, refuse, bind, map_read}
use Rattle.bincode.specs.Numbers.{read_num, le}
use Rattle.bincode.specs.Items.{items, counted, many, after}
use Rattle.bincode.specs.Answer.{answer}
use Rattle.bincode.specs.declared.Refusal.TheVariants.{Malformed}
use Rattle.bincode.proofs.NumberLaws.{read_whole, read_cut}
use Rattle.bincode.specs.Sizes.{Sizes}
use Rattle.sync_key_gen.specs.SyncKeyGen.{read_handles}

-- a run of numbers is skipped where it has room, and refused where it has none
skip_run : (s : List ℕ) (n at d : ℕ) → d ≡ at + 8 * n → d ≤ length s → map_read length (many (read_num 8 s) n at) ≡ value n d
unfolding items
skip_run s zero at d e h = ap (value 0) (let y : at ≡ d = omega arith in y)
skip_run s (suc n) at d e h = rw (read_whole 8 s at (omega arith)) (more (many (read_num 8 s) n (at + 8)) (skip_run s n (at + 8) d (omega arith) h))
  where
    more : (x : Read (List ℕ)) → map_read length x ≡ value n d → map_read length (after (le (take 8 (drop at s)) ∷ []) x) ≡ value (suc n) d
    more (value xs c) p = let q : length xs ≡ n = cc in let r : c ≡ d = cc in rw (q, r)
    more (refuse k) p = absurd (let z : ◌≡◌ {A = ℕ} 0 1 = cc in omega arith)

cut_run : (s : List ℕ) (n at : ℕ) → at ≤ length s → length s < at + 8 * n → map_read length (many (read_num 8 s) n at) ≡ refuse 2
unfolding items
cut_run s zero at l h = absurd (let y : ⊥ = omega arith in y)
cut_run s (suc n) at l h = go (ltb (length s) (at + 8)) refl (λ k. cut_run s n (at + 8) k (omega arith))
  where
    more : (x : Read (List ℕ)) → map_read length x ≡ refuse 2 → map_read length (after (le (take 8 (drop at s)) ∷ []) x) ≡ refuse 2
    more x p = rw (map_refused length x p)

    go : (b : Bool) → ltb (length s) (at + 8) ≡ b → (at + 8 ≤ length s → map_read length (many (read_num 8 s) n (at + 8)) ≡ refuse 2)
        → map_read length (bind (read_num 8 s at) (λ a c. after (a ∷ []) (many (read_num 8 s) n c))) ≡ refuse 2
    go true e f = rw (read_cut 8 s at (ltb-true _ _ e))
    go false e f = rw (read_whole 8 s at (ltb-false _ _ e)) (more (many (read_num 8 s) n (at + 8)) (f (ltb-false _ _ e)))

-- an answer with its value seen through f
module _ {A B : Type 0} (f : A → B) where
  seen : (x : Read A) (y : Read B) → y ≡ map_read f x → answer (λ (b : B). b) y ≡ answer f x
  seen (value a c) y p = ap (answer (λ (b : B). b)) p
  seen (refuse n) y p = ap (answer (λ (b : B). b)) p

-- rows or values
module _ (z : Sizes) (s : List ℕ) (at : ℕ) where
  module _ (n c : ℕ) (e : read_num 8 s at ≡ value n c) where
    pub handles_short : n ≤ z.rows → c ≤ length s → length s < c + 8 * n → Err Malformed ≡ answer length (read_handles z s at)
    unfolding read_handles counted
    handles_short h l g = seen length (read_handles z s at) (refuse 2) (rw (e, le-ltb _ _ h) (sym (cut_run s n c l g)))

    pub handles_whole : n ≤ z.rows → (d : ℕ) → d ≡ c + 8 * n → d ≤ length s → Ok (n, d) ≡ answer length (read_handles z s at)
    unfolding read_handles counted
    handles_whole h d q l = seen length (read_handles z s at) (value n d) (rw (e, le-ltb _ _ h) (sym (skip_run s n c d q l)))
