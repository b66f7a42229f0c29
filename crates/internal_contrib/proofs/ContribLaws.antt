-- Laws of a contribution: what its reading comes to, where its parts stand, and how long it is.
-- Assumes nothing.
use Prim.Native.Nat.{ℕ, ◌+◌, ◌-◌, ◌^◌, ◌≤◌, ◌<◌}
use mathlib.Core.Path.{◌≡◌, sym, ap, ◌∙◌, subst}
use mathlib.Core.List.{List, ◌++◌}
use native.Mathlib.Omega.{arith}
use lib.ListN.{length, take, drop, length-append, length-drop}
use lib.Seq.{length-take-le}
use borrow.Author.Tests.{lt-ltb, le-ltb}
use Rattle.std.specs.declared.result.Result.{Result}
use Rattle.std.specs.declared.result.Result.TheVariants.{Ok, Err}
use Rattle.bincode.specs.Read.{value, refuse}
use Rattle.bincode.specs.Answer.{answer}
use Rattle.bincode.specs.declared.Refusal.{Refusal}
use Rattle.bincode.specs.Numbers.{read_num, bytes_of}
use Rattle.bincode.specs.Sizes.{Sizes}
use Rattle.bincode.specs.Stands.{Bytes, Stands}
use Rattle.bincode.proofs.NumberLaws.{read_value, length_bytes_of}
use Rattle.bincode.proofs.ReadLaws.{answer_ok, answer_err}
use Rattle.bincode.proofs.StandLaws.{stands_left, stands_right}
use Rattle.key_gen_message.specs.KeyGenMessage.{SignedKeyGenMsgOf}
use Rattle.internal_contrib.specs.declared.Budget.{Budget}
use Rattle.internal_contrib.specs.declared.Contrib.{Contrib}
use Rattle.internal_contrib.specs.declared.Span.{Span}
use Rattle.internal_contrib.specs.InternalContrib.{ContribOf, read_user, read_messages, read_votes, read_contrib, user_bytes, messages_bytes, contrib_bytes}
use Rattle.internal_contrib.specs.Places.{span_of, placed}
use Rattle.internal_contrib.proofs.ContribCodes.{user_codes, messages_codes}

-- user bytes go by their count and by the room that is left
module _ (z : Sizes) (s : List ℕ) (at : ℕ) where
  module _ (n c : ℕ) (r : read_num 8 s at ≡ value n c) where
    pub user_short : n ≤ z.user → length s < c + n → read_user z s at ≡ refuse 2
    unfolding read_user
    user_short h k =
        let v = read_value 8 s at n c r in
        rw (r, le-ltb z.user n h, lt-ltb (length s - c) n (omega (arith, v.0, v.2)))

    pub user_whole : n ≤ z.user → c + n ≤ length s → answer (span_of (at + 8)) (read_user z s at) ≡ Ok (record { at = c; count = n }, c + n)
    unfolding read_user
    user_whole h k =
        let l : length (take n (drop c s)) ≡ n = length-take-le n (drop c s) (simp length-drop (omega arith)) in
        let p : at + 8 ≡ c = sym (read_value 8 s at n c r).2 in
        rw (r, le-ltb z.user n h, le-ltb (length s - c) n (omega arith)) (λ t. Ok (record { at = p t; count = l t }, c + n))

-- a contribution behind its id, by the answers that code gives to its parts
module _ (z : Sizes) (s : List ℕ) (b : Budget) (at id c : ℕ) (r : read_num 4 s at ≡ value id c) (h : b.low ≤ id)
    (su : Span) (d : ℕ) (u : answer (span_of (c + 8)) (read_user z s c) ≡ Ok (su, d)) where
  user : (x : List ℕ) × (read_user z s c ≡ value x d) × (su ≡ span_of (c + 8) x)
  user = answer_ok (span_of (c + 8)) (read_user z s c) su d u

  pub contrib_no_messages : (k : Refusal) → answer (span_of d) (read_messages z s b.left d) ≡ Err k → answer (placed at) (read_contrib z s b at) ≡ Err k
  unfolding read_contrib
  contrib_no_messages k m =
      let n = answer_err (span_of d) (read_messages z s b.left d) k m in
      rw (r, le-ltb id b.low h, user.1, n.1) (ap {B = Result (Contrib × ℕ) Refusal} Err (sym n.2))

  module _ (sm : Span) (e : ℕ) (m : answer (span_of d) (read_messages z s b.left d) ≡ Ok (sm, e)) (left : ℕ) (l : left ≡ b.left - sm.count) where
    messages : (x : List SignedKeyGenMsgOf) × (read_messages z s b.left d ≡ value x e) × (sm ≡ span_of d x)
    messages = answer_ok (span_of d) (read_messages z s b.left d) sm e m

    -- what is left of the total for the votes
    left_read : left ≡ b.left - length messages.0
    left_read = l ∙ ap (λ (y : Span). b.left - y.count) messages.2

    pub contrib_no_votes : (k : Refusal) → answer (span_of e) (read_votes z s left e) ≡ Err k → answer (placed at) (read_contrib z s b at) ≡ Err k
    unfolding read_contrib
    contrib_no_votes k v =
        let n = answer_err (span_of e) (read_votes z s left e) k v in
        rw (r, le-ltb id b.low h, user.1, messages.1, ← left_read, n.1) (ap {B = Result (Contrib × ℕ) Refusal} Err (sym n.2))

    -- each part begins where the encoding of the one before it ends
    pub contrib_read : z.rows < 256 ^ 8 → z.user < 256 ^ 8 → Bytes s → (sv : Span) (f : ℕ) → answer (span_of e) (read_votes z s left e) ≡ Ok (sv, f)
        → ◌≡◌ {A = Result (Contrib × ℕ) Refusal} (Ok (record { id = id; user = su; messages = sm; votes = sv }, f)) (answer (placed at) (read_contrib z s b at))
    unfolding read_contrib
    contrib_read rows_fit user-fits bytes sv f v =
        let w = answer_ok (span_of e) (read_votes z s left e) sv f v in
        let i = (read_value 4 s at id c r).2 in
        let j = ((user_codes s z user-fits).stands bytes c user.0 d user.1).1 in
        let k = ((messages_codes s z rows_fit b.left).stands bytes d messages.0 e messages.1).1 in
        let p : c + 8 ≡ at + 12 = omega arith in
        let q : d ≡ at + 4 + length (user_bytes user.0) = omega arith in
        let o : e ≡ at + 4 + length (user_bytes user.0) + length (messages_bytes messages.0) = omega arith in
        let x = user.2 ∙ ap (λ (y : ℕ). span_of y user.0) p in
        let y = messages.2 ∙ ap (λ (y : ℕ). span_of y messages.0) q in
        let n = w.2 ∙ ap (λ (y : ℕ). span_of y w.0) o in
        rw (r, le-ltb id b.low h, user.1, messages.1, ← left_read, w.1)
        (λ t. Ok (record { id = id; user = x t; messages = y t; votes = n t }, f))

-- the user bytes lie within the contribution
pub user_within : (x : ContribOf) → 12 + length x.user ≤ length (contrib_bytes x)
unfolding contrib_bytes user_bytes
user_within x = simp (length-append, length_bytes_of) (omega arith)

pub user_stands : (s : List ℕ) (at : ℕ) (x : ContribOf) → Stands s at (contrib_bytes x) → Stands s (at + 12) x.user
unfolding contrib_bytes user_bytes
user_stands s at x p =
    let a = stands_right s at (bytes_of 4 x.id) _ p in
    let b = stands_left s (at + length (bytes_of 4 x.id)) (bytes_of 8 (length x.user) ++ x.user) _ a in
    let c = stands_right s (at + length (bytes_of 4 x.id)) (bytes_of 8 (length x.user)) x.user b in
    let e : at + length (bytes_of 4 x.id) + length (bytes_of 8 (length x.user)) ≡ at + 12 = simp length_bytes_of (omega arith) in
    subst (λ (k : ℕ). Stands s k x.user) e c
