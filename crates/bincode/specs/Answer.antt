-- What the functions' `Result`s say: of a reader as a `Read`, of another call as an `Outcome`, each refusal by 01's number.
use Rattle.std.specs.Prelude.{ℕ, ◌+◌, List, Ok, Err, cond, length, take, drop, leb, ltb}
use Rattle.std.specs.declared.result.Result.{Result}
use Rattle.bincode.specs.Read.{Read, value, refuse}
use Rattle.bincode.specs.Outcome.{Outcome, done, refused}
use Rattle.bincode.specs.Rows.{row_number, row}
use Rattle.bincode.specs.declared.Refusal.{Refusal}
use Rattle.bincode.specs.declared.Refusal.TheVariants.{Malformed}

-- a reader's answer, with the value seen through f: the value and the position behind it, or the refusal's number
module _ {A B : Type 0} (f : A → B) where
  abbrev pub answer_as_read : Result (A × ℕ) Refusal → Read B
  answer_as_read (Ok (a, c)) = value (f a) c
  answer_as_read (Err r) = refuse (row_number r)

-- the answer that code gives, with the value as it is held
module _ {A B : Type 0} (held : A → B) where
  abbrev pub answer : Read A → Result (B × ℕ) Refusal
  answer (value a c) = Ok (held a, c)
  answer (refuse n) = Err (row n)

-- the same for a value that is passed over: the position behind it
module _ {A : Type 0} where
  abbrev pub step_of : Read A → Result ℕ Refusal
  step_of (value a c) = Ok c
  step_of (refuse n) = Err (row n)

-- another call's answer, with the value seen through f
module _ {A B : Type 0} (f : A → B) where
  abbrev pub outcome_as_said : Result A Refusal → Outcome B
  outcome_as_said (Ok a) = done (f a)
  outcome_as_said (Err r) = refused (row_number r)

-- the answer of a reading from the first byte on, where it must take the whole input s: row 2 where something is left over
module _ {T : Type 0} where
  abbrev pub all_read : List ℕ → Result (T × ℕ) Refusal → Result (T × ℕ) Refusal
  all_read s (Ok (x, c)) = cond (ltb c (length s)) (Err Malformed) (Ok (x, c))
  all_read s (Err r) = Err r

-- the n bytes at a position, with the position behind them; row 2 where they are cut
abbrev pub bytes_at : ℕ → List ℕ → ℕ → Result (List ℕ × ℕ) Refusal
bytes_at n s at = cond (leb (at + n) (length s)) (Ok (take n (drop at s), at + n)) (Err Malformed)
