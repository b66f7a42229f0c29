-- What a call answers: its result, or a refusal's number (01, "When the engine says no").
use Rattle.std.specs.Prelude.{ℕ}

pub data Outcome (A : Type 0) : Type 0 where
  done : A → Outcome A
  refused : ℕ → Outcome A
