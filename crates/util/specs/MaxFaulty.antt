-- 01, "Leaves first": max_faulty(n) = (n-1) div 3, for n >= 1.
use Rattle.std.specs.Prelude.{ℕ, ◌-◌, ◌/◌}

-- n - 1 is 0 at n = 0, so the answer there is 0
unfoldable pub max_faulty : ℕ → ℕ
max_faulty n = (n - 1) / 3
