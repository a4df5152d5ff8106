-- A power of ten is above 0.
use Rattle.std.proofs.Common.{ℕ, zero, suc, ◌^◌, ◌<◌, arith}

pub ten_some : (k : ℕ) → 0 < 10 ^ k
ten_some zero = omega arith
ten_some (suc k) = omega (arith, ten_some k)
