-- Little-endian words of a packet.
use Rattle.std.specs.Prelude.{ℕ, ◌+◌, ◌-◌, ◌*◌, cond, List, ℤ, pos, negsuc, nat_lt, slice_index}
use Rattle.std.specs.Int.{w64}
use Rattle.std.proofs.Common.{to_z}

abbrev pub unsigned16 : ℕ → ℕ → ℕ
unsigned16 lo hi = lo + hi * 256

abbrev pub unsigned24 : ℕ → ℕ → ℕ → ℕ
unsigned24 lo mid hi = lo + 256 * mid + 65536 * hi

-- two's complement at 24 bits
abbrev pub of24 : ℕ → ℤ
of24 n = cond (nat_lt n 8388608) (pos n) (negsuc (16777215 - n))

abbrev pub signed24 : ℕ → ℕ → ℕ → ℤ
signed24 lo mid hi = of24 (unsigned24 lo mid hi)

abbrev pub unsigned32 : ℕ → ℕ → ℕ → ℕ → ℕ
unsigned32 a b c d = a + b * 256 + c * 65536 + d * 16777216

-- the words at a place; a byte past the end counts as 0
abbrev pub unsigned16_at : List ℕ → ℕ → ℕ
unsigned16_at bs i = unsigned16 (slice_index bs i) (slice_index bs (i + 1))

abbrev pub signed24_at : List ℕ → ℕ → ℤ
signed24_at bs i = signed24 (slice_index bs i) (slice_index bs (i + 1)) (slice_index bs (i + 2))

abbrev pub unsigned32_at : List ℕ → ℕ → ℕ
unsigned32_at bs i = unsigned32 (slice_index bs i) (slice_index bs (i + 1)) (slice_index bs (i + 2)) (slice_index bs (i + 3))

-- to_z is two's complement
abbrev pub signed64_at : List ℕ → ℕ → ℤ
signed64_at bs i =
    to_z w64 (slice_index bs i + slice_index bs (i + 1) * 256 + slice_index bs (i + 2) * 65536 + slice_index bs (i + 3) * 16777216 + slice_index bs (i + 4) * 4294967296 + slice_index bs (i + 5) * 1099511627776 + slice_index bs (i + 6) * 281474976710656 + slice_index bs (i + 7) * 72057594037927936)
