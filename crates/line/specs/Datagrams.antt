-- Records in memory: each a length n in two bytes, the low one first, and then n bytes of content.
use Rattle.std.specs.Prelude.{◌≡◌, ℕ, zero, suc, ◌+◌, ◌*◌, ◌/◌, ◌%◌, ◌<◌, cond, List, [], ◌∷◌, ◌++◌, length, take, drop, Ok, Err, Result, nat_le}
use Rattle.std.specs.List.{flat_map}
use Rattle.line.specs.declared.refusal.RecordRefusal.{RecordRefusal}
use Rattle.line.specs.declared.refusal.RecordRefusal.TheVariants.{Malformed}

-- The contents of the whole records, past the first `skip` bytes, up to the first record whose length or content is cut short.
abbrev pub records : ℕ → List ℕ → List (List ℕ)
records skip [] = []
records (suc skip) (b ∷ memory) = records skip memory
records zero (low ∷ []) = []
records zero (low ∷ high ∷ memory) =
    cond (nat_le (low + high * 256) (length memory)) (take (low + high * 256) memory ∷ records (low + high * 256) memory) []

-- What is left of a record's content, and the contents of the records in the memory past it.
abbrev pub left : List ℕ → List ℕ → List ℕ
left content rest = content ++ flat_map (λ c. c) (records 0 rest)

-- how much memory whole records take
abbrev pub span : List (List ℕ) → ℕ
span [] = 0
span (content ∷ contents) = 2 + length content + span contents

-- The memory is all records, n of them; or it ends with a malformed one, whose length begins behind the whole ones.
abbrev pub Counted : List ℕ → Result ℕ RecordRefusal → Type 0
Counted memory (Ok n) = (span (records 0 memory) ≡ length memory) × (n ≡ length (records 0 memory))
Counted memory (Err (Malformed place)) = (span (records 0 memory) < length memory) × (place ≡ span (records 0 memory))

-- the first of some contents that is not empty, if any
abbrev pub next : List ℕ → List (List ℕ) → List ℕ
next (b ∷ content) contents = b ∷ content
next [] [] = []
next [] (content ∷ contents) = next content contents

-- one record in memory
abbrev pub encoded : List ℕ → List ℕ
encoded content = length content % 256 ∷ length content / 256 ∷ content

-- Memory with no whole record in front: nothing, or a length or a content cut short.
abbrev pub Cut : List ℕ → Type 0
Cut [] = Unit {0}
Cut (low ∷ []) = Unit {0}
Cut (low ∷ high ∷ memory) = length memory < low + high * 256

-- Each number is a byte. From the front, as records are read; the library's `All` goes by place.
abbrev pub Bytes : List ℕ → Type 0
Bytes [] = Unit {0}
Bytes (b ∷ bs) = (b < 256) × Bytes bs

pub record WrittenAndRead : Type 0 where
  -- what is written record by record is read back, up to where memory is cut short
  pub read_back : (contents : List (List ℕ)) (tail : List ℕ) → Cut tail → records 0 (flat_map encoded contents ++ tail) ≡ contents
  -- every memory is its whole records, written one behind another, and a rest that is cut short
  pub whole : (memory : List ℕ) → Bytes memory → memory ≡ flat_map encoded (records 0 memory) ++ drop (span (records 0 memory)) memory
  pub cut : (memory : List ℕ) → Cut (drop (span (records 0 memory)) memory)
