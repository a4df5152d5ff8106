-- What a take is, and what consumers and layers make of it.
use Rattle.std.specs.Prelude.{◌≡◌, ℕ, zero, suc, ◌<◌, ◌≤◌, min, List, [], ◌∷◌, ◌++◌, length, take, drop, Some, None, Option}

-- One take, where `before` waits, into a buffer that holds `buffer`. It moves the first k bytes that wait to the buffer's front and leaves
-- the rest of both. The count k alone is the line's own choice: at least 1 where a byte waits and the buffer has room.
pub record Taken (before buffer : List ℕ) (k : ℕ) (after filled : List ℕ) : Type 0 where
  pub waited : k ≤ length before
  pub fits : k ≤ length buffer
  pub some : 0 < length before → 0 < length buffer → 0 < k
  pub rest : after ≡ drop k before
  pub moved : filled ≡ take k before ++ drop k buffer

-- A line asked until the buffer is full or nothing waits: a take whose count is no choice.
pub record Filled (before buffer : List ℕ) (k : ℕ) (after filled : List ℕ) : Type 0 where
  pub count : k ≡ min (length buffer) (length before)
  pub rest : after ≡ drop k before
  pub moved : filled ≡ take k before ++ drop k buffer

-- A line asked for one byte.
abbrev pub ByteTaken : {L : Type 0} → (L → List ℕ) → (L → ℕ → L → Type 0) → L → Option ℕ → L → Type 0
ByteTaken waiting steps s None t = (waiting s ≡ []) × (waiting t ≡ []) × steps s 0 t
ByteTaken waiting steps s (Some b) t = (waiting s ≡ b ∷ waiting t) × steps s 1 t

-- The content bytes of carrier frames, each a byte n and then n content bytes, where `due` content bytes of the
-- current frame are still to come. A frame of length 0 has none, and one cut short has what there is.
abbrev pub contents : ℕ → List ℕ → List ℕ
contents due [] = []
contents zero (n ∷ below) = contents n below
contents (suc due) (b ∷ below) = b ∷ contents due below
