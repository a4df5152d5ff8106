-- A ring of sixteen places, from its place `head` on: which place of the ring each of its places is, and so what a push and a pop leave.
use Rattle.std.proofs.Common.{◌≡◌, ℕ, ◌+◌, ◌-◌, ◌%◌, ◌<◌, ◌≤◌, ◌⊎◌, inl, inr, List, [], ◌∷◌, length, get_or, take, drop, set, arith, length-drop}
use Rattle.std.proofs.lemmas.Grind.{common_steps, get_or-set_at}
use Rattle.std.proofs.lemmas.List.{same_lists, get_or_append_left, get_or-append-add, get_or-drop, get_or-take, get_or-set_other}
use Rattle.std.proofs.lemmas.Bool.{cases_lt}
use Rattle.reading.specs.declared.message.Message.{Message}
use Rattle.law.specs.Calls.{depth}
use Rattle.law.specs.Slots.{placed}
use Rattle.ports.specs.Queues.{rotated, rest}

pub length_rotated : (ring : List Message) (head : ℕ) → head < 16 → length ring ≡ 16 → length (rotated ring head) ≡ 16
length_rotated ring head within full = grind (arith, common_steps)

at_rotated : (ring : List Message) (head k : ℕ) (d : Message) → length ring ≡ 16 → head < 16 → k < 16 → get_or (rotated ring head) k d ≡ get_or ring ((head + k) % 16) d
at_rotated ring head k d full within lt = by (cases_lt (head + k) 16)
  where
    long : length (drop head ring) ≡ 16 - head
    long = simp length-drop (omega arith)

    by : (head + k < 16) ⊎ (16 ≤ head + k) → get_or (rotated ring head) k d ≡ get_or ring ((head + k) % 16) d
    by (inl below) = grind (arith, long, get_or_append_left (drop head ring) (take head ring) d k, get_or-drop head ring k d)
    by (inr above) = grind (arith, long, get_or-append-add (drop head ring) (take head ring) (head + k - 16) d, get_or-take head ring (head + k - 16) d)

pub push_ring : (ring : List Message) (head len : ℕ) (m : Message) → length ring ≡ 16 → head < 16 → len < 16 →
    take (len + 1) (rotated (set ring ((head + len) % 16) m) head) ≡ placed depth (take len (rotated ring head)) m
push_ring ring head len m full within few = same_lists _ _ (grind (arith, common_steps, length_rotated)) each
  where
    end : ℕ
    end = (head + len) % 16

    waiting : List Message
    waiting = take len (rotated ring head)

    new : List Message
    new = rotated (set ring end m) head

    each : (k : ℕ) (d : Message) → k < length (take (len + 1) new) → get_or (take (len + 1) new) k d ≡ get_or (placed depth waiting m) k d
    each k d lt = by (cases_lt k len)
      where
        long : length waiting ≡ len
        long = grind (arith, common_steps, length_rotated)

        at : get_or (take (len + 1) new) k d ≡ get_or (set ring end m) ((head + k) % 16) d
        at = grind (arith, common_steps, at_rotated (set ring end m) head k d)

        by : (k < len) ⊎ (len ≤ k) → get_or (take (len + 1) new) k d ≡ get_or (placed depth waiting m) k d
        by (inl below) = grind (arith, at, long, get_or-set_other ring end ((head + k) % 16) m d (omega arith), get_or_append_left waiting (m ∷ []) d k, get_or-take, at_rotated ring head k d)
        by (inr above) = grind (arith, common_steps, at, long, get_or-set_at ring end ((head + k) % 16) m d, length_rotated)

length_rest : (xs : List Message) → length (rest xs) ≡ length xs - 1
length_rest [] = grind arith
length_rest (x ∷ xs) = grind arith

at_rest : (xs : List Message) (k : ℕ) (d : Message) → get_or (rest xs) k d ≡ get_or xs (k + 1) d
at_rest [] k d = grind (arith, common_steps)
at_rest (x ∷ xs) k d = grind (arith, common_steps)

pub rest_ring : (ring : List Message) (head len : ℕ) → length ring ≡ 16 → head < 16 → 0 < len → len ≤ 16 →
    rest (take len (rotated ring head)) ≡ take (len - 1) (rotated ring ((head + 1) % 16))
rest_ring ring head len full within some few =
    same_lists _ _ (grind (arith, common_steps, length_rotated, length_rest))
    (λ k d lt. grind (arith, common_steps, length_rotated, length_rest, at_rest, at_rotated ring head (k + 1) d, at_rotated ring ((head + 1) % 16) k d))
