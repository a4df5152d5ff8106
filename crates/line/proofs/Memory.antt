-- Every memory is its whole records, written one behind another, and a rest that is cut short.
use Rattle.std.proofs.Common.{◌≡◌, ℕ, zero, suc, ◌+◌, ◌*◌, ◌/◌, ◌%◌, ◌<◌, ◌≤◌, List, [], ◌∷◌, ◌++◌, length, take, drop, sym, refl, ap, ◌∙◌, subst, ⊎_elim, append_assoc, arith, length-drop, take-append-drop, length-take-le, drop-drop}
use Rattle.std.specs.List.{flat_map}
use Rattle.std.proofs.lemmas.Bool.{cases_lt}
use Rattle.line.specs.Datagrams.{records, span, encoded, Cut, Bytes, WrittenAndRead}
use Rattle.line.proofs.Records.{first_whole, first_cut, read_back}

bytes_drop : (k : ℕ) (m : List ℕ) → Bytes m → Bytes (drop k m)
bytes_drop zero m h = h
bytes_drop (suc k) [] h = tt
bytes_drop (suc k) (b ∷ m) h = bytes_drop k m h.1

-- what is proved of a memory m with contents cs
pub record Split (m : List ℕ) (cs : List (List ℕ)) : Type 0 where
  pub whole : Bytes m → m ≡ flat_map encoded cs ++ drop (span cs) m
  pub cut : Cut (drop (span cs) m)

-- a whole record in front of a memory that splits
split_more : (low high : ℕ) (m : List ℕ) (cs : List (List ℕ)) → low + high * 256 ≤ length m → Split (drop (low + high * 256) m) cs →
    Split (low ∷ high ∷ m) (take (low + high * 256) m ∷ cs)
split_more low high m cs h s =
    let n = low + high * 256 in
    let content : List ℕ = take n m in
    let size : length content ≡ n = length-take-le n m h in
    let behind : drop (2 + length content + span cs) (low ∷ high ∷ m) ≡ drop (span cs) (drop n m) =
    (let e : 2 + length content + span cs ≡ suc (suc (n + span cs)) = omega arith in
    ap (λ k. drop k (low ∷ high ∷ m)) e ∙ sym (drop-drop (span cs) n m)) in
    record {
      whole = λ b.
          let lo : length content % 256 ≡ low = omega (arith, size, b.0, b.1.0) in
          let hi : length content / 256 ≡ high = omega (arith, size, b.0, b.1.0) in
          let rest = s.whole (bytes_drop n m b.1.1) in
          let tail : m ≡ content ++ (flat_map encoded cs ++ drop (span cs) (drop n m)) = sym (take-append-drop n m) ∙ ap (λ z. content ++ z) rest in
          let joined = append_assoc content (flat_map encoded cs) (drop (span cs) (drop n m)) in
          cc;
      cut = subst Cut (sym behind) s.cut;
    }

split_none : (m : List ℕ) → Cut m → Split m []
split_none m c = record { whole = λ b. refl; cut = c }

-- k bounds the length
split_by : (k : ℕ) (m : List ℕ) → length m ≤ k → Split m (records 0 m)
split_by k [] h = split_none [] tt
split_by k (low ∷ []) h = split_none (low ∷ []) tt
split_by zero (low ∷ high ∷ m) h = absurd (omega arith)
split_by (suc k) (low ∷ high ∷ m) h =
    let n = low + high * 256 in
    ⊎_elim
    (λ (c : length m < n). subst (Split (low ∷ high ∷ m)) (sym (first_cut low high n m refl c)) (split_none (low ∷ high ∷ m) c))
    (λ (c : n ≤ length m).
    subst (Split (low ∷ high ∷ m)) (sym (first_whole low high n m refl c))
    (split_more low high m (records 0 (drop n m)) c (split_by k (drop n m) (simp length-drop (omega arith)))))
    (cases_lt (length m) n)

pub written_and_read : WrittenAndRead
written_and_read =
    record {
      read_back = read_back;
      whole = λ m b. (split_by (length m) m (omega arith)).whole b;
      cut = λ m. (split_by (length m) m (omega arith)).cut;
    }
