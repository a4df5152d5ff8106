use Rattle.std.proofs.Common.{◌≡◌, ℕ, ◌<◌, List, length, Option, Some, None, arith, rules, tests}
use Rattle.std.specs.Prelude.{MatchOption}
use Rattle.std.specs.List.{AllWithin, HoldsAt}
use Rattle.std.specs.Option.{unwrap_or}
use Rattle.std.proofs.lemmas.Iterator.{IsFirst-from_position, YieldsList-from_slice}
use Rattle.oxts_judge.specs.Models.{NoSync}
use Rattle.oxts_judge.proofs.hints.quiet_rest.Goals as goal

none_before : (bs : List ℕ) (r : Option ℕ) → MatchOption r (AllWithin (λ b. b ≡ 231 → ⊥) bs 0 (length bs)) (λ i. (i < length bs) × HoldsAt (λ b. b ≡ 231) bs i × AllWithin (λ b. b ≡ 231 → ⊥) bs 0 i) →
    NoSync bs (unwrap_or r (length bs))
none_before bs None m i h = m i 0 (omega arith) h
none_before bs (Some k) m i h = m.2 i 0 (omega arith) h

pub returns-clause-none : goal.returns-clause-none
returns-clause-none c =
    let bs = c.args.bytes.now in
    let found = IsFirst-from_position _ _ _ (λ b. b ≡ 231) (λ b. b ≡ 231 → ⊥) c.position.ensures.ran (YieldsList-from_slice bs c.iter.ensures.rest) (λ x q k. search (rules, tests)) (λ x q k. search (rules, tests)) in
    rw c.unwrap_or.ensures (none_before bs c.position.result found)
