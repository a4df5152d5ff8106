use Rattle.std.proofs.Common.{◌≡◌, ℕ, ◌≤◌, min, List, length, take, drop, Ok, Err, Result, ap, ◌∙◌, arith, length-drop, length-take}
use Rattle.line.specs.declared.meter.Meter.{Meter}
use Rattle.line.specs.declared.refusal.GrantRefusal.{GrantRefusal}
use Rattle.line.specs.Meters.{Granted}
use Rattle.law.specs.Calls.{passed}
use Rattle.law.specs.Runs.{start}
use Rattle.gateway.specs.declared.refusal.PumpRefusal.{PumpRefusal}
use Rattle.gateway.specs.Passing.{pump_result, passed_by}
use Rattle.oxts_gateway.proofs.sessions.granted_twice.Goals as goal

granted : {L : Type 0} (s : Meter L) (n : ℕ) (r : Result (Unit {0}) GrantRefusal) (t : Meter L) → n ≤ 65536 → Granted s n r t → t ≡ record { below = s.below; credit = n }
granted s n (Ok x) t most h = h.1
granted s n (Err e) t most h = absurd (let z : ⊥ = omega (arith, h.0) in z)

how_many : (r : Result ℕ PumpRefusal) (n : ℕ) (rest rest' : List ℕ) → pump_result r rest ≡ passed n rest' → passed_by r ≡ n
how_many (Ok k) n rest rest' e = cc
how_many (Err x) n rest rest' e = cc

-- as many as are left behind the first five
left : (bs : List ℕ) (n : ℕ) → n ≡ min 100 (length (take 5 bs)) → min 100 (length (take 100 (drop n bs))) ≡ min 100 (length (drop 5 bs))
left bs n e = let few = length-take 5 bs in simp (length-take, length-drop) (omega (arith, few))

pub returns : goal.returns
returns c =
    let law = c.oxts_gateway-gateway.ensures.law in
    let rep₀ = c.oxts_gateway-gateway.ensures.start in
    let bytes : List ℕ = c.args.bytes.now in
    let m₁ = c.grant.new.self in
    let m₂ = c.grant-2.new.self in
    let paid = granted _ 5 c.grant.result m₁ (omega arith) c.grant.ensures.granted in
    let again = granted _ 100 c.grant-2.result m₂ (omega arith) c.grant-2.ensures.granted in
    let made = c.new-line.ensures.value in
    let waits = c.new.ensures.waits in
    let W₁ : List ℕ = take m₁.credit m₁.below.bytes.now in
    let W₁-is : W₁ ≡ take 5 bytes = rw (paid, made, waits) in
    let rep₁ = c.pump.ensures.run start rep₀ in
    let first = ((law start (_, rep₀)).pump 100 W₁ _ (_, rep₁)).passes (omega arith) (omega arith) (omega arith) in
    let n = passed_by c.pump.result in
    let n-is : n ≡ min 100 (length (take 5 bytes)) = how_many c.pump.result _ _ _ first ∙ ap (λ w. min 100 (length w)) W₁-is in
    let rep₁ = rw first at rep₁ in
    let steps = c.pump.ensures.steps.below.waits in
    let W₂ : List ℕ = take m₂.credit m₂.below.bytes.now in
    let W₂-is : W₂ ≡ take 100 (drop n bytes) = rw (again, steps, paid, made, waits) in
    let rep₂ = c.pump-2.ensures.run _ rep₁ in
    let second = ((law _ (_, rep₁)).pump 100 W₂ _ (_, rep₂)).passes (omega arith) (omega arith) (omega (arith, length-take (min 100 (length W₁)) W₁)) in
    record { passed = how_many c.pump-2.result _ _ _ second ∙ ap (λ w. min 100 (length w)) W₂-is ∙ left bytes n n-is }
