use Rattle.std.proofs.Common.{arith}
use Rattle.law.specs.Calls.{At, Open, done}
use Rattle.law.specs.Runs.{start, called}
use Rattle.oxts_gateway.proofs.sessions.first_message.Goals as goal

pub returns : goal.returns
returns c =
    let law = c.oxts_gateway-gateway.ensures.law in
    let rep₀ = c.oxts_gateway-gateway.ensures.start in
    let rep₁ = c.«open».ensures.run start rep₀ in
    let opened = ((law start (_, rep₀)).port 0 (omega arith)).open_answers 31 _ (_, rep₁) in
    let rep₁ = rw opened at rep₁ in
    let h₁ = called start (At 0 (Open 31)) done in
    let rep₂ = c.pump.ensures.run h₁ rep₁ in
    let pumped = ((law h₁ (_, rep₁)).pump 64 _ _ (_, rep₂)).passes (omega arith) (omega arith) (omega arith) in
    let rep₂ = rw pumped at rep₂ in
    let waits = c.new-line.ensures.waits in
    let all = law _ (_, c.take.ensures.run _ rep₂) in
    record { law = rw waits at all }
