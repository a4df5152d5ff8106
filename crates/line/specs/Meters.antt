-- What a grant does to a meter.
use Rattle.std.specs.Prelude.{◌≡◌, ℕ, ◌<◌, ◌≤◌, Ok, Err, Result}
use Rattle.line.specs.declared.meter.Meter.{Meter}
use Rattle.line.specs.declared.refusal.GrantRefusal.{GrantRefusal}
use Rattle.line.specs.declared.refusal.GrantRefusal.TheVariants.{AboveMost}

-- The credit is set, and the line below is as it was; or the credit is above 65,536, and nothing changes.
abbrev pub Granted : {L : Type 0} → Meter L → ℕ → Result (Unit {0}) GrantRefusal → Meter L → Type 0
Granted s credit (Ok x) t = (credit ≤ 65536) × (t ≡ record { below = s.below; credit = credit })
Granted s credit (Err e) t = (65536 < credit) × (e ≡ AboveMost credit) × (t ≡ s)
