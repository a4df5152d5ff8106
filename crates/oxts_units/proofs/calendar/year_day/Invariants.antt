use Rattle.std.proofs.Common.{◌≡◌, ◌+◌, ◌-◌, ◌≤◌}
use Rattle.oxts_units.specs.Calendar.{years_days}
use Rattle.oxts_units.proofs.calendar.year_day.Given as goal

abbrev pub invariant-loop-year : goal.invariant-loop-year
invariant-loop-year l = (l.year + l.day ≤ 1980 + l.days) × (years_days (l.year - 1980) + l.day ≡ l.days)
