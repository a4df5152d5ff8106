use Rattle.std.proofs.Common.{◌≡◌, ◌+◌, ◌-◌}
use Rattle.oxts_units.specs.Calendar.{leap, months_days}
use Rattle.oxts_units.proofs.calendar.month_date.Given as goal

abbrev pub invariant-loop-month : goal.invariant-loop-month
invariant-loop-month l = months_days (leap l.year) (l.month - 1) + l.day ≡ l.initial.day
