-- The calendar, as a count of days from 1 January 1980.
use Rattle.std.specs.Prelude.{◌≡◌, ℕ, zero, suc, ◌+◌, ◌-◌, ◌*◌, ◌/◌, ◌%◌, ◌<◌, ◌≤◌, Bool, true, false, cond, ◌==◌}
use Rattle.oxts_units.specs.declared.calendar.Date.{Date}
use Rattle.oxts_units.specs.declared.calendar.GpsTime.{GpsTime}

-- every fourth year, but of the hundredth years only every fourth
abbrev pub leap : ℕ → Bool
leap y = cond (y % 400 == 0) true (cond (y % 100 == 0) false (y % 4 == 0))

abbrev pub year_days : ℕ → ℕ
year_days y = cond (leap y) 366 365

-- the days of the first n years from 1980 on
abbrev pub years_days : ℕ → ℕ
years_days zero = 0
years_days (suc n) = years_days n + year_days (1980 + n)

abbrev pub short : ℕ → Bool
short m = cond (m == 4) true (cond (m == 6) true (cond (m == 9) true (m == 11)))

abbrev pub month_days : (leap : Bool) → ℕ → ℕ
month_days l m = cond (m == 2) (cond l 29 28) (cond (short m) 30 31)

-- the days of the first n months of a year
abbrev pub months_days : (leap : Bool) → ℕ → ℕ
months_days l zero = 0
months_days l (suc n) = months_days l n + month_days l (n + 1)

-- The date is so many days behind 6 January 1980.
pub record Dated (days : ℕ) (d : Date) : Type 0 where
  pub from : 1980 ≤ d.year
  pub month : (1 ≤ d.month) × (d.month ≤ 12)
  pub day : (1 ≤ d.day) × (d.day ≤ month_days (leap d.year) d.month)
  pub counted : years_days (d.year - 1980) + months_days (leap d.year) (d.month - 1) + d.day ≡ days + 6

-- The time is so many milliseconds behind midnight of 6 January 1980.
pub record Timed (milliseconds : ℕ) (t : GpsTime) : Type 0 where
  pub date : Dated (milliseconds / 86400000) t.date
  pub hour : t.hour < 24
  pub minute : t.minute < 60
  pub second : t.second < 60
  pub fraction : t.millisecond < 1000
  pub counted : ((t.hour * 60 + t.minute) * 60 + t.second) * 1000 + t.millisecond ≡ milliseconds % 86400000
