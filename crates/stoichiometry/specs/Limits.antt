-- Limits of what more than one call is given (scope, "Numbers a caller may get", 6): the length of a step or of an
-- exchange with the air, and the saturation of O2. No assumptions.
use Rattle.std.specs.Prelude.{ℕ}

-- The most seconds; the seconds of a day, which rate constants and air constants are per.
abbrev pub most_seconds : ℕ
most_seconds = 3600

abbrev pub seconds_per_day : ℕ
seconds_per_day = 86400

-- The most of a saturation, µg.
abbrev pub most_saturation : ℕ
most_saturation = 20000000
