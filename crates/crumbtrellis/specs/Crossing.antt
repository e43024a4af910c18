-- How a speed crosses the door: as a kind and a number of units, 0 for stop and rapid (document 02, 4/12).
use Rattle.std.specs.Prelude.{ℕ, cond, eqb}
use Rattle.speeds.specs.declared.Speed.{Speed}
use Rattle.speeds.specs.declared.Speed.TheVariants.{Stop, Rapid, Rate}

abbrev pub rate : ℕ
rate = 0

abbrev pub stop : ℕ
stop = 1

abbrev pub rapid : ℕ
rapid = 2

abbrev pub kind_of : Speed → ℕ
kind_of (Rate v) = rate
kind_of Stop = stop
kind_of Rapid = rapid

abbrev pub units_of : Speed → ℕ
units_of (Rate v) = v
units_of Stop = 0
units_of Rapid = 0

-- a rate that has no code
abbrev pub beyond : Speed
beyond = Rate 18_446_744_073_709_551_615

-- the speed of a kind without units
abbrev pub unitless : ℕ → Speed
unitless kind = cond (eqb kind stop) Stop (cond (eqb kind rapid) Rapid beyond)

-- the speed that a kind and a number of units say; a kind over 2, or units with stop or rapid, is one that cannot be coded
abbrev pub handed : ℕ → ℕ → Speed
handed kind units = cond (eqb kind rate) (Rate units) (cond (eqb units 0) (unitless kind) beyond)
