-- What reading the list of a tray gives, one lasso after the other. Assumes nothing: these are definitions.
use Rattle.std.specs.Prelude.{◌≡◌, List, Option, MatchOption}
use Rattle.trays.specs.Tray.{Parts, no_more, led_by, tray}
use Rattle.trays.specs.declared.list.Lasso.{Lasso}
use Rattle.trays.specs.declared.list.Lassos.{Lassos}

-- a lasso of a list by its two parts
abbrev pub parts_of : Lasso → Parts
parts_of x = record { prefix = x.prefix.now; loop = x.cycle.now }

-- the lassos that are left
abbrev pub lassos_left : Lassos → List Parts
lassos_left s = (tray s.list.now).lassos

-- the next lasso of a list, and what is left behind it; none where no lasso follows, and then nothing changes
abbrev pub NextLasso : Lassos → Option Lasso → Lassos → Type 0
NextLasso s r t =
    MatchOption r ((tray s.list.now ≡ no_more s.list.now) × (t.list.now ≡ s.list.now)) (λ x. tray s.list.now ≡ led_by (parts_of x) (tray t.list.now))
