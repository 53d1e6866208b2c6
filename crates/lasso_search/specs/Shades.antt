-- The colours as the code has them. Assumes nothing: these are definitions.
use Rattle.std.specs.Prelude.{ℕ}
use Rattle.lasso_search.specs.declared.colouring.Colour.{Colour}
use Rattle.lasso_search.specs.declared.colouring.Colour.TheVariants.{White, Grey, Black, Red}
use Rattle.lasso_search.specs.Width.{white, grey, black, red}

-- the number of a colour
abbrev pub shade : Colour → ℕ
shade White = white
shade Grey = grey
shade Black = black
shade Red = red
