-- Laws of the colours' numbers. Assumes nothing.
use mathlib.Core.Path.{◌≡◌, refl}
use native.Mathlib.Omega.{arith}
use Rattle.lasso_search.specs.Shades.{shade}
use Rattle.lasso_search.specs.Width.{white}
use Rattle.lasso_search.specs.declared.colouring.Colour.{Colour}
use Rattle.lasso_search.specs.declared.colouring.Colour.TheVariants.{White, Grey, Black, Red}

-- the least of them is white's
pub shade_white : (c : Colour) → shade c ≡ white → c ≡ White
shade_white White e = refl
shade_white Grey e = absurd (omega arith)
shade_white Black e = absurd (omega arith)
shade_white Red e = absurd (omega arith)
