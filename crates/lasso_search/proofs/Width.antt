-- Laws of widths: colours fill a work word, they take no more words than there are nodes, and the width of the calls fits. Assumes nothing.
use mathlib.Core.Path.{◌≡◌, refl, ◌∙◌, ap}
use Prim.Native.Nat.{ℕ, ◌/◌, ◌^◌, ◌<◌}
use native.Mathlib.Omega.{arith}
use native.Mathlib.Nat.{div-le_self}
use Rattle.basics.proofs.Packed.{pow_pow}
use Rattle.tables.specs.Table.{wide_range}
use Rattle.lasso_search.specs.Width.{Width, width_16, colour_bits, colours, word_colours, WidthFits}

-- the numbers of a work word are those with as many digits, to the base of the colours, as it holds colours
pub word_filled : {wd : Width} → WidthFits wd → colours ^ word_colours wd ≡ 2 ^ wd.work_bits
word_filled {wd} fits = pow_pow 2 colour_bits (word_colours wd) ∙ ap (λ b. 2 ^ b) fits.filled

-- the word that a node's colour lies in is one of as many words as there are nodes
pub colour_word : (wd : Width) {x n : ℕ} → x < n → x / word_colours wd < n
colour_word wd {x} l = let d = div-le_self x (word_colours wd) in omega arith

-- the widest product of a wide table has fewer than 2^29 nodes, and 16 colours fill a work word
pub width_16_fits : WidthFits width_16
unfolding wide_range
width_16_fits = record { work = omega arith; machine = omega arith; records = omega arith; some = omega arith; filled = refl }
