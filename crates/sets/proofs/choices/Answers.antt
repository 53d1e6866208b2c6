-- `sets::choices` meets its contract: the count of ones of a word is the size of its set. Assumes nothing.
use mathlib.Core.Path.{◌≡◌, sym, ◌∙◌, ap}
use Prim.Native.Nat.{ℕ, ◌*◌, ◌%◌, ◌^◌, ◌<◌}
use native.Mathlib.Omega.{arith}
use lib.Count.{ones, ones-le}
use Rattle.basics.proofs.Packed.{shift_one}
use Rattle.sets.specs.Sets.{set_states, size}
use Rattle.sets.proofs.Size.{size_ones}
use Rattle.sets.proofs.Subsets.{subsets_length}
use Rattle.sets.proofs.choices.Goals as goal

-- 1 << count in a word of 64 digits
power : (s : ℕ) → s < 2 ^ set_states → 1 * 2 ^ ones s % 2 ^ 64 ≡ 2 ^ size set_states s
power s l =
    let b = ones-le set_states s l in shift_one 64 (ones s) (omega arith) ∙ ap (λ (n : ℕ). 2 ^ n) (sym (size_ones set_states s l))

pub returns : goal.returns
returns c =
    let e = power c.args.set c.ranges.set.fits in record { number = e; listed = e ∙ sym (subsets_length set_states c.args.set) }
