-- `lines::breakpoint` meets its contract: B' is what line 6 says, for whatever follows B. Assumes nothing.
use Rattle.std.proofs.Common.{◌≡◌, ℕ}
use Rattle.std.specs.Int.Bits.{bit_and}
use Rattle.basics.proofs.Booleans.{eq_eqb, ne_eqb}
use Rattle.ncsb.specs.Lines.{breakpoint}
use Rattle.ncsb.specs.declared.Quadruple.{Quadruple}
use Rattle.ncsb.proofs.lines.breakpoint.Goals as goal

module _ (x : Quadruple) (followed rest : ℕ) where
  anew : x.B ≡ 0 → rest ≡ breakpoint x followed rest
  unfolding breakpoint
  anew e = rw (eq_eqb e)

  cut : (x.B ≡ 0 → ⊥) → bit_and followed rest ≡ breakpoint x followed rest
  unfolding breakpoint
  cut n = rw (ne_eqb x.B 0 n)

pub returns-then-x-eq0 : goal.returns-then-x-eq0
returns-then-x-eq0 c = anew c.args.x c.args.followed c.args.rest c.if-x-eq0.true

pub returns-else-x-eq0 : goal.returns-else-x-eq0
returns-else-x-eq0 c = cut c.args.x c.args.followed c.args.rest c.if-x-eq0.false
