-- What the four calls of a trial say together. Assumes nothing.
use mathlib.Core.Path.{◌≡◌, refl, ◌∙◌, ap}
use mathlib.Core.Logic.{inl, inr}
use mathlib.Core.List.{List}
use Prim.Native.Nat.{ℕ}
use lib.Dec.{eqb}
use lib.ListN.{length}
use Rattle.basics.specs.Buffers.{zeros}
use Rattle.basics.proofs.Booleans.{either, eqb_eq, eqb_ne}
use Rattle.basics.proofs.Clears.{zeros_length, zeros_same}
use Rattle.patterns.specs.Check.{as_checked, checked}
use Rattle.patterns.specs.declared.Checked.TheVariants.{Passed}
use Rattle.complement.specs.Build.{Lent, BuildSays, counted}
use Rattle.complement.proofs.Second.{build_passed}
use Rattle.tables.specs.Table.{wide_range}
use Rattle.lassos.specs.Decision.{LassoSays, decided}
use Rattle.tubochre.specs.Trying.{DecidedBuilt, TrialSays}
use Rattle.tubochre.specs.Demand.{ThirdDemand}
use Rattle.tubochre.specs.declared.Trial.{Trial}
use Rattle.tubochre.proofs.Demands.{wide_demands}

module _
    {t u v w between w_now : List ℕ}
    {before after : Lent}
    (r : Trial)
    (check : r.checked ≡ checked t)
    (build : BuildSays wide_range t (counted r.built) before after)
    (pattern : LassoSays wide_range t u v (decided r.pattern) w between)
    (built : DecidedBuilt (counted r.built) after.words u v (decided r.complement) between w_now)
  where
    same_work : length between ≡ length w
    same_work = ap length pattern.work ∙ zeros_length w

    cleared : w_now ≡ zeros w
    cleared =
        elim (either (eqb (counted r.built).number 0)) [
          | inl e ↦ built.work (eqb_eq (counted r.built).number 0 e) ∙ zeros_same w between same_work
          | inr e ↦ built.kept (eqb_ne (counted r.built).number 0 e) ∙ pattern.work
        ]

    passes : (counted r.built).number ≡ 0 → Passed ≡ checked t
    unfolding checked as_checked
    passes z = rw (build_passed build z)

    pub trial_says : TrialSays t u v r before after w w_now
    unfolding ThirdDemand
    trial_says =
        record {
          check = check;
          build = build;
          pattern = pattern.answer;
          complement = λ z. rw same_work at (built.built z);
          unbuilt = built.unbuilt;
          work = cleared;
          compared = λ z lasso. wide_demands.third t Passed (counted r.built) before after u v (passes z) refl build z lasso;
        }
