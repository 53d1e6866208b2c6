-- A decision on what a build left, and a trial of one lasso on a pattern and on its complement. Assumes nothing: these are definitions.
use Rattle.std.specs.Prelude.{◌≡◌, List, ℕ, ◌≤◌, length}
use Rattle.basics.specs.Buffers.{zeros}
use Rattle.automata.specs.Lasso.{Lasso}
use Rattle.tables.specs.Table.{table_words, wide_range, k_of}
use Rattle.patterns.specs.Check.{checked}
use Rattle.complement.specs.Build.{Lent, BuildSays, used, counted}
use Rattle.complement.specs.declared.Counts.{Counts}
use Rattle.lassos.specs.Decision.{Decision, Refused, decided, decision}
use Rattle.tubochre.specs.Demand.{Compared}
use Rattle.tubochre.specs.declared.Trial.{Trial}

-- deciding on what a build left: its words hold the used part
pub record UsedInside (r : Counts) (o : List ℕ) : Type 0 where
  pub inside : r.number ≡ 0 → table_words r.states r.edges ≤ length o

-- the complement is decided where it was built; else the build's refusal is the answer, and the work words are not touched
pub record DecidedBuilt (r : Counts) (o u v : List ℕ) (d : Decision) (w w_now : List ℕ) : Type 0 where
  pub built : r.number ≡ 0 → d ≡ decision wide_range (used r o) u v (length w)
  pub unbuilt : (r.number ≡ 0 → ⊥) → d ≡ Refused r.number
  pub work : r.number ≡ 0 → w_now ≡ zeros w
  pub kept : (r.number ≡ 0 → ⊥) → w_now ≡ w

-- A TRIAL: check, build, decide on the pattern, decide on the used part of the words
pub record TrialSays (t u v : List ℕ) (r : Trial) (before after : Lent) (w w_now : List ℕ) : Type 0 where
  pub check : r.checked ≡ checked t
  pub build : BuildSays wide_range t (counted r.built) before after
  pub pattern : decided r.pattern ≡ decision wide_range t u v (length w)
  -- the complement is decided where it was built, and else carries the build's refusal
  pub complement :
      (counted r.built).number ≡ 0 → decided r.complement ≡ decision wide_range (used (counted r.built) after.words) u v (length w)
  pub unbuilt : ((counted r.built).number ≡ 0 → ⊥) → decided r.complement ≡ Refused (counted r.built).number
  pub work : w_now ≡ zeros w
  -- the third demand
  pub compared :
      (counted r.built).number ≡ 0 → Lasso (k_of t) u v →
      Compared wide_range t (used (counted r.built) after.words) u v (counted r.built).states
