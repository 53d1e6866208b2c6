-- What a trial needs of a build: the used part lies inside the words. Assumes nothing.
use mathlib.Core.Path.{◌≡◌, sym, ◌∙◌, ap}
use mathlib.Core.List.{List}
use Prim.Native.Nat.{ℕ, min}
use native.Mathlib.Omega.{arith}
use lib.ListN.{length, length-take}
use Rattle.tables.specs.Table.{Limits, table_words}
use Rattle.complement.specs.Build.{Lent, BuildSays, used}
use Rattle.complement.specs.declared.Counts.{Counts}
use Rattle.complement.proofs.Second.{words_length, build_used, build_states, build_edges}
use Rattle.tubochre.specs.Trying.{UsedInside}

module _ {range : Limits} {t : List ℕ} {r : Counts} {before after : Lent} (says : BuildSays range t r before after) where
  used_whole : r.number ≡ 0 → min (table_words r.states r.edges) (length after.words) ≡ table_words r.states r.edges
  unfolding used
  used_whole z =
      let e = ap length (build_used says z) in
      let n = build_states says z in
      let m = build_edges says z in
      sym (length-take (table_words r.states r.edges) after.words) ∙ e ∙ words_length t ∙ rw (n, m)

  pub used_inside : UsedInside r after.words
  used_inside = record { inside = λ z. let e = used_whole z in omega arith }
