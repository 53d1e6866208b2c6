-- Which targets are free, what is tracked, and when nothing blocks, one state at a time; and what is free is what the others leave of
-- what is tracked. Assumes nothing.
use mathlib.Core.Path.{◌≡◌, refl, sym, ◌∙◌, ap}
use mathlib.Core.Bool.{Bool, true, false, ◌&&◌, ◌||◌, not, true≢false}
use mathlib.Core.Logic.{◌↔◌}
use Prim.Native.Nat.{ℕ, ◌<◌}
use lib.Dec.{eqb}
use lib.Bits.{bit_and, bit_or}
use Rattle.basics.specs.Bounded.{any}
use Rattle.basics.proofs.Booleans.{clash, and_l, and_r, and_make, or_false, or_assoc, not_true, not_false, true_not, not_both, eqb_eq, eq_eqb}
use Rattle.basics.proofs.Bounded.{any_make, any_none}
use Rattle.sets.specs.Sets.{has, without}
use Rattle.sets.proofs.Members.{ext_all, has_or, has_without, apart_make, apart_has}
use Rattle.ncsb.specs.Lines.{targets, entering, reachable_CS, safe_stays, not_leaving, no_dead_end}
use Rattle.ncsb.specs.Moves.{Moves}
use Rattle.ncsb.specs.Successors.{leaving, free, asks, blocked_by, blocked}
use Rattle.ncsb.specs.declared.Quadruple.{Quadruple}
use Rattle.ncsb.proofs.Targets.{targets_or, targets_parts}

free_parts :
    (f m s t : Bool) → (f && not (m || (s || t))) ≡ true → (f ≡ true) × (m ≡ false) × (s ≡ false) × (t ≡ false)
free_parts true true s t h = absurd (true≢false (sym h))
free_parts true false true t h = absurd (true≢false (sym h))
free_parts true false false true h = absurd (true≢false (sym h))
free_parts true false false false h = (refl, refl, refl, refl)
free_parts false m s t h = absurd (true≢false (sym h))

block_parts : (s t n : Bool) → (not s || (not t || not n)) ≡ false → (s ≡ true) × (t ≡ true) × (n ≡ true)
block_parts true true true h = (refl, refl, refl)
block_parts true true false h = absurd (true≢false h)
block_parts true false n h = absurd (true≢false h)
block_parts false t n h = absurd (true≢false h)

-- WHAT IS FREE: a target from dt of N or d2 of C in F, and neither in F, nor in d2 of S, nor in d2 of C without F
module _ (d : Moves) (x : Quadruple) (c q : ℕ) where
  has_free :
      has (free d x c) q
      ≡ ((has (entering d x c) q || has (leaving d x c) q)
      && not (has d.marks q || (has (safe_stays d x c) q || has (not_leaving d x c) q)))
  unfolding free
  has_free =
      cc (
        has_without (bit_or (entering d x c) (leaving d x c))
            (bit_or d.marks (bit_or (safe_stays d x c) (not_leaving d x c))) q,
        has_or (entering d x c) (leaving d x c) q,
        has_or d.marks (bit_or (safe_stays d x c) (not_leaving d x c)) q,
        has_or (safe_stays d x c) (not_leaving d x c) q,
      )

  free_means :
      has (free d x c) q ≡ true →
      ((has (entering d x c) q || has (leaving d x c) q) ≡ true) × (has d.marks q ≡ false)
      × (has (safe_stays d x c) q ≡ false) × (has (not_leaving d x c) q ≡ false)
  free_means h =
      free_parts (has (entering d x c) q || has (leaving d x c) q) (has d.marks q) (has (safe_stays d x c) q)
      (has (not_leaving d x c) q) (sym has_free ∙ h)

  pub free_from : has (free d x c) q ≡ true → (has (entering d x c) q || has (leaving d x c) q) ≡ true
  free_from h = (free_means h).0

  pub free_unmarked : has (free d x c) q ≡ true → has d.marks q ≡ false
  free_unmarked h = (free_means h).1

  pub free_not_safe : has (free d x c) q ≡ true → has (safe_stays d x c) q ≡ false
  free_not_safe h = (free_means h).2

  pub free_not_staying : has (free d x c) q ≡ true → has (not_leaving d x c) q ≡ false
  free_not_staying h = (free_means h).3

  pub free_make :
      (has (entering d x c) q || has (leaving d x c) q) ≡ true → has d.marks q ≡ false →
      has (safe_stays d x c) q ≡ false → has (not_leaving d x c) q ≡ false → has (free d x c) q ≡ true
  free_make h m s t = cc has_free

  -- all of C' and S' together: dt of N, d2 of C in F and without F, and d2 of S
  pub has_tracked :
      has (reachable_CS d x c) q
      ≡ ((has (entering d x c) q || has (leaving d x c) q) || (has (not_leaving d x c) q || has (safe_stays d x c) q))
  unfolding reachable_CS leaving not_leaving safe_stays
  has_tracked =
      let e = has (entering d x c) q in
      let l = has (leaving d x c) q in
      let t = has (not_leaving d x c) q in
      let s = has (safe_stays d x c) q in
      has_or (entering d x c) (targets d (bit_or x.C x.S) c) q
      ∙ ap (λ (b : Bool). e || b)
      (targets_or d c q x.C x.S ∙ ap (λ (b : Bool). b || s) (targets_parts d c q x.C d.marks) ∙ or_assoc l t s)
      ∙ sym (or_assoc e l (t || s))

-- so they are these four sets joined
pub tracked_parts :
    (d : Moves) (x : Quadruple) (c : ℕ) →
    bit_or (entering d x c) (bit_or (bit_or (leaving d x c) (not_leaving d x c)) (safe_stays d x c)) ≡ reachable_CS d x c
unfolding reachable_CS leaving not_leaving safe_stays
tracked_parts d x c =
    ap (bit_or (entering d x c)) (ext_all
    (bit_or (bit_or (targets d (bit_and x.C d.marks) c) (targets d (without x.C d.marks) c)) (targets d x.S c))
    (targets d (bit_or x.C x.S) c)
    (λ q.
    cc (
      targets_or d c q x.C x.S,
      targets_parts d c q x.C d.marks,
      has_or (bit_or (targets d (bit_and x.C d.marks) c) (targets d (without x.C d.marks) c)) (targets d x.S c) q,
      has_or (targets d (bit_and x.C d.marks) c) (targets d (without x.C d.marks) c) q,
    )))

one_taken_away : (m : Bool) → not (m || true) ≡ false
one_taken_away true = refl
one_taken_away false = refl

-- what is tracked, and neither in F, nor in d2 of S, nor in d2 of C without F, is free
free_rest : (f m s t : Bool) → ((f || (t || s)) && not (m || (s || t))) ≡ (f && not (m || (s || t)))
free_rest true m s t = refl
free_rest false m true true = one_taken_away m
free_rest false m true false = one_taken_away m
free_rest false m false true = one_taken_away m
free_rest false m false false = refl

pub free_of_tracked :
    (d : Moves) (x : Quadruple) (c : ℕ) →
    without (reachable_CS d x c) (bit_or d.marks (bit_or (safe_stays d x c) (not_leaving d x c))) ≡ free d x c
free_of_tracked d x c =
    ext_all (without (reachable_CS d x c) (bit_or d.marks (bit_or (safe_stays d x c) (not_leaving d x c)))) (free d x c)
    (λ q.
    let law =
    free_rest (has (entering d x c) q || has (leaving d x c) q) (has d.marks q) (has (safe_stays d x c) q)
    (has (not_leaving d x c) q) in
    cc (
      has_free d x c q,
      has_tracked d x c q,
      has_without (reachable_CS d x c) (bit_or d.marks (bit_or (safe_stays d x c) (not_leaving d x c))) q,
      has_or d.marks (bit_or (safe_stays d x c) (not_leaving d x c)) q,
      has_or (safe_stays d x c) (not_leaving d x c) q,
    ))

-- WHERE NOTHING BLOCKS: no safe run into F, none both safe and not, and no dead end in C without F
pub record Unblocked (d : Moves) (x : Quadruple) (c : ℕ) : Type 0 where
  pub safe_unmarked : (q : ℕ) → has (safe_stays d x c) q ≡ true → has d.marks q ≡ false
  pub apart : (q : ℕ) → has (safe_stays d x c) q ≡ true → has (not_leaving d x c) q ≡ false
  pub no_dead_end : (p : ℕ) → p < d.states → has (without x.C d.marks) p ≡ true → d.move p c ≡ 0 → ⊥

module _ (d : Moves) (x : Quadruple) (c : ℕ) where
  -- the state is in C without F, and has no target
  abbrev ends : ℕ → Bool
  ends p = has (without x.C d.marks) p && eqb (d.move p c) 0

  no_dead_end_means :
      (no_dead_end d x c ≡ true)
      ↔ ((p : ℕ) → p < d.states → has (without x.C d.marks) p ≡ true → d.move p c ≡ 0 → ⊥)
  unfolding no_dead_end
  no_dead_end_means = (
    (λ h p l m e. clash (any_make d.states ends p l (and_make m (eq_eqb e))) (true_not (any d.states ends) h)),
    (λ h.
        not_false
        (any_none d.states ends
        (λ p l.
        not_both (ends p)
        (λ t.
        h p l (and_l (eqb (d.move p c) 0) t)
        (eqb_eq (d.move p c) 0 (and_r (has (without x.C d.marks) p) t)))))),
  )

  pub blocked_no : blocked d x c ≡ false → Unblocked d x c
  unfolding blocked blocked_by asks
  blocked_no h =
      let safe = safe_stays d x c in
      let (unmarked, apart, goes_on) =
      block_parts (eqb (bit_and safe d.marks) 0) (eqb (bit_and safe (not_leaving d x c)) 0) (no_dead_end d x c) h in
      record {
        safe_unmarked = λ q. apart_has safe d.marks q (eqb_eq (bit_and safe d.marks) 0 unmarked);
        apart = λ q. apart_has safe (not_leaving d x c) q (eqb_eq (bit_and safe (not_leaving d x c)) 0 apart);
        no_dead_end = no_dead_end_means.0 goes_on;
      }

  pub no_blocked : Unblocked d x c → blocked d x c ≡ false
  unfolding blocked blocked_by asks
  no_blocked u =
      or_false (not_true (eq_eqb (apart_make (safe_stays d x c) d.marks u.safe_unmarked)))
      (or_false (not_true (eq_eqb (apart_make (safe_stays d x c) (not_leaving d x c) u.apart)))
      (not_true (no_dead_end_means.1 u.no_dead_end)))
