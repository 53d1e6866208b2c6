-- Marking records as their names are met computes how often each is named, as far as once, and how many are. Assumes nothing.
use mathlib.Core.Path.{◌≡◌, refl, sym, ◌∙◌}
use mathlib.Core.Bool.{Bool, true, false, ◌&&◌, cond}
use mathlib.Core.List.{List}
use Rattle.std.proofs.Common.{Option, Some, None}
use mathlib.Core.Logic.{inl, inr}
use Prim.Native.Nat.{ℕ, zero, suc, ◌+◌, ◌*◌, ◌/◌, ◌%◌, ◌^◌, ◌≤◌, ◌<◌}
use native.Mathlib.Omega.{arith}
use native.Mathlib.Numerals.{add-one}
use native.Mathlib.Nat.{one-mul, mod-lt, div-add-mod', div-lt_iff_lt-mul}
use lib.Dec.{eqb}
use lib.ListN.{length, get_or, set, replicate}
use Rattle.basics.specs.Bounded.{each, count}
use Rattle.basics.specs.Packed.{digit, packed, raised}
use Rattle.basics.specs.Words.{word_bits}
use Rattle.basics.proofs.Booleans.{either, and_false_l, and_false_r, eqb_eq, eq_eqb, eqb_ne, ne_eqb}
use Rattle.basics.proofs.Bounded.{each_same, count_le}
use Rattle.basics.proofs.Clears.{zeros_at}
use Rattle.basics.proofs.Counting.{count_hit, count_none, count_one, count_full}
use Rattle.basics.proofs.Packed.{digit_fits, packed_zero, packed_raised, packed_others, raised_length, shift_one}
use Rattle.basics.proofs.Scans.{Scan, scan_done, scan_fails}
use Rattle.tables.specs.Access.{Word}
use Rattle.tables.specs.Marks.{mark_words, mark_bits, mark_place, mark_of, marks, MarkAsks, Mark, nothing, first, again, Marked, Names, all, wrong, twice, HeadsNamed, NextsNamed}
use Rattle.tables.specs.Table.{n_of, m_of, head_of, next_of, heads_good, nexts_good, named, chains_good}

-- ONE BIT, as the code reads and writes it, in words of marks that are enough for its record
module _ {k x : ℕ} {w : List ℕ} (asks : MarkAsks k x w) where
  bit_below : x / k < mark_bits
  bit_below = (div-lt_iff_lt-mul asks.some).1 asks.inside

  word_of : mark_place k x / mark_bits ≡ x % k
  unfolding mark_place
  word_of = let l = bit_below in omega arith

  bit_of : mark_place k x % mark_bits ≡ x / k
  unfolding mark_place
  bit_of = let l = bit_below in omega arith

  read : mark_of k w x ≡ get_or w (x % k) 0 / 2 ^ (x / k) % 2
  unfolding mark_of packed digit
  read = rw (word_of, bit_of)

  pub bit_clear : get_or w (x % k) 0 / 2 ^ (x / k) % 2 ≡ 0 → mark_of k w x ≡ 0
  bit_clear e = read ∙ e

  pub bit_set : (get_or w (x % k) 0 / 2 ^ (x / k) % 2 ≡ 0 → ⊥) → mark_of k w x ≡ 1
  bit_set h = let r = read in omega arith

  shifted : 1 * 2 ^ (x / k) % 2 ^ mark_bits ≡ 1 * 2 ^ (x / k)
  shifted = shift_one mark_bits (x / k) bit_below ∙ sym (one-mul (2 ^ (x / k)))

  pub bit_fits :
      get_or w (x % k) 0 < 2 ^ mark_bits → get_or w (x % k) 0 / 2 ^ (x / k) % 2 ≡ 0 →
      get_or w (x % k) 0 + 1 * 2 ^ (x / k) % 2 ^ mark_bits < 2 ^ mark_bits
  unfolding digit
  bit_fits l e =
      rw shifted (digit_fits 2 (omega arith) 1 mark_bits (get_or w (x % k) 0) (x / k) l bit_below (omega arith))

  pub bit_raised :
      set w (x % k) (get_or w (x % k) 0 + 1 * 2 ^ (x / k) % 2 ^ mark_bits) ≡ raised 2 mark_bits w (mark_place k x) 1
  unfolding raised
  bit_raised = rw (shifted, word_of, bit_of)

  -- records with the same place are the same
  same_place : {y : ℕ} → y < mark_bits * k → mark_place k y ≡ mark_place k x → y ≡ x
  unfolding mark_place
  same_place {y} few e =
      let a = bit_below in
      let b : y / k < mark_bits = (div-lt_iff_lt-mul asks.some).1 few in
      let bit : y / k ≡ x / k = omega arith in
      let word : y % k ≡ x % k = omega arith in
      sym (div-add-mod' y k) ∙ (rw (bit, word) (div-add-mod' x k))

  -- a record that was not marked before is marked, and no other is touched
  module _ (clear : mark_of k w x ≡ 0) where
    inside : mark_place k x / mark_bits < length w
    inside = let e = word_of in let l = mod-lt x asks.some in let long = asks.long in omega arith

    within : packed 2 mark_bits w (mark_place k x) + 1 < 2
    unfolding mark_of
    within = let c = clear in omega arith

    here : mark_of k (raised 2 mark_bits w (mark_place k x) 1) x ≡ 1
    unfolding mark_of
    here = let c = clear in let p = packed_raised 2 (omega arith) mark_bits w (mark_place k x) 1 inside within in omega arith

    elsewhere : (y : ℕ) → y < mark_bits * k → (y ≡ x → ⊥) → mark_of k (raised 2 mark_bits w (mark_place k x) 1) y ≡ mark_of k w y
    unfolding mark_of
    elsewhere y few ne = packed_others 2 (omega arith) mark_bits w (mark_place k x) 1 inside within (mark_place k y) (λ e. ne (same_place few e))

-- one record more is marked
raised_counts :
    {k j : ℕ} {w : List ℕ} → MarkAsks k (suc j) w → mark_of k w (suc j) ≡ 0 → (m : ℕ) → j < m → m < mark_bits * k →
    marks k m (raised 2 mark_bits w (mark_place k (suc j)) 1) ≡ suc (marks k m w)
unfolding marks
raised_counts {k} {j} {w} asks clear m l few =
    count_one m (λ i. eqb (mark_of k (raised 2 mark_bits w (mark_place k (suc j)) 1) (suc i)) 1) (λ i. eqb (mark_of k w (suc i)) 1) j l
    (eq_eqb (here asks clear))
    (ne_eqb (mark_of k w (suc j)) 1 (λ e. omega arith))
    (λ i below ne. rw (elsewhere asks clear (suc i) (omega arith) (λ q. ne (omega arith))))

-- ONE LINK: what it adds to a record's mark, and to how many are marked
mark_adds :
    {k link new : ℕ} {before after : List ℕ} → MarkAsks k link before → Mark k link before after (Some new) → (x : ℕ) →
    1 ≤ x → x < mark_bits * k → mark_of k after x ≡ mark_of k before x + cond (eqb link x) 1 0
mark_adds {k} {link} asks (nothing z e) x o few = rw (e, ne_eqb link x (λ q. omega arith)) (omega arith)
mark_adds {k} {link} {before = before} asks (first p z e) x o few =
    elim (either (eqb link x)) [
      | inl q ↦ rw (e, q, ← eqb_eq link x q, here asks z, z)
      | inr q ↦ rw (e, q, elsewhere asks z x few (λ h. eqb_ne link x q (sym h))) (omega arith)
    ]

mark_counts :
    {k : ℕ} (link m : ℕ) {new : ℕ} {before after : List ℕ} → MarkAsks k link before → m < mark_bits * k →
    Mark k link before after (Some new) → link ≤ m → marks k m after ≡ marks k m before + new
mark_counts link m asks few (nothing z e) l = rw e (omega arith)
mark_counts zero m asks few (first p z e) l = absurd (omega arith)
mark_counts (suc j) m asks few (first p z e) l = rw (e, raised_counts asks z m l few) (omega arith)

mark_kept : {k link : ℕ} {new : Option ℕ} {before after : List ℕ} → Mark k link before after new → length after ≡ length before
mark_kept (nothing z e) = rw e
mark_kept {k} {link} {before = before} (first p z e) = rw e (raised_length 2 (omega arith) mark_bits before (mark_place k link) 1)
mark_kept (again p g e) = rw e

-- one record, or none
pub mark_most :
    {k link more : ℕ} {new : Option ℕ} {before after : List ℕ} → Mark k link before after new → new ≡ Some more → more ≤ 1
mark_most {more = more} (nothing z e) is = let some : 0 ≡ more = cc in omega arith
mark_most {more = more} (first p z e) is = let some : 1 ≡ more = cc in omega arith
mark_most (again p g e) is = absurd cc

mark_again : {k link : ℕ} {before after : List ℕ} → Mark k link before after None → (1 ≤ link) × (mark_of k before link ≡ 1)
mark_again (again p g e) = (p, g)

-- a link that was read has its bit among the words of marks
pub markable :
    {link word room : ℕ} {seen : List ℕ} → Word word_bits link word → mark_words ≤ room → length seen ≡ room →
    MarkAsks mark_words link seen
markable read long kept = record { some = omega arith; long = omega arith; inside = omega arith }

-- ALL LINKS, one after the other: none yet
pub marked_start : (k : ℕ) (link : ℕ → ℕ) (m : ℕ) (seen : List ℕ) → Marked k link 0 m 0 seen seen
unfolding count
marked_start k link m seen = record { kept = refl; adds = λ x o l. omega arith; counted = omega arith }

-- no more records are named than there are
pub marked_few : {k : ℕ} {link : ℕ → ℕ} {links m names : ℕ} {before after : List ℕ} → Marked k link links m names before after → names ≤ m
unfolding marks
marked_few {k} {m = m} {after = after} s =
    let l = count_le m (λ i. eqb (mark_of k after (suc i)) 1) in
    let e = s.counted in omega arith

-- one turn: a is the link that was read
module _ {k : ℕ} {link : ℕ → ℕ} {i m names a : ℕ} {new : Option ℕ} {before seen after : List ℕ} (s : Marked k link i m names before seen) (read : a ≡ link i) (one : Mark k a seen after new) where
  pub marked_more : {more : ℕ} → new ≡ Some more → MarkAsks k a seen → m < mark_bits * k → a ≤ m → Marked k link (i + 1) m (names + more) before after
  unfolding count
  marked_more is asks few small =
      let this_one : Mark k a seen after (Some _) = rw is at one in
      record {
        kept = mark_kept one ∙ s.kept;
        adds =
            λ x o l.
            let this : mark_of k after x ≡ mark_of k seen x + cond (eqb (link i) x) 1 0 = rw read at (mark_adds asks this_one x o (omega arith)) in
            let earlier = s.adds x o l in rw (add-one i) (omega arith);
        counted = let this = mark_counts a m asks few this_one small in let earlier = s.counted in omega arith;
      }

  pub marked_twice : new ≡ None → (good : ℕ → Bool) (links : ℕ) → i < links → a ≤ m → Names k good link links m before after None
  marked_twice is good links l small =
      let g = rw read at (mark_again (rw is at one)) in
      let inside : link i ≤ m = rw read at small in
      let earlier = s.adds (link i) g.0 inside in
      let more = count_hit i links (λ j. eqb (link j) (link i)) l (eq_eqb {m = link i} refl) in
      twice (link i) g.0 inside (omega arith)

-- a link that fails its test, and all links
pub names_wrong :
    {k : ℕ} (good : ℕ → Bool) {link : ℕ → ℕ} {links m : ℕ} {before after : List ℕ} (i : ℕ) → i < links → good i ≡ false →
    Names k good link links m before after None
names_wrong good {links = links} i l e = wrong (sym (scan_fails good links i l e))

pub names_all :
    {k : ℕ} {good : ℕ → Bool} {link : ℕ → ℕ} {i links m names : ℕ} {before after : List ℕ} → Scan true good links i →
    Marked k link i m names before after → links ≤ i → Names k good link links m before after (Some names)
names_all {i = i} {links = links} s p l =
    let upto = s.upto in
    let e : i ≡ links = omega arith in all (sym (scan_done s l)) (rw e at p)

-- as many as there are records, or fewer
pub names_few :
    {k : ℕ} {good : ℕ → Bool} {link : ℕ → ℕ} {links m names : ℕ} {before after : List ℕ} →
    Names k good link links m before after (Some names) → names ≤ m
names_few (all g p) = marked_few p

-- NAMED EXACTLY ONCE, from clear bits on
clear : (k long x : ℕ) → mark_of k (replicate long 0) x ≡ 0
unfolding mark_of
clear k long x = packed_zero 2 (omega arith) mark_bits (replicate long 0) (mark_place k x) (zeros_at long (mark_place k x / mark_bits))

none_marked : (k long m : ℕ) → marks k m (replicate long 0) ≡ 0
unfolding marks
none_marked k long m =
    count_none m (λ i. eqb (mark_of k (replicate long 0) (suc i)) 1)
    (λ i l. let c = clear k long (suc i) in ne_eqb (mark_of k (replicate long 0) (suc i)) 1 (λ e. omega arith))

module _ (t : List ℕ) where
  abbrev once : Bool
  once = each (m_of t) (λ i. eqb (named t (suc i)) 1)

  -- each of the three parts of refusal 9
  heads_bad : heads_good t ≡ false → chains_good t ≡ false
  unfolding chains_good
  heads_bad h = and_false_l (nexts_good t && once) h

  nexts_bad : nexts_good t ≡ false → chains_good t ≡ false
  unfolding chains_good
  nexts_bad h = and_false_r (heads_good t) (and_false_l once h)

  names_bad : (x : ℕ) → 1 ≤ x → x ≤ m_of t → 2 ≤ named t x → chains_good t ≡ false
  unfolding chains_good
  names_bad zero o l g = absurd (omega arith)
  names_bad (suc i) o l g =
      let fails = scan_fails (λ i. eqb (named t (suc i)) 1) (m_of t) i l (ne_eqb (named t (suc i)) 1 (λ e. omega arith)) in
      and_false_r (heads_good t) (and_false_r (nexts_good t) (sym fails))

  all_good : heads_good t ≡ true → nexts_good t ≡ true → once ≡ chains_good t
  unfolding chains_good
  all_good h n = cc

  -- the heads, from clear bits on
  module _ (k long : ℕ) {heads : List ℕ} where
    pub heads_fail : HeadsNamed k t (replicate long 0) heads None → false ≡ chains_good t
    unfolding heads_good named
    heads_fail (wrong g) = sym (heads_bad g)
    heads_fail (twice x o b g) =
        let c = clear k long x in
        let n : 2 ≤ named t x = omega arith in sym (names_bad x o b n)

    -- and then the nexts
    module _ {h : ℕ} {nexts : List ℕ} where
      names_right :
          {x : ℕ} → Marked k (head_of t) (n_of t) (m_of t) h (replicate long 0) heads →
          Marked k (λ i. next_of t (suc i)) (m_of t) (m_of t) x heads nexts → eqb (h + x) (m_of t) ≡ once
      unfolding named marks
      names_right {x} p q =
          let start = none_marked k long (m_of t) in
          let a = p.counted in
          let b = q.counted in
          let total : h + x ≡ count (m_of t) (λ i. eqb (mark_of k nexts (suc i)) 1) = omega arith in
          rw total
          (count_full (m_of t) (λ i. eqb (mark_of k nexts (suc i)) 1)
          ∙ each_same (m_of t) (λ i. eqb (mark_of k nexts (suc i)) 1) (λ i. eqb (named t (suc i)) 1)
          (λ i l.
          let o : 1 ≤ suc i = omega arith in
          let none = clear k long (suc i) in
          let c = p.adds (suc i) o l in
          let d = q.adds (suc i) o l in
          let same : mark_of k nexts (suc i) ≡ named t (suc i) = omega arith in rw same))

      pub nexts_fail : HeadsNamed k t (replicate long 0) heads (Some h) → NextsNamed k t heads nexts None → false ≡ chains_good t
      unfolding nexts_good named
      nexts_fail (all g p) (wrong n) = sym (nexts_bad n)
      nexts_fail (all g p) (twice y o b n) =
          let none = clear k long y in
          let c = p.adds y o b in
          let two : 2 ≤ named t y = omega arith in sym (names_bad y o b two)

      pub chains_answer :
          {m x : ℕ} → m ≡ m_of t → HeadsNamed k t (replicate long 0) heads (Some h) → NextsNamed k t heads nexts (Some x) →
          eqb (h + x) m ≡ chains_good t
      unfolding heads_good nexts_good
      chains_answer e (all g p) (all n q) = rw e (names_right p q ∙ all_good g n)
