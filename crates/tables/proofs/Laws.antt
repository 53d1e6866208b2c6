-- Laws of chained tables: what refusals 2 to 9 leave is a valid table, and back; its numbers fit their words; a pattern is a wide table; its meaning is
-- closed; its chains rise, so that the fuel of a walk does not matter. Assumes nothing.
use mathlib.Core.Path.{◌≡◌, refl, sym, ◌∙◌}
use mathlib.Core.Bool.{Bool, true, false, ◌&&◌, ◌||◌, not}
use mathlib.Core.List.{List}
use mathlib.Core.Logic.{◌⊎◌, inl, inr}
use Prim.Native.Nat.{ℕ, zero, suc, ◌-◌, ◌^◌, ◌≤◌, ◌<◌}
use native.Mathlib.Omega.{arith}
use lib.Dec.{ltb, leb, eqb}
use lib.ListN.{length, get_or, get_or-eq_default}
use lib.Pow.{pow_pos}
use Rattle.basics.specs.Bounded.{each}
use Rattle.basics.specs.Buffers.{or_else}
use Rattle.basics.specs.Words.{word_bits}
use Rattle.basics.proofs.Booleans.{clash, and_l, and_r, and_make, or_l, or_r, or_true, true_not, false_not, eqb_eq, eq_eqb, eqb_ne, ne_eqb, ltb_lt, ltb_ge, lt_ltb, ge_ltb, leb_le, le_leb}
use Rattle.basics.proofs.Bounded.{each_all, each_make}
use Rattle.basics.proofs.Refusing.{passed, or_else_none}
use Rattle.basics.proofs.Upward.{from_one}
use Rattle.automata.specs.Automaton.{Closed}
use Rattle.tables.proofs.Places.{WordPlace, states_place, letters_place, records_place, flags_place, head_place, letter_place, target_place, next_place, beyond_place, place_of, letter_at, target_at, next_at}
use Rattle.tables.specs.Table.{most_letters, Limits, Wider, RangeFits, pattern_range, wide_range, table_words, n_of, k_of, m_of, flags_of, head_of, letter_of, target_of, next_of, is_initial, chain_has, edge, meaning, sizes_refusal, flag_good, flags_good, records_good, named, head_good, heads_good, leads_on, nexts_good, chains_good, table_refusal}

-- VALID TABLES: the plain facts behind refusals 2 to 9
pub record Valid (r : Limits) (t : List ℕ) : Type 0 where
  pub states_from : 1 ≤ n_of t
  pub states_to : n_of t ≤ r.states
  pub letters_from : 1 ≤ k_of t
  pub letters_to : k_of t ≤ most_letters
  pub records_to : m_of t ≤ r.records
  pub whole : length t ≡ table_words (n_of t) (m_of t)
  pub flags : (q : ℕ) → q < n_of t → flags_of t q ≤ 3
  pub letter : (x : ℕ) → 1 ≤ x → x ≤ m_of t → letter_of t x < k_of t
  pub target : (x : ℕ) → 1 ≤ x → x ≤ m_of t → target_of t x < n_of t
  pub head : (q : ℕ) → q < n_of t → head_of t q ≤ m_of t
  pub next : (x : ℕ) → 1 ≤ x → x ≤ m_of t → next_of t x ≤ m_of t
  pub rises : (x : ℕ) → 1 ≤ x → x ≤ m_of t → (next_of t x ≡ 0) ⊎ (x < next_of t x)
  pub once : (x : ℕ) → 1 ≤ x → x ≤ m_of t → named t x ≡ 1

-- what holds of each record, from what holds of each number below m, and back
each_record : (m : ℕ) (f : ℕ → Bool) → each m (λ i. f (suc i)) ≡ true → (x : ℕ) → 1 ≤ x → x ≤ m → f x ≡ true
each_record m f h = from_one m (λ x. f x ≡ true) (each_all m (λ j. f (suc j)) h)

record_each : (m : ℕ) (f : ℕ → Bool) → ((x : ℕ) → 1 ≤ x → x ≤ m → f x ≡ true) → each m (λ i. f (suc i)) ≡ true
record_each m f h = each_make m (λ i. f (suc i)) (λ i l. h (suc i) (omega arith) l)

-- zero or forward
rises_test : (x y : ℕ) → (eqb y 0 || ltb x y) ≡ true → (y ≡ 0) ⊎ (x < y)
rises_test x y h =
    elim (or_true (eqb y 0) (ltb x y) h) [ inl e ↦ inl (eqb_eq y 0 e) | inr e ↦ inr (ltb_lt x y e) ]

test_rises : (x y : ℕ) → (y ≡ 0) ⊎ (x < y) → (eqb y 0 || ltb x y) ≡ true
test_rises x y (inl e) = or_l (ltb x y) (eq_eqb e)
test_rises x y (inr l) = or_r (eqb y 0) (lt_ltb l)

-- the tests of refusals 2 to 6, each passed, and those of 7 to 9
record SizesPassed (r : Limits) (t : List ℕ) : Type 0 where
  two : ltb (length t) 3 ≡ false
  three : (leb 1 (n_of t) && leb (n_of t) r.states) ≡ true
  four : (leb 1 (k_of t) && leb (k_of t) most_letters) ≡ true
  five : ltb r.records (m_of t) ≡ false
  six : eqb (length t) (table_words (n_of t) (m_of t)) ≡ true

record Passed (r : Limits) (t : List ℕ) : Type 0 where
  sizes : SizesPassed r t
  seven : flags_good t ≡ true
  eight : records_good t ≡ true
  nine : chains_good t ≡ true

module _ (r : Limits) (t : List ℕ) where
  sizes_passed : sizes_refusal r t ≡ 0 → SizesPassed r t
  sizes_passed h =
      let a = passed _ 1 _ h in
      let b = passed _ 2 _ a.1 in
      let c = passed _ 3 _ b.1 in
      let d = passed _ 4 _ c.1 in
      let e = passed _ 5 _ d.1 in
      record {
        two = a.0;
        three = false_not _ b.0;
        four = false_not _ c.0;
        five = d.0;
        six = false_not _ e.0;
      }

  -- where none of 2 to 6 is met, the table's words are all there
  pub sizes_whole : sizes_refusal r t ≡ 0 → length t ≡ table_words (n_of t) (m_of t)
  sizes_whole h = eqb_eq (length t) (table_words (n_of t) (m_of t)) (sizes_passed h).six

  split : table_refusal r t ≡ 0 → Passed r t
  unfolding table_refusal
  split h =
      let (sizes, words) = or_else_none (sizes_refusal r t) _ h in
      let f = passed _ 6 _ words in
      let g = passed _ 7 _ f.1 in
      let i = passed _ 8 _ g.1 in
      record {
        sizes = sizes_passed sizes;
        seven = false_not _ f.0;
        eight = false_not _ g.0;
        nine = false_not _ i.0;
      }

  join : Passed r t → table_refusal r t ≡ 0
  unfolding table_refusal or_else
  join p = cc

  pub valid : table_refusal r t ≡ 0 → Valid r t
  unfolding chains_good flags_good records_good heads_good nexts_good
  valid h =
      let p = split h in
      let after = and_r (heads_good t) p.nine in
      let heads : heads_good t ≡ true = and_l (nexts_good t && each (m_of t) (λ i. eqb (named t (suc i)) 1)) p.nine in
      let nexts : nexts_good t ≡ true = and_l (each (m_of t) (λ i. eqb (named t (suc i)) 1)) after in
      let edges = each_record (m_of t) (λ x. ltb (letter_of t x) (k_of t) && ltb (target_of t x) (n_of t)) p.eight in
      let links =
      each_record (m_of t) (λ x. leads_on (m_of t) x (next_of t x)) nexts in
      let names = each_record (m_of t) (λ x. eqb (named t x) 1) (and_r (nexts_good t) after) in
      record {
        states_from = leb_le 1 (n_of t) (and_l (leb (n_of t) r.states) p.sizes.three);
        states_to = leb_le (n_of t) r.states (and_r (leb 1 (n_of t)) p.sizes.three);
        letters_from = leb_le 1 (k_of t) (and_l (leb (k_of t) most_letters) p.sizes.four);
        letters_to = leb_le (k_of t) most_letters (and_r (leb 1 (k_of t)) p.sizes.four);
        records_to = ltb_ge r.records (m_of t) p.sizes.five;
        whole = eqb_eq (length t) (table_words (n_of t) (m_of t)) p.sizes.six;
        flags = λ q l. leb_le (flags_of t q) 3 (each_all (n_of t) (flag_good t) p.seven q l);
        letter = λ x o l. ltb_lt (letter_of t x) (k_of t) (and_l (ltb (target_of t x) (n_of t)) (edges x o l));
        target = λ x o l. ltb_lt (target_of t x) (n_of t) (and_r (ltb (letter_of t x) (k_of t)) (edges x o l));
        head = λ q l. leb_le (head_of t q) (m_of t) (each_all (n_of t) (head_good t) heads q l);
        next = λ x o l. leb_le (next_of t x) (m_of t) (and_l (eqb (next_of t x) 0 || ltb x (next_of t x)) (links x o l));
        rises = λ x o l. rises_test x (next_of t x) (and_r (leb (next_of t x) (m_of t)) (links x o l));
        once = λ x o l. eqb_eq (named t x) 1 (names x o l);
      }

  pub valid_passes : Valid r t → table_refusal r t ≡ 0
  unfolding chains_good flags_good records_good heads_good nexts_good
  valid_passes v =
      join
      (record {
        sizes =
            record {
              two = ge_ltb {m = length t} {n = 3} (omega arith);
              three = and_make (le_leb v.states_from) (le_leb v.states_to);
              four = and_make (le_leb v.letters_from) (le_leb v.letters_to);
              five = ge_ltb v.records_to;
              six = eq_eqb v.whole;
            };
        seven = each_make (n_of t) (flag_good t) (λ q l. le_leb (v.flags q l));
        eight =
            record_each (m_of t) (λ x. ltb (letter_of t x) (k_of t) && ltb (target_of t x) (n_of t))
            (λ x o l. and_make (lt_ltb (v.letter x o l)) (lt_ltb (v.target x o l)));
        nine =
            and_make
            (each_make (n_of t) (head_good t) (λ q l. le_leb (v.head q l)))
            (and_make
            (record_each (m_of t) (λ x. leads_on (m_of t) x (next_of t x))
            (λ x o l. and_make (le_leb (v.next x o l)) (test_rises x (next_of t x) (v.rises x o l))))
            (record_each (m_of t) (λ x. eqb (named t x) 1) (λ x o l. eq_eqb (v.once x o l))));
      })

-- a table in one range is one in every wider range
valid_wider : (r s : Limits) (t : List ℕ) → Wider r s → Valid r t → Valid s t
valid_wider r s t w v =
    let states = w.states in
    let records = w.records in
    record {
      states_from = v.states_from;
      states_to = omega arith;
      letters_from = v.letters_from;
      letters_to = v.letters_to;
      records_to = omega arith;
      whole = v.whole;
      flags = v.flags;
      letter = v.letter;
      target = v.target;
      head = v.head;
      next = v.next;
      rises = v.rises;
      once = v.once;
    }

pub passes_wider : (r s : Limits) (t : List ℕ) → Wider r s → table_refusal r t ≡ 0 → table_refusal s t ≡ 0
passes_wider r s t w h = valid_passes s t (valid_wider r s t w (valid r t h))

-- every valid pattern is a valid wide table
pub wide_patterns : Wider pattern_range wide_range
unfolding pattern_range wide_range
wide_patterns = record { states = omega arith; records = omega arith }

pub pattern_is_wide : (t : List ℕ) → table_refusal pattern_range t ≡ 0 → table_refusal wide_range t ≡ 0
pattern_is_wide t = passes_wider pattern_range wide_range t wide_patterns

-- the numbers of a wide table fit its words
pub wide_fits : RangeFits word_bits wide_range
unfolding wide_range
wide_fits = record { states_fit = omega arith; records_fit = omega arith; letters_fit = omega arith }

-- zero ends a chain, with any fuel
pub chain_ends : (fuel : ℕ) (t : List ℕ) (c q : ℕ) → chain_has fuel t 0 c q ≡ false
unfolding chain_has
chain_ends zero t c q = refl
chain_ends (suc f) t c q = refl

-- what a chain has is this record's edge, or the chain from its next has it
pub chain_cases :
    (f : ℕ) (t : List ℕ) (x c q : ℕ) → chain_has (suc f) t x c q ≡ true →
    (1 ≤ x) × (((letter_of t x ≡ c) × (target_of t x ≡ q)) ⊎ (chain_has f t (next_of t x) c q ≡ true))
unfolding chain_has
chain_cases f t x c q h =
    let this = (eqb (letter_of t x) c && eqb (target_of t x) q) in
    let later = chain_has f t (next_of t x) c q in
    let ne = eqb_ne x 0 (true_not (eqb x 0) (and_l (this || later) h)) in (
      omega arith,
      elim (or_true this later (and_r (not (eqb x 0)) h)) [
        | inl e ↦
            inl (
              eqb_eq (letter_of t x) c (and_l (eqb (target_of t x) q) e),
              eqb_eq (target_of t x) q (and_r (eqb (letter_of t x) c) e),
            )
        | inr e ↦ inr e
      ],
    )

module _ {r : Limits} {t : List ℕ} (v : Valid r t) where
  -- no word is above a limit that the numbers of the range and of the letters keep to
  words_to : {limit : ℕ} → r.states ≤ limit → r.records ≤ limit → most_letters ≤ limit → (i : ℕ) → get_or t i 0 ≤ limit
  unfolding n_of k_of m_of flags_of head_of
  words_to {limit} ls lr lk i = go (place_of (n_of t) (m_of t) i)
    where
      go : WordPlace (n_of t) (m_of t) i → get_or t i 0 ≤ limit
      go (states_place e) = rw e (omega arith)
      go (letters_place e) = rw e (omega arith)
      go (records_place e) = rw e (omega arith)
      go (flags_place q l e) = let h = v.flags q l in rw e (omega arith)
      go (head_place q l e) = let h = v.head q l in rw e (omega arith)
      go (letter_place x l e) = let h = v.letter (suc x) (omega arith) l in rw (e, ← letter_at t x) (omega arith)
      go (target_place x l e) = let h = v.target (suc x) (omega arith) l in rw (e, ← target_at t x) (omega arith)
      go (next_place x l e) = let h = v.next (suc x) (omega arith) l in rw (e, ← next_at t x) (omega arith)
      go (beyond_place past) = let far : length t ≤ i = omega arith in rw (get_or-eq_default t 0 far) (omega arith)

  -- every word fits so many bits, where the numbers of the range do
  pub words_fit : {bits : ℕ} → RangeFits bits r → (i : ℕ) → get_or t i 0 < 2 ^ bits
  words_fit {bits} f i =
      let h = words_to f.states_fit f.records_fit f.letters_fit i in
      let some = pow_pos bits in omega arith

  -- CHAINS. A record is followed by none or by a later one
  pub next_later : (x : ℕ) → 1 ≤ x → x ≤ m_of t → (next_of t x ≡ 0) ⊎ ((x < next_of t x) × (next_of t x ≤ m_of t))
  next_later x o l =
      elim (v.rises x o l) [ inl e ↦ inl e | inr f ↦ inr (f, v.next x o l) ]

  -- fuel above the number of later records is enough, and more changes nothing
  pub chain_fuel :
      (f g x c q : ℕ) → 1 ≤ x → x ≤ m_of t → m_of t - x < f → m_of t - x < g → chain_has f t x c q ≡ chain_has g t x c q
  unfolding chain_has
  chain_fuel zero g x c q o l lf lg = absurd (omega arith)
  chain_fuel (suc f) zero x c q o l lf lg = absurd (omega arith)
  chain_fuel (suc f) (suc g) x c q o l lf lg =
      let later : chain_has f t (next_of t x) c q ≡ chain_has g t (next_of t x) c q =
      elim (next_later x o l) [
        | inl e ↦ rw e (chain_ends f t c q ∙ sym (chain_ends g t c q))
        | inr w ↦ chain_fuel f g (next_of t x) c q (omega arith) w.1 (omega arith) (omega arith)
      ] in
      cc

  -- a chain from a record on: this record, or the chain from its next
  chain_step_by :
      (f x c q : ℕ) → 1 ≤ x → x ≤ m_of t → m_of t - x < f →
      chain_has f t x c q ≡
      ((eqb (letter_of t x) c && eqb (target_of t x) q) || chain_has f t (next_of t x) c q)
  unfolding chain_has
  chain_step_by zero x c q o l lf = absurd (omega arith)
  chain_step_by (suc f) x c q o l lf =
      let this : eqb x 0 ≡ false = ne_eqb x 0 (λ e. omega arith) in
      let later : chain_has f t (next_of t x) c q ≡ chain_has (suc f) t (next_of t x) c q =
      elim (next_later x o l) [
        | inl e ↦ rw e (chain_ends f t c q ∙ sym (chain_ends (suc f) t c q))
        | inr w ↦ chain_fuel f (suc f) (next_of t x) c q (omega arith) w.1 (omega arith) (omega arith)
      ] in
      cc

  pub chain_step :
      (x c q : ℕ) → 1 ≤ x → x ≤ m_of t →
      chain_has (m_of t) t x c q ≡
      ((eqb (letter_of t x) c && eqb (target_of t x) q) || chain_has (m_of t) t (next_of t x) c q)
  chain_step x c q o l = chain_step_by (m_of t) x c q o l (omega arith)

  -- what a chain has is the edge of one of the records
  pub chain_record :
      (f x c q : ℕ) → x ≤ m_of t → chain_has f t x c q ≡ true →
      (y : ℕ) × (1 ≤ y) × (y ≤ m_of t) × (letter_of t y ≡ c) × (target_of t y ≡ q)
  unfolding chain_has
  chain_record zero x c q l h = absurd (clash h refl)
  chain_record (suc f) x c q l h =
      let (o, parts) = chain_cases f t x c q h in
      elim parts [ inl e ↦ (x, o, l, e.0, e.1) | inr e ↦ chain_record f (next_of t x) c q (v.next x o l) e ]

  pub edge_letter : (p c q : ℕ) → p < n_of t → edge t p c q ≡ true → c < k_of t
  unfolding edge
  edge_letter p c q l h =
      let w = chain_record (m_of t) (head_of t p) c q (v.head p l) h in
      let e = w.3 in
      let b = v.letter w.0 w.1 w.2 in omega arith

  pub meaning_closed : Closed (meaning t)
  unfolding meaning
  meaning_closed =
      record {
        initial = λ q h. ltb_lt q (n_of t) (and_l (is_initial t q) h);
        edge =
            λ p c q h.
            let ends = and_l (edge t p c q) h in
            let lp = ltb_lt p (n_of t) (and_l (ltb q (n_of t)) ends) in (
              lp,
              edge_letter p c q lp (and_r (ltb p (n_of t) && ltb q (n_of t)) h),
              ltb_lt q (n_of t) (and_r (ltb p (n_of t)) ends),
            );
      }
