-- Laws of reading: feeding a and then b is feeding a ++ b, and what each step leaves in a reading and its words. Assumes nothing.
use mathlib.Core.Path.{◌≡◌, refl, sym, ◌∙◌, ap}
use mathlib.Core.Bool.{true, false, ◌&&◌}
use mathlib.Core.List.{List, [], ◌∷◌, ◌++◌}
use mathlib.Core.Logic.{inl, inr}
use Prim.Native.Nat.{ℕ, suc, ◌+◌, ◌*◌, ◌-◌, ◌≤◌, ◌<◌}
use native.Mathlib.Omega.{arith}
use native.Mathlib.Numerals.{add-one}
use lib.Dec.{ltb, leb}
use lib.ListN.{length, get_or, take, drop, set, length-append, length-set, take-append-drop}
use lib.Seq.{take-suc, take-suc-set, length-take-le, set_split, drop-drop, drop-append-add, append_snoc}
use Rattle.basics.proofs.Booleans.{either, clash, and_make, and_false_r, lt_ltb, ge_ltb, le_leb, gt_leb}
use Rattle.basics.specs.Words.{word_bits, largest_word}
use Rattle.decimal.specs.Lines.{digit_zero}
use Rattle.decimal.specs.Reading.{Bounds, is_blank, is_digit, Scan, between, under_way, fault, ended, longer, with_byte, scan, bounds_of, state_of, value_of, is_within, is_failed, reading_of, stored, scan_of, Ready, Became, Fed, Reads}
use Rattle.decimal.specs.declared.reading.Reading.{Reading}
use Rattle.decimal.specs.declared.reading.State.{State}
use Rattle.decimal.specs.declared.reading.State.TheVariants.{Between, Within, Failed}

-- SCANNING, whatever is taken
module _ (b : Bounds) where
  -- feeding a and then c is feeding a ++ c
  pub scan_append : (s : Scan) (a c : List ℕ) → scan b s (a ++ c) ≡ scan b (scan b s a) c
  unfolding scan
  scan_append s [] c = refl
  scan_append s (x ∷ a) c = scan_append (with_byte b s x) a c

  -- one more byte of a chunk
  pub scan_more :
      (s : Scan) (a : List ℕ) (i : ℕ) → i < length a → scan b s (take (i + 1) a) ≡ with_byte b (scan b s (take i a)) (get_or a i 0)
  unfolding scan
  scan_more s a i l = rw (add-one, take-suc a i 0) (scan_append s (take i a) (get_or a i 0 ∷ []))

  -- a byte by its kind
  pub with_nothing : (s : Scan) (c : ℕ) → s.failed ≡ true → with_byte b s c ≡ s
  unfolding with_byte
  with_nothing s c e = cc

  pub with_blank : (s : Scan) (c : ℕ) → s.failed ≡ false → is_blank c ≡ true → with_byte b s c ≡ ended s
  unfolding with_byte
  with_blank s c e f = cc

  pub with_digit :
      (s : Scan) (c : ℕ) → s.failed ≡ false → is_blank c ≡ false → is_digit c ≡ true → with_byte b s c ≡ longer b s (c - digit_zero)
  unfolding with_byte
  with_digit s c e f g = cc

  pub with_other :
      (s : Scan) (c : ℕ) → s.failed ≡ false → is_blank c ≡ false → is_digit c ≡ false → with_byte b s c ≡ fault s.numbers
  unfolding with_byte
  with_other s c e f g = cc

-- no byte takes a number away
ended_more : (s : Scan) → length s.numbers ≤ length (ended s).numbers
unfolding ended between
ended_more s =
    elim (either s.within) [
      | inl e ↦ rw e (simp length-append (omega arith))
      | inr e ↦ rw e (omega arith)
    ]

other_same : (s : Scan) → length s.numbers ≤ length (fault s.numbers).numbers
unfolding fault
other_same s = omega arith

module _ (b : Bounds) where
  longer_same : (s : Scan) (d : ℕ) → (longer b s d).numbers ≡ s.numbers
  unfolding longer under_way fault
  longer_same s d =
      elim (either (ltb (length s.numbers) b.most && leb (10 * s.value + d) b.largest)) [ inl e ↦ rw e | inr e ↦ rw e ]

  more_numbers : (s : Scan) (c : ℕ) → length s.numbers ≤ length (with_byte b s c).numbers
  more_numbers s c =
      elim (either s.failed) [
        | inl e ↦ rw (with_nothing b s c e) (omega arith)
        | inr e ↦
            elim (either (is_blank c)) [
              | inl f ↦ rw (with_blank b s c e f) (ended_more s)
              | inr f ↦
                  elim (either (is_digit c)) [
                    | inl g ↦ rw (with_digit b s c e f g, longer_same s (c - digit_zero)) (omega arith)
                    | inr g ↦ rw (with_other b s c e f g) (other_same s)
                  ]
            ]
      ]

-- WHAT A READING AND ITS WORDS HOLD
-- a reading counts the numbers that it holds
pub counts : {r : Reading} {w : List ℕ} → Ready r w → length (take r.count w) ≡ r.count
counts {r} {w} a = length-take-le r.count w (omega arith)

-- a state is that of what it says
state_back : (x : State) (xs : List ℕ) → state_of (record { numbers = xs; value = value_of x; within = is_within x; failed = is_failed x }) ≡ x
state_back Between xs = refl
state_back (Within v) xs = refl
state_back Failed xs = refl

-- before the first byte
pub ready_start : {r : Reading} (w : List ℕ) → r ≡ reading_of (between []) → Ready r w
unfolding reading_of between
ready_start w e = rw e (record { counted = omega arith; placed = λ q. absurd (clash q refl) })

-- no word is written, and the number under way has one
pub unchanged : {r : Reading} {w : List ℕ} → Ready r w → Became (scan_of r w) w r w
unfolding scan_of reading_of stored
unchanged {r} {w} a =
    record {
      reading = rw (counts a, state_back r.state (take r.count w));
      holds = refl;
      words = rw (counts a) (sym (take-append-drop r.count w));
      same = refl;
      ready = a;
    }

-- EACH WAY OF `ended`
pub none_under_way : (x : State) → ((v : ℕ) → x ≡ Within v → ⊥) → is_within x ≡ false
none_under_way Between n = refl
none_under_way (Within v) n = absurd (n v refl)
none_under_way Failed n = refl

ended_between : (s : Scan) → s.within ≡ false → ended s ≡ s
unfolding ended
ended_between s e = cc

pub ended_none : {r : Reading} {w : List ℕ} → Ready r w → is_within r.state ≡ false → Became (ended (scan_of r w)) w r w
unfolding scan_of
ended_none {r} {w} a e = rw (ended_between (scan_of r w) e) (unchanged a)

-- one number more
pub one_stored :
    {r : Reading} {w : List ℕ} (v : ℕ) → Ready r w → r.state ≡ Within v →
    Became (ended (scan_of r w)) w (record { count = r.count + 1; state = Between }) (set w r.count v)
unfolding scan_of reading_of stored ended between
one_stored {r} {w} v a e =
    let l = a.placed (ap is_within e) in
    let n : length (take r.count w ++ (v ∷ [])) ≡ suc r.count =
    length-append (take r.count w) (v ∷ []) ∙ (rw (counts a) (add-one r.count)) in
    let k = length-set w r.count v in
    rw e
    (record {
      reading = rw (n, add-one);
      holds = rw (add-one, take-suc-set w r.count v) refl;
      words = rw n (set_split w r.count v (omega arith) ∙ sym (append_snoc (take r.count w) v (drop (suc r.count) w)));
      same = k;
      ready = record { counted = rw k (omega arith); placed = λ q. absurd (clash q refl) };
    })

-- EACH WAY OF `with_byte`
pub not_failed : (x : State) → (x ≡ Failed → ⊥) → is_failed x ≡ false
not_failed Between n = refl
not_failed (Within v) n = refl
not_failed Failed n = absurd (n refl)

-- a fault
failed : {r : Reading} {w : List ℕ} → Ready r w → Became (fault (take r.count w)) w (record { count = r.count; state = Failed }) w
unfolding scan_of fault
failed a = unchanged (record { counted = a.counted; placed = λ q. absurd (clash q refl) })

-- one digit more
digit :
    (r : Reading) {w : List ℕ} (v : ℕ) → r.count < length w →
    Became (under_way (take r.count w) v) w (record { count = r.count; state = Within v }) w
unfolding scan_of under_way
digit r v l = unchanged (record { counted = omega arith; placed = λ q. l })

module _ {r : Reading} {w : List ℕ} (a : Ready r w) (c : ℕ) where
  pub byte_nothing : r.state ≡ Failed → Became (with_byte (bounds_of w) (scan_of r w) c) w r w
  unfolding scan_of
  byte_nothing e = rw (with_nothing (bounds_of w) (scan_of r w) c (ap is_failed e)) (unchanged a)

  module _ (e : r.state ≡ Failed → ⊥) where
    pub byte_blank :
        {r' : Reading} {w' : List ℕ} → is_blank c ≡ true → Became (ended (scan_of r w)) w r' w' →
        Became (with_byte (bounds_of w) (scan_of r w) c) w r' w'
    unfolding scan_of
    byte_blank f p = rw (with_blank (bounds_of w) (scan_of r w) c (not_failed r.state e) f) p

    module _ (f : is_blank c ≡ false) where
      pub byte_other : is_digit c ≡ false → Became (with_byte (bounds_of w) (scan_of r w) c) w (record { count = r.count; state = Failed }) w
      unfolding scan_of
      byte_other g = rw (with_other (bounds_of w) (scan_of r w) c (not_failed r.state e) f g) (failed a)

      module _ (g : is_digit c ≡ true) where
        pub byte_many : length w ≤ r.count → Became (with_byte (bounds_of w) (scan_of r w) c) w (record { count = r.count; state = Failed }) w
        unfolding scan_of longer bounds_of
        byte_many l =
            let n = counts a in
            let j : length w ≤ length (take r.count w) = omega arith in
            let t : ltb (length (take r.count w)) (length w) ≡ false = ge_ltb j in
            rw (with_digit (bounds_of w) (scan_of r w) c (not_failed r.state e) f g, t) (failed a)

        pub byte_large :
            largest_word word_bits < 10 * value_of r.state + (c - digit_zero) →
            Became (with_byte (bounds_of w) (scan_of r w) c) w (record { count = r.count; state = Failed }) w
        unfolding scan_of longer bounds_of
        byte_large l =
            let t = and_false_r (ltb (length (take r.count w)) (length w)) (gt_leb l) in
            rw (with_digit (bounds_of w) (scan_of r w) c (not_failed r.state e) f g, t) (failed a)

        pub byte_digit :
            {v : ℕ} → r.count < length w → v ≡ 10 * value_of r.state + (c - digit_zero) → v ≤ largest_word word_bits →
            Became (with_byte (bounds_of w) (scan_of r w) c) w (record { count = r.count; state = Within v }) w
        unfolding scan_of longer bounds_of
        byte_digit {v} l m k =
            let n = counts a in
            let i : length (take r.count w) < length w = omega arith in
            let j : 10 * value_of r.state + (c - digit_zero) ≤ largest_word word_bits = omega arith in
            let t = and_make (lt_ltb i) (le_leb j) in
            rw (with_digit (bounds_of w) (scan_of r w) c (not_failed r.state e) f g, t, ← m) (digit r v l)

-- ONE STEP AFTER ANOTHER
-- as many words take the same
bounds_same : (w w' : List ℕ) → length w' ≡ length w → bounds_of w' ≡ bounds_of w
unfolding bounds_of
bounds_same w w' e = rw e

-- numbers stored over fewer of them
drop_over : (xs : List ℕ) (w : List ℕ) (k : ℕ) → length xs ≤ k → length xs ≤ length w → drop k (xs ++ drop (length xs) w) ≡ drop k w
drop_over xs w k l m =
    let e : length xs + (k - length xs) ≡ k = omega arith in
    let p = drop-append-add xs (drop (length xs) w) (k - length xs) in
    let q = drop-drop (k - length xs) (length xs) w in
    rw e at (p ∙ q)

stored_over :
    (s s' : Scan) (w : List ℕ) → length s.numbers ≤ length w → length s.numbers ≤ length s'.numbers →
    stored s' (stored s w) ≡ stored s' w
unfolding stored
stored_over s s' w l m = rw (drop_over s.numbers w (length s'.numbers) m l)

then_step :
    {s s' : Scan} {w : List ℕ} {r r' : Reading} {w' w'' : List ℕ} →
    length s.numbers ≤ length s'.numbers → Became s w r w' → Became s' w' r' w'' → Became s' w r' w''
unfolding reading_of
then_step {s} {s'} {w} {r} m p q =
    let n : r.count ≡ length s.numbers = ap (λ (x : Reading). x.count) p.reading in
    let c = p.ready.counted in
    let e = p.same in
    record {
      reading = q.reading;
      holds = q.holds;
      words = q.words ∙ (rw p.words (stored_over s s' w (omega arith) m));
      same = q.same ∙ e;
      ready = q.ready;
    }

then_byte :
    {s : Scan} {w : List ℕ} {r r' : Reading} {w' w'' : List ℕ} (c : ℕ) → Became s w r w' →
    Became (with_byte (bounds_of w') (scan_of r w') c) w' r' w'' → Became (with_byte (bounds_of w) s c) w r' w''
then_byte {s} {w} {w' = w'} c p q =
    then_step (more_numbers (bounds_of w) s c) p (rw (p.holds, bounds_same w w' p.same) at q)

-- one more byte of a chunk is fed
pub fed_more :
    (r : Reading) (chunk : List ℕ) (i : ℕ) {r' r'' : Reading} {w w' w'' : List ℕ} → i < length chunk → Fed r w (take i chunk) r' w' →
    Became (with_byte (bounds_of w') (scan_of r' w') (get_or chunk i 0)) w' r'' w'' → Fed r w (take (i + 1) chunk) r'' w''
fed_more r chunk i {w = w} l p q =
    rw (scan_more (bounds_of w) (scan_of r w) chunk i l) (then_byte (get_or chunk i 0) p q)

-- A READING OF ALL THAT WAS FED: before the first byte of nothing, and then of one chunk more
pub reads_none : {r : Reading} (w : List ℕ) → r ≡ reading_of (between []) → Reads [] r w
unfolding reading_of between scan scan_of
reads_none w e = record { scanned = rw e }

pub reads_more :
    {input : List ℕ} (chunk : List ℕ) {r r' : Reading} {w w' : List ℕ} → Reads input r w → Fed r w chunk r' w' →
    Reads (input ++ chunk) r' w'
reads_more {input} chunk {w = w} {w' = w'} p q =
    let e = rw p.scanned at q.holds in
    record { scanned = rw (bounds_same w w' q.same) (e ∙ sym (scan_append (bounds_of w) (between []) input chunk)) }
