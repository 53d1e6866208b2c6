-- What a store in one block of the work words changes, and that it changes nothing else. Assumes nothing.
use mathlib.Core.Path.{◌≡◌, refl, ◌∙◌}
use mathlib.Core.List.{List}
use Prim.Native.Nat.{ℕ, ◌+◌, ◌*◌, ◌-◌, ◌/◌, ◌%◌, ◌^◌, ◌≤◌, ◌<◌}
use native.Mathlib.Omega.{arith}
use native.Mathlib.Nat.{mod-lt, mod-eq_of_lt}
use lib.ListN.{length, get_or, set, length-set}
use lib.Seq.{get_or-set_same, get_or-set_other}
use Rattle.basics.specs.Packed.{digit, packed, raised}
use Rattle.basics.proofs.Packed.{pow_pow, digit_fits, packed_raised, packed_others, raised_length, raised_beyond}
use Rattle.lasso_search.specs.Search.{colour, stacked, cursor, waiting, risen, entered, advanced, reddened}
use Rattle.lasso_search.specs.Steps.{TurnAsks}
use Rattle.lasso_search.specs.Width.{Width, white, grey, black, red, colour_bits, colours, word_colours, WidthFits}
use Rattle.lasso_search.proofs.Width.{word_filled, colour_word}

-- A COLOUR, as it is read and stored
pub colour_read :
    (wd : Width) (w : List ℕ) (x : ℕ) →
    get_or w (x / word_colours wd) 0 / 2 ^ (colour_bits * (x % word_colours wd)) % colours ≡ colour wd w x
unfolding colour packed digit
colour_read wd w x = rw (pow_pow 2 colour_bits (x % word_colours wd)) refl

module _ {wd : Width} (fits : WidthFits wd) {w : List ℕ} {x from to : ℕ} (a : TurnAsks wd w x from to)
    (word : get_or w (x / word_colours wd) 0 < 2 ^ wd.work_bits) where
  sum_fits : get_or w (x / word_colours wd) 0 + (to - from) * colours ^ (x % word_colours wd) < 2 ^ wd.work_bits
  unfolding colour packed
  sum_fits =
      let is_from = a.is_from in
      let rises = a.rises in
      let to_red = a.to_red in
      let filled = word_filled fits in
      rw (← filled)
      (digit_fits colours (omega arith) (to - from) (word_colours wd) (get_or w (x / word_colours wd) 0) (x % word_colours wd)
      (rw (← filled) at word) (mod-lt x fits.some) (omega arith))

  shifted : (to - from) * 2 ^ (colour_bits * (x % word_colours wd)) % 2 ^ wd.work_bits ≡ (to - from) * colours ^ (x % word_colours wd)
  shifted =
      let small : (to - from) * colours ^ (x % word_colours wd) < 2 ^ wd.work_bits = (let k = sum_fits in omega arith) in
      rw (← pow_pow 2 colour_bits (x % word_colours wd)) (mod-eq_of_lt small)

  pub turn_fits :
      get_or w (x / word_colours wd) 0 + (to - from) * 2 ^ (colour_bits * (x % word_colours wd)) % 2 ^ wd.work_bits < 2 ^ wd.work_bits
  turn_fits = rw shifted sum_fits

  pub turn_is :
      set w (x / word_colours wd)
      (get_or w (x / word_colours wd) 0 + (to - from) * 2 ^ (colour_bits * (x % word_colours wd)) % 2 ^ wd.work_bits)
      ≡ risen wd w x (to - from)
  unfolding risen raised
  turn_is = rw shifted refl

-- the colour of one node rises
pub record Recolours (wd : Width) (n : ℕ) (w w' : List ℕ) (x c : ℕ) : Type 0 where
  pub size : length w' ≡ length w
  pub here : colour wd w' x ≡ c
  pub others : (y : ℕ) → (y ≡ x → ⊥) → colour wd w' y ≡ colour wd w y
  pub stack : (i : ℕ) → i < n → stacked n w' i ≡ stacked n w i
  pub cursors : (i : ℕ) → i < n → cursor n w' i ≡ cursor n w i
  pub waits : (i : ℕ) → i < n → waiting n w' i ≡ waiting n w i

module _ (wd : Width) (n : ℕ) (w : List ℕ) (x c : ℕ) (long : 4 * n ≤ length w) (l : x < n) where
  -- the words of the colours lie in front of the other blocks
  beyond : (i : ℕ) → n ≤ i → get_or (risen wd w x c) i 0 ≡ get_or w i 0
  unfolding risen
  beyond i f = raised_beyond colours (omega arith) (word_colours wd) w x c i (λ e. let d = colour_word wd l in omega arith)

  pub recolours : {old : ℕ} → colour wd w x ≡ old → old + c ≤ red → Recolours wd n w (risen wd w x c) x (old + c)
  unfolding colour stacked cursor waiting risen
  recolours {old} is fits =
      let k = word_colours wd in
      let inside : x / k < length w = colour_word wd (omega arith) in
      let within : packed colours k w x + c < colours = omega arith in
      record {
        size = raised_length colours (omega arith) k w x c;
        here = packed_raised colours (omega arith) k w x c inside within ∙ rw is refl;
        others = packed_others colours (omega arith) k w x c inside within;
        stack = λ i b. beyond (n + i) (omega arith);
        cursors = λ i b. beyond (2 * n + i) (omega arith);
        waits = λ i b. beyond (3 * n + i) (omega arith);
      }

-- a word behind those of the colours is stored
store_colours : (wd : Width) (w : List ℕ) (i r x : ℕ) → x < i → colour wd (set w i r) x ≡ colour wd w x
unfolding colour packed
store_colours wd w i r x l =
    let d = colour_word wd l in
    rw (get_or-set_other w i (x / word_colours wd) r 0 (λ e. omega arith)) refl

-- a white node turns grey and goes on the stack
pub record Enters (wd : Width) (n : ℕ) (w w' : List ℕ) (x first depth : ℕ) : Type 0 where
  pub size : length w' ≡ length w
  pub here : colour wd w' x ≡ grey
  pub others : (y : ℕ) → y < n → (y ≡ x → ⊥) → colour wd w' y ≡ colour wd w y
  pub top : stacked n w' depth ≡ x
  pub below : (i : ℕ) → i < depth → stacked n w' i ≡ stacked n w i
  pub at_first : cursor n w' depth ≡ first
  pub cursors : (i : ℕ) → i < depth → cursor n w' i ≡ cursor n w i

module _ (wd : Width) (n : ℕ) (w : List ℕ) (x r d : ℕ) (long : 4 * n ≤ length w) (l : x < n) (m : d < n)
    (is_white : colour wd w x ≡ white) where
  pub enters : Enters wd n w (entered wd n w x r d) x r d
  unfolding stacked cursor entered
  enters =
      let w1 = risen wd w x (grey - white) in
      let w2 = set w1 (n + d) x in
      let turned = recolours wd n w x (grey - white) long l is_white (omega arith) in
      let e1 = turned.size in
      let e2 : length w2 ≡ length w1 = length-set w1 (n + d) x in
      record {
        size = length-set w2 (2 * n + d) r ∙ e2 ∙ e1;
        here =
            store_colours wd w2 (2 * n + d) r x (omega arith) ∙ store_colours wd w1 (n + d) x x (omega arith)
            ∙ turned.here;
        others =
            λ y b ne.
            store_colours wd w2 (2 * n + d) r y (omega arith) ∙ store_colours wd w1 (n + d) x y (omega arith)
            ∙ turned.others y ne;
        top =
            get_or-set_other w2 (2 * n + d) (n + d) r 0 (λ e. omega arith) ∙ get_or-set_same w1 (n + d) x 0 (omega arith);
        below =
            λ i b.
            get_or-set_other w2 (2 * n + d) (n + i) r 0 (λ e. omega arith)
            ∙ get_or-set_other w1 (n + d) (n + i) x 0 (λ e. omega arith)
            ∙ turned.stack i (omega arith);
        at_first = get_or-set_same w2 (2 * n + d) r 0 (omega arith);
        cursors =
            λ i b.
            get_or-set_other w2 (2 * n + d) (2 * n + i) r 0 (λ e. omega arith)
            ∙ get_or-set_other w1 (n + d) (2 * n + i) x 0 (λ e. omega arith)
            ∙ turned.cursors i (omega arith);
      }

-- the cursor of a place moves on
pub record Advances (wd : Width) (n : ℕ) (w w' : List ℕ) (i r : ℕ) : Type 0 where
  pub size : length w' ≡ length w
  pub colours : (y : ℕ) → y < n → colour wd w' y ≡ colour wd w y
  pub stack : (j : ℕ) → j < n → stacked n w' j ≡ stacked n w j
  pub here : cursor n w' i ≡ r
  pub others : (j : ℕ) → (j ≡ i → ⊥) → cursor n w' j ≡ cursor n w j

pub advances : (wd : Width) (n : ℕ) (w : List ℕ) (i r : ℕ) → 4 * n ≤ length w → i < n → Advances wd n w (advanced n w i r) i r
unfolding stacked cursor advanced
advances wd n w i r long l =
    record {
      size = length-set w (2 * n + i) r;
      colours = λ y b. store_colours wd w (2 * n + i) r y (omega arith);
      stack = λ j b. get_or-set_other w (2 * n + i) (n + j) r 0 (λ e. omega arith);
      here = get_or-set_same w (2 * n + i) r 0 (omega arith);
      others = λ j ne. get_or-set_other w (2 * n + i) (2 * n + j) r 0 (λ e. ne (omega arith));
    }

-- a black node turns red and waits
pub record Reddens (wd : Width) (n : ℕ) (w w' : List ℕ) (x i : ℕ) : Type 0 where
  pub here : colour wd w' x ≡ red
  pub others : (y : ℕ) → y < n → (y ≡ x → ⊥) → colour wd w' y ≡ colour wd w y
  pub stack : (j : ℕ) → j < n → stacked n w' j ≡ stacked n w j
  pub cursors : (j : ℕ) → j < n → cursor n w' j ≡ cursor n w j
  pub last : waiting n w' i ≡ x
  pub before : (j : ℕ) → j < i → waiting n w' j ≡ waiting n w j

module _ (wd : Width) (n : ℕ) (w : List ℕ) (x i : ℕ) (long : 4 * n ≤ length w) (l : x < n) (m : i < n)
    (is_black : colour wd w x ≡ black) where
  pub reddens : Reddens wd n w (reddened wd n w x i) x i
  unfolding stacked cursor waiting reddened
  reddens =
      let w1 = risen wd w x (red - black) in
      let turned = recolours wd n w x (red - black) long l is_black (omega arith) in
      let e1 = turned.size in
      record {
        here = store_colours wd w1 (3 * n + i) x x (omega arith) ∙ turned.here;
        others = λ y b ne. store_colours wd w1 (3 * n + i) x y (omega arith) ∙ turned.others y ne;
        stack = λ j b. get_or-set_other w1 (3 * n + i) (n + j) x 0 (λ e. omega arith) ∙ turned.stack j b;
        cursors = λ j b. get_or-set_other w1 (3 * n + i) (2 * n + j) x 0 (λ e. omega arith) ∙ turned.cursors j b;
        last = get_or-set_same w1 (3 * n + i) x 0 (omega arith);
        before =
            λ j b. get_or-set_other w1 (3 * n + i) (3 * n + j) x 0 (λ e. omega arith) ∙ turned.waits j (omega arith);
      }
