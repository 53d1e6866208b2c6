-- Laws of colours: how many nodes have one, that visited nodes stay visited, and what turning black nodes red changes.
-- Assumes nothing.
use mathlib.Core.Path.{◌≡◌, refl, sym, ◌∙◌}
use mathlib.Core.Bool.{true, false}
use mathlib.Core.List.{List}
use mathlib.Core.Logic.{◌⊎◌, inl, inr}
use Prim.Native.Nat.{ℕ, ◌≤◌, ◌<◌}
use native.Mathlib.Omega.{arith}
use lib.Dec.{eqb}
use Rattle.basics.proofs.Booleans.{clash, eqb_eq, eq_eqb, ne_eqb, same_or}
use Rattle.basics.proofs.Bounded.{count_le, count_mono, count_less}
use Rattle.basics.proofs.Packed.{packed_lt}
use Rattle.lasso_search.specs.Search.{colour, coloured, whites, Grows, Redder}
use Rattle.lasso_search.specs.Width.{Width, white, grey, black, red, colours, word_colours}

-- white, grey, black or red
pub colour_to : (wd : Width) (w : List ℕ) (x : ℕ) → colour wd w x ≤ red
unfolding colour
colour_to wd w x = let k = packed_lt colours (omega arith) (word_colours wd) w x in omega arith

-- HOW MANY have a colour
module _ (wd : Width) (c n : ℕ) (w : List ℕ) where
  pub coloured_le : coloured wd c n w ≤ n
  unfolding coloured
  coloured_le = count_le n _

  -- at least one, where one has it
  pub coloured_one : (x : ℕ) → x < n → colour wd w x ≡ c → 1 ≤ coloured wd c n w
  unfolding coloured
  coloured_one x l e =
      let k = count_less n (λ y. false) (λ y. eqb (colour wd w y) c) (λ y b f. absurd (clash f refl)) x l refl (eq_eqb e) in
      omega arith

  module _ (w' : List ℕ) (kept : (x : ℕ) → x < n → colour wd w' x ≡ c → colour wd w x ≡ c) where
    hits : (x : ℕ) → x < n → eqb (colour wd w' x) c ≡ true → eqb (colour wd w x) c ≡ true
    hits x l e = eq_eqb (kept x l (eqb_eq (colour wd w' x) c e))

    -- no more, where no other node gets it
    pub coloured_mono : coloured wd c n w' ≤ coloured wd c n w
    unfolding coloured
    coloured_mono = count_mono n (λ x. eqb (colour wd w' x) c) (λ x. eqb (colour wd w x) c) hits

    -- and fewer, where one loses it
    pub coloured_less : (x : ℕ) → x < n → colour wd w x ≡ c → (colour wd w' x ≡ c → ⊥) → coloured wd c n w' < coloured wd c n w
    unfolding coloured
    coloured_less x l e ne =
        count_less n (λ x. eqb (colour wd w' x) c) (λ x. eqb (colour wd w x) c) hits x l (ne_eqb (colour wd w' x) c ne) (eq_eqb e)

-- VISITED
pub grows_grows : {wd : Width} {n : ℕ} {w w1 w2 : List ℕ} → Grows wd n w w1 → Grows wd n w1 w2 → Grows wd n w w2
grows_grows p q = record { stays = λ x l o. q.stays x l (p.stays x l o) }

pub grows_same : {wd : Width} {n : ℕ} {w : List ℕ} → Grows wd n w w
grows_same = record { stays = λ x l o. o }

-- then no node turns white
pub grows_whites : {wd : Width} {n : ℕ} {w w' : List ℕ} → Grows wd n w w' → whites wd n w' ≤ whites wd n w
grows_whites {wd} {n} {w} {w'} p =
    coloured_mono wd white n w w'
    (λ x l z. elim (same_or (colour wd w x) white) [ inl e ↦ e | inr ne ↦ absurd (let k = p.stays x l (omega arith) in omega arith) ])

-- TURNING RED
pub redder_same : {wd : Width} {n : ℕ} {w : List ℕ} → Redder wd n w w
redder_same = record { turned = λ x l. inl refl; stack = λ i l. refl; cursors = λ i l. refl }

module _ {wd : Width} {n : ℕ} {w w' : List ℕ} (r : Redder wd n w w') where
  pub stays_red : (x : ℕ) → x < n → colour wd w x ≡ red → colour wd w' x ≡ red
  stays_red x l k = elim (r.turned x l) [ inl s ↦ s ∙ k | inr s ↦ s.1 ]

  pub stays_grey : (x : ℕ) → x < n → colour wd w x ≡ grey → colour wd w' x ≡ grey
  stays_grey x l k = elim (r.turned x l) [ inl s ↦ s ∙ k | inr s ↦ absurd (let j = s.0 in omega arith) ]

  -- no node gets another colour than red
  had_colour : (c : ℕ) → c < red → (x : ℕ) → x < n → colour wd w' x ≡ c → colour wd w x ≡ c
  had_colour c few x l k = elim (r.turned x l) [ inl s ↦ sym s ∙ k | inr s ↦ absurd (let j = s.1 in omega arith) ]

  pub was_white : (x : ℕ) → x < n → colour wd w' x ≡ white → colour wd w x ≡ white
  was_white = had_colour white (omega arith)

  pub was_grey : (x : ℕ) → x < n → colour wd w' x ≡ grey → colour wd w x ≡ grey
  was_grey = had_colour grey (omega arith)

  pub was_black : (x : ℕ) → x < n → colour wd w' x ≡ black → colour wd w x ≡ black
  was_black = had_colour black (omega arith)

  -- and none was less than black that is red now
  had_least : (c : ℕ) → c ≤ black → (x : ℕ) → x < n → c ≤ colour wd w' x → c ≤ colour wd w x
  had_least c few x l o = elim (r.turned x l) [ inl s ↦ omega arith | inr s ↦ (let j = s.0 in omega arith) ]

  pub was_visited : (x : ℕ) → x < n → grey ≤ colour wd w' x → grey ≤ colour wd w x
  was_visited = had_least grey (omega arith)

  pub was_finished : (x : ℕ) → x < n → black ≤ colour wd w' x → black ≤ colour wd w x
  was_finished = had_least black (omega arith)

  pub stays_visited : (x : ℕ) → x < n → grey ≤ colour wd w x → grey ≤ colour wd w' x
  stays_visited x l o = elim (r.turned x l) [ inl s ↦ omega arith | inr s ↦ (let j = s.1 in omega arith) ]

  -- red now: red before, or black
  pub red_or_new : (x : ℕ) → x < n → colour wd w' x ≡ red → (colour wd w x ≡ red) ⊎ (colour wd w x ≡ black)
  red_or_new x l k = elim (r.turned x l) [ inl s ↦ inl (sym s ∙ k) | inr s ↦ inr s.0 ]

pub redder_redder : {wd : Width} {n : ℕ} {w w1 w2 : List ℕ} → Redder wd n w w1 → Redder wd n w1 w2 → Redder wd n w w2
redder_redder p q =
    record {
      turned =
          λ x l.
          elim (q.turned x l) [
            | inl s ↦ elim (p.turned x l) [ inl t ↦ inl (s ∙ t) | inr t ↦ inr (t.0, s ∙ t.1) ]
            | inr s ↦ inr (was_black p x l s.0, s.1)
          ];
      stack = λ i l. q.stack i l ∙ p.stack i l;
      cursors = λ i l. q.cursors i l ∙ p.cursors i l;
    }
